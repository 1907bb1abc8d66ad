-- The check of a table, 1 to 7 (document 01, "Refusal numbers"). Assumes nothing.
use Rattle.std.specs.Prelude.{ℕ, List, [], ◌∷◌, Bool, true, false, not, ◌&&◌, ◌||◌, length, eqb, ltb, Ok, Err}
use Rattle.laws.specs.Lists.{any}
use Rattle.laws.specs.Keyed.{rises}
use Rattle.laws.specs.Orders.{lex_less}
use Rattle.laws.specs.Refusals.{Test, test, refuse}
use Rattle.octets.specs.Bytes.{filled}
use Rattle.slice.specs.Record.{permanent, temporary, record_size, key_of, key_less, same_key}
use Rattle.slice.specs.Check.{Checked, sound, refused, check_record, checking}
use Rattle.table.specs.Header.{lettered, side_of, version_of, count_of, stride_of, room_of, records_of, header}
use Rattle.table.specs.declared.check.Sides.{Sides}
use Rattle.table.specs.declared.check.Sides.TheVariants.{Permanent, Temporary, Both}

-- the sides that a call takes
abbrev pub takes : Sides → ℕ → Bool
takes Permanent side = eqb side permanent
takes Temporary side = eqb side temporary
takes Both side = eqb side permanent || eqb side temporary

-- a record fails 11 to 16 on the table's side
abbrev pub is_refused : Checked → Bool
is_refused (Ok _) = false
is_refused (Err n) = true

unfoldable pub fails : ℕ → ℕ → List ℕ → Bool
fails stride side r = is_refused (check_record stride side r)

-- strictly rising order of kind, then sequence number
unfoldable pub in_order : List (List ℕ) → Bool
in_order rs = rises key_of key_less same_key rs

-- 1 to 7, for the sides that the call takes, over the stride
unfoldable pub table_tests : ℕ → Sides → List ℕ → List Test
table_tests stride sides t =
    test 1 (ltb (length t) 32)
    ∷ test 2 (not (lettered t && takes sides (side_of t)))
    ∷ test 3 (not (eqb (version_of t) 1))
    ∷ test 4 (not (filled 0 8 t 24))
    ∷ test 5 (ltb (room_of (record_size stride) t) (count_of t))
    ∷ test 6 (any (fails stride (side_of t)) (records_of (record_size stride) t))
    ∷ test 7 (not (in_order (records_of (record_size stride) t)))
    ∷ []

unfoldable pub check_table : Sides → List ℕ → Checked
check_table sides t = refuse refused (table_tests (stride_of t) sides t) sound

-- `unfolding ruling` opens every definition that the check computes by
unfoldable pub ruling : Unit {0}
unfolding fails in_order table_tests check_table header key_less same_key lex_less checking
ruling = tt
