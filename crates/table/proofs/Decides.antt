-- The answer of each delivery, as a table of the four accepted answers, 17 and 18. Assumes nothing.
use Prim.Native.Nat.{ℕ}
use mathlib.Core.Path.{◌≡◌, refl, sym, ap, ◌∙◌}
use mathlib.Core.List.{List}
use mathlib.Core.Option.{Option, none, some}
use Rattle.laws.specs.Keyed.{In}
use Rattle.laws.proofs.Tests.{tests, never}
use Rattle.laws.proofs.Places.{none_stored}
use Rattle.laws.proofs.Put.{rising_one, stored_in, stored_none_in}
use Rattle.octets.proofs.Runs.{same_bytes_lem, bytes_same}
use Rattle.numbers.specs.Numbers.{lower_correction}
use Rattle.slice.specs.Record.{record_size, key_of, key_less, same_key}
use Rattle.slice.specs.Check.{check_slice, sound}
use Rattle.slice.proofs.Keys.{key_order}
use Rattle.table.specs.Header.{side_of, feature_of, stride_of, room_of, records_of}
use Rattle.table.specs.Rules.{check_table}
use Rattle.table.specs.Arriving.{record_of, stored_of, filing_of, arrival_of}
use Rattle.table.specs.Deliveries.{Decided}
use Rattle.table.specs.declared.check.Sides.TheVariants.{Both}
use Rattle.table.proofs.Sound.{sound_table, slice_passes}
use Rattle.table.proofs.Stays.{Up, order_in}
use Rattle.table.proofs.Answers.{is_replaced, is_superseded, is_repeat, is_17, filing_held, filing_full, filing_new}

module _ (room : ℕ) (r : List ℕ) (rs : List (List ℕ)) (up : Up rs) where
  new : ((x : List ℕ) → In x rs → key_of x ≡ key_of r → ⊥) → stored_of r rs ≡ none
  unfolding stored_of
  new h = none_stored key_of key_less same_key key_order (key_of r) rs h

  held : (x : List ℕ) → In x rs → key_of x ≡ key_of r → stored_of r rs ≡ some x
  unfolding stored_of
  held x m e = go (stored_of r rs) refl
    where
      go : (o : Option (List ℕ)) → stored_of r rs ≡ o → stored_of r rs ≡ some x
      go none p = absurd (stored_none_in key_of key_less same_key key_order (key_of r) rs p x m e)
      go (some y) p =
          let q = stored_in key_of key_less same_key key_order (key_of r) rs y p in
          p ∙ ap some (rising_one key_of key_less same_key key_order rs up y x q.0 m (q.1 ∙ sym e))

  decided : Decided room r rs (filing_of room r rs)
  unfolding lower_correction
  decided = record {
    added = λ h f. filing_new room r rs (new h) f;
    full = λ h f. filing_full room r rs (new h) f;
    replaced = λ x m e c. filing_held room r rs x (held x m e) ∙ is_replaced r x c;
    superseded = λ x m e c. filing_held room r rs x (held x m e) ∙ is_superseded r x (omega tests) c;
    repeated =
        λ x m e c b. filing_held room r rs x (held x m e)
        ∙ is_repeat r x (omega (tests, ap (λ k. k.0) c)) (omega (tests, ap (λ k. k.0) c)) (bytes_same r x b);
    clash =
        λ x m e c b. filing_held room r rs x (held x m e)
        ∙ is_17 r x (omega (tests, ap (λ k. k.0) c)) (omega (tests, ap (λ k. k.0) c)) (never _ (λ s. b (same_bytes_lem r x s)));
  }

-- THE ANSWERS: where a table passes 1 to 7 and a slice 9 to 16, the answer of the arrival is decided as the table above has it
pub answers : (t s : List ℕ) → check_table Both t ≡ sound → check_slice (stride_of t) (feature_of t) (side_of t) s ≡ sound
    → Decided (room_of (record_size (stride_of t)) t) (record_of s) (records_of (record_size (stride_of t)) t) (arrival_of t s)
answers t s e d =
    rw (slice_passes t s e d)
    (decided _ (record_of s) (records_of (record_size (stride_of t)) t) (order_in _ (sound_table Both t e).rising))
