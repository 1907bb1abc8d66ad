-- The answers to a record, case by case: what the stored record of its key, the corrections and the room decide. Assumes nothing.
use Prim.Native.Nat.{ℕ}
use mathlib.Core.Path.{◌≡◌, refl}
use mathlib.Core.List.{List, []}
use mathlib.Core.Bool.{true, false, cond}
use mathlib.Core.Option.{none, some}
use native.Mathlib.Omega.{arith}
use lib.ListN.{length, get_or}
use lib.Dec.{eqb}
use borrow.Author.Tests.{ne_eqb, eq-eqb, eqb-true, eqb-false}
use Rattle.laws.proofs.Tests.{tests, by-test}
use Rattle.octets.specs.Bytes.{same_bytes}
use Rattle.numbers.specs.Numbers.{lower_correction, same_correction}
use Rattle.numbers.specs.declared.CorrectionNumber.{CorrectionNumber}
use Rattle.slice.specs.Record.{correction_of, key_of}
use Rattle.table.proofs.Records.{record_fits, record_is, records_length}
use Rattle.table.proofs.Search.{found, missed, found_within, missed_within}
use Rattle.table.specs.Rules.{in_order}
use Rattle.table.specs.Arriving.{Arrived, stored_of, filing_tests, filing_of, refused_arrival}
use Rattle.table.specs.Steps.{searched, answer_to}
use Rattle.std.specs.Prelude.{Result, Ok, Err}
use Rattle.table.specs.declared.arrival.Arrival.TheVariants.{Added, Replaced, Superseded, Repeat}

-- ---- corrections: of two that differ one is lower
pub lower_differs : (a b : CorrectionNumber) → lower_correction a b ≡ true → same_correction b a ≡ false
unfolding lower_correction same_correction
lower_differs a b h = omega tests

pub lower_apart : (a b : CorrectionNumber) → lower_correction a b ≡ true → same_correction a b ≡ false
unfolding lower_correction same_correction
lower_apart a b h = omega tests

pub none_lower : (a b : CorrectionNumber) → lower_correction a b ≡ false → lower_correction b a ≡ false → same_correction b a ≡ true
unfolding lower_correction same_correction
none_lower a b h k = omega tests

-- what the answer to the stored record goes by
pub ruleset correcting = (arith, record_fits, record_is, lower_differs, lower_apart, none_lower)

-- ---- to the stored record x of its key
module _ (r x : List ℕ) where
  -- the correction is higher
  pub is_replaced : lower_correction (correction_of x) (correction_of r) ≡ true → answer_to r x ≡ Ok Replaced
  is_replaced h = rw (lower_differs _ _ h, h)

  module _ (n : lower_correction (correction_of x) (correction_of r) ≡ false) where
    -- it is lower
    pub is_superseded : lower_correction (correction_of r) (correction_of x) ≡ true → answer_to r x ≡ Ok Superseded
    is_superseded h = rw (lower_apart _ _ h, n, h)

    -- it is equal
    module _ (m : lower_correction (correction_of r) (correction_of x) ≡ false) where
      equal : same_correction (correction_of r) (correction_of x) ≡ true
      equal = none_lower _ _ n m

      pub is_repeat : same_bytes r x ≡ true → answer_to r x ≡ Ok Repeat
      is_repeat e = rw (equal, e, n, m)

      pub is_17 : same_bytes r x ≡ false → answer_to r x ≡ refused_arrival 17
      is_17 e = rw (equal, e)

-- ---- to the stored records
module _ (room : ℕ) (r : List ℕ) (rs : List (List ℕ)) where
  pub filing_held : (x : List ℕ) → stored_of r rs ≡ some x → filing_of room r rs ≡ answer_to r x
  unfolding filing_of filing_tests
  filing_held x e = rw e

  module _ (e : stored_of r rs ≡ none) where
    pub filing_full : length rs ≡ room → filing_of room r rs ≡ refused_arrival 18
    unfolding filing_of filing_tests
    filing_full f = rw (e, eq-eqb _ _ f)

    pub filing_new : (length rs ≡ room → ⊥) → filing_of room r rs ≡ Ok Added
    unfolding filing_of filing_tests
    filing_new f = rw (e, ne_eqb _ _ f)

-- the answer to a record, by where the search finds its key
abbrev pub filing_by : ℕ → List ℕ → List (List ℕ) → Result ℕ ℕ → Arrived
filing_by room r rs (Ok at) = answer_to r (get_or rs at [])
filing_by room r rs (Err at) = cond (eqb (length rs) room) (refused_arrival 18) (Ok Added)

pub filing_searched : (room : ℕ) (r : List ℕ) (rs : List (List ℕ)) → in_order rs ≡ true
    → filing_of room r rs ≡ filing_by room r rs (searched (key_of r) rs)
filing_searched room r rs up = go (searched (key_of r) rs) refl
  where
    go : (v : Result ℕ ℕ) → v ≡ searched (key_of r) rs → filing_of room r rs ≡ filing_by room r rs v
    go (Ok at) e = filing_held room r rs _ (found r rs at e).stored
    go (Err at) e =
        let n = (missed r rs up at e).stored in
        by-test (eqb (length rs) room)
        (λ f. rw f (filing_full room r rs n (eqb-true _ _ f)))
        (λ f. rw f (filing_new room r rs n (eqb-false _ _ f)))

-- what the filing of a record goes by
pub ruleset filing = (arith, found, missed, found_within, missed_within, records_length, filing_searched)
