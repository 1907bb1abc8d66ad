-- The walks over the records of a table: what each finds from record i on. Assumes nothing.
use Prim.Native.Nat.{ℕ, suc, ◌+◌, ◌-◌, ◌≤◌, ◌<◌}
use mathlib.Core.Path.{◌≡◌, refl, sym, ◌∙◌, ap}
use mathlib.Core.List.{List, [], ◌∷◌}
use mathlib.Core.Bool.{Bool, true, false, ◌&&◌, ◌||◌}
use native.Mathlib.Omega.{arith}
use lib.ListN.{length, take, drop}
use lib.Dec.{ltb}
use borrow.Author.Tests.{ltb-true, ltb-false}
use Rattle.laws.specs.Lists.{any, pieces}
use Rattle.laws.proofs.Lists.{rest_whole}
use Rattle.laws.proofs.Tests.{by-test}
use Rattle.slice.specs.Record.{key_of, key_less}
use Rattle.slice.specs.Check.{Checked, check_record, stopped, review_from, review_of, Review, reviewed}
use Rattle.slice.specs.declared.check.Failing.{Failing}
use Rattle.std.specs.Prelude.{Result, Ok, Err}
use Rattle.std.specs.Result.{is_err}
use Rattle.table.specs.Header.{count_of, room_of, records_of, record_at}
use Rattle.table.specs.Rules.{is_refused, fails, in_order}
use Rattle.table.proofs.Records.{rest_at, rest_end}

-- a review stops at a record
abbrev stops : Review → Bool
stops (Ok _) = false
stops (Err f) = true

-- ---- the records from one on rise where it comes before the next and those from there on rise
module _ (size : ℕ) (t : List ℕ) where
  abbrev pub rise_from : ℕ → Bool
  rise_from i = in_order (drop i (records_of size t))

  pub rise_next : (i : ℕ) → 0 < i → i < count_of t → count_of t ≤ room_of size t
      → rise_from (i - 1) ≡ (key_less (key_of (record_at size (i - 1) t)) (key_of (record_at size i t)) && rise_from i)
  unfolding in_order
  rise_next i some h roomy =
      let next : i - 1 + 1 ≡ i = omega arith in
      rw (rest_at size t (i - 1) (omega arith) roomy, next, rest_at size t i h roomy)

  -- the last one rises
  pub rise_last : (k : ℕ) → count_of t ≤ k + 1 → count_of t ≤ room_of size t → rise_from k ≡ true
  unfolding in_order
  rise_last k h roomy =
      by-test (ltb k (count_of t))
      (λ l. rw (rest_at size t k (ltb-true _ _ l) roomy, rest_end size t (k + 1) h))
      (λ l. rw (rest_end size t k (ltb-false _ _ l)))

-- ---- some record fails where the check of one after the other stops
stop_told : (i : ℕ) (c : Checked) (b : Bool) (v : Review) → b ≡ stops v → (is_refused c || b) ≡ stops (stopped i c v)
stop_told i (Ok _) b v e = e
stop_told i (Err f) b v e = refl

review_any : (stride side i : ℕ) (rs : List (List ℕ)) → any (fails stride side) rs ≡ stops (review_from stride side i rs)
unfolding fails
review_any stride side i [] = refl
review_any stride side i (r ∷ rs) = stop_told i (check_record stride side r) _ _ (review_any stride side (suc i) rs)

stops_told : (r : Result Unit Failing) → stops (reviewed r) ≡ is_err r
stops_told (Ok u) = refl
stops_told (Err f) = refl

-- the answer of the check of the records behind a header
pub review_tells : (stride side size count : ℕ) (t : List ℕ) (r : Result Unit Failing) → count ≡ count_of t
    → reviewed r ≡ review_of stride side (pieces size count (take (length t - 32) (drop 32 t)))
    → is_err r ≡ any (fails stride side) (records_of size t)
unfolding review_of records_of
review_tells stride side size count t r n e =
    sym (stops_told r) ∙ ap stops e
    ∙ (λ i. stops (review_of stride side (pieces size (n i) (rest_whole 32 t i))))
    ∙ sym (review_any stride side 0 (records_of size t))
