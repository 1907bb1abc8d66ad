-- The check of records that stand one behind the other, one record at a time. Assumes nothing.
use Prim.Native.Nat.{ℕ, suc, ◌+◌, ◌-◌, ◌<◌}
use mathlib.Core.Path.{◌≡◌, refl, sym, ap, ◌∙◌}
use mathlib.Core.List.{List}
use native.Mathlib.Omega.{arith}
use lib.ListN.{length, take, drop}
use Rattle.laws.specs.Lists.{pieces}
use Rattle.laws.proofs.Lists.{rest_whole}
use Rattle.laws.proofs.Pieces.{pieces_on}
use Rattle.slice.specs.Check.{Checked, checked_reply, check_record, Review, review_from, review_of}
use Rattle.slice.proofs.Replies.{checked_same}
use Rattle.slice.specs.Check.{sound, refused, failing, all_sound, reviewed, stopped}
use Rattle.slice.specs.Refusing.{told}
use Rattle.slice.specs.declared.check.Failing.{Failing}
use Rattle.slice.specs.declared.refusal.Refusal.{Refusal}
use Rattle.std.specs.Prelude.{Result, Ok, Err}

module _ (size n stride side : ℕ) where
  pub review_start : (l : List ℕ) → review_of stride side (pieces size n l) ≡ review_from stride side 0 (pieces size (n - 0) l)
  unfolding review_of
  review_start l = let e : n - 0 ≡ n = omega arith in rw e

  -- record i at the front of what is left: it is refused, or it is sound
  pub review_here : (i : ℕ) (l : List ℕ) → i < n → (f : ℕ) → check_record stride side (take size l) ≡ refused f
      → review_from stride side i (pieces size (n - i) l) ≡ failing i f
  review_here i l h f e = rw (pieces_on size n i l h, e)

  pub review_on : (i : ℕ) (l : List ℕ) → i < n → check_record stride side (take size l) ≡ sound
      → review_from stride side i (pieces size (n - i) l)
      ≡ review_from stride side (i + 1) (pieces size (n - (i + 1)) (drop size l))
  review_on i l h e = let s : suc i ≡ i + 1 = omega arith in rw (pieces_on size n i l h, e, s)

-- ---- the same as the code takes it: the record is `front`, and its check is told
module _ (size n stride side i : ℕ) (l front : List ℕ) (whole : Review) (in_count : i < n)
    (so_far : whole ≡ review_from stride side i (pieces size (n - i) l)) (here : front ≡ take size l) (c : Checked)
    (told : checked_reply c ≡ checked_reply (check_record stride side front)) where
  checked_here : check_record stride side (take size l) ≡ c
  checked_here = sym (rw here at (checked_same c _ told))

  pub review_stops : (f : ℕ) → c ≡ refused f → failing i f ≡ whole
  review_stops f e = sym (so_far ∙ review_here size n stride side i l in_count f (checked_here ∙ e))

  pub review_past : (behind : List ℕ) → behind ≡ drop size l → c ≡ sound
      → whole ≡ review_from stride side (i + 1) (pieces size (n - (i + 1)) behind)
  review_past behind rest e = so_far ∙ review_on size n stride side i l in_count (checked_here ∙ e) ∙ rw rest

-- ---- the review of one record
abbrev pub alone : Result Unit Failing → Result Unit Refusal
alone (Ok u) = Ok u
alone (Err f) = Err f.refusal

abbrev number_in : Review → ℕ
number_in (Ok _) = 0
number_in (Err f) = f.1

stopped_alone : (c : Checked) (r : Result Unit Failing) → reviewed r ≡ stopped 0 c all_sound → told (alone r) ≡ c
stopped_alone (Ok _) (Ok _) e = refl
stopped_alone (Ok _) (Err f) e = cc
stopped_alone (Err n) (Ok _) e = cc
stopped_alone (Err n) (Err f) e = ap Err (ap number_in e)

-- that of a slice's one record is the check of the record
pub review_one : (stride side : ℕ) (s : List ℕ) (r : Result Unit Failing)
    → reviewed r ≡ review_of stride side (pieces (length s - 16) 1 (take (length s - 16) (drop 16 s)))
    → told (alone r) ≡ check_record stride side (take (length s - 16) (drop 16 s))
unfolding review_of
review_one stride side s r e = rw (rest_whole 16 s) (stopped_alone _ r (rw (rest_whole 16 s, rest_whole 16 s) at e))
