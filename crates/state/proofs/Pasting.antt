-- Parts of a state's record, written one behind the other. Assumes nothing.
use Prim.Native.Nat.{ℕ, zero, suc, ◌+◌, ◌-◌, ◌*◌, ◌≤◌, ◌<◌}
use mathlib.Core.Path.{◌≡◌, refl, sym, ap, ◌∙◌}
use mathlib.Core.List.{List, [], ◌∷◌, ◌++◌, append-nil}
use native.Mathlib.Nat.{suc-mul}
use native.Mathlib.Omega.{arith}
use lib.Dec.{eqb}
use lib.Seq.{length-take-le}
use lib.ListN.{length, get_or, take, drop, replicate, length-append, length-drop, drop_of_length-le, take-append-drop}
use Rattle.octets.specs.Writing.{pasted}
use Rattle.octets.proofs.Writing.{pasted_then, pasted_whole}
use Rattle.state.specs.Written.{nil_unknown}
use Rattle.slice.specs.Record.{record_size}
use Rattle.table.specs.Header.{count_of, stride_of, room_of, record_at}
use Rattle.state.specs.Steps.{nothing, said_at, property_by, property_from, run_of, Known}
use Rattle.state.specs.declared.mention.Mark.{Mark}
use Rattle.state.specs.declared.anchor.Start.{Start}
use Rattle.state.proofs.OnePass.{origin_known}
use Rattle.state.proofs.Walks.{size_at}
use Rattle.laws.proofs.Pieces.{piece_within}
use Rattle.laws.proofs.Tests.{pick_ind}

-- one part behind another
pub pasted_on : (d a b : List ℕ) (at k : ℕ) {d₁ d₂ : List ℕ} → d₁ ≡ pasted d at a → d₂ ≡ pasted d₁ k b → at + length a ≡ k
    → k + length b ≤ length d → d₂ ≡ pasted d at (a ++ b)
pasted_on d a b at k e f n h = f ∙ (ap (λ (l : List ℕ). pasted l k b) e ∙ pasted_then d a b at k n h)

-- all of some bytes, written over
pub pasted_all : (d r : List ℕ) → length d ≡ length r → pasted d 0 r ≡ r
pasted_all d r e =
    let past : length d ≤ 0 + length r = omega arith in
    pasted_whole d r 0 (omega arith) ∙ ap (λ (l : List ℕ). r ++ l) (drop_of_length-le d past) ∙ append-nil r

-- nil, unknown
take_zeros : (n m : ℕ) → n ≤ m → take {A = ℕ} n (replicate m 0) ≡ replicate n 0
take_zeros zero m h = refl
take_zeros (suc n) zero h = absurd (omega arith)
take_zeros (suc n) (suc m) h = ap (λ l. 0 ∷ l) (take_zeros n m (omega arith))

pub unknown_cut : (stride : ℕ) → 2 ≤ stride → stride ≤ 32 → take stride (1 ∷ 4 ∷ replicate 30 0) ≡ nil_unknown stride
unknown_cut zero h k = absurd (omega arith)
unknown_cut (suc zero) h k = absurd (omega arith)
unknown_cut (suc (suc n)) h k = let e : suc (suc n) - 2 ≡ n = omega arith in
    rw e (ap (λ l. 1 ∷ 4 ∷ l) (take_zeros n 30 (omega arith)))

-- properties, one behind the other
pub run_pasted : (d : List ℕ) (f : ℕ → List ℕ) (stride n : ℕ) → length (run_of f n) ≡ n * stride → length (f n) ≡ stride
    → 32 + n * stride + stride ≤ length d
    → pasted (pasted d 32 (run_of f n)) (32 + n * stride) (f n) ≡ pasted d 32 (run_of f (n + 1))
run_pasted d f stride n h k room =
    let s : n + 1 ≡ suc n = omega arith in
    rw s (pasted_then d (run_of f n) (f n) 32 (32 + n * stride) (omega arith) (omega arith))

-- the head and then the properties are all of the record
pub whole_pasted : (d a b : List ℕ) → length a ≡ 32 → length d ≡ 32 + length b → pasted (pasted d 0 a) 32 b ≡ a ++ b
whole_pasted d a b h k = pasted_then d a b 0 32 (omega arith) (omega arith)
    ∙ pasted_all d (a ++ b) (omega (arith, length-append a b))

-- ---- lengths
module _ (t : List ℕ) (roomy : count_of t ≤ room_of (record_size (stride_of t)) t) where
  pub said_length : (n : ℕ) → n < 8 → (k : ℕ) → k ≤ count_of t → length (said_at t n k) ≡ stride_of t
  said_length n h zero m = refl
  said_length n h (suc i) m =
      let e = size_at t roomy i m in
      length-take-le (stride_of t) (drop (32 + n * stride_of t) (record_at (record_size (stride_of t)) i t))
      (simp length-drop (omega (arith, e, piece_within (stride_of t) n 8 h)))

pub run_length : (f : ℕ → List ℕ) (stride n : ℕ) → ((i : ℕ) → i < n → length (f i) ≡ stride) → length (run_of f n) ≡ n * stride
run_length f stride zero h = omega arith
run_length f stride (suc n) h =
    length-append (run_of f n) (f n)
    ∙ omega (arith, run_length f stride n (λ i k. h i (omega arith)), h n (omega arith), suc-mul n stride)

pub pasted_none : (d : List ℕ) (at : ℕ) → at ≤ length d → d ≡ pasted d at []
pasted_none d at h =
    let z : at + 0 ≡ at = omega arith in
    sym (pasted_whole d [] at (omega arith) ∙ (ap (λ (n : ℕ). take at d ++ drop n d) z ∙ take-append-drop at d))

pub from_length : (p t : List ℕ) → count_of p ≤ room_of (record_size (stride_of p)) p → count_of t ≤ room_of (record_size (stride_of t)) t
    → (s : Start) (ms : List Mark) (os : List ℕ) → s.place < count_of p → Known (count_of p) (λ q. (get_or ms q nothing).from)
    → Known (count_of t) (λ q. get_or os q 0)
    → (n : ℕ) → n < 8 → length (property_from p t s ms os n) ≡ stride_of p
unfolding property_by
from_length p t room room' s ms os h km ko n k =
    pick_ind {X = List ℕ} (λ l. length l ≡ stride_of p) (eqb (get_or os n 0) 0)
    (λ _. said_length p room n k _ (origin_known (count_of p) s _ _ h (km n k))) (λ _. said_length t room' n k _ (ko n k))
