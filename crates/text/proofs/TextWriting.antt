-- Text written into lent bytes, one piece behind the other. Assumes nothing.
use Prim.Native.Nat.{ℕ, zero, suc, ◌+◌, ◌-◌, ◌*◌, ◌/◌, ◌%◌, ◌≤◌, ◌<◌}
use mathlib.Core.Path.{◌≡◌, refl, sym, ap, ◌∙◌}
use mathlib.Core.List.{List, [], ◌∷◌, ◌++◌, map, append_assoc, append-nil}
use mathlib.Core.Bool.{Bool, true, false, cond, true≢false}
use native.Mathlib.Nat.{add-zero}
use native.Mathlib.Omega.{arith}
use lib.ListN.{length, take, drop, get_or, length-append}
use lib.Seq.{take_at, get_or-take, get_or-drop}
use lib.Dec.{ltb}
use borrow.Author.Tests.{lt-ltb, le-ltb, ltb-false}
use Rattle.laws.specs.Lists.{joined}
use Rattle.laws.proofs.Lists.{length-pieces}
use Rattle.laws.proofs.Pieces.{piece_at, joined_append}
use Rattle.octets.specs.Bytes.{byte_of}
use Rattle.octets.proofs.Writing.{pasted_whole}
use Rattle.property.specs.Eight.{properties_of}
use Rattle.slice.specs.Record.{sequence_of, period_of, parts_of}
use Rattle.state.proofs.Pasting.{pasted_on, pasted_none}
use Rattle.text.specs.Listing.{Listing, digits_of, decimal_of, end_of, form_of, line_of, put_of}
use Rattle.text.specs.Wrote.{Wrote}
use Rattle.std.specs.Prelude.{Ok, Err}

-- nothing is written
pub wrote_none : (d : List ℕ) (at : ℕ) → at ≤ length d → Wrote 0 d at [] d at
wrote_none d at h = record {
  bytes = pasted_none d at h;
  next = sym (add-zero at);
  few = omega arith;
}

-- a text behind another
pub then : {j k : ℕ} {d s t a b : List ℕ} {at q r : ℕ} → at + (j + k) ≤ length d → Wrote j d at a s q → Wrote k s q b t r
    → Wrote (j + k) d at (a ++ b) t r
then {j} {k} {d} {s} {t} {a} {b} {at} {q} {r} h x y = record {
  bytes = pasted_on d a b at q x.bytes y.bytes (sym x.next) (omega (arith, x.next, x.few, y.few));
  next = omega (arith, y.next, x.next, length-append a b);
  few = omega (arith, x.few, y.few, length-append a b);
}

-- a text that is short is no longer than that
pub wrote_most : {j k : ℕ} {d s a : List ℕ} {at q : ℕ} → j ≤ k → Wrote j d at a s q → Wrote k d at a s q
wrote_most h x = record { bytes = x.bytes; next = x.next; few = omega (arith, x.few) }

-- written from the front on, it is what the bytes begin with
pub wrote_front : {k : ℕ} {d s a : List ℕ} {q : ℕ} → k ≤ length d → Wrote k d 0 a s q → take q s ≡ a
wrote_front {k} {d} {s} {a} {q} h x =
    let e : q ≡ length a = omega (arith, x.next) in
    rw (x.bytes, pasted_whole d a 0 (omega (arith, x.few))) (take_at a (drop (0 + length a) d) q (sym e))

-- ---- digits
module _ (k n : ℕ) where
  pub digits_none : k ≡ 0 → digits_of k n ≡ []
  digits_none e = rw e

  module _ (some : 1 ≤ k) where
    up : k ≡ suc (k - 1)
    up = omega arith

    pub digits_one : n < 10 → digits_of k n ≡ (48 + n) ∷ []
    digits_one h = ap (λ (j : ℕ). digits_of j n) up ∙ rw (lt-ltb n 10 h)

    pub digits_more : 10 ≤ n → digits_of k n ≡ digits_of (k - 1) (n / 10) ++ ((48 + n % 10) ∷ [])
    digits_more h = ap (λ (j : ℕ). digits_of j n) up ∙ rw (le-ltb n 10 h)

-- ---- a line
-- its pieces with the space behind each
behind_each : (a b e f : List ℕ)
    → (a ++ (32 ∷ [])) ++ (((b ++ (32 ∷ [])) ++ (e ++ (32 ∷ []))) ++ (f ++ (10 ∷ []))) ≡ a
    ++ (32 ∷ b ++ (32 ∷ e ++ (32 ∷ f ++ (10 ∷ []))))
behind_each a b e f =
    let s : List ℕ = 32 ∷ [] in
    append_assoc a s (((b ++ s) ++ (e ++ s)) ++ (f ++ (10 ∷ [])))
    ∙ ap (λ (l : List ℕ). a ++ (32 ∷ l))
    (append_assoc (b ++ s) (e ++ s) (f ++ (10 ∷ [])) ∙ append_assoc b s ((e ++ s) ++ (f ++ (10 ∷ [])))
    ∙ ap (λ (l : List ℕ). b ++ (32 ∷ l)) (append_assoc e s (f ++ (10 ∷ []))))

pub line_pieces : (stride : ℕ) (r : List ℕ)
    → line_of stride r ≡ (decimal_of (sequence_of r).0 ++ (32 ∷ []))
    ++ (((decimal_of (period_of r).begin.0 ++ (32 ∷ [])) ++ (end_of (period_of r).end ++ (32 ∷ [])))
    ++ (map form_of (parts_of stride r) ++ (10 ∷ [])))
unfolding line_of
line_pieces stride r =
    sym (behind_each (decimal_of (sequence_of r).0) (decimal_of (period_of r).begin.0) (end_of (period_of r).end)
    (map form_of (parts_of stride r)))

-- ---- one more
mapped_more : {A B : Type 0} (f : A → B) (l : List A) (i : ℕ) (d : A) → i < length l
    → map f (take (suc i) l) ≡ map f (take i l) ++ (f (get_or l i d) ∷ [])
mapped_more f [] i d h = absurd (omega arith)
mapped_more f (x ∷ xs) zero d h = refl
mapped_more f (x ∷ xs) (suc i) d h = ap (◌∷◌ (f x)) (mapped_more f xs i d (omega arith))

-- the forms of the first i properties, and one more
pub forms_more : (stride : ℕ) (r : List ℕ) (i : ℕ) → 0 < stride → i < 8
    → map form_of (take (i + 1) (parts_of stride r)) ≡ map form_of (take i (parts_of stride r))
    ++ ((48 + byte_of r (32 + i * stride) % 10) ∷ [])
unfolding properties_of
forms_more stride r i s h =
    let e : i + 1 ≡ suc i = omega arith in
    let part = piece_at stride 8 (drop 32 r) [] i h in
    let first : byte_of (get_or (parts_of stride r) i []) 0 ≡ byte_of r (32 + i * stride) =
    ap (λ (l : List ℕ). byte_of l 0) part ∙ get_or-take stride (drop (i * stride) (drop 32 r)) 0 0 s
    ∙ get_or-drop (i * stride) (drop 32 r) 0 0 ∙ get_or-drop 32 r (i * stride + 0) 0
    ∙ ap (λ (n : ℕ). byte_of r (32 + n)) (add-zero (i * stride)) in
    rw e (mapped_more form_of (parts_of stride r) i [] (omega (arith, length-pieces stride 8 (drop 32 r))))
    ∙ ap (λ (n : ℕ). map form_of (take i (parts_of stride r)) ++ ((48 + n % 10) ∷ [])) first

-- the lines of the first i records, and one more
pub lines_more : (f : List ℕ → List ℕ) (rs : List (List ℕ)) (i : ℕ) → i < length rs
    → joined (map f (take (i + 1) rs)) ≡ joined (map f (take i rs)) ++ f (get_or rs i [])
lines_more f rs i h =
    let e : i + 1 ≡ suc i = omega arith in
    rw e (ap joined (mapped_more f rs i [] h))
    ∙ joined_append 0 (map f (take i rs)) (f (get_or rs i []) ∷ [])
    ∙ ap (λ (l : List ℕ). joined (map f (take i rs)) ++ l) (append-nil (f (get_or rs i [])))

-- ---- what was put into a buffer lies within it
within : (b : Bool) (n k m : ℕ) → (b ≡ false → n ≤ m) → cond {A = Listing} b (Err (record { 0 = n })) (Ok n) ≡ Ok k → k ≤ m
within true n k m h e = absurd (true≢false cc)
within false n k m h e = let q : n ≡ k = cc in omega (arith, h refl)

pub put_within : (text buffer : List ℕ) (n : ℕ) → put_of text buffer ≡ Ok n → n ≤ length buffer
unfolding put_of
put_within text buffer n =
    within (ltb (length buffer) (length text)) (length text) n (length buffer) (ltb-false (length buffer) (length text))
