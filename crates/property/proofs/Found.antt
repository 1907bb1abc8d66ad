-- The check of the eight properties, one property at a time. Assumes nothing.
use Prim.Native.Nat.{ℕ, suc, ◌+◌, ◌*◌, ◌-◌, ◌/◌, ◌≤◌, ◌<◌}
use mathlib.Core.Path.{◌≡◌, refl, sym, ◌∙◌, ap}
use mathlib.Core.List.{List, [], ◌∷◌}
use mathlib.Core.Bool.{Bool, true, false, cond, ◌&&◌}
use mathlib.Core.Logic.{◌⊎◌, inl, inr}
use native.Mathlib.Nat.{zero-add, add-zero, suc-mul, mul-le-mul_right, div-mul-le_self, lt-div-mul-add}
use native.Mathlib.Omega.{arith}
use lib.ListN.{length, take, drop, length-take, length-drop}
use lib.Seq.{take-take, get_or-take, drop-drop}
use lib.Dec.{ltb}
use borrow.Author.Tests.{ltb-true, ltb-false}
use Rattle.std.specs.Prelude.{Some, None, Result, Ok, Err}
use Rattle.laws.specs.Lists.{pieces, any, count, first}
use Rattle.laws.proofs.Pieces.{pieces_on}
use Rattle.laws.proofs.Tests.{and_both, pick_ind}
use Rattle.octets.specs.Bytes.{byte_of}
use Rattle.property.specs.Value.{mentions, is_mention}
use Rattle.property.specs.Layout.{decode_of}
use Rattle.property.specs.Eight.{properties_of, whole_in, value_of, is_broken, is_good, breaks, mentioned, survey_of}
use Rattle.property.specs.declared.Value.{Value}
use Rattle.property.specs.declared.Value.TheVariants.{Unmentioned}
use Rattle.property.specs.declared.FirstBad.{FirstBad}
use Rattle.property.proofs.Forms.{decode_numbers, decode_sized}
use Rattle.property.proofs.Sound.{is_good_lem}

-- the first that breaks the layout is at a place
abbrev pub bad_at : ℕ → Result ℕ FirstBad
bad_at i = Err (record { 0 = i })

-- what is found from property i on, m being mentioned before it
abbrev pub found_from : ℕ → ℕ → List (List ℕ) → Result ℕ FirstBad
found_from i m ps = cond (any breaks ps) (bad_at (i + first breaks ps)) (Ok (m + count mentioned ps))

pub found_start : (stride : ℕ) (bytes : List ℕ) → survey_of stride bytes ≡ found_from 0 0 (pieces stride 8 bytes)
unfolding survey_of properties_of
found_start stride bytes = rw (zero-add (first breaks (pieces stride 8 bytes)), zero-add (count mentioned (pieces stride 8 bytes)))

found_bad : (i m : ℕ) (p : List ℕ) (ps : List (List ℕ)) → breaks p ≡ true → found_from i m (p ∷ ps) ≡ bad_at i
found_bad i m p ps h = rw (h, add-zero)

found_on : (i m : ℕ) (p : List ℕ) (ps : List (List ℕ)) → breaks p ≡ false
    → found_from i m (p ∷ ps) ≡ found_from (i + 1) (m + cond (mentioned p) 1 0) ps
found_on i m p ps h =
    let e : i + suc (first breaks ps) ≡ i + 1 + first breaks ps = omega arith in
    let f : m + (cond (mentioned p) 1 0 + count mentioned ps) ≡ m + cond (mentioned p) 1 0 + count mentioned ps = omega arith in
    rw h (ap (λ (x : Result ℕ FirstBad × Result ℕ FirstBad). cond (any breaks ps) x.0 x.1) (λ k. (bad_at (e k), Ok (f k))))

pub found_end : (i m : ℕ) → found_from i m [] ≡ Ok m
found_end i m = rw add-zero

-- a property is mentioned where its value is a mention
pub mentioned_is : (p : List ℕ) (v : Value) → value_of p ≡ Some v → mentioned p ≡ is_mention v
unfolding mentioned
mentioned_is p v e = ap mentions (sym (get_or-take 24 p 0 0 (omega arith)) ∙ (decode_numbers (take 24 p) v e).0)

-- fewer than 24 bytes break the layout
pub breaks_less : (p : List ℕ) → length p < 24 → breaks p ≡ true
unfolding breaks
breaks_less p h = ap is_broken (decode_sized (take 24 p) (λ e. omega (arith, simp length-take at e)))

-- ---- property i at the front of what is left, m being mentioned before it
module _ (stride i m : ℕ) (l : List ℕ) (h : i < 8) where
  pub turn_bad : breaks (take stride l) ≡ true → found_from i m (pieces stride (8 - i) l) ≡ bad_at i
  turn_bad b = rw (pieces_on stride 8 i l h) (found_bad i m (take stride l) (pieces stride (8 - (i + 1)) (drop stride l)) b)

  -- it is not all there
  pub turn_less_lem : length l < 24 → found_from i m (pieces stride (8 - i) l) ≡ bad_at i
  turn_less_lem s = turn_bad (breaks_less (take stride l) (simp length-take (omega arith)))

  module _ (wide : 24 ≤ stride) where
    -- it breaks the layout
    pub turn_broken : decode_of (take 24 l) ≡ None → found_from i m (pieces stride (8 - i) l) ≡ bad_at i
    unfolding breaks
    turn_broken e = turn_bad (rw (take-take 24 stride l wide, e))

    -- it keeps the layout, and is a mention or is none
    turn_on : (b : Bool) → breaks (take stride l) ≡ false → mentioned (take stride l) ≡ b
        → found_from i m (pieces stride (8 - i) l)
        ≡ found_from (i + 1) (m + cond b 1 0) (pieces stride (8 - (i + 1)) (drop stride l))
    turn_on b good told =
        rw (pieces_on stride 8 i l h) (found_on i m (take stride l) (pieces stride (8 - (i + 1)) (drop stride l)) good
        ∙ ap (λ (x : Bool). found_from (i + 1) (m + cond x 1 0) (pieces stride (8 - (i + 1)) (drop stride l))) told)

    pub turn_mentioned : (is_good (decode_of (take 24 l)) && mentions (byte_of (take 24 l) 0)) ≡ true
        → found_from i m (pieces stride (8 - i) l) ≡ found_from (i + 1) (m + 1) (pieces stride (8 - (i + 1)) (drop stride l))
    unfolding breaks mentioned
    turn_mentioned e =
        let part = take-take 24 stride l wide in
        let q = and_both (is_good (decode_of (take 24 l))) (mentions (byte_of (take 24 l) 0)) e in
        turn_on true (ap (λ (p : List ℕ). is_broken (decode_of p)) part ∙ is_good_lem (decode_of (take 24 l)) q.0)
        (ap mentions (sym (get_or-take 24 (take stride l) 0 0 (omega arith)) ∙ ap (λ (p : List ℕ). byte_of p 0) part) ∙ q.1)

    pub turn_silent : decode_of (take 24 l) ≡ Some Unmentioned
        → found_from i m (pieces stride (8 - i) l) ≡ found_from (i + 1) m (pieces stride (8 - (i + 1)) (drop stride l))
    unfolding breaks
    turn_silent e =
        let value : value_of (take stride l) ≡ Some Unmentioned = ap decode_of (take-take 24 stride l wide) ∙ e in
        turn_on false (ap is_broken value) (mentioned_is (take stride l) Unmentioned value)
        ∙ ap (λ (n : ℕ). found_from (i + 1) n (pieces stride (8 - (i + 1)) (drop stride l))) (add-zero m)

-- ---- how many are all there
one_more_lem : (i stride : ℕ) → (i + 1) * stride ≡ i * stride + stride
one_more_lem i stride = let e : i + 1 ≡ suc i = omega arith in rw e (suc-mul i stride)

module _ (len stride : ℕ) where
  pub whole_most : whole_in len stride ≤ 8
  whole_most =
      pick_ind (λ (w : ℕ). w ≤ 8) (ltb stride 24) (λ _. omega arith) (λ _.
      pick_ind (λ (w : ℕ). w ≤ 8) (ltb len 24) (λ _. omega arith) (λ _.
      pick_ind (λ (w : ℕ). w ≤ 8) (ltb ((len - 24) / stride) 7) (λ h. omega (arith, ltb-true ((len - 24) / stride) 7 h))
      (λ _. omega arith)))

  -- each of them
  abbrev Room : ℕ → Type 0
  Room w = (i : ℕ) → i < w → (24 ≤ stride) × (i * stride + 24 ≤ len)

  up_to_last : 24 ≤ stride → 24 ≤ len → (i : ℕ) → i ≤ (len - 24) / stride → (24 ≤ stride) × (i * stride + 24 ≤ len)
  up_to_last a b i h =
      let m : i * stride ≤ (len - 24) / stride * stride = mul-le-mul_right stride h in
      let n : (len - 24) / stride * stride ≤ len - 24 = div-mul-le_self (len - 24) stride in
      (a, omega arith)

  pub whole_room : Room (whole_in len stride)
  whole_room =
      pick_ind Room (ltb stride 24) (λ _ i l. absurd (omega arith)) (λ a.
      pick_ind Room (ltb len 24) (λ _ i l. absurd (omega arith)) (λ b.
      let wide : 24 ≤ stride = omega (arith, ltb-false stride 24 a) in
      let long : 24 ≤ len = omega (arith, ltb-false len 24 b) in
      pick_ind Room (ltb ((len - 24) / stride) 7)
      (λ h i l. up_to_last wide long i (omega arith))
      (λ h i l. up_to_last wide long i (omega (arith, ltb-false ((len - 24) / stride) 7 h)))))

  -- the next one is not
  abbrev Short : ℕ → Type 0
  Short w = w < 8 → stride ≤ 23 ⊎ len - w * stride ≤ 23

  pub whole_short : Short (whole_in len stride)
  whole_short =
      pick_ind Short (ltb stride 24) (λ a _. inl (omega (arith, ltb-true stride 24 a))) (λ a.
      pick_ind Short (ltb len 24) (λ b _. inr (omega (arith, ltb-true len 24 b))) (λ b.
      pick_ind Short (ltb ((len - 24) / stride) 7)
      (λ h _. inr (let wide : 24 ≤ stride = omega (arith, ltb-false stride 24 a) in
      let m : len - 24 < (len - 24) / stride * stride + stride = lt-div-mul-add (omega arith) in
      let n : ((len - 24) / stride + 1) * stride ≡ (len - 24) / stride * stride + stride = one_more_lem ((len - 24) / stride) stride in
      omega arith))
      (λ _ l. absurd (omega arith))))

-- what is found where the next one is not all there
pub turn_short : (stride m : ℕ) (bytes : List ℕ) → whole_in (length bytes) stride < 8
    → found_from (whole_in (length bytes) stride) m
    (pieces stride (8 - whole_in (length bytes) stride) (drop (whole_in (length bytes) stride * stride) bytes))
    ≡ bad_at (whole_in (length bytes) stride)
turn_short stride m bytes l = go (whole_short (length bytes) stride l)
  where
    go : stride ≤ 23 ⊎ length bytes - whole_in (length bytes) stride * stride ≤ 23
        → found_from (whole_in (length bytes) stride) m
        (pieces stride (8 - whole_in (length bytes) stride) (drop (whole_in (length bytes) stride * stride) bytes))
        ≡ bad_at (whole_in (length bytes) stride)
    go (inl a) =
        turn_bad stride (whole_in (length bytes) stride) m (drop (whole_in (length bytes) stride * stride) bytes) l
        (breaks_less _ (simp length-take (omega arith)))
    go (inr b) =
        turn_less_lem stride (whole_in (length bytes) stride) m (drop (whole_in (length bytes) stride * stride) bytes) l
        (rw (length-drop (whole_in (length bytes) stride * stride) bytes) (omega arith))

-- the next place
pub next_place : (stride i : ℕ) (bytes : List ℕ) → drop stride (drop (i * stride) bytes) ≡ drop ((i + 1) * stride) bytes
next_place stride i bytes =
    let e : i * stride + stride ≡ (i + 1) * stride = sym (one_more_lem i stride) in
    drop-drop stride (i * stride) bytes ∙ ap (λ (k : ℕ). drop k bytes) e

-- ---- what an answer of the check tells
bad : (b : Bool) (d e : FirstBad) (m : ℕ) → cond b (Err d) (Ok m) ≡ Err e → b ≡ true
bad true d e m h = refl
bad false d e m h = cc

sound : (b : Bool) (d : FirstBad) (m n : ℕ) → cond b (Err d) (Ok m) ≡ Ok n → (b ≡ false) × (n ≡ m)
sound true d m n h = (cc, cc)
sound false d m n h = (refl, cc)

pub survey_bad : (stride : ℕ) (bytes : List ℕ) (e : FirstBad) → survey_of stride bytes ≡ Err e
    → any breaks (properties_of stride bytes) ≡ true
unfolding survey_of
survey_bad stride bytes e h = bad _ _ e _ h

pub survey_sound : (stride : ℕ) (bytes : List ℕ) (n : ℕ) → survey_of stride bytes ≡ Ok n
    → (any breaks (properties_of stride bytes) ≡ false) × (n ≡ count mentioned (properties_of stride bytes))
unfolding survey_of
survey_sound stride bytes n h = sound _ _ _ n h
