-- Whether 24 bytes keep the layout, told by their form's row and by the value that they hold. Assumes nothing.
use Prim.Native.Nat.{ℕ, zero, suc, ◌+◌, ◌^◌, ◌/◌, ◌≤◌, ◌<◌}
use mathlib.Core.Path.{◌≡◌, refl, sym, ◌∙◌, ap}
use mathlib.Core.List.{List}
use mathlib.Core.Bool.{Bool, true, false, ◌&&◌, and_assoc, and-true}
use native.Mathlib.Omega.{arith}
use lib.ListN.{length}
use lib.Dec.{eqb, leb, ltb}
use lib.Ieee.{Float}
use borrow.Author.Tests.{not-false, eqb-true, eq-eqb, ne_eqb, le-leb, lt-leb, ltb-true, ltb-false}
use Rattle.std.specs.Prelude.{Option, Some, None}
use Rattle.laws.proofs.Tests.{tests, iff, by-test, contrary, and_both}
use Rattle.octets.specs.Bytes.{byte_of, Bytes, be_of, le_of, filled}
use Rattle.octets.proofs.Readers.{be_whole, digits_below}
use Rattle.octets.proofs.Runs.{digits_join, filled_join}
use Rattle.property.specs.Value.{mentions}
use Rattle.property.specs.Layout.{unused, signed, finite, double_at, degrees, only, with_detail, nils, in_units, unmentioned_of}
use Rattle.property.specs.Layout.{nil_of}
use Rattle.property.specs.Layout.{code_of, number_of, length_of, point_of, form_reading, decode_of}
use Rattle.property.specs.Forms.{row_for, keeps, nil_at, unit_at, held_of, right_of, by_table}
use Rattle.property.specs.Limits.{limits_for, fits_of, reading_of}
use Rattle.property.specs.Eight.{is_good, is_broken}
use Rattle.property.specs.declared.Value.{Value}
use Rattle.property.specs.declared.Value.TheVariants.{Unmentioned, Code, Number, Length, Point}
use Rattle.property.proofs.Rows.{form_fits}

-- ---- tests and values
only_only : (a b : Bool) (x : Option Value) → only a (only b x) ≡ only (a && b) x
unfolding only
only_only true b x = refl
only_only false b x = refl

pub good_only : (b : Bool) (v : Value) → is_good (only b (Some v)) ≡ b
unfolding only
good_only true v = refl
good_only false v = refl

good_both : (b : Bool) (d : Option Value) → is_good (only b d) ≡ (b && is_good d)
unfolding only
good_both true d = refl
good_both false d = refl

-- ---- a detail chooses a value
nil_above : (d : ℕ) → 5 < d → with_detail d nils ≡ only (leb 1 d && leb d 5) (Some (nil_at d))
unfolding only
nil_above d h =
    rw (
      ne_eqb d 1 (λ q. omega arith),
      ne_eqb d 2 (λ q. omega arith),
      ne_eqb d 3 (λ q. omega arith),
      ne_eqb d 4 (λ q. omega arith),
      ne_eqb d 5 (λ q. omega arith),
      le-leb 1 d (omega arith),
      lt-leb d 5 h,
    )

nil_chosen : (d : ℕ) → with_detail d nils ≡ only (leb 1 d && leb d 5) (Some (nil_at d))
unfolding only
nil_chosen zero = refl
nil_chosen (suc zero) = refl
nil_chosen (suc (suc zero)) = refl
nil_chosen (suc (suc (suc zero))) = refl
nil_chosen (suc (suc (suc (suc zero)))) = refl
nil_chosen (suc (suc (suc (suc (suc zero))))) = refl
nil_chosen (suc (suc (suc (suc (suc (suc d)))))) = nil_above (suc (suc (suc (suc (suc (suc d)))))) (omega arith)

unit_above : (x : Float) (d : ℕ) → 4 < d → with_detail d (in_units x) ≡ only (leb 1 d && leb d 4) (Some (Length x (unit_at d)))
unfolding only
unit_above x d h =
    rw (
      ne_eqb d 1 (λ q. omega arith),
      ne_eqb d 2 (λ q. omega arith),
      ne_eqb d 3 (λ q. omega arith),
      ne_eqb d 4 (λ q. omega arith),
      le-leb 1 d (omega arith),
      lt-leb d 4 h,
    )

unit_chosen : (x : Float) (d : ℕ) → with_detail d (in_units x) ≡ only (leb 1 d && leb d 4) (Some (Length x (unit_at d)))
unfolding only
unit_chosen x zero = refl
unit_chosen x (suc zero) = refl
unit_chosen x (suc (suc zero)) = refl
unit_chosen x (suc (suc (suc zero))) = refl
unit_chosen x (suc (suc (suc (suc zero)))) = refl
unit_chosen x (suc (suc (suc (suc (suc d))))) = unit_above x (suc (suc (suc (suc (suc d))))) (omega arith)

unused_detail : (d : ℕ) → (leb 0 d && leb d 0) ≡ eqb d 0
unused_detail d = rw (le-leb 0 d (omega arith)) (iff (leb d 0) (eqb d 0) (λ e. omega tests) (λ e. omega tests))

shuffle : (u g z w : Bool) → (u && ((w && z) && g)) ≡ ((u && (g && z)) && w)
shuffle false g z w = refl
shuffle true true true true = refl
shuffle true true true false = refl
shuffle true true false true = refl
shuffle true true false false = refl
shuffle true false true true = refl
shuffle true false true false = refl
shuffle true false false true = refl
shuffle true false false false = refl

and_comm : (a b : Bool) → (a && b) ≡ (b && a)
and_comm true true = refl
and_comm true false = refl
and_comm false true = refl
and_comm false false = refl

join : (u a : Bool) (v : Value) (s : Bool) → s ≡ (u && a) → only u (only a (Some v)) ≡ only s (Some v)
join u a v s e = only_only u a (Some v) ∙ ap (λ (b : Bool). only b (Some v)) (sym e)

join_if : (u a w : Bool) (v : Value) (s : Bool) → s ≡ (u && (a && true)) → only u (only (a && w) (Some v)) ≡ only (s && w) (Some v)
join_if u a w v s e = join u (a && w) v (s && w) (rw (e, and-true a) (and_assoc u a w))

chosen : (u z g : Bool) (x : Option Value) (v : Value) (s : Bool) → x ≡ only g (Some v) → s ≡ (u && (g && z)) → only u (only z x)
    ≡ only s (Some v)
chosen u z g x v s e f = rw (e, only_only z g (Some v)) (join u (z && g) v s (f ∙ ap (λ (b : Bool). u && b) (and_comm g z)))

chosen_if : (u z g w : Bool) (x : Option Value) (v : Value) (s : Bool) → x ≡ only g (Some v) → s ≡ (u && (g && z))
    → only u (only (w && z) x) ≡ only (s && w) (Some v)
chosen_if u z g w x v s e f =
    rw (e, only_only (w && z) g (Some v)) (join u ((w && z) && g) v (s && w) (rw f (sym (shuffle u g z w))))

right_nil : (d : ℕ) → right_of (nil_at d) ≡ true
right_nil d =
    by-test (eqb d 1) (λ e. rw e)
    (λ e. rw e (by-test (eqb d 2) (λ f. rw f)
    (λ f. rw f (by-test (eqb d 3) (λ g. rw g) (λ g. rw g (by-test (eqb d 4) (λ i. rw i) (λ i. rw i)))))))

-- ---- the forms: what the definition of each asks is what its row asks, and the value is right
module _ (p : List ℕ) (h : length p ≡ 24) where
  abbrev u : Bool
  u = unused 2 7 p

  abbrev d : ℕ
  d = byte_of p 1

  abbrev sound : Bool
  sound = keeps (row_for (byte_of p 0)) p && right_of (held_of p)

  abbrev Told : Type 0
  Told = decode_of p ≡ only sound (Some (held_of p))

  -- a row that leaves the detail unused
  plain : (rest : Bool) → (u && ((leb 0 d && leb d 0) && rest)) ≡ (u && (eqb d 0 && rest))
  plain rest = ap (λ (b : Bool). u && (b && rest)) (unused_detail d)

  none_left : filled 0 0 p 24 ≡ true
  unfolding filled
  none_left = rw (le-leb (24 + 0) (length p) (omega (arith, h)))

  form0 : byte_of p 0 ≡ 0 → Told
  unfolding decode_of form_reading unmentioned_of keeps held_of
  form0 e =
      rw (e, eq-eqb (length p) 24 h)
      (join u (eqb d 0 && unused 8 23 p) Unmentioned _ (and-true _ ∙ plain (unused 8 23 p)))

  form1 : byte_of p 0 ≡ 1 → Told
  unfolding decode_of form_reading nil_of keeps held_of
  form1 e =
      rw (e, eq-eqb (length p) 24 h, right_nil d)
      (chosen u (unused 8 23 p) (leb 1 d && leb d 5) (with_detail d nils) (nil_at d) _ (nil_chosen d) (and-true _))

  form2 : byte_of p 0 ≡ 2 → Told
  unfolding decode_of form_reading code_of keeps held_of
  form2 e =
      rw (e, eq-eqb (length p) 24 h)
      (join u (eqb d 0 && unused 10 23 p) (Code (be_of 2 p 8)) _ (and-true _ ∙ plain (unused 10 23 p)))

  form3 : byte_of p 0 ≡ 3 → Told
  unfolding decode_of form_reading number_of keeps held_of
  form3 e =
      rw (e, eq-eqb (length p) 24 h)
      (join u (eqb d 0 && unused 12 23 p) (Number (signed (be_of 4 p 8))) _ (and-true _ ∙ plain (unused 12 23 p)))

  form4 : byte_of p 0 ≡ 4 → Told
  unfolding decode_of form_reading length_of keeps held_of
  form4 e =
      rw (e, eq-eqb (length p) 24 h)
      (chosen_if u (unused 16 23 p) (leb 1 d && leb d 4) (finite (double_at 8 p)) (with_detail d (in_units (double_at 8 p)))
      (Length (double_at 8 p) (unit_at d)) _ (unit_chosen (double_at 8 p) d) refl)

  form5 : byte_of p 0 ≡ 5 → Told
  unfolding decode_of form_reading point_of keeps held_of
  form5 e =
      rw (e, eq-eqb (length p) 24 h)
      (join_if u (eqb d 0) (degrees 90 (double_at 8 p) && degrees 180 (double_at 16 p))
      (Point (record { latitude = double_at 8 p; longitude = double_at 16 p })) _
      (ap (λ (b : Bool). u && ((leb 0 d && leb d 0) && b)) none_left ∙ plain true))

  -- one of the six
  told : byte_of p 0 < 6 → Told
  told l = go (byte_of p 0) refl
    where
      go : (f : ℕ) → byte_of p 0 ≡ f → Told
      go zero e = form0 e
      go (suc zero) e = form1 e
      go (suc (suc zero)) e = form2 e
      go (suc (suc (suc zero))) e = form3 e
      go (suc (suc (suc (suc zero)))) e = form4 e
      go (suc (suc (suc (suc (suc zero))))) e = form5 e
      go (suc (suc (suc (suc (suc (suc f)))))) e = absurd (omega arith)

-- or none
pub no_form : (p : List ℕ) → 6 ≤ byte_of p 0 → decode_of p ≡ None
unfolding decode_of form_reading only
no_form p l =
    rw (
      ne_eqb (byte_of p 0) 0 (λ q. omega arith),
      ne_eqb (byte_of p 0) 1 (λ q. omega arith),
      ne_eqb (byte_of p 0) 2 (λ q. omega arith),
      ne_eqb (byte_of p 0) 3 (λ q. omega arith),
      ne_eqb (byte_of p 0) 4 (λ q. omega arith),
      ne_eqb (byte_of p 0) 5 (λ q. omega arith),
    ) (by-test (eqb (length p) 24 && unused 2 7 p) (λ e. rw e) (λ e. rw e))

-- the table gives the value of the layout, whatever the bytes
pub by_table_lem : (p : List ℕ) → by_table p ≡ decode_of p
unfolding by_table
by_table_lem p =
    by-test (eqb (length p) 24)
    (λ e. rw e (by-test (ltb (byte_of p 0) 6) (λ f. rw f (sym (told p (eqb-true _ _ e) (ltb-true (byte_of p 0) 6 f))))
    (λ f. rw f (unfold only in sym (no_form p (ltb-false (byte_of p 0) 6 f))))))
    (λ e. rw e (unfold only in unfold decode_of in rw e))

-- a reading that is no value
pub not_good : (d : Option Value) → is_good d ≡ false → d ≡ None
not_good (Some v) e = contrary refl e
not_good None e = refl

pub is_good_lem : (d : Option Value) → is_good d ≡ true → is_broken d ≡ false
is_good_lem (Some v) e = refl
is_good_lem None e = sym e

-- ---- what the row and the value tell
module _ (p : List ℕ) (bytes : Bytes p) (h : length p ≡ 24) (l : byte_of p 0 < 6) where
  abbrev Fits : Bool
  Fits = fits_of (limits_for (byte_of p 0)) (le_of 8 p 0) (le_of 8 p 8) (le_of 8 p 16)

  good_is : is_good (decode_of p) ≡ (Fits && right_of (held_of p))
  good_is =
      ap is_good (told p h l) ∙ good_only (keeps (row_for (byte_of p 0)) p && right_of (held_of p)) (held_of p)
      ∙ ap (λ (b : Bool). b && right_of (held_of p)) (sym (form_fits p bytes h (byte_of p 0) l))

  pub sound_yes : Fits ≡ true → right_of (held_of p) ≡ is_good (decode_of p)
  sound_yes e = sym (good_is ∙ rw e)

  pub sound_no : Fits ≡ false → false ≡ is_good (decode_of p)
  sound_no e = sym (good_is ∙ rw e)

-- a value that was read is the one that the bytes hold
only_good : (b : Bool) (v : Value) → is_good (only b (Some v)) ≡ true → Some v ≡ only b (Some v)
unfolding only
only_good true v e = refl
only_good false v e = cc

pub decode_good : (p : List ℕ) → is_good (decode_of p) ≡ true → Some (held_of p) ≡ decode_of p
unfolding by_table
decode_good p e = only_good _ (held_of p) (ap is_good (by_table_lem p) ∙ e) ∙ by_table_lem p

-- the content as numbers of eight bytes holds the value
module _ (p : List ℕ) (bytes : Bytes p) (h : length p ≡ 24) where
  two_of : be_of 8 p 8 / 2 ^ 48 ≡ be_of 2 p 8
  two_of =
      rw (be_whole 8 p 8 (omega (arith, h)), be_whole 2 p 8 (omega (arith, h)), digits_join (byte_of p) 2 6 8)
      (omega (arith, digits_below (byte_of p) bytes 6 10))

  four_of : be_of 8 p 8 / 2 ^ 32 ≡ be_of 4 p 8
  four_of =
      rw (be_whole 8 p 8 (omega (arith, h)), be_whole 4 p 8 (omega (arith, h)), digits_join (byte_of p) 4 4 8)
      (omega (arith, digits_below (byte_of p) bytes 4 12))

  pub held_told : reading_of (byte_of p 0) (byte_of p 1) (be_of 8 p 8) (be_of 8 p 16) ≡ held_of p
  unfolding reading_of held_of
  held_told = rw (two_of, four_of)

module _ (p : List ℕ) (h : length p ≡ 24) where
  -- ---- bytes that are all zero
  zeros_two : filled 0 2 p 0 ≡ true → (eqb (byte_of p 0) 0 ≡ true) × (eqb (byte_of p 1) 0 ≡ true)
  unfolding filled
  zeros_two g =
      let r = and_both (leb (0 + 2) (length p)) (eqb (byte_of p 0) 0 && eqb (byte_of p 1) 0) g in
      and_both (eqb (byte_of p 0) 0) (eqb (byte_of p 1) 0) r.1

  two : eqb (byte_of p 0) 0 ≡ true → eqb (byte_of p 1) 0 ≡ true → filled 0 2 p 0 ≡ true
  unfolding filled
  two x y = rw (le-leb (0 + 2) (length p) (omega (arith, h)), x, y)

  pub blank_told : (filled 0 8 p 0 && filled 0 16 p 8) ≡ true → decode_of p ≡ Some Unmentioned
  unfolding decode_of form_reading unmentioned_of only
  blank_told e =
      let q = and_both (filled 0 8 p 0) (filled 0 16 p 8) e in
      let front = and_both (filled 0 2 p 0) (filled 0 6 p 2) (sym (filled_join 0 2 6 p 0) ∙ q.0) in
      let two = zeros_two front.0 in
      rw (eq-eqb (length p) 24 h, front.1, two.0, two.1, q.1)

  pub silent_told : is_good (decode_of p) ≡ true → mentions (byte_of p 0) ≡ false → (filled 0 8 p 0 && filled 0 16 p 8) ≡ true
  unfolding decode_of form_reading unmentioned_of
  silent_told e s =
      let f : eqb (byte_of p 0) 0 ≡ true = not-false (eqb (byte_of p 0) 0) s in
      let g = and_both (unused 2 7 p) (is_good (only (eqb (byte_of p 1) 0 && unused 8 23 p) (Some Unmentioned)))
      (sym (good_both (unused 2 7 p) _) ∙ rw (eq-eqb (length p) 24 h, f) at e) in
      let k = and_both (eqb (byte_of p 1) 0) (unused 8 23 p)
      (sym (good_only (eqb (byte_of p 1) 0 && unused 8 23 p) Unmentioned) ∙ g.1) in
      rw (filled_join 0 2 6 p 0, two f k.0, g.0, k.1)

  -- bytes that keep the layout and are not blank are a mention
  pub mention_told : is_good (decode_of p) ≡ true → (filled 0 8 p 0 && filled 0 16 p 8) ≡ false
      → (is_good (decode_of p) && mentions (byte_of p 0)) ≡ true
  mention_told e x = by-test (mentions (byte_of p 0)) (λ m. rw (e, m)) (λ m. contrary (silent_told e m) x)
