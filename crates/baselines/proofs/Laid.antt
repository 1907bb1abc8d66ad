-- A slice as a record: the record says that slice again. Assumes nothing.
use Prim.Native.Nat.{ℕ, ◌+◌, ◌*◌, ◌%◌, ◌≤◌, ◌<◌}
use mathlib.Core.Path.{◌≡◌, refl, sym, ap, ◌∙◌}
use mathlib.Core.List.{List, [], ◌∷◌, ◌++◌, map, append-nil}
use mathlib.Core.Bool.{Bool, true, false, cond}
use mathlib.Core.Logic.{inl, inr}
use native.Mathlib.Omega.{arith}
use lib.ListN.{length, length-map}
use lib.Dec.{eqb}
use Rattle.laws.specs.Lists.{any, pieces, joined}
use Rattle.laws.specs.Keyed.{In}
use Rattle.laws.proofs.Lists.{map_in, none_any}
use Rattle.laws.proofs.Pieces.{Sized, joined_length, pieces_joined}
use Rattle.octets.specs.Bytes.{byte_of, digits, be_of}
use Rattle.octets.proofs.Readers.{be_whole}
use Rattle.octets.proofs.Stored.{two_back, four_back}
use Rattle.property.specs.Eight.{properties_of, breaks, mentioned}
use Rattle.slice.specs.Record.{record_size, parts_of, Property, says, property_of, Slice, view_of, unmentioned}
use Rattle.history.specs.Derived.{filled_in}
use Rattle.state.specs.Written.{nil_unknown, property_bytes}
use Rattle.baselines.specs.Laid.{part_for, record_for}

-- a property is written as in the state's record, by whatever writes the bytes that one says
pub filled_by : (stride : ℕ) (write : Property → List ℕ) → ((b : List ℕ) → write (says b) ≡ b) → (vs : List Property)
    → map write (map (filled_in (nil_unknown stride)) vs) ≡ map (property_bytes stride) vs
filled_by stride write own [] = refl
filled_by stride write own (unmentioned ∷ vs) = rw (own (nil_unknown stride), filled_by stride write own vs)
filled_by stride write own (says b ∷ vs) = rw (own b, filled_by stride write own vs)

-- a property that says bytes, as many as it has, which are a mention and keep the layout
abbrev pub Said : ℕ → Property → Type 0
Said stride v = (b : List ℕ) × (v ≡ says b) × (length b ≡ stride) × (mentioned b ≡ true) × (breaks b ≡ false)

-- a slice that a record can hold and that mentions every property
pub record Holdable (stride : ℕ) (s : Slice) : Type 0 where
  pub uncancelled : s.cancelled ≡ false
  pub correction : s.correction.0 < 65536
  pub sequence : s.sequence.0 < 4294967296
  pub begin : s.period.begin.0 < 4294967296
  pub end : s.period.end.0 < 4294967296
  pub born : s.life.begin.0 < 4294967296
  pub gone : s.life.end.0 < 4294967296
  pub eight : length s.properties ≡ 8
  pub said : (v : Property) → In v s.properties → Said stride v

module _ (stride : ℕ) where
  part_length : (v : Property) → Said stride v → length (part_for stride v) ≡ stride
  part_length v (b, e, l, m, _) = rw e l

  part_back : (v : Property) → Said stride v → property_of (part_for stride v) ≡ v
  part_back v (b, e, l, m, _) = rw (e, m)

  parts_back : (vs : List Property) → ((v : Property) → In v vs → Said stride v) → map property_of (map (part_for stride) vs) ≡ vs
  parts_back [] h = refl
  parts_back (v ∷ vs) h = rw (part_back v (h v (inl refl)), parts_back vs (λ x m. h x (inr m)))

  parts_sized : (vs : List Property) → ((v : Property) → In v vs → Said stride v) → Sized stride (map (part_for stride) vs)
  parts_sized vs h l m = let (v, n, e) = map_in (part_for stride) vs l m in rw e (part_length v (h v n))

  module _ (s : Slice) (h : Holdable stride s) where
    abbrev parts : List (List ℕ)
    parts = map (part_for stride) s.properties

    parts_eight : length parts ≡ 8
    parts_eight = length-map s.properties (part_for stride) ∙ h.eight

    sized : Sized stride parts
    sized = parts_sized s.properties h.said

    pub laid_length : length (record_for stride s) ≡ record_size stride
    unfolding record_for
    laid_length =
        let l : length (joined parts) ≡ 8 * stride = joined_length stride parts sized ∙ ap (λ (n : ℕ). n * stride) parts_eight in
        omega arith

    pub parts_of_lem : parts_of stride (record_for stride s) ≡ parts
    unfolding record_for properties_of
    parts_of_lem =
        ap (pieces stride 8) (sym (append-nil (joined parts)))
        ∙ ap (λ (n : ℕ). pieces stride n (joined parts ++ [])) (sym parts_eight)
        ∙ pieces_joined stride parts [] sized

    pub parts_whole : any breaks parts ≡ false
    parts_whole = none_any breaks parts (λ l m. let (v, n, e) = map_in (part_for stride) s.properties l m in
        let (b, is, _, _, w) = h.said v n in rw (e, is) w)

    pub view_laid : view_of stride (record_for stride s) ≡ s
    unfolding record_for view_of
    view_laid =
        let whole : (n at : ℕ) → at + n ≤ 32 → be_of n (record_for stride s) at ≡ digits (byte_of (record_for stride s)) n at =
        λ n at k. be_whole n (record_for stride s) at (omega (arith, laid_length)) in
        let correction = whole 2 2 (omega arith) ∙ two_back s.correction.0 h.correction in
        let sequence = whole 4 4 (omega arith) ∙ four_back s.sequence.0 h.sequence in
        let begin = whole 4 8 (omega arith) ∙ four_back s.period.begin.0 h.begin in
        let end = whole 4 12 (omega arith) ∙ four_back s.period.end.0 h.end in
        let born = whole 4 16 (omega arith) ∙ four_back s.life.begin.0 h.born in
        let gone = whole 4 20 (omega arith) ∙ four_back s.life.end.0 h.gone in
        let cancelled : eqb (cond s.cancelled 1 0 % 2) 1 ≡ s.cancelled =
        ap (λ (b : Bool). eqb (cond b 1 0 % 2) 1) h.uncancelled ∙ sym h.uncancelled in
        let properties = ap (map property_of) parts_of_lem ∙ parts_back s.properties h.said in
        λ i. record {
          kind = s.kind;
          cancelled = cancelled i;
          correction = record { 0 = correction i };
          sequence = record { 0 = sequence i };
          period = record { begin = record { 0 = begin i }; end = record { 0 = end i } };
          life = record { begin = record { 0 = born i }; end = record { 0 = gone i } };
          properties = properties i;
        }
