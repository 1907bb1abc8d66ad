-- The record of a state, property by property. Assumes nothing.
use Prim.Native.Nat.{ℕ, ◌+◌, ◌*◌, ◌-◌, ◌≤◌, ◌<◌}
use mathlib.Core.Path.{◌≡◌, refl, sym, ap, ◌∙◌, subst}
use mathlib.Core.List.{List, map}
use mathlib.Core.Bool.{Bool, true, false, cond}
use native.Mathlib.Omega.{arith}
use lib.ListN.{length, take, drop, get_or, length-map, length-replicate, get_or-map}
use lib.Seq.{drop-drop}
use Rattle.laws.specs.Lists.{joined}
use Rattle.laws.specs.Keyed.{In}
use Rattle.laws.proofs.Tests.{contrary}
use Rattle.laws.proofs.Lists.{map_in}
use Rattle.laws.proofs.Pieces.{Sized, joined_at}
use Rattle.numbers.specs.declared.Instant.{Instant}
use Rattle.property.specs.Eight.{mentioned}
use Rattle.slice.specs.Record.{Property, unmentioned, says, is_mentioned, view_of}
use Rattle.history.specs.State.{State}
use Rattle.history.specs.Source.{mentions}
use Rattle.state.specs.Written.{property_bytes, state_record}
use Rattle.state.proofs.Slices.{property_at, view_property}

-- one that is mentioned is written as its bytes
pub mention_bytes : (stride : ℕ) (c : Bool) (b : List ℕ) → is_mentioned (cond c (says b) unmentioned) ≡ true
    → property_bytes stride (cond c (says b) unmentioned) ≡ b
mention_bytes stride true b e = refl
mention_bytes stride false b e = contrary e refl

-- one that a record's slice mentions is written as the record says it
pub view_bytes : (stride : ℕ) (r : List ℕ) (n : ℕ) → n < 8 → mentions n (view_of stride r) ≡ true
    → property_bytes stride (get_or (view_of stride r).properties n unmentioned) ≡ property_at stride r n
unfolding mentions
view_bytes stride r n h y =
    let e = view_property stride r n h in
    ap (property_bytes stride) e
    ∙ mention_bytes stride (mentioned (property_at stride r n)) (property_at stride r n) (ap is_mentioned (sym e) ∙ y)

-- each property that says bytes says `stride` of them
abbrev pub Fits : ℕ → List Property → Type 0
Fits stride vs = (b : List ℕ) → In (says b) vs → length b ≡ stride

module _ (stride : ℕ) (wide : 2 ≤ stride) where
  bytes_length : (v : Property) → ((b : List ℕ) → v ≡ says b → length b ≡ stride) → length (property_bytes stride v) ≡ stride
  bytes_length unmentioned h = omega (arith, length-replicate {A = ℕ} (stride - 2) 0)
  bytes_length (says b) h = h b refl

  module _ (t : Instant) (s : State) (fits : Fits stride s.properties) where
    abbrev parts : List (List ℕ)
    parts = map (property_bytes stride) s.properties

    sized : Sized stride parts
    sized l m =
        let (v, n, e) = map_in (property_bytes stride) s.properties l m in
        rw e (bytes_length v (λ b q. fits b (subst (λ x. In x s.properties) q n)))

    behind : drop 32 (state_record stride t s) ≡ joined parts
    unfolding state_record
    behind = refl

    pub written_property : (n : ℕ) → n < length s.properties
        → take stride (drop (32 + n * stride) (state_record stride t s)) ≡ property_bytes stride (get_or s.properties n unmentioned)
    written_property n h =
        ap (take stride) (sym (drop-drop (n * stride) 32 (state_record stride t s)) ∙ ap (drop (n * stride)) behind)
        ∙ joined_at stride parts (property_bytes stride unmentioned) sized n
        (rw (length-map s.properties (property_bytes stride)) h)
        ∙ get_or-map (property_bytes stride) s.properties n unmentioned
