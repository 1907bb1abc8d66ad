-- What a record's bytes say, field by field: the tests on a slice are those on the bytes that say it. Assumes nothing.
use Prim.Native.Nat.{ℕ, zero, suc, ◌+◌, ◌*◌, ◌≤◌, ◌<◌}
use mathlib.Core.Path.{◌≡◌, refl, sym, ap, ◌∙◌}
use mathlib.Core.List.{List}
use mathlib.Core.Bool.{true, not}
use native.Mathlib.Omega.{arith}
use lib.ListN.{length, take, drop, get_or-eq_default}
use lib.Dec.{eqb, ltb}
use lib.Seq.{get_or-take, get_or-drop}
use Rattle.laws.proofs.Tests.{tests}
use Rattle.octets.specs.Bytes.{byte_of}
use Rattle.property.specs.Eight.{mentioned}
use Rattle.slice.specs.Record.{tempdelta, record_size, Slice, view_of}
use Rattle.slice.proofs.View.{property_mentioned}
use Rattle.numbers.specs.declared.Instant.{Instant}
use Rattle.history.specs.Snapshot.{valid}
use Rattle.state.specs.Steps.{holding}
use Rattle.history.specs.Source.{mentions}
use Rattle.state.proofs.Slices.{property_at, view_property}
use Rattle.history.specs.Parts.{tells}

module _ (stride : ℕ) (r : List ℕ) where
  first_byte : (at : ℕ) → (stride ≡ 0 → length r ≤ at) → byte_of (take stride (drop at r)) 0 ≡ byte_of r at
  first_byte at h = go stride refl
    where
      go : (n : ℕ) → stride ≡ n → byte_of (take n (drop at r)) 0 ≡ byte_of r at
      go zero e = sym (get_or-eq_default r 0 (h e))
      go (suc n) e = let k : at + 0 ≡ at = omega arith in
          get_or-take (suc n) (drop at r) 0 0 (omega arith) ∙ (get_or-drop at r 0 0 ∙ ap (byte_of r) k)

  -- properties of no bytes
  empty : (q : ℕ) → stride ≡ 0 → length r ≡ record_size stride → length r ≤ 32 + q * stride
  empty q e l = rw (l, e) (omega arith)

  -- it is a mention where its first byte is not 0
  pub tells_property : (q : ℕ) → q < 8 → length r ≡ record_size stride
      → not (eqb (byte_of r (32 + q * stride)) 0) ≡ tells q (view_of stride r)
  unfolding tells mentions mentioned
  tells_property q h l =
      let y : ltb q 8 ≡ true = omega tests in
      rw (
        y,
        view_property stride r q h,
        property_mentioned (property_at stride r q),
        first_byte (32 + q * stride)
            (λ e. empty q e l),
      )

-- whether a TEMPDELTA is valid is seen from its own record
pub valid_holding : (t : Instant) (d : Slice) → holding tempdelta t d ≡ valid t d
unfolding holding valid
valid_holding t d = refl
