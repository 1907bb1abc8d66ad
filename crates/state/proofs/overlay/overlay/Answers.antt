-- `state::overlay::overlay` meets its contract: a record that is valid moves on the places of the properties that it mentions.
-- Assumes nothing.
use Prim.Native.Nat.{ℕ, ◌+◌}
use mathlib.Core.Path.{refl, sym, ap, ◌∙◌}
use mathlib.Core.Bool.{true, cond, ◌&&◌}
use mathlib.Core.List.{List}
use mathlib.Core.Option.{none}
use native.Mathlib.Omega.{arith}
use lib.ListN.{length, get_or, length-set, get_or-replicate}
use Rattle.slice.specs.Record.{Slice, view_of}
use Rattle.history.specs.Snapshot.{valid}
use Rattle.history.specs.Parts.{tells, latest_with, latest_valid}
use Rattle.state.specs.Steps.{place_and_one}
use Rattle.state.proofs.Slices.{slices_end}
use Rattle.state.proofs.Turns.{turn_at}
use Rattle.state.proofs.Marks.{noted_start, noted_turn, noted_end, place_turn, keeps_turn, keeps_past, keeps_end, latest_past}
use Rattle.state.proofs.OnePass.{among_in}
use Rattle.state.proofs.Views.{valid_holding}
use Rattle.state.proofs.overlay.overlay.Goals as goal
use Rattle.state.proofs.overlay.overlay.Goals.{then-is_holding+else-loop-n-test, else-is_holding}

-- the place of a property, and one, with that of a slice where it mentions it
abbrev step : Slice → ℕ → ℕ → ℕ → ℕ
step d i q k = cond (tells q d) (i + 1) k

pub loop-i-init : goal.loop-i-init
unfolding latest_valid
loop-i-init c = (refl, λ q h. (none, get_or-replicate 8 q 0 0 h, refl))

pub loop-n-init : goal.loop-n-init
loop-n-init c =
    let here = view_of c.stride_of-stride.result c.record_at-record.result.now in
    (c.loop-i.invariant.0, noted_start 0 0 (step here c.loop-i.i) c.loop-i.places)

pub loop-n-preserved : goal.loop-n-preserved
loop-n-preserved c =
    let n = c.loop-n.n in
    let ms = c.loop-n.place-items in
    let here = view_of c.stride_of-stride.result c.record_at-record.result.now in (
      length-set ms n _ ∙ c.loop-n.invariant.0,
      noted_turn 0 0 (step here c.loop-i.i) c.loop-i.places ms n _ (omega arith) (omega arith) c.loop-n.invariant.1
          (grind (arith, c.mentions.ensures)),
    )

pub loop-i-preserved : goal.loop-i-preserved
loop-i-preserved c =
    let t = c.args.temporary.now in
    let a = c.args.instant in
    let l = c.loop-i in
    let stride = c.stride_of-stride.result in
    let here = view_of stride c.record_at-record.result.now in
    let turn =
    turn_at t l.i c.record_size-size.ensures c.record_at-record.ensures.bytes c.stride_of-stride.ensures c.requires (omega arith) in
    let told = c.is_holding.ensures stride ∙ valid_holding a here in
    elim c.if-is_holding.branch [
      | then-is_holding+else-loop-n-test w ↦ (
        ap length w.places-is ∙ w.loop-n.invariant.0,
        λ q h. keeps_turn (latest_with (λ a b. true) (λ d. valid a d && tells q d)) place_and_one (get_or l.places q 0) _ _ l.i here
            _ _ turn.next (step here l.i q)
            (place_turn (valid a) q l.i here (sym told ∙ w.if-is_holding.true))
            (ap (λ (z : List ℕ). get_or z q 0) w.places-is
            ∙ noted_end 0 0 (step here l.i) l.places w.loop-n.place-items w.loop-n.n 8 q (omega arith) (omega arith)
            (among_in 0 8 q (omega arith) h) w.loop-n.invariant.1)
            (l.invariant.1 q h),
      )
      | else-is_holding w ↦ (
        ap length w.places-is ∙ l.invariant.0,
        λ q h. keeps_past (latest_with (λ a b. true) (λ d. valid a d && tells q d)) place_and_one (get_or l.places q 0) _ _ l.i here
            _ _ turn.next
            (latest_past (λ a b. true) (λ d. valid a d && tells q d) l.i here
            (ap (λ b. b && tells q here) (sym told ∙ w.if-is_holding.false)))
            (ap (λ (z : List ℕ). get_or z q 0) w.places-is) (l.invariant.1 q h),
      )
    ]

pub returns : goal.returns
returns c =
    let l = c.loop-i in
    let t = c.args.temporary.now in
    let a = c.args.instant in (
      l.invariant.0,
      λ q h. keeps_end (latest_with (λ a b. true) (λ d. valid a d && tells q d)) place_and_one (get_or l.places q 0) _ l.i _
          (slices_end t l.i (omega arith)) (l.invariant.1 q h),
    )
