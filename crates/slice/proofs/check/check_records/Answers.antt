-- Where a record is refused the review stops at it; past one that is sound it goes on with what is left.
use Rattle.std.proofs.Common.{◌≡◌, ap, rules, arith, take, drop}
use Rattle.std.proofs.lemmas.Grind.{common_steps}
use Rattle.std.proofs.lemmas.List.{take_min, drop_min}
use Rattle.std.specs.Prelude.{Err, Ok}
use Rattle.slice.specs.Refusing.{told}
use Rattle.slice.proofs.Reviews.{review_start, review_stops, review_past}
use Rattle.slice.proofs.check.check_records.Goals as goal

pub loop-place-init : goal.loop-place-init
loop-place-init c =
    search (rules, review_start)

pub returns-in_err-map_err : goal.returns-in_err-map_err
returns-in_err-map_err c =
    let f = c.in_err-map_err.field-0.0 in
    let place : f.place ≡ c.loop-place.place-counter = grind (arith, common_steps) in
    let refused : c.check_record.result ≡ Err f.refusal = grind (arith, common_steps) in
    let answer : c.from_residual.result ≡ Err f = grind (arith, common_steps) in
    let here : c.split_at.result.0.now ≡ take c.args.size c.loop-place.rest.now = grind (arith, take_min) in
    rw (answer, place)
    (review_stops _ _ _ _ _ c.loop-place.rest.now _ _ c.loop-place-test.true c.loop-place.invariant here _ c.check_record.ensures _
    (ap told refused))

pub loop-place-preserved : goal.loop-place-preserved
loop-place-preserved c =
    let sound : c.check_record.result ≡ Ok c.in_ok-map_err.field-0 = grind (arith, common_steps) in
    let here : c.split_at.result.0.now ≡ take c.args.size c.loop-place.rest.now = grind (arith, take_min) in
    let behind : c.split_at.result.1.now ≡ drop c.args.size c.loop-place.rest.now = grind (arith, drop_min) in
    review_past _ _ _ _ _ c.loop-place.rest.now _ _ c.loop-place-test.true c.loop-place.invariant here _ c.check_record.ensures _
    behind (ap told sound)
