-- `baselines::derivation::derive` meets its contract: the tests in their order, and then the records. Assumes nothing.
use mathlib.Core.Path.{◌≡◌, refl, sym, ap, ◌∙◌}
use mathlib.Core.Bool.{false}
use native.Mathlib.Omega.{arith}
use lib.ListN.{length}
use Rattle.std.specs.Prelude.{Ok}
use Rattle.std.proofs.lemmas.Result.{err_from_is_err_and}
use Rattle.laws.specs.Lists.{any}
use Rattle.events.specs.Order.{in_order}
use Rattle.slice.specs.Record.{permanent}
use Rattle.slice.specs.Refusing.{told}
use Rattle.slice.proofs.Replies.{checked_same}
use Rattle.table.specs.Header.{stride_of}
use Rattle.table.specs.Rules.{fails, check_table}
use Rattle.table.specs.declared.check.Sides.TheVariants as sides
use Rattle.history.specs.Derived.{two_anchors}
use Rattle.state.specs.Asking.{slices_of}
use Rattle.baselines.specs.Noting.{noted}
use Rattle.baselines.specs.Deriving.{derived_records, derivation_reply}
use Rattle.baselines.proofs.DerivedTable.{told_two, told_records, table_refused, two_refused, many_refused, few_left}
use Rattle.baselines.proofs.Passes.{derived_pass}
use Rattle.baselines.proofs.derivation.derive.Goals as goal
use Rattle.baselines.proofs.derivation.derive.Goals.{In_ok-check_table, After-sort, In_ok-count}

pub returns-in_err-check_table-clause-answer : goal.returns-in_err-check_table-clause-answer
returns-in_err-check_table-clause-answer c =
    let p = err_from_is_err_and c.from_residual.result c.from_residual.ensures.1 in
    rw (p.1, p.2) (ap derivation_reply (table_refused _ _ _ (sym (checked_same _ _ c.check_table.ensures) ∙ ap told c.in_err-check_table.was)))

sound : (c : In_ok-check_table) → check_table sides.Permanent c.args.permanent.now ≡ Ok tt
sound c = sym (checked_same _ _ c.check_table.ensures) ∙ ap told c.in_ok-check_table.was

-- no derived record fails the slice check
pass : (c : In_ok-check_table)
    → any (fails (stride_of c.args.permanent.now) permanent) (derived_records c.args.permanent.now) ≡ false
pass c = derived_pass c.args.permanent.now (λ i. (c.type_inv.permanent i).fits) (sound c)

-- the events are those of the table, in order
sorted : (s : After-sort) → s.sort.new.events ≡ in_order (noted (slices_of s.args.permanent.now))
sorted s = s.sort.ensures ∙ ap in_order s.note-n.ensures.list

counted : (c : In_ok-count) → (two_anchors (slices_of c.args.permanent.now) ≡ false)
    × (c.in_ok-count.count ≡ length (derived_records c.args.permanent.now))
counted c = told_records _ _ (sym c.count_all.ensures ∙ ap told c.in_ok-count.was)

pub note-n-requires : goal.note-n-requires
note-n-requires c = (sound (goal.at.note-n-requires c).In_ok-check_table, refl)

pub count_all-requires : goal.count_all-requires
count_all-requires c =
    (sound (goal.at.count_all-requires c).In_ok-check_table, sorted (goal.at.count_all-requires c).After-sort)

pub returns-in_err-count-clause-answer : goal.returns-in_err-count-clause-answer
returns-in_err-count-clause-answer c =
    let p = err_from_is_err_and c.from_residual-in_err-count.result c.from_residual-in_err-count.ensures.1 in
    let (two, n) = told_two _ _ (sym c.count_all.ensures ∙ ap told c.in_err-count.was) in
    rw (p.1, p.2) (ap derivation_reply (rw n
    (two_refused _ _ (sound (goal.at.returns-in_err-count-clause-answer c).In_ok-check_table) two)))

pub returns-then-count-gt256-clause-answer : goal.returns-then-count-gt256-clause-answer
returns-then-count-gt256-clause-answer c =
    let at = goal.at.returns-then-count-gt256-clause-answer c in
    let d = at.In_ok-check_table in
    let (one, n) = counted at.In_ok-count in
    ap derivation_reply (many_refused _ _ (sound d) one (pass d) (omega (arith, n, c.if-count-gt256.true)))

pub hand_over-requires-clause-sound : goal.hand_over-requires-clause-sound
hand_over-requires-clause-sound c =
    let at = goal.at.hand_over-requires-clause-sound c in
    (sound at.In_ok-check_table, sorted at.After-sort, (counted at.In_ok-count).0)

pub hand_over-requires-clause-few : goal.hand_over-requires-clause-few
hand_over-requires-clause-few c =
    (omega arith, (counted (goal.at.hand_over-requires-clause-few c).In_ok-count).1)

pub returns-clause-answer : goal.returns-clause-answer
returns-clause-answer c =
    let at = goal.at.returns-clause-answer c in
    let d = at.In_ok-check_table in
    let (one, n) = counted at.In_ok-count in
    ap derivation_reply
    (c.hand_over.ensures.answer ∙ few_left _ _ (sound d) one (pass d) (omega (arith, n, c.if-count-gt256.false)))
