-- `baselines::derivation::hand_over` meets its contract: the header, and behind it the records. Assumes nothing.
use Prim.Native.Nat.{ℕ, ◌+◌, ◌*◌, ◌≤◌}
use mathlib.Core.Path.{◌≡◌, sym, ap, ◌∙◌}
use mathlib.Core.List.{List, ◌++◌}
use native.Mathlib.Omega.{arith}
use lib.ListN.{length, drop}
use borrow.Author.Tests.{lt-ltb, le-ltb}
use Rattle.laws.specs.Lists.{joined}
use Rattle.octets.specs.Writing.{pasted}
use Rattle.slice.specs.Record.{permanent}
use Rattle.table.specs.Header.{feature_of, header_of}
use Rattle.table.specs.declared.check.Sides.TheVariants as sides
use Rattle.table.proofs.Sound.{sound_table}
use Rattle.baselines.specs.Deriving.{derived_records}
use Rattle.baselines.specs.Steps.{handed_of}
use Rattle.std.specs.Prelude.{Ok}
use Rattle.baselines.proofs.DerivedTable.{feature_long, handed}
use Rattle.baselines.proofs.Passes.{derived_long}
use Rattle.baselines.proofs.derivation.hand_over.Goals as goal
use Rattle.baselines.proofs.derivation.hand_over.Goals.{After-record_size}

-- the length of the records, as a number
sized : (c : After-record_size) → c.args.count * c.record_size.result ≡ c.args.count * 224
sized c = ap (λ (n : ℕ). c.args.count * n) c.record_size.ensures

long : (c : After-record_size) → length (joined (derived_records c.args.permanent.now)) ≡ c.args.count * 224
long c =
    derived_long c.args.permanent.now (λ i. (c.type_inv.permanent i).fits) c.requires.sound.0
    ∙ ap (λ (n : ℕ). n * 224) (sym c.requires.few.1)

pub returns-then-output-count-clause-answer : goal.returns-then-output-count-clause-answer
unfolding handed_of
returns-then-output-count-clause-answer c =
    let k = (goal.at.returns-then-output-count-clause-answer c).After-record_size in
    sym (rw (lt-ltb (length c.args.output.now) (32 + length (joined (derived_records c.args.permanent.now)))
    (omega (arith, long k, sized k, c.if-output-count.true))))

pub slice_bounds-put_header-end : goal.slice_bounds-put_header-end
slice_bounds-put_header-end c = let h = (sound_table sides.Permanent _ c.requires.sound.0).headed in omega (arith, h)

-- the output holds the records
fits : (k : After-record_size) → 32 + k.args.count * k.record_size.result ≤ length k.args.output.now
    → 32 + length (joined (derived_records k.args.permanent.now)) ≤ length k.args.output.now
fits k h = omega (arith, long k, sized k, h)

pub draw_all-requires-clause-room : goal.draw_all-requires-clause-room
draw_all-requires-clause-room c =
    let f = fits (goal.at.draw_all-requires-clause-room c).After-record_size c.if-output-count.false in
    (omega (arith, c.requires.few), omega (arith, f, c.put_header.auto.output))

pub returns-clause-answer : goal.returns-clause-answer
unfolding handed_of
returns-clause-answer c =
    let f = fits (goal.at.returns-clause-answer c).After-record_size c.if-output-count.false in
    ap Ok c.requires.few.1
    ∙ sym (rw (le-ltb (length c.args.output.now) (32 + length (joined (derived_records c.args.permanent.now))) f))

pub returns-clause-buffer : goal.returns-clause-buffer
returns-clause-buffer c =
    let a = c.args in
    let records = derived_records a.permanent.now in
    let f = fits (goal.at.returns-clause-buffer c).After-record_size c.if-output-count.false in
    let headed : 32 ≤ length a.permanent.now = (sound_table sides.Permanent _ c.requires.sound.0).headed in
    c.draw_all.ensures
    ∙ ap (λ (d : List ℕ). pasted d 32 (joined records)) c.put_header.ensures
    ∙ handed a.output.now (feature_of a.permanent.now) (joined records) a.count (feature_long a.permanent.now headed) f
    ∙ ap (λ (m : ℕ). header_of permanent (feature_of a.permanent.now) m
    ++ (joined records ++ drop (32 + length (joined records)) a.output.now)) c.requires.few.1
