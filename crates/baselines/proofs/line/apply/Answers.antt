-- `baselines::line::apply` meets its contract: the properties, then the two life times. Assumes nothing.
use Prim.Native.Nat.{ℕ, ◌≤◌, ◌<◌}
use mathlib.Core.Path.{ap, ◌∙◌}
use mathlib.Core.Bool.{cond}
use mathlib.Core.List.{List}
use native.Mathlib.Omega.{arith}
use lib.ListN.{length}
use Rattle.octets.specs.Writing.{bytes_of, pasted}
use Rattle.octets.specs.Bytes.{Bytes}
use Rattle.numbers.specs.Numbers.{no_instant, is_none}
use Rattle.slice.specs.Record.{record_size, life_of, view_of}
use Rattle.slice.specs.declared.record.Life.{Life}
use Rattle.slice.proofs.Times.{instant_most}
use Rattle.history.specs.State.{applied}
use Rattle.baselines.proofs.Carried.{carried_born, carried_ended, take_time}
use Rattle.baselines.proofs.line.apply.Goals as goal

pub returns : goal.returns
unfolding applied view_of no_instant
returns c =
    let a = c.args in
    let delta : List ℕ = a.delta.now in
    let bytes : Bytes delta = λ i. (c.type_inv.delta i).fits in
    let born : (life_of delta).begin.0 < 4294967296 = omega (arith, instant_most delta 16 bytes) in
    let gone : (life_of delta).end.0 < 4294967296 = omega (arith, instant_most delta 20 bytes) in
    let one = c.put_mentions.new.line in
    let two = c.put_time.new.record in
    let long : record_size a.stride ≤ length one = omega (arith, c.put_mentions.auto.line, c.requires.1) in
    let first = take_time a.stride (is_none (life_of delta).begin) two one (bytes_of 4 (life_of delta).begin.0) 16 (omega arith) long
    (c.put_time.ensures
    ∙ ap (λ (l : Life). cond (is_none l.begin) one (pasted one 16 (bytes_of 4 l.begin.0))) c.life_of-life.ensures) in
    let second = take_time a.stride (is_none (life_of delta).end) c.put_time-2.new.record two (bytes_of 4 (life_of delta).end.0) 20
    (omega arith) (omega (arith, long, c.put_time.auto.record))
    (c.put_time-2.ensures
    ∙ ap (λ (l : Life). cond (is_none l.end) two (pasted two 20 (bytes_of 4 l.end.0))) c.life_of-life.ensures) in
    λ s h.
    carried_ended a.stride _ _
    (carried_born a.stride _ _ (c.put_mentions.ensures s h) (life_of delta).begin born _ first)
    (life_of delta).end gone _ second
