-- The promise of each public function asks nothing and leaves one answer and one content of the lent table. Assumes nothing.
use mathlib.Core.Path.{refl}
use Rattle.laws.specs.OneAnswer.{OneAnswer}
use Rattle.laws.specs.OneAnswer.{OneAnswerAs, shown}
use Rattle.laws.proofs.OneAnswer.{same, both}
use Rattle.slice.proofs.Replies.{checked_told}
use Rattle.table.proofs.Replies.{creation_told, arrival_told}
use Rattle.table.proofs.header.is_lettered.Kinds as is-lettered-k
use Rattle.table.proofs.header.is_lettered.Reads as is-lettered
use Rattle.table.proofs.header.side_of.Kinds as side-of-k
use Rattle.table.proofs.header.side_of.Reads as side-of
use Rattle.table.proofs.header.count_of.Kinds as count-of-k
use Rattle.table.proofs.header.count_of.Reads as count_of
use Rattle.table.proofs.header.stride_of.Kinds as stride-of-k
use Rattle.table.proofs.header.stride_of.Reads as stride-of
use Rattle.table.proofs.header.record_size.Kinds as record-size-k
use Rattle.table.proofs.header.record_size.Reads as record-size
use Rattle.table.proofs.header.room_of.Kinds as room-of-k
use Rattle.table.proofs.header.room_of.Reads as room_of
use Rattle.table.proofs.header.record_at.Kinds as record-at-k
use Rattle.table.proofs.header.record_at.Reads as record-at
use Rattle.table.proofs.check.takes_side.Kinds as takes-side-k
use Rattle.table.proofs.check.takes_side.Reads as takes-side
use Rattle.table.proofs.check.check_table.Kinds as check-table-k
use Rattle.table.proofs.check.check_table.Reads as check-table
use Rattle.table.proofs.create.new_table.Kinds as new-table-k
use Rattle.table.proofs.create.new_table.Reads as new-table
use Rattle.table.proofs.arrival.arrive.Kinds as arrive-k
use Rattle.table.proofs.arrival.arrive.Reads as arrive

pub is_lettered_one : OneAnswer is-lettered-k.ps is-lettered-k.r is-lettered.Asked is-lettered.Learnt
is_lettered_one κs a = (tt, λ z z' ws ws' p q. (same p q, refl))

pub side_of_one : OneAnswer side-of-k.ps side-of-k.r side-of.Asked side-of.Learnt
side_of_one κs a = (tt, λ z z' ws ws' p q. (same p q, refl))

pub count_of_one : OneAnswer count-of-k.ps count-of-k.r count_of.Asked count_of.Learnt
count_of_one κs a = (tt, λ z z' ws ws' p q. (same p q, refl))

pub stride_of_one : OneAnswer stride-of-k.ps stride-of-k.r stride-of.Asked stride-of.Learnt
stride_of_one κs a = (tt, λ z z' ws ws' p q. (same p q, refl))

pub record_size_one : OneAnswer record-size-k.ps record-size-k.r record-size.Asked record-size.Learnt
record_size_one κs a = (tt, λ z z' ws ws' p q. (same p q, refl))

pub room_of_one : OneAnswer room-of-k.ps room-of-k.r room_of.Asked room_of.Learnt
room_of_one κs a = (tt, λ z z' ws ws' p q. (same p q, refl))

pub record_at_one : OneAnswerAs record-at-k.ps record-at-k.r (λ κs. shown) record-at.Asked record-at.Learnt
record_at_one κs a = (tt, λ z z' ws ws' p q. (both (same p.1 q.1) (same p.0 q.0), refl))

pub takes_side_one : OneAnswer takes-side-k.ps takes-side-k.r takes-side.Asked takes-side.Learnt
takes_side_one κs a = (tt, λ z z' ws ws' p q. (same p q, refl))

pub check_table_one : OneAnswer check-table-k.ps check-table-k.r check-table.Asked check-table.Learnt
check_table_one κs a = (tt, λ z z' ws ws' p q. (checked_told z z' (same p q), refl))

pub new_table_one : OneAnswer new-table-k.ps new-table-k.r new-table.Asked new-table.Learnt
new_table_one κs a = (
  tt,
  λ z z' ws ws' p q.
      let e = creation_told z z' (same p.0 q.0) in
      (e, both (same (rw e at p.1) q.1) refl),
)

pub arrive_one : OneAnswer arrive-k.ps arrive-k.r arrive.Asked arrive.Learnt
arrive_one κs a = (
  tt,
  λ z z' ws ws' p q.
      let e = arrival_told z z' (same p.0 q.0) in
      (e, both (same (rw e at p.1) q.1) refl),
)
