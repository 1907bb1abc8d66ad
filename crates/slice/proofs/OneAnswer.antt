-- The promise of each public function asks nothing and leaves one answer. Assumes nothing.
use mathlib.Core.Path.{refl}
use Rattle.laws.specs.OneAnswer.{OneAnswer}
use Rattle.laws.proofs.OneAnswer.{same}
use Rattle.slice.proofs.Replies.{checked_told, reviewed_tells}
use Rattle.slice.proofs.check.number_of.Kinds as number-of-k
use Rattle.slice.proofs.check.number_of.Reads as number_of
use Rattle.slice.proofs.refusal.Refusal.number.Kinds as Refusal-number-k
use Rattle.slice.proofs.refusal.Refusal.number.Reads as Refusal-number
use Rattle.slice.proofs.check.check_record.Kinds as check-record-k
use Rattle.slice.proofs.check.check_record.Reads as check-record
use Rattle.slice.proofs.check.check_records.Kinds as check-records-k
use Rattle.slice.proofs.check.check_records.Reads as check-records
use Rattle.slice.proofs.check.check_slice.Kinds as check-slice-k
use Rattle.slice.proofs.check.check_slice.Reads as check-slice
use Rattle.slice.proofs.record.Key.precedes.Kinds as Key-precedes-k
use Rattle.slice.proofs.record.Key.precedes.Reads as Key-precedes
use Rattle.slice.proofs.record.Key.is.Kinds as Key-is-k
use Rattle.slice.proofs.record.Key.is.Reads as Key-is
use Rattle.slice.proofs.record.side_takes.Kinds as side-takes-k
use Rattle.slice.proofs.record.side_takes.Reads as side-takes
use Rattle.slice.proofs.record.is_cancelled.Kinds as is-cancelled-k
use Rattle.slice.proofs.record.is_cancelled.Reads as is-cancelled
use Rattle.slice.proofs.record.correction_of.Kinds as correction-of-k
use Rattle.slice.proofs.record.correction_of.Reads as correction_of
use Rattle.slice.proofs.record.key_of.Kinds as key-of-k
use Rattle.slice.proofs.record.key_of.Reads as key_of
use Rattle.slice.proofs.record.period_of.Kinds as period-of-k
use Rattle.slice.proofs.record.period_of.Reads as period-of
use Rattle.slice.proofs.record.life_of.Kinds as life-of-k
use Rattle.slice.proofs.record.life_of.Reads as life-of
use Rattle.slice.proofs.rules.times_right.Kinds as times-right-k
use Rattle.slice.proofs.rules.times_right.Reads as times-right
use Rattle.slice.proofs.rules.content_right.Kinds as content-right-k
use Rattle.slice.proofs.rules.content_right.Reads as content-right

pub number_of_one : OneAnswer number-of-k.ps number-of-k.r number_of.Asked number_of.Learnt
number_of_one κs a = (tt, λ z z' ws ws' p q. (same p q, refl))

pub Refusal-number_one : OneAnswer Refusal-number-k.ps Refusal-number-k.r Refusal-number.Asked Refusal-number.Learnt
Refusal-number_one κs a = (tt, λ z z' ws ws' p q. (same p q, refl))

pub check_record_one : OneAnswer check-record-k.ps check-record-k.r check-record.Asked check-record.Learnt
check_record_one κs a = (tt, λ z z' ws ws' p q. (checked_told z z' (same p q), refl))

pub check_records_one : OneAnswer check-records-k.ps check-records-k.r check-records.Asked check-records.Learnt
check_records_one κs a = (tt, λ z z' ws ws' p q. (reviewed_tells z z' (same p q), refl))

pub check_slice_one : OneAnswer check-slice-k.ps check-slice-k.r check-slice.Asked check-slice.Learnt
check_slice_one κs a = (tt, λ z z' ws ws' p q. (checked_told z z' (same p q), refl))

pub Key-precedes_one : OneAnswer Key-precedes-k.ps Key-precedes-k.r Key-precedes.Asked Key-precedes.Learnt
Key-precedes_one κs a = (tt, λ z z' ws ws' p q. (same p q, refl))

pub Key-is_one : OneAnswer Key-is-k.ps Key-is-k.r Key-is.Asked Key-is.Learnt
Key-is_one κs a = (tt, λ z z' ws ws' p q. (same p q, refl))

pub side_takes_one : OneAnswer side-takes-k.ps side-takes-k.r side-takes.Asked side-takes.Learnt
side_takes_one κs a = (tt, λ z z' ws ws' p q. (same p q, refl))

pub is_cancelled_one : OneAnswer is-cancelled-k.ps is-cancelled-k.r is-cancelled.Asked is-cancelled.Learnt
is_cancelled_one κs a = (tt, λ z z' ws ws' p q. (same p q, refl))

pub correction_of_one : OneAnswer correction-of-k.ps correction-of-k.r correction_of.Asked correction_of.Learnt
correction_of_one κs a = (tt, λ z z' ws ws' p q. (same p q, refl))

pub key_of_one : OneAnswer key-of-k.ps key-of-k.r key_of.Asked key_of.Learnt
key_of_one κs a = (tt, λ z z' ws ws' p q. (same p q, refl))

pub period_of_one : OneAnswer period-of-k.ps period-of-k.r period-of.Asked period-of.Learnt
period_of_one κs a = (tt, λ z z' ws ws' p q. (same p q, refl))

pub life_of_one : OneAnswer life-of-k.ps life-of-k.r life-of.Asked life-of.Learnt
life_of_one κs a = (tt, λ z z' ws ws' p q. (same p q, refl))

pub times_right_one : OneAnswer times-right-k.ps times-right-k.r times-right.Asked times-right.Learnt
times_right_one κs a = (tt, λ z z' ws ws' p q. (same p q, refl))

pub content_right_one : OneAnswer content-right-k.ps content-right-k.r content-right.Asked content-right.Learnt
content_right_one κs a = (tt, λ z z' ws ws' p q. (same p q, refl))
