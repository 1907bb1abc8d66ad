-- The promise of each public function asks nothing and leaves one answer. Assumes nothing.
use mathlib.Core.Path.{refl}
use Rattle.laws.specs.OneAnswer.{OneAnswer}
use Rattle.laws.proofs.OneAnswer.{same, both}
use Rattle.octets.proofs.byte.Kinds as byte-k
use Rattle.octets.proofs.byte.Reads as byte
use Rattle.octets.proofs.be16.Kinds as be16-k
use Rattle.octets.proofs.be16.Reads as be16
use Rattle.octets.proofs.be32.Kinds as be32-k
use Rattle.octets.proofs.be32.Reads as be32
use Rattle.octets.proofs.be64.Kinds as be64-k
use Rattle.octets.proofs.be64.Reads as be64
use Rattle.octets.proofs.le64.Kinds as le64-k
use Rattle.octets.proofs.le64.Reads as le64
use Rattle.octets.proofs.blank8.Kinds as blank8-k
use Rattle.octets.proofs.blank8.Reads as blank8
use Rattle.octets.proofs.full8.Kinds as full8-k
use Rattle.octets.proofs.full8.Reads as full8
use Rattle.octets.proofs.blank.Kinds as blank-k
use Rattle.octets.proofs.blank.Reads as blank
use Rattle.octets.proofs.same.Kinds as same-k
use Rattle.octets.proofs.same.Reads as same
use Rattle.octets.proofs.writers.put.Kinds as put-k
use Rattle.octets.proofs.writers.put.Reads as put
use Rattle.octets.proofs.writers.put16.Kinds as put16-k
use Rattle.octets.proofs.writers.put16.Reads as put16
use Rattle.octets.proofs.writers.put32.Kinds as put32-k
use Rattle.octets.proofs.writers.put32.Reads as put32
use Rattle.octets.proofs.writers.open_gap.Kinds as open-gap-k
use Rattle.octets.proofs.writers.open_gap.Reads as open-gap

pub byte_one : OneAnswer byte-k.ps byte-k.r byte.Asked byte.Learnt
byte_one κs a = (tt, λ z z' ws ws' p q. (same p q, refl))

pub be16_one : OneAnswer be16-k.ps be16-k.r be16.Asked be16.Learnt
be16_one κs a = (tt, λ z z' ws ws' p q. (same p q, refl))

pub be32_one : OneAnswer be32-k.ps be32-k.r be32.Asked be32.Learnt
be32_one κs a = (tt, λ z z' ws ws' p q. (same p q, refl))

pub be64_one : OneAnswer be64-k.ps be64-k.r be64.Asked be64.Learnt
be64_one κs a = (tt, λ z z' ws ws' p q. (same p q, refl))

pub le64_one : OneAnswer le64-k.ps le64-k.r le64.Asked le64.Learnt
le64_one κs a = (tt, λ z z' ws ws' p q. (same p q, refl))

pub blank8_one : OneAnswer blank8-k.ps blank8-k.r blank8.Asked blank8.Learnt
blank8_one κs a = (tt, λ z z' ws ws' p q. (same p q, refl))

pub full8_one : OneAnswer full8-k.ps full8-k.r full8.Asked full8.Learnt
full8_one κs a = (tt, λ z z' ws ws' p q. (same p q, refl))

pub blank_one : OneAnswer blank-k.ps blank-k.r blank.Asked blank.Learnt
blank_one κs a = (tt, λ z z' ws ws' p q. (same p q, refl))

pub same_one : OneAnswer same-k.ps same-k.r same.Asked same.Learnt
same_one κs a = (tt, λ z z' ws ws' p q. (same p q, refl))

pub put_one : OneAnswer put-k.ps put-k.r put.Asked put.Learnt
put_one κs a = (tt, λ z z' ws ws' p q. (refl, both (same p q) refl))

pub put16_one : OneAnswer put16-k.ps put16-k.r put16.Asked put16.Learnt
put16_one κs a = (tt, λ z z' ws ws' p q. (refl, both (same p q) refl))

pub put32_one : OneAnswer put32-k.ps put32-k.r put32.Asked put32.Learnt
put32_one κs a = (tt, λ z z' ws ws' p q. (refl, both (same p q) refl))

pub open_gap_one : OneAnswer open-gap-k.ps open-gap-k.r open-gap.Asked open-gap.Learnt
open_gap_one κs a = (tt, λ z z' ws ws' p q. (refl, both (same p q) refl))
