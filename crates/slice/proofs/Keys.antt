-- Laws of keys: their order is strict and total, and one key is told by the test. Assumes nothing.
use mathlib.Core.Path.{◌≡◌, ap}
use mathlib.Core.Bool.{true, false}
use lib.Dec.{eqb}
use borrow.Author.Tests.{eqb-true, eq-eqb}
use Rattle.laws.proofs.Tests.{and_both}
use Rattle.laws.proofs.Orders.{lex_irrefl, lex_trans, lex_total}
use Rattle.laws.proofs.Places.{KeyOrder}
use Rattle.numbers.specs.Numbers.{lower_sequence, same_sequence}
use Rattle.slice.specs.Record.{key_less, same_key}
use Rattle.slice.specs.declared.record.Key.{Key}

-- two keys of one kind and one sequence number
key_of_lem : (a b : Key) → a.kind ≡ b.kind → a.sequence.0 ≡ b.sequence.0 → a ≡ b
key_of_lem a b p q i = record { kind = p i; sequence = record { 0 = q i } }

pub key_irrefl : (a : Key) → key_less a a ≡ true → ⊥
unfolding key_less lower_sequence
key_irrefl a = lex_irrefl a.kind a.sequence.0

pub key_trans : (a b c : Key) → key_less a b ≡ true → key_less b c ≡ true → key_less a c ≡ true
unfolding key_less lower_sequence
key_trans a b c = lex_trans a.kind a.sequence.0 b.kind b.sequence.0 c.kind c.sequence.0

pub key_total : (a b : Key) → key_less a b ≡ false → key_less b a ≡ false → a ≡ b
unfolding key_less lower_sequence
key_total a b p q =
    let e = lex_total a.kind a.sequence.0 b.kind b.sequence.0 p q in
    key_of_lem a b e.0 e.1

pub same_key_lem : (a b : Key) → same_key a b ≡ true → a ≡ b
unfolding same_key same_sequence
same_key_lem a b h =
    let p = and_both (eqb a.kind b.kind) (eqb a.sequence.0 b.sequence.0) h in
    key_of_lem a b (eqb-true _ _ p.0) (eqb-true _ _ p.1)

pub key_same : (a b : Key) → a ≡ b → same_key a b ≡ true
unfolding same_key same_sequence
key_same a b e =
    rw (eq-eqb a.kind b.kind (ap (λ k. k.kind) e), eq-eqb a.sequence.0 b.sequence.0 (ap (λ k. k.sequence.0) e))

-- what the floors above ask of keys
pub key_order : KeyOrder key_less same_key
key_order = record { irrefl = key_irrefl; trans = key_trans; total = key_total; told = same_key_lem; tells = key_same }
