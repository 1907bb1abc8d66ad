-- The order of turns is strict and total; in a table the sequence number tells the counted slices of a kind apart. Assumes nothing.
use Prim.Native.Nat.{ℕ}
use mathlib.Core.Path.{◌≡◌, sym, ap, ◌∙◌}
use mathlib.Core.List.{List}
use mathlib.Core.Bool.{true, not, false}
use lib.Dec.{eqb}
use borrow.Author.Tests.{eqb-true, eq-eqb, not-true}
use Rattle.laws.specs.Keyed.{In, Rising}
use Rattle.laws.proofs.Tests.{and_both}
use Rattle.laws.proofs.Orders.{lex_irrefl, lex_trans, lex_total}
use Rattle.laws.proofs.Places.{KeyOrder}
use Rattle.laws.proofs.Put.{rising_one}
use Rattle.numbers.specs.Numbers.{before, same_instant, lower_sequence, same_sequence}
use Rattle.slice.specs.Record.{key_less, same_key, Slice}
use Rattle.slice.proofs.Keys.{key_order}
use Rattle.history.specs.Counted.{counts, slice_key}
use Rattle.history.specs.Permanent.{Turn, turn_less, same_turn}

-- two turns of one instant and one sequence number
turn_of_lem : (a b : Turn) → a.instant.0 ≡ b.instant.0 → a.sequence.0 ≡ b.sequence.0 → a ≡ b
turn_of_lem a b p q i = record { instant = record { 0 = p i }; sequence = record { 0 = q i } }

pub turn_order : KeyOrder turn_less same_turn
unfolding turn_less same_turn before same_instant lower_sequence same_sequence
turn_order = record {
  irrefl = λ a. lex_irrefl a.instant.0 a.sequence.0;
  trans = λ a b c. lex_trans a.instant.0 a.sequence.0 b.instant.0 b.sequence.0 c.instant.0 c.sequence.0;
  total = λ a b p q. let e = lex_total a.instant.0 a.sequence.0 b.instant.0 b.sequence.0 p q in
      turn_of_lem a b e.0 e.1;
  told = λ a b h. let p = and_both (eqb a.instant.0 b.instant.0) (eqb a.sequence.0 b.sequence.0) h in
      turn_of_lem a b (eqb-true _ _ p.0) (eqb-true _ _ p.1);
  tells = λ a b e. rw (
    eq-eqb a.instant.0 b.instant.0 (ap (λ k. k.instant.0) e),
    eq-eqb a.sequence.0 b.sequence.0
        (ap (λ k. k.sequence.0) e),
  );
}

pub counts_kind : (kind : ℕ) (s : Slice) → counts kind s ≡ true → s.kind ≡ kind
unfolding counts
counts_kind kind s h = eqb-true s.kind kind (and_both (eqb s.kind kind) (not s.cancelled) h).0

pub uncancelled : (kind : ℕ) (s : Slice) → counts kind s ≡ true → s.cancelled ≡ false
unfolding counts
uncancelled kind s h = not-true s.cancelled (and_both (eqb s.kind kind) (not s.cancelled) h).1

-- two counted slices of one kind and one sequence number are one
pub counted_one : (kind : ℕ) (slices : List Slice) → Rising slice_key key_less same_key slices → (a b : Slice) → In a slices
    → In b slices
    → counts kind a ≡ true → counts kind b ≡ true → a.sequence ≡ b.sequence → a ≡ b
counted_one kind slices up a b m n c d e =
    rising_one slice_key key_less same_key key_order slices up a b m n (key_of_lem (counts_kind kind a c ∙ sym (counts_kind kind b d)))
  where
    key_of_lem : a.kind ≡ b.kind → slice_key a ≡ slice_key b
    key_of_lem k i = record { kind = k i; sequence = e i }
