-- A permanent table's BASELINEs stand in front: none has begun behind them, and no change stands among them. Assumes nothing.
use Prim.Native.Nat.{ℕ, ◌≤◌, ◌<◌}
use mathlib.Core.Path.{◌≡◌, ap}
use mathlib.Core.List.{List, ◌∷◌}
use mathlib.Core.Bool.{Bool, false, ◌&&◌}
use mathlib.Core.Logic.{inl, inr, ⊎_elim}
use native.Mathlib.Omega.{arith}
use lib.Dec.{eqb}
use Rattle.laws.specs.Keyed.{In, Rising}
use Rattle.laws.proofs.Tests.{tests}
use Rattle.laws.proofs.Orders.{lex_true}
use Rattle.numbers.specs.Numbers.{lower_sequence}
use Rattle.numbers.specs.declared.Instant.{Instant}
use Rattle.slice.specs.Record.{baseline, permdelta, key_less, same_key, Slice}
use Rattle.history.specs.Counted.{counts, slice_key}
use Rattle.history.specs.Parts.{begun, tells, due, opens_due}

-- a slice of a kind above BASELINE, and all behind it
pub kinds_rise : (d : Slice) (ds : List Slice) → Rising slice_key key_less same_key (d ∷ ds) → baseline < d.kind → (x : Slice)
    → In x (d ∷ ds) → baseline < x.kind
unfolding key_less lower_sequence
kinds_rise d ds up h x (inl e) = rw e h
kinds_rise d ds (low, up) h x (inr m) =
    ⊎_elim (λ l. omega arith) (λ (e, l). omega arith) (lex_true d.kind d.sequence.0 x.kind x.sequence.0 (low x m))

not_counted : (kind : ℕ) (d : Slice) → eqb d.kind kind ≡ false → counts kind d ≡ false
unfolding counts
not_counted kind d e = rw e

pub none_begun : (t : Instant) (x : Slice) → baseline < x.kind → begun t x ≡ false
unfolding begun
none_begun t x h =
    let e : eqb x.kind baseline ≡ false = omega tests in
    rw (not_counted baseline x e)

pub none_due : (since t : Instant) (x : Slice) → x.kind ≤ baseline → due since t x ≡ false
unfolding due
none_due since t x h =
    let e : eqb x.kind permdelta ≡ false = omega tests in
    rw (not_counted permdelta x e)

-- one that is due opens where it tells the life begin
pub opens_told : (since t : Instant) (d : Slice) (b : Bool) → due since t d ≡ b → opens_due since t d ≡ (b && tells 8 d)
unfolding opens_due
opens_told since t d b e = ap (λ x. x && tells 8 d) e

pub none_opens : (since t : Instant) (x : Slice) → x.kind ≤ baseline → opens_due since t x ≡ false
none_opens since t x h = opens_told since t x false (none_due since t x h)
