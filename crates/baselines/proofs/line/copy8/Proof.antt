-- `baselines::line::copy8` meets its contract: byte by byte, as copying goes on. Assumes nothing.
use Prim.Native.Nat.{ℕ, ◌+◌, ◌≤◌, ◌<◌}
use mathlib.Core.Path.{◌≡◌, sym, ap, ◌∙◌}
use mathlib.Core.List.{List}
use native.Mathlib.Nat.{add-zero}
use native.Mathlib.Omega.{arith}
use lib.ListN.{length, take, drop, get_or, set, length-set, length-drop}
use lib.Seq.{length-take-le, get_or-take, get_or-drop}
use Rattle.octets.specs.Writing.{pasted}
use Rattle.octets.proofs.Writing.{pasted_length, copying, copying_none, copying_turn, copying_all}
use borrow.Author.Rules.{rules}
use Rattle.baselines.proofs.line.copy8.Statement.{statement}
use Rattle.baselines.proofs.line.copy8.Tie as tie

module _ (d o : List ℕ) (to at : ℕ) (h : to + 8 ≤ length d) (k : at + 8 ≤ length o) where
  abbrev bytes : List ℕ
  bytes = take 8 (drop at o)

  long : length bytes ≡ 8
  long = length-take-le 8 (drop at o) (simp length-drop (omega arith))

  turn : (s : List ℕ) (i : ℕ) → i < 8 → s ≡ copying d bytes to i
      → set s (to + i) (get_or o (at + i) 0) ≡ copying d bytes to (i + 1)
  turn s i l q =
      ap (set s (to + i)) (sym (get_or-take 8 (drop at o) i 0 l ∙ get_or-drop at o i 0))
      ∙ copying_turn d bytes to s i (omega (arith, long)) (omega (arith, long)) q

  -- all eight
  abbrev byte : ℕ → ℕ
  byte i = get_or o (at + i) 0

  eight : set (set (set (set (set (set (set (set d to (get_or o at 0)) (to + 1) (byte 1)) (to + 2) (byte 2)) (to + 3) (byte 3))
      (to + 4) (byte 4)) (to + 5) (byte 5)) (to + 6) (byte 6)) (to + 7) (byte 7) ≡ pasted d to bytes
  eight =
      let zero : set d (to + 0) (get_or o (at + 0) 0) ≡ copying d bytes to 1 = turn d 0 (omega arith) (copying_none d bytes to) in
      let one : set d to (get_or o at 0) ≡ copying d bytes to 1 = rw (add-zero to, add-zero at) at zero in
      let two = turn _ 1 (omega arith) one in
      let three = turn _ 2 (omega arith) two in
      let four = turn _ 3 (omega arith) three in
      let five = turn _ 4 (omega arith) four in
      let six = turn _ 5 (omega arith) five in
      let seven = turn _ 6 (omega arith) six in
      copying_all d bytes to _ 8 (turn _ 7 (omega arith) seven) (sym long) (omega (arith, long))

returns : tie.Need-returns
returns c =
    let s = c.before.before.before.before.before.before.before.before in
    eight s.args.line.now s.args.other.now s.args.to s.args.at s.requires.0 s.requires.1

pub copy8_spec : {M : Type 1} → statement M
copy8_spec =
    tie.close
    (tie.spec
    (λ c. search rules)
    (λ c. search rules)
    (λ c. search rules)
    (λ c. search rules)
    (λ c. search rules)
    (λ c. search rules)
    (λ c. search rules)
    (λ c. search rules)
    (λ c. search rules)
    (λ c. search rules)
    (λ c. search rules)
    (λ c. search rules)
    (λ c. search rules)
    (λ c. search rules)
    (λ c. search rules)
    (λ c. search rules)
    (λ c. search rules)
    (λ c. simp length-set (omega arith))
    (λ c. search rules)
    (λ c. simp length-set (omega arith))
    (λ c. search rules)
    (λ c. simp length-set (omega arith))
    (λ c. search rules)
    (λ c. simp length-set (omega arith))
    (λ c. search rules)
    (λ c. simp length-set (omega arith))
    (λ c. search rules)
    (λ c. simp length-set (omega arith))
    (λ c. search rules)
    (λ c. simp length-set (omega arith))
    (λ c. ap length (returns c) ∙ pasted_length _ _ _)
    returns)
