-- What a function did that writes text. No public promise cites this file. Assumes nothing.
use Rattle.std.specs.Prelude.{ℕ, ◌+◌, ◌≤◌, ◌≡◌, List, length}
use Rattle.octets.specs.Writing.{pasted}

-- it wrote a text of at most so many bytes at a place of d, and answered the place behind it
pub record Wrote (most : ℕ) (d : List ℕ) (at : ℕ) (text after : List ℕ) (end : ℕ) : Type 0 where
  pub bytes : after ≡ pasted d at text
  pub next : end ≡ at + length text
  pub few : length text ≤ most
