-- What a call returns, in document 01's numbers. Assumes nothing.
use Rattle.std.specs.Prelude.{ℕ}

-- refused, with the number of the refusal; or accepted, by which of the call's accepted answers it is, counted from 1, and the
-- value that goes with it (0 where there is none)
pub data Reply : Type 0 where
  refused_with : ℕ → Reply
  accepted_as : ℕ → ℕ → Reply

-- the number of a refusal, and 0 for what is accepted
abbrev pub refusal_number : Reply → ℕ
refusal_number (refused_with n) = n
refusal_number (accepted_as k v) = 0
