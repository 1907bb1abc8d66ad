-- The comparisons of each of the three numbers are a strict total order. Assumes nothing.
use mathlib.Core.Path.{◌≡◌}
use Rattle.laws.proofs.Places.{KeyOrder, by_number}
use Rattle.numbers.specs.Numbers.{before, same_instant, lower_sequence, same_sequence, lower_correction, same_correction}
use Rattle.numbers.specs.declared.SequenceNumber.{SequenceNumber}
use Rattle.numbers.specs.declared.CorrectionNumber.{CorrectionNumber}
use Rattle.numbers.specs.declared.Instant.{Instant}

-- two of one number are one
pub sequence_of_lem : (a b : SequenceNumber) → a.0 ≡ b.0 → a ≡ b
sequence_of_lem a b p i = record { 0 = p i }

pub correction_of_lem : (a b : CorrectionNumber) → a.0 ≡ b.0 → a ≡ b
correction_of_lem a b p i = record { 0 = p i }

pub instant_of_lem : (a b : Instant) → a.0 ≡ b.0 → a ≡ b
instant_of_lem a b p i = record { 0 = p i }

-- the three orders
pub sequence_order : KeyOrder lower_sequence same_sequence
unfolding lower_sequence same_sequence
sequence_order = by_number (λ a. a.0) sequence_of_lem

pub correction_order : KeyOrder lower_correction same_correction
unfolding lower_correction same_correction
correction_order = by_number (λ a. a.0) correction_of_lem

pub instant_order : KeyOrder before same_instant
unfolding before same_instant
instant_order = by_number (λ a. a.0) instant_of_lem
