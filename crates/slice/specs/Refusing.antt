-- The numbers of refusals (document 01, "Refusal numbers"), and an answer told with them. Assumes nothing.
use Rattle.std.specs.Prelude.{ℕ}
use Rattle.std.specs.Prelude.{Result, Ok, Err}
use Rattle.slice.specs.declared.refusal.Refusal.{Refusal}
use Rattle.slice.specs.declared.refusal.Refusal.TheVariants as refusal

-- 24, a derived record fails the slice check, is proved never to be given
abbrev pub number : Refusal → ℕ
number refusal.TableTooShort = 1
number refusal.LettersOrSide = 2
number refusal.Version = 3
number refusal.HeaderNotZero = 4
number refusal.CountOverRoom = 5
number refusal.RecordInTable = 6
number refusal.RecordOrder = 7
number refusal.DifferentFeatures = 8
number refusal.SliceLength = 9
number refusal.OtherFeature = 10
number refusal.Kind = 11
number refusal.RecordNotZero = 12
number refusal.CancelledNotBlank = 13
number refusal.PropertyLayout = 14
number refusal.Times = 15
number refusal.Content = 16
number refusal.OtherBytes = 17
number refusal.TableFull = 18
number refusal.InstantOrProperty = 19
number refusal.NoState = 20
number refusal.TwoAnchors = 21
number refusal.Withdrawn = 22
number refusal.BufferSize = 23

-- an answer with the number of its refusal
abbrev pub told : {A : Type 0} → Result A Refusal → Result A ℕ
told (Ok a) = Ok a
told (Err f) = Err (number f)
