-- What a check returns is told apart by its numbers. Assumes nothing.
use Prim.Native.Nat.{ℕ}
use mathlib.Core.Path.{◌≡◌, refl, ap}
use Rattle.std.specs.Prelude.{List, [], ◌∷◌, get_or, Result, Ok, Err}
use Rattle.laws.specs.Replies.{Reply, refused_with, accepted_as}
use Rattle.laws.proofs.Replies.{lossless}
use Rattle.slice.specs.Refusing.{number, told}
use Rattle.slice.specs.Check.{Checked, checked_reply, Review, reviewed}
use Rattle.slice.specs.declared.refusal.Refusal.{Refusal}
use Rattle.slice.specs.declared.refusal.Refusal.TheVariants as refusal
use Rattle.slice.specs.declared.check.Failing.{Failing}

-- the refusal of a number, where it is one's: they stand in the order of their numbers
abbrev refusals : List Refusal
refusals =
    refusal.BufferSize
    ∷ refusal.TableTooShort
    ∷ refusal.LettersOrSide
    ∷ refusal.Version
    ∷ refusal.HeaderNotZero
    ∷ refusal.CountOverRoom
    ∷ refusal.RecordInTable
    ∷ refusal.RecordOrder
    ∷ refusal.DifferentFeatures
    ∷ refusal.SliceLength
    ∷ refusal.OtherFeature
    ∷ refusal.Kind
    ∷ refusal.RecordNotZero
    ∷ refusal.CancelledNotBlank
    ∷ refusal.PropertyLayout
    ∷ refusal.Times
    ∷ refusal.Content
    ∷ refusal.OtherBytes
    ∷ refusal.TableFull
    ∷ refusal.InstantOrProperty
    ∷ refusal.NoState
    ∷ refusal.TwoAnchors
    ∷ refusal.Withdrawn
    ∷ []

abbrev by_number : ℕ → Refusal
by_number n = get_or refusals n refusal.BufferSize

numbered : (f : Refusal) → by_number (number f) ≡ f
numbered refusal.TableTooShort = refl
numbered refusal.LettersOrSide = refl
numbered refusal.Version = refl
numbered refusal.HeaderNotZero = refl
numbered refusal.CountOverRoom = refl
numbered refusal.RecordInTable = refl
numbered refusal.RecordOrder = refl
numbered refusal.DifferentFeatures = refl
numbered refusal.SliceLength = refl
numbered refusal.OtherFeature = refl
numbered refusal.Kind = refl
numbered refusal.RecordNotZero = refl
numbered refusal.CancelledNotBlank = refl
numbered refusal.PropertyLayout = refl
numbered refusal.Times = refl
numbered refusal.Content = refl
numbered refusal.OtherBytes = refl
numbered refusal.TableFull = refl
numbered refusal.InstantOrProperty = refl
numbered refusal.NoState = refl
numbered refusal.TwoAnchors = refl
numbered refusal.Withdrawn = refl
numbered refusal.BufferSize = refl

-- no two refusals have one number
pub number_tells : (f g : Refusal) → number f ≡ number g → f ≡ g
number_tells = lossless number by_number numbered

-- an answer is read back from what is told of it
abbrev back : {A : Type 0} → Result A ℕ → Result A Refusal
back (Ok a) = Ok a
back (Err n) = Err (by_number n)

told_back : {A : Type 0} (r : Result A Refusal) → back (told r) ≡ r
told_back (Ok a) = refl
told_back (Err f) = ap Err (numbered f)

-- answers of which the same is told are the same
pub told_tells : {A : Type 0} (a b : Result A Refusal) → told a ≡ told b → a ≡ b
told_tells = lossless told back told_back

-- numbers read back, given what each accepted answer and its value are
abbrev pub read_back : {A : Type 0} → (ℕ → ℕ → A) → Reply → Result A ℕ
read_back accepting (refused_with n) = Err n
read_back accepting (accepted_as k v) = Ok (accepting k v)

checked_back : (c : Checked) → read_back (λ k v. tt) (checked_reply c) ≡ c
unfolding checked_reply
checked_back (Ok _) = refl
checked_back (Err n) = refl

-- answers whose numbers are the same are the same, where every answer is read back from its numbers; and answers of calls
pub reply_same : {A : Type 0} (reply : Result A ℕ → Reply) (accepting : ℕ → ℕ → A)
    → ((a : Result A ℕ) → read_back accepting (reply a) ≡ a) → (a b : Result A ℕ) → reply a ≡ reply b → a ≡ b
reply_same reply accepting = lossless reply (read_back accepting)

pub reply_tells : {A : Type 0} (reply : Result A ℕ → Reply) (accepting : ℕ → ℕ → A)
    → ((a : Result A ℕ) → read_back accepting (reply a) ≡ a) → (a b : Result A Refusal) → reply (told a) ≡ reply (told b) → a ≡ b
reply_tells reply accepting reads a b e = told_tells a b (reply_same reply accepting reads (told a) (told b) e)

-- checks that return the same numbers return the same
pub checked_same : (a b : Checked) → checked_reply a ≡ checked_reply b → a ≡ b
checked_same = reply_same checked_reply (λ k v. tt) checked_back

pub checked_told : (a b : Result Unit Refusal) → checked_reply (told a) ≡ checked_reply (told b) → a ≡ b
checked_told = reply_tells checked_reply (λ k v. tt) checked_back

-- the same of the check of records
abbrev reviewed_back : Review → Result Unit Failing
reviewed_back (Ok u) = Ok u
reviewed_back (Err (i, n)) = Err (record { place = i; refusal = by_number n })

review_back : (r : Result Unit Failing) → reviewed_back (reviewed r) ≡ r
review_back (Ok u) = refl
review_back (Err f) = ap (λ (x : Refusal). Err (record { place = f.place; refusal = x })) (numbered f.refusal)

pub reviewed_tells : (a b : Result Unit Failing) → reviewed a ≡ reviewed b → a ≡ b
reviewed_tells = lossless reviewed reviewed_back review_back
