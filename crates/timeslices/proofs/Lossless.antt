-- What crosses to C loses nothing: replies of equal numbers are equal, and so are the answers that they are of. Each law is said
-- twice: of answers with any number, as the definitions have them, and of the answers that the functions return. Assumes nothing.
use Prim.Native.Nat.{ℕ, zero, suc}
use mathlib.Core.Path.{◌≡◌, refl, sym, ap, ◌∙◌}
use mathlib.Core.List.{List}
use Rattle.laws.specs.Replies.{Reply, refused_with, accepted_as}
use Rattle.timeslices.specs.Answers.{numbers_of, part_of}
use Rattle.timeslices.specs.declared.Answer.{Answer}
use Rattle.timeslices.specs.declared.Part.{Part}
use Rattle.std.specs.Prelude.{Result, Ok, Err}
use Rattle.slice.specs.Refusing.{told}
use Rattle.slice.specs.Check.{checked_reply}
use Rattle.slice.specs.declared.refusal.Refusal.{Refusal}
use Rattle.slice.proofs.Replies.{told_tells}
use Rattle.table.specs.Arriving.{Creation, creation_reply, Arrived, arrival_reply}
use Rattle.table.specs.declared.arrival.Arrival.{Arrival}
use Rattle.table.specs.declared.arrival.Arrival.TheVariants as arrival
use Rattle.table.proofs.Replies.{creation_same, arrival_same}
use Rattle.state.specs.Asking.{Outcome, outcome_reply, Located, place_reply}
use Rattle.state.specs.declared.question.Place.{Place}
use Rattle.state.specs.declared.question.Place.TheVariants as place
use Rattle.state.specs.Touched.{Looked, touched_reply}
use Rattle.state.specs.declared.looking.Touched.{Touched}
use Rattle.state.specs.declared.looking.Touched.TheVariants as touched
use Rattle.state.proofs.Replies.{outcome_same, place_same, touched_same}
use Rattle.baselines.specs.Deriving.{Derivation, derivation_reply}
use Rattle.baselines.proofs.Replies.{derivation_same}
use Rattle.text.specs.Listing.{Listing, listing_reply}
use Rattle.text.proofs.Replies.{listing_told}

-- accepted answers are counted from 1
abbrev pub Counted : Reply → Type 0
Counted (refused_with n) = Unit {0}
Counted (accepted_as zero v) = ⊥
Counted (accepted_as (suc k) v) = Unit {0}

-- a reply by its kind, the number of its refusal and its value
abbrev reply_by : ℕ → ℕ → ℕ → Reply
reply_by zero n v = refused_with n
reply_by (suc k) n v = accepted_as (suc k) v

abbrev of_answer : Answer → Reply
of_answer a = reply_by a.kind a.number a.number

abbrev of_part : Part → Reply
of_part x = reply_by x.kind x.number x.at

answer_back : (r : Reply) → Counted r → of_answer (numbers_of r) ≡ r
answer_back (refused_with n) h = refl
answer_back (accepted_as zero v) h = absurd h
answer_back (accepted_as (suc k) v) h = refl

part_back : (p t : List ℕ) (r : Reply) → Counted r → of_part (part_of p t r) ≡ r
part_back p t (refused_with n) h = refl
part_back p t (accepted_as zero v) h = absurd h
part_back p t (accepted_as (suc k) v) h = refl

-- replies whose two numbers are equal are equal
pub numbers_told : (a b : Reply) → Counted a → Counted b → numbers_of a ≡ numbers_of b → a ≡ b
numbers_told a b h k e = sym (answer_back a h) ∙ ap of_answer e ∙ answer_back b k

-- and those of equal parts, whatever the tables, and without the size
pub part_told : (p t : List ℕ) (a b : Reply) → Counted a → Counted b → part_of p t a ≡ part_of p t b → a ≡ b
part_told p t a b h k e = sym (part_back p t a h) ∙ ap of_part e ∙ part_back p t b k

-- ---- a new table
creation_counted : (a : Creation) → Counted (creation_reply a)
unfolding creation_reply
creation_counted (Ok _) = tt
creation_counted (Err n) = tt

-- making a table answers as a check does
pub creation_checked : (a : Creation) → checked_reply a ≡ creation_reply a
unfolding checked_reply creation_reply
creation_checked (Ok _) = refl
creation_checked (Err n) = refl

-- new tables whose numbers in C are equal are the same answer
pub creation_crosses : (a b : Creation) → numbers_of (creation_reply a) ≡ numbers_of (creation_reply b) → a ≡ b
creation_crosses a b e = creation_same a b (numbers_told _ _ (creation_counted a) (creation_counted b) e)

pub creation_told_crosses : (a b : Result Unit Refusal) → numbers_of (creation_reply (told a)) ≡ numbers_of (creation_reply (told b)) → a ≡ b
creation_told_crosses a b e = told_tells a b (creation_crosses (told a) (told b) e)

-- ---- an arrival
arrival_counted : (a : Arrived) → Counted (arrival_reply a)
unfolding arrival_reply
arrival_counted (Ok arrival.Added) = tt
arrival_counted (Ok arrival.Replaced) = tt
arrival_counted (Ok arrival.Superseded) = tt
arrival_counted (Ok arrival.Repeat) = tt
arrival_counted (Err n) = tt

-- and arrivals
pub arrival_crosses : (a b : Arrived) → numbers_of (arrival_reply a) ≡ numbers_of (arrival_reply b) → a ≡ b
arrival_crosses a b e = arrival_same a b (numbers_told _ _ (arrival_counted a) (arrival_counted b) e)

pub arrival_told_crosses : (a b : Result Arrival Refusal) → numbers_of (arrival_reply (told a)) ≡ numbers_of (arrival_reply (told b)) → a ≡ b
arrival_told_crosses a b e = told_tells a b (arrival_crosses (told a) (told b) e)

-- ---- a state or a snapshot
outcome_counted : (a : Outcome) → Counted (outcome_reply a)
unfolding outcome_reply
outcome_counted (Ok _) = tt
outcome_counted (Err n) = tt

-- writing a state answers as a check does
pub outcome_checked : (a : Outcome) → checked_reply a ≡ outcome_reply a
unfolding checked_reply outcome_reply
outcome_checked (Ok _) = refl
outcome_checked (Err n) = refl

-- and outcomes
pub outcome_crosses : (a b : Outcome) → numbers_of (outcome_reply a) ≡ numbers_of (outcome_reply b) → a ≡ b
outcome_crosses a b e = outcome_same a b (numbers_told _ _ (outcome_counted a) (outcome_counted b) e)

pub outcome_told_crosses : (a b : Result Unit Refusal) → numbers_of (outcome_reply (told a)) ≡ numbers_of (outcome_reply (told b)) → a ≡ b
outcome_told_crosses a b e = told_tells a b (outcome_crosses (told a) (told b) e)

-- ---- whether anything temporary touches a property
touched_counted : (a : Looked) → Counted (touched_reply a)
unfolding touched_reply
touched_counted (Ok (touched.Yes n)) = tt
touched_counted (Ok (touched.No n)) = tt
touched_counted (Err n) = tt

-- and answers of yes and no, with their counts
pub touched_crosses : (a b : Looked) → numbers_of (touched_reply a) ≡ numbers_of (touched_reply b) → a ≡ b
touched_crosses a b e = touched_same a b (numbers_told _ _ (touched_counted a) (touched_counted b) e)

pub touched_told_crosses : (a b : Result Touched Refusal) → numbers_of (touched_reply (told a)) ≡ numbers_of (touched_reply (told b)) → a ≡ b
touched_told_crosses a b e = told_tells a b (touched_crosses (told a) (told b) e)

-- ---- a derivation
derivation_counted : (a : Derivation) → Counted (derivation_reply a)
unfolding derivation_reply
derivation_counted (Ok n) = tt
derivation_counted (Err n) = tt

-- and derivations
pub derivation_crosses : (a b : Derivation) → numbers_of (derivation_reply a) ≡ numbers_of (derivation_reply b) → a ≡ b
derivation_crosses a b e = derivation_same a b (numbers_told _ _ (derivation_counted a) (derivation_counted b) e)

pub derivation_told_crosses : (a b : Result ℕ Refusal) → numbers_of (derivation_reply (told a)) ≡ numbers_of (derivation_reply (told b)) → a ≡ b
derivation_told_crosses a b e = told_tells a b (derivation_crosses (told a) (told b) e)

-- ---- a listing
listing_counted : (a : Listing) → Counted (listing_reply a)
unfolding listing_reply
listing_counted (Ok n) = tt
listing_counted (Err n) = tt

-- and listings
pub listing_crosses : (a b : Listing) → numbers_of (listing_reply a) ≡ numbers_of (listing_reply b) → a ≡ b
listing_crosses a b e = listing_told a b (numbers_told _ _ (listing_counted a) (listing_counted b) e)

-- ---- a property's place
place_counted : (a : Located) → Counted (place_reply a)
unfolding place_reply
place_counted (Ok (place.Permanent n)) = tt
place_counted (Ok (place.Temporary n)) = tt
place_counted (Ok place.Unmentioned) = tt
place_counted (Err n) = tt

-- places whose parts in C are equal are the same answer, whatever the tables
pub place_crosses : (p t : List ℕ) (a b : Located) → part_of p t (place_reply a) ≡ part_of p t (place_reply b) → a ≡ b
place_crosses p t a b e = place_same a b (part_told p t _ _ (place_counted a) (place_counted b) e)

pub place_told_crosses : (p t : List ℕ) (a b : Result Place Refusal)
    → part_of p t (place_reply (told a)) ≡ part_of p t (place_reply (told b)) → a ≡ b
place_told_crosses p t a b e = told_tells a b (place_crosses p t (told a) (told b) e)
