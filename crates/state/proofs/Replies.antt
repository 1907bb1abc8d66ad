-- What a question returns is told apart by its numbers. Assumes nothing.
use Prim.Native.Nat.{ℕ, zero, suc}
use mathlib.Core.Path.{◌≡◌, refl}
use Rattle.std.specs.Prelude.{Result, Ok, Err}
use Rattle.slice.specs.Refusing.{told}
use Rattle.slice.specs.declared.refusal.Refusal.{Refusal}
use Rattle.slice.proofs.Replies.{read_back, reply_same, reply_tells}
use Rattle.state.specs.Asking.{Outcome, outcome_reply, Located, place_reply, Sourced, source_reply}
use Rattle.state.specs.Touched.{Looked, touched_reply}
use Rattle.state.specs.declared.question.Place.{Place}
use Rattle.state.specs.declared.question.Place.TheVariants as place
use Rattle.state.specs.declared.question.Source.{Source}
use Rattle.state.specs.declared.question.Source.TheVariants as source
use Rattle.state.specs.declared.looking.Touched.{Touched}
use Rattle.state.specs.declared.looking.Touched.TheVariants as touched

-- ---- a state or a snapshot
outcome_back : (o : Outcome) → read_back (λ k v. tt) (outcome_reply o) ≡ o
unfolding outcome_reply
outcome_back (Ok _) = refl
outcome_back (Err n) = refl

-- outcomes whose numbers are the same are the same
pub outcome_same : (a b : Outcome) → outcome_reply a ≡ outcome_reply b → a ≡ b
outcome_same = reply_same outcome_reply (λ k v. tt) outcome_back

pub outcome_told : (a b : Result Unit Refusal) → outcome_reply (told a) ≡ outcome_reply (told b) → a ≡ b
outcome_told = reply_tells outcome_reply (λ k v. tt) outcome_back

-- ---- a property's place
abbrev accepted_place : ℕ → ℕ → Place
accepted_place zero at = place.Unmentioned
accepted_place (suc zero) at = place.Permanent at
accepted_place (suc (suc zero)) at = place.Temporary at
accepted_place (suc (suc (suc k))) at = place.Unmentioned

place_back : (p : Located) → read_back accepted_place (place_reply p) ≡ p
unfolding place_reply
place_back (Ok (place.Permanent at)) = refl
place_back (Ok (place.Temporary at)) = refl
place_back (Ok place.Unmentioned) = refl
place_back (Err n) = refl

-- places whose numbers are the same are the same
pub place_same : (a b : Located) → place_reply a ≡ place_reply b → a ≡ b
place_same = reply_same place_reply accepted_place place_back

pub place_told : (a b : Result Place Refusal) → place_reply (told a) ≡ place_reply (told b) → a ≡ b
place_told = reply_tells place_reply accepted_place place_back

-- ---- which table has a property
abbrev accepted_source : ℕ → ℕ → Source
accepted_source zero v = source.Unmentioned
accepted_source (suc zero) v = source.Permanent
accepted_source (suc (suc zero)) v = source.Temporary
accepted_source (suc (suc (suc k))) v = source.Unmentioned

source_back : (s : Sourced) → read_back accepted_source (source_reply s) ≡ s
unfolding source_reply
source_back (Ok source.Permanent) = refl
source_back (Ok source.Temporary) = refl
source_back (Ok source.Unmentioned) = refl
source_back (Err n) = refl

-- sources whose numbers are the same are the same
pub source_same : (a b : Sourced) → source_reply a ≡ source_reply b → a ≡ b
source_same = reply_same source_reply accepted_source source_back

pub source_told : (a b : Result Source Refusal) → source_reply (told a) ≡ source_reply (told b) → a ≡ b
source_told = reply_tells source_reply accepted_source source_back

-- ---- whether a property is touched
abbrev accepted_touched : ℕ → ℕ → Touched
accepted_touched zero v = touched.No v
accepted_touched (suc zero) v = touched.Yes v
accepted_touched (suc (suc k)) v = touched.No v

touched_back : (a : Looked) → read_back accepted_touched (touched_reply a) ≡ a
unfolding touched_reply
touched_back (Ok (touched.Yes v)) = refl
touched_back (Ok (touched.No v)) = refl
touched_back (Err n) = refl

-- answers whose numbers are the same are the same
pub touched_same : (a b : Looked) → touched_reply a ≡ touched_reply b → a ≡ b
touched_same = reply_same touched_reply accepted_touched touched_back

pub touched_told : (a b : Result Touched Refusal) → touched_reply (told a) ≡ touched_reply (told b) → a ≡ b
touched_told = reply_tells touched_reply accepted_touched touched_back
