-- Has anything temporary touched a property at an instant: the refusals in order, and the answers (document 02, Q-1).
-- Assumes nothing.
use Rattle.std.specs.Prelude.{ℕ, ◌≡◌, cond, List, ◌++◌, Result, Ok, Err}
use Rattle.laws.specs.Lists.{any}
use Rattle.laws.specs.Refusals.{refuse}
use Rattle.laws.specs.Replies.{Reply, refused_with, accepted_as}
use Rattle.numbers.specs.declared.Instant.{Instant}
use Rattle.slice.specs.Record.{Slice}
use Rattle.table.specs.Header.{stride_of}
use Rattle.table.specs.Rules.{table_tests}
use Rattle.table.specs.declared.check.Sides.TheVariants.{Temporary}
use Rattle.history.specs.Touched.{touches, looked}
use Rattle.state.specs.Asking.{slices_of, asking_tests, Located}
use Rattle.state.specs.declared.question.Place.TheVariants as place
use Rattle.state.specs.declared.looking.Touched.{Touched}
use Rattle.state.specs.declared.looking.Touched.TheVariants as touched

-- what the question returns: yes or no, or the number of the refusal
abbrev pub Looked : Type 0
Looked = Result Touched ℕ

abbrev pub refused_touched : ℕ → Looked
refused_touched n = Err n

-- yes where some slice touches property n, with how many were looked at from the end
unfoldable pub touched_by : Instant → ℕ → List Slice → Looked
touched_by at n slices =
    cond (any (touches at n) slices) (Ok (touched.Yes (looked (touches at n) slices)))
    (Ok (touched.No (looked (touches at n) slices)))

-- the temporary table's 1-7, then 19
unfoldable pub touched_of : List ℕ → Instant → ℕ → Looked
touched_of t at n = refuse refused_touched (table_tests (stride_of t) Temporary t ++ asking_tests at n) (touched_by at n (slices_of t))

-- in numbers: yes, 1, or no, 2, and how many records were looked at
unfoldable pub touched_reply : Looked → Reply
touched_reply (Ok (touched.Yes n)) = accepted_as 1 n
touched_reply (Ok (touched.No n)) = accepted_as 2 n
touched_reply (Err f) = refused_with f

-- yes, no or the refusal, without how many records were looked at
abbrev pub uncounted : Looked → Reply
uncounted (Ok (touched.Yes n)) = accepted_as 1 0
uncounted (Ok (touched.No n)) = accepted_as 2 0
uncounted (Err f) = refused_with f

-- an answer is yes where the property question answers with the temporary table, and no where it answers with the permanent one or
-- "unmentioned"; where it is refused nothing is said
abbrev pub AnsweredBy : Located → Looked → Type 0
AnsweredBy (Ok (place.Permanent k)) a = uncounted a ≡ accepted_as 2 0
AnsweredBy (Ok (place.Temporary k)) a = uncounted a ≡ accepted_as 1 0
AnsweredBy (Ok place.Unmentioned) a = uncounted a ≡ accepted_as 2 0
AnsweredBy (Err f) a = Unit {0}

-- two temporary tables answer alike, the count apart
abbrev pub SameTouched : Instant → List ℕ → List ℕ → ℕ → Type 0
SameTouched at t t' n = uncounted (touched_of t' at n) ≡ uncounted (touched_of t at n)
