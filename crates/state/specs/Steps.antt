-- What the steps of a question ask and answer. No public promise cites this file. Assumes nothing.
use Rattle.std.specs.Prelude.{ℕ, zero, suc, ◌+◌, ◌-◌, ◌*◌, ◌≤◌, ◌<◌, ◌≡◌, Bool, true, false, cond, not, ◌&&◌, ◌||◌, List, []}
use Rattle.std.specs.Prelude.{◌++◌, length, get_or, take, drop, ltb, leb, eqb, Result, Ok, Err}
use Rattle.std.proofs.Math.Option.{Option, none, some}
use Rattle.laws.specs.Keyed.{In, Rising}
use Rattle.laws.specs.Refusals.{refuse}
use Rattle.numbers.specs.Numbers as numbers
use Rattle.numbers.specs.Numbers.{is_none, given, before, at_most, same_instant}
use Rattle.numbers.specs.declared.Instant.{Instant}
use Rattle.slice.specs.declared.record.Life.{Life}
use Rattle.slice.specs.declared.record.Period.{Period}
use Rattle.slice.specs.Record.{record_size, period_of, life_of, sequence_of, key_less, same_key, Slice, view_of}
use Rattle.table.specs.Header.{count_of, stride_of, record_at}
use Rattle.table.specs.Steps.{Whole}
use Rattle.history.specs.Counted.{counts, holds, slice_key}
use Rattle.history.specs.Period.{begin_of}
use Rattle.history.specs.Parts.{begun, tells, Placed, pass_from, latest_valid}
use Rattle.history.specs.Snapshot.{passing}
use Rattle.history.specs.Source.{last_mention}
use Rattle.history.specs.Permanent as State
use Rattle.history.specs.Permanent.{Turn, turn_less}
use Rattle.state.specs.Written.{nil_unknown}
use Rattle.state.specs.Asking.{slices_of, writing_tests, refused_outcome, outcome_of, Outcome, Located}
use Rattle.state.specs.declared.mention.Mark.{Mark}
use Rattle.state.specs.declared.question.Place.TheVariants as place
use Rattle.state.specs.declared.anchor.Few.{Few}
use Rattle.state.specs.declared.anchor.Few.TheVariants.{Zero, One, More}
use Rattle.state.specs.declared.anchor.Start.{Start}
use Rattle.state.specs.declared.front.Bases.{Bases}

-- ---- a table that is walked
-- its count is within its room, and its slices rise
pub record Walkable (t : List ℕ) : Type 0 where
  pub whole : Whole t
  pub rising : Rising slice_key key_less same_key (slices_of t)

-- it has a record at a place
pub record Stored (t : List ℕ) (i : ℕ) : Type 0 where
  pub whole : Whole t
  pub below : i < count_of t

-- ---- a question that writes a record
-- behind the check of its tables: 19, 23, and then the standing
abbrev pub left_of : List ℕ → Instant → List ℕ → State.Standing → Outcome
left_of p at buffer s = refuse refused_outcome (writing_tests p at buffer) (outcome_of s)

-- ---- slices
-- the slice that a record of a table says, by its place; by its place and one
abbrev pub slice_here : List ℕ → ℕ → Slice
slice_here t i = view_of (stride_of t) (record_at (record_size (stride_of t)) i t)

abbrev pub slice_no : List ℕ → ℕ → Option Slice
slice_no t zero = none
slice_no t (suc i) = some (slice_here t i)

-- it gives no life times
abbrev pub Lifeless : Slice → Type 0
Lifeless d = (is_none d.life.begin ≡ true) × (is_none d.life.end ≡ true)

-- ---- mentions
-- no mention yet
abbrev pub nothing : Mark
nothing = record { from = 0; instant = record { 0 = 0 }; sequence = record { 0 = 0 } }

-- the turn of a mention: by instant, then sequence number
abbrev pub turn_in : Mark → Turn
turn_in m = record { instant = m.instant; sequence = m.sequence }

-- a new mention where it is one and none is later
unfoldable pub later_of : Bool → Mark → Mark → Mark
later_of given' n m = cond (given' && (eqb m.from 0 || turn_less (turn_in m) (turn_in n))) n m

-- q is a part from one up to another; or a life time
unfoldable pub among : ℕ → ℕ → ℕ → Bool
among from to q = leb from q && ltb q to

unfoldable pub wanted : ℕ → ℕ → ℕ → Bool
wanted from to q = among from to q || among 8 10 q

-- the mark of the slice at a place; of what a pass has found
abbrev pub mark_of : ℕ → Slice → Mark
mark_of i d = record { from = i + 1; instant = d.period.begin; sequence = d.sequence }

abbrev pub mark_due : Option Placed → Mark
mark_due none = nothing
mark_due (some b) = mark_of b.place b.slice

-- the place of what a pass has found, and one; 0 where it has found nothing
abbrev pub place_and_one : Option Placed → ℕ
place_and_one none = 0
place_and_one (some b) = b.place + 1

-- ---- the anchor
-- a slice of a kind with t in its own period
unfoldable pub holding : ℕ → Instant → Slice → Bool
holding kind t b = counts kind b && holds t b.period.begin b.period.end

abbrev pub one_more : ℕ → Few → Few
one_more i Zero = One i
one_more i (One j) = More
one_more i More = More

-- those that pass a test: one slice more; from place i on
abbrev pub tally_with : (Slice → Bool) → Few → ℕ → Slice → Few
tally_with test few i d = cond (test d) (one_more i few) few

abbrev pub tally_from : (Slice → Bool) → ℕ → Few → List Slice → Few
tally_from test i few = pass_from (tally_with test) few i

-- of the BASELINEs that have begun: those that hold by an end of their own, the last begin, and those without an end that begin
-- there; none yet
abbrev pub no_base : Bases
no_base = record { fixed = Zero; last = record { 0 = 0 }; endless = Zero }

-- a begin closes those without an end that began before it
unfoldable pub closed_by : Instant → Bases → Bases
closed_by begin b = record {
  fixed = b.fixed;
  last = cond (before b.last begin) begin b.last;
  endless = cond (before b.last begin) Zero b.endless;
}

-- one more that has begun by t, at place i
unfoldable pub held_with : Instant → ℕ → Period → Bases → Bases
held_with t i p b = record {
  fixed = cond (before t p.end && given p.end) (one_more i b.fixed) b.fixed;
  last = b.last;
  endless = cond (before t p.end && (is_none p.end && same_instant p.begin b.last)) (one_more i b.endless) b.endless;
}

abbrev pub base_with : Instant → Bases → ℕ → Slice → Bases
base_with t b i s = cond (begun t s) (held_with t i s.period (closed_by (begin_of s) b)) b

-- from place i on
abbrev pub bases_from : Instant → ℕ → Bases → List Slice → Bases
bases_from t i b = pass_from (base_with t) b i

-- two tallies as one
abbrev pub join_few : Few → Few → Few
join_few Zero b = b
join_few (One i) Zero = One i
join_few (One i) (One j) = More
join_few (One i) More = More
join_few More b = More

-- since when a change can come after the anchor: from the begin of the only BASELINE that holds
abbrev pub since_of : List ℕ → Few → Instant
since_of p Zero = record { 0 = 0 }
since_of p (One i) = (period_of (record_at (record_size (stride_of p)) i p)).begin
since_of p More = record { 0 = 0 }

-- the place of one lies below a number
abbrev pub Below : ℕ → Few → Type 0
Below n Zero = Unit {0}
Below n (One i) = i < n
Below n More = Unit {0}

-- a mention comes after an anchor
unfoldable pub after_start : Start → Mark → Bool
after_start s m =
    cond s.based (before s.begin m.instant)
    (turn_less (record { instant = s.begin; sequence = s.sequence }) (turn_in m))

-- who tells a part last, by its place and one
unfoldable pub origin_of : Start → Bool → Mark → ℕ
origin_of s told m = cond (not (eqb m.from 0) && after_start s m) m.from (cond told (suc s.place) 0)

-- ---- the state's standing
-- the life time that a record of a table gives, by its place and one
abbrev pub life_at : ℕ → List ℕ → ℕ → Life
life_at size t zero = record { begin = numbers.none; end = numbers.none }
life_at size t (suc i) = life_of (record_at size i t)

abbrev pub start_at : Bool → ℕ → List ℕ → Start
start_at based i r = record { based = based; place = i; begin = (period_of r).begin; sequence = sequence_of r }

-- the anchor of a state that is known, or the number of the refusal
abbrev pub Standing : Type 0
Standing = Result Start ℕ

abbrev pub refused_standing : ℕ → Standing
refused_standing n = Err n

unfoldable pub unless_ended : Instant → Instant → Start → Standing
unless_ended t end s = cond (given end && at_most end t) (refused_standing 22) (Ok s)

-- from the record at a place, with the latest mention of a life end
unfoldable pub found_from : Instant → List ℕ → Mark → Bool → ℕ → Standing
found_from t p m based i =
    let size = record_size (stride_of p) in
    let r = record_at size i p in
    let s = start_at based i r in
    unless_ended t (life_at size p (origin_of s (tells 9 (view_of (stride_of p) r)) m)).end s

-- `unfolding settling` opens what a standing from a record computes by
unfoldable pub settling : Unit {0}
unfolding found_from unless_ended
settling = tt

abbrev pub standing_of : Instant → List ℕ → Few → Few → List Mark → Standing
standing_of t p Zero Zero ms = refused_standing 20
standing_of t p Zero (One i) ms = found_from t p (get_or ms 9 nothing) false i
standing_of t p Zero More ms = refused_standing 21
standing_of t p (One i) o ms = found_from t p (get_or ms 9 nothing) true i
standing_of t p More o ms = refused_standing 21

-- ---- the record of a state
-- the life times that the marks tell
abbrev pub life_from : List ℕ → Start → List Mark → Life
life_from p s ms =
    let size = record_size (stride_of p) in
    let a = view_of (stride_of p) (record_at size s.place p) in
    record {
      begin = (life_at size p (origin_of s (tells 8 a) (get_or ms 8 nothing))).begin;
      end = (life_at size p (origin_of s (tells 9 a) (get_or ms 9 nothing))).end;
    }

-- the bytes of property n that a record of a table says, by its place and one
abbrev pub said_at : List ℕ → ℕ → ℕ → List ℕ
said_at t n zero = nil_unknown (stride_of t)
said_at t n (suc i) = take (stride_of t) (drop (32 + n * stride_of t) (record_at (record_size (stride_of t)) i t))

-- property n as the mark of the permanent table, and the place and one of the temporary one, tell it; as those of all properties do
unfoldable pub property_by : List ℕ → List ℕ → Start → Mark → ℕ → ℕ → List ℕ
property_by p t s under over n =
    cond (eqb over 0)
    (said_at p n (origin_of s (tells n (view_of (stride_of p) (record_at (record_size (stride_of p)) s.place p))) under))
    (said_at t n over)

abbrev pub property_from : List ℕ → List ℕ → Start → List Mark → List ℕ → ℕ → List ℕ
property_from p t s ms os n = property_by p t s (get_or ms n nothing) (get_or os n 0) n

-- the first n of some runs of bytes, one behind the other
abbrev pub run_of : (ℕ → List ℕ) → ℕ → List ℕ
run_of f zero = []
run_of f (suc n) = run_of f n ++ f n

-- the places of the properties, and one, are those of records that are there
abbrev pub Known : ℕ → (ℕ → ℕ) → Type 0
Known count from = (q : ℕ) → q < 8 → from q ≤ count

-- what property n is written from: the anchor, and in each table the record that mentions it last, are there
pub record Told (p t : List ℕ) (s : Start) (under : Mark) (over : ℕ) : Type 0 where
  pub anchor : Stored p s.place
  pub whole : Whole t
  pub below : under.from ≤ count_of p
  pub above : over ≤ count_of t

-- what a state is written from: a buffer of the record's size, the anchor, the marks of the ten parts, and the places of the eight
-- properties in the temporary table
pub record Ready (buffer p t : List ℕ) (s : Start) (ms : List Mark) (os : List ℕ) : Type 0 where
  pub sized : length buffer ≡ record_size (stride_of p)
  pub anchor : Stored p s.place
  pub whole : Whole t
  pub ten : length ms ≡ 10
  pub eight : length os ≡ 8
  pub below : Known (count_of p) (λ q. (get_or ms q nothing).from)
  pub above : Known (count_of t) (λ q. get_or os q 0)

-- slices that come on a state: the last of them that mentions property n is the one of the place and one that is told for it; they
-- have eight properties, and give no life times
pub record Laid (t : List ℕ) (os : List ℕ) (l : List Slice) : Type 0 where
  pub last : (n : ℕ) → n < 8 → last_mention n l ≡ slice_no t (get_or os n 0)
  pub eight : (d : Slice) → In d l → length d.properties ≡ 8
  pub lifeless : (d : Slice) → In d l → Lifeless d

-- what comes on a state: for a snapshot what is valid in the temporary table, else nothing; of a property, the place of its last
-- mention and one
abbrev pub coming : Bool → Instant → List ℕ → List Slice
coming snapshot at t = cond snapshot (passing at (slices_of t)) []

abbrev pub coming_at : Bool → Instant → List ℕ → ℕ → ℕ
coming_at snapshot at t q = cond snapshot (place_and_one (latest_valid q at (slices_of t))) 0

-- ---- where a property begins
-- property n of a record, by the record's place and one
abbrev pub place_from : List ℕ → ℕ → ℕ → ℕ
place_from t from n = 32 + (from - 1) * record_size (stride_of t) + 32 + n * stride_of t

-- by the latest mention in each table
unfoldable pub placed_by : List ℕ → List ℕ → Start → Mark → ℕ → ℕ → Located
placed_by p t s under over n =
    let k = origin_of s (tells n (view_of (stride_of p) (record_at (record_size (stride_of p)) s.place p))) under in
    cond (eqb over 0) (cond (eqb k 0) (Ok place.Unmentioned) (Ok (place.Permanent (place_from p k n))))
    (Ok (place.Temporary (place_from t over n)))
