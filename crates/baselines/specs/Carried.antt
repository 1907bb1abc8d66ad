-- A record that says a state, and the records of both lines of a sweep. No public promise cites this file. Assumes nothing.
use Rattle.std.specs.Prelude.{ℕ, ◌+◌, ◌<◌, ◌≡◌, true, cond, List, ◌++◌, map, length, take, replicate, eqb}
use Rattle.laws.specs.Lists.{joined}
use Rattle.laws.specs.Keyed.{In}
use Rattle.octets.specs.Writing.{bytes_of}
use Rattle.numbers.specs.Numbers.{none, before}
use Rattle.numbers.specs.declared.Instant.{Instant}
use Rattle.slice.specs.Record.{baseline, record_size, Property, unmentioned, Slice, view_of}
use Rattle.history.specs.Counted.{counts}
use Rattle.history.specs.State.{State, started, over}
use Rattle.history.specs.Sweep.{Seen, begun, changed, is_counted}
use Rattle.state.specs.Written.{property_bytes}
use Rattle.baselines.specs.Sweeping.{times_of}
use Rattle.baselines.specs.declared.sweeping.Sweep.{Sweep}

-- what the record of a state has behind its first 16 bytes
abbrev pub tail_of : ℕ → State → List ℕ
tail_of stride s =
    bytes_of 4 s.life.begin.0
    ++ (bytes_of 4 s.life.end.0
    ++ (replicate 8 0
    ++ joined (map (property_bytes stride) s.properties)))

-- a record says a state behind its first 16 bytes
pub record Carries (stride : ℕ) (s : State) (r : List ℕ) : Type 0 where
  pub front : List ℕ
  pub long : length front ≡ 16
  pub is : r ≡ front ++ tail_of stride s
  pub eight : length s.properties ≡ 8
  pub sized : (v : Property) → In v s.properties → length (property_bytes stride v) ≡ stride
  pub born : s.life.begin.0 < 4294967296
  pub gone : s.life.end.0 < 4294967296

-- the record of a line, and behind it the place of a property that goes nowhere
abbrev pub line_size : ℕ → ℕ
line_size stride = record_size stride + stride

abbrev pub record_of : ℕ → List ℕ → List ℕ
record_of stride l = take (record_size stride) l

-- both lines have their size
abbrev pub Lined : ℕ → List ℕ → List ℕ → Type 0
Lined stride base line = (length base ≡ line_size stride) × (length line ≡ line_size stride)

-- where a line says a state, the other one says what becomes of it
abbrev pub Turns : ℕ → (State → State) → List ℕ → List ℕ → Type 0
Turns stride turn before after =
    (s : State) → Carries stride s (record_of stride before) → Carries stride (turn s) (record_of stride after)

-- a state with the properties that a slice mentions
abbrev pub mentions_over : Slice → State → State
mentions_over d s = record { life = s.life; properties = over d.properties s.properties }

-- a state of which nothing is known
abbrev pub unknown_state : State
unknown_state = record { life = record { begin = none; end = none }; properties = replicate 8 unmentioned }

-- the line of a BASELINE where it holds at t, and that of the first opening, which is unknown before one has opened
abbrev pub line_now : Seen → State
line_now v = cond (eqb v.openings 0) unknown_state v.line

pub record Lines (stride : ℕ) (v : Seen) (t : Instant) (base line : List ℕ) : Type 0 where
  pub based : before t v.end ≡ true → Carries stride v.base (record_of stride base)
  pub opened : Carries stride (line_now v) (record_of stride line)

-- what is seen behind one more slice
abbrev pub seen_with : Seen → Slice → Seen
seen_with v x = cond (eqb x.kind baseline) (begun v x) (changed v x)

-- the record of a slice of t that counts; that of a BASELINE says the state that it starts
pub record Comes (stride : ℕ) (r : List ℕ) (t : Instant) : Type 0 where
  pub begins : (view_of stride r).period.begin ≡ t
  pub counted : is_counted (view_of stride r) ≡ true
  pub own : counts baseline (view_of stride r) ≡ true → Carries stride (started (view_of stride r)) r

-- it takes both lines on
abbrev pub GoesOn : ℕ → Sweep → List ℕ → Instant → List ℕ → List ℕ → List ℕ → List ℕ → Type 0
GoesOn stride s r t base line base' line' =
    (v : Seen) → s ≡ times_of v → Comes stride r t → Lines stride v t base line
    → Lines stride (seen_with v (view_of stride r)) t base' line'
