-- A sweep over the counted slices of a table in order of their begins: what it has seen by an instant. No public promise cites
-- this
-- file. Assumes nothing.
use Rattle.std.specs.Prelude.{ℕ, suc, ◌≡◌, Bool, true, false, cond, not, ◌&&◌, ◌||◌, List, [], ◌∷◌, eqb, ltb}
use Rattle.std.proofs.Math.Option.{Option, none as nobody, some}
use Rattle.laws.specs.Keyed.{In}
use Rattle.laws.specs.Orders.{lex_less}
use Rattle.numbers.specs.Numbers.{none, given, before, at_most, same_instant}
use Rattle.numbers.specs.declared.Instant.{Instant}
use Rattle.slice.specs.Record.{baseline, permdelta, key_less, Slice}
use Rattle.history.specs.Counted.{counts, slice_key}
use Rattle.history.specs.State.{State, started, applied}
use Rattle.history.specs.Permanent.{Standing, refuses, unless_withdrawn}

-- ---- what is seen: the begin and the end of the BASELINE that began last, what its line has made (it and the changes behind its
-- begin), what the line of the first opening PERMDELTA has made, how many have opened, and whether a BASELINE began while another
-- held
pub record Seen : Type 0 where
  pub begin : Instant
  pub end : Instant
  pub base : State
  pub line : State
  pub openings : ℕ
  pub two : Bool

-- before the first slice: an end at 0 is before no instant
abbrev pub blank : State
blank = record { life = record { begin = none; end = none }; properties = [] }

abbrev pub nothing : Seen
nothing = record { begin = none; end = record { 0 = 0 }; base = blank; line = blank; openings = 0; two = false }

-- a BASELINE begins: the one before it must have begun earlier, and must be over or without end, which it has then
unfoldable pub meets : Instant → Instant → Instant → Bool
meets begin end t = same_instant begin t || (given end && before t end)

unfoldable pub begun : Seen → Slice → Seen
begun s b = record {
  begin = b.period.begin;
  end = b.period.end;
  base = started b;
  line = s.line;
  openings = s.openings;
  two = s.two || meets s.begin s.end b.period.begin;
}

-- a PERMDELTA: it goes to the line of the BASELINE, unless that begins there, and to that of the opening; the first to open
-- begins it
unfoldable pub changed : Seen → Slice → Seen
changed s d = record {
  begin = s.begin;
  end = s.end;
  base = cond (same_instant s.begin d.period.begin) s.base (applied s.base d);
  line = cond (eqb s.openings 0) (started d) (applied s.line d);
  openings = cond (given d.life.begin) (suc s.openings) s.openings;
  two = s.two;
}

-- some slices, the latest first
abbrev pub seen : List Slice → Seen
seen [] = nothing
seen (x ∷ xs) = cond (eqb x.kind baseline) (begun (seen xs) x) (changed (seen xs) x)

-- the BASELINE that began last, and the first PERMDELTA that opened
abbrev pub last_base : List Slice → Option Slice
last_base [] = nobody
last_base (x ∷ xs) = cond (eqb x.kind baseline) (some x) (last_base xs)

abbrev pub or_opens : Option Slice → Slice → Option Slice
or_opens (some o) x = some o
or_opens nobody x = cond (not (eqb x.kind baseline) && given x.life.begin) (some x) nobody

abbrev pub first_open : List Slice → Option Slice
first_open [] = nobody
first_open (x ∷ xs) = or_opens (first_open xs) x

-- ---- what it tells of an instant
-- two anchors: BASELINEs that met, or two openings where no BASELINE holds
unfoldable pub tells_two : Seen → Instant → Bool
tells_two s t = s.two || (not (before t s.end) && ltb 1 s.openings)

-- the permanent state, where there are no two
unfoldable pub tells : Seen → Instant → Standing
tells s t =
    cond (before t s.end) (unless_withdrawn t s.base) (cond (eqb s.openings 1) (unless_withdrawn t s.line) (refuses 20))

-- the next change instant, given the next of the begins and the life ends
unfoldable pub tells_next : Seen → Instant → Instant → Instant
tells_next s t next = cond (before t s.end) (cond (before next s.end) next s.end) next

-- ---- the slices of an instant: all that count and have begun by it, the latest first
unfoldable pub is_counted : Slice → Bool
is_counted s = counts baseline s || counts permdelta s

-- one comes behind another: by the begin, and at one begin by the key
unfoldable pub comes_behind : Slice → Slice → Bool
comes_behind d e =
    lex_less (before e.period.begin d.period.begin) (same_instant e.period.begin d.period.begin)
    (key_less (slice_key e) (slice_key d))

-- each of some comes behind all that stand after it
abbrev pub Falling : List Slice → Type 0
Falling [] = Unit {0}
Falling (x ∷ xs) = ((y : Slice) → In y xs → comes_behind x y ≡ true) × Falling xs

pub record Passed (slices : List Slice) (t : Instant) (xs : List Slice) : Type 0 where
  pub falling : Falling xs
  pub within : (x : Slice) → In x xs → In x slices × (is_counted x ≡ true) × (at_most x.period.begin t ≡ true)
  pub covers : (x : Slice) → In x slices → is_counted x ≡ true → at_most x.period.begin t ≡ true → In x xs
