-- The permanent state at an instant. Assumes nothing.
use Rattle.std.specs.Prelude.{ℕ, Bool, false, cond, ◌&&◌, List}
use Rattle.laws.specs.Lists.{kept}
use Rattle.laws.specs.Orders.{lex_less}
use Rattle.laws.specs.Keyed.{sorted}
use Rattle.numbers.specs.Numbers.{given, before, at_most, same_instant, lower_sequence, same_sequence}
use Rattle.numbers.specs.declared.Instant.{Instant}
use Rattle.numbers.specs.declared.SequenceNumber.{SequenceNumber}
use Rattle.slice.specs.Record.{permdelta, Slice}
use Rattle.history.specs.Counted.{counts}
use Rattle.history.specs.Anchor.{Anchor, based, opened, nowhere, two, anchor}
use Rattle.history.specs.State.{State, started, applied_all}

-- ---- the order of PERMDELTAs: by instant, then sequence number
pub record Turn : Type 0 where
  pub instant : Instant
  pub sequence : SequenceNumber

abbrev pub turn_of : Slice → Turn
turn_of d = record { instant = d.period.begin; sequence = d.sequence }

unfoldable pub turn_less : Turn → Turn → Bool
turn_less a b =
    lex_less (before a.instant b.instant) (same_instant a.instant b.instant) (lower_sequence a.sequence b.sequence)

unfoldable pub same_turn : Turn → Turn → Bool
same_turn a b = same_instant a.instant b.instant && same_sequence a.sequence b.sequence

-- ---- those that follow an anchor
-- strictly later than a BASELINE's begin (one at the begin is already in it); after an opening one in that same order
abbrev pub after : Anchor → Slice → Bool
after (based b) d = before b.period.begin d.period.begin
after (opened o) d = turn_less (turn_of o) (turn_of d)
after nowhere d = false
after two d = false

unfoldable pub follows : Instant → Anchor → Slice → Bool
follows t a d = counts permdelta d && (at_most d.period.begin t && after a d)

unfoldable pub following : Instant → List Slice → Anchor → List Slice
following t slices a = sorted turn_of turn_less same_turn (kept (follows t a) slices)

-- ---- what the state at an instant is, or the number that it is refused with
pub data Standing : Type 0 where
  refuses : ℕ → Standing
  known : State → Standing

-- the life end is given and at most t
unfoldable pub withdrawn : Instant → State → Bool
withdrawn t s = given s.life.end && at_most s.life.end t

unfoldable pub unless_withdrawn : Instant → State → Standing
unless_withdrawn t s = cond (withdrawn t s) (refuses 22) (known s)

-- from an anchor's slice, with those that follow it applied
unfoldable pub reached : Instant → List Slice → Anchor → Slice → Standing
reached t slices a s = unless_withdrawn t (applied_all (started s) (following t slices a))

abbrev pub standing_from : Instant → List Slice → Anchor → Standing
standing_from t slices (based b) = reached t slices (based b) b
standing_from t slices (opened o) = reached t slices (opened o) o
standing_from t slices nowhere = refuses 20
standing_from t slices two = refuses 21

unfoldable pub permanent_at : Instant → List Slice → Standing
permanent_at t slices = standing_from t slices (anchor t slices)
