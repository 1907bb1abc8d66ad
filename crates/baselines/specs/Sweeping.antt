-- What a sweep has seen, from times alone. No public promise cites this file. Assumes nothing.
use Rattle.std.specs.Prelude.{ℕ, ◌+◌, Bool, cond, not, ◌&&◌, ◌||◌, List, eqb, ltb}
use Rattle.numbers.specs.Numbers.{is_none, before, same_instant}
use Rattle.numbers.specs.declared.Instant.{Instant}
use Rattle.slice.specs.Record.{baseline, kind_of, period_of, life_of}
use Rattle.slice.specs.declared.record.Life.{Life}
use Rattle.history.specs.State.{new_time}
use Rattle.history.specs.Sweep.{Seen, meets}
use Rattle.baselines.specs.declared.sweeping.Sweep.{Sweep}

-- the times of what is seen: of the states that the lines have made, their life ends
abbrev pub times_of : Seen → Sweep
times_of v = record {
  begin = v.begin;
  end = v.end;
  gone = v.base.life.end;
  left = v.line.life.end;
  openings = v.openings;
  two = v.two;
}

-- behind a BASELINE that begins at t with an end and a life end
unfoldable pub begun_with : Sweep → Instant → Instant → Instant → Sweep
begun_with s t end gone = record {
  begin = t;
  end = end;
  gone = gone;
  left = s.left;
  openings = s.openings;
  two = s.two || meets s.begin s.end t;
}

-- behind a PERMDELTA of t with a life
unfoldable pub changed_with : Sweep → Instant → Life → Sweep
changed_with s t life = record {
  begin = s.begin;
  end = s.end;
  gone = cond (same_instant s.begin t) s.gone (new_time life.end s.gone);
  left = cond (eqb s.openings 0) life.end (new_time life.end s.left);
  openings = s.openings + cond (is_none life.begin) 0 1;
  two = s.two;
}

-- what it tells of t: a state, two anchors, the next change instant
unfoldable pub is_known : Sweep → Instant → Bool
is_known s t = cond (before t s.end) (before t s.gone) (eqb s.openings 1 && before t s.left)

unfoldable pub is_two : Sweep → Instant → Bool
is_two s t = s.two || (not (before t s.end) && ltb 1 s.openings)

unfoldable pub next_with : Sweep → Instant → Instant → Instant
next_with s t next = cond (before t s.end && not (before next s.end)) s.end next

-- behind a record of t
unfoldable pub passed_with : Sweep → List ℕ → Instant → Sweep
passed_with s r t =
    cond (eqb (kind_of r) baseline) (begun_with s t (period_of r).end (life_of r).end) (changed_with s t (life_of r))
