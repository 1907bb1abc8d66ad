-- A derived BASELINE has right times (15) and mentions every property (16). Assumes nothing.
use Prim.Native.Nat.{ℕ, ◌≤◌, ◌<◌}
use mathlib.Core.Path.{◌≡◌, refl, ap}
use mathlib.Core.List.{List, [], ◌∷◌, map}
use mathlib.Core.Bool.{Bool, true, false, ◌&&◌, ◌||◌}
use mathlib.Core.Logic.{◌⊎◌, inl, inr, ⊎_elim}
use mathlib.Core.Option.{Option, none, some}
use Rattle.laws.specs.Lists.{all, kept}
use Rattle.laws.specs.Keyed.{In}
use Rattle.laws.proofs.Tests.{tests, by-test, and_both}
use Rattle.laws.proofs.Lists.{kept_in}
use Rattle.numbers.specs.Numbers.{no_instant, is_none, given, before, at_most}
use Rattle.numbers.specs.declared.Instant.{Instant}
use Rattle.numbers.proofs.Facts.{none_true}
use Rattle.slice.specs.Record.{baseline, permdelta, Property, unmentioned, says, is_mentioned, Slice}
use Rattle.slice.specs.Rules.{baseline_times, times_of, times_right, content_of, content_right}
use Rattle.slice.specs.declared.record.Period.{Period}
use Rattle.slice.specs.declared.record.Life.{Life}
use Rattle.slice.proofs.Times.{BaselineTimes}
use Rattle.history.specs.Counted.{counts, holds}
use Rattle.history.specs.Period.{until}
use Rattle.history.specs.Anchor.{stands, opens, Anchor, based, opened, nowhere, two, only, anchor}
use Rattle.history.specs.State.{State}
use Rattle.history.specs.Permanent.{after, follows, following, known, withdrawn, permanent_at}
use Rattle.history.specs.Source.{last_of, line_from, line}
use Rattle.history.specs.Parts.{tells}
use Rattle.history.specs.Changes.{change_instants}
use Rattle.history.specs.Derived.{Stretch, stretches, filled_in, baseline_of}
use Rattle.history.proofs.Parts.{last_in, begin_in, line_begin, following_in}
use Rattle.history.proofs.Line.{Within, only_within, known_line}
use Rattle.history.proofs.Changes.{changes_rising, changes_given}
use Rattle.history.proofs.Steady.{Timely, known_life}
use Rattle.history.proofs.Stretches.{stretched, stretch_next}
use Rattle.history.proofs.ReadBack.{known_stays}

-- a BASELINE or a PERMDELTA that counts
abbrev pub Counting : Slice → Type 0
Counting d = (counts baseline d ≡ true) ⊎ (counts permdelta d ≡ true)

-- ---- the slices that make a state count, and begin no later than its instant
module _ (t : Instant) (slices : List Slice) where
  abbrev begun : Slice → Bool
  begun d = at_most d.period.begin t

  anchor_begun : Within (kept begun slices) (anchor t slices)
  unfolding anchor stands opens holds
  anchor_begun =
      only_within (kept begun slices) based (only opened nowhere (kept (opens t) slices)) (kept (stands slices t) slices)
      (λ b m. let (i, y) = (kept_in (stands slices t) slices b).0 m in
      let (c, h) = and_both (counts baseline b) (holds t b.period.begin (until slices b)) y in
      ((kept_in begun slices b).1 (i, (and_both (begun b) (before t (until slices b)) h).0), c))
      (only_within (kept begun slices) opened nowhere (kept (opens t) slices)
      (λ o m. let (i, y) = (kept_in (opens t) slices o).0 m in
      let (c, h) = and_both (counts permdelta o) (given o.life.begin && begun o) y in
      ((kept_in begun slices o).1 (i, (and_both (given o.life.begin) (begun o) h).1), c))
      tt)

  follower_begun : (a : Anchor) (d : Slice) → In d (following t slices a) → In d (kept begun slices) × Counting d
  unfolding follows
  follower_begun a d m =
      let (i, y) = following_in t slices a d m in
      let (c, h) = and_both (counts permdelta d) (begun d && after a d) y in
      ((kept_in begun slices d).1 (i, (and_both (begun d) (after a d) h).0), inr c)

  pub line_begun : (d : Slice) → In d (line t slices) → In d slices × Counting d × (d.period.begin.0 ≤ t.0)
  unfolding line at_most
  line_begun d m =
      let (i, c) = go (anchor t slices) anchor_begun m in
      let (j, y) = (kept_in begun slices d).0 i in
      (j, c, omega tests)
    where
      go : (a : Anchor) → Within (kept begun slices) a → In d (line_from t slices a) → In d (kept begun slices) × Counting d
      go (based b) (i, c) (inl e) = rw e (i, inl c)
      go (based b) w (inr m) = follower_begun (based b) d m
      go (opened o) (i, c) (inl e) = rw e (i, inr c)
      go (opened o) w (inr m) = follower_begun (opened o) d m
      go nowhere w m = absurd m
      go two w m = absurd m

-- ---- the life of a state
-- the life begin of a slice that counts is none or at most its begin (the check of times asks it, 15)
abbrev pub Born : List Slice → Type 0
Born slices = (d : Slice) → In d slices → Counting d → (d.life.begin.0 ≡ no_instant) ⊎ (d.life.begin.0 ≤ d.period.begin.0)

module _ (slices : List Slice) (t : Instant) (s : State) (h : permanent_at t slices ≡ known s) where
  -- its begin is none or at most t
  state_born : Born slices → (s.life.begin.0 ≡ no_instant) ⊎ (s.life.begin.0 ≤ t.0)
  state_born born =
      let (a, ds, e, q) = known_line t slices s h in
      rw (q, line_begin a ds) (go a ds e (last_of (tells 8) none (a ∷ ds)) refl)
    where
      go : (a : Slice) (ds : List Slice) → line t slices ≡ a ∷ ds → (v : Option Slice) → last_of (tells 8) none (a ∷ ds) ≡ v
          → ((begin_in v).0 ≡ no_instant) ⊎ ((begin_in v).0 ≤ t.0)
      go a ds e none q = inl refl
      go a ds e (some d) q =
          let (i, c, l) = line_begun t slices d (rw e (last_in (tells 8) (a ∷ ds) d q).0) in
          ⊎_elim inl (λ k. inr (omega tests)) (born d i c)

  -- its end is none or after t
  state_stays : (s.life.end.0 ≡ no_instant) ⊎ (t.0 < s.life.end.0)
  unfolding withdrawn at_most
  state_stays =
      by-test (is_none s.life.end) (λ y. inl (none_true s.life.end y))
      (λ n. let o : at_most s.life.end t ≡ false = rw n at (known_stays t slices s h) in inr (omega tests))

-- ---- right times, from the facts about numbers
none_or : (x : Instant) (b : Bool) → (x.0 ≡ no_instant) ⊎ (b ≡ true) → (is_none x || b) ≡ true
unfolding is_none
none_or x b h = by-test (is_none x) (λ y. rw y) (λ n. rw n (⊎_elim (λ e. absurd (omega tests)) (λ e. e) h))

times_baseline : (p : Period) (l : Life) → given p.begin ≡ true → BaselineTimes p l → times_of baseline p l ≡ true
unfolding times_of baseline_times before at_most
times_baseline p l g h =
    let end = none_or p.end (before p.begin p.end) (⊎_elim inl (λ k. inr (omega tests)) h.end) in
    let born = none_or l.begin (at_most l.begin p.begin) (⊎_elim inl (λ k. inr (omega tests)) h.life_begin) in
    let gone = none_or l.end (before p.begin l.end) (⊎_elim inl (λ k. inr (omega tests)) h.life_end) in
    let within =
    none_or p.end (is_none l.end || at_most p.end l.end)
    (⊎_elim inl (λ e. inr (none_or l.end (at_most p.end l.end) (⊎_elim inl (λ k. inr (omega tests)) e))) h.in_life) in
    rw (g, end, born, gone, within)

-- ---- a derived BASELINE
module _ (unknown : List ℕ) (slices : List Slice) (n : ℕ) (s : Stretch) where
  -- the end is at most the life end, since a life end after the begin is a change instant
  pub drawn_times : Timely slices → Born slices → In s (stretches slices) → times_right (baseline_of unknown n s) ≡ true
  unfolding times_right baseline_of stretches
  drawn_times ok born m =
      let h = stretched slices (change_instants slices) s m in
      let next = stretch_next slices (change_instants slices) (changes_rising slices) (changes_given slices) s m in
      let stays = state_stays slices s.period.begin s.state h.has in
      let change = known_life slices ok s.period.begin s.state h.has in
      times_baseline s.period s.state.life (changes_given slices s.period.begin h.begins) (record {
        end = next.ahead;
        life_begin = state_born slices s.period.begin s.state h.has born;
        life_end = stays;
        in_life = inr
            (⊎_elim inl
            (λ l. ⊎_elim (λ e. inl (ap (λ i. i.0) e)) (λ i. inr (next.least s.state.life.end i l)) change) stays);
      })

  pub drawn_content : content_right (baseline_of unknown n s) ≡ true
  unfolding content_right content_of baseline_of
  drawn_content = go s.state.properties
    where
      go : (ps : List Property) → all is_mentioned (map (filled_in unknown) ps) ≡ true
      go [] = refl
      go (unmentioned ∷ ps) = go ps
      go (says p ∷ ps) = go ps
