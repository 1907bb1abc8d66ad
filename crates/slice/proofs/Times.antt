-- What right times say, kind by kind, as facts about numbers. Assumes nothing.
use Prim.Native.Nat.{ℕ, ◌≤◌, ◌<◌}
use mathlib.Core.Path.{◌≡◌}
use mathlib.Core.List.{List}
use mathlib.Core.Bool.{Bool, true, ◌||◌}
use mathlib.Core.Logic.{◌⊎◌, inl, inr}
use native.Mathlib.Omega.{arith}
use borrow.Author.Tests.{not-true}
use Rattle.laws.proofs.Tests.{and_both, or_either}
use Rattle.octets.specs.Bytes.{byte_of, be_of}
use Rattle.octets.proofs.Readers.{be_below}
use Rattle.numbers.proofs.Facts.{none_true, none_false, before_true, at_most_true, same_true}
use Rattle.numbers.specs.Numbers.{no_instant, is_none, given, before, at_most, same_instant}
use Rattle.numbers.specs.declared.Instant.{Instant}
use Rattle.slice.specs.Record.{baseline, permdelta, tempdelta}
use Rattle.slice.specs.Rules.{baseline_times, permdelta_times, tempdelta_times, times_of}
use Rattle.slice.specs.declared.record.Period.{Period}
use Rattle.slice.specs.declared.record.Life.{Life}

-- none stands above every instant that four bytes can give
pub instant_most : (s : List ℕ) (at : ℕ) → ((i : ℕ) → byte_of s i < 256) → be_of 4 s at ≤ no_instant
unfolding no_instant
instant_most s at h = omega (arith, be_below 4 s at h)

-- none, or such that a test holds
none_or : (t : Instant) (b : Bool) (P : Type 0) → (b ≡ true → P) → (is_none t || b) ≡ true → (t.0 ≡ no_instant) ⊎ P
none_or t b P f h = go (or_either (is_none t) b h)
  where
    go : (is_none t ≡ true) ⊎ (b ≡ true) → (t.0 ≡ no_instant) ⊎ P
    go (inl e) = inl (none_true t e)
    go (inr e) = inr (f e)

pub begin_given : (kind : ℕ) (p : Period) (l : Life) → times_of kind p l ≡ true → p.begin.0 ≡ no_instant → ⊥
unfolding times_of
begin_given kind p l h = none_false p.begin (not-true _ (and_both (given p.begin) _ h).0)

pub record BaselineTimes (p : Period) (l : Life) : Type 0 where
  pub end : (p.end.0 ≡ no_instant) ⊎ (p.begin.0 < p.end.0)
  pub life_begin : (l.begin.0 ≡ no_instant) ⊎ (l.begin.0 ≤ p.begin.0)
  pub life_end : (l.end.0 ≡ no_instant) ⊎ (p.begin.0 < l.end.0)
  pub in_life : (p.end.0 ≡ no_instant) ⊎ ((l.end.0 ≡ no_instant) ⊎ (p.end.0 ≤ l.end.0))

pub baseline_times_lem : (p : Period) (l : Life) → times_of baseline p l ≡ true → BaselineTimes p l
unfolding times_of baseline_times
baseline_times_lem p l h =
    let a = and_both _ _ (and_both (given p.begin) _ h).1 in
    let b = and_both _ _ a.1 in
    let c = and_both _ _ b.1 in
    record {
      end = none_or p.end (before p.begin p.end) _ (before_true p.begin p.end) a.0;
      life_begin = none_or l.begin (at_most l.begin p.begin) _ (at_most_true l.begin p.begin) b.0;
      life_end = none_or l.end (before p.begin l.end) _ (before_true p.begin l.end) c.0;
      in_life = none_or p.end (is_none l.end || at_most p.end l.end) _
          (none_or l.end (at_most p.end l.end) _ (at_most_true p.end l.end)) c.1;
    }

pub record PermdeltaTimes (p : Period) (l : Life) : Type 0 where
  pub end : p.end.0 ≡ no_instant
  pub life_begin : (l.begin.0 ≡ no_instant) ⊎ (l.begin.0 ≡ p.begin.0)
  pub life_end : (l.end.0 ≡ no_instant) ⊎ (l.end.0 ≡ p.begin.0)
  pub not_both : (l.begin.0 ≡ no_instant) ⊎ (l.end.0 ≡ no_instant)

pub permdelta_times_lem : (p : Period) (l : Life) → times_of permdelta p l ≡ true → PermdeltaTimes p l
unfolding times_of permdelta_times
permdelta_times_lem p l h =
    let a = and_both _ _ (and_both (given p.begin) _ h).1 in
    let b = and_both _ _ a.1 in
    let c = and_both _ _ b.1 in
    record {
      end = none_true p.end a.0;
      life_begin = none_or l.begin (same_instant l.begin p.begin) _ (same_true l.begin p.begin) b.0;
      life_end = none_or l.end (same_instant l.end p.begin) _ (same_true l.end p.begin) c.0;
      not_both = none_or l.begin (is_none l.end) _ (none_true l.end) c.1;
    }

pub record TempdeltaTimes (p : Period) (l : Life) : Type 0 where
  pub end : (p.end.0 ≡ no_instant) ⊎ (p.begin.0 < p.end.0)
  pub life_begin : l.begin.0 ≡ no_instant
  pub life_end : l.end.0 ≡ no_instant

pub tempdelta_times_lem : (p : Period) (l : Life) → times_of tempdelta p l ≡ true → TempdeltaTimes p l
unfolding times_of tempdelta_times
tempdelta_times_lem p l h =
    let a = and_both _ _ (and_both (given p.begin) _ h).1 in
    let b = and_both _ _ a.1 in
    record {
      end = none_or p.end (before p.begin p.end) _ (before_true p.begin p.end) a.0;
      life_begin = none_true l.begin b.0;
      life_end = none_true l.end b.1;
    }
