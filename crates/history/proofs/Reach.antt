-- DEMAND 3, SECOND HALF, on lists of slices: the answer at t goes by the slices in whose reach t lies, and a slice that is put
-- changes those only within its own reach and that of the one it replaces. Assumes nothing.
use mathlib.Core.Path.{◌≡◌, refl, sym, ap, ap₂, ◌∙◌, fun_ext}
use mathlib.Core.List.{List, ◌∷◌}
use mathlib.Core.Bool.{Bool, true, false, ◌&&◌, or-true}
use mathlib.Core.Option.{some}
use Rattle.laws.specs.Lists.{kept}
use Rattle.laws.specs.Keyed.{sorted, stored, put}
use Rattle.laws.proofs.Tests.{and_both}
use Rattle.laws.proofs.Lists.{kept_kept}
use Rattle.laws.proofs.Put.{put_kept}
use Rattle.numbers.specs.Numbers.{given, at_most, lower_sequence, same_sequence}
use Rattle.numbers.specs.declared.Instant.{Instant}
use Rattle.slice.specs.Record.{baseline, permdelta, key_less, same_key, Slice}
use Rattle.history.specs.Counted.{counts, holds, slice_key}
use Rattle.history.specs.Period.{until, baseline_reach}
use Rattle.history.specs.Anchor.{stands, opens, Anchor, based, opened, nowhere, two, only, anchor}
use Rattle.history.specs.State.{started, applied_all}
use Rattle.history.specs.Permanent.{turn_of, turn_less, same_turn, after, follows, following, unless_withdrawn, reached}
use Rattle.history.specs.Permanent.{standing_from, permanent_at}
use Rattle.history.specs.Snapshot.{valid, sequence_in, passing, overlaid, snapshot_at}
use Rattle.history.specs.Source.{line_from, line}
use Rattle.history.specs.Reach.{reaches}
use Rattle.history.proofs.Periods.{until_reach, holds_reach}

-- ---- what an answer looks at lies in reach
stands_reaches : (slices : List Slice) (t : Instant) (b : Slice) → stands slices t b ≡ true → reaches t b ≡ true
unfolding stands reaches
stands_reaches slices t b h =
    let (c, w) = and_both (counts baseline b) (holds t b.period.begin (until slices b)) h in
    rw (c, holds_reach t slices b w)

due_reaches : (t : Instant) (d : Slice) → counts permdelta d ≡ true → at_most d.period.begin t ≡ true → reaches t d ≡ true
unfolding reaches
due_reaches t d c l = rw (c, l) (or-true (counts baseline d && baseline_reach t d))

opens_reaches : (t : Instant) (d : Slice) → opens t d ≡ true → reaches t d ≡ true
unfolding opens
opens_reaches t d h =
    let (c, w) = and_both (counts permdelta d) (given d.life.begin && at_most d.period.begin t) h in
    due_reaches t d c (and_both (given d.life.begin) (at_most d.period.begin t) w).1

follows_reaches : (t : Instant) (a : Anchor) (d : Slice) → follows t a d ≡ true → reaches t d ≡ true
unfolding follows
follows_reaches t a d h =
    let (c, w) = and_both (counts permdelta d) (at_most d.period.begin t && after a d) h in
    due_reaches t d c (and_both (at_most d.period.begin t) (after a d) w).0

pub valid_reaches : (t : Instant) (d : Slice) → valid t d ≡ true → reaches t d ≡ true
unfolding valid reaches
valid_reaches t d h =
    rw (h, or-true (counts permdelta d && at_most d.period.begin t)) (or-true (counts baseline d && baseline_reach t d))

-- ---- the answer of the slices in reach is that of all
module _ (t : Instant) (slices : List Slice) where
  abbrev near : List Slice
  near = kept (reaches t) slices

  stands_near : (b : Slice) → stands near t b ≡ stands slices t b
  unfolding stands holds
  stands_near b = ap (λ (e : Bool). counts baseline b && (at_most b.period.begin t && e)) (until_reach t slices b)

  anchor_near : anchor t near ≡ anchor t slices
  unfolding anchor
  anchor_near =
      ap₂ (λ os bs. only based (only opened nowhere os) bs) (kept_kept (opens t) (reaches t) slices (opens_reaches t))
      (ap (λ test. kept test near) (fun_ext stands_near) ∙ kept_kept (stands slices t) (reaches t) slices (stands_reaches slices t))

  following_near : (a : Anchor) → following t near a ≡ following t slices a
  unfolding following
  following_near a = ap (sorted turn_of turn_less same_turn) (kept_kept (follows t a) (reaches t) slices (follows_reaches t a))

  from_near : (a : Anchor) → standing_from t near a ≡ standing_from t slices a
  unfolding reached
  from_near (based b) = ap (λ ds. unless_withdrawn t (applied_all (started b) ds)) (following_near (based b))
  from_near (opened o) = ap (λ ds. unless_withdrawn t (applied_all (started o) ds)) (following_near (opened o))
  from_near nowhere = refl
  from_near two = refl

  permanent_near : permanent_at t near ≡ permanent_at t slices
  unfolding permanent_at
  permanent_near = from_near (anchor t near) ∙ ap (standing_from t slices) anchor_near

  passing_near : passing t near ≡ passing t slices
  unfolding passing
  passing_near = ap (sorted sequence_in lower_sequence same_sequence) (kept_kept (valid t) (reaches t) slices (valid_reaches t))

  line_from_near : (a : Anchor) → line_from t near a ≡ line_from t slices a
  line_from_near (based b) = ap (λ ds. b ∷ ds) (following_near (based b))
  line_from_near (opened o) = ap (λ ds. o ∷ ds) (following_near (opened o))
  line_from_near nowhere = refl
  line_from_near two = refl

  line_near : line t near ≡ line t slices
  unfolding line
  line_near = line_from_near (anchor t near) ∙ ap (line_from t slices) anchor_near

-- slices that agree within reach make the same state, of the same slices in the same order
pub line_reach : (t : Instant) (rs rs' : List Slice) → kept (reaches t) rs ≡ kept (reaches t) rs' → line t rs ≡ line t rs'
line_reach t rs rs' p = sym (line_near t rs) ∙ ap (line t) p ∙ line_near t rs'

pub passing_reach : (t : Instant) (ts ts' : List Slice) → kept (reaches t) ts ≡ kept (reaches t) ts' → passing t ts ≡ passing t ts'
passing_reach t ts ts' q = sym (passing_near t ts) ∙ ap (passing t) q ∙ passing_near t ts'

pub permanent_reach : (t : Instant) (rs rs' : List Slice) → kept (reaches t) rs ≡ kept (reaches t) rs'
    → permanent_at t rs ≡ permanent_at t rs'
permanent_reach t rs rs' p = sym (permanent_near t rs) ∙ ap (permanent_at t) p ∙ permanent_near t rs'

pub snapshot_reach : (t : Instant) (rs rs' ts ts' : List Slice) → kept (reaches t) rs ≡ kept (reaches t) rs'
    → kept (reaches t) ts ≡ kept (reaches t) ts'
    → snapshot_at t rs ts ≡ snapshot_at t rs' ts'
unfolding snapshot_at
snapshot_reach t rs rs' ts ts' p q =
    ap₂ overlaid (passing_reach t ts ts' q) (permanent_reach t rs rs' p)

-- ---- a slice that is put
pub put_reach : (t : Instant) (s : Slice) (slices : List Slice) → reaches t s ≡ false
    → ((x : Slice) → stored slice_key key_less same_key (slice_key s) slices ≡ some x → reaches t x ≡ false)
    → kept (reaches t) (put slice_key key_less same_key s slices) ≡ kept (reaches t) slices
put_reach t = put_kept slice_key key_less same_key (reaches t)
