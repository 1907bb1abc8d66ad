-- What the events of a sound table are, in order: the begins of the records that count, with their places, and the life ends of
-- the BASELINEs that count. Assumes nothing.
use Prim.Native.Nat.{ℕ, zero, suc, ◌+◌, ◌≤◌, ◌<◌}
use mathlib.Core.Path.{◌≡◌, refl, sym, ap, ◌∙◌, subst}
use mathlib.Core.List.{List, [], ◌∷◌, ◌++◌}
use mathlib.Core.Bool.{true, false, not}
use mathlib.Core.Logic.{◌⊎◌, inl, inr, ⊎_elim}
use native.Mathlib.Omega.{arith}
use lib.ListN.{length, get_or, length-append}
use lib.Dec.{eqb}
use borrow.Author.Tests.{eq-eqb}
use Rattle.laws.specs.Keyed.{In}
use Rattle.laws.proofs.Tests.{tests, pick_ind, by-test, contrary, iff, and_both, or_either}
use Rattle.laws.proofs.Lists.{get_or_in, in_at}
use Rattle.octets.specs.Bytes.{byte_of, be_of, each, there, filled, Bytes}
use Rattle.octets.proofs.Runs.{filled_join}
use Rattle.octets.proofs.Stored.{digits_full}
use Rattle.numbers.specs.Numbers.{no_instant, is_none, given}
use Rattle.numbers.specs.declared.Instant.{Instant}
use Rattle.events.specs.Order.{time_of, place_of, event_of, in_order, Pairs}
use Rattle.events.proofs.Ordering.{time_of_event, place_of_event, order_in, in_order_lem, order_length, Ordered, order_pairs}
use Rattle.slice.specs.Record.{baseline, permdelta, of_side, period_of, life_of, Slice, view_of}
use Rattle.slice.specs.Rules.{times_of, times_right}
use Rattle.std.specs.Prelude.{Ok}
use Rattle.slice.proofs.Times.{begin_given, baseline_times_lem}
use Rattle.table.specs.Header.{side_of, count_of}
use Rattle.table.specs.Rules.{check_table}
use Rattle.table.specs.declared.check.Sides.TheVariants.{Permanent}
use Rattle.table.proofs.Sound.{sound_table}
use Rattle.table.proofs.Stays.{sound_in}
use Rattle.history.specs.Counted.{counts}
use Rattle.history.specs.Sweep.{is_counted}
use Rattle.history.proofs.Orders.{counts_kind, uncancelled}
use Rattle.history.proofs.Selection.{append_in}
use Rattle.state.specs.Asking.{slices_of}
use Rattle.state.proofs.Slices.{slices_length, slice_at_lem, slice_view}
use Rattle.baselines.specs.Noting.{nowhere, notes, begins, gone_of, life_ends, noted}
use Rattle.baselines.proofs.Noted.{slice_bounded, slice_at, roomy, count_most}
use Rattle.baselines.proofs.Passes.{low, counted_right, kind_times}

-- ---- the times that some slices give, the first of which stands at place i
module _ (time : Slice → Instant) (place : ℕ → ℕ) where
  notes_in : (i : ℕ) (l : List Slice) (d : Slice) (e : ℕ) → In e (notes time place i l)
      → (k : ℕ) × (k < length l) × (given (time (get_or l k d)) ≡ true) × (e ≡ event_of (time (get_or l k d)) (place (i + k)))
  notes_in i [] d e m = elim m [ ]
  notes_in i (x ∷ xs) d e m =
      let later : In e (notes time place (suc i) xs) → (k : ℕ) × (k < suc (length xs))
      × (given (time (get_or (x ∷ xs) k d)) ≡ true) × (e ≡ event_of (time (get_or (x ∷ xs) k d)) (place (i + k))) =
      λ n. let (k, h, g, q) = notes_in (suc i) xs d e n in
      let z : suc i + k ≡ i + suc k = omega arith in
      (suc k, omega arith, g, q ∙ ap (λ (j : ℕ). event_of (time (get_or xs k d)) (place j)) z) in
      let z : i ≡ i + 0 = omega arith in
      by-test (given (time x))
      (λ g. ⊎_elim (λ q. (0, omega arith, g, q ∙ ap (λ (j : ℕ). event_of (time x) (place j)) z)) later (rw g at m))
      (λ g. later (rw g at m))

  in_notes : (i : ℕ) (l : List Slice) (k : ℕ) (d : Slice) → k < length l → given (time (get_or l k d)) ≡ true
      → In (event_of (time (get_or l k d)) (place (i + k))) (notes time place i l)
  in_notes i [] k d h g = absurd (omega arith)
  in_notes i (x ∷ xs) zero d h g =
      let z : i + 0 ≡ i = omega arith in
      rw g (inl (ap (λ (j : ℕ). event_of (time x) (place j)) z))
  in_notes i (x ∷ xs) (suc k) d h g =
      let e = time (get_or xs k d) in
      let z : suc i + k ≡ i + suc k = omega arith in
      let n = subst (λ j. In (event_of e (place j)) (notes time place (suc i) xs)) z (in_notes (suc i) xs k d (omega arith) g) in
      pick_ind (In (event_of e (place (i + suc k)))) (given (time x)) (λ _. inr n) (λ _. n)

  notes_length : (i : ℕ) (l : List Slice) → length (notes time place i l) ≤ length l
  notes_length i [] = omega arith
  notes_length i (x ∷ xs) =
      let n = notes_length (suc i) xs in
      pick_ind (λ k. length k ≤ suc (length xs)) (given (time x)) (λ _. omega arith) (λ _. omega arith)

-- one that gives a life end is a BASELINE
gone_given : (b : Slice) → given (gone_of b) ≡ true → (eqb b.kind baseline ≡ true) × (gone_of b ≡ b.life.end)
unfolding is_none no_instant
gone_given b g = by-test (eqb b.kind baseline) (λ k. (k, rw k)) (λ n. contrary (rw n at g) refl)

-- ---- as they stand: by place, and the life ends behind
abbrev pub Behind : ℕ → ℕ → Type 0
Behind e f = (place_of e < place_of f) ⊎ (place_of f ≡ nowhere)

late_pairs : (l : List ℕ) → ((f : ℕ) → In f l → place_of f ≡ nowhere) → Pairs Behind l
late_pairs [] h = tt
late_pairs (e ∷ es) h = (λ f m. inr (h f (inr m)), late_pairs es (λ f m. h f (inr m)))

begins_pairs : (i : ℕ) (l : List Slice) (rest : List ℕ) → i + length l ≤ nowhere → ((f : ℕ) → In f rest → place_of f ≡ nowhere)
    → Pairs Behind (begins i l ++ rest)
begins_pairs i [] rest h late = late_pairs rest late
begins_pairs i (x ∷ xs) rest h late =
    let more = begins_pairs (suc i) xs rest (omega arith) late in
    let here : place_of (event_of x.period.begin i) ≡ i = place_of_event x.period.begin i (omega arith) in
    pick_ind (λ l. Pairs Behind (l ++ rest)) (given x.period.begin)
    (λ _. (
      λ f m. ⊎_elim
          (λ n. let (k, s, _, q) = notes_in (λ s. s.period.begin) (λ j. j) (suc i) xs x f n in
          let place : place_of f ≡ suc i + k =
          ap place_of q ∙ place_of_event (get_or xs k x).period.begin (suc i + k) (omega arith) in
          inl (omega arith))
          (λ n. inr (late f n)) ((append_in (begins (suc i) xs) rest f).0 m),
      more,
    ))
    (λ _. more)

ends_nowhere : (l : List Slice) (f : ℕ) → In f (life_ends 0 l) → place_of f ≡ nowhere
ends_nowhere [] f m = elim m [ ]
ends_nowhere (x ∷ xs) f m =
    let (k, _, _, q) = notes_in gone_of (λ _. nowhere) 0 (x ∷ xs) x f m in
    ap place_of q ∙ place_of_event (gone_of (get_or (x ∷ xs) k x)) nowhere (omega arith)

-- ---- a cancelled record gives no time
full_none : (r : List ℕ) (at : ℕ) → filled 255 4 r at ≡ true → eqb (be_of 4 r at) no_instant ≡ true
unfolding filled be_of no_instant
full_none r at h =
    let (p, q) = and_both (there 4 r at) (each (λ i. eqb (byte_of r i) 255) 4 at) h in
    rw p (rw (digits_full r 255 4 at q))

full_timeless : (r : List ℕ) → filled 255 16 r 8 ≡ true
    → (is_none (period_of r).begin ≡ true) × (is_none (life_of r).end ≡ true)
unfolding is_none
full_timeless r h =
    let (a, b) = and_both (filled 255 4 r 8) (filled 255 12 r 12) (sym (filled_join 255 4 12 r 8) ∙ h) in
    let (_, d) = and_both (filled 255 8 r 12) (filled 255 4 r 20) (sym (filled_join 255 8 4 r 12) ∙ b) in
    (full_none r 8 a, full_none r 20 d)

-- ---- the events of a table
-- that of a record has its begin and its place, and the record counts
abbrev pub IsBegin : List ℕ → ℕ → Type 0
IsBegin p e =
    (place_of e < count_of p) × ((slice_at p (place_of e)).period.begin ≡ time_of e) × (is_counted (slice_at p (place_of e)) ≡ true)

-- others are the life ends of BASELINEs
abbrev pub IsGone : List ℕ → ℕ → Type 0
IsGone p e =
    (place_of e ≡ nowhere) × (b : Slice) × In b (slices_of p) × (counts baseline b ≡ true) × (b.life.end ≡ time_of e)
    × (given (time_of e) ≡ true)

-- some events are those of a sound table, each of them, in order
pub record Eventful (p E : List ℕ) : Type 0 where
  pub bytes : Bytes p
  pub sound : check_table Permanent p ≡ Ok tt
  pub from : (e : ℕ) → In e E → IsBegin p e ⊎ IsGone p e
  pub begin : (x : Slice) → In x (slices_of p) → is_counted x ≡ true
      → (e : ℕ) × In e E × (place_of e < count_of p) × (slice_at p (place_of e) ≡ x) × (time_of e ≡ x.period.begin)
  pub gone : (b : Slice) → In b (slices_of p) → counts baseline b ≡ true → given b.life.end ≡ true
      → (e : ℕ) × In e E × (time_of e ≡ b.life.end)
  pub order : Pairs (Ordered Behind) E
  pub few : length E ≤ 512

module _ (p : List ℕ) (bytes : Bytes p) (sound : check_table Permanent p ≡ Ok tt) where
  abbrev slices : List Slice
  slices = slices_of p

  -- ---- its slices
  -- each gives no time, or is not cancelled
  timeless_or : (d : Slice) → In d slices
      → ((is_none d.period.begin ≡ true) × (is_none d.life.end ≡ true)) ⊎ (d.cancelled ≡ false)
  unfolding view_of
  timeless_or d m =
      let (r, n, e) = slice_view p d m in
      ⊎_elim (λ x. inl (rw e (full_timeless r x.timeless))) (λ k. inr (rw e k.uncancelled))
      (sound_in Permanent p sound r n).rest

  -- each is a BASELINE or a PERMDELTA
  two_kinds : (d : Slice) → In d slices → (eqb d.kind baseline ≡ true) ⊎ (eqb d.kind permdelta ≡ true)
  unfolding of_side view_of
  two_kinds d m =
      let (r, n, e) = slice_view p d m in
      let s : eqb (side_of p) 0 ≡ true = (sound_table Permanent p sound).side in
      rw e (or_either _ _ (rw s at (sound_in Permanent p sound r n).kind))

  -- one with right times has a begin
  right_given : (d : Slice) → times_right d ≡ true → given d.period.begin ≡ true
  unfolding times_right times_of
  right_given d h = (and_both (given d.period.begin) _ h).0

  -- one counts exactly where it has a begin
  pub counted_given : (d : Slice) → In d slices → is_counted d ≡ given d.period.begin
  unfolding is_counted counts
  counted_given d m =
      iff (is_counted d) (given d.period.begin)
      (λ c. right_given d (counted_right p bytes sound d m
      (⊎_elim (uncancelled baseline d) (uncancelled permdelta d) (or_either (counts baseline d) (counts permdelta d) c))))
      (λ g. ⊎_elim (λ t. contrary g (ap not t.0))
      (λ (u : d.cancelled ≡ false). ⊎_elim (λ (k : eqb d.kind baseline ≡ true). rw (k, u))
      (λ (k : eqb d.kind permdelta ≡ true). let n : eqb d.kind baseline ≡ false = omega tests in rw (n, k, u))
      (two_kinds d m))
      (timeless_or d m))

  -- a BASELINE that counts has a span
  pub base_span : (b : Slice) → In b slices → counts baseline b ≡ true
      → (b.period.begin.0 < b.period.end.0) × (b.period.end.0 ≤ no_instant)
  base_span b m c =
      let times = kind_times p bytes sound baseline b m c in
      let (x, y, _, _) = slice_bounded p bytes b m in
      let z = begin_given baseline b.period b.life times in (
        ⊎_elim (λ e. by-test (eqb b.period.begin.0 no_instant) (λ q. absurd (z (omega tests))) (λ q. omega tests)) (λ e. e)
            (baseline_times_lem b.period b.life times).end,
        y,
      )

  -- a BASELINE that has a life end counts
  gone_counts : (b : Slice) → In b slices → eqb b.kind baseline ≡ true → given b.life.end ≡ true → counts baseline b ≡ true
  unfolding counts
  gone_counts b m k g = ⊎_elim (λ t. contrary g (ap not t.1)) (λ (u : b.cancelled ≡ false). rw (k, u)) (timeless_or b m)

  -- ---- its events
  most : count_of p ≤ 256
  most = count_most p sound

  pub in_slices : (j : ℕ) → j < count_of p → In (slice_at p j) slices
  in_slices j h =
      subst (λ s. In s slices) (slice_at_lem p j (slice_at p j) h (roomy p sound))
      (get_or_in slices j (slice_at p j) (omega (arith, slices_length p)))

  -- a slice by its place
  place_of_lem : (x : Slice) → In x slices
      → (j : ℕ) × (j < length slices) × (j < count_of p) × (get_or slices j x ≡ x) × (slice_at p j ≡ x)
  place_of_lem x m =
      let (j, h, e) = in_at slices x x m in
      let l : j < count_of p = omega (arith, slices_length p) in
      (j, h, l, e, sym (slice_at_lem p j x l (roomy p sound)) ∙ e)

  -- the begin of a record, and the life end of a BASELINE, as events
  begin_event : (j : ℕ) → j < count_of p → let t = (slice_at p j).period.begin in
      (place_of (event_of t j) ≡ j) × (time_of (event_of t j) ≡ t)
  begin_event j h =
      let t = (slice_at p j).period.begin in
      let n : j < 65536 = omega (arith, most) in
      (place_of_event t j n, time_of_event t j (low t.0 (slice_bounded p bytes (slice_at p j) (in_slices j h)).0) n)

  gone_time : (b : Slice) → In b slices → time_of (event_of b.life.end nowhere) ≡ b.life.end
  gone_time b m = time_of_event b.life.end nowhere (low b.life.end.0 (slice_bounded p bytes b m).3) (omega arith)

  -- each event is of a record, and each of those is an event
  from_begins : (e : ℕ) → In e (begins 0 slices) → IsBegin p e
  from_begins e m =
      let (k, h, g, q) = notes_in (λ s. s.period.begin) (λ j. j) 0 slices (slice_at p 0) e m in
      let l : k < count_of p = omega (arith, slices_length p) in
      let s = slice_at_lem p k (slice_at p 0) l (roomy p sound) in
      let z : 0 + k ≡ k = omega arith in
      let is : e ≡ event_of (slice_at p k).period.begin k = q ∙ rw (s, z) in
      let (place, time) = begin_event k l in
      rw (is, place, time) (l, refl, counted_given (slice_at p k) (in_slices k l) ∙ ap (λ d. given d.period.begin) (sym s) ∙ g)

  from_ends : (e : ℕ) → In e (life_ends 0 slices) → IsGone p e
  from_ends e m =
      let (k, h, g, q) = notes_in gone_of (λ _. nowhere) 0 slices (slice_at p 0) e m in
      let b = get_or slices k (slice_at p 0) in
      let i = get_or_in slices k (slice_at p 0) h in
      let (kind, is) = gone_given b g in
      let own : given b.life.end ≡ true = ap given (sym is) ∙ g in
      let time : time_of e ≡ b.life.end = ap time_of q ∙ ap (λ (t : Instant). time_of (event_of t nowhere)) is ∙ gone_time b i in
      (ends_nowhere slices e m, b, i, gone_counts b i kind own, sym time, ap given time ∙ own)

  in_events : (e : ℕ) → In e (begins 0 slices) ⊎ In e (life_ends 0 slices) → In e (in_order (noted slices))
  unfolding noted
  in_events e m = in_order_lem (noted slices) e ((append_in (begins 0 slices) (life_ends 0 slices) e).1 m)

  -- THE EVENTS of a sound table, in order
  pub eventful : Eventful p (in_order (noted slices))
  unfolding noted
  eventful = record {
    bytes = bytes;
    sound = sound;
    from = λ e m. ⊎_elim (λ n. inl (from_begins e n)) (λ n. inr (from_ends e n))
        ((append_in (begins 0 slices) (life_ends 0 slices) e).0 (order_in (noted slices) e m));
    begin = λ x m c. let (j, h, l, e, is) = place_of_lem x m in
        let (place, time) = rw is at (begin_event j l) in
        let there = in_notes (λ s. s.period.begin) (λ i. i) 0 slices j x h
        (ap (λ s. given s.period.begin) e ∙ sym (counted_given x m) ∙ c) in
        let v = event_of x.period.begin j in
        let z : 0 + j ≡ j = omega arith in
        (v, in_events v (inl (rw (e, z) at there)), rw place l, ap (slice_at p) place ∙ is, time);
    gone = λ b m c g. let (j, h, _, e, _) = place_of_lem b m in
        let is : gone_of b ≡ b.life.end = rw (eq-eqb b.kind baseline (counts_kind baseline b c)) in
        let there = in_notes gone_of (λ _. nowhere) 0 slices j b h (ap (λ s. given (gone_of s)) e ∙ ap given is ∙ g) in
        let v = event_of b.life.end nowhere in
        (v, in_events v (inr (rw (e, is) at there)), gone_time b m);
    order = order_pairs Behind (noted slices)
        (begins_pairs 0 slices (life_ends 0 slices) (omega (arith, slices_length p, most)) (ends_nowhere slices));
    few = omega (
      arith,
      order_length (noted slices),
      length-append (begins 0 slices) (life_ends 0 slices),
      notes_length (λ s. s.period.begin) (λ i. i) 0 slices,
      notes_length gone_of (λ _. nowhere) 0 slices,
      slices_length p,
      most,
    );
  }
