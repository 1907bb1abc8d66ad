-- The permanent states of a sound table, and the BASELINEs that are derived of them, are such as records can hold; the records say
-- those BASELINEs, rise, and pass the slice check, so that a derivation is never refused with 24. Assumes nothing.
use Prim.Native.Nat.{ℕ, suc, ◌+◌, ◌≤◌, ◌<◌, ◌*◌, ◌%◌}
use mathlib.Core.Path.{◌≡◌, refl, sym, ap, ◌∙◌, subst}
use mathlib.Core.List.{List, [], ◌∷◌, map, ◌++◌}
use mathlib.Core.Bool.{true, false, true≢false}
use mathlib.Core.Logic.{inl, inr, ⊎_elim}
use mathlib.Core.Option.{Option, none, some}
use native.Mathlib.Omega.{arith}
use lib.ListN.{length, length-map, take, drop}
use borrow.Author.Tests.{le-leb}
use Rattle.laws.specs.Keyed.{In, Rising}
use Rattle.laws.proofs.Tests.{contrary, by-test}
use Rattle.laws.proofs.Lists.{map_in, any_none}
use Rattle.laws.specs.Lists.{any, joined}
use Rattle.laws.specs.Refusals.{FirstFails}
use Rattle.laws.proofs.Pieces.{Sized, joined_length}
use Rattle.laws.proofs.Refusals.{given_number, first_past}
use Rattle.laws.proofs.Replies.{refusal_tells}
use Rattle.octets.specs.Bytes.{Bytes, filled}
use Rattle.octets.proofs.Stored.{bytes_round}
use Rattle.numbers.specs.Numbers as numbers
use Rattle.numbers.specs.Numbers.{no_instant}
use Rattle.numbers.specs.declared.Instant.{Instant}
use Rattle.numbers.proofs.Orders.{instant_of_lem}
use Rattle.property.specs.Eight.{mentioned, breaks, eight}
use Rattle.slice.specs.Record.{baseline, permdelta, parts_of, key_less, same_key, Property, unmentioned, says, property_of, Slice}
use Rattle.slice.specs.Record.{view_of, permanent, of_side, record_size}
use Rattle.slice.specs.declared.record.Life.{Life}
use Rattle.slice.specs.Rules.{times_of, times_right, content_right}
use Rattle.std.specs.Prelude.{Ok}
use Rattle.slice.proofs.Times.{permdelta_times_lem, baseline_times_lem}
use Rattle.slice.specs.Check.{check_record}
use Rattle.slice.proofs.Sound.{record_sound}
use Rattle.table.specs.Header.{stride_of}
use Rattle.table.specs.Rules.{check_table, fails, table_tests}
use Rattle.table.specs.declared.check.Sides.TheVariants.{Permanent}
use Rattle.table.proofs.Stays.{Up, sound_in, Good, all_good, good_all, good_sized}
use Rattle.history.specs.Counted.{counts, slice_key}
use Rattle.history.specs.State.{State, started}
use Rattle.history.specs.Permanent.{known, permanent_at}
use Rattle.history.specs.Changes.{change_instants}
use Rattle.history.specs.Parts.{tells}
use Rattle.history.specs.Derived.{Stretch, stretches, filled_in, baseline_of, numbered_from, derived_baselines}
use Rattle.history.specs.Source.{last_of}
use Rattle.history.proofs.Orders.{counts_kind, uncancelled}
use Rattle.history.proofs.Parts.{last_in, time_in, line_begin, line_end, applied_length}
use Rattle.history.proofs.Line.{line_in, known_line, line_within}
use Rattle.history.proofs.Changes.{changes_below}
use Rattle.history.proofs.Steady.{Timely}
use Rattle.history.proofs.Stretches.{stretched, numbered_in, numbered_length, numbered_rising}
use Rattle.history.proofs.DerivedRules.{line_begun, Born, drawn_times, drawn_content}
use Rattle.state.specs.Written.{nil_unknown}
use Rattle.state.specs.Asking.{slices_of, permanent_tests}
use Rattle.state.proofs.Slices.{rising_views, slice_view, slice_eight, slice_sized, said}
use Rattle.state.proofs.PropertyPlace.{tests_sound}
use Rattle.baselines.specs.Laid.{record_for}
use Rattle.baselines.specs.Deriving.{derived_records, deriving_tests, refused_derivation, derivation_of, derivation_reply}
use Rattle.baselines.proofs.Noted.{slice_bounded, slices_bounded}
use Rattle.baselines.proofs.Laid.{Said, Holdable, view_laid, laid_length, parts_of_lem, parts_whole}

pub low : (x : ℕ) → x ≤ no_instant → x < 4294967296
unfolding no_instant
low x h = omega arith

module _ (p : List ℕ) (bytes : Bytes p) (sound : check_table Permanent p ≡ Ok tt) where
  abbrev slices : List Slice
  slices = slices_of p

  -- ---- its slices
  -- a property that one says, unless it is cancelled, is a mention that keeps the layout, as long as a property is
  slice_said : (d : Slice) → In d slices → d.cancelled ≡ false → (b : List ℕ) → In (says b) d.properties
      → (length b ≡ stride_of p) × (mentioned b ≡ true) × (breaks b ≡ false)
  unfolding view_of
  slice_said d m c b k =
      let (r, n, e) = slice_view p d m in
      let (x, i, q) = map_in property_of (parts_of (stride_of p) r) (says b) (subst (λ s. In (says b) s.properties) e k) in
      let is = said (mentioned x) b x q in (
        slice_sized p Permanent sound d m b k,
        by-test (mentioned x) (λ y. ap mentioned is ∙ y) (λ y. let none : says b ≡ unmentioned = rw y at q in cc),
        ⊎_elim (λ y. contrary (ap (λ s. s.cancelled) e ∙ y.cancelled) c)
            (λ y. ap breaks is ∙ any_none breaks (parts_of (stride_of p) r) y.properties x i)
            (sound_in Permanent p sound r n).rest,
      )

  pub counted_right : (d : Slice) → In d slices → d.cancelled ≡ false → times_right d ≡ true
  unfolding view_of
  counted_right d m c =
      let (r, n, e) = slice_view p d m in
      ⊎_elim (λ x. contrary (ap (λ s. s.cancelled) e ∙ x.cancelled) c) (λ k. ap times_right e ∙ k.times)
      (sound_in Permanent p sound r n).rest

  -- one that counts has the times of its kind
  pub kind_times : (kind : ℕ) (d : Slice) → In d slices → counts kind d ≡ true → times_of kind d.period d.life ≡ true
  unfolding times_right
  kind_times kind d m c =
      ap (λ n. times_of n d.period d.life) (sym (counts_kind kind d c)) ∙ counted_right d m (uncancelled kind d c)

  pub timely : Timely slices
  timely d m c =
      ⊎_elim (λ e. inl (instant_of_lem d.life.end numbers.none e)) (λ e. inr (instant_of_lem d.life.end d.period.begin e))
      (permdelta_times_lem d.period d.life (kind_times permdelta d m c)).life_end

  -- ---- its states
  module _ (t : Instant) (s : State) (e : permanent_at t slices ≡ known s) where
    -- the slices that make it
    abbrev first : Slice
    first = (known_line t slices s e).0

    abbrev others : List Slice
    others = (known_line t slices s e).1

    there : (d : Slice) → In d (first ∷ others) → In d slices
    there d m = line_in t slices d (subst (λ l. In d l) (sym (known_line t slices s e).2) m)

    state_eight : length s.properties ≡ 8
    state_eight =
        ap (λ u. length u.properties) (known_line t slices s e).3
        ∙ applied_length 8 others (started first) (slice_eight p first (there first (inl refl)))
        (λ d m. slice_eight p d (there d (inr m)))

    state_said : (b : List ℕ) → In (says b) s.properties
        → (length b ≡ stride_of p) × (mentioned b ≡ true) × (breaks b ≡ false)
    state_said b m =
        let (d, n, k) =
        line_within first others (says b) (subst (λ u. In (says b) u.properties) (known_line t slices s e).3 m) in
        let (i, c, _) = line_begun t slices d (subst (λ l. In d l) (sym (known_line t slices s e).2) n) in
        slice_said d i (⊎_elim (uncancelled baseline d) (uncancelled permdelta d) c) b k

    state_life : (s.life.begin.0 ≤ no_instant) × (s.life.end.0 ≤ no_instant)
    state_life =
        rw ((known_line t slices s e).3, line_begin first others, line_end first others) (
          one (λ l. l.begin) 8 (λ d m. (slice_bounded p bytes d m).2) _ refl,
          one (λ l. l.end) 9 (λ d m. (slice_bounded p bytes d m).3) _ refl,
        )
      where
        one : (time : Life → Instant) (q : ℕ) → ((d : Slice) → In d slices → (time d.life).0 ≤ no_instant)
            → (v : Option Slice) → last_of (tells q) none (first ∷ others) ≡ v → (time_in time v).0 ≤ no_instant
        one time q h none e = omega arith
        one time q h (some d) e = h d (there d (last_in (tells q) (first ∷ others) d e).0)

  -- ---- the derived BASELINEs
  abbrev unknown : List ℕ
  unknown = nil_unknown (stride_of p)

  filled_said : (v : Property) → ((b : List ℕ) → v ≡ says b → (length b ≡ stride_of p) × (mentioned b ≡ true) × (breaks b ≡ false))
      → Said (stride_of p) (filled_in unknown v)
  unfolding mentioned eight
  filled_said unmentioned h = (unknown, refl, refl, refl, refl)
  filled_said (says b) h = let (l, m, w) = h b refl in (b, refl, l, m, w)

  baseline_holdable : (n : ℕ) (s : Stretch) → n < 4294967296 → In s (stretches slices)
      → Holdable (stride_of p) (baseline_of unknown n s)
  unfolding stretches baseline_of
  baseline_holdable n s k m =
      let h = stretched slices (change_instants slices) s m in
      let t = s.period.begin in
      let below = changes_below slices (slices_bounded p bytes) in
      let life = state_life t s.state h.has in
      record {
        uncancelled = refl;
        correction = omega arith;
        sequence = k;
        begin = low t.0 (omega (arith, below t h.begins));
        end = low s.period.end.0
            (⊎_elim (λ e. omega (arith, ap (λ i. i.0) e)) (λ i. omega (arith, below s.period.end i)) h.ends);
        born = low s.state.life.begin.0 life.0;
        gone = low s.state.life.end.0 life.1;
        eight = length-map s.state.properties (filled_in unknown) ∙ state_eight t s.state h.has;
        said = λ v i. let (x, j, e) = map_in (filled_in unknown) s.state.properties v i in
            rw e (filled_said x (λ b q. state_said t s.state h.has b (subst (λ y. In y s.state.properties) q j)));
      }

  -- the records say them
  numbered_views : (n : ℕ) (l : List Stretch) → n + length l ≤ 4294967296 → ((s : Stretch) → In s l → In s (stretches slices))
      → map (view_of (stride_of p)) (map (record_for (stride_of p)) (numbered_from unknown n l)) ≡ numbered_from unknown n l
  numbered_views n [] k h = refl
  numbered_views n (s ∷ l) k h =
      rw (
        view_laid (stride_of p) (baseline_of unknown n s) (baseline_holdable n s (omega arith) (h s (inl refl))),
        numbered_views
            (suc n) l (omega arith) (λ x m. h x (inr m)),
      )

  pub derived_views : length (derived_records p) ≤ 256
      → map (view_of (stride_of p)) (derived_records p) ≡ derived_baselines unknown slices
  unfolding derived_records derived_baselines
  derived_views k =
      let n = length-map (numbered_from unknown 1 (stretches slices)) (record_for (stride_of p)) in
      numbered_views 1 (stretches slices) (omega (arith, n, numbered_length unknown 1 (stretches slices))) (λ s m. m)

  -- and rise by their sequence numbers
  pub derived_up : length (derived_records p) ≤ 256 → Up (derived_records p)
  unfolding derived_baselines
  derived_up k =
      rising_views (stride_of p) (derived_records p)
      (subst (Rising slice_key key_less same_key) (sym (derived_views k)) (numbered_rising unknown 1 (stretches slices)))

  -- ---- and pass the check
  born : Born slices
  born d m (inl c) = (baseline_times_lem d.period d.life (kind_times baseline d m c)).life_begin
  born d m (inr c) =
      ⊎_elim inl (λ e. inr (omega (arith, e)))
      (permdelta_times_lem d.period d.life (kind_times permdelta d m c)).life_begin

  -- the record of a stretch
  module _ (n : ℕ) (s : Stretch) (m : In s (stretches slices)) where
    drawn_good : n < 4294967296 → Good (stride_of p) permanent (record_for (stride_of p) (baseline_of unknown n s))
    unfolding record_for baseline_of of_side filled
    drawn_good k =
        let b = baseline_of unknown n s in
        let h = baseline_holdable n s k m in
        let size = laid_length (stride_of p) b h in
        let view = view_laid (stride_of p) b h in
        record_sound (stride_of p) permanent (record_for (stride_of p) b) (record {
          size = size;
          kind = refl;
          flags = omega arith;
          reserved = rw (le-leb (24 + 8) (length (record_for (stride_of p) b)) (omega (arith, size)));
          rest = inr (record {
            uncancelled = refl;
            properties = ap (any breaks) (parts_of_lem (stride_of p) b h) ∙ parts_whole (stride_of p) b h;
            times = ap times_right view ∙ drawn_times unknown slices n s timely born m;
            content = ap content_right view ∙ drawn_content unknown slices n s;
          });
        })

  -- the check does not look at the sequence number
  record_round : (n : ℕ) (s : Stretch)
      → record_for (stride_of p) (baseline_of unknown n s) ≡ record_for (stride_of p) (baseline_of unknown (n % 4294967296) s)
  unfolding record_for baseline_of
  record_round n s = let r = record_for (stride_of p) (baseline_of unknown n s) in
      ap (λ (w : List ℕ). take 4 r ++ (w ++ drop 8 r)) (bytes_round n)

  -- EACH RECORD PASSES
  pub derived_passes : (r : List ℕ) → In r (derived_records p) → check_record (stride_of p) permanent r ≡ Ok tt
  unfolding derived_records derived_baselines
  derived_passes r i =
      let (b, j, e) = map_in (record_for (stride_of p)) (derived_baselines unknown slices) r i in
      let (n, s, m, q) = numbered_in unknown 1 (stretches slices) b j in
      rw (e, q, record_round n s) (drawn_good (n % 4294967296) s m (omega arith))

  -- so that none fails
  pub derived_pass : any (fails (stride_of p) permanent) (derived_records p) ≡ false
  derived_pass = good_all (stride_of p) permanent (derived_records p) derived_passes

  -- and all are of one length
  pub derived_sized : Sized (record_size (stride_of p)) (derived_records p)
  derived_sized =
      good_sized (stride_of p) permanent (derived_records p) (all_good (stride_of p) permanent (derived_records p) derived_pass)

  pub derived_long : length (joined (derived_records p)) ≡ length (derived_records p) * record_size (stride_of p)
  derived_long = joined_length (record_size (stride_of p)) (derived_records p) derived_sized

-- ---- the answer
apart : (n k : ℕ) → refused_derivation k ≡ Ok n → ⊥
apart n k q = true≢false cc

same_number : (k m : ℕ) → refused_derivation k ≡ refused_derivation m → k ≡ m
unfolding derivation_reply
same_number k m q = refusal_tells k m (ap derivation_reply q)

-- NEVER 24
pub never_24 : (p output : List ℕ) → Bytes p → derivation_of p output ≡ refused_derivation 24 → ⊥
unfolding derivation_of permanent_tests table_tests deriving_tests
never_24 p output bytes e =
    let n = length (derived_records p) in
    let failed =
    given_number refused_derivation (Ok n) (apart n) same_number 24 (permanent_tests p ++ deriving_tests p output) e in
    let (table, rest) = first_past 24 (permanent_tests p) (deriving_tests p output) refl failed in
    go (tests_sound Permanent p table) rest
  where
    go : check_table Permanent p ≡ Ok tt → FirstFails 24 (deriving_tests p output) → ⊥
    go sound (inl (_, k)) = omega (arith, k)
    go sound (inr (_, inl (y, _))) = contrary y (derived_pass p bytes sound)
    go sound (inr (_, inr (_, inl (_, k)))) = omega (arith, k)
    go sound (inr (_, inr (_, inr (_, f)))) = f
