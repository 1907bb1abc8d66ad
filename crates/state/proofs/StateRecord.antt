-- The record that is written is the state's: the life times and the eight properties that the marks tell are those that the slices
-- give in their turn. Assumes nothing.
use Prim.Native.Nat.{ℕ, zero, suc, ◌≤◌, ◌<◌}
use mathlib.Core.Path.{◌≡◌, refl, sym, ap, ap₂, ◌∙◌}
use mathlib.Core.List.{List, [], ◌∷◌, ◌++◌, map, append-nil, append_assoc}
use mathlib.Core.Bool.{true, false, cond, not}
use mathlib.Core.Logic.{◌⊎◌, inl, inr}
use mathlib.Core.Option.{Option, none}
use native.Mathlib.Omega.{arith}
use lib.ListN.{length, get_or, replicate}
use lib.Dec.{eqb}
use borrow.Author.Tests.{eqb-true, eq-eqb, not-true}
use Rattle.laws.specs.Lists.{joined}
use Rattle.laws.specs.Keyed.{In, Rising}
use Rattle.laws.proofs.Tests.{tests, contrary, and_both}
use Rattle.numbers.specs.Numbers.{no_instant, is_none}
use Rattle.numbers.specs.declared.Instant.{Instant}
use Rattle.slice.specs.Record.{tempdelta, record_size, key_less, same_key, Property, unmentioned, Slice, view_of}
use Rattle.slice.specs.Rules.{times_of, times_right}
use Rattle.std.specs.Prelude.{Ok}
use Rattle.slice.proofs.Sound.{Emptied, Counted}
use Rattle.slice.proofs.Times.{tempdelta_times_lem}
use Rattle.table.specs.Header.{count_of, stride_of, room_of, records_of, record_at}
use Rattle.table.specs.Rules.{check_table}
use Rattle.table.specs.declared.check.Sides.TheVariants.{Temporary}
use Rattle.table.proofs.Sound.{sound_table}
use Rattle.table.proofs.Stays.{sound_in}
use Rattle.history.specs.Counted.{counts, holds, slice_key}
use Rattle.history.specs.State.{State, started, new_time, applied, applied_all}
use Rattle.history.specs.Permanent.{Standing, following, permanent_at}
use Rattle.history.specs.Snapshot.{valid, passing, overlaid}
use Rattle.history.specs.Source.{mentions, last_of, last_mention}
use Rattle.history.specs.Parts.{tells, latest_due, latest_valid}
use Rattle.history.proofs.Parts.{or_else, last_in, last_or, last_same, tells_mentions, said_in, applied_property, line_property}
use Rattle.history.proofs.Parts.{begin_in, end_in, line_begin, line_end, applied_length, following_in, passing_in}
use Rattle.state.specs.Written.{state_kind, state_times, property_bytes, state_record}
use Rattle.state.specs.Asking.{slices_of, record_of}
use Rattle.state.specs.Steps.{nothing, wanted, mark_due, place_and_one, origin_of, life_from, said_at, property_by, property_from}
use Rattle.state.specs.Steps.{run_of}
use Rattle.state.specs.declared.mention.Mark.{Mark}
use Rattle.state.specs.declared.anchor.Start.{Start}
use Rattle.state.proofs.Slices.{view_eight, sound_rising, slice_view, slice_eight}
use Rattle.state.proofs.RecordProperties.{view_bytes}
use Rattle.state.specs.Steps.{slice_here, slice_no, Lifeless, Laid}
use Rattle.state.proofs.OnePass.{begin_at, end_at, wanted_in, wanted_begin, wanted_end, anchor_by}
use Rattle.state.proofs.OnePass.{origin_last, passing_last, state_from, Begun}

-- ---- runs of bytes
run_first : (f : ℕ → List ℕ) (n : ℕ) → run_of f (suc n) ≡ f 0 ++ run_of (λ i. f (suc i)) n
run_first f zero = sym (append-nil (f 0))
run_first f (suc n) = ap (λ l. l ++ f (suc n)) (run_first f n) ∙ append_assoc (f 0) (run_of (λ i. f (suc i)) n) (f (suc n))

run_joined : (f : ℕ → List ℕ) (l : List Property) (stride n : ℕ) → length l ≡ n
    → ((i : ℕ) → i < n → f i ≡ property_bytes stride (get_or l i unmentioned))
    → run_of f n ≡ joined (map (property_bytes stride) l)
run_joined f [] stride zero e h = refl
run_joined f [] stride (suc n) e h = absurd (omega arith)
run_joined f (v ∷ l) stride zero e h = absurd (omega arith)
run_joined f (v ∷ l) stride (suc n) e h =
    run_first f n
    ∙ ap₂ ◌++◌ (h 0 (omega arith)) (run_joined (λ i. f (suc i)) l stride n (omega arith) (λ i k. h (suc i) (omega arith)))

-- ---- the bytes that a record says of a property, where its slice mentions it
said_bytes : (t : List ℕ) (n k : ℕ) → n < 8 → (l : List Slice) → last_mention n l ≡ slice_no t k
    → said_at t n k ≡ property_bytes (stride_of t) (said_in n (slice_no t k))
unfolding last_mention
said_bytes t n zero h l e = refl
said_bytes t n (suc i) h l e =
    sym (view_bytes (stride_of t) (record_at (record_size (stride_of t)) i t) n h (last_in (mentions n) l (slice_here t i) e).1)

-- ---- the life times that a TEMPDELTA leaves
life_kept : (l : List Slice) → ((d : Slice) → In d l → Lifeless d) → (u : State) → (applied_all u l).life ≡ u.life
unfolding applied new_time
life_kept [] h u = refl
life_kept (d ∷ l) h u =
    let (b, e) = h d (inl refl) in
    life_kept l (λ x m. h x (inr m)) (applied u d) ∙ rw (b, e)

-- each that counts in a sound table gives none
module _ (o : List ℕ) (sound : check_table Temporary o ≡ Ok tt) where
  sound_lifeless : (d : Slice) → In d (slices_of o) → counts tempdelta d ≡ true → Lifeless d
  unfolding counts times_right view_of is_none
  sound_lifeless d m c = go (sound_in Temporary o sound seen.0 seen.1).rest
    where
      seen : (r : List ℕ) × In r (records_of (record_size (stride_of o)) o) × (d ≡ view_of (stride_of o) r)
      seen = slice_view o d m

      counted : (eqb d.kind tempdelta ≡ true) × (not d.cancelled ≡ true)
      counted = and_both (eqb d.kind tempdelta) (not d.cancelled) c

      go : Emptied (stride_of o) seen.0 ⊎ Counted (stride_of o) seen.0 → Lifeless d
      go (inl e) = contrary e.cancelled (sym (ap (λ s. s.cancelled) seen.2) ∙ not-true d.cancelled counted.1)
      go (inr k) =
          let times =
          tempdelta_times_lem d.period d.life
          (ap (λ n. times_of n d.period d.life) (sym (eqb-true d.kind tempdelta counted.0)) ∙ ap times_right seen.2
          ∙ k.times) in
          (eq-eqb d.life.begin.0 no_instant times.life_begin, eq-eqb d.life.end.0 no_instant times.life_end)

  passing_lifeless : (t : Instant) (d : Slice) → In d (passing t (slices_of o)) → Lifeless d
  unfolding valid
  passing_lifeless t d m =
      let (n, y) = passing_in t (slices_of o) d m in
      sound_lifeless d n (and_both (counts tempdelta d) (holds t d.period.begin d.period.end) y).0

-- ---- the last mention by its place and one
-- a property is told where it is mentioned
mention_last : (n : ℕ) → n < 8 → (l : List Slice) (o : Option Slice) → o ≡ last_of (tells n) none l → last_mention n l ≡ o
unfolding last_mention
mention_last n h l o e = sym (e ∙ last_same (tells n) (mentions n) (λ d. tells_mentions n d h) none l)

-- of those that are valid
pub over_last : (t : Instant) (o : List ℕ) → count_of o ≤ room_of (record_size (stride_of o)) o
    → Rising slice_key key_less same_key (slices_of o)
    → (n : ℕ) → n < 8 → (k : ℕ) → k ≡ place_and_one (latest_valid n t (slices_of o))
    → last_mention n (passing t (slices_of o)) ≡ slice_no o k
over_last t o roomy up n h k e = mention_last n h (passing t (slices_of o)) (slice_no o k) (passing_last t o roomy up n k e)

module _ (since t : Instant) (p : List ℕ) (roomy : count_of p ≤ room_of (record_size (stride_of p)) p)
    (up : Rising slice_key key_less same_key (slices_of p)) (s : Start)
    (begun : Begun since t p s) where
  abbrev a : Slice
  a = slice_here p s.place

  abbrev ds : List Slice
  ds = following t (slices_of p) (anchor_by s.based a)

  abbrev u : State
  u = state_from t p s.based s.place

  tells_last : (q : ℕ) (m : Mark) → m ≡ mark_due (latest_due q since t (slices_of p))
      → slice_no p (origin_of s (tells q a) m) ≡ last_of (tells q) none (a ∷ ds)
  tells_last q m e = ap (λ x. slice_no p (origin_of x (tells q a) m)) begun.is
      ∙ origin_last since t p roomy up s.based s.place begun.all q m e

  -- of those that make the permanent state
  pub under_last : (n : ℕ) → n < 8 → (m : Mark) → m ≡ mark_due (latest_due n since t (slices_of p))
      → last_mention n (a ∷ ds) ≡ slice_no p (origin_of s (tells n a) m)
  under_last n h m e = mention_last n h (a ∷ ds) (slice_no p (origin_of s (tells n a) m)) (tells_last n m e)

  module _ (ms : List Mark)
      (marks : (q : ℕ) → wanted 0 8 q ≡ true → get_or ms q nothing ≡ mark_due (latest_due q since t (slices_of p))) where
    pub life_filled : life_from p s ms ≡ u.life
    life_filled =
        let begin = begin_at p (origin_of s (tells 8 a) (get_or ms 8 nothing))
        ∙ ap begin_in (tells_last 8 (get_or ms 8 nothing) (marks 8 (wanted_begin 0 8))) ∙ sym (line_begin a ds) in
        let end = end_at p (origin_of s (tells 9 a) (get_or ms 9 nothing))
        ∙ ap end_in (tells_last 9 (get_or ms 9 nothing) (marks 9 (wanted_end 0 8))) ∙ sym (line_end a ds) in
        λ i. record { begin = begin i; end = end i }

    -- with slices on it whose last mention the places of another table name
    module _ (o os : List ℕ) where
      abbrev written : List ℕ
      written = state_kind ++ (state_times t (life_from p s ms) ++ (replicate 8 0 ++ run_of (property_from p o s ms os) 8))

      overlaid_filled : (l : List Slice) (n : ℕ) → n < 8 → last_mention n l ≡ slice_no o (get_or os n 0)
          → property_from p o s ms os n ≡ property_bytes (stride_of p) (get_or (applied_all u l).properties n unmentioned)
      unfolding property_by last_mention
      overlaid_filled l n h e = go (get_or os n 0) e ∙ ap (property_bytes (stride_of p)) (sym said)
        where
          k : ℕ
          k = origin_of s (tells n a) (get_or ms n nothing)

          under : last_mention n (a ∷ ds) ≡ slice_no p k
          under = under_last n h (get_or ms n nothing) (marks n (wanted_in 0 8 n (omega arith) (omega arith)))

          said : get_or (applied_all u l).properties n unmentioned ≡ said_in n (or_else (slice_no o (get_or os n 0)) (slice_no p k))
          said =
              applied_property n l u (slice_no p k) (line_property n a ds ∙ ap (said_in n) under)
              ∙ ap (said_in n) (last_or (mentions n) (slice_no p k) l) ∙ ap (λ x. said_in n (or_else x (slice_no p k))) e

          go : (j : ℕ) → last_mention n l ≡ slice_no o j
              → cond (eqb j 0) (said_at p n k) (said_at o n j) ≡ property_bytes (stride_of p)
              (said_in n (or_else (slice_no o j) (slice_no p k)))
          go zero e = said_bytes p n k h (a ∷ ds) under
          go (suc i) e = let z : eqb (suc i) 0 ≡ false = omega tests in rw z (said_bytes o n (suc i) h l e)

      -- the whole record
      pub record_filled : (l : List Slice) → Laid o os l → written ≡ state_record (stride_of p) t (applied_all u l)
      unfolding state_record
      record_filled l laid =
          let e = life_filled ∙ sym (life_kept l laid.lifeless u) in
          let long =
          applied_length 8 l u
          (applied_length 8 ds (started a) (view_eight (stride_of p) (record_at (record_size (stride_of p)) s.place p))
          (λ d m. slice_eight p d (following_in t (slices_of p) (anchor_by s.based a) d m).0)) laid.eight in
          let run =
          run_joined (property_from p o s ms os) (applied_all u l).properties (stride_of p) 8 long
          (λ n h. overlaid_filled l n h (laid.last n h)) in
          λ i. state_kind ++ (state_times t (e i) ++ (replicate 8 0 ++ run i))

      -- as it stands in the buffer
      pub record_laid : (buffer : List ℕ) (l : List Slice) → Laid o os l
          → written ≡ record_of (stride_of p) t (overlaid l (permanent_at t (slices_of p))) buffer
      record_laid buffer l laid =
          record_filled l laid ∙ sym (ap (λ (x : Standing). record_of (stride_of p) t (overlaid l x) buffer) begun.state)

-- ---- what comes on a state
-- nothing
pub laid_none : (o os : List ℕ) → ((n : ℕ) → n < 8 → get_or os n 0 ≡ 0) → Laid o os []
unfolding last_mention
laid_none o os none' =
    record { last = λ n h. sym (ap (slice_no o) (none' n h)); eight = λ d m. absurd m; lifeless = λ d m. absurd m }

-- what is valid, of a sound table
pub laid_passing : (t : Instant) (o os : List ℕ) → check_table Temporary o ≡ Ok tt
    → ((q : ℕ) → q < 8 → get_or os q 0 ≡ place_and_one (latest_valid q t (slices_of o))) → Laid o os (passing t (slices_of o))
laid_passing t o os sound places = record {
  last = λ n h.
      over_last t o (sound_table Temporary o sound).roomy (sound_rising o Temporary sound) n h (get_or os n 0) (places n h);
  eight = λ d m. slice_eight o d (passing_in t (slices_of o) d m).0;
  lifeless = passing_lifeless o sound t;
}
