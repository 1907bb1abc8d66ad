-- The times of a table, none of which lies above none, and one turn of each loop that notes its events. Assumes nothing.
use Prim.Native.Nat.{ℕ, ◌≤◌, suc, ◌+◌, ◌<◌}
use mathlib.Core.Path.{◌≡◌, refl, sym, ap, ◌∙◌, subst}
use mathlib.Core.List.{List, [], ◌∷◌, ◌++◌, append-nil}
use mathlib.Core.Logic.{⊎_elim, inl, inr}
use mathlib.Core.Bool.{true, false, cond}
use native.Mathlib.Omega.{arith}
use lib.ListN.{drop, length, take, set, length-set}
use lib.Dec.{eqb}
use Rattle.laws.specs.Keyed.{In, Rising}
use Rattle.laws.proofs.Tests.{pick_ind, tests, or_either}
use Rattle.laws.proofs.Put.{rising_drop}
use Rattle.octets.specs.Bytes.{Bytes}
use Rattle.octets.proofs.Stored.{bytes_drop, bytes_pieces}
use Rattle.numbers.specs.Numbers.{no_instant, is_none, given}
use Rattle.numbers.specs.declared.Instant.{Instant}
use Rattle.events.specs.Order.{event_of}
use Rattle.events.proofs.Steps.{placed}
use Rattle.slice.specs.Record.{baseline, permdelta, record_size, Slice, view_of, of_side, kind_of, key_less, same_key}
use Rattle.slice.proofs.Times.{instant_most}
use Rattle.std.specs.Prelude.{Ok}
use Rattle.slice.proofs.Keys.{key_order}
use Rattle.table.specs.Header.{count_of, stride_of, records_of, side_of, room_of, record_at}
use Rattle.table.specs.Rules.{check_table}
use Rattle.table.specs.declared.check.Sides.TheVariants.{Permanent}
use Rattle.table.proofs.Records.{record_in, room_most}
use Rattle.table.proofs.Sound.{sound_table}
use Rattle.table.proofs.Stays.{sound_in}
use Rattle.history.specs.Counted.{counts, slice_key}
use Rattle.history.specs.Changes.{changes_by}
use Rattle.history.proofs.Changes.{Bounded}
use Rattle.state.specs.Asking.{slices_of}
use Rattle.state.proofs.Slices.{slice_view, slices_at, slices_end, sound_rising}
use Rattle.state.proofs.BaselinesFirst.{kinds_rise}
use Rattle.baselines.specs.Noting.{notes, life_ends}

-- ---- the times of a table of bytes
pub bytes_records : (p : List ℕ) → Bytes p → (r : List ℕ) → In r (records_of (record_size (stride_of p)) p) → Bytes r
unfolding records_of
bytes_records p h r m = bytes_pieces (record_size (stride_of p)) (count_of p) (drop 32 p) r (bytes_drop 32 p h) m

-- each is of four bytes
pub slice_bounded : (p : List ℕ) → Bytes p → (d : Slice) → In d (slices_of p)
    → (d.period.begin.0 ≤ no_instant) × (d.period.end.0 ≤ no_instant) × (d.life.begin.0 ≤ no_instant)
    × (d.life.end.0 ≤ no_instant)
unfolding view_of
slice_bounded p bytes d m =
    let (r, n, e) = slice_view p d m in
    let b = bytes_records p bytes r n in
    rw e (instant_most r 8 b, instant_most r 12 b, instant_most r 16 b, instant_most r 20 b)

pub slices_bounded : (p : List ℕ) → Bytes p → Bounded (slices_of p)
unfolding changes_by
slices_bounded p bytes s m x =
    let (b, e, _, g) = slice_bounded p bytes s m in
    let is : (t : Instant) → t.0 ≤ no_instant → x ≡ t → x.0 ≤ no_instant = λ t l q. rw q l in
    let begins = is s.period.begin b in
    pick_ind (λ l. In x l → x.0 ≤ no_instant) (counts baseline s)
    (λ _. ⊎_elim begins (⊎_elim (is s.period.end e) (⊎_elim (is s.life.end g) (λ m. absurd m))))
    (λ _. pick_ind (λ l. In x l → x.0 ≤ no_instant) (counts permdelta s) (λ _. ⊎_elim begins (λ m. absurd m)) (λ _ m. absurd m))

-- ---- the events of a table
-- slices of kinds above BASELINE have no life end that counts
late_ends : (i : ℕ) (l : List Slice) → ((x : Slice) → In x l → baseline < x.kind) → life_ends i l ≡ []
unfolding is_none no_instant
late_ends i [] h = refl
late_ends i (x ∷ xs) h =
    let k = h x (inl refl) in
    let e : eqb x.kind baseline ≡ false = omega tests in
    rw e (late_ends (suc i) xs (λ y m. h y (inr m)))

-- the slice at a place of a table
abbrev pub slice_at : List ℕ → ℕ → Slice
slice_at p j = view_of (stride_of p) (record_at (record_size (stride_of p)) j p)

-- what is noted so far, and what the records that are left give
pub record Noting (p : List ℕ) (time : Slice → Instant) (place : ℕ → ℕ) (whole : List ℕ) (from : ℕ) (d : List ℕ) (n i : ℕ) : Type 0
  where
    pub sound : check_table Permanent p ≡ Ok tt
    pub most : count_of p ≤ 256
    pub low : from ≤ 256
    pub few : n ≤ from + i
    pub within : i ≤ count_of p
    pub sized : length d ≡ 512
    pub all : whole ≡ take n d ++ notes time place i (drop i (slices_of p))

module _ (p : List ℕ) (sound : check_table Permanent p ≡ Ok tt) where
  pub roomy : count_of p ≤ room_of (record_size (stride_of p)) p
  roomy = (sound_table Permanent p sound).roomy

  -- it has 256 records at most
  pub count_most : count_of p ≤ 256
  count_most = omega (arith, roomy, room_most (record_size (stride_of p)) p)

  -- a record that is no BASELINE is of a kind above it, and so are all behind it
  pub late_done : (i : ℕ) → i < count_of p → eqb (slice_at p i).kind baseline ≡ false → life_ends i (drop i (slices_of p)) ≡ []
  unfolding view_of of_side
  late_done i h n =
      let r = record_at (record_size (stride_of p)) i p in
      let s : eqb (side_of p) 0 ≡ true = (sound_table Permanent p sound).side in
      let kind = (sound_in Permanent p sound r (record_in (record_size (stride_of p)) p i h roomy)).kind in
      let above : baseline < kind_of r =
      ⊎_elim (λ e. absurd (omega (tests, n, e))) (λ e. omega (tests, e))
      (or_either (eqb (kind_of r) baseline) (eqb (kind_of r) permdelta) (rw s at kind)) in
      let here = slices_at p i h roomy in
      let up = rising_drop slice_key key_less same_key key_order i (slices_of p) (sound_rising p Permanent sound) in
      let rest = drop (i + 1) (slices_of p) in
      ap (life_ends i) here
      ∙ late_ends i (slice_at p i ∷ rest) (kinds_rise (slice_at p i) rest (subst (Rising slice_key key_less same_key) here up) above)

module _ {p : List ℕ} {time : Slice → Instant} {place : ℕ → ℕ} {whole : List ℕ} {from : ℕ} {d : List ℕ} {n i : ℕ}
    (g : Noting p time place whole from d n i) where
  -- ---- a turn
  module _ (h : i < count_of p) where
    module _ {t : Instant} (e : t ≡ time (slice_at p i)) where
      here : notes time place i (drop i (slices_of p))
          ≡ cond (given t) (event_of t (place i) ∷ notes time place (i + 1) (drop (i + 1) (slices_of p)))
          (notes time place (i + 1) (drop (i + 1) (slices_of p)))
      here =
          let s : i + 1 ≡ suc i = omega arith in
          ap (notes time place i) (slices_at p i h (roomy p g.sound)) ∙ rw (e, s)

      pub noting_one : is_none t ≡ false → {v : ℕ} → v ≡ event_of t (place i)
          → Noting p time place whole from (set d n v) (n + 1) (i + 1)
      noting_one b {v} q = record {
        sound = g.sound;
        most = g.most;
        low = g.low;
        few = omega arith;
        within = omega arith;
        sized = length-set d n v ∙ g.sized;
        all = placed whole d _ n v (omega arith)
            (g.all ∙ ap (λ (l : List ℕ). take n d ++ l) (here ∙ rw (b, q)));
      }

      pub noting_none : is_none t ≡ true → Noting p time place whole from d n (i + 1)
      noting_none b = record {
        sound = g.sound;
        most = g.most;
        low = g.low;
        few = omega arith;
        within = omega arith;
        sized = g.sized;
        all = g.all ∙ ap (λ (l : List ℕ). take n d ++ l) (here ∙ rw b);
      }

  -- ---- where the records that are left give nothing, all is noted
  pub noting_done : notes time place i (drop i (slices_of p)) ≡ [] → take n d ≡ whole
  noting_done e = sym (g.all ∙ ap (λ (l : List ℕ). take n d ++ l) e ∙ append-nil (take n d))

  pub noting_end : count_of p ≤ i → take n d ≡ whole
  noting_end h = noting_done (ap (notes time place i) (slices_end p i h))
