-- Where a property stands: the place that a slice tells begins at the slice's own record, lies within the table and has the bytes
-- that the slice says; and the property question answers with the place that the marks name. Assumes nothing.
use Prim.Native.Nat.{ℕ, ◌+◌, ◌*◌, ◌-◌, ◌≤◌, ◌<◌}
use mathlib.Core.Path.{◌≡◌, refl, sym, ap, ◌∙◌, subst}
use mathlib.Core.List.{List, [], ◌∷◌, ◌++◌}
use mathlib.Core.Bool.{Bool, true, false}
use mathlib.Core.Option.{Option, none, some}
use native.Mathlib.Numerals.{add-one}
use native.Mathlib.Omega.{arith}
use lib.ListN.{length, take, drop, get_or}
use lib.Seq.{drop-drop}
use lib.Dec.{ltb, eqb}
use borrow.Author.Tests.{lt-ltb}
use Rattle.laws.specs.Lists.{first}
use Rattle.laws.specs.Keyed.{In, Rising}
use Rattle.laws.specs.Refusals.{Test, refuse, Passed}
use Rattle.laws.proofs.Tests.{tests, pick_ind, by-test, or_neither}
use Rattle.laws.proofs.Lists.{in_at, part_of}
use Rattle.laws.proofs.Pieces.{piece_within}
use Rattle.laws.proofs.Places.{first_rising}
use Rattle.laws.proofs.Refusals.{passed_split, answer_given}
use Rattle.numbers.specs.Numbers.{is_none}
use Rattle.numbers.specs.declared.Instant.{Instant}
use Rattle.slice.specs.Record.{record_size, key_of, key_less, same_key, unmentioned, Slice}
use Rattle.slice.specs.Check.{refused}
use Rattle.std.specs.Prelude.{Ok, Err}
use Rattle.slice.proofs.Keys.{key_order}
use Rattle.table.specs.Header.{count_of, stride_of, room_of, records_of, record_at}
use Rattle.table.specs.Rules.{table_tests, check_table}
use Rattle.table.specs.declared.check.Sides.{Sides}
use Rattle.table.specs.declared.check.Sides.TheVariants.{Permanent, Temporary}
use Rattle.table.proofs.Records.{room_most, record_fits, records_length, record_is}
use Rattle.table.proofs.Sound.{sound_table}
use Rattle.history.specs.Counted.{slice_key}
use Rattle.history.specs.Permanent.{following, Standing, refuses, known, permanent_at}
use Rattle.history.specs.Snapshot.{passing}
use Rattle.history.specs.Source.{line_from, line, mentions, last_mention}
use Rattle.history.specs.Parts.{tells, latest_due, latest_valid}
use Rattle.history.proofs.Parts.{last_in, passing_in}
use Rattle.history.proofs.Line.{line_in}
use Rattle.state.specs.Written.{property_bytes}
use Rattle.state.specs.Asking.{slices_of, permanent_tests, both_tests, asking_tests, refused_place, place_in, placed, place_at}
use Rattle.state.specs.Asking.{place_of}
use Rattle.state.specs.Steps.{mark_due, place_and_one, origin_of, placed_by}
use Rattle.state.specs.declared.mention.Mark.{Mark}
use Rattle.state.specs.declared.anchor.Start.{Start}
use Rattle.state.specs.Asking.{Located, place_reply, points_into, handed}
use denote.Ref.{Bor}
use Rattle.state.specs.declared.question.Place.TheVariants as place
use Rattle.state.proofs.Slices.{view_key, slices_length, rising_records, sound_rising, slice_at_lem}
use Rattle.state.proofs.RecordProperties.{view_bytes}
use Rattle.state.specs.Steps.{slice_here, slice_no}
use Rattle.state.proofs.Walks.{read_here}
use Rattle.state.proofs.Replies.{place_same}
use Rattle.state.proofs.OnePass.{origin_known, anchor_by, known_valid, origin_most, Begun}
use Rattle.state.proofs.StateRecord.{over_last, under_last}

-- where property n begins in record i
abbrev pub property_place : List ℕ → ℕ → ℕ → ℕ
property_place t n i = 32 + i * record_size (stride_of t) + 32 + n * stride_of t

module _ (t : List ℕ) (roomy : count_of t ≤ room_of (record_size (stride_of t)) t) (up : Rising slice_key key_less same_key (slices_of t))
    (n : ℕ) where
  abbrev stride : ℕ
  stride = stride_of t

  abbrev size : ℕ
  size = record_size stride

  abbrev records : List (List ℕ)
  records = records_of size t

  -- the first record of the slice's key is its own
  pub place_here : (i : ℕ) → i < count_of t → place_in t n (slice_here t i) ≡ property_place t n i
  unfolding place_in
  place_here i h =
      ap (λ k. 32 + first (λ r. same_key (key_of r) k) records * size + 32 + n * stride)
      (view_key stride (record_at size i t) ∙ ap key_of (record_is size t i h roomy))
      ∙ ap (λ i. property_place t n i)
      (first_rising key_of key_less same_key key_order records (rising_records t up) i [] (omega (arith, records_length size t)))

  slice_place : (d : Slice) → In d (slices_of t)
      → (i : ℕ) × (i < count_of t) × (d ≡ slice_here t i) × (place_in t n d ≡ property_place t n i)
  slice_place d m =
      let (i, h, e) = in_at (slices_of t) d d m in
      let low : i < count_of t = omega (arith, slices_length t) in
      let own : d ≡ slice_here t i = sym e ∙ slice_at_lem t i d low roomy in
      (i, low, own, ap (place_in t n) own ∙ place_here i low)

  module _ (h : n < 8) (d : Slice) (m : In d (slices_of t)) where
    pub place-within : place_in t n d + stride ≤ length t
    place-within =
        let (i, low, _, e) = slice_place d m in
        omega (arith, e, record_fits size t i (omega arith), piece_within stride n 8 h)

    -- the bytes there are those that the slice says
    pub place_bytes : mentions n d ≡ true
        → property_bytes stride (get_or d.properties n unmentioned) ≡ take stride (drop (place_in t n d) t)
    unfolding record_at
    place_bytes y =
        let (i, low, own, e) = slice_place d m in
        let there : record_at size i t ≡ take size (drop (32 + i * size) t) = rw (lt-ltb i (room_of size t) (omega arith)) in
        let at : 32 + i * size + (32 + n * stride) ≡ property_place t n i = omega arith in
        ap (λ s. property_bytes stride (get_or s.properties n unmentioned)) own
        ∙ view_bytes stride (record_at size i t) n h (ap (mentions n) (sym own) ∙ y)
        ∙ ap (λ x. take stride (drop (32 + n * stride) x)) there
        ∙ part_of (32 + n * stride) stride size (drop (32 + i * size) t) (omega (arith, piece_within stride n 8 h))
        ∙ ap (take stride) (drop-drop (32 + n * stride) (32 + i * size) t ∙ ap (λ k. drop k t) (at ∙ sym e))

-- ---- the question, from the marks
-- slices whose last mention is the slice of a place and one
module _ (t : List ℕ) (n : ℕ) (l : List Slice) (k : ℕ) (e : last_mention n l ≡ slice_no t k) where
  none_told : k ≡ 0 → last_mention n l ≡ none
  none_told z = e ∙ ap (slice_no t) z

  one_told : k ≤ count_of t → (i : ℕ) → k ≡ i + 1 → (last_mention n l ≡ some (slice_here t i)) × (i < count_of t)
  one_told h i z = (e ∙ ap (slice_no t) (z ∙ add-one i), omega arith)

-- the slices that make a state that has begun
begun_line : (since t : Instant) (p : List ℕ) (s : Start) → Begun since t p s
    → line t (slices_of p) ≡ slice_here p s.place ∷ following t (slices_of p) (anchor_by s.based (slice_here p s.place))
unfolding line
begun_line since t p s begun = ap (line_from t (slices_of p)) begun.anchored ∙ go s.based
  where
    go : (b : Bool)
        → line_from t (slices_of p) (anchor_by b (slice_here p s.place)) ≡ slice_here p s.place
        ∷ following t (slices_of p) (anchor_by b (slice_here p s.place))
    go true = refl
    go false = refl

module _ (t : Instant) (o : List ℕ) (roomy : count_of o ≤ room_of (record_size (stride_of o)) o)
    (up : Rising slice_key key_less same_key (slices_of o)) (n : ℕ) (h : n < 8)
    (k : ℕ) (is : k ≡ place_and_one (latest_valid n t (slices_of o))) where
  pub over_none : k ≡ 0 → last_mention n (passing t (slices_of o)) ≡ none
  over_none = none_told o n (passing t (slices_of o)) k (over_last t o roomy up n h k is)

  pub over_one : (i : ℕ) → k ≡ i + 1 → (last_mention n (passing t (slices_of o)) ≡ some (slice_here o i)) × (i < count_of o)
  over_one = one_told o n (passing t (slices_of o)) k (over_last t o roomy up n h k is) (known_valid t o roomy n k is)

module _ (since t : Instant) (p : List ℕ) (roomy : count_of p ≤ room_of (record_size (stride_of p)) p)
    (up : Rising slice_key key_less same_key (slices_of p)) (s : Start) (begun : Begun since t p s) (n : ℕ) (h : n < 8)
    (m : Mark) (is : m ≡ mark_due (latest_due n since t (slices_of p))) where
  abbrev k : ℕ
  k = origin_of s (tells n (slice_here p s.place)) m

  line_last : last_mention n (line t (slices_of p)) ≡ slice_no p k
  line_last = ap (last_mention n) (begun_line since t p s begun) ∙ under_last since t p roomy up s begun n h m is

  pub under_none : k ≡ 0 → last_mention n (line t (slices_of p)) ≡ none
  under_none = none_told p n (line t (slices_of p)) k line_last

  pub under_one : (i : ℕ) → k ≡ i + 1 → (last_mention n (line t (slices_of p)) ≡ some (slice_here p i)) × (i < count_of p)
  under_one =
      one_told p n (line t (slices_of p)) k line_last
      (origin_most since t p roomy s (tells n (slice_here p s.place)) n m begun.place is)

module _ (since t : Instant) (p o : List ℕ) (roomy : count_of p ≤ room_of (record_size (stride_of p)) p)
    (up : Rising slice_key key_less same_key (slices_of p))
    (roomy' : count_of o ≤ room_of (record_size (stride_of o)) o) (up' : Rising slice_key key_less same_key (slices_of o)) (s : Start)
    (begun : Begun since t p s) (n : ℕ) (h : n < 8)
    (under : Mark) (is : under ≡ mark_due (latest_due n since t (slices_of p))) (over : ℕ)
    (is' : over ≡ place_and_one (latest_valid n t (slices_of o))) where
  abbrev from : ℕ
  from = origin_of s (tells n (slice_here p s.place)) under

  at_known : place_at p o t n (permanent_at t (slices_of p)) ≡ placed p o n (last_mention n (passing t (slices_of o)))
      (last_mention n (line t (slices_of p)))
  at_known = ap (place_at p o t n) begun.state

  pub placed_temporary : 0 < over → place_at p o t n (permanent_at t (slices_of p)) ≡ Ok (place.Temporary (property_place o n (over - 1)))
  placed_temporary y =
      let (e, low) = over_one t o roomy' up' n h over is' (over - 1) (omega arith) in
      at_known ∙ ap (λ d. placed p o n d (last_mention n (line t (slices_of p)))) e
      ∙ ap (λ (x : ℕ). Ok (place.Temporary x)) (place_here o roomy' up' n (over - 1) low)

  pub placed_permanent : over ≡ 0 → 0 < from
      → place_at p o t n (permanent_at t (slices_of p)) ≡ Ok (place.Permanent (property_place p n (from - 1)))
  placed_permanent z y =
      let (e, low) = under_one since t p roomy up s begun n h under is (from - 1) (omega arith) in
      at_known ∙ (λ i. placed p o n (over_none t o roomy' up' n h over is' z i) (e i))
      ∙ ap (λ (x : ℕ). Ok (place.Permanent x)) (place_here p roomy up n (from - 1) low)

  pub placed_nowhere : over ≡ 0 → from ≡ 0 → place_at p o t n (permanent_at t (slices_of p)) ≡ Ok place.Unmentioned
  placed_nowhere z y =
      at_known ∙ (λ i. placed p o n (over_none t o roomy' up' n h over is' z i)
      (under_none since t p roomy up s begun n h under is y i))

  -- what the code works out from the two marks
  pub placed_is : placed_by p o s under over n ≡ place_at p o t n (permanent_at t (slices_of p))
  unfolding placed_by
  placed_is =
      by-test (eqb over 0)
      (λ y. rw y
      (by-test (eqb from 0) (λ z. rw z (sym (placed_nowhere (omega tests) (omega tests))))
      (λ z. rw z (sym (placed_permanent (omega tests) (omega tests))))))
      (λ y. rw y (sym (placed_temporary (omega tests))))

-- ---- the place that is answered lies within its table, whatever the tables
pub tests_sound : (sides : Sides) (t : List ℕ) → Passed (table_tests (stride_of t) sides t) → check_table sides t ≡ Ok tt
unfolding check_table
tests_sound sides t = answer_given refused (Ok tt) (table_tests (stride_of t) sides t)

module _ (p o : List ℕ) where
  abbrev Within : Located → Type 0
  Within (Ok (place.Permanent k)) = k + stride_of p ≤ length p
  Within (Ok (place.Temporary k)) = k + stride_of o ≤ length o
  Within (Ok place.Unmentioned) = Unit {0}
  Within (Err f) = Unit {0}

  refuse_within : (xs : List Test) (v : Located) → (Passed xs → Within v) → Within (refuse refused_place xs v)
  refuse_within [] v f = f tt
  refuse_within (x ∷ xs) v f = pick_ind Within x.fails (λ _. tt) (λ y. refuse_within xs v (λ q. f (y, q)))

  module _ (t : Instant) (n : ℕ) where
    placed_within : check_table Permanent p ≡ Ok tt → check_table Temporary o ≡ Ok tt → n < 8 → (st : Standing)
        → Within (place_at p o t n st)
    unfolding last_mention
    placed_within e f h (refuses k) = tt
    placed_within e f h (known u) = go (last_mention n (passing t (slices_of o))) (last_mention n (line t (slices_of p))) refl refl
      where
        go : (x y : Option Slice) → last_mention n (passing t (slices_of o)) ≡ x → last_mention n (line t (slices_of p)) ≡ y
            → Within (placed p o n x y)
        go (some d) y a b =
            place-within o (sound_table Temporary o f).roomy (sound_rising o Temporary f) n h d
            (passing_in t (slices_of o) d (last_in (mentions n) (passing t (slices_of o)) d a).0).0
        go none (some d) a b =
            place-within p (sound_table Permanent p e).roomy (sound_rising p Permanent e) n h d
            (line_in t (slices_of p) d (last_in (mentions n) (line t (slices_of p)) d b).0)
        go none none a b = tt

    within : Within (place_of p o t n)
    unfolding place_of both_tests permanent_tests
    within = refuse_within (both_tests p o ++ asking_tests t n) (place_at p o t n (permanent_at t (slices_of p))) (λ all.
        let (tables, (i, _)) = passed_split (both_tests p o) (asking_tests t n) all in
        let (a, rest) = passed_split (permanent_tests p) _ tables in
        let (b, _) = passed_split (table_tests (stride_of o) Temporary o) _ rest in
        let low : ltb 7 n ≡ false = (or_neither (is_none t) (ltb 7 n) i).1 in
        placed_within (tests_sound Permanent p a) (tests_sound Temporary o b) (omega tests) (permanent_at t (slices_of p)))

    pub permanent_within : (at : ℕ) → place_of p o t n ≡ Ok (place.Permanent at) → at + stride_of p ≤ length p
    permanent_within at e = subst Within e within

    pub temporary_within : (at : ℕ) → place_of p o t n ≡ Ok (place.Temporary at) → at + stride_of o ≤ length o
    temporary_within at e = subst Within e within

-- ---- the part that is handed back, as the code cuts it: up to the place and s
module _ (r v : Located) (e : place_reply r ≡ place_reply v) (at : ℕ) (p o : Bor (List ℕ)) (s : ℕ) where
  pub handed_permanent : r ≡ Ok (place.Permanent at) → s ≡ stride_of p.now
      → ◌≡◌ {A = (ℕ × ℕ) × List ℕ} (points_into p at, take (at + s - at) (drop at p.now)) (handed v p o)
  handed_permanent is f =
      let cut : at + s - at ≡ stride_of p.now = omega arith in
      rw cut (ap (λ (z : Located). handed z p o) (sym is ∙ place_same r v e))

  pub handed_temporary : r ≡ Ok (place.Temporary at) → s ≡ stride_of o.now
      → ◌≡◌ {A = (ℕ × ℕ) × List ℕ} (points_into o at, take (at + s - at) (drop at o.now)) (handed v p o)
  handed_temporary is f =
      let cut : at + s - at ≡ stride_of o.now = omega arith in
      rw cut (ap (λ (z : Located). handed z p o) (sym is ∙ place_same r v e))

-- ---- what the functions that place and hand back cite
pub ruleset placing = (read_here, origin_known, room_most)

pub ruleset handing = (place_same, permanent_within, temporary_within)
