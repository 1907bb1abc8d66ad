-- Whether anything temporary touches a property: what a walk downward has found at each record, what is left behind each test, and
-- the answer beside that of the property question. Assumes nothing.
use Prim.Native.Nat.{ℕ, ◌+◌, ◌-◌, ◌≤◌, ◌<◌}
use mathlib.Core.Path.{◌≡◌, refl, sym, ap, ◌∙◌, subst}
use mathlib.Core.List.{List, [], ◌∷◌, ◌++◌}
use mathlib.Core.Bool.{Bool, true, false, cond, ◌&&◌, ◌||◌}
use mathlib.Core.Option.{Option, none, some}
use native.Mathlib.Omega.{arith}
use lib.ListN.{drop}
use lib.Dec.{ltb}
use Rattle.laws.specs.Lists.{any}
use Rattle.laws.specs.Keyed.{Rising}
use Rattle.laws.specs.Refusals.{Test, refuse, Passed}
use Rattle.laws.proofs.Tests.{tests, pick_ind, by-test, or_neither}
use Rattle.laws.proofs.Refusals.{passed_split}
use Rattle.numbers.specs.Numbers.{is_none}
use Rattle.numbers.specs.declared.Instant.{Instant}
use Rattle.slice.specs.Record.{tempdelta, record_size, key_less, same_key, Slice, view_of}
use Rattle.std.specs.Prelude.{Ok, Err}
use Rattle.table.specs.Header.{count_of, stride_of, room_of, record_at}
use Rattle.table.specs.Rules.{table_tests, check_table}
use Rattle.table.specs.declared.check.Sides.TheVariants.{Temporary}
use Rattle.table.proofs.Records.{room_most}
use Rattle.table.proofs.Sound.{sound_table}
use Rattle.history.specs.Counted.{slice_key}
use Rattle.history.specs.Permanent.{Standing, refuses, known, permanent_at}
use Rattle.history.specs.Snapshot.{valid, passing}
use Rattle.history.specs.Parts.{tells}
use Rattle.history.specs.Source.{line, last_mention}
use Rattle.history.specs.Touched.{touches, looked}
use Rattle.history.proofs.Parts.{tells_mentions}
use Rattle.history.proofs.Touched.{LastAt, last_any, last_looked, none_looked, looked_most, untouched_latest, touched_latest}
use Rattle.state.specs.Asking.{slices_of, permanent_tests, both_tests, asking_tests, refused_place, place_in, placed, place_at}
use Rattle.state.specs.Asking.{place_of}
use Rattle.state.specs.Touched.{refused_touched, touched_by, touched_of, uncounted, AnsweredBy}
use Rattle.state.specs.Steps.{place_and_one, holding}
use Rattle.state.specs.Asking.{Located}
use Rattle.state.specs.declared.question.Place.TheVariants as place
use Rattle.state.specs.Touched.{Looked}
use Rattle.state.specs.declared.looking.Touched.TheVariants as touched
use Rattle.state.proofs.Slices.{slices_length, slices_at, slices_end, sound_rising}
use Rattle.state.proofs.Views.{valid_holding}
use Rattle.state.proofs.Walks.{Read, read_here}
use Rattle.state.specs.Steps.{slice_here}
use Rattle.state.proofs.PropertyPlace.{property_place, place_here, over_none, over_one, tests_sound}
use Rattle.slice.proofs.Replies.{checked_same}
use Rattle.state.proofs.Stages.{behind, check_behind, whole}

-- ---- the walk, where no slice behind record i touches the property
module _ (t : List ℕ) (roomy : count_of t ≤ room_of (record_size (stride_of t)) t) (at : Instant) (n : ℕ) where
  abbrev test : Slice → Bool
  test = touches at n

  module _ (i : ℕ) (h : i < count_of t) (quiet : any test (drop (i + 1) (slices_of t)) ≡ false) where
    -- record i touches it
    pub found_here : test (slice_here t i) ≡ true → Ok (touched.Yes (count_of t - i)) ≡ touched_by at n (slices_of t)
    unfolding touched_by
    found_here y =
        let last : LastAt test (slices_of t) i =
        record { here = _; behind = _; there = slices_at t i h roomy; passes = y; quiet = quiet } in
        let e : count_of t - i ≡ looked test (slices_of t) = omega (arith, last_looked test (slices_of t) i last, slices_length t) in
        rw (last_any test (slices_of t) i last, e)

    -- it does not
    pub quiet_here : test (slice_here t i) ≡ false → any test (drop i (slices_of t)) ≡ false
    quiet_here q = ap (any test) (slices_at t i h roomy) ∙ rw (q, quiet)

  -- none does
  pub found_nowhere : any test (slices_of t) ≡ false → Ok (touched.No (count_of t)) ≡ touched_by at n (slices_of t)
  unfolding touched_by
  found_nowhere q = rw (q, none_looked test (slices_of t) q, slices_length t)

-- ---- the walk, as the code takes it: it looks at record r with the two tests, where none that it looked at before touches
module _ (t : List ℕ) (roomy : count_of t ≤ room_of (record_size (stride_of t)) t) (at : Instant) (n : ℕ) (small : n < 8)
    (count : ℕ) (all : count ≡ count_of t) where
  pub look_start : any (touches at n) (drop (count + 1 - 1) (slices_of t)) ≡ false
  look_start = ap (any (touches at n)) (slices_end t (count + 1 - 1) (omega arith))

  pub look_end : any (touches at n) (drop (count - count) (slices_of t)) ≡ false
      → Ok (touched.No count) ≡ touched_by at n (slices_of t)
  look_end quiet =
      let z : count - count ≡ 0 = omega arith in
      ap (λ (k : ℕ). Ok (touched.No k)) all ∙ found_nowhere t roomy at n (rw z at quiet)

  module _ (size stride looked : ℕ) (r : List ℕ) (size_is : size ≡ record_size (stride_of t)) (stride_is : stride ≡ stride_of t)
      (first : 1 ≤ looked) (last : looked ≤ count) (here : r ≡ record_at size (count - looked) t)
      (quiet : any (touches at n) (drop (count + 1 - looked) (slices_of t)) ≡ false) (held said : Bool)
      (held_is : (stride : ℕ) → held ≡ holding tempdelta at (view_of stride r)) (said_is : said ≡ tells n (view_of stride r)) where
    read : Read t (count - looked) stride r
    read = read_here t (count - looked) size_is here stride_is roomy (omega arith)

    tests_is : (held && said) ≡ touches at n (slice_here t (count - looked))
    unfolding touches
    tests_is =
        let d = slice_here t (count - looked) in
        let held' : held ≡ valid at d =
        held_is (stride_of t) ∙ ap (λ r. holding tempdelta at (view_of (stride_of t) r)) read.is ∙ valid_holding at d in
        let said' = said_is ∙ ap (tells n) read.seen ∙ tells_mentions n d small in
        λ i. held' i && said' i

    behind_it : any (touches at n) (drop (count - looked + 1) (slices_of t)) ≡ false
    behind_it = let e : count - looked + 1 ≡ count + 1 - looked = omega arith in rw e quiet

    pub look_found : (held && said) ≡ true → Ok (touched.Yes looked) ≡ touched_by at n (slices_of t)
    look_found y =
        let e : looked ≡ count_of t - (count - looked) = omega arith in
        ap (λ (k : ℕ). Ok (touched.Yes k)) e
        ∙ found_here t roomy at n (count - looked) (omega arith) behind_it (sym tests_is ∙ y)

    pub look_past : (held && said) ≡ false → any (touches at n) (drop (count + 1 - (looked + 1)) (slices_of t)) ≡ false
    look_past q =
        let e : count + 1 - (looked + 1) ≡ count - looked = omega arith in
        rw e (quiet_here t roomy at n (count - looked) (omega arith) behind_it (sym tests_is ∙ q))

    pub look_last : looked ≡ count → (held && said) ≡ false → Ok (touched.No count) ≡ touched_by at n (slices_of t)
    look_last e q = let z : count + 1 - (looked + 1) ≡ count - count = omega arith in look_end (rw z at look_past q)

pub ruleset looking_down = (read_here, look_start, look_end)

-- ---- the question, test by test
pub touched_is : (t : List ℕ) (at : Instant) (n : ℕ)
    → touched_of t at n
    ≡ behind refused_touched (check_table Temporary t)
    (cond (is_none at || ltb 7 n) (refused_touched 19) (touched_by at n (slices_of t)))
unfolding touched_of check_table
touched_is t at n =
    check_behind refused_touched (table_tests (stride_of t) Temporary t) (asking_tests at n) (touched_by at n (slices_of t))

pub ruleset asking_touched = (checked_same, touched_is, whole)

-- behind the tests
touched_left : (t : List ℕ) (at : Instant) (n : ℕ) → check_table Temporary t ≡ Ok tt → (is_none at || ltb 7 n) ≡ false
    → touched_by at n (slices_of t) ≡ touched_of t at n
touched_left t at n e h = sym (touched_is t at n ∙ rw (e, h))

-- a claim about what tests answer is shown of their refusals, and of the answer where none fails
refuse_ind : {A : Type 0} (P : A → Type 0) (refused : ℕ → A) → ((k : ℕ) → P (refused k)) → (xs : List Test) (v : A)
    → (Passed xs → P v)
    → P (refuse refused xs v)
refuse_ind P refused own [] v f = f tt
refuse_ind P refused own (x ∷ xs) v f =
    pick_ind P x.fails (λ _. own x.number) (λ y. refuse_ind P refused own xs v (λ q. f (y, q)))

-- ---- beside the property question
-- of a sound table, what touches property n last is what mentions it last among the slices that are valid
module _ (t : List ℕ) (at : Instant) (n : ℕ) (h : n < 8) (sound : check_table Temporary t ≡ Ok tt) where
  abbrev roomy : count_of t ≤ room_of (record_size (stride_of t)) t
  roomy = (sound_table Temporary t sound).roomy

  abbrev up : Rising slice_key key_less same_key (slices_of t)
  up = sound_rising t Temporary sound

  -- how many records were looked at
  abbrev seen : ℕ
  seen = looked (touches at n) (slices_of t)

  touched_mention : any (touches at n) (slices_of t) ≡ true
      → (d : Slice) × (last_mention n (passing at (slices_of t)) ≡ some d) × (place_in t n d ≡ property_place t n (count_of t - seen))
  touched_mention y =
      let (b, e, k) = touched_latest at n h (slices_of t) y in
      let (m, low) = over_one at t roomy up n h (b.place + 1) (sym (ap place_and_one e)) b.place refl in
      let place : b.place ≡ count_of t - seen = omega (arith, slices_length t) in
      (slice_here t b.place, m, place_here t roomy up n b.place low ∙ ap (property_place t n) place)

  untouched_mention : any (touches at n) (slices_of t) ≡ false → last_mention n (passing at (slices_of t)) ≡ none
  untouched_mention q = over_none at t roomy up n h 0 (sym (ap place_and_one (untouched_latest at n h (slices_of t) q))) refl

module _ (p t : List ℕ) (at : Instant) (n : ℕ) where
  -- what an answer tells of a place: yes, and the place lies in record (count - looked); or no
  abbrev Beside : Looked → Located → Type 0
  Beside a (Ok (place.Permanent k)) = (seen : ℕ) × (a ≡ Ok (touched.No seen))
  Beside a (Ok (place.Temporary k)) = (seen : ℕ) × (a ≡ Ok (touched.Yes seen)) × (k ≡ property_place t n (count_of t - seen))
  Beside a (Ok place.Unmentioned) = (seen : ℕ) × (a ≡ Ok (touched.No seen))
  Beside a (Err f) = Unit {0}

  -- past the tests
  module _ (h : n < 8) (sound : check_table Temporary t ≡ Ok tt) where
    abbrev slices : List Slice
    slices = slices_of t

    beside_placed : (v : Option Slice) → Beside (touched_by at n slices) (placed p t n (last_mention n (passing at slices)) v)
    unfolding touched_by
    beside_placed v =
        by-test (any (touches at n) slices)
        (λ y. let (d, e, k) = touched_mention t at n h sound y in rw (y, e) (looked (touches at n) slices, refl, k))
        (λ q. rw (q, untouched_mention t at n h sound q) (go v))
      where
        go : (v : Option Slice) → Beside (Ok (touched.No (looked (touches at n) slices))) (placed p t n none v)
        go (some d) = (looked (touches at n) slices, refl)
        go none = (looked (touches at n) slices, refl)

    beside_standing : (st : Standing) → Beside (touched_by at n slices) (place_at p t at n st)
    beside_standing (refuses k) = tt
    beside_standing (known u) = beside_placed (last_mention n (line at (slices_of p)))

  beside : Beside (touched_of t at n) (place_of p t at n)
  unfolding place_of both_tests
  beside =
      let standing = permanent_at at (slices_of p) in
      refuse_ind (Beside (touched_of t at n)) refused_place (λ _. tt) (both_tests p t ++ asking_tests at n) (place_at p t at n standing)
      (λ all.
      let (tables, (i, _)) = passed_split (both_tests p t) (asking_tests at n) all in
      let (_, rest) = passed_split (permanent_tests p) _ tables in
      let (b, _) = passed_split (table_tests (stride_of t) Temporary t) _ rest in
      let low : ltb 7 n ≡ false = (or_neither (is_none at) (ltb 7 n) i).1 in
      let sound = tests_sound Temporary t b in
      subst (λ a. Beside a (place_at p t at n standing)) (touched_left t at n sound i)
      (beside_standing (omega tests) sound standing))

  -- yes where the property question answers with the temporary table, no where it answers otherwise
  pub touched_agrees : AnsweredBy (place_of p t at n) (touched_of t at n)
  touched_agrees = go (place_of p t at n) beside
    where
      go : (v : Located) → Beside (touched_of t at n) v → AnsweredBy v (touched_of t at n)
      go (Ok (place.Permanent k)) (seen, e) = ap uncounted e
      go (Ok (place.Temporary k)) (seen, e, _) = ap uncounted e
      go (Ok place.Unmentioned) (seen, e) = ap uncounted e
      go (Err f) u = tt

  -- and the part that it hands back lies in the record that was found
  pub touched_part : (k seen : ℕ) → place_of p t at n ≡ Ok (place.Temporary k) → touched_of t at n ≡ Ok (touched.Yes seen)
      → k ≡ property_place t n (count_of t - seen)
  touched_part k seen e f =
      let (m, g, h) = subst (Beside (touched_of t at n)) e beside in
      h ∙ ap (λ a. property_place t n (count_of t - count_in a)) (sym g ∙ f)
    where
      count_in : Looked → ℕ
      count_in (Ok (touched.Yes m)) = m
      count_in (Ok (touched.No m)) = m
      count_in (Err f) = 0

-- ---- no more records are looked at than there are
module _ (t : List ℕ) (at : Instant) (n : ℕ) where
  abbrev Few : Looked → Type 0
  Few (Ok (touched.Yes seen)) = seen ≤ 256
  Few (Ok (touched.No seen)) = seen ≤ 256
  Few (Err f) = Unit {0}

  few : Few (touched_of t at n)
  unfolding touched_of touched_by
  few =
      let checks = table_tests (stride_of t) Temporary t in
      refuse_ind Few refused_touched (λ _. tt) (checks ++ asking_tests at n) (touched_by at n (slices_of t)) (λ all.
      let roomy = (sound_table Temporary t (tests_sound Temporary t (passed_split checks (asking_tests at n) all).0)).roomy in
      let most : looked (touches at n) (slices_of t) ≤ 256 =
      omega (arith, looked_most (touches at n) (slices_of t), slices_length t, roomy, room_most (record_size (stride_of t)) t) in
      pick_ind Few (any (touches at n) (slices_of t)) (λ _. most) (λ _. most))

  pub yes_few : (seen : ℕ) → touched_of t at n ≡ Ok (touched.Yes seen) → seen ≤ 256
  yes_few seen e = subst Few e few

  pub no_few : (seen : ℕ) → touched_of t at n ≡ Ok (touched.No seen) → seen ≤ 256
  no_few seen e = subst Few e few
