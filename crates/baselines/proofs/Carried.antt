-- The record at hand: what it says of a state, and what writing into it makes of that. Assumes nothing.
use Prim.Native.Nat.{ℕ, zero, suc, ◌+◌, ◌*◌, ◌-◌, ◌≤◌, ◌<◌}
use mathlib.Core.Path.{◌≡◌, refl, sym, ap, ◌∙◌, subst}
use mathlib.Core.List.{List, [], ◌∷◌, ◌++◌, map, append_assoc, append-nil}
use mathlib.Core.Bool.{Bool, true, false, cond, not}
use mathlib.Core.Logic.{inl, inr, ⊎_elim}
use native.Mathlib.Nat.{zero-mul, suc-mul}
use native.Mathlib.Omega.{arith}
use lib.ListN.{length, take, drop, get_or, replicate, length-append, length-map, get_or-map, length-replicate, get_or-replicate}
use lib.ListN.{replicate-append-replicate, length-drop, take-append-drop}
use lib.Seq.{length-take-le}
use lib.Dec.{eqb, ltb}
use borrow.Author.Tests.{eq-eqb, ne_eqb, not-true}
use Rattle.laws.specs.Lists.{joined, all}
use Rattle.laws.specs.Keyed.{In}
use Rattle.laws.proofs.Tests.{tests, contrary, and_both}
use Rattle.laws.proofs.Lists.{get_or_in, map_in, in_map, all_in, rest_whole}
use Rattle.laws.proofs.Pieces.{Sized, pieces_sized, joined_pieces}
use Rattle.octets.specs.Bytes.{byte_of, be_of, filled, Bytes}
use Rattle.octets.specs.Writing.{bytes_of, pasted}
use Rattle.octets.proofs.Writing.{over_middle, take_pasted, put_piece, keep_piece, all_pieces}
use Rattle.octets.proofs.Stored.{number_bytes, zero_bytes, cut}
use Rattle.numbers.specs.Numbers.{no_instant, is_none}
use Rattle.numbers.specs.declared.Instant.{Instant}
use Rattle.property.specs.Eight.{mentioned, properties_of}
use Rattle.slice.specs.Record.{record_size, Property, unmentioned, says, Slice, view_of, baseline, parts_of, is_mentioned}
use Rattle.slice.specs.Record.{property_of}
use Rattle.slice.proofs.View.{property_mentioned}
use Rattle.slice.specs.Rules.{content_of, content_right}
use Rattle.std.specs.Prelude.{Ok}
use Rattle.slice.proofs.Times.{instant_most}
use Rattle.table.specs.Header.{count_of, stride_of, record_at}
use Rattle.table.specs.Rules.{check_table}
use Rattle.table.specs.declared.check.Sides.TheVariants.{Permanent}
use Rattle.table.proofs.Sound.{sound_table}
use Rattle.table.proofs.Records.{record_in}
use Rattle.table.proofs.Stays.{sound_in}
use Rattle.history.specs.State.{State, newer, over, new_time, started}
use Rattle.history.specs.Derived.{baseline_of}
use Rattle.history.specs.Source.{mentions}
use Rattle.history.specs.Parts.{tells}
use Rattle.history.proofs.Parts.{over_at, over_length}
use Rattle.history.specs.Counted.{counts}
use Rattle.state.proofs.Pasting.{pasted_all}
use Rattle.state.proofs.Slices.{property_at, view_property, view_eight}
use Rattle.state.proofs.Views.{tells_property}
use Rattle.state.specs.Written.{nil_unknown, property_bytes}
use Rattle.state.proofs.RecordProperties.{mention_bytes}
use Rattle.baselines.specs.Laid.{part_for, record_for}
use Rattle.baselines.specs.Steps.{drawn_record}
use Rattle.baselines.specs.Carried.{tail_of, Carries, mentions_over, unknown_state}
use Rattle.baselines.proofs.Laid.{filled_by}
use Rattle.baselines.proofs.Noted.{bytes_records}

-- ---- the record of a line, in front of what goes nowhere
-- a record that is written over it
pub record_first : (stride : ℕ) (d r : List ℕ) → length r ≡ record_size stride → record_size stride ≤ length d
    → take (record_size stride) (pasted d 0 r) ≡ r
record_first stride d r e h =
    take_pasted (record_size stride) d r 0 (omega arith) h
    ∙ pasted_all (take (record_size stride) d) r (length-take-le (record_size stride) d h ∙ sym e)

-- a life time that is written into it
pub take_time : (stride : ℕ) (b : Bool) (d r x : List ℕ) (at : ℕ) → at + length x ≤ record_size stride
    → record_size stride ≤ length r
    → d ≡ cond b r (pasted r at x)
    → take (record_size stride) d ≡ cond b (take (record_size stride) r) (pasted (take (record_size stride) r) at x)
take_time stride true d r x at h k e = ap (take (record_size stride)) e
take_time stride false d r x at h k e = ap (take (record_size stride)) e ∙ take_pasted (record_size stride) r x at h k

-- ---- properties, replaced where they are mentioned
module _ (stride : ℕ) where
  abbrev Wide : List Property → Type 0
  Wide vs = (v : Property) → In v vs → length (property_bytes stride v) ≡ stride

  abbrev Spoken : List Property → Type 0
  Spoken vs = (b : List ℕ) → In (says b) vs → length b ≡ stride

  abbrev parts : List Property → List (List ℕ)
  parts = map (property_bytes stride)

  parts_sized : (vs : List Property) → Wide vs → Sized stride (parts vs)
  parts_sized vs h l m = let (v, n, e) = map_in (property_bytes stride) vs l m in rw e (h v n)

  newer_wide : (v o : Property) → ((b : List ℕ) → v ≡ says b → length b ≡ stride) → length (property_bytes stride o) ≡ stride
      → length (property_bytes stride (newer v o)) ≡ stride
  newer_wide unmentioned o h k = k
  newer_wide (says b) o h k = h b refl

  over_wide : (news olds : List Property) → length news ≡ length olds → Spoken news → Wide olds → Wide (over news olds)
  over_wide [] olds e h k = k
  over_wide (v ∷ news) [] e h k = absurd (omega arith)
  over_wide (v ∷ news) (o ∷ olds) e h k =
      λ x. ⊎_elim (λ e. rw e (newer_wide v o (λ b q. h b (inl (sym q))) (k o (inl refl))))
      (over_wide news olds (omega arith) (λ b i. h b (inr i)) (λ y i. k y (inr i)) x)

  -- ---- a record that says a state
  module _ (s : State) (r : List ℕ) (c : Carries stride s r) where
    -- with another front it is that of a BASELINE
    pub carried_drawn : (n : ℕ) (begin end : Instant)
        → pasted r 0 (1 ∷ 0 ∷ 0 ∷ 0 ∷ bytes_of 4 n ++ (bytes_of 4 begin.0 ++ bytes_of 4 end.0))
        ≡ drawn_record stride n begin end s
    unfolding drawn_record record_for baseline_of
    carried_drawn n begin end =
        let x : List ℕ = 1 ∷ 0 ∷ 0 ∷ 0 ∷ bytes_of 4 n ++ (bytes_of 4 begin.0 ++ bytes_of 4 end.0) in
        ap (λ (d : List ℕ). pasted d 0 x) c.is
        ∙ over_middle [] c.front (tail_of stride s) x c.long
        ∙ ap (λ (l : List (List ℕ)). x
        ++ (bytes_of 4 s.life.begin.0 ++ (bytes_of 4 s.life.end.0 ++ (replicate 8 0 ++ joined l))))
        (sym (filled_by stride (part_for stride) (λ b. refl) s.properties))

    -- with other bytes for some of those behind the front it says the state that these say
    retold : (s' : State) (head old rest new d : List ℕ) → tail_of stride s ≡ head ++ (old ++ rest)
        → tail_of stride s' ≡ head ++ (new ++ rest) → length old ≡ length new
        → s'.properties ≡ s.properties → s'.life.begin.0 < 4294967296 → s'.life.end.0 < 4294967296
        → d ≡ pasted r (16 + length head) new → Carries stride s' d
    retold s' head old rest new d was is long same born gone e =
        let f : (l : List ℕ) → (c.front ++ head) ++ l ≡ c.front ++ (head ++ l) = append_assoc c.front head in
        let n : 16 + length head ≡ length (c.front ++ head) = omega (arith, length-append c.front head, c.long) in
        record {
          front = c.front;
          long = c.long;
          is = e ∙ (λ i. pasted ((c.is ∙ ap (λ (l : List ℕ). c.front ++ l) was ∙ sym (f (old ++ rest))) i) (n i) new)
              ∙ over_middle (c.front ++ head) old rest new long ∙ f (new ++ rest)
              ∙ ap (λ (l : List ℕ). c.front ++ l) (sym is);
          eight = ap length same ∙ c.eight;
          sized = λ v m. c.sized v (subst (In v) same m);
          born = born;
          gone = gone;
        }

    -- a life time that is given
    pub carried_born : (x : Instant) → x.0 < 4294967296 → (d : List ℕ) → d ≡ cond (is_none x) r (pasted r 16 (bytes_of 4 x.0))
        → Carries stride
        (record { life = record { begin = new_time x s.life.begin; end = s.life.end }; properties = s.properties }) d
    unfolding new_time
    carried_born x low d e = go (is_none x) e
      where
        go : (b : Bool) → d ≡ cond b r (pasted r 16 (bytes_of 4 x.0))
            → Carries stride
            (record { life = record { begin = cond b s.life.begin x; end = s.life.end }; properties = s.properties }) d
        go true e = rw e c
        go false e = retold _ [] (bytes_of 4 s.life.begin.0) _ (bytes_of 4 x.0) d refl refl refl refl low c.gone e

    pub carried_ended : (x : Instant) → x.0 < 4294967296 → (d : List ℕ) → d ≡ cond (is_none x) r (pasted r 20 (bytes_of 4 x.0))
        → Carries stride
        (record { life = record { begin = s.life.begin; end = new_time x s.life.end }; properties = s.properties }) d
    unfolding new_time
    carried_ended x low d e = go (is_none x) e
      where
        go : (b : Bool) → d ≡ cond b r (pasted r 20 (bytes_of 4 x.0))
            → Carries stride
            (record { life = record { begin = s.life.begin; end = cond b s.life.end x }; properties = s.properties }) d
        go true e = rw e c
        go false e =
            retold _ (bytes_of 4 s.life.begin.0) (bytes_of 4 s.life.end.0) _ (bytes_of 4 x.0) d refl refl refl refl
            c.born low e

  -- ---- a PERMDELTA applied, property by property
  module _ (d : Slice) (s : State) (r : List ℕ) (c : Carries stride s r) where
    abbrev mid : List ℕ
    mid = bytes_of 4 s.life.begin.0 ++ (bytes_of 4 s.life.end.0 ++ replicate 8 0)

    abbrev news : List Property
    news = over d.properties s.properties

    -- the record with the first n properties replaced
    abbrev pub partly : ℕ → List ℕ
    partly n = (c.front ++ mid) ++ joined (take n (parts news) ++ drop n (parts s.properties))

    pub partly_none : r ≡ partly 0
    partly_none = c.is ∙ sym (append_assoc c.front mid (joined (parts s.properties)))

    was : (n : ℕ) → get_or (parts s.properties) n (nil_unknown stride) ≡ property_bytes stride (get_or s.properties n unmentioned)
    was n = get_or-map (property_bytes stride) s.properties n unmentioned

    is_at : (n : ℕ) (v : Property) → get_or d.properties n unmentioned ≡ v
        → get_or (parts news) n (nil_unknown stride) ≡ property_bytes stride (newer v (get_or s.properties n unmentioned))
    is_at n v e =
        get_or-map (property_bytes stride) news n unmentioned
        ∙ ap (property_bytes stride)
        (over_at d.properties s.properties n ∙ ap (λ (w : Property). newer w (get_or s.properties n unmentioned)) e)

    module _ (eight : length d.properties ≡ 8) (spoken : Spoken d.properties) where
      long : length news ≡ 8
      long = over_length d.properties s.properties (eight ∙ sym c.eight) ∙ c.eight

      wide : Wide news
      wide = over_wide d.properties s.properties (eight ∙ sym c.eight) spoken c.sized

      same : length (parts news) ≡ length (parts s.properties)
      same = length-map news (property_bytes stride) ∙ long ∙ sym (length-map s.properties (property_bytes stride) ∙ c.eight)

      pub partly_skip : (n : ℕ) → get_or d.properties n unmentioned ≡ unmentioned → partly (suc n) ≡ partly n
      partly_skip n e =
          ap (λ (l : List (List ℕ)). (c.front ++ mid) ++ joined l)
          (keep_piece stride (nil_unknown stride) n (parts news) (parts s.properties) same (is_at n unmentioned e ∙ sym (was n)))

      pub partly_put : (n : ℕ) (b : List ℕ) → get_or d.properties n unmentioned ≡ says b → n < 8 → length b ≡ stride
          → pasted (partly n) (32 + n * stride) b ≡ partly (suc n)
      partly_put n b e l k =
          let old = property_bytes stride (get_or s.properties n unmentioned) in
          let h : length old ≡ stride = c.sized _ (get_or_in s.properties n unmentioned (omega (arith, c.eight))) in
          let m : 32 + n * stride ≡ length (c.front ++ mid) + n * stride = omega (arith, length-append c.front mid, c.long) in
          ap (λ (k : ℕ). pasted (partly n) k b) m
          ∙ put_piece stride (nil_unknown stride) n (c.front ++ mid) (parts news) (parts s.properties) b old []
          (omega (arith, length-map news (property_bytes stride), long)) same (parts_sized news wide)
          (was n ∙ sym (append-nil old)) (is_at n (says b) e ∙ sym (append-nil b)) (h ∙ sym k)

      pub partly_all : Carries stride (mentions_over d s) (partly 8)
      partly_all = record {
        front = c.front;
        long = c.long;
        is = ap (λ (l : List (List ℕ)). (c.front ++ mid) ++ joined l)
            (all_pieces 8 (parts news) (parts s.properties) (length-map news (property_bytes stride) ∙ long)
            (length-map s.properties (property_bytes stride) ∙ c.eight))
            ∙ append_assoc c.front mid (joined (parts news));
        eight = long;
        sized = wide;
        born = c.born;
        gone = c.gone;
      }

-- ---- a property of a record's slice, by its first byte
module _ (stride : ℕ) (r : List ℕ) (n : ℕ) (few : n < 8) (size : length r ≡ record_size stride) where
  by_mention : (b : Bool) → mentioned (property_at stride r n) ≡ b
      → get_or (view_of stride r).properties n unmentioned ≡ cond b (says (property_at stride r n)) unmentioned
  by_mention b e = view_property stride r n few ∙ ap (λ (c : Bool). cond c (says (property_at stride r n)) unmentioned) e

  told : not (eqb (byte_of r (32 + n * stride)) 0) ≡ mentioned (property_at stride r n)
  unfolding tells mentions
  told =
      let y : ltb n 8 ≡ true = omega tests in
      tells_property stride r n few size ∙ rw (y, view_property stride r n few, property_mentioned (property_at stride r n))

  pub view_skips : byte_of r (32 + n * stride) ≡ 0 → get_or (view_of stride r).properties n unmentioned ≡ unmentioned
  view_skips e = by_mention false (sym told ∙ ap not (eq-eqb (byte_of r (32 + n * stride)) 0 e))

  pub view_says : (byte_of r (32 + n * stride) ≡ 0 → ⊥)
      → get_or (view_of stride r).properties n unmentioned ≡ says (property_at stride r n)
  view_says e = by_mention true (sym told ∙ ap not (ne_eqb (byte_of r (32 + n * stride)) 0 e))

-- ---- the record of the unknown, property by property
module _ (stride : ℕ) where
  -- two bytes of a property, and those behind them
  abbrev after : ℕ → ℕ → List ℕ
  after a b = a ∷ b ∷ replicate (stride - 2) 0

  abbrev ahead : List ℕ
  ahead = replicate 16 0 ++ (replicate 8 255 ++ replicate 8 0)

  -- so many that are nil, unknown, and then zeros
  unfoldable pub unknown_to : ℕ → List ℕ
  unknown_to n = ahead ++ joined (take n (replicate 8 (after 1 4)) ++ drop n (replicate 8 (after 0 0)))

  unknown_in : {A : Type 0} (n : ℕ) (v a : A) → In v (replicate n a) → v ≡ a
  unknown_in {A = A} zero v a x' = elim x' [ ]
  unknown_in (suc n) v a (inl e) = e
  unknown_in (suc n) v a (inr m) = unknown_in n v a m

  module _ (wide : 2 ≤ stride) where
    zeros : (m : ℕ) → replicate (m * stride) 0 ≡ joined (replicate m (after 0 0))
    zeros zero = ap (λ (k : ℕ). replicate k 0) (zero-mul stride)
    zeros (suc m) =
        let e : suc m * stride ≡ suc (suc (stride - 2)) + m * stride = omega (arith, suc-mul m stride) in
        ap (λ (k : ℕ). replicate k 0) e
        ∙ sym (replicate-append-replicate (suc (suc (stride - 2))) (m * stride) 0)
        ∙ ap (λ (l : List ℕ). after 0 0 ++ l) (zeros m)

    after_long : (v : List ℕ) → v ≡ after 1 4 → length v ≡ stride
    after_long v e = ap length e ∙ omega (arith, length-replicate {A = ℕ} (stride - 2) 0)

    pub unknown_none : pasted (replicate (record_size stride) 0) 16 (replicate 8 255) ≡ unknown_to 0
    unfolding unknown_to
    unknown_none =
        ap (λ (l : List ℕ). pasted l 16 (replicate 8 255))
        (sym (replicate-append-replicate 32 (8 * stride) 0) ∙ ap (λ (l : List ℕ). replicate 32 0 ++ l) (zeros 8))
        ∙ over_middle (replicate 16 0) (replicate 8 0) (replicate 8 0 ++ joined (replicate 8 (after 0 0))) (replicate 8 255) refl

    -- one more
    pub unknown_more : (n : ℕ) → n < 8 → pasted (unknown_to n) (32 + n * stride) (1 ∷ 4 ∷ []) ≡ unknown_to (n + 1)
    unfolding unknown_to
    unknown_more n h =
        let f : suc n ≡ n + 1 = omega arith in
        put_piece stride [] n ahead (replicate 8 (after 1 4)) (replicate 8 (after 0 0)) (1 ∷ 4 ∷ []) (0 ∷ 0 ∷ [])
        (replicate (stride - 2) 0) h refl (λ l m. after_long l (unknown_in 8 l (after 1 4) m))
        (get_or-replicate 8 n (after 0 0) [] h) (get_or-replicate 8 n (after 1 4) [] h) refl
        ∙ ap (λ (k : ℕ). ahead ++ joined (take k (replicate 8 (after 1 4)) ++ drop k (replicate 8 (after 0 0)))) f

    -- all eight
    pub unknown_carried : Carries stride unknown_state (unknown_to 8)
    unfolding unknown_to no_instant
    unknown_carried = record {
      front = replicate 16 0;
      long = refl;
      is = refl;
      eight = refl;
      sized = λ v m. after_long (property_bytes stride v) (ap (property_bytes stride) (unknown_in 8 v unmentioned m));
      born = omega arith;
      gone = omega arith;
    }

-- ---- properties that are all mentioned are written as they stand
module _ (stride : ℕ) where
  all_written : (xs : List (List ℕ)) → ((x : List ℕ) → In x xs → is_mentioned (property_of x) ≡ true)
      → map (property_bytes stride) (map property_of xs) ≡ xs
  all_written [] h = refl
  all_written (x ∷ xs) h = λ i. mention_bytes stride (mentioned x) x (h x (inl refl)) i ∷ all_written xs (λ y m. h y (inr m)) i

  module _ (r : List ℕ) (bytes : Bytes r) (size : length r ≡ record_size stride) (clear : filled 0 8 r 24 ≡ true)
      (every : all is_mentioned (view_of stride r).properties ≡ true) where
    parts_mentioned : (x : List ℕ) → In x (parts_of stride r) → is_mentioned (property_of x) ≡ true
    unfolding view_of
    parts_mentioned x m =
        all_in is_mentioned (map property_of (parts_of stride r)) every (property_of x) (in_map property_of (parts_of stride r) x m)

    parts_laid : joined (map (property_bytes stride) (view_of stride r).properties) ≡ drop 32 r
    unfolding view_of properties_of
    parts_laid =
        let n : 8 * stride ≡ length r - 32 = omega arith in
        ap joined (all_written (parts_of stride r) parts_mentioned)
        ∙ joined_pieces stride 8 (drop 32 r)
        ∙ ap (λ (m : ℕ). take m (drop 32 r)) n
        ∙ rest_whole 32 r

    carry_record : Carries stride (started (view_of stride r)) r
    unfolding view_of properties_of no_instant
    carry_record = record {
      front = take 16 r;
      long = length-take-le 16 r (omega arith);
      is = sym (take-append-drop 16 r) ∙ ap (λ (l : List ℕ). take 16 r ++ l)
          (cut 4 16 r _ (number_bytes r 16 bytes (omega arith))
          ∙ ap (λ (l : List ℕ). bytes_of 4 (be_of 4 r 16) ++ l)
          (cut 4 20 r _ (number_bytes r 20 bytes (omega arith))
          ∙ ap (λ (l : List ℕ). bytes_of 4 (be_of 4 r 20) ++ l)
          (cut 8 24 r _ (zero_bytes r 8 24 clear (omega arith)) ∙ ap (λ (l : List ℕ). replicate 8 0 ++ l) (sym parts_laid))));
      eight = view_eight stride r;
      sized = λ v m. let (x, n, e) = map_in property_of (parts_of stride r) v m in
          ap (λ (w : Property). length (property_bytes stride w)) e
          ∙ ap length (mention_bytes stride (mentioned x) x (parts_mentioned x n))
          ∙ pieces_sized stride 8 (drop 32 r) (simp length-drop (omega arith)) x n;
      born = omega (arith, instant_most r 16 bytes);
      gone = omega (arith, instant_most r 20 bytes);
    }

-- ---- a BASELINE of a sound table
module _ (p : List ℕ) (bytes : Bytes p) (sound : check_table Permanent p ≡ Ok tt) where
  abbrev at : ℕ → List ℕ
  at i = record_at (record_size (stride_of p)) i p

  pub carry_base : (i : ℕ) → i < count_of p → counts baseline (view_of (stride_of p) (at i)) ≡ true
      → Carries (stride_of p) (started (view_of (stride_of p) (at i))) (at i)
  unfolding counts content_right content_of view_of
  carry_base i h c =
      let (k, n) = and_both (eqb (view_of (stride_of p) (at i)).kind baseline) (not (view_of (stride_of p) (at i)).cancelled) c in
      let m = record_in (record_size (stride_of p)) p i h (sound_table Permanent p sound).roomy in
      let good = sound_in Permanent p sound (at i) m in
      ⊎_elim
      (λ x. contrary x.cancelled (not-true _ n))
      (λ x. carry_record (stride_of p) (at i) (bytes_records p bytes (at i) m) good.size good.reserved (rw k at x.content))
      good.rest
