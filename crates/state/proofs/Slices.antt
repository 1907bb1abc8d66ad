-- The slices of a table: the views of its records, place by place. A view keeps the key of its record, so what is so of records
-- by key is so of their views. Assumes nothing.
use Prim.Native.Nat.{ℕ, ◌+◌, ◌*◌, ◌≤◌, ◌<◌}
use mathlib.Core.Path.{◌≡◌, refl, sym, ap, ◌∙◌, subst}
use mathlib.Core.List.{List, [], ◌∷◌, map}
use mathlib.Core.Bool.{Bool, true, false, cond}
use mathlib.Core.Option
use mathlib.Core.Option.{some}
use native.Mathlib.Nat.{add-zero}
use native.Mathlib.Omega.{arith}
use lib.ListN.{length, take, drop, get_or, length-map, length-drop, drop_of_length-le, get_or-map}
use lib.Seq.{drop-drop, get_or-drop}
use Rattle.laws.specs.Keyed.{In, Rising, stored, put}
use Rattle.laws.proofs.Lists.{length-pieces, map_in, in_map, drop-map}
use Rattle.laws.proofs.Pieces.{piece_at, pieces_sized}
use Rattle.property.specs.Eight.{properties_of, mentioned}
use Rattle.slice.specs.Record.{record_size, parts_of, key_of, key_less, same_key, unmentioned, says, property_of, Slice, view_of}
use Rattle.slice.specs.declared.record.Key.{Key}
use Rattle.std.specs.Prelude.{Ok}
use Rattle.table.specs.Header.{side_of, count_of, stride_of, room_of, records_of, record_at}
use Rattle.table.specs.Rules.{in_order, check_table}
use Rattle.table.specs.declared.check.Sides.{Sides}
use Rattle.table.proofs.Records.{records_length, rest_at}
use Rattle.table.proofs.Sound.{sound_table}
use Rattle.table.proofs.Stays.{Up, all_good, good_sized, order_in}
use Rattle.history.specs.Counted.{slice_key}
use Rattle.state.specs.Asking.{slices_of}
use Rattle.state.specs.Steps.{Walkable}

-- ---- records and their views, by key
module _ (stride : ℕ) where
  abbrev views : List (List ℕ) → List Slice
  views = map (view_of stride)

  pub view_key : (r : List ℕ) → slice_key (view_of stride r) ≡ key_of r
  unfolding view_of
  view_key r = refl

  -- what is put among records is put among their views
  pub view_put : (r : List ℕ) (rs : List (List ℕ))
      → views (put key_of key_less same_key r rs) ≡ put slice_key key_less same_key (view_of stride r) (views rs)
  unfolding view_of
  view_put r [] = refl
  view_put r (x ∷ xs) = go (key_less (key_of r) (key_of x)) (same_key (key_of r) (key_of x)) (view_put r xs)
    where
      go : (a b : Bool) → views (put key_of key_less same_key r xs) ≡ put slice_key key_less same_key (view_of stride r) (views xs)
          → views (cond a (r ∷ x ∷ xs) (cond b (r ∷ xs) (x ∷ put key_of key_less same_key r xs)))
          ≡ cond a (view_of stride r ∷ view_of stride x ∷ views xs)
          (cond b (view_of stride r ∷ views xs) (view_of stride x ∷ put slice_key key_less same_key (view_of stride r) (views xs)))
      go true b e = refl
      go false true e = refl
      go false false e = ap (λ (l : List Slice). view_of stride x ∷ l) e

  -- what is stored of a key among the views is the view of what is stored
  pub view_stored : (k : Key) (rs : List (List ℕ))
      → stored slice_key key_less same_key k (views rs) ≡ Option.map (view_of stride) (stored key_of key_less same_key k rs)
  unfolding view_of
  view_stored k [] = refl
  view_stored k (x ∷ xs) = go (same_key k (key_of x)) (view_stored k xs)
    where
      go : (b : Bool)
          → stored slice_key key_less same_key k (views xs) ≡ Option.map (view_of stride) (stored key_of key_less same_key k xs)
          → cond b (some (view_of stride x)) (stored slice_key key_less same_key k (views xs)) ≡ Option.map (view_of stride)
          (cond b (some x) (stored key_of key_less same_key k xs))
      go true e = refl
      go false e = e

  -- views of records that rise rise
  pub view_rising : (rs : List (List ℕ)) → Up rs → Rising slice_key key_less same_key (views rs)
  unfolding view_of
  view_rising [] up = tt
  view_rising (x ∷ xs) (low, up) = (above, view_rising xs up)
    where
      above : (s : Slice) → In s (views xs) → key_less (key_of x) (slice_key s) ≡ true
      above s m = let (y, n, e) = map_in (view_of stride) xs s m in ap (λ (z : Slice). key_less (key_of x) (slice_key z)) e ∙ low y n

  -- and they do only where the records do
  pub rising_views : (rs : List (List ℕ)) → Rising slice_key key_less same_key (views rs) → Up rs
  unfolding view_of
  rising_views [] up = tt
  rising_views (x ∷ xs) (low, up) = (λ y m. low (view_of stride y) (in_map (view_of stride) xs y m), rising_views xs up)

-- ---- the properties of a view
-- one that says bytes says its own
pub said : (c : Bool) (b x : List ℕ) → says b ≡ cond c (says x) unmentioned → b ≡ x
said true b x e = cc
said false b x e = cc

module _ (stride : ℕ) (r : List ℕ) where
  -- the bytes of property p in a record
  abbrev pub property_at : ℕ → List ℕ
  property_at p = take stride (drop (32 + p * stride) r)

  pub view_eight : length (view_of stride r).properties ≡ 8
  unfolding view_of properties_of
  view_eight = length-map (parts_of stride r) property_of ∙ length-pieces stride 8 (drop 32 r)

  pub view_property : (p : ℕ) → p < 8 → get_or (view_of stride r).properties p unmentioned ≡ property_of (property_at p)
  unfolding view_of properties_of mentioned
  view_property p h =
      get_or-map property_of (parts_of stride r) p []
      ∙ ap property_of (piece_at stride 8 (drop 32 r) [] p h ∙ ap (take stride) (drop-drop (p * stride) 32 r))

  -- where the record has its size, one that says bytes says as many as a property has
  pub view_sized : length r ≡ record_size stride → (b : List ℕ) → In (says b) (view_of stride r).properties → length b ≡ stride
  unfolding view_of properties_of
  view_sized l b m =
      let (x, n, e) = map_in property_of (parts_of stride r) (says b) m in
      rw (said (mentioned x) b x e) (pieces_sized stride 8 (drop 32 r) (rw (length-drop 32 r) (omega arith)) x n)

-- ---- the slices of a table
module _ (t : List ℕ) where
  abbrev size : ℕ
  size = record_size (stride_of t)

  pub slices_length : length (slices_of t) ≡ count_of t
  unfolding slices_of
  slices_length = length-map (records_of size t) (view_of (stride_of t)) ∙ records_length size t

  -- they rise where the records do
  pub slices_rising : in_order (records_of size t) ≡ true → Rising slice_key key_less same_key (slices_of t)
  unfolding slices_of
  slices_rising e = view_rising (stride_of t) (records_of size t) (order_in (records_of size t) e)

  pub rising_records : Rising slice_key key_less same_key (slices_of t) → Up (records_of size t)
  unfolding slices_of
  rising_records = rising_views (stride_of t) (records_of size t)

  pub sound_rising : (sides : Sides) → check_table sides t ≡ Ok tt → Rising slice_key key_less same_key (slices_of t)
  sound_rising sides e = slices_rising (sound_table sides t e).rising

  -- a sound table can be walked
  pub sound_walkable : (sides : Sides) → check_table sides t ≡ Ok tt → Walkable t
  sound_walkable sides e = record { whole = (sound_table sides t e).roomy; rising = sound_rising sides e }

  -- what a walk that has come to record i has before it
  pub slices_at : (i : ℕ) → i < count_of t → count_of t ≤ room_of size t
      → drop i (slices_of t) ≡ view_of (stride_of t) (record_at size i t) ∷ drop (i + 1) (slices_of t)
  unfolding slices_of
  slices_at i h r =
      drop-map (view_of (stride_of t)) i (records_of size t)
      ∙ ap (map (view_of (stride_of t))) (rest_at size t i h r)
      ∙ ap (λ (l : List Slice). view_of (stride_of t) (record_at size i t) ∷ l)
      (sym (drop-map (view_of (stride_of t)) (i + 1) (records_of size t)))

  pub slices_end : (i : ℕ) → count_of t ≤ i → drop i (slices_of t) ≡ []
  slices_end i h = let l : length (slices_of t) ≤ i = omega (arith, slices_length) in drop_of_length-le (slices_of t) l

  -- slice i is the view of record i
  pub slice_at_lem : (i : ℕ) (d : Slice) → i < count_of t → count_of t ≤ room_of size t
      → get_or (slices_of t) i d ≡ view_of (stride_of t) (record_at size i t)
  slice_at_lem i d h r =
      sym (get_or-drop i (slices_of t) 0 d ∙ ap (λ (n : ℕ). get_or (slices_of t) n d) (add-zero i))
      ∙ ap (λ (l : List Slice). get_or l 0 d) (slices_at i h r)

  -- each is the view of a record, and has eight properties
  pub slice_view : (d : Slice) → In d (slices_of t) → (r : List ℕ) × In r (records_of size t) × (d ≡ view_of (stride_of t) r)
  unfolding slices_of
  slice_view = map_in (view_of (stride_of t)) (records_of size t)

  pub slice_eight : (d : Slice) → In d (slices_of t) → length d.properties ≡ 8
  slice_eight d m = let (r, n, e) = slice_view d m in ap (λ s. length s.properties) e ∙ view_eight (stride_of t) r

  -- in a sound table each that says bytes says as many as a property has
  pub slice_sized : (sides : Sides) → check_table sides t ≡ Ok tt → (d : Slice) → In d (slices_of t) → (b : List ℕ)
      → In (says b) d.properties
      → length b ≡ stride_of t
  slice_sized sides e d m b q =
      let (r, n, v) = slice_view d m in
      let good = all_good (stride_of t) (side_of t) (records_of size t) (sound_table sides t e).sound in
      view_sized (stride_of t) r (good_sized (stride_of t) (side_of t) (records_of size t) good r n) b
      (subst (λ s. In (says b) s.properties) v q)
