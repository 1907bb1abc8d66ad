-- DEMAND 3, FIRST HALF: the order in which slices came does not matter. Assumes nothing.
use Prim.Native.Nat.{ℕ, ◌≤◌}
use mathlib.Core.Path.{◌≡◌, sym, ap, ◌∙◌}
use mathlib.Core.List.{List, [], map}
use mathlib.Core.Bool.{Bool}
use mathlib.Core.Logic.{◌↔◌}
use native.Mathlib.Omega.{arith}
use lib.ListN.{length}
use Rattle.laws.specs.Lists.{kept}
use Rattle.laws.specs.Keyed.{In, delivered}
use Rattle.laws.proofs.Lists.{kept_in, map_in, in_map}
use Rattle.laws.proofs.Fresh.{fresh_unique, afresh_fresh}
use Rattle.laws.proofs.Deliveries.{delivered_afresh, afresh_same, distinct_same}
use Rattle.numbers.specs.Numbers.{lower_correction}
use Rattle.numbers.proofs.Orders.{correction_order}
use Rattle.slice.specs.Record.{record_size, correction_of, key_of, key_less, same_key}
use Rattle.slice.proofs.Keys.{key_order}
use Rattle.table.specs.Header.{stride1, room_of, written}
use Rattle.table.specs.Arriving.{record_of, creation_of, created}
use Rattle.table.specs.Deliveries.{delivered_to, passes, sent_to, Delivers, Agree, pairs_in, records_afresh, holding, table_afresh}
use Rattle.table.specs.Deliveries.{TableOf}
use Rattle.std.specs.Prelude.{Ok}
use Rattle.table.proofs.Deliveries.{deliveries, new_room, new_feature, new_written, new_empty, new_sound}

-- the buffer after a new table and the arrivals of slices, in that order
abbrev pub fed : List ℕ → ℕ → List ℕ → List (List ℕ) → List ℕ
fed buffer side feature ss = delivered_to (created (Ok tt) buffer side feature) ss

-- the records that were sent to it
abbrev pub sent : List ℕ → ℕ → List (List ℕ) → List (List ℕ)
sent feature side ss = sent_to stride1 feature side ss

module _ (buffer : List ℕ) (side : ℕ) (feature : List ℕ) (named : length feature ≡ 16) (made : creation_of buffer side ≡ Ok tt) where
  -- ANY ORDER: slices of any kind and length, with repeats. Where those that pass agree and their kinds and sequences are no more
  -- than the room, they make the table of what was sent, worked out afresh
  pub any_order : (ss : List (List ℕ)) → Agree (sent feature side ss)
      → pairs_in (sent feature side ss) ≤ room_of (record_size stride1) buffer
      → fed buffer side feature ss ≡ table_afresh buffer side feature (sent feature side ss)
  unfolding records_afresh
  any_order ss agree fit =
      ap (λ (x : List ℕ). delivered_to x ss) (sym (new_empty buffer side feature named made))
      ∙ deliveries (created (Ok tt) buffer side feature) (new_sound buffer side feature named made) ss []
      (record { good = λ r m. absurd m; up = tt; fits = omega arith })
      ∙ (λ i. written (created (Ok tt) buffer side feature)
      (delivered key_of key_less same_key correction_of lower_correction
      (new_room buffer side feature named made (record_size stride1) i) []
      (sent_to stride1 (new_feature buffer side feature named made i) side ss)))
      ∙ ap (written (created (Ok tt) buffer side feature))
      (delivered_afresh key_of key_less same_key key_order correction_of lower_correction correction_order
      (room_of (record_size stride1) buffer) (sent feature side ss) agree fit)
      ∙ new_written buffer side feature named made (records_afresh (sent feature side ss))

  -- slices that send the same records make the same bytes
  pub same_records : (ss us : List (List ℕ)) → ((r : List ℕ) → In r (sent feature side ss) ↔ In r (sent feature side us))
      → Agree (sent feature side ss) → pairs_in (sent feature side ss) ≤ room_of (record_size stride1) buffer
      → fed buffer side feature ss ≡ fed buffer side feature us
  unfolding records_afresh
  same_records ss us same agree fit =
      let agree' : Agree (sent feature side us) = λ x y p q. agree x y ((same x).1 p) ((same y).1 q) in
      let fit' : pairs_in (sent feature side us) ≤ room_of (record_size stride1) buffer =
      rw (← distinct_same key_of key_less same_key key_order (sent feature side ss) (sent feature side us) same) fit in
      any_order ss agree fit
      ∙ ap (holding buffer side feature)
      (afresh_same key_of key_less same_key key_order correction_of lower_correction correction_order
      (sent feature side ss) (sent feature side us) same agree)
      ∙ sym (any_order us agree' fit')

  -- TWO ORDERS of one set of slices make the same bytes
  pub two_orders : (ss us : List (List ℕ)) → ((s : List ℕ) → In s ss ↔ In s us)
      → Agree (sent feature side ss) → pairs_in (sent feature side ss) ≤ room_of (record_size stride1) buffer
      → fed buffer side feature ss ≡ fed buffer side feature us
  two_orders ss us same = same_records ss us (λ r. (over ss us r (λ s. (same s).0), over us ss r (λ s. (same s).1)))
    where
      over : (xs ys : List (List ℕ)) (r : List ℕ) → ((s : List ℕ) → In s xs → In s ys) → In r (sent feature side xs)
          → In r (sent feature side ys)
      over xs ys r f m =
          let test : List ℕ → Bool = passes stride1 feature side in
          let (s, n, e) = map_in record_of (kept test xs) r m in
          let p = (kept_in test xs s).0 n in
          rw e (in_map record_of (kept test ys) s ((kept_in test ys s).1 (f s p.0, p.1)))

  -- THE TABLE OF A SET: any delivery of it makes the table of the set, worked out afresh
  pub of_set : (set ss : List (List ℕ)) → Delivers feature side set ss → Agree (map record_of set)
      → pairs_in (map record_of set) ≤ room_of (record_size stride1) buffer
      → fed buffer side feature ss ≡ table_afresh buffer side feature (map record_of set)
  unfolding records_afresh
  of_set set ss delivers agree fit =
      let agree' : Agree (sent feature side ss) = λ x y p q. agree x y ((same x).1 p) ((same y).1 q) in
      let fit' : pairs_in (sent feature side ss) ≤ room_of (record_size stride1) buffer =
      rw (← distinct_same key_of key_less same_key key_order (map record_of set) (sent feature side ss) same) fit in
      any_order ss agree' fit'
      ∙ ap (holding buffer side feature)
      (sym (afresh_same key_of key_less same_key key_order correction_of lower_correction correction_order
      (map record_of set) (sent feature side ss) same agree))
    where
      test : List ℕ → Bool
      test = passes stride1 feature side

      same : (r : List ℕ) → In r (map record_of set) ↔ In r (sent feature side ss)
      same r = (to, from)
        where
          to : In r (map record_of set) → In r (sent feature side ss)
          to m = let (s, n, e) = map_in record_of set r m in
              rw e (in_map record_of (kept test ss) s ((kept_in test ss s).1 ((delivers s).0 n)))

          from : In r (sent feature side ss) → In r (map record_of set)
          from m = let (s, n, e) = map_in record_of (kept test ss) r m in
              rw e (in_map record_of set s ((delivers s).1 ((kept_in test ss s).0 n)))

-- WHAT AFRESH MEANS: the records worked out afresh are a table of the set
pub afresh_is : (set : List (List ℕ)) → TableOf set (records_afresh set)
unfolding records_afresh
afresh_is set = afresh_fresh key_of key_less same_key key_order correction_of lower_correction correction_order set

-- and where the set agrees with itself nothing else is
pub only_afresh : (set rs : List (List ℕ)) → Agree set → TableOf set rs → rs ≡ records_afresh set
only_afresh set rs agree f =
    fresh_unique key_of key_less same_key key_order correction_of lower_correction correction_order (λ r. In r set) agree rs
    (records_afresh set) f (afresh_is set)
