-- The search by key: the place that it comes to, and the stored record there. Assumes nothing.
use Prim.Native.Nat.{ℕ, ◌≤◌, ◌<◌}
use mathlib.Core.Path.{◌≡◌, subst}
use mathlib.Core.List.{List, []}
use mathlib.Core.Bool.{true, false}
use mathlib.Core.Option.{none, some}
use native.Mathlib.Omega.{arith}
use lib.ListN.{length, get_or}
use lib.Dec.{ltb}
use borrow.Author.Tests.{ltb-true, ltb-false, lt-ltb, le-ltb}
use Rattle.laws.specs.Lists.{inserted_at, replaced_at}
use Rattle.laws.proofs.Tests.{by-test, and_both}
use Rattle.laws.proofs.Places.{place_most, place_above, place_below, rises_rising, stored_held, stored_end, stored_none, put-new}
use Rattle.laws.proofs.Places.{put_held}
use Rattle.slice.specs.Record.{key_of, key_less, same_key}
use Rattle.slice.specs.declared.record.Key.{Key}
use Rattle.slice.proofs.Keys.{key_order}
use Rattle.std.specs.Prelude.{Result, Ok, Err}
use Rattle.table.specs.Header.{count_of, room_of, records_of, record_at}
use Rattle.table.specs.Rules.{in_order}
use Rattle.table.specs.Arriving.{stored_of, filed}
use Rattle.table.specs.Steps.{place_for, holds, searched}
use Rattle.table.proofs.Records.{records_length, record_is}

-- ---- among the records of a table
module _ (size : ℕ) (t : List ℕ) (k : Key) where
  pub place_at_most : place_for k (records_of size t) ≤ count_of t
  unfolding place_for
  place_at_most = omega (arith, place_most key_of key_less same_key key_order k (records_of size t), records_length size t)

  module _ (roomy : count_of t ≤ room_of size t) (i : ℕ) (h : i < count_of t) where
    -- record i comes before the key: so does its place
    pub place-past : in_order (records_of size t) ≡ true → key_less (key_of (record_at size i t)) k ≡ true
        → i < place_for k (records_of size t)
    unfolding place_for in_order
    place-past up e =
        place_above key_of key_less same_key key_order k (records_of size t)
        (rises_rising key_of key_less same_key key_order (records_of size t) up) i [] (omega (arith, records_length size t))
        (rw (record_is size t i h roomy) at e)

    -- it does not
    pub place_not_past : key_less (key_of (record_at size i t)) k ≡ false → place_for k (records_of size t) ≤ i
    unfolding place_for
    place_not_past e =
        place_below key_of key_less same_key key_order k (records_of size t) i [] (omega (arith, records_length size t))
        (rw (record_is size t i h roomy) at e)

    -- the record there has the key where its own is the same
    pub held_at : holds k i (records_of size t) ≡ same_key k (key_of (record_at size i t))
    unfolding holds
    held_at =
        let inside : i < length (records_of size t) = omega (arith, records_length size t) in
        rw (lt-ltb _ _ inside, record_is size t i h roomy)

  -- behind the last record there is none
  pub held_past : (i : ℕ) → count_of t ≤ i → holds k i (records_of size t) ≡ false
  unfolding holds
  held_past i h =
      let outside : length (records_of size t) ≤ i = omega (arith, records_length size t) in
      rw (le-ltb _ _ outside)

-- what the halving goes by, and the record that it ends at
pub ruleset halving = (arith, place_at_most, place-past, place_not_past)

pub ruleset ending = (arith, held_at, held_past)

-- ---- what the search tells of a record r
module _ (r : List ℕ) (rs : List (List ℕ)) where
  abbrev place : ℕ
  place = place_for (key_of r) rs

  -- its key is at a place
  pub record Held (at : ℕ) : Type 0 where
    pub inside : at < length rs
    pub stored : stored_of r rs ≡ some (get_or rs at [])
    pub filed : filed r rs ≡ replaced_at at r rs

  -- it is not stored, and belongs at a place
  pub record Missing (at : ℕ) : Type 0 where
    pub within : at ≤ length rs
    pub stored : stored_of r rs ≡ none
    pub filed : filed r rs ≡ inserted_at at r rs

  held : holds (key_of r) place rs ≡ true → Held place
  unfolding stored_of filed place_for holds
  held h =
      let p = and_both (ltb place (length rs)) (same_key (key_of r) (key_of (get_or rs place []))) h in
      let inside : place < length rs = ltb-true _ _ p.0 in
      record {
        inside = inside;
        stored = stored_held key_of key_less same_key key_order (key_of r) rs inside [] p.1;
        filed = put_held key_of key_less same_key key_order r rs [] inside p.1;
      }

  missing : in_order rs ≡ true → holds (key_of r) place rs ≡ false → Missing place
  unfolding stored_of filed place_for holds in_order
  missing up h =
      let most = place_most key_of key_less same_key key_order (key_of r) rs in
      let none : stored_of r rs ≡ none =
      by-test (ltb place (length rs))
      (λ l. stored_none key_of key_less same_key key_order (key_of r) rs (rises_rising key_of key_less same_key key_order rs up) []
      (ltb-true _ _ l) (rw l at h))
      (λ l. stored_end key_of key_less same_key key_order (key_of r) rs (omega (arith, ltb-false place (length rs) l, most))) in
      record {
        within = most;
        stored = none;
        filed = put-new key_of key_less same_key key_order r rs none;
      }

  pub found : (at : ℕ) → Ok at ≡ searched (key_of r) rs → Held at
  unfolding searched
  found at e =
      by-test (holds (key_of r) place rs)
      (λ h. let q : ◌≡◌ {A = Result ℕ ℕ} (Ok at) (Ok place) = rw h at e in
      let p : place ≡ at = cc in
      subst Held p (held h))
      (λ h. let q : ◌≡◌ {A = Result ℕ ℕ} (Ok at) (Err place) = rw h at e in
      absurd cc)

  pub missed : in_order rs ≡ true → (at : ℕ) → Err at ≡ searched (key_of r) rs → Missing at
  unfolding searched
  missed up at e =
      by-test (holds (key_of r) place rs)
      (λ h. let q : ◌≡◌ {A = Result ℕ ℕ} (Err at) (Ok place) = rw h at e in
      absurd cc)
      (λ h. let q : ◌≡◌ {A = Result ℕ ℕ} (Err at) (Err place) = rw h at e in
      let p : place ≡ at = cc in
      subst Missing p (missing up h))

-- ---- the same in the numbers of a table
module _ (size : ℕ) (t r : List ℕ) (at : ℕ) where
  pub found_within : Ok at ≡ searched (key_of r) (records_of size t) → at < count_of t
  found_within e = omega (arith, (found r (records_of size t) at e).inside, records_length size t)

  pub missed_within : in_order (records_of size t) ≡ true → Err at ≡ searched (key_of r) (records_of size t) → at ≤ count_of t
  missed_within up e = omega (arith, (missed r (records_of size t) up at e).within, records_length size t)
