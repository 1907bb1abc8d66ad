-- What a table keeps where other records are written into it, and what it then holds. Assumes nothing.
use Prim.Native.Nat.{ℕ, ◌+◌, ◌-◌, ◌/◌, ◌%◌, ◌≤◌, ◌<◌}
use mathlib.Core.Path.{◌≡◌, refl, sym, ap, ◌∙◌}
use mathlib.Core.List.{List, ◌++◌, append_assoc}
use mathlib.Core.Bool.{Bool, ◌&&◌}
use native.Mathlib.Omega.{arith}
use lib.ListN.{length, take, drop, length-append, length-take, length-drop}
use lib.Seq.{drop-drop, length-take-le, take_at, drop_at, take-take, get_or-take, get_or-drop}
use lib.Dec.{leb, eqb}
use Rattle.laws.specs.Lists.{joined}
use Rattle.laws.proofs.Lists.{drop_past, get_or_past}
use Rattle.laws.proofs.Pieces.{Sized, pieces_joined}
use Rattle.octets.specs.Bytes.{byte_of, filled}
use Rattle.octets.specs.Writing.{bytes_of}
use Rattle.octets.proofs.Readers.{be_whole}
use Rattle.octets.proofs.Runs.{each_same}
use Rattle.table.specs.Header.{lettered, side_of, version_of, count_of, feature_of, room_of, records_of, counting, written}
use Rattle.table.proofs.TableBytes.{counting_length}

-- ---- tables that agree in their headers, the count apart
pub record Alike (t u : List ℕ) : Type 0 where
  pub long : length u ≡ length t
  pub front : take 6 u ≡ take 6 t
  pub back : take 24 (drop 8 u) ≡ take 24 (drop 8 t)

module _ (t u : List ℕ) (a : Alike t u) where
  front_byte : (i : ℕ) → i < 6 → byte_of u i ≡ byte_of t i
  front_byte i h = sym (get_or-take 6 u i 0 h) ∙ ap (λ (l : List ℕ). byte_of l i) a.front ∙ get_or-take 6 t i 0 h

  back_byte : (i : ℕ) → 8 ≤ i → i < 32 → byte_of u i ≡ byte_of t i
  back_byte i low high =
      let e : 8 + (i - 8) ≡ i = omega arith in
      let at : (l : List ℕ) → byte_of (take 24 (drop 8 l)) (i - 8) ≡ byte_of l i =
      λ l. get_or-take 24 (drop 8 l) (i - 8) 0 (omega arith) ∙ get_or-drop 8 l (i - 8) 0 ∙ ap (byte_of l) e in
      sym (at u) ∙ ap (λ (l : List ℕ). byte_of l (i - 8)) a.back ∙ at t

  pub same_letters : lettered u ≡ lettered t
  unfolding lettered
  same_letters = rw (front_byte 0 (omega arith), front_byte 1 (omega arith), front_byte 2 (omega arith))

  pub same_side : side_of u ≡ side_of t
  same_side = front_byte 3 (omega arith)

  pub same_feature : feature_of u ≡ feature_of t
  same_feature = sym (take-take 16 24 (drop 8 u) (omega arith)) ∙ ap (take 16) a.back ∙ take-take 16 24 (drop 8 t) (omega arith)

  pub same_room : (size : ℕ) → room_of size u ≡ room_of size t
  unfolding room_of
  same_room size = rw a.long

  module _ (h : 32 ≤ length t) where
    pub same_version : version_of u ≡ version_of t
    same_version =
        be_whole 2 u 4 (omega (arith, a.long))
        ∙ rw (front_byte 4 (omega arith), front_byte 5 (omega arith)) (sym (be_whole 2 t 4 (omega arith)))

    pub same_reserved : filled 0 8 u 24 ≡ filled 0 8 t 24
    unfolding filled
    same_reserved =
        rw a.long (ap (λ (b : Bool). leb (24 + 8) (length t) && b)
        (each_same (λ i. eqb (byte_of u i) 0) (λ i. eqb (byte_of t i) 0) 8 24
        (λ i l. ap (λ (x : ℕ). eqb x 0) (back_byte (24 + i) (omega arith) (omega arith)))))

-- what is written goes by the header and by what lies beyond
over : (t u : List ℕ) (us : List (List ℕ)) → take 6 u ≡ take 6 t → take 24 (drop 8 u) ≡ take 24 (drop 8 t)
    → drop (32 + length (joined us)) u ≡ drop (32 + length (joined us)) t → written u us ≡ written t us
unfolding written
over t u us p q r i = (p i ++ (bytes_of 2 (length us) ++ q i)) ++ (joined us ++ r i)

-- ---- a table with other records
module _ (t : List ℕ) (rs : List (List ℕ)) (h : 32 ≤ length t) (fits : 32 + length (joined rs) ≤ length t) where
  abbrev beyond : List ℕ
  beyond = joined rs ++ drop (32 + length (joined rs)) t

  abbrev behind : List ℕ
  behind = (bytes_of 2 (length rs) ++ take 24 (drop 8 t)) ++ beyond

  six : length (take 6 t) ≡ 6
  six = length-take-le 6 t (omega arith)

  split : written t rs ≡ take 6 t ++ behind
  unfolding written
  split = append_assoc (take 6 t) (bytes_of 2 (length rs) ++ take 24 (drop 8 t)) beyond

  -- it agrees with what it was
  pub written_alike : Alike t (written t rs)
  written_alike = record {
    long = rw split (simp (length-append, length-take, length-drop) (omega arith));
    front = rw split (take_at (take 6 t) behind 6 six);
    back = rw (split, drop_past (take 6 t) behind 6 2 six)
        (take_at (take 24 (drop 8 t)) beyond 24 (length-take-le 24 (drop 8 t) (rw (length-drop 8 t) (omega arith))));
  }

  pub written_behind : drop 32 (written t rs) ≡ beyond
  unfolding written
  written_behind = drop_at (counting (length rs) t) beyond 32 (counting_length (length rs) t h)

  module _ (few : length rs < 65536) where
    -- it counts them
    pub written_count : count_of (written t rs) ≡ length rs
    written_count =
        let long = written_alike.long in
        let high : byte_of (written t rs) 6 ≡ length rs / 256 % 256 = rw split (get_or_past (take 6 t) behind 6 0 six 0) in
        let low : byte_of (written t rs) 7 ≡ length rs % 256 = rw split (get_or_past (take 6 t) behind 6 1 six 0) in
        be_whole 2 (written t rs) 6 (omega arith) ∙ rw (high, low) (omega arith)

    -- and holds them
    pub written_records : (size : ℕ) → Sized size rs → records_of size (written t rs) ≡ rs
    unfolding records_of
    written_records size s = rw (written_count, written_behind) (pieces_joined size rs (drop (32 + length (joined rs)) t) s)

  -- records written over records: the later ones alone count, where they are no fewer
  pub written_over : (us : List (List ℕ)) → length (joined rs) ≤ length (joined us) → written (written t rs) us ≡ written t us
  written_over us l =
      let k : ℕ = length (joined rs) in
      let m : ℕ = length (joined us) in
      let e : k + (m - k) ≡ m = omega arith in
      let f : 32 + k + (m - k) ≡ 32 + m = omega arith in
      let rest : drop (32 + m) (written t rs) ≡ drop (32 + m) t =
      sym (drop-drop m 32 (written t rs)) ∙ ap (drop m) written_behind ∙ ap (λ (n : ℕ). drop n beyond) (sym e)
      ∙ (drop_past (joined rs) (drop (32 + k) t) k (m - k) refl ∙ drop-drop (m - k) (32 + k) t ∙ ap (λ (n : ℕ). drop n t) f) in
      over t (written t rs) us written_alike.front written_alike.back rest
