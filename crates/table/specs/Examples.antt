-- Edges of the arrival, computed: one table, one claim. Assumes nothing.
use Rattle.std.specs.Prelude.{ℕ, suc, ◌≡◌, refl, List, [], ◌∷◌, ◌++◌, map, take, drop, replicate, Ok}
use Rattle.laws.specs.Replies.{Reply, accepted_as}
use Rattle.slice.specs.Record.{tempdelta, temporary}
use Rattle.table.specs.Header.{header_of}
use Rattle.table.specs.Arriving.{created, refused_arrival, record_of, arrival_of, arrival_reply, arrived_at, arriving}

abbrev feature : List ℕ
feature = replicate 16 7

-- a TEMPDELTA of a sequence number, a correction number and a code, from 100 on; a correction that cancels it
abbrev change : ℕ → ℕ → ℕ → List ℕ
change q c v =
    feature ++ (tempdelta ∷ 0 ∷ 0 ∷ c ∷ 0 ∷ 0 ∷ 0 ∷ q ∷ 0 ∷ 0 ∷ 0 ∷ 100 ∷ replicate 12 255
    ++ (replicate 8 0 ++ (2 ∷ replicate 7 0 ++ (0 ∷ v ∷ replicate 182 0))))

abbrev cancel : ℕ → ℕ → List ℕ
cancel q c = feature ++ (tempdelta ∷ 1 ∷ 0 ∷ c ∷ 0 ∷ 0 ∷ 0 ∷ q ∷ replicate 16 255 ++ replicate 200 0)

-- a new table in a buffer; a table of some records, counted as n, in a buffer with no other byte
abbrev fresh : ℕ → List ℕ
fresh n = created (Ok tt) (replicate n 0) temporary feature

abbrev table : ℕ → List ℕ → List ℕ
table n rs = header_of temporary feature n ++ rs

-- a table with another byte at a place
abbrev spoilt : ℕ → List ℕ → List ℕ
spoilt at t = take at t ++ (9 ∷ drop (suc at) t)

pub record Case : Type 0 where
  pub lent : List ℕ
  pub slice : List ℕ

abbrev case : List ℕ → List ℕ → Case
case t s = record { lent = t; slice = s }

abbrev answer : Case → Reply
answer c = arrival_reply (arrival_of c.lent c.slice)

abbrev refused : ℕ → Reply
refused n = arrival_reply (refused_arrival n)

abbrev cases : List Case
cases =
    case (replicate 31 0) (change 1 0 5)
    ∷ case (spoilt 2 (fresh 256)) (change 1 0 5)
    ∷ case (spoilt 5 (fresh 256)) (change 1 0 5)
    ∷ case (spoilt 24 (fresh 256)) (change 1 0 5)
    ∷ case (table 1 (replicate 223 0)) (change 1 0 5)
    ∷ case (table 1 (replicate 224 0)) (change 1 0 5)
    ∷ case (table 2 (record_of (change 2 0 5) ++ record_of (change 1 0 5))) (change 1 0 5)
    ∷ case (fresh 256) (take 239 (change 1 0 5))
    ∷ case (spoilt 8 (fresh 256)) (change 1 0 5)
    ∷ case (fresh 256) (change 1 0 5)
    ∷ case (arrived_at (fresh 256) (change 1 0 5)) (change 1 0 5)
    ∷ case (arrived_at (fresh 256) (change 1 0 5)) (change 1 0 6)
    ∷ case (arrived_at (fresh 256) (change 1 0 5)) (change 1 1 6)
    ∷ case (arrived_at (fresh 256) (change 1 0 5)) (change 2 0 5)
    ∷ case (arrived_at (fresh 480) (change 2 0 5)) (change 1 0 5)
    ∷ case (arrived_at (arrived_at (fresh 256) (change 1 0 5)) (cancel 1 1)) (change 1 0 5)
    ∷ []

-- under 32 bytes; letters, version and last bytes of the header that are wrong; a count over the room; a record that fails; two
-- out of order; a slice that is short; another feature; a new slice; the same again; with other bytes; a higher correction;
-- another key in a full table; in one with room; a change again that a higher correction has cancelled
pub edges : map answer cases
    ≡ refused 1
    ∷ refused 2
    ∷ refused 3
    ∷ refused 4
    ∷ refused 5
    ∷ refused 6
    ∷ refused 7
    ∷ refused 9
    ∷ refused 10
    ∷ accepted_as 1 0
    ∷ accepted_as 4 0
    ∷ refused 17
    ∷ accepted_as 2 0
    ∷ refused 18
    ∷ accepted_as 1 0
    ∷ accepted_as 3 0
    ∷ []
unfolding arriving
edges = refl
