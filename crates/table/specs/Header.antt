-- A table: its header, its room and its records (document 01, "Table and record layout"). Over the size of a record, which
-- the stride of a property gives. Assumes nothing.
use Rattle.std.specs.Prelude.{ℕ, ◌+◌, ◌-◌, ◌*◌, ◌/◌, min, List, [], ◌∷◌, ◌++◌, Bool, cond, ◌&&◌, length, take, drop, replicate}
use Rattle.std.specs.Prelude.{eqb, ltb}
use Rattle.laws.specs.Lists.{pieces, joined}
use Rattle.octets.specs.Bytes.{byte_of, be_of}
use Rattle.octets.specs.Writing.{bytes_of}

-- ---- the fields of the header, 32 bytes
-- the letters TSL
unfoldable pub lettered : List ℕ → Bool
lettered t = eqb (byte_of t 0) 84 && (eqb (byte_of t 1) 83 && eqb (byte_of t 2) 76)

abbrev pub side_of : List ℕ → ℕ
side_of t = byte_of t 3

abbrev pub version_of : List ℕ → ℕ
version_of t = be_of 2 t 4

abbrev pub count_of : List ℕ → ℕ
count_of t = be_of 2 t 6

abbrev pub feature_of : List ℕ → List ℕ
feature_of t = take 16 (drop 8 t)

-- the bytes of a property in version 1, the only version; and in a table, by its version
abbrev pub stride1 : ℕ
stride1 = 24

abbrev pub stride_of : List ℕ → ℕ
stride_of t = stride1

-- the header of a table of version 1
abbrev pub header_of : ℕ → List ℕ → ℕ → List ℕ
header_of side feature count = 84 ∷ 83 ∷ 76 ∷ side ∷ 0 ∷ 1 ∷ bytes_of 2 count ++ (feature ++ replicate 8 0)

-- ---- the records, behind the header
-- the lesser of 256 and the whole records that fit
unfoldable pub room_of : ℕ → List ℕ → ℕ
room_of size t = min 256 ((length t - 32) / size)

unfoldable pub records_of : ℕ → List ℕ → List (List ℕ)
records_of size t = pieces size (count_of t) (drop 32 t)

-- where record i begins, and the part of the table that it is; an empty part at the front where the table has no such room
abbrev pub within : ℕ → ℕ → List ℕ → Bool
within size i t = ltb i (room_of size t)

unfoldable pub place_of : ℕ → ℕ → List ℕ → ℕ
place_of size i t = cond (within size i t) (32 + i * size) 0

unfoldable pub record_at : ℕ → ℕ → List ℕ → List ℕ
record_at size i t = cond (within size i t) (take size (drop (32 + i * size) t)) []

-- ---- a table with other records
-- its header with another count
abbrev pub counting : ℕ → List ℕ → List ℕ
counting n t = take 6 t ++ (bytes_of 2 n ++ take 24 (drop 8 t))

-- the header with their number, the records, and every byte beyond them as it was
unfoldable pub written : List ℕ → List (List ℕ) → List ℕ
written t rs = counting (length rs) t ++ (joined rs ++ drop (32 + length (joined rs)) t)

-- `unfolding header` opens every definition of this file
unfoldable pub header : Unit {0}
unfolding lettered room_of records_of place_of record_at written
header = tt
