-- A record: where its fields stand, and the slice that it says (document 01, "Table and record layout"). Assumes nothing.
use Rattle.std.specs.Prelude.{ℕ, ◌+◌, ◌*◌, ◌%◌, List, map, Bool, true, false, cond, ◌&&◌, ◌||◌, drop, ltb, eqb}
use Rattle.laws.specs.Orders.{lex_less}
use Rattle.octets.specs.Bytes.{byte_of, be_of}
use Rattle.numbers.specs.Numbers.{lower_sequence, same_sequence}
use Rattle.numbers.specs.declared.SequenceNumber.{SequenceNumber}
use Rattle.numbers.specs.declared.CorrectionNumber.{CorrectionNumber}
use Rattle.property.specs.Eight.{properties_of, mentioned}
use Rattle.slice.specs.declared.record.Key.{Key}
use Rattle.slice.specs.declared.record.Period.{Period}
use Rattle.slice.specs.declared.record.Life.{Life}

-- ---- kinds and sides
abbrev pub baseline : ℕ
baseline = 1

abbrev pub permdelta : ℕ
permdelta = 2

abbrev pub tempdelta : ℕ
tempdelta = 3

abbrev pub permanent : ℕ
permanent = 0

abbrev pub temporary : ℕ
temporary = 1

-- a kind that a side takes
unfoldable pub of_side : ℕ → ℕ → Bool
of_side side kind =
    cond (eqb side permanent) (eqb kind baseline || eqb kind permdelta)
    (cond (eqb side temporary) (eqb kind tempdelta) false)

-- ---- sizes, over the stride of a property
abbrev pub record_size : ℕ → ℕ
record_size stride = 32 + 8 * stride

abbrev pub slice_size : ℕ → ℕ
slice_size stride = 48 + 8 * stride

-- ---- the fields of a record's bytes
abbrev pub kind_of : List ℕ → ℕ
kind_of r = byte_of r 0

abbrev pub flags_of : List ℕ → ℕ
flags_of r = byte_of r 1

-- bit 0 of the flags
abbrev pub cancelled_of : List ℕ → Bool
cancelled_of r = eqb (flags_of r % 2) 1

abbrev pub correction_of : List ℕ → CorrectionNumber
correction_of r = record { 0 = be_of 2 r 2 }

abbrev pub sequence_of : List ℕ → SequenceNumber
sequence_of r = record { 0 = be_of 4 r 4 }

abbrev pub period_of : List ℕ → Period
period_of r = record { begin = record { 0 = be_of 4 r 8 }; end = record { 0 = be_of 4 r 12 } }

abbrev pub life_of : List ℕ → Life
life_of r = record { begin = record { 0 = be_of 4 r 16 }; end = record { 0 = be_of 4 r 20 } }

-- the properties' bytes, one list each
abbrev pub parts_of : ℕ → List ℕ → List (List ℕ)
parts_of stride r = properties_of stride (drop 32 r)

-- ---- the key: kind, then sequence number
abbrev pub key_of : List ℕ → Key
key_of r = record { kind = kind_of r; sequence = sequence_of r }

unfoldable pub key_less : Key → Key → Bool
key_less a b = lex_less (ltb a.kind b.kind) (eqb a.kind b.kind) (lower_sequence a.sequence b.sequence)

unfoldable pub same_key : Key → Key → Bool
same_key a b = eqb a.kind b.kind && same_sequence a.sequence b.sequence

-- ---- the slice that a record says
-- a property is not mentioned, or says its bytes
pub data Property : Type 0 where
  unmentioned : Property
  says : List ℕ → Property

abbrev pub is_mentioned : Property → Bool
is_mentioned unmentioned = false
is_mentioned (says p) = true

abbrev pub property_of : List ℕ → Property
property_of p = cond (mentioned p) (says p) unmentioned

pub record Slice : Type 0 where
  pub kind : ℕ
  pub cancelled : Bool
  pub correction : CorrectionNumber
  pub sequence : SequenceNumber
  pub period : Period
  pub life : Life
  pub properties : List Property

unfoldable pub view_of : ℕ → List ℕ → Slice
view_of stride r = record {
  kind = kind_of r;
  cancelled = cancelled_of r;
  correction = correction_of r;
  sequence = sequence_of r;
  period = period_of r;
  life = life_of r;
  properties = map property_of (parts_of stride r);
}
