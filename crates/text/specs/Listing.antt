-- The listing of the derived baselines, in ASCII (document 01, "Derived baselines"). Assumes nothing.
use Rattle.std.specs.Prelude.{ℕ, zero, suc, ◌+◌, ◌/◌, ◌%◌, cond, List, [], ◌∷◌, ◌++◌, map, length, drop, replicate, ltb, Result}
use Rattle.std.specs.Prelude.{Ok, Err}
use Rattle.laws.specs.Lists.{joined}
use Rattle.laws.specs.Replies.{Reply, accepted_as}
use Rattle.octets.specs.Bytes.{byte_of}
use Rattle.numbers.specs.Numbers.{is_none}
use Rattle.numbers.specs.declared.Instant.{Instant}
use Rattle.slice.specs.Record.{sequence_of, period_of, parts_of}
use Rattle.table.specs.Header.{stride_of}
use Rattle.baselines.specs.Deriving.{Derivation, derived_records, derivation_of, deriveds}
use Rattle.text.specs.declared.listing.Needs.{Needs}

-- the decimal digits of a number, at most k of them; one below 2^32 has at most ten
abbrev pub digits_of : ℕ → ℕ → List ℕ
digits_of zero n = []
digits_of (suc k) n = cond (ltb n 10) ((48 + n) ∷ []) (digits_of k (n / 10) ++ ((48 + n % 10) ∷ []))

unfoldable pub decimal_of : ℕ → List ℕ
decimal_of n = digits_of 10 n

-- an end, or `-`
unfoldable pub end_of : Instant → List ℕ
end_of e = cond (is_none e) (45 ∷ []) (decimal_of e.0)

-- the form of a property as a digit
abbrev pub form_of : List ℕ → ℕ
form_of p = 48 + byte_of p 0 % 10

-- a record's line: sequence, begin, end or `-`, and the eight forms as digits
unfoldable pub line_of : ℕ → List ℕ → List ℕ
line_of stride r =
    decimal_of (sequence_of r).0
    ++ (32 ∷ decimal_of (period_of r).begin.0
    ++ (32 ∷ end_of (period_of r).end
    ++ (32 ∷ map form_of (parts_of stride r)
    ++ (10 ∷ []))))

-- `derived N`, then a line a record; on a refusal `refused N`
abbrev pub text_of : Derivation → ℕ → List (List ℕ) → List ℕ
text_of (Ok n) stride rs =
    (100 ∷ 101 ∷ 114 ∷ 105 ∷ 118 ∷ 101 ∷ 100 ∷ 32 ∷ []) ++ (decimal_of n ++ (10 ∷ joined (map (line_of stride) rs)))
text_of (Err f) stride rs = (114 ∷ 101 ∷ 102 ∷ 117 ∷ 115 ∷ 101 ∷ 100 ∷ 32 ∷ []) ++ (decimal_of f ++ (10 ∷ []))

-- of a permanent table, which is derived into 57,376 bytes
unfoldable pub listing_of : List ℕ → List ℕ
listing_of p = text_of (derivation_of p (replicate 57376 0)) (stride_of p) (derived_records p)

-- of any input: `too long` where it has over 57,376 bytes
unfoldable pub said_of : List ℕ → List ℕ
said_of input = cond (ltb 57376 (length input)) (116 ∷ 111 ∷ 111 ∷ 32 ∷ 108 ∷ 111 ∷ 110 ∷ 103 ∷ 10 ∷ []) (listing_of input)

-- what that returns: the length of the text, or the length that it needs
abbrev pub Listing : Type 0
Listing = Result ℕ Needs

-- a text put into a lent buffer: its length; where the buffer does not hold it, the length that it needs
unfoldable pub put_of : List ℕ → List ℕ → Listing
put_of text buffer = cond (ltb (length buffer) (length text)) (Err (record { 0 = length text })) (Ok (length text))

-- in numbers: the text, 1, and its length; or, 2, the length that it needs
unfoldable pub listing_reply : Listing → Reply
listing_reply (Ok n) = accepted_as 1 n
listing_reply (Err n) = accepted_as 2 n.0

-- the buffer after that: the text and every byte beyond it as it was; or all as it was
abbrev pub after_put : Listing → List ℕ → List ℕ → List ℕ
after_put (Ok n) text buffer = text ++ drop (length text) buffer
after_put (Err n) text buffer = buffer

-- `unfolding listings` opens every definition that a listing computes by
unfoldable pub listings : Unit {0}
unfolding decimal_of end_of line_of listing_of said_of put_of listing_reply deriveds
listings = tt
