-- The example of document 01, and the texts of a refusal and of an input that is too long, computed from bytes. Assumes nothing.
use Rattle.std.specs.Prelude.{ℕ, ◌≡◌, refl, List, [], ◌∷◌, ◌++◌, map, length, replicate}
use Rattle.laws.specs.Lists.{joined}
use Rattle.octets.specs.Writing.{bytes_of}
use Rattle.slice.specs.Record.{baseline, permdelta, permanent}
use Rattle.table.specs.Header.{header_of}
use Rattle.text.specs.Listing.{listing_of, said_of, listings}

abbrev none : ℕ
none = 4294967295

-- nil, missing; a code; not mentioned
abbrev nil : List ℕ
nil = 1 ∷ 2 ∷ replicate 22 0

abbrev code : ℕ → List ℕ
code v = 2 ∷ replicate 7 0 ++ (bytes_of 2 v ++ replicate 14 0)

abbrev blank : List ℕ
blank = replicate 24 0

-- kind, sequence, begin, end, life begin, life end, property 0, each other property
abbrev entry : ℕ → ℕ → ℕ → ℕ → ℕ → ℕ → List ℕ → List ℕ → List ℕ
entry kind q b e lb le p o =
    kind ∷ 0 ∷ 0 ∷ 0 ∷ bytes_of 4 q ++ (bytes_of 4 b ++ (bytes_of 4 e ++ (bytes_of 4 lb ++ (bytes_of 4 le
    ++ (replicate 8 0 ++ (p ++ (o ++ (o ++ (o ++ (o ++ (o ++ (o ++ o))))))))))))

abbrev table : List (List ℕ) → List ℕ
table rs = header_of permanent (replicate 16 7) (length rs) ++ joined rs

-- BASELINE sequence 1 from 100, life begin 100, no end, all nil, and PERMDELTA sequence 1 at 300, property 0 a code
pub paper : listing_of
    (table (entry baseline 1 100 none 100 none nil nil ∷ entry permdelta 1 300 none none none (code 7) blank ∷ []))
    ≡ 100 ∷ 101 ∷ 114 ∷ 105 ∷ 118 ∷ 101 ∷ 100 ∷ 32 ∷ 50 ∷ 10
    ∷ 49 ∷ 32 ∷ 49 ∷ 48 ∷ 48 ∷ 32 ∷ 51 ∷ 48 ∷ 48 ∷ 32 ∷ 49 ∷ 49 ∷ 49 ∷ 49 ∷ 49 ∷ 49 ∷ 49 ∷ 49 ∷ 10
    ∷ 50 ∷ 32 ∷ 51 ∷ 48 ∷ 48 ∷ 32 ∷ 45 ∷ 32 ∷ 50 ∷ 49 ∷ 49 ∷ 49 ∷ 49 ∷ 49 ∷ 49 ∷ 49 ∷ 10 ∷ []
unfolding listings
paper = refl

-- `refused N`, with one digit and with two: no bytes at all (1), zeros as long as a table may be (2), two BASELINEs of one begin (21)
refusals : map said_of
    ([] ∷ replicate 57376 0
    ∷ table (entry baseline 1 100 none 100 none nil nil ∷ entry baseline 2 100 none 100 none nil nil ∷ []) ∷ [])
    ≡ (114 ∷ 101 ∷ 102 ∷ 117 ∷ 115 ∷ 101 ∷ 100 ∷ 32 ∷ 49 ∷ 10 ∷ [])
    ∷ (114 ∷ 101 ∷ 102 ∷ 117 ∷ 115 ∷ 101 ∷ 100 ∷ 32 ∷ 50 ∷ 10 ∷ [])
    ∷ (114 ∷ 101 ∷ 102 ∷ 117 ∷ 115 ∷ 101 ∷ 100 ∷ 32 ∷ 50 ∷ 49 ∷ 10 ∷ [])
    ∷ []
unfolding listings
refusals = refl

-- `too long`: one byte more than that
long : said_of (replicate 57377 0) ≡ 116 ∷ 111 ∷ 111 ∷ 32 ∷ 108 ∷ 111 ∷ 110 ∷ 103 ∷ 10 ∷ []
unfolding listings
long = refl
