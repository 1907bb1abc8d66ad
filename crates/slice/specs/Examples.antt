-- Edges of the slice check, computed: one table, one claim. Assumes nothing.
use Rattle.std.specs.Prelude.{ℕ, zero, suc, ◌/◌, ◌%◌, ◌≡◌, refl, List, [], ◌∷◌, ◌++◌, map, replicate}
use Rattle.slice.specs.Record.{baseline, tempdelta, permanent, temporary}
use Rattle.slice.specs.Check.{number_of, check_slice, checking}

abbrev four : ℕ → List ℕ
four n = n / 16777216 % 256 ∷ n / 65536 % 256 ∷ n / 256 % 256 ∷ n % 256 ∷ []

-- "none"
abbrev no_time : List ℕ
no_time = replicate 4 255

-- a property that is nil, unknown; a property that is not mentioned
abbrev nil : List ℕ
nil = 1 ∷ 4 ∷ replicate 22 0

abbrev blank : List ℕ
blank = replicate 24 0

-- n properties
abbrev times' : ℕ → List ℕ → List ℕ
times' zero p = []
times' (suc n) p = p ++ times' n p

abbrev feature : List ℕ
feature = replicate 16 7

-- kind, flags, begin, end, life begin, life end, properties; sequence 1
abbrev slice' : ℕ → ℕ → List ℕ → List ℕ → List ℕ → List ℕ → List ℕ → List ℕ
slice' kind flags b e lb le ps = feature ++ (kind ∷ flags ∷ 0 ∷ 0 ∷ four 1 ++ (b ++ (e ++ (lb ++ (le ++ (replicate 8 0 ++ ps))))))

pub record Case : Type 0 where
  pub side : ℕ
  pub bytes : List ℕ

abbrev case : ℕ → List ℕ → Case
case s b = record { side = s; bytes = b }

abbrev answer : Case → ℕ
answer c = number_of (check_slice 24 feature c.side c.bytes)

abbrev cases : List Case
cases =
    case permanent (slice' baseline 0 (four 4294967294) no_time no_time no_time (times' 8 nil))
    ∷ case temporary (slice' tempdelta 1 no_time no_time no_time no_time (times' 8 blank))
    ∷ case temporary (slice' tempdelta 1 no_time no_time no_time no_time (times' 7 blank ++ nil))
    ∷ case temporary (slice' tempdelta 0 no_time no_time no_time no_time (times' 7 blank ++ replicate 24 9))
    ∷ []

-- a begin at the last second; a cancelled slice; one that still says something; a broken property before times that are wrong
pub edges : map answer cases ≡ 0 ∷ 0 ∷ 13 ∷ 14 ∷ []
unfolding checking
edges = refl
