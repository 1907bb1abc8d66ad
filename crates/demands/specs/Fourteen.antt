-- The fourteen examples of document 01, 11 as document 02 (Q-2) has it, computed from bytes: one table, one claim. Property 0 holds a
-- code, the rest are nil.
-- Assumes nothing.
use Rattle.std.specs.Prelude.{ℕ, ◌+◌, ◌*◌, ◌≡◌, refl, List, [], ◌∷◌, ◌++◌, map, take, drop, replicate, Ok, Err}
use Rattle.octets.specs.Writing.{bytes_of}
use Rattle.numbers.specs.declared.Instant.{Instant}
use Rattle.slice.specs.Record.{baseline, permdelta, tempdelta, permanent, temporary}
use Rattle.table.specs.Arriving.{created, Arrived, refused_arrival, arrival_of, arriving}
use Rattle.table.specs.Deliveries.{delivered_to}
use Rattle.table.specs.declared.arrival.Arrival.TheVariants.{Superseded, Repeat}
use Rattle.state.specs.Asking.{Outcome, snapshot_of, after_snapshot, Located, place_of, asking}
use Rattle.state.specs.declared.question.Place.TheVariants.{Unmentioned}

-- ---- slices in delivery
abbrev feature : List ℕ
feature = replicate 16 7

abbrev none : ℕ
none = 4294967295

-- a code; nil, unknown; nil, missing; not mentioned
abbrev code : ℕ → List ℕ
code v = 2 ∷ replicate 7 0 ++ (bytes_of 2 v ++ replicate 14 0)

abbrev unknown : List ℕ
unknown = 1 ∷ 4 ∷ replicate 22 0

abbrev missing : List ℕ
missing = 1 ∷ 2 ∷ replicate 22 0

abbrev blank : List ℕ
blank = replicate 24 0

-- kind, flags, correction, sequence, begin, end, life begin, life end, property 0, each other property
abbrev slice' : ℕ → ℕ → ℕ → ℕ → ℕ → ℕ → ℕ → ℕ → List ℕ → List ℕ → List ℕ
slice' kind f c q b e lb le p o =
    feature ++ (kind ∷ f ∷ bytes_of 2 c ++ (bytes_of 4 q ++ (bytes_of 4 b ++ (bytes_of 4 e ++ (bytes_of 4 lb ++ (bytes_of 4 le
    ++ (replicate 8 0 ++ (p ++ (o ++ (o ++ (o ++ (o ++ (o ++ (o ++ o))))))))))))))

-- sequence, begin, end, value; "B" alone
abbrev B : ℕ → ℕ → ℕ → ℕ → List ℕ
B q b e v = slice' baseline 0 0 q b e b none (code v) missing

abbrev B1 : List ℕ
B1 = B 1 100 none 1

-- sequence, instant, value
abbrev P : ℕ → ℕ → ℕ → List ℕ
P q b v = slice' permdelta 0 0 q b none none none (code v) missing

-- sequence, correction, begin, end, value
abbrev T : ℕ → ℕ → ℕ → ℕ → ℕ → List ℕ
T q c b e v = slice' tempdelta 0 c q b e none none (code v) missing

-- ---- cases: slices in the order of their delivery, and what is then asked
pub data Question : Type 0 where
  -- property n in the record of the snapshot at t
  snapshot : ℕ → ℕ → Question
  -- the property question
  property : ℕ → ℕ → Question
  -- one more TEMPDELTA
  arrives : List ℕ → Question

pub record Case : Type 0 where
  pub sent : List (List ℕ)
  pub asked : List Question

abbrev case : List (List ℕ) → List Question → Case
case ss qs = record { sent = ss; asked = qs }

abbrev at : ℕ → Question
at t = snapshot 0 t

-- ---- answers
pub data Answer : Type 0 where
  refuses : ℕ → Answer
  shows : List ℕ → Answer
  stands : Located → Answer
  answers : Arrived → Answer

abbrev gives : ℕ → Answer
gives v = shows (code v)

-- each table is sent every slice, and refuses those of the other side
abbrev table : ℕ → List (List ℕ) → List ℕ
table side ss = delivered_to (created (Ok tt) (replicate 704 0) side feature) ss

abbrev lent : List ℕ
lent = replicate 224 0

abbrev shown : ℕ → List ℕ → List ℕ → Instant → Outcome → Answer
shown n p t i (Err f) = refuses f
shown n p t i (Ok _) = shows (take 24 (drop (32 + n * 24) (after_snapshot (Ok tt) p t i lent)))

abbrev snapped : ℕ → List ℕ → List ℕ → Instant → Answer
snapped n p t i = shown n p t i (snapshot_of p t i lent)

abbrev reply : List (List ℕ) → Question → Answer
reply ss (snapshot n i) = snapped n (table permanent ss) (table temporary ss) (record { 0 = i })
reply ss (property n i) = stands (place_of (table permanent ss) (table temporary ss) (record { 0 = i }) n)
reply ss (arrives s) = answers (arrival_of (table temporary ss) s)

abbrev pub answer : Case → List Answer
answer c = map (reply c.sent) c.asked

abbrev pub cases : List Case
cases =
    case [] (at 100 ∷ [])  -- 1
    ∷ case (B 1 100 200 1 ∷ []) (at 99 ∷ at 100 ∷ at 199 ∷ at 200 ∷ [])  -- 2
    ∷ case (B1 ∷ P 1 150 2 ∷ []) (at 149 ∷ at 150 ∷ [])  -- 3
    ∷ case (B1 ∷ P 1 100 2 ∷ []) (at 100 ∷ [])  -- 4
    ∷ case (B1 ∷ P 1 150 2 ∷ slice' permdelta 1 1 1 none none none none blank blank ∷ []) (at 150 ∷ [])  -- 5
    ∷ case (B1 ∷ T 1 0 120 140 5 ∷ T 2 0 130 160 6 ∷ []) (at 125 ∷ at 135 ∷ at 159 ∷ at 160 ∷ [])  -- 6
    ∷ case (B1 ∷ T 1 0 120 140 5 ∷ T 2 0 130 160 6 ∷ T 1 1 200 210 5 ∷ []) (at 125 ∷ at 205 ∷ [])  -- 7
    ∷ case (T 1 1 120 140 5 ∷ []) (arrives (T 1 0 120 140 5) ∷ [])  -- 8
    ∷ case (T 1 0 120 140 5 ∷ []) (arrives (T 1 0 120 140 5) ∷ [])  -- 9
    ∷ case (T 1 0 120 140 5 ∷ T 1 0 120 140 5 ∷ []) (arrives (T 1 0 120 140 9) ∷ [])  -- 9, again
    ∷ case (B1 ∷ P 4 150 8 ∷ P 3 150 9 ∷ []) (at 150 ∷ [])  -- 10
    ∷ case (B1 ∷ B 2 200 none 2 ∷ []) (at 199 ∷ at 200 ∷ [])  -- 11
    ∷ case (B1 ∷ slice' permdelta 0 0 1 300 none none 300 blank blank ∷ []) (at 299 ∷ at 300 ∷ [])  -- 12
    ∷ case (slice' permdelta 0 0 1 100 none 100 none (code 3) blank ∷ []) (at 100 ∷ property 1 100 ∷ snapshot 1 100 ∷ [])  -- 13
    ∷ case (B1 ∷ slice' tempdelta 0 0 1 120 none none none unknown missing ∷ []) (at 120 ∷ [])  -- 14
    ∷ []

-- what they answer
abbrev pub wanted : List (List Answer)
wanted =
    (refuses 20 ∷ [])  -- 1
    ∷ (refuses 20 ∷ gives 1 ∷ gives 1 ∷ refuses 20 ∷ [])  -- 2
    ∷ (gives 1 ∷ gives 2 ∷ [])  -- 3
    ∷ (gives 1 ∷ [])  -- 4
    ∷ (gives 1 ∷ [])  -- 5
    ∷ (gives 5 ∷ gives 6 ∷ gives 6 ∷ gives 1 ∷ [])  -- 6
    ∷ (gives 1 ∷ gives 5 ∷ [])  -- 7
    ∷ (answers (Ok Superseded) ∷ [])  -- 8
    ∷ (answers (Ok Repeat) ∷ [])  -- 9
    ∷ (answers (refused_arrival 17) ∷ [])  -- 9, again
    ∷ (gives 8 ∷ [])  -- 10
    ∷ (gives 1 ∷ gives 2 ∷ [])  -- 11
    ∷ (gives 1 ∷ refuses 22 ∷ [])  -- 12
    ∷ (gives 3 ∷ stands (Ok Unmentioned) ∷ shows unknown ∷ [])  -- 13
    ∷ (shows unknown ∷ [])  -- 14
    ∷ []

pub fourteen : map answer cases ≡ wanted
unfolding asking arriving
fourteen = refl
