-- The derived table of a permanent table: refusals in order, and the answer (document 01, "Derived baselines"). Assumes nothing.
use Rattle.std.specs.Prelude.{ℕ, ◌+◌, ◌||◌, List, [], ◌∷◌, ◌++◌, map, length, ltb, Result, Ok, Err}
use Rattle.laws.specs.Lists.{any, joined}
use Rattle.laws.specs.Refusals.{Test, test, refuse}
use Rattle.laws.specs.Replies.{Reply, refused_with, accepted_as}
use Rattle.slice.specs.Record.{permanent}
use Rattle.table.specs.Header.{feature_of, stride_of}
use Rattle.table.specs.Rules.{fails}
use Rattle.table.specs.Deliveries.{holding}
use Rattle.history.specs.Derived.{two_anchors, derived_baselines, derivations}
use Rattle.state.specs.Written.{nil_unknown}
use Rattle.state.specs.Asking.{slices_of, permanent_tests, asking}
use Rattle.baselines.specs.Laid.{record_for}

-- the derived baselines of a table, as records
unfoldable pub derived_records : List ℕ → List (List ℕ)
derived_records p = map (record_for (stride_of p)) (derived_baselines (nil_unknown (stride_of p)) (slices_of p))

-- ---- 1 to 7, 21, 24, 23
-- 21 at a change instant; a derived record fails the slice check; over 256 records, or more than the output holds
unfoldable pub deriving_tests : List ℕ → List ℕ → List Test
deriving_tests p output =
    test 21 (two_anchors (slices_of p))
    ∷ test 24 (any (fails (stride_of p) permanent) (derived_records p))
    ∷ test 23 (ltb 256 (length (derived_records p)) || ltb (length output) (32 + length (joined (derived_records p))))
    ∷ []

-- what a derivation returns: how many records, or the number of the refusal
abbrev pub Derivation : Type 0
Derivation = Result ℕ ℕ

abbrev pub refused_derivation : ℕ → Derivation
refused_derivation n = Err n

-- the number of records
unfoldable pub derivation_of : List ℕ → List ℕ → Derivation
derivation_of p output =
    refuse refused_derivation (permanent_tests p ++ deriving_tests p output) (Ok (length (derived_records p)))

-- in numbers: derived, 1, and the number of records
unfoldable pub derivation_reply : Derivation → Reply
derivation_reply (Ok n) = accepted_as 1 n
derivation_reply (Err n) = refused_with n

-- the output after an answer: a permanent table of the same feature with its header, and every byte beyond it as it was
abbrev pub after_deriving : Derivation → List ℕ → List ℕ → List ℕ
after_deriving (Ok n) p output = holding output permanent (feature_of p) (derived_records p)
after_deriving (Err f) p output = output

-- `unfolding deriveds` opens every definition that a derivation computes by
unfoldable pub deriveds : Unit {0}
unfolding record_for derived_records deriving_tests derivation_of derivation_reply derivations asking
deriveds = tt
