-- Derived baselines, read back from their bytes: the derived table answers the same record wherever the original answered one, and
-- 20 wherever it did not; the original answers 21 nowhere; and deriving again gives the same table (demand 2). Assumes nothing.
use Prim.Native.Nat.{ℕ, ◌<◌}
use mathlib.Core.Path.{◌≡◌, refl, sym, ap, ◌∙◌}
use mathlib.Core.List.{List, map}
use mathlib.Core.Bool.{false}
use native.Mathlib.Omega.{arith}
use lib.ListN.{length}
use borrow.Author.Tests.{ne_eqb}
use Rattle.laws.specs.Lists.{any}
use Rattle.laws.proofs.Tests.{contrary}
use Rattle.laws.proofs.Replies.{refusal_apart, refusal_tells}
use Rattle.octets.specs.Bytes.{Bytes}
use Rattle.numbers.specs.Numbers.{no_instant, is_none}
use Rattle.numbers.specs.declared.Instant.{Instant}
use Rattle.slice.specs.Record.{permanent, record_size}
use Rattle.std.specs.Prelude.{Ok, Err}
use Rattle.table.specs.Header.{stride_of}
use Rattle.table.specs.Rules.{fails, check_table}
use Rattle.table.specs.Deliveries.{holding}
use Rattle.table.specs.declared.check.Sides.TheVariants.{Permanent}
use Rattle.history.specs.State.{State}
use Rattle.history.specs.Permanent.{Standing, refuses, known, permanent_at}
use Rattle.history.specs.Derived.{has_two, two_anchors, derived_baselines, as_written, read_back}
use Rattle.history.proofs.ReadBack.{read_back_lem, no_two}
use Rattle.history.proofs.Again.{derived_two, derived_again}
use Rattle.state.specs.Written.{nil_unknown, property_bytes, state_record}
use Rattle.state.specs.Asking.{slices_of, permanent_state_of, after_state, record_of, outcome_of, outcome_reply, refused_outcome}
use Rattle.state.proofs.Stages.{state_left, left_asked}
use Rattle.baselines.specs.Laid.{record_for}
use Rattle.baselines.specs.Deriving.{derived_records, derivation_of, after_deriving}
use Rattle.baselines.proofs.Noted.{slices_bounded}
use Rattle.baselines.proofs.Laid.{filled_by}
use Rattle.baselines.proofs.Passes.{timely}
use Rattle.baselines.proofs.DerivedTable.{Deriving, derived_told, told_derived, derived, derived_sound, derived_feature}
use Rattle.baselines.proofs.DerivedTable.{derived_slices}

-- what the answer to the question for a state tells of the standing there
told_refused : (v : Standing) (f : ℕ) → outcome_of v ≡ Err f → v ≡ refuses f
unfolding outcome_reply
told_refused (refuses n) f e = ap refuses (refusal_tells n f (ap outcome_reply e))
told_refused (known s) f e = absurd (refusal_apart f 1 0 (sym (ap outcome_reply e)))

told_written : (v : Standing) → outcome_of v ≡ Ok tt → (s : State) × (v ≡ known s)
unfolding outcome_reply
told_written (refuses n) e = absurd (refusal_apart n 1 0 (ap outcome_reply e))
told_written (known s) e = (s, refl)

-- a state as it is written has the record of the state
record_back : (stride : ℕ) (t : Instant) (s : State)
    → state_record stride t (as_written (nil_unknown stride) s) ≡ state_record stride t s
unfolding state_record as_written
record_back stride t s = rw (filled_by stride (property_bytes stride) (λ b. refl) s.properties)

below : (t : Instant) → t.0 < no_instant → is_none t ≡ false
unfolding is_none
below t h = ne_eqb t.0 no_instant (λ e. absurd (omega arith))

-- what a sound table answers for the state at an instant, into a record that fits
answers : (q : List ℕ) → check_table Permanent q ≡ Ok tt → (t : Instant) → t.0 < no_instant → (buffer : List ℕ)
    → length buffer ≡ record_size (stride_of q)
    → permanent_state_of q t buffer ≡ outcome_of (permanent_at t (slices_of q))
answers q e t h buffer l = sym (left_asked q t buffer (permanent_at t (slices_of q)) (below t h) l ∙ state_left q t buffer e)

module _ (p output : List ℕ) (n : ℕ) (bytes : Bytes p) (e : derivation_of p output ≡ Ok n) where
  abbrev d : Deriving p output n
  d = derived_told p output n e

  abbrev pub table : List ℕ
  table = derived p output n d

  abbrev unknown : List ℕ
  unknown = nil_unknown (stride_of p)

  right : check_table Permanent table ≡ Ok tt
  right = derived_sound p output n d bytes

  module _ (t : Instant) (h : t.0 < no_instant) where
    back : permanent_at t (slices_of table) ≡ read_back unknown (permanent_at t (slices_of p))
    back = ap (permanent_at t) (derived_slices p output n d bytes) ∙ read_back_lem unknown (slices_of p) (timely p bytes d.table) t h

    module _ (buffer : List ℕ) (l : length buffer ≡ record_size (stride_of p)) where
      -- the same record wherever there was one
      pub back_written : permanent_state_of p t buffer ≡ Ok tt
          → (permanent_state_of table t buffer ≡ Ok tt)
          × (after_state (Ok tt) table t buffer ≡ after_state (Ok tt) p t buffer)
      back_written w =
          let (s, k) = told_written (permanent_at t (slices_of p)) (sym (answers p d.table t h buffer l) ∙ w) in
          let same : permanent_at t (slices_of table) ≡ known (as_written unknown s) = back ∙ ap (read_back unknown) k in (
            answers table right t h buffer l ∙ ap outcome_of same,
            ap (λ (v : Standing). record_of (stride_of p) t v buffer) same ∙ record_back (stride_of p) t s
                ∙ sym (ap (λ (v : Standing). record_of (stride_of p) t v buffer) k),
          )

      -- and 20 elsewhere
      pub back_refused : (f : ℕ) → permanent_state_of p t buffer ≡ Err f
          → permanent_state_of table t buffer ≡ refused_outcome 20
      back_refused f w =
          let k = told_refused (permanent_at t (slices_of p)) f (sym (answers p d.table t h buffer l) ∙ w) in
          answers table right t h buffer l ∙ ap outcome_of (back ∙ ap (read_back unknown) k)

      -- 21 nowhere
      pub never_two : permanent_state_of p t buffer ≡ refused_outcome 21 → ⊥
      never_two w =
          let k = told_refused (permanent_at t (slices_of p)) 21 (sym (answers p d.table t h buffer l) ∙ w) in
          contrary (ap has_two k) (no_two (slices_of p) (timely p bytes d.table) d.one t h)

  -- ---- deriving again
  again_records : derived_records table ≡ derived_records p
  unfolding derived_records
  again_records =
      ap (map (record_for (stride_of p)))
      (ap (derived_baselines unknown) (derived_slices p output n d bytes)
      ∙ derived_again unknown (slices_of p) (timely p bytes d.table) (slices_bounded p bytes)
      )

  pub again : (other : List ℕ) → length other ≡ length output
      → (derivation_of table other ≡ Ok n) × (after_deriving (Ok n) table other ≡ after_deriving (Ok n) p other)
  again other l =
      let two : two_anchors (slices_of table) ≡ false =
      ap two_anchors (derived_slices p output n d bytes)
      ∙ derived_two unknown (slices_of p) (timely p bytes d.table) (slices_bounded p bytes) in (
        told_derived table other n (record {
          table = right;
          one = two;
          sound = ap (any (fails (stride_of p) permanent)) again_records ∙ d.sound;
          number = d.number ∙ ap length (sym again_records);
          few = rw again_records d.few;
          fits = rw (again_records, l) d.fits;
        }),
        λ i. holding other permanent (derived_feature p output n d i) (again_records i),
      )
