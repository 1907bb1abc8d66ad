-- The second sweep: the records that are drawn, one behind the other, and the lines that they are drawn from. Assumes nothing.
use Prim.Native.Nat.{ℕ, ◌+◌, ◌*◌, ◌≤◌, ◌<◌}
use mathlib.Core.Path.{◌≡◌, sym, ap, ◌∙◌, subst}
use mathlib.Core.Bool.{Bool, true, false}
use mathlib.Core.List.{List, [], ◌∷◌, ◌++◌}
use native.Mathlib.Omega.{arith}
use lib.ListN.{length, take, drop, get_or, length-append}
use lib.Seq.{drop-drop}
use borrow.Rule.Slice.PartMut.{put_mid}
use Rattle.laws.specs.Lists.{joined}
use Rattle.laws.proofs.Tests.{tests, contrary, never}
use Rattle.laws.proofs.Pieces.{joined-more}
use Rattle.octets.specs.Bytes.{Bytes}
use Rattle.octets.specs.Writing.{pasted}
use Rattle.octets.proofs.Writing.{pasted_whole, pasted_then, pasted_length}
use Rattle.numbers.specs.Numbers.{no_instant, before}
use Rattle.numbers.specs.declared.Instant.{Instant}
use Rattle.events.specs.Order.{place_of}
use Rattle.slice.specs.Record.{record_size, Slice}
use Rattle.table.specs.Header.{stride_of, record_at}
use Rattle.history.specs.Derived.{two_anchors}
use Rattle.history.specs.Sweep.{nothing, seen}
use Rattle.state.specs.Asking.{slices_of}
use Rattle.state.proofs.Pasting.{pasted_none}
use Rattle.baselines.specs.Noting.{head_of}
use Rattle.baselines.specs.Sweeping.{times_of, passed_with, is_known, is_two, next_with}
use Rattle.baselines.specs.Carried.{Carries, record_of, unknown_state, Lines, GoesOn}
use Rattle.baselines.specs.Steps.{Sweepable, FitsIn, drawn_record, DrawsKnown}
use Rattle.baselines.specs.declared.sweeping.Sweep.{Sweep}
use Rattle.baselines.proofs.Going.{Going, Turn, state_at, going_start, going_drawn, going_comes, going_record, going_gone}
use Rattle.baselines.proofs.Going.{going_two, going_on, going_past, going_more}
use Rattle.baselines.proofs.Passes.{derived_long}

-- an end at 0 is before no instant
never_before : (t : Instant) → before t (record { 0 = 0 }) ≡ false
unfolding before
never_before t = omega tests

-- ---- records
-- one more, behind those before it
drawn_behind : (o : List ℕ) (done : List (List ℕ)) (r : List ℕ) (from k : ℕ) → from ≡ 32 + length (joined done) → k ≡ length r
    → from + length r ≤ length o
    → put_mid from k (pasted o 32 (joined done)) r ≡ pasted o 32 (joined (done ++ (r ∷ [])))
drawn_behind o done r from k e q h =
    let d = pasted o 32 (joined done) in
    let n : from + length r ≤ length d = omega (arith, pasted_length o (joined done) 32) in
    ap (λ (l : List ℕ). take from d ++ (r ++ l)) (drop-drop k from d ∙ ap (λ (m : ℕ). drop (from + m) d) q)
    ∙ sym (pasted_whole d r from n)
    ∙ pasted_then o (joined done) r 32 from (sym e) h
    ∙ ap (pasted o 32) (sym (joined-more 0 done r))

-- ---- the records of the change instants before are drawn, and both lines are at hand
pub record Drawing (p E o base line output : List ℕ) (s : Sweep) (at : ℕ) (t : Instant) (count : ℕ) : Type 0 where
  pub xs : List Slice
  pub done : List (List ℕ)
  pub going : Going p E s at t count xs done
  pub lines : Lines (stride_of p) (seen xs) t base line
  pub drawn : output ≡ pasted o 32 (joined done)

pub drawing_start : {p E o base line : List ℕ} → Bytes p → Sweepable p E → FitsIn p o
    → Carries (stride_of p) unknown_state (record_of (stride_of p) line) → {t : Instant} → t ≡ head_of E → {s : Sweep}
    → s ≡ times_of nothing → Drawing p E o base line o s 0 t 0
drawing_start {o = o} bytes (sound, are, _) fits says {t} e k = record {
  xs = [];
  done = [];
  going = going_start bytes sound are e k;
  lines = record { based = λ b. contrary b (never_before t); opened = says };
  drawn = pasted_none o 32 (omega (arith, fits.1));
}

module _ {p E o base line output : List ℕ} {s : Sweep} {at : ℕ} {t : Instant} {count : ℕ}
    (d : Drawing p E o base line output s at t count) {next : Instant} {same : Bool} (u : Turn E at t next same) where
  -- ---- an event of the instant
  module _ (now : same ≡ true) where
    pub drawing_record : {place : ℕ} → place ≡ place_of (get_or E at 0) → {r : List ℕ}
        → r ≡ record_at (record_size (stride_of p)) place p → place < 256 → {n : ℕ} → n ≡ stride_of p → {s' : Sweep}
        → s' ≡ passed_with s r t → {base' line' : List ℕ} → GoesOn n s r t base line base' line'
        → Drawing p E o base' line' output s' (at + 1) t count
    drawing_record q {r} f small e k {base'} {line'} goes = record {
      xs = _;
      done = d.done;
      going = going_record d.going u now q f small k;
      lines = subst (λ (m : ℕ). GoesOn m s r t base line base' line') e goes (seen d.xs) d.going.told
          (going_comes d.going u now q f small) d.lines;
      drawn = d.drawn;
    }

    pub drawing_gone : (place_of (get_or E at 0) < 256 → ⊥) → Drawing p E o base line output s (at + 1) t count
    drawing_gone h = record {
      xs = d.xs;
      done = d.done;
      going = going_gone d.going u now h;
      lines = d.lines;
      drawn = d.drawn;
    }

  -- ---- a change instant is done
  module _ (past : same ≡ false) (no_two : two_anchors (slices_of p) ≡ false) {end : Instant} (e : end ≡ next_with s t next) where
    one : is_two s t ≡ false
    one = never _ (λ y. contrary (going_two d.going u past y) no_two)

    pub drawing_on : (t.0 + 1 ≤ end.0) × (end.0 ≤ no_instant)
    drawing_on = going_on d.going u past one e

    -- both lines stay at hand
    later : Lines (stride_of p) (seen d.xs) end base line
    unfolding before
    later = record { based = λ b. d.lines.based (omega (tests, drawing_on.0)); opened = d.lines.opened }

    pub drawing_past : is_known s t ≡ false → Drawing p E o base line output s at end count
    drawing_past h = record {
      xs = d.xs;
      done = d.done;
      going = going_past d.going u past one e h;
      lines = later;
      drawn = d.drawn;
    }

    -- where there is a state, its record
    module _ (h : is_known s t ≡ true) {size : ℕ} (size_is : size ≡ record_size (stride_of p)) (fits : FitsIn p o) where
      abbrev r : List ℕ
      r = drawn_record (stride_of p) (count + 1) t end (state_at d.xs t)

      more : Going p E s at end (count + 1) d.xs (d.done ++ (r ∷ []))
      more = going_more d.going u past one e h

      r_long : length r ≡ record_size (stride_of p)
      r_long = omega (
        arith,
        (going_drawn d.going).1,
        (going_drawn more).1,
        ap length (joined-more 0 d.done r),
        length-append (joined d.done) r,
      )

      pub drawing_room : (count + 1 ≤ 256) × (32 + count * size + size ≤ 57376) × (32 + count * size + size ≤ length output)
      drawing_room =
          let n = (going_drawn more).0 in
          let l = derived_long p d.going.run.evs.bytes d.going.run.evs.sound in
          let k : length output ≡ length o = ap length d.drawn ∙ pasted_length o (joined d.done) 32 in
          rw size_is (omega (arith, fits.0), omega (arith, fits.0), omega (arith, fits.1))

      pub drawing_more : {n : ℕ} → n ≡ stride_of p → {q : List ℕ} → DrawsKnown n s t base line (count + 1) end q → {k : ℕ}
          → k ≡ size → Drawing p E o base line (put_mid (32 + count * size) k output q) s at end (count + 1)
      drawing_more {n} z {q} draws {k} y = record {
        xs = d.xs;
        done = d.done ++ (r ∷ []);
        going = more;
        lines = later;
        drawn = (λ i. put_mid (32 + count * size) k (d.drawn i) (is i))
            ∙ drawn_behind o d.done r (32 + count * size) k from (y ∙ size_is ∙ sym r_long) room;
      }
        where
          is : q ≡ r
          is = subst (λ (m : ℕ). DrawsKnown m s t base line (count + 1) end q) z draws (seen d.xs) d.going.told h d.lines

          from : 32 + count * size ≡ 32 + length (joined d.done)
          from = rw size_is (omega (arith, (going_drawn d.going).1))

          room : 32 + count * size + length r ≤ length o
          room = omega (
            arith,
            drawing_room.2,
            r_long,
            size_is,
            ap length d.drawn ∙ pasted_length o (joined d.done) 32,
          )
