-- `state::survey::survey_permanent` meets its contract: a record that is due moves on the tally, and the marks of the parts that it
-- tells. Assumes nothing.
use Prim.Native.Nat.{ℕ, ◌≤◌}
use mathlib.Core.Path.{◌≡◌, refl, sym, ap, subst, ◌∙◌}
use mathlib.Core.Bool.{Bool, true, false, ◌&&◌}
use mathlib.Core.List.{List}
use mathlib.Core.Option.{none}
use native.Mathlib.Omega.{arith}
use lib.ListN.{length, get_or, set, length-set}
use Rattle.numbers.specs.declared.Instant.{Instant}
use Rattle.slice.specs.Record.{view_of, Slice}
use Rattle.history.specs.Parts.{tells, due, opens_due, later_turn, latest_with, latest_due}
use Rattle.state.specs.Asking.{slices_of}
use Rattle.state.specs.Steps.{nothing, wanted, later_of, mark_of, mark_due, one_more, tally_with, tally_from, join_few}
use Rattle.state.specs.declared.mention.Mark.{Mark}
use Rattle.state.specs.declared.mention.Latest.{Latest}
use Rattle.state.specs.declared.anchor.Few.TheVariants.{Zero}
use Rattle.state.specs.declared.front.Bases.{Bases}
use Rattle.state.proofs.Bases.{bases_stand}
use Rattle.state.proofs.Slices.{slices_length, slices_end}
use Rattle.state.proofs.Turns.{turn_at}
use Rattle.state.proofs.Walks.{place_most}
use Rattle.state.proofs.Marks.{Noted, noted_start, noted_turn, noted_wanted, pass_front, keeps_turn, keeps_past, keeps_end}
use Rattle.state.proofs.Marks.{mark_turn, latest_past, tally_past, tally_turn}
use Rattle.state.proofs.BaselinesFirst.{none_due, none_opens, opens_told}
use Rattle.state.proofs.survey.survey_permanent.Goals as goal
use Rattle.state.proofs.survey.survey_permanent.Goals.{then-is_due+else-loop-part-test, then-gives, else-gives, else-is_due}

-- the latest mention of a part, with the one that a slice may make
abbrev step : Slice → Mark → ℕ → Mark → Mark
step d new q m = later_of (tells q d) new m

-- past the inner loop the properties are noted, and then the life times
all_noted : (step : ℕ → Mark → Mark) (from to part : ℕ) (ms₀ ms : List Mark) (b e : Mark) → to ≤ 8 → part ≡ to → length ms ≡ 10
    → Noted nothing from step ms₀ ms part → b ≡ step 8 (get_or ms 8 nothing) → e ≡ step 9 (get_or (set ms 8 b) 9 nothing)
    → (q : ℕ) → wanted from to q ≡ true → get_or (set (set ms 8 b) 9 e) q nothing ≡ step q (get_or ms₀ q nothing)
all_noted step from to part ms₀ ms b e few z ten done x y =
    let wide : length (set ms 8 b) ≡ 10 = length-set ms 8 b ∙ ten in
    noted_wanted nothing from to step ms₀ ms (set (set ms 8 b) 9 e) few (subst (Noted nothing from step ms₀ ms) z done)
    (noted_turn nothing 8 step ms (set ms 8 b) 9 e (omega arith) (omega (arith, wide))
    (noted_turn nothing 8 step ms ms 8 b (omega arith) (omega (arith, ten)) (noted_start nothing 8 step ms) x) y)

pub loop-i-init : goal.loop-i-init
unfolding latest_due
loop-i-init c =
    let p = c.args.permanent.now in
    let a = c.args.instant in
    let s = c.since_of-since.result in
    let f = c.front_of-front in
    let most : f.result.end ≤ length (slices_of p) = omega (arith, f.ensures.end.0, slices_length p) in record {
      openings = (
        Zero,
        refl,
        pass_front (tally_with (opens_due s a)) f.result.end Zero (slices_of p) most
            (λ j d h n. tally_past (opens_due s a) n (get_or (slices_of p) j d)
            (none_opens s a (get_or (slices_of p) j d) (f.ensures.end.1 j d h)) Zero),
      );
      ten = c.no_mention-latest.ensures.0;
      marks = λ q y. let g : Slice → Bool = λ d. due s a d && tells q d in (
        none,
        c.no_mention-latest.ensures.1 q,
        pass_front (latest_with later_turn g) f.result.end none (slices_of p) most
            (λ j d h n. latest_past later_turn g n (get_or (slices_of p) j d)
            (ap (λ b. b && tells q (get_or (slices_of p) j d))
            (none_due s a (get_or (slices_of p) j d) (f.ensures.end.1 j d h))) none),
      );
    }

pub mark_of-new-requires : goal.mark_of-new-requires
mark_of-new-requires c = omega (arith, place_most c.args.permanent.now c.requires.0.whole c.loop-i.i (omega arith))

pub loop-part-init : goal.loop-part-init
loop-part-init c =
    let here = view_of c.stride_of-stride.result c.record_at-record.result.now in record {
      ten = c.loop-i.invariant.ten;
      noted = noted_start nothing c.args.from (step here c.mark_of-new.result) c.loop-i.latest.marks;
    }

pub loop-part-preserved : goal.loop-part-preserved
loop-part-preserved c =
    let here = view_of c.stride_of-stride.result c.record_at-record.result.now in
    let new = c.mark_of-new.result in
    let part = c.loop-part.part in
    let ms = c.loop-part.latest.marks in record {
      ten = length-set ms part c.later.result ∙ c.loop-part.invariant.ten;
      noted = noted_turn nothing c.args.from (step here new) c.loop-i.latest.marks ms part c.later.result (omega arith)
          (omega (arith, c.loop-part.invariant.ten)) c.loop-part.invariant.noted
          (c.later.ensures ∙ ap (λ b. later_of b new (get_or ms part nothing)) c.mentions.ensures);
    }

pub loop-i-preserved : goal.loop-i-preserved
loop-i-preserved c =
    let t = c.args.permanent.now in
    let a = c.args.instant in
    let s = c.since_of-since.result in
    let l = c.loop-i in
    let stride = c.stride_of-stride.result in
    let here = view_of stride c.record_at-record.result.now in
    let turn =
    turn_at t l.i c.record_size-size.ensures c.record_at-record.ensures.bytes c.stride_of-stride.ensures c.requires.0.whole
    (omega arith) in
    let told = c.is_due.ensures stride in
    let f : Slice → Bool = opens_due s a in
    elim c.if-is_due.branch [
      | then-is_due+else-loop-part-test w ↦ let y : due s a here ≡ true = sym told ∙ w.if-is_due.true in
          let o : f here ≡ w.gives.result = opens_told s a here true y ∙ sym w.gives.ensures in record {
            openings = elim w.if-gives.branch [
              | then-gives z ↦ keeps_turn (tally_with f) (λ few. few) l.openings _ _ l.i here _ _ turn.next (one_more l.i)
                  (tally_turn f l.i here (o ∙ z.if-gives.true))
                  (w.openings-is ∙ (z.openings-is ∙ z.tallied-openings.ensures)) l.invariant.openings
              | else-gives z ↦ keeps_past (tally_with f) (λ few. few) l.openings _ _ l.i here _ _ turn.next
                  (tally_past f l.i here (o ∙ z.if-gives.false)) (w.openings-is ∙ z.openings-is) l.invariant.openings
            ];
            ten = ap (λ (z : Latest). length z.marks) w.latest-is
                ∙ (length-set (set w.loop-part.latest.marks 8 w.later-then-is_due.result) 9 w.later-then-is_due-2.result
                ∙ (length-set w.loop-part.latest.marks 8 w.later-then-is_due.result ∙ w.loop-part.invariant.ten));
            marks = λ q v.
                keeps_turn (latest_with later_turn (λ d. due s a d && tells q d)) mark_due
                (get_or l.latest.marks q nothing) _ _ l.i here _ _ turn.next
                (step here (mark_of l.i here) q) (mark_turn (due s a) q l.i here y)
                (ap (λ (z : Latest). get_or z.marks q nothing) w.latest-is
                ∙ (all_noted (step here w.mark_of-new.result) c.args.from c.args.to w.loop-part.part l.latest.marks
                w.loop-part.latest.marks
                w.later-then-is_due.result w.later-then-is_due-2.result c.requires.1.1 (omega arith) w.loop-part.invariant.ten
                w.loop-part.invariant.noted
                (w.later-then-is_due.ensures
                ∙ ap (λ b. later_of b w.mark_of-new.result (get_or w.loop-part.latest.marks 8 nothing)) w.gives-then-is_due.ensures)
                (w.later-then-is_due-2.ensures
                ∙ ap (λ b. later_of b w.mark_of-new.result
                (get_or (set w.loop-part.latest.marks 8 w.later-then-is_due.result) 9 nothing))
                w.gives-then-is_due-2.ensures) q v
                ∙ ap (λ (m : Mark). step here m q (get_or l.latest.marks q nothing)) (w.mark_of-new.ensures stride)))
                (l.invariant.marks q v);
          }
      | else-is_due w ↦ let n : due s a here ≡ false = sym told ∙ w.if-is_due.false in record {
        openings = keeps_past (tally_with f) (λ few. few) l.openings _ _ l.i here _ _ turn.next
            (tally_past f l.i here (opens_told s a here false n)) w.openings-is l.invariant.openings;
        ten = ap (λ (z : Latest). length z.marks) w.latest-is ∙ l.invariant.ten;
        marks = λ q v.
            keeps_past (latest_with later_turn (λ d. due s a d && tells q d)) mark_due
            (get_or l.latest.marks q nothing) _ _ l.i here _ _ turn.next
            (latest_past later_turn (λ d. due s a d && tells q d) l.i here (ap (λ b. b && tells q here) n))
            (ap (λ (z : Latest). get_or z.marks q nothing) w.latest-is) (l.invariant.marks q v);
      }
    ]

pub returns-clause-bases : goal.returns-clause-bases
returns-clause-bases c =
    c.together-bases.ensures
    ∙ (ap (λ (b : Bases). join_few b.fixed b.endless) c.front_of-front.ensures.bases
    ∙ bases_stand c.args.instant (slices_of c.args.permanent.now))

pub returns-clause-openings : goal.returns-clause-openings
returns-clause-openings c =
    let p = c.args.permanent.now in
    let a = c.args.instant in
    keeps_end (tally_with (opens_due c.since_of-since.result a)) (λ few. few) c.loop-i.openings _ c.loop-i.i _
    (slices_end p c.loop-i.i (omega arith)) c.loop-i.invariant.openings
    ∙ ap (λ (s : Instant). tally_from (opens_due s a) 0 Zero (slices_of p)) c.since_of-since.ensures

pub returns-clause-marks : goal.returns-clause-marks
returns-clause-marks c =
    let p = c.args.permanent.now in
    let a = c.args.instant in
    let l = c.loop-i in (
      l.invariant.ten,
      λ q v. keeps_end (latest_with later_turn (λ d. due c.since_of-since.result a d && tells q d)) mark_due
          (get_or l.latest.marks q nothing)
          _ l.i _ (slices_end p l.i (omega arith)) (l.invariant.marks q v)
          ∙ ap (λ (s : Instant). mark_due (latest_due q s a (slices_of p))) c.since_of-since.ensures,
    )
