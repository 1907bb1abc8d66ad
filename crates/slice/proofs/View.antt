-- The view of a record: what its mentions are by number, and the rules that follow from it. Assumes nothing.
use Prim.Native.Nat.{ℕ, ◌-◌}
use mathlib.Core.Path.{◌≡◌, refl, sym, ◌∙◌, ap}
use mathlib.Core.List.{List, map}
use mathlib.Core.Bool.{Bool, true, false, cond, not}
use lib.ListN.{length, take, drop}
use lib.Dec.{eqb, ltb}
use Rattle.std.specs.Prelude.{Result, Ok, Err}
use Rattle.laws.specs.Lists.{all, any, count, first}
use Rattle.laws.specs.Refusals.{refuse}
use Rattle.laws.proofs.Lists.{rest_whole, length-pieces, all_count, any_count, all_map, any_map}
use Rattle.property.specs.Eight.{properties_of, breaks, mentioned, survey_of}
use Rattle.property.specs.declared.FirstBad.{FirstBad}
use Rattle.slice.specs.Record.{kind_of, period_of, life_of, parts_of, unmentioned, says, is_mentioned, property_of, view_of}
use Rattle.slice.specs.Rules.{times_of, times_right, content_of, content_right}
use Rattle.slice.specs.Check.{Checked, refused, counted_tests, sound}

-- a property of the view is mentioned where its bytes are
pub property_mentioned : (p : List ℕ) → is_mentioned (property_of p) ≡ mentioned p
property_mentioned p = go (mentioned p)
  where
    go : (b : Bool) → is_mentioned (cond b (says p) unmentioned) ≡ b
    go true = refl
    go false = refl

module _ (stride : ℕ) (r : List ℕ) where
  pub every_mentioned : all is_mentioned (map property_of (parts_of stride r)) ≡ eqb (count mentioned (parts_of stride r)) 8
  unfolding properties_of
  every_mentioned =
      all_map property_of is_mentioned mentioned property_mentioned (parts_of stride r)
      ∙ sym (all_count mentioned (parts_of stride r))
      ∙ ap (eqb (count mentioned (parts_of stride r))) (length-pieces stride 8 (drop 32 r))

  pub some_mentioned : any is_mentioned (map property_of (parts_of stride r)) ≡ ltb 0 (count mentioned (parts_of stride r))
  some_mentioned = any_map property_of is_mentioned mentioned property_mentioned (parts_of stride r)
      ∙ sym (any_count mentioned (parts_of stride r))

  pub view_times : times_right (view_of stride r) ≡ times_of (kind_of r) (period_of r) (life_of r)
  unfolding times_right view_of
  view_times = refl

  pub view_content : content_right (view_of stride r)
      ≡ content_of (kind_of r) (life_of r)
      (eqb (count mentioned (parts_of stride r)) 8) (ltb 0 (count mentioned (parts_of stride r)))
  unfolding content_right view_of
  view_content = rw (every_mentioned, some_mentioned)

  -- 14 to 16, by what is found of the properties
  abbrev pub past_survey : Result ℕ FirstBad → Checked
  past_survey (Err i) = refused 14
  past_survey (Ok n) =
      cond (not (times_of (kind_of r) (period_of r) (life_of r))) (refused 15)
      (cond (not (content_of (kind_of r) (life_of r) (eqb n 8) (ltb 0 n))) (refused 16) sound)

  counted_is : refuse refused (counted_tests stride r) sound
      ≡ cond (any breaks (parts_of stride r)) (refused 14) (past_survey (Ok (count mentioned (parts_of stride r))))
  unfolding counted_tests
  counted_is = rw (view_times, view_content)

  pub counted_found : refuse refused (counted_tests stride r) sound
      ≡ past_survey (survey_of stride (take (length r - 32) (drop 32 r)))
  unfolding survey_of
  counted_found = rw (rest_whole 32 r) (counted_is ∙ go (any breaks (parts_of stride r)))
    where
      go : (b : Bool) → cond b (refused 14) (past_survey (Ok (count mentioned (parts_of stride r))))
          ≡ past_survey (cond {A = Result ℕ FirstBad} b (Err (record { 0 = first breaks (parts_of stride r) })) (Ok (count mentioned (parts_of stride r))))
      go true = refl
      go false = refl
