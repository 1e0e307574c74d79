-- Versions from the least to the greatest.
use Rattle.std.specs.Prelude.{IfSome}
use Rattle.std.proofs.Common.{◌≡◌, ◌≤◌, ◌<◌, ℕ, zero, suc, ◌+◌, ◌-◌, Bool, true, false, List, [], ◌∷◌, Option, Some, None, refl, ap, sym, ◌∙◌, arith, add-one}
use Rattle.std.proofs.lemmas.Bool.{lt-ltb, le-ltb, lt-leb}
use Rattle.rb_plans.specs.declared.course.Course.{Course}
use Rattle.rb_plans.specs.declared.course.Place.{Place}
use Rattle.rb_plans.specs.declared.course.Aim.TheVariants as aims
use Rattle.rb_plans.specs.declared.course.Answer.{Answer}
use Rattle.rb_plans.specs.declared.course.Answer.TheVariants as answers
use Rattle.rb_plans.specs.declared.course.Stage.TheVariants.{Call}
use Rattle.rb_plans.specs.Next.{place_of, next_stage, step_to_versions, most_versions}
use Rattle.rb_plans.specs.WholeCourses.{IsOfCall, follow, versions_called_from, upwards, EachVersionIsCalled}

module _ (course : Course) (place : Place) (answer : ℕ → Option Answer) (known : place_of course.way ≡ Some place) (of_call : (vers : ℕ) → IfSome (answer vers) IsOfCall) where
  -- whatever is answered, the version after it follows
  follows : (vers high : ℕ) (lacks : Bool) (a : Option Answer) → IfSome a IsOfCall → (after : Bool) × ((follow course (Call (aims.Each vers high lacks) place) a).stage ≡ next_stage course vers high after)
  follows vers high lacks (Some answers.Ready) of = (lacks, refl)
  follows vers high lacks (Some (answers.Refused status)) of = (true, refl)
  follows vers high lacks (Some (answers.Port port)) of = absurd of
  follows vers high lacks (Some (answers.Address address)) of = absurd of
  follows vers high lacks None of = (true, refl)

  at_last : (fuel vers : ℕ) (lacks : Bool) → versions_called_from fuel course answer (next_stage course vers (vers + 0) lacks) ≡ []
  at_last zero vers lacks = refl
  at_last (suc n) vers lacks = let over : vers + 0 ≤ vers = omega arith in rw (le-ltb vers (vers + 0) over) refl

  goes_on : (vers more : ℕ) (lacks : Bool) → next_stage course vers (vers + suc more) lacks ≡ Call (aims.Each (vers + 1) (vers + suc more) lacks) place
  goes_on vers more lacks = let before : vers < vers + suc more = omega arith in rw (lt-ltb vers (vers + suc more) before, known) refl

  pub all_called : (more fuel vers : ℕ) (lacks : Bool) → more < fuel → versions_called_from fuel course answer (Call (aims.Each vers (vers + more) lacks) place) ≡ upwards (suc more) vers
  all_called zero (suc n) vers lacks within =
      let f = follows vers (vers + 0) lacks (answer vers) (of_call vers) in
      ap (λ (rest : List ℕ). vers ∷ rest) (ap (versions_called_from n course answer) f.1 ∙ at_last n vers f.0)
  all_called (suc more) (suc n) vers lacks within =
      let f = follows vers (vers + suc more) lacks (answer vers) (of_call vers) in
      let same : vers + suc more ≡ (vers + 1) + more = omega arith in
      let on : (after : Bool) → versions_called_from n course answer (Call (aims.Each (vers + 1) (vers + suc more) after) place) ≡ upwards (suc more) (vers + 1) = λ after. rw same (all_called more n (vers + 1) after (omega (arith, within))) in
      ap (λ (rest : List ℕ). vers ∷ rest) (ap (versions_called_from n course answer) (f.1 ∙ goes_on vers more f.0) ∙ on f.0)
  all_called more zero vers lacks within = absurd (omega (arith, within))

pub each_is_called : EachVersionIsCalled
each_is_called course place low more answer known within of_call =
    let fits : low ≤ low + more = omega arith in
    let few : low + more - low < 256 = omega (arith, within) in
    let first : (step_to_versions course low (low + more)).stage ≡ Call (aims.Each low (low + more) false) place = rw (le-ltb (low + more) low fits, lt-leb 256 (low + more - low) few, known) refl in
    ap (versions_called_from most_versions course answer) first ∙ all_called course place answer known of_call more most_versions low false within ∙ ap (λ (n : ℕ). upwards n low) (sym (add-one more))
