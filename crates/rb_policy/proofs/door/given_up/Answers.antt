use Rattle.std.proofs.Common.{◌∙◌, ap, sym, subst, ◌+◌}
use Rattle.rb_policy.specs.Candidates.{candidate_at, IsFirstOf, first_of}
use Rattle.rb_policy.proofs.Candidates.{step, at_end, nobody, somebody}
use Rattle.rb_policy.proofs.door.given_up.Goals as goal

pub loop-place-preserved : goal.loop-place-preserved
loop-place-preserved c =
    let f = candidate_at c.args.places.now c.args.newcomer.now c.args.now in (
      c.loop-place.invariant.0,
      subst (IsFirstOf f (c.loop-place.place + 1))
          (ap (first_of c.loop-place.first) (sym c.candidate_at-other.ensures) ∙ sym c.first_of-first.ensures)
          (step f c.loop-place.place c.loop-place.first c.loop-place.invariant.1),
    )

pub returns-in-Some-clause-some : goal.returns-in-Some-clause-some
returns-in-Some-clause-some c =
    somebody c.args.places.now c.args.newcomer.now c.args.now c.in-Some.candidate
    (at_end _ _ _ _ _ c.loop-place-test.false c.loop-place.auto.place-end c.in-Some.is c.loop-place.invariant.1)

pub returns-in-None-clause-none : goal.returns-in-None-clause-none
returns-in-None-clause-none c =
    nobody c.args.places.now c.args.newcomer.now c.args.now
    (at_end _ _ _ _ _ c.loop-place-test.false c.loop-place.auto.place-end c.in-None.is c.loop-place.invariant.1)
