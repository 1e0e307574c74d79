use Rattle.std.proofs.Common.{arith, sym, ◌∙◌}
use Rattle.rb_policy.proofs.RoundSearch.{none_next, not_left}
use Rattle.rb_policy.proofs.rounds.find.Goals as goal

pub places-init : goal.places-init
places-init c = λ k above less. absurd (omega (arith, above, less))

pub places-preserved : goal.places-preserved
places-preserved c = none_next c.args.left.now c.args.from c.places.key c.places.invariant (not_left c.places.key c.args.left.now (sym c.is_left.ensures ∙ c.if-is_left.false))

pub returns-clause-none : goal.returns-clause-none
returns-clause-none c = λ none k above less. c.places.invariant k above (omega (arith, less, c.places-test.false))
