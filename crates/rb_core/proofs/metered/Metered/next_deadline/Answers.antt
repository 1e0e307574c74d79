use Rattle.std.proofs.Common.{◌∙◌, sym}
use Rattle.rb_core.specs.Events.{count_shown}
use Rattle.rb_core.proofs.Begun.{same_tie}
use Rattle.rb_core.proofs.Reached.{begun_reached}
use Rattle.rb_core.proofs.Metering.{bounded}
use Rattle.rb_core.proofs.CallBounds.{deadline_within}
use Rattle.rb_core.proofs.metered.Metered.next_deadline.Goals as goal

pub invariant_of-self : goal.invariant_of-self
invariant_of-self c = record {
  tie = c.next_deadline.ensures.cost.tie ∙ c.self.invariant.tie ∙ sym (same_tie c.self.inside.core c.next_deadline.new.self (count_shown c.self.inside.meter) c.next_deadline.ensures.begun);
  reached = begun_reached c.self.inside.core c.next_deadline.new.self (count_shown c.self.inside.meter) c.next_deadline.ensures.begun c.self.invariant.reached;
}

pub returns-clause-bound : goal.returns-clause-bound
returns-clause-bound c =
    bounded _ c.args.self.now c.self.view_is (record { core = c.next_deadline.new.self; meter = c.next_deadline.new.meter }) 0 0 c.self.invariant.reached (deadline_within _ _ _ c.next_deadline.ensures.cost)
