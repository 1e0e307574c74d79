use Rattle.std.proofs.Common.{length, ◌∙◌, sym, subst}
use Rattle.rb_core.specs.CallCosts.{may_register_in}
use Rattle.rb_core.specs.Metered.{Metered}
use Rattle.rb_core.specs.MeteredCalls.{StepsForPlainDatagram}
use Rattle.rb_core.proofs.Reached.{answered_reached, registry_limit}
use Rattle.rb_core.proofs.Metering.{bounded, datagram_priced}
use Rattle.rb_core.proofs.CallBounds.{datagram_within}
use Rattle.rb_core.proofs.Spending.{plain_datagram_paid}
use Rattle.rb_core.proofs.metered.Metered.datagram.Goals as goal

pub invariant_of-self : goal.invariant_of-self
invariant_of-self c = record {
  tie = c.datagram.ensures.cost.tie ∙ c.self.invariant.tie ∙ sym c.datagram.ensures.tie;
  reached = answered_reached _ _ c.self.invariant.reached c.args.now c.args.who c.args.content.now _ c.datagram.ensures.acts;
}

pub returns-clause-priced : goal.returns-clause-priced
returns-clause-priced c =
    datagram_priced _ c.args.self.now c.self.view_is (record { core = c.datagram.new.self; meter = c.datagram.new.meter }) c.args.now c.args.who c.args.content.now _ c.datagram.ensures.acts c.datagram.ensures.cost

pub returns-clause-plain : goal.returns-clause-plain
returns-clause-plain c =
    subst (λ (m : Metered). StepsForPlainDatagram c.args.who c.args.content.now m (record { core = c.datagram.new.self; meter = c.datagram.new.meter })) c.self.view_is
    (plain_datagram_paid (may_register_in c.self.inside.core c.args.who) c.self.inside.core.connections c.self.inside.core.books c.datagram.new.self.books c.args.content.now _ (length c.datagram.new.self.reply) _ _ (registry_limit _ c.self.invariant.reached) c.datagram.ensures.cost)

pub returns-clause-bound : goal.returns-clause-bound
returns-clause-bound c =
    bounded _ c.args.self.now c.self.view_is (record { core = c.datagram.new.self; meter = c.datagram.new.meter }) (length c.args.content.now) 0 c.self.invariant.reached
    (datagram_within _ _ _ c.datagram.new.self c.args.now c.args.who c.args.content.now _ c.datagram.ensures.acts c.datagram.ensures.cost)
