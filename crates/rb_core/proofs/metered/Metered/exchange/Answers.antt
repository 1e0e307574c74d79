use Rattle.std.proofs.Common.{length, ◌∙◌, sym, subst}
use Rattle.rb_connections.specs.Giving.{whole_cost}
use Rattle.rb_model.specs.Exchanges.{count_given}
use Rattle.rb_core.specs.Metered.{Metered}
use Rattle.rb_core.specs.MeteredCalls.{StepsForPlainExchange}
use Rattle.rb_core.proofs.Reached.{exchanged_reached}
use Rattle.rb_core.proofs.Metering.{bounded, exchange_priced}
use Rattle.rb_core.proofs.CallBounds.{exchange_within}
use Rattle.rb_core.proofs.AtOnce.{whole_few}
use Rattle.rb_core.proofs.Spending.{plain_record_paid}
use Rattle.rb_core.proofs.metered.Metered.exchange.Goals as goal

pub invariant_of-self : goal.invariant_of-self
invariant_of-self c = record {
  tie = c.exchange.ensures.same_meter ∙ c.self.invariant.tie ∙ sym c.exchange.ensures.tie;
  reached = exchanged_reached _ _ c.self.invariant.reached c.args.now c.args.id _ c.args.piece.now _ c.exchange.ensures.acts;
}

pub returns-clause-priced : goal.returns-clause-priced
returns-clause-priced c =
    exchange_priced _ c.args.self.now c.self.view_is (record { core = c.exchange.new.self; meter = c.exchange.new.meter }) c.args.now c.args.id _ c.args.piece.now (whole_cost (length c.args.room.now) (count_given c.exchange.result)) _ c.exchange.ensures.acts c.exchange.ensures.cost

pub returns-clause-plain : goal.returns-clause-plain
returns-clause-plain c =
    subst (λ (m : Metered). StepsForPlainExchange c.args.id c.args.piece.now c.args.room.now m (record { core = c.exchange.new.self; meter = c.exchange.new.meter }) c.exchange.result) c.self.view_is
    (plain_record_paid _ c.exchange.new.self.books c.args.id c.args.piece.now (whole_cost (length c.args.room.now) (count_given c.exchange.result)) _ _ c.exchange.ensures.cost)

pub returns-clause-bound : goal.returns-clause-bound
returns-clause-bound c =
    bounded _ c.args.self.now c.self.view_is (record { core = c.exchange.new.self; meter = c.exchange.new.meter }) _ (count_given c.exchange.result) c.self.invariant.reached
    (exchange_within _ _ _ c.args.now c.args.id c.args.piece.now c.exchange.new.self _ (count_given c.exchange.result) (whole_cost (length c.args.room.now) (count_given c.exchange.result)) _ _ c.exchange.ensures.acts (whole_few (length c.args.room.now) (count_given c.exchange.result)) c.exchange.ensures.cost)
