use Rattle.std.proofs.Common.{◌+◌, refl, ◌∙◌, sym, subst}
use Rattle.rb_xdr.specs.Meter.{PaysAtMost}
use Rattle.rb_model.specs.Costs.{pending_cost}
use Rattle.rb_model.specs.Step.{pending}
use Rattle.rb_connections.specs.Costs.{look_cost}
use Rattle.rb_core.specs.Events.{count_shown, length_lent}
use Rattle.rb_core.specs.StandsFor.{CoreView}
use Rattle.rb_core.proofs.Begun.{same_tie}
use Rattle.rb_core.proofs.CallBounds.{pending_within}
use Rattle.rb_core.proofs.Lent.{begins_old, lent_before}
use Rattle.rb_core.proofs.Metering.{bounded, pending_priced}
use Rattle.rb_core.proofs.Reached.{begun_reached}
use Rattle.rb_core.proofs.metered.Metered.pending.Goals as goal

pub invariant_of-self : goal.invariant_of-self
invariant_of-self c = record {
  tie = c.lend_pending.ensures.cost.tie ∙ c.self.invariant.tie ∙ sym (same_tie c.self.inside.core c.begin.new.self (count_shown c.self.inside.meter) c.begin.ensures);
  reached = begun_reached c.self.inside.core c.begin.new.self (count_shown c.self.inside.meter) c.begin.ensures c.self.invariant.reached;
}

pub returns : goal.returns
returns c =
    let cost = subst (λ (held : CoreView). PaysAtMost c.self.inside.meter c.lend_pending.new.meter (look_cost held.connections + pending_cost)) c.begin.ensures c.lend_pending.ensures.cost in (
      (
        refl,
        λ metered. tt,
        record {
          begun = begins_old _ c.args.self.now c.self.view_is c.begin.new.self c.begin.ensures;
          paid = pending_priced _ c.args.self.now c.self.view_is (record { core = c.begin.new.self; meter = c.lend_pending.new.meter }) c.args.id cost;
          bound = bounded _ c.args.self.now c.self.view_is (record { core = c.begin.new.self; meter = c.lend_pending.new.meter }) 0 (length_lent c.lend_pending.result) c.self.invariant.reached (pending_within _ _ _ (length_lent c.lend_pending.result) cost);
        },
      ),
      record {
        begun = tt;
        lent = lent_before _ c.args.self.now c.self.view_is c.begin.new.self c.begin.ensures (λ s. pending s c.args.id) c.lend_pending.result c.lend_pending.ensures.lent;
        few = c.lend_pending.ensures.few;
      },
    )
