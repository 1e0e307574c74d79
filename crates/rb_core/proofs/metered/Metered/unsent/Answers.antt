use Rattle.std.proofs.Common.{refl, ◌∙◌, sym, subst}
use Rattle.rb_xdr.specs.Meter.{PaysAtMost}
use Rattle.rb_forward.specs.Costs.{unsent_cost}
use Rattle.rb_forward.specs.Table.{count_lent, plain_unsent}
use Rattle.rb_model.specs.Step.{unsent_call}
use Rattle.rb_core.specs.Events.{count_shown}
use Rattle.rb_core.specs.StandsFor.{CoreView}
use Rattle.rb_core.proofs.Begun.{same_tie}
use Rattle.rb_core.proofs.CallBounds.{unsent_within}
use Rattle.rb_core.proofs.Lent.{begins_old, shown_before, shown_inside}
use Rattle.rb_core.proofs.Metering.{bounded, unsent_priced}
use Rattle.rb_core.proofs.Reached.{begun_reached}
use Rattle.rb_core.proofs.metered.Metered.unsent.Goals as goal

pub invariant_of-self : goal.invariant_of-self
invariant_of-self c = record {
  tie = c.lend_unsent.ensures.cost.tie ∙ c.self.invariant.tie ∙ sym (same_tie c.self.inside.core c.begin.new.self (count_shown c.self.inside.meter) c.begin.ensures);
  reached = begun_reached c.self.inside.core c.begin.new.self (count_shown c.self.inside.meter) c.begin.ensures c.self.invariant.reached;
}

pub returns : goal.returns
returns c =
    let cost = subst (λ (held : CoreView). PaysAtMost c.self.inside.meter c.lend_unsent.new.meter (unsent_cost held.books.forwards.cap (count_lent c.lend_unsent.result))) c.begin.ensures c.lend_unsent.ensures.cost in (
      (
        refl,
        λ metered. tt,
        record {
          begun = begins_old _ c.args.self.now c.self.view_is c.begin.new.self c.begin.ensures;
          paid = unsent_priced _ c.args.self.now c.self.view_is (record { core = c.begin.new.self; meter = c.lend_unsent.new.meter }) c.lend_unsent.result (shown_inside _ c.args.self.now c.self.view_is c.begin.new.self c.begin.ensures unsent_call _ c.lend_unsent.ensures.unsent) cost;
          bound = bounded _ c.args.self.now c.self.view_is (record { core = c.begin.new.self; meter = c.lend_unsent.new.meter }) 0 (count_lent c.lend_unsent.result) c.self.invariant.reached (unsent_within _ _ _ (count_lent c.lend_unsent.result) cost);
        },
      ),
      record {
        begun = tt;
        unsent = shown_before _ c.args.self.now c.self.view_is c.begin.new.self c.begin.ensures unsent_call (plain_unsent c.lend_unsent.result) c.lend_unsent.ensures.unsent;
        few = c.lend_unsent.ensures.few;
      },
    )
