use Rattle.std.proofs.Common.{◌∙◌, sym}
use Rattle.rb_core.proofs.Metering.{good_from}
use Rattle.rb_core.proofs.Reached.{new_reached}
use Rattle.rb_core.proofs.metered.Metered.counted_by.Goals as goal

pub invariant_of-result : goal.invariant_of-result
invariant_of-result c = record {
  tie = c.new.ensures.cost.tie ∙ sym c.in_ok-core.ensures.tie;
  reached = new_reached _ c.args.limits c.args.listener _ c.args.now c.in_ok-core.ensures.made (good_from _ _ c.in_ok-core.ensures.bad.1) c.check_listener.ensures;
}
