use Rattle.std.proofs.Common.{◌≡◌, rules, refl, ap}
use Rattle.rb_model.specs.Step.Output.{IsPending}
use Rattle.rb_model.specs.Step.{step}
use Rattle.rb_core.proofs.Begun.{stands_begun}
use Rattle.rb_replay.proofs.events.pending.Goals as goal

pub returns-in-Ok-pending-clause-ok : goal.returns-in-Ok-pending-clause-ok
unfolding step
returns-in-Ok-pending-clause-ok c = record {
  step = λ s h. let copied : c.shrink_to_fit.new.self.items ≡ c.in-Ok-pending.bytes.now = search rules in rw (c.in-Ok-pending.ensures.lent s h) (ap IsPending copied, stands_begun c.args.core.now.core _ _ c.pending.follows.holds-at-none.begun s h);
  cost = c.pending.follows.holds-at-none.paid;
}

pub returns-in-Err-clause-ok : goal.returns-in-Err-clause-ok
unfolding step
returns-in-Err-clause-ok c = record {
  step = λ s h. rw (c.in-Err.ensures.lent s h) (refl, stands_begun c.args.core.now.core _ _ c.pending.follows.holds-at-none.begun s h);
  cost = c.pending.follows.holds-at-none.paid;
}
