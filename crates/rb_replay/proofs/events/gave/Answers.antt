use Rattle.std.proofs.Common.{◌+◌, length, refl, sym, ◌∙◌, arith}
use Rattle.rb_model.specs.Costs.{find_cost}
use Rattle.rb_model.specs.Step.{step, show_done, gave}
use Rattle.rb_model.specs.Step.Event.{Gave}
use Rattle.rb_connections.specs.Costs.{look_cost}
use Rattle.rb_replay.proofs.RunSteps.{done, refused}
use Rattle.rb_core.proofs.Prices.{by_count}
use Rattle.rb_core.proofs.WithLooks.{look_then}
use Rattle.rb_core.proofs.Spending.{at_most}
use Rattle.rb_replay.proofs.events.gave.Goals as goal

pub returns-then-is_too_much : goal.returns-then-is_too_much
unfolding step
returns-then-is_too_much c = record {
  step = λ s h. rw (sym (c.is_too_much.ensures.value s h) ∙ c.if-is_too_much.true) (refl, rw c.is_too_much.ensures.stays h);
  cost = λ s h. at_most _ _ (find_cost (length s.connections.all) + 1) _ (omega arith) (by_count (λ n. find_cost n + 1) c.args.core.now.core s _ _ h c.is_too_much.ensures.cost);
}

pub returns-in-Ok : goal.returns-in-Ok
unfolding step
returns-in-Ok c = record {
  step = λ s h. rw (sym (c.is_too_much.ensures.value s h) ∙ c.if-is_too_much.false) (done show_done (λ t. gave t c.args.now c.args.id c.args.n) c.args.core.now.core c.gave.new.self.core tt (rw c.is_too_much.ensures.stays at c.in-Ok.ensures.acts) s h);
  cost = look_then (Gave c.args.now c.args.id c.args.n) (look_cost c.args.core.now.core.connections + 1) c.args.core.now c.is_too_much.new.core c.gave.new.self c.in-Ok.ensures.bound.rises c.is_too_much.ensures.cost (rw c.is_too_much.ensures.stays at c.in-Ok.ensures.priced);
}

pub returns-in-Err : goal.returns-in-Err
unfolding step
returns-in-Err c = record {
  step = λ s h. rw (sym (c.is_too_much.ensures.value s h) ∙ c.if-is_too_much.false) (refused show_done (λ t. gave t c.args.now c.args.id c.args.n) c.args.core.now.core c.gave.new.self.core c.in-Err.fault (rw c.is_too_much.ensures.stays at c.in-Err.ensures.acts) s h);
  cost = look_then (Gave c.args.now c.args.id c.args.n) (look_cost c.args.core.now.core.connections + 1) c.args.core.now c.is_too_much.new.core c.gave.new.self c.in-Err.ensures.bound.rises c.is_too_much.ensures.cost (rw c.is_too_much.ensures.stays at c.in-Err.ensures.priced);
}
