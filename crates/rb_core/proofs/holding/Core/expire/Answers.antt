use Rattle.std.proofs.Common.{[], max}
use Rattle.rb_answers.specs.Forwarding.{fell_due}
use Rattle.rb_model.specs.Ending.{expire, tell_end, at_fresh_moment}
use Rattle.rb_core.specs.contracts.holding.Core.{the_view}
use Rattle.rb_core.proofs.Steps.{none_ended, one_ended, due_alike, one_expired}
use Rattle.rb_core.proofs.Expiries.{none_ended_then}
use Rattle.rb_core.proofs.Begun.{with_steps_before, acts_begun}
use Rattle.rb_core.proofs.holding.Core.expire.Goals as goal

pub returns-in_default-clause-acts : goal.returns-in_default-clause-acts
unfolding expire
returns-in_default-clause-acts c =
    let old = with_steps_before (the_view c.self.inside) c.count-self-inside.result in
    acts_begun _ (the_view c.self.inside) c.args.self.now _ c.count-self-inside.result _ c.self.view_is
    (none_ended_then old _ c.expire_connection.new.self (λ s. tell_end [] (at_fresh_moment c.args.now s) (fell_due (max s.clock c.args.now) s.ledger)) c.expire_connection.result
    (none_ended old c.args.now c.max-self-inside.result c.max-self-inside.ensures [] c.due.new.self c.self.inside.reply.tie
    (fell_due c.max-self-inside.result) (λ s. fell_due (max s.clock c.args.now))
    (due_alike old c.args.now c.max-self-inside.result c.max-self-inside.ensures) c.in_default.ensures.registry c.in_default.ensures.frame c.in_default.ensures.acts)
    (rw c.clear.ensures.empty at c.expire_connection.ensures.acts))

pub returns-clause-acts : goal.returns-clause-acts
unfolding expire
returns-clause-acts c =
    let old = with_steps_before (the_view c.self.inside) c.count-self-inside.result in
    acts_begun _ (the_view c.self.inside) c.args.self.now _ c.count-self-inside.result _ c.self.view_is
    (one_expired old _ (λ s. tell_end [] (at_fresh_moment c.args.now s) (fell_due (max s.clock c.args.now) s.ledger)) c.tell.result
    (one_ended old c.args.now c.max-self-inside.result c.max-self-inside.ensures [] c.due.new.self c.self.inside.reply.tie
    (fell_due c.max-self-inside.result) (λ s. fell_due (max s.clock c.args.now))
    (due_alike old c.args.now c.max-self-inside.result c.max-self-inside.ensures) c.in-Some.ensures.registry c.in-Some.ensures.frame
    c.in-Some.ended c.tell.result c.tell.new.self c.in-Some.ensures.acts (rw c.clear.ensures.empty at c.tell.ensures.acts)))
