use Rattle.std.proofs.Common.{max}
use Rattle.rb_answers.specs.Forwarding.{target_replied}
use Rattle.rb_model.specs.Ending.{forward_reply}
use Rattle.rb_core.specs.contracts.holding.Core.{the_view}
use Rattle.rb_core.proofs.Steps.{none_ended, one_ended, replied_alike}
use Rattle.rb_core.proofs.Begun.{with_steps_before, acts_begun}
use Rattle.rb_core.proofs.holding.Core.forward_reply.Goals as goal

pub returns-in_default-clause-acts : goal.returns-in_default-clause-acts
unfolding forward_reply
returns-in_default-clause-acts c =
    let old = with_steps_before (the_view c.self.inside) c.count-self-inside.result in
    rw c.clear.ensures.empty (
    acts_begun _ (the_view c.self.inside) c.args.self.now _ c.count-self-inside.result _ c.self.view_is
    (none_ended old c.args.now c.max-self-inside.result c.max-self-inside.ensures c.args.bytes.now c.reply.new.self c.self.inside.reply.tie
    (target_replied c.self.inside.books.forwards.first_xid c.max-self-inside.result c.args.from c.args.bytes.now) (λ s. target_replied s.setting.first_xid (max s.clock c.args.now) c.args.from c.args.bytes.now)
    (replied_alike old c.args.now c.max-self-inside.result c.args.from c.args.bytes.now c.max-self-inside.ensures) c.in_default.ensures.registry c.in_default.ensures.frame c.in_default.ensures.acts))

pub returns-clause-acts : goal.returns-clause-acts
unfolding forward_reply
returns-clause-acts c =
    let old = with_steps_before (the_view c.self.inside) c.count-self-inside.result in
    acts_begun _ (the_view c.self.inside) c.args.self.now _ c.count-self-inside.result _ c.self.view_is
    (one_ended old c.args.now c.max-self-inside.result c.max-self-inside.ensures c.args.bytes.now c.reply.new.self c.self.inside.reply.tie
    (target_replied c.self.inside.books.forwards.first_xid c.max-self-inside.result c.args.from c.args.bytes.now) (λ s. target_replied s.setting.first_xid (max s.clock c.args.now) c.args.from c.args.bytes.now)
    (replied_alike old c.args.now c.max-self-inside.result c.args.from c.args.bytes.now c.max-self-inside.ensures) c.in-Some.ensures.registry c.in-Some.ensures.frame
    c.in-Some.ended c.tell.result c.tell.new.self c.in-Some.ensures.acts (rw c.clear.ensures.empty at c.tell.ensures.acts))
