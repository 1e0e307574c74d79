use Rattle.std.proofs.Common.{ap}
use Rattle.rb_links.specs.Outgoing.{Outgoing}
use Rattle.rb_links.proofs.Outboxes.{waits}
use Rattle.rb_links.proofs.outbox.Outbox.send.Goals as goal

pub returns-then-self-clause-sent : goal.returns-then-self-clause-sent
returns-then-self-clause-sent g c =
    rw (← waits c.self.inside.sent c.self.inside.end c.self.inside.bytes.items c.as_slice.result.now c.args.self.now.bytes c.as_slice.ensures.value (ap (λ (o : Outgoing). o.bytes) c.self.view_is) c.self.invariant.0) c.in_ok-n.ensures.bytes

pub returns-else-self-clause-sent : goal.returns-else-self-clause-sent
returns-else-self-clause-sent g c =
    rw (← waits c.self.inside.sent c.self.inside.end c.self.inside.bytes.items c.as_slice.result.now c.args.self.now.bytes c.as_slice.ensures.value (ap (λ (o : Outgoing). o.bytes) c.self.view_is) c.self.invariant.0) c.in_ok-n.ensures.bytes
