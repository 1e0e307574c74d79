use Rattle.std.proofs.Common.{take, ap, sym, ◌∙◌}
use Rattle.rb_model.specs.Step.{datagram}
use Rattle.rb_core.specs.Metered.{Metered}
use Rattle.rb_engine.proofs.Sendings.{reply_is}
use Rattle.rb_engine.specs.Served.{answered}
use Rattle.rb_engine.proofs.Postings.{replied_posts, handed_posts, noted_ways, unnoted_ways, stands_after}
use Rattle.rb_engine.proofs.datagrams.answer_call.Goals as goal

pub returns-in-Reply-clause-sent : goal.returns-in-Reply-clause-sent
returns-in-Reply-clause-sent g c = λ s h.
    replied_posts g.S.Datagrams.sends c.args.asked.socket c.args.asked.caller.who.source c.gather.new.engine.core.core.reply (datagram s c.args.engine.now.moment c.args.asked.caller.who (take c.args.asked.len c.args.room.now)) c.args.replies.now c.reply.new.replies c.args.sockets.now c.reply.new.sockets (c.in-Reply.ensures.acts.gives s h)
    (reply_is s c.args.engine.now.moment c.args.asked.caller.who (take c.args.asked.len c.args.room.now) c.answer-answer.new.self.core.core c.tell_call.new.self.core.core c.gather.new.engine.core.core c.gather.ensures.engine.core (ap (λ (m : Metered). m.core) c.tell_call.ensures.core) (c.in-Reply.ensures.acts.stands s h))
    c.reply.ensures

pub returns-in-Some-clause-sent : goal.returns-in-Some-clause-sent
returns-in-Some-clause-sent g c = λ s h.
    handed_posts g.S.Datagrams.sends c.args.asked.socket c.args.asked.caller.who.source (datagram s c.args.engine.now.moment c.args.asked.caller.who (take c.args.asked.len c.args.room.now)) c.args.replies.now c.args.sockets.now c.send_forward.new.sockets (sym c.in-Forwarded.is ∙ c.answer-answer.ensures.acts.gives s h)
    (c.send_forward.ensures.sent (answered (datagram s c.args.engine.now.moment c.args.asked.caller.who (take c.args.asked.len c.args.room.now))).1 (stands_after c.gather.ensures.engine.core (ap (λ (m : Metered). m.core) c.tell_call.ensures.core) (c.answer-answer.ensures.acts.stands s h)))

pub returns-in-Some-clause-ways : goal.returns-in-Some-clause-ways
returns-in-Some-clause-ways g c = λ s h.
    noted_ways c.args.asked.socket c.args.ways.now c.note.new.self (datagram s c.args.engine.now.moment c.args.asked.caller.who (take c.args.asked.len c.args.room.now)) c.in-Some.number (sym c.in-Forwarded.is ∙ c.answer-answer.ensures.acts.gives s h)
    (sym c.in-Some.is ∙ c.send_forward.ensures.acts.gives (answered (datagram s c.args.engine.now.moment c.args.asked.caller.who (take c.args.asked.len c.args.room.now))).1 (stands_after c.gather.ensures.engine.core (ap (λ (m : Metered). m.core) c.tell_call.ensures.core) (c.answer-answer.ensures.acts.stands s h)))
    c.note.ensures

pub returns-in_default-clause-sent : goal.returns-in_default-clause-sent
returns-in_default-clause-sent g c = λ s h.
    handed_posts g.S.Datagrams.sends c.args.asked.socket c.args.asked.caller.who.source (datagram s c.args.engine.now.moment c.args.asked.caller.who (take c.args.asked.len c.args.room.now)) c.args.replies.now c.args.sockets.now c.send_forward.new.sockets (sym c.in-Forwarded.is ∙ c.answer-answer.ensures.acts.gives s h)
    (c.send_forward.ensures.sent (answered (datagram s c.args.engine.now.moment c.args.asked.caller.who (take c.args.asked.len c.args.room.now))).1 (stands_after c.gather.ensures.engine.core (ap (λ (m : Metered). m.core) c.tell_call.ensures.core) (c.answer-answer.ensures.acts.stands s h)))

pub returns-in_default-clause-ways : goal.returns-in_default-clause-ways
returns-in_default-clause-ways g c = λ s h.
    unnoted_ways c.args.asked.socket c.args.ways.now (datagram s c.args.engine.now.moment c.args.asked.caller.who (take c.args.asked.len c.args.room.now)) (sym c.in-Forwarded.is ∙ c.answer-answer.ensures.acts.gives s h)
    (sym c.in_default.is ∙ c.send_forward.ensures.acts.gives (answered (datagram s c.args.engine.now.moment c.args.asked.caller.who (take c.args.asked.len c.args.room.now))).1 (stands_after c.gather.ensures.engine.core (ap (λ (m : Metered). m.core) c.tell_call.ensures.core) (c.answer-answer.ensures.acts.stands s h)))
