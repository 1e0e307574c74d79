use Rattle.std.proofs.Common.{sym, ◌∙◌, ap}
use Rattle.rb_answers.specs.Forwarding.{address_asked}
use Rattle.rb_proto.proofs.Refusing.{acts_where_full, is_false}
use Rattle.rb_proto.proofs.forwarding.forward_call.Goals as goal

pub returns-in-Err-clause-acts : goal.returns-in-Err-clause-acts
returns-in-Err-clause-acts c =
    acts_where_full c.args.context.now c.args.xid c.args.kind c.args.remote.now c.args.arguments.now c.in-Some.registered c.args.books.now c.refuse-in-Err.new.books c.refuse-in-Err.result
    (λ l h. ap (λ rows. address_asked c.args.context.now c.args.remote.now rows) (sym h.registry.rows) ∙ (sym c.in-Some.ensures.address))
    (λ l h. is_false _ (rw (← c.requires.forwards) (c.in-Err.ensures.room l.forwards h.forwards).1))
    (rw c.in-Err.ensures.unchanged at c.refuse-in-Err.ensures.acts)
