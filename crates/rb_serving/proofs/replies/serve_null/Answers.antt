use Rattle.rb_serving.proofs.Serving.{null_served}
use Rattle.rb_serving.proofs.replies.serve_null.Goals as goal

pub returns-clause-acts : goal.returns-clause-acts
returns-clause-acts c = λ context arguments.
    rw c.put_success.ensures.written
    (null_served context c.args.head.now arguments c.args.books.now c.note_call.new.self (record { stands = c.note_call.ensures.called; registry = c.note_call.ensures.registry }))
