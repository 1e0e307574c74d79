use Rattle.rb_serving.proofs.Serving.{listed, streamed_to}
use Rattle.rb_serving.proofs.replies.put_answer.Goals as goal

pub returns-in-Some-clause-given : goal.returns-in-Some-clause-given
returns-in-Some-clause-given c = λ l h.
    rw c.in-Results.is (listed c.args.caller c.in-Results.results c.args.xid c.args.books.now c.in-Some.listing l c.in-Some.ensures h)

pub returns-in-Some-clause-list : goal.returns-in-Some-clause-list
returns-in-Some-clause-list c =
    streamed_to c.args.caller c.in-Results.results c.args.xid c.in-Some.listing c.in-Some.ensures
