use Rattle.std.proofs.Common.{◌≡◌, false, refl, sym}
use Rattle.rb_rpc.specs.declared.call.CallHead.{CallHead}
use Rattle.rb_answers.specs.declared.context.Context.{Context}
use Rattle.rb_answers.specs.Answers.{adds_row, row_to_set}
use Rattle.rb_answers.specs.Ledger.{Ledger}
use Rattle.rb_model.specs.Losses.{asks_room}
use Rattle.rb_serving.specs.Messages.{null_message}
use Rattle.rb_core.specs.Core.{context_in}
use Rattle.rb_core.proofs.Answering.{serves_without_room}
use Rattle.rb_serving.proofs.Procedures.{null_asked}
use Rattle.rb_core.proofs.calls.serve_verdict.Goals as goal

null_asks_none : (context : Context) (head : CallHead) (l : Ledger) → asks_room context (null_message head) l ≡ false
unfolding adds_row row_to_set
null_asks_none context head l = refl

pub returns-in-Some-clause-acts : goal.returns-in-Some-clause-acts
returns-in-Some-clause-acts c =
    let head = c.in-Some.head.now in
    rw (null_asked c.args.verdict.now head (sym (rw c.in-Some.is at c.null_called.ensures)) c.args.arguments.now)
    (serves_without_room (context_in c.args.surroundings) (null_message head) c.args.arguments.now c.args.connections.now c.args.books.now _ c.serve_null.new.books
    (null_asks_none (context_in c.args.surroundings) head) c.serve_null.ensures.registry (c.serve_null.ensures.acts (context_in c.args.surroundings) c.args.arguments.now))
