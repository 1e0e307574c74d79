use Rattle.std.proofs.Common.{◌≡◌, sym, ◌∙◌}
use Rattle.rb_model.specs.Calls.{message_with}
use Rattle.rb_core.proofs.Spending.{served_alone, served_in_room}
use Rattle.rb_core.proofs.Answering.{serves_in_room, nothing_evicts, lists_then}
use Rattle.rb_serving.proofs.Procedures.{nothing_asks}
use Rattle.rb_core.proofs.calls.serve_message.Goals as goal

pub returns-in-Err-clause-acts : goal.returns-in-Err-clause-acts
returns-in-Err-clause-acts c =
    let message = c.in-Err.message in
    let table = c.args.connections.now in
    let books = c.args.books.now in
    rw (← c.in-Err.ensures.refuses c.args.arguments.now)
    (serves_in_room c.args.context.now message c.args.arguments.now table books _ table books c.serve.new.books c.serve.ensures.cursors c.serve.ensures.floor c.requires.lists
    (nothing_evicts c.args.context.now message table books (λ l. nothing_asks c.args.context.now message l c.in-Err.ensures.asks)) c.serve.ensures.acts)

pub returns-in-Err-clause-lists : goal.returns-in-Err-clause-lists
returns-in-Err-clause-lists c =
    lists_then c.args.connections.now c.args.books.now c.serve.new.books c.serve.ensures.cursors c.serve.ensures.floor c.requires.lists

pub returns-clause-acts : goal.returns-clause-acts
returns-clause-acts c =
    let message = c.message.result in
    let same : message_with c.args.verdict.now c.args.arguments.now ≡ message = c.in-Ok.ensures.calls c.args.arguments.now ∙ sym c.message.ensures.message in
    rw same
    (serves_in_room c.args.context.now message c.args.arguments.now c.args.connections.now c.args.books.now _ c.make_room.new.connections c.make_room.new.books c.serve-served.new.books
    c.serve-served.ensures.cursors c.serve-served.ensures.floor c.make_room.ensures.lists c.make_room.ensures.makes c.serve-served.ensures.acts)

pub returns-clause-lists : goal.returns-clause-lists
returns-clause-lists c =
    lists_then c.make_room.new.connections c.make_room.new.books c.serve-served.new.books c.serve-served.ensures.cursors c.serve-served.ensures.floor c.make_room.ensures.lists

-- ---- what it costs

pub returns-in-Err-clause-listed : goal.returns-in-Err-clause-listed
returns-in-Err-clause-listed c = rw (← c.in-Err.ensures.refuses c.args.arguments.now) c.serve.ensures.listed

pub returns-in-Err-clause-cost : goal.returns-in-Err-clause-cost
returns-in-Err-clause-cost c = rw (← c.in-Err.ensures.refuses c.args.arguments.now) (served_alone c.args.context.now c.in-Err.message c.args.connections.now c.args.books.now c.serve.new.books c.args.arguments.now c.serve.new.out _ _ c.serve.ensures.cost)

pub returns-clause-listed : goal.returns-clause-listed
returns-clause-listed c = rw (c.in-Ok.ensures.calls c.args.arguments.now ∙ sym c.message.ensures.message) c.serve-served.ensures.listed

pub returns-clause-cost : goal.returns-clause-cost
returns-clause-cost c =
    rw (c.in-Ok.ensures.calls c.args.arguments.now ∙ sym c.message.ensures.message)
    (served_in_room c.args.context.now c.message.result c.args.connections.now c.args.books.now c.make_room.new.books c.serve-served.new.books c.args.arguments.now c.serve-served.new.out _ _ _
    c.make_room.ensures.frame.limit c.make_room.ensures.fewer c.make_room.ensures.cost c.serve-served.ensures.cost)
