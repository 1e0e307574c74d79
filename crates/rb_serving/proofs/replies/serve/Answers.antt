use Rattle.rb_serving.proofs.Costs.{asked_paid}
use Rattle.rb_serving.proofs.Serving.{asked_acts}
use Rattle.rb_serving.proofs.replies.serve.Goals as goal

pub returns-in-Asked-clause-acts : goal.returns-in-Asked-clause-acts
returns-in-Asked-clause-acts c =
    rw c.in-Asked.is (
    asked_acts c.args.context.now c.in-Asked.call c.args.arguments.now c.args.books.now c.note_call-in-Asked.new.self c.answer-given.new.books c.answer-given.result _
    (record { stands = c.note_call-in-Asked.ensures.called; registry = c.note_call-in-Asked.ensures.registry }) c.answer-given.ensures.acts
    c.put_answer.ensures.given)

pub returns-in-Asked-clause-listed : goal.returns-in-Asked-clause-listed
returns-in-Asked-clause-listed c = rw c.in-Asked.is (λ listed. c.answer-given.ensures.lists (c.put_answer.ensures.listed listed))

pub returns-in-Asked-clause-cost : goal.returns-in-Asked-clause-cost
returns-in-Asked-clause-cost c =
    rw c.in-Asked.is
    (asked_paid c.args.context.now c.in-Asked.call c.args.books.now c.note_call-in-Asked.new.self c.answer-given.new.books c.answer-given.result c.args.arguments.now c.put_answer.new.out _ _ _
    c.note_call-in-Asked.ensures.registry c.answer-given.ensures.lists c.answer-given.ensures.cost c.put_answer.ensures.cost)
