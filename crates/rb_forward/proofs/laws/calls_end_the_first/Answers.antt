use Rattle.std.proofs.Common.{◌≤◌, refl}
use Rattle.rb_forward.specs.declared.types.ForwardEnd.TheVariants.{Failed, Dropped}
use Rattle.rb_forward.specs.Forwards.{Entry, reply, due, drop_caller, counts_for, is_due, is_of_connection, outcome_of}
use Rattle.rb_forward.specs.Ends.{IsReplyTo, IsOf}
use Rattle.rb_forward.proofs.Ends.{ends_first, reply_means, reply_tested, due_means, due_tested, of_means, of_tested}
use Rattle.rb_forward.proofs.laws.calls_end_the_first.Goals as goal

pub returns-clause-replies : goal.returns-clause-replies
unfolding reply
returns-clause-replies c = λ first_xid clock from message f.
    ends_first (IsReplyTo first_xid clock from message) (counts_for first_xid clock from message) (reply_means first_xid clock from message) (reply_tested first_xid clock from message) (outcome_of message) f

pub returns-clause-deadlines : goal.returns-clause-deadlines
unfolding due
returns-clause-deadlines c = λ clock f. ends_first (λ (e : Entry). e.deadline ≤ clock) (is_due clock) (due_means clock) (due_tested clock) Failed f

pub returns-clause-closings : goal.returns-clause-closings
unfolding drop_caller
returns-clause-closings c = λ id f.
    ends_first (λ (e : Entry). IsOf id e.forward.caller) (is_of_connection id) (λ (e : Entry). of_means id e.forward.caller) (λ (e : Entry). of_tested id e.forward.caller) Dropped f

pub returns-clause-told : goal.returns-clause-told
unfolding reply due drop_caller
returns-clause-told c = λ first_xid f. record { replied = λ clock from message. refl; was_due = λ clock. refl; dropped = λ id. refl }
