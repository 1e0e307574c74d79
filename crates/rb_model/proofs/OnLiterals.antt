use Rattle.std.specs.Prelude.{⊤}
use Rattle.rb_rpc.proofs.OnLiterals.{rb_rpc_on_literals}
use Rattle.rb_answers.proofs.OnLiterals.{rb_answers_on_literals}
use Rattle.rb_model.specs.Calls.{longest_reply, is_served, request_of, call_of, message_of, fitting_reply, outcome}
use Rattle.rb_model.specs.Connections.{longest_fragment, taking_of, keep_reading, settle, with_given, give, is_live, live_connection, number_for, open_in_table, next_lost_in_table, is_there, without_number, close_in_table, pending_of}
use Rattle.rb_model.specs.Ending.{forward_reply, expire, expire_connection}
use Rattle.rb_model.specs.Gives.{fitting_of, write_fitting, write_into}
use Rattle.rb_model.specs.Laws.{owed_bytes}
use Rattle.rb_model.specs.Losses.{list_stamps, needed_removals, removals_in_the_way, evict_early, is_due, first_due, expire_first}
use Rattle.rb_model.specs.NextDeadlines.{connection_deadlines, next_deadline}
use Rattle.rb_model.specs.Step.{serve, serve_record, bytes, pending, gave, open_connection, close_connection, next_lost, datagram, step, unsent_call, sent_call, longest_to, zero_stats}

-- What is unfolded to compute the definitions of this crate, and of those below, on literals.
unfoldable pub rb_model_on_literals : ⊤
unfolding rb_rpc_on_literals rb_answers_on_literals
    longest_reply is_served request_of call_of message_of fitting_reply outcome
    longest_fragment taking_of keep_reading settle with_given give is_live live_connection
    number_for open_in_table next_lost_in_table is_there without_number close_in_table pending_of
    forward_reply expire expire_connection
    fitting_of write_fitting write_into
    owed_bytes
    list_stamps needed_removals removals_in_the_way evict_early is_due first_due expire_first
    connection_deadlines next_deadline
    serve serve_record bytes pending gave open_connection close_connection next_lost datagram step
    unsent_call sent_call longest_to zero_stats
rb_model_on_literals = tt
