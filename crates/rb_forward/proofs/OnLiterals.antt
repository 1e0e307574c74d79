use Rattle.std.specs.Prelude.{⊤}
use Rattle.rb_rpc.proofs.OnLiterals.{rb_rpc_on_literals}
use Rattle.rb_forward.specs.Deadlines.{deadlines_of}
use Rattle.rb_forward.specs.Forwards.{xid_of, question, longest_results, outcome_of, is_same_peer, is_answered, reply, due, drop_caller, later, can_start, next_entry, with_next_entry, unsent, can_be_sent, sent, held_call}

-- What is unfolded to compute the definitions of this crate, and of those below, on literals.
unfoldable pub rb_forward_on_literals : ⊤
unfolding rb_rpc_on_literals
    deadlines_of
    xid_of question longest_results outcome_of is_same_peer is_answered reply due drop_caller later
    can_start next_entry with_next_entry unsent can_be_sent sent held_call
rb_forward_on_literals = tt
