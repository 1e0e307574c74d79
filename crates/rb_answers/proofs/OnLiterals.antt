use Rattle.std.specs.Prelude.{⊤}
use Rattle.rb_registry.proofs.OnLiterals.{rb_registry_on_literals}
use Rattle.rb_stats.proofs.OnLiterals.{rb_stats_on_literals}
use Rattle.rb_forward.proofs.OnLiterals.{rb_forward_on_literals}
use Rattle.rb_arguments.proofs.OnLiterals.{rb_arguments_on_literals}
use Rattle.rb_answers.specs.Answers.{row_of_rpcb, comes_from_here, row_of_mapping, can_be_set, has_share, accepts_row, set_row, accepts_removal, unset_rows, shown_address, shown_text, shown_port, getport, getaddr, getversaddr, seconds, taddr_of, uaddr_of, answer, row_to_set, adds_row}
use Rattle.rb_answers.specs.Callers.{own_rows, is_local, hosts_told}
use Rattle.rb_answers.specs.Forwarding.{outcome_note, address_to_forward, forward_of, forward_call, end_note, target_replied, fell_due, caller_dropped, call_sent, forwarded_bytes}
use Rattle.rb_answers.specs.Ledger.{version_of, with_call_noted}
use Rattle.rb_answers.specs.ListReplies.{rest_of}
use Rattle.rb_answers.specs.Netids.{which_of, address_in, is_address}
use Rattle.rb_answers.specs.Reserved.{may_own}
use Rattle.rb_answers.specs.Results.{result_bytes, row_bytes}
use Rattle.rb_answers.specs.Terms.{may_go, goes_by_host, is_this_host}

-- What is unfolded to compute the definitions of this crate, and of those below, on literals.
unfoldable pub rb_answers_on_literals : ⊤
unfolding rb_registry_on_literals rb_stats_on_literals rb_forward_on_literals
    rb_arguments_on_literals
    row_of_rpcb comes_from_here row_of_mapping can_be_set has_share accepts_row set_row
    accepts_removal unset_rows shown_address shown_text shown_port getport getaddr getversaddr
    seconds taddr_of uaddr_of answer row_to_set adds_row
    own_rows is_local hosts_told
    outcome_note address_to_forward forward_of forward_call end_note target_replied fell_due
    caller_dropped call_sent forwarded_bytes
    version_of with_call_noted
    rest_of
    which_of address_in is_address
    may_own
    result_bytes row_bytes
    may_go goes_by_host is_this_host
rb_answers_on_literals = tt
