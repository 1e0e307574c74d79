use Rattle.std.specs.Prelude.{⊤}
use Rattle.rb_xdr.proofs.OnLiterals.{rb_xdr_on_literals}
use Rattle.rb_rpc.specs.CallBytes.{call_bytes}
use Rattle.rb_rpc.specs.Feeds.{arguments_of}
use Rattle.rb_rpc.specs.Messages.{body_of_sys, auth_stat_of}
use Rattle.rb_rpc.specs.ReadReplies.{read_prog_mismatch, read_accept_stat, read_accepted, read_rpc_mismatch, read_denied, read_reply}
use Rattle.rb_rpc.specs.Records.{fragment_header, first_record, data_of, reply_fragments, marked_reply}
use Rattle.rb_rpc.specs.Replies.{reply_head}
use Rattle.rb_rpc.specs.Verdict.{body_length, auth_end, is_over_long, is_broken, credential_end, verifier_end, sys_uid, verdict}

-- What is unfolded to compute the definitions of this crate, and of those below, on literals.
unfoldable pub rb_rpc_on_literals : ⊤
unfolding rb_xdr_on_literals
    call_bytes
    arguments_of
    body_of_sys auth_stat_of
    read_prog_mismatch read_accept_stat read_accepted read_rpc_mismatch read_denied read_reply
    fragment_header first_record data_of reply_fragments marked_reply
    reply_head
    body_length auth_end is_over_long is_broken credential_end verifier_end sys_uid verdict
rb_rpc_on_literals = tt
