-- Replies (RFC 5531 section 9).
use Rattle.std.specs.Prelude.{ℕ, List, ◌++◌}
use Rattle.rb_xdr.specs.Xdr.{number}
use Rattle.rb_rpc.specs.Messages.{auth_none, auth_stat_number}
use Rattle.rb_rpc.specs.declared.reply.ReplyStatus.TheVariants.{Success, ProgUnavail, ProgMismatch, ProcUnavail, GarbageArgs, SystemErr, RpcMismatch, AuthError}
pub use Rattle.rb_rpc.specs.declared.reply.ReplyStatus.{ReplyStatus}
pub use Rattle.rb_rpc.specs.declared.reply.ReplyHead.{ReplyHead}

-- xid, REPLY, MSG_ACCEPTED, a verifier, accept_stat
abbrev pub accepted_reply : ℕ → List ℕ → ℕ → List ℕ
accepted_reply xid verifier stat = number xid ++ number 1 ++ number 0 ++ verifier ++ number stat

-- xid, REPLY, MSG_DENIED, reject_stat
abbrev pub rejected_reply : ℕ → ℕ → List ℕ
rejected_reply xid stat = number xid ++ number 1 ++ number 1 ++ number stat

-- with this verifier, if the reply has one
abbrev pub reply_with : List ℕ → ℕ → ReplyStatus → List ℕ
reply_with verifier xid Success = accepted_reply xid verifier 0
reply_with verifier xid ProgUnavail = accepted_reply xid verifier 1
reply_with verifier xid (ProgMismatch low high) = accepted_reply xid verifier 2 ++ number low ++ number high
reply_with verifier xid ProcUnavail = accepted_reply xid verifier 3
reply_with verifier xid GarbageArgs = accepted_reply xid verifier 4
reply_with verifier xid SystemErr = accepted_reply xid verifier 5
reply_with verifier xid (RpcMismatch low high) = rejected_reply xid 0 ++ number low ++ number high
reply_with verifier xid (AuthError stat) = rejected_reply xid 1 ++ number (auth_stat_number stat)

-- REPLY-1: A reply's head is written whole, with its status, or nothing is; the verifier of an
-- accepted one is AUTH_NONE, empty.
unfoldable pub reply_head : ℕ → ReplyStatus → List ℕ
reply_head xid status = reply_with auth_none xid status

abbrev pub reply_bytes : ReplyHead → List ℕ
reply_bytes head = reply_head head.xid head.status
