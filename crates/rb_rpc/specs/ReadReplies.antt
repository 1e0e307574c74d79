-- Replies as they are read (RFC 5531 section 9).
use Rattle.std.specs.Prelude.{ℕ, ◌+◌, ◌==◌, nat_lt, not, ◌||◌, if◌then◌else◌, List, length, Option, Some, None}
use Rattle.rb_xdr.specs.Xdr.{number_at, word}
use Rattle.rb_rpc.specs.Messages.{AuthStat, auth_stat_of}
use Rattle.rb_rpc.specs.Verdict.{auth_end, is_over_long, is_broken}
use Rattle.rb_rpc.specs.declared.reply.ReplyStatus.TheVariants.{Success, ProgUnavail, ProgMismatch, ProcUnavail, GarbageArgs, SystemErr, RpcMismatch, AuthError}
use Rattle.rb_rpc.specs.declared.reply.ReplyStatus.{ReplyStatus}
use Rattle.rb_rpc.specs.declared.reply.ReplyHead.{ReplyHead}

-- what is read: the head of a reply, and the place after it, where its results begin
abbrev pub Read : Type 0
Read = Option (ReplyHead × ℕ)

abbrev pub says : ℕ → ReplyStatus → ℕ → Read
says xid status place = Some (record { xid = xid; status = status }, place)

-- PROG_MISMATCH at a place, with the versions
unfoldable pub read_prog_mismatch : ℕ → List ℕ → Read
read_prog_mismatch place bytes =
    if nat_lt (length bytes) (place + 12) then None
    else says (word 0 bytes) (ProgMismatch (number_at (place + 4) bytes) (number_at (place + 8) bytes)) (place + 12)

-- what accept_stat at a place says with what belongs to it; the place that is given is the end of all of it
abbrev pub by_accept_stat : ℕ → ℕ → List ℕ → Read
by_accept_stat stat place bytes =
    if stat == 0 then says (word 0 bytes) Success (place + 4)
    else if stat == 1 then says (word 0 bytes) ProgUnavail (place + 4)
    else if stat == 2 then read_prog_mismatch place bytes
    else if stat == 3 then says (word 0 bytes) ProcUnavail (place + 4)
    else if stat == 4 then says (word 0 bytes) GarbageArgs (place + 4)
    else if stat == 5 then says (word 0 bytes) SystemErr (place + 4)
    else None

unfoldable pub read_accept_stat : ℕ → List ℕ → Read
read_accept_stat place bytes = if nat_lt (length bytes) (place + 4) then None else by_accept_stat (number_at place bytes) place bytes

-- the verifier stands after three words, and accept_stat after the verifier
unfoldable pub read_accepted : List ℕ → Read
read_accepted bytes = if is_over_long 12 bytes || is_broken 12 bytes then None else read_accept_stat (auth_end 12 bytes) bytes

-- RPC_MISMATCH, with the versions
unfoldable pub read_rpc_mismatch : List ℕ → Read
read_rpc_mismatch bytes =
    if nat_lt (length bytes) 24 then None
    else says (word 0 bytes) (RpcMismatch (word 4 bytes) (word 5 bytes)) 24

-- an authentication is refused with one of the known numbers
abbrev pub refused_by : Option AuthStat → ℕ → Read
refused_by (Some stat) xid = says xid (AuthError stat) 20
refused_by None xid = None

-- reject_stat is the fourth word
unfoldable pub read_denied : List ℕ → Read
read_denied bytes =
    if nat_lt (length bytes) 20 then None
    else if word 3 bytes == 0 then read_rpc_mismatch bytes
    else if word 3 bytes == 1 then refused_by (auth_stat_of (word 4 bytes)) (word 0 bytes)
    else None

-- xid, head, and the place where the results begin, or where the head ends
-- REPLY-2
unfoldable pub read_reply : List ℕ → Read
read_reply bytes =
    if nat_lt (length bytes) 12 || not (word 1 bytes == 1) then None
    else if word 2 bytes == 0 then read_accepted bytes
    else if word 2 bytes == 1 then read_denied bytes
    else None
