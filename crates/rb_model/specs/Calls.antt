-- What a message says, by the order of refusals, and what it is answered with (RFC 5531 sections 8 and 9).
use Rattle.std.specs.Prelude.{ℕ, ◌==◌, nat_lt, min, max, not, ◌||◌, Bool, true, false, if◌then◌else◌, List, [], ◌++◌, length, Option, Some, None, Result, Ok, Err, take}
use Rattle.rb_rpc.specs.declared.call.CallHead.{CallHead}
use Rattle.rb_rpc.specs.declared.call.Verdict.{Verdict}
use Rattle.rb_rpc.specs.declared.call.Verdict.TheVariants as verdicts
use Rattle.rb_rpc.specs.Verdict.{verdict}
use Rattle.rb_rpc.specs.declared.reply.ReplyStatus.{ReplyStatus}
use Rattle.rb_rpc.specs.declared.reply.ReplyStatus.TheVariants as replies
use Rattle.rb_rpc.specs.Replies.{reply_head}
use Rattle.rb_address.specs.declared.caller.Caller.{Caller}
use Rattle.rb_address.specs.declared.caller.Caller.TheVariants.{Tcp, Udp}
use Rattle.rb_rpc.specs.Feeds.{arguments_of}
use Rattle.rb_registry.specs.Rows.{rpcb_prog}
use Rattle.rb_arguments.specs.declared.request.ArgumentFault.{ArgumentFault}
use Rattle.rb_arguments.specs.declared.request.ArgumentFault.TheVariants as faults
use Rattle.rb_arguments.specs.declared.request.Request.{Request}
use Rattle.rb_answers.specs.declared.context.Context.{Context}
use Rattle.rb_arguments.specs.Arguments.{read_request}
use Rattle.rb_answers.specs.Ledger.{Ledger, with_call_noted}
use Rattle.rb_answers.specs.declared.answers.Answer.{Answer}
use Rattle.rb_answers.specs.declared.answers.Results.{Results}
use Rattle.rb_answers.specs.declared.answers.Results.TheVariants as results
use Rattle.rb_answers.specs.declared.answers.Answer.TheVariants as answers
use Rattle.rb_answers.specs.Answers.{answer}
use Rattle.rb_answers.specs.Results.{result_bytes, shown_of}
use Rattle.rb_model.specs.declared.message.Message.{Message}
use Rattle.rb_model.specs.declared.message.Message.TheVariants as says

-- ---- what a message says

-- the versions of program 100000 that are served
-- VERSION-1
unfoldable pub is_served : ℕ → Bool
is_served vers = vers == 2 || vers == 3 || vers == 4

-- a reply without results
abbrev pub refusal : ℕ → ReplyStatus → Message
refusal xid status = says.Refused (record { xid = xid; status = status })

-- a call of a version that is served, with its arguments, or why they can't be read
-- ARGS-4: Arguments that can't be read are GARBAGE_ARGS.
-- PROC-3
unfoldable pub request_of : CallHead → Result Request ArgumentFault → Message
request_of head (Err faults.ProcUnavail) = refusal head.xid replies.ProcUnavail
request_of head (Err faults.GarbageArgs) = says.Garbage head
request_of head (Ok request) = says.Asked (record { head = head; request = request })

-- A call with a readable head, and the bytes after its verifier: the first line that holds decides.
-- PROGRAM-1: A call of another program is PROG_UNAVAIL, once its head was read.
-- VERSION-1: A call of another version than 2, 3 and 4 is PROG_MISMATCH, low 2, high 4.
unfoldable pub call_of : CallHead → List ℕ → Message
call_of head arguments =
    if not (head.prog == rpcb_prog) then refusal head.xid replies.ProgUnavail
    else if not (is_served head.vers) then refusal head.xid (replies.ProgMismatch 2 4)
    else request_of head (read_request head.vers head.proc arguments)

-- a message of this verdict, with the bytes after its head
abbrev pub message_with : Verdict → List ℕ → Message
message_with verdicts.NoCall arguments = says.NoCall
message_with (verdicts.RpcMismatch xid) arguments = refusal xid (replies.RpcMismatch 2 2)
message_with (verdicts.AuthError xid stat) arguments = refusal xid (replies.AuthError stat)
message_with (verdicts.Call head place) arguments = call_of head arguments

-- the data of a whole record, or a datagram
unfoldable pub message_of : List ℕ → Message
message_of bytes = message_with (verdict bytes) (arguments_of bytes)

-- ---- what it is answered with

-- What is no call has no reply, and a call has one, or is forwarded, or stays without one. A reply that is a streamed list
-- has the number of changes after which it began.
pub data Outcome : Type 0 where
  NoCall : Outcome
  Reply : List ℕ → Option ℕ → Outcome
  Forwarded : Outcome
  Silent : Outcome

abbrev pub is_no_call : Outcome → Bool
is_no_call NoCall = true
is_no_call (Reply bytes stamp) = false
is_no_call Forwarded = false
is_no_call Silent = false

-- no bytes if there is no reply
abbrev pub reply_in : Outcome → List ℕ
reply_in NoCall = []
reply_in (Reply bytes stamp) = bytes
reply_in Forwarded = []
reply_in Silent = []

-- the greatest length of a reply, but for a list that is streamed
-- LENGTH-1
unfoldable pub longest_reply : ℕ
longest_reply = 9000

-- the length of a reply without results, which each call may be answered with
abbrev pub shortest_reply : ℕ
shortest_reply = 24

-- the most bytes of a reply to this caller, but for a list that is streamed
-- REFLECT-1
abbrev pub longest_for : Caller → ℕ
longest_for (Tcp id who) = longest_reply
longest_for (Udp who longest) = min (max longest shortest_reply) longest_reply

-- LENGTH-1: A reply of more than 9,000 bytes becomes SYSTEM_ERR, unless it is a list over TCP; one
-- of exactly 9,000 is sent.
unfoldable pub fitting_reply : ℕ → ℕ → List ℕ → List ℕ
fitting_reply longest xid reply = if nat_lt longest (length reply) then reply_head xid replies.SystemErr else reply

-- the reply with results to this caller
-- SUCCESS-1: A call that is answered by its procedure has accept_stat SUCCESS in front of the
-- results.
abbrev pub success : Caller → ℕ → List ℕ → List ℕ
success caller xid results = fitting_reply (longest_for caller) xid (reply_head xid replies.Success ++ results)

-- Results of these bytes, after this many changes: a list of rows is streamed on a connection, of any length.
-- LIST-4: Each DUMP and GETADDRLIST over TCP is a streamed list of the rows as of its call, of any
-- length: one of a single fragment too, and one that shows no row.
-- LENGTH-1
abbrev pub results_outcome : Caller → ℕ → ℕ → List ℕ → Results → Outcome
results_outcome (Tcp id who) count xid bytes (results.Rows list) = Reply (reply_head xid replies.Success ++ bytes) (Some count)
results_outcome (Udp who longest) count xid bytes (results.Rows list) = Reply (success (Udp who longest) xid bytes) None
results_outcome caller count xid bytes (results.Value value) = Reply (success caller xid bytes) None
results_outcome caller count xid bytes results.Statistics = Reply (success caller xid bytes) None

-- the outcome of an answer to a caller after this many changes; `bytes_of` gives the bytes of results
-- SUCCESS-1
abbrev pub answer_outcome : Caller → ℕ → ℕ → (Results → List ℕ) → Answer → Outcome
answer_outcome caller count xid bytes_of (answers.Results results) = results_outcome caller count xid (bytes_of results) results
answer_outcome caller count xid bytes_of (answers.Refused status) = Reply (reply_head xid status) None
answer_outcome caller count xid bytes_of answers.Forwarded = Forwarded
answer_outcome caller count xid bytes_of answers.Silent = Silent

-- the outcome of an answer, and the ledger after it
abbrev pub reply_with : Context → ℕ → Answer × Ledger → Outcome × Ledger
reply_with context xid (given, ledger) = (
  answer_outcome context.caller (length ledger.changes) xid (result_bytes (shown_of ledger)) given,
  ledger,
)

-- What a message is answered with in this context, and the ledger after it; `arguments` are the bytes after its
-- head. A call of a procedure that is served is noted in the history of calls before it is answered; one that is
-- refused before that is not.
-- DATAGRAM-1: A datagram that is no call is not answered.
-- COUNT-6: A call of a procedure that its version has is counted before it is answered, GETSTAT
-- too, and also if its arguments can't be read.
-- COUNT-7: A call that is refused before its procedure is known is not counted.
-- NULL-1: A call of NULL is answered by a head with SUCCESS and no results.
-- ARGS-4
unfoldable pub outcome : Context → Message → List ℕ → Ledger → Outcome × Ledger
outcome context says.NoCall arguments ledger = (NoCall, ledger)
outcome context (says.Refused head) arguments ledger = (Reply (reply_head head.xid head.status) None, ledger)
outcome context (says.Garbage head) arguments ledger =
    (Reply (reply_head head.xid replies.GarbageArgs) None, with_call_noted head ledger)
outcome context (says.Asked call) arguments ledger =
    reply_with context call.head.xid (answer context call arguments (with_call_noted call.head ledger))

-- ---- the arguments that are kept of a record while it is read (RFC 5531 section 11)

-- the greatest length of arguments that are served
-- ARGS-5: Bytes after the arguments are taken with the record and ignored, however many; the first
-- 8,816 bytes after the head decide.
unfoldable pub longest_kept : ℕ
longest_kept = 8816

-- TAKE-4: Of a record that is read the first 8,816 bytes of its call's arguments are kept in its
-- buffer, and nothing of the head, of headers and of what is no call; what was read of the head and
-- the place in its fragments stand beside that.
abbrev pub kept_of : List ℕ → List ℕ
kept_of content = take longest_kept (arguments_of content)
