-- How forwarded calls end, and what their callers are told (RFC 1833 sections 2.2.1 and 3.2).
use Rattle.std.specs.Prelude.{ℕ, max, List, [], drop, Option, Some, None}
use Rattle.rb_address.specs.declared.peer.Peer.{Peer}
use Rattle.rb_address.specs.declared.who.Who.{Who}
use Rattle.rb_address.specs.declared.caller.Caller.{Caller}
use Rattle.rb_address.specs.declared.caller.Caller.TheVariants.{Tcp, Udp}
use Rattle.rb_rpc.specs.declared.reply.ReplyStatus.{ReplyStatus}
use Rattle.rb_rpc.specs.declared.reply.ReplyStatus.TheVariants as replies
use Rattle.rb_rpc.specs.Replies.{reply_head}
use Rattle.rb_forward.specs.declared.types.Forward.{Forward}
use Rattle.rb_forward.specs.declared.types.FwdId.{FwdId}
use Rattle.rb_forward.specs.declared.types.ForwardEnd as target
use Rattle.rb_forward.specs.declared.types.ForwardEnd.TheVariants.{Passed, Refused, Failed, Dropped}
use Rattle.rb_forward.specs.declared.types.Ended as entry
use Rattle.rb_answers.specs.declared.answers.Answer.{Answer}
use Rattle.rb_answers.specs.declared.answers.Answer.TheVariants as answers
use Rattle.rb_answers.specs.Ledger.{Ledger}
use Rattle.rb_answers.specs.Forwarding.{refusal, target_replied, fell_due, forwarded_bytes}
use Rattle.rb_model.specs.declared.types.Told.TheVariants.{TcpReady, Datagram}
use Rattle.rb_model.specs.declared.types.Told.TheVariants as told
use Rattle.rb_model.specs.declared.types.Expired.TheVariants.{Nothing, Ended, ConnectionLost}
use Rattle.rb_model.specs.State.{Connections, State, at_moment}
use Rattle.rb_model.specs.Calls.{Outcome, reply_in, success}
use Rattle.rb_model.specs.Calls.Outcome.{NoCall, Reply, Forwarded, Silent}
use Rattle.rb_model.specs.Connections.{settle, on_connection}
use Rattle.rb_model.specs.Losses.{expire_first}
pub use Rattle.rb_model.specs.declared.types.Told.{Told}
pub use Rattle.rb_model.specs.declared.types.Expired.{Expired}

-- ---- what a caller is told

-- a refusal is a reply without results, and what is silent has none
abbrev pub refused_by : ℕ → Answer → Outcome
refused_by xid (answers.Refused status) = Reply (reply_head xid status) None
refused_by xid (answers.Results results) = Silent
refused_by xid answers.Forwarded = Silent
refused_by xid answers.Silent = Silent

-- what the caller is told if its forwarded call failed with this status
abbrev pub outcome_of_failure : Forward → ReplyStatus → Outcome
outcome_of_failure forward status = refused_by forward.xid (refusal forward.kind status)

-- what the caller is told if its forwarded call ended with this outcome; `message` is the datagram of the target,
-- whose last bytes are the results
-- END-2: At its deadline a forwarded call has failed: SYSTEM_ERR for INDIRECT, and silence for
-- CALLIT and BCAST.
abbrev pub outcome_of_end : Forward → List ℕ → target.ForwardEnd → Outcome
outcome_of_end forward message (Passed place) = Reply (success forward.caller forward.xid (forwarded_bytes forward (drop place message))) None
outcome_of_end forward message (Refused status) = outcome_of_failure forward status
outcome_of_end forward message Failed = outcome_of_failure forward replies.SystemErr
outcome_of_end forward message Dropped = Silent

abbrev pub outcome_at_end : List ℕ → entry.Ended → Outcome
outcome_at_end message ended = outcome_of_end ended.forward message ended.outcome

-- what is told of a forwarded call of this number that came over UDP
-- END-1
abbrev pub told_over_udp : FwdId → Who → Outcome → Told
told_over_udp id who (Reply reply stamp) = Datagram id who
told_over_udp id who NoCall = told.Silent id
told_over_udp id who Forwarded = told.Silent id
told_over_udp id who Silent = told.Silent id

-- ---- the end of an entry

-- A caller is told this at the end of its call, which has this number. A connection goes on with it; over UDP it is the last
-- reply.
-- AWAIT-3: At the end of its forwarded call a connection owes the reply, or is Idle if the call has
-- none.
-- END-1: Over UDP a caller gets nothing when its call is forwarded, and the reply, if there is one,
-- at its end; the program around the core is told the call's number then.
abbrev pub tell : FwdId → Caller → Outcome → State → Told × State
tell call (Tcp id who) said s = (TcpReady id, on_connection id (settle s.clock said) s)
tell call (Udp who longest) said s = (told_over_udp call who said, record s { reply = reply_in said })

-- An entry has ended, if there is one, and this is the ledger after it: its caller is told how it ended. `message` is
-- the datagram that ended it.
abbrev pub tell_end : List ℕ → State → Option entry.Ended × Ledger → Option Told × State
tell_end message s (None, ledger) = (None, record s { ledger = ledger })
tell_end message s (Some ended, ledger) =
    let after : Told × State = tell ended.id ended.forward.caller (outcome_at_end message ended) (record s { ledger = ledger }) in
    (Some after.0, after.1)

-- the state at a moment, with no last reply over UDP
-- DATAGRAM-2
abbrev pub at_fresh_moment : ℕ → State → State
at_fresh_moment now s = record (at_moment now s) { reply = [] }

-- A datagram comes in where forwarded calls are sent from: None if it is no reply to an entry.
-- END-3
unfoldable pub forward_reply : State → ℕ → Peer → List ℕ → Option Told × State
forward_reply s now from message =
    tell_end message (at_fresh_moment now s) (target_replied s.setting.first_xid (max s.clock now) from message s.ledger)

abbrev pub lost_as : Option ℕ → Expired
lost_as None = Nothing
lost_as (Some id) = ConnectionLost id

-- The due connection of least number becomes Lost, if there is one.
unfoldable pub expire_connection : State → Expired × State
expire_connection s =
    let after : Option ℕ × Connections = expire_first s.clock s.connections in
    (lost_as after.0, record s { connections = after.1 })

abbrev pub expired_as : Option Told × State → Expired × State
expired_as (None, s) = expire_connection s
expired_as (Some told, s) = (Ended told, s)

-- EXPIRE-1: `expire` does one thing: the due forwarded call of least number ends; if none is due,
-- the due connection of least number becomes Lost.
unfoldable pub expire : State → ℕ → Expired × State
expire s now = expired_as (tell_end [] (at_fresh_moment now s) (fell_due (max s.clock now) s.ledger))
