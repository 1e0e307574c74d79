-- What is sent as datagrams, and on which sockets the calls came that are forwarded.
use Rattle.std.specs.Prelude.{ℕ, List, Option, Some, None}
use Rattle.std.specs.Option.{option_map}
use Rattle.rb_address.specs.declared.who.Source.{Source}
use Rattle.rb_forward.specs.Forwards.{Unsent}
use Rattle.rb_policy.specs.declared.ways_back.Way.{Way}
use Rattle.rb_policy.specs.WaysBack.{Ways, noted, without}
use Rattle.rb_model.specs.State.{State}
use Rattle.rb_model.specs.declared.types.Told.{Told}
use Rattle.rb_model.specs.declared.types.Told.TheVariants.{TcpReady, Datagram, Silent}
use Rattle.rb_model.specs.declared.types.Expired.{Expired}
use Rattle.rb_model.specs.declared.types.Expired.TheVariants.{Nothing, Ended, ConnectionLost}
use Rattle.rb_model.specs.Calls.{Outcome, Outcome as outcomes}
use Rattle.rb_model.specs.Step.{unsent_call}
use Rattle.rb_arrivals.specs.Dispatches.{Dispatch, reply_back}

-- ---- the end of a forwarded call

-- A caller over UDP is told it by the last reply.
-- SEND-2 WAYBACK-1
abbrev pub reply_told : List Way → List ℕ → Told → Option Dispatch
reply_told ways reply (TcpReady id) = None
reply_told ways reply (Datagram call who) = reply_back ways call.number who.source reply
reply_told ways reply (Silent call) = None

-- its socket is noted no longer
abbrev pub ways_told : Ways → Told → Ways
ways_told ways (TcpReady id) = ways
ways_told ways (Datagram call who) = without call.number ways
ways_told ways (Silent call) = without call.number ways

-- a datagram came back
abbrev pub reply_after : List Way → Option Told × State → Option Dispatch
reply_after ways (None, s) = None
reply_after ways (Some told, s) = reply_told ways s.reply told

abbrev pub ways_after : Ways → Option Told × State → Ways
ways_after ways (None, s) = ways
ways_after ways (Some told, s) = ways_told ways told

-- something was due
abbrev pub reply_due : List Way → Expired × State → Option Dispatch
reply_due ways (Nothing, s) = None
reply_due ways (Ended told, s) = reply_told ways s.reply told
reply_due ways (ConnectionLost id, s) = None

abbrev pub ways_due : Ways → Expired × State → Ways
ways_due ways (Nothing, s) = ways
ways_due ways (Ended told, s) = ways_told ways told
ways_due ways (ConnectionLost id, s) = ways

-- ---- a forwarded call

abbrev pub call_sent : Option Unsent → Option Dispatch
call_sent unsent = option_map (λ u. Dispatch.Call u.target u.call) unsent

abbrev pub way_noted : ℕ → Ways → Option Unsent → Ways
way_noted socket ways None = ways
way_noted socket ways (Some unsent) = noted ways unsent.number socket

-- ---- a datagram with a call

-- ANSWER-1: A datagram gets its reply from the socket on which it came.
-- SEND-1
abbrev pub answer_sent : ℕ → Source → Outcome × State → Option Dispatch
answer_sent socket to (outcomes.NoCall, s) = None
answer_sent socket to (outcomes.Reply bytes stamp, s) = Some (Dispatch.Reply socket to bytes)
answer_sent socket to (outcomes.Forwarded, s) = call_sent (unsent_call s)
answer_sent socket to (outcomes.Silent, s) = None

-- WAYBACK-1
abbrev pub ways_answered : ℕ → Ways → Outcome × State → Ways
ways_answered socket ways (outcomes.NoCall, s) = ways
ways_answered socket ways (outcomes.Reply bytes stamp, s) = ways
ways_answered socket ways (outcomes.Forwarded, s) = way_noted socket ways (unsent_call s)
ways_answered socket ways (outcomes.Silent, s) = ways
