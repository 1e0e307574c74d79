-- Worked examples: calls that are forwarded, over UDP and on connections.
use Rattle.std.specs.Prelude.{◌≡◌, ℕ, List, [], ◌∷◌, ◌++◌, length, map, replicate, Some, None}
use Rattle.rb_xdr.specs.Xdr.{words}
use Rattle.rb_address.specs.declared.host.Host.TheVariants.{V4}
use Rattle.rb_address.specs.declared.peer.Peer.{Peer}
use Rattle.rb_forward.specs.Forwards.{Unsent as UnsentCall}
use Rattle.rb_model.specs.State.{State, opening}
use Rattle.rb_model.specs.Step.{Event, Output, run}
use Rattle.rb_model.specs.Step.Event.{Bytes, Pending, Closed, Datagram, Unsent, Sent, Forward, Expire}
use Rattle.rb_model.specs.Step.Output.{Opened, Took, IsPending, Done, Replied, Forwarded, Silent, UnsentIs, Ignored, Nothing, Ready, RepliedTo}
use Rattle.rb_model.specs.Calls.{Outcome as said}
use Rattle.rb_model.specs.Sessions.{session}
use Rattle.rb_model.specs.ForwardLaws.{ended_in}
use Rattle.rb_laws.specs.Worked.{listener, loopback, fresh, call2, success_reply, call_by_none}
use Rattle.rb_laws.specs.WorkedConnections.{open_event, null_call, in_one}

-- a SET of program 200001, version 1 on UDP, at port 2049, and its reply
abbrev pub set_event : Event
set_event = Datagram 0 loopback (call2 1 1 (200001 ∷ 1 ∷ 17 ∷ 2049 ∷ []))

abbrev pub was_set : Output
was_set = Replied (success_reply 1 (1 ∷ []))

abbrev pub target : Peer
target = record { host = V4 (127 ∷ 0 ∷ 0 ∷ 1 ∷ []); port = 2049 }

abbrev pub another : Peer
another = record { host = V4 (10 ∷ 0 ∷ 0 ∷ 9 ∷ []); port = 2049 }

-- procedure 0 of version 1 of a program, without arguments: by INDIRECT, and by CALLIT of version 2
abbrev pub indirect : ℕ → ℕ → List ℕ
indirect xid prog = call_by_none xid 100000 4 10 ++ words (prog ∷ 1 ∷ 0 ∷ 0 ∷ [])

abbrev pub callit : ℕ → ℕ → List ℕ
callit xid prog = call_by_none xid 100000 2 5 ++ words (prog ∷ 1 ∷ 0 ∷ 0 ∷ [])

-- an accepted reply with this status, and these words after it
abbrev pub reply_with_status : ℕ → ℕ → List ℕ → List ℕ
reply_with_status xid stat more = words (xid ∷ 1 ∷ 0 ∷ 0 ∷ 0 ∷ stat ∷ []) ++ words more

-- INDIRECT answers a failure, and CALLIT is silent
abbrev pub ForwardWithoutRow : Type 0
ForwardWithoutRow =
    run fresh (Datagram 0 loopback (indirect 14 200003) ∷ Datagram 0 loopback (callit 14 200003) ∷ [])
    ≡ Replied (reply_with_status 14 1 []) ∷ Silent ∷ []

-- how long each reply to a datagram is
abbrev pub reply_length : Output → ℕ
reply_length (Replied reply) = length reply
reply_length other = 0

-- both are in the statistics then: an item of 36 bytes in the parts of versions 2 and 4
abbrev pub RefusedCallsAreCounted : Type 0
RefusedCallsAreCounted =
    map reply_length (run fresh
    (Datagram 0 loopback (indirect 14 200003) ∷ Datagram 0 loopback (callit 14 200003)
    ∷ Datagram 0 loopback (call_by_none 15 100000 4 12) ∷ []))
    ≡ 24 ∷ 0 ∷ 300 ∷ []

-- the call that is sent
abbrev pub question : UnsentCall
question = record { number = 1; target = target; call = words (1000 ∷ 0 ∷ 2 ∷ 200001 ∷ 1 ∷ 0 ∷ 0 ∷ 0 ∷ 0 ∷ 0 ∷ []) }

-- Replies of another host, or at the deadline, are ignored. The deadline ends it once.
abbrev pub ForwardUntilDeadline : Type 0
ForwardUntilDeadline =
    run fresh
    (set_event ∷ Datagram 1000 loopback (indirect 15 200001) ∷ Unsent ∷ Forward 1000 target (success_reply 1000 []) ∷ Sent 1
    ∷ Forward 2000 another (success_reply 1000 []) ∷ Forward 2000 target (success_reply 1001 []) ∷ Forward 6000 target (success_reply 1000 [])
    ∷ Expire 6000 ∷ Expire 6000 ∷ Unsent ∷ [])
    ≡ was_set ∷ Forwarded ∷ UnsentIs (Some question) ∷ Ignored ∷ Done ∷ Ignored ∷ Ignored ∷ Ignored
    ∷ RepliedTo loopback (reply_with_status 15 5 []) ∷ Nothing ∷ UnsentIs None ∷ []

-- what a caller is told if its target says this one millisecond before the deadline
abbrev pub outputs_when_said : List ℕ → List ℕ → List Output
outputs_when_said call message = run fresh (set_event ∷ Datagram 1000 loopback call ∷ Sent 1 ∷ Forward 5999 target message ∷ [])

abbrev pub Tells : List ℕ → List ℕ → Output → Type 0
Tells call message told = outputs_when_said call message ≡ was_set ∷ Forwarded ∷ Done ∷ told ∷ []

-- the universal address 192.0.2.1.8.1, and no results
abbrev pub IndirectPasses : Type 0
IndirectPasses =
    Tells (indirect 15 200001) (success_reply 1000 [])
    (RepliedTo loopback (success_reply 15 (13 ∷ 0x3139322e ∷ 0x302e322e ∷ 0x312e382e ∷ 0x31000000 ∷ 0 ∷ [])))

-- the port, and no results
abbrev pub CallitPasses : Type 0
CallitPasses = Tells (callit 15 200001) (success_reply 1000 []) (RepliedTo loopback (success_reply 15 (2049 ∷ 0 ∷ [])))

-- a status of the target is itself the outcome, with its lowest and highest version
abbrev pub TargetRefuses : Type 0
TargetRefuses = Tells (indirect 15 200001) (reply_with_status 1000 2 (3 ∷ 4 ∷ [])) (RepliedTo loopback (reply_with_status 15 2 (3 ∷ 4 ∷ [])))

abbrev pub DeniedIsSystemErr : Type 0
DeniedIsSystemErr = Tells (indirect 15 200001) (words (1000 ∷ 1 ∷ 1 ∷ 0 ∷ 2 ∷ 2 ∷ [])) (RepliedTo loopback (reply_with_status 15 5 []))

abbrev pub CallitIsSilent : Type 0
CallitIsSilent = Tells (callit 15 200001) (reply_with_status 1000 1 []) Silent

-- 8,800 bytes of results pass, and 8,804 do not
abbrev pub GreatestResults : Type 0
GreatestResults =
    Tells (callit 15 200001) (success_reply 1000 [] ++ replicate 8800 7) (RepliedTo loopback (success_reply 15 (2049 ∷ 8800 ∷ []) ++ replicate 8800 7))
    × Tells (indirect 15 200001) (success_reply 1000 [] ++ replicate 8804 7) (RepliedTo loopback (reply_with_status 15 5 []))

-- without a place for an entry
abbrev pub with_none : State
with_none = opening (record { conns = 4; rows = 300; forwards = 0 }) listener 1000 0

abbrev pub NoPlace : Type 0
NoPlace =
    run with_none (set_event ∷ Datagram 0 loopback (indirect 2 200001) ∷ Datagram 0 loopback (callit 3 200001) ∷ Unsent ∷ [])
    ≡ was_set ∷ Replied (reply_with_status 2 5 []) ∷ Silent ∷ UnsentIs None ∷ []

-- a CALLIT with this many bytes of arguments, and this many after them
abbrev pub with_args : ℕ → ℕ → List ℕ
with_args count pad = call_by_none 18 100000 2 5 ++ words (200001 ∷ 1 ∷ 0 ∷ count ∷ []) ++ replicate count 7 ++ replicate pad 0

-- 8,800 bytes of arguments are forwarded, and 8,801 are garbage
abbrev pub GreatestArguments : Type 0
GreatestArguments =
    run fresh (set_event ∷ Datagram 0 loopback (with_args 8800 0) ∷ Unsent ∷ Datagram 0 loopback (with_args 8801 3) ∷ [])
    ≡ was_set ∷ Forwarded ∷ UnsentIs (Some (record question { call = question.call ++ replicate 8800 7 })) ∷ Replied (reply_with_status 18 4 []) ∷ []

-- ---- on a connection

-- one that is refused at once stays without a reply, and the next record is taken
abbrev pub SilentOnTcp : Type 0
SilentOnTcp =
    run fresh (open_event ∷ Bytes 0 1 (in_one (callit 1 200003)) ∷ Pending 1 ∷ Bytes 0 1 (in_one (null_call 1)) ∷ [])
    ≡ Opened 1 ∷ Took 60 ∷ IsPending [] ∷ Took 44 ∷ []

abbrev pub asks_on_one : List Event
asks_on_one = set_event ∷ open_event ∷ Bytes 1000 1 (in_one (indirect 15 200001)) ∷ []

abbrev pub asked_on_one : List Output
asked_on_one = was_set ∷ Opened 1 ∷ Took 60 ∷ []

abbrev pub passed_reply : List ℕ
passed_reply = success_reply 15 (13 ∷ 0x3139322e ∷ 0x302e322e ∷ 0x312e382e ∷ 0x31000000 ∷ 0 ∷ [])

-- nothing is taken while the reply is awaited, and then it is owed
abbrev pub ForwardPassesOnTcp : Type 0
ForwardPassesOnTcp =
    run fresh
    (asks_on_one ++ Pending 1 ∷ Bytes 1000 1 (in_one (null_call 2)) ∷ Sent 1 ∷ Forward 5999 target (success_reply 1000 []) ∷ Pending 1 ∷ [])
    ≡ asked_on_one ++ IsPending [] ∷ Took 0 ∷ Done ∷ Ready 1 ∷ IsPending (words (0x80000030 ∷ []) ++ passed_reply) ∷ []

-- what passed on the connection then
abbrev pub ForwardOnTcpIsWhole : Type 0
ForwardOnTcpIsWhole =
    session fresh 1 (asks_on_one ++ Sent 1 ∷ Forward 5999 target (success_reply 1000 []) ∷ [])
    ≡ record {
      taken = in_one (indirect 15 200001);
      given = [];
      unfinished = [];
      calls = record { content = indirect 15 200001; said = said.Reply passed_reply None } ∷ [];
    }

-- A later connection never gets the reply to a call of a closed one.
abbrev pub ClosedCallerIsDropped : Type 0
ClosedCallerIsDropped =
    run fresh (asks_on_one ++ Sent 1 ∷ Closed 1 ∷ open_event ∷ Forward 5999 target (success_reply 1000 []) ∷ Pending 2 ∷ [])
    ≡ asked_on_one ++ Done ∷ Done ∷ Opened 2 ∷ Ignored ∷ IsPending [] ∷ []

-- Three calls are forwarded: the second ends by its reply, the first with its connection, and the third at its deadline.
abbrev pub EachEndsInTurn : Type 0
EachEndsInTurn =
    ended_in fresh
    (asks_on_one ++ Datagram 1000 loopback (indirect 16 200001) ∷ Datagram 1000 loopback (indirect 17 200001) ∷ Sent 2
    ∷ Forward 2000 target (success_reply 1001 []) ∷ Closed 1 ∷ Expire 6000 ∷ Expire 6000 ∷ [])
    ≡ 2 ∷ 1 ∷ 3 ∷ []
