-- Worked examples: forwarded calls, and how they end.
use Rattle.std.specs.Prelude.{◌≡◌, ℕ, ◌-◌, ◌^◌, true, false, List, [], ◌∷◌, ◌++◌, take, replicate, Option, Some, None}
use Rattle.rb_xdr.specs.Xdr.{words}
use Rattle.rb_address.specs.declared.host.Host.TheVariants.{V4}
use Rattle.rb_address.specs.declared.peer.Peer.{Peer}
use Rattle.rb_address.specs.declared.who.Who.{Who}
use Rattle.rb_address.specs.declared.who.Source.TheVariants.{Inet}
use Rattle.rb_address.specs.declared.who.Trust.TheVariants.{Claims}
use Rattle.rb_address.specs.declared.caller.Caller.{Caller}
use Rattle.rb_address.specs.declared.caller.Caller.TheVariants.{Tcp, Udp}
use Rattle.rb_rpc.specs.declared.reply.ReplyStatus.TheVariants as replies
use Rattle.rb_forward.specs.declared.types.Forward.{Forward}
use Rattle.rb_arguments.specs.declared.kind.Kind.TheVariants.{Indirect}
use Rattle.rb_forward.specs.declared.types.Ended.{Ended}
use Rattle.rb_forward.specs.declared.types.ForwardEnd.{ForwardEnd}
use Rattle.rb_forward.specs.declared.types.ForwardEnd.TheVariants.{Passed, Refused, Failed, Dropped}
use Rattle.rb_forward.specs.Forwards.{Forwards, no_forwards, can_start, with_next_entry, can_be_sent, sent, unsent, reply, due, drop_caller, xid_of, held}

abbrev pub at_host : List ℕ → ℕ → Peer
at_host host port = record { host = V4 host; port = port }

abbrev pub loopback : List ℕ
loopback = 127 ∷ 0 ∷ 0 ∷ 1 ∷ []

-- a caller at a port of this machine
abbrev pub who_at : ℕ → Who
who_at port = record { source = Inet (at_host loopback port); asked = V4 loopback; trust = Claims }

abbrev pub target : Peer
target = at_host loopback 2049

-- INDIRECT of procedure 0 of program 200001, version 1, by xid 15
abbrev pub indirect : Caller → Forward
indirect caller = record {
  caller = caller;
  xid = 15;
  kind = Indirect;
  target = target;
  shown = at_host (192 ∷ 0 ∷ 2 ∷ 1 ∷ []) 2049;
  prog = 200001;
  vers = 1;
  proc = 0;
}

abbrev pub by_datagram : Caller
by_datagram = Udp (who_at 900) 9000

-- it comes at moment 1000, without arguments, and is sent
abbrev pub one_unsent : Caller → Forwards
one_unsent caller = with_next_entry 1000 (indirect caller) [] no_forwards

abbrev pub one_sent : Forwards
one_sent = sent 1 (one_unsent by_datagram)

abbrev pub none_left : Forwards
none_left = record { next = 2; all = [] }

-- an accepted reply of this xid, without results
abbrev pub success : ℕ → List ℕ
success xid = words (xid ∷ 1 ∷ 0 ∷ 0 ∷ 0 ∷ 0 ∷ [])

-- the one entry ends so, and at nothing it stays
abbrev pub Ends : ForwardEnd → Option Ended × Forwards → Type 0
Ends outcome given = given ≡ (Some (record { id = record { number = 1 }; forward = indirect by_datagram; outcome = outcome }), none_left)

abbrev pub Stays : Forwards → Option Ended × Forwards → Type 0
Stays f given = given ≡ (None, f)

-- the datagram comes from the target at moment 2000
abbrev pub said_by_target : List ℕ → Option Ended × Forwards
said_by_target message = reply 1000 2000 target message one_sent

-- ---- the call

abbrev pub IsAsked : Type 0
IsAsked = unsent 1000 (one_unsent by_datagram)
    ≡ Some (record { number = 1; target = target; call = words (0x3e8 ∷ 0 ∷ 2 ∷ 0x30d41 ∷ 1 ∷ 0 ∷ 0 ∷ 0 ∷ 0 ∷ 0 ∷ []) })

abbrev pub ArgumentsFollow : Type 0
ArgumentsFollow = unsent 1000 (with_next_entry 1000 (indirect by_datagram) (replicate 8800 7) no_forwards)
    ≡ Some (record {
      number = 1;
      target = target;
      call = words (0x3e8 ∷ 0 ∷ 2 ∷ 0x30d41 ∷ 1 ∷ 0 ∷ 0 ∷ 0 ∷ 0 ∷ 0 ∷ []) ++ replicate 8800 7;
    })

-- it is sent once, and then lent no more
abbrev pub SentOnce : Type 0
SentOnce = (can_be_sent 1 (one_unsent by_datagram) ≡ true) × (can_be_sent 2 (one_unsent by_datagram) ≡ false)
    × (can_be_sent 1 one_sent ≡ false) × (unsent 1000 one_sent ≡ None)

-- the xid after the greatest is 0
abbrev pub XidsWrap : Type 0
XidsWrap = (xid_of (2 ^ 32 - 1) 1 ≡ 2 ^ 32 - 1) × (xid_of (2 ^ 32 - 1) 2 ≡ 0)

-- one entry takes the only place
abbrev pub OnePlace : Type 0
OnePlace = (can_start 1 no_forwards ≡ true) × (can_start 1 one_sent ≡ false) × (can_start 1 none_left ≡ true)

-- no number is left
abbrev pub NumbersAreSpent : Type 0
NumbersAreSpent = can_start 1 (record { next = 2 ^ 64; all = [] }) ≡ false

-- ---- what does not count

abbrev pub OtherHost : Type 0
OtherHost = Stays one_sent (reply 1000 2000 (at_host (10 ∷ 0 ∷ 0 ∷ 9 ∷ []) 2049) (success 1000) one_sent)

abbrev pub OtherPort : Type 0
OtherPort = Stays one_sent (reply 1000 2000 (at_host loopback 2050) (success 1000) one_sent)

abbrev pub OtherXid : Type 0
OtherXid = Stays one_sent (said_by_target (success 1001))

abbrev pub ThreeBytes : Type 0
ThreeBytes = Stays one_sent (said_by_target (take 3 (success 1000)))

abbrev pub BeforeItIsSent : Type 0
BeforeItIsSent = Stays (one_unsent by_datagram) (reply 1000 2000 target (success 1000) (one_unsent by_datagram))

abbrev pub AtTheDeadline : Type 0
AtTheDeadline = Stays one_sent (reply 1000 6000 target (success 1000) one_sent)

-- ---- how it ends

abbrev pub InTime : Type 0
InTime = Ends (Passed 24) (reply 1000 5999 target (success 1000) one_sent)

abbrev pub EndsAtTheDeadline : Type 0
EndsAtTheDeadline = Stays one_sent (due 5999 one_sent) × Ends Failed (due 6000 one_sent) × Stays none_left (due 6000 none_left)

abbrev pub TargetRefuses : Type 0
TargetRefuses = Ends (Refused (replies.ProgMismatch 3 4)) (said_by_target (words (0x3e8 ∷ 1 ∷ 0 ∷ 0 ∷ 0 ∷ 2 ∷ 3 ∷ 4 ∷ [])))

abbrev pub TargetDenies : Type 0
TargetDenies = Ends Failed (said_by_target (words (0x3e8 ∷ 1 ∷ 1 ∷ 0 ∷ 2 ∷ 2 ∷ [])))

abbrev pub FourBytes : Type 0
FourBytes = Ends Failed (said_by_target (take 4 (success 1000)))

abbrev pub LongResultsPass : Type 0
LongResultsPass = Ends (Passed 24) (said_by_target (success 1000 ++ replicate 8800 7))

abbrev pub LongerResultsFail : Type 0
LongerResultsFail = Ends Failed (said_by_target (success 1000 ++ replicate 8804 7))

-- the caller of connection 3 goes away
abbrev pub CallerGoesAway : Type 0
CallerGoesAway =
    let caller = Tcp 3 (who_at 900) in
    Stays (one_unsent caller) (drop_caller 4 (one_unsent caller))
    × (drop_caller 3 (one_unsent caller) ≡ (Some (record { id = record { number = 1 }; forward = indirect caller; outcome = Dropped }), none_left))

-- an unsent call counts with its bytes, a sent one without
abbrev pub WhatIsHeld : Type 0
WhatIsHeld = (held 1000 (one_unsent by_datagram) ≡ 168) × (held 1000 one_sent ≡ 128) × (held 1000 none_left ≡ 0)
