-- Worked examples: what strangers are told and counted for, and for whom and to what other calls are made, if the terms
-- of the listener hold them back; and whose events are.
use Rattle.std.specs.Prelude.{◌≡◌, ℕ, false, true, List, [], ◌∷◌, ◌++◌, map, replicate, codes, Option, Some, None}
use Rattle.rb_xdr.specs.Xdr.{words}
use Rattle.rb_address.specs.declared.host.Host.TheVariants.{V4}
use Rattle.rb_address.specs.declared.netid.Netid.TheVariants as netids
use Rattle.rb_address.specs.declared.who.Trust.TheVariants.{Stranger}
use Rattle.rb_address.specs.declared.who.Who.{Who}
use Rattle.rb_stats.specs.declared.key.Version.TheVariants.{Two, Four}
use Rattle.rb_stats.specs.Statistics.Note.{Called, WasSet, LookedUp}
use Rattle.rb_answers.specs.declared.listener.Forwarding.{Forwarding}
use Rattle.rb_answers.specs.declared.listener.Forwarding.TheVariants.{ForAll, ForLocal}
use Rattle.rb_model.specs.State.{State, opening}
use Rattle.rb_model.specs.Step.{Event, Output, step, run}
use Rattle.rb_model.specs.Step.Event.{Open, Closed, NextLost, Datagram, Unsent, Sent, Forward, Expire}
use Rattle.rb_model.specs.Step.Output.{Done, Replied, Forwarded, RepliedTo}
use Rattle.rb_model.specs.HistoryLaws.{history_by}
use Rattle.rb_model.specs.OutsiderCosts.{caller_of}
use Rattle.rb_laws.specs.Worked.{who_at, listener, loopback, call2, call_by_none, success_reply}
use Rattle.rb_laws.specs.WorkedConnections.{limits}
use Rattle.rb_laws.specs.WorkedForwards.{set_event, was_set, target, indirect, reply_with_status, reply_length, passed_reply}
use Rattle.rb_laws.specs.WorkedCallers.{getaddr, told}

-- the reply to a datagram of a stranger's has at most twice its bytes, and other calls are made so
abbrev pub held : Forwarding → State
held forwarding =
    opening (limits 4 300 4) (record listener { terms = record { long_replies = false; forwarding = forwarding } }) 1000 0

-- a stranger at 198.51.100.7
abbrev pub stranger : Who
stranger = record (who_at (record { host = V4 (198 ∷ 51 ∷ 100 ∷ 7 ∷ []); port = 900 })) { trust = Stranger }

-- ---- replies

-- what fits is told
abbrev pub StrangersLookUp : Type 0
StrangersLookUp =
    run (held ForLocal) (set_event ∷ Datagram 0 stranger getaddr ∷ [])
    ≡ was_set ∷ Replied (told 13 (codes "192.0.2.1.8.1" ++ 0 ∷ 0 ∷ 0 ∷ [])) ∷ []

-- a DUMP of version 2: 40 bytes
abbrev pub dump : List ℕ
dump = call2 5 4 []

-- the reply with six own rows has 148 bytes, which is more than 80: a stranger's is SYSTEM_ERR, and a caller of this
-- machine gets it
abbrev pub StrangersGetNoLists : Type 0
StrangersGetNoLists =
    (run (held ForLocal) (Datagram 0 stranger dump ∷ []) ≡ Replied (reply_with_status 5 5 []) ∷ [])
    × (map reply_length (run (held ForLocal) (Datagram 0 loopback dump ∷ [])) ≡ 148 ∷ [])

-- ---- statistics

-- a GETPORT of a version of a program on UDP
abbrev pub getport : ℕ → ℕ → Event
getport prog vers = Datagram 0 stranger (call2 2 3 (prog ∷ vers ∷ 17 ∷ 0 ∷ []))

-- of look-ups of a program that is not registered, of another version, and of a registered one, the last counts
abbrev pub StrangersCountForRows : Type 0
StrangersCountForRows =
    history_by (held ForLocal) (set_event ∷ getport 200003 1 ∷ getport 200001 9 ∷ getport 200001 1 ∷ [])
    ≡ Called Two 1 ∷ WasSet Two ∷ Called Two 3 ∷ Called Two 3
    ∷ Called Two 3 ∷ LookedUp Two (record { prog = 200001; vers = 1; netid = netids.Udp }) true ∷ []

-- ---- other calls

-- one is made for a caller of this machine, and not for a stranger, whose call counts as called alone
abbrev pub both_ask : List Event
both_ask = set_event ∷ Datagram 1000 stranger (indirect 15 200001) ∷ Datagram 1000 loopback (indirect 15 200001) ∷ []

abbrev pub MadeForThisMachine : Type 0
MadeForThisMachine =
    (run (held ForLocal) both_ask ≡ was_set ∷ Replied (reply_with_status 15 1 []) ∷ Forwarded ∷ [])
    × (history_by (held ForLocal) both_ask ≡ Called Two 1 ∷ WasSet Two ∷ Called Four 10 ∷ Called Four 10 ∷ [])

-- a SET of program 200002, version 1 on udp, at 192.0.2.9.8.1
abbrev pub set_afar : Event
set_afar =
    Datagram 0 loopback
    (call_by_none 1 100000 4 1 ++ words (200002 ∷ 1 ∷ 3 ∷ []) ++ codes "udp"
    ++ 0 ∷ words (13 ∷ []) ++ codes "192.0.2.9.8.1" ++ 0 ∷ 0 ∷ 0 ∷ words (0 ∷ []))

-- none is made to another host
abbrev pub MadeToThisHost : Type 0
MadeToThisHost =
    run (held ForLocal) (set_afar ∷ Datagram 1000 loopback (indirect 15 200002) ∷ [])
    ≡ was_set ∷ Replied (reply_with_status 15 1 []) ∷ []

-- an INDIRECT of a procedure of mountd
abbrev pub of_mountd : ℕ → Event
of_mountd proc = Datagram 1000 loopback (call_by_none 15 100000 4 10 ++ words (100005 ∷ 1 ∷ proc ∷ 0 ∷ []))

-- procedure 0 of mountd is called, and procedure 1 is not, which mounts for the host that calls
abbrev pub MountdIsNotAsked : Type 0
MountdIsNotAsked =
    run (held ForLocal) (Datagram 0 loopback (call2 1 1 (100005 ∷ 1 ∷ 17 ∷ 2049 ∷ [])) ∷ of_mountd 1 ∷ of_mountd 0 ∷ [])
    ≡ was_set ∷ Replied (reply_with_status 15 1 []) ∷ Forwarded ∷ []

-- what a stranger is told at the end of its call of 56 bytes, if other calls are made for all and this one has this
-- many bytes of results
abbrev pub ends_with : ℕ → List Output
ends_with count =
    run (held ForAll)
    (set_event ∷ Datagram 1000 stranger (indirect 15 200001) ∷ Sent 1
    ∷ Forward 2000 target (success_reply 1000 [] ++ replicate count 7) ∷ [])

abbrev pub StrangersAreToldShortly : Type 0
StrangersAreToldShortly =
    (ends_with 0 ≡ was_set ∷ Forwarded ∷ Done ∷ RepliedTo stranger passed_reply ∷ [])
    × (ends_with 400 ≡ was_set ∷ Forwarded ∷ Done ∷ RepliedTo stranger (reply_with_status 15 5 []) ∷ [])

-- ---- whose events are

abbrev pub callers_along : State → List Event → List (Option Who)
callers_along s [] = []
callers_along s (event ∷ events) = caller_of s event ∷ callers_along (step s event).1 events

-- The look at a stranger's call, its sending and its end are the stranger's; a second answer is nobody's.
abbrev pub LaterEventsAreTheirs : Type 0
LaterEventsAreTheirs =
    callers_along (held ForAll)
    (set_event ∷ Datagram 1000 stranger (indirect 15 200001) ∷ Unsent ∷ Sent 1
    ∷ Forward 2000 target (success_reply 1000 []) ∷ Forward 2000 target (success_reply 1000 []) ∷ [])
    ≡ Some loopback ∷ Some stranger ∷ Some stranger ∷ Some stranger ∷ Some stranger ∷ None ∷ []

-- At deadlines calls end first, each for its caller. The Lost connection, the look at it and its close are the stranger's.
abbrev pub DeadlinesAreTheirs : Type 0
DeadlinesAreTheirs =
    callers_along (held ForAll)
    (set_event ∷ Open 0 stranger ∷ Datagram 1000 loopback (indirect 15 200001) ∷ Expire 300000 ∷ Expire 300000
    ∷ NextLost ∷ Closed 1 ∷ Expire 300000 ∷ [])
    ≡ Some loopback ∷ Some stranger ∷ Some loopback ∷ Some loopback ∷ Some stranger
    ∷ Some stranger ∷ Some stranger ∷ None ∷ []
