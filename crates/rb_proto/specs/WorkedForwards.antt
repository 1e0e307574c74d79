-- Worked examples of forwarded calls. The listener, the callers and the calls are those of the other worked examples.
use Rattle.std.specs.Prelude.{◌≡◌, ℕ, true, false, List, [], ◌∷◌, ◌++◌, length, replicate, Option, Some, None, Result, Ok, Err, codes}
use Rattle.rb_xdr.specs.Xdr.{words, opaque}
use Rattle.rb_address.specs.declared.host.Host.TheVariants.{V4}
use Rattle.rb_address.specs.declared.peer.Peer.{Peer}
use Rattle.rb_address.specs.declared.caller.Caller.{Caller}
use Rattle.rb_address.specs.declared.caller.Caller.TheVariants.{Tcp, Udp}
use Rattle.rb_rpc.specs.declared.call.Credential.TheVariants as credentials
use Rattle.rb_rpc.specs.declared.reply.ReplyStatus.TheVariants as replies
use Rattle.rb_address.specs.declared.netid.Netid.TheVariants as netids
use Rattle.rb_registry.specs.Rows.{rpcb_prog}
use Rattle.rb_stats.specs.declared.key.Version.TheVariants as versions
use Rattle.rb_stats.specs.Statistics.{Note}
use Rattle.rb_stats.specs.Statistics.Note.{Forwarded}
use Rattle.rb_forward.specs.declared.types.Forward.{Forward}
use Rattle.rb_arguments.specs.declared.kind.Kind.{Kind}
use Rattle.rb_arguments.specs.declared.kind.Kind.TheVariants.{Callit2, Callit3, Bcast, Indirect}
use Rattle.rb_forward.specs.declared.types.Ended.{Ended}
use Rattle.rb_forward.specs.declared.types.ForwardEnd.{ForwardEnd}
use Rattle.rb_forward.specs.declared.types.ForwardEnd.TheVariants as outcomes
use Rattle.rb_forward.specs.Forwards.{no_forwards, with_next_entry}
use Rattle.rb_answers.specs.declared.answers.Answer.TheVariants as answers
use Rattle.rb_arguments.specs.declared.request.ArgumentFault.{ArgumentFault}
use Rattle.rb_arguments.specs.declared.request.Request.{Request}
use Rattle.rb_arguments.specs.Arguments.{read_request}
use Rattle.rb_answers.specs.Callers.{own_rows}
use Rattle.rb_answers.specs.Ledger.{Ledger, fresh_ledger, with_note}
use Rattle.rb_answers.specs.declared.answers.Answer.{Answer}
use Rattle.rb_answers.specs.Answers.{answer}
use Rattle.rb_answers.specs.Forwarding.{target_replied, fell_due, caller_dropped, call_sent, forwarded_bytes}
use Rattle.rb_proto.specs.Worked.{Message, listener, listener_host, loopback, who_at, call, call_with, context_of, call_of, outcome, results_behind, says, rpcb_args}

-- ---- calls

abbrev pub fresh : Ledger
fresh = fresh_ledger (own_rows listener)

-- the ledger that calls leave, one after another
abbrev pub left_by : Ledger → List Message → Ledger
left_by l [] = l
left_by l (m ∷ later) = left_by (outcome 300 m l (read_request m.vers m.proc m.args)).1 later

abbrev pub answer_of : ℕ → Message → Ledger → Result Request ArgumentFault → Option (Answer × Ledger)
answer_of places m l (Ok request) = Some (answer (record (context_of 300 m) { forwards = places }) (call_of m request) m.args l)
answer_of places m l (Err fault) = None

-- what a call is answered if this many calls may be forwarded at a time, and what it leaves
abbrev pub answer_to : ℕ → Message → Ledger → Option (Answer × Ledger)
answer_to places m l = answer_of places m l (read_request m.vers m.proc m.args)

-- calls of procedure 0 of a program's version, without arguments
abbrev pub indirect : ℕ → ℕ → Message
indirect prog vers = call 4 10 (prog ∷ vers ∷ 0 ∷ 0 ∷ [])

abbrev pub callit : ℕ → ℕ → Message
callit prog vers = call 2 5 (prog ∷ vers ∷ 0 ∷ 0 ∷ [])

-- (200001, 1) on udp, at port 2049 of every host
abbrev pub one_registered : Ledger
one_registered = left_by fresh (call 2 1 (200001 ∷ 1 ∷ 17 ∷ 2049 ∷ []) ∷ [])

-- the notes of an INDIRECT and of a CALLIT that fail
abbrev pub indirect_failed : ℕ → ℕ → Note
indirect_failed prog vers = Forwarded versions.Four (record { prog = prog; vers = vers; netid = netids.Udp }) 0 false true

abbrev pub callit_failed : ℕ → ℕ → Note
callit_failed prog vers = Forwarded versions.Two (record { prog = prog; vers = vers; netid = netids.Udp }) 0 false false

-- if this many calls may be forwarded, the INDIRECT is refused in this way, and the CALLIT is silent
abbrev pub IsRefused : ℕ → ℕ → ℕ → Answer → Ledger → Type 0
IsRefused places prog vers refused l =
    (answer_to places (indirect prog vers) l ≡ Some (refused, with_note (indirect_failed prog vers) l))
    × (answer_to places (callit prog vers) l ≡ Some (answers.Silent, with_note (callit_failed prog vers) l))

-- ---- what is refused

abbrev pub WithoutRow : Type 0
WithoutRow = IsRefused 4 200003 1 (answers.Refused replies.ProgUnavail) one_registered

-- a row of another version, or of tcp, is none
abbrev pub WithOtherRows : Type 0
WithOtherRows =
    IsRefused 4 200001 2 (answers.Refused replies.ProgUnavail) one_registered
    × IsRefused 4 200001 1 (answers.Refused replies.ProgUnavail) (left_by fresh (call 2 1 (200001 ∷ 1 ∷ 6 ∷ 2049 ∷ []) ∷ []))

-- the portmapper's own rows are not forwarded to
abbrev pub PortmapperIsNotCalled : Type 0
PortmapperIsNotCalled = IsRefused 4 rpcb_prog 4 (answers.Refused replies.ProgUnavail) one_registered

-- no place for a forwarded call; a missing row comes first
abbrev pub TableIsFull : Type 0
TableIsFull =
    IsRefused 0 200001 1 (answers.Refused replies.SystemErr) one_registered
    × IsRefused 0 200003 1 (answers.Refused replies.ProgUnavail) one_registered

-- GETSTAT after an INDIRECT and a CALLIT without a row
abbrev pub FailuresAreCounted : Type 0
FailuresAreCounted =
    results_behind 2 (indirect 200003 1 ∷ callit 200003 1 ∷ call 4 12 [] ∷ [])
    ≡ says (
    replicate 5 0 ++ 1 ∷ replicate 10 0 ++ 1 ∷ 0x30d43 ∷ 1 ∷ 0 ∷ 0 ∷ 1 ∷ 0 ∷ 3 ∷ 0x75647000 ∷ 0 ∷ []
    ++ replicate 17 0
    ++ replicate 10 0 ++ 1 ∷ 0 ∷ 1 ∷ replicate 3 0 ++ 1 ∷ 0x30d43 ∷ 1 ∷ 0 ∷ 0 ∷ 1 ∷ 1 ∷ 3 ∷ 0x75647000 ∷ 0 ∷ []) ∷ []

-- ---- what is forwarded

abbrev pub at_host : List ℕ → Peer
at_host host = record { host = V4 host; port = 2049 }

-- that call, with these hosts
abbrev pub forward_at : Kind → Caller → List ℕ → List ℕ → Forward
forward_at kind caller target shown = record {
  caller = caller;
  xid = 1;
  kind = kind;
  target = at_host target;
  shown = at_host shown;
  prog = 200001;
  vers = 1;
  proc = 0;
}

-- the call comes at this moment
abbrev pub at_moment : ℕ → Message → Message
at_moment clock m = record m { clock = clock }

-- the call goes to 127.0.0.1 in place of 0.0.0.0, and the listener's host is shown; nothing is noted
abbrev pub AnyHostIsThisMachine : Type 0
AnyHostIsThisMachine =
    let m : Message = at_moment 1000 (indirect 200001 1) in
    answer_to 4 m one_registered
    ≡ Some (
      answers.Forwarded,
      record one_registered { forwards = with_next_entry 1000 (forward_at Indirect m.caller loopback listener_host) [] no_forwards },
    )

-- (200001, 1) on udp, at 10.0.0.5
abbrev pub elsewhere : Ledger
elsewhere = left_by fresh (call_with credentials.None 4 1 (rpcb_args 200001 1 (codes "udp") (codes "10.0.0.5.8.1")) ∷ [])

-- any other host is called and shown; the content of args is passed on, and bytes after it count for nothing
abbrev pub OtherHostsStay : Type 0
OtherHostsStay =
    let m : Message = call 4 5 (200001 ∷ 1 ∷ 0 ∷ 4 ∷ 7 ∷ 9 ∷ []) in
    answer_to 4 m elsewhere
    ≡ Some (
      answers.Forwarded,
      record elsewhere { forwards = with_next_entry 0 (forward_at Bcast m.caller (10 ∷ 0 ∷ 0 ∷ 5 ∷ []) (10 ∷ 0 ∷ 0 ∷ 5 ∷ [])) (words (7 ∷ [])) no_forwards },
    )

-- ---- how it ends

-- a call of this kind that waits, in a ledger without notes
abbrev pub one_sent : Kind → Caller → Ledger
one_sent kind caller =
    call_sent 1 (record fresh { forwards = with_next_entry 1000 (forward_at kind caller loopback listener_host) [] no_forwards })

-- the entry ended so, and this was noted
abbrev pub EndsWithNote : Kind → Caller → ForwardEnd → Note → Option Ended × Ledger → Type 0
EndsWithNote kind caller outcome note given =
    given ≡ (
      Some (record { id = record { number = 1 }; forward = forward_at kind caller loopback listener_host; outcome = outcome }),
      record fresh { history = note ∷ []; forwards = record { next = 2; all = [] } },
    )

abbrev pub by_datagram : Caller
by_datagram = Udp (who_at loopback) 9000

abbrev pub by_connection : Caller
by_connection = Tcp 3 (who_at loopback)

-- an accepted reply by the target, at moment 2000, without results
abbrev pub target_said : List ℕ → Ledger → Option Ended × Ledger
target_said numbers l = target_replied 1000 2000 (at_host loopback) (words (1000 ∷ 1 ∷ 0 ∷ 0 ∷ 0 ∷ numbers)) l

abbrev pub EndsAreNoted : Type 0
EndsAreNoted =
    EndsWithNote Indirect by_datagram (outcomes.Passed 24)
    (Forwarded versions.Four (record { prog = 200001; vers = 1; netid = netids.Udp }) 0 true true)
    (target_said (0 ∷ []) (one_sent Indirect by_datagram))
    × EndsWithNote Callit3 by_connection (outcomes.Passed 24)
    (Forwarded versions.Three (record { prog = 200001; vers = 1; netid = netids.Tcp }) 0 true false)
    (target_said (0 ∷ []) (one_sent Callit3 by_connection))
    × EndsWithNote Bcast by_datagram (outcomes.Refused replies.ProcUnavail)
    (Forwarded versions.Four (record { prog = 200001; vers = 1; netid = netids.Udp }) 0 false false)
    (target_said (3 ∷ []) (one_sent Bcast by_datagram))
    × EndsWithNote Callit2 by_datagram outcomes.Failed (callit_failed 200001 1) (fell_due 6000 (one_sent Callit2 by_datagram))
    × EndsWithNote Callit2 by_connection outcomes.Dropped
    (Forwarded versions.Two (record { prog = 200001; vers = 1; netid = netids.Tcp }) 0 false false)
    (caller_dropped 3 (one_sent Callit2 by_connection))

-- what does not end a call is not noted
abbrev pub OthersAreNotNoted : Type 0
OthersAreNotNoted =
    let l : Ledger = one_sent Indirect by_datagram in
    (fell_due 5999 l ≡ (None, l)) × (caller_dropped 3 l ≡ (None, l))
    × (target_replied 1000 2000 (at_host listener_host) (words (1000 ∷ 1 ∷ 0 ∷ 0 ∷ 0 ∷ 0 ∷ [])) l ≡ (None, l))

-- ---- results that passed

-- version 2 shows the port, the others the universal address
abbrev pub PlacesAreShown : Type 0
PlacesAreShown =
    let bytes_of : Kind → List ℕ → List ℕ = λ kind results. forwarded_bytes (forward_at kind by_datagram loopback listener_host) results in
    (bytes_of Callit2 [] ≡ words (2049 ∷ 0 ∷ []))
    × (bytes_of Indirect [] ≡ opaque (codes "192.0.2.1.8.1") ++ words (0 ∷ []))
    × (bytes_of Bcast (1 ∷ 2 ∷ []) ≡ opaque (codes "192.0.2.1.8.1") ++ words (2 ∷ 0x1020000 ∷ []))
    × (length (bytes_of Callit3 (replicate 8800 7)) ≡ 8824)
