-- Calls that are forwarded: where to, what their callers are told, and what is noted (RFC 1833 sections 2.2.1 and 3.2).
use Rattle.std.specs.Prelude.{ℕ, ◌==◌, Bool, true, false, if◌then◌else◌, List, [], ◌∷◌, ◌++◌, replicate, Option, Some, None, option_and_then}
use Rattle.rb_xdr.specs.Xdr.{number, opaque}
use Rattle.rb_address.specs.declared.caller.Caller.{Caller}
use Rattle.rb_address.specs.declared.host.Host.{Host}
use Rattle.rb_address.specs.declared.host.Host.TheVariants as hosts
use Rattle.rb_address.specs.declared.netid.Netid.{Netid}
use Rattle.rb_address.specs.declared.netid.Transport.TheVariants as transports
use Rattle.rb_address.specs.declared.who.Source.{Source}
use Rattle.rb_address.specs.declared.who.Source.TheVariants as sources
use Rattle.rb_address.specs.Hosts.{family_of}
use Rattle.rb_address.specs.Netids.{netid_on}
use Rattle.rb_address.specs.Peers.{peer_at}
use Rattle.rb_address.specs.declared.peer.Peer.{Peer}
use Rattle.rb_rpc.specs.declared.reply.ReplyStatus.{ReplyStatus}
use Rattle.rb_rpc.specs.declared.reply.ReplyStatus.TheVariants as replies
use Rattle.rb_uaddr.specs.declared.address.Hosts.{Hosts}
use Rattle.rb_uaddr.specs.declared.address.Uaddr.{Uaddr}
use Rattle.rb_uaddr.specs.declared.address.Uaddr.TheVariants.{V4, V6}
use Rattle.rb_uaddr.specs.Uaddr.{text_of, merged_address}
use Rattle.rb_address.specs.declared.netid.Netid.TheVariants as netids
use Rattle.rb_registry.specs.declared.row.Row.{Row}
use Rattle.rb_registry.specs.Rows.{rpcb_prog, find_exact}
use Rattle.rb_stats.specs.declared.key.Version.{Version}
use Rattle.rb_stats.specs.declared.key.Version.TheVariants as versions
use Rattle.rb_stats.specs.Statistics.{Note}
use Rattle.rb_stats.specs.Statistics.Note.{Forwarded}
use Rattle.rb_arguments.specs.declared.kind.Kind.{Kind}
use Rattle.rb_arguments.specs.declared.kind.Kind.TheVariants.{Callit2, Callit3, Bcast, Indirect}
use Rattle.rb_forward.specs.declared.types.Forward.{Forward}
use Rattle.rb_forward.specs.declared.types.ForwardEnd.{ForwardEnd}
use Rattle.rb_forward.specs.declared.types.ForwardEnd.TheVariants as outcomes
use Rattle.rb_forward.specs.declared.types.Ended.{Ended}
use Rattle.rb_forward.specs.Forwards.{Forwards, reply, due, drop_caller, can_start, with_next_entry, sent}
use Rattle.rb_answers.specs.declared.context.Context.{Context}
use Rattle.rb_arguments.specs.declared.remote.RemoteCall.{RemoteCall}
use Rattle.rb_answers.specs.declared.answers.Answer.{Answer}
use Rattle.rb_answers.specs.declared.answers.Answer.TheVariants as answers
use Rattle.rb_answers.specs.Callers.{who_of, netid_of_caller, hosts_in}
use Rattle.rb_answers.specs.Netids.{address_in}
use Rattle.rb_answers.specs.Ledger.{Ledger, rows_in, note_where, notes_where}
use Rattle.rb_answers.specs.Terms.{may_go, counts_forward}
use Rattle.rb_arguments.specs.Remote.{args_of}

-- ---- what is noted

-- the version that has the procedure
abbrev pub version_of_kind : Kind → Version
version_of_kind Callit2 = versions.Two
version_of_kind Callit3 = versions.Three
version_of_kind Bcast = versions.Four
version_of_kind Indirect = versions.Four

abbrev pub is_indirect : Kind → Bool
is_indirect Callit2 = false
is_indirect Callit3 = false
is_indirect Bcast = false
is_indirect Indirect = true

-- a call of this kind at its outcome, by what it calls and by which netid it came
-- COUNT-5
unfoldable pub outcome_note : Kind → Caller → ℕ → ℕ → ℕ → Bool → Note
outcome_note kind caller prog vers proc passed =
    Forwarded (version_of_kind kind) (record { prog = prog; vers = vers; netid = netid_of_caller caller }) proc passed (is_indirect kind)

-- ---- where a call is forwarded

-- CALLIT-2: The row that CALLIT, BCAST and INDIRECT call is on udp6 for a caller of IPv6, on udp
-- for any other.
abbrev pub netid_to_forward : Source → Netid
netid_to_forward (sources.Inet peer) = netid_on transports.Udp (family_of peer.host)
netid_to_forward sources.Local = netids.Udp

-- the universal address of the row, in the form of its netid's family
abbrev pub address_of_row : Row → Option Uaddr
address_of_row row = address_in row.netid row.addr

-- Where the program's exact version is on this netid. The portmapper itself is not called.
unfoldable pub address_to_forward : Netid → ℕ → ℕ → List Row → Option Uaddr
address_to_forward netid prog vers rows =
    if prog == rpcb_prog then None else option_and_then address_of_row (find_exact prog vers netid rows)

-- every host of the listener is called on this machine
abbrev pub loopbacks : Hosts
loopbacks = record { inet = 127 ∷ 0 ∷ 0 ∷ 1 ∷ []; inet6 = replicate 15 0 ++ 1 ∷ [] }

-- the peer at a universal address; a row at ::ffff:a.b.c.d is called at a.b.c.d, and shown so in the answer
abbrev pub peer_of_address : Uaddr → Peer
peer_of_address (V4 host port) = peer_at (hosts.V4 host) port
peer_of_address (V6 host port) = peer_at (hosts.V6 host) port

abbrev pub uaddr_on : Host → ℕ → Uaddr
uaddr_on (hosts.V4 host) port = V4 host port
uaddr_on (hosts.V6 host) port = V6 host port

-- the universal address of a peer
abbrev pub uaddr_at : Peer → Uaddr
uaddr_at peer = uaddr_on peer.host peer.port

-- of a registered address the plain host, with one of its family in place of every host
abbrev pub merged_peer : Hosts → Uaddr → Peer
merged_peer hosts registered =
    peer_of_address (merged_address hosts (uaddr_at (peer_of_address registered)))

-- CALLIT-3: A forwarded call goes to the row's host and port, to 127.0.0.1 in place of 0.0.0.0 and
-- to ::1 in place of `::`. A host in IPv6's form is first the plain one.
-- CALLIT-4: The answer to a forwarded call shows the row's host and port as of the call, with the
-- host that its caller is told in place of 0.0.0.0 or `::`. The plain host comes first here too.
unfoldable pub forward_of : Context → ℕ → Kind → RemoteCall → Uaddr → Forward
forward_of context xid kind remote registered = record {
  caller = context.caller;
  xid = xid;
  kind = kind;
  target = merged_peer loopbacks registered;
  shown = merged_peer (hosts_in context) registered;
  prog = remote.prog;
  vers = remote.vers;
  proc = remote.proc;
}

-- ---- what its caller is told

-- calls to all hosts have to be silent
-- CALLIT-6: If forwarding fails INDIRECT answers with the failure; CALLIT and BCAST are silent.
abbrev pub refusal : Kind → ReplyStatus → Answer
refusal Callit2 status = answers.Silent
refusal Callit3 status = answers.Silent
refusal Bcast status = answers.Silent
refusal Indirect status = answers.Refused status

-- what is refused at once is noted as a failure, if it counts
abbrev pub refuse : Context → Kind → RemoteCall → ReplyStatus → Ledger → Answer × Ledger
refuse context kind remote status l =
    (refusal kind status, note_where (counts_forward context.caller false) (outcome_note kind context.caller remote.prog remote.vers remote.proc false) l)

-- a call of these arguments, to the registered address if there is one
-- CALLIT-5: A call that must be forwarded and has a row has failed if there is no place among the
-- forwarded calls or no number left for it: INDIRECT is answered SYSTEM_ERR, CALLIT and BCAST are
-- silent (CALLIT-6). What is refused at once takes no number.
abbrev pub forward_to : Context → ℕ → Kind → RemoteCall → List ℕ → Option Uaddr → Ledger → Answer × Ledger
forward_to context xid kind remote args None l = refuse context kind remote replies.ProgUnavail l
forward_to context xid kind remote args (Some registered) l =
    if can_start context.forwards l.forwards
    then (answers.Forwarded, record l { forwards = with_next_entry context.clock (forward_of context xid kind remote registered) args l.forwards })
    else refuse context kind remote replies.SystemErr l

-- the address, if the call that is asked for may go to its host
abbrev pub if_may_go : Context → RemoteCall → Option Uaddr → Option Uaddr
if_may_go context remote None = None
if_may_go context remote (Some registered) =
    if may_go context remote (peer_of_address registered).host then Some registered else None

-- where the call that is asked for goes, for this caller
-- CALLIT-1: CALLIT, BCAST and INDIRECT call the live row of exactly the program and version, and
-- never program 100000; without such a row the call is PROG_UNAVAIL.
abbrev pub address_asked : Context → RemoteCall → List Row → Option Uaddr
address_asked context remote rows =
    if_may_go context remote (address_to_forward (netid_to_forward (who_of context.caller).source) remote.prog remote.vers rows)

-- A call of this xid asks to have another one made: CALLIT, BCAST and INDIRECT.
unfoldable pub forward_call : Context → ℕ → Kind → RemoteCall → List ℕ → Ledger → Answer × Ledger
forward_call context xid kind remote arguments l =
    forward_to context xid kind remote (args_of remote arguments) (address_asked context remote (rows_in l)) l

-- ---- how it ends

abbrev pub is_pass : ForwardEnd → Bool
is_pass (outcomes.Passed place) = true
is_pass (outcomes.Refused status) = false
is_pass outcomes.Failed = false
is_pass outcomes.Dropped = false

-- COUNT-5
unfoldable pub end_note : Ended → Note
end_note ended =
    outcome_note ended.forward.kind ended.forward.caller ended.forward.prog ended.forward.vers ended.forward.proc (is_pass ended.outcome)

abbrev pub counts_end : Ended → Bool
counts_end ended = counts_forward ended.forward.caller (is_pass ended.outcome)

-- if it counts
abbrev pub end_notes : Option Ended → List Note
end_notes None = []
end_notes (Some ended) = notes_where (counts_end ended) (end_note ended)

-- the end of an entry, if one ends, and the ledger with its note and without the entry
abbrev pub noted_end : Option Ended × Forwards → Ledger → Option Ended × Ledger
noted_end ended l = (ended.0, record l { history = l.history ++ end_notes ended.0; forwards = ended.1 })

-- a datagram comes in: from whom, at which moment, after the xid of the first entry
unfoldable pub target_replied : ℕ → ℕ → Peer → List ℕ → Ledger → Option Ended × Ledger
target_replied first_xid clock from message l = noted_end (reply first_xid clock from message l.forwards) l

-- one entry whose deadline has come ends
unfoldable pub fell_due : ℕ → Ledger → Option Ended × Ledger
fell_due clock l = noted_end (due clock l.forwards) l

-- the connection of this number is closed, and its entry ends
unfoldable pub caller_dropped : ℕ → Ledger → Option Ended × Ledger
caller_dropped id l = noted_end (drop_caller id l.forwards) l

-- the call of the entry of this number was sent
unfoldable pub call_sent : ℕ → Ledger → Ledger
call_sent number l = record l { forwards = sent number l.forwards }

-- ---- results that passed

-- where the call went: the port in version 2, else the universal address
abbrev pub place_bytes : Kind → Peer → List ℕ
place_bytes Callit2 shown = number shown.port
place_bytes Callit3 shown = opaque (text_of (uaddr_at shown))
place_bytes Bcast shown = opaque (text_of (uaddr_at shown))
place_bytes Indirect shown = opaque (text_of (uaddr_at shown))

-- rpcb_rmtcallres (RFC 1833 section 2.1) or call_result (section 3.1)
-- CALLIT-10: Results that passed stand after the port in version 2, and after the universal address
-- in versions 3 and 4.
unfoldable pub forwarded_bytes : Forward → List ℕ → List ℕ
forwarded_bytes forward results = place_bytes forward.kind forward.shown ++ opaque results
