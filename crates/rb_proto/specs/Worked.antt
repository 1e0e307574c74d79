-- Worked examples. The listener is 192.0.2.1, port 111; callers are at 127.0.0.1 and come by UDP unless it says otherwise.
use Rattle.std.specs.Prelude.{◌≡◌, ℕ, Bool, true, false, zero, suc, ◌+◌, List, [], ◌∷◌, ◌++◌, length, map, drop, replicate, Some, None, Result, Ok, Err, codes}
use Rattle.rb_xdr.specs.Xdr.{words, opaque}
use Rattle.rb_rpc.specs.declared.call.CallHead.{CallHead}
use Rattle.rb_rpc.specs.declared.call.Credential.{Credential}
use Rattle.rb_rpc.specs.declared.call.Credential.TheVariants as credentials
use Rattle.rb_address.specs.declared.caller.Caller.{Caller}
use Rattle.rb_address.specs.declared.caller.Caller.TheVariants.{Tcp, Udp}
use Rattle.rb_address.specs.declared.host.Host.TheVariants.{V4}
use Rattle.rb_address.specs.declared.netid.Netid.TheVariants as netids
use Rattle.rb_address.specs.declared.who.Owner.{Owner}
use Rattle.rb_address.specs.declared.who.Owner.TheVariants as owners
use Rattle.rb_address.specs.declared.who.Source.TheVariants.{Inet}
use Rattle.rb_address.specs.declared.who.Trust.TheVariants.{Claims}
use Rattle.rb_address.specs.declared.who.Who.{Who}
use Rattle.rb_registry.specs.declared.row.Row.{Row}
use Rattle.rb_registry.specs.Rows.{rpcb_prog}
use Rattle.rb_answers.specs.declared.listener.Listener.{Listener}
use Rattle.rb_arguments.specs.declared.request.ArgumentFault.{ArgumentFault}
use Rattle.rb_arguments.specs.declared.request.ArgumentFault.TheVariants.{ProcUnavail, GarbageArgs}
use Rattle.rb_answers.specs.declared.answers.Answer.TheVariants as answers
use Rattle.rb_answers.specs.declared.answers.Listing.TheVariants.{Mappings}
use Rattle.rb_arguments.specs.declared.request.Request.{Request}
use Rattle.rb_arguments.specs.Arguments.{read_request}
use Rattle.rb_answers.specs.declared.reserved.Reservation.{Reservation}
use Rattle.rb_answers.specs.Reserved.{may_own}
use Rattle.rb_answers.specs.Callers.{own_rows}
use Rattle.rb_answers.specs.Ledger.{Ledger, fresh_ledger, with_call_noted}
use Rattle.rb_answers.specs.declared.answers.Answer.{Answer}
use Rattle.rb_answers.specs.declared.call.Call.{Call}
use Rattle.rb_answers.specs.declared.context.Context.{Context}
use Rattle.rb_answers.specs.Answers.{answer}
use Rattle.rb_answers.specs.Terms.{open_terms}
use Rattle.rb_answers.specs.Results.{list_bytes, result_bytes, shown_of}

-- ---- calls one after another

-- from whom a call comes, when, by which credential, and what it says
pub record Message : Type 0 where
  pub caller : Caller
  pub cred : Credential
  pub clock : ℕ
  pub vers : ℕ
  pub proc : ℕ
  pub args : List ℕ

abbrev pub listener_host : List ℕ
listener_host = 192 ∷ 0 ∷ 2 ∷ 1 ∷ []

abbrev pub listener : Listener
listener = record { announced = record { inet = Some listener_host; inet6 = None }; port = 111; local = None; terms = open_terms; reserved = [] }

-- at this host, of which nothing is known but what it says
abbrev pub who_at : List ℕ → Who
who_at host = record {
  source = Inet (record { host = V4 host; port = 900 });
  asked = V4 (0 ∷ 0 ∷ 0 ∷ 0 ∷ []);
  trust = Claims;
}

-- in a datagram from this host
abbrev pub from : List ℕ → Caller
from host = Udp (who_at host) 9000

abbrev pub loopback : List ℕ
loopback = 127 ∷ 0 ∷ 0 ∷ 1 ∷ []

abbrev pub call_with : Credential → ℕ → ℕ → List ℕ → Message
call_with cred vers proc args = record { caller = from loopback; cred = cred; clock = 0; vers = vers; proc = proc; args = args }

-- by AUTH_NONE
abbrev pub call : ℕ → ℕ → List ℕ → Message
call vers proc numbers = call_with credentials.None vers proc (words numbers)

-- by AUTH_SYS
abbrev pub call_as : ℕ → ℕ → ℕ → List ℕ → Message
call_as uid vers proc numbers = call_with (credentials.Sys uid) vers proc (words numbers)

abbrev pub context_of : ℕ → Message → Context
context_of limit m = record { announced = listener.announced; terms = open_terms; reserved = listener.reserved; limit = limit; forwards = 4; clock = m.clock; caller = m.caller }

abbrev pub head_of : Message → CallHead
head_of m = record { xid = 1; prog = rpcb_prog; vers = m.vers; proc = m.proc; cred = m.cred }

abbrev pub call_of : Message → Request → Call
call_of m request = record { head = head_of m; request = request }

-- the results of an answer, if it has any, over the ledger that it left
abbrev pub results_in : Answer → Ledger → List ℕ
results_in (answers.Results given) l = result_bytes (shown_of l) given
results_in (answers.Refused status) l = []
results_in answers.Forwarded l = []
results_in answers.Silent l = []

abbrev pub with_results : Answer × Ledger → Result (List ℕ) ArgumentFault × Ledger
with_results given = (Ok (results_in given.0 given.1), given.1)

-- the results, or why there are none, and the ledger after it
abbrev pub outcome : ℕ → Message → Ledger → Result Request ArgumentFault → Result (List ℕ) ArgumentFault × Ledger
outcome limit m l (Ok request) = with_results (answer (context_of limit m) (call_of m request) m.args (with_call_noted (head_of m) l))
outcome limit m l (Err GarbageArgs) = (Err GarbageArgs, with_call_noted (head_of m) l)
outcome limit m l (Err ProcUnavail) = (Err ProcUnavail, l)

-- of calls one after another, over this limit of rows
abbrev pub results_from : ℕ → Ledger → List Message → List (Result (List ℕ) ArgumentFault)
results_from limit l [] = []
results_from limit l (m ∷ later) =
    let given = outcome limit m l (read_request m.vers m.proc m.args) in
    given.0 ∷ results_from limit given.1 later

-- of calls to a fresh daemon with this limit of rows
abbrev pub results_within : ℕ → List Message → List (Result (List ℕ) ArgumentFault)
results_within limit calls = results_from limit (fresh_ledger (own_rows listener)) calls

abbrev pub results_of : List Message → List (Result (List ℕ) ArgumentFault)
results_of calls = results_within 300 calls

-- the results without the first this many
abbrev pub results_behind : ℕ → List Message → List (Result (List ℕ) ArgumentFault)
results_behind n calls = drop n (results_of calls)

abbrev pub says : List ℕ → Result (List ℕ) ArgumentFault
says numbers = Ok (words numbers)

abbrev pub yes : Result (List ℕ) ArgumentFault
yes = says (1 ∷ [])

abbrev pub no_ : Result (List ℕ) ArgumentFault
no_ = says (0 ∷ [])

-- the number of bytes of the results
abbrev pub size : Result (List ℕ) ArgumentFault → ℕ
size (Ok bytes) = length bytes
size (Err fault) = 0

-- ---- reserved programs

-- 100003 to 100005 are of uid 0, 100020 to 100030 of uid 120, and 100024 of uid 110 too
abbrev pub some_reserved : List Reservation
some_reserved =
    record { first = 100003; last = 100005; uid = 0 } ∷ record { first = 100020; last = 100030; uid = 120 }
    ∷ record { first = 100024; last = 100024; uid = 110 } ∷ []

abbrev pub may_set : Owner → ℕ → Bool
may_set owner prog = may_own some_reserved (record { prog = prog; vers = 1; netid = netids.Tcp; owner = owner; addr = [] })

-- RESERVE-1
abbrev pub ReservedRows : Type 0
ReservedRows =
    (map (may_set (owners.Uid 1000)) (100002 ∷ 100003 ∷ 100005 ∷ 100006 ∷ 100024 ∷ 100030 ∷ 100031 ∷ [])
    ≡ true ∷ false ∷ false ∷ true ∷ false ∷ false ∷ true ∷ [])
    × (map (λ owner. may_set owner 100024) (owners.Uid 110 ∷ owners.Uid 120 ∷ owners.Uid 0 ∷ owners.Unknown ∷ []) ≡ true ∷ true ∷ true ∷ false ∷ [])

-- ---- version 2

-- DUMP of a fresh registry
abbrev pub DumpOwnRows : Type 0
DumpOwnRows =
    results_of (call 2 4 [] ∷ [])
    ≡ says (
    1 ∷ 0x186a0 ∷ 4 ∷ 6 ∷ 0x6f ∷ 1 ∷ 0x186a0 ∷ 3 ∷ 6 ∷ 0x6f ∷ 1 ∷ 0x186a0 ∷ 2 ∷ 6 ∷ 0x6f
    ∷ 1 ∷ 0x186a0 ∷ 4 ∷ 17 ∷ 0x6f ∷ 1 ∷ 0x186a0 ∷ 3 ∷ 17 ∷ 0x6f ∷ 1 ∷ 0x186a0 ∷ 2 ∷ 17 ∷ 0x6f
    ∷ 0 ∷ []) ∷ []

abbrev pub SetGetportSetAgain : Type 0
SetGetportSetAgain =
    results_of (call 2 1 (0x30d41 ∷ 1 ∷ 6 ∷ 0x801 ∷ []) ∷ call 2 3 (0x30d41 ∷ 1 ∷ 6 ∷ 0 ∷ []) ∷ call 2 1 (0x30d41 ∷ 1 ∷ 6 ∷ 0x801 ∷ []) ∷ [])
    ≡ yes ∷ says (0x801 ∷ []) ∷ no_ ∷ []

-- the exact version, else the greatest one on that protocol
abbrev pub GetportGreatestVersion : Type 0
GetportGreatestVersion =
    results_of (
    call 2 1 (200002 ∷ 1 ∷ 6 ∷ 3001 ∷ []) ∷ call 2 1 (200002 ∷ 3 ∷ 6 ∷ 3003 ∷ [])
    ∷ call 2 3 (200002 ∷ 9 ∷ 6 ∷ 0 ∷ []) ∷ call 2 3 (200002 ∷ 1 ∷ 6 ∷ 0 ∷ [])
    ∷ call 2 3 (200002 ∷ 9 ∷ 17 ∷ 0 ∷ []) ∷ call 2 3 (200002 ∷ 1 ∷ 5 ∷ 0 ∷ []) ∷ [])
    ≡ yes ∷ yes ∷ says (0xbbb ∷ []) ∷ says (3001 ∷ []) ∷ no_ ∷ no_ ∷ []

-- eight rows: two more than the listener's own
abbrev pub SetAtRowLimit : Type 0
SetAtRowLimit =
    results_within 8 (call 2 1 (200001 ∷ 1 ∷ 6 ∷ 2049 ∷ []) ∷ call 2 1 (200002 ∷ 1 ∷ 6 ∷ 2049 ∷ []) ∷ call 2 1 (200003 ∷ 1 ∷ 6 ∷ 2049 ∷ []) ∷ [])
    ≡ yes ∷ yes ∷ no_ ∷ []

-- no such protocol or port; the portmapper's own program
abbrev pub VersionTwoRefuses : Type 0
VersionTwoRefuses =
    results_of (
    call 2 1 (200001 ∷ 1 ∷ 5 ∷ 2049 ∷ []) ∷ call 2 1 (200001 ∷ 1 ∷ 6 ∷ 0 ∷ []) ∷ call 2 1 (200001 ∷ 1 ∷ 6 ∷ 65536 ∷ [])
    ∷ call 2 1 (100000 ∷ 9 ∷ 6 ∷ 2049 ∷ []) ∷ call 2 1 (200001 ∷ 1 ∷ 6 ∷ 65535 ∷ []) ∷ [])
    ≡ no_ ∷ no_ ∷ no_ ∷ no_ ∷ yes ∷ []

-- UNSET of version 2, which covers tcp and udp
abbrev pub OwnersRemove : Type 0
OwnersRemove =
    results_of (
    call_as 500 2 1 (200001 ∷ 1 ∷ 6 ∷ 2049 ∷ []) ∷ call_as 1000 2 1 (200001 ∷ 1 ∷ 17 ∷ 2049 ∷ [])
    ∷ call 2 2 (200001 ∷ 1 ∷ 17 ∷ 0 ∷ []) ∷ call_as 500 2 2 (200001 ∷ 1 ∷ 17 ∷ 0 ∷ [])
    ∷ call 2 3 (200001 ∷ 1 ∷ 6 ∷ 0 ∷ []) ∷ call 2 3 (200001 ∷ 1 ∷ 17 ∷ 0 ∷ [])
    ∷ call_as 0 2 2 (200001 ∷ 1 ∷ 17 ∷ 0 ∷ []) ∷ call_as 0 2 2 (200001 ∷ 1 ∷ 17 ∷ 0 ∷ [])
    ∷ call_as 0 2 2 (100000 ∷ 2 ∷ 6 ∷ 0 ∷ []) ∷ [])
    ≡ yes ∷ yes ∷ no_ ∷ yes ∷ no_ ∷ says (2049 ∷ []) ∷ yes ∷ no_ ∷ no_ ∷ []

-- ---- versions 3 and 4

-- the text `0.0.0.0.8.1`
abbrev pub text_8_1 : List ℕ
text_8_1 = 0xb ∷ 0x302e302e ∷ 0x302e302e ∷ 0x382e3100 ∷ []

-- SET by uid 500, UNSET by uid 1000 and by the superuser, GETPORT, UNSET again
abbrev pub UnsetByOwner : Type 0
UnsetByOwner =
    results_of (
    call_as 500 4 1 (0x30d41 ∷ 1 ∷ 3 ∷ 0x74637000 ∷ text_8_1 ++ 0 ∷ [])
    ∷ call_as 1000 4 2 (0x30d41 ∷ 1 ∷ 0 ∷ 0 ∷ 0 ∷ []) ∷ call_as 0 4 2 (0x30d41 ∷ 1 ∷ 0 ∷ 0 ∷ 0 ∷ [])
    ∷ call 2 3 (0x30d41 ∷ 1 ∷ 6 ∷ 0 ∷ []) ∷ call_as 0 4 2 (0x30d41 ∷ 1 ∷ 0 ∷ 0 ∷ 0 ∷ []) ∷ [])
    ≡ yes ∷ no_ ∷ yes ∷ no_ ∷ no_ ∷ []

-- an rpcb without an owner
abbrev pub rpcb_args : ℕ → ℕ → List ℕ → List ℕ → List ℕ
rpcb_args prog vers netid addr = words (prog ∷ vers ∷ []) ++ opaque netid ++ opaque addr ++ opaque []

-- unknown netids, texts that are no address, and port 0
abbrev pub OtherAddressesRefused : Type 0
OtherAddressesRefused =
    results_of (
    call_as 500 4 1 (0x30d41 ∷ 1 ∷ 4 ∷ 0x74637036 ∷ text_8_1 ++ 0 ∷ [])
    ∷ call_as 500 4 1 (0x30d41 ∷ 1 ∷ 3 ∷ 0x74637000 ∷ 0xb ∷ 0x302e302e ∷ 0x302e302e ∷ 0x302e3000 ∷ 0 ∷ [])
    ∷ call_with (credentials.Sys 500) 4 1 (rpcb_args 200001 1 (codes "tcp") (codes "::1.0.111"))
    ∷ call_with (credentials.Sys 500) 4 1 (rpcb_args 200001 1 (codes "sctp") (codes "0.0.0.0.8.1"))
    ∷ call_with (credentials.Sys 500) 4 1 (rpcb_args 200001 1 [] (codes "0.0.0.0.8.1"))
    ∷ call_with (credentials.Sys 0) 4 1 (rpcb_args 100000 5 (codes "tcp") (codes "0.0.0.0.8.1"))
    ∷ call_with (credentials.Sys 0) 4 2 (rpcb_args 100000 4 (codes "sctp") []) ∷ [])
    ≡ replicate 7 no_

abbrev pub set_udp : Message
set_udp = call_as 500 4 1 (0x30d41 ∷ 1 ∷ 3 ∷ 0x75647000 ∷ text_8_1 ++ 0 ∷ [])

-- the text `192.0.2.1.8.1`
abbrev pub merged_8_1 : List ℕ
merged_8_1 = 0xd ∷ 0x3139322e ∷ 0x302e322e ∷ 0x312e382e ∷ 0x31000000 ∷ []

-- GETADDR goes by the transport of the call, and gives the greatest version when GETVERSADDR gives none
abbrev pub GetaddrByTransport : Type 0
GetaddrByTransport =
    results_of (
    set_udp ∷ call 3 3 (0x30d41 ∷ 1 ∷ 3 ∷ 0x74637000 ∷ 0 ∷ 0 ∷ []) ∷ call 4 3 (0x30d41 ∷ 7 ∷ 3 ∷ 0x74637000 ∷ 0 ∷ 0 ∷ [])
    ∷ call 4 9 (0x30d41 ∷ 7 ∷ 3 ∷ 0x74637000 ∷ 0 ∷ 0 ∷ [])
    ∷ record (call 3 3 (0x30d41 ∷ 1 ∷ 3 ∷ 0x75647000 ∷ 0 ∷ 0 ∷ [])) { caller = Tcp 1 (who_at loopback) } ∷ [])
    ≡ yes ∷ says merged_8_1 ∷ says merged_8_1 ∷ no_ ∷ no_ ∷ []

abbrev pub Getaddrlist : Type 0
Getaddrlist =
    results_of (set_udp ∷ call 4 11 (0x30d41 ∷ 1 ∷ 0 ∷ 0 ∷ 0 ∷ []) ∷ call 4 11 (200009 ∷ 1 ∷ 0 ∷ 0 ∷ 0 ∷ []) ∷ [])
    ≡ yes ∷ says (1 ∷ merged_8_1 ++ 3 ∷ 0x75647000 ∷ 1 ∷ 4 ∷ 0x696e6574 ∷ 3 ∷ 0x75647000 ∷ 0 ∷ []) ∷ no_ ∷ []

-- of `127.0.0.1.0.111`, back, and of what is no address
abbrev pub AddressTransportForm : Type 0
AddressTransportForm =
    results_of (
    call 3 7 (0xf ∷ 0x3132372e ∷ 0x302e302e ∷ 0x312e302e ∷ 0x31313100 ∷ [])
    ∷ call 3 8 (0x10 ∷ 0x10 ∷ 0x0200006f ∷ 0x7f000001 ∷ 0 ∷ 0 ∷ [])
    ∷ call_with credentials.None 3 7 (opaque (codes "01.2.3.4.5.6")) ∷ call 4 8 (0 ∷ 0 ∷ []) ∷ [])
    ≡ says (0x10 ∷ 0x10 ∷ 0x0200006f ∷ 0x7f000001 ∷ 0 ∷ 0 ∷ [])
    ∷ says (0xf ∷ 0x3132372e ∷ 0x302e302e ∷ 0x312e302e ∷ 0x31313100 ∷ [])
    ∷ says (0 ∷ 0 ∷ []) ∷ no_ ∷ []

-- SET from a host that is not local, and from the listener's own; GETTIME
abbrev pub LocalityAndGettime : Type 0
LocalityAndGettime =
    results_of (
    record (call 2 1 (0x30d41 ∷ 1 ∷ 6 ∷ 0x801 ∷ [])) { caller = from (198 ∷ 51 ∷ 100 ∷ 7 ∷ []) }
    ∷ record (call 2 1 (0x30d41 ∷ 1 ∷ 6 ∷ 0x801 ∷ [])) { caller = from listener_host }
    ∷ record (call 2 2 (0x30d41 ∷ 1 ∷ 6 ∷ 0x801 ∷ [])) { caller = from (198 ∷ 51 ∷ 100 ∷ 7 ∷ []) }
    ∷ record (call 3 6 []) { clock = 1000000000500 } ∷ record (call 4 6 []) { clock = 4294967296000 } ∷ [])
    ≡ no_ ∷ yes ∷ no_ ∷ says (0x3b9aca00 ∷ []) ∷ says (0xffffffff ∷ []) ∷ []

-- unknown procedures, and arguments that are cut short or longer than they need be
abbrev pub RefusalsOfAcceptedCalls : Type 0
RefusalsOfAcceptedCalls =
    results_of (
    call 2 6 [] ∷ call 3 9 [] ∷ call 4 13 [] ∷ call 2 1 (1 ∷ 2 ∷ 3 ∷ []) ∷ call 2 5 [] ∷ call 4 10 (1 ∷ 2 ∷ 3 ∷ [])
    ∷ call 2 0 (1 ∷ 2 ∷ 3 ∷ []) ∷ [])
    ≡ replicate 3 (Err ProcUnavail) ++ replicate 3 (Err GarbageArgs) ++ Ok [] ∷ []

-- ---- statistics

-- GETSTAT as the first call: info[12] of version 4 is 1
abbrev pub GetstatFirstCall : Type 0
GetstatFirstCall = results_of (call 4 12 [] ∷ []) ≡ says (replicate 46 0 ++ 1 ∷ replicate 4 0) ∷ []

-- a GETPORT of version 1 of a program, by this protocol
abbrev pub getport : ℕ → ℕ → Message
getport prot prog = call 2 3 (prog ∷ 1 ∷ prot ∷ 0 ∷ [])

-- SET, GETPORT, SET again, and a GETPORT by a protocol that there is not
abbrev pub GetstatAfterCalls : Type 0
GetstatAfterCalls =
    results_behind 4 (
    call 2 1 (0x30d41 ∷ 1 ∷ 6 ∷ 0x801 ∷ []) ∷ getport 6 0x30d41 ∷ call 2 1 (0x30d41 ∷ 1 ∷ 6 ∷ 0x801 ∷ [])
    ∷ getport 5 0x30d42 ∷ call 4 12 [] ∷ [])
    ≡ says (
    0 ∷ 2 ∷ 0 ∷ 2 ∷ replicate 9 0 ++ 1 ∷ 0 ∷ 1 ∷ 0x30d41 ∷ 1 ∷ 1 ∷ 0 ∷ 3 ∷ 0x74637000 ∷ 0 ∷ 0 ∷ []
    ++ replicate 17 0 ++ replicate 12 0 ++ 1 ∷ replicate 4 0) ∷ []

-- Arguments that can't be read are counted, and refusals before that are not; an UNSET that answers TRUE is counted, and
-- look-ups of versions 3 and 4 by the transport of the call, of what there is and of what there is not.
abbrev pub GetstatOfOtherCalls : Type 0
GetstatOfOtherCalls =
    results_behind 7 (
    call 2 1 (1 ∷ 2 ∷ 3 ∷ []) ∷ call 2 6 [] ∷ set_udp ∷ call 3 3 (0x30d41 ∷ 1 ∷ 0 ∷ 0 ∷ 0 ∷ [])
    ∷ call 4 9 (0x30d41 ∷ 7 ∷ 0 ∷ 0 ∷ 0 ∷ []) ∷ call_as 500 4 2 (0x30d41 ∷ 1 ∷ 0 ∷ 0 ∷ 0 ∷ [])
    ∷ call 3 3 (0x30d41 ∷ 1 ∷ 0 ∷ 0 ∷ 0 ∷ []) ∷ call 4 12 [] ∷ [])
    ≡ says (
    0 ∷ 1 ∷ replicate 15 0
    ++ 0 ∷ 0 ∷ 0 ∷ 2 ∷ replicate 11 0 ++ 1 ∷ 0x30d41 ∷ 1 ∷ 1 ∷ 1 ∷ 3 ∷ 0x75647000 ∷ 0 ∷ 0 ∷ []
    ++ 0 ∷ 1 ∷ 1 ∷ replicate 6 0 ++ 1 ∷ 0 ∷ 0 ∷ 1 ∷ 1 ∷ 1 ∷ 1 ∷ 0x30d41 ∷ 7 ∷ 0 ∷ 1 ∷ 3 ∷ 0x75647000 ∷ 0 ∷ 0 ∷ []) ∷ []

-- GETPORTs on tcp of this many programs, from this one on
abbrev pub getports : ℕ → ℕ → List Message
getports zero prog = []
getports (suc k) prog = getport 6 prog ∷ getports k (prog + 1)

-- 33 look-ups that find nothing, of which the last is of no item
abbrev pub GetstatFirstKeys : Type 0
GetstatFirstKeys = map size (results_behind 33 (getports 33 200001 ++ call 4 12 [] ∷ [])) ≡ 1100 ∷ []

-- ---- long lists

-- SETs by uid 0 of this many programs, from this one on
abbrev pub sets : ℕ → ℕ → List Message
sets zero prog = []
sets (suc k) prog = call_as 0 2 1 (prog ∷ 1 ∷ 6 ∷ 2049 ∷ []) ∷ sets k (prog + 1)

-- DUMP of version 3 with 166 rows more than the listener's own: with the reply's head 8,996 bytes
abbrev pub LongDump : Type 0
LongDump = map size (results_behind 166 (sets 166 200001 ++ call 3 4 [] ∷ [])) ≡ 8972 ∷ []

-- this many rows on tcp, of programs from this one on
abbrev pub more_rows : ℕ → ℕ → List Row
more_rows zero prog = []
more_rows (suc k) prog = record { prog = prog; vers = 1; netid = netids.Tcp; owner = owners.Uid 0; addr = codes "0.0.0.0.8.1" } ∷ more_rows k (prog + 1)

-- DUMP of version 2 with 448 rows in all: with the reply's head 8,988 bytes
abbrev pub LongPmapDump : Type 0
LongPmapDump = length (list_bytes (own_rows listener ++ more_rows 442 200001) Mappings) ≡ 8964
