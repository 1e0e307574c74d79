-- Bytes can spell each row that calls of bytes set.
use Rattle.std.specs.Prelude.{⊤, All, find, filter, option_map, decimal, replicate, slice_range, nat_le}
use Rattle.std.specs.Str.{IsAscii}
use Rattle.std.specs.List.{AllByRecursion, join_with_byte}
use Rattle.std.proofs.Common.{◌≡◌, ℕ, zero, suc, ◌-◌, ◌/◌, ◌%◌, ◌<◌, ◌≤◌, max, Bool, true, false, cond, not, eqb, Option, Some, None, List, [], ◌∷◌, ◌++◌, length, map, take, drop, refl, sym, subst, ◌∙◌, arith, get_or, length-append}
use Rattle.std.proofs.lemmas.Bool.{leb-true}
use Rattle.std.proofs.lemmas.Option.{same_Some}
use Rattle.std.proofs.lemmas.Str.{IsAscii-append}
use Rattle.std.proofs.lemmas.Fmt.{IsAscii-decimal}
use Rattle.std.proofs.lemmas.List.Elements.{All-nil, All-head, All-tail, All-same, All-push}
use Rattle.rb_xdr.specs.Xdr.{IsNumber, AreBytes, number, opaque, residue}
use Rattle.rb_xdr.proofs.Words.{AreBytes-take, AreBytes-drop}
use Rattle.rb_rpc.specs.declared.call.CallHead.{CallHead}
use Rattle.rb_rpc.specs.declared.call.Credential.{Credential}
use Rattle.rb_rpc.specs.declared.call.Credential.TheVariants as credentials
use Rattle.rb_address.specs.declared.caller.Caller.{Caller}
use Rattle.rb_rpc.specs.Records.{is_last, fragment_end, first_record, data_in, data_of}
use Rattle.rb_rpc.specs.Grammar.{SaysCaller, IsCaller}
use Rattle.rb_rpc.specs.Messages.{auth, auth_none}
use Rattle.rb_rpc.specs.CallBytes.{sys_body, credential, call_words, call_bytes}
use Rattle.rb_rpc.proofs.Calls.{AreBytes-append, AreBytes-number, AreBytes-sys}
use Rattle.rb_uaddr.specs.declared.address.Uaddr.TheVariants.{V4}
use Rattle.rb_uaddr.specs.Uaddr.{dot, port_bytes, any_host, text_of}
use Rattle.rb_address.specs.declared.netid.Netid.{Netid}
use Rattle.rb_address.specs.declared.netid.Transport.{Transport}
use Rattle.rb_address.specs.declared.who.Owner.{Owner}
use Rattle.rb_address.specs.declared.who.Owner.TheVariants.{Unknown, Uid}
use Rattle.rb_address.specs.declared.who.Trust.{Trust}
use Rattle.rb_address.specs.declared.who.Trust.TheVariants as trusts
use Rattle.rb_registry.specs.declared.row.Which.{Which}
use Rattle.rb_registry.specs.declared.row.Row.{Row}
use Rattle.rb_registry.specs.Rows.{Change}
use Rattle.rb_address.specs.Netids.{netid_of, netid_named, transport_of_protocol}
use Rattle.rb_registry.specs.Rows.Change.{Added, Removed}
use Rattle.rb_arguments.specs.declared.mapping.Mapping.{Mapping}
use Rattle.rb_arguments.specs.declared.rpcb.Rpcb.{Rpcb}
use Rattle.rb_arguments.specs.declared.procedure.MappingProcedure.TheVariants as mappings
use Rattle.rb_arguments.specs.declared.procedure.RpcbProcedure.TheVariants as rpcbs
use Rattle.rb_arguments.specs.declared.request.Request.{Request}
use Rattle.rb_arguments.specs.declared.request.Request.TheVariants as requests
use Rattle.rb_arguments.specs.Types.{IsMapping, IsRpcb, rpcb_spelling}
use Rattle.rb_arguments.proofs.Readings.{rpcb_bounded}
use Rattle.rb_arguments.specs.Grammar.{SpellsRequest}
use Rattle.rb_answers.specs.declared.call.Call.{Call}
use Rattle.rb_answers.specs.Callers.{owner_named, owner_of, who_of}
use Rattle.rb_answers.specs.Netids.{which_of}
use Rattle.rb_answers.specs.Answers.{can_be_set, row_of_mapping, row_of_rpcb}
use Rattle.rb_model.specs.declared.message.Message.TheVariants as says
use Rattle.rb_model.specs.Calls.{Outcome, message_of}
use Rattle.rb_model.specs.State.{State, Phase, Connection, Connections, opening}
use Rattle.rb_model.specs.State.Phase.{Idle, Reading, Owing, Awaiting, Lost}
use Rattle.rb_model.specs.Connections.{Taking, taking_up_to, taking_behind, taking_of, fed_in, is_live, live_connection, change_first, without_number, keep_reading, settle, with_given, give}
use Rattle.rb_model.specs.Connections.Taking.{TakesNone, GoesOn, Ends as EndsAt}
use Rattle.rb_model.specs.Losses.{lose, evict_early}
use Rattle.rb_model.specs.Step.{sender, Event, Output, step, after}
use Rattle.rb_model.specs.Step.Event.{Open, Bytes, Pending, Gave, Closed, NextLost, Datagram, Unsent, Sent, Forward, Expire, ZeroStats}
use Rattle.rb_model.specs.ChangeLaws.{change_for, change_asked, credential_for, Brought, record_in, record_on, brought_by, ChangesAtMostOnce, set_rows, IsSpelled, IsTrust, BringsBytes, RowsAreSpelled, RowsCanBeSetAgain, KeptRowsAreRestored, KeptRowsAreInNoStatistics, opened_again, kept_calls, set_head, rpcb_for, HasShortCall, KeptCallsAreShort}
use Rattle.rb_model.specs.ChangeLaws.ChangesAtMostOnce.{Same, OneMore}
use Rattle.rb_laws.proofs.Happenings.{Happening, happening, crowd_at}
use Rattle.rb_laws.proofs.Happenings.Happening.{Stays, Evicts, Opens, Reads, Ends, Gives, Closes, Tells, TimesOut}
use Rattle.rb_laws.proofs.Grammar.{asked_messages}
use Rattle.rb_laws.proofs.Changes.{at-most-once}
use Rattle.rb_laws.proofs.Restoring.{rpcb_fits, all-left, rows_can_be_set, sets-again, restored, begun-anew}

-- ---- texts of addresses

nil-ascii : IsAscii []
nil-ascii i = omega arith

cons-ascii : (b : ℕ) (xs : List ℕ) → b < 128 → IsAscii xs → IsAscii (b ∷ xs)
cons-ascii b xs small are zero = small
cons-ascii b xs small are (suc i) = are i

joined-ascii : (texts : List (List ℕ)) → AllByRecursion IsAscii texts → IsAscii (join_with_byte dot texts)
joined-ascii [] all = nil-ascii
joined-ascii (x ∷ []) all = all.0
joined-ascii (x ∷ y ∷ xs) all = IsAscii-append x (dot ∷ join_with_byte dot (y ∷ xs)) all.0 (cons-ascii dot (join_with_byte dot (y ∷ xs)) (omega arith) (joined-ascii (y ∷ xs) all.1))

digits-ascii : (n : ℕ) → n < 65536 → IsAscii (decimal n)
digits-ascii n small = IsAscii-decimal n (omega (arith, small))

port-ascii : (port : ℕ) → port ≤ 65535 → IsAscii (text_of (V4 any_host port))
unfolding text_of port_bytes
port-ascii port small =
    let zeros : IsAscii (decimal 0) = digits-ascii 0 (omega arith) in
    joined-ascii (map decimal (any_host ++ port_bytes port))
    (zeros, (zeros, (zeros, (zeros, (digits-ascii (port / 256) (omega (arith, small)), (digits-ascii (port % 256) (omega (arith, small)), tt))))))

ascii-bytes : (text : List ℕ) → IsAscii text → AreBytes text
ascii-bytes text are i = let small = are i in omega (arith, small)

-- ---- what a call of bytes asks for

abbrev IsSpelledChange : Change → Type 0
IsSpelledChange (Added row) = IsSpelled row
IsSpelledChange (Removed prog vers which owner) = ⊤

caller-fits : (cred : Credential) (flavor : ℕ) (body : List ℕ) → SaysCaller cred flavor body → IsCaller (credential_for (owner_named cred))
caller-fits credentials.None flavor body says = tt
caller-fits (credentials.Sys uid) flavor body says = subst IsNumber says.1.uid_is says.1.fit.uid

-- as whom a caller registers
owner-fits : (trust : Trust) (cred : Credential) → IsTrust trust → IsCaller (credential_for (owner_named cred)) → IsCaller (credential_for (owner_of trust cred))
owner-fits trusts.Claims cred known named = named
owner-fits (trusts.Local owner) cred known named = known
owner-fits trusts.Stranger cred known named = named

rpcb-row : (owner : Owner) (r : Rpcb) → IsRpcb r → IsCaller (credential_for owner) → (row : Row) → row_of_rpcb owner r ≡ Some row → IsSpelled row
unfolding row_of_rpcb
rpcb-row owner r fits caller row e = by_netid (netid_named r.netid) e
  where
    on : Netid → Row
    on netid = record { prog = r.prog; vers = r.vers; netid = netid; owner = owner; addr = r.addr }

    by_netid : (o : Option Netid) → option_map on o ≡ Some row → IsSpelled row
    by_netid None e = absurd cc
    by_netid (Some netid) e = subst IsSpelled (same_Some (on netid) row e) (record { prog = fits.prog; vers = fits.vers; owner = caller; addr = fits.addr.2 })

mapping-row : (owner : Owner) (m : Mapping) → IsMapping m → IsCaller (credential_for owner) → (row : Row) → row_of_mapping owner m ≡ Some row → IsSpelled row
unfolding row_of_mapping
mapping-row owner m fits caller row e = by_test (nat_le m.port 65535) refl e
  where
    on : Transport → Row
    on transport = record { prog = m.prog; vers = m.vers; netid = netid_of transport; owner = owner; addr = text_of (V4 any_host m.port) }

    by_transport : m.port ≤ 65535 → (o : Option Transport) → option_map on o ≡ Some row → IsSpelled row
    by_transport small None e = absurd cc
    by_transport small (Some transport) e =
        subst IsSpelled (same_Some (on transport) row e)
        (record { prog = fits.prog; vers = fits.vers; owner = caller; addr = ascii-bytes (text_of (V4 any_host m.port)) (port-ascii m.port small) })

    by_test : (b : Bool) → nat_le m.port 65535 ≡ b → cond b (option_map on (transport_of_protocol m.prot)) None ≡ Some row → IsSpelled row
    by_test true small e = by_transport (leb-true m.port 65535 small) (transport_of_protocol m.prot) e
    by_test false small e = absurd cc

from-row : (o : Option Row) → ((row : Row) → o ≡ Some row → IsSpelled row) → (change : Change) → option_map Added o ≡ Some change → IsSpelledChange change
from-row None h change e = absurd cc
from-row (Some row) h change e = subst IsSpelledChange (same_Some (Added row) change e) (h row refl)

removal-spelled : (owner : Owner) (prog vers : ℕ) (o : Option Which) (change : Change) → option_map (λ which. Removed prog vers which owner) o ≡ Some change → IsSpelledChange change
removal-spelled owner prog vers None change e = absurd cc
removal-spelled owner prog vers (Some which) change e = subst IsSpelledChange (same_Some (Removed prog vers which owner) change e) tt

request-spelled : (owner : Owner) (request : Request) (bytes : List ℕ) → SpellsRequest request bytes → IsCaller (credential_for owner) → (change : Change) → change_for owner request ≡ Some change → IsSpelledChange change
request-spelled owner (requests.Mapping mappings.Set m) bytes is caller change e = from-row _ (mapping-row owner m is.fits caller) change e
request-spelled owner (requests.Mapping mappings.Unset m) bytes is caller change e = removal-spelled owner m.prog m.vers (Some _) change e
request-spelled owner (requests.Mapping mappings.Getport m) bytes is caller change e = absurd cc
request-spelled owner (requests.Rpcb rpcbs.Set r) bytes is caller change e = from-row _ (rpcb-row owner r is.fits caller) change e
request-spelled owner (requests.Rpcb rpcbs.Unset r) bytes is caller change e = removal-spelled owner r.prog r.vers (which_of r.netid) change e
request-spelled owner (requests.Rpcb rpcbs.Getaddr r) bytes is caller change e = absurd cc
request-spelled owner (requests.Rpcb rpcbs.Getversaddr r) bytes is caller change e = absurd cc
request-spelled owner (requests.Rpcb rpcbs.Getaddrlist r) bytes is caller change e = absurd cc
request-spelled owner (requests.Void procedure) bytes is caller change e = absurd cc
request-spelled owner (requests.Uaddr2taddr text) bytes is caller change e = absurd cc
request-spelled owner (requests.Taddr2uaddr netbuf) bytes is caller change e = absurd cc
request-spelled owner (requests.Forward kind remote) bytes is caller change e = absurd cc

call-spelled : (caller : Caller) (content : List ℕ) → IsTrust (who_of caller).trust → AreBytes content → (call : Call) → message_of content ≡ says.Asked call → (change : Change)
    → change_asked caller call.head call.request ≡ Some change → IsSpelledChange change
call-spelled caller content known are call is change e =
    let b = (asked_messages content are call).0 is in
    let named = caller-fits call.head.cred b.head.flavor b.head.body b.head.caller in
    request-spelled (owner_of (who_of caller).trust call.head.cred) call.request (drop b.place content) b.asks.1 (owner-fits (who_of caller).trust call.head.cred known named) change e

-- ---- the bytes that were fed

abbrev IsFed : Phase → Type 0
IsFed (Reading fed) = AreBytes fed
IsFed Idle = ⊤
IsFed (Owing o) = ⊤
IsFed Awaiting = ⊤
IsFed Lost = ⊤

-- and the caller is known by a uid of 32 bits, if it is known
abbrev IsHeld : Connection → Type 0
IsHeld c = IsTrust c.who.trust × IsFed c.phase

abbrev AreFed : List Connection → Type 0
AreFed [] = ⊤
AreFed (c ∷ all) = IsHeld c × AreFed all

abbrev KeepsFed : (Connection → Connection) → Type 0
KeepsFed f = (c : Connection) → IsHeld c → IsHeld (f c)

changed-fed : (id : ℕ) (f : Connection → Connection) → KeepsFed f → (all : List Connection) → AreFed all → AreFed (change_first (is_live id) f all)
changed-fed id f k [] a = tt
changed-fed id f k (c ∷ all) a = by_test (is_live id c) (changed-fed id f k all a.1)
  where
    by_test : (b : Bool) → AreFed (change_first (is_live id) f all) → AreFed (cond b (f c ∷ all) (c ∷ change_first (is_live id) f all))
    by_test true rest = (k c a.0, a.1)
    by_test false rest = (a.0, rest)

filtered-fed : (p : Connection → Bool) (all : List Connection) → AreFed all → AreFed (filter p all)
filtered-fed p [] a = tt
filtered-fed p (c ∷ all) a = by_test (p c) (filtered-fed p all a.1)
  where
    by_test : (b : Bool) → AreFed (filter p all) → AreFed (cond b (c ∷ filter p all) (filter p all))
    by_test true rest = (a.0, rest)
    by_test false rest = rest

mapped-fed : (f : Connection → Connection) → KeepsFed f → (all : List Connection) → AreFed all → AreFed (map f all)
mapped-fed f k [] a = tt
mapped-fed f k (c ∷ all) a = (k c a.0, mapped-fed f k all a.1)

more-fed : (all : List Connection) (c : Connection) → IsHeld c → AreFed all → AreFed (all ++ c ∷ [])
more-fed [] c is a = (is, tt)
more-fed (d ∷ all) c is a = (a.0, more-fed all c is a.1)

found-fed : (p : Connection → Bool) (all : List Connection) (c : Connection) → AreFed all → find p all ≡ Some c → IsHeld c
found-fed p [] c a is = absurd cc
found-fed p (d ∷ all) c a is = by_test (p d) is (found-fed p all c a.1)
  where
    by_test : (b : Bool) → cond b (Some d) (find p all) ≡ Some c → (find p all ≡ Some c → IsHeld c) → IsHeld c
    by_test true e rest = subst IsHeld (same_Some d c e) a.0
    by_test false e rest = rest e

live-fed : (id : ℕ) (all : List Connection) (c : Connection) → AreFed all → live_connection id all ≡ Some c → IsHeld c
unfolding live_connection
live-fed id all c a is = found-fed (is_live id) all c a is

reading-fed : (clock : ℕ) (fed : List ℕ) → AreBytes fed → KeepsFed (keep_reading clock fed)
unfolding keep_reading
reading-fed clock fed are c is = (is.0, are)

settled-fed : (clock : ℕ) (said : Outcome) → KeepsFed (settle clock said)
unfolding settle
settled-fed clock said c is = grind arith

given-fed : (clock n : ℕ) → KeepsFed (with_given clock n)
unfolding with_given
given-fed clock n c is = grind arith

giving-fed : (clock n : ℕ) → KeepsFed (λ c. (give clock n c).1)
unfolding give
giving-fed clock n c is = given-fed clock _ c is

evicted-fed : (changes : List ℕ) → KeepsFed (evict_early changes)
unfolding evict_early
evicted-fed changes c is = grind arith

-- what a connection was fed is of bytes
behind-fed : (p : Phase) (fed : List ℕ) → IsFed p → fed_in p ≡ Some fed → AreBytes fed
behind-fed Idle fed is e = subst AreBytes (same_Some [] fed e) (λ i. omega arith)
behind-fed (Reading more) fed is e = subst AreBytes (same_Some more fed e) is
behind-fed (Owing o) fed is e = absurd cc
behind-fed Awaiting fed is e = absurd cc
behind-fed Lost fed is e = absurd cc

abbrev FedAmong : Connections → Type 0
FedAmong c = AreFed c.all

abbrev FedIn : State → Type 0
FedIn s = AreFed s.connections.all

happening-fed : (s : State) (event : Event) (output : Output) (now : Connections) → FedIn s → BringsBytes event → Happening s event output now → AreFed now.all
unfolding without_number
happening-fed s event output now a brings (Stays q same) = subst FedAmong (sym same) a
happening-fed s event output now a brings (Evicts at who content is q same) =
    subst FedAmong (sym same) (mapped-fed (evict_early (crowd_at s at (sender s who content) content)) (evicted-fed _) s.connections.all a)
happening-fed s event output now a brings (Opens at who is out same) =
    subst FedAmong (sym same) (more-fed s.connections.all (record { number = s.connections.next; who = who; phase = Idle; since = max s.clock at }) (subst BringsBytes is brings, tt) a)
happening-fed s event output now a brings (Reads at id piece c fed is there feeds none out same) =
    let more : AreBytes piece = subst BringsBytes is brings in
    let before : AreBytes fed = behind-fed c.phase fed (live-fed id s.connections.all c a there).1 feeds in
    subst FedAmong (sym same) (changed-fed id _ (reading-fed (max s.clock at) (fed ++ piece) (AreBytes-append fed piece before more)) s.connections.all a)
happening-fed s event output now a brings (Ends at id piece c fed n is there feeds some out same) =
    subst FedAmong (sym same) (changed-fed id _ (settled-fed _ _) _ (mapped-fed (evict_early _) (evicted-fed _) s.connections.all a))
happening-fed s event output now a brings (Gives at id n c is there few out same) =
    subst FedAmong (sym same) (changed-fed id _ (giving-fed (max s.clock at) n) s.connections.all a)
happening-fed s event output now a brings (Tells at id said is q final told there same) =
    subst FedAmong (sym same) (changed-fed id _ (settled-fed (max s.clock at) said) s.connections.all a)
happening-fed s event output now a brings (TimesOut at c is q none found same) =
    subst FedAmong (sym same) (changed-fed c.number lose (λ d e. (e.0, tt)) s.connections.all a)
happening-fed s event output now a brings (Closes id is out there same) =
    subst FedAmong (sym same) (filtered-fed (λ (c : Connection). not (eqb c.number id)) s.connections.all a)

step-fed : (s : State) (event : Event) → FedIn s → BringsBytes event → FedIn (step s event).1
step-fed s event a brings = happening-fed s event (step s event).0 (step s event).1.connections a brings (happening s event)

-- ---- what events bring

data-bytes : (k : ℕ) (bytes : List ℕ) → AreBytes bytes → AreBytes (data_in k bytes)
data-bytes zero bytes are = λ i. omega arith
data-bytes (suc k) bytes are = by_test (is_last bytes) (data-bytes k (drop (fragment_end bytes) bytes) (AreBytes-drop (fragment_end bytes) bytes are))
  where
    part : AreBytes (slice_range bytes 4 (fragment_end bytes))
    part = AreBytes-take (fragment_end bytes - 4) (drop 4 bytes) (AreBytes-drop 4 bytes are)

    by_test : (b : Bool) → AreBytes (data_in k (drop (fragment_end bytes) bytes)) → AreBytes (cond b (slice_range bytes 4 (fragment_end bytes)) (slice_range bytes 4 (fragment_end bytes) ++ data_in k (drop (fragment_end bytes) bytes)))
    by_test true rest = part
    by_test false rest = AreBytes-append (slice_range bytes 4 (fragment_end bytes)) (data_in k (drop (fragment_end bytes) bytes)) part rest

record-bytes : (bytes : List ℕ) → AreBytes bytes → AreBytes (data_of bytes)
unfolding data_of
record-bytes bytes are = data-bytes (length bytes) bytes are

taken-bytes : (o : Option (List ℕ)) → ((fed : List ℕ) → o ≡ Some fed → AreBytes fed) → (piece : List ℕ) → AreBytes piece → (n : ℕ) (content : List ℕ) → taking_behind o piece ≡ EndsAt n content → AreBytes content
taken-bytes None are piece is n content e = absurd cc
taken-bytes (Some fed) are [] is n content e = absurd cc
taken-bytes (Some fed) are (byte ∷ piece) is n content e = by_record (first_record (fed ++ byte ∷ piece)) e
  where
    by_record : (m : Option ℕ) → taking_up_to fed (byte ∷ piece) m ≡ EndsAt n content → AreBytes content
    by_record None e = absurd cc
    by_record (Some k) e =
        let same : data_of (take k (fed ++ byte ∷ piece)) ≡ content = cc in
        subst AreBytes same (record-bytes (take k (fed ++ byte ∷ piece)) (AreBytes-take k (fed ++ byte ∷ piece) (AreBytes-append fed (byte ∷ piece) (are fed refl) is)))

abbrev IsOfBytes : Brought → Type 0
IsOfBytes m = IsTrust (who_of m.caller).trust × AreBytes m.content

brought-bytes : (s : State) (event : Event) (m : Brought) → FedIn s → BringsBytes event → brought_by s event ≡ Some m → IsOfBytes m
unfolding taking_of
brought-bytes s (Datagram now who content) m a brings e = subst IsOfBytes (same_Some _ m e) brings
brought-bytes s (Bytes now id piece) m a brings e = by_live (live_connection id s.connections.all) refl e
  where
    by_taking : (c : Connection) → IsHeld c → (t : Taking) → taking_behind (fed_in c.phase) piece ≡ t → record_in now id c.who t ≡ Some m → IsOfBytes m
    by_taking c fed TakesNone is e = absurd cc
    by_taking c fed (GoesOn more) is e = absurd cc
    by_taking c fed (EndsAt n content) is e =
        subst IsOfBytes (same_Some _ m e) (fed.0, taken-bytes (fed_in c.phase) (λ xs e. behind-fed c.phase xs fed.1 e) piece brings n content is)

    by_live : (o : Option Connection) → live_connection id s.connections.all ≡ o → record_on now id piece o ≡ Some m → IsOfBytes m
    by_live None there e = absurd cc
    by_live (Some c) there e = by_taking c (live-fed id s.connections.all c a there) (taking_behind (fed_in c.phase) piece) refl e
brought-bytes s (Open now who) m a brings e = absurd cc
brought-bytes s (Pending id) m a brings e = absurd cc
brought-bytes s (Gave now id n) m a brings e = absurd cc
brought-bytes s (Closed id) m a brings e = absurd cc
brought-bytes s NextLost m a brings e = absurd cc
brought-bytes s Unsent m a brings e = absurd cc
brought-bytes s (Sent number) m a brings e = absurd cc
brought-bytes s (Forward now from message) m a brings e = absurd cc
brought-bytes s (Expire now) m a brings e = absurd cc
brought-bytes s ZeroStats m a brings e = absurd cc

-- ---- runs

abbrev AreSpelled : State → Type 0
AreSpelled s = All IsSpelledChange s.ledger.changes

step-spelled : (s : State) (event : Event) → FedIn s → BringsBytes event → AreSpelled s → AreSpelled (step s event).1
step-spelled s event a brings all = by_change (at-most-once s event)
  where
    by_change : ChangesAtMostOnce s event → AreSpelled (step s event).1
    by_change (Same e) = All-same IsSpelledChange (step s event).1.ledger.changes s.ledger.changes e all
    by_change (OneMore change accepted) =
        let asked = accepted.asked in
        All-same IsSpelledChange (step s event).1.ledger.changes (s.ledger.changes ++ change ∷ []) accepted.appends
        (All-push IsSpelledChange s.ledger.changes change all
        (let is = brought-bytes s event asked.message a brings asked.brings in
        call-spelled asked.message.caller asked.message.content is.0 is.1 asked.call asked.says change asked.asks))

after-spelled : (s : State) (events : List Event) → FedIn s → All BringsBytes events → AreSpelled s → AreSpelled (after s events)
after-spelled s [] a brings all = all
after-spelled s (event ∷ events) a brings all =
    let now : BringsBytes event = All-head BringsBytes event events brings in
    after-spelled (step s event).1 events (step-fed s event a now) (All-tail BringsBytes event events brings) (step-spelled s event a now all)

pub rows_are_spelled : RowsAreSpelled
rows_are_spelled s r =
    let start : State = opening r.reached.limits r.reached.listener r.reached.first_xid r.reached.now in
    let all : AreSpelled s = subst AreSpelled (sym r.reached.is) (after-spelled start r.reached.events tt r.bytes (All-nil IsSpelledChange)) in
    all-left IsSpelled IsSpelledChange (λ row is. is) s.ledger.changes all

-- ---- the calls that set them again

AreBytes-zeros : (n : ℕ) → AreBytes (replicate n 0)
AreBytes-zeros zero = λ i. omega arith
AreBytes-zeros (suc n) = AreBytes-append (0 ∷ []) (replicate n 0) (λ i. small-zero i) (AreBytes-zeros n)
  where
    small-zero : (i : ℕ) → get_or (0 ∷ []) i 0 < 256
    small-zero zero = omega arith
    small-zero (suc i) = omega arith

AreBytes-opaque : (content : List ℕ) → AreBytes content → AreBytes (opaque content)
unfolding opaque
AreBytes-opaque content are =
    AreBytes-append (number (length content) ++ content) (replicate (residue (length content)) 0)
    (AreBytes-append (number (length content)) content (AreBytes-number (length content)) are)
    (AreBytes-zeros (residue (length content)))

AreBytes-two : (a b : ℕ) → AreBytes (number a ++ number b)
AreBytes-two a b = AreBytes-append (number a) (number b) (AreBytes-number a) (AreBytes-number b)

AreBytes-words : (head : CallHead) → AreBytes (call_words head)
AreBytes-words head =
    AreBytes-append (number head.xid ++ number 0 ++ number 2 ++ number head.prog ++ number head.vers) (number head.proc)
    (AreBytes-append (number head.xid ++ number 0 ++ number 2 ++ number head.prog) (number head.vers)
    (AreBytes-append (number head.xid ++ number 0 ++ number 2) (number head.prog)
    (AreBytes-append (number head.xid ++ number 0) (number 2) (AreBytes-two head.xid 0) (AreBytes-number 2))
    (AreBytes-number head.prog))
    (AreBytes-number head.vers))
    (AreBytes-number head.proc)

AreBytes-auth : (flavor : ℕ) (body : List ℕ) → AreBytes body → AreBytes (auth flavor body)
AreBytes-auth flavor body are = AreBytes-append (number flavor) (opaque body) (AreBytes-number flavor) (AreBytes-opaque body are)

AreBytes-credential : (cred : Credential) → AreBytes (credential cred)
AreBytes-credential credentials.None = AreBytes-auth 0 [] (λ i. omega arith)
AreBytes-credential (credentials.Sys uid) = AreBytes-auth 1 (sys_body uid) (AreBytes-sys uid)

AreBytes-rpcb : (r : Rpcb) → IsRpcb r → AreBytes (rpcb_spelling r)
AreBytes-rpcb r fits =
    AreBytes-append (number r.prog) _ (AreBytes-number r.prog)
    (AreBytes-append (number r.vers) _ (AreBytes-number r.vers)
    (AreBytes-append (opaque r.netid) _ (AreBytes-opaque r.netid fits.netid.2)
    (AreBytes-append (opaque r.addr) (opaque r.owner) (AreBytes-opaque r.addr fits.addr.2) (AreBytes-opaque r.owner fits.owner.2))))

AreBytes-call : (head : CallHead) → AreBytes (call_bytes head)
unfolding call_bytes
AreBytes-call head =
    AreBytes-append (call_words head ++ credential head.cred) auth_none
    (AreBytes-append (call_words head) (credential head.cred) (AreBytes-words head) (AreBytes-credential head.cred))
    (AreBytes-auth 0 [] (λ i. omega arith))

call-short : (row : Row) (owner : Owner) → row.owner ≡ owner → length (call_bytes (set_head row)) ≤ 60
unfolding call_bytes number opaque
call-short row Unknown e = rw e (omega arith)
call-short row (Uid uid) e = rw e (omega arith)

short-call : (row : Row) → IsSpelled row → can_be_set row ≡ true → HasShortCall row
short-call row is may =
    let fits = rpcb_fits row is may in
    let few : length (rpcb_spelling (rpcb_for row)) ≤ 308 = rpcb_bounded (rpcb_for row) fits in
    record {
      bytes = AreBytes-append (call_bytes (set_head row)) (rpcb_spelling (rpcb_for row)) (AreBytes-call (set_head row)) (AreBytes-rpcb (rpcb_for row) fits);
      short = omega (arith, few, call-short row row.owner refl, length-append (call_bytes (set_head row)) (rpcb_spelling (rpcb_for row)));
    }

pub kept_calls_are_short : KeptCallsAreShort
kept_calls_are_short s r = λ k d lt. short-call (get_or (set_rows s) k d) (rows_are_spelled s r k d lt) (rows_can_be_set s r.reached k d lt)

pub rows_can_be_set_again : RowsCanBeSetAgain
rows_can_be_set_again s r limits listener good room owned first_xid opened now = sets-again s r.reached (rows_are_spelled s r) limits listener good room owned first_xid opened now

pub kept_rows_are_restored : KeptRowsAreRestored
kept_rows_are_restored s r good = restored s r.reached good (rows_are_spelled s r)

pub kept_rows_are_in_no_statistics : KeptRowsAreInNoStatistics
kept_rows_are_in_no_statistics s r good =
    let anew = begun-anew (opened_again s) (kept_calls s) in (anew.0 ∙ kept_rows_are_restored s r good, anew.1)
