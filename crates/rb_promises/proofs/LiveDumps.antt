-- The rows that rpcinfo asks for are all live ones.
use Rattle.std.specs.Prelude.{All, codes, filter}
use Rattle.std.specs.Option.{option_map_or}
use Rattle.std.proofs.Common.{◌≡◌, ℕ, ◌<◌, ◌≤◌, ◌^◌, ◌==◌, Bool, true, false, cond, Option, Some, None, List, [], ◌∷◌, ◌++◌, length, get_or, refl, sym, ap, subst, ◌∙◌, arith, rules}
use Rattle.std.specs.Fmt.{decimal}
use Rattle.std.proofs.lemmas.Fmt.{length-decimal-le, IsAscii-decimal}
use Rattle.std.proofs.lemmas.List.{length-map}
use Rattle.std.proofs.lemmas.List.Elements.{All-append, All-map, All-weaker, All-filter}
use Rattle.std.proofs.Math.Seq.{drop-append_seam}
use Rattle.rb_xdr.specs.Xdr.{IsNumber, IsContent}
use Rattle.rb_address.specs.declared.who.Who.{Who}
use Rattle.rb_address.specs.declared.who.Owner.{Owner}
use Rattle.rb_address.specs.declared.who.Owner.TheVariants.{Unknown, Uid}
use Rattle.rb_rpc.specs.declared.call.CallHead.{CallHead}
use Rattle.rb_rpc.specs.declared.call.Verdict.TheVariants as verdicts
use Rattle.rb_address.specs.declared.caller.Caller.TheVariants.{Tcp}
use Rattle.rb_rpc.specs.CallBytes.{call_bytes}
use Rattle.rb_rpc.specs.Grammar.{IsHead, IsCaller, WrittenRepliesAreRead}
use Rattle.rb_rpc.proofs.Calls.{written_again}
use Rattle.rb_rpc.specs.declared.reply.ReplyStatus.TheVariants.{Success}
use Rattle.rb_rpc.specs.Replies.{reply_head}
use Rattle.rb_rpc.specs.Feeds.{arguments_of}
use Rattle.rb_address.specs.declared.netid.Netid.{Netid}
use Rattle.rb_address.specs.declared.netid.Netid.TheVariants as netids
use Rattle.rb_uaddr.specs.declared.address.Uaddr.{Uaddr}
use Rattle.rb_uaddr.specs.declared.address.Uaddr.TheVariants.{V4, V6}
use Rattle.rb_uaddr.specs.Uaddr.{IsUaddr, port_of, parse, ipv4_alone, ipv6_alone}
use Rattle.rb_uaddr.proofs.Families.{ipv4_is_read, ipv6_is_read}
use Rattle.rb_uaddr.proofs.GrammarLaws.{read_is_address}
use Rattle.rb_registry.specs.declared.row.Row.{Row}
use Rattle.rb_arguments.specs.declared.procedure.VoidProcedure.{VoidProcedure}
use Rattle.rb_arguments.specs.declared.procedure.VoidProcedure.TheVariants as voids
use Rattle.rb_arguments.specs.declared.request.Request.TheVariants as requests
use Rattle.rb_arguments.specs.Types.{IsMapping, IsRpcb}
use Rattle.rb_arguments.specs.Numbers.{is_void, is_mapping, is_rpcb, is_procedure, number_of}
use Rattle.rb_arguments.specs.Arguments.{procedure_at, is_known, request}
use Rattle.rb_arguments.proofs.Requests.{asked_request}
use Rattle.rb_answers.specs.declared.listener.Listener.{Listener}
use Rattle.rb_registry.specs.Items.{owner_text}
use Rattle.rb_answers.specs.Ledger.{rows_in, with_call_noted}
use Rattle.rb_answers.specs.Results.{is_inet, mapping_of, rpcb_of, result_bytes}
use Rattle.rb_registry.specs.Items.{prot_on}
use Rattle.rb_answers.specs.Netids.{address_in}
use Rattle.rb_answers.specs.Answers.{answer, can_be_set, shown_port}
use Rattle.rb_model.specs.declared.message.Message.{Message}
use Rattle.rb_model.specs.declared.message.Message.TheVariants as says
use Rattle.rb_model.specs.declared.types.Limits.{Limits}
use Rattle.rb_model.specs.Calls.{is_served, request_of, call_of, message_of, outcome}
use Rattle.rb_model.specs.Calls.Outcome.{Reply}
use Rattle.rb_model.specs.State.{State, are_good}
use Rattle.rb_model.specs.Step.{context_in, serve}
use Rattle.rb_model.specs.ChangeLaws.{credential_for, IsSpelled, set_rows}
use Rattle.rb_laws.proofs.Grammar.{by_verdict_again}
use Rattle.rb_laws.proofs.Ledgers.{ledgers_are_well_kept}
use Rattle.rb_laws.proofs.Restoring.{rpcb_fits, rows_can_be_set}
use Rattle.rb_laws.proofs.Spelling.{rows_are_spelled}
use Rattle.rb_show.specs.Asks.{credential_of, call_of as asking}
use Rattle.rb_show.specs.declared.ask.Question.{Question}
use Rattle.rb_show.specs.declared.ask.Question.TheVariants.{Rows, Short, Summary, OldRows, OldShort, OldSummary, Pmap}
use Rattle.rb_promises.specs.RowLists.{dump, pmap_dump}
use Rattle.rb_promises.specs.LiveRows.{IsAnsweredBy, DumpsAreAnswered, FitsDump, LiveRowsAreShown}
use Rattle.rb_promises.proofs.ReplyLines.{dumps_are_shown, mappings_are_shown}

-- ---- the calls

-- procedure 4 of a version
dump-head : ℕ → Option ℕ → ℕ → CallHead
dump-head vers uid xid = record { xid = xid; prog = 100000; vers = vers; proc = 4; cred = credential_of uid }

-- it has no arguments
dump-call : ℕ → Option ℕ → ℕ → List ℕ
dump-call vers uid xid = call_bytes (dump-head vers uid xid) ++ []

-- the call that asks this is of that version
abbrev Calls : Question → ℕ → Type 0
Calls question vers = (uid : Option ℕ) (xid : ℕ) → asking (record { question = question; uid = uid }) xid ≡ dump-call vers uid xid

rpcbind-asks : Calls Rows 3 × Calls Short 3 × Calls Summary 3
unfolding asking dump-call dump-head is_void is_mapping is_rpcb is_procedure number_of
rpcbind-asks = (λ uid xid. refl, λ uid xid. refl, λ uid xid. refl)

portmapper-asks : Calls OldRows 2 × Calls OldShort 2 × Calls OldSummary 2 × Calls Pmap 2
unfolding asking dump-call dump-head is_void is_mapping is_rpcb is_procedure number_of
portmapper-asks = (λ uid xid. refl, λ uid xid. refl, λ uid xid. refl, λ uid xid. refl)

head-fits : (vers : ℕ) (uid : Option ℕ) (xid : ℕ) → vers ≤ 4 → IsNumber xid → IsHead (dump-head vers uid xid)
unfolding dump-head
head-fits vers uid xid low fits = record { xid = fits; prog = omega arith; vers = omega (arith, low); proc = omega arith }

caller-is : (vers : ℕ) (uid : Option ℕ) (xid : ℕ) → IsCaller (credential_of uid) → IsCaller (dump-head vers uid xid).cred
unfolding dump-head
caller-is vers uid xid is = is

-- the message asks for this procedure
asked-for : ℕ → VoidProcedure → Option ℕ → ℕ → Message
asked-for vers procedure uid xid = says.Asked (record { head = dump-head vers uid xid; request = requests.Void procedure })

-- the versions whose DUMP is asked for, and its number in both: RFC 1833, sections 2.2.1 and 3.2
abbrev rpcbind : ℕ
rpcbind = 3

abbrev portmapper : ℕ
portmapper = 2

abbrev dump-number : ℕ
dump-number = 4

rpcbind-request : request rpcbind dump-number [] ≡ Some (requests.Void voids.Dump)
unfolding procedure_at
rpcbind-request = asked_request rpcbind dump-number [] (requests.Void voids.Dump) (refl, tt)

portmapper-request : request portmapper dump-number [] ≡ Some (requests.Void voids.PmapDump)
unfolding procedure_at
portmapper-request = asked_request portmapper dump-number [] (requests.Void voids.PmapDump) (refl, tt)

rpcbind-call : (uid : Option ℕ) (xid : ℕ) (arguments : List ℕ) → request rpcbind dump-number arguments ≡ Some (requests.Void voids.Dump) → call_of (dump-head 3 uid xid) arguments ≡ asked-for 3 voids.Dump uid xid
unfolding asked-for dump-head call_of request_of is_served is_known procedure_at
rpcbind-call uid xid arguments e = rw e refl

portmapper-call : (uid : Option ℕ) (xid : ℕ) (arguments : List ℕ) → request portmapper dump-number arguments ≡ Some (requests.Void voids.PmapDump) → call_of (dump-head 2 uid xid) arguments ≡ asked-for 2 voids.PmapDump uid xid
unfolding asked-for dump-head call_of request_of is_served is_known procedure_at
portmapper-call uid xid arguments e = rw e refl

dump-message : (vers : ℕ) (uid : Option ℕ) (xid : ℕ) (message : Message) → vers ≤ 4 → IsNumber xid → IsCaller (credential_of uid) → call_of (dump-head vers uid xid) [] ≡ message → message_of (dump-call vers uid xid) ≡ message
unfolding dump-call
dump-message vers uid xid message low fits caller is =
    let head : CallHead = dump-head vers uid xid in
    by_verdict_again (call_bytes head ++ []) (verdicts.Call head (length (call_bytes head))) (written_again head [] (head-fits vers uid xid low fits) (caller-is vers uid xid caller))
    ∙ ap (call_of head) (drop-append_seam (call_bytes head) []) ∙ is

-- ---- their answers

-- the results that a procedure without arguments lists
abbrev Lists : ℕ → VoidProcedure → State → List ℕ → Type 0
Lists vers procedure s results =
    (id : ℕ) (who : Who) (uid : Option ℕ) (xid : ℕ) (content : List ℕ) → message_of content ≡ asked-for vers procedure uid xid
    → (serve s (Tcp id who) content).0 ≡ Reply (reply_head xid Success ++ results) (Some (length s.ledger.changes))

lists-3 : (s : State) → Lists 3 voids.Dump s (dump (rows_in s.ledger))
unfolding serve outcome answer with_call_noted result_bytes asked-for dump-head
lists-3 s id who uid xid content is = ap (λ (m : Message). (outcome (context_in s (Tcp id who)) m (arguments_of content) s.ledger).0) is

lists-2 : (s : State) → Lists 2 voids.PmapDump s (pmap_dump (rows_in s.ledger))
unfolding serve outcome answer with_call_noted result_bytes asked-for dump-head
lists-2 s id who uid xid content is = ap (λ (m : Message). (outcome (context_in s (Tcp id who)) m (arguments_of content) s.ledger).0) is

answered-3 : (s : State) (question : Question) → Calls question 3 → IsAnsweredBy s question (dump (rows_in s.ledger))
answered-3 s question calls id who uid xid fits caller =
    lists-3 s id who uid xid (asking (record { question = question; uid = uid }) xid)
    (ap message_of (calls uid xid) ∙ dump-message 3 uid xid (asked-for 3 voids.Dump uid xid) (omega arith) fits caller (rpcbind-call uid xid [] rpcbind-request))

answered-2 : (s : State) (question : Question) → Calls question 2 → IsAnsweredBy s question (pmap_dump (rows_in s.ledger))
answered-2 s question calls id who uid xid fits caller =
    lists-2 s id who uid xid (asking (record { question = question; uid = uid }) xid)
    (ap message_of (calls uid xid) ∙ dump-message 2 uid xid (asked-for 2 voids.PmapDump uid xid) (omega arith) fits caller (portmapper-call uid xid [] portmapper-request))

pub dumps_are_answered : DumpsAreAnswered
dumps_are_answered s = record {
  each = answered-3 s Rows rpcbind-asks.0;
  short = answered-3 s Short rpcbind-asks.1;
  summary = answered-3 s Summary rpcbind-asks.2;
  old_each = answered-2 s OldRows portmapper-asks.0;
  old_short = answered-2 s OldShort portmapper-asks.1;
  old_summary = answered-2 s OldSummary portmapper-asks.2;
  table = answered-2 s Pmap portmapper-asks.3;
}

-- ---- all live rows fit

owner-fits : (owner : Owner) → IsCaller (credential_for owner) → IsContent 128 (owner_text owner)
unfolding owner_text
owner-fits Unknown is = search rules
owner-fits (Uid uid) is = by_root (uid == 0)
  where
    by_root : (b : Bool) → IsContent 128 (cond b (codes "superuser") (decimal uid))
    by_root true = search rules
    by_root false =
        let few : length (decimal uid) ≤ 10 = length-decimal-le 10 uid (omega arith) (omega (arith, is)) (omega (arith, is)) in
        let ascii = IsAscii-decimal uid (omega (arith, is)) in
        (omega (arith, few), omega (arith, few), λ i. omega (arith, ascii i))

row-fits : (row : Row) → IsSpelled row → can_be_set row ≡ true → FitsDump row
row-fits row is may =
    let f = rpcb_fits row is may in
    record { prog = f.prog; vers = f.vers; netid = f.netid; addr = f.addr; owner = owner-fits row.owner is.owner }

-- ---- and so do those of version 2

read-as-v4 : (o : Option Uaddr) (u : Uaddr) → ipv4_alone o ≡ Some u → o ≡ Some u
read-as-v4 None u is = absurd cc
read-as-v4 (Some (V4 host port)) u is = is
read-as-v4 (Some (V6 host port)) u is = absurd cc

read-as-v6 : (o : Option Uaddr) (u : Uaddr) → ipv6_alone o ≡ Some u → o ≡ Some u
read-as-v6 None u is = absurd cc
read-as-v6 (Some (V4 host port)) u is = absurd cc
read-as-v6 (Some (V6 host port)) u is = is

port-fits : (u : Uaddr) → IsUaddr u → port_of u < 2 ^ 32
unfolding port_of
port-fits (V4 host port) is = omega (arith, is.1)
port-fits (V6 host port) is = omega (arith, is.1)

address-fits : (netid : Netid) (text : List ℕ) (u : Uaddr) → address_in netid text ≡ Some u → IsUaddr u
unfolding address_in
address-fits netids.Tcp text u is = read_is_address text u (read-as-v4 (parse text) u (ipv4_is_read text ∙ is))
address-fits netids.Udp text u is = read_is_address text u (read-as-v4 (parse text) u (ipv4_is_read text ∙ is))
address-fits netids.Tcp6 text u is = read_is_address text u (read-as-v6 (parse text) u (ipv6_is_read text ∙ is))
address-fits netids.Udp6 text u is = read_is_address text u (read-as-v6 (parse text) u (ipv6_is_read text ∙ is))
address-fits netids.Local text u is = absurd cc

port-is-number : (row : Row) → IsNumber (shown_port row)
unfolding shown_port
port-is-number row = by_address (address_in row.netid row.addr) refl
  where
    by_address : (o : Option Uaddr) → address_in row.netid row.addr ≡ o → IsNumber (option_map_or port_of o 0)
    by_address None e = omega arith
    by_address (Some u) e = port-fits u (address-fits row.netid row.addr u e)

prot-is-number : (netid : Netid) → IsNumber (prot_on netid)
prot-is-number netids.Tcp = omega arith
prot-is-number netids.Udp = omega arith
prot-is-number netids.Tcp6 = omega arith
prot-is-number netids.Udp6 = omega arith
prot-is-number netids.Local = omega arith

mapping-fits : (row : Row) → FitsDump row → IsMapping (mapping_of row)
mapping-fits row fits = record { prog = fits.prog; vers = fits.vers; prot = prot-is-number row.netid; port = port-is-number row }

-- ---- all of them are shown

filtered-few : {A : Type 0} (test : A → Bool) (xs : List A) → length (filter test xs) ≤ length xs
filtered-few test [] = omega arith
filtered-few test (x ∷ xs) = by_test (test x) (filtered-few test xs)
  where
    by_test : (b : Bool) → length (filter test xs) ≤ length xs → length (cond b (x ∷ filter test xs) (filter test xs)) ≤ length (x ∷ xs)
    by_test true few = omega (arith, few)
    by_test false few = omega (arith, few)

good-limit : (limits : Limits) (listener : Listener) → are_good limits listener ≡ true → limits.rows ≤ 4096
good-limit limits listener good = grind arith

pub live_rows_are_shown : WrittenRepliesAreRead → LiveRowsAreShown
live_rows_are_shown again s reached good own form =
    let kept = ledgers_are_well_kept s reached.reached in
    let set : All FitsDump (set_rows s) = λ k d low. row-fits (get_or (set_rows s) k d) (rows_are_spelled s reached k d low) (rows_can_be_set s reached.reached k d low) in
    let first : All FitsDump s.ledger.own = subst (All FitsDump) (sym kept.own) own in
    let all : All FitsDump (rows_in s.ledger) = All-append FitsDump s.ledger.own (set_rows s) first set in
    let few = kept.fit good in
    let limit = good-limit s.setting.limits s.setting.listener good in
    let inet : List Row = filter is_inet (rows_in s.ledger) in
    let fewer = filtered-few is_inet (rows_in s.ledger) in
    let fit : All (λ row. IsMapping (mapping_of row)) inet = All-weaker FitsDump (λ row. IsMapping (mapping_of row)) mapping-fits inet (All-filter is_inet FitsDump (rows_in s.ledger) all) in
    record {
      dumps = dumps_are_shown again form (rows_in s.ledger) (All-map IsRpcb rpcb_of (rows_in s.ledger) all) (omega (arith, few, limit, length-map (rows_in s.ledger) rpcb_of));
      mappings = mappings_are_shown again form (rows_in s.ledger) (All-map IsMapping mapping_of inet fit) (omega (arith, few, fewer, limit, length-map inet mapping_of));
    }
