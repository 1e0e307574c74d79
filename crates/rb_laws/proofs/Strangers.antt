-- What a stranger's call counts is of what is registered.
use Rattle.std.specs.Prelude.{find}
use Rattle.std.specs.List.{Contains}
use Rattle.std.proofs.Common.{◌≡◌, ℕ, suc, ◌==◌, Bool, true, false, Option, Some, None, List, [], ◌∷◌, refl, subst, All, arith}
use Rattle.std.proofs.lemmas.Bool.{and_parts, eqb-true}
use Rattle.std.proofs.lemmas.Option.{same_Some}
use Rattle.std.proofs.lemmas.List.Elements.{All-nil, All-cons}
use Rattle.rb_address.specs.declared.netid.Netid.{Netid}
use Rattle.rb_address.specs.declared.netid.Netid.TheVariants.{Tcp, Udp, Tcp6, Udp6, Local}
use Rattle.rb_address.specs.declared.netid.Transport.{Transport}
use Rattle.rb_address.specs.declared.who.Trust.TheVariants.{Stranger}
use Rattle.rb_address.specs.Netids.{is_netid, netid_of, transport_of_protocol}
use Rattle.rb_rpc.specs.declared.call.CallHead.{CallHead}
use Rattle.rb_rpc.specs.Feeds.{arguments_of}
use Rattle.rb_registry.specs.declared.row.Row.{Row}
use Rattle.rb_registry.specs.declared.row.Which.TheVariants.{Inet}
use Rattle.rb_registry.specs.Rows.{is_on, is_row, find_exact, find_row}
use Rattle.rb_registry.specs.Laws.{IsFound}
use Rattle.rb_registry.proofs.FoundLaws.{version_is_found}
use Rattle.rb_stats.specs.declared.key.Target.{Target}
use Rattle.rb_stats.specs.Statistics.{Note}
use Rattle.rb_stats.specs.Statistics.Note.{LookedUp, WasSet, WasUnset}
use Rattle.rb_arguments.specs.declared.mapping.Mapping.{Mapping}
use Rattle.rb_arguments.specs.declared.procedure.MappingProcedure.TheVariants as mappings
use Rattle.rb_arguments.specs.declared.procedure.RpcbProcedure.TheVariants as rpcbs
use Rattle.rb_arguments.specs.declared.request.Request.{Request}
use Rattle.rb_arguments.specs.declared.request.Request.TheVariants as requests
use Rattle.rb_answers.specs.declared.answers.Value.TheVariants as values
use Rattle.rb_answers.specs.declared.context.Context.{Context}
use Rattle.rb_answers.specs.Callers.{who_of}
use Rattle.rb_answers.specs.Netids.{which_of}
use Rattle.rb_answers.specs.Ledger.{Ledger, rows_in, version_of, with_call_noted, notes_where}
use Rattle.rb_answers.specs.Results.{result_bytes}
use Rattle.rb_answers.specs.Answers.{comes_from_here, owner_in, row_of_mapping, row_of_rpcb, set_row, unset_rows, target_of, netid_asked, answer_to, answer, tell_done}
use Rattle.rb_answers.specs.Forwarding.{outcome_note}
use Rattle.rb_model.specs.declared.message.Message.{Message}
use Rattle.rb_model.specs.declared.message.Message.TheVariants as says
use Rattle.rb_model.specs.Calls.{Outcome, Outcome as outcomes, message_of, outcome, reply_with}
use Rattle.rb_model.specs.State.{at_moment}
use Rattle.rb_model.specs.Step.{context_in, serve}
use Rattle.rb_model.specs.ChangeLaws.{is_told_true, Brought}
use Rattle.rb_model.specs.HistoryLaws.{call_note, lookup_notes, getport_notes, failure_notes, notes_done, notes_of}
use Rattle.rb_model.specs.CallerLaws.{IsOfTheRegistered, StrangersBringNoKeys}
use Rattle.rb_laws.proofs.Callers.{no-stranger}
use Rattle.rb_laws.proofs.Changes.{told-true, set-here, unset-here}

-- ---- the row that is found

found-there : (test : Row → Bool) (rows : List Row) (row : Row) → find test rows ≡ Some row → Contains rows row × (test row ≡ true)
found-there test [] row is = absurd cc
found-there test (x ∷ rows) row is = by_test (test x) refl (found-there test rows row)
  where
    by_test : (b : Bool) → test x ≡ b → (find test rows ≡ Some row → Contains rows row × (test row ≡ true)) → Contains (x ∷ rows) row × (test row ≡ true)
    by_test true t further =
        let same : x ≡ row = same_Some x row (rw t at is) in ((0, omega arith, same), subst (λ (r : Row). test r ≡ true) same t)
    by_test false t further = let later = further (rw t at is) in ((suc later.0.0, omega (arith, later.0.1), later.0.2), later.1)

same-netid : (netid other : Netid) → is_netid netid other ≡ true → netid ≡ other
unfolding is_netid
same-netid Tcp Tcp h = refl
same-netid Udp Udp h = refl
same-netid Tcp6 Tcp6 h = refl
same-netid Udp6 Udp6 h = refl
same-netid Local Local h = refl
same-netid _ _ h = absurd cc

-- it is there, of this program, on this netid
abbrev IsThere : List Row → ℕ → Netid → Row → Type 0
IsThere rows prog netid row = Contains rows row × (is_on prog netid row ≡ true)

row-there : (prog vers : ℕ) (netid : Netid) (rows : List Row) (row : Row) → find_row prog vers netid rows ≡ Some row → IsThere rows prog netid row
row-there prog vers netid rows row is =
    let found : IsFound prog vers netid rows (Some row) = subst (IsFound prog vers netid rows) is (version_is_found prog vers netid rows) in (found.0, found.1)

exact-there : (prog vers : ℕ) (netid : Netid) (rows : List Row) (row : Row) → find_exact prog vers netid rows ≡ Some row → IsThere rows prog netid row
unfolding find_exact is_row
exact-there prog vers netid rows row is =
    let found = found-there (is_row prog vers netid) rows row is in (found.0, (and_parts (is_on prog netid row) (row.vers == vers) found.1).0)

-- ---- what is counted

module _ (context : Context) (rows : List Row) (unknown : (who_of context.caller).trust ≡ Stranger) where
  -- the notes are of rows that are live
  abbrev AreRegistered : List Note → Type 0
  AreRegistered notes = All (IsOfTheRegistered rows) notes

  none : AreRegistered []
  none = All-nil (IsOfTheRegistered rows)

  one : (note : Note) → IsOfTheRegistered rows note → AreRegistered (note ∷ [])
  one note is = All-cons (IsOfTheRegistered rows) note [] is none

  lookup-registered : (head : CallHead) (target : Target) (found : Option Row) → ((row : Row) → found ≡ Some row → IsThere rows target.prog target.netid row)
      → AreRegistered (lookup_notes context head target found)
  unfolding is_on
  lookup-registered head target None there = rw unknown none
  lookup-registered head target (Some row) there = rw unknown (by_test (row.vers == target.vers) refl)
    where
      by_test : (b : Bool) → (row.vers == target.vers) ≡ b → AreRegistered (notes_where b (LookedUp (version_of head.vers) target true))
      by_test false e = none
      by_test true e =
          let is = there row refl in
          let on = and_parts (row.prog == target.prog) (is_netid row.netid target.netid) is.1 in
          one (LookedUp (version_of head.vers) target true)
          (is.0.0, row, is.0.1, is.0.2, (eqb-true row.prog target.prog on.0, eqb-true row.vers target.vers e, same-netid row.netid target.netid on.1))

  getport-registered : (head : CallHead) (m : Mapping) (o : Option Transport) → AreRegistered (getport_notes context head m rows o)
  getport-registered head m None = none
  getport-registered head m (Some transport) =
      lookup-registered head (record { prog = m.prog; vers = m.vers; netid = netid_of transport }) (find_row m.prog m.vers (netid_of transport) rows) (row-there m.prog m.vers (netid_of transport) rows)

  failure-registered : (said : Outcome) (note : Note) → AreRegistered (failure_notes context.caller said note)
  failure-registered outcomes.Forwarded note = none
  failure-registered outcomes.NoCall note = rw unknown none
  failure-registered (outcomes.Reply reply stamp) note = rw unknown none
  failure-registered outcomes.Silent note = rw unknown none

  -- a stranger is not told TRUE
  done-registered : (xid : ℕ) (note : Note) (done : Bool × Ledger) → (done.0 ≡ true → comes_from_here context ≡ true)
      → AreRegistered (notes_where (is_told_true xid (reply_with context xid (tell_done values.Bool done)).0) note)
  unfolding result_bytes comes_from_here
  done-registered xid note (true, new) here = absurd (no-stranger context.announced (who_of context.caller) unknown (here refl))
  done-registered xid note (false, new) here = rw (told-true context.caller xid false (λ e. absurd cc)) none

  request-registered : (head : CallHead) (request : Request) (arguments : List ℕ) (l : Ledger)
      → AreRegistered (notes_done context head request (reply_with context head.xid (answer_to context head request arguments l)).0 rows)
  request-registered head (requests.Mapping mappings.Set m) arguments l =
      let row : Option Row = row_of_mapping (owner_in context head) m in
      done-registered head.xid (WasSet (version_of head.vers)) (set_row context head row l) (set-here context head row l)
  request-registered head (requests.Mapping mappings.Unset m) arguments l =
      done-registered head.xid (WasUnset (version_of head.vers)) (unset_rows context head m.prog m.vers (Some Inet) l) (unset-here context head m.prog m.vers (Some Inet) l)
  request-registered head (requests.Mapping mappings.Getport m) arguments l = getport-registered head m (transport_of_protocol m.prot)
  request-registered head (requests.Rpcb rpcbs.Set r) arguments l =
      let row : Option Row = row_of_rpcb (owner_in context head) r in
      done-registered head.xid (WasSet (version_of head.vers)) (set_row context head row l) (set-here context head row l)
  request-registered head (requests.Rpcb rpcbs.Unset r) arguments l =
      done-registered head.xid (WasUnset (version_of head.vers)) (unset_rows context head r.prog r.vers (which_of r.netid) l) (unset-here context head r.prog r.vers (which_of r.netid) l)
  request-registered head (requests.Rpcb rpcbs.Getaddr r) arguments l =
      lookup-registered head (target_of context r) (find_row r.prog r.vers (netid_asked context) rows) (row-there r.prog r.vers (netid_asked context) rows)
  request-registered head (requests.Rpcb rpcbs.Getversaddr r) arguments l =
      lookup-registered head (target_of context r) (find_exact r.prog r.vers (netid_asked context) rows) (exact-there r.prog r.vers (netid_asked context) rows)
  request-registered head (requests.Rpcb rpcbs.Getaddrlist r) arguments l = none
  request-registered head (requests.Void procedure) arguments l = none
  request-registered head (requests.Uaddr2taddr text) arguments l = none
  request-registered head (requests.Taddr2uaddr netbuf) arguments l = none
  request-registered head (requests.Forward kind remote) arguments l =
      failure-registered (reply_with context head.xid (answer_to context head (requests.Forward kind remote) arguments l)).0 (outcome_note kind context.caller remote.prog remote.vers remote.proc false)

  message-registered : (message : Message) (arguments : List ℕ) (l : Ledger) → AreRegistered (notes_of context message (outcome context message arguments l).0 rows)
  unfolding outcome answer
  message-registered says.NoCall arguments l = none
  message-registered (says.Refused head) arguments l = none
  message-registered (says.Garbage head) arguments l = one (call_note head) tt
  message-registered (says.Asked call) arguments l =
      All-cons (IsOfTheRegistered rows) (call_note call.head) (notes_done context call.head call.request (outcome context (says.Asked call) arguments l).0 rows) tt
      (request-registered call.head call.request arguments (with_call_noted call.head l))

pub strangers_bring_no_keys : StrangersBringNoKeys
unfolding serve
strangers_bring_no_keys s event b =
    let m : Brought = b.message in
    rw b.brings (message-registered (context_in (at_moment m.now s) m.caller) (rows_in s.ledger) b.trusts (message_of m.content) (arguments_of m.content) s.ledger)
