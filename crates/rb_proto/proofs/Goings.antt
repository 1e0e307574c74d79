-- Calls are forwarded to rows.
use Rattle.std.proofs.Common.{◌≡◌, ℕ, suc, Bool, true, false, cond, eqb, ◌&&◌, eq-eqb, List, [], ◌∷◌, Option, Some, None, refl, sym, subst, ◌∙◌, arith}
use Rattle.std.specs.Prelude.{◌≢◌, find, Contains, option_and_then}
use Rattle.std.proofs.lemmas.Bool.{eqb-true}
use Rattle.std.proofs.lemmas.Option.{none-some, same_Some}
use Rattle.rb_rpc.specs.declared.reply.ReplyStatus.{ReplyStatus}
use Rattle.rb_rpc.specs.declared.reply.ReplyStatus.TheVariants as replies
use Rattle.rb_uaddr.specs.declared.address.Uaddr.{Uaddr}
use Rattle.rb_address.specs.declared.netid.Netid.{Netid}
use Rattle.rb_address.specs.declared.netid.Netid.TheVariants.{Tcp, Udp, Tcp6, Udp6, Local}
use Rattle.rb_registry.specs.declared.row.Row.{Row}
use Rattle.rb_registry.specs.Rows.{rpcb_prog, is_on, is_row, find_exact}
use Rattle.rb_address.specs.Netids.{is_netid}
use Rattle.rb_forward.specs.declared.types.Forward.{Forward}
use Rattle.rb_arguments.specs.declared.kind.Kind.{Kind}
use Rattle.rb_arguments.specs.declared.kind.Kind.TheVariants.{Callit2, Callit3, Bcast, Indirect}
use Rattle.rb_forward.specs.Forwards.{can_start, with_next_entry}
use Rattle.rb_answers.specs.declared.answers.Answer.{Answer}
use Rattle.rb_answers.specs.declared.answers.Answer.TheVariants as answers
use Rattle.rb_answers.specs.declared.context.Context.{Context}
use Rattle.rb_arguments.specs.declared.remote.RemoteCall.{RemoteCall}
use Rattle.rb_arguments.specs.Remote.{args_of}
use Rattle.rb_answers.specs.Ledger.{Ledger, rows_in}
use Rattle.rb_answers.specs.Netids.{address_in}
use Rattle.rb_answers.specs.Callers.{who_of}
use Rattle.rb_answers.specs.Terms.{may_go}
use Rattle.rb_answers.specs.Forwarding.{netid_to_forward, address_of_row, address_to_forward, peer_of_address, if_may_go, address_asked, refusal, refuse, forward_of, forward_to, forward_call}
use Rattle.rb_proto.specs.ForwardLaws.{IsRegisteredAt, AsksRegistered, ForwardsGoToRows}

-- ---- the row

found_here : (test : Row → Bool) (rows : List Row) (row : Row) → find test rows ≡ Some row → Contains rows row × (test row ≡ true)
found_here test [] row h = absurd (none-some row h)
found_here test (x ∷ rows) row h = by_cases (test x) refl (found_here test rows row)
  where
    by_cases : (t : Bool) → test x ≡ t → (find test rows ≡ Some row → Contains rows row × (test row ≡ true)) → Contains (x ∷ rows) row × (test row ≡ true)
    by_cases true t further =
        let same : x ≡ row = same_Some x row (rw t at h) in
        ((0, omega arith, same), subst (λ (r : Row). test r ≡ true) same t)
    by_cases false t further = let l = further (rw t at h) in ((suc l.0.0, omega (arith, l.0.1), l.0.2), l.1)

both : (a b : Bool) → (a && b) ≡ true → (a ≡ true) × (b ≡ true)
both true b h = (refl, h)
both false b h = absurd cc

same_netid : (netid other : Netid) → is_netid netid other ≡ true → netid ≡ other
unfolding is_netid
same_netid Tcp Tcp h = refl
same_netid Udp Udp h = refl
same_netid Tcp6 Tcp6 h = refl
same_netid Udp6 Udp6 h = refl
same_netid Local Local h = refl
same_netid _ _ h = absurd cc

-- program, version and netid of a row that is_row finds
row_is : (prog vers : ℕ) (netid : Netid) (row : Row) → is_row prog vers netid row ≡ true
    → (row.prog ≡ prog) × (row.vers ≡ vers) × (row.netid ≡ netid)
unfolding is_row is_on
row_is prog vers netid row h =
    let whole = both (eqb row.prog prog && is_netid row.netid netid) (eqb row.vers vers) h in
    let front = both (eqb row.prog prog) (is_netid row.netid netid) whole.0 in
    (eqb-true row.prog prog front.0, eqb-true row.vers vers whole.1, same_netid row.netid netid front.1)

module _ (netid : Netid) (remote : RemoteCall) (rows : List Row) (address : Uaddr) where
  by_row : remote.prog ≢ rpcb_prog → (o : Option Row) → find_exact remote.prog remote.vers netid rows ≡ o
      → option_and_then address_of_row o ≡ Some address → IsRegisteredAt netid rows remote address
  unfolding find_exact
  by_row other None found is = absurd (none-some address is)
  by_row other (Some row) found is =
      let here = found_here (is_row remote.prog remote.vers netid) rows row found in
      let has = row_is remote.prog remote.vers netid row here.1 in
      record {
        row = row;
        is_there = here.0;
        prog = has.0;
        vers = has.1;
        netid_is = has.2;
        addr = subst (λ (n : Netid). address_in n row.addr ≡ Some address) has.2 is;
        is_other = other;
      }

  registered : address_to_forward netid remote.prog remote.vers rows ≡ Some address → IsRegisteredAt netid rows remote address
  unfolding address_to_forward
  registered is = by_prog (eqb remote.prog rpcb_prog) refl is
    where
      by_prog : (b : Bool) → eqb remote.prog rpcb_prog ≡ b
          → cond b None (option_and_then address_of_row (find_exact remote.prog remote.vers netid rows)) ≡ Some address
          → IsRegisteredAt netid rows remote address
      by_prog true own is = absurd (none-some address is)
      by_prog false own is =
          by_row (λ same. let clash : true ≡ false = sym (eq-eqb remote.prog rpcb_prog same) ∙ own in absurd cc)
          (find_exact remote.prog remote.vers netid rows) refl is

-- ---- the law

refusal_is_none : (kind : Kind) (status : ReplyStatus) → refusal kind status ≡ answers.Forwarded → ⊥
refusal_is_none Callit2 status e = absurd cc
refusal_is_none Callit3 status e = absurd cc
refusal_is_none Bcast status e = absurd cc
refusal_is_none Indirect status e = absurd cc

-- what may be called is where the call goes
went : (context : Context) (remote : RemoteCall) (found : Option Uaddr) (address : Uaddr) → if_may_go context remote found ≡ Some address
    → (may_go context remote (peer_of_address address).host ≡ true) × (found ≡ Some address)
went context remote None address is = absurd (none-some address is)
went context remote (Some other) address is = by_test (may_go context remote (peer_of_address other).host) refl is
  where
    by_test : (b : Bool) → may_go context remote (peer_of_address other).host ≡ b → cond b (Some other) None ≡ Some address
        → (may_go context remote (peer_of_address address).host ≡ true) × (Some other ≡ Some address)
    by_test true may is = let same : other ≡ address = same_Some other address is in (rw (← same) may, is)
    by_test false may is = absurd (none-some address is)

module _ (context : Context) (xid : ℕ) (kind : Kind) (remote : RemoteCall) (l : Ledger) where
  asks : (address : Uaddr) → address_asked context remote (rows_in l) ≡ Some address
      → AsksRegistered context (rows_in l) remote (forward_of context xid kind remote address)
  unfolding forward_of
  asks address is = record {
    address = address;
    may = goes.0;
    is_registered = registered (netid_to_forward (who_of context.caller).source) remote (rows_in l) address goes.1;
    target = refl;
    shown = refl;
    prog = refl;
    vers = refl;
    proc = refl;
    caller = refl;
  }
    where
      found : Option Uaddr
      found = address_to_forward (netid_to_forward (who_of context.caller).source) remote.prog remote.vers (rows_in l)

      goes : (may_go context remote (peer_of_address address).host ≡ true) × (found ≡ Some address)
      goes = went context remote found address is

  -- what is told and left, as an entry of a row
  abbrev Goes : List ℕ → Answer × Ledger → Type 0
  Goes args given =
      given.0 ≡ answers.Forwarded
      → (forward : Forward) × AsksRegistered context (rows_in l) remote forward × (given.1 ≡ record l { forwards = with_next_entry context.clock forward args l.forwards })

  by_address : (args : List ℕ) (found : Option Uaddr) → address_asked context remote (rows_in l) ≡ found
      → Goes args (forward_to context xid kind remote args found l)
  by_address args None is told = absurd (refusal_is_none kind replies.ProgUnavail told)
  by_address args (Some address) is told = by_room (can_start context.forwards l.forwards) told
    where
      begun : Answer × Ledger
      begun = (answers.Forwarded, record l { forwards = with_next_entry context.clock (forward_of context xid kind remote address) args l.forwards })

      by_room : (b : Bool) → Goes args (cond b begun (refuse context kind remote replies.SystemErr l))
      by_room true told = (forward_of context xid kind remote address, asks address is, refl)
      by_room false told = absurd (refusal_is_none kind replies.SystemErr told)

pub forwards_go_to_rows : ForwardsGoToRows
unfolding forward_call
forwards_go_to_rows context xid kind remote arguments l told =
    let goes = by_address context xid kind remote l (args_of remote arguments) (address_asked context remote (rows_in l)) refl told in
    record { forward = goes.0; asks = goes.1; left = goes.2 }
