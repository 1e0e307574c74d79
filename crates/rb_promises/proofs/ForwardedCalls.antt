-- Calls are forwarded exactly if a row is found to which they may go, and there is room.
use Rattle.std.proofs.Common.{◌≡◌, ◌≢◌, ◌↔◌, ℕ, ◌-◌, ◌^◌, ◌==◌, Bool, true, false, cond, ◌⊎◌, inl, inr, List, length, Option, Some, None, option_and_then, refl, sym, ap, subst, ◌∙◌}
use Rattle.std.proofs.lemmas.Bool.{and_parts, eqb-false, ne_eqb, lt-ltb, ltb-true, le-leb, leb-true, false≢true}
use Rattle.std.proofs.lemmas.Option.{none-some}
use Rattle.rb_uaddr.specs.declared.address.Uaddr.{Uaddr}
use Rattle.rb_address.specs.declared.host.Family.TheVariants.{Inet, Inet6}
use Rattle.rb_address.specs.declared.host.Host.{Host}
use Rattle.rb_address.specs.declared.host.Host.TheVariants.{V4, V6}
use Rattle.rb_address.specs.declared.netid.Netid.{Netid}
use Rattle.rb_address.specs.declared.netid.Netid.TheVariants.{Udp, Udp6}
use Rattle.rb_address.specs.declared.who.Source.{Source}
use Rattle.rb_address.specs.declared.who.Source.TheVariants as sources
use Rattle.rb_address.specs.Hosts.{family_of}
use Rattle.rb_rpc.specs.declared.call.CallHead.{CallHead}
use Rattle.rb_arguments.specs.declared.kind.Kind.{Kind}
use Rattle.rb_arguments.specs.declared.kind.Kind.TheVariants.{Callit2, Callit3, Bcast, Indirect}
use Rattle.rb_rpc.specs.declared.reply.ReplyStatus.{ReplyStatus}
use Rattle.rb_rpc.specs.declared.reply.ReplyStatus.TheVariants as replies
use Rattle.rb_forward.specs.Forwards.{can_start}
use Rattle.rb_registry.specs.declared.row.Row.{Row}
use Rattle.rb_registry.specs.Rows.{rpcb_prog, find_exact}
use Rattle.rb_arguments.specs.declared.remote.RemoteCall.{RemoteCall}
use Rattle.rb_arguments.specs.Remote.{args_of}
use Rattle.rb_answers.specs.declared.answers.Answer.{Answer}
use Rattle.rb_answers.specs.declared.answers.Answer.TheVariants as answers
use Rattle.rb_answers.specs.declared.context.Context.{Context}
use Rattle.rb_answers.specs.Callers.{who_of}
use Rattle.rb_answers.specs.Ledger.{Ledger, rows_in}
use Rattle.rb_answers.specs.Terms.{may_go}
use Rattle.rb_answers.specs.Forwarding.{netid_to_forward, address_of_row, address_to_forward, peer_of_address, if_may_go, address_asked, refusal, forward_to, forward_call}
use Rattle.rb_promises.specs.Forwards.{GoesBy, CanGo, GoesTo, HasRoom, IsRefused, AnswersForward, CallsAreForwardedExactly}
use Rattle.rb_promises.proofs.Found.{row_is_found_exactly}
use Rattle.rb_promises.proofs.MayGo.{registered_at, has_address, may_exactly}

-- ---- by which netid

udp_of : (host : Host) → ((family_of host ≡ Inet) × (netid_to_forward (sources.Inet (record { host = host; port = 0 })) ≡ Udp)) ⊎ ((family_of host ≡ Inet6) × (netid_to_forward (sources.Inet (record { host = host; port = 0 })) ≡ Udp6))
udp_of (V4 octets) = inl (refl, refl)
udp_of (V6 octets) = inr (refl, refl)

pub goes_by : (source : Source) → GoesBy source (netid_to_forward source)
goes_by (sources.Inet peer) = udp_of peer.host
goes_by sources.Local = refl

-- ---- to which row

module _ (context : Context) (remote : RemoteCall) where
  abbrev address_at : Option Row → Option Uaddr
  address_at found = if_may_go context remote (cond (remote.prog == rpcb_prog) None (option_and_then address_of_row found))

  module _ (row : Row) where
    -- the row's address, if the call may go there
    may_be : (foreign : remote.prog ≢ 100000) (o : Option Uaddr) → address_of_row row ≡ o → (u : Uaddr) → if_may_go context remote o ≡ Some u → CanGo context remote row
    may_be foreign None is u e = absurd (none-some u e)
    may_be foreign (Some at) is u e = by_test (may_go context remote (peer_of_address at).host) refl e
      where
        by_test : (b : Bool) → may_go context remote (peer_of_address at).host ≡ b → cond b (Some at) None ≡ Some u → CanGo context remote row
        by_test true may e = record {
          foreign = foreign;
          host = (peer_of_address at).host;
          is_at = registered_at row at is;
          may = (may_exactly context remote (peer_of_address at).host).0 may;
        }
        by_test false may e = absurd (none-some u e)

    can_go : (u : Uaddr) → address_at (Some row) ≡ Some u → CanGo context remote row
    can_go u e = by_test (remote.prog == rpcb_prog) refl e
      where
        by_test : (b : Bool) → (remote.prog == rpcb_prog) ≡ b → if_may_go context remote (cond b None (address_of_row row)) ≡ Some u → CanGo context remote row
        by_test true own e = absurd (none-some u e)
        by_test false other e = may_be (eqb-false remote.prog 100000 other) (address_of_row row) refl u e

    goes : CanGo context remote row → (u : Uaddr) × (address_at (Some row) ≡ Some u)
    goes c =
        let (u, address, at) = has_address row c.host c.is_at in
        let may = (may_exactly context remote c.host).1 c.may in
        let there : may_go context remote (peer_of_address u).host ≡ true = ap (may_go context remote) at ∙ may in
        (u, rw (ne_eqb remote.prog 100000 c.foreign, address, there) refl)

  pub goes_is : (found : Option Row) (u : Uaddr) → address_at found ≡ Some u → GoesTo context remote found
  goes_is None u e = absurd (nowhere (remote.prog == rpcb_prog) e)
    where
      nowhere : (b : Bool) → if_may_go context remote (cond b None None) ≡ Some u → ⊥
      nowhere true e = none-some u e
      nowhere false e = none-some u e
  goes_is (Some row) u e = can_go row u e

  is_going : (found : Option Row) → GoesTo context remote found → (u : Uaddr) × (address_at found ≡ Some u)
  is_going None goes_to = absurd goes_to
  is_going (Some row) c = goes row c

  -- it goes there or it does not
  pub goes_or_not : (found : Option Row) → GoesTo context remote found ⊎ ¬ (GoesTo context remote found)
  goes_or_not found = by_address (address_at found) refl
    where
      by_address : (o : Option Uaddr) → address_at found ≡ o → GoesTo context remote found ⊎ ¬ (GoesTo context remote found)
      by_address None nowhere = inr (λ there. let (u, is) = is_going found there in none-some u (sym nowhere ∙ is))
      by_address (Some u) is = inl (goes_is found u is)

-- ---- what is answered

refused : (kind : Kind) (status : ReplyStatus) → IsRefused kind status (refusal kind status)
refused Callit2 status = inr (λ e. absurd cc, refl)
refused Callit3 status = inr (λ e. absurd cc, refl)
refused Bcast status = inr (λ e. absurd cc, refl)
refused Indirect status = inl (refl, refl)

not_forwarded : (kind : Kind) (status : ReplyStatus) → refusal kind status ≡ answers.Forwarded → ⊥
not_forwarded Callit2 status e = absurd cc
not_forwarded Callit3 status e = absurd cc
not_forwarded Bcast status e = absurd cc
not_forwarded Indirect status e = absurd cc

module _ (context : Context) (l : Ledger) where
  room_is : can_start context.forwards l.forwards ≡ true → HasRoom context l
  unfolding can_start
  room_is e =
      let (place, number) = and_parts _ _ e in
      record { place = ltb-true (length l.forwards.all) context.forwards place; number = leb-true l.forwards.next (2 ^ 64 - 1) number }

  is_room : HasRoom context l → can_start context.forwards l.forwards ≡ true
  unfolding can_start
  is_room r = rw (lt-ltb (length l.forwards.all) context.forwards r.place, le-leb l.forwards.next (2 ^ 64 - 1) r.number) refl

  -- there is room or there is none
  pub room_or_not : HasRoom context l ⊎ ¬ (HasRoom context l)
  room_or_not = by_test (can_start context.forwards l.forwards) refl
    where
      by_test : (b : Bool) → can_start context.forwards l.forwards ≡ b → HasRoom context l ⊎ ¬ (HasRoom context l)
      by_test true room = inl (room_is room)
      by_test false full = inr (λ room. false≢true (sym full ∙ is_room room))

module _ (context : Context) (head : CallHead) (kind : Kind) (remote : RemoteCall) (arguments : List ℕ) (l : Ledger) where
  abbrev netid : Netid
  netid = netid_to_forward (who_of context.caller).source

  abbrev found : Option Row
  found = find_exact remote.prog remote.vers netid (rows_in l)

  abbrev given : Option Uaddr → Answer × Ledger
  given address = forward_to context head.xid kind remote (args_of remote arguments) address l

  -- what is said of one answer
  record Answers (answer : Answer × Ledger) : Type 0 where
    exactly : (answer.0 ≡ answers.Forwarded) ↔ (GoesTo context remote found × HasRoom context l)
    unavailable : ¬ (GoesTo context remote found) → IsRefused kind replies.ProgUnavail answer.0
    no_room : GoesTo context remote found → ¬ (HasRoom context l) → IsRefused kind replies.SystemErr answer.0
    keeps : answer.0 ≢ answers.Forwarded → answer.1.forwards ≡ l.forwards
    own : answer.1.own ≡ l.own
    changes : answer.1.changes ≡ l.changes

  by_room : (u : Uaddr) → GoesTo context remote found → (b : Bool) → can_start context.forwards l.forwards ≡ b → Answers (given (Some u))
  by_room u there true room = rw room (record {
    exactly = (λ _. (there, room_is context l room), λ _. refl);
    unavailable = λ none. absurd (none there);
    no_room = λ _ none. absurd (none (room_is context l room));
    keeps = λ other. absurd (other refl);
    own = refl;
    changes = refl;
  })
  by_room u there false full = rw full (record {
    exactly = (λ e. absurd (not_forwarded kind replies.SystemErr e), λ both. absurd (false≢true (sym full ∙ is_room context l both.1)));
    unavailable = λ none. absurd (none there);
    no_room = λ _ _. refused kind replies.SystemErr;
    keeps = λ _. refl;
    own = refl;
    changes = refl;
  })

  by_address : (o : Option Uaddr) → address_at context remote found ≡ o → Answers (given o)
  by_address None nowhere =
      let none : GoesTo context remote found → ⊥ = λ there. let (u, is) = is_going context remote found there in none-some u (sym nowhere ∙ is) in
      record {
        exactly = (λ e. absurd (not_forwarded kind replies.ProgUnavail e), λ both. absurd (none both.0));
        unavailable = λ _. refused kind replies.ProgUnavail;
        no_room = λ there _. absurd (none there);
        keeps = λ _. refl;
        own = refl;
        changes = refl;
      }
  by_address (Some u) is = by_room u (goes_is context remote found u is) (can_start context.forwards l.forwards) refl

  pub asked_is : address_asked context remote (rows_in l) ≡ address_at context remote found
  unfolding address_to_forward
  asked_is = refl

  pub answers_forward : AnswersForward context head kind remote arguments l
  unfolding forward_call
  answers_forward =
      let a = subst (λ (o : Option Uaddr). Answers (given o)) (sym asked_is) (by_address (address_at context remote found) refl) in
      record {
        netid = netid;
        goes_by = goes_by (who_of context.caller).source;
        found = found;
        is_found = row_is_found_exactly remote.prog remote.vers netid (rows_in l);
        exactly = a.exactly;
        unavailable = a.unavailable;
        no_room = a.no_room;
        keeps = a.keeps;
        own = a.own;
        changes = a.changes;
      }

pub calls_are_forwarded_exactly : CallsAreForwardedExactly
calls_are_forwarded_exactly context head kind remote arguments l = answers_forward context head kind remote arguments l
