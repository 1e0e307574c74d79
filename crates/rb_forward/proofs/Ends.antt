-- Which entry a call ends.
use Rattle.std.proofs.Common.{◌≡◌, ℕ, ◌≤◌, Bool, true, false, eqb, ◌&&◌, eq-eqb, List, [], ◌∷◌, Option, Some, None, refl, sym, ap, ◌∙◌, length}
use Rattle.std.specs.Prelude.{find, nat_le, nat_lt, bytes_eq}
use Rattle.std.specs.Option.{option_map}
use Rattle.std.proofs.lemmas.Bool.{eqb-true, lt-ltb, ltb-true, le-leb, leb-true}
use Rattle.std.proofs.lemmas.Slice.Eq.{bytes_eq-Decides}
use Rattle.rb_xdr.specs.Xdr.{word}
use Rattle.rb_address.specs.declared.peer.Peer.{Peer}
use Rattle.rb_address.specs.Hosts.{is_same_host}
use Rattle.rb_address.proofs.HostLaws.{same_host_is, same_host_of}
use Rattle.rb_address.specs.declared.caller.Caller.{Caller}
use Rattle.rb_address.specs.declared.caller.Caller.TheVariants.{Tcp, Udp}
use Rattle.rb_forward.specs.declared.types.ForwardEnd.{ForwardEnd}
use Rattle.rb_forward.specs.Forwards.{Entry, Forwards, xid_of, is_same_peer, is_answered, counts_for, is_connection, without_first, ended_by, with_end}
use Rattle.rb_forward.specs.Ends.{NoneIs, IsFirst, EndsFirst, IsReplyTo, IsOf}
use Rattle.rb_forward.proofs.Tables.{some_is, none_some, all_stay}

module _ (Is : Entry → Type 0) (test : Entry → Bool) (means : (e : Entry) → test e ≡ true → Is e) (tested : (e : Entry) → Is e → test e ≡ true) where
  never : (e : Entry) → test e ≡ false → Is e → ⊥
  never e f is = let t = tested e is in let clash : true ≡ false = sym t ∙ f in absurd cc

  none_is : (all : List Entry) → find test all ≡ None → NoneIs Is all
  none_is [] h = tt
  none_is (e ∷ all) h = by_cases (test e) refl (none_is all)
    where
      by_cases : (t : Bool) → test e ≡ t → (find test all ≡ None → NoneIs Is all) → NoneIs Is (e ∷ all)
      by_cases true t further = absurd (none_some e (sym (rw t at h)))
      by_cases false t further = (never e t, further (rw t at h))

  first_is : (all : List Entry) (e : Entry) → find test all ≡ Some e → IsFirst Is all e (without_first test all)
  first_is [] e h = absurd (none_some e h)
  first_is (x ∷ all) e h = by_cases (test x) refl (first_is all e)
    where
      by_cases : (t : Bool) → test x ≡ t → (find test all ≡ Some e → IsFirst Is all e (without_first test all)) → IsFirst Is (x ∷ all) e (without_first test (x ∷ all))
      by_cases true t further =
          let is : x ≡ e = some_is x e (rw t at h) in
          record {
            before = [];
            behind = all;
            all_are = ap (λ (y : Entry). y ∷ all) is;
            is_so = rw (← is) (means x t);
            is_first = tt;
            rest_are = rw t refl;
          }
      by_cases false t further =
          let l = further (rw t at h) in
          record {
            before = x ∷ l.before;
            behind = l.behind;
            all_are = ap (λ (ys : List Entry). x ∷ ys) l.all_are;
            is_so = l.is_so;
            is_first = (never x t, l.is_first);
            rest_are = rw t (ap (λ (ys : List Entry). x ∷ ys) l.rest_are);
          }

  pub ends_first : (outcome : ForwardEnd) (f : Forwards) → EndsFirst Is outcome f (with_end test outcome f).0 (with_end test outcome f).1
  ends_first outcome f = by_found (find test f.all) refl
    where
      by_found : (o : Option Entry) → find test f.all ≡ o → EndsFirst Is outcome f (option_map (ended_by outcome) o) (record f { all = without_first test f.all })
      by_found None h = (none_is f.all h, rw (all_stay test f.all h) refl)
      by_found (Some e) h = (e, first_is f.all e h, refl, refl)

-- ---- what the tests mean

both : (a b : Bool) → (a && b) ≡ true → (a ≡ true) × (b ≡ true)
both true b h = (refl, h)
both false b h = absurd cc

pub reply_means : (first_xid clock : ℕ) (from : Peer) (message : List ℕ) (e : Entry) → counts_for first_xid clock from message e ≡ true → IsReplyTo first_xid clock from message e
unfolding is_answered is_same_peer
reply_means first_xid clock from message e h =
    let peer : Bool = is_same_host e.forward.target.host from.host && eqb e.forward.target.port from.port in
    let xid : Bool = eqb (xid_of first_xid e.number) (word 0 message) in
    let whole = both (nat_le 4 (length message)) (((e.sent && peer) && xid) && nat_lt clock e.deadline) h in
    let timed = both ((e.sent && peer) && xid) (nat_lt clock e.deadline) whole.1 in
    let numbered = both (e.sent && peer) xid timed.0 in
    let come = both e.sent peer numbered.0 in
    let there = both (is_same_host e.forward.target.host from.host) (eqb e.forward.target.port from.port) come.1 in
    record {
      was_sent = come.0;
      host = sym (same_host_is e.forward.target.host from.host there.0);
      port = sym (eqb-true e.forward.target.port from.port there.1);
      has_xid = leb-true 4 (length message) whole.0;
      xid = sym (eqb-true (xid_of first_xid e.number) (word 0 message) numbered.1);
      in_time = ltb-true clock e.deadline timed.1;
    }

pub reply_tested : (first_xid clock : ℕ) (from : Peer) (message : List ℕ) (e : Entry) → IsReplyTo first_xid clock from message e → counts_for first_xid clock from message e ≡ true
unfolding is_answered is_same_peer
reply_tested first_xid clock from message e r =
    let long : nat_le 4 (length message) ≡ true = le-leb 4 (length message) r.has_xid in
    let host : is_same_host e.forward.target.host from.host ≡ true = same_host_of e.forward.target.host from.host (sym r.host) in
    let port : eqb e.forward.target.port from.port ≡ true = eq-eqb e.forward.target.port from.port (sym r.port) in
    let xid : eqb (xid_of first_xid e.number) (word 0 message) ≡ true = eq-eqb (xid_of first_xid e.number) (word 0 message) (sym r.xid) in
    let in_time : nat_lt clock e.deadline ≡ true = lt-ltb clock e.deadline r.in_time in
    rw (long, r.was_sent, host, port, xid, in_time) refl

pub due_means : (clock : ℕ) (e : Entry) → nat_le e.deadline clock ≡ true → e.deadline ≤ clock
due_means clock e h = leb-true e.deadline clock h

pub due_tested : (clock : ℕ) (e : Entry) → e.deadline ≤ clock → nat_le e.deadline clock ≡ true
due_tested clock e h = le-leb e.deadline clock h

pub of_means : (id : ℕ) (caller : Caller) → is_connection id caller ≡ true → IsOf id caller
of_means id (Tcp number who) h = eqb-true number id h
of_means id (Udp who longest) h = absurd cc

pub of_tested : (id : ℕ) (caller : Caller) → IsOf id caller → is_connection id caller ≡ true
of_tested id (Tcp number who) h = eq-eqb number id h
of_tested id (Udp who longest) h = absurd h
