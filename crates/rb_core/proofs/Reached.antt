-- A core that stands for a state that a run reaches goes on to one that does, and stays within the bounds of such a state.
use Rattle.std.specs.Prelude.{find, max}
use Rattle.std.proofs.Common.{◌≡◌, ◌≤◌, ℕ, min, eqb, Bool, true, false, cond, List, [], ◌∷◌, length, Option, Some, None, Result, Ok, Err, refl, sym, ap, subst, ◌∙◌, arith}
use Rattle.std.proofs.Math.Bridge.{le_prop}
use Rattle.std.proofs.Math.Logic.{∥∥₁_elim}
use Rattle.std.proofs.Math.Nat.{ℕ_set}
use Rattle.std.proofs.lemmas.Bool.{le-ltb}
use Rattle.rb_xdr.specs.Meter.{Meter, PaysAtMost}
use Rattle.rb_address.specs.declared.peer.Peer.{Peer}
use Rattle.rb_address.specs.declared.who.Who.{Who}
use Rattle.rb_answers.specs.declared.listener.Listener.{Listener}
use Rattle.rb_model.specs.declared.types.CoreFault.{CoreFault}
use Rattle.rb_model.specs.declared.types.Limits.{Limits}
use Rattle.rb_model.specs.declared.types.Expired.{Expired}
use Rattle.rb_model.specs.declared.types.Expired.TheVariants as expiries
use Rattle.rb_model.specs.declared.types.Taken.{Taken}
use Rattle.rb_model.specs.declared.types.Told.{Told}
use Rattle.rb_model.specs.State.{Setting, State, Connection, are_good, opening}
use Rattle.rb_model.specs.Bounds.{bytes_bound, steps_bound}
use Rattle.rb_model.specs.Calls.{Outcome}
use Rattle.rb_model.specs.Connections.{with_given, give, pending_in, live_connection, change_first, is_live, on_found}
use Rattle.rb_model.specs.Ending.{forward_reply, expire}
use Rattle.rb_model.specs.Exchanges.{count_now, without_front, exchange}
use Rattle.rb_model.specs.Gives.{write_fitting, unless_nothing, write_into, pieces_of, piece_events, first_piece}
use Rattle.rb_model.specs.Sessions.{pending_bytes}
use Rattle.rb_model.specs.Step.{Event, step, after, IsReached, open_connection, bytes, pending, pending_on, gave, close_connection, datagram, sent_call, zero_stats, show_taken, show_done, show_end, show_expired, output_or, is_too_much, unless_refused}
use Rattle.rb_model.specs.Step.Event.{Open, Bytes, Gave, Closed, Datagram, Sent, Forward, Expire, ZeroStats}
use Rattle.rb_model.specs.Step.Output.{Opened, TooMuch}
use Rattle.rb_laws.proofs.EntriesKept.{after-setting}
use Rattle.rb_laws.proofs.Gives.{gives_are_steps}
use Rattle.rb_laws.proofs.StepBounds.{reached-after}
use Rattle.rb_connections.specs.Slots.{Acts}
use Rattle.rb_core.specs.StandsFor.{CoreView, StandsFor}
use Rattle.rb_core.specs.HeldBytes.{held, IsListener}
use Rattle.rb_core.specs.Metered.{StandsForReached}
use Rattle.rb_core.proofs.Begun.{with_steps_before, stands_begun}
use Rattle.rb_core.proofs.CallBounds.{StaysWithinSteps, few_connections}
use Rattle.rb_core.proofs.HeldBytes.{never_passes}
use Rattle.rb_core.proofs.Outputs.{same_state, datagram_shown}

-- ---- a core that stands for such a state

pub new_reached : (core : CoreView) (l : Limits) (h : Listener) (xid now : ℕ) → StandsFor core (opening l h xid now) → are_good l h ≡ true → IsListener h → ∥ StandsForReached core ∥₁
new_reached core l h xid now stands good listener = ∣ record {
  state = opening l h xid now;
  stands = stands;
  reached = record { limits = l; listener = h; first_xid = xid; now = now; events = []; is = refl };
  good = good;
  listener = listener;
} ∣₁

-- it goes on by events
pub reached_on : (old new : CoreView) (events : State → List Event) → ((s : State) → StandsFor old s → StandsFor new (after s (events s))) → ∥ StandsForReached old ∥₁ → ∥ StandsForReached new ∥₁
reached_on old new events stands was =
    ∥∥₁_elim was squash₁ (λ h.
    let same = after-setting h.state (events h.state) in
    ∣ record {
      state = after h.state (events h.state);
      stands = stands h.state h.stands;
      reached = reached-after h.state (events h.state) h.reached;
      good = subst (λ (x : Setting). are_good x.limits x.listener ≡ true) (sym same) h.good;
      listener = subst (λ (x : Setting). IsListener x.listener) (sym same) h.listener;
    } ∣₁)

-- by an event of which this state comes
by_event : (old new : CoreView) (event : Event) (next : State → State) → ((s : State) → (step s event).1 ≡ next s) → ((s : State) → StandsFor old s → StandsFor new (next s)) → ∥ StandsForReached old ∥₁ → ∥ StandsForReached new ∥₁
by_event old new event next is stands =
    reached_on old new (λ s. event ∷ []) (λ s h. subst (λ (t : State). StandsFor new t) (sym (is s)) (stands s h))

-- a look changes nothing that a state has
pub begun_reached : (old new : CoreView) (n : ℕ) → new ≡ with_steps_before old n → ∥ StandsForReached old ∥₁ → ∥ StandsForReached new ∥₁
begun_reached old new n is = reached_on old new (λ s. []) (stands_begun old new n is)

pub end_state : (x : Option Told × State) → (show_end x).1 ≡ x.1
end_state (None, s) = refl
end_state (Some told, s) = refl

pub expired_state : (x : Expired × State) → (show_expired x).1 ≡ x.1
expired_state (expiries.Nothing, s) = refl
expired_state (expiries.Ended told, s) = refl
expired_state (expiries.ConnectionLost id, s) = refl

module _ (old new : CoreView) (was : ∥ StandsForReached old ∥₁) where
  pub opened_reached : (now : ℕ) (who : Who) (r : Result ℕ CoreFault) → Acts StandsFor (λ s. open_connection s now who) old new r → ∥ StandsForReached new ∥₁
  unfolding step
  opened_reached now who r acts = by_event old new (Open now who) (λ s. (open_connection s now who).1) (λ s. same_state Opened (open_connection s now who)) acts.stands was

  pub closed_reached : (id : ℕ) (r : Result (Unit {0}) CoreFault) → Acts StandsFor (λ s. close_connection s id) old new r → ∥ StandsForReached new ∥₁
  unfolding step
  closed_reached id r acts = by_event old new (Closed id) (λ s. (close_connection s id).1) (λ s. same_state show_done (close_connection s id)) acts.stands was

  pub sent_reached : (number : ℕ) (r : Result (Unit {0}) CoreFault) → Acts StandsFor (λ s. sent_call s number) old new r → ∥ StandsForReached new ∥₁
  unfolding step
  sent_reached number r acts = by_event old new (Sent number) (λ s. (sent_call s number).1) (λ s. same_state show_done (sent_call s number)) acts.stands was

  pub zeroed_reached : Acts StandsFor (λ s. (tt {0}, zero_stats s)) old new (tt {0}) → ∥ StandsForReached new ∥₁
  unfolding step
  zeroed_reached acts = by_event old new ZeroStats zero_stats (λ s. refl) acts.stands was

  pub answered_reached : (now : ℕ) (who : Who) (content : List ℕ) (given : Outcome) → Acts StandsFor (λ s. datagram s now who content) old new given → ∥ StandsForReached new ∥₁
  unfolding step
  answered_reached now who content given acts =
      reached_on old new (λ s. Datagram now who content ∷ []) (λ s h. (datagram_shown old new (λ t. datagram t now who content) given acts s h).1) was

  pub replied_reached : (now : ℕ) (from : Peer) (message : List ℕ) (r : Option Told) → Acts StandsFor (λ s. forward_reply s now from message) old new r → ∥ StandsForReached new ∥₁
  unfolding step
  replied_reached now from message r acts = by_event old new (Forward now from message) (λ s. (forward_reply s now from message).1) (λ s. end_state (forward_reply s now from message)) acts.stands was

  pub expired_reached : (now : ℕ) (r : Expired) → Acts StandsFor (λ s. expire s now) old new r → ∥ StandsForReached new ∥₁
  unfolding step
  expired_reached now r acts = by_event old new (Expire now) (λ s. (expire s now).1) (λ s. expired_state (expire s now)) acts.stands was

-- ---- bytes that were given

-- only the connection that is found is changed
one_changed : (b : Bool) (f g : Connection → Connection) (x c : Connection) (xs ys zs : List Connection) (m : Option Connection) → cond b (Some x) m ≡ Some c → f c ≡ g c → (m ≡ Some c → ys ≡ zs) → cond b (f x ∷ xs) (x ∷ ys) ≡ cond b (g x ∷ xs) (x ∷ zs)
one_changed true f g x c xs ys zs m found same rest = let here : f x ≡ g x = subst (λ (y : Connection). f y ≡ g y) (sym (some_is x c found)) same in ap (λ (y : Connection). y ∷ xs) here
  where
    some_is : (a b : Connection) → ◌≡◌ {A = Option Connection} (Some a) (Some b) → a ≡ b
    some_is a b e = cc
one_changed false f g x c xs ys zs m found same rest = ap (λ (all : List Connection). x ∷ all) (rest found)

changed_alike : (test : Connection → Bool) (f g : Connection → Connection) (all : List Connection) (c : Connection) → find test all ≡ Some c → f c ≡ g c → change_first test f all ≡ change_first test g all
changed_alike test f g [] c found same = absurd cc
changed_alike test f g (x ∷ xs) c found same = one_changed (test x) f g x c xs (change_first test f xs) (change_first test g xs) (find test xs) found same (λ is. changed_alike test f g xs c is same)

-- as many as are pending, if more are counted
abbrev few : ℕ → ℕ → State → ℕ
few id n s = min n (first_piece s id)

gave_few : (s : State) (now id n : ℕ) → gave s now id (few id n s) ≡ gave s now id n
unfolding gave give pending live_connection
gave_few s now id n = by_found (find (is_live id) s.connections.all) refl
  where
    by_found : (m : Option Connection) → find (is_live id) s.connections.all ≡ m
        → unless_refused now s (on_found id (give (max s.clock now) (min n (length (pending_bytes (pending_on m))))) s.connections m)
        ≡ unless_refused now s (on_found id (give (max s.clock now) n) s.connections m)
    by_found None found = refl
    by_found (Some c) found =
        let p : ℕ = length (pending_in c.phase) in
        let same : min (min n p) p ≡ min n p = omega arith in
        ap (λ (all : List Connection). unless_refused now s (Ok tt, record s.connections { all = all }))
        (changed_alike (is_live id) (λ x. (give (max s.clock now) (min n p) x).1) (λ x. (give (max s.clock now) n x).1) s.connections.all c found
        (ap (λ (k : ℕ). with_given (max s.clock now) k c) same))

-- then it is not too much
gave_state : (s : State) (now id n : ℕ) → (step s (Gave now id (few id n s))).1 ≡ (gave s now id n).1
unfolding step
gave_state s now id n =
    ap (λ (b : Bool). (cond b (TooMuch, s) (output_or show_done (gave s now id (few id n s)))).1) (enough (pending s id) refl)
    ∙ same_state show_done (gave s now id (few id n s))
    ∙ ap (λ (r : Result (Unit {0}) CoreFault × State). r.1) (gave_few s now id n)
  where
    enough : (r : Result (List ℕ) CoreFault) → pending s id ≡ r → is_too_much (few id n s) r ≡ false
    enough (Err fault) is = refl
    enough (Ok owed) is = le-ltb (length owed) (few id n s) (omega (arith, ap (λ (r : Result (List ℕ) CoreFault). length (pending_bytes r)) is))

pub gave_reached : (old new : CoreView) → ∥ StandsForReached old ∥₁ → (now id n : ℕ) (r : Result (Unit {0}) CoreFault) → Acts StandsFor (λ s. gave s now id n) old new r → ∥ StandsForReached new ∥₁
gave_reached old new was now id n r acts =
    reached_on old new (λ s. Gave now id (few id n s) ∷ []) (λ s h. subst (λ (t : State). StandsFor new t) (sym (gave_state s now id n)) (acts.stands s h)) was

bytes_state : (s : State) (now id : ℕ) (piece : List ℕ) → (step s (Bytes now id piece)).1 ≡ (bytes s now id piece).1
unfolding step
bytes_state s now id piece = same_state show_taken (bytes s now id piece)

-- the events of an `exchange`
abbrev exchange_events : ℕ → ℕ → List ℕ → ℕ → State → List Event
exchange_events now id piece n s = Bytes now id piece ∷ cond (eqb n 0) [] (Gave now id (few id n (bytes s now id piece).1) ∷ [])

exchange_state : (s : State) (now id n : ℕ) (piece : List ℕ) → after s (exchange_events now id piece n s) ≡ without_front now n id (bytes s now id piece).1
exchange_state s now id n piece =
    ap (λ (t : State). after t (cond (eqb n 0) [] (Gave now id (few id n (bytes s now id piece).1) ∷ []))) (bytes_state s now id piece)
    ∙ by_none (eqb n 0)
  where
    by_none : (b : Bool) → after (bytes s now id piece).1 (cond b [] (Gave now id (few id n (bytes s now id piece).1) ∷ [])) ≡ cond b (bytes s now id piece).1 (gave (bytes s now id piece).1 now id n).1
    by_none true = refl
    by_none false = gave_state (bytes s now id piece).1 now id n

pub exchanged_reached : (old new : CoreView) → ∥ StandsForReached old ∥₁ → (now id room : ℕ) (piece : List ℕ) (r : Result Taken CoreFault × List ℕ) → Acts StandsFor (exchange now id piece room) old new r → ∥ StandsForReached new ∥₁
exchanged_reached old new was now id room piece r acts =
    reached_on old new (λ s. exchange_events now id piece (count_now now id piece room s) s)
    (λ s h. subst (λ (t : State). StandsFor new t) (sym (exchange_state s now id (count_now now id piece room s) piece)) (acts.stands s h)) was

-- ---- bytes that were given into a room

-- if that is refused, the state stays
nothing_refused : (s : State) (r : Result (List ℕ) CoreFault × State) (fault : CoreFault) → Err fault ≡ (unless_nothing s r).0 → Err fault ≡ r.0
nothing_refused s (Ok [], new) fault is = absurd cc
nothing_refused s (Ok (x ∷ xs), new) fault is = is
nothing_refused s (Err other, new) fault is = is

refused_on : (s : State) (now id room : ℕ) (fault : CoreFault) (c : Option Connection) → Err fault ≡ (unless_nothing s (unless_refused now s (on_found id (write_fitting (max s.clock now) room) s.connections c))).0
    → (unless_nothing s (unless_refused now s (on_found id (write_fitting (max s.clock now) room) s.connections c))).1 ≡ s
refused_on s now id room fault None is = refl
refused_on s now id room fault (Some c) is =
    let both = nothing_refused s (unless_refused now s (on_found id (write_fitting (max s.clock now) room) s.connections (Some c))) fault is in
    absurd cc

pub into_reached : (old new : CoreView) → ∥ StandsForReached old ∥₁ → (now id room : ℕ) (r : Result (List ℕ) CoreFault) → Acts StandsFor (λ s. write_into s now id room) old new r → ∥ StandsForReached new ∥₁
unfolding write_into
into_reached old new was now id room r acts = reached_on old new (λ s. events_of r s) (λ s h. subst (λ (t : State). StandsFor new t) (is_after s r (acts.gives s h)) (acts.stands s h)) was
  where
    events_of : Result (List ℕ) CoreFault → State → List Event
    events_of (Ok given) s = piece_events now id (pieces_of (first_piece s id) given)
    events_of (Err fault) s = []

    is_after : (s : State) (x : Result (List ℕ) CoreFault) → x ≡ (write_into s now id room).0 → (write_into s now id room).1 ≡ after s (events_of x s)
    is_after s (Ok given) gives =
        (gives_are_steps s now id room given (write_into s now id room).1 (ap (λ (y : Result (List ℕ) CoreFault). let both : Result (List ℕ) CoreFault × State = (y, (write_into s now id room).1) in both) (sym gives))).state
    is_after s (Err fault) gives = refused_on s now id room fault (live_connection id s.connections.all) gives

-- ---- bounds of a core that stands for such a state

-- what is paid whatever state that is
pub paid_if_reached : (core : CoreView) (a b : Meter) (most : ℕ) → ∥ StandsForReached core ∥₁ → ((s : State) → StandsFor core s → IsReached s → PaysAtMost a b most) → PaysAtMost a b most
paid_if_reached core a b most was pays = record {
  rises = ∥∥₁_elim was le_prop (λ h. (pays h.state h.stands h.reached).rises);
  steps = ∥∥₁_elim was le_prop (λ h. (pays h.state h.stands h.reached).steps);
  tie = ∥∥₁_elim was (ℕ_set _ _) (λ h. (pays h.state h.stands h.reached).tie);
}

pub within : (core : CoreView) (a b : Meter) (taken given : ℕ) → ∥ StandsForReached core ∥₁ → StaysWithinSteps core taken given a b → PaysAtMost a b (steps_bound core.setting.limits taken given)
within core a b taken given was stays = paid_if_reached core a b _ was stays

pub held_within : (core : CoreView) → ∥ StandsForReached core ∥₁ → held core ≤ bytes_bound core.setting.limits
held_within core was =
    ∥∥₁_elim was le_prop (λ h. subst (λ (x : Setting). held core ≤ bytes_bound x.limits) (sym h.stands.setting) (never_passes core h.state h.stands h.reached h.listener))

pub registry_limit : (core : CoreView) → ∥ StandsForReached core ∥₁ → core.books.registry.limit ≡ core.setting.limits.rows
registry_limit core was = ∥∥₁_elim was (ℕ_set _ _) (λ h. h.stands.limit ∙ sym (ap (λ (x : Setting). x.limits.rows) h.stands.setting))

pub few_slots : (core : CoreView) → ∥ StandsForReached core ∥₁ → length core.connections.slots ≤ core.setting.limits.conns
few_slots core was = ∥∥₁_elim was le_prop (λ h. few_connections core h.state h.stands h.reached)
