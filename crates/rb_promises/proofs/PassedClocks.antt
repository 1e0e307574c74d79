-- The moment after each event of a run, and the connections that were opened.
use Rattle.std.specs.Prelude.{find, Contains}
use Rattle.std.proofs.Common.{◌≡◌, ◌⊎◌, inl, inr, ℕ, max, Bool, true, false, cond, Option, Some, None, Result, Ok, Err, List, [], ◌∷◌, ◌++◌, length, take, ◌-◌, refl, sym, ap, subst, ◌∙◌}
use Rattle.std.proofs.lemmas.Option.{same_Some}
use Rattle.std.proofs.lemmas.List.Elements.{Contains-append_left, Contains-append_right, Contains-push}
use Rattle.rb_address.specs.declared.who.Who.{Who}
use Rattle.rb_address.specs.declared.caller.Caller.{Caller}
use Rattle.rb_address.specs.declared.caller.Caller.TheVariants.{Tcp, Udp}
use Rattle.rb_forward.specs.declared.types.Ended.{Ended as EntryEnd}
use Rattle.rb_forward.specs.Forwards.{can_be_sent}
use Rattle.rb_answers.specs.Ledger.{Ledger}
use Rattle.rb_answers.specs.Forwarding.{target_replied, fell_due, call_sent}
use Rattle.rb_model.specs.declared.types.CoreFault.{CoreFault}
use Rattle.rb_model.specs.declared.types.CoreFault.TheVariants.{Gone}
use Rattle.rb_model.specs.declared.types.Told.{Told}
use Rattle.rb_model.specs.declared.types.Told.TheVariants as told
use Rattle.rb_model.specs.declared.types.Taken.{Taken}
use Rattle.rb_model.specs.Calls.{Outcome, Outcome as outcomes, is_no_call}
use Rattle.rb_model.specs.Losses.{first_due, with_lost, expire_first}
use Rattle.rb_model.specs.Ending.{outcome_at_end, tell, tell_end, at_fresh_moment, forward_reply, lost_as, expire_connection, expired_as, expire}
use Rattle.rb_model.specs.State.{State, Connection, Connections, at_moment}
use Rattle.rb_model.specs.Connections.{settle, opening_as, open_in_table, number_for, close_in_table, on_live, give}
use Rattle.rb_model.specs.Step.{sender, Event, Output, on_connection, serve, bytes, pending, gave, is_too_much, unless_refused, open_connection, close_connection, dropped_with, with_reply, datagram, sent_call, zero_stats, output_or, show_taken, show_done, show_outcome, show_told, show_end, show_expired, step}
use Rattle.rb_model.specs.Step.Event.{Open, Bytes, Pending, Gave, Closed, NextLost, Datagram, Unsent, Sent, Forward, Expire, ZeroStats}
use Rattle.rb_model.specs.Step.Output.{Opened, TooMuch, Took, TookAndLost, IsPending, Ignored}
use Rattle.rb_laws.proofs.Happenings.{Arriving, arriving, said_in, answered_in}
use Rattle.rb_laws.proofs.Happenings.Arriving.{NotThere, NotTaken, ReadOn, Ended}
use Rattle.rb_promises.specs.Connections.{IsOpened, HasOneOf}
use Rattle.rb_promises.specs.Accounts.{is_refusal, clock_after, opened_by}
use Rattle.rb_promises.proofs.ConnectionSteps.{only_openings_add}

-- ---- moments

module _ (s : State) where
  -- the moment is right of this event, if this is what it gives
  abbrev Right : Event → Output × State → Type 0
  Right event r = r.1.clock ≡ clock_after event r.0 s.clock

  opened_clock : (now : ℕ) (who : Who) (r : Result ℕ CoreFault) → Right (Open now who) (output_or Opened (unless_refused now s (opening_as who (max s.clock now) s.connections r)))
  opened_clock now who (Err fault) = refl
  opened_clock now who (Ok number) = refl

  took_clock : (now id : ℕ) (piece : List ℕ) (taken : Taken) (after : State) → after.clock ≡ max s.clock now → Right (Bytes now id piece) (show_taken taken, after)
  took_clock now id piece taken after e = by_lost taken.lost
    where
      by_lost : (b : Bool) → Right (Bytes now id piece) (cond b (TookAndLost taken.count) (Took taken.count), after)
      by_lost true = e
      by_lost false = e

  abbrev settled : ℕ → ℕ → Connection → List ℕ → State
  settled now id c record_bytes = on_connection id (settle (max s.clock now) (said_in s now id c record_bytes)) (answered_in s now id c record_bytes)

  settled_clock : (now id : ℕ) (c : Connection) (record_bytes : List ℕ) → (settled now id c record_bytes).clock ≡ max s.clock now
  unfolding serve
  settled_clock now id c record_bytes = refl

  bytes_clock : (now id : ℕ) (piece : List ℕ) (r : Result Taken CoreFault × State) → Arriving s now id piece r → Right (Bytes now id piece) (output_or show_taken r)
  bytes_clock now id piece r (NotThere none is) = rw is refl
  bytes_clock now id piece r (NotTaken c there why is) = rw is refl
  bytes_clock now id piece r (ReadOn c fed there feeds none is) = rw is refl
  bytes_clock now id piece r (Ended c fed n there feeds some is) =
      let record_bytes : List ℕ = take n (fed ++ piece) in
      let taken : Taken = record { count = n - length fed; lost = is_no_call (said_in s now id c record_bytes) } in
      subst (λ (x : Result Taken CoreFault × State). Right (Bytes now id piece) (output_or show_taken x)) (sym is)
      (took_clock now id piece taken (settled now id c record_bytes) (settled_clock now id c record_bytes))

  pending_clock : (id : ℕ) (r : Result (List ℕ) CoreFault) → Right (Pending id) (output_or IsPending (r, s))
  pending_clock id (Err fault) = refl
  pending_clock id (Ok bytes) = refl

  gave_clock : (now id n : ℕ) (b : Bool) (r : Result (Unit {0}) CoreFault × Connections) → Right (Gave now id n) (cond b (TooMuch, s) (output_or show_done (unless_refused now s r)))
  gave_clock now id n true r = refl
  gave_clock now id n false (Err fault, connections) = refl
  gave_clock now id n false (Ok u, connections) = refl

  closed_clock : (id : ℕ) (r : Result (Unit {0}) CoreFault × Connections) → Right (Closed id) (output_or show_done (dropped_with s id r))
  closed_clock id (Err fault, connections) = refl
  closed_clock id (Ok u, connections) = refl

  outcome_clock : (now : ℕ) (who : Who) (content : List ℕ) (r : Outcome × State) → r.1.clock ≡ max s.clock now → Right (Datagram now who content) (show_outcome (with_reply r))
  outcome_clock now who content (outcomes.NoCall, after) e = e
  outcome_clock now who content (outcomes.Reply reply stamp, after) e = e
  outcome_clock now who content (outcomes.Forwarded, after) e = e
  outcome_clock now who content (outcomes.Silent, after) e = e

  sent_clock : (number : ℕ) (b : Bool) → Right (Sent number) (output_or show_done (cond b (Ok tt, record s { ledger = call_sent number s.ledger }) (Err Gone, s)))
  sent_clock number true = refl
  sent_clock number false = refl

  shown : (reply : List ℕ) (it : Told) → is_refusal (show_told reply it) ≡ false
  shown reply (told.TcpReady id) = refl
  shown reply (told.Datagram call who) = refl
  shown reply (told.Silent call) = refl

  told_clock : (event : Event) (now : ℕ) (it : Told) (after : State) → after.clock ≡ max s.clock now → ((output : Output) → is_refusal output ≡ false → clock_after event output s.clock ≡ max s.clock now)
      → Right event (show_told after.reply it, after)
  told_clock event now it after e moves = e ∙ sym (moves (show_told after.reply it) (shown after.reply it))

  tell_clock : (now : ℕ) (ended : EntryEnd) (message : List ℕ) (l : Ledger) (caller : Caller) → (tell ended.id caller (outcome_at_end message ended) (record (at_fresh_moment now s) { ledger = l })).1.clock ≡ max s.clock now
  tell_clock now ended message l (Tcp id who) = refl
  tell_clock now ended message l (Udp who longest) = refl

  abbrev told_by : ℕ → EntryEnd → List ℕ → Ledger → Told × State
  told_by now ended message l = tell ended.id ended.forward.caller (outcome_at_end message ended) (record (at_fresh_moment now s) { ledger = l })

  forward_moves : (now : ℕ) (event : Event) → ((clock : ℕ) (output : Output) → clock_after event output clock ≡ cond (is_refusal output) clock (max clock now))
      → (output : Output) → is_refusal output ≡ false → clock_after event output s.clock ≡ max s.clock now
  forward_moves now event is output plain = is s.clock output ∙ ap (λ (b : Bool). cond b s.clock (max s.clock now)) plain

  end_clock : (event : Event) (now : ℕ) (message : List ℕ) (r : Option EntryEnd × Ledger)
      → ((output : Output) → is_refusal output ≡ false → clock_after event output s.clock ≡ max s.clock now)
      → Right event (show_end (tell_end message (at_fresh_moment now s) r))
  end_clock event now message (None, l) moves = sym (moves Ignored refl)
  end_clock event now message (Some ended, l) moves =
      let told : Told × State = told_by now ended message l in
      told_clock event now told.0 told.1 (tell_clock now ended message l ended.forward.caller) moves

  expired_clock : (now : ℕ) (r : Option EntryEnd × Ledger) → Right (Expire now) (show_expired (expired_as (tell_end [] (at_fresh_moment now s) r)))
  unfolding expire_connection expire_first
  expired_clock now (Some ended, l) =
      let told : Told × State = told_by now ended [] l in
      told_clock (Expire now) now told.0 told.1 (tell_clock now ended [] l ended.forward.caller) (forward_moves now (Expire now) (λ clock output. refl))
  expired_clock now (None, l) = by_found (first_due (max s.clock now) s.connections)
    where
      by_found : (o : Option ℕ) → Right (Expire now) (show_expired (lost_as o, record (record (at_fresh_moment now s) { ledger = l }) { connections = with_lost o s.connections }))
      by_found None = refl
      by_found (Some id) = refl

pub step_clock : (s : State) (event : Event) → (step s event).1.clock ≡ clock_after event (step s event).0 s.clock
unfolding step open_connection open_in_table gave close_connection datagram serve sent_call forward_reply expire zero_stats
step_clock s (Open now who) = opened_clock s now who (number_for s.setting.limits.conns s.connections)
step_clock s (Bytes now id piece) = bytes_clock s now id piece (bytes s now id piece) (arriving s now id piece)
step_clock s (Pending id) = pending_clock s id (pending s id)
step_clock s (Gave now id n) = gave_clock s now id n (is_too_much n (pending s id)) (on_live id (give (max s.clock now) n) s.connections)
step_clock s (Closed id) = closed_clock s id (close_in_table id s.connections)
step_clock s NextLost = refl
step_clock s (Datagram now who content) = outcome_clock s now who content (serve (at_moment now s) (sender s who content) content) refl
step_clock s Unsent = refl
step_clock s (Sent number) = sent_clock s number (can_be_sent number s.ledger.forwards)
step_clock s (Forward now from message) =
    end_clock s (Forward now from message) now message (target_replied s.setting.first_xid (max s.clock now) from message s.ledger) (forward_moves s now (Forward now from message) (λ clock output. refl))
step_clock s (Expire now) = expired_clock s now (fell_due (max s.clock now) s.ledger)
step_clock s ZeroStats = refl

-- ---- openings

pub contains_found : (test : Connection → Bool) (all : List Connection) (c : Connection) → find test all ≡ Some c → Contains all c
contains_found test [] c is = absurd cc
contains_found test (x ∷ all) c is = by_test (test x) is (contains_found test all c)
  where
    by_test : (b : Bool) → cond b (Some x) (find test all) ≡ Some c → (find test all ≡ Some c → Contains all c) → Contains (x ∷ all) c
    by_test true e later = subst (Contains (x ∷ all)) (same_Some x c e) (Contains-append_left (x ∷ []) all x (Contains-push [] x))
    by_test false e later = Contains-append_right (x ∷ []) all c (later e)

-- each connection was opened, by the one at its other end
abbrev pub AreOpened : List (ℕ × Who) → Connections → Type 0
AreOpened opened now = (c : Connection) → Contains now.all c → Contains opened (c.number, c.who)

pub openings_on : (s : State) (opened : List (ℕ × Who)) → AreOpened opened s.connections → (event : Event)
    → AreOpened (opened ++ opened_by event (step s event).0) (step s event).1.connections
openings_on s opened are event c within = by_case (only_openings_add s event c within)
  where
    more : List (ℕ × Who)
    more = opened_by event (step s event).0

    by_case : HasOneOf s c ⊎ IsOpened s event c → Contains (opened ++ more) (c.number, c.who)
    by_case (inl (k, d, low, is, (number, who))) =
        let there : Contains opened (d.number, d.who) = are d (k, low, is) in
        Contains-append_left opened more (c.number, c.who)
        (subst (λ (n : ℕ). Contains opened (n, c.who)) number (subst (λ (w : Who). Contains opened (d.number, w)) who there))
    by_case (inr new) =
        let only : more ≡ (c.number, c.who) ∷ [] =
        ap (λ (e : Event). opened_by e (step s event).0) new.opens ∙ ap (λ (o : Output). opened_by (Open new.now c.who) o) new.told in
        subst (λ (xs : List (ℕ × Who)). Contains (opened ++ xs) (c.number, c.who)) (sym only) (Contains-push opened (c.number, c.who))
