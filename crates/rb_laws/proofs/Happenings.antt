-- What an event does to the connections, and what it gives, by cases.
use Rattle.std.specs.Prelude.{find}
use Rattle.std.specs.List.{list_any}
use Rattle.std.proofs.Common.{◌≡◌, ◌⊎◌, inl, inr, ◌≤◌, ℕ, ◌-◌, max, Bool, true, false, cond, Option, Some, None, Result, Ok, Err, List, [], ◌∷◌, ◌++◌, length, take, nat_lt, eq-eqb, refl, ap, ◌∙◌, arith}
use Rattle.std.proofs.lemmas.Grind.{common_steps}
use Rattle.std.proofs.lemmas.Bool.{ltb-false}
use Rattle.rb_address.specs.declared.peer.Peer.{Peer}
use Rattle.rb_address.specs.declared.who.Who.{Who}
use Rattle.rb_address.specs.declared.caller.Caller.{Caller}
use Rattle.rb_address.specs.declared.caller.Caller.TheVariants.{Tcp, Udp}
use Rattle.rb_rpc.specs.Records.{first_record, data_of}
use Rattle.rb_forward.specs.declared.types.ForwardEnd as target
use Rattle.rb_forward.specs.declared.types.ForwardEnd.TheVariants.{Failed}
use Rattle.rb_forward.specs.declared.types.Ended.{Ended as EntryEnd}
use Rattle.rb_forward.specs.Forwards.{Entry, is_connection, is_of_connection, id_of, counts_for, is_due, outcome_of, with_end, reply, due, can_be_sent}
use Rattle.rb_answers.specs.Ledger.{Ledger}
use Rattle.rb_answers.specs.Forwarding.{target_replied, fell_due, call_sent}
use Rattle.rb_model.specs.declared.types.CoreFault.{CoreFault}
use Rattle.rb_model.specs.declared.types.CoreFault.TheVariants.{Gone}
use Rattle.rb_model.specs.declared.types.Told.{Told}
use Rattle.rb_model.specs.Calls.{Outcome, Outcome as outcomes, is_no_call, message_of}
use Rattle.rb_model.specs.State.{State, Connection, Connections, at_moment}
use Rattle.rb_model.specs.Connections.{fed_in, taking_of, taking_up_to, keep_reading, settle, give, pending_in, live_connection, changed_at, on_found, number_for, with_new, opening_as, open_in_table, is_there, without_number, close_in_table}
use Rattle.rb_model.specs.Ending.{outcome_at_end, tell, tell_end, at_fresh_moment, forward_reply, expired_as, expire}
use Rattle.rb_model.specs.Losses.{removals_in_the_way, evict, is_due as connection_is_due, lose}
use Rattle.rb_model.specs.Step.{sender, Event, Output, context_in, serve, serve_record, unless_refused, when_taken, bytes_to, bytes, pending, pending_on, gave, is_too_much, open_connection, dropped_with, close_connection, next_lost, with_reply, datagram, unsent_call, sent_call, output_or, show_taken, show_done, show_outcome, show_told, show_end, show_expired, on_connection, step, zero_stats}
use Rattle.rb_model.specs.declared.types.Taken.{Taken}
use Rattle.rb_model.specs.Step.Event.{Open, Bytes, Pending, Gave, Closed, NextLost, Datagram, Unsent, Sent, Forward, Expire, ZeroStats}
use Rattle.rb_model.specs.Step.Output.{Opened, Refused, TooMuch, Took, IsPending, Done, LostIs, Replied, Forwarded, Silent, UnsentIs, Nothing, ConnectionLost}
use Rattle.rb_model.specs.declared.types.Expired.{Expired}
use Rattle.rb_model.specs.Laws.{number_given}
use Rattle.rb_model.specs.Sessions.{piece_to, gave_to, given_by, IsFinal, outcome_of_ended, outcome_by}
use Rattle.rb_model.specs.Bounds.{count_in}
use Rattle.rb_laws.proofs.DueThings.{end_of, Expiry, expiry}
use Rattle.rb_laws.proofs.DueThings.Expiry.{EntryEnds, ConnectionEnds, NothingDue}

-- ---- bytes

-- what the message in these bytes is answered with
abbrev pub said_in : State → ℕ → ℕ → Connection → List ℕ → Outcome
said_in s now id c record_bytes = (serve (at_moment now s) (Tcp id c.who) (data_of record_bytes)).0

-- the state after it
abbrev pub answered_in : State → ℕ → ℕ → Connection → List ℕ → State
answered_in s now id c record_bytes = (serve (at_moment now s) (Tcp id c.who) (data_of record_bytes)).1

pub data Arriving (s : State) (now id : ℕ) (piece : List ℕ) (r : Result Taken CoreFault × State) : Type 0 where
  NotThere : live_connection id s.connections.all ≡ None → r ≡ (Err Gone, s) → Arriving s now id piece r
  NotTaken : (c : Connection) → live_connection id s.connections.all ≡ Some c → (fed_in c.phase ≡ None) ⊎ (piece ≡ [])
      → r ≡ (Ok (record { count = 0; lost = false }), at_moment now s) → Arriving s now id piece r
  ReadOn : (c : Connection) (fed : List ℕ) → live_connection id s.connections.all ≡ Some c → fed_in c.phase ≡ Some fed → first_record (fed ++ piece) ≡ None
      → r ≡ (Ok (record { count = length piece; lost = false }), on_connection id (keep_reading (max s.clock now) (fed ++ piece)) (at_moment now s)) → Arriving s now id piece r
  Ended : (c : Connection) (fed : List ℕ) (n : ℕ) → live_connection id s.connections.all ≡ Some c → fed_in c.phase ≡ Some fed → first_record (fed ++ piece) ≡ Some n
      → r ≡ (
        Ok (record { count = n - length fed; lost = is_no_call (said_in s now id c (take n (fed ++ piece))) }),
        on_connection id (settle (max s.clock now) (said_in s now id c (take n (fed ++ piece)))) (answered_in s now id c (take n (fed ++ piece))),
      ) → Arriving s now id piece r

pub arriving : (s : State) (now id : ℕ) (piece : List ℕ) → Arriving s now id piece (bytes s now id piece)
unfolding bytes taking_of serve_record serve
arriving s now id piece = by_live (live_connection id s.connections.all) refl
  where
    by_record : (c : Connection) → live_connection id s.connections.all ≡ Some c → (fed piece : List ℕ) → fed_in c.phase ≡ Some fed → (m : Option ℕ) → first_record (fed ++ piece) ≡ m
        → Arriving s now id piece (Ok (when_taken (at_moment now s) id piece c (taking_up_to fed piece m)).0, (when_taken (at_moment now s) id piece c (taking_up_to fed piece m)).1)
    by_record c there fed piece is None none = ReadOn c fed there is none refl
    by_record c there fed piece is (Some n) some = Ended c fed n there is some refl

    by_phase : (c : Connection) → live_connection id s.connections.all ≡ Some c → (o : Option (List ℕ)) → fed_in c.phase ≡ o → (piece : List ℕ) → Arriving s now id piece (bytes_to s now id piece (Some c))
    by_phase c there None is piece = rw is (NotTaken c there (inl is) refl)
    by_phase c there (Some fed) is [] = rw is (NotTaken c there (inr refl) refl)
    by_phase c there (Some fed) is (byte ∷ piece) = rw is (by_record c there fed (byte ∷ piece) is (first_record (fed ++ byte ∷ piece)) refl)

    by_live : (o : Option Connection) → live_connection id s.connections.all ≡ o → Arriving s now id piece (bytes_to s now id piece o)
    by_live None none = NotThere none refl
    by_live (Some c) there = by_phase c there (fed_in c.phase) refl piece

-- ---- events

-- no number is given, no byte is taken, and none is given
pub record IsQuiet (s : State) (event : Event) (output : Output) : Type 0 where
  pub no_number : number_given output ≡ None
  pub no_count : count_in output ≡ 0
  pub none_given : (id : ℕ) → given_by s id event output ≡ []

-- an entry may end by it
abbrev pub is_end : Event → Bool
is_end (Forward now from message) = true
is_end (Expire now) = true
is_end other = false

-- an entry of this connection is there
abbrev pub has_entry : ℕ → State → Bool
has_entry id s = list_any (is_of_connection id) s.ledger.forwards.all

-- what is in the way of the row that a message brings
abbrev pub crowd_at : State → ℕ → Caller → List ℕ → List ℕ
crowd_at s at caller content = removals_in_the_way (context_in (at_moment at s) caller) (message_of content) s.connections.all s.ledger

pub data Happening (s : State) (event : Event) (output : Output) (now : Connections) : Type 0 where
  Stays : IsQuiet s event output → now ≡ s.connections → Happening s event output now
  Evicts : (at : ℕ) (who : Who) (content : List ℕ) → event ≡ Datagram at who content → IsQuiet s event output → now ≡ evict (crowd_at s at (sender s who content) content) s.connections → Happening s event output now
  Opens : (at : ℕ) (who : Who) → event ≡ Open at who → output ≡ Opened s.connections.next → now ≡ with_new who (max s.clock at) s.connections → Happening s event output now
  Reads : (at id : ℕ) (piece : List ℕ) (c : Connection) (fed : List ℕ) → event ≡ Bytes at id piece
      → live_connection id s.connections.all ≡ Some c → fed_in c.phase ≡ Some fed → first_record (fed ++ piece) ≡ None
      → output ≡ Took (length piece) → now ≡ changed_at id (keep_reading (max s.clock at) (fed ++ piece)) s.connections → Happening s event output now
  Ends : (at id : ℕ) (piece : List ℕ) (c : Connection) (fed : List ℕ) (n : ℕ) → event ≡ Bytes at id piece
      → live_connection id s.connections.all ≡ Some c → fed_in c.phase ≡ Some fed → first_record (fed ++ piece) ≡ Some n
      → output ≡ show_taken (record { count = n - length fed; lost = is_no_call (said_in s at id c (take n (fed ++ piece))) })
      → now ≡ changed_at id (settle (max s.clock at) (said_in s at id c (take n (fed ++ piece)))) (evict (crowd_at s at (Tcp id c.who) (data_of (take n (fed ++ piece)))) s.connections)
      → Happening s event output now
  Gives : (at id n : ℕ) (c : Connection) → event ≡ Gave at id n → live_connection id s.connections.all ≡ Some c → n ≤ length (pending_in c.phase)
      → output ≡ Done → now ≡ changed_at id (λ x. (give (max s.clock at) n x).1) s.connections → Happening s event output now
  Closes : (id : ℕ) → event ≡ Closed id → output ≡ Done → is_there id s.connections ≡ true → now ≡ without_number id s.connections → Happening s event output now
  Tells : (at id : ℕ) (said : Outcome) → is_end event ≡ true → IsQuiet s event output → IsFinal said → outcome_by s id event ≡ Some said → has_entry id s ≡ true
      → now ≡ changed_at id (settle (max s.clock at) said) s.connections → Happening s event output now
  TimesOut : (at : ℕ) (c : Connection) → event ≡ Expire at → IsQuiet s event output → find (is_due (max s.clock at)) s.ledger.forwards.all ≡ None
      → find (connection_is_due (max s.clock at)) s.connections.all ≡ Some c → now ≡ changed_at c.number lose s.connections → Happening s event output now

-- ---- what a caller is told at an end

pub told-final : (message : List ℕ) (ended : EntryEnd) → IsFinal (outcome_at_end message ended)
told-final message ended = grind arith

-- one that is found passes other tests too
pub find-any : {A : Type 0} (p q : A → Bool) (xs : List A) (x : A) → find p xs ≡ Some x → q x ≡ true → list_any q xs ≡ true
find-any p q [] x is holds = grind arith
find-any p q (y ∷ xs) x is holds = grind (arith, find-any p q xs x)

-- an entry that ended was there
abbrev pub WasThere : State → Option EntryEnd → Type 0
WasThere s o = (ended : EntryEnd) → o ≡ Some ended → (id : ℕ) → is_connection id ended.forward.caller ≡ true → has_entry id s ≡ true

was-there : (s : State) (test : Entry → Bool) (outcome : target.ForwardEnd) → WasThere s (with_end test outcome s.ledger.forwards).0
was-there s test outcome = grind (arith, common_steps, find-any)

pub replied-there : (s : State) (clock : ℕ) (from : Peer) (message : List ℕ) → WasThere s (target_replied s.setting.first_xid clock from message s.ledger).0
unfolding target_replied reply
replied-there s clock from message = was-there s (counts_for s.setting.first_xid clock from message) (outcome_of message)

pub due-there : (s : State) (clock : ℕ) → WasThere s (fell_due clock s.ledger).0
unfolding fell_due due
due-there s clock = was-there s (is_due clock) Failed

module _ (s : State) where
  abbrev Happens : Event → Output × State → Type 0
  Happens event r = Happening s event r.0 r.1.connections

  number-is-next : (number : ℕ) → number_for s.setting.limits.conns s.connections ≡ Ok number → number ≡ s.connections.next
  unfolding number_for
  number-is-next number h = grind arith

  quiet : (event : Event) (output : Output) → number_given output ≡ None → count_in output ≡ 0 → ((id : ℕ) → given_by s id event output ≡ []) → IsQuiet s event output
  quiet event output a b c = record { no_number = a; no_count = b; none_given = c }

  open-happens : (at : ℕ) (who : Who) (r : Result ℕ CoreFault) → number_for s.setting.limits.conns s.connections ≡ r
      → Happens (Open at who) (output_or Opened (unless_refused at s (opening_as who (max s.clock at) s.connections r)))
  open-happens at who (Err fault) e = Stays (quiet (Open at who) (Refused fault) refl refl (λ k. refl)) refl
  open-happens at who (Ok number) e = Opens at who refl (ap Opened (number-is-next number e)) refl

  bytes-happen : (at id : ℕ) (piece : List ℕ) (r : Result Taken CoreFault × State) → Arriving s at id piece r → Happens (Bytes at id piece) (output_or show_taken r)
  unfolding serve
  bytes-happen at id piece r (NotThere none is) = rw is (Stays (quiet (Bytes at id piece) (Refused Gone) refl refl (λ k. refl)) refl)
  bytes-happen at id piece r (NotTaken c there why is) = rw is (Stays (quiet (Bytes at id piece) (Took 0) refl refl (λ k. refl)) refl)
  bytes-happen at id piece r (ReadOn c fed there feeds none is) = rw is (Reads at id piece c fed refl there feeds none refl refl)
  bytes-happen at id piece r (Ended c fed n there feeds some is) = rw is (Ends at id piece c fed n refl there feeds some refl refl)

  pending-happens : (id : ℕ) (r : Result (List ℕ) CoreFault) → Happens (Pending id) (output_or IsPending (r, s))
  pending-happens id r = grind arith

  gave-happens : (at id n : ℕ) (o : Option Connection) → live_connection id s.connections.all ≡ o
      → Happens (Gave at id n) (cond (is_too_much n (pending_on o)) (TooMuch, s) (output_or show_done (unless_refused at s (on_found id (give (max s.clock at) n) s.connections o))))
  gave-happens at id n None e = Stays (quiet (Gave at id n) (Refused Gone) refl refl (λ k. refl)) refl
  gave-happens at id n (Some c) e = by_test (nat_lt (length (pending_in c.phase)) n) refl
    where
      by_test : (b : Bool) → nat_lt (length (pending_in c.phase)) n ≡ b
          → Happens (Gave at id n) (cond b (TooMuch, s) (output_or show_done (unless_refused at s (on_found id (give (max s.clock at) n) s.connections (Some c)))))
      by_test true t = Stays (quiet (Gave at id n) TooMuch refl refl (λ k. refl)) refl
      by_test false t = Gives at id n c refl e (ltb-false (length (pending_in c.phase)) n t) refl refl

  close-happens : (id : ℕ) (b : Bool) → is_there id s.connections ≡ b
      → Happens (Closed id) (output_or show_done (dropped_with s id (cond b (Ok tt, without_number id s.connections) (Err Gone, s.connections))))
  close-happens id true e = Closes id refl refl e refl
  close-happens id false e = Stays (quiet (Closed id) (Refused Gone) refl refl (λ k. refl)) refl

  outcome-happens : (at : ℕ) (who : Who) (content : List ℕ) (r : Outcome × State) → r.1.connections ≡ evict (crowd_at s at (sender s who content) content) s.connections → Happens (Datagram at who content) (show_outcome (with_reply r))
  outcome-happens at who content (outcomes.NoCall, t) same = Evicts at who content refl (quiet (Datagram at who content) Silent refl refl (λ k. refl)) same
  outcome-happens at who content (outcomes.Reply reply began, t) same = Evicts at who content refl (quiet (Datagram at who content) (Replied reply) refl refl (λ k. refl)) same
  outcome-happens at who content (outcomes.Forwarded, t) same = Evicts at who content refl (quiet (Datagram at who content) Forwarded refl refl (λ k. refl)) same
  outcome-happens at who content (outcomes.Silent, t) same = Evicts at who content refl (quiet (Datagram at who content) Silent refl refl (λ k. refl)) same

  served-connections : (at : ℕ) (caller : Caller) (content : List ℕ) → (serve (at_moment at s) caller content).1.connections ≡ evict (crowd_at s at caller content) s.connections
  unfolding serve
  served-connections at caller content = refl

  sent-happens : (number : ℕ) (b : Bool) → Happens (Sent number) (output_or show_done (cond b (Ok tt, record s { ledger = call_sent number s.ledger }) (Err Gone, s)))
  sent-happens number b = grind arith

  -- what is shown of an end
  record Shows (event : Event) (show : Option Told × State → Output × State) : Type 0 where
    is_quiet : (r : Option Told × State) → IsQuiet s event (show r).0
    leaves : (r : Option Told × State) → (show r).1.connections ≡ r.1.connections

  told-quiet : (event : Event) (reply : List ℕ) (told : Told) → IsQuiet s event (show_told reply told)
  told-quiet event reply told = grind arith

  end-shows : (event : Event) → Shows event show_end
  end-shows event = grind arith

  end-happens : (event : Event) (at : ℕ) (message : List ℕ) (show : Option Told × State → Output × State) (r : Option EntryEnd × Ledger)
      → is_end event ≡ true → Shows event show → WasThere s r.0 → ((k : ℕ) → outcome_by s k event ≡ outcome_of_ended k message r.0) → Happens event (show (tell_end message (at_fresh_moment at s) r))
  end-happens event at message show (None, l) is shows there told = Stays (shows.is_quiet _) (shows.leaves _)
  end-happens event at message show (Some ended, l) is shows there told = by_caller ended.forward.caller refl
    where
      after : Caller → Option Told × State
      after caller = let x : Told × State = tell ended.id caller (outcome_at_end message ended) (record (at_fresh_moment at s) { ledger = l }) in (Some x.0, x.1)

      by_caller : (caller : Caller) → ended.forward.caller ≡ caller → Happens event (show (after caller))
      by_caller (Udp who longest) e = Stays (shows.is_quiet _) (shows.leaves _)
      by_caller (Tcp id who) e =
          let of : is_connection id ended.forward.caller ≡ true = ap (is_connection id) e ∙ eq-eqb id id refl in
          Tells at id (outcome_at_end message ended) is (shows.is_quiet _) (told-final message ended)
          (told id ∙ ap (λ (b : Bool). cond b (Some (outcome_at_end message ended)) None) of) (there ended refl id of) (shows.leaves _)

  -- what a connection is told by the end of this entry
  due-told : (at k : ℕ) (e : Entry) → find (is_due (max s.clock at)) s.ledger.forwards.all ≡ Some e → outcome_by s k (Expire at) ≡ outcome_of_ended k [] (Some (end_of e))
  unfolding fell_due due
  due-told at k e found = rw found refl

  expire-happens : (at : ℕ) (r : Expired × State) → Expiry s (max s.clock at) (at_fresh_moment at s) r → Happens (Expire at) (show_expired r)
  expire-happens at r (NothingDue none free is) = rw is (Stays (quiet (Expire at) Nothing refl refl (λ k. refl)) refl)
  expire-happens at r (ConnectionEnds none c found is) = rw is (TimesOut at c refl (quiet (Expire at) (ConnectionLost c.number) refl refl (λ k. refl)) none found refl)
  expire-happens at r (EntryEnds e found ledger left is) = rw is (by_caller e.forward.caller refl)
    where
      after : Caller → Told × State
      after caller = tell (id_of e) caller (outcome_at_end [] (end_of e)) (record (at_fresh_moment at s) { ledger = ledger })

      by_caller : (caller : Caller) → e.forward.caller ≡ caller → Happens (Expire at) (show_expired (expired_as (Some (after caller).0, (after caller).1)))
      by_caller (Udp who longest) same = Stays (told-quiet (Expire at) (after (Udp who longest)).1.reply (after (Udp who longest)).0) refl
      by_caller (Tcp id who) same =
          let of : is_connection id e.forward.caller ≡ true = ap (is_connection id) same ∙ eq-eqb id id refl in
          Tells at id (outcome_at_end [] (end_of e)) refl (told-quiet (Expire at) (after (Tcp id who)).1.reply (after (Tcp id who)).0) (told-final [] (end_of e))
          (due-told at id e found ∙ ap (λ (b : Bool). cond b (Some (outcome_at_end [] (end_of e))) None) of)
          (find-any (is_due (max s.clock at)) (is_of_connection id) s.ledger.forwards.all e found of) refl

  pub happening : (event : Event) → Happening s event (step s event).0 (step s event).1.connections
  unfolding step open_connection open_in_table pending gave close_connection close_in_table datagram sent_call forward_reply zero_stats
  happening (Open at who) = open-happens at who (number_for s.setting.limits.conns s.connections) refl
  happening (Bytes at id piece) = bytes-happen at id piece (bytes s at id piece) (arriving s at id piece)
  happening (Pending id) = pending-happens id (pending s id)
  happening (Gave at id n) = gave-happens at id n (live_connection id s.connections.all) refl
  happening (Closed id) = close-happens id (is_there id s.connections) refl
  happening NextLost = Stays (quiet NextLost (LostIs (next_lost s)) refl refl (λ k. refl)) refl
  happening (Datagram at who content) =
      outcome-happens at who content (serve (at_moment at s) (sender s who content) content) (served-connections at (sender s who content) content)
  happening Unsent = Stays (quiet Unsent (UnsentIs (unsent_call s)) refl refl (λ k. refl)) refl
  happening (Sent number) = sent-happens number (can_be_sent number s.ledger.forwards)
  happening (Forward at from message) =
      end-happens (Forward at from message) at message show_end (target_replied s.setting.first_xid (max s.clock at) from message s.ledger) refl (end-shows (Forward at from message)) (replied-there s (max s.clock at) from message) (λ k. refl)
  happening (Expire at) = expire-happens at (expire s at) (expiry s at)
  happening ZeroStats = Stays (quiet ZeroStats Done refl refl (λ k. refl)) refl

-- ---- what a connection is told by an event

pub record TellsTo (s : State) (event : Event) (id : ℕ) (said : Outcome) (now : Connections) : Type 0 where
  pub at : ℕ
  pub ends : is_end event ≡ true
  pub final : IsFinal said
  pub has : has_entry id s ≡ true
  pub same : now ≡ changed_at id (settle (max s.clock at) said) s.connections

module _ (s : State) where
  told-to : (event : Event) (at : ℕ) (message : List ℕ) (id : ℕ) (said : Outcome) (r : Option EntryEnd × Ledger) (show : Option Told × State → Output × State) → is_end event ≡ true → WasThere s r.0
      → ((told : Told) (u : State) → (show (Some told, u)).1.connections ≡ u.connections) → outcome_of_ended id message r.0 ≡ Some said
      → TellsTo s event id said (show (tell_end message (at_fresh_moment at s) r)).1.connections
  told-to event at message id said r show is there leaves told = grind arith

  pub tells : (event : Event) (id : ℕ) (said : Outcome) → outcome_by s id event ≡ Some said → TellsTo s event id said (step s event).1.connections
  unfolding step forward_reply expire
  tells (Forward at from message) id said told = told-to (Forward at from message) at message id said (target_replied s.setting.first_xid (max s.clock at) from message s.ledger) show_end refl (replied-there s (max s.clock at) from message) (λ x u. refl) told
  tells (Expire at) id said told = told-to (Expire at) at [] id said (fell_due (max s.clock at) s.ledger) (λ r. show_expired (expired_as r)) refl (due-there s (max s.clock at)) (λ x u. refl) told
  tells (Open at who) id said told = absurd cc
  tells (Bytes at k piece) id said told = absurd cc
  tells (Pending k) id said told = absurd cc
  tells (Gave at k n) id said told = absurd cc
  tells (Closed k) id said told = absurd cc
  tells NextLost id said told = absurd cc
  tells (Datagram at who content) id said told = absurd cc
  tells Unsent id said told = absurd cc
  tells (Sent number) id said told = absurd cc
  tells ZeroStats id said told = absurd cc

-- nothing is taken or given on a connection by it
pub end-passes-none : (event : Event) → is_end event ≡ true → (id : ℕ) → (piece_to id event ≡ []) × (gave_to id event ≡ 0)
end-passes-none event is id = grind arith
