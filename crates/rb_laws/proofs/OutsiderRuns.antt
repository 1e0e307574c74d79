-- What comes later of the events of outsiders was paid for by these.
use Rattle.std.specs.Prelude.{find, filter}
use Rattle.std.specs.Option.{option_map, option_map_or}
use Rattle.std.specs.List.{list_any, sum_by}
use Rattle.std.proofs.Common.{◌≡◌, ◌≤◌, ℕ, ◌+◌, max, Bool, true, false, cond, not, ◌&&◌, eqb, Option, Some, None, List, [], ◌∷◌, ◌++◌, map, length, refl, ap, arith}
use Rattle.std.proofs.lemmas.List.Sums.{sum_by-cons, sum_by_push}
use Rattle.std.proofs.lemmas.Grind.{common_steps}
use Rattle.rb_address.specs.declared.peer.Peer.{Peer}
use Rattle.rb_address.specs.declared.who.Who.{Who}
use Rattle.rb_address.specs.declared.caller.Caller.{Caller}
use Rattle.rb_address.specs.declared.caller.Caller.TheVariants.{Tcp, Udp}
use Rattle.rb_forward.specs.declared.types.Forward.{Forward as Asked}
use Rattle.rb_forward.specs.declared.types.ForwardEnd as target
use Rattle.rb_forward.specs.declared.types.ForwardEnd.TheVariants.{Failed}
use Rattle.rb_forward.specs.declared.types.FwdId.{FwdId}
use Rattle.rb_forward.specs.Forwards.{Entry, Forwards, is_unsent, as_sent, change_first as change_entry, sent, can_be_sent, next_entry, with_next_entry, without_first, id_of, ended_by, is_of_connection, counts_for, is_due as entry_is_due, outcome_of, reply, due, drop_caller}
use Rattle.rb_forward.proofs.Tables.{all_stay, sum-without}
use Rattle.rb_answers.specs.declared.context.Context.{Context}
use Rattle.rb_answers.specs.Callers.{who_of, may_register}
use Rattle.rb_answers.specs.Ledger.{Ledger}
use Rattle.rb_answers.specs.Forwarding.{noted_end, target_replied, fell_due, caller_dropped, call_sent}
use Rattle.rb_model.specs.declared.message.Message.{Message}
use Rattle.rb_model.specs.declared.message.Message.TheVariants as says
use Rattle.rb_model.specs.declared.types.Expired.{Expired}
use Rattle.rb_model.specs.Calls.{Outcome, longest_reply, reply_in, message_of}
use Rattle.rb_model.specs.State.{State, Connection, Connections, at_moment, opening, are_good}
use Rattle.rb_model.specs.State.Phase.{Idle}
use Rattle.rb_model.specs.Connections.{Taking, taking_of, is_lost, is_live, change_first, keep_reading, settle, with_given, give, live_connection, is_there, without_number}
use Rattle.rb_model.specs.Connections.Taking.{TakesNone, GoesOn, Ends}
use Rattle.rb_model.specs.Losses.{is_due, lose, evict_early}
use Rattle.rb_model.specs.Ending.{outcome_at_end, tell, tell_end, at_fresh_moment, forward_reply, expire}
use Rattle.rb_model.specs.Step.{sender, Event, Output, context_in, serve, show_end, show_expired, step, IsReached}
use Rattle.rb_model.specs.Step.Event.{Open, Bytes, Pending, Gave, Closed, NextLost, Datagram, Unsent, Sent, Forward, Expire, ZeroStats}
use Rattle.rb_model.specs.ChangeLaws.{record_in, record_on}
use Rattle.rb_model.specs.Costs.{event_cost}
use Rattle.rb_model.specs.OutsiderCosts.{asks_for_change, ends_for_change, is_for_change, allowance_at, byte_allowance, caller_on, caller_for, caller_due, caller_of, is_theirs, is_paid_ahead, later_allowance, cost_of_theirs, paid_by_theirs, sum_along, is_outsider, OutsidersPayAhead}
use Rattle.rb_model.proofs.Expiring.{due-live, due-changed}
use Rattle.rb_laws.proofs.Closings.{sound-apart}
use Rattle.rb_laws.proofs.DueThings.{Expiry, expiry}
use Rattle.rb_laws.proofs.DueThings.Expiry.{EntryEnds, ConnectionEnds, NothingDue}
use Rattle.rb_laws.proofs.Entering.{is_forwarded, Entering, serve-enters}
use Rattle.rb_laws.proofs.Entering.Entering.{Same, Begins}
use Rattle.rb_laws.proofs.Happenings.{Happening, happening, crowd_at}
use Rattle.rb_laws.proofs.Happenings.Happening.{Stays, Evicts, Opens, Reads, Ends as EndsRecord, Gives, Closes, Tells, TimesOut}
use Rattle.rb_laws.proofs.LedgerSteps.{ledger_from, ledger_left, step-ledger}
use Rattle.rb_laws.proofs.Ledgers.{step-setting}
use Rattle.rb_laws.proofs.OutsiderCosts.{few_conns, few_forwards, events_cost_few}
use Rattle.rb_laws.proofs.Reached.{reached-sound}
use Rattle.rb_laws.proofs.Reflections.{most_told, end-most}
use Rattle.rb_laws.proofs.StepBounds.{reached-step}

-- what is paid ahead: for the end of a forwarded call or of a connection, and for the sending of a call
abbrev end_pay : ℕ
end_pay = 21600

abbrev send_pay : ℕ
send_pay = 200

-- ---- what an end costs

module _ (s : State) where
  told-few : (call : FwdId) (caller : Caller) (said : Outcome) (u : State) → length u.reply ≤ 0 → length (reply_in said) ≤ most_told caller
      → length (tell call caller said u).1.reply ≤ 9000
  unfolding longest_reply
  told-few call (Tcp id who) said u none most = omega (arith, none)
  told-few call (Udp who longest) said u none most = omega (arith, most)

  end-few : (now : ℕ) (message : List ℕ) (outcome : target.ForwardEnd) (e : Entry) (l : Ledger)
      → length (tell (id_of e) e.forward.caller (outcome_at_end message (ended_by outcome e)) (record (at_fresh_moment now s) { ledger = l })).1.reply ≤ 9000
  end-few now message outcome e l =
      told-few (id_of e) e.forward.caller (outcome_at_end message (ended_by outcome e)) (record (at_fresh_moment now s) { ledger = l }) (omega arith) (end-most e.forward message outcome)

  forward-reply-few : (now : ℕ) (from : Peer) (message : List ℕ) → length (step s (Forward now from message)).1.reply ≤ 9000
  unfolding step forward_reply target_replied reply
  forward-reply-few now from message = by_found (find (counts_for s.setting.first_xid (max s.clock now) from message) s.ledger.forwards.all)
    where
      left : Forwards
      left = record s.ledger.forwards { all = without_first (counts_for s.setting.first_xid (max s.clock now) from message) s.ledger.forwards.all }

      by_found : (o : Option Entry)
          → length (show_end (tell_end message (at_fresh_moment now s) (noted_end (option_map (ended_by (outcome_of message)) o, left) s.ledger))).1.reply ≤ 9000
      by_found None = omega arith
      by_found (Some e) = end-few now message (outcome_of message) e (noted_end (Some (ended_by (outcome_of message) e), left) s.ledger).1

  shown-left : (r : Expired × State) → (show_expired r).1 ≡ r.1
  shown-left r = grind arith

  expired-few : (now : ℕ) (r : Expired × State) → Expiry s (max s.clock now) (at_fresh_moment now s) r → length r.1.reply ≤ 9000
  expired-few now r (EntryEnds e found ledger left is) = rw is (end-few now [] Failed e ledger)
  expired-few now r (ConnectionEnds none c found is) = rw is (omega arith)
  expired-few now r (NothingDue none free is) = rw is (omega arith)

  expire-reply-few : (now : ℕ) → length (step s (Expire now)).1.reply ≤ 9000
  unfolding step
  expire-reply-few now = let few = expired-few now (expire s now) (expiry s now) in let same = ap (λ (u : State). length u.reply) (shown-left (expire s now)) in omega (arith, few, same)

  module _ (reached : IsReached s) (good : are_good s.setting.limits s.setting.listener ≡ true) where
    sent-cost-few : (number : ℕ) → event_cost s (Sent number) ≤ send_pay
    sent-cost-few number = omega (arith, few_forwards s reached good)

    forward-cost-few : (now : ℕ) (from : Peer) (message : List ℕ) → event_cost s (Forward now from message) ≤ end_pay
    unfolding longest_reply
    forward-cost-few now from message = omega (arith, few_conns s reached good, few_forwards s reached good, forward-reply-few now from message)

    expire-cost-few : (now : ℕ) → event_cost s (Expire now) ≤ end_pay
    unfolding longest_reply
    expire-cost-few now = omega (arith, few_conns s reached good, few_forwards s reached good, expire-reply-few now)

-- ---- what is paid ahead

module _ (test : Who → Bool) where
  abbrev for_who : Who → ℕ → ℕ
  for_who who n = cond (test who) n 0

  -- if the caller is there and the test holds for it
  abbrev if_theirs : Option Who → ℕ → ℕ
  if_theirs o n = cond (option_map_or test o false) n 0

  -- ---- for a forwarded call

  abbrev owed_by : Entry → ℕ
  owed_by e = cond (test (who_of e.forward.caller)) (cond e.sent end_pay (end_pay + send_pay)) 0

  abbrev owed_for : Forwards → ℕ
  owed_for f = sum_by owed_by f.all

  begun : (clock : ℕ) (forward : Asked) (args : List ℕ) (f : Forwards) → owed_for (with_next_entry clock forward args f) ≡ owed_for f + for_who (who_of forward.caller) (end_pay + send_pay)
  unfolding with_next_entry next_entry
  begun clock forward args f = sum_by_push owed_by f.all (next_entry clock forward args f)

  entering-owed : (context : Context) (old new : Forwards) (b : Bool) → Entering context old new b → owed_for new ≤ owed_for old + for_who (who_of context.caller) (end_pay + send_pay)
  entering-owed context old new b (Same e same) = let is = ap owed_for same in omega (arith, is)
  entering-owed context old new b (Begins e forward args by can more) =
      let one = begun context.clock forward args old in
      let is = ap owed_for more in
      let same = ap (λ (caller : Caller). for_who (who_of caller) (end_pay + send_pay)) by in
      omega (arith, one, is, same)

  end-owed : (e : Entry) → for_who (who_of e.forward.caller) end_pay ≤ owed_by e
  end-owed e = grind arith

  ended-owed : (found : Entry → Bool) (all : List Entry) → sum_by owed_by (without_first found all) + if_theirs (caller_for (find found all)) end_pay ≤ sum_by owed_by all
  ended-owed found all = by_found (find found all) refl
    where
      by_found : (o : Option Entry) → find found all ≡ o → sum_by owed_by (without_first found all) + if_theirs (caller_for o) end_pay ≤ sum_by owed_by all
      by_found None e = let same = ap (sum_by owed_by) (all_stay found all e) in omega (arith, same)
      by_found (Some x) e = let one = sum-without found owed_by all x e in let least = end-owed x in omega (arith, one, least)

  not-sent : (number : ℕ) (e : Entry) → is_unsent number e ≡ true → e.sent ≡ false
  not-sent number e is = grind arith

  sending-owed : (e : Entry) → e.sent ≡ false → owed_by (as_sent e) + for_who (who_of e.forward.caller) send_pay ≤ owed_by e
  sending-owed e is = grind arith

  sent-owed : (number : ℕ) (all : List Entry) → sum_by owed_by (change_entry (is_unsent number) as_sent all) + if_theirs (caller_for (find (is_unsent number) all)) send_pay ≤ sum_by owed_by all
  sent-owed number [] = omega arith
  sent-owed number (e ∷ all) = by_test (is_unsent number e) refl (sent-owed number all)
    where
      changed : List Entry
      changed = change_entry (is_unsent number) as_sent all

      by_test : (b : Bool) → is_unsent number e ≡ b → sum_by owed_by changed + if_theirs (caller_for (find (is_unsent number) all)) send_pay ≤ sum_by owed_by all
          → sum_by owed_by (cond b (as_sent e ∷ all) (e ∷ changed)) + if_theirs (caller_for (cond b (Some e) (find (is_unsent number) all))) send_pay ≤ sum_by owed_by (e ∷ all)
      by_test true is rest = let less = sending-owed e (not-sent number e is) in omega (arith, less, sum_by-cons owed_by e all, sum_by-cons owed_by (as_sent e) all)
      by_test false is rest = omega (arith, rest, sum_by-cons owed_by e all, sum_by-cons owed_by e changed)

  none-unsent : (number : ℕ) (all : List Entry) → list_any (is_unsent number) all ≡ false → find (is_unsent number) all ≡ None
  none-unsent number [] none = refl
  none-unsent number (e ∷ all) none = grind (arith, common_steps, none-unsent number all)

  -- ---- for a connection

  abbrev owed_on : Connection → ℕ
  owed_on c = cond (test c.who) (cond (is_lost c.phase) 0 end_pay) 0

  abbrev owed_in : List Connection → ℕ
  owed_in all = sum_by owed_on all

  most-owed : (c : Connection) → owed_on c ≤ for_who c.who end_pay
  most-owed c = grind arith

  all-owed : (c : Connection) → is_lost c.phase ≡ false → owed_on c ≡ for_who c.who end_pay
  all-owed c lives = rw lives refl

  none-owed : (c : Connection) → owed_on (lose c) ≡ 0
  none-owed c = grind arith

  lives : (id : ℕ) (c : Connection) → is_live id c ≡ true → is_lost c.phase ≡ false
  unfolding is_live
  lives id c is = grind arith

  -- a change of the live one of a number leaves whose it is
  changed-owed : (id : ℕ) (f : Connection → Connection) → ((c : Connection) → (f c).who ≡ c.who) → (all : List Connection) → owed_in (change_first (is_live id) f all) ≤ owed_in all
  changed-owed id f same [] = omega arith
  changed-owed id f same (c ∷ all) = by_test (is_live id c) refl (changed-owed id f same all)
    where
      changed : List Connection
      changed = change_first (is_live id) f all

      by_test : (b : Bool) → is_live id c ≡ b → owed_in changed ≤ owed_in all → owed_in (cond b (f c ∷ all) (c ∷ changed)) ≤ owed_in (c ∷ all)
      by_test true is rest =
          let few = most-owed (f c) in
          let whole = all-owed c (lives id c is) in
          let who = ap (λ (x : Who). for_who x end_pay) (same c) in
          omega (arith, few, whole, who, sum_by-cons owed_on c all, sum_by-cons owed_on (f c) all)
      by_test false is rest = omega (arith, rest, sum_by-cons owed_on c all, sum_by-cons owed_on c changed)

  -- the first that passes the test is Lost, and was not before
  lost-owed : (p : Connection → Bool) → ((c : Connection) → p c ≡ true → is_lost c.phase ≡ false) → (all : List Connection) → owed_in (change_first p lose all) + if_theirs (caller_on (find p all)) end_pay ≤ owed_in all
  lost-owed p live [] = omega arith
  lost-owed p live (c ∷ all) = by_test (p c) refl (lost-owed p live all)
    where
      changed : List Connection
      changed = change_first p lose all

      by_test : (b : Bool) → p c ≡ b → owed_in changed + if_theirs (caller_on (find p all)) end_pay ≤ owed_in all
          → owed_in (cond b (lose c ∷ all) (c ∷ changed)) + if_theirs (caller_on (cond b (Some c) (find p all))) end_pay ≤ owed_in (c ∷ all)
      by_test true is rest =
          let none = none-owed c in
          let whole = all-owed c (live c is) in
          omega (arith, none, whole, sum_by-cons owed_on c all, sum_by-cons owed_on (lose c) all)
      by_test false is rest = omega (arith, rest, sum_by-cons owed_on c all, sum_by-cons owed_on c changed)

  evicted-less : (changes : List ℕ) (c : Connection) → owed_on (evict_early changes c) ≤ owed_on c
  unfolding evict_early
  evicted-less changes c = grind (arith, none-owed c)

  evicted-owed : (changes : List ℕ) (all : List Connection) → owed_in (map (evict_early changes) all) ≤ owed_in all
  evicted-owed changes [] = omega arith
  evicted-owed changes (c ∷ all) =
      let rest = evicted-owed changes all in
      let one = evicted-less changes c in
      omega (arith, rest, one, sum_by-cons owed_on c all, sum_by-cons owed_on (evict_early changes c) (map (evict_early changes) all))

  kept-owed : (p : Connection → Bool) (all : List Connection) → owed_in (filter p all) ≤ owed_in all
  kept-owed p [] = omega arith
  kept-owed p (c ∷ all) = grind (arith, common_steps, kept-owed p all, sum_by-cons owed_on c all, sum_by-cons owed_on c (filter p all))

  -- whose it is stays
  given-who : (clock n : ℕ) (c : Connection) → (give clock n c).1.who ≡ c.who
  unfolding give with_given
  given-who clock n c = grind arith

  settled-who : (clock : ℕ) (said : Outcome) (c : Connection) → (settle clock said c).who ≡ c.who
  unfolding settle
  settled-who clock said c = refl

  reading-who : (clock : ℕ) (fed : List ℕ) (c : Connection) → (keep_reading clock fed c).who ≡ c.who
  unfolding keep_reading
  reading-who clock fed c = refl

  abbrev opening_pay : Event → ℕ
  opening_pay (Open at who) = for_who who end_pay
  opening_pay event = 0

  happening-owed : (s : State) (event : Event) (output : Output) (now : Connections) → Happening s event output now → owed_in now.all ≤ owed_in s.connections.all + opening_pay event
  unfolding without_number
  happening-owed s event output now (Stays q same) = rw same (omega arith)
  happening-owed s event output now (Evicts at who content is q same) = rw same (omega (arith, evicted-owed (crowd_at s at (sender s who content) content) s.connections.all))
  happening-owed s event output now (Opens at who is out same) = rw (same, is) (omega (arith, sum_by_push owed_on s.connections.all (record { number = s.connections.next; who = who; phase = Idle; since = max s.clock at })))
  happening-owed s event output now (Reads at id piece c fed is there feeds none out same) = rw same (omega (arith, changed-owed id (keep_reading (max s.clock at) (fed ++ piece)) (reading-who (max s.clock at) (fed ++ piece)) s.connections.all))
  happening-owed s event output now (EndsRecord at id piece c fed n is there feeds some out same) = grind (arith, common_steps, settled-who, evicted-owed, changed-owed id)
  happening-owed s event output now (Gives at id n c is there few out same) = rw same (omega (arith, changed-owed id (λ (x : Connection). (give (max s.clock at) n x).1) (given-who (max s.clock at) n) s.connections.all))
  happening-owed s event output now (Closes id is out there same) = rw same (omega (arith, kept-owed (λ (c : Connection). not (eqb c.number id)) s.connections.all))
  happening-owed s event output now (Tells at id said is q final told there same) = rw same (omega (arith, changed-owed id (settle (max s.clock at) said) (settled-who (max s.clock at) said) s.connections.all))
  happening-owed s event output now (TimesOut at c is q none found same) = rw same (omega (arith, changed-owed c.number lose (λ (x : Connection). refl) s.connections.all))

  -- ---- what an event leaves of it

  module _ (s : State) where
    abbrev owed_after : Event → ℕ
    owed_after event = owed_for (step s event).1.ledger.forwards

    abbrev later_on : Event → ℕ
    later_on event = owed_in (step s event).1.connections.all

    abbrev owed_now : ℕ
    owed_now = owed_for s.ledger.forwards + owed_in s.connections.all

    on-connections : (event : Event) → later_on event ≤ owed_in s.connections.all + opening_pay event
    on-connections event = happening-owed s event (step s event).0 (step s event).1.connections (happening s event)

    left : (event : Event) → owed_after event ≡ owed_for (ledger_left s event).forwards
    left event = ap (λ (l : Ledger). owed_for l.forwards) (step-ledger s event)

    -- a message is answered
    served-owed : (now : ℕ) (caller : Caller) (content : List ℕ)
        → owed_for (ledger_from s (Some (record { now = now; caller = caller; content = content }))).forwards ≤ owed_for s.ledger.forwards + for_who (who_of caller) (end_pay + send_pay)
    unfolding serve
    served-owed now caller content =
        entering-owed (context_in (at_moment now s) caller) s.ledger.forwards (serve (at_moment now s) caller content).1.ledger.forwards
        (is_forwarded (serve (at_moment now s) caller content).0) (serve-enters (at_moment now s) caller content)

    record-owed : (now id : ℕ) (piece : List ℕ) (o : Option Connection)
        → owed_for (ledger_from s (record_on now id piece o)).forwards ≤ owed_for s.ledger.forwards + if_theirs (caller_on o) (end_pay + send_pay)
    record-owed now id piece None = omega arith
    record-owed now id piece (Some c) = by_taking (taking_of c.phase piece)
      where
        by_taking : (t : Taking) → owed_for (ledger_from s (record_in now id c.who t)).forwards ≤ owed_for s.ledger.forwards + for_who c.who (end_pay + send_pay)
        by_taking TakesNone = omega arith
        by_taking (GoesOn fed) = omega arith
        by_taking (Ends n content) = served-owed now (Tcp id c.who) content

    dropped-owed : (id : ℕ) (b : Bool) → owed_for (cond b (caller_dropped id s.ledger).1 s.ledger).forwards ≤ owed_for s.ledger.forwards
    unfolding caller_dropped drop_caller
    dropped-owed id true = omega (arith, ended-owed (is_of_connection id) s.ledger.forwards.all)
    dropped-owed id false = omega arith

    marked-owed : (number : ℕ) (b : Bool) → can_be_sent number s.ledger.forwards ≡ b
        → owed_for (cond b (call_sent number s.ledger) s.ledger).forwards + if_theirs (caller_for (find (is_unsent number) s.ledger.forwards.all)) send_pay ≤ owed_for s.ledger.forwards
    unfolding call_sent sent can_be_sent
    marked-owed number true e = sent-owed number s.ledger.forwards.all
    marked-owed number false e = rw (none-unsent number s.ledger.forwards.all e) (omega arith)

    replied-owed : (now : ℕ) (from : Peer) (message : List ℕ)
        → owed_for (ledger_left s (Forward now from message)).forwards + if_theirs (caller_of s (Forward now from message)) end_pay ≤ owed_for s.ledger.forwards
    unfolding target_replied reply
    replied-owed now from message = ended-owed (counts_for s.setting.first_xid (max s.clock now) from message) s.ledger.forwards.all

    fallen-owed : (now : ℕ) → owed_for (ledger_left s (Expire now)).forwards + if_theirs (caller_for (find (entry_is_due (max s.clock now)) s.ledger.forwards.all)) end_pay ≤ owed_for s.ledger.forwards
    unfolding fell_due due
    fallen-owed now = ended-owed (entry_is_due (max s.clock now)) s.ledger.forwards.all

    shown-connections : (r : Expired × State) → (show_expired r).1.connections ≡ r.1.connections
    shown-connections r = grind arith

    -- at most one of the two ends
    expiry-owed : IsReached s → (now : ℕ) → later_on (Expire now) + owed_after (Expire now) + if_theirs (caller_of s (Expire now)) end_pay ≤ owed_now
    unfolding step
    expiry-owed reached now =
        by_expiry (expiry s now) (left (Expire now)) (fallen-owed now) (omega (arith, on-connections (Expire now))) (ap (λ (c : Connections). owed_in c.all) (shown-connections (expire s now)))
      where
        clock : ℕ
        clock = max s.clock now

        by_expiry : Expiry s clock (at_fresh_moment now s) (expire s now) → owed_after (Expire now) ≡ owed_for (ledger_left s (Expire now)).forwards
            → owed_for (ledger_left s (Expire now)).forwards + if_theirs (caller_for (find (entry_is_due clock) s.ledger.forwards.all)) end_pay ≤ owed_for s.ledger.forwards
            → later_on (Expire now) ≤ owed_in s.connections.all → later_on (Expire now) ≡ owed_in (expire s now).1.connections.all
            → later_on (Expire now) + owed_after (Expire now) + if_theirs (caller_due (find (entry_is_due clock) s.ledger.forwards.all) (find (is_due clock) s.connections.all)) end_pay ≤ owed_now
        by_expiry (EntryEnds e found ledger new is) after fell kept shown = let ended = rw found at fell in rw found (omega (arith, after, ended, kept))
        by_expiry (ConnectionEnds none c found is) after fell kept shown =
            let same = ap (λ (r : Expired × State). owed_in r.1.connections.all) is in
            let first = ap owed_in (due-changed clock lose s.connections.all c (sound-apart 0 s.connections.next s.connections.all (reached-sound s reached)) found) in
            let lost = lost-owed (is_due clock) (due-live clock) s.connections.all in
            rw none (omega (arith, after, fell, shown, same, first, lost))
        by_expiry (NothingDue none free is) after fell kept shown = rw (none, free) (omega (arith, after, fell, kept))

    -- ---- what an event costs

    abbrev IsPaid : Event → Type 0
    IsPaid event = cost_of_theirs test s event + (owed_after event + later_on event) ≤ owed_now + paid_by_theirs test s event

    -- by its own caller
    own-paid : (b : Bool) (cost new most later : ℕ) → (b ≡ true → cost ≤ most) → new ≤ owed_now + cond b later 0 → cond b cost 0 + new ≤ owed_now + cond (b && true) (most + later) 0
    own-paid true cost new most later few more = omega (arith, few refl, more)
    own-paid false cost new most later few more = omega (arith, more)

    -- by earlier events
    ahead-paid : (b : Bool) (cost new pay most : ℕ) → cost ≤ pay → new + cond b pay 0 ≤ owed_now → cond b cost 0 + new ≤ owed_now + cond (b && false) most 0
    ahead-paid true cost new pay most few less = omega (arith, few, less)
    ahead-paid false cost new pay most few less = omega (arith, less)

    within : (b : Bool) (n : ℕ) → n ≤ 22000 → cond b n 0 ≤ cond b 22000 0
    within true n le = le
    within false n le = omega arith

    module _ (reached : IsReached s) (good : are_good s.setting.limits s.setting.listener ≡ true) (outsiders : (who : Who) → test who ≡ true → is_outsider s.setting.listener who ≡ true) where
      -- outsiders change no rows
      may-not : (who : Who) → test who ≡ true → may_register s.setting.listener.announced who ≡ false
      may-not who is = grind (arith, outsiders who is)

      none-asked : (message : Message) → asks_for_change false message ≡ false
      none-asked (says.Asked call) = refl
      none-asked says.NoCall = refl
      none-asked (says.Refused head) = refl
      none-asked (says.Garbage head) = refl

      none-ends : (t : Taking) → ends_for_change false t ≡ false
      none-ends TakesNone = refl
      none-ends (GoesOn fed) = refl
      none-ends (Ends n content) = none-asked (message_of content)

      no-record : (piece : List ℕ) (o : Option Connection) → option_map_or test (caller_on o) false ≡ true
          → option_map_or (λ (c : Connection). ends_for_change (may_register s.setting.listener.announced c.who) (taking_of c.phase piece)) o false ≡ false
      no-record piece None is = refl
      no-record piece (Some c) is = rw (may-not c.who is) (none-ends (taking_of c.phase piece))

      unchanged : (event : Event) → is_theirs test s event ≡ true → is_for_change s event ≡ false
      unchanged (Open now who) is = refl
      unchanged (Bytes now id piece) is = no-record piece (live_connection id s.connections.all) is
      unchanged (Pending id) is = refl
      unchanged (Gave now id n) is = refl
      unchanged (Closed id) is = refl
      unchanged NextLost is = refl
      unchanged (Datagram now who content) is = rw (may-not who is) (none-asked (message_of content))
      unchanged Unsent is = refl
      unchanged (Sent number) is = refl
      unchanged (Forward now from message) is = refl
      unchanged (Expire now) is = refl
      unchanged ZeroStats is = refl

      few : (event : Event) → is_theirs test s event ≡ true → event_cost s event ≤ byte_allowance s event + allowance_at s event
      few event is = events_cost_few s reached good event (unchanged event is)

      own : (event : Event) → is_paid_ahead event ≡ false → owed_after event + later_on event ≤ owed_now + cond (is_theirs test s event) (later_allowance event) 0 → IsPaid event
      own event is more = rw is (own-paid (is_theirs test s event) (event_cost s event) (owed_after event + later_on event) (byte_allowance s event + allowance_at s event) (later_allowance event) (few event) more)

      event-paid : (event : Event) → IsPaid event
      event-paid (Open now who) = own (Open now who) refl (omega (arith, left (Open now who), on-connections (Open now who), within (test who) end_pay (omega arith)))
      event-paid (Bytes now id piece) =
          let entries = record-owed now id piece (live_connection id s.connections.all) in
          own (Bytes now id piece) refl (omega (arith, left (Bytes now id piece), entries, on-connections (Bytes now id piece), within (is_theirs test s (Bytes now id piece)) (end_pay + send_pay) (omega arith)))
      event-paid (Pending id) = own (Pending id) refl (omega (arith, left (Pending id), on-connections (Pending id)))
      event-paid (Gave now id n) = own (Gave now id n) refl (omega (arith, left (Gave now id n), on-connections (Gave now id n)))
      event-paid (Closed id) = own (Closed id) refl (omega (arith, left (Closed id), dropped-owed id (is_there id s.connections), on-connections (Closed id)))
      event-paid NextLost = own NextLost refl (omega (arith, left NextLost, on-connections NextLost))
      event-paid (Datagram now who content) =
          let entries = served-owed now (sender s who content) content in
          own (Datagram now who content) refl (omega (arith, left (Datagram now who content), entries, on-connections (Datagram now who content), within (test who) (end_pay + send_pay) (omega arith)))
      event-paid Unsent = own Unsent refl (omega (arith, left Unsent, on-connections Unsent))
      event-paid (Sent number) =
          let entries = marked-owed number (can_be_sent number s.ledger.forwards) refl in
          ahead-paid (is_theirs test s (Sent number)) (event_cost s (Sent number)) (owed_after (Sent number) + later_on (Sent number)) send_pay _ (sent-cost-few s reached good number)
          (omega (arith, left (Sent number), entries, on-connections (Sent number)))
      event-paid (Forward now from message) =
          let entries = replied-owed now from message in
          ahead-paid (is_theirs test s (Forward now from message)) (event_cost s (Forward now from message)) (owed_after (Forward now from message) + later_on (Forward now from message)) end_pay _ (forward-cost-few s reached good now from message)
          (omega (arith, left (Forward now from message), entries, on-connections (Forward now from message)))
      event-paid (Expire now) =
          let both = expiry-owed reached now in
          ahead-paid (is_theirs test s (Expire now)) (event_cost s (Expire now)) (owed_after (Expire now) + later_on (Expire now)) end_pay _ (expire-cost-few s reached good now) (omega (arith, both))
      event-paid ZeroStats = own ZeroStats refl (omega (arith, left ZeroStats, on-connections ZeroStats))

  -- ---- runs

  run-paid : (s : State) → IsReached s → are_good s.setting.limits s.setting.listener ≡ true → ((who : Who) → test who ≡ true → is_outsider s.setting.listener who ≡ true) → (events : List Event)
      → sum_along (cost_of_theirs test) s events ≤ owed_now s + sum_along (paid_by_theirs test) s events
  run-paid s reached good outsiders [] = omega arith
  run-paid s reached good outsiders (event ∷ events) =
      let one = event-paid s reached good outsiders event in
      let rest = run-paid (step s event).1 (reached-step s reached event) (rw (step-setting s event) good) (rw (step-setting s event) outsiders) events in
      omega (arith, one, rest)

pub outsiders_pay_ahead : OutsidersPayAhead
outsiders_pay_ahead limits listener first_xid now events test good outsiders =
    let reached : IsReached (opening limits listener first_xid now) = record { limits = limits; listener = listener; first_xid = first_xid; now = now; events = []; is = refl } in
    let all = run-paid test (opening limits listener first_xid now) reached good outsiders events in
    omega (arith, all)
