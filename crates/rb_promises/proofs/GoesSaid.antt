-- Each event goes as the page of ends says.
use Rattle.std.proofs.Common.{◌≡◌, ◌⊎◌, inl, inr, ℕ, ◌+◌, ◌++◌, max, Bool, true, false, cond, Option, Some, None, Result, Ok, Err, List, [], ◌∷◌, length, refl, sym, ap, subst, ◌∙◌, append-nil, eq-eqb, arith}
use Rattle.rb_address.specs.declared.peer.Peer.{Peer}
use Rattle.rb_address.specs.declared.who.Who.{Who}
use Rattle.rb_xdr.specs.Xdr.{AreBytes}
use Rattle.rb_rpc.specs.declared.reply.ReplyHead.{ReplyHead}
use Rattle.rb_rpc.specs.declared.reply.ReplyStatus.{ReplyStatus}
use Rattle.rb_rpc.specs.ReadReplies.{read_reply}
use Rattle.rb_rpc.specs.Grammar.{RepliesAreOfTheGrammar}
use Rattle.rb_address.specs.declared.caller.Caller.{Caller}
use Rattle.rb_address.specs.declared.caller.Caller.TheVariants.{Tcp, Udp}
use Rattle.rb_forward.specs.declared.types.Ended.{Ended as EntryEnd}
use Rattle.rb_forward.specs.declared.types.FwdId.{FwdId}
use Rattle.rb_forward.specs.declared.types.ForwardEnd.TheVariants.{Failed, Dropped}
use Rattle.rb_forward.specs.Forwards.{can_be_sent, counts_for, is_due, is_connection, is_of_connection, outcome_read, outcome_of, reply, due, drop_caller, unsent}
use Rattle.rb_forward.specs.Ends.{EndsFirst, IsReplyTo, IsOf}
use Rattle.rb_forward.proofs.Ends.{ends_first, reply_means, reply_tested, due_means, due_tested, of_means, of_tested}
use Rattle.rb_answers.specs.Forwarding.{end_notes, target_replied, fell_due, caller_dropped, call_sent}
use Rattle.rb_answers.specs.Ledger.{Ledger}
use Rattle.rb_model.specs.declared.types.CoreFault.{CoreFault}
use Rattle.rb_model.specs.declared.types.CoreFault.TheVariants.{Gone}
use Rattle.rb_model.specs.declared.types.Told.{Told}
use Rattle.rb_model.specs.Calls.{Outcome, Outcome as outcomes}
use Rattle.rb_model.specs.Connections.{is_live, live_connection, pending_in, is_there, without_number, close_in_table, number_for, opening_as, open_in_table}
use Rattle.rb_model.specs.DeadlineLaws.{EntryIsDue}
use Rattle.rb_model.specs.Ending.{outcome_at_end, tell, tell_end, at_fresh_moment, lost_as, expire_connection, expired_as, forward_reply, expire}
use Rattle.rb_model.specs.ForwardLaws.{later_output}
use Rattle.rb_model.specs.Laws.{number_given, IsLive, IsLeast}
use Rattle.rb_model.specs.Losses.{is_due as connection_is_due, first_due, with_lost, expire_first}
use Rattle.rb_model.specs.Sessions.{Session, outcome_of_ended, outcome_by, session_after}
use Rattle.rb_model.specs.State.{State, Phase, Connection, Connections}
use Rattle.rb_model.specs.State.Phase.{Idle, Reading, Owing, Awaiting, Lost}
use Rattle.rb_model.specs.Step.{sender, Event, Output, bytes, pending, pending_on, unless_refused, open_connection, close_connection, dropped_with, next_lost, unsent_call, sent_call, output_or, show_done, show_told, show_end, show_expired, step, IsReached}
use Rattle.rb_model.specs.Step.Event.{Open, Bytes, Pending, Gave, Closed, NextLost, Datagram, Unsent, Sent, Forward, Expire, ZeroStats}
use Rattle.rb_model.specs.Step.Output.{Opened, IsPending, Done, UnsentIs, Nothing, ConnectionLost, Ready}
use Rattle.rb_laws.proofs.Entering.{is_forwarded}
use Rattle.rb_laws.proofs.Entries.{Await, connections_await}
use Rattle.rb_laws.proofs.Cuts.{find-holds}
use Rattle.rb_laws.proofs.Happenings.{arriving, is_end, Happening, Happening as happened, happening}
use Rattle.rb_laws.proofs.LeastLost.{first-least, next_lost_is_least}
use Rattle.rb_laws.proofs.LedgerSteps.{step-ledger}
use Rattle.rb_laws.proofs.Ledgers.{step-setting}
use Rattle.rb_laws.proofs.Numbers.{GivesNext, step-next}
use Rattle.rb_laws.proofs.Reached.{IsSoundPhase, reached-sound}
use Rattle.rb_laws.proofs.Sessions.{Holds, Fits, fits-live, sound-live, step-holds}
use Rattle.rb_laws.proofs.StepBounds.{reached-step}
use Rattle.rb_promises.specs.Accounts.{opened_by}
use Rattle.rb_promises.specs.Ends.{IsSaid, StandsAt, Connect, NoneMoves, Tells, LostIsTold, OpensOne, Does, Goes}
use Rattle.rb_promises.specs.Ends.OpensOne.{Opens, OpensNone}
use Rattle.rb_promises.specs.Ends.ClosesOne.{Closes, ClosesNone}
use Rattle.rb_promises.specs.Ends.SendsOne.{Sends, SendsNone}
use Rattle.rb_promises.specs.Ends.IsSaid.{ByReply, ByNoReply}
use Rattle.rb_promises.proofs.ConnectionSteps.{live-not-lost, taken_none, lost_connections_stay}
use Rattle.rb_promises.proofs.ConnectionTables.{none_opened, those_there}
use Rattle.rb_promises.proofs.EndingSaid.{lost_as_said}
use Rattle.rb_promises.proofs.EntriesSaid.{said, for_datagram, for_bytes}
use Rattle.rb_promises.proofs.GoingOn.{goes_on}
use Rattle.rb_promises.proofs.RefusalCases.{refusals_are_the_named_ones, too_much_is_the_named_one}
use Rattle.rb_promises.proofs.SessionSteps.{told_calls}

-- ---- where a connection stands

stands_at : (p : Phase) (t : Session) → IsSoundPhase p → Fits p t → (p ≡ Lost → ⊥) → StandsAt p t
stands_at Idle t sound fits live = (record { answered = fits.answered; given = sym (append-nil t.given) ∙ fits.rest }, fits.unfinished)
stands_at (Reading fed) t sound fits live = (record { answered = fits.answered; given = sym (append-nil t.given) ∙ fits.rest }, fits.unfinished)
stands_at (Owing o) t sound fits live = (fits.answered, fits.rest, sound)
stands_at Awaiting t sound fits live = fits.answered
stands_at Lost t sound fits live = live refl

-- ---- what is told of a forwarded call

-- the caller is told this by the output
abbrev ToldBy : Caller → Outcome → Output → Type 0
ToldBy (Tcp id who) told output = output ≡ Ready id
ToldBy (Udp who longest) told output = output ≡ later_output who told

tell_shows : (id : FwdId) (caller : Caller) (o : Outcome) (x : State) → ToldBy caller o (show_told (tell id caller o x).1.reply (tell id caller o x).0)
tell_shows id (Tcp k who) o x = refl
tell_shows id (Udp who longest) outcomes.NoCall x = refl
tell_shows id (Udp who longest) (outcomes.Reply bytes stamp) x = refl
tell_shows id (Udp who longest) outcomes.Forwarded x = refl
tell_shows id (Udp who longest) outcomes.Silent x = refl

ended_shows : (s : State) (at : ℕ) (message : List ℕ) (it : EntryEnd) (l : Ledger)
    → ToldBy it.forward.caller (outcome_at_end message it) (show_end (tell_end message (at_fresh_moment at s) (Some it, l))).0
ended_shows s at message it l = tell_shows it.id it.forward.caller (outcome_at_end message it) (record (at_fresh_moment at s) { ledger = l })

expired_shows : (r : Option Told × State) (told : Told) → r.0 ≡ Some told → (show_expired (expired_as r)).0 ≡ (show_end r).0
expired_shows (None, x) told e = absurd cc
expired_shows (Some it, x) told e = refl

-- ---- what a target says

is_said : RepliesAreOfTheGrammar → (message : List ℕ) → AreBytes message → IsSaid message (outcome_of message)
unfolding outcome_of
is_said grammar message are = by_read (read_reply message) refl
  where
    by_read : (o : Option (ReplyHead × ℕ)) → read_reply message ≡ o → IsSaid message (outcome_read (length message) o)
    by_read None none = ByNoReply (λ xid status place b. none_read xid status place (sym none ∙ (grammar message are xid status place).1 b)) refl
      where
        none_read : (xid : ℕ) (status : ReplyStatus) (place : ℕ) → ◌≡◌ {A = Option (ReplyHead × ℕ)} None (Some (record { xid = xid; status = status }, place)) → ⊥
        none_read xid status place e = cc
    by_read (Some (head, place)) some = ByReply head.xid head.status place ((grammar message are head.xid head.status place).0 some) refl

-- ---- which connection is due

lost_output : Option ℕ → Output
lost_output None = Nothing
lost_output (Some id) = ConnectionLost id

none_expires : (s : State) (at : ℕ) (l : Ledger) → (show_expired (expired_as (tell_end [] (at_fresh_moment at s) (None, l)))).0 ≡ lost_output (first_due (max s.clock at) s.connections)
unfolding expire_connection expire_first lost_output
none_expires s at l = by_found (first_due (max s.clock at) s.connections)
  where
    by_found : (o : Option ℕ) → (show_expired (lost_as o, record (record (at_fresh_moment at s) { ledger = l }) { connections = with_lost o s.connections })).0 ≡ lost_output o
    by_found None = refl
    by_found (Some id) = refl

-- ---- the numbers of connections

-- no number is given, or the event is an opening
record IsOpening (s : State) (event : Event) (output : Output) : Type 0 where
  at : ℕ
  who : Who
  opens : event ≡ Open at who
  told : output ≡ Opened s.connections.next

quiet_or_opens : (s : State) (event : Event) (output : Output) (now : Connections) → Happening s event output now → (number_given output ≡ None) ⊎ IsOpening s event output
quiet_or_opens s event output now (happened.Stays q same) = inl q.no_number
quiet_or_opens s event output now (happened.Evicts at who content is q same) = inl q.no_number
quiet_or_opens s event output now (happened.Opens at who is out same) = inr (record { at = at; who = who; opens = is; told = out })
quiet_or_opens s event output now (happened.Reads at id piece c fed is there feeds none out same) = inl (ap number_given out)
quiet_or_opens s event output now (happened.Ends at id piece c fed n is there feeds some out same) = inl (ap number_given out ∙ taken_none _)
quiet_or_opens s event output now (happened.Gives at id n c is there few out same) = inl (ap number_given out)
quiet_or_opens s event output now (happened.Closes id is out there same) = inl (ap number_given out)
quiet_or_opens s event output now (happened.Tells at id how is q final told there same) = inl q.no_number
quiet_or_opens s event output now (happened.TimesOut at c is q none found same) = inl q.no_number

counts_up : (s : State) (event : Event) → (step s event).1.connections.next ≡ s.connections.next + length (opened_by event (step s event).0)
counts_up s event = by_case (quiet_or_opens s event (step s event).0 (step s event).1.connections (happening s event))
  where
    by_case : (number_given (step s event).0 ≡ None) ⊎ IsOpening s event (step s event).0 → (step s event).1.connections.next ≡ s.connections.next + length (opened_by event (step s event).0)
    by_case (inl none) =
        let same : (step s event).1.connections.next ≡ s.connections.next = subst (λ (o : Option ℕ). GivesNext o s.connections.next (step s event).1.connections.next) none (step-next s event) in
        omega (arith, same, ap (λ (xs : List (ℕ × Who)). length xs) (none_opened event (step s event).0 none))
    by_case (inr o) =
        let more = subst (λ (x : Output). GivesNext (number_given x) s.connections.next (step s event).1.connections.next) o.told (step-next s event) in
        let one : opened_by event (step s event).0 ≡ (s.connections.next, o.who) ∷ [] = ap (λ (e : Event). opened_by e (step s event).0) o.opens ∙ ap (opened_by (Open o.at o.who)) o.told in
        omega (arith, more.1, ap (λ (xs : List (ℕ × Who)). length xs) one)

-- ---- one event

module _ (grammar : RepliesAreOfTheGrammar) (s : State) (reached : IsReached s) (waits : Await s) (t : ℕ → Session) (h : (k : ℕ) → Holds k s.connections (t k)) where
  abbrev u : Event → ℕ → Session
  u event k = session_after s k event (t k)

  abbrev After : Event → Type 0
  After event = Does s t event (step s event).0 (step s event).1 (u event) event

  abbrev Keeps : Event → Type 0
  Keeps event = NoneMoves s t event (step s event).0 (step s event).1 (u event)

  same_entries : (event : Event) → (step s event).1.ledger ≡ s.ledger → Keeps event
  same_entries event is = ap (λ (l : Ledger). l.forwards) is

  -- whom the end of a call tells
  abbrev TellsOne : Event → Caller → Outcome → Type 0
  TellsOne event caller told = Tells s t event (step s event).0 (step s event).1 (u event) caller told

  tells_caller : (event : Event) (caller : Caller) (told : Outcome) → is_end event ≡ true → ((id : ℕ) → is_connection id caller ≡ true → outcome_by s id event ≡ Some told)
      → ToldBy caller told (step s event).0 → TellsOne event caller told
  tells_caller event (Tcp id who) told is by shown = (shown, told_calls s event id (t id) (h id).none is told (by id (eq-eqb id id refl)))
  tells_caller event (Udp who longest) told is by shown = shown

  outcome_told : (message : List ℕ) (it : EntryEnd) (o : Option EntryEnd) → o ≡ Some it → (id : ℕ) → is_connection id it.forward.caller ≡ true
      → outcome_of_ended id message o ≡ Some (outcome_at_end message it)
  outcome_told message it o is id of = rw (is, of) refl

  -- ---- a datagram of a target

  module _ (at : ℕ) (from : Peer) (message : List ℕ) where
    abbrev came : Event
    came = Forward at from message

    abbrev replied : Option EntryEnd × Ledger
    replied = target_replied s.setting.first_xid (max s.clock at) from message s.ledger

    came_shows : (o : Option EntryEnd) → replied.0 ≡ o → (step s came).0 ≡ (show_end (tell_end message (at_fresh_moment at s) (o, replied.1))).0
    unfolding step forward_reply
    came_shows o is = ap (λ (x : Option EntryEnd). (show_end (tell_end message (at_fresh_moment at s) (x, replied.1))).0) is

    first_ends : EndsFirst (IsReplyTo s.setting.first_xid (max s.clock at) from message) (outcome_of message) s.ledger.forwards replied.0 replied.1.forwards
    unfolding target_replied reply
    first_ends = ends_first (IsReplyTo s.setting.first_xid (max s.clock at) from message) (counts_for s.setting.first_xid (max s.clock at) from message) (reply_means s.setting.first_xid (max s.clock at) from message)
        (reply_tested s.setting.first_xid (max s.clock at) from message) (outcome_of message) s.ledger.forwards

    end_is_noted : replied.1.history ≡ s.ledger.history ++ end_notes replied.0
    unfolding target_replied
    end_is_noted = refl

    for_target : After came
    for_target = (
      outcome_of message,
      λ are. is_said grammar message are,
      record {
        ended = replied.0;
        first = subst (λ (l : Ledger). EndsFirst (IsReplyTo s.setting.first_xid (max s.clock at) from message) (outcome_of message) s.ledger.forwards replied.0 l.forwards) (sym (step-ledger s came)) first_ends;
        told = λ it is.
            tells_caller came it.forward.caller (outcome_at_end message it) refl (λ id of. outcome_told message it replied.0 is id of)
            (subst (ToldBy it.forward.caller (outcome_at_end message it)) (sym (came_shows (Some it) is)) (ended_shows s at message it replied.1));
        noted = ap (λ (l : Ledger). l.history) (step-ledger s came) ∙ end_is_noted;
        none = λ is. came_shows None is;
      },
    )

  -- ---- a deadline

  module _ (at : ℕ) where
    abbrev falls : Event
    falls = Expire at

    abbrev fallen : Option EntryEnd × Ledger
    fallen = fell_due (max s.clock at) s.ledger

    falls_shows : (o : Option EntryEnd) → fallen.0 ≡ o → (step s falls).0 ≡ (show_expired (expired_as (tell_end [] (at_fresh_moment at s) (o, fallen.1)))).0
    unfolding step expire
    falls_shows o is = ap (λ (x : Option EntryEnd). (show_expired (expired_as (tell_end [] (at_fresh_moment at s) (x, fallen.1)))).0) is

    first_falls : EndsFirst (EntryIsDue (max s.clock at)) Failed s.ledger.forwards fallen.0 fallen.1.forwards
    unfolding fell_due due
    first_falls = ends_first (EntryIsDue (max s.clock at)) (is_due (max s.clock at)) (due_means (max s.clock at)) (due_tested (max s.clock at)) Failed s.ledger.forwards

    is_least : IsLeast (connection_is_due (max s.clock at)) s.connections.all (first_due (max s.clock at) s.connections)
    unfolding first_due
    is_least = first-least (connection_is_due (max s.clock at)) 0 s.connections.next s.connections.all (reached-sound s reached)

    fall_is_noted : fallen.1.history ≡ s.ledger.history ++ end_notes fallen.0
    unfolding fell_due
    fall_is_noted = refl

    for_deadline : After falls
    unfolding lost_output
    for_deadline = record {
      ended = fallen.0;
      first = subst (λ (l : Ledger). EndsFirst (EntryIsDue (max s.clock at)) Failed s.ledger.forwards fallen.0 l.forwards) (sym (step-ledger s falls)) first_falls;
      told = λ it is.
          tells_caller falls it.forward.caller (outcome_at_end [] it) refl (λ id of. outcome_told [] it fallen.0 is id of)
          (subst (ToldBy it.forward.caller (outcome_at_end [] it)) (sym (falls_shows (Some it) is ∙ expired_shows (tell_end [] (at_fresh_moment at s) (Some it, fallen.1)) _ refl)) (ended_shows s at [] it fallen.1));
      noted = ap (λ (l : Ledger). l.history) (step-ledger s falls) ∙ fall_is_noted;
      none = λ is.
          let out : (step s falls).0 ≡ lost_output (first_due (max s.clock at) s.connections) = falls_shows None is ∙ none_expires s at fallen.1 in
          record {
            due = first_due (max s.clock at) s.connections;
            least = is_least;
            some = λ id found. out ∙ ap lost_output found;
            none = λ none. out ∙ ap lost_output none;
          };
    }

  -- ---- the close of a connection

  first_drops : (id : ℕ) → EndsFirst (λ e. IsOf id e.forward.caller) Dropped s.ledger.forwards (caller_dropped id s.ledger).0 (caller_dropped id s.ledger).1.forwards
  unfolding caller_dropped drop_caller
  first_drops id = ends_first (λ e. IsOf id e.forward.caller) (is_of_connection id) (λ e. of_means id e.forward.caller) (λ e. of_tested id e.forward.caller) Dropped s.ledger.forwards

  drop_is_noted : (id : ℕ) → (caller_dropped id s.ledger).1.history ≡ s.ledger.history ++ end_notes (caller_dropped id s.ledger).0
  unfolding caller_dropped
  drop_is_noted id = refl

  for_close : (id : ℕ) (b : Bool) → is_there id s.connections ≡ b → After (Closed id)
  unfolding step close_connection close_in_table
  for_close id true there =
      Closes (ap (λ (x : Bool). (output_or show_done (dropped_with s id (cond x (Ok tt, without_number id s.connections) (Err Gone, s.connections)))).0) there) (caller_dropped id s.ledger).0
      (subst (λ (l : Ledger). EndsFirst (λ e. IsOf id e.forward.caller) Dropped s.ledger.forwards (caller_dropped id s.ledger).0 l.forwards)
      (sym (step-ledger s (Closed id) ∙ ap (λ (x : Bool). cond x (caller_dropped id s.ledger).1 s.ledger) there)) (first_drops id))
      (ap (λ (l : Ledger). l.history) (step-ledger s (Closed id) ∙ ap (λ (x : Bool). cond x (caller_dropped id s.ledger).1 s.ledger) there) ∙ drop_is_noted id)
  for_close id false gone =
      ClosesNone (ap (λ (x : Bool). (output_or show_done (dropped_with s id (cond x (Ok tt, without_number id s.connections) (Err Gone, s.connections)))).0) gone)
      (step-ledger s (Closed id) ∙ ap (λ (x : Bool). cond x (caller_dropped id s.ledger).1 s.ledger) gone)

  -- ---- a call that is sent

  for_sent : (number : ℕ) (b : Bool) → can_be_sent number s.ledger.forwards ≡ b → After (Sent number)
  unfolding step sent_call call_sent
  for_sent number true there = rw there (Sends refl refl)
  for_sent number false gone = rw gone (SendsNone refl refl)

  -- ---- an opening

  next_is : (r : Result ℕ CoreFault) (number : ℕ) → number_for s.setting.limits.conns s.connections ≡ Ok number → number ≡ s.connections.next
  unfolding number_for
  next_is r number e = grind arith

  opens : (at : ℕ) (who : Who) (r : Result ℕ CoreFault) → number_for s.setting.limits.conns s.connections ≡ r → OpensOne s t (Open at who) (step s (Open at who)).0 (step s (Open at who)).1 (u (Open at who)) (max s.clock at) who
  unfolding step open_connection open_in_table
  opens at who (Err fault) e = OpensNone fault (ap (λ (x : Result ℕ CoreFault). (output_or Opened (unless_refused at s (opening_as who (max s.clock at) s.connections x))).0) e)
  opens at who (Ok number) e =
      Opens (ap (λ (x : Result ℕ CoreFault). (output_or Opened (unless_refused at s (opening_as who (max s.clock at) s.connections x))).0) e ∙ ap Opened (next_is (Ok number) number e))
      (ap (λ (x : Result ℕ CoreFault). (output_or Opened (unless_refused at s (opening_as who (max s.clock at) s.connections x))).1.connections) e)

  -- ---- looks, and statistics that begin anew

  lost_is_told : LostIsTold s t NextLost (step s NextLost).0 (step s NextLost).1 (u NextLost)
  unfolding step
  lost_is_told = record { number = next_lost s; told = refl; least = next_lost_is_least s reached }

  shows : (id : ℕ) (c : Connection) → IsLive s id c → (step s (Pending id)).0 ≡ IsPending (pending_in c.phase)
  unfolding step pending
  shows id c there = ap (λ (o : Option Connection). (output_or IsPending (pending_on o, s)).0) there

  unsent_is_told : (step s Unsent).0 ≡ UnsentIs (unsent s.setting.first_xid s.ledger.forwards)
  unfolding step unsent_call
  unsent_is_told = refl

  anew : (step s ZeroStats).0 ≡ Done
  unfolding step
  anew = refl

  does : (event : Event) → After event
  does (Open at who) = (opens at who (number_for s.setting.limits.conns s.connections) refl, same_entries (Open at who) (step-ledger s (Open at who)))
  does (Bytes at id piece) = for_bytes s t h at id piece (bytes s at id piece) refl (arriving s at id piece)
  does (Pending id) = (λ c there. shows id c there, same_entries (Pending id) (step-ledger s (Pending id)))
  does (Gave at id n) = same_entries (Gave at id n) (step-ledger s (Gave at id n))
  does (Closed id) = for_close id (is_there id s.connections) refl
  does NextLost = (lost_is_told, same_entries NextLost (step-ledger s NextLost))
  does (Datagram at who content) = for_datagram s t h at who content (is_forwarded (said s at (sender s who content) content)) refl
  does Unsent = (unsent_is_told, same_entries Unsent (step-ledger s Unsent))
  does (Sent number) = for_sent number (can_be_sent number s.ledger.forwards) refl
  does (Forward at from message) = for_target at from message
  does (Expire at) = for_deadline at
  does ZeroStats = (anew, ap (λ (l : Ledger). l.forwards) (step-ledger s ZeroStats))

  -- ---- connections

  not_lost : (id : ℕ) (x : State) (c : Connection) → IsLive x id c → c.phase ≡ Lost → ⊥
  unfolding live_connection
  not_lost id x c there lost = live-not-lost id c (find-holds (is_live id) x.connections.all c there) lost

  module _ (event : Event) where
    abbrev left : State
    left = (step s event).1

    holds : (id : ℕ) → Holds id left.connections (u event id)
    holds id = step-holds id s (t id) (h id) event waits

    connects : Connect s t event (step s event).0 left (u event)
    connects = record {
      stands = λ id c there. stands_at c.phase (u event id) (sound-live id left (u event id) (holds id) c there) (fits-live id left (u event id) (holds id) c there) (not_lost id left c there);
      waits = λ id. connections_await left (reached-step s reached event) id;
      goes_on = λ id c d there now. goes_on s waits t h event id c d there now;
      lost = λ id c there. lost_as_said s reached id c there event t (u event);
      there = those_there s event;
      stays_lost = λ c within lost other. (lost_connections_stay s c within lost).stays event other;
    }

    pub goes : Goes s t event (step s event).0 left (u event)
    goes = record {
      setting = step-setting s event;
      next = counts_up s event;
      connect = connects;
      does = does event;
      refused = λ fault. refusals_are_the_named_ones s event fault;
      too_much = too_much_is_the_named_one s event;
    }
