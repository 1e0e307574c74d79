-- What one event of a run makes of what passed before it.
use Rattle.std.specs.Prelude.{Contains}
use Rattle.std.proofs.Common.{◌≡◌, ◌<◌, ◌≤◌, ◌⊎◌, inl, inr, ℕ, ◌+◌, ◌-◌, ◌*◌, ◌/◌, max, Bool, true, false, cond, not, eqb, nat_lt, Option, Some, None, Result, List, [], ◌∷◌, ◌++◌, length, take, drop, refl, sym, ap, subst, ◌∙◌, append_assoc, append-nil, length-append, eq-eqb, arith}
use Rattle.std.proofs.lemmas.Bool.{and_parts, ltb-false, ne_eqb, not-true, cases_lt}
use Rattle.std.proofs.lemmas.List.{take_all, length-take, length-drop, take-append-drop, nil_from_length}
use Rattle.std.proofs.lemmas.List.Elements.{All-contains, Contains-push}
use Rattle.rb_xdr.specs.Xdr.{AreBytes}
use Rattle.rb_address.specs.declared.who.Who.{Who}
use Rattle.rb_address.specs.declared.caller.Caller.{Caller}
use Rattle.rb_address.specs.declared.caller.Caller.TheVariants.{Tcp, Udp}
use Rattle.rb_rpc.specs.Records.{first_record, data_of}
use Rattle.rb_rpc.specs.RecordLaws.{IsMarked}
use Rattle.rb_rpc.proofs.Markings.{first_is_least, none_where_no_front, data_is_joined}
use Rattle.rb_forward.specs.declared.types.Ended.{Ended as EntryEnd}
use Rattle.rb_forward.specs.Forwards.{is_connection}
use Rattle.rb_answers.specs.Forwarding.{target_replied, fell_due}
use Rattle.rb_registry.specs.Rows.{Change}
use Rattle.rb_model.specs.declared.types.CoreFault.{CoreFault}
use Rattle.rb_model.specs.declared.types.CoreFault.TheVariants.{Gone}
use Rattle.rb_model.specs.declared.types.Taken.{Taken}
use Rattle.rb_model.specs.Bounds.{count_in}
use Rattle.rb_model.specs.Calls.{Outcome, Outcome as outcomes, is_no_call}
use Rattle.rb_model.specs.ChangeLaws.{Brought, record_on, change_by}
use Rattle.rb_model.specs.HistoryLaws.{notes_by}
use Rattle.rb_model.specs.Connections.{longest_fragment, fed_in, is_lost, pending_of, taking_of, live_connection, is_live, on_found, give, pending_in}
use Rattle.rb_model.specs.Connections.Taking.{Ends}
use Rattle.rb_model.specs.Ending.{outcome_at_end}
use Rattle.rb_model.specs.Laws.{owed_bytes, owed_in}
use Rattle.rb_model.specs.Sessions.{Exchange, Session, at_event, piece_to, taken_by, gave_to, given_by, outcome_of_ended, outcome_by, with_last_outcome, session_after, replies_to, IsFinal, is_answered, AwaitsLast, AllGiven}
use Rattle.rb_model.specs.State.{State, Owed, Phase, Connection, at_moment}
use Rattle.rb_model.specs.State.Phase.{Idle, Reading, Owing, Awaiting, Lost}
use Rattle.rb_model.specs.Step.{sender, Event, Output, serve, bytes, pending, pending_on, gave, is_too_much, unless_refused, with_reply, datagram, zero_stats, output_or, show_taken, show_done, show_outcome, step, IsReached}
use Rattle.rb_model.specs.Step.Event.{Open, Bytes, Pending, Gave, Closed, NextLost, Datagram, Unsent, Sent, Forward, Expire, ZeroStats}
use Rattle.rb_model.specs.Step.Output.{Refused, TooMuch, Took, IsPending, Done}
use Rattle.rb_laws.proofs.Changes.{step-appends}
use Rattle.rb_laws.proofs.Cuts.{find-holds, number-is}
use Rattle.rb_laws.proofs.Entries.{Await, IsWaiting, entry-waits}
use Rattle.rb_laws.proofs.Happenings.{Arriving, arriving, said_in, is_end, TellsTo, tells}
use Rattle.rb_laws.proofs.Happenings.Arriving.{NotThere, NotTaken, ReadOn, Ended}
use Rattle.rb_laws.proofs.History.{events_are_noted}
use Rattle.rb_laws.proofs.LedgerSteps.{ledger_from, step-ledger}
use Rattle.rb_laws.proofs.Ledgers.{step-own}
use Rattle.rb_laws.proofs.Passing.{none-taken, none-passed, goes-on, ends, first-alone}
use Rattle.rb_laws.proofs.Reached.{IsSoundPhase}
use Rattle.rb_laws.proofs.Sessions.{Holds, Fits, fits-live, sound-live, unfinished-here, ends-whole, taken-is, all-given, all-answered, count-shown}
use Rattle.rb_laws.proofs.WholeReplies.{behind, front-of, is-left}
use Rattle.rb_promises.specs.Accounts.{Account, sent_back, took, is_refusal, KeepsRows, IsAnswered, context_at, IsBesides, AreNotedBesides, Happens}
use Rattle.rb_promises.specs.Accounts.Happens.{ADatagram, ARecord, MoreBytes, NoBytes, ALook, Gives, AnEnd, Besides, ARefusal}
use Rattle.rb_promises.specs.PassedRuns.{account_of}
use Rattle.rb_promises.proofs.LeftRows.{message_answered}
use Rattle.rb_promises.proofs.PassedClocks.{AreOpened, contains_found}
use Rattle.rb_promises.proofs.SessionSteps.{ends_in_piece, told_ready, none_gave, session_is, none_passes, no_piece}

-- ---- outputs

sent_is : (r : Outcome × State) → (show_outcome (with_reply r)).0 ≡ sent_back r.0
sent_is (outcomes.NoCall, after) = refl
sent_is (outcomes.Reply reply stamp, after) = refl
sent_is (outcomes.Forwarded, after) = refl
sent_is (outcomes.Silent, after) = refl

took_is : (n : ℕ) (said : Outcome) → show_taken (record { count = n; lost = is_no_call said }) ≡ took n said
took_is n outcomes.NoCall = refl
took_is n (outcomes.Reply reply stamp) = refl
took_is n outcomes.Forwarded = refl
took_is n outcomes.Silent = refl

-- ---- phases

-- what follows all that there is is nothing
nothing_more : (given owed all : List ℕ) → given ++ owed ≡ all → given ≡ all → owed ≡ []
nothing_more given owed all whole same =
    nil_from_length owed (omega (arith, length-append given owed, ap (λ (xs : List ℕ). length xs) whole, ap (λ (xs : List ℕ). length xs) same))

-- a phase that takes no byte owes or awaits some
not_given : (p : Phase) (t : Session) → IsSoundPhase p → Fits p t → fed_in p ≡ None → is_lost p ≡ false → AllGiven t → ⊥
not_given Idle t sound fits none live all = absurd cc
not_given (Reading fed) t sound fits none live all = absurd cc
not_given (Owing o) t sound fits none live all =
    omega (arith, sound, is-left o (nothing_more t.given (owed_bytes o) (replies_to t.calls) fits.rest all.given))
not_given Awaiting t sound fits none live all =
    let a : AwaitsLast t.calls = fits.answered in
    let last : is_answered a.last =
    All-contains is_answered t.calls a.last all.answered (subst (λ (xs : List Exchange). Contains xs a.last) (sym a.whole) (Contains-push a.before a.last)) in
    let final = subst IsFinal a.forwarded last in final
not_given Lost t sound fits none live all = absurd cc

ends_later : (o : Owed) → o.given < longest_fragment * (o.given / longest_fragment + 1)
unfolding longest_fragment
ends_later o = omega arith

pending_none : (p : Phase) → IsSoundPhase p → pending_in p ≡ [] → owed_in p ≡ []
unfolding pending_of
pending_none Idle sound none = refl
pending_none (Reading fed) sound none = refl
pending_none Awaiting sound none = refl
pending_none Lost sound none = refl
pending_none (Owing o) sound none =
    let k : ℕ = longest_fragment * (o.given / longest_fragment + 1) in
    absurd (omega (arith, ends_later o, sound, ap (λ (xs : List ℕ). length xs) none, length-drop o.given (take k o.marked), length-take k o.marked))

-- a record that ends in the bytes
marked_is : (all : List ℕ) (n : ℕ) → first_record all ≡ Some n → length all ≤ n → AreBytes all → IsMarked all (data_of all)
marked_is all n some short are =
    let f = (first_is_least all are n).0 some in
    let is_marked : IsMarked all f.content = subst (λ (xs : List ℕ). IsMarked xs f.content) (take_all n all short) f.is_marked in
    let content_is : data_of all ≡ f.content = ap data_of (sym (append-nil all)) ∙ data_is_joined all f.content [] is_marked in
    subst (λ (xs : List ℕ). IsMarked all xs) (sym content_is) is_marked

none_some : (n : ℕ) → ◌≡◌ {A = Option ℕ} None (Some n) → ⊥
none_some n e = cc

pub taking_is : (p : Phase) (fed piece : List ℕ) (n : ℕ) → fed_in p ≡ Some fed → first_record fed ≡ None → first_record (fed ++ piece) ≡ Some n
    → taking_of p piece ≡ Ends (n - length fed) (data_of (take n (fed ++ piece)))
unfolding taking_of
taking_is p fed [] n feeds none some = absurd (none_some n (sym none ∙ ap first_record (sym (append-nil fed)) ∙ some))
taking_is p fed (byte ∷ piece) n feeds none some = rw (feeds, some) refl

-- ---- one event

module _ (s : State) (reached : IsReached s) (t : ℕ → Session) (h : (id : ℕ) → Holds id s.connections (t id)) (waits : Await s)
    (opened more : List (ℕ × Who)) (are : AreOpened opened s.connections) where
  abbrev before : Account
  before = account_of s opened t

  abbrev next : Event → Account
  next event = account_of (step s event).1 more (λ id. session_after s id event (t id))

  abbrev Does : Event → Type 0
  Does event = Happens s.setting.limits s.setting.listener before event (step s event).0 (next event)

  -- ---- sessions

  none_told : (event : Event) (output : Output) → (step s event).0 ≡ output → count_in output ≡ 0 → ((id : ℕ) → given_by s id event output ≡ [])
      → ((id : ℕ) → outcome_by s id event ≡ None) → (id : ℕ) → session_after s id event (t id) ≡ t id
  none_told event output is no_count no_bytes no_outcome id =
      none_passes s event id (t id) (h id).none (ap (λ (o : Output). take (count_in o) (piece_to id event)) is ∙ ap (λ (n : ℕ). take n (piece_to id event)) no_count)
      (ap (λ (o : Output). given_by s id event o) is ∙ no_bytes id) (no_outcome id)

  -- ---- events beside

  keeps : (event : Event) → change_by s event ≡ [] → KeepsRows s.ledger (step s event).1.ledger
  keeps event none = record {
    own = step-own s event;
    changes = step-appends s event ∙ ap (λ (xs : List Change). s.ledger.changes ++ xs) none ∙ append-nil s.ledger.changes;
  }

  besides : (event : Event) → IsBesides event → change_by s event ≡ [] → AreNotedBesides event s.ledger.history (step s event).1.ledger.history
      → ((id : ℕ) → piece_to id event ≡ []) → ((id : ℕ) → gave_to id event ≡ 0) → ((id : ℕ) → outcome_by s id event ≡ None) → Does event
  besides event is none noted no_bytes no_gave no_outcome =
      Besides is (keeps event none) noted
      (λ id. none_passes s event id (t id) (h id).none (no_piece s event id (t id) (no_bytes id)) (none_gave s event id (step s event).0 (no_gave id)) (no_outcome id))

  -- ---- ends of forwarded calls

  module _ (event : Event) (is : IsBesides event) (ends_one : is_end event ≡ true) (none : change_by s event ≡ []) (noted : AreNotedBesides event s.ledger.history (step s event).1.ledger.history)
      (no_bytes : (id : ℕ) → piece_to id event ≡ []) (no_gave : (id : ℕ) → gave_to id event ≡ 0) (message : List ℕ) where
    told_end : (id : ℕ) (said : Outcome) → outcome_by s id event ≡ Some said → ((other : ℕ) → ¬ (other ≡ id) → outcome_by s other event ≡ None) → Does event
    told_end id said told alone =
        let tell : TellsTo s event id said (step s event).1.connections = tells s event id said told in
        let w : IsWaiting id s.connections.all = entry-waits s id waits tell.has in
        let fits : Fits Awaiting (t id) = subst (λ (p : Phase). Fits p (t id)) w.phase (fits-live id s (t id) (h id) w.connection w.there) in
        AnEnd id said is (told_ready s event id said told) tell.final fits.answered (keeps event none) noted (record {
          here = session_is s event id (t id) [] [] (Some said) (no_piece s event id (t id) (no_bytes id)) (none_gave s event id (step s event).0 (no_gave id)) told
              ∙ ap (λ (x : Session). record x { calls = with_last_outcome said x.calls }) (none-passed (at_event event s) id (t id) (h id).none);
          others = λ other apart. none_passes s event other (t other) (h other).none (no_piece s event other (t other) (no_bytes other)) (none_gave s event other (step s event).0 (no_gave other)) (alone other apart);
        })

    by_caller : (ended : EntryEnd) (caller : Caller) → ended.forward.caller ≡ caller
        → ((id : ℕ) → outcome_by s id event ≡ cond (is_connection id caller) (Some (outcome_at_end message ended)) None) → Does event
    by_caller ended (Udp who longest) same told = besides event is none noted no_bytes no_gave (λ id. told id)
    by_caller ended (Tcp id who) same told =
        told_end id (outcome_at_end message ended) (told id ∙ ap (λ (b : Bool). cond b (Some (outcome_at_end message ended)) None) (eq-eqb id id refl))
        (λ other apart. told other ∙ ap (λ (b : Bool). cond b (Some (outcome_at_end message ended)) None) (ne_eqb id other (λ e. apart (sym e))))

    by_ended : (o : Option EntryEnd) → ((id : ℕ) → outcome_by s id event ≡ outcome_of_ended id message o) → Does event
    by_ended None told = besides event is none noted no_bytes no_gave told
    by_ended (Some ended) told = by_caller ended ended.forward.caller refl told

  -- ---- datagrams

  a_datagram : (now : ℕ) (who : Who) (content : List ℕ) → Does (Datagram now who content)
  unfolding step datagram serve
  a_datagram now who content =
      ADatagram now who content (serve (at_moment now s) (sender s who content) content).0 refl (sent_is (serve (at_moment now s) (sender s who content) content))
      (message_answered s reached (Datagram now who content) (record { now = now; caller = sender s who content; content = content }) refl (step-ledger s (Datagram now who content)) refl refl)
      (λ id. none_passes s (Datagram now who content) id (t id) (h id).none (no_piece s (Datagram now who content) id (t id) refl) (none_gave s (Datagram now who content) id (step s (Datagram now who content)).0 refl) refl)

  -- ---- bytes

  module _ (now k : ℕ) (piece : List ℕ) where
    abbrev event : Event
    event = Bytes now k piece

    out_is : (r : Result Taken CoreFault × State) → bytes s now k piece ≡ r → (step s event).0 ≡ (output_or show_taken r).0
    unfolding step
    out_is r e = ap (λ (x : Result Taken CoreFault × State). (output_or show_taken x).0) e

    state_is : (r : Result Taken CoreFault × State) → bytes s now k piece ≡ r → (step s event).1 ≡ (output_or show_taken r).1
    unfolding step
    state_is r e = ap (λ (x : Result Taken CoreFault × State). (output_or show_taken x).1) e

    none_given : (output : Output) → gave_to k event ≡ 0 → (id : ℕ) → given_by s id event output ≡ []
    none_given output zero id = none_gave s event id output refl

    other_session : (other : ℕ) → ¬ (other ≡ k) → session_after s other event (t other) ≡ t other
    other_session other apart =
        none_passes s event other (t other) (h other).none (no_piece s event other (t other) (ap (λ (b : Bool). cond b piece []) (ne_eqb k other (λ e. apart (sym e)))))
        (none_gave s event other (step s event).0 refl) refl

    -- the live connection
    module _ (c : Connection) (there : live_connection k s.connections.all ≡ Some c) where
      fits : Fits c.phase (t k)
      fits = fits-live k s (t k) (h k) c there

      taken_so : (n : ℕ) → count_in (step s event).0 ≡ n → taken_by k event (step s event).0 ≡ take n piece
      taken_so n is = taken-is k s (t k) (h k) c there now piece (step s event).0 n is

      given_all : (fed : List ℕ) → fed_in c.phase ≡ Some fed → AllGiven (t k)
      given_all fed feeds = record { answered = all-answered c.phase fed (t k) feeds fits; given = all-given c.phase fed (t k) feeds fits }

      caller_is : Contains opened (k, c.who)
      unfolding live_connection
      caller_is = subst (λ (n : ℕ). Contains opened (n, c.who)) (number-is k c (find-holds (is_live k) s.connections.all c there))
          (are c (contains_found (is_live k) s.connections.all c there))

      more_bytes : (fed : List ℕ) → fed_in c.phase ≡ Some fed → first_record (fed ++ piece) ≡ None → 0 < length piece → (step s event).0 ≡ Took (length piece) → (step s event).1.ledger ≡ s.ledger → Does event
      more_bytes fed feeds none some out same =
          let whole : (t k).unfinished ++ piece ≡ fed ++ piece = ap (λ (xs : List ℕ). xs ++ piece) (unfinished-here k s (t k) (h k) c there fed feeds) in
          let still : first_record ((t k).unfinished ++ piece) ≡ None = ap first_record whole ∙ none in
          let taken : taken_by k event (step s event).0 ≡ piece = taken_so (length piece) (ap count_in out) ∙ take_all (length piece) piece (omega arith) in
          MoreBytes now k piece refl some out (given_all fed feeds) (λ bytes. (none_where_no_front ((t k).unfinished ++ piece) bytes).0 still) same (record {
            here = session_is s event k (t k) piece [] None taken (none_gave s event k (step s event).0 refl) refl ∙ goes-on (at_moment now s) k piece (t k) still;
            others = other_session;
          })

      abbrev said_of : List ℕ → Outcome
      said_of record_bytes = said_in s now k c record_bytes

      abbrev answered_of : List ℕ → Type 0
      answered_of record_bytes =
          IsAnswered (context_at s.setting.limits s.setting.listener (max s.clock now) (Tcp k c.who)) (data_of record_bytes) (said_of record_bytes) s.ledger (step s event).1.ledger

      record_answered : (fed : List ℕ) (n : ℕ) → fed_in c.phase ≡ Some fed → first_record (fed ++ piece) ≡ Some n → answered_of (take n (fed ++ piece))
      record_answered fed n feeds some =
          let none : first_record fed ≡ None = ap first_record (sym (unfinished-here k s (t k) (h k) c there fed feeds)) ∙ (h k).none in
          let m : Brought = record { now = now; caller = Tcp k c.who; content = data_of (take n (fed ++ piece)) } in
          let brings : record_on now k piece (live_connection k s.connections.all) ≡ Some m = rw (there, taking_is c.phase fed piece n feeds none some) refl in
          message_answered s reached event m brings (step-ledger s event ∙ ap (ledger_from s) brings) refl refl

      a_record : (fed : List ℕ) (n : ℕ) → fed_in c.phase ≡ Some fed → first_record (fed ++ piece) ≡ Some n
          → (step s event).0 ≡ show_taken (record { count = n - length fed; lost = is_no_call (said_of (take n (fed ++ piece))) }) → Does event
      a_record fed n feeds some out =
          let taken : List ℕ = take (n - length fed) piece in
          let all : List ℕ = (t k).unfinished ++ taken in
          let whole : all ≡ take n (fed ++ piece) = ends-whole k s (t k) (h k) c there piece fed n feeds some in
          let here : first_record all ≡ Some n = ap first_record whole ∙ first-alone (fed ++ piece) n some in
          let short : length all ≤ n = omega (arith, ap (λ (xs : List ℕ). length xs) whole, length-take n (fed ++ piece)) in
          let out_so : (step s event).0 ≡ show_taken (record { count = n - length fed; lost = is_no_call (said_of all) }) =
          out ∙ ap (λ (xs : List ℕ). show_taken (record { count = n - length fed; lost = is_no_call (said_of xs) })) (sym whole) in
          let counts : count_in (step s event).0 ≡ n - length fed = ap count_in out_so ∙ count-shown (record { count = n - length fed; lost = is_no_call (said_of all) }) in
          ARecord now k (n - length fed) piece (data_of all) c.who (said_of all) refl (ends_in_piece fed piece n some) (out_so ∙ took_is (n - length fed) (said_of all)) (given_all fed feeds) caller_is
          (λ bytes. marked_is all n here short bytes) (subst answered_of (sym whole) (record_answered fed n feeds some)) (record {
            here = session_is s event k (t k) taken [] None (taken_so (n - length fed) counts) (none_gave s event k (step s event).0 refl) refl ∙ ends (at_moment now s) k taken (t k) n c here there;
            others = other_session;
          })

      live_is : (id : ℕ) (d : Connection) → is_live id d ≡ true → is_lost d.phase ≡ false
      unfolding is_live
      live_is id d e = not-true (is_lost d.phase) (and_parts (eqb d.number id) (not (is_lost d.phase)) e).1

      none_taken : (fed_in c.phase ≡ None) ⊎ (piece ≡ []) → (piece ≡ []) ⊎ ¬ (AllGiven (t k))
      unfolding live_connection is_live
      none_taken (inr none) = inl none
      none_taken (inl none) = inr (λ all. not_given c.phase (t k) (sound-live k s (t k) (h k) c there) fits none (live_is k c (find-holds (is_live k) s.connections.all c there)) all)

    by_arriving : (r : Result Taken CoreFault × State) → bytes s now k piece ≡ r → Arriving s now k piece r → Does event
    by_arriving r e (NotThere none is) =
        let out : (step s event).0 ≡ Refused Gone = out_is r e ∙ ap (λ (x : Result Taken CoreFault × State). (output_or show_taken x).0) is in
        ARefusal tt (ap is_refusal out) (ap (λ (x : State). x.ledger) (state_is r e ∙ ap (λ (x : Result Taken CoreFault × State). (output_or show_taken x).1) is))
        (none_told event (Refused Gone) out refl (λ id. refl) (λ id. refl))
    by_arriving r e (NotTaken c there why is) =
        let out : (step s event).0 ≡ Took 0 = out_is r e ∙ ap (λ (x : Result Taken CoreFault × State). (output_or show_taken x).0) is in
        NoBytes now k piece refl out (none_taken c there why) (ap (λ (x : State). x.ledger) (state_is r e ∙ ap (λ (x : Result Taken CoreFault × State). (output_or show_taken x).1) is))
        (none_told event (Took 0) out refl (λ id. refl) (λ id. refl))
    by_arriving r e (ReadOn c fed there feeds none is) =
        by_piece (cases_lt 0 (length piece)) (out_is r e ∙ ap (λ (x : Result Taken CoreFault × State). (output_or show_taken x).0) is)
        (ap (λ (x : State). x.ledger) (state_is r e ∙ ap (λ (x : Result Taken CoreFault × State). (output_or show_taken x).1) is))
      where
        by_piece : (0 < length piece) ⊎ (length piece ≤ 0) → (step s event).0 ≡ Took (length piece) → (step s event).1.ledger ≡ s.ledger → Does event
        by_piece (inl some) out same = more_bytes c there fed feeds none some out same
        by_piece (inr empty) out same =
            let none : length piece ≡ 0 = omega (arith, empty) in
            let took_none : (step s event).0 ≡ Took 0 = out ∙ ap Took none in
            NoBytes now k piece refl took_none (inl (nil_from_length piece none)) same (none_told event (Took 0) took_none refl (λ id. refl) (λ id. refl))
    by_arriving r e (Ended c fed n there feeds some is) =
        a_record c there fed n feeds some (out_is r e ∙ ap (λ (x : Result Taken CoreFault × State). (output_or show_taken x).0) is)

  -- ---- looks, and bytes that are given

  front_is : (c : Connection) (id : ℕ) → live_connection id s.connections.all ≡ Some c → (t id).given ++ (pending_in c.phase ++ behind c.phase) ≡ replies_to (t id).calls
  front_is c id there =
      ap (λ (xs : List ℕ). (t id).given ++ xs) (sym (front-of c.phase (sound-live id s (t id) (h id) c there))) ∙ (fits-live id s (t id) (h id) c there).rest

  a_look : (id : ℕ) (o : Option Connection) → live_connection id s.connections.all ≡ o → step s (Pending id) ≡ output_or IsPending (pending_on o, s) → Does (Pending id)
  a_look id None none is =
      let out : (step s (Pending id)).0 ≡ Refused Gone = ap (λ (r : Output × State). r.0) is in
      ARefusal tt (ap is_refusal out) (ap (λ (r : Output × State). r.1.ledger) is) (none_told (Pending id) (Refused Gone) out refl (λ k. refl) (λ k. refl))
  a_look id (Some c) there is =
      let out : (step s (Pending id)).0 ≡ IsPending (pending_in c.phase) = ap (λ (r : Output × State). r.0) is in
      ALook id (pending_in c.phase) refl out
      (record { rest = behind c.phase; whole = append_assoc (t id).given (pending_in c.phase) (behind c.phase) ∙ front_is c id there })
      (λ none. sym (append-nil (t id).given) ∙ ap (λ (xs : List ℕ). (t id).given ++ xs) (sym (pending_none c.phase (sound-live id s (t id) (h id) c there) none)) ∙ (fits-live id s (t id) (h id) c there).rest)
      (ap (λ (r : Output × State). r.1.ledger) is) (none_told (Pending id) (IsPending (pending_in c.phase)) out refl (λ k. refl) (λ k. refl))

  module _ (now k n : ℕ) where
    abbrev giving : Event
    giving = Gave now k n

    abbrev gave_as : Option Connection → Bool → Output × State
    gave_as o b = cond b (TooMuch, s) (output_or show_done (unless_refused now s (on_found k (give (max s.clock now) n) s.connections o)))

    gave_is : (o : Option Connection) → live_connection k s.connections.all ≡ o → step s giving ≡ gave_as o (is_too_much n (pending_on o))
    unfolding step pending gave
    gave_is o e = ap (λ (x : Option Connection). gave_as x (is_too_much n (pending_on x))) e

    other_given : (other : ℕ) → ¬ (other ≡ k) → session_after s other giving (t other) ≡ t other
    other_given other apart =
        none_passes s giving other (t other) (h other).none (no_piece s giving other (t other) refl) (none_gave s giving other (step s giving).0 (ap (λ (b : Bool). cond b n 0) (ne_eqb k other (λ e. apart (sym e))))) refl

    is_refused : (output : Output) → is_refusal output ≡ true → count_in output ≡ 0 → ((id : ℕ) → given_by s id giving output ≡ []) → step s giving ≡ (output, s) → Does giving
    is_refused output refuses no_count no_bytes is =
        let out : (step s giving).0 ≡ output = ap (λ (r : Output × State). r.0) is in
        ARefusal tt (ap is_refusal out ∙ refuses) (ap (λ (r : Output × State). r.1.ledger) is) (none_told giving output out no_count no_bytes (λ id. refl))

    given_is : (d : Connection) → live_connection k s.connections.all ≡ Some d → given_by s k giving Done ≡ take n (pending_in d.phase)
    unfolding pending
    given_is d here = rw (here, eq-eqb k k refl) refl

    a_gave : (o : Option Connection) → live_connection k s.connections.all ≡ o → Does giving
    a_gave None none = is_refused (Refused Gone) refl refl (λ id. refl) (gave_is None none)
    a_gave (Some c) there = by_test (nat_lt (length (pending_in c.phase)) n) refl
      where
        by_test : (b : Bool) → nat_lt (length (pending_in c.phase)) n ≡ b → Does giving
        by_test true e = is_refused TooMuch refl refl (λ id. refl) (gave_is (Some c) there ∙ ap (gave_as (Some c)) e)
        by_test false e =
            let is : step s giving ≡ gave_as (Some c) false = gave_is (Some c) there ∙ ap (gave_as (Some c)) e in
            let out : (step s giving).0 ≡ Done = ap (λ (r : Output × State). r.0) is in
            let few : n ≤ length (pending_in c.phase) = ltb-false (length (pending_in c.phase)) n e in
            let bytes : List ℕ = take n (pending_in c.phase) in
            let gave_so : given_by s k giving (step s giving).0 ≡ bytes = ap (λ (o : Output). given_by s k giving o) out ∙ given_is c there in
            let count : length bytes ≡ n = omega (arith, length-take n (pending_in c.phase), few) in
            Gives now k bytes (ap (λ (m : ℕ). Gave now k m) (sym count)) out (record {
              rest = drop n (pending_in c.phase) ++ behind c.phase;
              whole = append_assoc (t k).given bytes (drop n (pending_in c.phase) ++ behind c.phase)
                  ∙ ap (λ (xs : List ℕ). (t k).given ++ xs) (sym (append_assoc bytes (drop n (pending_in c.phase)) (behind c.phase)) ∙ ap (λ (xs : List ℕ). xs ++ behind c.phase) (take-append-drop n (pending_in c.phase)))
                  ∙ front_is c k there;
            }) (ap (λ (r : Output × State). r.1.ledger) is) (record {
              here = session_is s giving k (t k) [] bytes None (no_piece s giving k (t k) refl) gave_so refl ∙ none-taken s k bytes (t k) (h k).none;
              others = other_given;
            })

  -- ---- each event

  none_noted : (one : Event) → (step s one).1.ledger.history ≡ s.ledger.history ++ [] → (step s one).1.ledger.history ≡ s.ledger.history
  none_noted one is = is ∙ append-nil s.ledger.history

  look_is : (id : ℕ) → step s (Pending id) ≡ output_or IsPending (pending_on (live_connection id s.connections.all), s)
  unfolding step pending
  look_is id = refl

  zeroed : (step s ZeroStats).1.ledger.history ≡ []
  unfolding step zero_stats
  zeroed = refl

  pub happens : (event : Event) → Does event
  happens (Open now who) = besides (Open now who) tt refl (none_noted (Open now who) (events_are_noted s (Open now who))) (λ id. refl) (λ id. refl) (λ id. refl)
  happens (Bytes now id piece) = by_arriving now id piece (bytes s now id piece) refl (arriving s now id piece)
  happens (Pending id) = a_look id (live_connection id s.connections.all) refl (look_is id)
  happens (Gave now id n) = a_gave now id n (live_connection id s.connections.all) refl
  happens (Closed id) = besides (Closed id) tt refl (notes_by s (Closed id), events_are_noted s (Closed id)) (λ k. refl) (λ k. refl) (λ k. refl)
  happens NextLost = besides NextLost tt refl (none_noted NextLost (events_are_noted s NextLost)) (λ id. refl) (λ id. refl) (λ id. refl)
  happens (Datagram now who content) = a_datagram now who content
  happens Unsent = besides Unsent tt refl (none_noted Unsent (events_are_noted s Unsent)) (λ id. refl) (λ id. refl) (λ id. refl)
  happens (Sent number) = besides (Sent number) tt refl (none_noted (Sent number) (events_are_noted s (Sent number))) (λ id. refl) (λ id. refl) (λ id. refl)
  happens (Forward now from message) =
      by_ended (Forward now from message) tt refl refl (notes_by s (Forward now from message), events_are_noted s (Forward now from message)) (λ id. refl) (λ id. refl)
      message (target_replied s.setting.first_xid (max s.clock now) from message s.ledger).0 (λ id. refl)
  happens (Expire now) =
      by_ended (Expire now) tt refl refl (notes_by s (Expire now), events_are_noted s (Expire now)) (λ id. refl) (λ id. refl) [] (fell_due (max s.clock now) s.ledger).0 (λ id. refl)
  happens ZeroStats = besides ZeroStats tt refl zeroed (λ id. refl) (λ id. refl) (λ id. refl)
