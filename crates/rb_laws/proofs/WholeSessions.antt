-- What passes on one connection in a whole run, event by event.
use Rattle.std.proofs.Common.{◌≡◌, ◌≢◌, inl, inr, ℕ, ◌-◌, Bool, true, false, not, eqb, Option, Some, None, Result, List, [], ◌∷◌, ◌++◌, length, take, refl, sym, ap, subst, ◌∙◌, arith}
use Rattle.std.proofs.Math.Seq.{take-nil}
use Rattle.std.proofs.lemmas.List.{take_all}
use Rattle.std.proofs.lemmas.Bool.{and_parts, eqb-true}
use Rattle.std.proofs.lemmas.Grind.{common_steps}
use Rattle.rb_rpc.specs.Records.{first_record}
use Rattle.rb_rpc.proofs.Streams.{are_unique}
use Rattle.rb_answers.specs.declared.listener.Listener.{Listener}
use Rattle.rb_model.specs.declared.types.CoreFault.{CoreFault}
use Rattle.rb_model.specs.declared.types.Limits.{Limits}
use Rattle.rb_model.specs.State.{State, Phase, Connection, Connections, opening}
use Rattle.rb_model.specs.State.Phase.{Idle, Reading, Owing, Awaiting, Lost}
use Rattle.rb_model.specs.Connections.{is_live, is_lost, live_connection, fed_in}
use Rattle.rb_model.specs.Laws.{is_awaiting, IsLive, owed_in}
use Rattle.rb_model.specs.Step.{Event, Output, bytes, output_or, show_taken, step, after}
use Rattle.rb_model.specs.declared.types.Taken.{Taken}
use Rattle.rb_model.specs.Step.Event.{Bytes}
use Rattle.rb_model.specs.Sessions.{Session, piece_to, taken_by, empty_session, session_after, session_from, AllGiven, IsWholeOrEnds, SessionsAreWhole}
use Rattle.rb_model.specs.Bounds.{count_in}
use Rattle.rb_laws.proofs.Cuts.{find-holds}
use Rattle.rb_laws.proofs.Entries.{Await, step-awaits, opening-awaits}
use Rattle.rb_laws.proofs.Happenings.{Arriving, arriving, Happening, happening, said_in}
use Rattle.rb_laws.proofs.Happenings.Arriving.{NotThere, NotTaken, ReadOn, Ended}
use Rattle.rb_laws.proofs.Happenings.Happening.{Stays, Evicts, Opens, Reads, Ends, Gives, Closes, Tells, TimesOut}
use Rattle.rb_laws.proofs.Passing.{no-record, first-alone}
use Rattle.rb_laws.proofs.Reached.{IsSoundPhase}
use Rattle.rb_laws.proofs.Sessions.{contents, Holds, all-given, all-answered, count-shown, fits-live, sound-live, ends-whole, taken-is, step-holds}
use Rattle.rb_laws.proofs.WholeReplies.{is-left}

-- ---- whole runs

pub run-holds : (id : ℕ) (s : State) (t : Session) (events : List Event) → Await s → Holds id s.connections t → Holds id (after s events).connections (session_from s id t events)
run-holds id s t [] waits h = h
run-holds id s t (event ∷ events) waits h = run-holds id (step s event).1 (session_after s id event t) events (step-awaits s h.sound waits event) (step-holds id s t h event waits)

pub none-found : (c : Connection) → ◌≡◌ {A = Option Connection} None (Some c) → ⊥
none-found c e = cc

pub opening-holds : (id : ℕ) (limits : Limits) (listener : Listener) (first_xid now : ℕ) → Holds id (opening limits listener first_xid now).connections empty_session
unfolding first_record
opening-holds id limits listener first_xid now = record {
  sound = omega arith;
  none = refl;
  records = λ are. record { texts = []; are_marked = tt; whole = refl; none_more = no-record };
  front = record { rest = []; whole = refl };
  new = λ le. refl;
  live = λ c is. absurd (none-found c is);
}

-- ---- no byte is taken while a reply is owed

pub same_one : (c d : Connection) → ◌≡◌ {A = Option Connection} (Some c) (Some d) → c ≡ d
same_one c d e = cc

module _ (id : ℕ) (s : State) (t : Session) (h : Holds id s.connections t) where
  none-by : (event : Event) (output : Output) → piece_to id event ≡ [] → taken_by id event output ≢ [] → AllGiven t
  none-by event output is some = absurd (some (ap (λ (xs : List ℕ). take (count_in output) xs) is ∙ take-nil (count_in output)))

  fed-given : (at k : ℕ) (piece : List ℕ) (c : Connection) (fed : List ℕ) (output : Output) → live_connection k s.connections.all ≡ Some c → fed_in c.phase ≡ Some fed
      → taken_by id (Bytes at k piece) output ≢ [] → (b : Bool) → eqb k id ≡ b → AllGiven t
  fed-given at k piece c fed output there feeds some false e = grind (arith, common_steps, none-by (Bytes at k piece) output)
  fed-given at k piece c fed output there feeds some true e = grind (arith, common_steps, all-answered, all-given, eqb-true k id e, fits-live id s t h c)

  turn : (event : Event) (output : Output) (now : Connections) → Happening s event output now → taken_by id event output ≢ [] → AllGiven t
  turn event output now (Stays q same) some = absurd (some (ap (λ (n : ℕ). take n (piece_to id event)) q.no_count))
  turn event output now (Evicts at who content is q same) some = absurd (some (ap (λ (n : ℕ). take n (piece_to id event)) q.no_count))
  turn event output now (Opens at who is out same) some = none-by event output (ap (piece_to id) is) some
  turn event output now (Reads at k piece c fed is there feeds none out same) some =
      fed-given at k piece c fed output there feeds (subst (λ (ev : Event). taken_by id ev output ≢ []) is some) (eqb k id) refl
  turn event output now (Ends at k piece c fed n is there feeds ends out same) some =
      fed-given at k piece c fed output there feeds (subst (λ (ev : Event). taken_by id ev output ≢ []) is some) (eqb k id) refl
  turn event output now (Gives at k n c is there few out same) some = none-by event output (ap (piece_to id) is) some
  turn event output now (TimesOut at c is q none found same) some = absurd (some (ap (λ (n : ℕ). take n (piece_to id event)) q.no_count))
  turn event output now (Tells at k said is q final told has same) some = absurd (some (ap (λ (n : ℕ). take n (piece_to id event)) q.no_count))
  turn event output now (Closes k is out there same) some = none-by event output (ap (piece_to id) is) some

  in-turn : (event : Event) → taken_by id event (step s event).0 ≢ [] → AllGiven t
  in-turn event some = turn event (step s event).0 (step s event).1.connections (happening s event) some

  -- ---- a piece is taken whole, or up to the end of a record

  module _ (c : Connection) (there : IsLive s id c) where
    -- a live connection takes bytes, or owes some
    feeds-or-owes : owed_in c.phase ≡ [] → is_awaiting c.phase ≡ false → (fed : List ℕ) × (fed_in c.phase ≡ Some fed)
    unfolding live_connection is_live
    feeds-or-owes none waits = by_value c.phase (and_parts (eqb c.number id) (not (is_lost c.phase)) (find-holds (is_live id) s.connections.all c there)).1 (sound-live id s t h c there) none waits
      where
        by_value : (p : Phase) → not (is_lost p) ≡ true → IsSoundPhase p → owed_in p ≡ [] → is_awaiting p ≡ false → (fed : List ℕ) × (fed_in p ≡ Some fed)
        by_value Idle live sound none waits = ([], refl)
        by_value (Reading fed) live sound none waits = (fed, refl)
        by_value (Owing o) live sound none waits = absurd (omega (arith, sound, is-left o none))
        by_value Awaiting live sound none waits = absurd cc
        by_value Lost live sound none waits = absurd cc

    one : (d : Connection) → live_connection id s.connections.all ≡ Some d → d ≡ c
    one d is = same_one d c (sym is ∙ there)

    taken-by : (now : ℕ) (piece : List ℕ) (r : Result Taken CoreFault × State) (k : ℕ) → count_in (output_or show_taken r).0 ≡ k → taken_by id (Bytes now id piece) (output_or show_taken r).0 ≡ take k piece
    taken-by now piece r k is = taken-is id s t h c there now piece (output_or show_taken r).0 k is

    whole : (now : ℕ) (piece : List ℕ) → owed_in c.phase ≡ [] → is_awaiting c.phase ≡ false → (r : Result Taken CoreFault × State) → Arriving s now id piece r → IsWholeOrEnds t.unfinished piece (taken_by id (Bytes now id piece) (output_or show_taken r).0)
    whole now piece none waits r (NotThere gone is) = absurd (none-found c (sym gone ∙ there))
    whole now piece none waits r (NotTaken d here (inl feeds) is) = grind (arith, common_steps, none-found, feeds-or-owes, one, taken-by, take_all, common_steps, count-shown, ends-whole, first-alone)
    whole now piece none waits r (NotTaken d here (inr empty) is) = grind arith
    whole now piece none waits r (ReadOn d fed here feeds ends is) =
        inl (taken-by now piece r (length piece) (ap (λ (x : Result Taken CoreFault × State). count_in (output_or show_taken x).0) is) ∙ take_all (length piece) piece (omega arith))
    whole now piece none waits r (Ended d fed n here feeds ends is) =
        let said = said_in s now id d (take n (fed ++ piece)) in
        let part : taken_by id (Bytes now id piece) (output_or show_taken r).0 ≡ take (n - length fed) piece = grind (arith, common_steps, taken-by, count-shown) in
        inr (n, ap (λ (xs : List ℕ). first_record (t.unfinished ++ xs)) part ∙ ap first_record (ends-whole id s t h d here piece fed n feeds ends) ∙ first-alone (fed ++ piece) n ends)

    takes-whole : owed_in c.phase ≡ [] → is_awaiting c.phase ≡ false → (now : ℕ) (piece : List ℕ) → IsWholeOrEnds t.unfinished piece (taken_by id (Bytes now id piece) (step s (Bytes now id piece)).0)
    unfolding step
    takes-whole none waits now piece = whole now piece none waits (bytes s now id piece) (arriving s now id piece)

pub sessions_are_whole : SessionsAreWhole
sessions_are_whole limits listener first_xid now events id =
    let start : State = opening limits listener first_xid now in
    let passed : Session = session_from start id empty_session events in
    let h : Holds id (after start events).connections passed = run-holds id start empty_session events (opening-awaits limits listener first_xid now) (opening-holds id limits listener first_xid now) in
    record {
      records = h.records;
      only = λ others rest are r. are_unique passed.taken others (contents passed.calls) rest passed.unfinished r (h.records are);
      front = h.front;
      live = λ c there. record {
        answered = (fits-live id (after start events) passed h c there).answered;
        replies = (fits-live id (after start events) passed h c there).rest;
        takes = λ none waits at piece. takes-whole id (after start events) passed h c there none waits at piece;
      };
      in_turn = in-turn id (after start events) passed h;
    }
