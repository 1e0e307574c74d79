-- How a connection that stays live goes on by an event.
use Rattle.std.specs.Prelude.{find, map}
use Rattle.std.proofs.Common.{◌≡◌, ◌<◌, ◌≤◌, ℕ, ◌+◌, ◌-◌, max, min, Bool, true, false, cond, eqb, Option, Some, None, List, [], ◌∷◌, ◌++◌, length, take, refl, sym, ap, subst, ◌∙◌, arith}
use Rattle.std.proofs.lemmas.Bool.{eqb-true}
use Rattle.std.proofs.lemmas.Option.{same_Some}
use Rattle.std.proofs.lemmas.Grind.{common_steps}
use Rattle.rb_address.specs.declared.caller.Caller.TheVariants.{Tcp}
use Rattle.rb_rpc.specs.Records.{first_record, data_of}
use Rattle.rb_forward.specs.declared.types.Ended.{Ended as EntryEnd}
use Rattle.rb_answers.specs.Ledger.{Ledger}
use Rattle.rb_answers.specs.Forwarding.{target_replied, fell_due}
use Rattle.rb_model.specs.declared.types.Told.{Told}
use Rattle.rb_model.specs.Bounds.{count_in}
use Rattle.rb_model.specs.Calls.{Outcome, Outcome as outcomes, is_no_call}
use Rattle.rb_model.specs.Connections.{is_live, live_connection, fed_in, taking_behind, taking_of, keep_reading, settle, give, with_given, pending_in, change_first, changed_at, without_number}
use Rattle.rb_model.specs.Ending.{tell_end, at_fresh_moment, expired_as, forward_reply, expire}
use Rattle.rb_model.specs.Laws.{IsLive}
use Rattle.rb_model.specs.Losses.{lose, evict_early, evict}
use Rattle.rb_model.specs.Sessions.{Session, at_event, piece_to, taken_by, gave_to, session_with, outcome_of_ended, outcome_by, with_last_outcome, session_after}
use Rattle.rb_model.specs.State.{State, Phase, Connection, Connections, at_moment}
use Rattle.rb_model.specs.State.Phase.{Idle, Awaiting}
use Rattle.rb_model.specs.Step.{sender, when_taken, bytes_to, bytes, Event, Output, output_or, show_taken, show_end, show_expired, step}
use Rattle.rb_model.specs.Step.Event.{Open, Bytes, Pending, Gave, Closed, NextLost, Datagram, Unsent, Sent, Forward, Expire, ZeroStats}
use Rattle.rb_model.specs.Step.Output.{Opened, Took, Done}
use Rattle.rb_laws.proofs.Crowds.{plain_lives, stays_dead, still_is}
use Rattle.rb_laws.proofs.Cuts.{find-changed, find-holds, number-is, reading-feeds, fed-no-list}
use Rattle.rb_laws.proofs.Entries.{Await, IsWaiting, entry-waits}
use Rattle.rb_laws.proofs.Happenings.{Happening, happening, said_in, crowd_at, IsQuiet, TellsTo, tells, end-passes-none}
use Rattle.rb_laws.proofs.Happenings.Happening.{Stays, Evicts, Opens, Reads, Ends, Gives, Closes, Tells, TimesOut}
use Rattle.rb_laws.proofs.Live.{without, changed-other, closed-other, find-before, closed-gone, lost-gone, timed-out-gone, answering-feeds, giving-feeds}
use Rattle.rb_laws.proofs.Closings.{final-call}
use Rattle.rb_laws.proofs.Passing.{none-passed, first-alone, ends}
use Rattle.rb_laws.proofs.Reached.{AreSound, mapped, evicted-keeps, settled-keeps, giving-keeps, lost-keeps}
use Rattle.rb_laws.proofs.Sessions.{Holds, Fits, fits-live, unfinished-here, ends-whole, taken-is}
use Rattle.rb_promises.specs.Ends.{GoesOn}
use Rattle.rb_promises.specs.Ends.GoesOn.{AsItWas, ReadsOn, RecordEnds, IsGiven, IsTold}
use Rattle.rb_promises.proofs.SessionSteps.{told_ready, none_gave, session_is, no_piece, plain_passes, other_passes}

-- ---- what is found

-- if numbers rise, a live connection that is left was live before
found_above : (id least next : ℕ) (all : List Connection) (d : Connection) → AreSound least next all → find (is_live id) all ≡ Some d → least ≤ d.number
found_above id least next [] d a is = grind arith
found_above id least next (x ∷ all) d a is = grind (arith, found_above id (x.number + 1) next all d a.2)

pub left_before : (id : ℕ) (changes : List ℕ) (least next : ℕ) (all : List Connection) (d : Connection) → AreSound least next all → find (is_live id) (map (evict_early changes) all) ≡ Some d → find (is_live id) all ≡ Some d
left_before id changes least next [] d a is = is
left_before id changes least next (x ∷ all) d a is = by_live (is_live id x) refl (left_before id changes (x.number + 1) next all d a.2)
  where
    by_live : (b : Bool) → is_live id x ≡ b → (find (is_live id) (map (evict_early changes) all) ≡ Some d → find (is_live id) all ≡ Some d) → find (is_live id) (x ∷ all) ≡ Some d
    by_live bb e later = grind (arith, common_steps, stays_dead, still_is, found_above, mapped, evicted-keeps, number-is, find-holds)

none_some : (c : Connection) → ◌≡◌ {A = Option Connection} None (Some c) → ⊥
none_some c e = cc

none_said : (said : Outcome) → ◌≡◌ {A = Option Outcome} None (Some said) → ⊥
none_said said e = cc

no_call_is : (said : Outcome) → is_no_call said ≡ true → said ≡ outcomes.NoCall
no_call_is outcomes.NoCall e = refl
no_call_is (outcomes.Reply reply stamp) e = absurd cc
no_call_is outcomes.Forwarded e = absurd cc
no_call_is outcomes.Silent e = absurd cc

min_is : (n m : ℕ) → n ≤ m → min n m ≡ n
min_is n m few = omega (arith, few)

-- ---- the end of a forwarded call

told_so : (s : State) (at : ℕ) (message : List ℕ) (id : ℕ) (said : Outcome) (r : Option EntryEnd × Ledger) (show : Option Told × State → Output × State)
    → ((told : Told) (x : State) → (show (Some told, x)).1 ≡ x) → outcome_of_ended id message r.0 ≡ Some said
    → (show (tell_end message (at_fresh_moment at s) r)).1.connections ≡ changed_at id (settle (show (tell_end message (at_fresh_moment at s) r)).1.clock said) s.connections
told_so s at message id said r show leaves told = grind arith

pub told_connections : (s : State) (event : Event) (id : ℕ) (said : Outcome) → outcome_by s id event ≡ Some said
    → (step s event).1.connections ≡ changed_at id (settle (step s event).1.clock said) s.connections
unfolding step forward_reply expire
told_connections s (Forward at from message) id said told = told_so s at message id said (target_replied s.setting.first_xid (max s.clock at) from message s.ledger) show_end (λ x u. refl) told
told_connections s (Expire at) id said told = told_so s at [] id said (fell_due (max s.clock at) s.ledger) (λ r. show_expired (expired_as r)) (λ x u. refl) told
told_connections s (Open at who) id said told = absurd cc
told_connections s (Bytes at k piece) id said told = absurd cc
told_connections s (Pending k) id said told = absurd cc
told_connections s (Gave at k n) id said told = absurd cc
told_connections s (Closed k) id said told = absurd cc
told_connections s NextLost id said told = absurd cc
told_connections s (Datagram at who content) id said told = absurd cc
told_connections s Unsent id said told = absurd cc
told_connections s (Sent number) id said told = absurd cc
told_connections s ZeroStats id said told = absurd cc

-- ---- an empty piece

empty_stays : (s : State) (at k : ℕ) → (step s (Bytes at k [])).1.connections ≡ s.connections
unfolding step bytes taking_of
empty_stays s at k = by_live (live_connection k s.connections.all)
  where
    by_phase : (c : Connection) (fed : Option (List ℕ)) → (when_taken (at_moment at s) k [] c (taking_behind fed [])).1.connections ≡ s.connections
    by_phase c None = refl
    by_phase c (Some fed) = refl

    by_live : (o : Option Connection) → (output_or show_taken (bytes_to s at k [] o)).1.connections ≡ s.connections
    by_live None = refl
    by_live (Some c) = by_phase c (fed_in c.phase)

-- ---- one connection

module _ (s : State) (waits : Await s) (t : ℕ → Session) (h : (k : ℕ) → Holds k s.connections (t k)) (event : Event) (id : ℕ) (c d : Connection) (there : IsLive s id c) where
  abbrev left : State
  left = (step s event).1

  abbrev output : Output
  output = (step s event).0

  abbrev u : ℕ → Session
  u k = session_after s k event (t k)

  abbrev On : Type 0
  On = GoesOn s t event output left u id c d

  found : find (is_live id) s.connections.all ≡ Some c
  unfolding live_connection
  found = there

  none : first_record (t id).unfinished ≡ None
  none = (h id).none

  -- what is found now
  abbrev Now : List Connection → Type 0
  Now all = find (is_live id) all ≡ Some d

  same_one : (x : Connection) → find (is_live id) s.connections.all ≡ Some x → Now s.connections.all → d ≡ x
  same_one x here is = same_Some d x (sym is ∙ here)

  -- it is told the end of its call
  is_told : (said : Outcome) → outcome_by s id event ≡ Some said → Now left.connections.all → On
  unfolding settle
  is_told said told is =
      let tell : TellsTo s event id said left.connections = tells s event id said told in
      let w : IsWaiting id s.connections.all = entry-waits s id waits tell.has in
      let fits : Fits Awaiting (t id) = subst (λ (p : Phase). Fits p (t id)) w.phase (fits-live id s (t id) (h id) w.connection w.there) in
      let same : left.connections ≡ changed_at id (settle left.clock said) s.connections = told_connections s event id said told in
      let now : find (is_live id) (change_first (is_live id) (settle left.clock said) s.connections.all) ≡ Some d = ap (λ (x : Connections). find (is_live id) x.all) (sym same) ∙ is in
      let settled = find-changed id (settle left.clock said) (answering-feeds id left.clock said (final-call said tell.final)) s.connections.all c found in
      let none_of = end-passes-none event tell.ends id in
      IsTold said (told_ready s event id said told) fits.answered
      (ap (λ (x : Session). x.calls) (session_is s event id (t id) [] [] (Some said) (no_piece s event id (t id) none_of.0) (none_gave s event id output none_of.1) told
      ∙ ap (λ (x : Session). record x { calls = with_last_outcome said x.calls }) (none-passed (at_event event s) id (t id) none)))
      (same_Some d (settle left.clock said c) (sym now ∙ settled))

  same_live : (k : ℕ) (x : Connection) → live_connection k s.connections.all ≡ Some x → k ≡ id → x ≡ c
  unfolding live_connection
  same_live k x here number = same_Some x c (sym here ∙ ap (λ (j : ℕ). find (is_live j) s.connections.all) number ∙ found)

  -- all that is said to be given was pending
  all_given : (at n : ℕ) → n ≤ length (pending_in c.phase) → (give (max s.clock at) n c).1 ≡ with_given (max s.clock at) n c
  unfolding give
  all_given at n few = ap (λ (m : ℕ). with_given (max s.clock at) m c) (min_is n (length (pending_in c.phase)) few)

  -- nothing is told
  module _ (untold : outcome_by s id event ≡ None) where
    as_it_was : u id ≡ t id → Now s.connections.all → On
    as_it_was same is = AsItWas same (same_one c found is)

    quiet_passes : IsQuiet s event output → u id ≡ t id
    quiet_passes q = plain_passes s event id (t id) none output refl q.no_count (q.none_given id) untold

    -- the change is of another number
    another : (k : ℕ) (f : Connection → Connection) → ((x : Connection) → (f x).number ≡ x.number) → eqb k id ≡ false → left.connections ≡ changed_at k f s.connections → Now left.connections.all → Now s.connections.all
    another k f keeps e same is = sym (changed-other id k f keeps e s.connections.all) ∙ ap (λ (x : Connections). find (is_live id) x.all) (sym same) ∙ is

    this : (f : Connection → Connection) → find (is_live id) (change_first (is_live id) f s.connections.all) ≡ Some (f c) → left.connections ≡ changed_at id f s.connections → Now left.connections.all → d ≡ f c
    this f now same is = same_Some d (f c) (sym is ∙ ap (λ (x : Connections). find (is_live id) x.all) same ∙ now)

    others_bytes : (at k : ℕ) (piece : List ℕ) → event ≡ Bytes at k piece → eqb k id ≡ false → u id ≡ t id
    others_bytes at k piece is e =
        other_passes s event id (t id) none (ap (piece_to id) is ∙ ap (λ (b : Bool). cond b piece []) e) (ap (gave_to id) is) untold

    reads : (at k : ℕ) (piece : List ℕ) (x : Connection) (fed : List ℕ) → event ≡ Bytes at k piece → 0 < length piece → live_connection k s.connections.all ≡ Some x → fed_in x.phase ≡ Some fed → output ≡ Took (length piece)
        → left.connections ≡ changed_at k (keep_reading (max s.clock at) (fed ++ piece)) s.connections → Now left.connections.all → (b : Bool) → eqb k id ≡ b → On
    unfolding keep_reading
    reads at k piece x fed event_is some here feeds out same is false e =
        as_it_was (others_bytes at k piece event_is e) (another k (keep_reading (max s.clock at) (fed ++ piece)) (λ y. refl) e same is)
    reads at k piece x fed event_is some here feeds out same is true e =
        let number : k ≡ id = eqb-true k id e in
        let fed_is : (t id).unfinished ≡ fed = unfinished-here id s (t id) (h id) x (subst (λ (j : ℕ). live_connection j s.connections.all ≡ Some x) number here) fed feeds in
        let f : Connection → Connection = keep_reading (max s.clock at) (fed ++ piece) in
        let now : d ≡ f c = this f (find-changed id f (reading-feeds id (max s.clock at) (fed ++ piece)) s.connections.all c found) (same ∙ ap (λ (j : ℕ). changed_at j f s.connections) number) is in
        ReadsOn at piece (event_is ∙ ap (λ (j : ℕ). Bytes at j piece) number) some out
        (now ∙ ap (λ (xs : List ℕ). keep_reading (max s.clock at) (xs ++ piece) c) (sym fed_is))

    -- a record of the connection ends, and is answered
    answered : (at n : ℕ) (piece fed changes : List ℕ) (said : Outcome) → event ≡ Bytes at id piece → fed_in c.phase ≡ Some fed → first_record (fed ++ piece) ≡ Some n
        → said_in s at id c (take n (fed ++ piece)) ≡ said → output ≡ show_taken (record { count = n - length fed; lost = is_no_call said })
        → left.connections ≡ changed_at id (settle (max s.clock at) said) (evict changes s.connections) → Now left.connections.all → (b : Bool) → is_no_call said ≡ b → On
    unfolding settle
    answered at n piece fed changes said event_is feeds some says out same is true e =
        let sound : AreSound 0 s.connections.next (map (evict_early changes) s.connections.all) = mapped (evict_early changes) (evicted-keeps changes) 0 s.connections.next s.connections.all (h id).sound in
        let gone = ap (λ (o : Outcome). find (is_live id) (change_first (is_live id) (settle (max s.clock at) o) (map (evict_early changes) s.connections.all))) (no_call_is said e) ∙ lost-gone id (max s.clock at) 0 s.connections.next (map (evict_early changes) s.connections.all) sound in
        absurd (none_some d (sym gone ∙ ap (λ (x : Connections). find (is_live id) x.all) (sym same) ∙ is))
    answered at n piece fed changes said event_is feeds some says out same is false e =
        let f : Connection → Connection = settle (max s.clock at) said in
        let more : List ℕ = take (n - length fed) piece in
        let lives = plain_lives id changes s.connections.all c found (fed-no-list c.phase fed feeds) in
        let now : d ≡ f c = same_Some d (f c) (sym is ∙ ap (λ (x : Connections). find (is_live id) x.all) same ∙ find-changed id f (answering-feeds id (max s.clock at) said e) (map (evict_early changes) s.connections.all) c lives) in
        let shown : output ≡ Took (n - length fed) = out ∙ ap (λ (b : Bool). show_taken (record { count = n - length fed; lost = b })) e in
        let whole : (t id).unfinished ++ more ≡ take n (fed ++ piece) = ends-whole id s (t id) (h id) c there piece fed n feeds some in
        let here : first_record ((t id).unfinished ++ more) ≡ Some n = ap first_record whole ∙ first-alone (fed ++ piece) n some in
        let taken = ap (λ (x : Event). taken_by id x output) event_is ∙ taken-is id s (t id) (h id) c there at piece output (n - length fed) (ap count_in shown) in
        let session = session_is s event id (t id) more [] None taken (none_gave s event id output (ap (gave_to id) event_is)) untold
        ∙ ap (λ (x : Event). session_with (at_event x s) id more [] (t id)) event_is ∙ ends (at_moment at s) id more (t id) n c here there in
        RecordEnds at (n - length fed) piece (data_of ((t id).unfinished ++ more)) said event_is shown
        (ap (λ (x : Session). x.calls) session ∙ ap (λ (o : Outcome). (t id).calls ++ record { content = data_of ((t id).unfinished ++ more); said = o } ∷ []) (ap (λ (xs : List ℕ). said_in s at id c xs) whole ∙ says))
        now

    ends_at : (at k : ℕ) (piece : List ℕ) (x : Connection) (fed : List ℕ) (n : ℕ) → event ≡ Bytes at k piece → live_connection k s.connections.all ≡ Some x → fed_in x.phase ≡ Some fed → first_record (fed ++ piece) ≡ Some n
        → output ≡ show_taken (record { count = n - length fed; lost = is_no_call (said_in s at k x (take n (fed ++ piece))) })
        → left.connections ≡ changed_at k (settle (max s.clock at) (said_in s at k x (take n (fed ++ piece)))) (evict (crowd_at s at (Tcp k x.who) (data_of (take n (fed ++ piece)))) s.connections)
        → Now left.connections.all → (b : Bool) → eqb k id ≡ b → On
    ends_at at k piece x fed n event_is here feeds some out same is false e =
        let crowd : List ℕ = crowd_at s at (Tcp k x.who) (data_of (take n (fed ++ piece))) in
        let f : Connection → Connection = settle (max s.clock at) (said_in s at k x (take n (fed ++ piece))) in
        as_it_was (others_bytes at k piece event_is e)
        (left_before id crowd 0 s.connections.next s.connections.all d (h id).sound
        (sym (changed-other id k f (settled-keeps (max s.clock at) (said_in s at k x (take n (fed ++ piece)))).number e (map (evict_early crowd) s.connections.all)) ∙ ap (λ (y : Connections). find (is_live id) y.all) (sym same) ∙ is))
    ends_at at k piece x fed n event_is here feeds some out same is true e =
        let number : k ≡ id = eqb-true k id e in
        let one : x ≡ c = same_live k x here number in
        let crowd : List ℕ = crowd_at s at (Tcp k x.who) (data_of (take n (fed ++ piece))) in
        let says : said_in s at id c (take n (fed ++ piece)) ≡ said_in s at k x (take n (fed ++ piece)) =
        ap (λ (y : Connection). said_in s at id y (take n (fed ++ piece))) (sym one) ∙ ap (λ (j : ℕ). said_in s at j x (take n (fed ++ piece))) (sym number) in
        answered at n piece fed crowd (said_in s at k x (take n (fed ++ piece))) (event_is ∙ ap (λ (j : ℕ). Bytes at j piece) number)
        (ap (λ (y : Connection). fed_in y.phase) (sym one) ∙ feeds) some says out
        (same ∙ ap (λ (j : ℕ). changed_at j (settle (max s.clock at) (said_in s at k x (take n (fed ++ piece)))) (evict crowd s.connections)) number) is
        (is_no_call (said_in s at k x (take n (fed ++ piece)))) refl

    gives_at : (at k n : ℕ) (x : Connection) → event ≡ Gave at k n → live_connection k s.connections.all ≡ Some x → n ≤ length (pending_in x.phase) → output ≡ Done
        → left.connections ≡ changed_at k (λ y. (give (max s.clock at) n y).1) s.connections → Now left.connections.all → (b : Bool) → eqb k id ≡ b → On
    gives_at at k n x event_is here few out same is false e =
        as_it_was (other_passes s event id (t id) none (ap (piece_to id) event_is) (ap (gave_to id) event_is ∙ ap (λ (b : Bool). cond b n 0) e) untold)
        (another k (λ y. (give (max s.clock at) n y).1) (giving-keeps (max s.clock at) n).number e same is)
    gives_at at k n x event_is here few out same is true e =
        let number : k ≡ id = eqb-true k id e in
        let one : x ≡ c = same_live k x here number in
        let f : Connection → Connection = λ y. (give (max s.clock at) n y).1 in
        let now : d ≡ f c = this f (find-changed id f (giving-feeds id (max s.clock at) n) s.connections.all c found) (same ∙ ap (λ (j : ℕ). changed_at j f s.connections) number) is in
        IsGiven at n (event_is ∙ ap (λ (j : ℕ). Gave at j n) number) out (now ∙ all_given at n (subst (λ (y : Connection). n ≤ length (pending_in y.phase)) one few))

    goes_on_by : Happening s event output left.connections → Now left.connections.all → On
    unfolding without_number
    goes_on_by (Stays q same) is = as_it_was (quiet_passes q) (ap (λ (x : Connections). find (is_live id) x.all) (sym same) ∙ is)
    goes_on_by (Evicts at who content event_is q same) is =
        as_it_was (quiet_passes q) (left_before id (crowd_at s at (sender s who content) content) 0 s.connections.next s.connections.all d (h id).sound (ap (λ (x : Connections). find (is_live id) x.all) (sym same) ∙ is))
    goes_on_by (Opens at who event_is out same) is =
        let new : Connection = record { number = s.connections.next; who = who; phase = Idle; since = max s.clock at } in
        AsItWas (plain_passes s event id (t id) none (Opened s.connections.next) out refl refl untold)
        (same_Some d c (sym is ∙ ap (λ (x : Connections). find (is_live id) x.all) same ∙ find-before (is_live id) s.connections.all c new found))
    goes_on_by (Reads at k [] x fed event_is here feeds still out same) is =
        as_it_was (plain_passes s event id (t id) none (Took 0) out refl refl untold)
        (ap (λ (y : Connections). find (is_live id) y.all) (sym (ap (λ (e : Event). (step s e).1.connections) event_is ∙ empty_stays s at k)) ∙ is)
    goes_on_by (Reads at k (byte ∷ piece) x fed event_is here feeds still out same) is =
        reads at k (byte ∷ piece) x fed event_is (omega arith) here feeds out same is (eqb k id) refl
    goes_on_by (Ends at k piece x fed n event_is here feeds some out same) is = ends_at at k piece x fed n event_is here feeds some out same is (eqb k id) refl
    goes_on_by (Gives at k n x event_is here few out same) is = gives_at at k n x event_is here few out same is (eqb k id) refl
    goes_on_by (Tells at k said ends q final told has same) is = by_number (eqb k id) refl
      where
        by_number : (b : Bool) → eqb k id ≡ b → On
        by_number true e = absurd (none_said said (sym untold ∙ ap (λ (j : ℕ). outcome_by s j event) (sym (eqb-true k id e)) ∙ told))
        by_number false e = as_it_was (quiet_passes q) (another k (settle (max s.clock at) said) (settled-keeps (max s.clock at) said).number e same is)
    goes_on_by (TimesOut at x event_is q free here same) is = by_number (eqb x.number id) refl
      where
        by_number : (b : Bool) → eqb x.number id ≡ b → On
        by_number true e =
            absurd (none_some d (sym (timed-out-gone id 0 s.connections.next s.connections.all (h id).sound) ∙ ap (λ (j : ℕ). find (is_live id) (change_first (is_live j) lose s.connections.all)) (sym (eqb-true x.number id e))
            ∙ ap (λ (y : Connections). find (is_live id) y.all) (sym same) ∙ is))
        by_number false e = as_it_was (quiet_passes q) (another x.number lose lost-keeps.number e same is)
    goes_on_by (Closes k event_is out has same) is = by_number (eqb k id) refl
      where
        all_is : find (is_live id) (without k s.connections.all) ≡ Some d
        all_is = ap (λ (y : Connections). find (is_live id) y.all) (sym same) ∙ is

        by_number : (b : Bool) → eqb k id ≡ b → On
        by_number true e = absurd (none_some d (sym (closed-gone id s.connections.all) ∙ ap (λ (j : ℕ). find (is_live id) (without j s.connections.all)) (sym (eqb-true k id e)) ∙ all_is))
        by_number false e =
            as_it_was (other_passes s event id (t id) none (ap (piece_to id) event_is) (ap (gave_to id) event_is) untold) (sym (closed-other id k e s.connections.all) ∙ all_is)

  pub goes_on : IsLive left id d → On
  unfolding live_connection
  goes_on is = by_told (outcome_by s id event) refl
    where
      by_told : (o : Option Outcome) → outcome_by s id event ≡ o → On
      by_told (Some said) told = is_told said told is
      by_told None untold = goes_on_by untold (happening s event) is
