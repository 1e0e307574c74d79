-- What passes on one connection in a whole run.
use Rattle.std.specs.Prelude.{find, map, All}
use Rattle.std.proofs.Common.{◌≡◌, ◌<◌, ◌≤◌, ℕ, ◌+◌, ◌-◌, max, Bool, true, false, cond, eqb, Option, Some, None, List, [], ◌∷◌, ◌++◌, length, take, drop, refl, sym, ap, subst, ◌∙◌, append_assoc, append-nil, arith}
use Rattle.std.proofs.Math.Seq.{take-nil, take-append-add}
use Rattle.std.proofs.lemmas.Option.{same_Some}
use Rattle.std.proofs.lemmas.List.{take_all, take-append-drop, drop-append-le, length-take, map-append}
use Rattle.std.proofs.lemmas.List.Elements.{All-nil}
use Rattle.std.proofs.lemmas.Bool.{eqb-true, eq-eqb}
use Rattle.std.proofs.lemmas.Grind.{common_steps}
use Rattle.rb_xdr.specs.Xdr.{AreBytes}
use Rattle.rb_rpc.specs.Records.{first_record, data_of}
use Rattle.rb_rpc.specs.RecordLaws.{Records}
use Rattle.rb_address.specs.declared.caller.Caller.TheVariants.{Tcp}
use Rattle.rb_rpc.proofs.RecordCuts.{ends_later}
use Rattle.rb_model.specs.Calls.{Outcome, is_no_call}
use Rattle.rb_model.specs.Calls.Outcome.{NoCall}
use Rattle.rb_model.specs.State.{State, Phase, Connection, Connections, at_moment}
use Rattle.rb_model.specs.State.Phase.{Idle, Reading, Owing, Awaiting, Lost}
use Rattle.rb_model.specs.Connections.{is_live, live_connection, fed_in, change_first, changed_at, keep_reading, settle, give, with_given, pending_in, without_number}
use Rattle.rb_model.specs.Laws.{is_awaiting, owed_bytes, number_given, owed_in, IsGiven}
use Rattle.rb_model.specs.Step.{sender, Event, Output, pending, show_taken, step}
use Rattle.rb_model.specs.declared.types.Taken.{Taken}
use Rattle.rb_model.specs.Step.Event.{Bytes, Gave}
use Rattle.rb_model.specs.Step.Output.{Opened, Took, TookAndLost, Done}
use Rattle.rb_model.specs.Sessions.{Exchange, Session, at_event, piece_to, taken_by, gave_to, given_by, empty_session, session_with, session_after, outcome_by, with_outcome, with_last_outcome, replies_to, marked_reply_in, is_answered, AwaitsLast, AreAnswered, IsFront}
use Rattle.rb_model.specs.Bounds.{count_in}
use Rattle.rb_model.specs.Losses.{lose as timed_out, evict_early, evict}
use Rattle.rb_laws.proofs.Cuts.{IsFeeding, find-changed, find-holds, number-is, reading-feeds, fed-no-list}
use Rattle.rb_laws.proofs.Closings.{final-call}
use Rattle.rb_laws.proofs.Entering.{is_forwarded}
use Rattle.rb_laws.proofs.Entries.{Await, IsWaiting, entry-waits, fed-awaits, giving-awaits}
use Rattle.rb_laws.proofs.Happenings.{Happening, happening, said_in, crowd_at, TellsTo, tells, end-passes-none}
use Rattle.rb_laws.proofs.Happenings.Happening.{Stays, Evicts, Opens, Reads, Ends, Gives, Closes, Tells, TimesOut}
use Rattle.rb_laws.proofs.Live.{without, changed-other, closed-other, find-after, closed-gone, lost-gone, timed-out-gone, number-below, answering-feeds, giving-feeds}
use Rattle.rb_laws.proofs.Numbers.{GivesNext, happening-next}
use Rattle.rb_laws.proofs.Passing.{none-taken, none-passed, goes-on, ends, call_of, one-more-reply, first-alone, records-on, records-end}
use Rattle.rb_laws.proofs.Reached.{AreSound, SoundIn, IsSoundPhase, found-sound, happening-sound, giving-keeps, settled-keeps, evicted-keeps, mapped}
use Rattle.rb_laws.proofs.Crowds.{stays_dead, plain_lives, still_is}
use Rattle.rb_laws.proofs.WholeReplies.{behind, front-of, one-given}

-- ---- what holds of what passed

-- the bytes since the last record's end, as the phase has them
abbrev pub unfinished_in : Phase → List ℕ
unfinished_in Idle = []
unfinished_in (Reading fed) = fed
unfinished_in (Owing o) = []
unfinished_in Awaiting = []
unfinished_in Lost = []

-- the phase of a live connection says the same
pub record Fits (p : Phase) (t : Session) : Type 0 where
  pub unfinished : t.unfinished ≡ unfinished_in p
  pub rest : t.given ++ owed_in p ≡ replies_to t.calls
  pub answered : AreAnswered (is_awaiting p) t.calls

-- so does that of the live connection of a number, if any
abbrev pub FitsIn : ℕ → List Connection → Session → Type 0
FitsIn id all t = (c : Connection) → find (is_live id) all ≡ Some c → Fits c.phase t

abbrev pub contents : List Exchange → List (List ℕ)
contents calls = map (λ call. call.content) calls

pub record Holds (id : ℕ) (now : Connections) (t : Session) : Type 0 where
  pub sound : SoundIn now
  pub none : first_record t.unfinished ≡ None
  pub records : AreBytes t.taken → Records t.taken (contents t.calls) t.unfinished
  pub front : IsFront t.given (replies_to t.calls)
  pub new : now.next ≤ id → t ≡ empty_session
  pub live : FitsIn id now.all t

grows : (o : Option ℕ) (old new : ℕ) → GivesNext o old new → old ≤ new
grows o old new is = grind arith

-- ---- one connection

-- a connection that is fed
unfinished-is : (p : Phase) (fed : List ℕ) → fed_in p ≡ Some fed → unfinished_in p ≡ fed
unfinished-is p fed is = grind arith

owes-none : (p : Phase) (fed : List ℕ) → fed_in p ≡ Some fed → owed_in p ≡ []
owes-none p fed is = grind arith

-- all replies were given
pub all-given : (p : Phase) (fed : List ℕ) (t : Session) → fed_in p ≡ Some fed → Fits p t → t.given ≡ replies_to t.calls
all-given p fed t is fits = sym (append-nil t.given) ∙ ap (λ (xs : List ℕ). t.given ++ xs) (sym (owes-none p fed is)) ∙ fits.rest

-- each call is answered
pub all-answered : (p : Phase) (fed : List ℕ) (t : Session) → fed_in p ≡ Some fed → Fits p t → All is_answered t.calls
all-answered p fed t is fits = subst (λ (b : Bool). AreAnswered b t.calls) (fed-awaits p fed is) fits.answered

-- the changed connection is the one that is found
changed-fits : (id : ℕ) (f : Connection → Connection) (all : List Connection) (c : Connection) (t : Session)
    → IsFeeding id f → find (is_live id) all ≡ Some c → Fits (f c).phase t → FitsIn id (change_first (is_live id) f all) t
changed-fits id f all c t feeds there fits = λ d is. subst (λ (x : Connection). Fits x.phase t) (same_Some (f c) d (sym (find-changed id f feeds all c there) ∙ is)) fits

reading-fits : (clock : ℕ) (all : List ℕ) (c : Connection) (t : Session) → t.unfinished ≡ all → t.given ≡ replies_to t.calls → All is_answered t.calls → Fits (keep_reading clock all c).phase t
unfolding keep_reading
reading-fits clock all c t is given answered = record { unfinished = is; rest = append-nil t.given ∙ given; answered = answered }

settled-fits : (clock : ℕ) (said : Outcome) (c : Connection) (t : Session) → t.unfinished ≡ [] → t.given ++ marked_reply_in said ≡ replies_to t.calls → AreAnswered (is_forwarded said) t.calls → Fits (settle clock said c).phase t
unfolding settle owed_bytes
settled-fits clock said c t is rest answered = grind arith

more-answered : (said : Outcome) (calls : List Exchange) (call : Exchange) → is_no_call said ≡ false → call.said ≡ said → All is_answered calls → AreAnswered (is_forwarded said) (calls ++ call ∷ [])
more-answered said calls call plain says answered = grind (arith, common_steps)

-- the last call is told how it ended
told-last : (said : Outcome) (before : List Exchange) (last : Exchange) → with_last_outcome said (before ++ last ∷ []) ≡ before ++ record last { said = said } ∷ []
told-last said [] last = refl
told-last said (call ∷ []) last = refl
told-last said (call ∷ next ∷ before) last = ap (λ (calls : List Exchange). call ∷ calls) (told-last said (next ∷ before) last)

same-contents : (said : Outcome) (calls : List Exchange) → contents (with_last_outcome said calls) ≡ contents calls
same-contents said [] = refl
same-contents said (call ∷ []) = refl
same-contents said (call ∷ next ∷ calls) = ap (λ (xs : List (List ℕ)). call.content ∷ xs) (same-contents said (next ∷ calls))

-- n bytes of what is pending, and then the rest
given-on : (p : Phase) (n : ℕ) (given all : List ℕ) → IsSoundPhase p → n ≤ length (pending_in p) → given ++ owed_in p ≡ all → (given ++ take n (pending_in p)) ++ drop n (owed_in p) ≡ all
given-on p n given all sound few is =
    let front : List ℕ = pending_in p in
    let whole : owed_in p ≡ front ++ behind p = front-of p sound in
    let dropped : drop n (owed_in p) ≡ drop n front ++ behind p = ap (λ (xs : List ℕ). drop n xs) whole ∙ drop-append-le n front (behind p) few in
    append_assoc given (take n front) (drop n (owed_in p))
    ∙ ap (λ (xs : List ℕ). given ++ (take n front ++ xs)) dropped
    ∙ ap (λ (xs : List ℕ). given ++ xs) (sym (append_assoc (take n front) (drop n front) (behind p)) ∙ ap (λ (xs : List ℕ). xs ++ behind p) (take-append-drop n front) ∙ sym whole)
    ∙ is

-- nothing is taken or ended when bytes are given
giving-unfinished : (clock n : ℕ) (c : Connection) → unfinished_in (give clock n c).1.phase ≡ unfinished_in c.phase
unfolding give with_given
giving-unfinished clock n c = grind arith

no-first : first_record [] ≡ None
unfolding first_record
no-first = refl

-- the part of the piece up to the record's end, after what was fed
up-to : (fed piece : List ℕ) (n : ℕ) → length fed ≤ n → fed ++ take (n - length fed) piece ≡ take n (fed ++ piece)
up-to fed piece n low = grind (arith, common_steps, take-append-add fed piece (n - length fed))

pub count-shown : (t : Taken) → count_in (show_taken t) ≡ t.count
count-shown t = elim (t.lost) as (λ b. count_in (cond b (TookAndLost t.count) (Took t.count)) ≡ t.count) [ true ↦ refl | false ↦ refl ]

-- ---- events that pass nothing

none-gave : (s : State) (id : ℕ) (event : Event) (output : Output) → gave_to id event ≡ 0 → given_by s id event output ≡ []
none-gave s id event other is = grind arith

not-none : (c : Connection) → ◌≡◌ {A = Option Connection} (Some c) None → ⊥
not-none c e = cc

opens-fit : Fits Idle empty_session
opens-fit = record { unfinished = refl; rest = refl; answered = All-nil is_answered }

-- what is live among those that are found alike
fits-same : (id : ℕ) (old new : List Connection) (t : Session) → find (is_live id) new ≡ find (is_live id) old → FitsIn id old t → FitsIn id new t
fits-same id old new t same fits = λ c is. fits c (sym same ∙ is)

opened-fits : (id : ℕ) (old : Connections) (c : Connection) (t : Session) → Holds id old t → c.number ≡ old.next → c.phase ≡ Idle → FitsIn id (old.all ++ c ∷ []) t
opened-fits id old c t h number idle = grind (arith, common_steps, find-after, number-is, opens-fit)

without-fits : (id k : ℕ) (all : List Connection) (t : Session) → FitsIn id all t → FitsIn id (without k all) t
without-fits id k all t fits = grind (arith, common_steps, fits-same, closed-other, eqb-true, closed-gone, not-none)

-- if numbers rise, a live connection that is left was live before
found_above : (id least next : ℕ) (all : List Connection) (d : Connection) → AreSound least next all → find (is_live id) all ≡ Some d → least ≤ d.number
found_above id least next [] d a is = grind arith
found_above id least next (x ∷ all) d a is = grind (arith, found_above id (x.number + 1) next all d a.2)

left_before : (id : ℕ) (changes : List ℕ) (least next : ℕ) (all : List Connection) (d : Connection) → AreSound least next all → find (is_live id) (map (evict_early changes) all) ≡ Some d → find (is_live id) all ≡ Some d
left_before id changes least next [] d a is = is
left_before id changes least next (x ∷ all) d a is = by_live (is_live id x) refl (left_before id changes (x.number + 1) next all d a.2)
  where
    by_live : (b : Bool) → is_live id x ≡ b → (find (is_live id) (map (evict_early changes) all) ≡ Some d → find (is_live id) all ≡ Some d) → find (is_live id) (x ∷ all) ≡ Some d
    by_live bb e later = grind (arith, common_steps, stays_dead, still_is, found_above, mapped, evicted-keeps, number-is, find-holds)

evicted-fits : (id : ℕ) (changes : List ℕ) (next : ℕ) (all : List Connection) (t : Session) → AreSound 0 next all → FitsIn id all t → FitsIn id (map (evict_early changes) all) t
evicted-fits id changes next all t sound fits = λ d is. fits d (left_before id changes 0 next all d sound is)

-- ---- one event

module _ (id : ℕ) (s : State) (t : Session) (h : Holds id s.connections t) where
  -- what has passed with an event, and what it gives
  abbrev with_event : Event → Output → Session
  with_event event output = session_with (at_event event s) id (taken_by id event output) (given_by s id event output) t

  -- what holds of the connections after it
  record Goes (now : Connections) : Type 0 where
    sound : SoundIn now
    later : s.connections.next ≤ now.next

  quiet : (event : Event) (output : Output) (now : Connections) → Goes now → taken_by id event output ≡ [] → given_by s id event output ≡ [] → FitsIn id now.all t → Holds id now (with_event event output)
  quiet event output now goes taken given fits = grind (arith, common_steps)

  no-piece : (event : Event) (output : Output) → piece_to id event ≡ [] → taken_by id event output ≡ []
  no-piece event output is = ap (λ (xs : List ℕ). take (count_in output) xs) is ∙ take-nil (count_in output)

  changed-by : (k : ℕ) (f : Connection → Connection) (now : Connections) → ((d : Connection) → (f d).number ≡ d.number) → eqb k id ≡ false → now ≡ changed_at k f s.connections → FitsIn id now.all t
  changed-by k f now keeps e same = grind (arith, fits-same id, changed-other id k f keeps e)

  -- the same once some became Lost for room
  evicted-by : (changes : List ℕ) (k : ℕ) (f : Connection → Connection) (now : Connections) → ((d : Connection) → (f d).number ≡ d.number) → eqb k id ≡ false → now ≡ changed_at k f (evict changes s.connections) → FitsIn id now.all t
  evicted-by changes k f now keeps e same = grind (arith, common_steps, fits-same, changed-other, evicted-fits)

  -- the live connection of the number
  module _ (c : Connection) (there : live_connection id s.connections.all ≡ Some c) where
    found : find (is_live id) s.connections.all ≡ Some c
    unfolding live_connection
    found = there

    pub fits-live : Fits c.phase t
    fits-live = h.live c found

    pub sound-live : IsSoundPhase c.phase
    sound-live = found-sound (is_live id) 0 s.connections.next s.connections.all c h.sound found

    below : id < s.connections.next
    below = grind (arith, common_steps, found, number-is id c, find-holds (is_live id), number-below (is_live id) 0)

    pub unfinished-here : (fed : List ℕ) → fed_in c.phase ≡ Some fed → t.unfinished ≡ fed
    unfinished-here fed feeds = fits-live.unfinished ∙ unfinished-is c.phase fed feeds

    -- no record ends
    read-on : (at : ℕ) (piece fed : List ℕ) (now : Connections) → Goes now → fed_in c.phase ≡ Some fed → first_record (fed ++ piece) ≡ None
        → now ≡ changed_at id (keep_reading (max s.clock at) (fed ++ piece)) s.connections → Holds id now (session_with (at_moment at s) id piece [] t)
    read-on at piece fed now goes feeds none same =
        let whole : t.unfinished ++ piece ≡ fed ++ piece = ap (λ (xs : List ℕ). xs ++ piece) (unfinished-here fed feeds) in
        let still : first_record (t.unfinished ++ piece) ≡ None = ap first_record whole ∙ none in
        let new : Session = record t { taken = t.taken ++ piece; unfinished = t.unfinished ++ piece } in
        let f : Connection → Connection = keep_reading (max s.clock at) (fed ++ piece) in
        let live : FitsIn id (change_first (is_live id) f s.connections.all) new =
        changed-fits id f s.connections.all c new (reading-feeds id (max s.clock at) (fed ++ piece)) found
        (reading-fits (max s.clock at) (fed ++ piece) c new whole (all-given c.phase fed t feeds fits-live) (all-answered c.phase fed t feeds fits-live)) in
        let under : id < s.connections.next = below in
        subst (λ (y : Session). Holds id now y) (sym (goes-on (at_moment at s) id piece t still)) (record {
          sound = goes.sound;
          none = still;
          records = records-on t.taken piece t.unfinished (contents t.calls) h.records still;
          front = h.front;
          new = λ le. absurd (omega (arith, le, under, goes.later));
          live = subst (λ (x : Connections). FitsIn id x.all new) (sym same) live;
        })

    -- the connections after a call
    answered-fits : (clock : ℕ) (said : Outcome) (new : Session) (call : Exchange) → call.said ≡ said → new.unfinished ≡ [] → new.given ≡ replies_to t.calls → new.calls ≡ t.calls ++ call ∷ [] → All is_answered t.calls
        → (all : List Connection) → AreSound 0 s.connections.next all → find (is_live id) all ≡ Some c → FitsIn id (change_first (is_live id) (settle clock said) all) new
    answered-fits clock said new call says left given calls answered all sound here = by_call (is_no_call said) refl
      where
        lost : (o : Outcome) → is_no_call o ≡ true → o ≡ NoCall
        lost bb e = grind (arith, common_steps)

        by_call : (b : Bool) → is_no_call said ≡ b → FitsIn id (change_first (is_live id) (settle clock said) all) new
        by_call true e = λ d is.
            absurd (not-none d (sym is ∙ ap (λ (o : Outcome). find (is_live id) (change_first (is_live id) (settle clock o) all)) (lost said e) ∙ lost-gone id clock 0 s.connections.next all sound))
        by_call false e =
            changed-fits id (settle clock said) all c new (answering-feeds id clock said e) here
            (settled-fits clock said c new left
            (ap (λ (xs : List ℕ). xs ++ marked_reply_in said) given
            ∙ ap (λ (o : Outcome). replies_to t.calls ++ marked_reply_in o) (sym says)
            ∙ sym (one-more-reply t.calls call) ∙ ap replies_to (sym calls))
            (subst (λ (xs : List Exchange). AreAnswered (is_forwarded said) xs) (sym calls) (more-answered said t.calls call e says answered)))

    pub ends-whole : (piece fed : List ℕ) (n : ℕ) → fed_in c.phase ≡ Some fed → first_record (fed ++ piece) ≡ Some n → t.unfinished ++ take (n - length fed) piece ≡ take n (fed ++ piece)
    ends-whole piece fed n feeds some = grind (arith, common_steps, unfinished-here, ends_later, up-to)

    -- a record ends
    record-ends : (changes : List ℕ) (at : ℕ) (piece fed : List ℕ) (n : ℕ) (now : Connections) → Goes now → fed_in c.phase ≡ Some fed → first_record (fed ++ piece) ≡ Some n
        → now ≡ changed_at id (settle (max s.clock at) (said_in s at id c (take n (fed ++ piece)))) (evict changes s.connections) → Holds id now (session_with (at_moment at s) id (take (n - length fed) piece) [] t)
    record-ends changes at piece fed n now goes feeds some same =
        let more : List ℕ = take (n - length fed) piece in
        let whole : t.unfinished ++ more ≡ take n (fed ++ piece) = ends-whole piece fed n feeds some in
        let given : t.given ≡ replies_to t.calls = all-given c.phase fed t feeds fits-live in
        let here : first_record (t.unfinished ++ more) ≡ Some n = ap first_record whole ∙ first-alone (fed ++ piece) n some in
        let short : length (t.unfinished ++ more) ≤ n = omega (arith, ap (λ (xs : List ℕ). length xs) whole, length-take n (fed ++ piece)) in
        let call : Exchange = call_of (at_moment at s) id c (t.unfinished ++ more) in
        let says : call.said ≡ said_in s at id c (take n (fed ++ piece)) = ap (λ (xs : List ℕ). said_in s at id c xs) whole in
        let new : Session = record t { taken = t.taken ++ more; unfinished = []; calls = t.calls ++ call ∷ [] } in
        let under : id < s.connections.next = below in
        subst (λ (y : Session). Holds id now y) (sym (ends (at_moment at s) id more t n c here there)) (record {
          sound = goes.sound;
          none = no-first;
          records = λ are. subst (λ (xs : List (List ℕ)). Records (t.taken ++ more) xs []) (sym (map-append (λ (y : Exchange). y.content) t.calls (call ∷ [])))
              (records-end t.taken more t.unfinished (contents t.calls) n h.records here short are);
          front = record { rest = marked_reply_in call.said; whole = ap (λ (xs : List ℕ). xs ++ marked_reply_in call.said) given ∙ sym (one-more-reply t.calls call) };
          new = λ le. absurd (omega (arith, le, under, goes.later));
          live = subst (λ (x : Connections). FitsIn id x.all new) (sym same) (answered-fits (max s.clock at) (said_in s at id c (take n (fed ++ piece))) new call says refl given refl (all-answered c.phase fed t feeds fits-live)
              (map (evict_early changes) s.connections.all) (mapped (evict_early changes) (evicted-keeps changes) 0 s.connections.next s.connections.all h.sound)
              (plain_lives id changes s.connections.all c found (fed-no-list c.phase fed feeds)));
        })

    -- bytes are given
    give-on : (at n : ℕ) (now : Connections) → Goes now → n ≤ length (pending_in c.phase) → now ≡ changed_at id (λ x. (give (max s.clock at) n x).1) s.connections
        → Holds id now (session_with s id [] (take n (pending_in c.phase)) t)
    give-on at n now goes few same =
        let gave : List ℕ = take n (pending_in c.phase) in
        let new : Session = record t { given = t.given ++ gave } in
        let f : Connection → Connection = λ x. (give (max s.clock at) n x).1 in
        let is : IsGiven n c.phase (f c).phase = one-given (max s.clock at) n c sound-live few in
        let rest : (t.given ++ gave) ++ drop n (owed_in c.phase) ≡ replies_to t.calls = given-on c.phase n t.given (replies_to t.calls) sound-live few fits-live.rest in
        let fits : Fits (f c).phase new = grind (arith, common_steps, fits-live, giving-unfinished, giving-awaits) in
        let under : id < s.connections.next = below in
        subst (λ (y : Session). Holds id now y) (sym (none-taken s id gave t h.none)) (record {
          sound = goes.sound;
          none = h.none;
          records = h.records;
          front = record { rest = drop n (owed_in c.phase); whole = rest };
          new = λ le. absurd (omega (arith, le, under, goes.later));
          live = subst (λ (x : Connections). FitsIn id x.all new) (sym same) (changed-fits id f s.connections.all c new (giving-feeds id (max s.clock at) n) found fits);
        })

    pub taken-is : (at : ℕ) (piece : List ℕ) (output : Output) (n : ℕ) → count_in output ≡ n → taken_by id (Bytes at id piece) output ≡ take n piece
    taken-is at piece output n is = ap (λ (b : Bool). take (count_in output) (cond b piece [])) (eq-eqb id id refl) ∙ ap (λ (k : ℕ). take k piece) is

    given-is : (at n : ℕ) → given_by s id (Gave at id n) Done ≡ take n (pending_in c.phase)
    unfolding pending
    given-is at n = grind arith

  -- the three events that pass bytes, on the connection of the number or on another
  reads-at : (at k : ℕ) (piece : List ℕ) (c : Connection) (fed : List ℕ) (now : Connections) → Goes now → live_connection k s.connections.all ≡ Some c → fed_in c.phase ≡ Some fed → first_record (fed ++ piece) ≡ None
      → now ≡ changed_at k (keep_reading (max s.clock at) (fed ++ piece)) s.connections → (b : Bool) → eqb k id ≡ b → Holds id now (with_event (Bytes at k piece) (Took (length piece)))
  unfolding keep_reading
  reads-at at k piece c fed now goes there feeds none same false e =
      quiet (Bytes at k piece) (Took (length piece)) now goes (no-piece (Bytes at k piece) (Took (length piece)) (ap (λ (b : Bool). cond b piece []) e)) refl
      (changed-by k (keep_reading (max s.clock at) (fed ++ piece)) now (λ x. refl) e same)
  reads-at at k piece c fed now goes there feeds none same true e = here (eqb-true k id e)
    where
      here : k ≡ id → Holds id now (with_event (Bytes at k piece) (Took (length piece)))
      here number =
          let there_is : live_connection id s.connections.all ≡ Some c = ap (λ (j : ℕ). live_connection j s.connections.all) (sym number) ∙ there in
          let same_is : now ≡ changed_at id (keep_reading (max s.clock at) (fed ++ piece)) s.connections = same ∙ ap (λ (j : ℕ). changed_at j (keep_reading (max s.clock at) (fed ++ piece)) s.connections) number in
          let all : taken_by id (Bytes at id piece) (Took (length piece)) ≡ piece = taken-is c there_is at piece (Took (length piece)) (length piece) refl ∙ take_all (length piece) piece (omega arith) in
          subst (λ (j : ℕ). Holds id now (with_event (Bytes at j piece) (Took (length piece)))) (sym number)
          (subst (λ (xs : List ℕ). Holds id now (session_with (at_moment at s) id xs [] t)) (sym all) (read-on c there_is at piece fed now goes feeds none same_is))

  -- what is told of a record that ended
  abbrev ended : ℕ → ℕ → Connection → List ℕ → List ℕ → ℕ → Taken
  ended at k c piece fed n = record { count = n - length fed; lost = is_no_call (said_in s at k c (take n (fed ++ piece))) }

  abbrev told : ℕ → ℕ → Connection → List ℕ → List ℕ → ℕ → Output
  told at k c piece fed n = show_taken (ended at k c piece fed n)

  plain-told : (event : Event) (x : Taken) → given_by s id event (show_taken x) ≡ []
  plain-told event x = elim (x.lost) as (λ b. given_by s id event (cond b (TookAndLost x.count) (Took x.count)) ≡ []) [ true ↦ refl | false ↦ refl ]

  ends-at : (changes : List ℕ) (at k : ℕ) (piece : List ℕ) (c : Connection) (fed : List ℕ) (n : ℕ) (now : Connections) → Goes now → live_connection k s.connections.all ≡ Some c → fed_in c.phase ≡ Some fed → first_record (fed ++ piece) ≡ Some n
      → now ≡ changed_at k (settle (max s.clock at) (said_in s at k c (take n (fed ++ piece)))) (evict changes s.connections) → (b : Bool) → eqb k id ≡ b → Holds id now (with_event (Bytes at k piece) (told at k c piece fed n))
  unfolding settle
  ends-at changes at k piece c fed n now goes there feeds some same false e =
      quiet (Bytes at k piece) (told at k c piece fed n) now goes (no-piece (Bytes at k piece) (told at k c piece fed n) (ap (λ (b : Bool). cond b piece []) e))
      (plain-told (Bytes at k piece) (ended at k c piece fed n))
      (evicted-by changes k (settle (max s.clock at) (said_in s at k c (take n (fed ++ piece)))) now (λ x. refl) e same)
  ends-at changes at k piece c fed n now goes there feeds some same true e = here (eqb-true k id e)
    where
      here : k ≡ id → Holds id now (with_event (Bytes at k piece) (told at k c piece fed n))
      here number =
          let there_is : live_connection id s.connections.all ≡ Some c = ap (λ (j : ℕ). live_connection j s.connections.all) (sym number) ∙ there in
          let same_is : now ≡ changed_at id (settle (max s.clock at) (said_in s at id c (take n (fed ++ piece)))) (evict changes s.connections) =
          same ∙ ap (λ (j : ℕ). changed_at j (settle (max s.clock at) (said_in s at j c (take n (fed ++ piece)))) (evict changes s.connections)) number in
          let part : taken_by id (Bytes at id piece) (told at id c piece fed n) ≡ take (n - length fed) piece = taken-is c there_is at piece (told at id c piece fed n) (n - length fed) (count-shown (ended at id c piece fed n)) in
          let none : given_by s id (Bytes at id piece) (told at id c piece fed n) ≡ [] = plain-told (Bytes at id piece) (ended at id c piece fed n) in
          let pass : with_event (Bytes at id piece) (told at id c piece fed n) ≡ session_with (at_moment at s) id (take (n - length fed) piece) [] t =
          ap (λ (xs : List ℕ). session_with (at_moment at s) id xs (given_by s id (Bytes at id piece) (told at id c piece fed n)) t) part
          ∙ ap (λ (xs : List ℕ). session_with (at_moment at s) id (take (n - length fed) piece) xs t) none in
          subst (λ (j : ℕ). Holds id now (with_event (Bytes at j piece) (told at j c piece fed n))) (sym number)
          (subst (λ (y : Session). Holds id now y) (sym pass) (record-ends c there_is changes at piece fed n now goes feeds some same_is))

  gives-at : (at k n : ℕ) (c : Connection) (now : Connections) → Goes now → live_connection k s.connections.all ≡ Some c → n ≤ length (pending_in c.phase)
      → now ≡ changed_at k (λ x. (give (max s.clock at) n x).1) s.connections → (b : Bool) → eqb k id ≡ b → Holds id now (with_event (Gave at k n) Done)
  gives-at at k n c now goes there few same false e =
      quiet (Gave at k n) Done now goes (no-piece (Gave at k n) Done refl) (none-gave s id (Gave at k n) Done (ap (λ (b : Bool). cond b n 0) e))
      (changed-by k (λ x. (give (max s.clock at) n x).1) now (giving-keeps (max s.clock at) n).number e same)
  gives-at at k n c now goes there few same true e = here (eqb-true k id e)
    where
      here : k ≡ id → Holds id now (with_event (Gave at k n) Done)
      here number =
          let there_is : live_connection id s.connections.all ≡ Some c = ap (λ (j : ℕ). live_connection j s.connections.all) (sym number) ∙ there in
          let same_is : now ≡ changed_at id (λ x. (give (max s.clock at) n x).1) s.connections = same ∙ ap (λ (j : ℕ). changed_at j (λ x. (give (max s.clock at) n x).1) s.connections) number in
          subst (λ (j : ℕ). Holds id now (with_event (Gave at j n) Done)) (sym number)
          (subst (λ (xs : List ℕ). Holds id now (session_with s id [] xs t)) (sym (given-is c there_is at n)) (give-on c there_is at n now goes few same_is))

  by_case : (event : Event) (output : Output) (now : Connections) → Goes now → Happening s event output now → outcome_by s id event ≡ None → Holds id now (with_event event output)
  unfolding without_number
  by_case event output now goes (Stays q same) none =
      quiet event output now goes (ap (λ (n : ℕ). take n (piece_to id event)) q.no_count) (q.none_given id)
      (subst (λ (x : Connections). FitsIn id x.all t) (sym same) h.live)
  by_case event output now goes (Evicts at who content is q same) none =
      quiet event output now goes (ap (λ (n : ℕ). take n (piece_to id event)) q.no_count) (q.none_given id)
      (subst (λ (x : Connections). FitsIn id x.all t) (sym same) (evicted-fits id (crowd_at s at (sender s who content) content) s.connections.next s.connections.all t h.sound h.live))
  by_case event output now goes (Opens at who is out same) none =
      subst (λ (o : Output). Holds id now (with_event event o)) (sym out)
      (quiet event (Opened s.connections.next) now goes refl refl (subst (λ (x : Connections). FitsIn id x.all t) (sym same) (opened-fits id s.connections (record { number = s.connections.next; who = who; phase = Idle; since = max s.clock at }) t h refl refl)))
  by_case event output now goes (Reads at k piece c fed is there feeds unended out same) none =
      subst (λ (ev : Event). Holds id now (with_event ev output)) (sym is) (subst (λ (o : Output). Holds id now (with_event (Bytes at k piece) o)) (sym out)
      (reads-at at k piece c fed now goes there feeds unended same (eqb k id) refl))
  by_case event output now goes (Ends at k piece c fed n is there feeds some out same) none =
      subst (λ (ev : Event). Holds id now (with_event ev output)) (sym is) (subst (λ (o : Output). Holds id now (with_event (Bytes at k piece) o)) (sym out)
      (ends-at (crowd_at s at (Tcp k c.who) (data_of (take n (fed ++ piece)))) at k piece c fed n now goes there feeds some same (eqb k id) refl))
  by_case event output now goes (Gives at k n c is there few out same) none =
      subst (λ (ev : Event). Holds id now (with_event ev output)) (sym is) (subst (λ (o : Output). Holds id now (with_event (Gave at k n) o)) (sym out)
      (gives-at at k n c now goes there few same (eqb k id) refl))
  by_case event output now goes (Closes k is out there same) none =
      quiet event output now goes (no-piece event output (ap (piece_to id) is)) (none-gave s id event output (ap (gave_to id) is))
      (subst (λ (x : Connections). FitsIn id x.all t) (sym same) (without-fits id k s.connections.all t h.live))
  by_case event output now goes (TimesOut at c is q no_entry found same) none =
      quiet event output now goes (ap (λ (n : ℕ). take n (piece_to id event)) q.no_count) (q.none_given id) (by_number (eqb c.number id) refl)
    where
      by_number : (b : Bool) → eqb c.number id ≡ b → FitsIn id now.all t
      by_number false e = changed-by c.number timed_out now (λ x. refl) e same
      by_number true e = λ d is.
          let clash : ◌≡◌ {A = Option Connection} (Some d) None =
          sym is ∙ ap (λ (x : Connections). find (is_live id) x.all) same
          ∙ ap (λ (k : ℕ). find (is_live id) (change_first (is_live k) timed_out s.connections.all)) (eqb-true c.number id e)
          ∙ timed-out-gone id 0 s.connections.next s.connections.all h.sound in
          absurd cc
  by_case event output now goes (Tells at k said is q final told has same) none =
      quiet event output now goes (ap (λ (n : ℕ). take n (piece_to id event)) q.no_count) (q.none_given id) (changed-by k (settle (max s.clock at) said) now (settled-keeps (max s.clock at) said).number (other (eqb k id) refl) same)
    where
      other : (b : Bool) → eqb k id ≡ b → eqb k id ≡ false
      other false e = e
      other true e =
          let clash : ◌≡◌ {A = Option Outcome} None (Some said) = sym none ∙ ap (λ (j : ℕ). outcome_by s j event) (sym (eqb-true k id e)) ∙ told in
          absurd cc

  -- the call that was forwarded for it ends
  ended-holds : (event : Event) (output : Output) (said : Outcome) (now : Connections) → Goes now → Await s → TellsTo s event id said now
      → Holds id now (record (with_event event output) { calls = with_last_outcome said (with_event event output).calls })
  ended-holds event output said now goes waits tells =
      let none = end-passes-none event tells.ends id in
      let w : IsWaiting id s.connections.all = entry-waits s id waits tells.has in
      let c : Connection = w.connection in
      let fits : Fits Awaiting t = subst (λ (p : Phase). Fits p t) w.phase (fits-live c w.there) in
      let a : AwaitsLast t.calls = fits.answered in
      let calls : with_last_outcome said t.calls ≡ a.before ++ record a.last { said = said } ∷ [] = ap (with_last_outcome said) a.whole ∙ told-last said a.before a.last in
      let new : Session = record t { calls = with_last_outcome said t.calls } in
      let before : t.given ≡ replies_to a.before =
      sym (append-nil t.given) ∙ fits.rest ∙ ap replies_to a.whole ∙ one-more-reply a.before a.last ∙ ap (λ (o : Outcome). replies_to a.before ++ marked_reply_in o) a.forwarded ∙ append-nil (replies_to a.before) in
      let rest : t.given ++ marked_reply_in said ≡ replies_to (with_last_outcome said t.calls) =
      ap (λ (xs : List ℕ). xs ++ marked_reply_in said) before ∙ sym (one-more-reply a.before (record a.last { said = said })) ∙ ap replies_to (sym calls) in
      let plain : is_no_call said ≡ false = final-call said tells.final in
      let under : id < s.connections.next = below c w.there in
      let same : with_event event output ≡ t =
      ap (λ (xs : List ℕ). session_with (at_event event s) id xs (given_by s id event output) t) (no-piece event output none.0)
      ∙ ap (λ (xs : List ℕ). session_with (at_event event s) id [] xs t) (none-gave s id event output none.1)
      ∙ none-passed (at_event event s) id t h.none in
      subst (λ (x : Session). Holds id now (record x { calls = with_last_outcome said x.calls })) (sym same) (record {
        sound = goes.sound;
        none = h.none;
        records = λ are. subst (λ (xs : List (List ℕ)). Records t.taken xs t.unfinished) (sym (same-contents said t.calls)) (h.records are);
        front = record { rest = marked_reply_in said; whole = rest };
        new = λ le. absurd (omega (arith, le, under, goes.later));
        live = subst (λ (x : Connections). FitsIn id x.all new) (sym tells.same)
            (changed-fits id (settle (max s.clock tells.at) said) s.connections.all c new (answering-feeds id (max s.clock tells.at) said plain) (found c w.there)
            (settled-fits (max s.clock tells.at) said c new fits.unfinished rest
            (subst (λ (xs : List Exchange). AreAnswered (is_forwarded said) xs) (sym calls) (more-answered said a.before (record a.last { said = said }) plain refl a.answered))));
      })

  pub step-holds : (event : Event) → Await s → Holds id (step s event).1.connections (session_after s id event t)
  step-holds event waits = by_told (outcome_by s id event) refl
    where
      goes : Goes (step s event).1.connections
      goes =
          let what = happening s event in
          let next : GivesNext (number_given (step s event).0) s.connections.next (step s event).1.connections.next = happening-next s event (step s event).0 (step s event).1.connections what in
          record { sound = happening-sound s event (step s event).0 (step s event).1.connections h.sound what; later = grows (number_given (step s event).0) s.connections.next (step s event).1.connections.next next }

      with_all : Option Outcome → Session
      with_all o = record (with_event event (step s event).0) { calls = with_outcome o (with_event event (step s event).0).calls }

      by_told : (o : Option Outcome) → outcome_by s id event ≡ o → Holds id (step s event).1.connections (session_after s id event t)
      by_told None e = subst (λ (o : Option Outcome). Holds id (step s event).1.connections (with_all o)) (sym e) (by_case event (step s event).0 (step s event).1.connections goes (happening s event) e)
      by_told (Some said) e = subst (λ (o : Option Outcome). Holds id (step s event).1.connections (with_all o)) (sym e) (ended-holds event (step s event).0 said (step s event).1.connections goes waits (tells s event id said e))
