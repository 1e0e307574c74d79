-- A live connection becomes Lost by the end of a record that is no call or at its deadline, and is gone by its close.
use Rattle.std.specs.Prelude.{find, All, option_map}
use Rattle.std.specs.List.{list_any, list_all}
use Rattle.std.proofs.Common.{◌≡◌, ◌⊎◌, inl, inr, ◌<◌, ◌≤◌, ℕ, ◌+◌, max, Bool, true, false, cond, not, ◌&&◌, ◌||◌, eqb, Option, Some, None, Result, Ok, Err, List, [], ◌∷◌, ◌++◌, length, map, nat_lt, take, refl, sym, ap, subst, ◌∙◌, append-nil, arith}
use Rattle.std.proofs.lemmas.Bool.{and_parts, eqb-true, eq-eqb, ne_eqb, lt-ltb}
use Rattle.std.proofs.lemmas.List.Elements.{All-head, All-tail}
use Rattle.std.proofs.lemmas.Grind.{common_steps}
use Rattle.rb_rpc.specs.Records.{first_record, data_of}
use Rattle.rb_address.specs.declared.caller.Caller.{Caller}
use Rattle.rb_address.specs.declared.caller.Caller.TheVariants.{Tcp}
use Rattle.rb_address.specs.declared.who.Who.{Who}
use Rattle.rb_rpc.specs.Feeds.{arguments_of}
use Rattle.rb_forward.specs.declared.types.ForwardEnd.TheVariants.{Failed}
use Rattle.rb_forward.specs.Forwards.{Entry, Forwards, is_due as entry_is_due, ended_by, without_first}
use Rattle.rb_forward.specs.Ends.{NoneIs, EndsFirst}
use Rattle.rb_forward.proofs.Ends.{ends_first, due_means, due_tested}
use Rattle.rb_answers.specs.declared.context.Context.{Context}
use Rattle.rb_answers.specs.Ledger.{Ledger, rows_in}
use Rattle.rb_model.specs.declared.message.Message.{Message}
use Rattle.rb_model.specs.declared.message.Message.TheVariants as says
use Rattle.rb_model.specs.declared.types.CoreFault.{CoreFault}
use Rattle.rb_model.specs.declared.types.CoreFault.TheVariants.{Gone}
use Rattle.rb_model.specs.Calls.{Outcome, is_no_call, message_of, outcome}
use Rattle.rb_model.specs.Calls.Outcome.{NoCall, Reply, Forwarded, Silent}
use Rattle.rb_model.specs.Sessions.{IsFinal}
use Rattle.rb_model.specs.State.{State, Connection, Connections, at_moment}
use Rattle.rb_model.specs.State.Phase.{Idle}
use Rattle.rb_model.specs.Connections.{is_lost, has_number, is_live, live_connection, is_there, fed_in, change_first, changed_at, keep_reading, settle, give, without_number, close_in_table}
use Rattle.rb_model.specs.Step.{sender, Event, Output, context_in, with_reply, datagram, show_outcome, serve_message, serve, dropped_with, bytes, close_connection, output_or, show_taken, show_done, show_expired, step, IsReached}
use Rattle.rb_model.specs.declared.types.Taken.{Taken}
use Rattle.rb_model.specs.Step.Event.{Open, Bytes, Pending, Gave, Closed, NextLost, Datagram, Unsent, Sent, Forward, Expire, ZeroStats}
use Rattle.rb_model.specs.Laws.{IsLive, IsLeast}
use Rattle.rb_model.specs.DeadlineLaws.{NoEntryIsDue}
use Rattle.rb_model.specs.declared.types.Expired.{Expired}
use Rattle.rb_model.specs.Losses.{is_due, lose, stamp_in, needed_removals, asks_room, removals_in_the_way, began_before, evict_early, evict}
use Rattle.rb_model.specs.Ending.{at_fresh_moment, expire}
use Rattle.rb_model.specs.Closings.{EndsNoCall, EndsAtDeadline, BringsEnd, Brings, EndsForRoom, ClosesExactly, ConnectionsCloseExactly}
use Rattle.rb_model.proofs.Found.{none_any}
use Rattle.rb_model.proofs.Expiring.{AreApart, due-one}
use Rattle.rb_laws.proofs.LeastLost.{first-least}
use Rattle.rb_laws.proofs.DueThings.{Expiry, expiry}
use Rattle.rb_laws.proofs.DueThings.Expiry.{EntryEnds, ConnectionEnds, NothingDue}
use Rattle.rb_laws.proofs.Cuts.{IsFeeding, find-changed, find-holds, number-is, reading-feeds, fed-no-list}
use Rattle.rb_laws.proofs.Crowding.{crowded, row_within}
use Rattle.rb_laws.proofs.Crowds.{is_lost_one, live_or_lost, lost_stays, plain_lives}
use Rattle.rb_laws.proofs.ExactTaking.{fed-none}
use Rattle.rb_laws.proofs.Happenings.{Arriving, arriving, Happening, happening, said_in, crowd_at, find-any}
use Rattle.rb_laws.proofs.Happenings.Arriving.{NotThere, NotTaken, ReadOn, Ended}
use Rattle.rb_laws.proofs.Happenings.Happening.{Stays, Evicts, Opens, Reads, Ends, Gives, Closes, Tells, TimesOut}
use Rattle.rb_laws.proofs.Live.{without, changed-other, closed-other, find-before, answering-feeds, replying-feeds, giving-feeds}
use Rattle.rb_laws.proofs.Reached.{AreSound, SoundIn, live-sound, reached-sound, step-sound, giving-keeps, settled-keeps, lost-keeps, IsSound}

-- ---- lists of connections

abbrev pub lost_in : ℕ → List Connection → Bool
lost_in id all = list_any (λ (c : Connection). eqb c.number id && is_lost c.phase) all

abbrev there_in : ℕ → List Connection → Bool
there_in id all = list_any (has_number id) all

both-false : (b : Bool) → (b && false) ≡ false
both-false b = grind arith

either-true : (b : Bool) → (b || true) ≡ true
either-true b = grind arith

-- those of greater numbers
lost-above : (id least next : ℕ) (all : List Connection) → AreSound least next all → id < least → lost_in id all ≡ false
lost-above id least next [] a low = grind arith
lost-above id least next (d ∷ all) a low = grind (arith, lost-above id (d.number + 1) next all a.2 (omega (arith, a.0, low)))

found-above : (p : Connection → Bool) (least next : ℕ) (all : List Connection) (c : Connection) → AreSound least next all → find p all ≡ Some c → least ≤ c.number
found-above p least next [] c a is = grind arith
found-above p least next (d ∷ all) c a is = grind (arith, found-above p (d.number + 1) next all c a.2)

is-false : (b : Bool) → not b ≡ true → b ≡ false
is-false b h = grind arith

not-lost : (id : ℕ) (d : Connection) → is_live id d ≡ true → is_lost d.phase ≡ false
unfolding is_live
not-lost id d e = is-false (is_lost d.phase) (and_parts (eqb d.number id) (not (is_lost d.phase)) e).1

-- if one of the number is live, none is Lost, and one is there
live-not-lost : (id least next : ℕ) (all : List Connection) (c : Connection) → AreSound least next all → find (is_live id) all ≡ Some c → lost_in id all ≡ false
live-not-lost id least next [] c a is = grind (arith, common_steps, not-lost, both-false, lost-above, number-is, find-holds, found-above, ne_eqb)
live-not-lost id least next (d ∷ all) c a is = grind (arith, common_steps, not-lost, both-false, lost-above, number-is, find-holds, found-above, ne_eqb, live-not-lost id (d.number + 1) next all c a.2)

live-there : (id : ℕ) (all : List Connection) (c : Connection) → find (is_live id) all ≡ Some c → there_in id all ≡ true
live-there id [] c is = grind (arith, common_steps, eq-eqb, number-is, either-true)
live-there id (d ∷ all) c is = grind (arith, common_steps, eq-eqb, number-is, either-true, live-there id all c)

-- the live one becomes Lost
pub record IsLosing (f : Connection → Connection) : Type 0 where
  number : (c : Connection) → (f c).number ≡ c.number
  lost : (c : Connection) → is_lost (f c).phase ≡ true

losing : (clock : ℕ) → IsLosing (settle clock NoCall)
unfolding settle
losing clock = record { number = λ c. refl; lost = λ c. refl }

pub now-lost : (id : ℕ) (f : Connection → Connection) → IsLosing f → (all : List Connection) (c : Connection) → find (is_live id) all ≡ Some c
    → (lost_in id (change_first (is_live id) f all) ≡ true) × (there_in id (change_first (is_live id) f all) ≡ true)
now-lost id f loses [] c is = grind (arith, common_steps, loses, eq-eqb, number-is, either-true)
now-lost id f loses (d ∷ all) c is = grind (arith, common_steps, loses, eq-eqb, number-is, either-true, now-lost id f loses all c)

pub timing-out : IsLosing lose
timing-out = record { number = λ c. refl; lost = λ c. refl }

-- none of the number is left
none-left : (id : ℕ) (all : List Connection) → (lost_in id (without id all) ≡ false) × (there_in id (without id all) ≡ false)
none-left id [] = grind arith
none-left id (d ∷ all) = grind (arith, none-left id all)

-- ---- what is due

none-above : (id least next : ℕ) (all : List Connection) → AreSound least next all → id < least → there_in id all ≡ false
none-above id least next [] a low = grind arith
none-above id least next (d ∷ all) a low = grind (arith, none-above id (d.number + 1) next all a.2 (omega (arith, a.0, low)))

pub sound-apart : (least next : ℕ) (all : List Connection) → AreSound least next all → AreApart all
sound-apart least next [] a = tt
sound-apart least next (d ∷ all) a = (none-above d.number (d.number + 1) next all a.2 (omega arith), sound-apart (d.number + 1) next all a.2)

due-least : (clock least next : ℕ) (all : List Connection) (d : Connection) → AreSound least next all → find (is_due clock) all ≡ Some d → All (λ (x : Connection). is_due clock x ≡ true → d.number ≤ x.number) all
due-least clock least next all d sound found =
    (subst (λ (o : Option Connection). IsLeast (is_due clock) all (option_map (λ (x : Connection). x.number) o)) found (first-least (is_due clock) least next all sound)).1

all-found : (P : Connection → Type 0) (p : Connection → Bool) (all : List Connection) (c : Connection) → All P all → find p all ≡ Some c → P c
all-found P p [] c holds is = grind (arith, common_steps, All-tail, All-head)
all-found P p (d ∷ all) c holds is = grind (arith, common_steps, All-tail, All-head, all-found P p all c (All-tail P d all holds))

-- no entry is due that would be found
none-are-due : (clock : ℕ) (f : Forwards) → find (entry_is_due clock) f.all ≡ None → NoneIs (λ (e : Entry). e.deadline ≤ clock) f.all
none-are-due clock f none =
    (subst (λ (o : Option Entry). EndsFirst (λ (e : Entry). e.deadline ≤ clock) Failed f (option_map (ended_by Failed) o) (record f { all = without_first (entry_is_due clock) f.all })) none
    (ends_first (λ (e : Entry). e.deadline ≤ clock) (entry_is_due clock) (due_means clock) (due_tested clock) Failed f)).0

not-due : (clock : ℕ) (all : List Entry) (e : Entry) → NoneIs (λ (x : Entry). x.deadline ≤ clock) all → find (entry_is_due clock) all ≡ Some e → ⊥
not-due clock [] e none is = grind arith
not-due clock (x ∷ all) e none is = grind (arith, not-due clock all e none.1)

-- ---- what a message is answered with

no-call-says : (context : Context) (message : Message) (arguments : List ℕ) (ledger : Ledger) → (outcome context message arguments ledger).0 ≡ NoCall → message ≡ says.NoCall
unfolding outcome
no-call-says context message arguments ledger is = grind arith

said-none : (s : State) (at id : ℕ) (c : Connection) (record_bytes : List ℕ) → said_in s at id c record_bytes ≡ NoCall → message_of (data_of record_bytes) ≡ says.NoCall
unfolding serve
said-none s at id c record_bytes is = no-call-says _ (message_of (data_of record_bytes)) _ _ is

none-said : (s : State) (at id : ℕ) (c : Connection) (record_bytes : List ℕ) → message_of (data_of record_bytes) ≡ says.NoCall → said_in s at id c record_bytes ≡ NoCall
unfolding serve outcome
none-said s at id c record_bytes is = ap (λ (m : Message). (serve_message (at_moment at s) (Tcp id c.who) m (arguments_of (data_of record_bytes))).0) is

pub final-call : (said : Outcome) → IsFinal said → is_no_call said ≡ false
final-call said f = grind arith

-- ---- the room of a row

later-all : (n : ℕ) (changes : List ℕ) → All (λ change. n < change) changes → list_all (λ later. nat_lt n later) changes ≡ true
later-all n [] h = grind (arith, common_steps, lt-ltb, All-head, All-tail)
later-all n (x ∷ xs) h = grind (arith, common_steps, lt-ltb, All-head, All-tail, later-all n xs (All-tail (λ change. n < change) x xs h))

-- a connection whose list is in the way
record InTheWay (changes : List ℕ) (began : Option ℕ) : Type 0 where
  n : ℕ
  is : began ≡ Some n
  later : All (λ change. n < change) changes

in-the-way : (changes : List ℕ) (began : Option ℕ) → began_before changes began ≡ true → InTheWay changes began
in-the-way changes began is = grind (arith, common_steps)

way-of : (changes : List ℕ) (began : Option ℕ) (n : ℕ) → began ≡ Some n → 0 < length changes → All (λ change. n < change) changes → began_before changes began ≡ true
way-of [] began n is some later = absurd (omega (arith, some))
way-of (x ∷ xs) began n is some later = rw is (later-all n (x ∷ xs) later)

pub asks-within : (context : Context) (message : Message) (l : Ledger) → asks_room context message l ≡ true → length (rows_in l) < context.limit
asks-within context message l is = grind (arith, common_steps, row_within)

-- if something is in the way, room is asked for and there is none
record IsCrowding (context : Context) (message : Message) (all : List Connection) (l : Ledger) (c : Connection) : Type 0 where
  asks : asks_room context message l ≡ true
  full : context.limit ≤ length (rows_in l) + length (needed_removals all l)
  way : InTheWay (needed_removals all l) (stamp_in c.phase)

crowds : (context : Context) (message : Message) (all : List Connection) (l : Ledger) (c : Connection) → began_before (removals_in_the_way context message all l) (stamp_in c.phase) ≡ true → IsCrowding context message all l c
unfolding removals_in_the_way
crowds context message all l c is = grind (arith, common_steps)

lost-there : (id : ℕ) (all : List Connection) → lost_in id all ≡ true → there_in id all ≡ true
lost-there id [] is = grind arith
lost-there id (d ∷ all) is = grind (arith, lost-there id all)

-- ---- what becomes of the live connection of a number

data Fate (s : State) (id : ℕ) (c : Connection) (event : Event) (now : Connections) : Type 0 where
  Lives : (d : Connection) → find (is_live id) now.all ≡ Some d → Fate s id c event now
  Loses : EndsNoCall id c event ⊎ EndsAtDeadline s id c event ⊎ EndsForRoom s c event → there_in id now.all ≡ true → Fate s id c event now
  Leaves : event ≡ Closed id → lost_in id now.all ≡ false → Fate s id c event now

module _ (s : State) (sound : IsSound s) (id : ℕ) (c : Connection) (there : find (is_live id) s.connections.all ≡ Some c) where
  same-one : (k : ℕ) (d : Connection) → live_connection k s.connections.all ≡ Some d → k ≡ id → d ≡ c
  unfolding live_connection
  same-one k d here e = grind arith

  on-another : (event : Event) (k : ℕ) (f : Connection → Connection) (now : Connections) → ((d : Connection) → (f d).number ≡ d.number) → eqb k id ≡ false → now ≡ changed_at k f s.connections → Fate s id c event now
  on-another event k f now keeps e same = Lives c (ap (λ (x : Connections). find (is_live id) x.all) same ∙ changed-other id k f keeps e s.connections.all ∙ there)

  on-this : (event : Event) (f : Connection → Connection) (now : Connections) → IsFeeding id f → now ≡ changed_at id f s.connections → Fate s id c event now
  on-this event f now feeds same = Lives (f c) (ap (λ (x : Connections). find (is_live id) x.all) same ∙ find-changed id f feeds s.connections.all c there)

  for-room : (event : Event) (at : ℕ) (caller : Caller) (content : List ℕ) → Brings s event at caller content → began_before (crowd_at s at caller content) (stamp_in c.phase) ≡ true → EndsForRoom s c event
  for-room event at caller content brings way = grind (arith, common_steps, crowds)

  gives-way : (event : Event) (at : ℕ) (caller : Caller) (content : List ℕ) → Brings s event at caller content → (now : Connections) → now ≡ evict (crowd_at s at caller content) s.connections → Fate s id c event now
  gives-way event at caller content brings now same = elim (live_or_lost id (crowd_at s at caller content) s.connections.all c there) [
    | inl stays ↦ Lives c (ap (λ (x : Connections). find (is_live id) x.all) same ∙ stays.1)
    | inr goes ↦ Loses (inr (inr (for-room event at caller content brings goes.0))) (ap (λ (x : Connections). there_in id x.all) same ∙ lost-there id _ goes.1)
  ]

  -- when another's record is answered
  gives-way-to : (event : Event) (at k : ℕ) (caller : Caller) (content : List ℕ) → Brings s event at caller content → (f : Connection → Connection) → ((d : Connection) → (f d).number ≡ d.number) → eqb k id ≡ false
      → (now : Connections) → now ≡ changed_at k f (evict (crowd_at s at caller content) s.connections) → Fate s id c event now
  gives-way-to event at k caller content brings f keeps e now same = elim (live_or_lost id (crowd_at s at caller content) s.connections.all c there) [
    | inl stays ↦ Lives c (ap (λ (x : Connections). find (is_live id) x.all) same ∙ changed-other id k f keeps e (map (evict_early (crowd_at s at caller content)) s.connections.all) ∙ stays.1)
    | inr goes ↦
        Loses (inr (inr (for-room event at caller content brings goes.0)))
        (ap (λ (x : Connections). there_in id x.all) same ∙ lost-there id _ (lost_stays id k f keeps e (map (evict_early (crowd_at s at caller content)) s.connections.all) goes.1))
  ]

  still-this : (event : Event) (changes fed : List ℕ) (f : Connection → Connection) (now : Connections) → fed_in c.phase ≡ Some fed → IsFeeding id f → now ≡ changed_at id f (evict changes s.connections) → Fate s id c event now
  still-this event changes fed f now feeds feeding same =
      Lives (f c) (ap (λ (x : Connections). find (is_live id) x.all) same
      ∙ find-changed id f feeding (map (evict_early changes) s.connections.all) c (plain_lives id changes s.connections.all c there (fed-no-list c.phase fed feeds)))

  ends-here : (at : ℕ) (piece fed changes : List ℕ) (n : ℕ) (now : Connections) → fed_in c.phase ≡ Some fed → first_record (fed ++ piece) ≡ Some n → (said : Outcome) → said_in s at id c (take n (fed ++ piece)) ≡ said
      → now ≡ changed_at id (settle (max s.clock at) said) (evict changes s.connections) → Fate s id c (Bytes at id piece) now
  ends-here at piece fed changes n now feeds some (Reply reply began) says_so same = still-this (Bytes at id piece) changes fed (settle (max s.clock at) (Reply reply began)) now feeds (replying-feeds id (max s.clock at) reply began) same
  ends-here at piece fed changes n now feeds some Forwarded says_so same = still-this (Bytes at id piece) changes fed (settle (max s.clock at) Forwarded) now feeds (answering-feeds id (max s.clock at) Forwarded refl) same
  ends-here at piece fed changes n now feeds some Silent says_so same = still-this (Bytes at id piece) changes fed (settle (max s.clock at) Silent) now feeds (answering-feeds id (max s.clock at) Silent refl) same
  ends-here at piece fed changes n now feeds some NoCall says_so same =
      Loses (inl (record { now = at; piece = piece; is = refl; fed = fed; takes = feeds; n = n; ends = some; no_call = said-none s at id c (take n (fed ++ piece)) says_so }))
      (ap (λ (x : Connections). there_in id x.all) same
      ∙ (now-lost id (settle (max s.clock at) NoCall) (losing (max s.clock at)) (map (evict_early changes) s.connections.all) c (plain_lives id changes s.connections.all c there (fed-no-list c.phase fed feeds))).1)

  reads-at : (at k : ℕ) (piece fed : List ℕ) (now : Connections) → now ≡ changed_at k (keep_reading (max s.clock at) (fed ++ piece)) s.connections → (b : Bool) → eqb k id ≡ b → (event : Event) → Fate s id c event now
  unfolding keep_reading
  reads-at at k piece fed now same false e event = on-another event k (keep_reading (max s.clock at) (fed ++ piece)) now (λ x. refl) e same
  reads-at at k piece fed now same true e event =
      on-this event (keep_reading (max s.clock at) (fed ++ piece)) now (reading-feeds id (max s.clock at) (fed ++ piece))
      (same ∙ ap (λ (j : ℕ). changed_at j (keep_reading (max s.clock at) (fed ++ piece)) s.connections) (eqb-true k id e))

  ends-at : (at k : ℕ) (piece : List ℕ) (d : Connection) (fed : List ℕ) (n : ℕ) (now : Connections) → live_connection k s.connections.all ≡ Some d → fed_in d.phase ≡ Some fed → first_record (fed ++ piece) ≡ Some n
      → now ≡ changed_at k (settle (max s.clock at) (said_in s at k d (take n (fed ++ piece)))) (evict (crowd_at s at (Tcp k d.who) (data_of (take n (fed ++ piece)))) s.connections)
      → (b : Bool) → eqb k id ≡ b → Fate s id c (Bytes at k piece) now
  ends-at at k piece d fed n now here feeds some same false e =
      gives-way-to (Bytes at k piece) at k (Tcp k d.who) (data_of (take n (fed ++ piece)))
      (refl, record { connection = d; live = here; fed = fed; takes = feeds; n = n; ends = some; caller_is = refl; content_is = refl })
      (settle (max s.clock at) (said_in s at k d (take n (fed ++ piece)))) (settled-keeps (max s.clock at) (said_in s at k d (take n (fed ++ piece)))).number e now same
  ends-at at k piece d fed n now here feeds some same true e =
      let number : k ≡ id = eqb-true k id e in
      let one : d ≡ c = same-one k d here number in
      let crowd : List ℕ = crowd_at s at (Tcp k d.who) (data_of (take n (fed ++ piece))) in
      subst (λ (j : ℕ). Fate s id c (Bytes at j piece) now) (sym number)
      (ends-here at piece fed crowd n now (ap (λ (x : Connection). fed_in x.phase) (sym one) ∙ feeds) some (said_in s at id c (take n (fed ++ piece))) refl
      (same ∙ ap (λ (j : ℕ). changed_at j (settle (max s.clock at) (said_in s at j d (take n (fed ++ piece)))) (evict crowd s.connections)) number
      ∙ ap (λ (x : Connection). changed_at id (settle (max s.clock at) (said_in s at id x (take n (fed ++ piece)))) (evict crowd s.connections)) one))

  gives-at : (at k n : ℕ) (now : Connections) → now ≡ changed_at k (λ x. (give (max s.clock at) n x).1) s.connections → (b : Bool) → eqb k id ≡ b → (event : Event) → Fate s id c event now
  gives-at at k n now same false e event = on-another event k (λ x. (give (max s.clock at) n x).1) now (giving-keeps (max s.clock at) n).number e same
  gives-at at k n now same true e event =
      on-this event (λ x. (give (max s.clock at) n x).1) now (giving-feeds id (max s.clock at) n)
      (same ∙ ap (λ (j : ℕ). changed_at j (λ x. (give (max s.clock at) n x).1) s.connections) (eqb-true k id e))

  tells-at : (at k : ℕ) (said : Outcome) (now : Connections) → IsFinal said → now ≡ changed_at k (settle (max s.clock at) said) s.connections → (b : Bool) → eqb k id ≡ b → (event : Event) → Fate s id c event now
  tells-at at k said now final same false e event = on-another event k (settle (max s.clock at) said) now (settled-keeps (max s.clock at) said).number e same
  tells-at at k said now final same true e event =
      on-this event (settle (max s.clock at) said) now (answering-feeds id (max s.clock at) said (final-call said final))
      (same ∙ ap (λ (j : ℕ). changed_at j (settle (max s.clock at) said) s.connections) (eqb-true k id e))

  times-out-at : (at : ℕ) (d : Connection) (now : Connections) → find (entry_is_due (max s.clock at)) s.ledger.forwards.all ≡ None → find (is_due (max s.clock at)) s.connections.all ≡ Some d
      → now ≡ changed_at d.number lose s.connections → (b : Bool) → eqb d.number id ≡ b → Fate s id c (Expire at) now
  times-out-at at d now none found same false e = on-another (Expire at) d.number lose now lost-keeps.number e same
  times-out-at at d now none found same true e =
      let number : d.number ≡ id = eqb-true d.number id e in
      let here : find (is_live d.number) s.connections.all ≡ Some c = ap (λ (k : ℕ). find (is_live k) s.connections.all) number ∙ there in
      let one : c ≡ d = due-one (max s.clock at) s.connections.all c d (sound-apart 0 s.connections.next s.connections.all sound) found here in
      Loses (inr (inl (record {
        now = at;
        is = refl;
        due = ap (is_due (max s.clock at)) one ∙ find-holds (is_due (max s.clock at)) s.connections.all d found;
        entries = none-are-due (max s.clock at) s.ledger.forwards none;
        least = subst (λ (k : ℕ). All (λ (x : Connection). is_due (max s.clock at) x ≡ true → k ≤ x.number) s.connections.all) number (due-least (max s.clock at) 0 s.connections.next s.connections.all d sound found);
      })))
      (ap (λ (x : Connections). there_in id x.all) (same ∙ ap (λ (k : ℕ). changed_at k lose s.connections) number) ∙ (now-lost id lose timing-out s.connections.all c there).1)

  closes-at : (k : ℕ) (now : Connections) → now.all ≡ without k s.connections.all → (b : Bool) → eqb k id ≡ b → Fate s id c (Closed k) now
  closes-at k now same false e = Lives c (ap (λ (xs : List Connection). find (is_live id) xs) same ∙ closed-other id k e s.connections.all ∙ there)
  closes-at k now same true e = grind (arith, common_steps, closed-other, eqb-true, none-left)

  fate : (event : Event) (output : Output) (now : Connections) → Happening s event output now → Fate s id c event now
  unfolding without_number
  fate event output now (Stays q same) = Lives c (ap (λ (x : Connections). find (is_live id) x.all) same ∙ there)
  fate event output now (Evicts at who content is q same) =
      subst (λ (ev : Event). Fate s id c ev now) (sym is) (gives-way (Datagram at who content) at (sender s who content) content (refl, refl, refl) now same)
  fate event output now (Opens at who is out same) =
      Lives c (ap (λ (x : Connections). find (is_live id) x.all) same
      ∙ find-before (is_live id) s.connections.all c (record { number = s.connections.next; who = who; phase = Idle; since = max s.clock at }) there)
  fate event output now (Reads at k piece d fed is here feeds none out same) = reads-at at k piece fed now same (eqb k id) refl event
  fate event output now (Ends at k piece d fed n is here feeds some out same) =
      subst (λ (ev : Event). Fate s id c ev now) (sym is) (ends-at at k piece d fed n now here feeds some same (eqb k id) refl)
  fate event output now (Gives at k n d is here few out same) = gives-at at k n now same (eqb k id) refl event
  fate event output now (Tells at k said is q final told here same) = tells-at at k said now final same (eqb k id) refl event
  fate event output now (TimesOut at d is q none found same) =
      subst (λ (ev : Event). Fate s id c ev now) (sym is) (times-out-at at d now none found same (eqb d.number id) refl)
  fate event output now (Closes k is out here same) =
      subst (λ (ev : Event). Fate s id c ev now) (sym is) (closes-at k now (ap (λ (x : Connections). x.all) same) (eqb k id) refl)

-- ---- and back

module _ (s : State) (reached : IsReached s) (id : ℕ) (c : Connection) (there : IsLive s id c) where
  found : find (is_live id) s.connections.all ≡ Some c
  unfolding live_connection
  found = there

  one : (d : Connection) → live_connection id s.connections.all ≡ Some d → d ≡ c
  one d here = let both : Some d ≡ Some c = sym here ∙ there in cc

  none-some : {A : Type 0} (x : A) → None ≡ Some x → ⊥
  none-some x e = cc

  some-is : {A : Type 0} (x y : A) → Some x ≡ Some y → x ≡ y
  some-is x y e = cc

  loses : (now : ℕ) (piece fed : List ℕ) (n : ℕ) → fed_in c.phase ≡ Some fed → first_record (fed ++ piece) ≡ Some n → message_of (data_of (take n (fed ++ piece))) ≡ says.NoCall
      → (r : Result Taken CoreFault × State) → Arriving s now id piece r → lost_in id (output_or show_taken r).1.connections.all ≡ true
  unfolding serve
  loses now piece fed n takes ends no_call r (NotThere gone is) = absurd (none-some c (sym gone ∙ there))
  loses now piece fed n takes ends no_call r (NotTaken d here (inl none) is) =
      absurd (none-some fed (sym none ∙ ap (λ (x : Connection). fed_in x.phase) (one d here) ∙ takes))
  loses now piece fed n takes ends no_call r (NotTaken d here (inr empty) is) =
      let none : first_record fed ≡ None = fed-none c.phase (live-sound s reached id c there) fed takes in
      absurd (none-some n (sym none ∙ ap first_record (sym (ap (λ (xs : List ℕ). fed ++ xs) empty ∙ append-nil fed)) ∙ ends))
  loses now piece fed n takes ends no_call r (ReadOn d other here feeds none is) =
      let same : other ≡ fed = some-is other fed (sym feeds ∙ ap (λ (x : Connection). fed_in x.phase) (one d here) ∙ takes) in
      absurd (none-some n (sym none ∙ ap (λ (xs : List ℕ). first_record (xs ++ piece)) same ∙ ends))
  loses now piece fed n takes ends no_call r (Ended d other m here feeds some is) =
      let who : d ≡ c = one d here in
      let same : other ≡ fed = some-is other fed (sym feeds ∙ ap (λ (x : Connection). fed_in x.phase) who ∙ takes) in
      let count : m ≡ n = some-is m n (sym some ∙ ap (λ (xs : List ℕ). first_record (xs ++ piece)) same ∙ ends) in
      let bytes_are : take m (other ++ piece) ≡ take n (fed ++ piece) = ap (λ (k : ℕ). take k (other ++ piece)) count ∙ ap (λ (xs : List ℕ). take n (xs ++ piece)) same in
      let said : said_in s now id d (take m (other ++ piece)) ≡ NoCall =
      ap (λ (xs : List ℕ). said_in s now id d xs) bytes_are ∙ none-said s now id d (take n (fed ++ piece)) no_call in
      let crowd : List ℕ = crowd_at s now (Tcp id d.who) (data_of (take m (other ++ piece))) in
      ap (λ (x : Result Taken CoreFault × State). lost_in id (output_or show_taken x).1.connections.all) is
      ∙ ap (λ (o : Outcome). lost_in id (change_first (is_live id) (settle (max s.clock now) o) (map (evict_early crowd) s.connections.all))) said
      ∙ (now-lost id (settle (max s.clock now) NoCall) (losing (max s.clock now)) (map (evict_early crowd) s.connections.all) c (plain_lives id crowd s.connections.all c found (fed-no-list c.phase fed takes))).0

  lost-at : (now : ℕ) (piece fed : List ℕ) (n : ℕ) → fed_in c.phase ≡ Some fed → first_record (fed ++ piece) ≡ Some n → message_of (data_of (take n (fed ++ piece))) ≡ says.NoCall
      → lost_in id (step s (Bytes now id piece)).1.connections.all ≡ true
  unfolding step
  lost-at now piece fed n takes ends no_call = loses now piece fed n takes ends no_call (bytes s now id piece) (arriving s now id piece)

  lost-by : (event : Event) → EndsNoCall id c event → lost_in id (step s event).1.connections.all ≡ true
  lost-by event e = subst (λ (ev : Event). lost_in id (step s ev).1.connections.all ≡ true) (sym e.is) (lost-at e.now e.piece e.fed e.n e.takes e.ends e.no_call)

  -- at its deadline
  times-out : (at : ℕ) → is_due (max s.clock at) c ≡ true → NoEntryIsDue at s → All (λ (d : Connection). is_due (max s.clock at) d ≡ true → id ≤ d.number) s.connections.all
      → (r : Expired × State) → Expiry s (max s.clock at) (at_fresh_moment at s) r → lost_in id (show_expired r).1.connections.all ≡ true
  times-out at due entries least r (EntryEnds e here ledger left is) = absurd (not-due (max s.clock at) s.ledger.forwards.all e entries here)
  times-out at due entries least r (NothingDue none free is) =
      let clash : true ≡ false = sym (find-any (is_live id) (is_due (max s.clock at)) s.connections.all c found due) ∙ none_any (is_due (max s.clock at)) s.connections.all free in
      absurd cc
  times-out at due entries least r (ConnectionEnds none d here is) =
      let above : id ≤ d.number = all-found (λ (x : Connection). is_due (max s.clock at) x ≡ true → id ≤ x.number) (is_due (max s.clock at)) s.connections.all d least here (find-holds (is_due (max s.clock at)) s.connections.all d here) in
      let first = due-least (max s.clock at) 0 s.connections.next s.connections.all d (reached-sound s reached) here in
      let below : d.number ≤ c.number = all-found (λ (x : Connection). is_due (max s.clock at) x ≡ true → d.number ≤ x.number) (is_live id) s.connections.all c first found due in
      let mine : c.number ≡ id = number-is id c (find-holds (is_live id) s.connections.all c found) in
      let number : d.number ≡ id = omega (arith, above, below, mine) in
      ap (λ (x : Expired × State). lost_in id (show_expired x).1.connections.all) is
      ∙ ap (λ (k : ℕ). lost_in id (change_first (is_live k) lose s.connections.all)) number
      ∙ (now-lost id lose timing-out s.connections.all c found).0

  timed-out-at : (at : ℕ) → is_due (max s.clock at) c ≡ true → NoEntryIsDue at s → All (λ (d : Connection). is_due (max s.clock at) d ≡ true → id ≤ d.number) s.connections.all
      → lost_in id (step s (Expire at)).1.connections.all ≡ true
  unfolding step
  timed-out-at at due entries least = times-out at due entries least (expire s at) (expiry s at)

  -- for room
  crowded-out : (at : ℕ) (caller : Caller) (content : List ℕ) → asks_room (context_in (at_moment at s) caller) (message_of content) s.ledger ≡ true
      → s.setting.limits.rows ≤ length (rows_in s.ledger) + length (needed_removals s.connections.all s.ledger) → (n : ℕ) → stamp_in c.phase ≡ Some n → All (λ change. n < change) (needed_removals s.connections.all s.ledger)
      → list_any (is_lost_one id) (map (evict_early (crowd_at s at caller content)) s.connections.all) ≡ true
  crowded-out at caller content asks full n lists before =
      let crowd = crowded (context_in (at_moment at s) caller) (message_of content) s.connections.all s.ledger asks full in
      let within = asks-within (context_in (at_moment at s) caller) (message_of content) s.ledger asks in
      let way : began_before (crowd_at s at caller content) (stamp_in c.phase) ≡ true =
      ap (λ (xs : List ℕ). began_before xs (stamp_in c.phase)) crowd ∙ way-of (needed_removals s.connections.all s.ledger) (stamp_in c.phase) n lists (omega (arith, within, full)) before in
      elim (live_or_lost id (crowd_at s at caller content) s.connections.all c found) [
        | inl stays ↦ let clash : true ≡ false = sym way ∙ stays.0 in absurd cc
        | inr goes ↦ goes.1
      ]

  shown-leaves : (r : Outcome × State) → (show_outcome (with_reply r)).1.connections ≡ r.1.connections
  shown-leaves r = grind arith

  after-datagram : (at : ℕ) (who : Who) (content : List ℕ) → (step s (Datagram at who content)).1.connections ≡ evict (crowd_at s at (sender s who content) content) s.connections
  unfolding step datagram serve
  after-datagram at who content = shown-leaves (serve (at_moment at s) (sender s who content) content)

  listing-elsewhere : (k n : ℕ) (d : Connection) (fed : List ℕ) → live_connection k s.connections.all ≡ Some d → fed_in d.phase ≡ Some fed → stamp_in c.phase ≡ Some n → (b : Bool) → eqb k id ≡ b → eqb k id ≡ false
  listing-elsewhere k n d fed here feeds lists b e = grind arith

  way-at : (at k n : ℕ) (piece : List ℕ) (caller : Caller) (content : List ℕ) → BringsEnd s k piece caller content → stamp_in c.phase ≡ Some n
      → list_any (is_lost_one id) (map (evict_early (crowd_at s at caller content)) s.connections.all) ≡ true
      → (r : Result Taken CoreFault × State) → Arriving s at k piece r → lost_in id (output_or show_taken r).1.connections.all ≡ true
  unfolding serve
  way-at at k n piece caller content e lists goes r (NotThere gone is) = absurd (none-some e.connection (sym gone ∙ e.live))
  way-at at k n piece caller content e lists goes r (NotTaken d here (inl none) is) = grind arith
  way-at at k n piece caller content e lists goes r (NotTaken d here (inr empty) is) =
      let none : first_record e.fed ≡ None = fed-none e.connection.phase (live-sound s reached k e.connection e.live) e.fed e.takes in
      absurd (none-some e.n (sym none ∙ ap first_record (sym (ap (λ (xs : List ℕ). e.fed ++ xs) empty ∙ append-nil e.fed)) ∙ e.ends))
  way-at at k n piece caller content e lists goes r (ReadOn d other here feeds none is) = grind arith
  way-at at k n piece caller content e lists goes r (Ended d other m here feeds some is) =
      let who : d ≡ e.connection = some-is d e.connection (sym here ∙ e.live) in
      let same : other ≡ e.fed = some-is other e.fed (sym feeds ∙ ap (λ (x : Connection). fed_in x.phase) who ∙ e.takes) in
      let count : m ≡ e.n = some-is m e.n (sym some ∙ ap (λ (xs : List ℕ). first_record (xs ++ piece)) same ∙ e.ends) in
      let bytes_are : take m (other ++ piece) ≡ take e.n (e.fed ++ piece) = ap (λ (k : ℕ). take k (other ++ piece)) count ∙ ap (λ (xs : List ℕ). take e.n (xs ++ piece)) same in
      let crowd : crowd_at s at (Tcp k d.who) (data_of (take m (other ++ piece))) ≡ crowd_at s at caller content = cc in
      let apart : eqb k id ≡ false = listing-elsewhere k n d other here feeds lists (eqb k id) refl in
      ap (λ (x : Result Taken CoreFault × State). lost_in id (output_or show_taken x).1.connections.all) is
      ∙ ap (λ (xs : List ℕ). lost_in id (change_first (is_live k) (settle (max s.clock at) (said_in s at k d (take m (other ++ piece)))) (map (evict_early xs) s.connections.all))) crowd
      ∙ lost_stays id k (settle (max s.clock at) (said_in s at k d (take m (other ++ piece)))) (settled-keeps (max s.clock at) (said_in s at k d (take m (other ++ piece)))).number apart
      (map (evict_early (crowd_at s at caller content)) s.connections.all) goes

  lost-by-bytes : (at k n : ℕ) (piece : List ℕ) (caller : Caller) (content : List ℕ) → BringsEnd s k piece caller content → stamp_in c.phase ≡ Some n
      → list_any (is_lost_one id) (map (evict_early (crowd_at s at caller content)) s.connections.all) ≡ true → lost_in id (step s (Bytes at k piece)).1.connections.all ≡ true
  unfolding step
  lost-by-bytes at k n piece caller content e lists goes = way-at at k n piece caller content e lists goes (bytes s at k piece) (arriving s at k piece)

  room-at : (event : Event) (at n : ℕ) (caller : Caller) (content : List ℕ) → Brings s event at caller content → stamp_in c.phase ≡ Some n
      → list_any (is_lost_one id) (map (evict_early (crowd_at s at caller content)) s.connections.all) ≡ true → lost_in id (step s event).1.connections.all ≡ true
  room-at (Datagram now who content) at n caller bytes brings lists goes = grind (arith, common_steps, after-datagram, lost-by-bytes)
  room-at (Bytes now k piece) at n caller content brings lists goes =
      subst (λ (j : ℕ). lost_in id (step s (Bytes j k piece)).1.connections.all ≡ true) brings.0 (lost-by-bytes at k n piece caller content brings.1 lists goes)
  room-at (Open at who) now n caller content brings lists goes = absurd brings
  room-at (Pending k) now n caller content brings lists goes = absurd brings
  room-at (Gave at k m) now n caller content brings lists goes = absurd brings
  room-at (Closed k) now n caller content brings lists goes = absurd brings
  room-at NextLost now n caller content brings lists goes = absurd brings
  room-at Unsent now n caller content brings lists goes = absurd brings
  room-at (Sent number) now n caller content brings lists goes = absurd brings
  room-at (Forward at from message) now n caller content brings lists goes = absurd brings
  room-at (Expire at) now n caller content brings lists goes = absurd brings
  room-at ZeroStats now n caller content brings lists goes = absurd brings

  lost-by-room : (event : Event) → EndsForRoom s c event → lost_in id (step s event).1.connections.all ≡ true
  lost-by-room event e = room-at event e.now e.stamp e.caller e.content e.brings e.lists (crowded-out e.now e.caller e.content e.asks e.full e.stamp e.lists e.before)

  lost-by-either : (event : Event) → EndsNoCall id c event ⊎ EndsAtDeadline s id c event ⊎ EndsForRoom s c event → lost_in id (step s event).1.connections.all ≡ true
  lost-by-either event p = grind (arith, common_steps, lost-by, lost-by-room, timed-out-at)

  abbrev closed_or : Bool → Result (Unit {0}) CoreFault × Connections
  closed_or b = cond b (Ok tt, without_number id s.connections) (Err Gone, s.connections)

  gone-where : (b : Bool) → is_there id s.connections ≡ b → there_in id (output_or show_done (dropped_with s id (closed_or b))).1.connections.all ≡ false
  unfolding is_there without_number
  gone-where true e = (none-left id s.connections.all).1
  gone-where false e = e

  gone-at : there_in id (step s (Closed id)).1.connections.all ≡ false
  unfolding step close_connection close_in_table
  gone-at = gone-where (is_there id s.connections) refl

  gone-by : (event : Event) → event ≡ Closed id → there_in id (step s event).1.connections.all ≡ false
  gone-by event is = subst (λ (ev : Event). there_in id (step s ev).1.connections.all ≡ false) (sym is) gone-at

  lost-only : (event : Event) (now : Connections) → SoundIn now → Fate s id c event now → lost_in id now.all ≡ true → EndsNoCall id c event ⊎ EndsAtDeadline s id c event ⊎ EndsForRoom s c event
  lost-only event now sound p lose = grind (arith, common_steps, live-not-lost)

  gone-only : (event : Event) (now : Connections) → Fate s id c event now → there_in id now.all ≡ false → event ≡ Closed id
  gone-only event now p gone = grind (arith, common_steps, live-there)

  fate-of : (event : Event) → Fate s id c event (step s event).1.connections
  fate-of event = fate s (reached-sound s reached) id c found event (step s event).0 (step s event).1.connections (happening s event)

  closes : (event : Event) → ClosesExactly s event id c
  unfolding is_there
  closes event = record {
    lost = (lost-only event (step s event).1.connections (step-sound s event (reached-sound s reached)) (fate-of event), lost-by-either event);
    gone = (gone-only event (step s event).1.connections (fate-of event), gone-by event);
  }

pub connections_close_exactly : ConnectionsCloseExactly
connections_close_exactly s reached event id c there = closes s reached id c there event
