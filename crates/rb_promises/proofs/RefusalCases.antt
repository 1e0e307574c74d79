-- Each event is refused by one fault or not refused, by cases.
use Rattle.std.specs.Prelude.{find, All}
use Rattle.std.specs.List.{list_any}
use Rattle.std.proofs.Common.{◌≡◌, ◌↔◌, ◌<◌, ◌≤◌, ℕ, max, Bool, true, false, cond, not, ltb, ◌&&◌, ◌||◌, eqb, Option, Some, None, Result, Ok, Err, List, [], ◌∷◌, length, refl, sym, ap, subst, ◌∙◌, arith}
use Rattle.std.proofs.lemmas.Bool.{lt-ltb, ltb-true, ltb-false, eq-eqb, eqb-true, and_parts, and_from, not-true}
use Rattle.std.proofs.lemmas.List.Elements.{All-nil, All-cons, All-head, All-tail}
use Rattle.rb_address.specs.declared.who.Who.{Who}
use Rattle.rb_forward.specs.Forwards.{Entry, is_unsent, can_be_sent}
use Rattle.rb_answers.specs.Forwarding.{call_sent}
use Rattle.rb_model.specs.declared.types.CoreFault.{CoreFault}
use Rattle.rb_model.specs.declared.types.CoreFault.TheVariants.{NoMemory, Full, BadLimits, Gone, Spent}
use Rattle.rb_model.specs.declared.types.Taken.{Taken}
use Rattle.rb_model.specs.declared.types.Told.{Told}
use Rattle.rb_model.specs.declared.types.Expired.{Expired}
use Rattle.rb_model.specs.Calls.{Outcome}
use Rattle.rb_model.specs.State.{State, Phase, Connection, greatest_number}
use Rattle.rb_model.specs.State.Phase.{Idle, Reading, Owing, Awaiting, Lost}
use Rattle.rb_model.specs.Connections.{is_lost, is_live, live_connection, has_number, is_there, without_number, close_in_table, pending_in, give, on_found, number_for, opening_as, open_in_table}
use Rattle.rb_model.specs.Ending.{forward_reply, expire}
use Rattle.rb_model.specs.Step.{Event, Output, unless_refused, bytes, pending, pending_on, gave, is_too_much, open_connection, dropped_with, close_connection, datagram, sent_call, output_or, show_taken, show_done, show_outcome, show_end, show_expired, step}
use Rattle.rb_model.specs.Step.Event.{Open, Bytes, Pending, Gave, Closed, NextLost, Datagram, Unsent, Sent, Forward, Expire, ZeroStats}
use Rattle.rb_model.specs.Step.Output.{Opened, Refused, TooMuch, Took, TookAndLost, IsPending}
use Rattle.rb_laws.proofs.Happenings.{Arriving, arriving}
use Rattle.rb_laws.proofs.Happenings.Arriving.{NotThere, NotTaken, ReadOn, Ended}
use Rattle.rb_promises.specs.Refusals.{HasNoLive, HasNone, HasNoUnsent, IsGone, IsRefusedWith, RefusalsAreTheNamedOnes, GivesTooMuch, TooMuchIsTheNamedOne}

-- ---- what is found in a list

-- none passes the test, or one does
none-passes : {A : Type 0} (test : A → Bool) (P : A → Type 0) → ((x : A) → test x ≡ false → P x) → (xs : List A) → list_any test xs ≡ false → All P xs
none-passes test P means [] none = All-nil P
none-passes test P means (x ∷ xs) none = by_test (test x) refl none (none-passes test P means xs)
  where
    by_test : (b : Bool) → test x ≡ b → (b || list_any test xs) ≡ false → (list_any test xs ≡ false → All P xs) → All P (x ∷ xs)
    by_test true e none later = absurd (let no : true ≡ false = none in cc)
    by_test false e none later = All-cons P x xs (means x e) (later none)

one-passes : {A : Type 0} (test : A → Bool) (P : A → Type 0) → ((x : A) → test x ≡ true → P x → ⊥) → (xs : List A) → list_any test xs ≡ true → All P xs → ⊥
one-passes test P not_it [] one all = absurd cc
one-passes test P not_it (x ∷ xs) one all = by_test (test x) refl one (one-passes test P not_it xs)
  where
    by_test : (b : Bool) → test x ≡ b → (b || list_any test xs) ≡ true → (list_any test xs ≡ true → All P xs → ⊥) → ⊥
    by_test true e one later = not_it x e (All-head P x xs all)
    by_test false e one later = later one (All-tail P x xs all)

none-found : {A : Type 0} (test : A → Bool) (xs : List A) → find test xs ≡ None → list_any test xs ≡ false
none-found test [] none = refl
none-found test (x ∷ xs) none = grind (arith, none-found test xs)

one-found : {A : Type 0} (test : A → Bool) (xs : List A) (y : A) → find test xs ≡ Some y → list_any test xs ≡ true
one-found test [] y one = absurd cc
one-found test (x ∷ xs) y one = grind (arith, one-found test xs y)

lost-is : (phase : Phase) → is_lost phase ≡ true → phase ≡ Lost
lost-is Idle e = absurd cc
lost-is (Reading fed) e = absurd cc
lost-is (Owing owed) e = absurd cc
lost-is Awaiting e = absurd cc
lost-is Lost e = refl

dead-is : (id : ℕ) (c : Connection) → is_live id c ≡ false → c.number ≡ id → c.phase ≡ Lost
unfolding is_live
dead-is id c not_live is = by_lost (is_lost c.phase) refl
  where
    by_lost : (b : Bool) → is_lost c.phase ≡ b → c.phase ≡ Lost
    by_lost true e = lost-is c.phase e
    by_lost false e =
        let both : (eqb c.number id && not (is_lost c.phase)) ≡ true = and_from (eqb c.number id) (not (is_lost c.phase)) (eq-eqb c.number id is) (ap not e) in
        absurd cc

live-is : (id : ℕ) (c : Connection) → is_live id c ≡ true → (c.number ≡ id → c.phase ≡ Lost) → ⊥
unfolding is_live
live-is id c live lost =
    let parts = and_parts (eqb c.number id) (not (is_lost c.phase)) live in
    let is : is_lost c.phase ≡ true = ap is_lost (lost (eqb-true c.number id parts.0)) in
    let none : is_lost c.phase ≡ false = not-true (is_lost c.phase) parts.1 in
    absurd cc

no-live : (s : State) (id : ℕ) → live_connection id s.connections.all ≡ None → HasNoLive s id
unfolding live_connection
no-live s id none = none-passes (is_live id) (λ (c : Connection). c.number ≡ id → c.phase ≡ Lost) (dead-is id) s.connections.all (none-found (is_live id) s.connections.all none)

a-live : (s : State) (id : ℕ) (c : Connection) → live_connection id s.connections.all ≡ Some c → HasNoLive s id → ⊥
unfolding live_connection
a-live s id c there = one-passes (is_live id) (λ (c : Connection). c.number ≡ id → c.phase ≡ Lost) (live-is id) s.connections.all (one-found (is_live id) s.connections.all c there)

pub none-there : (s : State) (id : ℕ) → is_there id s.connections ≡ false → HasNone s id
unfolding is_there
none-there s id none = none-passes (has_number id) (λ (c : Connection). c.number ≡ id → ⊥) (λ c other is. let same = eq-eqb c.number id is in absurd cc) s.connections.all none

one-there : (s : State) (id : ℕ) → is_there id s.connections ≡ true → HasNone s id → ⊥
unfolding is_there
one-there s id one = one-passes (has_number id) (λ (c : Connection). c.number ≡ id → ⊥) (λ c same none. none (eqb-true c.number id same)) s.connections.all one

unsent-none : (number : ℕ) (e : Entry) → is_unsent number e ≡ false → e.number ≡ number → e.sent ≡ true
unsent-none number e none is = by_sent e.sent refl
  where
    by_sent : (b : Bool) → e.sent ≡ b → e.sent ≡ true
    by_sent true same = same
    by_sent false same =
        let both : (eqb e.number number && not e.sent) ≡ true = and_from (eqb e.number number) (not e.sent) (eq-eqb e.number number is) (ap not same) in
        absurd cc

unsent-one : (number : ℕ) (e : Entry) → is_unsent number e ≡ true → (e.number ≡ number → e.sent ≡ true) → ⊥
unsent-one number e one sent =
    let parts = and_parts (eqb e.number number) (not e.sent) one in
    let is : e.sent ≡ true = sent (eqb-true e.number number parts.0) in
    let none : e.sent ≡ false = not-true e.sent parts.1 in
    absurd cc

no-unsent : (s : State) (number : ℕ) → can_be_sent number s.ledger.forwards ≡ false → HasNoUnsent s number
unfolding can_be_sent
no-unsent s number none = none-passes (is_unsent number) (λ (e : Entry). e.number ≡ number → e.sent ≡ true) (unsent-none number) s.ledger.forwards.all none

an-unsent : (s : State) (number : ℕ) → can_be_sent number s.ledger.forwards ≡ true → HasNoUnsent s number → ⊥
unfolding can_be_sent
an-unsent s number one = one-passes (is_unsent number) (λ (e : Entry). e.number ≡ number → e.sent ≡ true) (unsent-one number) s.ledger.forwards.all one

-- ---- what an output says

abbrev fault_in : Output → Option CoreFault
fault_in (Refused fault) = Some fault
fault_in other = None

refused-is : (output : Output) (fault : CoreFault) → fault_in output ≡ Some fault → output ≡ Refused fault
refused-is output fault is = grind arith

-- the event is refused by this fault alone, or by none
data Case (s : State) (event : Event) (output : Output) : Type 0 where
  Accepted : fault_in output ≡ None → ((fault : CoreFault) → IsRefusedWith s event fault → ⊥) → Case s event output
  IsRefused : (fault : CoreFault) → fault_in output ≡ Some fault → IsRefusedWith s event fault → ((other : CoreFault) → IsRefusedWith s event other → other ≡ fault) → Case s event output

-- ---- openings

abbrev is_opening : Event → Bool
is_opening (Open now who) = true
is_opening other = false

opens-not : (event : Event) (now : ℕ) (who : Who) → is_opening event ≡ false → event ≡ Open now who → ⊥
opens-not event now who none is = let one : is_opening event ≡ true = ap is_opening is in absurd cc

only-gone : (s : State) (event : Event) → is_opening event ≡ false → (fault : CoreFault) → IsRefusedWith s event fault → fault ≡ Gone
only-gone s event none Full r = absurd (opens-not event r.now r.who none r.opens)
only-gone s event none Spent r = absurd (opens-not event r.now r.who none r.opens)
only-gone s event none Gone r = refl
only-gone s event none NoMemory r = absurd r
only-gone s event none BadLimits r = absurd r

goes : (s : State) (event : Event) (output : Output) → is_opening event ≡ false → fault_in output ≡ None → (IsGone s event → ⊥) → Case s event output
goes s event output none shows not_gone = Accepted shows (λ fault r. not_gone (subst (IsRefusedWith s event) (only-gone s event none fault r) r))

gone : (s : State) (event : Event) (output : Output) → is_opening event ≡ false → fault_in output ≡ Some Gone → IsGone s event → Case s event output
gone s event output none shows is = IsRefused Gone shows is (only-gone s event none)

open-case : (s : State) (now : ℕ) (who : Who) → Case s (Open now who) (step s (Open now who)).0
unfolding step open_connection open_in_table number_for
open-case s now who = by_room (ltb (length s.connections.all) s.setting.limits.conns) refl
  where
    shown : Result ℕ CoreFault → Output
    shown r = (output_or Opened (unless_refused now s (opening_as who (max s.clock now) s.connections r))).0

    only-full : s.setting.limits.conns ≤ length s.connections.all → (other : CoreFault) → IsRefusedWith s (Open now who) other → other ≡ Full
    only-full full Full r = refl
    only-full full Spent r = absurd (omega (arith, full, r.room))
    only-full full Gone r = absurd r
    only-full full NoMemory r = absurd r
    only-full full BadLimits r = absurd r

    only-spent : length s.connections.all < s.setting.limits.conns → (other : CoreFault) → IsRefusedWith s (Open now who) other → other ≡ Spent
    only-spent room Full r = absurd (omega (arith, room, r.full))
    only-spent room Spent r = refl
    only-spent room Gone r = absurd r
    only-spent room NoMemory r = absurd r
    only-spent room BadLimits r = absurd r

    never : length s.connections.all < s.setting.limits.conns → ltb greatest_number s.connections.next ≡ false → (fault : CoreFault) → IsRefusedWith s (Open now who) fault → ⊥
    never room few Full r = omega (arith, room, r.full)
    never room few Spent r = let above = lt-ltb greatest_number s.connections.next r.spent in absurd cc
    never room few Gone r = r
    never room few NoMemory r = r
    never room few BadLimits r = r

    by_number : length s.connections.all < s.setting.limits.conns → (b : Bool) → ltb greatest_number s.connections.next ≡ b → Case s (Open now who) (shown (cond b (Err Spent) (Ok s.connections.next)))
    by_number room true e = IsRefused Spent refl (record { now = now; who = who; opens = refl; room = room; spent = ltb-true greatest_number s.connections.next e }) (only-spent room)
    by_number room false e = Accepted refl (never room e)

    by_room : (b : Bool) → ltb (length s.connections.all) s.setting.limits.conns ≡ b
        → Case s (Open now who) (shown (cond (not b) (Err Full) (cond (ltb greatest_number s.connections.next) (Err Spent) (Ok s.connections.next))))
    by_room true e = by_number (ltb-true _ _ e) (ltb greatest_number s.connections.next) refl
    by_room false e =
        let full : s.setting.limits.conns ≤ length s.connections.all = ltb-false _ _ e in
        IsRefused Full refl (record { now = now; who = who; opens = refl; full = full }) (only-full full)

-- ---- events of connections and forwarded calls

shows-taken : (t : Taken) → fault_in (show_taken t) ≡ None
shows-taken t = elim (t.lost) as (λ b. fault_in (cond b (TookAndLost t.count) (Took t.count)) ≡ None) [ true ↦ refl | false ↦ refl ]

bytes-case : (s : State) (now id : ℕ) (piece : List ℕ) (r : Result Taken CoreFault × State) → Arriving s now id piece r → Case s (Bytes now id piece) (output_or show_taken r).0
bytes-case s now id piece r (NotThere none is) = rw is (gone s (Bytes now id piece) (Refused Gone) refl refl (no-live s id none))
bytes-case s now id piece r (NotTaken c there why is) = rw is (goes s (Bytes now id piece) _ refl refl (a-live s id c there))
bytes-case s now id piece r (ReadOn c fed there feeds none is) = rw is (goes s (Bytes now id piece) _ refl refl (a-live s id c there))
bytes-case s now id piece r (Ended c fed n there feeds some is) = rw is (goes s (Bytes now id piece) _ refl (shows-taken _) (a-live s id c there))

pending-case : (s : State) (id : ℕ) (o : Option Connection) → live_connection id s.connections.all ≡ o → Case s (Pending id) (output_or IsPending (pending_on o, s)).0
pending-case s id None none = gone s (Pending id) _ refl refl (no-live s id none)
pending-case s id (Some c) there = goes s (Pending id) _ refl refl (a-live s id c there)

gave-case : (s : State) (now id n : ℕ) (o : Option Connection) → live_connection id s.connections.all ≡ o
    → Case s (Gave now id n) (cond (is_too_much n (pending_on o)) (TooMuch, s) (output_or show_done (unless_refused now s (on_found id (give (max s.clock now) n) s.connections o)))).0
gave-case s now id n None none = gone s (Gave now id n) _ refl refl (no-live s id none)
gave-case s now id n (Some c) there = by_test (is_too_much n (pending_on (Some c)))
  where
    by_test : (b : Bool) → Case s (Gave now id n) (cond b (TooMuch, s) (output_or show_done (unless_refused now s (on_found id (give (max s.clock now) n) s.connections (Some c))))).0
    by_test true = goes s (Gave now id n) _ refl refl (a-live s id c there)
    by_test false = goes s (Gave now id n) _ refl refl (a-live s id c there)

close-case : (s : State) (id : ℕ) (b : Bool) → is_there id s.connections ≡ b
    → Case s (Closed id) (output_or show_done (dropped_with s id (cond b (Ok tt, without_number id s.connections) (Err Gone, s.connections)))).0
close-case s id true one = goes s (Closed id) _ refl refl (one-there s id one)
close-case s id false none = gone s (Closed id) _ refl refl (none-there s id none)

sent-case : (s : State) (number : ℕ) (b : Bool) → can_be_sent number s.ledger.forwards ≡ b
    → Case s (Sent number) (output_or show_done (cond b (Ok tt, record s { ledger = call_sent number s.ledger }) (Err Gone, s))).0
sent-case s number true one = goes s (Sent number) _ refl refl (an-unsent s number one)
sent-case s number false none = gone s (Sent number) _ refl refl (no-unsent s number none)

shows-outcome : (r : Outcome × State) → fault_in (show_outcome r).0 ≡ None
shows-outcome r = grind arith

shows-end : (r : Option Told × State) → fault_in (show_end r).0 ≡ None
shows-end r = grind arith

shows-expired : (r : Expired × State) → fault_in (show_expired r).0 ≡ None
shows-expired r = grind arith

-- ---- all events

step-case : (s : State) (event : Event) → Case s event (step s event).0
unfolding step pending gave close_connection close_in_table datagram sent_call
step-case s (Open now who) = open-case s now who
step-case s (Bytes now id piece) = bytes-case s now id piece (bytes s now id piece) (arriving s now id piece)
step-case s (Pending id) = pending-case s id (live_connection id s.connections.all) refl
step-case s (Gave now id n) = gave-case s now id n (live_connection id s.connections.all) refl
step-case s (Closed id) = close-case s id (is_there id s.connections) refl
step-case s NextLost = goes s NextLost _ refl refl (λ r. r)
step-case s (Datagram now who content) = goes s (Datagram now who content) _ refl (shows-outcome (datagram s now who content)) (λ r. r)
step-case s Unsent = goes s Unsent _ refl refl (λ r. r)
step-case s (Sent number) = sent-case s number (can_be_sent number s.ledger.forwards) refl
step-case s (Forward now from message) = goes s (Forward now from message) _ refl (shows-end (forward_reply s now from message)) (λ r. r)
step-case s (Expire now) = goes s (Expire now) _ refl (shows-expired (expire s now)) (λ r. r)
step-case s ZeroStats = goes s ZeroStats _ refl refl (λ r. r)

by-case : (s : State) (event : Event) (output : Output) (fault : CoreFault) → Case s event output → (output ≡ Refused fault) ↔ IsRefusedWith s event fault
by-case s event output fault (Accepted shows never) =
    (λ is. let some : fault_in output ≡ Some fault = ap fault_in is in absurd cc, λ r. absurd (never fault r))
by-case s event output fault (IsRefused one shows holds only) = (
  λ is. let some : fault_in output ≡ Some fault = ap fault_in is in let same : one ≡ fault = cc in subst (IsRefusedWith s event) same holds,
  λ r. refused-is output fault (shows ∙ ap (λ (f : CoreFault). Some f) (sym (only fault r))),
)

pub refusals_are_the_named_ones : RefusalsAreTheNamedOnes
refusals_are_the_named_ones s event fault = by-case s event (step s event).0 fault (step-case s event)

-- ---- more than is pending

abbrev is_excess : Output → Bool
is_excess TooMuch = true
is_excess other = false

excess-is : (output : Output) → is_excess output ≡ true → output ≡ TooMuch
excess-is output is = grind arith

abbrev is_gift : Event → Bool
is_gift (Gave now id n) = true
is_gift other = false

-- no other event shows it
other-event : (s : State) (event : Event) → is_gift event ≡ false → is_excess (step s event).0 ≡ false → ((step s event).0 ≡ TooMuch) ↔ GivesTooMuch s event
other-event s event none shows = (
  λ is. let one : is_excess (step s event).0 ≡ true = ap is_excess is in absurd cc,
  λ r. let one : is_gift event ≡ true = ap is_gift r.gives in absurd cc,
)

plain-taken : (t : Taken) → is_excess (show_taken t) ≡ false
plain-taken t = elim (t.lost) as (λ b. is_excess (cond b (TookAndLost t.count) (Took t.count)) ≡ false) [ true ↦ refl | false ↦ refl ]

plain-or : {A : Type 0} (show : A → Output) → ((x : A) → is_excess (show x) ≡ false) → (r : Result A CoreFault × State) → is_excess (output_or show r).0 ≡ false
plain-or show plain r = grind arith

plain-outcome : (r : Outcome × State) → is_excess (show_outcome r).0 ≡ false
plain-outcome r = grind arith

plain-end : (r : Option Told × State) → is_excess (show_end r).0 ≡ false
plain-end r = grind arith

plain-expired : (r : Expired × State) → is_excess (show_expired r).0 ≡ false
plain-expired r = grind arith

gift-number : {a b c d e f : ℕ} → Gave a b c ≡ Gave d e f → (b ≡ e) × (c ≡ f)
gift-number is = (cc, cc)

gave-excess : (s : State) (now id n : ℕ) (o : Option Connection) → live_connection id s.connections.all ≡ o
    → ((cond (is_too_much n (pending_on o)) (TooMuch, s) (output_or show_done (unless_refused now s (on_found id (give (max s.clock now) n) s.connections o)))).0 ≡ TooMuch) ↔ GivesTooMuch s (Gave now id n)
gave-excess s now id n None none = (
  λ is. absurd cc,
  λ r.
      let number = (gift-number r.gives).0 in
      let there : live_connection id s.connections.all ≡ Some r.connection = ap (λ (k : ℕ). live_connection k s.connections.all) number ∙ r.live in
      absurd cc,
)
gave-excess s now id n (Some c) there = by_test (ltb (length (pending_in c.phase)) n) refl
  where
    by_test : (b : Bool) → ltb (length (pending_in c.phase)) n ≡ b
        → ((cond b (TooMuch, s) (output_or show_done (unless_refused now s (on_found id (give (max s.clock now) n) s.connections (Some c))))).0 ≡ TooMuch) ↔ GivesTooMuch s (Gave now id n)
    by_test true e = (
      λ is. record { now = now; id = id; n = n; gives = refl; connection = c; live = there; more = ltb-true (length (pending_in c.phase)) n e },
      λ r. refl,
    )
    by_test false e = (
      λ is. absurd cc,
      λ r.
          let same = gift-number r.gives in
          let found : Some c ≡ Some r.connection = sym there ∙ ap (λ (k : ℕ). live_connection k s.connections.all) same.0 ∙ r.live in
          let one : c ≡ r.connection = cc in
          let few = ltb-false (length (pending_in c.phase)) n e in
          let pending_same : length (pending_in c.phase) ≡ length (pending_in r.connection.phase) = ap (λ (x : Connection). length (pending_in x.phase)) one in
          absurd (omega (arith, few, same.1, r.more, pending_same)),
    )

pub too_much_is_the_named_one : TooMuchIsTheNamedOne
unfolding step pending gave datagram
too_much_is_the_named_one s (Open now who) = other-event s (Open now who) refl (plain-or Opened (λ id. refl) (open_connection s now who))
too_much_is_the_named_one s (Bytes now id piece) = other-event s (Bytes now id piece) refl (plain-or show_taken plain-taken (bytes s now id piece))
too_much_is_the_named_one s (Pending id) = other-event s (Pending id) refl (plain-or IsPending (λ bytes. refl) (pending s id, s))
too_much_is_the_named_one s (Gave now id n) = gave-excess s now id n (live_connection id s.connections.all) refl
too_much_is_the_named_one s (Closed id) = other-event s (Closed id) refl (plain-or show_done (λ u. refl) (close_connection s id))
too_much_is_the_named_one s NextLost = other-event s NextLost refl refl
too_much_is_the_named_one s (Datagram now who content) = other-event s (Datagram now who content) refl (plain-outcome (datagram s now who content))
too_much_is_the_named_one s Unsent = other-event s Unsent refl refl
too_much_is_the_named_one s (Sent number) = other-event s (Sent number) refl (plain-or show_done (λ u. refl) (sent_call s number))
too_much_is_the_named_one s (Forward now from message) = other-event s (Forward now from message) refl (plain-end (forward_reply s now from message))
too_much_is_the_named_one s (Expire now) = other-event s (Expire now) refl (plain-expired (expire s now))
too_much_is_the_named_one s ZeroStats = other-event s ZeroStats refl refl
