-- What the meter of the daemon's core counts is paid by the events that are handed in, and by the daemon's looks.
use Rattle.std.specs.Prelude.{OnOk, OnErr}
use Rattle.std.proofs.Common.{◌≡◌, ◌<◌, ◌≤◌, ◌+◌, ◌*◌, ◌/◌, ℕ, zero, suc, Bool, true, false, cond, eqb, List, [], ◌∷◌, ◌++◌, length, drop, Option, Some, None, Result, Ok, Err, refl, sym, ap, subst, ◌∙◌, inl, inr, arith}
use Rattle.std.proofs.Math.Logic.{∥∥₁_elim}
use Rattle.std.proofs.Math.Nat.{mul-le-mul_left, mul-le-mul_right, div-le_of_le-mul}
use Rattle.std.proofs.lemmas.Bool.{cond-false}
use Rattle.std.proofs.lemmas.List.{length-append, length-drop, length-take}
use Rattle.rb_xdr.specs.declared.tally.Tally.{Tally}
use Rattle.rb_xdr.specs.Meter.{Meter, PaysAtMost}
use Rattle.rb_xdr.specs.Ordered.{looks as search}
use Rattle.rb_forward.specs.Forwards.{Unsent as UnsentCall}
use Rattle.rb_forward.specs.Costs.{sent_cost}
use Rattle.rb_answers.specs.declared.listener.Listener.{Listener}
use Rattle.rb_model.specs.declared.types.CoreFault.{CoreFault}
use Rattle.rb_model.specs.declared.types.Given.{Given}
use Rattle.rb_model.specs.declared.types.Limits.{Limits}
use Rattle.rb_model.specs.declared.types.Taken.{Taken}
use Rattle.rb_model.specs.State.{Setting, State, Owed, Phase, Connection, opening, are_good}
use Rattle.rb_model.specs.State.Phase.{Idle, Reading, Owing, Awaiting, Lost}
use Rattle.rb_model.specs.Calls.{longest_reply}
use Rattle.rb_model.specs.Bounds.{bytes_in}
use Rattle.rb_model.specs.Connections.{longest_fragment, pending_of, pending_in, live_connection}
use Rattle.rb_model.specs.Costs.{walked, listed_cost, find_cost, recount_cost, gives_list, event_cost}
use Rattle.rb_model.specs.Gives.{given_in, bytes_given, write_into, written_into_cost, write_into_cost, cut_from, pieces_of, piece_events, first_piece}
use Rattle.rb_model.specs.Sessions.{pending_bytes}
use Rattle.rb_model.specs.Step.{Event, Output, bytes, pending, pending_on, step, run, after, unsent_call, IsReached}
use Rattle.rb_model.specs.Step.Event.{Bytes, Pending, Gave, Unsent, Sent}
use Rattle.rb_model.specs.WholeRuns.{args_waiting, total_in, total_out, bytes_reported, event_allowance}
use Rattle.rb_model.proofs.Gives.{count_pending}
use Rattle.rb_laws.proofs.EntriesKept.{after-setting}
use Rattle.rb_laws.proofs.Ledgers.{step-setting}
use Rattle.rb_laws.proofs.StepBounds.{conns_few, rows_looks}
use Rattle.rb_laws.proofs.Waiting.{waiting, give-waits, pending-waits}
use Rattle.rb_laws.proofs.WholeRuns.{bytes_paid, events_are_paid_ahead, paid_ahead, total-append}
use Rattle.rb_lines.specs.Entries.{options_text}
use Rattle.rb_lines.specs.Starts.{MeetsLaws}
use Rattle.rb_lines.specs.Tapes.{Tape, Records, empty_tape}
use Rattle.rb_connections.specs.Costs.{look_cost}
use Rattle.rb_connections.specs.Giving.{whole_cost}
use Rattle.rb_connections.specs.Slots.{Acts, Shows}
use Rattle.rb_core.specs.CallCosts.{deadline_cost, making_cost}
use Rattle.rb_core.specs.HeldBytes.{IsListener}
use Rattle.rb_core.specs.Looks.{slot_count}
use Rattle.rb_core.specs.Metered.{Metered}
use Rattle.rb_core.specs.MeteredCalls.{Priced, reply_look}
use Rattle.rb_core.specs.StandsFor.{CoreView, StandsFor}
use Rattle.rb_core.proofs.Begun.{with_steps_before, stands_begun}
use Rattle.rb_core.proofs.Spending.{connections_held, rows_held}
use Rattle.rb_engine.specs.Writing.{row_look}
use Rattle.rb_engine.specs.Counting.{look_allowance, most_counted, IsPaid}
use Rattle.rb_engine.specs.Recording.{given_events, exchange_events, give_events, send_events_of, send_events}
use Rattle.rb_engine.specs.Served.{IsServed}
use Rattle.rb_engine.proofs.Reached.{look_output, GoesOn, served_on, still_served, new_served, looked_goes}
use Rattle.rb_engine.proofs.Exchanges.{Exchanged, given_of, bytes_state, nonzero}
use Rattle.rb_engine.proofs.Pieces.{some_fits, some_first}
use mathlib.Core.Bool.{true≢false}

pub served_of : (core : Metered) (tape : Tape) (looks : ℕ) → ∥ IsPaid core tape looks ∥₁ → ∥ IsServed core.core tape ∥₁
served_of core tape looks held = ∥∥₁_elim held squash₁ (λ h. ∣ h.served ∣₁)

-- ---- a run that goes on

-- From a state the count goes up by no more than what these events and this many looks may take, and those pay ahead for the
-- bytes that wait after them.
abbrev pub ArePaid : State → List Event → ℕ → ℕ → ℕ → Type 0
ArePaid s events looks before now =
    now + 2 * waiting (after s events)
    ≤ before + 2 * waiting s + 16 * (total_in events (run s events) + total_out events (run s events)) + length events * event_allowance s.setting.limits
    + looks * look_allowance s.setting.limits

-- the same from each state that a run reaches and that the core stood for
abbrev pub PaidFor : (State → List Event) → ℕ → CoreView → Meter → Meter → Type 0
PaidFor events looks core before now =
    (s : State) → StandsFor core s → IsReached s → are_good s.setting.limits s.setting.listener ≡ true → ArePaid s (events s) looks before.steps now.steps

sums : (old new first last made in0 in1 ins out0 out1 outs m n count e looks more l : ℕ) → ins ≡ in0 + in1 → outs ≡ out0 + out1 → count ≡ m + n
    → old + 2 * first ≤ made + (16 * (in0 + out0 + 0) + m * e) + looks * l → new + 2 * last ≤ old + 2 * first + 16 * (in1 + out1) + n * e + more * l
    → new + 2 * last ≤ made + (16 * (ins + outs + 0) + count * e) + (looks + more) * l
sums old new first last made in0 in1 ins out0 out1 outs m n count e looks more l ins_are outs_are count_is had paid = rw (ins_are, outs_are, count_is) (omega (arith, had, paid))

module _ (old new : Metered) (before later : Tape) (looks more : ℕ) (events : State → List Event) where
  paid_more : (on : GoesOn old.core new.core before later events) (h : IsPaid old before looks) → PaidFor events more old.core old.meter new.meter
      → new.meter.steps + 2 * args_waiting (after h.served.state (events h.served.state)).connections.all ≤ most_counted (served_on old.core new.core before later events on h.served).reached (looks + more)
  paid_more on h pays =
      let s : State = h.served.state in
      let r : IsReached s = h.served.reached in
      let first : State = opening r.limits r.listener r.first_xid r.now in
      let limits : s.setting.limits ≡ r.limits = ap (λ (t : State). t.setting.limits) r.is ∙ ap (λ (x : Setting). x.limits) (after-setting first r.events) in
      let ins : total_in (r.events ++ events s) (run first (r.events ++ events s)) ≡ total_in r.events (run first r.events) + total_in (events s) (run s (events s)) =
      total-append bytes_in first r.events (events s) ∙ ap (λ (t : State). total_in r.events (run first r.events) + total_in (events s) (run t (events s))) (sym r.is) in
      let outs : total_out (r.events ++ events s) (run first (r.events ++ events s)) ≡ total_out r.events (run first r.events) + total_out (events s) (run s (events s)) =
      total-append bytes_reported first r.events (events s) ∙ ap (λ (t : State). total_out r.events (run first r.events) + total_out (events s) (run t (events s))) (sym r.is) in
      let paid : new.meter.steps + 2 * waiting (after s (events s))
      ≤ old.meter.steps + 2 * waiting s + 16 * (total_in (events s) (run s (events s)) + total_out (events s) (run s (events s))) + length (events s) * event_allowance r.limits + more * look_allowance r.limits =
      subst (λ (l : Limits). new.meter.steps + 2 * waiting (after s (events s))
      ≤ old.meter.steps + 2 * waiting s + 16 * (total_in (events s) (run s (events s)) + total_out (events s) (run s (events s))) + length (events s) * event_allowance l + more * look_allowance l) limits
      (pays s h.served.stands (is_reached s h.served) h.served.good) in
      sums old.meter.steps new.meter.steps (waiting s) (waiting (after s (events s))) (making_cost r.limits r.listener)
      _ _ _ _ _ _ (length r.events) (length (events s)) _ (event_allowance r.limits) looks more (look_allowance r.limits) ins outs (length-append r.events (events s)) h.paid paid
    where
      is_reached : (s : State) (h : IsServed old.core before) → IsReached h.state
      is_reached s h = h.reached

  pub paid_on : (now : ℕ) → ∥ GoesOn old.core new.core before later events ∥₁ → now ≡ looks + more → PaidFor events more old.core old.meter new.meter → ∥ IsPaid old before looks ∥₁ → ∥ IsPaid new later now ∥₁
  paid_on now goes count pays held =
      ∥∥₁_elim goes squash₁ (λ on. ∥∥₁_elim held squash₁ (λ h.
      subst (λ (n : ℕ). ∥ IsPaid new later n ∥₁) (sym count)
      ∣ record { served = served_on old.core new.core before later events on h.served; paid = paid_more on h pays } ∣₁))

-- ---- at the start, and as what was recorded is written

pub new_paid : (core : Metered) (l : Limits) (h : Listener) (xid now limit looks : ℕ) (empty tape : Tape) → empty ≡ empty_tape limit → Records (options_text l h xid now ∷ []) empty tape → StandsFor core.core (opening l h xid now) → are_good l h ≡ true → IsListener h → MeetsLaws h limit
    → core.meter.steps ≤ making_cost l h → ∥ IsPaid core tape looks ∥₁
new_paid core l h xid now limit looks empty tape is records stands good listener begins few =
    ∣ record { served = new_served core.core l h xid now limit empty tape is records stands good listener begins; paid = omega (arith, few) } ∣₁

still_paid : (core : Metered) (before later : Tape) (looks : ℕ) → later.text ≡ before.text → later.limit ≡ before.limit → (later.is_on ≡ true → before.is_on ≡ true) → ∥ IsPaid core before looks ∥₁ → ∥ IsPaid core later looks ∥₁
still_paid core before later looks text limit on held =
    ∥∥₁_elim held squash₁ (λ h. ∣ record { served = still_served core.core before later text limit on h.served; paid = h.paid } ∣₁)

-- what was recorded was written out, or that failed
pub written_paid : {E : Type 0} (core : Metered) (before later : Tape) (looks n : ℕ) (r : Result (Unit {0}) E) → OnOk r (later ≡ record before { written = n }) → OnErr r (later ≡ record before { is_on = false }) → ∥ IsPaid core before looks ∥₁ → ∥ IsPaid core later looks ∥₁
written_paid core before later looks n (Ok done) same failed =
    still_paid core before later looks (ap (λ (t : Tape). t.text) same) (ap (λ (t : Tape). t.limit) same) (λ on. sym (ap (λ (t : Tape). t.is_on) same) ∙ on)
written_paid core before later looks n (Err error) written same =
    still_paid core before later looks (ap (λ (t : Tape). t.text) same) (ap (λ (t : Tape). t.limit) same) (λ on. absurd (true≢false (sym on ∙ ap (λ (t : Tape). t.is_on) same)))

-- ---- one event

event_paid : (event : Event) (old new : Metered) → Priced event old new → PaidFor (λ s. event ∷ []) 0 old.core old.meter new.meter
event_paid event old new priced s h reached good = omega (arith, (priced s h).steps, events_are_paid_ahead s reached good event)

pub paid_event : (event : Event) (old new : Metered) (before later : Tape) (looks : ℕ) → ∥ GoesOn old.core new.core before later (λ s. event ∷ []) ∥₁ → Priced event old new → ∥ IsPaid old before looks ∥₁ → ∥ IsPaid new later looks ∥₁
paid_event event old new before later looks goes priced =
    paid_on old new before later looks 0 (λ s. event ∷ []) looks goes (omega arith) (event_paid event old new priced)

-- ---- one look

abbrev pub IsLook : CoreView → ℕ → Type 0
IsLook core most = (s : State) → StandsFor core s → IsReached s → are_good s.setting.limits s.setting.listener ≡ true → most ≤ look_allowance s.setting.limits

pub paid_look : (old new : Metered) (tape : Tape) (n most looks now : ℕ) → new.core ≡ with_steps_before old.core n → PaysAtMost old.meter new.meter most → IsLook old.core most → now ≡ looks + 1 → ∥ IsPaid old tape looks ∥₁ → ∥ IsPaid new tape now ∥₁
paid_look old new tape n most looks now is pays few count held =
    paid_on old new tape tape looks 1 (λ s. []) now (looked_goes old.core new.core n tape is (served_of old tape looks held)) count
    (λ s h reached good. omega (arith, pays.steps, few s h reached good)) held

pub raised : (old new : Tally) (by : ℕ) → new ≡ record old { steps = old.steps + by } → new.steps ≡ old.steps + by
raised old new by is = ap (λ (tally : Tally). tally.steps) is

pub deadline_fits : (core : CoreView) → IsLook core (deadline_cost core)
deadline_fits core s h reached good = omega (arith, connections_held core s h, h.forwards, conns_few s reached good)

pub reply_fits : (metered : Metered) → IsLook metered.core (reply_look metered)
reply_fits metered s h reached good = omega (arith, h.short)

pub rows_fit : (core : CoreView) → IsLook core (2 * slot_count core + 1)
rows_fit core s h reached good = omega (arith, rows_held core s h)

pub change_fits : (core : CoreView) → IsLook core (5 * row_look core)
change_fits core s h reached good = omega (arith, ap search h.limit, rows_looks s reached good)

-- ---- bytes that came, and a reply that is given at once

whole_few : (room n : ℕ) → whole_cost room n ≤ n + 2
whole_few room n = by_room (eqb room 0)
  where
    by_room : (none : Bool) → cond none 0 (n + 2) ≤ n + 2
    by_room true = omega arith
    by_room false = omega arith

module _ (now id room n : ℕ) (piece given : List ℕ) (r : Result Taken CoreFault) (old new : CoreView) (h : Exchanged now id room n piece given r old new) where
  pub exchange_paid : (size : ℕ) (a b : Meter) → ((s : State) → StandsFor old s → PaysAtMost a b (event_cost s (Bytes now id piece) + whole_cost size n)) → PaidFor (λ s. exchange_events now id piece n) 0 old a b
  exchange_paid size a b pays s stands reached good =
      let g = given_of now id room n piece given r old new h s stands in
      let cost = (pays s stands).steps in
      let few = whole_few size n in
      let paid = bytes_paid s reached good now id piece in
      let taken : State = (step s (Bytes now id piece)).1 in
      let looked : State = (step taken (Pending id)).1 in
      elim g.some [
        | inl none ↦ subst (λ (k : ℕ). ArePaid s (exchange_events now id piece k) 0 a.steps b.steps) (sym none) (omega (arith, cost, few, paid, none))
        | inr some ↦
            let there : pending taken id ≡ Ok given = ap (λ (t : State). pending t id) (bytes_state s now id piece) ∙ g.all some in
            let shown : bytes_reported (Pending id) (step taken (Pending id)).0 ≡ n = ap (λ (o : Output). bytes_reported (Pending id) o) (sym (look_output taken id (Ok given) there)) ∙ g.count in
            let all : ArePaid s (Bytes now id piece ∷ given_events now id n) 0 a.steps b.steps = omega (arith, cost, few, paid, shown, pending-waits taken id, give-waits looked now id n) in
            subst (λ (more : List Event). ArePaid s (Bytes now id piece ∷ more) 0 a.steps b.steps) (sym (cond-false _ _ _ (nonzero n some))) all
      ]

-- ---- what is given into a room

pending_most : (o : Owed) → length (pending_of o) ≤ longest_fragment
unfolding longest_fragment
pending_most o = omega (arith, count_pending o)

most_in : (phase : Phase) → length (pending_in phase) ≤ longest_fragment
most_in (Owing o) = pending_most o
most_in Idle = omega arith
most_in (Reading fed) = omega arith
most_in Awaiting = omega arith
most_in Lost = omega arith

most_on : (c : Option Connection) → length (pending_bytes (pending_on c)) ≤ longest_fragment
most_on None = omega arith
most_on (Some c) = most_in c.phase

most_first : (s : State) (id : ℕ) → first_piece s id ≤ longest_fragment
unfolding pending
most_first s id = most_on (live_connection id s.connections.all)

-- there is a piece for each 1,028 bytes
cut_covers : (k n : ℕ) (bytes : List ℕ) → 0 < n → n ≤ longest_fragment → length bytes ≤ k → length bytes ≤ longest_fragment * length (cut_from k n bytes)
unfolding longest_fragment
cut_covers zero n bytes some few less = omega (arith, less)
cut_covers (suc k) n [] some few less = omega arith
cut_covers (suc k) n (byte ∷ bytes) some few less =
    let size = length-drop n (byte ∷ bytes) in
    let rest = cut_covers k longest_fragment (drop n (byte ∷ bytes)) some_fits (omega arith) (omega (arith, size, some, less)) in
    omega (arith, size, few, rest)

covers : (s : State) (id : ℕ) (bytes : List ℕ) → (0 < length bytes → 0 < first_piece s id) → length bytes ≤ longest_fragment * length (pieces_of (first_piece s id) bytes)
unfolding pieces_of
covers s id [] some = omega arith
covers s id (byte ∷ bytes) some = cut_covers (length (byte ∷ bytes)) (first_piece s id) (byte ∷ bytes) (some (omega arith)) (most_first s id) (omega arith)

two_events : (now id : ℕ) (pieces : List (List ℕ)) → length (piece_events now id pieces) ≡ 2 * length pieces
two_events now id [] = omega arith
two_events now id (piece ∷ pieces) = omega (arith, two_events now id pieces)

pieces_wait : (s : State) (now id : ℕ) (pieces : List (List ℕ)) → waiting (after s (piece_events now id pieces)) ≤ waiting s
pieces_wait s now id [] = omega arith
pieces_wait s now id (piece ∷ pieces) =
    let looked : State = (step s (Pending id)).1 in
    let given : State = (step looked (Gave now id (length piece))).1 in
    omega (arith, pending-waits s id, give-waits looked now id (length piece), pieces_wait given now id pieces)

walked_few : (walks : Bool) (rows : ℕ) → walked walks rows ≤ rows
walked_few true rows = omega arith
walked_few false rows = omega arith

into_most : (connections rows n : ℕ) (c : Option Connection) → write_into_cost connections rows n c ≤ find_cost connections + written_into_cost rows n + recount_cost
into_most connections rows n None = omega arith
into_most connections rows n (Some c) =
    let few : listed_cost (walked (gives_list c) rows) ≤ listed_cost rows = omega (arith, walked_few (gives_list c) rows) in
    omega (arith, mul-le-mul_left (n / longest_fragment + 1) few)

-- the look at what may be given, and what is given then
giving_sum : (a mid b w v c r n k parts most e l ins outs count x : ℕ) → count ≡ 2 * k → n ≤ 1028 * k → parts ≤ k → x ≤ e → 1028 ≤ e → v ≤ w → mid ≤ a + (2 * c + 5) → most ≤ 2 * c + 4 + (n + 3 + (parts + 1) * x) + 4 → b ≤ mid + most → 4 * c + x + 16 ≤ l
    → b + 2 * v ≤ a + 2 * w + 16 * (ins + outs) + count * e + 1 * l
giving_sum a mid b w v c r n k parts most e l ins outs count x count_is enough few small large wait look cost gave fits =
    let each = mul-le-mul_right x few in
    let all = mul-le-mul_left k small in
    let bytes = mul-le-mul_left k large in
    rw count_is (omega (arith, enough, wait, look, cost, gave, fits, each, all, bytes))

into_some : (s : State) (now id room : ℕ) (r : Result (List ℕ) CoreFault) → r ≡ (write_into s now id room).0 → 0 < length (pending_bytes r) → 0 < first_piece s id
into_some s now id room (Ok bytes) gives some = some_first s now id room bytes gives some
into_some s now id room (Err fault) gives some = absurd (omega (arith, some))

pub into_paid : (now id room n : ℕ) (r : Result (List ℕ) CoreFault) (old new : CoreView) (a mid b : Meter) → n ≡ length (pending_bytes r) → Acts StandsFor (λ s. write_into s now id room) old new r → PaysAtMost a mid (look_cost old.connections + 1)
    → ((s : State) → StandsFor old s → PaysAtMost mid b (write_into_cost (length s.connections.all) s.setting.limits.rows n (live_connection id s.connections.all)))
    → PaidFor (λ s. give_events now id (pending_bytes r) s) 1 old a b
unfolding longest_fragment longest_reply
into_paid now id room n r old new a mid b count acts look pays s h reached good =
    let bytes : List ℕ = pending_bytes r in
    let pieces : List (List ℕ) = pieces_of (first_piece s id) bytes in
    let enough : n ≤ 1028 * length pieces = omega (arith, count, covers s id bytes (into_some s now id room r (acts.gives s h))) in
    giving_sum a.steps mid.steps b.steps (waiting s) (waiting (after s (piece_events now id pieces))) (length s.connections.all) s.setting.limits.rows n (length pieces) (n / 1028)
    _ (event_allowance s.setting.limits) (look_allowance s.setting.limits) _ _ (length (piece_events now id pieces)) (listed_cost s.setting.limits.rows)
    (two_events now id pieces) enough (div-le_of_le-mul 1028 enough) (omega arith) (omega arith) (pieces_wait s now id pieces)
    (omega (arith, look.steps, connections_held old s h)) (into_most (length s.connections.all) s.setting.limits.rows n (live_connection id s.connections.all)) (pays s h).steps
    (omega (arith, conns_few s reached good))

-- no look was taken before
pub none_paid : (meter : Meter) (most : ℕ) → PaysAtMost meter meter most
none_paid meter most = record { rises = omega arith; steps = omega arith; tie = refl }

-- as many bytes are in the room as the result says
pub count_is : (room : List ℕ) (result : Result Given CoreFault) → given_in result ≤ length room → given_in result ≡ length (pending_bytes (bytes_given room result))
count_is room (Ok given) within = omega (arith, within, length-take given.count room)
count_is room (Err fault) within = refl

-- ---- a call that is sent

pub sent_paid : (old mid new : Metered) (n : ℕ) (unsent : UnsentCall) → mid.core ≡ with_steps_before old.core n → Shows StandsFor unsent_call old.core (Some unsent) → Priced Unsent old mid → Priced (Sent unsent.number) mid new → PaidFor send_events 0 old.core old.meter new.meter
sent_paid old mid new n unsent is shows look priced s h reached good =
    let same : sent_cost (step s Unsent).1.setting.limits.forwards ≡ sent_cost s.setting.limits.forwards = ap (λ (x : Setting). sent_cost x.limits.forwards) (step-setting s Unsent) in
    subst (λ (u : Option UnsentCall). ArePaid s (send_events_of u) 0 old.meter.steps new.meter.steps) (shows s h)
    (omega (arith, (look s h).steps, (priced s (stands_begun old.core mid.core n is s h)).steps, same, paid_ahead s reached good (Unsent ∷ Sent unsent.number ∷ [])))
