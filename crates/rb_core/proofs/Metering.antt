-- What the calls of a core with its meter count: at most what their events cost, and within the bounds by the limits.
use Rattle.std.proofs.Common.{◌≡◌, ◌≤◌, ◌+◌, ◌/◌, ℕ, Bool, true, false, not, List, length, Option, Some, None, Result, Ok, refl, sym, ap, subst, ◌∙◌, arith}
use Rattle.std.specs.Prelude.{IsTrue, IsErrOf}
use Rattle.std.proofs.Math.Nat.{mul-le-mul_left}
use Rattle.rb_xdr.specs.Meter.{Meter, Pays, PaysAtMost}
use Rattle.rb_registry.specs.Registry.{slots_of}
use Rattle.rb_forward.specs.declared.types.Unsent.{Unsent as UnsentCall}
use Rattle.rb_forward.specs.Costs.{sent_cost, unsent_cost}
use Rattle.rb_forward.specs.Table.{count_lent, plain_unsent}
use Rattle.rb_address.specs.declared.peer.Peer.{Peer}
use Rattle.rb_address.specs.declared.who.Who.{Who}
use Rattle.rb_answers.specs.Callers.{may_register}
use Rattle.rb_model.specs.declared.types.CoreFault.{CoreFault}
use Rattle.rb_model.specs.declared.types.CoreFault.TheVariants.{BadLimits}
use Rattle.rb_model.specs.declared.types.Expired.{Expired}
use Rattle.rb_model.specs.declared.types.Given.{Given}
use Rattle.rb_rpc.specs.declared.standing.Standing.{Standing}
use Rattle.rb_model.specs.declared.types.Taken.{Taken}
use Rattle.rb_model.specs.declared.types.Told.{Told}
use Rattle.rb_model.specs.State.{State, Setting, Connection}
use Rattle.rb_model.specs.Calls.{Outcome, message_of}
use Rattle.rb_model.specs.Connections.{longest_fragment, live_connection}
use Rattle.rb_model.specs.Costs.{find_cost, sizes_for, datagram_cost, bytes_cost, gave_cost, close_cost, ended_cost, listed_cost, recount_cost, walked, gives_list, pending_cost, unsent_count, event_cost}
use Rattle.rb_model.specs.Ending.{forward_reply, expire}
use Rattle.rb_model.specs.Exchanges.{exchange}
use Rattle.rb_model.specs.Gives.{write_into_cost, written_into_cost, given_in}
use Rattle.rb_model.specs.Standings.{without_standing}
use Rattle.rb_model.specs.Step.{step, datagram, bytes, unsent_call, show_taken}
use Rattle.rb_model.specs.Step.Event.{Bytes, Pending, Gave, Closed, NextLost, Datagram, Unsent, Sent, Forward, Expire}
use Rattle.rb_model.proofs.CostBounds.{walked_more}
use Rattle.rb_laws.proofs.EntriesKept.{step-follows}
use Rattle.rb_connections.specs.Costs.{look_cost, slot_count}
use Rattle.rb_connections.specs.Slots.{Acts, Shows}
use Rattle.rb_core.specs.CallCosts.{announced_in, may_register_in, sizes_of, PaysForDatagram, PaysToGive, PaysToWriteInto}
use Rattle.rb_core.specs.Metered.{Metered, StandsForReached}
use Rattle.rb_core.specs.MeteredCalls.{Priced, PricedWithLook, PricedGiving, reply_look, StepsAtMost, StepsWithin, GivesWithin, StaysCheapIfQuiet}
use Rattle.rb_core.specs.StandsFor.{CoreView, StandsFor}
use Rattle.rb_core.proofs.CallBounds.{kept_setting, cheap_within, StaysWithinSteps}
use Rattle.rb_core.proofs.Outputs.{same_state, datagram_shown}
use Rattle.rb_core.proofs.Prices.{by_count, sizes_held, sizes_stay, close_paid, gave_paid, ended_paid, datagram_paid, bytes_paid}
use Rattle.rb_core.proofs.Reached.{paid_if_reached, within, few_slots, end_state, expired_state}
use Rattle.rb_core.proofs.Spending.{at_most, connections_held, rows_held}
use Rattle.rb_core.proofs.WritesInto.{into_within}

-- limits that are not refused are good
pub good_from : {T : Type 0} (good : Bool) (made : T) → (IsTrue (not good) → IsErrOf (Ok made) BadLimits) → good ≡ true
good_from true made kept = refl
good_from false made kept = let wrong = kept refl in absurd cc

-- exactly so many are no more
pub pays_exactly : (a b : Meter) (n : ℕ) → Pays a b n → PaysAtMost a b n
pays_exactly a b n pays =
    let steps = ap (λ (m : Meter). m.steps) pays in
    record { rises = omega (arith, steps); steps = omega (arith, steps); tie = ap (λ (m : Meter). m.tie) pays }

pub reply_within : (core : CoreView) (a b : Meter) (given : ℕ) → given ≡ length core.reply → PaysAtMost a b (1 + length core.reply) → StaysWithinSteps core 0 given a b
reply_within core a b given same pays = λ s h reached. at_most a b (1 + length core.reply) _ (omega (arith, same)) pays

-- with a look of this many steps
looked : (a b : Meter) (most look : ℕ) → PaysAtMost a b most → PaysAtMost a (record b { steps = b.steps + look }) (most + look)
looked a b most look pays = record { rises = omega (arith, pays.rises); steps = omega (arith, pays.steps); tie = pays.tie }

-- whether the caller may register is known by the state
registers_alike : (held : CoreView) (s : State) → StandsFor held s → (who : Who) → may_register_in held who ≡ may_register s.setting.listener.announced who
registers_alike held s h who = ap (λ (x : Setting). may_register x.listener.announced who) h.setting

-- as many bytes as the call has that must be sent
lent_count : (lent : Option UnsentCall) → count_lent lent ≡ unsent_count (plain_unsent lent)
lent_count None = refl
lent_count (Some unsent) = refl

-- more rows may be there
into_paid : (a b : Meter) (n slots rows connections limit : ℕ) → slots ≡ connections → rows ≤ limit → (m : Option Connection) → PaysAtMost a b (write_into_cost slots rows n m) → PaysAtMost a b (write_into_cost connections limit n m)
unfolding longest_fragment
into_paid a b n slots rows connections limit same few None pays = at_most a b (find_cost slots) (find_cost connections) (omega (arith, same)) pays
into_paid a b n slots rows connections limit same few (Some c) pays =
    let less : listed_cost (walked (gives_list c) rows) ≤ listed_cost (walked (gives_list c) limit) = omega (arith, walked_more (gives_list c) rows limit few) in
    at_most a b (find_cost slots + written_into_cost (walked (gives_list c) rows) n + recount_cost) (find_cost connections + written_into_cost (walked (gives_list c) limit) n + recount_cost)
    (omega (arith, same, mul-le-mul_left (n / 1028 + 1) less)) pays

-- `inside` is the core and its meter before a call, by their other names
module _ (inside old : Metered) (is : inside ≡ old) (new : Metered) where
  pub bounded : (taken given : ℕ) → ∥ StandsForReached inside.core ∥₁ → StaysWithinSteps inside.core taken given inside.meter new.meter → StepsWithin taken given old new
  bounded taken given reached stays = subst (λ (m : Metered). StepsWithin taken given m new) is (within inside.core inside.meter new.meter taken given reached stays)

  pub reply_paid : PaysAtMost inside.meter new.meter (1 + length inside.core.reply) → StepsAtMost (reply_look old) old new
  reply_paid cost = subst (λ (m : Metered). StepsAtMost (reply_look m) m new) is cost

  pub datagram_priced : (now : ℕ) (who : Who) (content : List ℕ) (given : Outcome) → Acts StandsFor (λ s. datagram s now who content) inside.core new.core given → PaysForDatagram inside.core new.core who content inside.meter new.meter → PricedWithLook (reply_look new) (Datagram now who content) old new
  unfolding step
  datagram_priced now who content given acts cost =
      subst (λ (m : Metered). PricedWithLook (reply_look new) (Datagram now who content) m new) is (λ s h.
      let d = datagram_shown inside.core new.core (λ t. datagram t now who content) given acts s h in
      datagram_paid _ _ (sizes_held inside.core new.core s _ h d.1 (step-follows s (Datagram now who content)).setting) inside.meter (record new.meter { steps = new.meter.steps + reply_look new }) _ _ (registers_alike inside.core s h who) (message_of content)
      (datagram_cost (sizes_for (may_register_in inside.core who) (message_of content) (sizes_of inside.core new.core)) (length content) (length new.core.reply) + reply_look new) (length content) _ _ (omega (arith, ap (λ (xs : List ℕ). length xs) d.1.reply))
      (looked inside.meter new.meter _ (reply_look new) cost))

  -- what a piece costs, and this many steps more
  pub exchange_priced : (now id room : ℕ) (piece : List ℕ) (extra : ℕ) (r : Result Taken CoreFault × List ℕ) → Acts StandsFor (exchange now id piece room) inside.core new.core r
      → ((s : State) → StandsFor inside.core s → PaysAtMost inside.meter new.meter (bytes_cost (announced_in inside.core) (sizes_of inside.core new.core) piece (live_connection id s.connections.all) + extra))
      → (s : State) → StandsFor old.core s → PaysAtMost old.meter new.meter (event_cost s (Bytes now id piece) + extra)
  unfolding step
  exchange_priced now id room piece extra r acts cost =
      subst (λ (m : Metered). (s : State) → StandsFor m.core s → PaysAtMost m.meter new.meter (event_cost s (Bytes now id piece) + extra)) is (λ s h.
      let same =
      kept_setting inside.core inside.meter new.meter now _ id (bytes s now id piece).1
      ∙ ap (λ (t : State). t.setting) (sym (same_state show_taken (bytes s now id piece))) ∙ (step-follows s (Bytes now id piece)).setting in
      bytes_paid _ _ (sizes_held inside.core new.core s _ h (acts.stands s h) same) inside.meter new.meter _ _ (ap (λ (x : Setting). x.listener.announced) h.setting) piece extra
      (live_connection id s.connections.all) (cost s h))

  pub gave_priced : (now id n : ℕ) → PaysToGive inside.core id inside.meter new.meter → PricedWithLook (look_cost old.core.connections + 1) (Gave now id n) old new
  gave_priced now id n cost =
      subst (λ (m : Metered). PricedWithLook (look_cost m.core.connections + 1) (Gave now id n) m new) is (λ s h.
      let look : ℕ = look_cost inside.core.connections + 1 in
      let given : ℕ = gave_cost (slot_count inside.core.connections) (length (slots_of inside.core.books.registry)) (live_connection id s.connections.all) in
      gave_paid _ _ (sizes_stay inside.core s h) inside.meter (record new.meter { steps = new.meter.steps + look }) (live_connection id s.connections.all)
      (at_most inside.meter (record new.meter { steps = new.meter.steps + look }) (given + look) _ (omega arith) (looked inside.meter new.meter given look (cost s h))))

  pub giving_priced : (id : ℕ) (result : Result Given CoreFault) → PaysToWriteInto inside.core id result inside.meter new.meter → PricedGiving id old new result
  giving_priced id result cost =
      subst (λ (m : Metered). PricedGiving id m new result) is (λ s h.
      into_paid inside.meter new.meter (given_in result) (slot_count inside.core.connections) (length (slots_of inside.core.books.registry)) (length s.connections.all) s.setting.limits.rows (connections_held inside.core s h) (rows_held inside.core s h)
      (live_connection id s.connections.all) (cost s h))

  pub giving_bounded : (id : ℕ) (result : Result Given CoreFault) → ∥ StandsForReached inside.core ∥₁ → PaysToWriteInto inside.core id result inside.meter new.meter → GivesWithin (given_in result) old new
  giving_bounded id result reached cost =
      subst (λ (m : Metered). GivesWithin (given_in result) m new) is
      (paid_if_reached inside.core inside.meter new.meter _ reached (into_within inside.core inside.meter new.meter id result cost))

  pub closed_priced : (id : ℕ) → PaysAtMost inside.meter new.meter (close_cost (sizes_of inside.core inside.core)) → Priced (Closed id) old new
  closed_priced id cost = subst (λ (m : Metered). Priced (Closed id) m new) is (λ s h. close_paid _ _ (sizes_stay inside.core s h) inside.meter new.meter cost)

  pub lost_priced : PaysAtMost inside.meter new.meter (look_cost inside.core.connections) → Priced NextLost old new
  lost_priced cost = subst (λ (m : Metered). Priced NextLost m new) is (λ s h. by_count find_cost inside.core s inside.meter new.meter h cost)

  pub sent_priced : (number : ℕ) → PaysAtMost inside.meter new.meter (sent_cost inside.core.books.forwards.cap) → Priced (Sent number) old new
  sent_priced number cost =
      subst (λ (m : Metered). Priced (Sent number) m new) is (λ s h. subst (λ (n : ℕ). PaysAtMost inside.meter new.meter (sent_cost n)) h.forwards cost)

  pub replied_priced : (now : ℕ) (from : Peer) (message : List ℕ) (r : Option Told) → Acts StandsFor (λ s. forward_reply s now from message) inside.core new.core r → PaysAtMost inside.meter new.meter (ended_cost (sizes_of inside.core inside.core)) → PricedWithLook (reply_look new) (Forward now from message) old new
  unfolding step
  replied_priced now from message r acts cost =
      subst (λ (m : Metered). PricedWithLook (reply_look new) (Forward now from message) m new) is (λ s h.
      let same = (acts.stands s h).reply ∙ ap (λ (t : State). t.reply) (sym (end_state (forward_reply s now from message))) in
      ended_paid _ _ (sizes_stay inside.core s h) inside.meter (record new.meter { steps = new.meter.steps + reply_look new }) (ended_cost (sizes_of inside.core inside.core) + reply_look new) _ (omega (arith, ap (λ (xs : List ℕ). length xs) same))
      (looked inside.meter new.meter _ (reply_look new) cost))

  pub expired_priced : (now : ℕ) (r : Expired) → Acts StandsFor (λ s. expire s now) inside.core new.core r → PaysAtMost inside.meter new.meter (ended_cost (sizes_of inside.core inside.core)) → PricedWithLook (reply_look new) (Expire now) old new
  unfolding step
  expired_priced now r acts cost =
      subst (λ (m : Metered). PricedWithLook (reply_look new) (Expire now) m new) is (λ s h.
      let same = (acts.stands s h).reply ∙ ap (λ (t : State). t.reply) (sym (expired_state (expire s now))) in
      ended_paid _ _ (sizes_stay inside.core s h) inside.meter (record new.meter { steps = new.meter.steps + reply_look new }) (ended_cost (sizes_of inside.core inside.core) + reply_look new) _ (omega (arith, ap (λ (xs : List ℕ). length xs) same))
      (looked inside.meter new.meter _ (reply_look new) cost))

  pub pending_priced : (id : ℕ) → PaysAtMost inside.meter new.meter (look_cost inside.core.connections + pending_cost) → Priced (Pending id) old new
  pending_priced id cost =
      subst (λ (m : Metered). Priced (Pending id) m new) is (λ s h. by_count (λ n. find_cost n + pending_cost) inside.core s inside.meter new.meter h cost)

  pub unsent_priced : (lent : Option UnsentCall) → Shows StandsFor unsent_call inside.core (plain_unsent lent) → PaysAtMost inside.meter new.meter (unsent_cost inside.core.books.forwards.cap (count_lent lent)) → Priced Unsent old new
  unsent_priced lent shows cost =
      subst (λ (m : Metered). Priced Unsent m new) is (λ s h.
      let count : count_lent lent ≡ unsent_count (unsent_call s) = lent_count lent ∙ ap unsent_count (shows s h) in
      subst (λ (k : ℕ). PaysAtMost inside.meter new.meter (unsent_cost s.setting.limits.forwards k)) count
      (subst (λ (n : ℕ). PaysAtMost inside.meter new.meter (unsent_cost n (count_lent lent))) h.forwards cost))

  -- a piece whose reply has no room costs what its event does
  pub bytes_priced : (now id room : ℕ) (piece : List ℕ) (r : Result Taken CoreFault × List ℕ) → Acts StandsFor (exchange now id piece room) inside.core new.core r
      → ((s : State) → StandsFor inside.core s → PaysAtMost inside.meter new.meter (bytes_cost (announced_in inside.core) (sizes_of inside.core new.core) piece (live_connection id s.connections.all) + 0)) → Priced (Bytes now id piece) old new
  bytes_priced now id room piece r acts cost = λ s h. at_most old.meter new.meter (event_cost s (Bytes now id piece) + 0) (event_cost s (Bytes now id piece)) (omega arith) (exchange_priced now id room piece 0 r acts cost s h)

  pub bytes_quiet : (now id : ℕ) (piece : List ℕ) (result : Result (Taken × Standing) CoreFault) → ∥ StandsForReached inside.core ∥₁ → Acts StandsFor (λ s. bytes s now id piece) inside.core new.core (without_standing result)
      → ((s : State) → StandsFor inside.core s → PaysAtMost inside.meter new.meter (bytes_cost (announced_in inside.core) (sizes_of inside.core new.core) piece (live_connection id s.connections.all) + 0)) → StaysCheapIfQuiet id piece old new result
  bytes_quiet now id piece result reached acts cost =
      subst (λ (m : Metered). StaysCheapIfQuiet id piece m new result) is
      (cheap_within inside.core inside.meter new.meter now id piece new.core result (few_slots inside.core reached) acts
      (λ s h. let most : ℕ = bytes_cost (announced_in inside.core) (sizes_of inside.core new.core) piece (live_connection id s.connections.all) in at_most inside.meter new.meter (most + 0) most (omega arith) (cost s h)))
