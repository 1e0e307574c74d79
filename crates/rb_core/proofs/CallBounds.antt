-- What a call pays is within the bound on its steps.
use Rattle.std.specs.Prelude.{IfSome}
use Rattle.std.proofs.Common.{◌≡◌, ◌≤◌, ℕ, ◌+◌, ◌*◌, max, Bool, cond, true, false, eqb, List, [], ◌∷◌, ◌++◌, length, Option, Some, None, Result, Ok, Err, refl, sym, ap, ◌∙◌, arith}
use Rattle.std.proofs.lemmas.List.{length-take}
use Rattle.rb_xdr.specs.Meter.{Meter, PaysAtMost}
use Rattle.rb_xdr.specs.Ordered.{looks}
use Rattle.rb_address.specs.declared.who.Who.{Who}
use Rattle.rb_rpc.specs.Records.{first_record}
use Rattle.rb_rpc.specs.Feeds.{arguments_of}
use Rattle.rb_registry.specs.Registry.{slots_of}
use Rattle.rb_forward.specs.Costs.{sent_cost, unsent_cost}
use Rattle.rb_forward.specs.Deadlines.{soonest_cost}
use Rattle.rb_arguments.specs.Forwarded.{longest_forwarded as longest_args}
use Rattle.rb_answers.specs.Costs.{zero_cost}
use Rattle.rb_model.specs.Calls.{Outcome, longest_reply, longest_kept, kept_of, message_of}
use Rattle.rb_model.specs.State.{State, Setting, Connection, Connections, at_moment}
use Rattle.rb_model.specs.declared.types.CoreFault.{CoreFault}
use Rattle.rb_model.specs.Connections.{on_live, give, live_connection, Taking, fed_in, taking_of, taking_behind}
use Rattle.rb_model.specs.Connections.Taking.{TakesNone, GoesOn, Ends}
use Rattle.rb_model.specs.Step.{datagram, bytes, bytes_to, when_taken, gave, unless_refused, show_taken, step, IsReached}
use Rattle.rb_rpc.specs.declared.standing.Standing.{Standing}
use Rattle.rb_model.specs.declared.types.Taken.{Taken}
use Rattle.rb_model.specs.Standings.{without_standing}
use Rattle.rb_model.specs.Step.Event.{Bytes, Datagram}
use Rattle.rb_model.specs.Costs.{Sizes, asks_for_rows, sizes_for, find_cost, pending_cost, take_cost, recount_cost, gave_cost, close_cost, ended_cost, datagram_cost, bytes_cost, count_taken, record_cost}
use Rattle.rb_model.specs.Laws.{NoRecordEnds}
use Rattle.rb_model.specs.Bounds.{steps_bound}
use Rattle.rb_model.proofs.CostBounds.{looks_few, message_most, answer_most, gave_most}
use Rattle.rb_laws.proofs.EntriesKept.{step-follows}
use Rattle.rb_laws.proofs.Room.{reached-room}
use Rattle.rb_laws.proofs.StepBounds.{taken-counts}
use Rattle.rb_connections.specs.StandsFor.{buffer_size}
use Rattle.rb_connections.specs.Slots.{Acts}
use Rattle.rb_connections.specs.Costs.{look_cost, slot_count}
use Rattle.rb_core.specs.StandsFor.{CoreView, StandsFor}
use Rattle.rb_model.specs.Exchanges.{without_front, exchange}
use Rattle.rb_core.specs.CallCosts.{announced_in, may_register_in, sizes_of, PaysForDatagram, PaysToGive}
use Rattle.rb_core.specs.Events.{length_taken}
use Rattle.rb_core.proofs.Outputs.{datagram_shown, same_state}
use Rattle.rb_core.proofs.Spending.{at_most, connections_held, rows_held}

-- if no record ends, there is none to be answered
no_record : (may : Bool) (sizes : Sizes) (c : Connection) (piece : List ℕ) → IfSome (fed_in c.phase) (λ fed. first_record (fed ++ piece) ≡ None) → record_cost may sizes (taking_of c.phase piece) ≡ 0
unfolding taking_of
no_record may sizes c piece none = by_fed (fed_in c.phase) piece none
  where
    by_fed : (o : Option (List ℕ)) (xs : List ℕ) → IfSome o (λ fed. first_record (fed ++ xs) ≡ None) → record_cost may sizes (taking_behind o xs) ≡ 0
    by_fed None xs e = refl
    by_fed (Some fed) [] e = refl
    by_fed (Some fed) (x ∷ xs) e = rw e refl

-- What was counted is no more than the bound of a call that takes this many bytes, and lends or reports as given this many,
-- whatever state that a run reaches the core stood for.
abbrev pub StaysWithinSteps : CoreView → ℕ → ℕ → Meter → Meter → Type 0
StaysWithinSteps core taken given a b =
    (s : State) → StandsFor core s → IsReached s → PaysAtMost a b (steps_bound core.setting.limits taken given)

module _ (core : CoreView) where
  module _ (s : State) (h : StandsFor core s) where
    pub few_connections : IsReached s → length core.connections.slots ≤ core.setting.limits.conns
    few_connections reached =
        let room = reached-room s reached in
        let same : core.setting.limits.conns ≡ s.setting.limits.conns = ap (λ (x : Setting). x.limits.conns) h.setting in
        omega (arith, room, same, connections_held core s h)

    pub few_rows : length (slots_of core.books.registry) ≤ core.setting.limits.rows
    few_rows =
        let same : core.setting.limits.rows ≡ s.setting.limits.rows = ap (λ (x : Setting). x.limits.rows) h.setting in
        omega (arith, same, rows_held core s h)

    few_looks : looks core.books.registry.limit ≤ core.setting.limits.rows
    few_looks =
        let same : core.setting.limits.rows ≡ s.setting.limits.rows = ap (λ (x : Setting). x.limits.rows) h.setting in
        omega (arith, same, h.limit, looks_few core.books.registry.limit)

    entries : core.books.forwards.cap ≡ core.setting.limits.forwards
    entries = h.forwards ∙ sym (ap (λ (x : Setting). x.limits.forwards) h.setting)

module _ (core : CoreView) (a b : Meter) where
  pub open_within : PaysAtMost a b 4 → StaysWithinSteps core 0 0 a b
  open_within pays = λ s h reached. at_most a b 4 _ (omega arith) pays

  pub look_within : PaysAtMost a b (look_cost core.connections) → StaysWithinSteps core 0 0 a b
  look_within pays = λ s h reached. at_most a b (look_cost core.connections) _ (omega (arith, few_connections core s h reached)) pays

  pub length_within : PaysAtMost a b (look_cost core.connections + 1) → StaysWithinSteps core 0 0 a b
  length_within pays = λ s h reached. at_most a b (look_cost core.connections + 1) _ (omega (arith, few_connections core s h reached)) pays

  pub pending_within : (given : ℕ) → PaysAtMost a b (look_cost core.connections + pending_cost) → StaysWithinSteps core 0 given a b
  pending_within given pays = λ s h reached. at_most a b (look_cost core.connections + pending_cost) _ (omega (arith, few_connections core s h reached)) pays

  pub gave_within : (id given : ℕ) → PaysToGive core id a b → StaysWithinSteps core 0 given a b
  gave_within id given pays = λ s h reached.
      let most = gave_most (length core.connections.slots) (length (slots_of core.books.registry)) (live_connection id s.connections.all) in
      at_most a b (gave_cost (length core.connections.slots) (length (slots_of core.books.registry)) (live_connection id s.connections.all)) _
      (omega (arith, few_connections core s h reached, few_rows core s h, most)) (pays s h)

  pub closed_within : PaysAtMost a b (close_cost (sizes_of core core)) → StaysWithinSteps core 0 0 a b
  closed_within pays = λ s h reached. at_most a b (close_cost (sizes_of core core)) _ (omega (arith, few_connections core s h reached, entries core s h)) pays

  pub sent_within : PaysAtMost a b (sent_cost core.books.forwards.cap) → StaysWithinSteps core 0 0 a b
  sent_within pays = λ s h reached. at_most a b (sent_cost core.books.forwards.cap) _ (omega (arith, entries core s h)) pays

  pub unsent_within : (given : ℕ) → PaysAtMost a b (unsent_cost core.books.forwards.cap given) → StaysWithinSteps core 0 given a b
  unsent_within given pays = λ s h reached. at_most a b (unsent_cost core.books.forwards.cap given) _ (omega (arith, entries core s h)) pays

  pub deadline_within : PaysAtMost a b (soonest_cost (slot_count core.connections) + soonest_cost core.books.forwards.cap) → StaysWithinSteps core 0 0 a b
  deadline_within pays = λ s h reached. at_most a b (soonest_cost (slot_count core.connections) + soonest_cost core.books.forwards.cap) _ (omega (arith, few_connections core s h reached, entries core s h)) pays

  pub zero_within : PaysAtMost a b zero_cost → StaysWithinSteps core 0 0 a b
  zero_within pays = λ s h reached. at_most a b zero_cost _ (omega arith) pays

  pub ending_within : (taken : ℕ) → PaysAtMost a b (ended_cost (sizes_of core core)) → StaysWithinSteps core taken 0 a b
  unfolding longest_reply longest_kept buffer_size longest_args
  ending_within taken pays = λ s h reached. at_most a b (ended_cost (sizes_of core core)) _ (omega (arith, few_connections core s h reached, entries core s h)) pays

  -- ---- calls that serve a message

  -- the rows that are left if what is held stands for a state of the same limits
  rows_left : (new : CoreView) (s t : State) → StandsFor core s → StandsFor new t → t.setting ≡ s.setting → length (slots_of new.books.registry) ≤ core.setting.limits.rows
  rows_left new s t h k same =
      let limit : t.setting.limits.rows ≡ core.setting.limits.rows = ap (λ (x : Setting). x.limits.rows) (same ∙ sym h.setting) in
      omega (arith, limit, rows_held new t k)

  pub datagram_within : (new : CoreView) (now : ℕ) (who : Who) (content : List ℕ) (given : Outcome) → Acts StandsFor (λ s. datagram s now who content) core new given
      → PaysForDatagram core new who content a b → StaysWithinSteps core (length content) 0 a b
  unfolding step longest_reply longest_kept buffer_size longest_args
  datagram_within new now who content given acts pays = λ s h reached.
      let shows = datagram_shown core new (λ t. datagram t now who content) given acts s h in
      let left = rows_left new s _ h shows.1 (step-follows s (Datagram now who content)).setting in
      let may : Bool = may_register_in core who in
      let most = message_most (asks_for_rows may (message_of content)) (sizes_of core new) (length content) (length new.reply) in
      at_most a b (datagram_cost (sizes_for may (message_of content) (sizes_of core new)) (length content) (length new.reply)) _
      (omega (arith, few_connections core s h reached, few_rows core s h, few_looks core s h, left, shows.1.short, most)) pays

  -- the state keeps its setting when bytes are given
  pub kept_setting : (now n id : ℕ) (s : State) → (without_front now n id s).setting ≡ s.setting
  unfolding gave
  kept_setting now n id s = elim (eqb n 0) as (λ b. (cond b s (gave s now id n).1).setting ≡ s.setting) [ true ↦ refl | false ↦ by_result (on_live id (give (max s.clock now) n) s.connections) ]
    where
      by_result : (r : Result (Unit {0}) CoreFault × Connections) → (unless_refused now s r).1.setting ≡ s.setting
      by_result (Err fault, c) = refl
      by_result (Ok u, c) = refl

  module _ (now id : ℕ) (piece : List ℕ) where
    abbrev ok : Taken → Result Taken CoreFault
    ok taken = Ok taken

    same_taken : (x y : Taken) → ok x ≡ ok y → x.count ≡ y.count
    same_taken x y e = cc

    -- as many bytes are taken of it as the model says
    counts : (s : State) (c : Connection) (result : Result Taken CoreFault) → live_connection id s.connections.all ≡ Some c → result ≡ (bytes s now id piece).0 → length_taken result ≡ count_taken piece (taking_of c.phase piece)
    unfolding bytes
    counts s c (Err fault) there gives = let clash = rw there at gives in absurd cc
    counts s c (Ok taken) there gives =
        let same : ok taken ≡ (bytes_to s now id piece (Some c)).0 = rw there at gives in
        same_taken taken (when_taken (at_moment now s) id piece c (taking_of c.phase piece)).0 same ∙ taken-counts (at_moment now s) id piece c (taking_of c.phase piece)

    pub exchange_within : (new : CoreView) (room n more : ℕ) (result : Result Taken CoreFault) (given : List ℕ) → Acts StandsFor (exchange now id piece room) core new (result, given) → more ≤ n + 2
        → ((s : State) → StandsFor core s → PaysAtMost a b (bytes_cost (announced_in core) (sizes_of core new) piece (live_connection id s.connections.all) + more)) → StaysWithinSteps core (length_taken result) n a b
    unfolding step longest_reply longest_kept buffer_size longest_args
    exchange_within new room n more result given acts few pays = λ s h reached. by_there s h reached (live_connection id s.connections.all) refl (pays s h)
      where
        left : (s : State) → StandsFor core s → length (slots_of new.books.registry) ≤ core.setting.limits.rows
        left s h =
            let same =
            kept_setting now _ id (bytes s now id piece).1
            ∙ ap (λ (t : State). t.setting) (sym (same_state show_taken (bytes s now id piece))) ∙ (step-follows s (Bytes now id piece)).setting in
            rows_left new s _ h (acts.stands s h) same

        by_taking : (s : State) → StandsFor core s → IsReached s → (may : Bool) (t : Taking) → length_taken result ≡ count_taken piece t
            → PaysAtMost a b (find_cost (length core.connections.slots) + take_cost (count_taken piece t) + recount_cost + record_cost may (sizes_of core new) t + more) → PaysAtMost a b (steps_bound core.setting.limits (length_taken result) n)
        by_taking s h reached may TakesNone k paid = at_most a b (find_cost (length core.connections.slots) + take_cost 0 + recount_cost + 0 + more) _ (omega (arith, few, few_connections core s h reached)) paid
        by_taking s h reached may (GoesOn fed) k paid = at_most a b (find_cost (length core.connections.slots) + take_cost (length piece) + recount_cost + 0 + more) _ (omega (arith, few, few_connections core s h reached, k)) paid
        by_taking s h reached may (Ends m content) k paid =
            at_most a b (find_cost (length core.connections.slots) + take_cost m + recount_cost + record_cost may (sizes_of core new) (Ends m content) + more) _
            (omega (arith, few, few_connections core s h reached, few_rows core s h, few_looks core s h, left s h, k, length-take longest_kept (arguments_of content), answer_most (asks_for_rows may (message_of content)) (sizes_of core new) (length (kept_of content)))) paid

        by_there : (s : State) → StandsFor core s → IsReached s → (m : Option Connection) → live_connection id s.connections.all ≡ m → PaysAtMost a b (bytes_cost (announced_in core) (sizes_of core new) piece m + more) → PaysAtMost a b (steps_bound core.setting.limits (length_taken result) n)
        by_there s h reached None there paid = at_most a b (find_cost (length core.connections.slots) + more) _ (omega (arith, few, few_connections core s h reached)) paid
        by_there s h reached (Some c) there paid = by_taking s h reached (may_register_in core c.who) (taking_of c.phase piece) (counts s c result there (ap (λ (x : Result Taken CoreFault × List ℕ). x.0) (acts.gives s h))) paid

    -- if no record ends, a piece costs a step for each byte that is taken, two for each connection, and 9
    pub cheap_within : (new : CoreView) (result : Result (Taken × Standing) CoreFault) → length core.connections.slots ≤ core.setting.limits.conns → Acts StandsFor (λ s. bytes s now id piece) core new (without_standing result)
        → ((s : State) → StandsFor core s → PaysAtMost a b (bytes_cost (announced_in core) (sizes_of core new) piece (live_connection id s.connections.all)))
        → (s : State) → StandsFor core s → NoRecordEnds s id piece → PaysAtMost a b (8 * length_taken (without_standing result) + 64 * core.setting.limits.conns + 64)
    cheap_within new result few acts pays = λ s h none. by_there s h none (live_connection id s.connections.all) refl (pays s h)
      where
        by_there : (s : State) → StandsFor core s → NoRecordEnds s id piece → (m : Option Connection) → live_connection id s.connections.all ≡ m → PaysAtMost a b (bytes_cost (announced_in core) (sizes_of core new) piece m)
            → PaysAtMost a b (8 * length_taken (without_standing result) + 64 * core.setting.limits.conns + 64)
        by_there s h none None there paid = at_most a b (find_cost (length core.connections.slots)) _ (omega (arith, few)) paid
        by_there s h none (Some c) there paid =
            let quiet : record_cost (may_register_in core c.who) (sizes_of core new) (taking_of c.phase piece) ≡ 0 = no_record (may_register_in core c.who) (sizes_of core new) c piece (rw there at none) in
            at_most a b (bytes_cost (announced_in core) (sizes_of core new) piece (Some c)) _ (omega (arith, few, quiet, counts s c (without_standing result) there (acts.gives s h))) paid
