-- A core that stands for a state before a call stands for the state after it.
use Rattle.std.specs.Prelude.{find, not, ◌||◌}
use Rattle.std.specs.Option.{option_map_or}
use Rattle.std.proofs.Common.{◌≡◌, ◌≤◌, ℕ, Bool, true, false, cond, List, [], ◌∷◌, map, Option, Some, None, Result, Ok, Err, length, eqb, refl, sym, ap, subst, ◌∙◌, max, arith}
use Rattle.std.proofs.lemmas.Bool.{and_parts}
use Rattle.rb_address.specs.declared.peer.Peer.{Peer}
use Rattle.rb_address.specs.declared.who.Who.{Who}
use Rattle.rb_address.specs.declared.caller.Caller.{Caller}
use Rattle.rb_address.specs.declared.caller.Caller.TheVariants.{Tcp, Udp}
use Rattle.rb_rpc.specs.declared.call.Verdict.{Verdict}
use Rattle.rb_rpc.specs.Verdict.{verdict}
use Rattle.rb_rpc.specs.Feeds.{arguments_of}
use Rattle.rb_registry.specs.Registry.{Registry}
use Rattle.rb_forward.specs.declared.types.Ended.{Ended}
use Rattle.rb_forward.specs.Forwards.{Unsent as UnsentCall, unsent, can_be_sent}
use Rattle.rb_answers.specs.declared.context.Context.{Context}
use Rattle.rb_proto.specs.declared.books.Books.{Books}
use Rattle.rb_answers.specs.Ledger.{Ledger}
use Rattle.rb_proto.specs.Ledger.{StandsForLedger}
use Rattle.rb_proto.specs.Books.{ActsAs, Becomes, SameFrame}
use Rattle.rb_answers.specs.Forwarding.{target_replied, fell_due, caller_dropped, call_sent}
use Rattle.rb_model.specs.declared.message.Message.{Message}
use Rattle.rb_model.specs.declared.types.CoreFault.{CoreFault}
use Rattle.rb_model.specs.declared.types.CoreFault.TheVariants.{Gone}
use Rattle.rb_model.specs.Calls.{Outcome, outcome, message_with, message_of, is_no_call, reply_in, longest_reply, kept_of}
use Rattle.rb_model.specs.State.{Setting, State, Phase, Connection, Connections, at_moment}
use Rattle.rb_model.specs.State.Phase.{Idle, Reading, Owing, Awaiting, Lost}
use Rattle.rb_model.specs.Connections.{Taking, taking_of, keep_reading, settle, is_lost, is_live, live_connection, change_first, changed_at, on_live, open_in_table, close_in_table, give}
use Rattle.rb_model.specs.Connections.Taking.{TakesNone, GoesOn, Ends}
use Rattle.rb_model.specs.Step.{longest_to, sender, context_in, with_ledger, with_reply, settle_on, serve_message, serve, serve_record, with_count, when_taken, bytes_to, bytes, datagram, gave, open_connection, close_connection, unless_refused, dropped_with, unsent_call, sent_call, zero_stats}
use Rattle.rb_model.specs.declared.types.Taken.{Taken}
use Rattle.rb_model.specs.Laws.{is_owing}
use Rattle.rb_model.specs.Losses.{stamp_in, removals_in_the_way, evict_early, evict, with_room}
use Rattle.rb_model.specs.declared.types.Told.{Told}
use Rattle.rb_model.specs.declared.types.Expired.TheVariants as Expires
use Rattle.rb_model.specs.Ending.{outcome_at_end, tell, tell_end, at_fresh_moment, expired_as}
use Rattle.rb_laws.proofs.Crowds.{begins_changed, evicted_changed, crowding_alike}
use Rattle.rb_connections.specs.declared.slot.EndedRecord.{EndedRecord}
use Rattle.rb_connections.specs.declared.slot.Received.{Received}
use Rattle.rb_connections.specs.StandsFor.{Table, StandsForConnections}
use Rattle.rb_connections.specs.Slots.{Acts, Shows, StaysTable, received_of, connection_after, take_piece, arguments_after, arguments_taken, arguments_on}
use Rattle.rb_core.specs.StandsFor.{CoreView, StandsFor}
use Rattle.rb_core.specs.Core.{context_of, serve_ended}
use Rattle.rb_model.specs.Exchanges.{at_once, at_once_in}
use Rattle.rb_core.specs.Eviction.{ServesInRoom}
use Rattle.rb_serving.proofs.MessageFronts.{kept_says}

-- the same of a registry by its other name
pub same_registry : (old new : Registry) (table : Table) (c : Connections) → new ≡ old → StandsForConnections old table c → StandsForConnections new table c
same_registry old new table c same z = subst (λ (r : Registry). StandsForConnections r table c) (sym same) z

-- ---- the table alone

module _ (old : CoreView) (s : State) (h : StandsFor old s) where
  -- with another clock and table
  pub with_table : (now clock : ℕ) (table : Table) (connections : Connections) → clock ≡ max old.clock now → StaysTable old.connections table → StandsForConnections old.books.registry table connections
      → StandsFor (record old { clock = clock; connections = table }) (record (at_moment now s) { connections = connections })
  with_table now clock table connections is stays stands = record {
    setting = h.setting;
    clock = is ∙ ap (λ (n : ℕ). max n now) h.clock;
    conns = stays.conns ∙ h.conns;
    within = stays.within h.within;
    connections = stands;
    limit = h.limit;
    forwards = h.forwards;
    first_xid = h.first_xid;
    ledger = h.ledger;
    reply = h.reply;
    short = h.short;
    arguments = h.arguments;
  }

-- A call on the connections that moves the clock: done, or refused.
module _ {A : Type 0} (old : CoreView) (now clock : ℕ) (act : State → Connections → Result A CoreFault × Connections) (table : Table) where
  pub moved_acts : (x : A) → clock ≡ max old.clock now → StaysTable old.connections table
      → ((s : State) → StandsFor old s → Acts (StandsForConnections old.books.registry) (act s) old.connections table (Ok x))
      → Acts StandsFor (λ s. unless_refused now s (act s s.connections)) old (record old { clock = clock; connections = table }) (Ok x)
  moved_acts x is stays acts = record {
    gives = λ s h. by_result s h (act s s.connections) ((acts s h).gives s.connections h.connections);
    stands = λ s h. by_state s h (act s s.connections) ((acts s h).gives s.connections h.connections) ((acts s h).stands s.connections h.connections);
  }
    where
      by_result : (s : State) → StandsFor old s → (r : Result A CoreFault × Connections) → Ok x ≡ r.0 → Ok x ≡ (unless_refused now s r).0
      by_result s h (Ok y, c) e = e
      by_result s h (Err f, c) e = absurd cc

      by_state : (s : State) → StandsFor old s → (r : Result A CoreFault × Connections) → Ok x ≡ r.0 → StandsForConnections old.books.registry table r.1
          → StandsFor (record old { clock = clock; connections = table }) (unless_refused now s r).1
      by_state s h (Ok y, c) e z = with_table old s h now clock table c is stays z
      by_state s h (Err f, c) e z = absurd cc

  pub refused_acts : (f : CoreFault) → ((s : State) → StandsFor old s → Acts (StandsForConnections old.books.registry) (act s) old.connections table (Err f))
      → Acts StandsFor (λ s. unless_refused now s (act s s.connections)) old old (Err f)
  refused_acts f acts = record {
    gives = λ s h. by_result s (act s s.connections) ((acts s h).gives s.connections h.connections);
    stands = λ s h. by_state s h (act s s.connections) ((acts s h).gives s.connections h.connections);
  }
    where
      by_result : (s : State) → (r : Result A CoreFault × Connections) → Err f ≡ r.0 → Err f ≡ (unless_refused now s r).0
      by_result s (Ok y, c) e = absurd cc
      by_result s (Err g, c) e = e

      by_state : (s : State) → StandsFor old s → (r : Result A CoreFault × Connections) → Err f ≡ r.0 → StandsFor old (unless_refused now s r).1
      by_state s h (Ok y, c) e = absurd cc
      by_state s h (Err g, c) e = h

-- the same of a core by its other name
pub acts_from : {A : Type 0} (act : State → A × State) (view now new : CoreView) (x : A) → view ≡ now → Acts StandsFor act view new x → Acts StandsFor act now new x
acts_from act view now new x is acts = subst (λ (held : CoreView). Acts StandsFor act held new x) is acts

module _ (old : CoreView) (now clock : ℕ) (is : clock ≡ max old.clock now) (table : Table) where
  open_at : (who : Who) (r : Result ℕ CoreFault) → Acts (StandsForConnections old.books.registry) (open_in_table old.connections.conns who clock) old.connections table r
      → (s : State) → StandsFor old s → Acts (StandsForConnections old.books.registry) (open_in_table s.setting.limits.conns who (max s.clock now)) old.connections table r
  open_at who r acts s h = rw (← h.conns, ← h.clock, ← is) acts

  give_at : (id n : ℕ) (r : Result (Unit {0}) CoreFault) → Acts (StandsForConnections old.books.registry) (on_live id (give clock n)) old.connections table r
      → (s : State) → StandsFor old s → Acts (StandsForConnections old.books.registry) (on_live id (give (max s.clock now) n)) old.connections table r
  give_at id n r acts s h = rw (← h.clock, ← is) acts

  pub open_done : (who : Who) (x : ℕ) → StaysTable old.connections table → Acts (StandsForConnections old.books.registry) (open_in_table old.connections.conns who clock) old.connections table (Ok x)
      → Acts StandsFor (λ s. open_connection s now who) old (record old { clock = clock; connections = table }) (Ok x)
  unfolding open_connection
  open_done who x stays acts = moved_acts old now clock (λ s. open_in_table s.setting.limits.conns who (max s.clock now)) table x is stays (open_at who (Ok x) acts)

  pub open_refused : (who : Who) (f : CoreFault) → Acts (StandsForConnections old.books.registry) (open_in_table old.connections.conns who clock) old.connections table (Err f)
      → Acts StandsFor (λ s. open_connection s now who) old old (Err f)
  unfolding open_connection
  open_refused who f acts = refused_acts old now clock (λ s. open_in_table s.setting.limits.conns who (max s.clock now)) table f (open_at who (Err f) acts)

  pub gave_done : (id n : ℕ) (u : Unit {0}) → StaysTable old.connections table → Acts (StandsForConnections old.books.registry) (on_live id (give clock n)) old.connections table (Ok u)
      → Acts StandsFor (λ s. gave s now id n) old (record old { clock = clock; connections = table }) (Ok u)
  unfolding gave
  gave_done id n u stays acts = moved_acts old now clock (λ s. on_live id (give (max s.clock now) n)) table u is stays (give_at id n (Ok u) acts)

  pub gave_refused : (id n : ℕ) (f : CoreFault) → Acts (StandsForConnections old.books.registry) (on_live id (give clock n)) old.connections table (Err f)
      → Acts StandsFor (λ s. gave s now id n) old old (Err f)
  unfolding gave
  gave_refused id n f acts = refused_acts old now clock (λ s. on_live id (give (max s.clock now) n)) table f (give_at id n (Err f) acts)

pub closed_acts : (old : CoreView) (id : ℕ) (table : Table) (books : Books) (u : Unit {0}) → books.registry ≡ old.books.registry → StaysTable old.connections table → SameFrame old.books books
    → Acts (StandsForConnections old.books.registry) (close_in_table id) old.connections table (Ok u) → Becomes (λ l. (caller_dropped id l).1) old.books books
    → Acts StandsFor (λ s. close_connection s id) old (record old { connections = table; books = books }) (Ok u)
unfolding close_connection
closed_acts old id table books u same stays frame acts dropped = record {
  gives = λ s h. by_result s (close_in_table id s.connections) (acts.gives s.connections h.connections);
  stands = λ s h. by_state s h (close_in_table id s.connections) (acts.gives s.connections h.connections) (acts.stands s.connections h.connections);
}
  where
    by_result : (s : State) (r : Result (Unit {0}) CoreFault × Connections) → Ok u ≡ r.0 → Ok u ≡ (dropped_with s id r).0
    by_result s (Ok v, c) e = e
    by_result s (Err f, c) e = absurd cc

    by_state : (s : State) → StandsFor old s → (r : Result (Unit {0}) CoreFault × Connections) → Ok u ≡ r.0 → StandsForConnections old.books.registry table r.1
        → StandsFor (record old { connections = table; books = books }) (dropped_with s id r).1
    by_state s h (Err f, c) e z = absurd cc
    by_state s h (Ok v, c) e z = record {
      setting = h.setting;
      clock = h.clock;
      conns = stays.conns ∙ h.conns;
      within = stays.within h.within;
      connections = same_registry old.books.registry books.registry table c same z;
      limit = frame.limit ∙ h.limit;
      forwards = frame.cap ∙ h.forwards;
      first_xid = frame.first_xid ∙ h.first_xid;
      ledger = dropped s.ledger h.ledger;
      reply = h.reply;
      short = h.short;
      arguments = h.arguments;
    }

pub closed_refused : (old : CoreView) (id : ℕ) (table : Table) (f : CoreFault) → Acts (StandsForConnections old.books.registry) (close_in_table id) old.connections table (Err f)
    → Acts StandsFor (λ s. close_connection s id) old old (Err f)
unfolding close_connection
closed_refused old id table f acts = record {
  gives = λ s h. by_result s (close_in_table id s.connections) (acts.gives s.connections h.connections);
  stands = λ s h. by_state s h (close_in_table id s.connections) (acts.gives s.connections h.connections);
}
  where
    by_result : (s : State) (r : Result (Unit {0}) CoreFault × Connections) → Err f ≡ r.0 → Err f ≡ (dropped_with s id r).0
    by_result s (Ok v, c) e = absurd cc
    by_result s (Err g, c) e = e

    by_state : (s : State) → StandsFor old s → (r : Result (Unit {0}) CoreFault × Connections) → Err f ≡ r.0 → StandsFor old (dropped_with s id r).1
    by_state s h (Ok v, c) e = absurd cc
    by_state s h (Err g, c) e = h

-- ---- a message

-- What serving a message did, as a call sees it: these connections and books are left.
pub record Served (context : Context) (old : CoreView) (message : Message) (arguments : List ℕ) (table : Table) (books : Books) (given : Outcome) : Type 0 where
  pub acts : ServesInRoom context message arguments old.connections old.books table books given
  pub frame : SameFrame old.books books
  pub stays : StaysTable old.connections table

-- what is in the way of the row that it adds
abbrev pub crowd_in : State → Caller → Message → List ℕ
crowd_in s caller message = removals_in_the_way (context_in s caller) message s.connections.all s.ledger

module _ (old : CoreView) (caller : Caller) (message : Message) (arguments : List ℕ) (table : Table) (books : Books) (given : Outcome) (served : Served (context_of old caller) old message arguments table books given) (s : State) (h : StandsFor old s) where
  same_context : context_of old caller ≡ context_in s caller
  same_context = rw (h.setting, h.clock) refl

  pub serve_gives : given ≡ (outcome (context_in s caller) message arguments s.ledger).0
  serve_gives = subst (λ (x : Context). given ≡ (outcome x message arguments s.ledger).0) same_context (served.acts.gives s.connections s.ledger h.connections h.ledger)

  pub serve_stands : StandsForLedger books (outcome (context_in s caller) message arguments s.ledger).1
  serve_stands = subst (λ (x : Context). StandsForLedger books (outcome x message arguments s.ledger).1) same_context (served.acts.ledger s.connections s.ledger h.connections h.ledger)

  pub serve_connections : StandsForConnections books.registry table (evict (crowd_in s caller message) s.connections)
  serve_connections =
      subst (λ (x : Context). StandsForConnections books.registry table (evict (removals_in_the_way x message s.connections.all s.ledger) s.connections)) same_context
      (served.acts.connections s.connections s.ledger h.connections h.ledger)

-- a datagram is answered
module _ (old : CoreView) (now clock : ℕ) (who : Who) (content : List ℕ) (table : Table) (books : Books) (reply : List ℕ) (tie : ℕ) (is : clock ≡ max old.clock now) (few : length reply ≤ longest_reply) where
  moment : (s : State) → StandsFor old s → StandsFor (record old { clock = clock }) (at_moment now s)
  moment s h = record {
    setting = h.setting;
    clock = is ∙ ap (λ (n : ℕ). max n now) h.clock;
    conns = h.conns;
    within = h.within;
    connections = h.connections;
    limit = h.limit;
    forwards = h.forwards;
    first_xid = h.first_xid;
    ledger = h.ledger;
    reply = h.reply;
    short = h.short;
    arguments = h.arguments;
  }

  abbrev new_held : CoreView
  new_held = record old { clock = clock; connections = table; books = books; reply = reply; tie = tie }

  -- the caller of the datagram, by what is held
  abbrev pub datagram_caller : Caller
  datagram_caller = Udp who (longest_to old.setting.listener.terms who (length content))

  abbrev roomy : Caller → State → State
  roomy caller s = with_room (context_in (at_moment now s) caller) (message_of content) (at_moment now s)

  abbrev answered : Caller → State → Outcome × Ledger
  answered caller s = outcome (context_in (at_moment now s) caller) (message_of content) (arguments_of content) s.ledger

  abbrev Answers : Outcome → Caller → State → Type 0
  Answers given caller s =
      (given ≡ (with_reply (with_ledger (roomy caller s) (answered caller s))).0)
      × StandsFor new_held (with_reply (with_ledger (roomy caller s) (answered caller s))).1

  told_state : (given : Outcome) → SameFrame old.books books → StaysTable old.connections table → reply ≡ reply_in given → (s : State) → StandsFor old s
      → StandsForConnections books.registry table (roomy datagram_caller s).connections → (o : Outcome × Ledger) → given ≡ o.0 → StandsForLedger books o.1
      → (given ≡ (with_reply (with_ledger (roomy datagram_caller s) o)).0) × StandsFor new_held (with_reply (with_ledger (roomy datagram_caller s) o)).1
  told_state given frame stays holds s h left (told, l) e z = (
    e,
    record {
      setting = h.setting;
      clock = is ∙ ap (λ (n : ℕ). max n now) h.clock;
      conns = stays.conns ∙ h.conns;
      within = stays.within h.within;
      connections = left;
      limit = frame.limit ∙ h.limit;
      forwards = frame.cap ∙ h.forwards;
      first_xid = frame.first_xid ∙ h.first_xid;
      ledger = z;
      reply = holds ∙ ap reply_in e;
      short = few;
      arguments = h.arguments;
    },
  )

  pub datagram_acts : (given : Outcome) → Served (context_of (record old { clock = clock }) datagram_caller) (record old { clock = clock }) (message_of content) (arguments_of content) table books given → reply ≡ reply_in given
      → Acts StandsFor (λ s. datagram s now who content) old new_held given
  unfolding datagram serve
  datagram_acts given served holds = record { gives = λ s h. (goes s h).0; stands = λ s h. (goes s h).1 }
    where
      -- the setting is the same, so the caller is
      is_sender : (s : State) → StandsFor old s → datagram_caller ≡ sender s who content
      is_sender s h = ap (λ (setting : Setting). Udp who (longest_to setting.listener.terms who (length content))) h.setting

      goes : (s : State) → StandsFor old s → Answers given (sender s who content) s
      goes s h =
          let before : CoreView = record old { clock = clock } in
          subst (λ (caller : Caller). Answers given caller s) (is_sender s h)
          (told_state given served.frame served.stays holds s h
          (serve_connections before datagram_caller (message_of content) (arguments_of content) table books given served (at_moment now s) (moment s h))
          (answered datagram_caller s)
          (serve_gives before datagram_caller (message_of content) (arguments_of content) table books given served (at_moment now s) (moment s h))
          (serve_stands before datagram_caller (message_of content) (arguments_of content) table books given served (at_moment now s) (moment s h)))

-- ---- a piece of bytes

module _ {X : Type 0} (test : X → Bool) where
  some_is : (x y : X) → Some x ≡ Some y → x ≡ y
  some_is x y h = cc

  -- two changes that agree on the one that is found
  pub change_alike : (f g : X → X) (xs : List X) (x : X) → find test xs ≡ Some x → f x ≡ g x → change_first test f xs ≡ change_first test g xs
  change_alike f g [] x h e = refl
  change_alike f g (y ∷ xs) x h e = by_cases (test y) refl (change_alike f g xs x)
    where
      by_cases : (b : Bool) → test y ≡ b → (find test xs ≡ Some x → f x ≡ g x → change_first test f xs ≡ change_first test g xs) → change_first test f (y ∷ xs) ≡ change_first test g (y ∷ xs)
      by_cases true t further =
          let same : y ≡ x = some_is y x (rw t at h) in
          rw t (ap (λ (z : X). z ∷ xs) (ap f same ∙ e ∙ ap g (sym same)))
      by_cases false t further = rw t (ap (λ (zs : List X). y ∷ zs) (further (rw t at h) e))

  pub change_nothing : (xs : List X) → change_first test (λ y. y) xs ≡ xs
  change_nothing [] = refl
  change_nothing (y ∷ xs) = elim (test y) as (λ b. cond b (y ∷ xs) (y ∷ change_first test (λ z. z) xs) ≡ y ∷ xs) [ true ↦ refl | false ↦ ap (λ (zs : List X). y ∷ zs) (change_nothing xs) ]

reading_is_live : (clock id : ℕ) (fed : List ℕ) (c : Connection) → is_live id c ≡ true → is_live id (keep_reading clock fed c) ≡ true
unfolding is_live keep_reading
reading_is_live clock id fed c h = let p = and_parts (eqb c.number id) (not (is_lost c.phase)) h in rw p.0 refl

-- the live connection is found changed if it stays live
find_changed_live : (id : ℕ) (f : Connection → Connection) → ((c : Connection) → is_live id c ≡ true → is_live id (f c) ≡ true) → (all : List Connection) (c : Connection) → find (is_live id) all ≡ Some c → find (is_live id) (change_first (is_live id) f all) ≡ Some (f c)
find_changed_live id f still [] c there = absurd cc
find_changed_live id f still (x ∷ all) c there = by_test (is_live id x) refl (find_changed_live id f still all c)
  where
    by_test : (b : Bool) → is_live id x ≡ b → (find (is_live id) all ≡ Some c → find (is_live id) (change_first (is_live id) f all) ≡ Some (f c)) → find (is_live id) (change_first (is_live id) f (x ∷ all)) ≡ Some (f c)
    by_test true t further =
        let same : x ≡ c = some_is (is_live id) x c (rw t at there) in
        rw t (rw (still x t) (ap (λ (y : Connection). Some (f y)) same))
    by_test false t further = rw t (rw t (further (rw t at there)))

-- Idle, from this moment on
abbrev idle : ℕ → Connection → Connection
idle clock c = record c { phase = Idle; since = clock }

idle_is_live : (clock id : ℕ) (c : Connection) → is_live id c ≡ true → is_live id (idle clock c) ≡ true
unfolding is_live
idle_is_live clock id c h = let p = and_parts (eqb c.number id) (not (is_lost c.phase)) h in rw p.0 refl

settled_over : (now : ℕ) (given : Outcome) (clock : ℕ) (c : Connection) → settle now given (idle clock c) ≡ settle now given c
unfolding settle
settled_over now given clock c = refl

found_passes : (test : Connection → Bool) (all : List Connection) (c : Connection) → find test all ≡ Some c → test c ≡ true
found_passes test [] c e = absurd cc
found_passes test (x ∷ all) c e = by_test (test x) refl (found_passes test all c)
  where
    by_test : (b : Bool) → test x ≡ b → (find test all ≡ Some c → test c ≡ true) → test c ≡ true
    by_test true t further = let same : Some x ≡ Some c = rw t at e in let is : x ≡ c = cc in sym (ap test is) ∙ t
    by_test false t further = further (rw t at e)

-- A message is answered alike if the connection, which has no list, was Idle meanwhile.
answering_alike : (clock id : ℕ) (who : Who) (message : Message) (arguments : List ℕ) (s : State) (c : Connection) → live_connection id s.connections.all ≡ Some c → stamp_in c.phase ≡ None
    → settle_on id (serve_message (record s { connections = changed_at id (idle clock) s.connections }) (Tcp id who) message arguments) ≡ settle_on id (serve_message s (Tcp id who) message arguments)
unfolding live_connection
answering_alike clock id who message arguments s c there none = by_outcome (outcome (context_in s (Tcp id who)) message arguments s.ledger)
  where
    live : is_live id (idle clock c) ≡ true
    live = idle_is_live clock id c (found_passes (is_live id) s.connections.all c there)

    same_crowd : removals_in_the_way (context_in s (Tcp id who)) message (change_first (is_live id) (idle clock) s.connections.all) s.ledger ≡ removals_in_the_way (context_in s (Tcp id who)) message s.connections.all s.ledger
    same_crowd = crowding_alike (context_in s (Tcp id who)) message _ _ s.ledger (begins_changed id (idle clock) s.connections.all c there none refl)

    twice : (given : Outcome) (changes other : List ℕ) → other ≡ changes → change_first (is_live id) (settle s.clock given) (map (evict_early other) (change_first (is_live id) (idle clock) s.connections.all))
        ≡ change_first (is_live id) (settle s.clock given) (map (evict_early changes) s.connections.all)
    twice given changes other same =
        ap (λ (ns : List ℕ). change_first (is_live id) (settle s.clock given) (map (evict_early ns) (change_first (is_live id) (idle clock) s.connections.all))) same
        ∙ evicted_changed id (idle clock) (settle s.clock given) changes s.connections.all c there none refl live (settled_over s.clock given clock c)

    by_outcome : (o : Outcome × Ledger)
        → settle_on id (with_ledger (with_room (context_in s (Tcp id who)) message (record s { connections = changed_at id (idle clock) s.connections })) o)
        ≡ settle_on id (with_ledger (with_room (context_in s (Tcp id who)) message s) o)
    by_outcome o = ap (λ (xs : List Connection). (is_no_call o.0, record s { ledger = o.1; connections = record s.connections { all = xs } })) (twice o.0 _ _ same_crowd)

-- So is a record, by its verdict and what is kept of its arguments.
ended_alike : (clock id : ℕ) (ended : EndedRecord) (arguments content : List ℕ) (s : State) (c : Connection) → live_connection id s.connections.all ≡ Some c → stamp_in c.phase ≡ None → ended.verdict ≡ verdict content → arguments ≡ kept_of content
    → serve_ended id ended arguments (record s { connections = changed_at id (idle clock) s.connections }) ≡ serve_record s id ended.who content
unfolding serve_record serve
ended_alike clock id ended arguments content s c there none says kept =
    let caller : Caller = Tcp id ended.who in
    answering_alike clock id ended.who (message_with ended.verdict arguments) arguments s c there none
    ∙ ap (λ (v : Verdict). settle_on id (serve_message s caller (message_with v arguments) arguments)) says
    ∙ ap (λ (xs : List ℕ). settle_on id (serve_message s caller (message_with (verdict content) xs) xs)) kept
    ∙ ap (λ (m : Message). settle_on id (serve_message s caller m (kept_of content))) (kept_says content).says
    ∙ ap (λ (o : Outcome × Ledger). settle_on id (with_ledger (with_room (context_in s caller) (message_of content) s) o)) ((kept_says content).answered (context_in s caller) s.ledger)

-- a connection that takes bytes has no list
pub takes_no_list : (phase : Phase) (piece : List ℕ) (n : ℕ) (content : List ℕ) → taking_of phase piece ≡ Ends n content → stamp_in phase ≡ None
unfolding taking_of
takes_no_list Idle piece n content e = refl
takes_no_list (Reading fed) piece n content e = refl
takes_no_list (Owing o) piece n content e = absurd cc
takes_no_list Awaiting piece n content e = refl
takes_no_list Lost piece n content e = refl

-- and owes no reply
takes_owing_none : (phase : Phase) (piece : List ℕ) (n : ℕ) (content : List ℕ) → taking_of phase piece ≡ Ends n content → is_owing phase ≡ false
unfolding taking_of
takes_owing_none Idle piece n content e = refl
takes_owing_none (Reading fed) piece n content e = refl
takes_owing_none (Owing o) piece n content e = absurd cc
takes_owing_none Awaiting piece n content e = refl
takes_owing_none Lost piece n content e = refl

-- what was taken, of a connection that is there
abbrev pub taken_of : Taken × State → Result Taken CoreFault × State
taken_of (taken, s) = (Ok taken, s)

-- the live connection that took a piece, and what came of it
pub record Fed (old : CoreView) (clock id : ℕ) (piece : List ℕ) (table : Table) (got : Received) (s : State) : Type 0 where
  pub connection : Connection
  pub there : live_connection id s.connections.all ≡ Some connection
  pub gives : got ≡ received_of piece connection (taking_of connection.phase piece)
  pub stands : StandsForConnections old.books.registry table (changed_at id (λ x. connection_after clock x (taking_of x.phase piece)) s.connections)

module _ (old : CoreView) (now clock id : ℕ) (piece : List ℕ) (is : clock ≡ max old.clock now) (table : Table) (stays : StaysTable old.connections table)
    (arguments : List ℕ) (holds : Shows (StandsForConnections old.books.registry) (arguments_on id old.arguments piece) old.connections arguments) where
  abbrev ok : Received → Result Received CoreFault
  ok got = Ok got

  ok_is : (a b : Received) → ok a ≡ ok b → a ≡ b
  ok_is a b e = cc

  abbrev quiet : ℕ → Received
  quiet n = record { count = n; ended = None }

  abbrev ended : ℕ → EndedRecord → Received
  ended n said = record { count = n; ended = Some said }

  nobody : (x : EndedRecord) → Some x ≡ None → ⊥
  nobody x h = absurd cc

  pub fed_by : (got : Received) → Acts (StandsForConnections old.books.registry) (on_live id (take_piece clock piece)) old.connections table (Ok got) → (s : State) → StandsFor old s → Fed old clock id piece table got s
  unfolding take_piece
  fed_by got acts s h = by_there (live_connection id s.connections.all) refl (acts.gives s.connections h.connections) (acts.stands s.connections h.connections)
    where
      by_there : (m : Option Connection) → live_connection id s.connections.all ≡ m
          → Ok got ≡ (on_live id (take_piece clock piece) s.connections).0 → StandsForConnections old.books.registry table (on_live id (take_piece clock piece) s.connections).1 → Fed old clock id piece table got s
      by_there None e g z = let clash = rw e at g in absurd cc
      by_there (Some c) e g z = record { connection = c; there = e; gives = ok_is got (received_of piece c (taking_of c.phase piece)) (rw e at g); stands = rw e at z }

  bytes_by : (s : State) (c : Connection) (t : Taking) → live_connection id s.connections.all ≡ Some c → taking_of c.phase piece ≡ t
      → bytes s now id piece ≡ (Ok (when_taken (at_moment now s) id piece c t).0, (when_taken (at_moment now s) id piece c t).1)
  unfolding bytes
  bytes_by s c t there takes = rw there (rw takes refl)

  -- the connections if the one that is found takes this
  fed_to : (s : State) (c : Connection) (t : Taking) (change : Connection → Connection) → live_connection id s.connections.all ≡ Some c → taking_of c.phase piece ≡ t → connection_after clock c t ≡ change c
      → changed_at id (λ x. connection_after clock x (taking_of x.phase piece)) s.connections ≡ changed_at id change s.connections
  unfolding live_connection
  fed_to s c t change there takes same =
      ap (λ (xs : List Connection). record s.connections { all = xs })
      (change_alike (is_live id) (λ x. connection_after clock x (taking_of x.phase piece)) change s.connections.all c there (ap (connection_after clock c) takes ∙ same))

  -- the arguments that are held after it
  pub held_after : (s : State) (c : Connection) (t : Taking) → StandsFor old s → live_connection id s.connections.all ≡ Some c → taking_of c.phase piece ≡ t → arguments ≡ arguments_after old.arguments t
  held_after s c t h there takes =
      holds s.connections h.connections ∙ ap (λ (o : Option Connection). option_map_or (arguments_taken old.arguments piece) o old.arguments) there ∙ ap (arguments_after old.arguments) takes

  abbrev held_with : List ℕ → CoreView
  held_with kept = record old { clock = clock; connections = table; arguments = kept }

  table_with : (s : State) → StandsFor old s → (kept : List ℕ) → kept ≡ [] → (connections : Connections) → StandsForConnections old.books.registry table connections
      → StandsFor (held_with kept) (record (at_moment now s) { connections = connections })
  table_with s h kept none connections z = record {
    setting = h.setting;
    clock = is ∙ ap (λ (n : ℕ). max n now) h.clock;
    conns = stays.conns ∙ h.conns;
    within = stays.within h.within;
    connections = z;
    limit = h.limit;
    forwards = h.forwards;
    first_xid = h.first_xid;
    ledger = h.ledger;
    reply = h.reply;
    short = h.short;
    arguments = none;
  }

  -- what is given if no record ended
  pub record Quiet (s : State) (count : ℕ) : Type 0 where
    pub gives : Ok (record { count = count; lost = false }) ≡ (bytes s now id piece).0
    pub stands : StandsFor (held_with arguments) (bytes s now id piece).1

  pub quiet_acts : (count : ℕ) → Acts (StandsForConnections old.books.registry) (on_live id (take_piece clock piece)) old.connections table (Ok (quiet count))
      → Acts StandsFor (λ s. bytes s now id piece) old (held_with arguments) (Ok (record { count = count; lost = false }))
  quiet_acts count acts = record { gives = λ s h. (goes s h).gives; stands = λ s h. (goes s h).stands }
    where
      by_taking : (s : State) → StandsFor old s → (f : Fed old clock id piece table (quiet count) s) (t : Taking) → taking_of f.connection.phase piece ≡ t → Quiet s count
      by_taking s h f TakesNone t =
          let gives : quiet count ≡ quiet 0 = rw t at f.gives in
          let n : count ≡ 0 = ap (λ (r : Received). r.count) gives in
          let none : arguments ≡ [] = held_after s f.connection TakesNone h f.there t ∙ h.arguments in
          let same = fed_to s f.connection TakesNone (λ x. x) f.there t refl ∙ ap (λ (xs : List Connection). record s.connections { all = xs }) (change_nothing (is_live id) s.connections.all) in
          record { gives = rw (bytes_by s f.connection TakesNone f.there t) (rw n refl); stands = rw (bytes_by s f.connection TakesNone f.there t) (table_with s h arguments none s.connections (subst (StandsForConnections old.books.registry table) same f.stands)) }
      by_taking s h f (GoesOn fed) t =
          let gives : quiet count ≡ quiet (length piece) = rw t at f.gives in
          let n : count ≡ length piece = ap (λ (r : Received). r.count) gives in
          let none : arguments ≡ [] = held_after s f.connection (GoesOn fed) h f.there t ∙ h.arguments in
          let same = fed_to s f.connection (GoesOn fed) (keep_reading (max s.clock now) fed) f.there t (ap (λ (k : ℕ). keep_reading k fed f.connection) (is ∙ ap (λ (k : ℕ). max k now) h.clock)) in
          record { gives = rw (bytes_by s f.connection (GoesOn fed) f.there t) (rw n refl); stands = rw (bytes_by s f.connection (GoesOn fed) f.there t) (table_with s h arguments none (changed_at id (keep_reading (max s.clock now) fed) s.connections) (subst (StandsForConnections old.books.registry table) same f.stands)) }
      by_taking s h f (Ends n content) t =
          let gives : quiet count ≡ ended n (record { who = f.connection.who; verdict = verdict content }) = rw t at f.gives in
          absurd (nobody (record { who = f.connection.who; verdict = verdict content }) (sym (ap (λ (r : Received). r.ended) gives)))

      goes : (s : State) → StandsFor old s → Quiet s count
      goes s h = let f = fed_by (quiet count) acts s h in by_taking s h f (taking_of f.connection.phase piece) refl

  -- nothing is given at once there
  pub quiet_gives_none : (room count : ℕ) → Acts (StandsForConnections old.books.registry) (on_live id (take_piece clock piece)) old.connections table (Ok (quiet count))
      → (s : State) → StandsFor old s → 0 ≡ at_once room id (live_connection id s.connections.all) (bytes s now id piece)
  unfolding live_connection keep_reading
  quiet_gives_none room count acts s h = let f = fed_by (quiet count) acts s h in by_taking f (taking_of f.connection.phase piece) refl
    where
      owing_none : (phase : Phase) → 0 ≡ cond (is_owing phase || false) 0 (at_once_in room phase)
      owing_none (Owing o) = refl
      owing_none Idle = refl
      owing_none (Reading fed) = refl
      owing_none Awaiting = refl
      owing_none Lost = refl

      either : (b : Bool) → ◌≡◌ {A = ℕ} 0 (cond b 0 0)
      either true = refl
      either false = refl

      by_taking : (f : Fed old clock id piece table (quiet count) s) (t : Taking) → taking_of f.connection.phase piece ≡ t → 0 ≡ at_once room id (live_connection id s.connections.all) (bytes s now id piece)
      by_taking f TakesNone t = rw (bytes_by s f.connection TakesNone f.there t) (rw f.there (rw f.there (owing_none f.connection.phase)))
      by_taking f (GoesOn fed) t =
          rw (bytes_by s f.connection (GoesOn fed) f.there t)
          (rw f.there (rw (find_changed_live id (keep_reading (max s.clock now) fed) (reading_is_live (max s.clock now) id fed) s.connections.all f.connection f.there) (either (is_owing f.connection.phase || false))))
      by_taking f (Ends n content) t =
          let gives : quiet count ≡ ended n (record { who = f.connection.who; verdict = verdict content }) = rw t at f.gives in
          absurd (nobody (record { who = f.connection.who; verdict = verdict content }) (sym (ap (λ (r : Received). r.ended) gives)))

  -- if one ended: the state meanwhile, and what it said is answered from there
  pub record RecordEnded (count : ℕ) (said : EndedRecord) (s : State) : Type 0 where
    pub meanwhile : State
    pub stands : StandsFor (held_with []) meanwhile
    pub moment : meanwhile.clock ≡ max s.clock now
    pub before : Connection
    pub there : live_connection id s.connections.all ≡ Some before
    pub owes_none : is_owing before.phase ≡ false
    pub goes : bytes s now id piece ≡ taken_of (with_count count (serve_ended id said arguments meanwhile))

  pub ended_by : (count : ℕ) (said : EndedRecord) → Acts (StandsForConnections old.books.registry) (on_live id (take_piece clock piece)) old.connections table (Ok (ended count said))
      → (s : State) → StandsFor old s → RecordEnded count said s
  ended_by count said acts s h = let f = fed_by (ended count said) acts s h in by_taking f (taking_of f.connection.phase piece) refl
    where
      by_taking : (f : Fed old clock id piece table (ended count said) s) (t : Taking) → taking_of f.connection.phase piece ≡ t → RecordEnded count said s
      by_taking f TakesNone t = let gives : ended count said ≡ quiet 0 = rw t at f.gives in absurd (nobody said (ap (λ (r : Received). r.ended) gives))
      by_taking f (GoesOn fed) t = let gives : ended count said ≡ quiet (length piece) = rw t at f.gives in absurd (nobody said (ap (λ (r : Received). r.ended) gives))
      by_taking f (Ends n content) t =
          let gives : ended count said ≡ ended n (record { who = f.connection.who; verdict = verdict content }) = rw t at f.gives in
          let k : count ≡ n = ap (λ (r : Received). r.count) gives in
          let ended_is : said ≡ record { who = f.connection.who; verdict = verdict content } = some_is {X = EndedRecord} (λ x. true) _ _ (ap (λ (r : Received). r.ended) gives) in
          let same = fed_to s f.connection (Ends n content) (idle clock) f.there t refl in
          let alike = ended_alike clock id said arguments content (at_moment now s) f.connection f.there (takes_no_list f.connection.phase piece n content t) (ap (λ (x : EndedRecord). x.verdict) ended_is) (held_after s f.connection (Ends n content) h f.there t) in
          let from = ap (λ (x : EndedRecord). x.who) ended_is in
          record {
            meanwhile = record (at_moment now s) { connections = changed_at id (idle clock) s.connections };
            stands = table_with s h [] refl (changed_at id (idle clock) s.connections) (subst (StandsForConnections old.books.registry table) same f.stands);
            moment = refl;
            before = f.connection;
            there = f.there;
            owes_none = takes_owing_none f.connection.phase piece n content t;
            goes =
                bytes_by s f.connection (Ends n content) f.there t
                ∙ ap (λ (r : Bool × State). taken_of (with_count n r)) (ap (λ (w : Who). serve_record (at_moment now s) id w content) (sym from) ∙ sym alike)
                ∙ ap (λ (m : ℕ). taken_of (with_count m (serve_ended id said arguments (record (at_moment now s) { connections = changed_at id (idle clock) s.connections })))) (sym k);
          }

abbrev not_ended : CoreFault → Result Received CoreFault
not_ended fault = Err fault

fault_is : (a b : CoreFault) → not_ended a ≡ not_ended b → a ≡ b
fault_is a b e = cc

-- a connection that is not there takes nothing
pub bytes_refused : (old : CoreView) (now clock id : ℕ) (piece : List ℕ) (table : Table) (f : CoreFault) → Acts (StandsForConnections old.books.registry) (on_live id (take_piece clock piece)) old.connections table (Err f)
    → Acts StandsFor (λ s. bytes s now id piece) old old (Err f)
unfolding bytes
bytes_refused old now clock id piece table f acts = record {
  gives = λ s h. by_there s (live_connection id s.connections.all) refl (acts.gives s.connections h.connections);
  stands = λ s h. by_state s h (live_connection id s.connections.all) refl (acts.gives s.connections h.connections);
}
  where
    by_there : (s : State) (m : Option Connection) → live_connection id s.connections.all ≡ m → Err f ≡ (on_live id (take_piece clock piece) s.connections).0 → Err f ≡ (bytes_to s now id piece m).0
    by_there s None e g = ap Err (fault_is f Gone (rw e at g))
    by_there s (Some c) e g = let clash = rw e at g in absurd cc

    by_state : (s : State) → StandsFor old s → (m : Option Connection) → live_connection id s.connections.all ≡ m → Err f ≡ (on_live id (take_piece clock piece) s.connections).0 → StandsFor old (bytes_to s now id piece m).1
    by_state s h None e g = h
    by_state s h (Some c) e g = let clash = rw e at g in absurd cc

-- the same by the record that ended
pub with_ended : (registry : Registry) (id clock : ℕ) (piece : List ℕ) (old table : Table) (got : Received) (said : Option EndedRecord) → got.ended ≡ said
    → Acts (StandsForConnections registry) (on_live id (take_piece clock piece)) old table (Ok got) → Acts (StandsForConnections registry) (on_live id (take_piece clock piece)) old table (Ok (record { count = got.count; ended = said }))
with_ended registry id clock piece old table got said is acts = subst (λ (m : Option EndedRecord). Acts (StandsForConnections registry) (on_live id (take_piece clock piece)) old table (Ok (record { count = got.count; ended = m }))) is acts

-- ---- forwarded calls

pub unsent_shown : (held : CoreView) (given : Option UnsentCall) → ((l : Ledger) → StandsForLedger held.books l → given ≡ unsent held.books.forwards.first_xid l.forwards) → Shows StandsFor unsent_call held given
unfolding unsent_call
unsent_shown held given shows s h = shows s.ledger h.ledger ∙ ap (λ (n : ℕ). unsent n s.ledger.forwards) h.first_xid

-- with other books of the same registry, as a change of the ledger leaves them
books_stand : (old : CoreView) (books : Books) (s : State) (l : Ledger) → books.registry ≡ old.books.registry → SameFrame old.books books → StandsFor old s → StandsForLedger books l
    → StandsFor (record old { books = books }) (record s { ledger = l })
books_stand old books s l same frame h z = record {
  setting = h.setting;
  clock = h.clock;
  conns = h.conns;
  within = h.within;
  connections = same_registry old.books.registry books.registry old.connections s.connections same h.connections;
  limit = frame.limit ∙ h.limit;
  forwards = frame.cap ∙ h.forwards;
  first_xid = frame.first_xid ∙ h.first_xid;
  ledger = z;
  reply = h.reply;
  short = h.short;
  arguments = h.arguments;
}

module _ (old : CoreView) (number : ℕ) (books : Books) where
  pub sent_acts : (u : Unit {0}) → books.registry ≡ old.books.registry → SameFrame old.books books → ((l : Ledger) → StandsForLedger old.books l → can_be_sent number l.forwards ≡ true) → Becomes (call_sent number) old.books books
      → Acts StandsFor (λ s. sent_call s number) old (record old { books = books }) (Ok u)
  unfolding sent_call
  sent_acts u same frame can becomes = record {
    gives = λ s h. rw (can s.ledger h.ledger) refl;
    stands = λ s h. rw (can s.ledger h.ledger) (books_stand old books s _ same frame h (becomes s.ledger h.ledger));
  }

  pub sent_refused : ((l : Ledger) → StandsForLedger old.books l → can_be_sent number l.forwards ≡ false) → Acts StandsFor (λ s. sent_call s number) old old (Err Gone)
  unfolding sent_call
  sent_refused cannot = record {
    gives = λ s h. rw (cannot s.ledger h.ledger) refl;
    stands = λ s h. rw (cannot s.ledger h.ledger) h;
  }

-- statistics begin anew
pub zeroed : (old : CoreView) (books : Books) → books.registry ≡ old.books.registry → SameFrame old.books books → Becomes (λ (l : Ledger). record l { history = [] }) old.books books
    → Acts StandsFor (λ s. (tt {0}, zero_stats s)) old (record old { books = books }) (tt {0})
unfolding zero_stats
zeroed old books same frame becomes = record {
  gives = λ s h. refl;
  stands = λ s h. books_stand old books s _ same frame h (becomes s.ledger h.ledger);
}

-- an entry ends, or none does
module _ (old : CoreView) (now clock : ℕ) (is : clock ≡ max old.clock now) (message : List ℕ) (books : Books) (tie : ℕ) (act : Ledger → Option Ended × Ledger) (plain : State → Ledger → Option Ended × Ledger)
    (alike : (s : State) → StandsFor old s → act ≡ plain s) (same : books.registry ≡ old.books.registry) (frame : SameFrame old.books books) where
  abbrev pub ended_held : CoreView
  ended_held = record old { clock = clock; books = books; reply = []; tie = tie }

  abbrev ends : State → Option Told × State
  ends s = tell_end message (at_fresh_moment now s) (plain s s.ledger)

  left : (s : State) → StandsFor old s → (l : Ledger) → StandsForLedger books l → StandsFor ended_held (record (at_fresh_moment now s) { ledger = l })
  left s h l z = record {
    setting = h.setting;
    clock = is ∙ ap (λ (n : ℕ). max n now) h.clock;
    conns = h.conns;
    within = h.within;
    connections = same_registry old.books.registry books.registry old.connections s.connections same h.connections;
    limit = frame.limit ∙ h.limit;
    forwards = frame.cap ∙ h.forwards;
    first_xid = frame.first_xid ∙ h.first_xid;
    ledger = z;
    reply = refl;
    short = omega arith;
    arguments = h.arguments;
  }

  given_by : (o : Option Ended) → ActsAs act old.books books o → (s : State) → StandsFor old s → (o ≡ (plain s s.ledger).0) × StandsForLedger books (plain s s.ledger).1
  given_by o acts s h = (
    acts.gives s.ledger h.ledger ∙ ap (λ (f : Ledger → Option Ended × Ledger). (f s.ledger).0) (alike s h),
    subst (λ (f : Ledger → Option Ended × Ledger). StandsForLedger books (f s.ledger).1) (alike s h) (acts.stands s.ledger h.ledger),
  )

  pub none_ended : ActsAs act old.books books None → Acts StandsFor ends old ended_held None
  none_ended acts = record { gives = λ s h. (goes s h).0; stands = λ s h. (goes s h).1 }
    where
      by_end : (s : State) → StandsFor old s → (r : Option Ended × Ledger) → None ≡ r.0 → StandsForLedger books r.1
          → (None ≡ (tell_end message (at_fresh_moment now s) r).0) × StandsFor ended_held (tell_end message (at_fresh_moment now s) r).1
      by_end s h (None, l) e z = (refl, left s h l z)
      by_end s h (Some ended, l) e z = absurd cc

      goes : (s : State) → StandsFor old s → (None ≡ (ends s).0) × StandsFor ended_held (ends s).1
      goes s h = let g = given_by None acts s h in by_end s h (plain s s.ledger) g.0 g.1

  pub one_ended : (ended : Ended) (told : Told) (new : CoreView) → ActsAs act old.books books (Some ended) → Acts StandsFor (tell ended.id ended.forward.caller (outcome_at_end message ended)) ended_held new told → Acts StandsFor ends old new (Some told)
  one_ended ended told new acts tells = record { gives = λ s h. (goes s h).0; stands = λ s h. (goes s h).1 }
    where
      by_end : (s : State) → StandsFor old s → (r : Option Ended × Ledger) → Some ended ≡ r.0 → StandsForLedger books r.1
          → (Some told ≡ (tell_end message (at_fresh_moment now s) r).0) × StandsFor new (tell_end message (at_fresh_moment now s) r).1
      by_end s h (None, l) e z = absurd cc
      by_end s h (Some other, l) e z =
          let is_one : ended ≡ other = cc in
          let t : State = record (at_fresh_moment now s) { ledger = l } in
          let k = left s h l z in (
            ap Some (tells.gives t k ∙ ap (λ (x : Ended). (tell x.id x.forward.caller (outcome_at_end message x) t).0) is_one),
            subst (λ (x : Ended). StandsFor new (tell x.id x.forward.caller (outcome_at_end message x) t).1) is_one (tells.stands t k),
          )

      goes : (s : State) → StandsFor old s → (Some told ≡ (ends s).0) × StandsFor new (ends s).1
      goes s h = let g = given_by (Some ended) acts s h in by_end s h (plain s s.ledger) g.0 g.1

-- what a datagram of a target ends at a moment, or that moment
pub replied_alike : (old : CoreView) (now clock : ℕ) (from : Peer) (message : List ℕ) → clock ≡ max old.clock now → (s : State) → StandsFor old s
    → target_replied old.books.forwards.first_xid clock from message ≡ target_replied s.setting.first_xid (max s.clock now) from message
replied_alike old now clock from message is s h = rw (← h.first_xid, ← h.clock, is) refl

pub due_alike : (old : CoreView) (now clock : ℕ) → clock ≡ max old.clock now → (s : State) → StandsFor old s → fell_due clock ≡ fell_due (max s.clock now)
due_alike old now clock is s h = rw (← h.clock, is) refl

pub one_expired : (old new : CoreView) (act : State → Option Told × State) (told : Told) → Acts StandsFor act old new (Some told) → Acts StandsFor (λ s. expired_as (act s)) old new (Expires.Ended told)
one_expired old new act told acts = record { gives = λ s h. (goes (act s) (acts.gives s h) (acts.stands s h)).0; stands = λ s h. (goes (act s) (acts.gives s h) (acts.stands s h)).1 }
  where
    goes : (r : Option Told × State) → Some told ≡ r.0 → StandsFor new r.1 → (Expires.Ended told ≡ (expired_as r).0) × StandsFor new (expired_as r).1
    goes (None, t) e z = absurd cc
    goes (Some other, t) e z = (ap Expires.Ended cc, z)
