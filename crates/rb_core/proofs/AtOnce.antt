-- Replies that are given in the call that takes the end of their record.
use Rattle.std.specs.Prelude.{◌&&◌, ◌||◌, is_none, Err, Result, Ok}
use Rattle.std.proofs.Common.{◌≡◌, ◌<◌, ◌≤◌, ◌+◌, ℕ, zero, suc, Bool, true, false, not, cond, List, [], ◌∷◌, length, take, drop, eqb, ltb, max, Option, Some, None, arith, refl, sym, ap, subst, ◌∙◌, inl, inr, ◌⊎◌}
use Rattle.std.proofs.lemmas.Bool.{and_parts, le-ltb, lt-ltb, cases_lt, cond-false, ne_eqb}
use Rattle.std.proofs.lemmas.List.{take_all, length-take}
use Rattle.rb_xdr.specs.Kept.{Kept}
use Rattle.rb_rpc.specs.Records.{fragment_size, marked_reply}
use Rattle.rb_address.specs.declared.who.Who.{Who}
use Rattle.rb_address.specs.declared.caller.Caller.TheVariants.{Tcp}
use Rattle.rb_proto.specs.declared.books.Books.{Books}
use Rattle.rb_model.specs.declared.message.Message.{Message}
use Rattle.rb_model.specs.declared.types.CoreFault.{CoreFault}
use Rattle.rb_model.specs.declared.types.Taken.{Taken}
use Rattle.rb_model.specs.State.{State, Phase, Connection, Connections}
use Rattle.rb_model.specs.State.Phase.{Idle, Reading, Owing, Awaiting, Lost}
use Rattle.rb_model.specs.Calls.{Outcome, is_no_call}
use Rattle.rb_model.specs.Calls.Outcome.{NoCall, Reply, Forwarded, Silent}
use Rattle.rb_model.specs.Connections.{longest_fragment, pending_of, owed_of, phase_after, settle, pending_in, phase_when_given, with_given, give, is_lost, is_live, live_connection, change_first, changed_at, on_live, on_connection}
use Rattle.rb_model.specs.Losses.{evict}
use Rattle.rb_model.specs.Step.{settle_on, serve_message, bytes, pending, pending_at, pending_on, gave, with_count}
use Rattle.rb_model.specs.Laws.{is_owing}
use Rattle.rb_model.specs.Sessions.{pending_bytes}
use Rattle.rb_model.proofs.Fragments.{length-short, length-long, some-marked}
use Rattle.rb_laws.proofs.Cuts.{IsFeeding, find-changed, changed-twice}
use Rattle.rb_model.specs.declared.served.Served.{Served as CodeServed}
use Rattle.rb_model.specs.declared.served.Served.TheVariants.{Answered, Listed}
use Rattle.rb_model.specs.declared.served.Response.TheVariants as outcomes
use Rattle.rb_connections.specs.declared.slot.EndedRecord.{EndedRecord}
use Rattle.rb_registry.specs.Registry.{Registry}
use Rattle.rb_model.specs.Served.{served_in}
use Rattle.rb_connections.specs.StandsFor.{StandsForConnections, Table}
use Rattle.rb_connections.specs.Slots.{Acts, Shows, StaysTable, take_piece, arguments_on}
use Rattle.rb_connections.specs.Awaits.{has_idle}
use Rattle.rb_connections.specs.Giving.{whole_length, whole_cost}
use Rattle.rb_connections.proofs.IdleSlots.{Lives, idle_is_live}
use Rattle.rb_core.specs.StandsFor.{CoreView, StandsFor}
use Rattle.rb_core.specs.Core.{context_of, serve_ended}
use Rattle.rb_model.specs.Exchanges.{at_once_in, at_once_on, at_once, pending_front, without_front, then_gave, exchange}
use Rattle.rb_core.specs.AtOnce.{count_at_once, count_when_answered, answer_and_give, IsGivenAtOnce}
use Rattle.rb_core.proofs.Steps.{Served, serve_gives, serve_stands, serve_connections, crowd_in, change_alike, change_nothing, RecordEnded, ended_by, taken_of}

-- ---- what is left of an answer

nonzero : (n : ℕ) → 0 < n → eqb n 0 ≡ false
nonzero n h = ne_eqb n 0 (λ e. omega (arith, e, h))

both : (a b : Bool) (xs ys : List ℕ) → a ≡ b → xs ≡ ys → ◌≡◌ {A = Bool × List ℕ} (a, xs) (b, ys)
both a b xs ys same alike = rw (same, alike) refl

none_or_some : (xs : List ℕ) → (xs ≡ []) ⊎ (0 < length xs)
none_or_some [] = inl refl
none_or_some (x ∷ xs) = inr (omega arith)

-- The bytes that are given are those that are pending once the record is answered, and what is left is what they leave.
pub record Leaves (given left : Outcome) (bytes : List ℕ) : Type 0 where
  pub all : bytes ≡ [] → left ≡ given
  pub closes : is_no_call left ≡ is_no_call given
  pub lives : 0 < length bytes → is_lost (phase_after given) ≡ false
  pub shows : 0 < length bytes → pending_in (phase_after given) ≡ bytes
  pub later : 0 < length bytes → (clock : ℕ) (c : Connection) → with_given clock (length bytes) (settle clock given c) ≡ settle clock left c

all_pending : (reply : List ℕ) → length reply ≤ fragment_size → pending_of (owed_of reply None 0) ≡ marked_reply reply
unfolding pending_of longest_fragment
all_pending reply few = take_all 1028 (marked_reply reply) (omega (arith, few, length-short reply few))

idle_then : (n : ℕ) (reply : List ℕ) → length (marked_reply reply) ≤ n → phase_when_given n (Owing (owed_of reply None 0)) ≡ Idle
idle_then n reply all = cond-false _ _ _ (le-ltb (0 + n) (length (marked_reply reply)) (omega (arith, all)))

whole_leaves : (clock : ℕ) (c : Connection) (reply given : List ℕ) → 0 < length given → given ≡ marked_reply reply → with_given clock (length given) (settle clock (Reply reply None) c) ≡ settle clock Silent c
unfolding with_given settle
whole_leaves clock c reply given some is =
    cond-false _ _ _ (nonzero (length given) some)
    ∙ ap (λ (p : Phase). record c { phase = p; since = clock }) (idle_then (length given) reply (omega (arith, ap (λ (xs : List ℕ). length xs) is)))

-- Nothing is left of a reply that is given whole,
pub leaves_none : (registry : Registry) (served : CodeServed) (before after : Kept) (given : List ℕ) → 0 < length given → IsGivenAtOnce served before after given
    → Leaves (served_in registry served before.bytes) Silent given
leaves_none registry served before after given some is = record {
  all = λ none. absurd (omega (arith, some, ap (λ (xs : List ℕ). length xs) none));
  closes = rw is.is_reply refl;
  lives = λ more. rw is.is_reply refl;
  shows = λ more. rw is.is_reply (all_pending before.bytes is.whole.few ∙ sym is.whole.is_marked);
  later = λ more clock c. rw is.is_reply (whole_leaves clock c before.bytes given some is.whole.is_marked);
}

-- and all of an answer if no byte is given.
pub leaves_all : (given : Outcome) → Leaves given given []
leaves_all given = record {
  all = λ none. refl;
  closes = refl;
  lives = λ some. absurd (omega (arith, some));
  shows = λ some. absurd (omega (arith, some));
  later = λ some clock c. absurd (omega (arith, some));
}

module _ (id : ℕ) (given left : Outcome) (bytes : List ℕ) (is : Leaves given left bytes) where
  feeding_on : (clock : ℕ) → 0 < length bytes → IsFeeding id (settle clock given)
  unfolding is_live settle
  feeding_on clock some = record { live = λ c live. let p = and_parts (eqb c.number id) (not (is_lost c.phase)) live in rw (p.0, is.lives some) refl }

  given_none : (clock : ℕ) (c : Connections) → bytes ≡ [] → changed_at id (settle clock left) c ≡ changed_at id (with_given clock (length bytes)) (changed_at id (settle clock given) c)
  unfolding with_given
  given_none clock c none =
      rw (is.all none, none) (ap (λ (xs : List Connection). record c { all = xs }) (sym (change_nothing (is_live id) (change_first (is_live id) (settle clock given) c.all))))

  given_some : (clock : ℕ) (c : Connections) → 0 < length bytes → changed_at id (settle clock left) c ≡ changed_at id (with_given clock (length bytes)) (changed_at id (settle clock given) c)
  given_some clock c some =
      ap (λ (xs : List Connection). record c { all = xs })
      (sym (changed-twice id (settle clock given) (with_given clock (length bytes)) (settle clock left) (feeding_on clock some) (is.later some clock) c.all))

  given_then : (clock : ℕ) (c : Connections) → changed_at id (settle clock left) c ≡ changed_at id (with_given clock (length bytes)) (changed_at id (settle clock given) c)
  given_then clock c = elim (none_or_some bytes) [ inl none ↦ given_none clock c none | inr some ↦ given_some clock c some ]

  -- these bytes are pending once the record is answered
  pub in_front : (clock : ℕ) (c : Connections) → Lives id c.all → bytes ≡ take (length bytes) (pending_bytes (pending_at id (changed_at id (settle clock given) c)))
  unfolding live_connection settle
  in_front clock c lives = elim (none_or_some bytes) [
    | inl none ↦ rw none refl
    | inr some ↦
        rw (find-changed id (settle clock given) (feeding_on clock some) c.all lives.connection lives.there)
        (rw (is.shows some) (sym (take_all (length bytes) bytes (omega arith))))
  ]

-- ---- how many bytes are given at once

marked_fits : (room : ℕ) (reply : List ℕ) → at_once_in room (Owing (owed_of reply None 0)) ≡ whole_length room (length reply)
unfolding longest_fragment
marked_fits room reply = elim (cases_lt fragment_size (length reply)) [
  | inl long ↦ rw (lt-ltb fragment_size (length reply) long) (rw (lt-ltb 1028 (length (marked_reply reply)) (omega (arith, long, length-long reply long, some-marked (drop fragment_size reply)))) refl)
  | inr few ↦
      rw (le-ltb fragment_size (length reply) few) (rw (le-ltb 1028 (length (marked_reply reply)) (omega (arith, few, length-short reply few)))
      (ap (λ (n : ℕ). cond (not (ltb room 1028)) n 0) (length-short reply few)))
]

-- what is given at once of an outcome
abbrev pub count_of : ℕ → Outcome → ℕ
count_of room given = cond (is_no_call given) 0 (at_once_in room (phase_after given))

pub counts_served : (room : ℕ) (registry : Registry) (served : CodeServed) (reply : List ℕ) → count_at_once room served reply ≡ count_of room (served_in registry served reply)
counts_served room registry (Answered outcomes.NoCall) reply = refl
counts_served room registry (Answered outcomes.Reply) reply = sym (marked_fits room reply)
counts_served room registry (Answered outcomes.Forwarded) reply = refl
counts_served room registry (Answered outcomes.Silent) reply = refl
counts_served room registry (Listed xid listing) reply = refl

keeps_live : (id clock : ℕ) (given : Outcome) → is_lost (phase_after given) ≡ false → IsFeeding id (settle clock given)
unfolding is_live settle
keeps_live id clock given lives = record { live = λ c live. let p = and_parts (eqb c.number id) (not (is_lost c.phase)) live in rw (p.0, lives) refl }

counts_settled : (room id clock : ℕ) (given : Outcome) (c : Connections) → Lives id c.all → cond (is_no_call given) 0 (at_once_on room (live_connection id (changed_at id (settle clock given) c).all)) ≡ count_of room given
unfolding live_connection settle
counts_settled room id clock NoCall c lives = refl
counts_settled room id clock (Reply reply began) c lives = rw (find-changed id (settle clock (Reply reply began)) (keeps_live id clock (Reply reply began) refl) c.all lives.connection lives.there) refl
counts_settled room id clock Forwarded c lives = rw (find-changed id (settle clock Forwarded) (keeps_live id clock Forwarded refl) c.all lives.connection lives.there) refl
counts_settled room id clock Silent c lives = rw (find-changed id (settle clock Silent) (keeps_live id clock Silent refl) c.all lives.connection lives.there) refl

-- A message from a connection is answered, and this many bytes of the reply are given.
pub answer_counts : (room : ℕ) (old : CoreView) (id : ℕ) (who : Who) (message : Message) (arguments : List ℕ) (roomy : Table) (books : Books) (given : Outcome)
    → Served (context_of old (Tcp id who)) old message arguments roomy books given → has_idle id roomy ≡ true → (s : State) → StandsFor old s
    → count_when_answered room id (settle_on id (serve_message s (Tcp id who) message arguments)) ≡ count_of room given
answer_counts room old id who message arguments roomy books given served idle s h =
    let says = serve_gives old (Tcp id who) message arguments roomy books given served s h in
    let conns : Connections = evict (crowd_in s (Tcp id who) message) s.connections in
    let lives = idle_is_live books.registry id roomy conns (serve_connections old (Tcp id who) message arguments roomy books given served s h) idle in
    subst (λ (o : Outcome). cond (is_no_call o) 0 (at_once_on room (live_connection id (changed_at id (settle s.clock o) conns).all)) ≡ count_of room given) says
    (counts_settled room id s.clock given conns lives)

-- A message from a connection is answered, and these bytes of the reply are given.
pub answer_giving : (old : CoreView) (id : ℕ) (who : Who) (message : Message) (arguments : List ℕ) (roomy : Table) (books : Books) (given left : Outcome) (bytes : List ℕ) (table : Table)
    → Served (context_of old (Tcp id who)) old message arguments roomy books given → StaysTable roomy table → Leaves given left bytes → has_idle id roomy ≡ true
    → ((c : Connections) → StandsForConnections books.registry roomy c → StandsForConnections books.registry table (changed_at id (settle old.clock left) c))
    → Acts StandsFor (λ s. answer_and_give id (length bytes) (settle_on id (serve_message s (Tcp id who) message arguments))) old (record old { connections = table; books = books }) (is_no_call given, bytes)
unfolding pending
answer_giving old id who message arguments roomy books given left bytes table served stays leave idle settles = record {
  gives = λ s h.
      let says = serve_gives old (Tcp id who) message arguments roomy books given served s h in
      let among = serve_connections old (Tcp id who) message arguments roomy books given served s h in
      let conns : Connections = evict (crowd_in s (Tcp id who) message) s.connections in
      let lives = idle_is_live books.registry id roomy conns among idle in
      both _ _ _ _ (ap is_no_call says)
      (subst (λ (o : Outcome). bytes ≡ take (length bytes) (pending_bytes (pending_at id (changed_at id (settle s.clock o) conns)))) says (in_front id given left bytes leave s.clock conns lives));
  stands = λ s h. record {
    setting = h.setting;
    clock = h.clock;
    conns = stays.conns ∙ served.stays.conns ∙ h.conns;
    within = stays.within (served.stays.within h.within);
    connections =
        let conns : Connections = evict (crowd_in s (Tcp id who) message) s.connections in
        subst (λ (o : Outcome). StandsForConnections books.registry table (changed_at id (with_given s.clock (length bytes)) (changed_at id (settle s.clock o) conns))) (serve_gives old (Tcp id who) message arguments roomy books given served s h)
        (subst (λ (n : ℕ). StandsForConnections books.registry table (changed_at id (with_given n (length bytes)) (changed_at id (settle n given) conns))) h.clock
        (subst (λ (c : Connections). StandsForConnections books.registry table c) (given_then id given left bytes leave old.clock conns)
        (settles conns (serve_connections old (Tcp id who) message arguments roomy books given served s h))));
    limit = served.frame.limit ∙ h.limit;
    forwards = served.frame.cap ∙ h.forwards;
    first_xid = served.frame.first_xid ∙ h.first_xid;
    ledger = serve_stands old (Tcp id who) message arguments roomy books given served s h;
    reply = h.reply;
    short = h.short;
    arguments = h.arguments;
  };
}

-- ---- bytes that are taken, and a reply that is given

-- this many bytes are given
abbrev pub giving_by : ℕ → ℕ → List ℕ → ℕ → State → (Result Taken CoreFault × List ℕ) × State
giving_by now id piece n s = then_gave now id n (bytes s now id piece)

-- They are as many as are given at once.
pub counted : (now id n : ℕ) (piece : List ℕ) (room : ℕ) (old new : CoreView) (x : Result Taken CoreFault × List ℕ) → Acts StandsFor (giving_by now id piece n) old new x
    → ((s : State) → StandsFor old s → n ≡ at_once room id (live_connection id s.connections.all) (bytes s now id piece)) → Acts StandsFor (exchange now id piece room) old new x
counted now id n piece room old new x acts same = record {
  gives = λ s h. acts.gives s h ∙ ap (λ (k : ℕ). (then_gave now id k (bytes s now id piece)).0) (same s h);
  stands = λ s h. subst (λ (k : ℕ). StandsFor new (then_gave now id k (bytes s now id piece)).1) (same s h) (acts.stands s h);
}

-- none are if the bytes are refused
pub none_refused : (now id : ℕ) (piece : List ℕ) (room : ℕ) (old new : CoreView) (f : CoreFault) → Acts StandsFor (λ s. bytes s now id piece) old new (Err f)
    → (s : State) → StandsFor old s → 0 ≡ at_once room id (live_connection id s.connections.all) (bytes s now id piece)
none_refused now id piece room old new f acts s h = by_result (live_connection id s.connections.all) (bytes s now id piece) (acts.gives s h)
  where
    by_result : (m : Option Connection) (r : Result Taken CoreFault × State) → Err f ≡ r.0 → 0 ≡ at_once room id m r
    by_result None r e = refl
    by_result (Some c) (Err g, t) e = refl
    by_result (Some c) (Ok x, t) e = absurd cc

-- If nothing is given at once it is the event alone.
pub plainly : (now id : ℕ) (piece : List ℕ) (old new : CoreView) (taken : Result Taken CoreFault) → Acts StandsFor (λ s. bytes s now id piece) old new taken → Acts StandsFor (giving_by now id piece 0) old new (taken, [])
plainly now id piece old new taken acts = record {
  gives = λ s h. ap (λ (r : Result Taken CoreFault). pair r) (acts.gives s h);
  stands = acts.stands;
}
  where
    pair : Result Taken CoreFault → Result Taken CoreFault × List ℕ
    pair r = (r, [])

-- if there is no room, none are
no_room : (id : ℕ) (m : Option Connection) (r : Result Taken CoreFault × State) → at_once 0 id m r ≡ 0
unfolding longest_fragment
no_room id None r = refl
no_room id (Some c) (Err f, s) = refl
no_room id (Some c) (Ok taken, s) = elim (is_owing c.phase || taken.lost) as (λ b. cond b 0 (at_once_on 0 (live_connection id s.connections.all)) ≡ 0) [ true ↦ refl | false ↦ on_none (live_connection id s.connections.all) ]
  where
    none_in : (phase : Phase) → at_once_in 0 phase ≡ 0
    none_in (Owing o) = elim (is_none o.stamp && not (ltb 1028 (length o.marked))) as (λ b. cond (b && false) (length o.marked) 0 ≡ 0) [ true ↦ refl | false ↦ refl ]
    none_in Idle = refl
    none_in (Reading fed) = refl
    none_in Awaiting = refl
    none_in Lost = refl

    on_none : (o : Option Connection) → at_once_on 0 o ≡ 0
    on_none None = refl
    on_none (Some x) = none_in x.phase

pub alone : (now id : ℕ) (piece given : List ℕ) (room : ℕ) (old new : CoreView) (taken : Result Taken CoreFault) → room ≡ 0 → Acts StandsFor (exchange now id piece room) old new (taken, given) → Acts StandsFor (λ s. bytes s now id piece) old new taken
alone now id piece given room old new taken none acts = record {
  gives = λ s h. ap (λ (x : Result Taken CoreFault × List ℕ). x.0) (acts.gives s h);
  stands = λ s h.
      subst (λ (k : ℕ). StandsFor new (without_front now k id (bytes s now id piece).1))
      (ap (λ (r : ℕ). at_once r id (live_connection id s.connections.all) (bytes s now id piece)) none ∙ no_room id (live_connection id s.connections.all) (bytes s now id piece))
      (acts.stands s h);
}

-- n bytes, as many as there are of what is pending, are given by one event
given_by_event : (now id n : ℕ) (s : State) → max s.clock now ≡ s.clock → n ≤ length (pending_bytes (pending s id)) → on_connection id (with_given s.clock n) s ≡ without_front now n id s
unfolding pending gave with_given give live_connection
given_by_event now id n s late few = elim (none_or_more n) [ inl none ↦ of_none none | inr some ↦ of_some some (live_connection id s.connections.all) refl few ]
  where
    none_or_more : (k : ℕ) → (k ≡ 0) ⊎ (0 < k)
    none_or_more zero = inl refl
    none_or_more (suc k) = inr (omega arith)

    of_none : n ≡ 0 → on_connection id (with_given s.clock n) s ≡ without_front now n id s
    of_none e = rw e (ap (λ (xs : List Connection). record s { connections = record s.connections { all = xs } }) (change_nothing (is_live id) s.connections.all))

    given_at : (c : Connection) → n ≤ length (pending_in c.phase) → with_given s.clock n c ≡ (give (max s.clock now) n c).1
    given_at c within = rw late (ap (λ (m : ℕ). with_given s.clock m c) (omega (arith, within)))

    of_some : 0 < n → (found : Option Connection) → live_connection id s.connections.all ≡ found → n ≤ length (pending_bytes (pending_on found)) → on_connection id (with_given s.clock n) s ≡ without_front now n id s
    of_some some None there within = absurd (omega (arith, some, within))
    of_some some (Some c) there within =
        ap (λ (xs : List Connection). record s { connections = record s.connections { all = xs } }) (change_alike (is_live id) (with_given s.clock n) (λ x. (give (max s.clock now) n x).1) s.connections.all c there (given_at c within))
        ∙ ap (λ (k : ℕ). record s { clock = k; connections = changed_at id (λ x. (give (max s.clock now) n x).1) s.connections }) (sym late)
        ∙ sym (cond-false _ _ _ (nonzero n some) ∙ rw there refl)

-- The record that ended is answered, and these bytes of the reply are given.
pub exchange_ended : (old : CoreView) (now clock id : ℕ) (piece : List ℕ) (is : clock ≡ max old.clock now) (table : Table) (stays : StaysTable old.connections table)
    (arguments : List ℕ) (holds : Shows (StandsForConnections old.books.registry) (arguments_on id old.arguments piece) old.connections arguments)
    (count : ℕ) (said : EndedRecord) (new : CoreView) (lost : Bool) (given : List ℕ) → Acts (StandsForConnections old.books.registry) (on_live id (take_piece clock piece)) old.connections table (Ok (record { count = count; ended = Some said }))
    → Acts StandsFor (λ s. answer_and_give id (length given) (serve_ended id said arguments s)) (record old { clock = clock; connections = table; arguments = [] }) new (lost, given)
    → Acts StandsFor (giving_by now id piece (length given)) old new (Ok (record { count = count; lost = lost }), given)
exchange_ended old now clock id piece is table stays arguments holds count said new lost given acts answers = record {
  gives = λ s h.
      let e = ended s h in
      ap (λ (x : Bool × List ℕ). taken x) (answers.gives e.meanwhile e.stands)
      ∙ ap (λ (r : Result Taken CoreFault × State). (then_gave now id (length given) r).0) (sym e.goes);
  stands = λ s h.
      let e = ended s h in
      let a : Bool × State = serve_ended id said arguments e.meanwhile in
      let front_is : given ≡ pending_front (length given) id a.1 = ap (λ (x : Bool × List ℕ). x.1) (answers.gives e.meanwhile e.stands) in
      let few : length given ≤ length (pending_bytes (pending a.1 id)) = omega (arith, ap (λ (xs : List ℕ). length xs) front_is, length-take (length given) (pending_bytes (pending a.1 id))) in
      let late : max a.1.clock now ≡ a.1.clock = omega (arith, e.moment) in
      subst (λ (r : Result Taken CoreFault × State). StandsFor new (without_front now (length given) id r.1)) (sym e.goes)
      (subst (λ (t : State). StandsFor new t) (given_by_event now id (length given) a.1 late few) (answers.stands e.meanwhile e.stands));
}
  where
    taken : Bool × List ℕ → Result Taken CoreFault × List ℕ
    taken x = (Ok (record { count = count; lost = x.0 }), x.1)

    ended : (s : State) → StandsFor old s → RecordEnded old now clock id piece is table stays arguments holds count said s
    ended = ended_by old now clock id piece is table stays arguments holds count said acts

-- the same by how many they are
pub by_count : (now id n : ℕ) (piece room : List ℕ) (old new : CoreView) (taken : Result Taken CoreFault) → n ≤ length room
    → Acts StandsFor (giving_by now id piece (length (take n room))) old new (taken, take n room) → Acts StandsFor (giving_by now id piece n) old new (taken, take n room)
by_count now id n piece room old new taken within acts = subst (λ (k : ℕ). Acts StandsFor (giving_by now id piece k) old new (taken, take n room)) (omega (arith, within, length-take n room)) acts

pub whole_few : (room n : ℕ) → whole_cost room n ≤ n + 2
whole_few room n = elim (eqb room 0) as (λ b. cond b 0 (n + 2) ≤ n + 2) [ true ↦ omega arith | false ↦ omega arith ]

-- as many as the answer gives
pub counted_ended : (old : CoreView) (now clock id : ℕ) (piece : List ℕ) (is : clock ≡ max old.clock now) (table : Table) (stays : StaysTable old.connections table)
    (arguments : List ℕ) (holds : Shows (StandsForConnections old.books.registry) (arguments_on id old.arguments piece) old.connections arguments)
    (count room n : ℕ) (said : EndedRecord) → Acts (StandsForConnections old.books.registry) (on_live id (take_piece clock piece)) old.connections table (Ok (record { count = count; ended = Some said }))
    → ((s : State) → StandsFor (record old { clock = clock; connections = table; arguments = [] }) s → n ≡ count_when_answered room id (serve_ended id said arguments s))
    → (s : State) → StandsFor old s → n ≡ at_once room id (live_connection id s.connections.all) (bytes s now id piece)
counted_ended old now clock id piece is table stays arguments holds count room n said acts counts s h =
    let e : RecordEnded old now clock id piece is table stays arguments holds count said s = ended_by old now clock id piece is table stays arguments holds count said acts s h in
    let a : Bool × State = serve_ended id said arguments e.meanwhile in
    counts e.meanwhile e.stands
    ∙ ap (λ (b : Bool). cond (b || a.0) 0 (at_once_on room (live_connection id a.1.connections.all))) (sym e.owes_none)
    ∙ ap (λ (m : Option Connection). at_once room id m (taken_of (with_count count a))) (sym e.there)
    ∙ ap (λ (r : Result Taken CoreFault × State). at_once room id (live_connection id s.connections.all) r) (sym e.goes)
