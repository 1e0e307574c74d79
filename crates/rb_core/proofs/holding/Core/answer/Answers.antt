use Rattle.std.specs.Borrow.{Bor}
use Rattle.std.specs.Prelude.{Option}
use Rattle.std.proofs.Common.{◌≡◌, true, false, Bool, List, ℕ, [], length, take, ◌+◌, refl, sym, subst, arith, ◌∙◌}
use Rattle.std.proofs.lemmas.List.{length-take}
use Rattle.rb_xdr.specs.Kept.{Kept}
use Rattle.rb_address.specs.declared.who.Who.{Who}
use Rattle.rb_address.specs.declared.caller.Caller.TheVariants.{Tcp}
use Rattle.rb_proto.specs.declared.books.Books.{Books}
use Rattle.rb_proto.specs.Books.{SameFrame}
use Rattle.rb_model.specs.declared.message.Message.{Message}
use Rattle.rb_model.specs.Connections.{settle, changed_at}
use Rattle.rb_model.specs.Calls.{Outcome, message_with, is_no_call}
use Rattle.rb_model.specs.Calls.Outcome.{Silent}
use Rattle.rb_model.specs.State.{State, Connections}
use Rattle.rb_model.specs.Step.{settle_on, serve_message}
use Rattle.rb_connections.specs.declared.slot.EndedRecord.{EndedRecord}
use Rattle.rb_connections.specs.StandsFor.{StandsForConnections, Table}
use Rattle.rb_model.specs.Served.{served_in}
use Rattle.rb_connections.specs.Slots.{Acts, BecomesFrom, StaysTable}
use Rattle.rb_connections.specs.Awaits.{has_idle, IsIdleSince}
use Rattle.rb_connections.specs.Settling.{Settles}
use Rattle.rb_connections.proofs.Settled.{settled_stays}
use Rattle.rb_connections.proofs.Standing.{idle_standing}
use Rattle.rb_core.specs.contracts.holding.Core.{the_view}
use Rattle.rb_core.specs.StandsFor.{CoreView, StandsFor}
use Rattle.rb_core.specs.Core.{arguments_in, serve_ended, context_of, without_arguments}
use Rattle.rb_core.specs.Eviction.{ServesInRoom}
use Rattle.rb_core.specs.AtOnce.{AnswersGiving, GivesAtOnce, IsGivenAtOnce, answer_and_give, count_when_answered}
use Rattle.rb_xdr.specs.Meter.{Meter, PaysAtMost}
use Rattle.rb_connections.specs.Giving.{whole_cost}
use Rattle.rb_model.specs.Costs.{sizes_for, answer_cost}
use Rattle.rb_core.specs.CallCosts.{may_register_in, sizes}
use Rattle.rb_core.proofs.Spending.{registers_as, pays_at_once, pays_and_begins}
use Rattle.rb_core.proofs.AtOnce.{Leaves, leaves_none, leaves_all, answer_giving, answer_counts, counts_served, count_of}
use Rattle.rb_core.proofs.Steps.{Served as ServedIn}
use Rattle.rb_core.proofs.holding.Core.answer.Goals as goal

-- ---- a record that is answered

module _ (id : ℕ) (ended : EndedRecord) (args : Option (Bor (List ℕ))) (lent : List ℕ) (view now : CoreView) (all : lent ≡ arguments_in args view.arguments) (is : view ≡ now) where
  answered_from : (new : CoreView) (lost : Bool) (n : ℕ) (room : List ℕ)
      → Acts StandsFor (λ s. answer_and_give id (length (take n room)) (serve_ended id ended lent s)) (without_arguments view) new (lost, take n room) → AnswersGiving id ended args now new (lost, n) room
  answered_from new lost n room acts =
      subst (λ (held : CoreView). AnswersGiving id ended args held new (lost, n) room) is
      (subst (λ (xs : List ℕ). Acts StandsFor (λ s. answer_and_give id (length (take n room)) (serve_ended id ended xs s)) (without_arguments view) new (lost, take n room)) all acts)

  counted_from : (room : List ℕ) (n : ℕ) → ((s : State) → StandsFor (without_arguments view) s → n ≡ count_when_answered (length room) id (serve_ended id ended lent s)) → GivesAtOnce room id ended args now n
  counted_from room n counts =
      subst (λ (held : CoreView). GivesAtOnce room id ended args held n) is
      (subst (λ (xs : List ℕ). (s : State) → StandsFor (without_arguments view) s → n ≡ count_when_answered (length room) id (serve_ended id ended xs s)) all counts)

module _ (view : CoreView) (id : ℕ) (who : Who) (message : Message) (arguments : List ℕ) (books : Books) (roomy : Table) (given : Outcome)
    (acts : ServesInRoom (context_of view (Tcp id who)) message arguments view.connections view.books roomy books given)
    (frame : SameFrame view.books books) (stays : StaysTable view.connections roomy) (idle : has_idle id roomy ≡ true) where
  served : ServedIn (context_of view (Tcp id who)) view message arguments roomy books given
  served = record { acts = acts; frame = frame; stays = stays }

  -- of what it is answered with this is left to its connection
  answers : (table : Table) (left : Outcome) (bytes : List ℕ) → StaysTable roomy table → Leaves given left bytes
      → BecomesFrom books.registry (changed_at id (settle view.clock left)) roomy table → (lost : Bool) → lost ≡ is_no_call given
      → Acts StandsFor (λ s. answer_and_give id (length bytes) (settle_on id (serve_message s (Tcp id who) message arguments))) view (record view { connections = table; books = books }) (lost, bytes)
  answers table left bytes later leave goes lost is = rw is (answer_giving view id who message arguments roomy books given left bytes table served later leave idle goes)

  counts : (room n : ℕ) → n ≡ count_of room given → (s : State) → StandsFor view s → n ≡ count_when_answered room id (settle_on id (serve_message s (Tcp id who) message arguments))
  counts room n is s h = is ∙ sym (answer_counts room view id who message arguments roomy books given served idle s h)

-- ---- a reply that is given at once

module _ (c : goal.Then-given-gt0) where
  abbrev view_then : CoreView
  view_then = without_arguments (the_view c.self.inside)

  abbrev lent_then : List ℕ
  lent_then = c.lend_arguments-arguments.result.now

  acts_then : ServesInRoom (context_of view_then (Tcp c.args.id c.args.ended.who)) (message_with c.args.ended.verdict lent_then) lent_then c.self.inside.connections c.self.inside.books c.serve_verdict-served.new.connections c.serve_verdict-served.new.books
      (served_in c.serve_verdict-served.new.books.registry c.serve_verdict-served.result c.serve_verdict-served.new.out.bytes)
  acts_then = c.serve_verdict-served.ensures.acts

  idle_then : IsIdleSince c.args.id c.self.inside.clock c.self.inside.connections
  idle_then = subst (λ (held : CoreView). IsIdleSince c.args.id held.clock held.connections) (sym c.self.view_is) c.requires.idle

  reply_then : IsGivenAtOnce c.serve_verdict-served.result c.serve_verdict-served.new.out c.write_at_once-given.new.draft (take c.write_at_once-given.result c.write_at_once-given.new.room)
  reply_then = c.write_at_once-given.ensures.some (omega (arith, c.if-given-gt0.true))

pub returns-then-given-gt0-clause-acts : goal.returns-then-given-gt0-clause-acts
returns-then-given-gt0-clause-acts c =
    let v = c.serve_verdict-served in
    let once = c.write_at_once-given in
    let reply = reply_then c in
    rw c.clear.ensures.empty (
    answered_from c.args.id c.args.ended c.args.lent (lent_then c) (the_view c.self.inside) c.args.self.now c.lend_arguments-arguments.ensures.value c.self.view_is _ false once.result once.new.room
    (answers (view_then c) c.args.id c.args.ended.who (message_with c.args.ended.verdict (lent_then c)) (lent_then c) v.new.books v.new.connections
    (served_in v.new.books.registry v.result v.new.out.bytes) (acts_then c) v.ensures.leaves.frame v.ensures.open.stays (v.ensures.open.idle c.args.id (idle_then c).is_idle)
    v.new.connections Silent (take once.result once.new.room) (record { conns = refl; memory = refl; tie = refl; within = λ within. within })
    (leaves_none v.new.books.registry v.result v.new.out once.new.draft _ (omega (arith, length-take once.result once.new.room, once.ensures.within, c.if-given-gt0.true)) reply)
    (λ o h.
    subst (λ (t : Connections). StandsForConnections v.new.books.registry v.new.connections t)
    (sym (settled_stays v.new.books.registry c.args.id c.self.inside.clock v.new.connections o (v.ensures.open.if_there c.args.id c.self.inside.clock (idle_then c).if_there) h)) h)
    false (rw reply.is_reply refl)))

pub returns-then-given-gt0-clause-count : goal.returns-then-given-gt0-clause-count
returns-then-given-gt0-clause-count c =
    let v = c.serve_verdict-served in
    let once = c.write_at_once-given in
    counted_from c.args.id c.args.ended c.args.lent (lent_then c) (the_view c.self.inside) c.args.self.now c.lend_arguments-arguments.ensures.value c.self.view_is c.args.room.now once.result
    (counts (view_then c) c.args.id c.args.ended.who (message_with c.args.ended.verdict (lent_then c)) (lent_then c) v.new.books v.new.connections
    (served_in v.new.books.registry v.result v.new.out.bytes) (acts_then c) v.ensures.leaves.frame v.ensures.open.stays (v.ensures.open.idle c.args.id (idle_then c).is_idle)
    (length c.args.room.now) once.result (once.ensures.count ∙ counts_served (length c.args.room.now) v.new.books.registry v.result v.new.out.bytes))

-- ---- all of the answer is left

module _ (c : goal.After-is_no_call) where
  abbrev view_else : CoreView
  view_else = without_arguments (the_view c.self.inside)

  abbrev lent_else : List ℕ
  lent_else = c.lend_arguments-arguments.result.now

  acts_else : ServesInRoom (context_of view_else (Tcp c.args.id c.args.ended.who)) (message_with c.args.ended.verdict lent_else) lent_else c.self.inside.connections c.self.inside.books c.serve_verdict-served.new.connections c.serve_verdict-served.new.books
      (served_in c.serve_verdict-served.new.books.registry c.serve_verdict-served.result c.serve_verdict-served.new.out.bytes)
  acts_else = c.serve_verdict-served.ensures.acts

  idle_else : has_idle c.args.id c.self.inside.connections ≡ true
  idle_else = subst (λ (held : CoreView). has_idle c.args.id held.connections ≡ true) (sym c.self.view_is) c.requires.idle.is_idle

  none_given : c.write_at_once-given.result ≡ 0
  none_given = omega (arith, c.if-given-gt0.false)

pub returns-clause-acts : goal.returns-clause-acts
returns-clause-acts c =
    let v = c.serve_verdict-served in
    rw c.clear.ensures.empty (
    answered_from c.args.id c.args.ended c.args.lent (lent_else c) (the_view c.self.inside) c.args.self.now c.lend_arguments-arguments.ensures.value c.self.view_is _ c.is_no_call.result 0 c.write_at_once-given.new.room
    (answers (view_else c) c.args.id c.args.ended.who (message_with c.args.ended.verdict (lent_else c)) (lent_else c) v.new.books v.new.connections
    (served_in v.new.books.registry v.result v.new.out.bytes) (acts_else c) v.ensures.leaves.frame v.ensures.open.stays (v.ensures.open.idle c.args.id (idle_else c))
    c.settle-standing.new.self (served_in v.new.books.registry v.result v.new.out.bytes) [] c.settle-standing.ensures.stays (leaves_all (served_in v.new.books.registry v.result v.new.out.bytes))
    (subst (λ (k : Kept). Settles v.new.books.registry c.args.id c.self.inside.clock v.result k.bytes v.new.connections c.settle-standing.new.self) (c.write_at_once-given.ensures.none (none_given c)) c.settle-standing.ensures.stands)
    c.is_no_call.result (c.is_no_call.ensures v.new.books.registry v.new.out.bytes)))

pub returns-clause-count : goal.returns-clause-count
returns-clause-count c =
    let v = c.serve_verdict-served in
    counted_from c.args.id c.args.ended c.args.lent (lent_else c) (the_view c.self.inside) c.args.self.now c.lend_arguments-arguments.ensures.value c.self.view_is c.args.room.now 0
    (counts (view_else c) c.args.id c.args.ended.who (message_with c.args.ended.verdict (lent_else c)) (lent_else c) v.new.books v.new.connections
    (served_in v.new.books.registry v.result v.new.out.bytes) (acts_else c) v.ensures.leaves.frame v.ensures.open.stays (v.ensures.open.idle c.args.id (idle_else c))
    (length c.args.room.now) 0 (sym (none_given c) ∙ c.write_at_once-given.ensures.count ∙ counts_served (length c.args.room.now) v.new.books.registry v.result v.new.out.bytes))

pub returns-then-given-gt0-clause-stands : goal.returns-then-given-gt0-clause-stands
returns-then-given-gt0-clause-stands c = λ s h.
    let v = c.serve_verdict-served in
    idle_standing c.args.id c.self.inside.clock v.new.connections (v.ensures.open.idle c.args.id (idle_then c).is_idle) (v.ensures.open.if_there c.args.id c.self.inside.clock (idle_then c).if_there) _ s.connections h.connections

pub returns-clause-stands : goal.returns-clause-stands
returns-clause-stands c = λ s h. c.settle-standing.ensures.standing _ s.connections h.connections

-- ---- what it costs

-- of a core by its other name, and of the arguments by theirs
cost_from : (x : EndedRecord) (args : Option (Bor (List ℕ))) (lent : List ℕ) (view now : CoreView) → lent ≡ arguments_in args view.arguments → view ≡ now → (new : Books) (more : ℕ) (a b : Meter)
    → PaysAtMost a b (answer_cost (sizes_for (may_register_in view x.who) (message_with x.verdict lent) (sizes view.connections view.books new)) (length lent) + more)
    → PaysAtMost a b (answer_cost (sizes_for (may_register_in now x.who) (message_with x.verdict (arguments_in args now.arguments)) (sizes now.connections now.books new)) (length (arguments_in args now.arguments)) + more)
cost_from x args lent view now all is new more a b pays =
    subst (λ (held : CoreView). PaysAtMost a b (answer_cost (sizes_for (may_register_in held x.who) (message_with x.verdict (arguments_in args held.arguments)) (sizes held.connections held.books new)) (length (arguments_in args held.arguments)) + more)) is
    (subst (λ (xs : List ℕ). PaysAtMost a b (answer_cost (sizes_for (may_register_in view x.who) (message_with x.verdict xs) (sizes view.connections view.books new)) (length xs) + more)) all pays)

pub returns-then-given-gt0-clause-cost : goal.returns-then-given-gt0-clause-cost
returns-then-given-gt0-clause-cost c =
    let lend = c.lend_arguments-arguments in
    let v = c.serve_verdict-served in
    let once = c.write_at_once-given in
    cost_from c.args.ended c.args.lent lend.result.now (the_view c.self.inside) c.args.self.now lend.ensures.value c.self.view_is v.new.books (whole_cost (length c.args.room.now) once.result) c.args.meter.now once.new.meter
    (pays_at_once (context_of (the_view c.self.inside) (Tcp c.args.id c.args.ended.who)) _ (registers_as _ (the_view c.self.inside) (Tcp c.args.id c.args.ended.who) refl) c.args.ended.verdict c.self.inside.connections c.self.inside.books v.new.books lend.result.now v.new.out c.args.room.now once.result v.ensures.leaves.reply.short
    c.args.meter.now lend.new.meter v.new.meter c.clear.new.meter once.new.meter lend.ensures.cost v.ensures.cost c.clear.ensures.cost once.ensures.cost)

pub returns-clause-cost : goal.returns-clause-cost
returns-clause-cost c =
    let lend = c.lend_arguments-arguments in
    let v = c.serve_verdict-served in
    let once = c.write_at_once-given in
    let left = c.settle-standing in
    let given : PaysAtMost c.clear.new.meter once.new.meter (whole_cost (length c.args.room.now) 0) = rw (none_given c) at once.ensures.cost in
    cost_from c.args.ended c.args.lent lend.result.now (the_view c.self.inside) c.args.self.now lend.ensures.value c.self.view_is v.new.books (whole_cost (length c.args.room.now) 0) c.args.meter.now left.new.meter
    (pays_and_begins (context_of (the_view c.self.inside) (Tcp c.args.id c.args.ended.who)) _ (registers_as _ (the_view c.self.inside) (Tcp c.args.id c.args.ended.who) refl) c.args.ended.verdict c.self.inside.connections c.self.inside.books v.new.books lend.result.now v.new.out c.args.room.now 0 v.ensures.leaves.reply.short
    c.args.meter.now lend.new.meter v.new.meter c.clear.new.meter once.new.meter lend.ensures.cost v.ensures.cost c.clear.ensures.cost given v.result v.new.connections left.new.meter v.ensures.listed v.ensures.open.as_many left.ensures.cost)
