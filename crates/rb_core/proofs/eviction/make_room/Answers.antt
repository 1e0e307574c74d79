use Rattle.std.proofs.Common.{◌≡◌, ◌≤◌, ◌<◌, ◌+◌, true, false, ℕ, List, length, All, refl, sym, ap, ◌∙◌, arith, rules}
use Rattle.rb_registry.specs.Registry.{rows_of, removals_of}
use Rattle.rb_answers.specs.Answers.{comes_from_here}
use Rattle.rb_answers.specs.Ledger.{rows_in}
use Rattle.rb_proto.specs.Books.{wants_room_in}
use Rattle.rb_model.specs.Losses.{asks_room, needed_removals, evict}
use Rattle.rb_laws.proofs.Crowding.{none_evicted, not_asked, not_crowded, crowded, no_call_asks, row_within}
use Rattle.rb_connections.specs.Listings.{CanContinueAll, stamps_of, IsEarliest}
use Rattle.rb_connections.proofs.ListsGoOn.{lists_on, stands_on, trimmed_low}
use Rattle.rb_model.specs.Costs.{asks_for_rows}
use Rattle.rb_serving.proofs.Costs.{adding_asks}
use Rattle.rb_core.proofs.Crowding.{kept_are, kept_few, no_call_has_room, room_is_made, earliest_of}
use Rattle.rb_core.proofs.eviction.make_room.Goals as goal

pub returns-in_default-clause-makes : goal.returns-in_default-clause-makes
returns-in_default-clause-makes c = λ x l z h.
    (rw (not_asked c.args.context.now c.args.message.now x.all l (no_call_asks c.args.context.now c.args.message.now l c.in_default.not-Asked), none_evicted x) z, h)

pub returns-in_default-clause-room : goal.returns-in_default-clause-room
returns-in_default-clause-room c = no_call_has_room c.args.context.now c.args.message.now c.args.books.now c.in_default.not-Asked

pub returns-then-is_roomy-clause-makes : goal.returns-then-is_roomy-clause-makes
returns-then-is_roomy-clause-makes c = λ x l z h.
    let registry = c.args.books.now.registry in
    let few = kept_few registry c.args.connections.now x c.args.books.now l c.requires.lists z h refl in
    let place = c.is_roomy.ensures.room (c.if-is_roomy.true) in
    let room : length (rows_in l) + length (needed_removals x.all l) < c.args.context.now.limit = omega (arith, few, place, ap (λ rs. length rs) h.registry.rows, c.requires.limit) in
    (rw (not_crowded c.args.context.now c.args.message.now x.all l room, none_evicted x) z, h)

pub returns-then-not-wants_room-clause-makes : goal.returns-then-not-wants_room-clause-makes
returns-then-not-wants_room-clause-makes c = λ x l z h.
    let none : asks_room c.args.context.now c.args.message.now l ≡ false = rw c.in-Asked.is (sym (c.wants_room.ensures.shows l h) ∙ c.if-not-wants_room.true) in
    (rw (not_asked c.args.context.now c.args.message.now x.all l none, none_evicted x) z, h)

pub returns-then-retained-context-clause-lists : goal.returns-then-retained-context-clause-lists
returns-then-retained-context-clause-lists c =
    let low = trimmed_low c.args.books.now.registry c.args.connections.now c.oldest.result c.trim.new.self.registry.floor c.requires.lists c.oldest.ensures.oldest c.trim.ensures.floor in
    lists_on c.args.books.now.registry c.trim.new.self.registry c.trim.ensures.cursors c.args.connections.now low c.requires.lists

pub returns-then-retained-context-clause-makes : goal.returns-then-retained-context-clause-makes
returns-then-retained-context-clause-makes c = λ x l z h.
    let registry = c.args.books.now.registry in
    let table = c.args.connections.now in
    let low = trimmed_low registry table c.oldest.result c.trim.new.self.registry.floor c.requires.lists c.oldest.ensures.oldest c.trim.ensures.floor in
    let after = c.trim.ensures.stands l h in
    let kept = kept_are registry table x c.trim.new.self l c.oldest.result _ c.requires.lists z c.oldest.ensures.oldest after c.trim.ensures.floor c.trim.ensures.dropped in
    let rows = after.registry.rows in
    let room : length (rows_in l) + length (needed_removals x.all l) < c.args.context.now.limit =
    omega (arith, ap (λ rs. length rs) rows, ap (λ (ns : List ℕ). length ns) kept, c.len-live.ensures.len, c.retained_since-retained.ensures.count, c.if-retained-context.true) in
    (rw (not_crowded c.args.context.now c.args.message.now x.all l room, none_evicted x) (stands_on c.args.books.now.registry c.trim.new.self.registry c.trim.ensures.cursors table x low c.requires.lists z), after)

first_lists : (c : goal.After-trim-2) → CanContinueAll c.trim.new.self.registry c.args.connections.now
first_lists c =
    let low = trimmed_low c.args.books.now.registry c.args.connections.now c.oldest.result c.trim.new.self.registry.floor c.requires.lists c.oldest.ensures.oldest c.trim.ensures.floor in
    lists_on c.args.books.now.registry c.trim.new.self.registry c.trim.ensures.cursors c.args.connections.now low c.requires.lists

evicted_lists : (c : goal.After-trim-2) → CanContinueAll c.trim.new.self.registry c.evict.new.self
evicted_lists c = c.evict.ensures.lists c.trim.new.self.registry (first_lists c)

still_low : (c : goal.After-trim-2) → All (λ n. c.trim-2.new.self.registry.floor ≤ n) (stamps_of c.evict.new.self)
still_low c =
    trimmed_low c.trim.new.self.registry c.evict.new.self c.oldest-2.result c.trim-2.new.self.registry.floor (evicted_lists c) c.oldest-2.ensures.oldest c.trim-2.ensures.floor

some_retained : (c : goal.After-trim-2) → 0 < length (removals_of c.trim.new.self.registry)
some_retained c =
    let wants : wants_room_in c.args.context.now c.in-Asked.call c.args.books.now.registry ≡ true = sym c.wants_room.ensures.wants ∙ c.if-not-wants_room.false in
    let within = row_within c.args.context.now c.in-Asked.call (rows_of c.args.books.now.registry) c.args.books.now.registry.stamp wants in
    omega (arith, within, ap (λ rs. length rs) c.trim.ensures.rows, c.len-live.ensures.len, c.retained_since-retained.ensures.count, c.if-retained-context.false)

the_earliest : (c : goal.After-trim-2) → IsEarliest (removals_of c.trim.new.self.registry) c.retained_since-retained.result.1
the_earliest c = earliest_of (removals_of c.trim.new.self.registry) c.retained_since-retained.result.1 c.retained_since-retained.ensures.least (some_retained c)

pub returns-clause-lists : goal.returns-clause-lists
returns-clause-lists c =
    lists_on c.trim.new.self.registry c.trim-2.new.self.registry c.trim-2.ensures.cursors c.evict.new.self (still_low c) (evicted_lists c)

pub returns-clause-makes : goal.returns-clause-makes
returns-clause-makes c = λ x l z h.
    let registry = c.args.books.now.registry in
    let table = c.args.connections.now in
    let one = c.trim.new.self in
    let low = trimmed_low registry table c.oldest.result one.registry.floor c.requires.lists c.oldest.ensures.oldest c.trim.ensures.floor in
    let after = c.trim.ensures.stands l h in
    let kept = kept_are registry table x one l c.oldest.result _ c.requires.lists z c.oldest.ensures.oldest after c.trim.ensures.floor c.trim.ensures.dropped in
    let rows = after.registry.rows in
    let asks : asks_room c.args.context.now c.args.message.now l ≡ true = rw c.in-Asked.is (sym (c.wants_room.ensures.shows l h) ∙ c.if-not-wants_room.false) in
    let full : c.args.context.now.limit ≤ length (rows_in l) + length (needed_removals x.all l) =
    omega (arith, ap (λ rs. length rs) rows, ap (λ (ns : List ℕ). length ns) kept, c.len-live.ensures.len, c.retained_since-retained.ensures.count, c.if-retained-context.false) in
    let first = stands_on c.args.books.now.registry one.registry c.trim.ensures.cursors table x low c.requires.lists z in
    let evicts = c.evict.ensures.evicts (removals_of one.registry) (the_earliest c) one.registry x first in (
      rw (crowded c.args.context.now c.args.message.now x.all l asks full, ← kept)
          (stands_on one.registry c.trim-2.new.self.registry c.trim-2.ensures.cursors c.evict.new.self (evict (removals_of one.registry) x) (still_low c) (evicted_lists c) evicts),
      c.trim-2.ensures.stands l after,
    )

pub returns-clause-room : goal.returns-clause-room
returns-clause-room c =
    let fewer = room_is_made (removals_of c.trim.new.self.registry) (removals_of c.trim-2.new.self.registry) (stamps_of c.evict.new.self) c.retained_since-retained.result.1 c.oldest-2.result
    (the_earliest c) c.evict.ensures.later c.oldest-2.ensures.oldest c.trim-2.ensures.dropped in
    let limit = c.trim-2.ensures.frame.limit in
    rw c.in-Asked.is (λ wants. omega (arith, fewer, ap (λ rs. length rs) c.trim-2.ensures.rows, c.len-live.ensures.counted, c.len-live.ensures.few, limit))

-- ---- what it costs

pub returns-then-retained-context-clause-cost : goal.returns-then-retained-context-clause-cost
returns-then-retained-context-clause-cost c =
    let wants : wants_room_in c.args.context.now c.in-Asked.call c.args.books.now.registry ≡ true = sym c.wants_room.ensures.wants ∙ c.if-not-wants_room.false in
    let asks : asks_for_rows (comes_from_here c.args.context.now) c.args.message.now ≡ true = rw c.in-Asked.is (adding_asks c.args.context.now c.in-Asked.call (rows_of c.args.books.now.registry) c.args.books.now.registry.stamp wants) in
    rw asks (search rules)

pub returns-clause-cost : goal.returns-clause-cost
returns-clause-cost c =
    let wants : wants_room_in c.args.context.now c.in-Asked.call c.args.books.now.registry ≡ true = sym c.wants_room.ensures.wants ∙ c.if-not-wants_room.false in
    let asks : asks_for_rows (comes_from_here c.args.context.now) c.args.message.now ≡ true = rw c.in-Asked.is (adding_asks c.args.context.now c.in-Asked.call (rows_of c.args.books.now.registry) c.args.books.now.registry.stamp wants) in
    rw asks (search rules)
