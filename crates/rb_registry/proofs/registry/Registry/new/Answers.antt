use Rattle.std.proofs.Common.{refl, rules, append-nil, append_assoc, ◌≡◌, ◌<◌, ◌≤◌, true, false, sym, ◌∙◌, ap, arith, ◌+◌, length, length-append, List, ◌++◌, ◌∷◌, [], ℕ}
use Rattle.std.specs.Map.{values_of}
use Rattle.rb_xdr.specs.Meter.{Meter}
use Rattle.rb_registry.specs.declared.row.Row.{Row}
use Rattle.std.proofs.lemmas.List.{map-append}
use Rattle.rb_registry.specs.declared.slot.Slot.{Slot}
use Rattle.std.proofs.lemmas.Grind.{common_steps}
use Rattle.std.proofs.lemmas.Map.Entries.{length-values_of}
use Rattle.rb_registry.specs.Slots.{slot_of, slots_from}
use Rattle.rb_registry.specs.Registry.{table_at}
use Rattle.rb_xdr.proofs.Walks.{distinct-push}
use Rattle.rb_xdr.proofs.PoolLemmas.{values_of-push}
use Rattle.rb_registry.proofs.History.{slots-new}
use Rattle.rb_registry.proofs.Holding.{held-push, held_bound}
use Rattle.rb_registry.proofs.Tables.{own_now, own_among, AreStamped-own, live_and_retained, removals-push}
use Rattle.rb_xdr.specs.Ordered.{looks, moves}
use Rattle.rb_registry.proofs.Ranks.{IsIndexed-none, IsIndexed-push, own_missing}
use Rattle.rb_registry.proofs.Marks.{ranks_and_retained, own_cost}
use Rattle.rb_registry.proofs.InOrder.{own_in_order, own_within}
use Rattle.rb_registry.proofs.registry.Registry.new.Goals as goal

pub own-init : goal.own-init
own-init c = record {
  can_next = tt;
  finite = tt;
  left = search rules;
  table = record {
    distinct = rw c.in_ok-slots.ensures.empty tt;
    stamped = rw c.in_ok-slots.ensures.empty tt;
    made = omega arith;
    ordered = rw c.in_ok-slots.ensures.empty tt;
    few_own = rw c.in_ok-slots.ensures.empty (omega arith);
    few = search rules;
    within = rw c.in_ok-slots.ensures.empty (omega arith);
    is_held = rw c.in_ok-slots.ensures.empty refl;
    are_retained = rw c.in_ok-slots.ensures.empty refl;
    indexed = rw (c.in_ok-slots.ensures.empty, c.in_ok-index.ensures.empty) IsIndexed-none;
    index_cap = c.in_ok-index.ensures.cap ∙ sym c.in_ok-slots.ensures.cap;
    index_tie = c.in_ok-index.ensures.tie ∙ ap (λ (m : Meter). m.tie) c.in_ok-slots.ensures.free ∙ sym c.in_ok-slots.ensures.tie;
  };
  slots = rw c.in_ok-slots.ensures.empty refl;
  dead = rw c.in_ok-slots.ensures.empty refl;
  counted = rw c.in_ok-slots.ensures.empty refl;
  count = rw c.in_ok-slots.ensures.empty refl;
  rows = rw c.in_ok-slots.ensures.empty refl;
  cap = c.in_ok-slots.ensures.cap;
  tie = c.in_ok-slots.ensures.tie;
  meter = search rules;
  rises = search rules;
  steps = search rules;
}

pub insert-requires-in-own-clause-absent : goal.insert-requires-in-own-clause-absent
insert-requires-in-own-clause-absent c =
    rw c.rank-rank.ensures.rank
    (own_missing c.own.yielded c.in-Some.row _ c.args.own_rows.items c.own.slots.entries c.own.index.entries c.own.invariant.table.indexed c.own.invariant.table.stamped c.rank-rank.ensures.vers c.own.invariant.rows
    (ap (λ (rows : List Row). c.own.yielded ++ rows) (sym c.in-Some.ensures.steps) ∙ c.own.invariant.left) c.requires.distinct)

pub unreachable-requires-in_default-insert : goal.unreachable-requires-in_default-insert
unreachable-requires-in_default-insert c =
    let room : length c.own.slots.entries < c.own.slots.cap = c.in-Ok.ensures.room.0 (λ i. true) in
    let whole = ranks_and_retained c.own.slots.entries in
    let free : length c.own.index.entries < c.own.index.cap = omega (arith, room, whole, c.own.invariant.table.indexed.count, c.own.invariant.table.index_cap) in
    let clash : false ≡ true = c.in_default-insert.ensures.room.1 free in
    cc

pub own-preserved : goal.own-preserved
own-preserved c =
    let stood : c.own.yielded ++ (c.in-Some.row ∷ c.next.new.self) ≡ c.args.own_rows.items = ap (λ (rows : List Row). c.own.yielded ++ rows) (sym c.in-Some.ensures.steps) ∙ c.own.invariant.left in
    let ours = own_among c.own.yielded c.in-Some.row c.next.new.self c.args.own_rows.items stood c.requires.own in
    let missing = own_missing c.own.yielded c.in-Some.row c.next.new.self c.args.own_rows.items c.own.slots.entries c.own.index.entries c.own.invariant.table.indexed c.own.invariant.table.stamped c.rank-rank.ensures.vers c.own.invariant.rows stood c.requires.distinct in
    let pushed = IsIndexed-push c.in-Ok.key 0 c.in-Some.row c.own.slots.entries c.own.index.entries c.own.invariant.table.indexed c.rank-rank.ensures.vers missing in
    let as_long = length-append c.own.yielded (c.in-Some.row ∷ c.next.new.self) in
    let twelve : length c.args.own_rows.items ≤ 12 = search rules in
    let few : length c.own.slots.entries ≤ 11 = omega (arith, as_long, twelve, ap (λ (rows : List Row). length rows) stood, c.own.invariant.count) in
    let cost = own_cost c.own.slots.entries c.own.index.entries c.rank-rank.result c.own.invariant.table.indexed few in
    let added : c.insert.new.meter.steps ≡ c.own.meter.steps + 1 = ap (λ (m : Meter). m.steps) c.insert.ensures.cost in
    let moved : c.insert-in-own.new.meter.steps ≡ c.insert.new.meter.steps + (looks (length c.own.index.entries) + moves c.rank-rank.result c.own.index.entries) = ap (λ (m : Meter). m.steps) c.insert-in-own.ensures.cost in
    let longer : length (c.own.yielded ++ c.in-Some.row ∷ []) ≡ length c.own.yielded + 1 = length-append c.own.yielded (c.in-Some.row ∷ []) in
    let more : length (c.own.slots.entries ++ (c.in-Ok.key, slot_of 0 c.in-Some.row) ∷ []) ≡ length c.own.slots.entries + 1 = length-append c.own.slots.entries ((c.in-Ok.key, slot_of 0 c.in-Some.row) ∷ []) in
    let room : length (c.own.slots.entries ++ (c.in-Ok.key, slot_of 0 c.in-Some.row) ∷ []) ≤ c.own.slots.cap = let free : length c.own.slots.entries < c.own.slots.cap = c.in-Ok.ensures.room.0 (λ i. true) in omega (arith, more, free) in
    record {
      can_next = tt;
      finite = tt;
      left = append_assoc c.own.yielded (c.in-Some.row ∷ []) _ ∙ stood;
      table = rw (c.in-Ok.ensures.ok, c.new-in-own.ensures, c.in-Ok-insert.ensures.ok, c.rank-rank.ensures.rank) (record {
        distinct = distinct-push c.own.slots.entries c.in-Ok.key (slot_of 0 c.in-Some.row) c.own.invariant.table.distinct c.in-Ok.ensures.fresh;
        stamped = AreStamped-own c.in-Ok.key c.in-Some.row c.own.slots.entries c.charge-held.ensures.addr ours c.own.invariant.table.stamped;
        made = c.own.invariant.table.made;
        ordered = own_in_order _ (AreStamped-own c.in-Ok.key c.in-Some.row c.own.slots.entries c.charge-held.ensures.addr ours c.own.invariant.table.stamped);
        few_own = omega (arith, own_within (c.own.slots.entries ++ (c.in-Ok.key, slot_of 0 c.in-Some.row) ∷ []), more, few);
        few = c.own.invariant.table.few;
        within = room;
        is_held = omega (arith, c.charge-held.ensures.charge, c.own.invariant.table.is_held, held-push c.in-Ok.key 0 c.in-Some.row c.own.slots.entries);
        are_retained = c.own.invariant.table.are_retained ∙ ap (λ (ns : List ℕ). length ns) (sym (removals-push c.in-Ok.key 0 c.in-Some.row c.own.slots.entries));
        indexed = pushed;
        index_cap = c.own.invariant.table.index_cap;
        index_tie = c.own.invariant.table.index_tie;
      });
      slots = rw (c.in-Ok.ensures.ok, c.new-in-own.ensures)
          (values_of-push c.own.slots.entries c.in-Ok.key (slot_of 0 c.in-Some.row)
          ∙ ap (λ (slots : List Slot). slots ++ slot_of 0 c.in-Some.row ∷ []) (c.own.invariant.slots ∙ slots-new 0 c.own.yielded)
          ∙ sym (map-append (slot_of 0) c.own.yielded (c.in-Some.row ∷ []))
          ∙ sym (slots-new 0 (c.own.yielded ++ c.in-Some.row ∷ [])));
      dead = rw (c.in-Ok.ensures.ok, c.new-in-own.ensures) (removals-push c.in-Ok.key 0 c.in-Some.row c.own.slots.entries ∙ c.own.invariant.dead);
      counted = rw (c.in-Ok.ensures.ok, c.new-in-own.ensures) (live_and_retained 0 _ (AreStamped-own c.in-Ok.key c.in-Some.row c.own.slots.entries c.charge-held.ensures.addr ours c.own.invariant.table.stamped));
      count = rw (c.in-Ok.ensures.ok, c.new-in-own.ensures) (omega (arith, more, longer, c.own.invariant.count));
      rows = rw (c.in-Ok.ensures.ok, c.new-in-own.ensures)
          (ap (λ (es : List (ℕ × Row)). values_of es) (own_now c.in-Ok.key c.in-Some.row c.own.slots.entries)
          ∙ values_of-push (table_at 0 c.own.slots.entries) c.in-Ok.key c.in-Some.row
          ∙ ap (λ (rows : List Row). rows ++ c.in-Some.row ∷ []) c.own.invariant.rows);
      cap = c.insert.ensures.frame.cap ∙ c.own.invariant.cap;
      tie = c.insert.ensures.frame.tie ∙ c.own.invariant.tie;
      meter = ap (λ (m : Meter). m.tie) c.insert-in-own.ensures.cost ∙ ap (λ (m : Meter). m.tie) c.insert.ensures.cost ∙ c.own.invariant.meter;
      rises = omega (arith, added, moved, c.own.invariant.rises);
      steps = omega (arith, added, moved, cost, longer, c.own.invariant.steps);
    }

pub overflow_add-held : goal.overflow_add-held
overflow_add-held c =
    let table = c.own.invariant.table in
    let most = held_bound 0 c.own.slots.entries table.stamped in
    omega (arith, most, table.within, table.few, table.is_held, c.charge-held.ensures.charge, c.charge-held.ensures.addr)

pub returns-clause-made : goal.returns-clause-made
returns-clause-made c =
    let none : c.own.row-iterator ≡ [] = c.in-None.ensures.steps.0 in
    let given : c.own.yielded ++ [] ≡ c.args.own_rows.items = rw none at c.own.invariant.left in
    let all : c.own.yielded ≡ c.args.own_rows.items = sym (append-nil c.own.yielded) ∙ given in
    record {
      are_own = c.requires.own;
      rows = c.own.invariant.rows ∙ all ∙ sym (append-nil c.args.own_rows.items);
      past = grind (arith, common_steps, all);
      slots = c.own.invariant.slots ∙ ap (λ (own : List Row). slots_from 0 own []) all;
      counted = c.own.invariant.counted ∙ sym (length-values_of c.own.slots.entries);
      within = rw length-values_of c.own.invariant.table.within;
      stamp = refl;
    }
