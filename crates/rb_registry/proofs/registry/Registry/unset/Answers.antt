use Rattle.std.proofs.Common.{◌≡◌, ℕ, List, take, length, get_or, refl, sym, ap, ◌∙◌, arith, true, false, subst}
use Rattle.std.specs.List.{list_any, count_by}
use Rattle.std.proofs.lemmas.List.{length-map, take_more, take_all}
use Rattle.rb_xdr.specs.Meter.{PaysAtMost}
use Rattle.rb_xdr.specs.Pool.{Pool}
use Rattle.rb_address.specs.declared.netid.Netid.{Netid}
use Rattle.rb_address.specs.declared.netid.Netid.TheVariants.{Tcp}
use Rattle.rb_registry.specs.declared.slot.Slot.{Slot}
use Rattle.rb_registry.specs.Rows.{is_among}
use Rattle.rb_address.specs.Netids.{is_netid}
use Rattle.rb_registry.specs.Table.{count_retained}
use Rattle.rb_registry.proofs.Marked.{with_mark, with_marks, entries_with_marks, goes, count_going}
use Rattle.rb_registry.specs.Index.{with_marks_where, marked_where}
use Rattle.rb_registry.proofs.Counting.{removals-marked, none_counted, some_counted}
use Rattle.rb_registry.proofs.Marks.{netids, is_one, none_marked, one_more, all_marked, ranks_and_retained, all_named, one_more_cost, looks_within, as_many, named_less}
use Rattle.rb_registry.proofs.registry.Registry.unset.Goals.{then-mark_on, else-mark_on, After-netids}
use Rattle.std.specs.Map.{values_of}
use Rattle.rb_registry.specs.Rows.Change.{Removed}
use Rattle.rb_registry.specs.Registry.{Registry, StandsForChanges}
use Rattle.rb_registry.specs.contracts.registry.Registry.{the_view}
use Rattle.rb_registry.proofs.Holding.{held-marked}
use Rattle.rb_registry.proofs.Registries.{goes_on-unset, goes_on_same, removal_made, no_removal_left, unchanged}
use Rattle.rb_registry.proofs.Stands.{after_unset}
use Rattle.rb_registry.proofs.Tables.{AreStamped-marked, distinct-marked, as_many_marked, removals_within}
use Rattle.rb_registry.specs.Costs.{unset_cost}
use Rattle.rb_registry.proofs.InOrder.{in_order_marked, own_marked}
use Rattle.rb_registry.proofs.registry.Registry.unset.Goals as goal

pub netids-init : goal.netids-init
netids-init c = record {
  marks = rw (none_marked c.self.inside.changes (Removed c.args.prog c.args.vers c.args.which c.args.owner) c.self.inside.slots.entries) refl;
  distinct = c.self.invariant.distinct;
  indexed = c.self.invariant.indexed;
  removed = omega arith;
  few = omega arith;
  index = record { cap = refl; tie = refl };
  meter = refl;
  rises = omega arith;
  steps = omega arith;
}

pub netids-preserved : goal.netids-preserved
netids-preserved c =
    let change = Removed c.args.prog c.args.vers c.args.which c.args.owner in
    let netid : Netid = get_or netids c.netids.netid-index Tcp in
    let marked : c.mark_on.new.slots ≡ with_marks_where (λ other. is_netid other (get_or netids c.netids.netid-index Tcp)) c.self.inside.changes (Removed c.args.prog c.args.vers c.args.which c.args.owner) c.netids.slots = c.mark_on.ensures.marks in
    let one = one_more (take c.netids.netid-index netids) netid c.self.inside.changes change c.self.inside.slots.entries (marked_where (λ n. list_any (λ other. is_netid n other) (take c.netids.netid-index netids)) c.self.inside.changes change c.self.inside.slots.entries) refl in
    let longer = take_more netids c.netids.netid-index Tcp (omega (arith, c.netids-test.true)) in
    let cost = one_more_cost c.args.which c.netids.netid-index (length c.netids.index.entries) (length c.self.inside.index.entries) (omega (arith, c.netids-test.true)) (omega (arith, c.netids.invariant.removed)) in
    record {
      marks = marked
          ∙ ap (λ (p : Pool Slot). with_marks_where (λ other. is_netid other netid) c.self.inside.changes change p) c.netids.invariant.marks
          ∙ ap (λ (es : List (ℕ × Slot)). record c.self.inside.slots { entries = es }) one
          ∙ ap (λ (ns : List Netid). with_marks_where (λ n. list_any (λ other. is_netid n other) ns) c.self.inside.changes change c.self.inside.slots) (sym longer);
      distinct = c.mark_on.ensures.distinct;
      indexed = c.mark_on.ensures.indexed;
      removed = elim c.if-mark_on.branch [
        | then-mark_on w ↦ let one = rw w.if-mark_on.true at c.mark_on.ensures.removed in omega (arith, one, w.removed-is, c.netids.invariant.removed)
        | else-mark_on w ↦ let none = rw w.if-mark_on.false at c.mark_on.ensures.removed in omega (arith, none, w.removed-is, c.netids.invariant.removed)
      ];
      few = elim c.if-mark_on.branch [
        | then-mark_on w ↦ omega (arith, w.removed-is, c.netids.invariant.few)
        | else-mark_on w ↦ omega (arith, w.removed-is, c.netids.invariant.few)
      ];
      index = record { cap = c.mark_on.ensures.index.cap ∙ c.netids.invariant.index.cap; tie = c.mark_on.ensures.index.tie ∙ c.netids.invariant.index.tie };
      meter = c.mark_on.ensures.cost.tie ∙ c.netids.invariant.meter;
      rises = omega (arith, c.mark_on.ensures.cost.rises, c.netids.invariant.rises);
      steps = omega (arith, c.mark_on.ensures.cost.steps, c.netids.invariant.steps, cost);
    }

all_there : (c : After-netids) → c.netids.slots ≡ with_marks c.self.inside.changes (Removed c.args.prog c.args.vers c.args.which c.args.owner) c.self.inside.slots
all_there c =
    let whole : take c.netids.netid-index netids ≡ netids = take_all c.netids.netid-index netids (omega (arith, c.netids-test.false)) in
    let change = Removed c.args.prog c.args.vers c.args.which c.args.owner in
    c.netids.invariant.marks
    ∙ ap (λ (ns : List Netid). with_marks_where (λ n. list_any (λ other. is_netid n other) ns) c.self.inside.changes change c.self.inside.slots) whole
    ∙ ap (λ (es : List (ℕ × Slot)). record c.self.inside.slots { entries = es }) (all_marked (λ n. list_any (λ other. is_netid n other) netids) c.self.inside.changes change c.self.inside.slots.entries is_one c.self.invariant.stamped)

all_removed : (c : After-netids) → c.netids.removed ≡ count_going c.self.inside.changes (Removed c.args.prog c.args.vers c.args.which c.args.owner) c.self.inside.slots.entries
all_removed c =
    let change = Removed c.args.prog c.args.vers c.args.which c.args.owner in
    let entries : c.netids.slots.entries ≡ entries_with_marks c.self.inside.changes change c.self.inside.slots.entries = ap (λ (p : Pool Slot). p.entries) (all_there c) in
    let now : count_retained c.netids.slots.entries ≡ count_retained (entries_with_marks c.self.inside.changes change c.self.inside.slots.entries) = ap (λ (es : List (ℕ × Slot)). count_retained es) entries in
    let as_long : length c.netids.slots.entries ≡ length c.self.inside.slots.entries = ap (λ (es : List (ℕ × Slot)). length es) entries ∙ length-map {B = ℕ × Slot} c.self.inside.slots.entries (λ (e : ℕ × Slot). (e.0, with_mark c.self.inside.changes change e.1)) in
    let more = removals-marked c.self.inside.changes change c.self.inside.slots.entries c.self.invariant.stamped in
    let whole = ranks_and_retained c.netids.slots.entries in
    let before = ranks_and_retained c.self.inside.slots.entries in
    omega (arith, now, as_long, more, whole, before, c.netids.invariant.removed, c.netids.invariant.indexed.count, c.self.invariant.indexed.count)

none_goes : (c : After-netids) → c.netids.removed ≡ 0 → list_any (goes c.self.inside.changes (Removed c.args.prog c.args.vers c.args.which c.args.owner)) (values_of c.self.inside.slots.entries) ≡ false
none_goes c none = none_counted (goes c.self.inside.changes (Removed c.args.prog c.args.vers c.args.which c.args.owner)) (values_of c.self.inside.slots.entries) (sym (all_removed c) ∙ none)

paid : (c : After-netids) → PaysAtMost c.args.meter.now c.netids.meter (unset_cost c.args.self.now c.args.which)
paid c =
    let whole : take c.netids.netid-index netids ≡ netids = take_all c.netids.netid-index netids (omega (arith, c.netids-test.false)) in
    let named = ap (λ (ns : List Netid). count_by (λ n. is_among n c.args.which) ns) whole ∙ all_named c.args.which in
    let steps = rw named at c.netids.invariant.steps in
    let more = looks_within c.self.inside.slots.cap c.self.inside.slots.entries c.self.inside.index.entries c.self.invariant.indexed c.self.invariant.within in
    let rows = as_many c.self.inside.changes c.self.inside.slots.entries c.self.inside.index.entries c.self.invariant.indexed c.self.invariant.stamped in
    let less = named_less c.args.which (length c.self.inside.index.entries) (the_view c.self.inside) more rows in
    record { rises = c.netids.invariant.rises; steps = rw (← c.self.view_is) (omega (arith, less, steps)); tie = c.netids.invariant.meter }

pub returns-then-not-is_change_left-clause-taken : goal.returns-then-not-is_change_left-clause-taken
returns-then-not-is_change_left-clause-taken c =
    rw (← c.self.view_is) (sym (no_removal_left _ _ _ (sym c.if-not-is_change_left.ensures.left)))

pub overflow_add-self-2 : goal.overflow_add-self-2
overflow_add-self-2 c =
    let d = (goal.at.overflow_add-self-2 c).After-netids in
    let change = Removed c.args.prog c.args.vers c.args.which c.args.owner in
    let more = removals-marked c.self.inside.changes change c.self.inside.slots.entries c.self.invariant.stamped in
    let few = removals_within (entries_with_marks c.self.inside.changes change c.self.inside.slots.entries) in
    let as_long = length-map {B = ℕ × Slot} c.self.inside.slots.entries (λ (e : ℕ × Slot). (e.0, with_mark c.self.inside.changes change e.1)) in
    omega (arith, more, few, as_long, all_removed d, c.self.invariant.are_retained, c.self.invariant.within, c.self.invariant.few)

pub invariant_of-self : goal.invariant_of-self
invariant_of-self c =
    let d = (goal.at.invariant_of-self c).After-netids in
    let same = unchanged _ _ _ _ (all_there d) (none_goes d c.if-removed-eq0.true) in
    record {
      distinct = rw same c.self.invariant.distinct;
      stamped = rw same c.self.invariant.stamped;
      made = c.self.invariant.made;
      few = rw same c.self.invariant.few;
      within = rw same c.self.invariant.within;
      is_held = rw same c.self.invariant.is_held;
      ordered = rw same c.self.invariant.ordered;
      few_own = rw same c.self.invariant.few_own;
      are_retained = rw same c.self.invariant.are_retained;
      indexed = d.netids.invariant.indexed;
      index_cap = d.netids.invariant.index.cap ∙ c.self.invariant.index_cap ∙ sym (ap (λ (p : Pool Slot). p.cap) same);
      index_tie = d.netids.invariant.index.tie ∙ c.self.invariant.index_tie ∙ sym (ap (λ (p : Pool Slot). p.tie) same);
    }

pub invariant_of-self-2 : goal.invariant_of-self-2
invariant_of-self-2 c =
    let d = (goal.at.invariant_of-self-2 c).After-netids in
    let change = Removed c.args.prog c.args.vers c.args.which c.args.owner in
    let marks = all_there d in
    let indexed = rw marks at d.netids.invariant.indexed in
    rw marks (record {
      indexed = indexed;
      index_cap = d.netids.invariant.index.cap ∙ c.self.invariant.index_cap;
      index_tie = d.netids.invariant.index.tie ∙ c.self.invariant.index_tie;
      distinct = distinct-marked c.self.inside.changes change c.self.inside.slots.entries c.self.invariant.distinct;
      stamped = AreStamped-marked c.self.inside.changes change c.self.inside.slots.entries c.self.invariant.stamped;
      made = let made = c.self.invariant.made in omega (arith, made);
      few = c.self.invariant.few;
      ordered = in_order_marked 0 c.self.inside.changes change c.self.inside.slots.entries c.self.invariant.ordered;
      few_own = omega (arith, own_marked c.self.inside.changes change c.self.inside.slots.entries, c.self.invariant.few_own);
      within = let as_long = length-map {B = ℕ × Slot} c.self.inside.slots.entries (λ (e : ℕ × Slot). (e.0, with_mark c.self.inside.changes change e.1)) in let within = c.self.invariant.within in omega (arith, as_long, within);
      is_held = c.self.invariant.is_held ∙ sym (held-marked c.self.inside.changes change c.self.inside.slots.entries);
      are_retained = let more = removals-marked c.self.inside.changes change c.self.inside.slots.entries c.self.invariant.stamped in let dead = c.self.invariant.are_retained in omega (arith, more, dead, all_removed d);
    })

pub returns-then-removed-eq0-clause-cursors : goal.returns-then-removed-eq0-clause-cursors
returns-then-removed-eq0-clause-cursors c =
    let d = (goal.at.returns-then-removed-eq0-clause-cursors c).After-netids in
    rw (unchanged _ _ _ _ (all_there d) (none_goes d c.if-removed-eq0.true), d.netids.invariant.index.cap, c.self.view_is) (goes_on_same _)

pub returns-clause-cursors : goal.returns-clause-cursors
returns-clause-cursors c =
    let d = (goal.at.returns-clause-cursors c).After-netids in
    rw (← c.self.view_is, all_there d, d.netids.invariant.index.cap) (goes_on-unset (the_view c.self.inside) (Removed c.args.prog c.args.vers c.args.which c.args.owner) c.self.invariant.stamped)

pub returns-then-removed-eq0-clause-taken : goal.returns-then-removed-eq0-clause-taken
returns-then-removed-eq0-clause-taken c =
    let d = (goal.at.returns-then-removed-eq0-clause-taken c).After-netids in
    rw (← c.self.view_is) (sym (removal_made (the_view c.self.inside) (Removed c.args.prog c.args.vers c.args.which c.args.owner) _ (sym c.if-not-is_change_left.ensures.left) (sym (none_goes d c.if-removed-eq0.true))))

pub returns-clause-taken : goal.returns-clause-taken
returns-clause-taken c =
    let d = (goal.at.returns-clause-taken c).After-netids in
    let change = Removed c.args.prog c.args.vers c.args.which c.args.owner in
    let some = some_counted (goes c.self.inside.changes change) (values_of c.self.inside.slots.entries) (λ none. c.if-removed-eq0.false (all_removed d ∙ none)) in
    rw (← c.self.view_is) (sym (removal_made (the_view c.self.inside) change true (sym c.if-not-is_change_left.ensures.left) (sym some)))

pub returns-then-removed-eq0-clause-changes : goal.returns-then-removed-eq0-clause-changes
returns-then-removed-eq0-clause-changes c own changes h =
    let d = (goal.at.returns-then-removed-eq0-clause-changes c).After-netids in
    rw (unchanged _ _ _ _ (all_there d) (none_goes d c.if-removed-eq0.true), d.netids.invariant.index.cap, c.self.view_is) h

pub returns-clause-changes : goal.returns-clause-changes
returns-clause-changes c own changes h =
    let d = (goal.at.returns-clause-changes c).After-netids in
    rw (all_there d, d.netids.invariant.index.cap)
    (after_unset (the_view c.self.inside) c.args.prog c.args.vers c.args.which c.args.owner own changes c.self.invariant.stamped c.self.invariant.made (subst (λ (kept : Registry). StandsForChanges kept own changes) (sym c.self.view_is) h))

pub returns-then-removed-eq0-clause-unchanged : goal.returns-then-removed-eq0-clause-unchanged
returns-then-removed-eq0-clause-unchanged c =
    let d = (goal.at.returns-then-removed-eq0-clause-unchanged c).After-netids in
    rw (unchanged _ _ _ _ (all_there d) (none_goes d c.if-removed-eq0.true), d.netids.invariant.index.cap) c.self.view_is

pub returns-then-removed-eq0-clause-count : goal.returns-then-removed-eq0-clause-count
returns-then-removed-eq0-clause-count c =
    let d = (goal.at.returns-then-removed-eq0-clause-count c).After-netids in
    rw (← c.self.view_is, all_there d) (as_many_marked c.self.inside.changes (Removed c.args.prog c.args.vers c.args.which c.args.owner) c.self.inside.slots.entries)

pub returns-clause-count : goal.returns-clause-count
returns-clause-count c =
    let d = (goal.at.returns-clause-count c).After-netids in
    rw (← c.self.view_is, all_there d) (as_many_marked c.self.inside.changes (Removed c.args.prog c.args.vers c.args.which c.args.owner) c.self.inside.slots.entries)

pub returns-then-removed-eq0-clause-cost : goal.returns-then-removed-eq0-clause-cost
returns-then-removed-eq0-clause-cost c = paid (goal.at.returns-then-removed-eq0-clause-cost c).After-netids

pub returns-clause-cost : goal.returns-clause-cost
returns-clause-cost c = paid (goal.at.returns-clause-cost c).After-netids
