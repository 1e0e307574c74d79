use Rattle.std.proofs.Common.{◌≡◌, ◌+◌, length, true, false, Some, None, is_some, refl, sym, ap, ◌∙◌, arith}
use Rattle.rb_xdr.specs.Pool.{value_at, with_value}
use Rattle.rb_xdr.proofs.PoolLemmas.{distinct-with, with_value-same, length-without}
use Rattle.rb_registry.specs.Index.{rank, ranks}
use Rattle.rb_xdr.specs.Meter.{Meter}
use Rattle.rb_xdr.specs.Ordered.{looks, moves}
use Rattle.rb_registry.specs.Rows.{is_among}
use Rattle.rb_registry.proofs.Ranks.{valued}
use Rattle.rb_registry.proofs.Marks.{none_among, none_here, one_here, mark_covered_here, mark_uncovered_here, slot_under, ranked_at, IsIndexed-removed, found_moves}
use Rattle.rb_registry.proofs.walk.mark_on.Goals as goal
use Rattle.rb_registry.proofs.walk.mark_on.Goals.{After-remove}

pub returns-then-not-includes-clause-marks : goal.returns-then-not-includes-clause-marks
returns-then-not-includes-clause-marks c =
    rw (none_among c.args.stamp c.args.removal.now.prog c.args.removal.now.vers c.args.removal.now.which c.args.removal.now.owner c.args.netid (sym c.if-not-includes.ensures) c.args.slots.now.entries) refl

pub returns-in_default-clause-marks : goal.returns-in_default-clause-marks
returns-in_default-clause-marks c =
    let none : value_at (ranks c.args.slots.now.entries) (rank c.args.removal.now.prog c.args.netid c.args.removal.now.vers) ≡ None =
    sym (c.requires.indexed.same _) ∙ ap (value_at c.args.index.now.entries) (sym c.rank-rank.ensures.rank) ∙ sym c.find.ensures.key ∙ c.in_default.is in
    rw (none_here c.args.stamp c.args.removal.now.prog c.args.removal.now.vers c.args.removal.now.which c.args.removal.now.owner c.args.netid c.rank-rank.ensures.vers c.args.slots.now.entries c.requires.indexed.ranked none) refl

pub unreachable-requires : goal.unreachable-requires
unreachable-requires c =
    let found : value_at (ranks c.args.slots.now.entries) c.rank-rank.result ≡ Some c.in-Some.key = sym (c.requires.indexed.same _) ∙ sym c.in-Some.ensures.key in
    let some : is_some (value_at c.args.slots.now.entries c.in-Some.key) ≡ true = valued c.args.slots.now.entries c.rank-rank.result c.in-Some.key found in
    let none : None ≡ value_at c.args.slots.now.entries c.in-Some.key = c.in_default-get.ensures.value in
    let clash : false ≡ true = rw (← none) at some in
    cc

pub returns-then-not-covers-clause-marks : goal.returns-then-not-covers-clause-marks
returns-then-not-covers-clause-marks c =
    let found : value_at (ranks c.args.slots.now.entries) (rank c.args.removal.now.prog c.args.netid c.args.removal.now.vers) ≡ Some c.in-Some.key =
    sym (c.requires.indexed.same _) ∙ ap (value_at c.args.index.now.entries) (sym c.rank-rank.ensures.rank) ∙ sym c.in-Some.ensures.key in
    let one = one_here c.args.stamp c.args.removal.now.prog c.args.removal.now.vers c.args.removal.now.which c.args.removal.now.owner c.args.netid c.rank-rank.ensures.vers
    c.in-Some.key c.in-Some-get.slot.now c.args.slots.now.entries c.requires.distinct c.requires.indexed.distinct c.requires.indexed.ranked found (sym c.in-Some-get.ensures.value) in
    let stays = mark_uncovered_here c.args.stamp c.args.removal.now.prog c.args.removal.now.vers c.args.removal.now.which c.args.removal.now.owner c.args.netid c.rank-rank.ensures.vers c.in-Some-get.slot.now (sym (rw c.as_row.ensures at c.if-not-covers.ensures)) in
    rw (one, stays, with_value-same c.args.slots.now.entries c.in-Some.key c.in-Some-get.slot.now (sym c.in-Some-get.ensures.value)) refl

found_key : (c : After-remove) → value_at (ranks c.args.slots.now.entries) c.rank-rank.result ≡ Some c.in-Some.key
found_key c = sym (c.requires.indexed.same _) ∙ sym c.in-Some.ensures.key

marked_slots : (c : After-remove) → c.mark.new.self ≡ record c.args.slots.now { entries = with_value c.args.slots.now.entries c.in-Some.key (record c.in-Some-get.slot.now { removed = Some (c.args.stamp + 1) }) }
marked_slots c = c.mark.ensures.marked c.in-Some-get.slot.now (sym c.in-Some-get.ensures.value)

pub returns-clause-marks : goal.returns-clause-marks
returns-clause-marks c =
    let found : value_at (ranks c.args.slots.now.entries) (rank c.args.removal.now.prog c.args.netid c.args.removal.now.vers) ≡ Some c.in-Some.key =
    ap (value_at (ranks c.args.slots.now.entries)) (sym c.rank-rank.ensures.rank) ∙ found_key c in
    let one = one_here c.args.stamp c.args.removal.now.prog c.args.removal.now.vers c.args.removal.now.which c.args.removal.now.owner c.args.netid c.rank-rank.ensures.vers
    c.in-Some.key c.in-Some-get.slot.now c.args.slots.now.entries c.requires.distinct c.requires.indexed.distinct c.requires.indexed.ranked found (sym c.in-Some-get.ensures.value) in
    let under = slot_under _ c.in-Some.key c.in-Some-get.slot.now c.args.slots.now.entries c.requires.distinct found (sym c.in-Some-get.ensures.value) in
    let small = ranked_at c.args.slots.now.entries c.in-Some.key c.in-Some-get.slot.now c.requires.indexed.ranked (sym c.in-Some-get.ensures.value) in
    let marked = mark_covered_here c.args.stamp c.args.removal.now.prog c.args.removal.now.vers c.args.removal.now.which c.args.removal.now.owner c.args.netid c.rank-rank.ensures.vers c.in-Some-get.slot.now small under.0 under.1 (sym (rw c.as_row.ensures at c.if-not-covers.ensures)) in
    rw (one, marked) (marked_slots c)

pub returns-clause-distinct : goal.returns-clause-distinct
returns-clause-distinct c = rw (marked_slots c) (distinct-with c.args.slots.now.entries c.in-Some.key (record c.in-Some-get.slot.now { removed = Some (c.args.stamp + 1) }) c.requires.distinct)

pub returns-clause-indexed : goal.returns-clause-indexed
returns-clause-indexed c =
    rw (c.remove.ensures.entries, marked_slots c)
    (IsIndexed-removed c.rank-rank.result c.in-Some.key c.in-Some-get.slot.now (record c.in-Some-get.slot.now { removed = Some (c.args.stamp + 1) }) c.args.slots.now.entries c.args.index.now.entries
    c.requires.indexed c.in-Some.ensures.rising c.requires.distinct (sym c.in-Some.ensures.key) (sym c.in-Some-get.ensures.value) refl refl)

pub returns-clause-removed : goal.returns-clause-removed
returns-clause-removed c =
    let fewer = length-without c.args.index.now.entries c.rank-rank.result c.in-Some.key (sym c.in-Some.ensures.key) in
    rw c.remove.ensures.entries (omega (arith, fewer))

pub returns-clause-cost : goal.returns-clause-cost
unfolding is_among
returns-clause-cost c =
    let fewer = found_moves c.rank-rank.result c.in-Some.key c.args.index.now.entries c.in-Some.ensures.rising (sym c.in-Some.ensures.key) in
    let looked : c.find.new.meter.steps ≡ c.args.meter.now.steps + looks (length c.args.index.now.entries) = ap (λ (m : Meter). m.steps) c.find.ensures.cost in
    let got : c.get.new.meter.steps ≡ c.find.new.meter.steps + 1 = ap (λ (m : Meter). m.steps) c.get.ensures.cost in
    let marked : c.mark.new.meter.steps ≡ c.get.new.meter.steps + 1 = ap (λ (m : Meter). m.steps) c.mark.ensures.cost in
    let taken : is_some c.remove.result ≡ true = ap is_some (c.remove.ensures.key ∙ sym c.in-Some.ensures.key) in
    let paid : c.remove.new.meter.steps ≡ c.mark.new.meter.steps + (looks (length c.args.index.now.entries) + moves c.rank-rank.result c.args.index.now.entries) = ap (λ (m : Meter). m.steps) (rw taken at c.remove.ensures.cost) in
    let tie = ap (λ (m : Meter). m.tie) c.remove.ensures.cost ∙ ap (λ (m : Meter). m.tie) c.mark.ensures.cost ∙ ap (λ (m : Meter). m.tie) c.get.ensures.cost ∙ ap (λ (m : Meter). m.tie) c.find.ensures.cost in
    let on : is_among c.args.netid c.args.removal.now.which ≡ true = sym c.includes.ensures ∙ c.if-not-includes.false in
    record {
      rises = omega (arith, looked, got, marked, paid);
      steps = rw on (omega (arith, fewer, looked, got, marked, paid));
      tie = tie;
    }
