use Rattle.std.proofs.Common.{◌≡◌, ◌+◌, ◌/◌, length, get_or, refl, arith}
use Rattle.rb_xdr.specs.Ordered.{IsRising, looks}
use Rattle.rb_xdr.proofs.Ordering.{count_within, count_low, count_high, looks_halved, looks_one, looks_none, looks_few, Halved, halved_low, halved_high}
use Rattle.rb_xdr.proofs.ordered.Ordered.place.Goals as goal
use Rattle.rb_xdr.proofs.ordered.Ordered.place.Goals.{then-index-number, else-index-number}

pub returns-then-size-eq0-clause-cost : goal.returns-then-size-eq0-clause-cost
returns-then-size-eq0-clause-cost c =
    let none : length c.args.self.now.entries ≡ 0 = rw (← c.self.view_is) (omega (arith, c.len-size.ensures, c.if-size-eq0.true)) in
    let free : c.args.meter.now.steps + looks (length c.args.self.now.entries) ≡ c.args.meter.now.steps = rw (none, looks_none) (omega arith) in
    rw free refl

pub halves-init : goal.halves-init
halves-init c =
    let most = count_within c.args.number c.args.self.now.entries in
    let all : c.len-size.result ≡ length c.args.self.now.entries = rw (← c.self.view_is) (omega (arith, c.len-size.ensures)) in
    record { some = omega arith; within = omega arith; low = omega arith; high = omega arith; looked = rw all (omega arith) }

pub overflow_add-looks : goal.overflow_add-looks
overflow_add-looks c =
    let all : c.len-size.result ≡ length c.args.self.now.entries = rw (← c.self.view_is) (omega (arith, c.len-size.ensures)) in
    let few = looks_few (length c.args.self.now.entries) 64 (rw (← all) (omega arith)) in
    let fewer = looks_halved c.halves.size c.halves-test.true in
    omega (arith, few, fewer, c.halves.invariant.looked)

pub halves-preserved : goal.halves-preserved
halves-preserved c =
    let rising : IsRising c.args.self.now.entries = rw (← c.self.view_is) c.self.invariant in
    let is : c.index.result.now ≡ get_or c.args.self.now.entries (c.halves.base + c.halves.size / 2) c.index.result.now = rw (← c.self.view_is) c.index.ensures in
    let fewer = looks_halved c.halves.size c.halves-test.true in
    let halved : Halved c.args.number c.args.self.now.entries c.halves.base c.halves.size c.index.result.now c.if-index-number.base = elim c.if-index-number.branch [
      | then-index-number w ↦ rw w.base-is (halved_low c.args.number c.args.self.now.entries c.halves.base c.halves.size c.index.result.now c.halves-test.true c.halves.invariant.within is rising c.halves.invariant.high w.if-index-number.true)
      | else-index-number w ↦ rw w.base-is (halved_high c.args.number c.args.self.now.entries c.halves.base c.halves.size c.index.result.now c.halves-test.true c.halves.invariant.within is c.halves.invariant.low w.if-index-number.false)
    ] in
    record {
      some = omega (arith, c.halves-test.true);
      within = halved.within;
      low = halved.low;
      high = halved.high;
      looked = omega (arith, fewer, c.halves.invariant.looked);
    }

pub returns-then-index-number-2-clause-count : goal.returns-then-index-number-2-clause-count
returns-then-index-number-2-clause-count c =
    let rising : IsRising c.args.self.now.entries = rw (← c.self.view_is) c.self.invariant in
    let is : c.index-2.result.now ≡ get_or c.args.self.now.entries c.halves.base c.index-2.result.now = rw (← c.self.view_is) c.index-2.ensures in
    let low = count_low c.args.number 0 c.args.self.now.entries c.halves.base c.index-2.result.now rising (omega (arith, c.halves.invariant.within, c.halves.invariant.some)) (rw (← is) c.if-index-number-2.true) in
    omega (arith, low, c.halves.invariant.high, c.halves-test.false)

pub returns-else-index-number-2-clause-count : goal.returns-else-index-number-2-clause-count
returns-else-index-number-2-clause-count c =
    let is : c.index-2.result.now ≡ get_or c.args.self.now.entries c.halves.base c.index-2.result.now = rw (← c.self.view_is) c.index-2.ensures in
    let high = count_high c.args.number c.args.self.now.entries c.halves.base c.index-2.result.now (omega (arith, c.halves.invariant.within, c.halves.invariant.some)) (rw (← is) c.if-index-number-2.false) in
    omega (arith, high, c.halves.invariant.low)

pub returns-then-index-number-2-clause-cost : goal.returns-then-index-number-2-clause-cost
returns-then-index-number-2-clause-cost c =
    let one : c.halves.size ≡ 1 = omega (arith, c.halves.invariant.some, c.halves-test.false) in
    let last : looks c.halves.size ≡ 1 = rw (one, looks_one) refl in
    let all : c.halves.looks ≡ looks (length c.args.self.now.entries) = omega (arith, last, c.halves.invariant.looked) in
    rw (c.pay.ensures, all) refl

pub returns-else-index-number-2-clause-cost : goal.returns-else-index-number-2-clause-cost
returns-else-index-number-2-clause-cost c =
    let one : c.halves.size ≡ 1 = omega (arith, c.halves.invariant.some, c.halves-test.false) in
    let last : looks c.halves.size ≡ 1 = rw (one, looks_one) refl in
    let all : c.halves.looks ≡ looks (length c.args.self.now.entries) = omega (arith, last, c.halves.invariant.looked) in
    rw (c.pay.ensures, all) refl
