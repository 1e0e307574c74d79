use Rattle.std.proofs.Common.{◌≡◌, ◌-◌, ◌<◌, length, get_or, sym, arith}
use Rattle.std.proofs.lemmas.Bool.Decides.{nat_tests}
use Rattle.rb_xdr.specs.Ordered.{IsRising}
use Rattle.rb_xdr.proofs.Ordering.{none_upto, one_upto, found_none, found_here, found_other, found_at}
use Rattle.rb_xdr.proofs.ordered.Ordered.find_at.Goals as goal

pub returns-then-there-number-clause-key : goal.returns-then-there-number-clause-key
returns-then-there-number-clause-key c =
    let within : c.args.place.now < length c.self.inside.entries.items = rw (← c.deref.ensures.value) (grind (arith, nat_tests, c.in-Some.ensures.lookup.0)) in
    let here = rw c.deref.ensures.value at c.in-Some.ensures.lookup.1 in
    rw (← c.if-there-number.true, ← c.self.view_is) (sym (found_at 0 c.self.inside.entries.items c.self.invariant c.args.place.now c.in-Some.field-0.now within here))

pub returns-then-place-eq0-clause-key : goal.returns-then-place-eq0-clause-key
returns-then-place-eq0-clause-key c =
    let rising : IsRising c.args.self.now.entries = rw (← c.self.view_is) c.self.invariant in
    found_none c.args.number c.args.self.now.entries rising (none_upto c.args.number c.args.self.now.entries c.place.result c.place.ensures.count c.if-place-eq0.true)

pub returns-then-last-number-clause-key : goal.returns-then-last-number-clause-key
returns-then-last-number-clause-key c =
    let rising : IsRising c.args.self.now.entries = rw (← c.self.view_is) c.self.invariant in
    let at : c.index.result.now ≡ get_or c.args.self.now.entries (c.place.result - 1) c.index.result.now = rw (← c.self.view_is) c.index.ensures in
    let last = one_upto c.args.number c.args.self.now.entries c.place.result c.place.ensures.count c.index.result.now c.if-place-eq0.false at in
    found_here c.args.number c.args.self.now.entries rising c.index.result.now last c.if-last-number.true

pub returns-else-last-number-clause-key : goal.returns-else-last-number-clause-key
returns-else-last-number-clause-key c =
    let rising : IsRising c.args.self.now.entries = rw (← c.self.view_is) c.self.invariant in
    let at : c.index.result.now ≡ get_or c.args.self.now.entries (c.place.result - 1) c.index.result.now = rw (← c.self.view_is) c.index.ensures in
    let last = one_upto c.args.number c.args.self.now.entries c.place.result c.place.ensures.count c.index.result.now c.if-place-eq0.false at in
    found_other c.args.number c.args.self.now.entries rising c.index.result.now last c.if-last-number.false
