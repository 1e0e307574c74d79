use Rattle.std.proofs.Common.{◌≡◌, ◌-◌, get_or}
use Rattle.rb_xdr.proofs.Ordering.{none_upto, one_upto}
use Rattle.rb_xdr.proofs.ordered.Ordered.last_upto.Goals as goal

pub returns-then-place-eq0-clause-last : goal.returns-then-place-eq0-clause-last
returns-then-place-eq0-clause-last c = none_upto c.args.number c.args.self.now.entries c.place-place.result c.place-place.ensures.count c.if-place-eq0.true

pub returns-clause-last : goal.returns-clause-last
returns-clause-last c =
    let at : c.index.result.now ≡ get_or c.args.self.now.entries (c.place-place.result - 1) c.index.result.now = rw (← c.self.view_is) c.index.ensures in
    one_upto c.args.number c.args.self.now.entries c.place-place.result c.place-place.ensures.count c.index.result.now c.if-place-eq0.false at

pub returns-then-place-eq0-clause-rising : goal.returns-then-place-eq0-clause-rising
returns-then-place-eq0-clause-rising c = rw (← c.self.view_is) c.self.invariant

pub returns-clause-rising : goal.returns-clause-rising
returns-clause-rising c = rw (← c.self.view_is) c.self.invariant
