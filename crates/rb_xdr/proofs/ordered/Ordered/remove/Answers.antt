use Rattle.std.proofs.Common.{◌≡◌, ◌-◌, ◌<◌, length, get_or, sym, ap, ◌∙◌, arith, refl}
use Rattle.std.specs.List.{remove}
use Rattle.rb_xdr.specs.Pool.{without}
use Rattle.rb_xdr.specs.Ordered.{Ordered, IsRising}
use Rattle.rb_xdr.proofs.Ordering.{none_upto, one_upto, found_none, found_here, found_other, without_absent, remove_place, rising_without}
use Rattle.rb_xdr.proofs.ordered.Ordered.remove.Goals as goal
use Rattle.rb_xdr.proofs.ordered.Ordered.remove.Goals.{Then-place-eq0, Then-last-number, After-remove}

pub returns-then-place-eq0-clause-key : goal.returns-then-place-eq0-clause-key
returns-then-place-eq0-clause-key c =
    let rising : IsRising c.args.self.now.entries = rw (← c.self.view_is) c.self.invariant in
    found_none c.args.number c.args.self.now.entries rising (none_upto c.args.number c.args.self.now.entries c.place-place.result c.place-place.ensures.count c.if-place-eq0.true)

pub returns-then-place-eq0-clause-entries : goal.returns-then-place-eq0-clause-entries
returns-then-place-eq0-clause-entries c = rw (without_absent c.args.number c.args.self.now.entries (sym (returns-then-place-eq0-clause-key c))) refl

pub returns-then-last-number-clause-key : goal.returns-then-last-number-clause-key
returns-then-last-number-clause-key c =
    let rising : IsRising c.args.self.now.entries = rw (← c.self.view_is) c.self.invariant in
    let at : c.index.result.now ≡ get_or c.args.self.now.entries (c.place-place.result - 1) c.index.result.now = rw (← c.self.view_is) c.index.ensures in
    let last = one_upto c.args.number c.args.self.now.entries c.place-place.result c.place-place.ensures.count c.index.result.now c.if-place-eq0.false at in
    found_other c.args.number c.args.self.now.entries rising c.index.result.now last c.if-last-number.true

pub returns-then-last-number-clause-entries : goal.returns-then-last-number-clause-entries
returns-then-last-number-clause-entries c = rw (without_absent c.args.number c.args.self.now.entries (sym (returns-then-last-number-clause-key c))) refl

pub returns-clause-key : goal.returns-clause-key
returns-clause-key c =
    let rising : IsRising c.args.self.now.entries = rw (← c.self.view_is) c.self.invariant in
    let at : c.index.result.now ≡ get_or c.args.self.now.entries (c.place-place.result - 1) c.index.result.now = rw (← c.self.view_is) c.index.ensures in
    let last = one_upto c.args.number c.args.self.now.entries c.place-place.result c.place-place.ensures.count c.index.result.now c.if-place-eq0.false at in
    found_here c.args.number c.args.self.now.entries rising c.index.result.now last c.if-last-number.false

-- the vector without that place is the list without that number
is_without : (c : After-remove) → remove c.self.inside.entries.items (c.place-place.result - 1) ≡ without c.self.inside.entries.items c.args.number
is_without c =
    let within : c.place-place.result - 1 < length c.self.inside.entries.items =
    let same = ap (λ (o : Ordered). length o.entries) c.self.view_is in omega (arith, same, c.place-place.ensures.within, c.if-place-eq0.false) in
    remove_place c.args.number 0 c.self.inside.entries.items (c.place-place.result - 1) c.index.result.now c.self.invariant within (ap (λ e. e.0) (sym c.index.ensures) ∙ c.if-last-number.false)

pub invariant_of-self : goal.invariant_of-self
invariant_of-self c = rw (c.remove.ensures.items, is_without c) (rising_without c.args.number 0 c.self.inside.entries.items c.self.invariant)

pub returns-clause-entries : goal.returns-clause-entries
returns-clause-entries c = rw (c.remove.ensures.items, c.remove.ensures.capacity, is_without c) (ap (λ (o : Ordered). record o { entries = without o.entries c.args.number }) c.self.view_is)
