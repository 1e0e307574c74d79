use Rattle.std.proofs.Common.{◌≡◌, ◌+◌, length, ap, ◌∙◌, arith}
use Rattle.rb_xdr.specs.Meter.{Meter}
use Rattle.rb_xdr.specs.Ordered.{looks}
use Rattle.rb_registry.proofs.Marks.{looks_within}
use Rattle.rb_registry.proofs.Ranks.{exact_under}
use Rattle.rb_registry.proofs.registry.Registry.find_exact.Goals as goal

pub returns-clause-found : goal.returns-clause-found
returns-clause-found c =
    rw (← c.self.view_is, c.row_under.ensures.row, c.find-key.ensures.key, c.rank.ensures.rank)
    (exact_under c.self.inside.changes c.args.prog c.args.netid c.self.inside.slots.entries c.self.invariant.distinct c.self.invariant.stamped c.self.inside.index.entries c.self.invariant.indexed c.args.vers c.rank.ensures.vers)

pub returns-clause-cost : goal.returns-clause-cost
returns-clause-cost c =
    let more = looks_within c.self.inside.slots.cap c.self.inside.slots.entries c.self.inside.index.entries c.self.invariant.indexed c.self.invariant.within in
    let looked : c.find-key.new.meter.steps ≡ c.args.meter.now.steps + looks (length c.self.inside.index.entries) = ap (λ (m : Meter). m.steps) c.find-key.ensures.cost in
    let cost = c.row_under.ensures.cost in
    record { rises = omega (arith, looked, cost.rises); steps = rw (← c.self.view_is) (omega (arith, more, looked, cost.steps)); tie = cost.tie ∙ ap (λ (m : Meter). m.tie) c.find-key.ensures.cost }
