use Rattle.std.proofs.Common.{◌≡◌, ℕ, length, ap, ◌∙◌, arith}
use Rattle.rb_xdr.specs.Ordered.{looks}
use Rattle.rb_xdr.specs.Pool.{value_at}
use Rattle.rb_registry.specs.Registry.{rows_of}
use Rattle.rb_registry.specs.Index.{rank}
use Rattle.rb_registry.specs.Versions.{later_at}
use Rattle.rb_registry.proofs.Marks.{as_many}
use Rattle.rb_registry.proofs.registry.Registry.place_on.Goals as goal

pub returns-clause-place : goal.returns-clause-place
returns-clause-place c =
    rw (← c.self.view_is)
    (c.place_under.ensures.place
    ∙ ap (later_at 0 c.self.inside.slots.entries) (c.find_at-key.ensures.key ∙ ap (value_at c.self.inside.index.entries) c.rank.ensures.rank ∙ c.self.invariant.indexed.same (rank c.args.prog c.args.netid c.args.vers)))

pub returns-clause-cost : goal.returns-clause-cost
returns-clause-cost c =
    let rows = as_many c.self.inside.changes c.self.inside.slots.entries c.self.inside.index.entries c.self.invariant.indexed c.self.invariant.stamped in
    let same : looks (length c.self.inside.index.entries) ≡ looks (length (rows_of c.args.self.now)) = rw (← c.self.view_is) (ap (λ (n : ℕ). looks n) rows) in
    let looked = c.find_at-key.ensures.cost in
    record {
      rises = omega (arith, looked.rises, c.place_under.ensures.cost.rises);
      steps = omega (arith, same, looked.steps, c.place_under.ensures.cost.steps);
      tie = c.place_under.ensures.cost.tie ∙ looked.tie;
    }
