use Rattle.std.proofs.Common.{arith, ◌∙◌, sym}
use Rattle.std.proofs.lemmas.Map.Entries.{length-values_of}
use Rattle.rb_registry.proofs.Tables.{live_and_retained}
use Rattle.rb_registry.proofs.registry.Registry.len.Goals as goal

pub overflow_sub-result : goal.overflow_sub-result
overflow_sub-result c =
    let whole = live_and_retained c.self.inside.changes c.self.inside.slots.entries c.self.invariant.stamped in
    omega (arith, whole, c.len.ensures.len, c.self.invariant.are_retained)

pub returns-clause-len : goal.returns-clause-len
returns-clause-len c =
    let whole = live_and_retained c.self.inside.changes c.self.inside.slots.entries c.self.invariant.stamped in
    rw (← c.self.view_is) (omega (arith, whole, c.len.ensures.len, c.self.invariant.are_retained))

pub returns-clause-counted : goal.returns-clause-counted
returns-clause-counted c =
    rw (← c.self.view_is) (live_and_retained c.self.inside.changes c.self.inside.slots.entries c.self.invariant.stamped ∙ sym (length-values_of c.self.inside.slots.entries))

pub returns-clause-few : goal.returns-clause-few
returns-clause-few c = rw (← c.self.view_is) (omega (arith, c.self.invariant.within, length-values_of c.self.inside.slots.entries))
