use Rattle.std.proofs.Common.{arith, rules}
use Rattle.rb_xdr.proofs.Ordering.{length-with_number}
use Rattle.rb_keep.proofs.owners.Owners.add.Goals as goal

pub invariant_of-self : goal.invariant_of-self
invariant_of-self c =
    let more = length-with_number c.args.rank c.owner_number.result c.self.inside.numbers.entries in
    let count = c.self.invariant.1 in
    rw c.in-Ok.ensures.ok (search rules, omega (arith, more, count), c.self.invariant.2)
