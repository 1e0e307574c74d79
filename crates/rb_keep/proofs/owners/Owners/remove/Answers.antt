use Rattle.std.proofs.Common.{arith, rules, sym}
use Rattle.rb_xdr.proofs.PoolLemmas.{length-without}
use Rattle.rb_xdr.proofs.Ordering.{without_absent}
use Rattle.rb_keep.proofs.owners.Owners.remove.Goals as goal

pub invariant_of-self : goal.invariant_of-self
invariant_of-self c =
    let fewer = length-without c.self.inside.numbers.entries c.args.rank c.in-Some._number (sym c.in-Some.ensures.key) in
    let count = c.self.invariant.1 in
    rw c.in-Some.ensures.entries (search rules, omega (arith, fewer, count), c.self.invariant.2)

pub invariant_of-self-in-None : goal.invariant_of-self-in-None
invariant_of-self-in-None c =
    let same = without_absent c.args.rank c.self.inside.numbers.entries (sym c.in-None.ensures.key) in
    rw (c.in-None.ensures.entries, same) (search rules, c.self.invariant.1, c.self.invariant.2)
