use Rattle.rb_engine.proofs.Noting.{change_written, owners_noted}
use Rattle.rb_engine.proofs.writing.write_change.Goals as goal

pub returns-clause-written : goal.returns-clause-written
returns-clause-written g c = λ s h other.
    change_written c.args.core.now.core s h c.args.prog c.args.vers other c.clock-now.result c.clock-now.ensures.value c.args.owners.now _ _ c.in_ok-write_on_each.ensures.written

pub returns-clause-owners : goal.returns-clause-owners
returns-clause-owners g c = λ s h other.
    owners_noted c.args.core.now.core s h c.args.prog c.args.vers other c.args.owners.now _ c.in_ok-write_on_each.ensures.owners

pub returns-clause-stays : goal.returns-clause-stays
returns-clause-stays g c = c.write_on_each.ensures.stays
