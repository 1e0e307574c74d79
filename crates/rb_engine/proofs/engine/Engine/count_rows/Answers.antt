use Rattle.std.proofs.Common.{ap, ◌∙◌, length, arith}
use Rattle.rb_engine.proofs.Rows.{few_rows}
use Rattle.rb_engine.proofs.Paying.{served_of, paid_look, raised, rows_fit}
use Rattle.rb_engine.proofs.engine.Engine.count_rows.Goals as goal

pub returns-clause-count : goal.returns-clause-count
returns-clause-count c = λ s h. c.count_rows.ensures.count ∙ ap length h.ledger.registry.rows

pub count_rows-requires : goal.count_rows-requires
count_rows-requires c = omega (arith, few_rows c.args.self.now.core.core c.args.self.now.tape (served_of c.args.self.now.core c.args.self.now.tape c.args.self.now.looks.steps c.args.self.now.paid))

pub invariant_of-self : goal.invariant_of-self
invariant_of-self c = record { paid = paid_look c.args.self.now.core _ c.args.self.now.tape _ _ c.args.self.now.looks.steps _ c.count_rows.ensures.stays c.count_rows.ensures.cost (rows_fit _) (raised _ _ _ c.raise.ensures) c.args.self.now.paid; fits = c.args.self.now.fits }
