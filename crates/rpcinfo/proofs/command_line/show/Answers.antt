use Rattle.rb_show.specs.declared.fault.InfoFault.TheVariants.{Write, Memory}
use Rattle.rb_plans.specs.declared.fault.Fault.TheVariants.{Info}
use Rattle.rpcinfo.proofs.Endings.{ends_explained}
use Rattle.rpcinfo.proofs.command_line.show.Goals as goal

pub returns-then-eq-clause-ends : goal.returns-then-eq-clause-ends
returns-then-eq-clause-ends g c = ends_explained g.E.Write.contents _ _ _ _ _ (Info Memory) c.explain.ensures.status c.explain.ensures.said

pub returns-then-is_err-clause-ends : goal.returns-then-is_err-clause-ends
returns-then-is_err-clause-ends g c = ends_explained g.E.Write.contents _ _ _ _ _ (Info Write) c.explain-then-is_err.ensures.status c.explain-then-is_err.ensures.said
