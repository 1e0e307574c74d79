use Rattle.std.proofs.Common.{inl}
use Rattle.rb_show.specs.declared.fault.InfoFault.TheVariants.{Memory}
use Rattle.rb_plans.specs.declared.fault.Fault.TheVariants.{Info}
use Rattle.rpcinfo.proofs.Endings.{explained, unread_says}
use Rattle.rpcinfo.proofs.command_line.read_matches.Goals as goal

pub returns-in_default-clause-refused : goal.returns-in_default-clause-refused
returns-in_default-clause-refused g c = inl (c.explain.ensures.status, explained g.E.Write.contents _ _ _ (Info Memory) c.explain.ensures.status c.explain.ensures.said)

pub returns-in_default-layouts_of-clause-refused : goal.returns-in_default-layouts_of-clause-refused
returns-in_default-layouts_of-clause-refused g c = inl (c.explain-in_default-layouts_of.ensures.status, explained g.E.Write.contents _ _ _ (Info Memory) c.explain-in_default-layouts_of.ensures.status c.explain-in_default-layouts_of.ensures.said)

pub returns-clause-refused : goal.returns-clause-refused
returns-clause-refused g c = unread_says g.E.Write.contents _ _ c.read_invocation.result c.read_invocation.ensures.refused
