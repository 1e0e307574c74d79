use Rattle.rb_registry.proofs.VersionsLeft.{none_left, row_and_left, stands_there, passes_more, is_within}
use Rattle.rb_registry.proofs.registry.Registry.next_of.Goals as goal

pub returns-in-Some-clause-row : goal.returns-in-Some-clause-row
returns-in-Some-clause-row c = row_and_left _ _ _ _ c.self.view_is c.key.ensures c.args.version.now.prog c.args.version.now.vers c.self.invariant.distinct c.self.invariant.stamped c.requires.place _ _ c.in-Some.ensures.next _ c.behind.ensures

pub returns-in-Some-clause-place : goal.returns-in-Some-clause-place
returns-in-Some-clause-place c = stands_there _ _ _ _ c.self.view_is c.key.ensures c.args.version.now.prog c.args.version.now.vers c.self.invariant.distinct c.self.invariant.stamped c.requires.place _ _ c.in-Some.ensures.next _ c.behind.ensures

pub returns-in-Some-clause-passed : goal.returns-in-Some-clause-passed
returns-in-Some-clause-passed c = passes_more _ _ _ _ c.self.view_is c.key.ensures c.args.version.now.prog c.args.version.now.vers c.self.invariant.distinct c.self.invariant.stamped c.requires.place _ _ c.in-Some.ensures.next _ c.behind.ensures

pub returns-in-Some-clause-within : goal.returns-in-Some-clause-within
returns-in-Some-clause-within c = is_within _ _ _ _ c.self.view_is c.key.ensures c.args.version.now.prog c.args.version.now.vers c.self.invariant.distinct c.self.invariant.stamped c.requires.place _ _ c.in-Some.ensures.next _ c.behind.ensures

pub returns-in-None-clause-end : goal.returns-in-None-clause-end
returns-in-None-clause-end c = none_left _ _ _ _ c.self.view_is c.key.ensures c.args.version.now.prog c.args.version.now.vers c.self.invariant.distinct c.self.invariant.stamped c.requires.place c.in-None.ensures.next
