use Rattle.rb_registry.proofs.Cursors.{stands_at_row, no_row_left, row_given, one_passed, stands_next, within_rows}
use Rattle.rb_registry.proofs.registry.Registry.next_mapped.Goals as goal

pub live_mapped_after-requires-clause-there : goal.live_mapped_after-requires-clause-there
live_mapped_after-requires-clause-there c = stands_at_row _ _ _ _ _ c.self.view_is c.key.ensures c.self.invariant.distinct c.requires.place

pub returns-in-Some-clause-row : goal.returns-in-Some-clause-row
returns-in-Some-clause-row c = row_given _ _ _ _ _ c.self.view_is c.key.ensures c.self.invariant.distinct c.requires.place _ _ c.in-Some.ensures.next _ c.behind.ensures

pub returns-in-Some-clause-place : goal.returns-in-Some-clause-place
returns-in-Some-clause-place c = stands_next _ _ _ _ _ c.self.view_is c.key.ensures c.self.invariant.distinct c.requires.place _ _ c.in-Some.ensures.next _ c.behind.ensures

pub returns-in-Some-clause-passed : goal.returns-in-Some-clause-passed
returns-in-Some-clause-passed c = one_passed _ _ _ _ _ c.self.view_is c.key.ensures c.self.invariant.distinct c.requires.place _ _ c.in-Some.ensures.next _ c.behind.ensures

pub returns-in-Some-clause-within : goal.returns-in-Some-clause-within
returns-in-Some-clause-within c = within_rows _ _ _ _ _ c.self.view_is c.key.ensures c.self.invariant.distinct c.requires.place _ _ c.in-Some.ensures.next _ c.behind.ensures

pub returns-in-None-clause-end : goal.returns-in-None-clause-end
returns-in-None-clause-end c = no_row_left _ _ _ _ _ c.self.view_is c.key.ensures c.self.invariant.distinct c.requires.place c.in-None.ensures.next
