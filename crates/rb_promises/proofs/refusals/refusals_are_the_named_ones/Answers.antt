use Rattle.rb_promises.proofs.RefusalCases.{refusals_are_the_named_ones, too_much_is_the_named_one}
use Rattle.rb_promises.proofs.refusals.refusals_are_the_named_ones.Goals as goal

pub returns-clause-refused : goal.returns-clause-refused
returns-clause-refused c = refusals_are_the_named_ones

pub returns-clause-too_much : goal.returns-clause-too_much
returns-clause-too_much c = too_much_is_the_named_one
