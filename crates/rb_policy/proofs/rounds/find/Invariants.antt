use Rattle.rb_policy.proofs.RoundSearch.{NoneBefore}
use Rattle.rb_policy.proofs.rounds.find.Given as goal

abbrev pub invariant-places : goal.invariant-places
invariant-places l = NoneBefore l.left l.fn.from l.key
