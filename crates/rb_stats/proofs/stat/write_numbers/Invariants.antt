use Rattle.rb_xdr.specs.Xdr.{number}
use Rattle.rb_stats.proofs.Writing.{Writing}
use Rattle.rb_stats.proofs.stat.write_numbers.Given as goal

abbrev pub invariant-loop-number : goal.invariant-loop-number
invariant-loop-number l = Writing number l.numbers l.number-index l.fn.out l.out l.fn.meter l.meter
