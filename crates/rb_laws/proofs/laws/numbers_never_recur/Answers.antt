use Rattle.rb_laws.proofs.Numbers.{numbers_rise}
use Rattle.rb_laws.proofs.laws.numbers_never_recur.Goals as goal

pub returns : goal.returns
returns c = numbers_rise
