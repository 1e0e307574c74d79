use Rattle.rb_xdr.proofs.Ordering.{looks_few}
use Rattle.rb_xdr.proofs.laws.few_looks.Goals as goal

pub returns : goal.returns
returns c = looks_few
