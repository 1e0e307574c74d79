use Rattle.rb_rpc.proofs.Markings.{data_is_joined}
use Rattle.rb_rpc.proofs.laws.data_is_joined.Goals as goal

pub returns : goal.returns
returns c = data_is_joined
