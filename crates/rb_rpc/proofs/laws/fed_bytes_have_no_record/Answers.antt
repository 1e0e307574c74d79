use Rattle.rb_rpc.proofs.Feeding.{none_ended}
use Rattle.rb_rpc.proofs.laws.fed_bytes_have_no_record.Goals as goal

pub returns : goal.returns
returns c = none_ended
