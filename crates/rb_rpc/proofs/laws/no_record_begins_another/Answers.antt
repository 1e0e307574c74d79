use Rattle.rb_rpc.proofs.Markings.{none_begins_another}
use Rattle.rb_rpc.proofs.laws.no_record_begins_another.Goals as goal

pub returns : goal.returns
returns c = none_begins_another
