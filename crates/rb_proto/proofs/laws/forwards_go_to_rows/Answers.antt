use Rattle.rb_proto.proofs.Goings.{forwards_go_to_rows}
use Rattle.rb_proto.proofs.laws.forwards_go_to_rows.Goals as goal

pub returns : goal.returns
returns c = forwards_go_to_rows
