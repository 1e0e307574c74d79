use Rattle.rb_proto.proofs.Notes.{forwards_are_noted_once}
use Rattle.rb_proto.proofs.laws.forwards_are_noted_once.Goals as goal

pub returns : goal.returns
returns c = forwards_are_noted_once
