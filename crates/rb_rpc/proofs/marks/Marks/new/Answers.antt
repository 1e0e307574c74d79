use Rattle.rb_rpc.proofs.Feeding.{stream_begins}
use Rattle.rb_rpc.proofs.marks.Marks.new.Goals as goal

pub returns-clause-stream : goal.returns-clause-stream
returns-clause-stream c = stream_begins
