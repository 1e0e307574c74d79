use Rattle.rb_rpc.specs.Records.{data_of}
use Rattle.rb_connections.proofs.reading.Intake.feed_run.Goals as goal

pub returns-in-Data-clause-data : goal.returns-in-Data-clause-data
returns-in-Data-clause-data c = λ fed h.
    let joined = rw c.in-Data.is at (c.next_run-run.ensures.data fed h.marks_are) in
    rw joined (c.feed_data.ensures.data (data_of fed) h.data_is)
