use Rattle.rb_rpc.proofs.RecordCuts.{stays, ends_later}
use Rattle.rb_rpc.proofs.laws.first_record_of_more.Goals as goal

pub returns-clause-stays : goal.returns-clause-stays
returns-clause-stays c = stays

pub returns-clause-later : goal.returns-clause-later
returns-clause-later c = ends_later
