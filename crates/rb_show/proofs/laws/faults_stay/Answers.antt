use Rattle.rb_show.proofs.LastingFaults.{faults_stay, unreadable_stays}
use Rattle.rb_show.proofs.laws.faults_stay.Goals as goal

pub returns-clause-faults : goal.returns-clause-faults
returns-clause-faults g c = faults_stay g.T.Xdr.reads g.T.Xdr.form c.laws.ensures.faults

pub returns-clause-unreadable : goal.returns-clause-unreadable
returns-clause-unreadable g c = unreadable_stays g.T.Xdr.reads g.T.Xdr.form c.laws.ensures.faults
