use Rattle.rb_xdr.proofs.Types.{optional_sound, optional_complete, optional_bounded}
use Rattle.rb_xdr.proofs.FormLaws.{optional_form}
use Rattle.rb_xdr.proofs.pairs.OptionXdr.laws.Goals as goal

pub returns-clause-sound : goal.returns-clause-sound
returns-clause-sound g c = optional_sound g.A.Xdr.is_value g.A.Xdr.spelling g.A.Xdr.reads c.laws.ensures.sound

pub returns-clause-complete : goal.returns-clause-complete
returns-clause-complete g c = optional_complete g.A.Xdr.is_value g.A.Xdr.spelling g.A.Xdr.reads c.laws.ensures.complete

pub returns-clause-bounded : goal.returns-clause-bounded
returns-clause-bounded g c = optional_bounded g.A.Xdr.is_value g.A.Xdr.spelling g.A.Xdr.max_spelling c.laws.ensures.bounded

pub returns-clause-faults : goal.returns-clause-faults
returns-clause-faults g c = optional_form g.A.Xdr.reads g.A.Xdr.form c.laws.ensures.faults
