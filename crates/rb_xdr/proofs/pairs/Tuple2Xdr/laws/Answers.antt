use Rattle.rb_xdr.proofs.Types.{pair_sound, pair_complete, pair_bounded}
use Rattle.rb_xdr.proofs.FormLaws.{pair_form}
use Rattle.rb_xdr.proofs.pairs.Tuple2Xdr.laws.Goals as goal

pub returns-clause-sound : goal.returns-clause-sound
returns-clause-sound g c = pair_sound g.A.Xdr.is_value g.A.Xdr.spelling g.A.Xdr.reads g.B.Xdr.is_value g.B.Xdr.spelling g.B.Xdr.reads c.laws.ensures.sound c.laws-2.ensures.sound

pub returns-clause-complete : goal.returns-clause-complete
returns-clause-complete g c = pair_complete g.A.Xdr.is_value g.A.Xdr.spelling g.A.Xdr.reads g.B.Xdr.is_value g.B.Xdr.spelling g.B.Xdr.reads c.laws.ensures.complete c.laws-2.ensures.complete

pub returns-clause-bounded : goal.returns-clause-bounded
returns-clause-bounded g c = pair_bounded g.A.Xdr.is_value g.A.Xdr.spelling g.A.Xdr.max_spelling g.B.Xdr.is_value g.B.Xdr.spelling g.B.Xdr.max_spelling c.laws.ensures.bounded c.laws-2.ensures.bounded

pub returns-clause-faults : goal.returns-clause-faults
returns-clause-faults g c = pair_form g.A.Xdr.reads g.A.Xdr.form g.B.Xdr.reads g.B.Xdr.form c.laws.ensures.faults c.laws-2.ensures.faults
