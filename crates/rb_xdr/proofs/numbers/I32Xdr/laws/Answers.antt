use Rattle.rb_xdr.proofs.Types.{signed_sound, signed_complete, signed_bounded}
use Rattle.rb_xdr.proofs.FormLaws.{signed_form}
use Rattle.rb_xdr.proofs.numbers.I32Xdr.laws.Goals as goal

pub returns-clause-sound : goal.returns-clause-sound
returns-clause-sound c = signed_sound

pub returns-clause-complete : goal.returns-clause-complete
returns-clause-complete c = signed_complete

pub returns-clause-bounded : goal.returns-clause-bounded
returns-clause-bounded c = signed_bounded

pub returns-clause-faults : goal.returns-clause-faults
returns-clause-faults c = signed_form
