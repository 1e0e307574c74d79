use Rattle.rb_xdr.proofs.Types.{bool_sound, bool_complete, bool_bounded}
use Rattle.rb_xdr.proofs.numbers.BoolXdr.laws.Goals as goal

pub returns-clause-sound : goal.returns-clause-sound
returns-clause-sound c = bool_sound

pub returns-clause-complete : goal.returns-clause-complete
returns-clause-complete c = bool_complete

pub returns-clause-bounded : goal.returns-clause-bounded
returns-clause-bounded c = bool_bounded
