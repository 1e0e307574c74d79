use Rattle.rb_xdr.proofs.Readers.{number_sound, number_complete}
use Rattle.rb_xdr.proofs.Types.{number_bounded}
use Rattle.rb_xdr.proofs.numbers.U32Xdr.laws.Goals as goal

pub returns-clause-sound : goal.returns-clause-sound
returns-clause-sound c = number_sound

pub returns-clause-complete : goal.returns-clause-complete
returns-clause-complete c = number_complete

pub returns-clause-bounded : goal.returns-clause-bounded
returns-clause-bounded c = number_bounded
