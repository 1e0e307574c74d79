use Rattle.rb_arguments.proofs.Readings.{netbuf_sound, netbuf_complete, netbuf_bounded, netbuf_has_form}
use Rattle.rb_arguments.proofs.netbuf.NetbufXdr.laws.Goals as goal

pub returns-clause-sound : goal.returns-clause-sound
returns-clause-sound c = netbuf_sound

pub returns-clause-complete : goal.returns-clause-complete
returns-clause-complete c = netbuf_complete

pub returns-clause-bounded : goal.returns-clause-bounded
returns-clause-bounded c = netbuf_bounded

pub returns-clause-faults : goal.returns-clause-faults
returns-clause-faults c = netbuf_has_form
