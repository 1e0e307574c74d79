use Rattle.rb_arguments.proofs.Readings.{rpcb_sound, rpcb_complete, rpcb_bounded, rpcb_has_form}
use Rattle.rb_arguments.proofs.rpcb.RpcbXdr.laws.Goals as goal

pub returns-clause-sound : goal.returns-clause-sound
returns-clause-sound c = rpcb_sound

pub returns-clause-complete : goal.returns-clause-complete
returns-clause-complete c = rpcb_complete

pub returns-clause-bounded : goal.returns-clause-bounded
returns-clause-bounded c = rpcb_bounded

pub returns-clause-faults : goal.returns-clause-faults
returns-clause-faults c = rpcb_has_form
