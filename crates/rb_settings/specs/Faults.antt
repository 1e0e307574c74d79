-- What a step with sockets is called.
use Rattle.std.specs.Prelude.{ℕ, List, ◌++◌, codes}
use Rattle.std.specs.Net.Text.{socket_text}
use Rattle.rb_settings.specs.declared.faults.Step.{Step}
use Rattle.rb_settings.specs.declared.faults.Step.TheVariants.{BindTcp, BindUdp, BindLocal, Prepare, Wait, Accept, Clock, Random}

-- FAULT-3
abbrev pub step_text : Step → List ℕ
step_text (BindTcp address) = codes "bind TCP " ++ socket_text address
step_text (BindUdp address) = codes "bind UDP " ++ socket_text address
step_text BindLocal = codes "bind the local socket"
step_text Prepare = codes "prepare for events"
step_text Wait = codes "wait for events"
step_text Accept = codes "accept a connection"
step_text Clock = codes "read the clock"
step_text Random = codes "read randomness"
