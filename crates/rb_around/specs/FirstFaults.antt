-- What is told of faults that may come again and again.
use Rattle.std.specs.Prelude.{Bool, true, false, Option, Some, None, Result, Ok, Err}
use Rattle.std.specs.declared.io.Error.{Error}
use Rattle.rb_settings.specs.declared.faults.DaemonFault.{DaemonFault}
use Rattle.rb_settings.specs.declared.faults.DaemonFault.TheVariants.{Socket}
use Rattle.rb_settings.specs.declared.faults.SocketFault.{SocketFault}
use Rattle.rb_settings.specs.declared.faults.Step.TheVariants.{Wait}

-- what is to be told after a fault: the first one, once, and no later one
abbrev pub first_fault : {F : Type 0} → Bool → Option F → F → Option F
first_fault true untold fault = untold
first_fault false untold fault = Some fault

-- of a wait
abbrev pub wait_fault : Error → SocketFault
wait_fault error = record { step = Wait; error = error }

-- how the turns ended, by the fault of one that failed
abbrev pub end_of : Option SocketFault → Result (Unit {0}) DaemonFault
end_of None = Ok tt
end_of (Some fault) = Err (Socket fault)
