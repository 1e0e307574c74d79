-- How `serve` ended, by what was told last.
use Rattle.std.proofs.Common.{◌≡◌, ℕ, List, Option, Result, inl, inr}
use Rattle.rb_lines.specs.declared.faults.Ending.{Ending}
use Rattle.rb_settings.specs.declared.settings.Settings.{Settings}
use Rattle.rb_settings.specs.declared.faults.DaemonFault.{DaemonFault}
use Rattle.rb_startup.specs.declared.ending.StartFault.{StartFault}
use Rattle.rb_startup.specs.Ends.{status_of, end_at_start, end_after}
use Rattle.rb_startup.specs.Faults.{TellsStart, TellsTurns, EndsServe, EndsAfterTurns}

pub ends_by_start : {E : Type 0} (contents : E → Option (List ℕ)) (before new : E) (settings : Settings) (ending : Ending) (fault : StartFault)
    → ending.status ≡ status_of (end_at_start fault)
    → TellsStart settings contents before new ending.is_told fault
    → EndsServe contents new ending
ends_by_start contents before new settings ending fault status told =
    inl (record { before = before; settings = settings; fault = fault; status = status; told = told })

pub ends_after_turns : {E : Type 0} (contents : E → Option (List ℕ)) (before new : E) (settings : Settings) (ending : Ending) (turns : Result (Unit {0}) DaemonFault)
    → ending.status ≡ status_of (end_after turns)
    → TellsTurns settings contents before new ending.is_told turns
    → EndsAfterTurns contents new ending
ends_after_turns contents before new settings ending turns status told =
    record { before = before; settings = settings; turns = turns; status = status; told = told }

pub ends_turned : {E : Type 0} (contents : E → Option (List ℕ)) (new : E) (ending : Ending)
    → EndsAfterTurns contents new ending → EndsServe contents new ending
ends_turned contents new ending after = inr after
