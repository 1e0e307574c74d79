-- Words that run nothing.
use Rattle.std.specs.Prelude.{IfErr}
use Rattle.std.proofs.Common.{◌≡◌, ℕ, List, Option, Result, Ok, Err, refl}
use Rattle.clap.specs.declared.error.kind.ErrorKind.TheVariants as kinds
use Rattle.rb_lines.specs.declared.faults.Ending.{Ending}
use Rattle.rb_lines.specs.declared.faults.Fault.TheVariants.{NoMemory}
use Rattle.rb_commands.specs.Faults.{EndsByFault, EndsUnrun}

pub no_memory : {E O : Type 0} (contents : E → Option (List ℕ)) (faults faults' : E) (output : O) (ending : Ending)
    → EndsByFault contents faults faults' ending NoMemory → EndsUnrun contents faults faults' output output ending
no_memory contents faults faults' output ending ends = record { kind = kinds.OutOfMemory; ends = ends }

pub unread : {A E O : Type 0} (contents : E → Option (List ℕ)) (faults faults' : E) (output : O) (read : Result A Ending)
    → IfErr read (λ ending. ending.status ≡ 2) → IfErr read (EndsUnrun contents faults faults' output output)
unread contents faults faults' output (Ok words) h = h
unread contents faults faults' output (Err ending) h = record { kind = kinds.InvalidValue; ends = (h, refl) }
