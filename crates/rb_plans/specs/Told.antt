-- Answers to a question whose reply is on standard input, and answers that are written out.
use Rattle.std.specs.Prelude.{◌≡◌, ◌⊎◌, ℕ, List, Option, IfSome, Result, Ok, Err}
use Rattle.std.specs.Io.KnownBytes.{Keeps}
use Rattle.rb_show.specs.declared.fault.InfoFault.TheVariants.{Write}
use Rattle.rb_show.specs.Telling.{Told}
use Rattle.rb_show.specs.declared.ask.Ask.{Ask}
use Rattle.rb_show.specs.declared.ask.Question.{Question}
use Rattle.rb_show.specs.declared.form.Form.{Form}
use Rattle.rb_show.specs.declared.show.Shown.{Shown}
use Rattle.rb_plans.specs.declared.fault.Fault.{Fault}
use Rattle.rb_plans.specs.declared.fault.Fault.TheVariants.{Info, NoConnection, NoSocket, NoReply, NoHost, NoAddress, NotAvailable, NoProgram, TooManyVersions, TooManyRoutes, SomeLack}
use Rattle.rb_plans.specs.declared.invocation.Invocation.{Invocation}
use Rattle.rb_plans.specs.Input.{tell_text, IsToldOr}
use Rattle.rb_plans.specs.Invocations.{ask_of}

-- the lines were written, as far as the answer says; without a socket there is no other fault
abbrev pub IsToldAs : Told Shown → Option (List ℕ) → Option (List ℕ) → Result Shown Fault → Type 0
IsToldAs told old new (Ok shown) = IsToldOr told old new (Ok shown)
IsToldAs told old new (Err (Info fault)) = IsToldOr told old new (Err fault)
IsToldAs told old new (Err NoConnection) = ⊥
IsToldAs told old new (Err NoSocket) = ⊥
IsToldAs told old new (Err NoReply) = ⊥
IsToldAs told old new (Err NoHost) = ⊥
IsToldAs told old new (Err (NoAddress family)) = ⊥
IsToldAs told old new (Err TooManyVersions) = ⊥
IsToldAs told old new (Err TooManyRoutes) = ⊥
IsToldAs told old new (Err (NotAvailable prog vers why)) = ⊥
IsToldAs told old new (Err (NoProgram prog why)) = ⊥
IsToldAs told old new (Err SomeLack) = ⊥

-- if the text that the input has is known, what its reply tells is written
abbrev pub ShowsAs : {I O : Type 0} → (I → Option (List ℕ)) → (O → Option (List ℕ)) → Ask → Form → I → O → O → Result Shown Fault → Type 0
ShowsAs remaining contents ask form input output output' answer =
    IfSome (remaining input) (λ text. IsToldAs (tell_text ask form text) (contents output) (contents output') answer)

-- the same of a question of the user that the words name, in their form
-- INPUT-1
abbrev pub Asks : {I O : Type 0} → (I → Option (List ℕ)) → (O → Option (List ℕ)) → Invocation → Question → I → O → O → Result Shown Fault → Type 0
Asks remaining contents words question input output output' answer = ShowsAs remaining contents (ask_of words question) words.form input output output' answer

-- the same answer, or that the writer failed in place of what was shown
abbrev pub IsOut : Result Shown Fault → Result Shown Fault → Type 0
IsOut (Ok shown) result = (result ≡ Ok shown) ⊎ (result ≡ Err (Info Write))
IsOut (Err fault) result = result ≡ Err fault

pub record IsFlushed {O : Type 0} (contents : O → Option (List ℕ)) (output output' : O) (answer result : Result Shown Fault) : Type 0 where
  pub kept : Keeps (contents output) (contents output')
  pub same : IsOut answer result
