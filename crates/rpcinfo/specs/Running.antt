-- What the command does with words that were read.
use Rattle.std.specs.Prelude.{◌≡◌, ◌≤◌, ◌⊎◌, ℕ, false, List, ◌++◌, Option, Some, None, Result, ⊤}
use Rattle.std.specs.declared.io.ErrorKind.{ErrorKind}
use Rattle.std.specs.declared.io.ErrorKind.TheVariants.{OutOfMemory}
use Rattle.rb_words.specs.declared.plan.Plan.{Plan}
use Rattle.rb_words.specs.declared.plan.Source.{Source}
use Rattle.rb_words.specs.declared.plan.Source.TheVariants.{Here, Input, Named}
use Rattle.rb_show.specs.declared.ask.Question.{Question}
use Rattle.rb_show.specs.declared.fault.InfoFault.TheVariants.{Memory}
use Rattle.rb_show.specs.declared.show.Shown.{Shown}
use Rattle.rb_plans.specs.declared.ending.Ending.{Ending}
use Rattle.rb_plans.specs.declared.ending.Notices.{Notices}
use Rattle.rb_plans.specs.declared.fault.Fault.{Fault}
use Rattle.rb_plans.specs.declared.invocation.Invocation.{Invocation}
use Rattle.rb_plans.specs.declared.fault.Fault.TheVariants.{Info}
use Rattle.rb_plans.specs.Ending.{notice_lines, status_of, answer_lines, fault_lines, text_line, IsNothing, Says}
use Rattle.rb_plans.specs.Plans.{plan_question}
use Rattle.rb_plans.specs.Told.{Asks}

-- ---- a reply on standard input

-- what holds of the question of a plan whose reply is on standard input
abbrev pub OfSource : Option (Source × Question) → (Question → Type 0) → Type 0
OfSource (Some (Input, question)) Holds = Holds question
OfSource (Some (Here, question)) Holds = ⊤
OfSource (Some (Named, question)) Holds = ⊤
OfSource None Holds = ⊤

abbrev pub OfInput : Plan → (Question → Type 0) → Type 0
OfInput plan Holds = OfSource (plan_question plan) Holds

-- If the words name standard input and its text is known, the answer is what the reply in it tells. Of an answer
-- over sockets nothing is said.
-- INPUT-1: With `-` the question of the words is answered from the text.
abbrev pub Answers : {I O : Type 0} → (I → Option (List ℕ)) → (O → Option (List ℕ)) → Invocation → I → O → O → Result Shown Fault → Type 0
Answers remaining contents words input output output' answer =
    OfInput words.request.plan (λ question. Asks remaining contents words question input output output' answer)

-- nothing needs to be noticed
abbrev pub no_notices : Notices
no_notices = record { answered = None; is_old = false }

-- so it is of a reply on standard input
abbrev pub IsSilent : Invocation → Notices → Type 0
IsSilent words notices = OfInput words.request.plan (λ question. notices ≡ no_notices)

-- ---- the end

-- What was said is the lines of what there was to notice, and of what is wrong.
pub record IsExplained {E : Type 0} (contents : E → Option (List ℕ)) (faults faults' : E) (ending : Ending) : Type 0 where
  pub answer : Result Shown Fault
  pub notices : Notices
  pub status : ending.status ≡ status_of answer
  pub said : Says contents faults faults' ending (notice_lines notices ++ answer_lines answer)

-- what was said is the lines of what there was to notice; without that nothing was
pub record IsNoticed {E : Type 0} (contents : E → Option (List ℕ)) (faults faults' : E) (ending : Ending) : Type 0 where
  pub notices : Notices
  pub quiet : IsNothing notices → faults' ≡ faults
  pub said : Says contents faults faults' ending (notice_lines notices)

-- a fault was explained, or the words can't be read
abbrev pub EndsSaying : {E : Type 0} → (E → Option (List ℕ)) → E → E → Ending → Type 0
EndsSaying contents faults faults' ending = ((ending.status ≡ 1) × IsExplained contents faults faults' ending) ⊎ (ending.status ≡ 2)

-- How it ends without words that were read: by help, by a fault, or by words that can't be read.
-- STATUS-5: Words that can't be read end the command with status 2; nothing is read of standard
-- input, and nothing written to the output.
pub record EndsUnread {O E : Type 0} (contents : E → Option (List ℕ)) (output output' : O) (faults faults' : E) (ending : Ending) : Type 0 where
  pub status : ending.status ≤ 2
  pub quiet : ending.status ≡ 0 → faults' ≡ faults
  pub failed : ending.status ≡ 1 → IsExplained contents faults faults' ending
  pub unwritten : ending.status ≡ 2 → output' ≡ output

-- How it ends without words: by lack of memory, or since one is no text.
-- STATUS-3
abbrev pub EndsWithout : {E : Type 0} → (E → Option (List ℕ)) → E → E → Ending → ErrorKind → Type 0
EndsWithout contents faults faults' ending OutOfMemory =
    (ending.status ≡ 1) × Says contents faults faults' ending (fault_lines (Info Memory))
EndsWithout contents faults faults' ending _ = (ending.status ≡ 2) × Says contents faults faults' ending text_line
