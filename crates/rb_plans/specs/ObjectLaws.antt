-- What is asked if the words ask for objects, and what is written of a reply on standard input.
use Rattle.std.specs.Prelude.{◌≡◌, ◌≢◌, ℕ, true, List, Option, Some, Result, Ok, Err}
use Rattle.std.specs.Borrow.{Bor}
use Rattle.rb_rpc.specs.declared.reply.ReplyStatus.{ReplyStatus}
use Rattle.rb_words.specs.declared.services.Service.{Service}
use Rattle.rb_words.specs.declared.plan.Plan.{Plan}
use Rattle.rb_words.specs.declared.plan.Request.{Request}
use Rattle.rb_words.specs.declared.plan.Source.{Source}
use Rattle.rb_words.specs.declared.shape.Shape.{Shape}
use Rattle.rb_words.specs.Words.{request_of}
use Rattle.rb_show.specs.declared.fault.InfoFault.TheVariants.{Write}
use Rattle.rb_show.specs.declared.ask.Ask.{Ask}
use Rattle.rb_show.specs.declared.ask.Question.{Question}
use Rattle.rb_show.specs.declared.form.Form.TheVariants.{Json}
use Rattle.rb_show.specs.declared.show.Shown.{Shown}
use Rattle.rb_show.specs.ObjectLaws.{has_objects, WritesObjects}
use Rattle.rb_plans.specs.Fallback.{fallback}
use Rattle.rb_plans.specs.declared.fault.Fault.{Fault}
use Rattle.rb_plans.specs.declared.fault.Fault.TheVariants.{Info}
use Rattle.rb_plans.specs.Input.{tell_text}
use Rattle.rb_plans.specs.Plans.{plan_question}
use Rattle.rb_plans.specs.Told.{IsToldAs}
use Rattle.rb_plans.specs.Invocations.{form_of}

-- the plan has one question, and objects are shown of its reply
pub record AsksForObjects (plan : Plan) : Type 0 where
  pub source : Source
  pub question : Question
  pub is : plan_question plan ≡ Some (source, question)
  pub has : has_objects question ≡ true

-- Words that are read want objects only of such a plan.
abbrev pub ObjectsAreAskedFor : Type 0
ObjectsAreAskedFor = (shape : Shape) (request : Request) (services : Bor (List Service)) → request_of shape ≡ Ok request → form_of request services ≡ Json → AsksForObjects request.plan

-- If version 2 is asked in its place, objects are shown too.
abbrev pub VersionTwoHasObjects : Type 0
VersionTwoHasObjects = (question old : Question) (status : ReplyStatus) → has_objects question ≡ true → fallback question status ≡ Some old → has_objects old ≡ true

-- What is written of a reply on standard input is whole lines of objects, whatever the text is, unless the output failed.
abbrev pub TextsAreShownAsObjects : Type 0
TextsAreShownAsObjects =
    (ask : Ask) (text : List ℕ) (old new : Option (List ℕ)) (answer : Result Shown Fault) → has_objects ask.question ≡ true → IsToldAs (tell_text ask Json text) old new answer
    → answer ≢ Err (Info Write) → WritesObjects old new
