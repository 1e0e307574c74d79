-- An answer whose lines are written out.
use Rattle.std.proofs.Common.{ℕ, List, Option, Some, None, Result}
use Rattle.rb_words.specs.declared.plan.Source.{Source}
use Rattle.rb_words.specs.declared.plan.Source.TheVariants.{Here, Input, Named}
use Rattle.rb_show.specs.declared.ask.Question.{Question}
use Rattle.rb_show.specs.declared.show.Shown.{Shown}
use Rattle.rb_plans.specs.declared.fault.Fault.{Fault}
use Rattle.rb_plans.specs.declared.invocation.Invocation.{Invocation}
use Rattle.rb_plans.specs.Plans.{plan_question}
use Rattle.rb_plans.specs.Invocations.{ask_of}
use Rattle.rb_plans.specs.Told.{ShowsAs, IsFlushed}
use Rattle.rb_plans.proofs.Flushes.{known_out}
use Rattle.rpcinfo.specs.Running.{OfSource, Answers}

-- what holds of an answer holds of it once its lines are out
pub answers_out : {I O : Type 0} (remaining : I → Option (List ℕ)) (contents : O → Option (List ℕ)) (words : Invocation) (input : I) (output output' output'' : O) (answer result : Result Shown Fault)
    → Answers remaining contents words input output output' answer → IsFlushed contents output' output'' answer result → Answers remaining contents words input output output'' result
answers_out {I} {O} remaining contents words input output output' output'' answer result p f = by_source (plan_question words.request.plan) p
  where
    by_source : (asked : Option (Source × Question)) → OfSource asked (λ question. ShowsAs remaining contents (ask_of words question) words.form input output output' answer)
        → OfSource asked (λ question. ShowsAs remaining contents (ask_of words question) words.form input output output'' result)
    by_source (Some (Input, question)) p = known_out (remaining input) (ask_of words question) words.form (contents output) (contents output') (contents output'') answer result f.kept f.same p
    by_source (Some (Here, question)) p = tt
    by_source (Some (Named, question)) p = tt
    by_source None p = tt
