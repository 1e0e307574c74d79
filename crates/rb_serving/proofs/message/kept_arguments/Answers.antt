use Rattle.std.proofs.Common.{List, ℕ, take, ap, ◌∙◌}
use Rattle.std.proofs.lemmas.List.{take_min}
use Rattle.rb_model.specs.Calls.{longest_kept}
use Rattle.rb_serving.proofs.message.kept_arguments.Goals as goal

pub returns : goal.returns
unfolding longest_kept
returns c =
    ap (λ (k : ℕ). take k c.arguments_behind-arguments.result.now) c.min.ensures
    ∙ take_min longest_kept c.arguments_behind-arguments.result.now
    ∙ ap (λ (xs : List ℕ). take longest_kept xs) c.arguments_behind-arguments.ensures.arguments
