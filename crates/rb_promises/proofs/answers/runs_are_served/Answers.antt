use Rattle.rb_promises.proofs.Headline.{runs_are_served}
use Rattle.rb_promises.proofs.answers.runs_are_served.Goals as goal

pub returns : goal.returns
returns c = runs_are_served c.replies_are_of_the_grammar.ensures
