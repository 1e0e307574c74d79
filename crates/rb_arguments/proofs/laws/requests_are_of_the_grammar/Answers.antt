use Rattle.rb_arguments.proofs.Requests.{requests_are_of_the_grammar}
use Rattle.rb_arguments.proofs.laws.requests_are_of_the_grammar.Goals as goal

pub returns : goal.returns
returns c = requests_are_of_the_grammar
