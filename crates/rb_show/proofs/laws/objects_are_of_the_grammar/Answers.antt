use Rattle.rb_show.proofs.JsonGrammar.{line_is_text}
use Rattle.rb_show.proofs.ObjectTellers.{each_is_an_object, only_objects}
use Rattle.rb_show.proofs.laws.objects_are_of_the_grammar.Goals as goal

pub returns-clause-each : goal.returns-clause-each
returns-clause-each c = each_is_an_object

pub returns-clause-written : goal.returns-clause-written
returns-clause-written c = only_objects

pub returns-clause-texts : goal.returns-clause-texts
returns-clause-texts c = line_is_text
