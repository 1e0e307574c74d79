use Rattle.rb_promises.proofs.WorkedJson.{examples_are_texts, others_are_none}
use Rattle.rb_promises.proofs.json_objects.worked_texts.Goals as goal

pub returns-clause-examples : goal.returns-clause-examples
returns-clause-examples c = examples_are_texts

pub returns-clause-others : goal.returns-clause-others
returns-clause-others c = others_are_none
