use Rattle.rb_show.proofs.JsonTexts.{printable_json}
use Rattle.rb_show.proofs.laws.json_texts_are_of_the_grammar.Goals as goal

pub returns-clause-printable : goal.returns-clause-printable
returns-clause-printable c = printable_json
