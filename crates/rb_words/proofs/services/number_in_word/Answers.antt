use Rattle.rb_words.proofs.Parses.{no_text}
use Rattle.rb_words.proofs.services.number_in_word.Goals as goal

pub returns-in-Err : goal.returns-in-Err
returns-in-Err c = no_text c.args.word.now 0 4294967295 c.in-Err.ensures.cases.0
