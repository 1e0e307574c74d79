use Rattle.rb_lines.proofs.LineWords.{events_are_spelled, skipped_say_nothing, bad_spell_nothing}
use Rattle.rb_lines.proofs.laws.lines_are_of_the_grammar.Goals as goal

pub returns : goal.returns
returns c = record { events = events_are_spelled; skipped = skipped_say_nothing; bad = bad_spell_nothing }
