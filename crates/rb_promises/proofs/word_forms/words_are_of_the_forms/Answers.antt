use Rattle.rb_promises.proofs.ReadForms.{words_are_of_the_forms}
use Rattle.rb_promises.proofs.word_forms.words_are_of_the_forms.Goals as goal

pub returns : goal.returns
returns c = words_are_of_the_forms
