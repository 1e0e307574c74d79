use Rattle.rb_promises.proofs.Utf8Texts.{texts_are_utf8}
use Rattle.rb_promises.proofs.json_objects.texts_are_utf8.Goals as goal

pub returns : goal.returns
returns c = texts_are_utf8
