use Rattle.rb_plans.proofs.ObjectTexts.{objects_are_asked_for, old_has_objects, texts_are_shown}
use Rattle.rb_plans.proofs.laws.objects_are_shown.Goals as goal

pub returns : goal.returns
returns c = record { asked = objects_are_asked_for; old = old_has_objects; texts = texts_are_shown }
