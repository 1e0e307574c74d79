use Rattle.std.proofs.Common.{ℕ, List, subst}
use Rattle.std.proofs.lemmas.List.{length-drop}
use Rattle.rb_show.specs.Fronts.{Tells}
use Rattle.rb_show.specs.Tellings.{rest_of}
use Rattle.rb_show.proofs.Fronts.{tail_is}
use Rattle.rb_show.proofs.Tellings.{one_told}
use Rattle.rb_show.proofs.telling.Telling.tell.Goals as goal

pub values-preserved : goal.values-preserved
values-preserved c =
    one_told c.args.self.now c.values.self c.step.new.self c.args.bytes.now c.args.text.now.items c.values.text.items c.step.new.text.items c.values.used c.in-Ok.more c.values.invariant
    (subst (λ (xs : List ℕ). Tells (rest_of c.values.self) xs c.in-Ok.more (rest_of c.step.new.self) c.values.text.items c.step.new.text.items) (tail_is c.values.used c.args.bytes.now) c.in-Ok.ensures)
    (length-drop c.values.used c.args.bytes.now)
