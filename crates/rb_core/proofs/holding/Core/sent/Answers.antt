use Rattle.std.specs.Prelude.{IsOk}
use Rattle.std.proofs.Common.{◌≡◌, Bool, true, false, Result, Ok, Err, refl}
use Rattle.rb_forward.specs.declared.types.Gone.{Gone}
use Rattle.rb_core.specs.contracts.holding.Core.{the_view}
use Rattle.rb_core.proofs.Steps.{sent_acts, sent_refused}
use Rattle.rb_core.proofs.Begun.{with_steps_before, acts_begun}
use Rattle.rb_core.proofs.holding.Core.sent.Goals as goal

is_not : (b : Bool) → (b ≡ true → ⊥) → b ≡ false
is_not true h = absurd (h refl)
is_not false h = refl

not_ok : (r : Result (Unit {0}) Gone) (g : Gone) → r ≡ Err g → IsOk r → ⊥
not_ok (Ok x) g is h = absurd cc
not_ok (Err f) g is h = absurd cc

is_ok : (r : Result (Unit {0}) Gone) (x : Unit {0}) → r ≡ Ok x → IsOk r
is_ok (Ok y) x is = refl
is_ok (Err f) x is = absurd cc

pub returns-in_default-clause-acts : goal.returns-in_default-clause-acts
returns-in_default-clause-acts c =
    rw c.in_default.ensures.unchanged (
    acts_begun _ (the_view c.self.inside) c.args.self.now _ c.count-self-inside.result _ c.self.view_is
    (sent_refused (with_steps_before (the_view c.self.inside) c.count-self-inside.result) c.args.id.number c.self.inside.books
    (λ l h. is_not _ (λ e. not_ok c.sent.result c.in_default.field-0 c.in_default.is ((c.sent.ensures.there l h).1 e)))))

pub returns-clause-acts : goal.returns-clause-acts
returns-clause-acts c =
    acts_begun _ (the_view c.self.inside) c.args.self.now _ c.count-self-inside.result _ c.self.view_is
    (sent_acts (with_steps_before (the_view c.self.inside) c.count-self-inside.result) c.args.id.number c.sent.new.self tt c.in-Ok.ensures.registry c.in-Ok.ensures.frame
    (λ l h. (c.sent.ensures.there l h).0 (is_ok c.sent.result tt c.in-Ok.is)) c.in-Ok.ensures.sent)
