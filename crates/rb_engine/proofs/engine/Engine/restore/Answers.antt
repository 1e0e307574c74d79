use Rattle.std.proofs.Common.{◌∙◌, List, ℕ, subst}
use Rattle.rb_address.specs.declared.who.Who.{Who}
use Rattle.rb_model.specs.ChangeLaws.{set_bytes}
use Rattle.rb_model.specs.Step.Event.{Datagram}
use Rattle.rb_engine.specs.Moves.{RecordsEvent, PricedNow}
use Rattle.rb_engine.proofs.engine.Engine.restore.Goals as goal

pub returns-clause-recorded : goal.returns-clause-recorded
returns-clause-recorded c =
    subst (λ (who : Who). RecordsEvent (λ now. Datagram now who (set_bytes c.args.row.now)) c.args.self.now c.answer.new.self) c.of_this_machine.ensures
    (subst (λ (content : List ℕ). RecordsEvent (λ now. Datagram now c.of_this_machine.result.who content) c.args.self.now c.answer.new.self) (c.as_slice.ensures.value ∙ c.set_call-call.ensures) c.answer.ensures.recorded)

pub returns-clause-priced : goal.returns-clause-priced
returns-clause-priced c =
    subst (λ (who : Who). PricedNow (λ now. Datagram now who (set_bytes c.args.row.now)) c.args.self.now c.answer.new.self) c.of_this_machine.ensures
    (subst (λ (content : List ℕ). PricedNow (λ now. Datagram now c.of_this_machine.result.who content) c.args.self.now c.answer.new.self) (c.as_slice.ensures.value ∙ c.set_call-call.ensures) c.answer.ensures.priced)
