-- A connection is opened as one of whoever came in.
use Rattle.std.proofs.Common.{◌≡◌, ℕ, Result, subst}
use Rattle.rb_address.specs.declared.who.Who.{Who}
use Rattle.rb_model.specs.declared.types.CoreFault.{CoreFault}
use Rattle.rb_model.specs.Step.{open_connection, close_connection}
use Rattle.rb_core.specs.StandsFor.{StandsFor}
use Rattle.rb_engine.specs.declared.engine.Engine.{Engine}
use Rattle.rb_engine.specs.Moves.{Moves, ActsNow}

pub opened_as : (before after : Engine) {who told : Who} {result given : Result ℕ CoreFault} → who ≡ told → result ≡ given → ActsNow (λ s now. open_connection s now who) before after result → ActsNow (λ s now. open_connection s now told) before after given
opened_as before after {who} {told} {result} {given} is same acts =
    subst (λ (w : Who). ActsNow (λ s now. open_connection s now w) before after given) is
    (subst (λ (r : Result ℕ CoreFault). ActsNow (λ s now. open_connection s now who) before after r) same acts)

pub opened_behind : (before mid after : Engine) (id : ℕ) (who : Who) {given : Result ℕ CoreFault} → Moves (λ s now. (close_connection s id).1) before mid → mid.moment ≡ before.moment → ActsNow (λ s now. open_connection s now who) mid after given → ActsNow (λ s now. open_connection (close_connection s id).1 now who) before after given
opened_behind before mid after id who {given} moves same acts = record {
  gives = λ s h. subst (λ (m : ℕ). given ≡ (open_connection (close_connection s id).1 m who).0) same (acts.gives (close_connection s id).1 (moves s h));
  stands = λ s h. subst (λ (m : ℕ). StandsFor after.core.core (open_connection (close_connection s id).1 m who).1) same (acts.stands (close_connection s id).1 (moves s h));
}
