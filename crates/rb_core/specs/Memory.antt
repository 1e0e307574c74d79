-- How much memory a core has.
use Rattle.std.specs.Prelude.{◌≡◌, IsTrue}
use Rattle.rb_proto.specs.Books.{SameMemory}
use Rattle.rb_answers.specs.declared.listener.Listener.{Listener}
use Rattle.rb_model.specs.declared.types.CoreFault.{CoreFault}
use Rattle.rb_model.specs.declared.types.CoreFault.TheVariants.{NoMemory}
use Rattle.rb_model.specs.declared.types.Limits.{Limits}
use Rattle.rb_model.specs.State.{are_good}
use Rattle.rb_core.specs.StandsFor.{CoreView}

-- With good limits the fault is that an allocation was refused.
abbrev pub LacksMemory : Limits → Listener → CoreFault → Type 0
LacksMemory limits listener fault = IsTrue (are_good limits listener) → fault ≡ NoMemory

-- The connections and the books have as much memory as before.
pub record KeepsMemory (old new : CoreView) : Type 0 where
  pub connections : new.connections.memory ≡ old.connections.memory
  pub books : SameMemory old.books new.books
