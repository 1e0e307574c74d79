-- What the core gives goes into the outbox of a connection.
use Rattle.std.specs.Prelude.{◌≡◌, ℕ, List, ◌++◌, length, Result}
use Rattle.rb_model.specs.declared.types.CoreFault.{CoreFault}
use Rattle.rb_model.specs.declared.types.Exchanged.{Exchanged}
use Rattle.rb_model.specs.declared.types.Given.{Given}
use Rattle.rb_model.specs.Exchanges.{exchange, taken_in, count_given}
use Rattle.rb_model.specs.Gives.{given_in, bytes_given}
use Rattle.rb_links.specs.Outgoing.{Outgoing}
use Rattle.rb_engine.specs.declared.engine.Engine.{Engine}
use Rattle.rb_engine.specs.Moves.{Moves, ActsNow, WritesInto, RecordsGiving}

-- Bytes came on a connection. The core had all the free room of the outbox, and what it gave at once stands there, after
-- what the outbox held.
-- OUTBOX-4: A reply that is given in the call that takes its record stands in the outbox, after
-- what that held.
pub record FillsOutbox (id : ℕ) (piece : List ℕ) (old new : Engine) (before after : Outgoing) (result : Result Exchanged CoreFault) : Type 0 where
  pub given : List ℕ
  pub count : count_given result ≡ length given
  pub acts : ActsNow (λ s now. exchange now id piece before.free s) old new (taken_in result, given)
  pub appended : after.bytes ≡ before.bytes ++ given
  pub moment : new.moment ≡ old.moment

-- What is owed on a connection is given into all the free room of the outbox, as far as it fits. It stands there, after
-- what the outbox held, and is recorded. If that is no byte, the core stays.
-- OUTBOX-3: What an outbox takes over of a reply are whole fragments, as many as fit into all that
-- is free of it; they stand in it after what it held, and the core counts exactly them as given.
pub record WritesToOutbox (id : ℕ) (old new : Engine) (before after : Outgoing) (result : Result Given CoreFault) : Type 0 where
  pub given : List ℕ
  pub count : given_in result ≡ length given
  pub acts : WritesInto id before.free old new (bytes_given given result)
  pub idle : given_in result ≡ 0 → Moves (λ s now. s) old new
  pub appended : after.bytes ≡ before.bytes ++ given
  pub recorded : RecordsGiving id given old new
  pub moment : new.moment ≡ old.moment
