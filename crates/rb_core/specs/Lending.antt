-- What the calls of a core with its meter leave that lend.
use Rattle.std.specs.Prelude.{◌≡◌, ℕ, ◌+◌, ◌*◌, List, length, Option, Result}
use Rattle.std.specs.Borrow.{Bor, Fml, MutBor}
use Rattle.std.specs.Io.BufRead.{Rests}
use Rattle.rb_xdr.specs.Meter.{PaysAtMost}
use Rattle.rb_registry.specs.declared.row.Row.{Row}
use Rattle.rb_forward.specs.declared.types.Unsent.{Unsent as UnsentCall}
use Rattle.rb_forward.specs.Table.{count_lent}
use Rattle.rb_model.specs.declared.types.CoreFault.{CoreFault}
use Rattle.rb_model.specs.Step.Event.{Pending, Unsent}
use Rattle.rb_core.specs.Events.{BeginsAt, length_lent}
use Rattle.rb_core.specs.Looks.{slots_behind, PaysIfLent}
use Rattle.rb_core.specs.Metered.{Metered}
use Rattle.rb_core.specs.MeteredCalls.{Priced, StepsAtMost, StepsWithin, reply_look}
use Rattle.rb_core.specs.contracts.metered.Metered.{the_row}

-- This many bytes were lent, and paid so, and nothing of the core was changed but `steps_before`.
pub record HasLent (IsPaid : Metered → Metered → Type 0) (given : ℕ) (old new : Metered) : Type 0 where
  pub begun : BeginsAt old.meter old.core new.core
  pub paid : IsPaid old new
  pub bound : StepsWithin 0 given old new

-- so it is once the borrow of what is lent ends
abbrev pub LendsWithin : (Metered → Metered → Type 0) → MutBor Metered → ℕ → Fml
LendsWithin IsPaid metered given = Rests the_row metered (HasLent IsPaid given metered.now)

-- the reply over UDP is lent
abbrev pub LendsReply : MutBor Metered → List ℕ → Fml
LendsReply metered lent = LendsWithin (StepsAtMost (reply_look metered.now)) metered (length lent)

-- what is pending on a connection is lent
abbrev pub LendsPending : ℕ → MutBor Metered → Result (Bor (List ℕ)) CoreFault → Fml
LendsPending id metered lent = LendsWithin (Priced (Pending id)) metered (length_lent lent)

-- a forwarded call is lent, if one must be sent
abbrev pub LendsUnsent : MutBor Metered → Option UnsentCall → Fml
LendsUnsent metered lent = LendsWithin (Priced Unsent) metered (count_lent lent)

-- A look at the rows after a cursor changed nothing of the core, and paid at most 2 steps for each of them, and 1; if
-- it lent a row, no more than for those up to it.
pub record HasLentRow (first next : Option ℕ) (result : Option (Bor Row)) (old new : Metered) : Type 0 where
  pub stays : new.core ≡ old.core
  pub cost : PaysAtMost old.meter new.meter (2 * slots_behind old.core first + 1)
  pub cost_row : PaysIfLent old.core first next result old.meter new.meter

-- so it is once the borrow of the row ends
abbrev pub LendsRow : MutBor Metered → Option ℕ → Option ℕ → Option (Bor Row) → Fml
LendsRow metered first next result = Rests the_row metered (HasLentRow first next result metered.now)
