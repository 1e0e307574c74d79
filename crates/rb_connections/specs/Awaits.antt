-- Numbers of connections for which no call is forwarded: those not given yet, and those of connections that are not
-- Awaiting.
use Rattle.std.specs.Prelude.{◌≡◌, ℕ, ◌==◌, nat_lt, Bool, true, false, not, ◌&&◌, ◌||◌, if◌then◌else◌, length, Option, Some, None, IfSome, Result, IfOk}
use Rattle.std.specs.List.{list_any}
use Rattle.std.specs.Map.{values_of}
use Rattle.rb_address.specs.declared.who.Who.{Who}
use Rattle.rb_model.specs.declared.types.CoreFault.{CoreFault}
use Rattle.rb_connections.specs.declared.slot.Slot.{Slot}
use Rattle.rb_connections.specs.declared.slot.Stage.{Stage}
use Rattle.rb_connections.specs.declared.slot.Stage.TheVariants as stages
use Rattle.rb_connections.specs.declared.slot.Received.{Received}
use Rattle.rb_model.specs.declared.served.Response.{Response}
use Rattle.rb_model.specs.declared.served.Response.TheVariants as outcomes
use Rattle.rb_connections.specs.StandsFor.{Table}
use Rattle.rb_connections.specs.Slots.{is_idle_stage, StaysTable}
use Rattle.rb_connections.specs.Listings.{KeepsListing}

abbrev pub is_awaiting_stage : Stage → Bool
is_awaiting_stage stages.Awaiting = true
is_awaiting_stage stages.Idle = false
is_awaiting_stage (stages.Reading reader) = false
is_awaiting_stage (stages.Owing giving) = false
is_awaiting_stage stages.Lost = false

-- it has this number and awaits no forwarded call
abbrev pub is_free_slot : ℕ → Slot → Bool
is_free_slot id slot = slot.number == id && not (is_awaiting_stage slot.stage)

-- the connection of this number is not open yet, or awaits no forwarded call
unfoldable pub is_free : ℕ → Table → Bool
is_free id table = nat_lt table.last_number id || list_any (is_free_slot id) (values_of table.slots)

-- it is open and Idle
abbrev pub is_idle_slot : ℕ → Slot → Bool
is_idle_slot id slot = slot.number == id && is_idle_stage slot.stage

-- who sends a record that comes whole on it
abbrev pub sender_on : ℕ → Slot → Option Who
sender_on id slot = if is_idle_slot id slot then Some slot.who else None

unfoldable pub has_idle : ℕ → Table → Bool
has_idle id table = list_any (is_idle_slot id) (values_of table.slots)

-- it has this number, and is anything but Idle since this moment
abbrev pub is_not_idle_since : ℕ → ℕ → Slot → Bool
is_not_idle_since id clock slot = slot.number == id && not (is_idle_stage slot.stage && slot.since == clock)

-- The connection of this number, if there is one, has been Idle since this moment.
abbrev pub IsIdleIfThere : ℕ → ℕ → Table → Type 0
IsIdleIfThere id clock table = list_any (is_not_idle_since id clock) (values_of table.slots) ≡ false

-- It is there, and Idle since this moment.
pub record IsIdleSince (id clock : ℕ) (table : Table) : Type 0 where
  pub is_idle : has_idle id table ≡ true
  pub if_there : IsIdleIfThere id clock table

-- each connection that was Idle since a moment still is
abbrev pub KeepsIdle : Table → Table → Type 0
KeepsIdle old new = (id clock : ℕ) → IsIdleIfThere id clock old → IsIdleIfThere id clock new

-- no connection is free that was not so before
abbrev pub NoneIsFreed : Table → Table → Type 0
NoneIsFreed old new = (id : ℕ) → is_free id old ≡ false → is_free id new ≡ false

-- Connections go on: each that gives a list can go on with it, and none is freed of its forwarded call.
pub record GoOn (old new : Table) : Type 0 where
  pub lists : KeepsListing old new
  pub free : NoneIsFreed old new
  pub stays : StaysTable old new

-- What stays of connections while those become Lost whose lists are in the way of a row.
pub record StayOpen (old new : Table) : Type 0 where
  pub idle : (id : ℕ) → has_idle id old ≡ true → has_idle id new ≡ true
  pub if_there : KeepsIdle old new
  pub free : NoneIsFreed old new
  pub stays : StaysTable old new
  pub as_many : length new.slots ≡ length old.slots

-- no connection is free that was not so before, but that of this number
abbrev pub OnlyIsFreed : ℕ → Table → Table → Type 0
OnlyIsFreed number old new = (id : ℕ) → (id == number) ≡ false → is_free id old ≡ false → is_free id new ≡ false

-- If a call is forwarded for the connection of this number, which was Idle, it awaits that.
abbrev pub AwaitsIfForwarded : Response → ℕ → Table → Table → Type 0
AwaitsIfForwarded given id old new = given ≡ outcomes.Forwarded → has_idle id old ≡ true → is_free id new ≡ false

-- it is Idle since this moment
abbrev pub IsIdleAt : ℕ → Slot → Type 0
IsIdleAt clock slot = (is_idle_stage slot.stage ≡ true) × (slot.since ≡ clock)

-- A record ended on it: it awaited no forwarded call, and is Idle since this moment.
pub record EndsOnSlot (clock : ℕ) (old new : Slot) : Type 0 where
  pub awaited_none : is_awaiting_stage old.stage ≡ false
  pub is_idle : is_idle_stage new.stage ≡ true
  pub since : new.since ≡ clock

-- A record ended on a connection that was free, and is Idle since this moment.
pub record EndedOn (id clock : ℕ) (old new : Table) : Type 0 where
  pub was_free : is_free id old ≡ true
  pub is_idle : has_idle id new ≡ true
  pub if_there : IsIdleIfThere id clock new

abbrev pub EndsOnFree : ℕ → ℕ → Table → Table → Result Received CoreFault → Type 0
EndsOnFree id clock old new result = IfOk result (λ got. IfSome got.ended (λ ended. EndedOn id clock old new))
