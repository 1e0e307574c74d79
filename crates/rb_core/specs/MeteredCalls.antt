-- What a call of a core with its meter does, and how many steps it takes.
use Rattle.std.specs.Prelude.{ℕ, ◌+◌, ◌*◌, ◌/◌, List, length, Result}
use Rattle.rb_xdr.specs.Meter.{PaysAtMost}
use Rattle.rb_address.specs.declared.who.Who.{Who}
use Rattle.rb_model.specs.declared.types.CoreFault.{CoreFault}
use Rattle.rb_model.specs.declared.types.Exchanged.{Exchanged}
use Rattle.rb_model.specs.declared.types.Given.{Given}
use Rattle.rb_rpc.specs.declared.standing.Standing.{Standing}
use Rattle.rb_model.specs.declared.types.Taken.{Taken}
use Rattle.rb_model.specs.State.{State}
use Rattle.rb_model.specs.Step.{Event}
use Rattle.rb_model.specs.Step.Event.{Bytes}
use Rattle.rb_model.specs.Calls.{Outcome}
use Rattle.rb_model.specs.Connections.{longest_fragment, live_connection}
use Rattle.rb_model.specs.Costs.{event_cost}
use Rattle.rb_model.specs.Gives.{write_into_cost, given_in}
use Rattle.rb_model.specs.Exchanges.{taken_in, count_given}
use Rattle.rb_model.specs.Laws.{NoRecordEnds}
use Rattle.rb_model.specs.Bounds.{steps_bound}
use Rattle.rb_model.specs.Standings.{without_standing}
use Rattle.rb_model.specs.declared.served.Response as outcome
use Rattle.rb_connections.specs.Giving.{whole_cost}
use Rattle.rb_connections.specs.Slots.{Acts}
use Rattle.rb_core.specs.StandsFor.{StandsFor}
use Rattle.rb_core.specs.Metered.{Metered}
use Rattle.rb_core.specs.Core.{ActsWithReply}
use Rattle.rb_core.specs.Events.{length_taken}
use Rattle.rb_core.specs.CallCosts.{PaysForPlainDatagram, PaysForPlainExchange}

-- The core does this step of the model, with this result.
abbrev pub Does : {A : Type 0} → (State → A × State) → Metered → Metered → A → Type 0
Does step old new result = Acts StandsFor step old.core new.core result

-- the same of a datagram, with the reply that is held after it
abbrev pub DoesWithReply : (State → Outcome × State) → Metered → Metered → outcome.Response → Type 0
DoesWithReply step old new result = ActsWithReply step old.core new.core result

-- ---- how many steps are counted more

-- at most this many
abbrev pub StepsAtMost : ℕ → Metered → Metered → Type 0
StepsAtMost most old new = PaysAtMost old.meter new.meter most

-- at most what the event costs, whatever state the core stood for
-- STEPS-7: What is counted for an event is at most what it costs by the model, with the look at its
-- reply over UDP, or whether a `gave` counts more than is pending. The daemon's look for its next
-- deadline is counted once.
abbrev pub Priced : Event → Metered → Metered → Type 0
Priced event old new = (s : State) → StandsFor old.core s → PaysAtMost old.meter new.meter (event_cost s event)

-- the same together with a look of this many steps, which is part of the event
-- STEPS-7
abbrev pub PricedWithLook : ℕ → Event → Metered → Metered → Type 0
PricedWithLook look event old new =
    (s : State) → StandsFor old.core s
    → PaysAtMost old.meter (record new.meter { steps = new.meter.steps + look }) (event_cost s event)

-- how many steps the look at the reply over UDP takes
abbrev pub reply_look : Metered → ℕ
reply_look metered = 1 + length metered.core.reply

-- what the taking of a piece costs, and to give at once what the result says, if there is this much room
-- STEPS-7
abbrev pub PricedExchange : ℕ → ℕ → List ℕ → ℕ → Metered → Metered → Result Exchanged CoreFault → Type 0
PricedExchange now id piece room old new result =
    (s : State) → StandsFor old.core s
    → PaysAtMost old.meter new.meter (event_cost s (Bytes now id piece) + whole_cost room (count_given result))

-- what it costs to give what the result says into a room
abbrev pub PricedGiving : ℕ → Metered → Metered → Result Given CoreFault → Type 0
PricedGiving id old new result =
    (s : State) → StandsFor old.core s
    → PaysAtMost old.meter new.meter
    (write_into_cost (length s.connections.all) s.setting.limits.rows (given_in result) (live_connection id s.connections.all))

-- ---- by the limits

-- within the bound of a call that takes this many bytes, and lends or reports as given this many
-- STEPS-4: Each event of the core, each look but `next_row`, and `exchange` cost no more than an
-- event may, for the bytes that they take, lend or report as given themselves; for a refused call
-- these are none. A `write_into` costs as much as a `gave` of 1,028 bytes may, for each 1,028 bytes
-- that it gives, and once more.
abbrev pub StepsWithin : ℕ → ℕ → Metered → Metered → Type 0
StepsWithin taken given old new =
    PaysAtMost old.meter new.meter (steps_bound old.core.setting.limits taken given)

-- the same of a call of `bytes`, which takes what its result says
abbrev pub TakesWithin : Metered → Metered → Result (Taken × Standing) CoreFault → Type 0
TakesWithin old new result = StepsWithin (length_taken (without_standing result)) 0 old new

-- the same of a call of `exchange`
abbrev pub ExchangesWithin : Metered → Metered → Result Exchanged CoreFault → Type 0
ExchangesWithin old new result = StepsWithin (length_taken (taken_in result)) (count_given result) old new

-- A call that gives n bytes into a room pays no more than the bound of a `gave` of 1,028 bytes, for each 1,028 bytes of them
-- and once more.
-- STEPS-4
abbrev pub GivesWithin : ℕ → Metered → Metered → Type 0
GivesWithin n old new =
    PaysAtMost old.meter new.meter ((n / longest_fragment + 1) * steps_bound old.core.setting.limits 0 longest_fragment)

-- STEPS-3: A piece in which no record ends costs at most 8 steps for each byte, 64 for each
-- connection that there may be, and 64 more.
abbrev pub StaysCheapIfQuiet : ℕ → List ℕ → Metered → Metered → Result (Taken × Standing) CoreFault → Type 0
StaysCheapIfQuiet id piece old new result =
    (s : State) → StandsFor old.core s → NoRecordEnds s id piece
    → PaysAtMost old.meter new.meter
    (8 * length_taken (without_standing result) + 64 * old.core.setting.limits.conns + 64)

-- ---- if no rows are asked for

-- what the answer to a datagram costs
abbrev pub StepsForPlainDatagram : Who → List ℕ → Metered → Metered → Type 0
StepsForPlainDatagram who content old new = PaysForPlainDatagram old.core new.core who content old.meter new.meter

-- what a piece of bytes costs, whose reply may be given at once in this room
abbrev pub StepsForPlainExchange : ℕ → List ℕ → List ℕ → Metered → Metered → Result Exchanged CoreFault → Type 0
StepsForPlainExchange id piece room old new result =
    PaysForPlainExchange old.core id piece room result old.meter new.meter
