-- Events and outputs as plain data, without the places where their bytes lie in memory.
use Rattle.std.specs.Prelude.{ℕ, List, map, option_map}
use Rattle.std.specs.Borrow.{Bor}
use Rattle.std.specs.Global.{Vec}
use Rattle.rb_forward.specs.Forwards.{Unsent as UnsentPlain}
use Rattle.rb_model.specs.declared.events.Event as event
use Rattle.rb_model.specs.declared.events.Event.TheVariants as events
use Rattle.rb_model.specs.declared.events.UnsentCall.{UnsentCall}
use Rattle.rb_model.specs.declared.events.Output as output
use Rattle.rb_model.specs.declared.events.Output.TheVariants as outputs
use Rattle.rb_model.specs.Step.{Event, Output}
use Rattle.rb_model.specs.Step.Event.{Open, Bytes, Pending, Gave, Closed, NextLost, Datagram, Unsent, Sent, Forward, Expire, ZeroStats}
use Rattle.rb_model.specs.Step.Output.{Opened, Refused, TooMuch, Took, TookAndLost, IsPending, Done, LostIs, Replied, Forwarded, Silent, UnsentIs, Ignored, Nothing, ConnectionLost, Ready, RepliedTo}

-- ---- over bytes of any type, of which this gives the list

abbrev pub plain_event : {B : Type 0} → (B → List ℕ) → event.Event B → Event
plain_event bytes_of (events.Open now who) = Open now who
plain_event bytes_of (events.Bytes now id piece) = Bytes now id (bytes_of piece)
plain_event bytes_of (events.Pending id) = Pending id
plain_event bytes_of (events.Gave now id n) = Gave now id n
plain_event bytes_of (events.Closed id) = Closed id
plain_event bytes_of events.NextLost = NextLost
plain_event bytes_of (events.Datagram now who content) = Datagram now who (bytes_of content)
plain_event bytes_of events.Unsent = Unsent
plain_event bytes_of (events.Sent number) = Sent number
plain_event bytes_of (events.Forward now from message) = Forward now from (bytes_of message)
plain_event bytes_of (events.Expire now) = Expire now
plain_event bytes_of events.ZeroStats = ZeroStats

abbrev pub plain_unsent : {B : Type 0} → (B → List ℕ) → UnsentCall B → UnsentPlain
plain_unsent bytes_of unsent = record { number = unsent.number; target = unsent.target; call = bytes_of unsent.call }

abbrev pub plain_output : {B : Type 0} → (B → List ℕ) → output.Output B → Output
plain_output bytes_of (outputs.Opened number) = Opened number
plain_output bytes_of (outputs.Refused fault) = Refused fault
plain_output bytes_of outputs.TooMuch = TooMuch
plain_output bytes_of (outputs.Took count) = Took count
plain_output bytes_of (outputs.TookAndLost count) = TookAndLost count
plain_output bytes_of (outputs.Pending bytes) = IsPending (bytes_of bytes)
plain_output bytes_of outputs.Done = Done
plain_output bytes_of (outputs.Lost number) = LostIs number
plain_output bytes_of (outputs.Replied reply) = Replied (bytes_of reply)
plain_output bytes_of outputs.Forwarded = Forwarded
plain_output bytes_of outputs.Silent = Silent
plain_output bytes_of (outputs.Unsent unsent) = UnsentIs (option_map (plain_unsent bytes_of) unsent)
plain_output bytes_of outputs.Ignored = Ignored
plain_output bytes_of outputs.Nothing = Nothing
plain_output bytes_of (outputs.ConnectionLost number) = ConnectionLost number
plain_output bytes_of (outputs.Ready number) = Ready number
plain_output bytes_of (outputs.RepliedTo who reply) = RepliedTo who (bytes_of reply)

-- ---- over their own bytes

abbrev pub OwnedEvent : Type 0
OwnedEvent = event.Event (Vec ℕ)

abbrev pub OwnedOutput : Type 0
OwnedOutput = output.Output (Vec ℕ)

abbrev pub event_of : OwnedEvent → Event
event_of event = plain_event (λ (bytes : Vec ℕ). bytes.items) event

abbrev pub output_of : OwnedOutput → Output
output_of output = plain_output (λ (bytes : Vec ℕ). bytes.items) output

abbrev pub events_of : List OwnedEvent → List Event
events_of events = map event_of events

abbrev pub outputs_of : List OwnedOutput → List Output
outputs_of outputs = map output_of outputs

-- ---- over bytes that are lent

abbrev pub LentEvent : Type 0
LentEvent = event.Event (Bor (List ℕ))

abbrev pub LentOutput : Type 0
LentOutput = output.Output (Bor (List ℕ))

abbrev pub lent_event : LentEvent → Event
lent_event event = plain_event (λ (bytes : Bor (List ℕ)). bytes.now) event

abbrev pub lent_output : LentOutput → Output
lent_output output = plain_output (λ (bytes : Bor (List ℕ)). bytes.now) output
