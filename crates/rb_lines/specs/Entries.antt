-- Lines of events, as they are written, and what is written of a run.
use Rattle.std.specs.Prelude.{ℕ, ◌==◌, if◌then◌else◌, Bool, true, false, List, [], ◌∷◌, ◌++◌, Option, Some, None, codes}
use Rattle.std.specs.Fmt.{decimal}
use Rattle.std.specs.List.{concat, flat_map}
use Rattle.rb_address.specs.declared.host.Host.{Host}
use Rattle.rb_address.specs.declared.host.Host.TheVariants.{V4, V6}
use Rattle.rb_address.specs.declared.who.Who.{Who}
use Rattle.rb_address.specs.Callers.{who_text}
use Rattle.rb_address.specs.Peers.{bare_host_text}
use Rattle.rb_answers.specs.declared.listener.Forwarding.{Forwarding}
use Rattle.rb_answers.specs.declared.listener.Forwarding.TheVariants.{Anywhere, ForAll, ForLocal}
use Rattle.rb_answers.specs.declared.listener.Listener.{Listener}
use Rattle.rb_answers.specs.declared.listener.Terms.{Terms}
use Rattle.rb_answers.specs.declared.reserved.Reservation.{Reservation}
use Rattle.rb_model.specs.declared.types.Limits.{Limits}
use Rattle.rb_model.specs.declared.events.Event as event_type
use Rattle.rb_model.specs.Plain.{LentEvent, LentOutput, plain_event, lent_event, lent_output}
use Rattle.rb_model.specs.State.{State}
use Rattle.rb_model.specs.Step.{Event, Output, step}
use Rattle.rb_model.specs.Step.Event.{Datagram, Open, Bytes, Pending, Gave, Closed, NextLost, Unsent, Sent, Forward, Expire, ZeroStats}
use Rattle.rb_lines.specs.declared.entries.Start.{Start}
use Rattle.rb_lines.specs.Printing.{bytes_line, peer_line, output_text}

-- a word, a caller, and bytes from it
abbrev pub who_line : List ℕ → Who → List ℕ → List ℕ
who_line word who bytes = word ++ (who_text who ++ bytes_line (codes " ") bytes)

-- LINE-2: An event is written as its line, without leading zeros and in lower case.
abbrev pub event_text : Event → List ℕ
event_text (Open now from) = codes "open " ++ (decimal now ++ (codes " " ++ (who_text from ++ codes "\n")))
event_text (Bytes now id bytes) = codes "bytes " ++ (decimal now ++ (codes " " ++ (decimal id ++ bytes_line (codes " ") bytes)))
event_text (Pending id) = codes "pending " ++ (decimal id ++ codes "\n")
event_text (Gave now id n) = codes "gave " ++ (decimal now ++ (codes " " ++ (decimal id ++ (codes " " ++ (decimal n ++ codes "\n")))))
event_text (Closed id) = codes "closed " ++ (decimal id ++ codes "\n")
event_text NextLost = codes "lost\n"
event_text (Datagram now from bytes) = codes "datagram " ++ (decimal now ++ who_line (codes " ") from bytes)
event_text Unsent = codes "unsent\n"
event_text (Sent id) = codes "sent " ++ (decimal id ++ codes "\n")
event_text (Forward now from bytes) = codes "forward " ++ (decimal now ++ peer_line (codes " ") from bytes)
event_text (Expire now) = codes "expire " ++ (decimal now ++ codes "\n")
event_text ZeroStats = codes "zero\n"

-- that of an event as the code has it, by what its bytes are as a list
abbrev pub event_line : {B : Type 0} → (B → List ℕ) → event_type.Event B → List ℕ
event_line bytes_of event = event_text (plain_event bytes_of event)

-- LINE-3: What an event gave is in the line below it, after `#> `.
abbrev pub entry_text : Event → Output → List ℕ
entry_text event output = event_text event ++ (codes "#> " ++ output_text output)

-- what is written of a run, event by event, each with what it gives
unfoldable pub run_entries : State → List Event → List (List ℕ)
run_entries s [] = []
run_entries s (event ∷ events) = entry_text event (step s event).0 ∷ run_entries (step s event).1 events

-- the same as one text
abbrev pub run_text : State → List Event → List ℕ
run_text s events = concat (run_entries s events)

abbrev pub limits_text : Limits → List ℕ
limits_text limits =
    codes " --conns " ++ (decimal limits.conns ++ (codes " --rows " ++ (decimal limits.rows ++ (codes " --forwards " ++ decimal limits.forwards))))

abbrev pub announce_text : Host → List ℕ
announce_text host = codes " --announce " ++ bare_host_text host

-- of a family that is served
abbrev pub inet_text : Option (List ℕ) → List ℕ
inet_text None = []
inet_text (Some octets) = announce_text (V4 octets)

abbrev pub inet6_text : Option (List ℕ) → List ℕ
inet6_text None = []
inet6_text (Some octets) = announce_text (V6 octets)

-- the path of the local socket in quotes, as a shell reads it
abbrev pub local_text : Option (List ℕ) → List ℕ
local_text None = []
local_text (Some path) = codes " --local '" ++ (path ++ codes "'")

-- whether long replies go to strangers over UDP, shown if none do
abbrev pub lists_text : Bool → List ℕ
lists_text true = []
lists_text false = codes " --udp-lists local"

-- for whom calls are forwarded, shown if that is not for everybody to anywhere
abbrev pub forwarding_text : Forwarding → List ℕ
forwarding_text Anywhere = []
forwarding_text ForAll = codes " --forward-for all"
forwarding_text ForLocal = codes " --forward-for local"

abbrev pub terms_text : Terms → List ℕ
terms_text terms = lists_text terms.long_replies ++ forwarding_text terms.forwarding

-- the last program, if there are several
abbrev pub last_text : Reservation → List ℕ
last_text r = if r.first == r.last then [] else codes "-" ++ decimal r.last

-- `PROGRAM-PROGRAM=UID`, or `PROGRAM=UID` of one program
abbrev pub reservation_text : Reservation → List ℕ
reservation_text r = decimal r.first ++ (last_text r ++ (codes "=" ++ decimal r.uid))

abbrev pub reserve_text : Reservation → List ℕ
reserve_text r = codes " --reserve " ++ reservation_text r

-- the reservations
abbrev pub reserved_text : List Reservation → List ℕ
reserved_text reserved = flat_map reserve_text reserved

-- the path of the local socket, the terms, and the reservations
abbrev pub rest_text : Listener → List ℕ
rest_text listener = local_text listener.local ++ (terms_text listener.terms ++ reserved_text listener.reserved)

-- the announced host of each family, the port, and these
abbrev pub listener_text : Listener → List ℕ
listener_text listener =
    inet_text listener.announced.inet ++ (inet6_text listener.announced.inet6
    ++ (codes " --port " ++ (decimal listener.port ++ rest_text listener)))

-- LINE-4: The first line of a record is a comment with the command that checks it.
abbrev pub options_text : Limits → Listener → ℕ → ℕ → List ℕ
options_text limits listener first_xid now =
    codes "# rpcbind replay --check" ++ (limits_text limits ++ (listener_text listener
    ++ (codes " --xid " ++ (decimal first_xid ++ (codes " --now " ++ (decimal now ++ codes "\n"))))))

-- ---- as the code has them

abbrev pub entry_of : LentEvent → LentOutput → List ℕ
entry_of event output = entry_text (lent_event event) (lent_output output)

abbrev pub options_of : Start → List ℕ
options_of start = options_text start.limits start.listener.now start.first_xid start.moment
