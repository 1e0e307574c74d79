-- What an event costs at most that changes no row, in counted steps, and all that an outsider brings. No number of
-- connections or forwarded calls stands in it, and that of rows for lists alone.
use Rattle.std.specs.Prelude.{◌≡◌, ◌≤◌, ℕ, ◌+◌, ◌*◌, max, Bool, true, false, not, ◌&&◌, if◌then◌else◌, List, [], ◌∷◌, length, find, Option, Some, None}
use Rattle.std.specs.Option.{option_map, option_map_or}
use Rattle.rb_address.specs.declared.who.Who.{Who}
use Rattle.rb_forward.specs.Forwards.{Entry, is_unsent, counts_for, is_due as entry_is_due}
use Rattle.rb_answers.specs.declared.listener.Listener.{Listener}
use Rattle.rb_answers.specs.Callers.{who_of, may_register}
use Rattle.rb_answers.specs.Walks.{changes_rows}
use Rattle.rb_model.specs.declared.message.Message.{Message}
use Rattle.rb_model.specs.declared.message.Message.TheVariants as says
use Rattle.rb_model.specs.declared.types.Limits.{Limits}
use Rattle.rb_model.specs.State.{Connection, State, opening, are_good}
use Rattle.rb_model.specs.Calls.{message_of}
use Rattle.rb_model.specs.Connections.{Taking, taking_of, is_lost, has_number, live_connection}
use Rattle.rb_model.specs.Connections.Taking.{TakesNone, GoesOn, Ends}
use Rattle.rb_model.specs.Losses.{is_due}
use Rattle.rb_model.specs.Bounds.{bytes_in, bytes_lent}
use Rattle.rb_model.specs.WholeRuns.{bytes_reported}
use Rattle.rb_model.specs.Costs.{asks_for_list, gives_list, event_cost}
use Rattle.rb_model.specs.Step.{Event, step, IsReached}
use Rattle.rb_model.specs.Step.Event.{Open, Bytes, Pending, Gave, Closed, NextLost, Datagram, Unsent, Sent, Forward, Expire, ZeroStats}

-- ---- rows

-- the message is a SET or an UNSET of a caller that may register, as this says
abbrev pub asks_for_change : Bool → Message → Bool
asks_for_change may (says.Asked call) = may && changes_rows call.request
asks_for_change may says.NoCall = false
asks_for_change may (says.Refused head) = false
asks_for_change may (says.Garbage head) = false

-- so is the record that ends, if one does
abbrev pub ends_for_change : Bool → Taking → Bool
ends_for_change may TakesNone = false
ends_for_change may (GoesOn fed) = false
ends_for_change may (Ends n content) = asks_for_change may (message_of content)

-- the event brings such a SET or UNSET
abbrev pub is_for_change : State → Event → Bool
is_for_change s (Bytes now id piece) =
    option_map_or
    (λ (c : Connection). ends_for_change (may_register s.setting.listener.announced c.who) (taking_of c.phase piece))
    (live_connection id s.connections.all) false
is_for_change s (Datagram now who content) =
    asks_for_change (may_register s.setting.listener.announced who) (message_of content)
is_for_change s other = false

-- the record that ends, if one does, asks for a list of rows
abbrev pub ends_for_list : Taking → Bool
ends_for_list TakesNone = false
ends_for_list (GoesOn fed) = false
ends_for_list (Ends n content) = asks_for_list (message_of content)

-- a list of rows is asked for, or the connection gives one
abbrev pub is_for_list : State → Event → Bool
is_for_list s (Bytes now id piece) =
    option_map_or (λ (c : Connection). ends_for_list (taking_of c.phase piece)) (live_connection id s.connections.all) false
is_for_list s (Gave now id n) = option_map_or gives_list (live_connection id s.connections.all) false
is_for_list s (Datagram now who content) = asks_for_list (message_of content)
is_for_list s other = false

-- ---- what an event may cost

-- What one may take apart from its bytes, if it is for no list. It has two steps for each byte of the longest arguments,
-- which earlier events brought, one for each byte of the longest reply, and the looks for a connection among 256, for a
-- row among 4,096 and for a forwarded call among 64: good limits have no more.
abbrev pub plain_allowance : ℕ
plain_allowance = 34000

-- the same of a datagram, which comes whole
abbrev pub datagram_allowance : ℕ
datagram_allowance = 2048

-- what a list may take beside: each row that there may be is walked at most 20 times
abbrev pub list_allowance : Limits → ℕ
list_allowance limits = 20 * limits.rows + 2000

-- for an event of either kind
abbrev pub allowance_at : State → Event → ℕ
allowance_at s event =
    plain_allowance + (if is_for_list s event then list_allowance s.setting.limits else 0)

-- 16 steps for each byte that the event takes, lends or reports as given
abbrev pub byte_allowance : State → Event → ℕ
byte_allowance s event = 16 * (bytes_in event (step s event).0 + bytes_reported event (step s event).0)

-- OUTSIDER-1: An event that is no SET or UNSET of a caller that may register costs at most 16 steps
-- for each byte that it takes, lends or reports as given, and 34,000, and for a list 20 more for
-- each row that there may be, and 2,000, whatever is registered, retained, open or forwarded, in
-- each state that a run reaches at good limits; a datagram at most a step for each of its bytes,
-- two for each of its reply's, and 2,048, and as much more for a list.
abbrev pub EventsCostFew : Type 0
EventsCostFew =
    (s : State) → IsReached s → are_good s.setting.limits s.setting.listener ≡ true → (event : Event)
    → is_for_change s event ≡ false → event_cost s event ≤ byte_allowance s event + allowance_at s event

-- OUTSIDER-1
abbrev pub DatagramsCostFew : Type 0
DatagramsCostFew =
    (s : State) → are_good s.setting.limits s.setting.listener ≡ true → (now : ℕ) (who : Who) (content : List ℕ)
    → asks_for_change (may_register s.setting.listener.announced who) (message_of content) ≡ false
    → asks_for_list (message_of content) ≡ false
    → event_cost s (Datagram now who content)
    ≤ length content + 2 * bytes_lent (step s (Datagram now who content)).0 + datagram_allowance

-- OUTSIDER-1
abbrev pub ListsCostByRows : Type 0
ListsCostByRows =
    (s : State) → IsReached s → are_good s.setting.limits s.setting.listener ≡ true
    → (now : ℕ) (who : Who) (content : List ℕ) → asks_for_list (message_of content) ≡ true
    → event_cost s (Datagram now who content)
    ≤ length content + 2 * bytes_lent (step s (Datagram now who content)).0 + datagram_allowance
    + list_allowance s.setting.limits

-- ---- whose events they are

-- the caller at the other end of the connection, if there is one
abbrev pub caller_on : Option Connection → Option Who
caller_on found = option_map (λ (c : Connection). c.who) found

-- the caller for whom the call is forwarded, if there is one
abbrev pub caller_for : Option Entry → Option Who
caller_for found = option_map (λ (e : Entry). who_of e.forward.caller) found

-- the caller whose forwarded call ends at its deadline, or else the one at the connection that is Lost at its own
abbrev pub caller_due : Option Entry → Option Connection → Option Who
caller_due (Some e) found = Some (who_of e.forward.caller)
caller_due None found = caller_on found

-- Whose event it is: the caller that opens or sends a datagram; the one at the other end of the connection that it is
-- about, or that it finds Lost; or the one for whom the call is forwarded that it shows, sends or ends. What finds none
-- of these is nobody's.
abbrev pub caller_of : State → Event → Option Who
caller_of s (Open now who) = Some who
caller_of s (Bytes now id piece) = caller_on (live_connection id s.connections.all)
caller_of s (Pending id) = caller_on (live_connection id s.connections.all)
caller_of s (Gave now id n) = caller_on (live_connection id s.connections.all)
caller_of s (Closed id) = caller_on (find (has_number id) s.connections.all)
caller_of s NextLost = caller_on (find (λ (c : Connection). is_lost c.phase) s.connections.all)
caller_of s (Datagram now who content) = Some who
caller_of s Unsent = caller_for (find (λ (e : Entry). not e.sent) s.ledger.forwards.all)
caller_of s (Sent number) = caller_for (find (is_unsent number) s.ledger.forwards.all)
caller_of s (Forward now from message) =
    caller_for (find (counts_for s.setting.first_xid (max s.clock now) from message) s.ledger.forwards.all)
caller_of s (Expire now) =
    let clock : ℕ = max s.clock now in
    caller_due (find (entry_is_due clock) s.ledger.forwards.all) (find (is_due clock) s.connections.all)
caller_of s ZeroStats = None

-- it is the event of a caller for whom the test holds
abbrev pub is_theirs : (Who → Bool) → State → Event → Bool
is_theirs test s event = option_map_or test (caller_of s event) false

-- ---- what they bring, and what comes of it later

-- Earlier events of its caller have paid for it: a forwarded call was sent, or ends, or a connection is Lost.
abbrev pub is_paid_ahead : Event → Bool
is_paid_ahead (Sent number) = true
is_paid_ahead (Forward now from message) = true
is_paid_ahead (Expire now) = true
is_paid_ahead other = false

-- what may come later of an event that opens, or brings bytes: the call that is forwarded for it is sent and ends, and the
-- connection is Lost
abbrev pub later_allowance : Event → ℕ
later_allowance (Open now who) = 22000
later_allowance (Bytes now id piece) = 22000
later_allowance (Datagram now who content) = 22000
later_allowance other = 0

-- what the event costs, if it is theirs
abbrev pub cost_of_theirs : (Who → Bool) → State → Event → ℕ
cost_of_theirs test s event = if is_theirs test s event then event_cost s event else 0

-- what it pays, if it is theirs
abbrev pub paid_by_theirs : (Who → Bool) → State → Event → ℕ
paid_by_theirs test s event =
    if is_theirs test s event && not (is_paid_ahead event)
    then byte_allowance s event + allowance_at s event + later_allowance event
    else 0

-- a number of each event, from the state that it meets, added up
abbrev pub sum_along : (State → Event → ℕ) → State → List Event → ℕ
sum_along number s [] = 0
sum_along number s (event ∷ events) = number s event + sum_along number (step s event).1 events

-- The caller may not register: its SETs and UNSETs are refused. Such are all strangers, and those that claim to be of this
-- machine from elsewhere.
abbrev pub is_outsider : Listener → Who → Bool
is_outsider listener who = not (may_register listener.announced who)

-- OUTSIDER-2: In a run from an opening at good limits, all events of some outsiders together, the
-- sending and the end of calls that are forwarded for them and the loss of their connections among
-- these, cost at most what the others of these are allowed by OUTSIDER-1, and 22,000 for each
-- opening, piece of bytes and datagram, whatever targets send.
abbrev pub OutsidersPayAhead : Type 0
OutsidersPayAhead =
    (limits : Limits) (listener : Listener) (first_xid now : ℕ) (events : List Event) (test : Who → Bool)
    → are_good limits listener ≡ true → ((who : Who) → test who ≡ true → is_outsider listener who ≡ true)
    → let s : State = opening limits listener first_xid now in
    sum_along (cost_of_theirs test) s events ≤ sum_along (paid_by_theirs test) s events
