-- What events cost at most, in counted steps.
use Rattle.std.specs.Prelude.{ℕ, ◌+◌, ◌*◌, Bool, false, if◌then◌else◌, List, [], ◌∷◌, length, is_some, Option, Some, None}
use Rattle.rb_xdr.specs.Ordered.{looks}
use Rattle.rb_forward.specs.Costs.{end_cost, sent_cost, unsent_cost}
use Rattle.rb_forward.specs.Forwards.{Unsent as UnsentCall}
use Rattle.rb_answers.specs.Costs.{note_cost, forward_cost, statistics_cost, zero_cost}
use Rattle.rb_answers.specs.ListReplies.{part_room}
use Rattle.rb_answers.specs.Walks.{lists_rows, walks_rows}
use Rattle.rb_answers.specs.declared.listener.Announced.{Announced}
use Rattle.rb_answers.specs.Callers.{may_register}
use Rattle.rb_model.specs.declared.message.Message.{Message}
use Rattle.rb_model.specs.declared.message.Message.TheVariants as says
use Rattle.rb_model.specs.Calls.{longest_reply, kept_of, message_of}
use Rattle.rb_model.specs.State.{Connection, State}
use Rattle.rb_model.specs.Connections.{Taking, taking_of, live_connection}
use Rattle.rb_model.specs.Losses.{stamp_in}
use Rattle.rb_model.specs.Connections.Taking.{TakesNone, GoesOn, Ends}
use Rattle.rb_model.specs.Step.{Event, unsent_call, step}
use Rattle.rb_model.specs.Step.Event.{Open, Bytes, Pending, Gave, Closed, NextLost, Datagram, Unsent, Sent, Forward, Expire, ZeroStats}

-- ---- what costs depend on

-- how many connections there are, Lost ones too; how many looks a search for a row takes; how many forwarded calls there
-- may be; and what a message costs by that changes or lists rows: how many connections may give lists, how many rows are
-- there, live or retained, before a call and after it (`left`), and what the change of one row costs
pub record Sizes : Type 0 where
  pub connections : ℕ
  pub looks : ℕ
  pub forwards : ℕ
  pub lists : ℕ
  pub rows : ℕ
  pub left : ℕ
  pub change : ℕ

-- what the change of a row costs among this many: two searches of this many looks, and what moves in the index
abbrev pub change_cost : ℕ → ℕ → ℕ
change_cost search rows = 2 * search + rows + 2

-- those of a state, in which the rows count by their limit
abbrev pub sizes_in : State → Sizes
sizes_in s = record {
  connections = length s.connections.all;
  looks = looks s.setting.limits.rows;
  forwards = s.setting.limits.forwards;
  lists = length s.connections.all;
  rows = s.setting.limits.rows;
  left = s.setting.limits.rows;
  change = change_cost (looks s.setting.limits.rows) s.setting.limits.rows;
}

-- the message is a call for a list of rows
abbrev pub asks_for_list : Message → Bool
asks_for_list (says.Asked call) = lists_rows call.request
asks_for_list says.NoCall = false
asks_for_list (says.Refused head) = false
asks_for_list (says.Garbage head) = false

-- COST-2: A message that asks for no list, and is no SET or UNSET of a caller that may register,
-- costs at most 4 times the looks of a search, its bytes, those of its reply, and fixed parts,
-- whatever is registered or retained. As a record it costs its piece's bytes, twice its arguments,
-- 9,000 for the reply, two look-ups of its connection, and fixed parts.
abbrev pub asks_for_rows : Bool → Message → Bool
asks_for_rows may (says.Asked call) = walks_rows may call.request
asks_for_rows may says.NoCall = false
asks_for_rows may (says.Refused head) = false
asks_for_rows may (says.Garbage head) = false

-- what a message costs by: no other one walks rows or lists
abbrev pub walked : Bool → ℕ → ℕ
walked walks size = if walks then size else 0

abbrev pub sizes_where : Bool → Sizes → Sizes
sizes_where walks sizes = record sizes {
  lists = walked walks sizes.lists;
  rows = walked walks sizes.rows;
  left = walked walks sizes.left;
  change = walked walks sizes.change;
}

-- for a message of a caller that may register or not
abbrev pub sizes_for : Bool → Message → Sizes → Sizes
sizes_for may message sizes = sizes_where (asks_for_rows may message) sizes

-- ---- parts of calls

-- what it costs to put results of this many rows: those of a list are walked twice, a reply of this many bytes is written, and
-- the statistics are shown
abbrev pub results_cost : ℕ → ℕ → ℕ
results_cost rows written = 4 * rows + 72 + written + statistics_cost

-- what it costs to serve a message: a row of each netid is changed, or two searches find one, results are put in a reply of
-- this many bytes, a look-up is noted, and what is forwarded is kept, of this many bytes of arguments
-- METER-1: Each call pays on the meter that the core was made with.
abbrev pub serve_cost : Sizes → ℕ → ℕ → ℕ
serve_cost sizes args written =
    5 * sizes.change + 2 * sizes.looks + results_cost sizes.left written + 4 + note_cost + forward_cost args

-- what it costs to show a fragment: the window is emptied, and a header of 4 bytes and at most 1,024 of data are written
abbrev pub show_cost : ℕ
show_cost = 2054

-- the same of a list, whose fragment is made from this many rows and emptied from where it was made
abbrev pub listed_cost : ℕ → ℕ
listed_cost rows = 2 * rows + part_room + 6 + show_cost

-- what it costs to look at what is pending: at its length, and at its bytes
abbrev pub pending_cost : ℕ
pending_cost = 1029

-- what it costs to count the bytes that a connection holds, before a change and after it
-- COST-1
abbrev pub recount_cost : ℕ
recount_cost = 4

-- what it costs to count bytes as given: the look at how many are pending, the next fragment, or both buffers emptied
abbrev pub given_cost : ℕ → ℕ
given_cost rows = 3 + listed_cost rows

-- what it costs to look a connection up: under its hint, twice if a record comes whole, then among this many, and
-- its slot
-- COST-1
abbrev pub find_cost : ℕ → ℕ
find_cost connections = 2 * connections + 4

-- what it costs to take this many bytes of a piece: the look at the room for arguments, and each byte may be kept
-- COST-1
abbrev pub take_cost : ℕ → ℕ
take_cost count = count + 1

-- what it costs to swap the buffer of a record that ended for an empty one
abbrev pub swap_cost : ℕ
swap_cost = 1

-- what it costs to look for the oldest of the lists that are given on this many connections
abbrev pub oldest_cost : ℕ → ℕ
oldest_cost connections = 2 * connections + 1

-- what it costs to make those of this many connections Lost whose lists are in the way of a row
abbrev pub evict_cost : ℕ → ℕ
evict_cost connections = 3 * connections + 1

-- what it costs to check whether there is room for a row, and whether a message needs it, and to make it
abbrev pub room_cost : Sizes → ℕ
room_cost sizes = 8 * sizes.rows + sizes.looks + 2 * oldest_cost sizes.lists + evict_cost sizes.lists + 12

-- what it costs to serve a message with this many bytes of arguments, once there is room for the row that it adds, if a
-- reply of this many bytes is written
abbrev pub message_cost : Sizes → ℕ → ℕ → ℕ
message_cost sizes args written = room_cost sizes + serve_cost sizes args written

-- what it costs to answer a record of whose arguments this many bytes are kept: the look at how many they are, they themselves,
-- and the buffer emptied; to serve it; and to begin a list on its connection, of the rows that are left, or a reply
abbrev pub answer_cost : Sizes → ℕ → ℕ
answer_cost sizes args =
    args + 2 + message_cost sizes args longest_reply + find_cost sizes.connections + listed_cost sizes.left + 1
    + recount_cost

-- what a message that asks for no rows costs at most to serve: by the looks of a search, by its bytes and by those of its
-- reply, and by nothing that is registered or retained
-- COST-2
abbrev pub plain_cost : ℕ → ℕ → ℕ → ℕ
plain_cost search args written = 4 * search + args + written + 1700

-- and a record of this many bytes with such a message, of whose arguments this many are kept, on one of this many connections
-- COST-2
abbrev pub plain_record_cost : ℕ → ℕ → ℕ → ℕ → ℕ
plain_record_cost search connections taken args =
    plain_cost search (2 * args) longest_reply + taken + 2 * find_cost connections + part_room + 2100

-- what it costs to end one of this many forwarded calls, and to note its outcome
abbrev pub entry_cost : ℕ → ℕ
entry_cost forwards = end_cost forwards + 2 + note_cost

-- what it costs to write what its caller is told: a reply of this many bytes
abbrev pub put_end_cost : ℕ → ℕ
put_end_cost written = 68 + written

-- what it costs to tell it to one of this many connections, or over UDP
abbrev pub tell_cost : ℕ → ℕ
tell_cost connections = put_end_cost longest_reply + find_cost connections + show_cost + 1 + recount_cost

-- ---- calls

-- how many bytes of a piece are taken
abbrev pub count_taken : List ℕ → Taking → ℕ
count_taken piece TakesNone = 0
count_taken piece (GoesOn fed) = length piece
count_taken piece (Ends n content) = n

-- to answer the record that ends with them, if one does, of a caller that may register or not
abbrev pub record_cost : Bool → Sizes → Taking → ℕ
record_cost may sizes TakesNone = 0
record_cost may sizes (GoesOn fed) = 0
record_cost may sizes (Ends n content) =
    swap_cost + answer_cost (sizes_for may (message_of content) sizes) (length (kept_of content))

-- COST-1: While a record goes on, a piece costs at most its bytes, the look-up of the connection
-- and 5: nothing that was kept is read again.
abbrev pub bytes_cost : Announced → Sizes → List ℕ → Option Connection → ℕ
bytes_cost announced sizes piece None = find_cost sizes.connections
bytes_cost announced sizes piece (Some c) =
    find_cost sizes.connections + take_cost (count_taken piece (taking_of c.phase piece)) + recount_cost
    + record_cost (may_register announced c.who) sizes (taking_of c.phase piece)

-- a list is being given on the connection
-- COST-3
abbrev pub gives_list : Connection → Bool
gives_list c = is_some (stamp_in c.phase)

-- to count bytes as given on this connection, if there is one, of this many, beside this many rows: only the next
-- fragment of a list walks them
-- COST-3: Bytes that are counted as given go by the rows only if the connection gives a list.
abbrev pub gave_cost : ℕ → ℕ → Option Connection → ℕ
gave_cost connections rows None = find_cost connections
gave_cost connections rows (Some c) =
    find_cost connections + given_cost (walked (gives_list c) rows) + recount_cost

-- to close a connection, and to end the call that was forwarded for it
abbrev pub close_cost : Sizes → ℕ
close_cost sizes = find_cost sizes.connections + 5 + entry_cost sizes.forwards

-- to answer a datagram of this many bytes by a reply of this many
abbrev pub datagram_cost : Sizes → ℕ → ℕ → ℕ
datagram_cost sizes count written = message_cost sizes count written + 2

-- to end a forwarded call and to tell its caller, with the last reply emptied before
abbrev pub ended_cost : Sizes → ℕ
ended_cost sizes = 1 + entry_cost sizes.forwards + tell_cost sizes.connections

-- ---- events

-- how many bytes the reply over UDP has that is held after an event
abbrev pub reply_count : State → Event → ℕ
reply_count s event = length (step s event).1.reply

-- what it costs to look at it: how long it is, and it itself
abbrev pub reply_cost : State → Event → ℕ
reply_cost s event = 1 + reply_count s event

-- how many bytes the forwarded call has that must be sent next, 0 if there is none
abbrev pub unsent_count : Option UnsentCall → ℕ
unsent_count None = 0
unsent_count (Some unsent) = length unsent.call

-- what an event costs from a state
abbrev pub event_cost : State → Event → ℕ
event_cost s (Open now who) = 4
event_cost s (Bytes now id piece) =
    bytes_cost s.setting.listener.announced (sizes_in s) piece (live_connection id s.connections.all)
event_cost s (Pending id) = find_cost (length s.connections.all) + pending_cost
event_cost s (Gave now id n) =
    find_cost (length s.connections.all) + 1
    + gave_cost (length s.connections.all) s.setting.limits.rows (live_connection id s.connections.all)
event_cost s (Closed id) = close_cost (sizes_in s)
event_cost s NextLost = find_cost (length s.connections.all)
event_cost s (Datagram now who content) =
    datagram_cost (sizes_for (may_register s.setting.listener.announced who) (message_of content) (sizes_in s))
    (length content) (reply_count s (Datagram now who content))
    + reply_cost s (Datagram now who content)
event_cost s Unsent = unsent_cost s.setting.limits.forwards (unsent_count (unsent_call s))
event_cost s (Sent number) = sent_cost s.setting.limits.forwards
event_cost s (Forward now from message) = ended_cost (sizes_in s) + reply_cost s (Forward now from message)
event_cost s (Expire now) = ended_cost (sizes_in s) + reply_cost s (Expire now)
event_cost s ZeroStats = zero_cost

-- the sum of what each event costs from the state that it meets
abbrev pub run_cost : State → List Event → ℕ
run_cost s [] = 0
run_cost s (event ∷ events) = event_cost s event + run_cost (step s event).1 events
