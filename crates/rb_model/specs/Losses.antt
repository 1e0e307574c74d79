-- When a connection becomes Lost: at its deadline, or when the rows that its list needs are in the way. Moments are in
-- milliseconds.
use Rattle.std.specs.Prelude.{ℕ, ◌+◌, nat_le, nat_lt, Bool, false, not, ◌&&◌, if◌then◌else◌, List, [], ◌∷◌, length, map, find, filter, filter_map, Option, Some, None}
use Rattle.std.specs.Option.{option_map}
use Rattle.std.specs.List.{list_any, list_all}
use Rattle.rb_registry.specs.declared.slot.Slot.{Slot}
use Rattle.rb_registry.specs.Slots.{all_slots}
use Rattle.rb_forward.specs.Forwards.{later}
use Rattle.rb_answers.specs.declared.context.Context.{Context}
use Rattle.rb_answers.specs.Ledger.{Ledger, rows_in}
use Rattle.rb_answers.specs.Answers.{wants_room}
use Rattle.rb_model.specs.declared.message.Message.{Message}
use Rattle.rb_model.specs.declared.message.Message.TheVariants as says
use Rattle.rb_model.specs.State.{Phase, Connection, Connections, State}
use Rattle.rb_model.specs.State.Phase.{Idle, Reading, Owing, Awaiting, Lost}
use Rattle.rb_model.specs.Connections.{changed_at}

-- ---- how long it may take

-- from the opening, the last byte of a reply given, or the end of a silent call to the first byte of the next record
abbrev pub idle_time : ℕ
idle_time = 300000

-- from the first byte of a record to its end
abbrev pub reading_time : ℕ
reading_time = 30000

-- from the end of a call, or a byte of its reply given, to the next byte of the reply given
abbrev pub owing_time : ℕ
owing_time = 30000

-- How long a connection may stay in this phase, from `since` on. One that is Awaiting has no
-- deadline: its forwarded call has one.
-- DEADLINE-1: The deadline of an Idle connection is 300,000 ms after its `since`, of one that reads
-- a record or owes a reply 30,000 ms; one that is Awaiting or Lost has none.
abbrev pub time_in : Phase → Option ℕ
time_in Idle = Some idle_time
time_in (Reading fed) = Some reading_time
time_in (Owing owed) = Some owing_time
time_in Awaiting = None
time_in Lost = None

-- ---- what is due

-- the moment from which a connection is due, by its `since` and its phase; at most the greatest moment
-- DEADLINE-2: A connection is due if the clock is at its deadline or later. No deadline is later
-- than the greatest moment, at which all that has a deadline is due.
abbrev pub deadline : ℕ → Phase → Option ℕ
deadline since phase = option_map (later since) (time_in phase)

-- DEADLINE-2
abbrev pub has_come : ℕ → Option ℕ → Bool
has_come clock None = false
has_come clock (Some moment) = nat_le moment clock

-- DEADLINE-2
unfoldable pub is_due : ℕ → Connection → Bool
is_due clock c = has_come clock (deadline c.since c.phase)

-- The connections are in the order of their numbers, so the first is that of least number.
unfoldable pub first_due : ℕ → Connections → Option ℕ
first_due clock c = option_map (λ (x : Connection). x.number) (find (is_due clock) c.all)

-- ---- what becomes of it

-- nothing else of it changes
abbrev pub lose : Connection → Connection
lose c = record c { phase = Lost }

abbrev pub with_lost : Option ℕ → Connections → Connections
with_lost None c = c
with_lost (Some id) c = changed_at id lose c

-- The due connection of least number, if there is one, becomes Lost.
unfoldable pub expire_first : ℕ → Connections → Option ℕ × Connections
expire_first clock c = (first_due clock c, with_lost (first_due clock c) c)

-- ---- removed rows that lists need

-- the stamp of the unfinished list on a connection: how many changes were accepted before it began
abbrev pub stamp_in : Phase → Option ℕ
stamp_in (Owing o) = o.stamp
stamp_in Idle = None
stamp_in (Reading fed) = None
stamp_in Awaiting = None
stamp_in Lost = None

unfoldable pub list_stamps : List Connection → List ℕ
list_stamps all = filter_map (λ (c : Connection). stamp_in c.phase) all

-- some of these lists began before the change, and may show the rows that it removed
abbrev pub is_needed_for : List ℕ → ℕ → Bool
is_needed_for stamps change = list_any (λ n. nat_lt n change) stamps

-- the changes that removed rows, one for each row that was removed
abbrev pub removals_by : Ledger → List ℕ
removals_by l = filter_map (λ (slot : Slot). slot.removed) (all_slots l.own l.changes)

-- NEEDED-1: A removed row is needed, and retained, while a list is unfinished that began before its
-- removal, whether or not the list shows it; a list is unfinished until its last byte was given, or
-- its connection is Lost or gone. What is no longer needed goes at the next SET that is accepted
-- and finds 16 retained rows or no room.
unfoldable pub needed_removals : List Connection → Ledger → List ℕ
needed_removals all l = filter (is_needed_for (list_stamps all)) (removals_by l)

-- ---- room for a row

-- the message is a SET that is accepted
-- EVICT-2: A SET that is refused closes no list, also if the live rows alone reach the limit, and
-- neither does any other call.
abbrev pub asks_room : Context → Message → Ledger → Bool
asks_room context (says.Asked call) l = wants_room context call l
asks_room context says.NoCall l = false
asks_room context (says.Refused head) l = false
asks_room context (says.Garbage head) l = false

-- the live rows and those that lists need reach the limit
abbrev pub is_crowded : ℕ → List Connection → Ledger → Bool
is_crowded limit all l = not (nat_lt (length (rows_in l) + length (needed_removals all l)) limit)

-- if a message needs room for a row and there is none, the changes that removed the rows which lists need, one of which
-- has to go
unfoldable pub removals_in_the_way : Context → Message → List Connection → Ledger → List ℕ
removals_in_the_way context message all l =
    if asks_room context message l && is_crowded context.limit all l then needed_removals all l else []

-- a list that began before the earliest of these changes, if there is one
abbrev pub began_before : List ℕ → Option ℕ → Bool
began_before [] stamp = false
began_before (change ∷ changes) None = false
began_before (change ∷ changes) (Some n) = list_all (λ later. nat_lt n later) (change ∷ changes)

unfoldable pub evict_early : List ℕ → Connection → Connection
evict_early changes c = if began_before changes (stamp_in c.phase) then lose c else c

abbrev pub evict : List ℕ → Connections → Connections
evict changes c = record c { all = map (evict_early changes) c.all }

-- EVICT-1: At a SET that is accepted, if the live and the needed rows reach the limit, those
-- connections become Lost whose lists began before the earliest change that removed a needed row,
-- and no others.
-- LOST-1
abbrev pub with_room : Context → Message → State → State
with_room context message s =
    record s { connections = evict (removals_in_the_way context message s.connections.all s.ledger) s.connections }
