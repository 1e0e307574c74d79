-- Laws of entries over whole runs.
use Rattle.std.specs.Prelude.{◌≡◌, ℕ, ◌+◌, ◌≤◌, ◌==◌, if◌then◌else◌, List, [], ◌∷◌, map, find, Option, Some, None}
use Rattle.std.specs.List.{count_by, cons_option}
use Rattle.std.specs.Option.{option_map}
use Rattle.rb_address.specs.declared.peer.Peer.{Peer}
use Rattle.rb_forward.specs.declared.types.Forward.{Forward}
use Rattle.rb_forward.specs.declared.types.ForwardEnd.TheVariants.{Failed, Dropped}
use Rattle.rb_forward.specs.Forwards.{Entry, Forwards, no_forwards, can_start, with_next_entry, sent, counts_for, is_due, is_of_connection, outcome_of, ended_by, reply, due, drop_caller}

-- what may happen to a table of forwarded calls: the calls that change it
pub data Event : Type 0 where
  Start : ℕ → Forward → List ℕ → Event
  Sent : ℕ → Event
  Reply : ℕ → Peer → List ℕ → Event
  Due : ℕ → Event
  DropCaller : ℕ → Event

abbrev pub after : ℕ → ℕ → Forwards → Event → Forwards
after cap first_xid f (Start clock forward args) = if can_start cap f then with_next_entry clock forward args f else f
after cap first_xid f (Sent number) = sent number f
after cap first_xid f (Reply clock from message) = (reply first_xid clock from message f).1
after cap first_xid f (Due clock) = (due clock f).1
after cap first_xid f (DropCaller id) = (drop_caller id f).1

abbrev pub number_of : Entry → ℕ
number_of e = e.number

-- the number of the entry that begins
abbrev pub number_begun : ℕ → Forwards → Event → Option ℕ
number_begun cap f (Start clock forward args) = if can_start cap f then Some f.next else None
number_begun cap f (Sent number) = None
number_begun cap f (Reply clock from message) = None
number_begun cap f (Due clock) = None
number_begun cap f (DropCaller id) = None

-- the entry that ends
abbrev pub entry_ended : ℕ → Forwards → Event → Option Entry
entry_ended first_xid f (Start clock forward args) = None
entry_ended first_xid f (Sent number) = None
entry_ended first_xid f (Reply clock from message) = find (counts_for first_xid clock from message) f.all
entry_ended first_xid f (Due clock) = find (is_due clock) f.all
entry_ended first_xid f (DropCaller id) = find (is_of_connection id) f.all

-- what each call tells is the end of that entry
pub record TellsTheEnd (first_xid : ℕ) (f : Forwards) : Type 0 where
  pub replied : (clock : ℕ) (from : Peer) (message : List ℕ) → (reply first_xid clock from message f).0 ≡ option_map (ended_by (outcome_of message)) (entry_ended first_xid f (Reply clock from message))
  pub was_due : (clock : ℕ) → (due clock f).0 ≡ option_map (ended_by Failed) (entry_ended first_xid f (Due clock))
  pub dropped : (id : ℕ) → (drop_caller id f).0 ≡ option_map (ended_by Dropped) (entry_ended first_xid f (DropCaller id))

-- ---- runs

-- the numbers of the entries that began, and of those that ended, and the entries that are left
pub record Run : Type 0 where
  pub begun : List ℕ
  pub ended : List ℕ
  pub left : Forwards

abbrev pub run : ℕ → ℕ → Forwards → List Event → Run
run cap first_xid f [] = record { begun = []; ended = []; left = f }
run cap first_xid f (event ∷ events) =
    let later = run cap first_xid (after cap first_xid f event) events in
    record {
      begun = cons_option (number_begun cap f event) later.begun;
      ended = cons_option (option_map number_of (entry_ended first_xid f event)) later.ended;
      left = later.left;
    }

-- how often the number is among them
abbrev pub times : ℕ → List ℕ → ℕ
times number numbers = count_by (λ n. n == number) numbers

-- each is above those before it, and the last is below the end
abbrev pub AreRising : ℕ → List ℕ → ℕ → Type 0
AreRising least [] end = least ≤ end
AreRising least (n ∷ numbers) end = (least ≤ n) × AreRising (n + 1) numbers end

-- The numbers of entries never recur: each is above those before it.
abbrev pub NumbersNeverRecur : Type 0
NumbersNeverRecur =
    (cap first_xid : ℕ) (events : List Event)
    → AreRising 1 (run cap first_xid no_forwards events).begun (run cap first_xid no_forwards events).left.next

-- Each entry that begins ends once, or is still there, and nothing else ends.
-- FORWARD-2: A forwarded call (an entry of the table) ends once.
abbrev pub EachEndsOnce : Type 0
EachEndsOnce =
    (cap first_xid : ℕ) (events : List Event) (number : ℕ)
    → times number (run cap first_xid no_forwards events).begun
    ≡ times number (run cap first_xid no_forwards events).ended
    + count_by (λ e. e.number == number) (run cap first_xid no_forwards events).left.all

-- The entries stand in the order of their numbers, so the first of some is that of least number.
abbrev pub EntriesAreInOrder : Type 0
EntriesAreInOrder =
    (cap first_xid : ℕ) (events : List Event)
    → AreRising 1 (map number_of (run cap first_xid no_forwards events).left.all)
    (run cap first_xid no_forwards events).left.next

abbrev pub EndsAreTold : Type 0
EndsAreTold = (first_xid : ℕ) (f : Forwards) → TellsTheEnd first_xid f
