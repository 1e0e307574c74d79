-- What is kept of forwarded calls, and the entries that it stands for.
use Rattle.std.specs.Prelude.{◌≡◌, ℕ, ◌+◌, List, length}
use Rattle.std.specs.List.{AllZip, sum_by}
use Rattle.std.specs.Map.{values_of}
use Rattle.rb_forward.specs.declared.entries.Slot.{Slot}
use Rattle.rb_arguments.specs.Forwarded.{longest_forwarded}
use Rattle.rb_forward.specs.Forwards.{Entry, Forwards, xid_of, held_call, entry_charge}

-- the longest unsent call: a head of 40 bytes and the arguments
abbrev pub longest_forwarded_call : ℕ
longest_forwarded_call = 40 + longest_forwarded

pub record StandsForEntry (first_xid : ℕ) (slot : Slot) (e : Entry) : Type 0 where
  pub number : slot.number ≡ e.number
  pub forward : slot.forward ≡ e.forward
  pub xid : slot.xid ≡ xid_of first_xid e.number
  pub deadline : slot.deadline ≡ e.deadline
  pub sent : slot.sent ≡ e.sent
  pub call : slot.call.bytes ≡ held_call first_xid e

-- ---- the table

-- the slots of entries with their keys, in the order of their calls, the last number that was given, the xid of the first
-- entry, how many entries there may be, the memory that the tables of slots and of spare buffers hold (as of a `Pool`), and
-- the number of the meter that counts the calls
pub record Table : Type 0 where
  pub slots : List (ℕ × Slot)
  pub last_number : ℕ
  pub first_xid : ℕ
  pub cap : ℕ
  pub memory : (ℕ × ℕ) × (ℕ × ℕ)
  pub tie : ℕ

-- the first xid, the number of entries that there may be, the memory and the meter stay
pub record SameFrame (old new : Table) : Type 0 where
  pub first_xid : new.first_xid ≡ old.first_xid
  pub cap : new.cap ≡ old.cap
  pub memory : new.memory ≡ old.memory
  pub tie : new.tie ≡ old.tie

pub record StandsForForwards (table : Table) (f : Forwards) : Type 0 where
  pub all : AllZip (StandsForEntry table.first_xid) (values_of table.slots) f.all
  pub next : f.next ≡ table.last_number + 1

abbrev pub slots_of : Table → List Slot
slots_of table = values_of table.slots

-- the bytes of a slot count, and its fixed part
abbrev pub held_in : List Slot → ℕ
held_in slots = sum_by (λ (slot : Slot). entry_charge + length slot.call.bytes) slots
