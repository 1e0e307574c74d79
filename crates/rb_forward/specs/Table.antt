-- What is done with the slots of entries, and what is true of them.
use Rattle.std.specs.Prelude.{◌≡◌, ◌<◌, ◌≤◌, ⊤, ℕ, ◌+◌, ◌^◌, ◌==◌, nat_le, nat_lt, Bool, true, false, not, ◌&&◌, List, [], ◌∷◌, length, find, All, Option, Some, None}
use Rattle.std.specs.List.{list_any}
use Rattle.std.specs.Map.{values_of}
use Rattle.rb_xdr.specs.Kept.{Kept}
use Rattle.rb_xdr.specs.Pool.{Pool, HasDistinctKeys}
use Rattle.rb_address.specs.declared.caller.Caller.{Caller}
use Rattle.rb_address.specs.declared.caller.Caller.TheVariants.{Tcp, Udp}
use Rattle.rb_forward.specs.declared.entries.Slot.{Slot}
use Rattle.rb_forward.specs.declared.entries.Sought.{Sought}
use Rattle.rb_forward.specs.declared.entries.Sought.TheVariants as wanted
use Rattle.rb_forward.specs.declared.types.ForwardEnd.{ForwardEnd}
use Rattle.rb_forward.specs.declared.types.Ended.{Ended}
use Rattle.rb_forward.specs.declared.types.Unsent.{Unsent as Lent}
use Rattle.rb_forward.specs.Forwards.{Entry, Forwards, is_same_peer, is_answered, is_due, is_connection, is_of_connection, with_end, Unsent, is_unsent}
use Rattle.rb_forward.specs.StandsFor.{longest_forwarded_call, Table, StandsForForwards, held_in}

-- ---- the table

-- this holds of whatever the table stands for
abbrev pub Whatever : Table → (Forwards → Type 0) → Type 0
Whatever table holds = (f : Forwards) → StandsForForwards table f → holds f

-- what the old table stands for becomes, by this change, what the new one stands for
abbrev pub Becomes : Table → Table → (Forwards → Forwards) → Type 0
Becomes old new change = (f : Forwards) → StandsForForwards old f → StandsForForwards new (change f)

-- this act gives this result
abbrev pub GivenBy : {A : Type 0} → (Forwards → A × Forwards) → Table → A → Type 0
GivenBy act table result = Whatever table (λ f. result ≡ (act f).0)

-- the new table stands for what it leaves
abbrev pub LeftBy : {A : Type 0} → (Forwards → A × Forwards) → Table → Table → Type 0
LeftBy act old new = Becomes old new (λ f. (act f).1)

-- a slot whose call was sent
abbrev pub without_call : Slot → Slot
without_call slot = record slot { sent = true; call = record slot.call { bytes = [] } }

-- ---- what is looked for

unfoldable pub is_wanted_slot : Sought → Slot → Bool
is_wanted_slot wanted.AnyUnsent slot = not slot.sent
is_wanted_slot (wanted.Unsent number) slot = slot.number == number && not slot.sent
is_wanted_slot (wanted.Answered xid from clock) slot =
    slot.sent && is_same_peer slot.forward.target from && slot.xid == xid && nat_lt clock slot.deadline
is_wanted_slot (wanted.Due clock) slot = nat_le slot.deadline clock
is_wanted_slot (wanted.OfConnection id) slot = is_connection id slot.forward.caller

unfoldable pub is_wanted : ℕ → Sought → Entry → Bool
is_wanted first_xid wanted.AnyUnsent e = not e.sent
is_wanted first_xid (wanted.Unsent number) e = is_unsent number e
is_wanted first_xid (wanted.Answered xid from clock) e = is_answered first_xid clock from xid e
is_wanted first_xid (wanted.Due clock) e = is_due clock e
is_wanted first_xid (wanted.OfConnection id) e = is_of_connection id e

-- the first entry that is looked for ends so
abbrev pub end_of : ℕ → Sought → ForwardEnd → Forwards → Option Ended × Forwards
end_of first_xid sought outcome f = with_end (is_wanted first_xid sought) outcome f

-- the key and the slot of the first entry that is looked for
unfoldable pub wanted_slot : Sought → List (ℕ × Slot) → Option (ℕ × Slot)
wanted_slot sought slots = find (λ (e : ℕ × Slot). is_wanted_slot sought e.1) slots

-- ---- what is lent

-- without where its bytes lie in memory
abbrev pub plain_unsent : Option Lent → Option Unsent
plain_unsent None = None
plain_unsent (Some lent) = Some (record { number = lent.id.number; target = lent.target; call = lent.call.now })

-- how many bytes are lent
abbrev pub count_lent : Option Lent → ℕ
count_lent None = 0
count_lent (Some lent) = length lent.call.now

-- ---- callers

-- one of the slots is of this connection
abbrev pub is_waiting : ℕ → List Slot → Bool
is_waiting id slots = list_any (λ (slot : Slot). is_connection id slot.forward.caller) slots

-- none of the slots is of the connection of this caller, if it has one
abbrev pub IsNew : Caller → List Slot → Type 0
IsNew (Tcp id who) slots = is_waiting id slots ≡ false
IsNew (Udp who longest) slots = ⊤

-- each connection of which one is now had one before
abbrev pub NoneWaitsAnew : List Slot → List Slot → Type 0
NoneWaitsAnew before now = (id : ℕ) → is_waiting id before ≡ false → is_waiting id now ≡ false

-- or it is that of this caller
abbrev pub OnlyWaitsAnew : Caller → List Slot → List Slot → Type 0
OnlyWaitsAnew caller before now =
    (id : ℕ) → is_connection id caller ≡ false → is_waiting id before ≡ false → is_waiting id now ≡ false

-- no two slots are of one connection
abbrev pub AreOfDistinctCallers : List Slot → Type 0
AreOfDistinctCallers [] = ⊤
AreOfDistinctCallers (slot ∷ rest) = IsNew slot.forward.caller rest × AreOfDistinctCallers rest

-- ---- buffers

-- a buffer for an unsent call, made with this meter
pub record IsBuffer (meter : ℕ) (buffer : Kept) : Type 0 where
  pub tie : buffer.tie ≡ meter
  pub cap : buffer.cap ≡ longest_forwarded_call
  pub within : length buffer.bytes ≤ longest_forwarded_call

pub record IsSpare (meter : ℕ) (buffer : Kept) : Type 0 where
  pub tie : buffer.tie ≡ meter
  pub cap : buffer.cap ≡ longest_forwarded_call
  pub empty : buffer.bytes ≡ []

abbrev pub HasBuffer : ℕ → Slot → Type 0
HasBuffer meter slot = IsBuffer meter slot.call

-- What is true of all that is kept of entries: there are as many buffers as there may be entries, and each that no entry has
-- is spare.
pub record IsTable (slots : Pool Slot) (spare : Pool Kept) (cap held : ℕ) : Type 0 where
  pub distinct : HasDistinctKeys slots.entries
  pub spare_distinct : HasDistinctKeys spare.entries
  pub few : cap < 2 ^ 32
  pub room : length slots.entries + length spare.entries ≡ cap
  pub slots_cap : slots.cap ≡ cap
  pub spare_cap : spare.cap ≡ cap
  pub tie : spare.tie ≡ slots.tie
  pub buffers : All (HasBuffer slots.tie) (values_of slots.entries)
  pub spare_buffers : All (IsSpare slots.tie) (values_of spare.entries)
  pub callers : AreOfDistinctCallers (values_of slots.entries)
  pub is_held : held ≡ held_in (values_of slots.entries)
