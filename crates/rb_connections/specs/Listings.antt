-- The lists that are given on the connections of a table, and which of these connections become Lost for room.
use Rattle.std.specs.Prelude.{◌≡◌, ◌≤◌, ⊤, ℕ, nat_lt, Bool, false, if◌then◌else◌, List, [], map, filter_map, All, Contains, Option, Some, None}
use Rattle.std.specs.Map.{values_of}
use Rattle.rb_xdr.specs.Pool.{Pool}
use Rattle.rb_model.specs.Losses.{evict}
use Rattle.rb_connections.specs.declared.slot.Stage.{Stage}
use Rattle.rb_connections.specs.declared.slot.Stage.TheVariants as stages
use Rattle.rb_connections.specs.declared.slot.Slot.{Slot}
use Rattle.rb_registry.specs.Registry.{Registry}
use Rattle.rb_connections.specs.StandsFor.{stamp_of_rest, Table}
use Rattle.rb_connections.specs.Giving.{CanContinueReply}
use Rattle.rb_connections.specs.Slots.{TableBecomes}

-- ---- one slot

-- the stamp of the list that is given: how many changes were accepted before it began
abbrev pub stamp_of_stage : Stage → Option ℕ
stamp_of_stage (stages.Owing giving) = stamp_of_rest giving.rest
stamp_of_stage stages.Idle = None
stamp_of_stage (stages.Reading reader) = None
stamp_of_stage stages.Awaiting = None
stamp_of_stage stages.Lost = None

abbrev pub stamp_of_slot : Slot → Option ℕ
stamp_of_slot slot = stamp_of_stage slot.stage

-- the rest of the reply that is given in this stage can be made from this registry
abbrev pub CanContinueStage : Registry → List ℕ → Stage → Type 0
CanContinueStage registry buffer (stages.Owing giving) = CanContinueReply registry buffer giving
CanContinueStage registry buffer stages.Idle = ⊤
CanContinueStage registry buffer (stages.Reading reader) = ⊤
CanContinueStage registry buffer stages.Awaiting = ⊤
CanContinueStage registry buffer stages.Lost = ⊤

abbrev pub CanContinueSlot : Registry → Slot → Type 0
CanContinueSlot registry slot = CanContinueStage registry slot.buffer.bytes slot.stage

-- from every registry
abbrev pub CanContinueSlotByAll : Slot → Type 0
CanContinueSlotByAll slot = (registry : Registry) → CanContinueSlot registry slot

-- from each registry from which the rest of the old list could be made, that of the new one can be made
abbrev pub SlotKeepsListing : Slot → Slot → Type 0
SlotKeepsListing old new = (registry : Registry) → CanContinueSlot registry old → CanContinueSlot registry new

-- ---- all of them

abbrev pub CanContinueAll : Registry → Table → Type 0
CanContinueAll registry table = All (CanContinueSlot registry) (values_of table.slots)

abbrev pub KeepsListing : Table → Table → Type 0
KeepsListing old new = (registry : Registry) → CanContinueAll registry old → CanContinueAll registry new

-- the stamps of the lists that are given
abbrev pub stamps_in : List (ℕ × Slot) → List ℕ
stamps_in slots = filter_map stamp_of_slot (values_of slots)

abbrev pub stamps_of : Table → List ℕ
stamps_of table = stamps_in table.slots

-- It is the least of these numbers, None if there is none.
abbrev pub IsOldest : List ℕ → Option ℕ → Type 0
IsOldest numbers None = numbers ≡ []
IsOldest numbers (Some oldest) = Contains numbers oldest × All (λ n. oldest ≤ n) numbers

-- ---- eviction

-- it is the earliest of these changes
pub record IsEarliest (changes : List ℕ) (earliest : ℕ) : Type 0 where
  pub one : Contains changes earliest
  pub all : All (λ change. earliest ≤ change) changes

-- a list that began before this change
abbrev pub began_before_earliest : ℕ → Option ℕ → Bool
began_before_earliest earliest None = false
began_before_earliest earliest (Some n) = nat_lt n earliest

-- The connections become Lost whose lists began before these changes, of which the earliest is this one.
abbrev pub EvictsBefore : ℕ → Table → Table → Type 0
EvictsBefore earliest old new =
    (changes : List ℕ) → IsEarliest changes earliest → TableBecomes (evict changes) old new

-- a slot after the eviction, Lost if its list began before the change
abbrev pub evicted_slot : ℕ → Slot → Slot
evicted_slot earliest slot = if began_before_earliest earliest (stamp_of_slot slot) then record slot { stage = stages.Lost } else slot

abbrev pub with_evicted : ℕ → Pool Slot → Pool Slot
with_evicted earliest slots = record slots { entries = map (λ e. (e.0, evicted_slot earliest e.1)) slots.entries }
