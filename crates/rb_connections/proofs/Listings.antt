-- A registry goes on telling the lists that are given on the connections of a table.
use Rattle.std.specs.Prelude.{All}
use Rattle.std.specs.Map.{values_of}
use Rattle.std.proofs.Common.{◌≡◌, ℕ, List, [], ◌∷◌, ◌++◌, Some, sym, subst}
use Rattle.std.proofs.lemmas.List.Elements.{All-push}
use Rattle.rb_xdr.specs.Pool.{value_at, with_value, without}
use Rattle.rb_xdr.proofs.PoolLemmas.{All-value_at, All-with_value, All-without}
use Rattle.rb_connections.specs.declared.slot.Slot.{Slot}
use Rattle.rb_registry.specs.Registry.{Registry}
use Rattle.rb_connections.specs.StandsFor.{Table}
use Rattle.rb_connections.specs.Listings.{CanContinueSlot, SlotKeepsListing, CanContinueAll, KeepsListing}

module _ (view now : Table) (is : view ≡ now) where
  lists_before : (registry : Registry) → CanContinueAll registry now → CanContinueAll registry view
  lists_before registry told = subst (λ (t : Table). CanContinueAll registry t) (sym is) told

  pub lists_changed : (registry : Registry) (k : ℕ) (new : Slot) → CanContinueAll registry now → CanContinueSlot registry new → CanContinueAll registry (record view { slots = with_value view.slots k new })
  lists_changed registry k new told slot = All-with_value (CanContinueSlot registry) view.slots k new (lists_before registry told) slot

  pub keeps_changed : (k : ℕ) (old new : Slot) → value_at view.slots k ≡ Some old → SlotKeepsListing old new → KeepsListing now (record view { slots = with_value view.slots k new })
  keeps_changed k old new found keeps = λ registry told.
      lists_changed registry k new told (keeps registry (All-value_at (CanContinueSlot registry) view.slots k old (lists_before registry told) found))

  pub keeps_more : (slot : Slot) (entries : List (ℕ × Slot)) → values_of entries ≡ values_of view.slots ++ slot ∷ [] → ((registry : Registry) → CanContinueSlot registry slot)
      → (registry : Registry) → CanContinueAll registry now → All (CanContinueSlot registry) (values_of entries)
  keeps_more slot entries more slot_lists_on = λ registry told.
      subst (All (CanContinueSlot registry)) (sym more) (All-push (CanContinueSlot registry) (values_of view.slots) slot (lists_before registry told) (slot_lists_on registry))

  pub keeps_less : (k : ℕ) → KeepsListing now (record view { slots = without view.slots k })
  keeps_less k = λ registry told. All-without (CanContinueSlot registry) view.slots k (lists_before registry told)
