-- Connections go on while one of them changes.
use Rattle.std.proofs.Common.{◌≡◌, ℕ, Some, refl}
use Rattle.rb_xdr.specs.Pool.{value_at, with_value}
use Rattle.rb_connections.specs.declared.slot.Slot.{Slot}
use Rattle.rb_connections.specs.StandsFor.{Table, IsWithin}
use Rattle.rb_connections.specs.Listings.{SlotKeepsListing}
use Rattle.rb_connections.specs.Awaits.{GoOn, is_awaiting_stage}
use Rattle.rb_connections.proofs.Freed.{none_freed, freed_from}
use Rattle.rb_connections.proofs.Holding.{stays_changed}
use Rattle.rb_connections.proofs.Listings.{keeps_changed}

pub goes_on_same : (table : Table) → GoOn table table
goes_on_same table = record { lists = λ registry told. told; free = λ id none. none; stays = record { conns = refl; memory = refl; tie = refl; within = λ within. within } }

pub goes_on_changed : (view now : Table) → view ≡ now → (k : ℕ) (old new : Slot) → value_at view.slots k ≡ Some old
    → SlotKeepsListing old new → new.number ≡ old.number → is_awaiting_stage new.stage ≡ is_awaiting_stage old.stage → IsWithin new
    → GoOn now (record view { slots = with_value view.slots k new })
goes_on_changed view now is k old new found told number awaits within = record {
  lists = keeps_changed view now is k old new found told;
  free = freed_from view now _ is (none_freed view k old new found number awaits);
  stays = stays_changed view now k new is within;
}
