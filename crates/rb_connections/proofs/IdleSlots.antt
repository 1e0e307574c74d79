-- A connection is live if its slot is Idle.
use Rattle.std.specs.Prelude.{find}
use Rattle.std.specs.List.{AllZip, list_any}
use Rattle.std.specs.Map.{values_of}
use Rattle.std.proofs.Common.{◌≡◌, ℕ, Bool, true, false, List, [], ◌∷◌, Some, refl, arith}
use Rattle.std.proofs.lemmas.Grind.{common_steps}
use Rattle.rb_model.specs.State.{Connection, Connections}
use Rattle.rb_model.specs.Connections.{is_live}
use Rattle.rb_connections.specs.declared.slot.Slot.{Slot}
use Rattle.rb_registry.specs.Registry.{Registry}
use Rattle.rb_connections.specs.StandsFor.{StandsForConnection, StandsForConnections, Table}
use Rattle.rb_connections.specs.Awaits.{is_idle_slot, has_idle}

-- A live connection of the number is there.
pub record Lives (id : ℕ) (all : List Connection) : Type 0 where
  pub connection : Connection
  pub there : find (is_live id) all ≡ Some connection

idle_lives : (registry : Registry) (id : ℕ) (slot : Slot) (c : Connection) → StandsForConnection registry slot c → is_idle_slot id slot ≡ true → is_live id c ≡ true
unfolding is_live
idle_lives registry id slot c stands idle = grind arith

idle_among : (registry : Registry) (id : ℕ) (slots : List Slot) (all : List Connection) → AllZip (StandsForConnection registry) slots all → list_any (is_idle_slot id) slots ≡ true → Lives id all
idle_among registry id [] all zip any = absurd cc
idle_among registry id (slot ∷ slots) [] zip any = absurd zip
idle_among registry id (slot ∷ slots) (c ∷ all) zip any = by_live (is_live id c) refl (idle_among registry id slots all zip.1)
  where
    by_live : (b : Bool) → is_live id c ≡ b → (list_any (is_idle_slot id) slots ≡ true → Lives id all) → Lives id (c ∷ all)
    by_live true t further = record { connection = c; there = rw t refl }
    by_live false t further = by_idle (is_idle_slot id slot) refl
      where
        by_idle : (b : Bool) → is_idle_slot id slot ≡ b → Lives id (c ∷ all)
        by_idle bb e = grind (arith, common_steps, idle_lives)

pub idle_is_live : (registry : Registry) (id : ℕ) (table : Table) (c : Connections) → StandsForConnections registry table c → has_idle id table ≡ true → Lives id c.all
unfolding has_idle
idle_is_live registry id table c stands idle = idle_among registry id (values_of table.slots) c.all stands.all idle
