-- Where the connection of a number stands, by its slot.
use Rattle.std.specs.Prelude.{find, option_map}
use Rattle.std.specs.Option.{option_map_or}
use Rattle.std.specs.List.{AllZip, list_any}
use Rattle.std.specs.Map.{values_of}
use Rattle.std.proofs.Common.{◌≡◌, ℕ, true, false, List, [], ◌∷◌, Some, None, refl, sym, ◌∙◌, arith}
use Rattle.std.proofs.lemmas.Grind.{common_steps}
use Rattle.std.proofs.lemmas.Bool.{eqb-true, eq-eqb}
use Rattle.rb_xdr.specs.Kept.{Kept}
use Rattle.rb_xdr.specs.Pool.{value_at, with_value}
use Rattle.rb_model.specs.State.{Phase, Connection}
use Rattle.rb_model.specs.Connections.{is_live, live_connection}
use Rattle.rb_model.specs.Standings.{standing_in, standing_on}
use Rattle.rb_rpc.specs.declared.standing.Standing.{Standing}
use Rattle.rb_rpc.specs.declared.standing.Standing.TheVariants as stands
use Rattle.rb_registry.specs.Registry.{Registry}
use Rattle.rb_connections.specs.declared.slot.Slot.{Slot}
use Rattle.rb_connections.specs.declared.slot.Stage.{Stage}
use Rattle.rb_connections.specs.declared.slot.Sought.TheVariants as wanted
use Rattle.rb_connections.specs.StandsFor.{Table, StandsForPhase, StandsForConnection}
use Rattle.rb_connections.specs.Slots.{phase_like, is_lost_stage, is_idle_stage, is_numbered, wanted_slot, is_wanted_slot, is_wanted, HasDistinctNumbers}
use Rattle.rb_connections.specs.Standings.{standing_of_slot, IsStanding}
use Rattle.rb_connections.proofs.Phases.{by_phase}
use Rattle.rb_connections.specs.Awaits.{has_idle, is_idle_slot, is_not_idle_since, IsIdleIfThere}
use Rattle.rb_connections.proofs.Slots.{wanted_alike, not_live}

stage_alike : (registry : Registry) (stage : Stage) (buffer window : Kept) (phase : Phase) → StandsForPhase registry stage buffer window phase
    → standing_in (phase_like stage) ≡ standing_in phase
stage_alike registry stage buffer window phase h = grind (arith, common_steps, by_phase registry buffer window)

slot_alike : (registry : Registry) (slot : Slot) (c : Connection) → StandsForConnection registry slot c → standing_of_slot slot ≡ standing_in c.phase
slot_alike registry slot c h = stage_alike registry slot.stage slot.buffer slot.window c.phase h.phase

live_alike : (registry : Registry) (id : ℕ) (slot : Slot) (c : Connection) → StandsForConnection registry slot c → is_wanted_slot (wanted.Live id) slot ≡ is_live id c
unfolding is_wanted
live_alike registry id slot c h = wanted_alike registry (wanted.Live id) slot c h

-- that of the first live slot of the number
abbrev standing_among : ℕ → List Slot → Standing
standing_among id slots = option_map_or standing_of_slot (find (is_wanted_slot (wanted.Live id)) slots) stands.Lost

among_alike : (registry : Registry) (id : ℕ) (slots : List Slot) (all : List Connection) → AllZip (StandsForConnection registry) slots all
    → standing_among id slots ≡ standing_on (find (is_live id) all)
among_alike registry id [] [] z = refl
among_alike registry id [] (c ∷ all) z = absurd z
among_alike registry id (slot ∷ slots) [] z = absurd z
among_alike registry id (slot ∷ slots) (c ∷ all) z = grind (arith, common_steps, live_alike, slot_alike, among_alike registry id slots all)

-- ---- one that has the number

idle_stage : (stage : Stage) → is_idle_stage stage ≡ true → standing_in (phase_like stage) ≡ stands.Idle
idle_stage stage e = grind (arith, common_steps)

lost_stage : (stage : Stage) → is_lost_stage stage ≡ true → standing_in (phase_like stage) ≡ stands.Lost
lost_stage stage e = grind (arith, common_steps)

none_numbered : (id : ℕ) (slots : List Slot) → list_any (is_numbered id) slots ≡ false → find (is_wanted_slot (wanted.Live id)) slots ≡ None
unfolding is_wanted_slot
none_numbered id [] none = refl
none_numbered id (slot ∷ slots) none = grind (arith, common_steps, none_numbered id slots)

numbered_there : (id k : ℕ) (slot : Slot) (es : List (ℕ × Slot)) → value_at es k ≡ Some slot → slot.number ≡ id → list_any (is_numbered id) (values_of es) ≡ true
numbered_there id k slot [] v n = grind (arith, common_steps)
numbered_there id k slot (e ∷ es) v n = grind (arith, common_steps, eq-eqb, numbered_there id k slot es)

stands_there : (id k : ℕ) (slot : Slot) (es : List (ℕ × Slot)) → HasDistinctNumbers (values_of es) → value_at es k ≡ Some slot → slot.number ≡ id
    → standing_among id (values_of es) ≡ standing_of_slot slot
unfolding is_wanted_slot
stands_there id k slot [] d v n = grind (arith, common_steps)
stands_there id k slot (e ∷ es) d v n = grind (arith, common_steps, eq-eqb, eqb-true, lost_stage, none_numbered, numbered_there, stands_there id k slot es d.1)

pub is_standing : (id k : ℕ) (slot : Slot) (table : Table) → HasDistinctNumbers (values_of table.slots) → value_at table.slots k ≡ Some slot → slot.number ≡ id
    → IsStanding id table (standing_of_slot slot)
unfolding live_connection
is_standing id k slot table d v n registry c h = sym (stands_there id k slot table.slots d v n) ∙ among_alike registry id (values_of table.slots) c.all h.all

there_with : (es : List (ℕ × Slot)) (k : ℕ) (old new : Slot) → value_at es k ≡ Some old → value_at (with_value es k new) k ≡ Some new
there_with [] k old new v = grind (arith, common_steps)
there_with (e ∷ es) k old new v = grind (arith, common_steps, eqb-true, there_with es k old new)

-- the slot of the live connection of the number has changed
pub now_standing : (id k : ℕ) (old new : Slot) (table : Table) → value_at table.slots k ≡ Some old → old.number ≡ id → new.number ≡ old.number
    → HasDistinctNumbers (values_of (with_value table.slots k new)) → IsStanding id (record table { slots = with_value table.slots k new }) (standing_of_slot new)
now_standing id k old new table v n same d = is_standing id k new (record table { slots = with_value table.slots k new }) d (there_with table.slots k old new v) (same ∙ n)

-- if none is live
pub gone_standing : (id : ℕ) (table : Table) → option_map (λ (e : ℕ × Slot). e.0) (wanted_slot (wanted.Live id) table.slots) ≡ None → IsStanding id table stands.Lost
gone_standing id table none registry c h = rw (not_live registry id table.slots c.all h.all none) refl

-- one that is Idle since a moment
idle_among : (id clock : ℕ) (slots : List Slot) → list_any (is_idle_slot id) slots ≡ true → list_any (is_not_idle_since id clock) slots ≡ false → standing_among id slots ≡ stands.Idle
unfolding is_wanted_slot
idle_among id clock [] idle only = grind (arith, common_steps)
idle_among id clock (slot ∷ slots) idle only = grind (arith, common_steps, idle_stage, idle_among id clock slots)

pub idle_standing : (id clock : ℕ) (table : Table) → has_idle id table ≡ true → IsIdleIfThere id clock table → IsStanding id table stands.Idle
unfolding has_idle live_connection
idle_standing id clock table idle only registry c h = sym (idle_among id clock (values_of table.slots) idle only) ∙ among_alike registry id (values_of table.slots) c.all h.all
