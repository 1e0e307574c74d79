-- What it costs to count bytes as given: the rows count if the next fragment is of a list.
use Rattle.std.specs.Prelude.{is_some}
use Rattle.std.proofs.Common.{◌≡◌, ◌≤◌, ℕ, ◌+◌, Option, Some, None, Ok, Err, subst, arith}
use Rattle.std.specs.Option.{option_map}
use Rattle.rb_xdr.specs.Meter.{Meter, PaysAtMost}
use Rattle.rb_xdr.specs.Pool.{value_at, HasDistinctKeys}
use Rattle.rb_registry.specs.Registry.{Registry}
use Rattle.rb_model.specs.Gives.{written_into_cost}
use Rattle.rb_rpc.specs.declared.standing.Standing.{Standing}
use Rattle.rb_model.specs.declared.types.CoreFault.TheVariants as CoreFault
use Rattle.rb_model.specs.Costs.{walked, find_cost, given_cost, recount_cost}
use Rattle.rb_connections.specs.declared.giving.Giving.{Giving}
use Rattle.rb_connections.specs.declared.giving.Rest.{Rest}
use Rattle.rb_connections.specs.declared.giving.Rest.TheVariants as rests
use Rattle.rb_connections.specs.declared.slot.Slot.{Slot}
use Rattle.rb_connections.specs.declared.slot.Stage.TheVariants as stages
use Rattle.rb_connections.specs.declared.slot.Sought.TheVariants as wanted
use Rattle.rb_connections.specs.Costs.{row_count, next_cost, slot_given_cost, slot_into_cost, slot_count, look_cost, PaysToGive, PaysToWriteInto}
use Rattle.rb_connections.specs.Slots.{wanted_slot}
use Rattle.rb_connections.specs.StandsFor.{Table, stamp_of_rest}
use Rattle.rb_connections.proofs.Evicting.{began_alike}
use Rattle.rb_connections.proofs.Slots.{live_slot, not_live}

-- the look at what is pending, and the next fragment
pub shown_few : (registry : Registry) (slot : Slot) (giving : Giving) → slot.stage ≡ stages.Owing giving → 1 + next_cost registry giving.rest ≤ slot_given_cost registry slot
shown_few registry slot giving is = rw is (by_rest giving.rest)
  where
    by_rest : (rest : Rest) → 1 + next_cost registry rest ≤ given_cost (walked (is_some (stamp_of_rest rest)) (row_count registry))
    by_rest (rests.Held start) = omega arith
    by_rest (rests.Listed list) = omega arith

-- by the live connection of the number, or if there is none
module _ (registry : Registry) (id : ℕ) (table : Table) (a b : Meter) where
  pub gone_pays : option_map (λ e. e.0) (wanted_slot (wanted.Live id) table.slots) ≡ None → PaysAtMost a b (look_cost table) → PaysToGive table registry id a b
  gone_pays none pays x z = rw (not_live registry id table.slots x.all z.all none) pays

  pub given_pays : (k : ℕ) (slot : Slot) → HasDistinctKeys table.slots → option_map (λ e. e.0) (wanted_slot (wanted.Live id) table.slots) ≡ Some k → value_at table.slots k ≡ Some slot
      → PaysAtMost a b (look_cost table + slot_given_cost registry slot + recount_cost) → PaysToGive table registry id a b
  given_pays k slot d h v pays x z =
      let l = live_slot registry id table.slots x.all k slot d z.all h v in
      let same = began_alike registry slot.stage slot.buffer slot.window l.connection.phase l.stands.phase in
      rw l.there (subst (λ (o : Option ℕ). PaysAtMost a b (find_cost (slot_count table) + given_cost (walked (is_some o) (row_count registry)) + recount_cost)) same pays)

  -- the same into a room
  pub gone_into_pays : option_map (λ e. e.0) (wanted_slot (wanted.Live id) table.slots) ≡ None → PaysAtMost a b (look_cost table) → PaysToWriteInto table registry id (Err CoreFault.Gone) a b
  gone_into_pays none pays x z = rw (not_live registry id table.slots x.all z.all none) pays

  pub given_into_pays : (n : ℕ) (standing : Standing) (k : ℕ) (slot : Slot) → HasDistinctKeys table.slots → option_map (λ e. e.0) (wanted_slot (wanted.Live id) table.slots) ≡ Some k → value_at table.slots k ≡ Some slot
      → PaysAtMost a b (look_cost table + slot_into_cost registry slot n + recount_cost) → PaysToWriteInto table registry id (Ok (record { count = n; standing = standing })) a b
  given_into_pays n standing k slot d h v pays x z =
      let l = live_slot registry id table.slots x.all k slot d z.all h v in
      let same = began_alike registry slot.stage slot.buffer slot.window l.connection.phase l.stands.phase in
      rw l.there (subst (λ (o : Option ℕ). PaysAtMost a b (find_cost (slot_count table) + written_into_cost (walked (is_some o) (row_count registry)) n + recount_cost)) same pays)
