-- Which connections are free after a call on the table.
use Rattle.std.specs.Prelude.{find, option_map, IfSome}
use Rattle.std.specs.List.{list_any}
use Rattle.std.specs.Map.{values_of}
use Rattle.std.proofs.Common.{◌≡◌, ◌≤◌, ℕ, ◌+◌, Bool, true, false, not, ◌&&◌, ◌||◌, eqb, nat_lt, List, [], ◌∷◌, ◌++◌, Some, None, Result, Ok, refl, sym, ap, subst, ◌∙◌, arith}
use Rattle.std.proofs.lemmas.Bool.{and_parts, eqb-true, eq-eqb, ne_eqb}
use Rattle.std.proofs.lemmas.Bool.Decides.{nat_tests}
use Rattle.std.proofs.lemmas.Grind.{common_steps}
use Rattle.rb_xdr.specs.Pool.{value_at, without, with_value, HasDistinctKeys}
use Rattle.rb_forward.proofs.Tables.{some_is, is_first, nothing_found}
use Rattle.rb_model.specs.declared.types.CoreFault.{CoreFault}
use Rattle.rb_model.proofs.Found.{none_any}
use Rattle.rb_connections.specs.declared.slot.Slot.{Slot}
use Rattle.rb_connections.specs.declared.slot.Stage.{Stage}
use Rattle.rb_connections.specs.declared.slot.Sought.TheVariants as wanted
use Rattle.rb_connections.specs.declared.slot.Received.{Received}
use Rattle.rb_connections.specs.StandsFor.{Table}
use Rattle.rb_connections.specs.Slots.{AreNumbered, is_numbered, is_idle_stage, is_lost_stage, is_wanted_slot, wanted_slot}
use Rattle.rb_connections.specs.Awaits.{is_awaiting_stage, is_free_slot, is_free, is_idle_slot, has_idle, is_not_idle_since, IsIdleIfThere, NoneIsFreed, OnlyIsFreed, EndsOnSlot, EndedOn, EndsOnFree}
use Rattle.rb_connections.proofs.Slots.{any-without}

-- ---- whether any slot is so

pub any-there-of : (test : Slot → Bool) (es : List (ℕ × Slot)) (k : ℕ) (a : Slot) → value_at es k ≡ Some a → test a ≡ true → list_any test (values_of es) ≡ true
any-there-of test [] k a v t = grind arith
any-there-of test (e ∷ es) k a v t = grind (arith, any-there-of test es k a)

module _ (test : Slot → Bool) where
  -- one is changed, and passes only if it did before
  any-changed : (es : List (ℕ × Slot)) (k : ℕ) (old new : Slot) → value_at es k ≡ Some old → (test old ≡ false → test new ≡ false)
      → list_any test (values_of es) ≡ false → list_any test (values_of (with_value es k new)) ≡ false
  any-changed [] k old new v keeps none = grind arith
  any-changed (e ∷ es) k old new v keeps none = grind (arith, any-changed es k old new)

  any-put : (es : List (ℕ × Slot)) (k : ℕ) (old new : Slot) → value_at es k ≡ Some old → test new ≡ true → list_any test (values_of (with_value es k new)) ≡ true
  any-put [] k old new v t = grind arith
  any-put (e ∷ es) k old new v t = grind (arith, any-put es k old new)

  -- if all that pass are of this number, and none of these is
  none-of : (id : ℕ) → ((s : Slot) → eqb s.number id ≡ false → test s ≡ false) → (slots : List Slot) → list_any (is_numbered id) slots ≡ false → list_any test slots ≡ false
  none-of id only [] none = grind arith
  none-of id only (s ∷ slots) none = grind (arith, none-of id only slots)

  alone-changed : (id given : ℕ) → ((s : Slot) → eqb s.number id ≡ false → test s ≡ false) → (es : List (ℕ × Slot)) (k : ℕ) (old new : Slot) → AreNumbered given (values_of es) → value_at es k ≡ Some old → old.number ≡ id → test new ≡ false
      → list_any test (values_of (with_value es k new)) ≡ false
  alone-changed id given only [] k old new n v number t = grind (arith, common_steps, some_is, none-of, eqb-true, any-there-of, eq-eqb)
  alone-changed id given only (e ∷ es) k old new n v number t = grind (arith, common_steps, some_is, none-of, eqb-true, any-there-of, eq-eqb, alone-changed id given only es k old new n.2)

numbered-within : (given : ℕ) (es : List (ℕ × Slot)) (k : ℕ) (a : Slot) → AreNumbered given (values_of es) → value_at es k ≡ Some a → a.number ≤ given
numbered-within given [] k a n v = grind arith
numbered-within given (e ∷ es) k a n v = grind (arith, numbered-within given es k a n.2)

-- ---- the table

either-false : (a b : Bool) → (a || b) ≡ false → (a ≡ false) × (b ≡ false)
either-false a b e = grind arith

free-alike : (id : ℕ) (old new : Slot) → new.number ≡ old.number → is_awaiting_stage new.stage ≡ is_awaiting_stage old.stage → is_free_slot id old ≡ false → is_free_slot id new ≡ false
free-alike id old new number stage none = rw (number, stage) none

module _ (table : Table) where
  parts : (id : ℕ) → is_free id table ≡ false → (nat_lt table.last_number id ≡ false) × (list_any (is_free_slot id) (values_of table.slots) ≡ false)
  unfolding is_free
  parts id none = either-false (nat_lt table.last_number id) (list_any (is_free_slot id) (values_of table.slots)) none

  -- a slot goes on as it was, as far as that goes
  pub none_freed : (k : ℕ) (old new : Slot) → value_at table.slots k ≡ Some old → new.number ≡ old.number → is_awaiting_stage new.stage ≡ is_awaiting_stage old.stage
      → NoneIsFreed table (record table { slots = with_value table.slots k new })
  unfolding is_free
  none_freed k old new v number stage = grind (arith, common_steps, parts, any-changed, free-alike)

  pub none_freed_by_close : (k : ℕ) → NoneIsFreed table (record table { slots = without table.slots k })
  unfolding is_free
  none_freed_by_close k = grind (arith, common_steps, parts, any-without)

  pub none_freed_by_open : (new : Table) (slot : Slot) → values_of new.slots ≡ values_of table.slots ++ slot ∷ [] → new.last_number ≡ table.last_number + 1 → slot.number ≡ table.last_number + 1 → NoneIsFreed table new
  unfolding is_free
  none_freed_by_open new slot more given number = grind (arith, common_steps)

  -- the slot of this number changes
  pub one_freed : (number k : ℕ) (old new : Slot) → value_at table.slots k ≡ Some old → old.number ≡ number → new.number ≡ old.number → OnlyIsFreed number table (record table { slots = with_value table.slots k new })
  unfolding is_free
  one_freed number k old new v is same = grind (arith, common_steps, parts, ne_eqb, any-changed, eq-eqb)

  -- it awaits a forwarded call now
  pub now_awaits : (id k : ℕ) (old new : Slot) → AreNumbered table.last_number (values_of table.slots) → value_at table.slots k ≡ Some old → old.number ≡ id → new.number ≡ old.number → is_awaiting_stage new.stage ≡ true
      → is_free id (record table { slots = with_value table.slots k new }) ≡ false
  unfolding is_free
  now_awaits id k old new n v number same awaits =
      let within : old.number ≤ table.last_number = numbered-within table.last_number table.slots k old n v in
      let low : nat_lt table.last_number id ≡ false = grind (arith, nat_tests) in
      rw low (alone-changed (is_free_slot id) id table.last_number (λ s e. rw e refl) table.slots k old new n v number (rw awaits (both-not (eqb new.number id))))
    where
      both-not : (b : Bool) → (b && false) ≡ false
      both-not bb = grind (arith, common_steps)

  pub was_free : (id k : ℕ) (a : Slot) → value_at table.slots k ≡ Some a → a.number ≡ id → is_awaiting_stage a.stage ≡ false → is_free id table ≡ true
  unfolding is_free
  was_free id k a v number stage = grind (arith, common_steps, any-there-of, eq-eqb)

  pub is_idle : (id k : ℕ) (old new : Slot) → value_at table.slots k ≡ Some old → new.number ≡ id → is_idle_stage new.stage ≡ true → has_idle id (record table { slots = with_value table.slots k new }) ≡ true
  unfolding has_idle
  is_idle id k old new v number stage = any-put (is_idle_slot id) table.slots k old new v (rw (eq-eqb new.number id number, stage) refl)

  -- it is Idle since this moment
  now_settled : (id clock k : ℕ) (old new : Slot) → AreNumbered table.last_number (values_of table.slots) → value_at table.slots k ≡ Some old → old.number ≡ id → is_idle_stage new.stage ≡ true → new.since ≡ clock
      → IsIdleIfThere id clock (record table { slots = with_value table.slots k new })
  now_settled id clock k old new n v number idle since =
      alone-changed (is_not_idle_since id clock) id table.last_number (λ s e. rw e refl) table.slots k old new n v number (rw (idle, eq-eqb new.since clock since) (both-not (eqb new.number id)))
    where
      both-not : (b : Bool) → (b && false) ≡ false
      both-not bb = grind (arith, common_steps)

  -- a record ended on it
  pub ended_on_slot : (id clock k : ℕ) (old new : Slot) → AreNumbered table.last_number (values_of table.slots) → value_at table.slots k ≡ Some old → old.number ≡ id → new.number ≡ old.number → EndsOnSlot clock old new
      → EndedOn id clock table (record table { slots = with_value table.slots k new })
  ended_on_slot id clock k old new n v number same h = grind (arith, common_steps, was_free, is_idle, now_settled)

-- the slot that was found is live, and of the number
pub found_live : (id k : ℕ) (es : List (ℕ × Slot)) (slot : Slot) → HasDistinctKeys es → option_map (λ e. e.0) (wanted_slot (wanted.Live id) es) ≡ Some k → value_at es k ≡ Some slot → (slot.number ≡ id) × (is_lost_stage slot.stage ≡ false)
unfolding wanted_slot is_wanted_slot
found_live id k es slot d h v =
    let f = is_first (is_wanted_slot (wanted.Live id)) es k d h in
    let same : f.value ≡ slot = some_is f.value slot (sym f.here ∙ v) in
    let p = and_parts (eqb slot.number id) (not (is_lost_stage slot.stage)) (subst (λ (s : Slot). is_wanted_slot (wanted.Live id) s ≡ true) same f.passes) in
    (eqb-true slot.number id p.0, not-true (is_lost_stage slot.stage) p.1)
  where
    not-true : (b : Bool) → not b ≡ true → b ≡ false
    not-true bb e = grind (arith, common_steps)

-- if none is found, none is Idle
pub none_idle : (id : ℕ) (es : List (ℕ × Slot)) → option_map (λ e. e.0) (wanted_slot (wanted.Live id) es) ≡ None → (table : Table) → table.slots ≡ es → has_idle id table ≡ true → ⊥
unfolding wanted_slot is_wanted_slot has_idle
none_idle id es none table is idle =
    let found : find (is_wanted_slot (wanted.Live id)) (values_of es) ≡ None = nothing_found (is_wanted_slot (wanted.Live id)) es none in
    let all : list_any (is_idle_slot id) (values_of es) ≡ true = ap (λ (xs : List (ℕ × Slot)). list_any (is_idle_slot id) (values_of xs)) (sym is) ∙ idle in
    let clash : true ≡ false = sym all ∙ none_there (values_of es) (none_any (is_wanted_slot (wanted.Live id)) (values_of es) found) in
    absurd cc
  where
    idle-lost : (stage : Stage) (b : Bool) → (b && not (is_lost_stage stage)) ≡ false → (b && is_idle_stage stage) ≡ false
    idle-lost bb b e = grind (arith, common_steps)

    none_there : (slots : List Slot) → list_any (is_wanted_slot (wanted.Live id)) slots ≡ false → list_any (is_idle_slot id) slots ≡ false
    none_there [] h = refl
    none_there (s ∷ slots) h =
        let p = either-false (is_wanted_slot (wanted.Live id) s) (list_any (is_wanted_slot (wanted.Live id)) slots) h in
        rw (idle-lost s.stage (eqb s.number id) p.0) (none_there slots p.1)

-- a record ended on it
pub ended_from : (table : Table) (id clock k : ℕ) (old new : Slot) (got : Received) → AreNumbered table.last_number (values_of table.slots) → value_at table.slots k ≡ Some old → old.number ≡ id → new.number ≡ old.number
    → IfSome got.ended (λ ended. EndsOnSlot clock old new) → EndsOnFree id clock table (record table { slots = with_value table.slots k new }) (Ok got)
ended_from table id clock k old new got n v number same ends = grind (arith, common_steps, ended_on_slot)

-- the same of a table by its other name
pub freed_from : (view now new : Table) → view ≡ now → NoneIsFreed view new → NoneIsFreed now new
freed_from view now new is freed = subst (λ (t : Table). NoneIsFreed t new) is freed

pub only_from : (id : ℕ) (view now new : Table) → view ≡ now → OnlyIsFreed id view new → OnlyIsFreed id now new
only_from id view now new is freed = subst (λ (t : Table). OnlyIsFreed id t new) is freed

pub ends_from : (id clock : ℕ) (view now new : Table) (r : Result Received CoreFault) → view ≡ now → EndsOnFree id clock view new r → EndsOnFree id clock now new r
ends_from id clock view now new r is ends = subst (λ (t : Table). EndsOnFree id clock t new r) is ends
