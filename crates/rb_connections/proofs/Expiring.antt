-- The due connection becomes Lost, and so does its slot.
use Rattle.std.specs.Prelude.{option_map}
use Rattle.std.specs.List.{AllZip}
use Rattle.std.specs.Map.{values_of}
use Rattle.std.proofs.Common.{◌≡◌, ℕ, true, false, List, [], ◌∷◌, Option, Some, None, sym, ap, subst, ◌∙◌, arith}
use Rattle.std.proofs.lemmas.Grind.{common_steps}
use Rattle.rb_xdr.specs.Pool.{value_at, with_value, HasDistinctKeys}
use Rattle.rb_forward.proofs.Tables.{some_is, is_first}
use Rattle.rb_model.specs.State.{Connection}
use Rattle.rb_model.specs.Losses.{has_come, deadline, first_due, lose, expire_first}
use Rattle.rb_model.proofs.Expiring.{AreApart, due-changed}
use Rattle.rb_connections.specs.declared.slot.Slot.{Slot}
use Rattle.rb_connections.specs.declared.slot.Stage.{Stage}
use Rattle.rb_connections.specs.declared.slot.Stage.TheVariants as stages
use Rattle.rb_connections.specs.declared.slot.Sought.TheVariants as wanted
use Rattle.rb_connections.specs.Slots.{phase_like, is_due_slot, Acts, AreNumbered, is_wanted_slot, is_wanted, wanted_slot}
use Rattle.rb_registry.specs.Registry.{Registry}
use Rattle.rb_connections.specs.StandsFor.{StandsForConnection, StandsForConnections, Table}
use Rattle.rb_connections.specs.Awaits.{is_awaiting_stage}
use Rattle.rb_connections.proofs.Slots.{locate, no_slot, wanted_alike, any_alike}

-- ---- the table

apart : (registry : Registry) (given : ℕ) (slots : List Slot) (all : List Connection) → AllZip (StandsForConnection registry) slots all → AreNumbered given slots → AreApart all
apart registry given [] [] z n = grind (arith, common_steps, any_alike)
apart registry given [] (c ∷ all) z n = grind (arith, common_steps, any_alike)
apart registry given (s ∷ slots) [] z n = grind (arith, common_steps, any_alike)
apart registry given (s ∷ slots) (c ∷ all) z n = grind (arith, common_steps, any_alike, apart registry given slots all z.1 n.2)

abbrev first-number : Option Connection → Option ℕ
first-number o = option_map (λ (x : Connection). x.number) o

module _ (registry : Registry) (clock : ℕ) (table : Table) where
  pub none_expires : option_map (λ e. e.0) (wanted_slot (wanted.Due clock) table.slots) ≡ None → Acts (StandsForConnections registry) (expire_first clock) table table None
  unfolding expire_first first_due is_wanted
  none_expires h = grind (arith, common_steps, no_slot)

  pub one_expires : (k : ℕ) (slot new : Slot) (x : ℕ) → HasDistinctKeys table.slots → AreNumbered table.last_number (values_of table.slots)
      → option_map (λ e. e.0) (wanted_slot (wanted.Due clock) table.slots) ≡ Some k → value_at table.slots k ≡ Some slot
      → new ≡ record slot { stage = stages.Lost } → x ≡ slot.number → Acts (StandsForConnections registry) (expire_first clock) table (record table { slots = with_value table.slots k new }) (Some x)
  unfolding expire_first first_due is_wanted wanted_slot
  one_expires k slot new x d n h v becomes number = record {
    gives = λ c z.
        let l = locate (StandsForConnection registry) (is_wanted_slot (wanted.Due clock)) (is_wanted (wanted.Due clock)) (wanted_alike registry (wanted.Due clock)) table.slots c.all k slot d z.all h v in
        ap Some (number ∙ l.related.number) ∙ sym (ap first-number l.found);
    stands = λ c z.
        let l = locate (StandsForConnection registry) (is_wanted_slot (wanted.Due clock)) (is_wanted (wanted.Due clock)) (wanted_alike registry (wanted.Due clock)) table.slots c.all k slot d z.all h v in
        let same = due-changed clock lose c.all l.value (apart registry table.last_number (values_of table.slots) c.all z.all n) l.found in
        rw l.found (record {
          all = rw same (l.changed new lose (rw becomes (record { number = l.related.number; who = l.related.who; since = l.related.since; phase = tt })));
          next = z.next;
        });
  }

-- ---- one that is due awaits no forwarded call

not-awaiting : (clock since : ℕ) (stage : Stage) → has_come clock (deadline since (phase_like stage)) ≡ true → is_awaiting_stage stage ≡ false
not-awaiting clock since stage h = grind arith

pub due-free : (clock k : ℕ) (es : List (ℕ × Slot)) (slot : Slot) → HasDistinctKeys es → option_map (λ e. e.0) (wanted_slot (wanted.Due clock) es) ≡ Some k → value_at es k ≡ Some slot
    → is_awaiting_stage slot.stage ≡ false
unfolding wanted_slot is_wanted_slot is_due_slot
due-free clock k es slot d h v =
    let f = is_first (is_wanted_slot (wanted.Due clock)) es k d h in
    let same : f.value ≡ slot = some_is f.value slot (sym f.here ∙ v) in
    not-awaiting clock slot.since slot.stage (subst (λ (s : Slot). is_wanted_slot (wanted.Due clock) s ≡ true) same f.passes)
