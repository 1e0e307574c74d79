-- How lists go on while rows come and go.
use Rattle.std.specs.Prelude.{All, filter_map}
use Rattle.std.specs.List.{AllZip}
use Rattle.std.specs.Map.{values_of}
use Rattle.std.proofs.Common.{◌≡◌, ◌≤◌, ℕ, List, [], ◌∷◌, max, Option, Some, None, refl, sym, ◌∙◌, arith}
use Rattle.std.proofs.lemmas.List.Elements.{All-head, All-tail, All-cons, All-nil}
use Rattle.std.proofs.lemmas.Grind.{common_steps}
use Rattle.rb_xdr.specs.Kept.{Kept}
use Rattle.rb_registry.specs.Registry.{Registry}
use Rattle.rb_registry.specs.Table.{stamp_named}
use Rattle.rb_registry.specs.Cursors.{GoesOn}
use Rattle.rb_answers.proofs.ListReplies.{list_reply_goes_on}
use Rattle.rb_model.specs.State.{Owed, Phase, Connection, Connections}
use Rattle.rb_model.specs.Losses.{list_stamps}
use Rattle.rb_connections.specs.declared.slot.Slot.{Slot}
use Rattle.rb_connections.specs.declared.slot.Stage.{Stage}
use Rattle.rb_connections.specs.declared.slot.Stage.TheVariants as stages
use Rattle.rb_connections.specs.declared.giving.Giving.{Giving}
use Rattle.rb_connections.specs.declared.giving.Rest.{Rest}
use Rattle.rb_connections.specs.Giving.{CanMake}
use Rattle.rb_connections.specs.StandsFor.{IsGiving, rest_in, stamp_of_rest, Table, StandsForPhase, StandsForConnection, StandsForConnections}
use Rattle.rb_connections.specs.Listings.{stamp_of_stage, stamp_of_slot, CanContinueStage, CanContinueSlot, CanContinueAll, stamps_of, IsOldest}
use Rattle.rb_connections.proofs.Phases.{by_phase}

module _ (old new : Registry) (goes : GoesOn old new) where
  -- the floor isn't above what the list of a stage began after
  abbrev IsLow : Stage → Type 0
  IsLow stage = (n : ℕ) → stamp_of_stage stage ≡ Some n → new.floor ≤ n

  -- what is not shown yet is the same
  rest_goes_on : (rest : Rest) → ((n : ℕ) → stamp_of_rest rest ≡ Some n → new.floor ≤ n) → CanMake old rest
      → CanMake new rest × ((buffer : List ℕ) → rest_in new buffer rest ≡ rest_in old buffer rest)
  rest_goes_on rest low t = grind (arith, common_steps, list_reply_goes_on)

  stage_lists_on : (buffer : List ℕ) (stage : Stage) → IsLow stage → CanContinueStage old buffer stage → CanContinueStage new buffer stage
  stage_lists_on buffer stage low t = grind (arith, common_steps, rest_goes_on)

  phase_stands : (stage : Stage) (buffer window : Kept) (phase : Phase) → IsLow stage → CanContinueStage old buffer.bytes stage → StandsForPhase old stage buffer window phase → StandsForPhase new stage buffer window phase
  phase_stands stage buffer window phase low t h =
      by_phase old buffer window (λ s p. IsLow s → CanContinueStage old buffer.bytes s → StandsForPhase new s buffer window p)
      (λ z l u. z) (λ reader fed z l u. z) (λ g o z l u. goes_on g o z l u) (λ z l u. z) (λ l u. tt) stage phase h low t
    where
      goes_on : (g : Giving) (o : Owed) → IsGiving old g buffer.bytes window o → IsLow (stages.Owing g) → CanContinueStage old buffer.bytes (stages.Owing g) → IsGiving new g buffer.bytes window o
      goes_on g o z l u =
          let s = rest_goes_on g.rest l u.made in
          record { reply = z.reply; shows = z.shows; stamp = z.stamp; place = z.place; rest = s.1 buffer.bytes ∙ z.rest; last = z.last }

  abbrev AreLow : List Slot → Type 0
  AreLow slots = All (λ n. new.floor ≤ n) (filter_map stamp_of_slot slots)

  first_low : (slot : Slot) (slots : List Slot) → AreLow (slot ∷ slots) → IsLow slot.stage × AreLow slots
  first_low slot slots low = by_began (stamp_of_slot slot) refl
    where
      by_began : (began : Option ℕ) → stamp_of_slot slot ≡ began → IsLow slot.stage × AreLow slots
      by_began None b = ((λ n e. let clash : None ≡ Some n = sym b ∙ e in absurd cc), rw b at low)
      by_began (Some m) b =
          let here : All (λ n. new.floor ≤ n) (m ∷ filter_map stamp_of_slot slots) = rw b at low in (
            (λ n e. let same : Some m ≡ Some n = sym b ∙ e in let is : m ≡ n = cc in let floor : new.floor ≤ m = All-head (λ k. new.floor ≤ k) m (filter_map stamp_of_slot slots) here in omega (arith, is, floor)),
            All-tail (λ k. new.floor ≤ k) m (filter_map stamp_of_slot slots) here,
          )

  all_list_on : (slots : List Slot) → AreLow slots → All (CanContinueSlot old) slots → All (CanContinueSlot new) slots
  all_list_on [] low t = All-nil (CanContinueSlot new)
  all_list_on (slot ∷ slots) low t =
      let l = first_low slot slots low in
      All-cons (CanContinueSlot new) slot slots (stage_lists_on slot.buffer.bytes slot.stage l.0 (All-head (CanContinueSlot old) slot slots t)) (all_list_on slots l.1 (All-tail (CanContinueSlot old) slot slots t))

  all_stand : (slots : List Slot) (all : List Connection) → AreLow slots → All (CanContinueSlot old) slots → AllZip (StandsForConnection old) slots all → AllZip (StandsForConnection new) slots all
  all_stand [] [] low t z = tt
  all_stand [] (c ∷ all) low t z = absurd z
  all_stand (slot ∷ slots) [] low t z = absurd z
  all_stand (slot ∷ slots) (c ∷ all) low t z =
      let l = first_low slot slots low in
      let told : CanContinueStage old slot.buffer.bytes slot.stage = All-head (CanContinueSlot old) slot slots t in (
        record { number = z.0.number; who = z.0.who; since = z.0.since; phase = phase_stands slot.stage slot.buffer slot.window c.phase l.0 told z.0.phase },
        all_stand slots all l.1 (All-tail (CanContinueSlot old) slot slots t) z.1,
      )

  pub lists_on : (table : Table) → All (λ n. new.floor ≤ n) (stamps_of table) → CanContinueAll old table → CanContinueAll new table
  lists_on table low t = all_list_on (values_of table.slots) low t

  pub stands_on : (table : Table) (c : Connections) → All (λ n. new.floor ≤ n) (stamps_of table) → CanContinueAll old table → StandsForConnections old table c → StandsForConnections new table c
  stands_on table c low t z = record { all = all_stand (values_of table.slots) c.all low t z.all; next = z.next }

-- the stamps of lists that can be made are from the floor to the present
pub stamps_reach : (registry : Registry) (slots : List Slot) → All (CanContinueSlot registry) slots → All (λ n. (registry.floor ≤ n) × (n ≤ registry.stamp)) (filter_map stamp_of_slot slots)
stamps_reach registry [] t = grind (arith, common_steps, All-nil, All-head, All-tail, All-cons)
stamps_reach registry (slot ∷ slots) t = grind (arith, common_steps, All-nil, All-head, All-tail, All-cons, stamps_reach registry slots (All-tail (CanContinueSlot registry) slot slots t))

pub stamps_low : (registry : Registry) (table : Table) → CanContinueAll registry table → All (λ n. registry.floor ≤ n) (stamps_of table)
stamps_low registry table t = λ k d within. (stamps_reach registry (values_of table.slots) t k d within).0

-- so they are from the floor on once it rose to the least of them
pub trimmed_low : (registry : Registry) (table : Table) (oldest : Option ℕ) (floor : ℕ) → CanContinueAll registry table → IsOldest (stamps_of table) oldest
    → floor ≡ max registry.floor (stamp_named registry oldest) → All (λ n. floor ≤ n) (stamps_of table)
trimmed_low registry table None floor t none is = grind (arith, common_steps, All-nil)
trimmed_low registry table (Some k) floor t least is = grind (arith, common_steps, stamps_reach registry)

-- ---- when they began

pub begins_alike : (registry : Registry) (slots : List Slot) (all : List Connection) → AllZip (StandsForConnection registry) slots all → list_stamps all ≡ filter_map stamp_of_slot slots
unfolding list_stamps
begins_alike registry [] [] z = grind arith
begins_alike registry [] (c ∷ all) z = grind arith
begins_alike registry (slot ∷ slots) [] z = grind arith
begins_alike registry (slot ∷ slots) (c ∷ all) z = grind (arith, begins_alike registry slots all z.1)
