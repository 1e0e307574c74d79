-- Connections that are Idle since a moment, and records that come whole on them.
use Rattle.std.specs.Prelude.{All, option_map, Ok}
use Rattle.std.specs.List.{AllZip, list_any}
use Rattle.std.specs.Map.{values_of}
use Rattle.std.proofs.Common.{◌≡◌, ℕ, ◌+◌, Bool, true, false, ◌||◌, List, [], ◌∷◌, length, Some, None, refl, sym, ap, subst, ◌∙◌, arith}
use Rattle.std.proofs.lemmas.Grind.{common_steps}
use Rattle.std.proofs.lemmas.Bool.{eq-eqb}
use Rattle.rb_xdr.specs.Pool.{Pool, value_at, with_value, HasDistinctKeys}
use Rattle.rb_xdr.proofs.PoolLemmas.{All-value_at, with_value-same}
use Rattle.rb_rpc.specs.Records.{BeginsWithRecord, first_record}
use Rattle.rb_model.specs.State.{Connection, Connections}
use Rattle.rb_model.specs.Calls.Outcome.{Silent}
use Rattle.rb_model.specs.Connections.{taking_of, fed_in, is_live, settle, change_first, changed_at, on_live}
use Rattle.rb_model.specs.Connections.Taking.{Ends}
use Rattle.rb_model.specs.Calls.{kept_of}
use Rattle.rb_connections.specs.declared.slot.Slot.{Slot}
use Rattle.rb_connections.specs.declared.slot.Buffers.{Buffers}
use Rattle.rb_connections.specs.declared.slot.Stage.TheVariants as stages
use Rattle.rb_connections.specs.declared.slot.Sought.TheVariants as wanted
use Rattle.rb_connections.specs.StandsFor.{IsWithin, Table, StandsForConnection, StandsForConnections}
use Rattle.rb_registry.specs.Registry.{Registry}
use Rattle.rb_connections.specs.Slots.{Acts, Shows, AreNumbered, HasBuffers, IsTable, take_piece, arguments_taken, arguments_on, received_whole, is_wanted_slot, wanted_slot}
use Rattle.rb_connections.specs.Awaits.{GoOn, is_not_idle_since, IsIdleIfThere, EndedOn}
use Rattle.rb_connections.specs.Listings.{evicted_slot}
use Rattle.rb_connections.proofs.Evicting.{all_evicted}
use Rattle.rb_connections.proofs.Freed.{ended_on_slot}
use Rattle.rb_connections.proofs.ByHint.{distinct_numbers, first_by_hint}
use Rattle.rb_connections.proofs.Slots.{live_acts, live_arguments, table_changed}
use Rattle.rb_connections.proofs.GoingOn.{goes_on_changed}
use Rattle.rb_connections.proofs.OneSlot.{idle_phase, feeding_acts, some_where_fed, taken_whole, taken_arguments}

either-false : (a b : Bool) → (a || b) ≡ false → (a ≡ false) × (b ≡ false)
either-false a b e = grind arith

-- ---- those whose lists are in the way of a row are others

unsettled_alike : (earliest id clock : ℕ) (slot : Slot) → is_not_idle_since id clock slot ≡ false → is_not_idle_since id clock (evicted_slot earliest slot) ≡ false
unsettled_alike earliest id clock slot none = grind arith

none_unsettled : (earliest id clock : ℕ) (es : List (ℕ × Slot)) → list_any (is_not_idle_since id clock) (values_of es) ≡ false → list_any (is_not_idle_since id clock) (values_of (all_evicted earliest es)) ≡ false
none_unsettled earliest id clock [] h = h
none_unsettled earliest id clock (e ∷ es) h =
    let p = either-false (is_not_idle_since id clock e.1) (list_any (is_not_idle_since id clock) (values_of es)) h in
    rw (unsettled_alike earliest id clock e.1 p.0) (none_unsettled earliest id clock es p.1)

pub settled_evicted : (earliest id clock : ℕ) (table : Table) → IsIdleIfThere id clock table → IsIdleIfThere id clock (record table { slots = all_evicted earliest table.slots })
settled_evicted earliest id clock table h = none_unsettled earliest id clock table.slots h

-- ---- nothing is left to do for one that is so

settled_is_same : (registry : Registry) (id clock : ℕ) (slot : Slot) (c : Connection) → StandsForConnection registry slot c → is_not_idle_since id clock slot ≡ false → is_live id c ≡ true → settle clock Silent c ≡ c
unfolding is_live settle
settled_is_same registry id clock slot c h none live = grind arith

settled_among : (registry : Registry) (id clock : ℕ) (slots : List Slot) (all : List Connection) → AllZip (StandsForConnection registry) slots all → list_any (is_not_idle_since id clock) slots ≡ false
    → change_first (is_live id) (settle clock Silent) all ≡ all
settled_among registry id clock [] [] zip none = refl
settled_among registry id clock [] (c ∷ all) zip none = absurd zip
settled_among registry id clock (slot ∷ slots) [] zip none = refl
settled_among registry id clock (slot ∷ slots) (c ∷ all) zip none =
    let p = either-false (is_not_idle_since id clock slot) (list_any (is_not_idle_since id clock) slots) none in
    by_live (is_live id c) refl p.0 (settled_among registry id clock slots all zip.1 p.1)
  where
    by_live : (b : Bool) → is_live id c ≡ b → is_not_idle_since id clock slot ≡ false → change_first (is_live id) (settle clock Silent) all ≡ all → change_first (is_live id) (settle clock Silent) (c ∷ all) ≡ c ∷ all
    by_live true t one further = rw t (ap (λ (x : Connection). x ∷ all) (settled_is_same registry id clock slot c zip.0 one t))
    by_live false t one further = rw t (ap (λ (xs : List Connection). c ∷ xs) further)

pub settled_stays : (registry : Registry) (id clock : ℕ) (table : Table) (c : Connections) → IsIdleIfThere id clock table → StandsForConnections registry table c → changed_at id (settle clock Silent) c ≡ c
settled_stays registry id clock table c none h = ap (λ (xs : List Connection). record c { all = xs }) (settled_among registry id clock (values_of table.slots) c.all h.all none)

-- ---- a record comes whole

module _ (registry : Registry) (slot : Slot) (piece content : List ℕ) (idle : slot.stage ≡ stages.Idle) (begins : BeginsWithRecord content piece) where
  some_piece : piece ≡ [] → ⊥
  unfolding first_record
  some_piece none = let clash : None ≡ Some (4 + length content) = rw none at begins.ends in absurd cc

  takes_whole : (c : Connection) → StandsForConnection registry slot c → taking_of c.phase piece ≡ Ends (4 + length content) content
  takes_whole c h =
      let p = idle_phase registry slot.stage slot.buffer slot.window c.phase idle h.phase in
      some_where_fed c.phase [] piece (ap fed_in p.0) some_piece ∙ taken_whole content piece begins

  pub acts_whole : (clock : ℕ) → Acts (StandsForConnection registry) (take_piece clock piece) slot (record slot { since = clock }) (received_whole slot.who content)
  acts_whole clock = grind (arith, common_steps, feeding_acts, idle_phase, takes_whole)

  pub keeps_whole : (before : List ℕ) → Shows (StandsForConnection registry) (arguments_taken before piece) slot (kept_of content)
  keeps_whole before c h = taken_arguments before (kept_of content) piece c (Ends (4 + length content) content) (takes_whole c h) refl

-- Of a slot `since` is another after it, and nothing else.
module _ (k : ℕ) (table : Table) (old new : Slot) (there : value_at table.slots k ≡ Some old) (kept : new ≡ record old { since = new.since }) where
  pub since_within : All IsWithin (values_of table.slots) → IsWithin new
  since_within within = subst IsWithin (sym kept) (All-value_at IsWithin table.slots k old within there)

  pub since_goes_on : (now : Table) → table ≡ now → All IsWithin (values_of table.slots) → GoOn now (record table { slots = with_value table.slots k new })
  since_goes_on now is within = grind (arith, common_steps, goes_on_changed table now is k old new there, since_within within)

  pub since_stays : new ≡ old → record table { slots = with_value table.slots k new } ≡ table
  since_stays is = rw is (ap (λ (es : List (ℕ × Slot)). record table { slots = es }) (with_value-same table.slots k old there))

pub since_table : (slots : Pool Slot) (spare : Pool Buffers) (given conns held : ℕ) → IsTable slots spare given conns held → (k : ℕ) (old new : Slot) → value_at slots.entries k ≡ Some old
    → new ≡ record old { since = new.since } → IsTable (record slots { entries = with_value slots.entries k new }) spare given conns held
since_table slots spare given conns held t k old new there kept =
    table_changed slots spare given conns held k old new t there (ap (λ (s : Slot). s.number) kept)
    (subst (λ (s : Slot). HasBuffers slots.tie s) (sym kept) (All-value_at (HasBuffers slots.tie) slots.entries k old t.buffers there))
    held (rw kept refl) (subst IsWithin (sym kept) (All-value_at IsWithin slots.entries k old t.within there))

-- It is that of the connection of the number, which was Idle, and is so since this moment.
module _ (id clock k : ℕ) (table : Table) (old new : Slot) (distinct : HasDistinctKeys table.slots) (numbers : AreNumbered table.last_number (values_of table.slots)) (there : value_at table.slots k ≡ Some old)
    (kept : new ≡ record old { since = new.since }) (number : old.number ≡ id) (idle : old.stage ≡ stages.Idle) (since : new.since ≡ clock) where
  abbrev with_new : Table
  with_new = record table { slots = with_value table.slots k new }

  found : option_map (λ e. e.0) (wanted_slot (wanted.Live id) table.slots) ≡ Some k
  unfolding wanted_slot is_wanted_slot
  found = first_by_hint (wanted.Live id) table.slots k old (distinct_numbers table.last_number (values_of table.slots) numbers) there refl (rw (eq-eqb old.number id number, idle) refl)

  is_marked : new ≡ record old { since = clock }
  is_marked = kept ∙ ap (λ (m : ℕ). record old { since = m }) since

  pub takes_whole_on : (registry : Registry) (piece content : List ℕ) → BeginsWithRecord content piece
      → Acts (StandsForConnections registry) (on_live id (take_piece clock piece)) table with_new (Ok (received_whole old.who content))
  takes_whole_on registry piece content begins =
      rw is_marked (live_acts registry id (take_piece clock piece) table k old (record old { since = clock }) (received_whole old.who content) distinct found there (acts_whole registry old piece content idle begins clock))

  pub keeps_whole_on : (registry : Registry) (before piece content : List ℕ) → BeginsWithRecord content piece → Shows (StandsForConnections registry) (arguments_on id before piece) table (kept_of content)
  keeps_whole_on registry before piece content begins =
      live_arguments registry id before piece table k old (kept_of content) distinct found there (keeps_whole registry old piece content idle begins before)

  pub taken_whole_on : EndedOn id clock table with_new
  taken_whole_on = grind (arith, common_steps, ended_on_slot table id clock k old new numbers there)
