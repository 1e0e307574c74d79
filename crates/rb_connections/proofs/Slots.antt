-- A table of slots beside the connections that they stand for.
use Rattle.std.specs.Prelude.{find, filter, option_map}
use Rattle.std.specs.List.{AllZip, list_any}
use Rattle.std.specs.Map.{values_of}
use Rattle.std.proofs.Common.{◌≡◌, ℕ, suc, ◌+◌, ◌≤◌, Bool, true, false, not, eqb, ◌<◌, take, Ok, Err, List, [], ◌∷◌, ◌++◌, Some, None, refl, sym, ap, subst, ◌∙◌, length, eq-eqb, arith}
use Rattle.std.proofs.lemmas.Bool.{eqb-true, le-ltb}
use Rattle.std.proofs.lemmas.Bool.Decides.{nat_tests}
use Rattle.std.proofs.lemmas.Map.Entries.{length-values_of, sum_by-set_value}
use Rattle.std.proofs.lemmas.Grind.{common_steps}
use Rattle.rb_xdr.specs.Kept.{Kept}
use Rattle.rb_xdr.specs.Search.{key_of}
use Rattle.rb_xdr.specs.Pool.{Pool, value_at, without, with_value, HasDistinctKeys}
use Rattle.rb_xdr.proofs.PoolLemmas.{All-with_value, distinct-with, length-with}
use Rattle.rb_rpc.specs.Marks.{StandsForFed}
use Rattle.rb_rpc.specs.Records.{data_of}
use Rattle.rb_rpc.specs.Verdict.{verdict}
use Rattle.rb_address.specs.declared.who.Who.{Who}
use Rattle.rb_rpc.specs.Feeds.{StandsForCall, arguments_of}
use Rattle.rb_model.specs.declared.types.CoreFault.TheVariants.{Full, Spent, Gone}
use Rattle.rb_model.specs.Calls.{longest_kept, kept_of}
use Rattle.rb_model.specs.State.{Phase, Connection, Connections, greatest_number}
use Rattle.rb_model.specs.State.Phase.{Idle}
use Rattle.rb_model.specs.Connections.{change_first, changed_at, is_lost, is_live, live_connection, on_live, has_number, number_for, open_in_table, is_there, without_number, close_in_table}
use Rattle.rb_model.proofs.Found.{all_kept, none_any, none_some, some_any}
use Rattle.rb_connections.specs.Reading.{Reader}
use Rattle.rb_connections.specs.StandsFor.{buffer_size, IsReading, StandsForConnection, StandsForPhase, StandsForConnections, Table, charge, IsWithin}
use Rattle.rb_registry.specs.Registry.{Registry}
use Rattle.rb_connections.specs.declared.slot.Buffers.{Buffers}
use Rattle.rb_connections.specs.declared.slot.Slot.{Slot}
use Rattle.rb_connections.specs.declared.slot.Sought.{Sought}
use Rattle.rb_connections.specs.declared.slot.Sought.TheVariants as wanted
use Rattle.rb_connections.specs.Slots.{Acts, Shows, is_lost_stage, is_wanted_slot, is_wanted, wanted_slot, IsFound, is_numbered, AreNumbered, IsTable, HasBuffers, arguments_taken, arguments_on}
use Rattle.rb_connections.specs.declared.slot.Stage.{Stage}
use Rattle.rb_connections.proofs.DueSlots.{due_alike}
use Rattle.rb_connections.proofs.Phases.{by_phase}

some_is : {X : Type 0} (x y : X) → Some x ≡ Some y → x ≡ y
some_is x y h = cc

module _ {A : Type 0} (p : A → Bool) where
  pub has_key : (es : List (ℕ × A)) (k : ℕ) → key_of p es ≡ Some k → value_at es k ≡ None → ⊥
  has_key [] k h n = grind arith
  has_key (e ∷ es) k h n = grind (arith, has_key es k)

module _ {A B : Type 0} (R : A → B → Type 0) (p : A → Bool) (q : B → Bool) (same : (a : A) (b : B) → R a b → p a ≡ q b) where
  -- the value that was found, beside the one that was found in the other list
  pub record Located (es : List (ℕ × A)) (bs : List B) (k : ℕ) (a : A) : Type 0 where
    pub value : B
    pub found : find q bs ≡ Some value
    pub related : R a value
    pub changed : (b : A) (change : B → B) → R b (change value) → AllZip R (values_of (with_value es k b)) (change_first q change bs)

  pub locate : (es : List (ℕ × A)) (bs : List B) (k : ℕ) (a : A) → HasDistinctKeys es → AllZip R (values_of es) bs → key_of p es ≡ Some k → value_at es k ≡ Some a → Located es bs k a
  locate [] bs k a d z h v = grind (arith, common_steps, none_some, some_is, eqb-true, has_key)
  locate (e ∷ es) [] k a d z h v = grind (arith, common_steps, none_some, some_is, eqb-true, has_key)
  locate (e ∷ es) (b ∷ bs) k a d z h v = grind (arith, common_steps, none_some, some_is, eqb-true, has_key, locate es bs k a d.1 z.1)

  pub not_located : (es : List (ℕ × A)) (bs : List B) → AllZip R (values_of es) bs → key_of p es ≡ None → find q bs ≡ None
  not_located [] [] z h = grind arith
  not_located [] (b ∷ bs) z h = grind arith
  not_located (e ∷ es) [] z h = grind arith
  not_located (e ∷ es) (b ∷ bs) z h = grind (arith, not_located es bs z.1)

module _ {A B : Type 0} (R : A → B → Type 0) where
  pub same_length_of : (xs : List A) (bs : List B) → AllZip R xs bs → length xs ≡ length bs
  same_length_of [] [] z = refl
  same_length_of [] (b ∷ bs) z = absurd z
  same_length_of (a ∷ xs) [] z = absurd z
  same_length_of (a ∷ xs) (b ∷ bs) z = ap suc (same_length_of xs bs z.1)

  pub one_more_each : (xs : List A) (bs : List B) (a : A) (b : B) → AllZip R xs bs → R a b → AllZip R (xs ++ a ∷ []) (bs ++ b ∷ [])
  one_more_each [] [] a b z r = (r, tt)
  one_more_each [] (y ∷ bs) a b z r = absurd z
  one_more_each (x ∷ xs) [] a b z r = absurd z
  one_more_each (x ∷ xs) (y ∷ bs) a b z r = (z.0, one_more_each xs bs a b z.1 r)

-- ---- slots and connections

lost_as_stage : (registry : Registry) (stage : Stage) (buffer window : Kept) (phase : Phase) → StandsForPhase registry stage buffer window phase → is_lost_stage stage ≡ is_lost phase
lost_as_stage registry stage buffer window phase h = grind (arith, common_steps, by_phase registry buffer window)

pub wanted_alike : (registry : Registry) (sought : Sought) (slot : Slot) (c : Connection) → StandsForConnection registry slot c → is_wanted_slot sought slot ≡ is_wanted sought c
unfolding is_wanted_slot is_wanted is_live
wanted_alike registry sought slot c h = grind (arith, common_steps, lost_as_stage, due_alike)

module _ (registry : Registry) (sought : Sought) (entries : List (ℕ × Slot)) (all : List Connection) where
  pub found_slot : (k : ℕ) (slot : Slot) → HasDistinctKeys entries → AllZip (StandsForConnection registry) (values_of entries) all
      → option_map (λ e. e.0) (wanted_slot sought entries) ≡ Some k → value_at entries k ≡ Some slot → IsFound registry sought all slot
  unfolding wanted_slot
  found_slot k slot d z h v =
      let l = locate (StandsForConnection registry) (is_wanted_slot sought) (is_wanted sought) (wanted_alike registry sought) entries all k slot d z h v in
      record { connection = l.value; found = l.found; stands = l.related }

  pub no_slot : AllZip (StandsForConnection registry) (values_of entries) all → option_map (λ e. e.0) (wanted_slot sought entries) ≡ None → find (is_wanted sought) all ≡ None
  unfolding wanted_slot
  no_slot z h = not_located (StandsForConnection registry) (is_wanted_slot sought) (is_wanted sought) (wanted_alike registry sought) entries all z h

module _ (sought : Sought) (entries : List (ℕ × Slot)) (all : List Connection) where
  pub slot_is_there : (k : ℕ) → option_map (λ e. e.0) (wanted_slot sought entries) ≡ Some k → value_at entries k ≡ None → ⊥
  unfolding wanted_slot
  slot_is_there k h n = has_key (is_wanted_slot sought) entries k h n

-- ---- tables with one entry less

pub any-without : (test : Slot → Bool) (es : List (ℕ × Slot)) (k : ℕ) → list_any test (values_of es) ≡ false → list_any test (values_of (without es k)) ≡ false
any-without test [] k h = grind arith
any-without test (e ∷ es) k h = grind (arith, any-without test es k)

pub numbered-without : (given : ℕ) (es : List (ℕ × Slot)) (k : ℕ) → AreNumbered given (values_of es) → AreNumbered given (values_of (without es k))
numbered-without given [] k n = grind (arith, common_steps, any-without)
numbered-without given (e ∷ es) k n = grind (arith, common_steps, any-without, numbered-without given es k n.2)

-- ---- a slot changed

any-with : (number : ℕ) (es : List (ℕ × Slot)) (k : ℕ) (old new : Slot) → value_at es k ≡ Some old → new.number ≡ old.number
    → list_any (is_numbered number) (values_of (with_value es k new)) ≡ list_any (is_numbered number) (values_of es)
any-with number [] k old new h same = grind arith
any-with number (e ∷ es) k old new h same = grind (arith, any-with number es k old new)

pub numbered-with : (given : ℕ) (es : List (ℕ × Slot)) (k : ℕ) (old new : Slot) → value_at es k ≡ Some old → new.number ≡ old.number → AreNumbered given (values_of es) → AreNumbered given (values_of (with_value es k new))
numbered-with given [] k old new h same n = grind (arith, common_steps, some_is, any-with)
numbered-with given (e ∷ es) k old new h same n = grind (arith, common_steps, some_is, any-with, numbered-with given es k old new)

-- the live connection of a number, and its slot
pub record IsLiveSlot (registry : Registry) (id : ℕ) (entries : List (ℕ × Slot)) (all : List Connection) (k : ℕ) (slot : Slot) : Type 0 where
  pub connection : Connection
  pub there : live_connection id all ≡ Some connection
  pub stands : StandsForConnection registry slot connection
  pub changed : (new : Slot) (change : Connection → Connection) → StandsForConnection registry new (change connection) → AllZip (StandsForConnection registry) (values_of (with_value entries k new)) (change_first (is_live id) change all)

module _ (registry : Registry) (id : ℕ) (entries : List (ℕ × Slot)) (all : List Connection) where
  pub live_slot : (k : ℕ) (slot : Slot) → HasDistinctKeys entries → AllZip (StandsForConnection registry) (values_of entries) all
      → option_map (λ e. e.0) (wanted_slot (wanted.Live id) entries) ≡ Some k → value_at entries k ≡ Some slot → IsLiveSlot registry id entries all k slot
  unfolding wanted_slot is_wanted live_connection
  live_slot k slot d z h v =
      let l = locate (StandsForConnection registry) (is_wanted_slot (wanted.Live id)) (is_wanted (wanted.Live id)) (wanted_alike registry (wanted.Live id)) entries all k slot d z h v in
      record { connection = l.value; there = l.found; stands = l.related; changed = l.changed }

  pub not_live : AllZip (StandsForConnection registry) (values_of entries) all → option_map (λ e. e.0) (wanted_slot (wanted.Live id) entries) ≡ None → live_connection id all ≡ None
  unfolding is_wanted live_connection
  not_live z h = no_slot registry (wanted.Live id) entries all z h

-- the same of a table by its other name
pub acts_from : {A : Type 0} (registry : Registry) (act : Connections → A × Connections) (view now new : Table) (x : A) → view ≡ now
    → Acts (StandsForConnections registry) act view new x → Acts (StandsForConnections registry) act now new x
acts_from registry act view now new x is acts = subst (λ (t : Table). Acts (StandsForConnections registry) act t new x) is acts

-- An act on the slot of the live connection is that on the connection.
module _ {A : Type 0} (registry : Registry) (id : ℕ) (act : Connection → A × Connection) (table : Table) where
  pub live_acts : (k : ℕ) (slot new : Slot) (x : A) → HasDistinctKeys table.slots
      → option_map (λ e. e.0) (wanted_slot (wanted.Live id) table.slots) ≡ Some k → value_at table.slots k ≡ Some slot
      → Acts (StandsForConnection registry) act slot new x → Acts (StandsForConnections registry) (on_live id act) table (record table { slots = with_value table.slots k new }) (Ok x)
  live_acts k slot new x d h v acts = record {
    gives = λ c z.
        let l = live_slot registry id table.slots c.all k slot d z.all h v in
        rw l.there (ap Ok (acts.gives l.connection l.stands));
    stands = λ c z.
        let l = live_slot registry id table.slots c.all k slot d z.all h v in
        rw l.there (record { all = l.changed new (λ y. (act y).1) (acts.stands l.connection l.stands); next = z.next });
  }

  pub gone_acts : option_map (λ e. e.0) (wanted_slot (wanted.Live id) table.slots) ≡ None → Acts (StandsForConnections registry) (on_live id act) table table (Err Gone)
  gone_acts h = grind (arith, common_steps, not_live)

-- What is held of arguments after a piece is what the live connection took.
module _ (registry : Registry) (id : ℕ) (before piece : List ℕ) (table : Table) where
  pub live_arguments : (k : ℕ) (slot : Slot) (after : List ℕ) → HasDistinctKeys table.slots
      → option_map (λ e. e.0) (wanted_slot (wanted.Live id) table.slots) ≡ Some k → value_at table.slots k ≡ Some slot
      → Shows (StandsForConnection registry) (arguments_taken before piece) slot after → Shows (StandsForConnections registry) (arguments_on id before piece) table after
  live_arguments k slot after d h v shows c z =
      let l = live_slot registry id table.slots c.all k slot d z.all h v in
      rw l.there (shows l.connection l.stands)

  pub gone_arguments : option_map (λ e. e.0) (wanted_slot (wanted.Live id) table.slots) ≡ None → Shows (StandsForConnections registry) (arguments_on id before piece) table before
  gone_arguments h c z = rw (not_live registry id table.slots c.all z.all h) refl

module _ (registry : Registry) (id : ℕ) (change : Connection → Connection) (table : Table) where
  pub live_changed : (k : ℕ) (slot new : Slot) → HasDistinctKeys table.slots
      → option_map (λ e. e.0) (wanted_slot (wanted.Live id) table.slots) ≡ Some k → value_at table.slots k ≡ Some slot
      → ((c : Connection) → StandsForConnection registry slot c → StandsForConnection registry new (change c))
      → (c : Connections) → StandsForConnections registry table c → StandsForConnections registry (record table { slots = with_value table.slots k new }) (changed_at id change c)
  live_changed k slot new d h v stands c z =
      let l = live_slot registry id table.slots c.all k slot d z.all h v in
      record { all = l.changed new change (stands l.connection l.stands); next = z.next }

  none_changes : (all : List Connection) → live_connection id all ≡ None → change_first (is_live id) change all ≡ all
  unfolding live_connection
  none_changes [] h = grind arith
  none_changes (c ∷ all) h = grind (arith, none_changes all)

  pub gone_stays : option_map (λ e. e.0) (wanted_slot (wanted.Live id) table.slots) ≡ None
      → (c : Connections) → StandsForConnections registry table c → StandsForConnections registry table (changed_at id change c)
  gone_stays h c z = rw (none_changes c.all (not_live registry id table.slots c.all z.all h)) z

-- ---- a slot more

any-more : (number : ℕ) (slots : List Slot) (slot : Slot) → list_any (is_numbered number) slots ≡ false → eqb slot.number number ≡ false → list_any (is_numbered number) (slots ++ slot ∷ []) ≡ false
any-more number slots slot h other = grind (arith, common_steps)

pub numbered-more : (given : ℕ) (slots : List Slot) (slot : Slot) → AreNumbered given slots → slot.number ≡ given + 1 → AreNumbered (given + 1) (slots ++ slot ∷ [])
numbered-more given [] slot n is = grind (arith, common_steps)
numbered-more given (first ∷ slots) slot n is = grind (arith, common_steps, numbered-more given slots slot n.2 is)

pub any_alike : (registry : Registry) (id : ℕ) (slots : List Slot) (all : List Connection) → AllZip (StandsForConnection registry) slots all → list_any (is_numbered id) slots ≡ list_any (has_number id) all
any_alike registry id [] [] z = refl
any_alike registry id [] (c ∷ all) z = absurd z
any_alike registry id (s ∷ slots) [] z = absurd z
any_alike registry id (s ∷ slots) (c ∷ all) z = rw (z.0.number, any_alike registry id slots all z.1) refl

removed : (registry : Registry) (id given : ℕ) (es : List (ℕ × Slot)) (all : List Connection) (k : ℕ) (slot : Slot) → HasDistinctKeys es → AreNumbered given (values_of es) → AllZip (StandsForConnection registry) (values_of es) all
    → key_of (is_numbered id) es ≡ Some k → AllZip (StandsForConnection registry) (values_of (without es k)) (filter (λ (c : Connection). not (has_number id c)) all)
removed registry id given [] all k slot d n z h = absurd (none_some k h)
removed registry id given (e ∷ es) [] k slot d n z h = absurd z
removed registry id given (e ∷ es) (c ∷ all) k slot d n z h = by_cases (eqb e.1.number id) refl (removed registry id given es all k slot d.1 n.2 z.1)
  where
    by_cases : (t : Bool) → eqb e.1.number id ≡ t → (key_of (is_numbered id) es ≡ Some k → AllZip (StandsForConnection registry) (values_of (without es k)) (filter (λ (c : Connection). not (has_number id c)) all))
        → AllZip (StandsForConnection registry) (values_of (without (e ∷ es) k)) (filter (λ (c : Connection). not (has_number id c)) (c ∷ all))
    by_cases true t further =
        let here : e.0 ≡ k = some_is e.0 k (rw t at h) in
        let test : eqb e.0 k ≡ true = eq-eqb e.0 k here in
        let number : e.1.number ≡ id = eqb-true e.1.number id t in
        let other : eqb c.number id ≡ true = rw (← z.0.number) t in
        let alone : list_any (has_number id) all ≡ false = sym (any_alike registry id (values_of es) all z.1) ∙ (rw number at n.1) in
        rw (test, other, all_kept (has_number id) all alone) z.1
    by_cases false t further =
        let in_rest : key_of (is_numbered id) es ≡ Some k = rw t at h in
        let other : eqb c.number id ≡ false = rw (← z.0.number) t in
        by_key (eqb e.0 k) refl in_rest other
      where
        by_key : (b : Bool) → eqb e.0 k ≡ b → key_of (is_numbered id) es ≡ Some k → eqb c.number id ≡ false
            → AllZip (StandsForConnection registry) (values_of (without (e ∷ es) k)) (filter (λ (c : Connection). not (has_number id c)) (c ∷ all))
        by_key true y in_rest other =
            let key : e.0 ≡ k = eqb-true e.0 k y in
            absurd (has_key (is_numbered id) es k in_rest (rw key at d.0))
        by_key false y in_rest other = rw (y, other) (z.0, further in_rest)

module _ (registry : Registry) (id : ℕ) (table : Table) where
  pub none_closed : option_map (λ e. e.0) (wanted_slot (wanted.Numbered id) table.slots) ≡ None → Acts (StandsForConnections registry) (close_in_table id) table table (Err Gone)
  unfolding close_in_table is_there is_wanted
  none_closed h = grind (arith, common_steps, none_any, no_slot)

  pub one_closed : (k : ℕ) (slot : Slot) → HasDistinctKeys table.slots → AreNumbered table.last_number (values_of table.slots)
      → option_map (λ e. e.0) (wanted_slot (wanted.Numbered id) table.slots) ≡ Some k → value_at table.slots k ≡ Some slot
      → Acts (StandsForConnections registry) (close_in_table id) table (record table { slots = without table.slots k }) (Ok tt)
  unfolding close_in_table is_there is_wanted wanted_slot is_wanted_slot without_number
  one_closed k slot d n h v = record {
    gives = λ c z. rw (there c z) refl;
    stands = λ c z. rw (there c z) (record { all = removed registry id table.last_number table.slots c.all k slot d n z.all h; next = z.next });
  }
    where
      there : (c : Connections) → StandsForConnections registry table c → list_any (has_number id) c.all ≡ true
      there c z =
          let f = found_slot registry (wanted.Numbered id) table.slots c.all k slot d z.all h v in
          some_any (has_number id) c.all f.connection f.found

-- ---- a new connection

take_nothing : (n : ℕ) → take {A = ℕ} n [] ≡ []
take_nothing n = grind arith

nothing_kept : kept_of (data_of []) ≡ []
unfolding data_of arguments_of verdict
nothing_kept = take_nothing longest_kept

no_data : data_of [] ≡ []
unfolding data_of
no_data = refl

-- an emptied buffer, between two records
pub reads_nothing : (reader : Reader) (kept : Kept) → StandsForFed reader.marks [] → StandsForCall reader.head [] → kept.bytes ≡ [] → kept.cap ≡ buffer_size → IsReading reader kept []
reads_nothing reader kept m h e c = record { marks_are = m; data_is = record { head_is = rw no_data h; kept_is = e ∙ sym nothing_kept; cap = c } }

pub as_many : (registry : Registry) (es : List (ℕ × Slot)) (all : List Connection) → AllZip (StandsForConnection registry) (values_of es) all → length all ≡ length es
as_many registry es all z = sym (same_length_of (StandsForConnection registry) (values_of es) all z) ∙ length-values_of es

module _ (registry : Registry) (conns : ℕ) (who : Who) (clock : ℕ) (table : Table) where
  pub full_acts : conns ≤ length table.slots → Acts (StandsForConnections registry) (open_in_table conns who clock) table table (Err Full)
  unfolding open_in_table number_for
  full_acts full = grind (arith, common_steps, as_many, nat_tests)

  pub spent_acts : length table.slots < conns → table.last_number ≡ greatest_number → Acts (StandsForConnections registry) (open_in_table conns who clock) table table (Err Spent)
  unfolding open_in_table number_for
  spent_acts room spent = grind (arith, common_steps, as_many, nat_tests)

  pub opened_acts : (slot : Slot) (new : Table) → length table.slots < conns → table.last_number < greatest_number
      → values_of new.slots ≡ values_of table.slots ++ slot ∷ [] → new.last_number ≡ table.last_number + 1
      → StandsForConnection registry slot (record { number = table.last_number + 1; who = who; phase = Idle; since = clock })
      → Acts (StandsForConnections registry) (open_in_table conns who clock) table new (Ok (table.last_number + 1))
  unfolding open_in_table number_for
  opened_acts slot new room left more given stands = grind (arith, common_steps, one_more_each, as_many, nat_tests, le-ltb)

-- ---- the table with a slot changed

pub table_changed : (slots : Pool Slot) (spare : Pool Buffers) (given conns held k : ℕ) (old new : Slot) → IsTable slots spare given conns held → value_at slots.entries k ≡ Some old → new.number ≡ old.number → HasBuffers slots.tie new
    → (now : ℕ) → now + charge old ≡ held + charge new → IsWithin new → IsTable (record slots { entries = with_value slots.entries k new }) spare given conns now
table_changed slots spare given conns held k old new t found same buffers now sum fits = record {
  distinct = distinct-with slots.entries k new t.distinct;
  spare_distinct = t.spare_distinct;
  room = rw (length-with slots.entries k new) t.room;
  cap = t.cap;
  spare_cap = t.spare_cap;
  tie = t.tie;
  buffers = All-with_value (HasBuffers slots.tie) slots.entries k new t.buffers buffers;
  spare_buffers = t.spare_buffers;
  numbers = numbered-with given slots.entries k old new found same t.numbers;
  few = t.few;
  within = All-with_value IsWithin slots.entries k new t.within fits;
  is_held = let sums = sum_by-set_value charge (λ n. eqb n k) slots.entries old new found in omega (arith, sum, sums, t.is_held);
}
