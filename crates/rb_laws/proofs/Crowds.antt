-- Connections that become Lost for room, beside one that has no list.
use Rattle.std.specs.Prelude.{find}
use Rattle.std.specs.List.{list_any}
use Rattle.std.proofs.Common.{◌≡◌, ℕ, Bool, true, false, eqb, ◌&&◌, ◌||◌, List, [], ◌∷◌, map, Some, None, refl, ◌⊎◌, arith}
use Rattle.std.proofs.lemmas.Grind.{common_steps}
use Rattle.rb_answers.specs.declared.context.Context.{Context}
use Rattle.rb_answers.specs.Ledger.{Ledger}
use Rattle.rb_model.specs.declared.message.Message.{Message}
use Rattle.rb_model.specs.State.{Connection}
use Rattle.rb_model.specs.Connections.{is_lost, is_live, change_first}
use Rattle.rb_model.specs.Losses.{stamp_in, began_before, list_stamps, needed_removals, removals_in_the_way, evict_early}

-- a connection without a list stays
pub no_list_stays : (changes : List ℕ) (c : Connection) → stamp_in c.phase ≡ None → evict_early changes c ≡ c
unfolding evict_early
no_list_stays changes c none = grind arith

some_is : (x y : Connection) → Some x ≡ Some y → x ≡ y
some_is x y e = cc

module _ (id : ℕ) where
  never : (b : Bool) → (b && false) ≡ false
  never b = grind arith

  -- one that is not live does not become so
  pub stays_dead : (changes : List ℕ) (c : Connection) → is_live id c ≡ false → is_live id (evict_early changes c) ≡ false
  unfolding evict_early is_live
  stays_dead changes c dead = grind arith

  module _ (f : Connection → Connection) where
    pub begins_changed : (all : List Connection) (c : Connection) → find (is_live id) all ≡ Some c → stamp_in c.phase ≡ None → stamp_in (f c).phase ≡ None
        → list_stamps (change_first (is_live id) f all) ≡ list_stamps all
    unfolding list_stamps
    begins_changed [] c there none still = grind arith
    begins_changed (x ∷ all) c there none still = grind (arith, begins_changed all c)

    pub evicted_changed : (g : Connection → Connection) (changes : List ℕ) (all : List Connection) (c : Connection) → find (is_live id) all ≡ Some c → stamp_in c.phase ≡ None → stamp_in (f c).phase ≡ None
        → is_live id (f c) ≡ true → g (f c) ≡ g c
        → change_first (is_live id) g (map (evict_early changes) (change_first (is_live id) f all)) ≡ change_first (is_live id) g (map (evict_early changes) all)
    evicted_changed g changes [] c there none still live same = grind (arith, common_steps, some_is, no_list_stays, stays_dead)
    evicted_changed g changes (x ∷ all) c there none still live same = grind (arith, common_steps, some_is, no_list_stays, stays_dead, evicted_changed g changes all c)

-- ---- one that is live stays so, or is Lost

abbrev pub is_lost_one : ℕ → Connection → Bool
is_lost_one id c = eqb c.number id && is_lost c.phase

or_true : (b : Bool) → (b || true) ≡ true
or_true b = grind arith

module _ (id : ℕ) where
  -- by whether its list is in the way
  pub live_or_lost : (changes : List ℕ) (all : List Connection) (c : Connection) → find (is_live id) all ≡ Some c
      → ((began_before changes (stamp_in c.phase) ≡ false) × (find (is_live id) (map (evict_early changes) all) ≡ Some c))
      ⊎ ((began_before changes (stamp_in c.phase) ≡ true) × (list_any (is_lost_one id) (map (evict_early changes) all) ≡ true))
  unfolding evict_early is_live
  live_or_lost changes [] c there = grind arith
  live_or_lost changes (x ∷ all) c there = grind (arith, live_or_lost changes all c)

  -- a Lost one stays when another number changes
  pub lost_stays : (k : ℕ) (f : Connection → Connection) → ((d : Connection) → (f d).number ≡ d.number) → eqb k id ≡ false → (all : List Connection)
      → list_any (is_lost_one id) all ≡ true → list_any (is_lost_one id) (change_first (is_live k) f all) ≡ true
  unfolding is_live
  lost_stays k f keeps apart [] lost = grind arith
  lost_stays k f keeps apart (x ∷ all) lost = grind (arith, lost_stays k f keeps apart all)

-- one that is still live did not become Lost
pub still_is : (id : ℕ) (changes : List ℕ) (c : Connection) → is_live id (evict_early changes c) ≡ true → evict_early changes c ≡ c
unfolding evict_early is_live
still_is id changes c live = grind arith

pub none_before : (changes : List ℕ) → began_before changes None ≡ false
none_before changes = grind arith

-- one without a list stays the live one of its number
pub plain_lives : (id : ℕ) (changes : List ℕ) (all : List Connection) (c : Connection) → find (is_live id) all ≡ Some c → stamp_in c.phase ≡ None → find (is_live id) (map (evict_early changes) all) ≡ Some c
plain_lives id changes all c there none = grind (arith, common_steps, live_or_lost id changes all c there, none_before changes)

-- the rows that are in the way are the same
pub crowding_alike : (context : Context) (message : Message) (all other : List Connection) (l : Ledger) → list_stamps all ≡ list_stamps other → removals_in_the_way context message all l ≡ removals_in_the_way context message other l
unfolding removals_in_the_way needed_removals
crowding_alike context message all other l same = rw same refl
