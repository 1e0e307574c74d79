-- Who is in the way of a row, and which rows have room.
use Rattle.std.proofs.Common.{◌≡◌, ◌≤◌, ◌<◌, ℕ, ◌+◌, true, false, List, [], ◌∷◌, length, map, Option, refl, ap, arith}
use Rattle.std.proofs.lemmas.Grind.{common_steps}
use Rattle.std.proofs.lemmas.Bool.{and_parts}
use Rattle.rb_registry.specs.declared.row.Row.{Row}
use Rattle.rb_registry.specs.Rows.{has_place}
use Rattle.rb_answers.specs.declared.context.Context.{Context}
use Rattle.rb_answers.specs.declared.call.Call.{Call}
use Rattle.rb_answers.specs.Answers.{adds, adds_row, row_to_set}
use Rattle.rb_answers.specs.Ledger.{Ledger, rows_in}
use Rattle.rb_model.specs.declared.message.Message.{Message}
use Rattle.rb_model.specs.declared.message.Message.TheVariants as says
use Rattle.rb_model.specs.State.{Connection, Connections}
use Rattle.rb_model.specs.Losses.{needed_removals, asks_room, removals_in_the_way, evict_early, evict}

-- ---- who is in the way

none_goes : (x : Connection) → evict_early [] x ≡ x
unfolding evict_early
none_goes x = refl

pub none_evicted : (c : Connections) → evict [] c ≡ c
none_evicted c = ap (λ (all : List Connection). record c { all = all }) (same c.all)
  where
    same : (all : List Connection) → map (evict_early []) all ≡ all
    same [] = refl
    same (x ∷ all) = rw (none_goes x, same all) refl

pub not_asked : (context : Context) (message : Message) (all : List Connection) (l : Ledger) → asks_room context message l ≡ false → removals_in_the_way context message all l ≡ []
unfolding removals_in_the_way
not_asked context message all l none = rw none refl

pub not_crowded : (context : Context) (message : Message) (all : List Connection) (l : Ledger) → length (rows_in l) + length (needed_removals all l) < context.limit → removals_in_the_way context message all l ≡ []
unfolding removals_in_the_way
not_crowded context message all l room = grind arith

pub crowded : (context : Context) (message : Message) (all : List Connection) (l : Ledger) → asks_room context message l ≡ true → context.limit ≤ length (rows_in l) + length (needed_removals all l)
    → removals_in_the_way context message all l ≡ needed_removals all l
unfolding removals_in_the_way
crowded context message all l asks full = grind arith

pub no_call_asks : (context : Context) (message : Message) (l : Ledger) → ((call : Call) → message ≡ says.Asked call → ⊥) → asks_room context message l ≡ false
no_call_asks context message l other = grind arith

place_within : (limit : ℕ) (rows : List Row) (count : ℕ) (row : Row) → has_place limit rows count row ≡ true → length rows < limit
unfolding has_place
place_within limit rows count row is = grind arith

accepted_within : (context : Context) (rows : List Row) (count : ℕ) (row : Option Row) → adds context rows count row ≡ true → length rows < context.limit
accepted_within context rows count row e = grind (arith, common_steps, place_within, and_parts)

-- a row that is accepted has room among the live ones
pub row_within : (context : Context) (call : Call) (rows : List Row) (count : ℕ) → adds_row context call rows count ≡ true → length rows < context.limit
unfolding adds_row
row_within context call rows count is = accepted_within context rows count (row_to_set context call) is
