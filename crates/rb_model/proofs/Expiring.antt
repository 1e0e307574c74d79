-- The first connection that is due is the live one of its number.
use Rattle.std.specs.Prelude.{⊤, find}
use Rattle.std.specs.List.{list_any}
use Rattle.std.proofs.Common.{◌≡◌, ℕ, Bool, true, false, List, [], ◌∷◌, Some, arith}
use Rattle.std.proofs.lemmas.Grind.{common_steps}
use Rattle.std.proofs.lemmas.Bool.{eqb-true}
use Rattle.rb_model.specs.State.{Phase, Connection}
use Rattle.rb_model.specs.Connections.{change_first, has_number, is_lost, is_live}
use Rattle.rb_model.specs.Laws.{is_awaiting}
use Rattle.rb_model.specs.Losses.{is_due, has_come, deadline}

-- ---- the first that is due is the live one of its number

-- no two have one number
abbrev pub AreApart : List Connection → Type 0
AreApart [] = ⊤
AreApart (c ∷ all) = (list_any (has_number c.number) all ≡ false) × AreApart all

late : (clock since : ℕ) (p : Phase) → has_come clock (deadline since p) ≡ true → is_lost p ≡ false
late clock since p h = grind arith

pub due-live : (clock : ℕ) (c : Connection) → is_due clock c ≡ true → is_lost c.phase ≡ false
unfolding is_due
due-live clock c h = late clock c.since c.phase h

free : (clock since : ℕ) (p : Phase) → has_come clock (deadline since p) ≡ true → is_awaiting p ≡ false
free clock since p h = grind arith

pub due-awaits-none : (clock : ℕ) (c : Connection) → is_due clock c ≡ true → is_awaiting c.phase ≡ false
unfolding is_due
due-awaits-none clock c h = free clock c.since c.phase h

-- one that is found has its number
pub found-there : (p : Connection → Bool) (all : List Connection) (c : Connection) → find p all ≡ Some c → list_any (has_number c.number) all ≡ true
found-there p [] c h = grind arith
found-there p (d ∷ all) c h = grind (arith, found-there p all c)

module _ (clock : ℕ) where
  pub due-changed : (f : Connection → Connection) (all : List Connection) (c : Connection) → AreApart all → find (is_due clock) all ≡ Some c
      → change_first (is_live c.number) f all ≡ change_first (is_due clock) f all
  unfolding is_live
  due-changed f [] c apart h = grind (arith, common_steps, found-there, eqb-true, due-live)
  due-changed f (d ∷ all) c apart h = grind (arith, common_steps, found-there, eqb-true, due-live, due-changed f all c apart.1)

  -- the live one of that number is that one
  pub due-one : (all : List Connection) (c d : Connection) → AreApart all → find (is_due clock) all ≡ Some d → find (is_live d.number) all ≡ Some c → c ≡ d
  unfolding is_live
  due-one [] c d apart h l = grind (arith, common_steps, found-there, eqb-true, due-live)
  due-one (x ∷ all) c d apart h l = grind (arith, common_steps, found-there, eqb-true, due-live, due-one all c d apart.1)
