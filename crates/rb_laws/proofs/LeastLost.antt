-- The first connection that passes a test is that of the least number, as they are in the order of their numbers.
use Rattle.std.specs.Prelude.{All, Any, find, option_map}
use Rattle.std.proofs.Common.{◌≡◌, ◌≤◌, ℕ, suc, ◌+◌, Bool, true, false, Option, Some, None, List, [], ◌∷◌, arith}
use Rattle.std.proofs.lemmas.List.Elements.{All-nil, All-cons, All-weaker}
use Rattle.std.proofs.lemmas.Grind.{common_steps}
use Rattle.rb_model.specs.State.{Connection}
use Rattle.rb_model.specs.Connections.{is_lost, next_lost_in_table}
use Rattle.rb_model.specs.Step.{next_lost}
use Rattle.rb_model.specs.Laws.{IsLeast, NextLostIsLeast}
use Rattle.rb_laws.proofs.Reached.{AreSound, reached-sound}

-- they are all numbered from the least on
from-least : (least next : ℕ) (all : List Connection) → AreSound least next all → All (λ (c : Connection). least ≤ c.number) all
from-least least next [] s = grind arith
from-least least next (c ∷ all) s = grind (arith, from-least (c.number + 1) next all s.2)

any-later : (P : Connection → Type 0) (c : Connection) (all : List Connection) → Any P all → Any P (c ∷ all)
any-later P c all (k, d, within, at, holds) = (suc k, d, omega arith, at, holds)

module _ (test : Connection → Bool) where
  -- one that does not pass changes nothing
  found-later : (c : Connection) (all : List Connection) (o : Option ℕ) → test c ≡ false → IsLeast test all o → IsLeast test (c ∷ all) o
  found-later c all None not none = All-cons (λ (d : Connection). test d ≡ false) c all not none
  found-later c all (Some id) not (there, least) = (
    any-later (λ (d : Connection). (test d ≡ true) × (d.number ≡ id)) c all there,
    All-cons (λ (d : Connection). test d ≡ true → id ≤ d.number) c all (λ passes. absurd cc) least,
  )

  pub first-least : (least next : ℕ) (all : List Connection) → AreSound least next all → IsLeast test all (option_map (λ (d : Connection). d.number) (find test all))
  first-least least next [] s = grind (arith, common_steps, All-nil, All-cons, All-weaker, from-least, found-later)
  first-least least next (c ∷ all) s = grind (arith, common_steps, All-nil, All-cons, All-weaker, from-least, found-later, first-least (c.number + 1) next all s.2)

pub next_lost_is_least : NextLostIsLeast
unfolding next_lost next_lost_in_table
next_lost_is_least s reached = first-least (λ (c : Connection). is_lost c.phase) 0 s.connections.next s.connections.all (reached-sound s reached)
