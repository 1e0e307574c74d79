-- What is live under a number after an event.
use Rattle.std.specs.Prelude.{find, filter}
use Rattle.std.proofs.Common.{◌≡◌, ◌⊎◌, ◌<◌, ◌≤◌, ℕ, ◌+◌, min, Bool, true, false, not, eqb, Option, Some, None, List, [], ◌∷◌, ◌++◌, length, refl, arith}
use Rattle.std.proofs.lemmas.Bool.{eqb-true}
use Rattle.std.proofs.lemmas.Grind.{common_steps}
use Rattle.rb_model.specs.Calls.{Outcome, is_no_call}
use Rattle.rb_model.specs.Calls.Outcome.{NoCall, Reply}
use Rattle.rb_model.specs.State.{Connection}
use Rattle.rb_model.specs.Connections.{is_live, change_first, settle, with_given, give, pending_in}
use Rattle.rb_model.specs.Losses.{lose}
use Rattle.rb_laws.proofs.Cuts.{IsFeeding, number-is}
use Rattle.rb_laws.proofs.Reached.{AreSound}

-- ---- a change that leaves it live

pub answering-feeds : (id clock : ℕ) (said : Outcome) → is_no_call said ≡ false → IsFeeding id (settle clock said)
unfolding is_live settle
answering-feeds id clock said is = grind arith

pub replying-feeds : (id clock : ℕ) (reply : List ℕ) (began : Option ℕ) → IsFeeding id (settle clock (Reply reply began))
replying-feeds id clock reply began = answering-feeds id clock (Reply reply began) refl

pub given-feeds : (id clock n : ℕ) (c : Connection) → is_live id c ≡ true → is_live id (with_given clock n c) ≡ true
unfolding is_live with_given
given-feeds id clock n c e = grind arith

pub giving-feeds : (id clock n : ℕ) → IsFeeding id (λ c. (give clock n c).1)
unfolding give
giving-feeds id clock n = record { live = λ c e. given-feeds id clock (min n (length (pending_in c.phase))) c e }

-- ---- others leave it

-- those of other numbers
abbrev pub without : ℕ → List Connection → List Connection
without id all = filter (λ (c : Connection). not (eqb c.number id)) all

-- a connection of another number is passed by
passed : (id k : ℕ) (c : Connection) → eqb k id ≡ false → c.number ≡ k → is_live id c ≡ false
unfolding is_live
passed id k c other is = rw (is, other) refl

-- a change to the connection of another number leaves what is found
pub changed-other : (id k : ℕ) (f : Connection → Connection) → ((c : Connection) → (f c).number ≡ c.number) → eqb k id ≡ false → (all : List Connection) → find (is_live id) (change_first (is_live k) f all) ≡ find (is_live id) all
changed-other id k f keeps other [] = grind (arith, common_steps, number-is, passed)
changed-other id k f keeps other (d ∷ all) = grind (arith, common_steps, number-is, passed, changed-other id k f keeps other all)

-- so does its close
pub closed-other : (id k : ℕ) → eqb k id ≡ false → (all : List Connection) → find (is_live id) (without k all) ≡ find (is_live id) all
closed-other id k other [] = grind (arith, common_steps, passed, eqb-true)
closed-other id k other (d ∷ all) = grind (arith, common_steps, passed, eqb-true, closed-other id k other all)

pub find-before : (p : Connection → Bool) (all : List Connection) (c d : Connection) → find p all ≡ Some c → find p (all ++ d ∷ []) ≡ Some c
find-before p [] c d is = grind arith
find-before p (e ∷ all) c d is = grind (arith, find-before p all c d)

-- ---- it is Lost or gone

within : (least next : ℕ) (all : List Connection) → AreSound least next all → least ≤ next
within least next [] a = a
within least next (c ∷ all) a = let later = within (c.number + 1) next all a.2 in omega (arith, later, a.0)

pub number-below : (p : Connection → Bool) (least next : ℕ) (all : List Connection) (c : Connection) → AreSound least next all → find p all ≡ Some c → c.number < next
number-below p least next [] c a is = grind (arith, common_steps, within)
number-below p least next (d ∷ all) c a is = grind (arith, common_steps, within, number-below p (d.number + 1) next all c a.2)

-- no connection of a lesser number
pub none-above : (id least next : ℕ) (all : List Connection) → AreSound least next all → id < least → find (is_live id) all ≡ None
unfolding is_live
none-above id least next [] a low = grind arith
none-above id least next (d ∷ all) a low = grind (arith, none-above id (d.number + 1) next all a.2 (omega (arith, a.0, low)))

is-lost-now : (id clock : ℕ) (c : Connection) → is_live id (settle clock NoCall c) ≡ false
unfolding is_live settle
is-lost-now id clock c = grind arith

-- once it is Lost there is no other of its number
pub loses-gone : (id : ℕ) (f : Connection → Connection) → ((c : Connection) → is_live id (f c) ≡ false) → (least next : ℕ) (all : List Connection) → AreSound least next all → find (is_live id) (change_first (is_live id) f all) ≡ None
loses-gone id f loses least next [] a = grind (arith, common_steps, none-above, number-is)
loses-gone id f loses least next (d ∷ all) a = grind (arith, common_steps, none-above, number-is, loses-gone id f loses (d.number + 1) next all a.2)

pub lost-gone : (id clock least next : ℕ) (all : List Connection) → AreSound least next all → find (is_live id) (change_first (is_live id) (settle clock NoCall) all) ≡ None
lost-gone id clock least next all a = loses-gone id (settle clock NoCall) (is-lost-now id clock) least next all a

timed-out : (id : ℕ) (c : Connection) → is_live id (lose c) ≡ false
unfolding is_live
timed-out id c = grind arith

pub timed-out-gone : (id least next : ℕ) (all : List Connection) → AreSound least next all → find (is_live id) (change_first (is_live id) lose all) ≡ None
timed-out-gone id least next all a = loses-gone id lose (timed-out id) least next all a

pub find-after : (p : Connection → Bool) (all : List Connection) (c d : Connection) → find p (all ++ c ∷ []) ≡ Some d → (find p all ≡ Some d) ⊎ ((c ≡ d) × (p c ≡ true))
find-after p [] c d is = grind arith
find-after p (x ∷ all) c d is = grind (arith, find-after p all c d)

pub closed-gone : (id : ℕ) (all : List Connection) → find (is_live id) (without id all) ≡ None
unfolding is_live
closed-gone id [] = grind arith
closed-gone id (d ∷ all) = grind (arith, closed-gone id all)
