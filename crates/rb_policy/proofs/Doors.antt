-- Somebody may be given up for each newcomer.
use Rattle.std.proofs.Common.{◌≡◌, ◌<◌, ◌+◌, ℕ, suc, Bool, true, false, cond, List, [], ◌∷◌, length, nat_lt, ◌||◌, Option, Some, None, slice_get, arith, refl, subst}
use Rattle.std.specs.Prelude.{count_by, position}
use Rattle.std.proofs.lemmas.Bool.Decides.{nat_tests}
use Rattle.std.proofs.lemmas.List.Sums.{sum_by-cons}
use Rattle.rb_policy.specs.declared.origin.Origin.{Origin}
use Rattle.rb_policy.specs.declared.origin.Origin.TheVariants.{Host, User, Nobody, New, Waiting, Unawaited}
use Rattle.rb_policy.specs.Origins.{share_of, is_roots}
use Rattle.rb_policy.specs.declared.door.Holder.{Holder}
use Rattle.rb_policy.specs.Door.{Places, is_free, is_held_by, count_held_by, may_hold_more}
use Rattle.rb_policy.specs.Candidates.{NobodyMayBeGivenUp}

pub some_counted : {X : Type 0} (p : X → Bool) (xs : List X) → 0 < count_by p xs → (k : ℕ) × (x : X) × (slice_get xs k ≡ Some x) × (p x ≡ true)
some_counted p [] some = absurd (omega (arith, some))
some_counted {X} p (x ∷ xs) some = at (p x) refl (λ more. some_counted p xs more)
  where
    at : (b : Bool) → p x ≡ b → (0 < count_by p xs → (k : ℕ) × (y : X) × (slice_get xs k ≡ Some y) × (p y ≡ true)) → (k : ℕ) × (y : X) × (slice_get (x ∷ xs) k ≡ Some y) × (p y ≡ true)
    at true e further = (0, x, refl, e)
    at false e further =
        let some_more : 0 < 0 + count_by p xs =
        subst (λ b. 0 < cond b 1 0 + count_by p xs) e
        (subst (λ n. 0 < n) (sum_by-cons (λ y. cond (p y) 1 0) x xs) some) in
        let found = further (omega (arith, some_more)) in
        (suc found.0, found.1, found.2, found.3)

some_share : (origin : Origin) (all : ℕ) → 0 < share_of origin all
some_share (Host host) all = grind (arith, nat_tests)
some_share (User uid) all = grind (arith, nat_tests)
some_share Nobody all = grind (arith, nat_tests)
some_share New all = grind (arith, nat_tests)
some_share Waiting all = grind (arith, nat_tests)
some_share Unawaited all = grind (arith, nat_tests)

at_share : (root : Bool) (held share : ℕ) → (root || nat_lt held share) ≡ false → 0 < share → 0 < held
at_share root held share e some = grind (arith, nat_tests, e, some)

own : (places : Places) (newcomer : Origin) → may_hold_more places newcomer ≡ false → ¬ NobodyMayBeGivenUp places newcomer
own places newcomer full nobody =
    let some = at_share (is_roots newcomer) (count_held_by places newcomer) _ full (some_share newcomer (length places)) in
    let found = some_counted (is_held_by newcomer) places some in
    of found.0 found.1 found.2 found.3
  where
    of : (k : ℕ) (held : Option Holder) → slice_get places k ≡ Some held → is_held_by newcomer held ≡ true → ⊥
    of k None at e = grind (arith, e)
    of k (Some holder) at e = nobody k holder (record { holds = at; may = grind (arith, e) })

any : (place : Option Holder) (rest : Places) (newcomer : Origin) → position is_free (place ∷ rest) ≡ None → may_hold_more (place ∷ rest) newcomer ≡ true → ¬ NobodyMayBeGivenUp (place ∷ rest) newcomer
any None rest newcomer taken more nobody = grind (arith, nat_tests, taken)
any (Some holder) rest newcomer taken more nobody = nobody 0 holder (record { holds = refl; may = grind (arith, more) })

pub never_shut : (places : Places) (newcomer : Origin) → position is_free places ≡ None → NobodyMayBeGivenUp places newcomer → places ≡ []
never_shut [] newcomer taken nobody = refl
never_shut (place ∷ rest) newcomer taken nobody = at (may_hold_more (place ∷ rest) newcomer) refl
  where
    at : (more : Bool) → may_hold_more (place ∷ rest) newcomer ≡ more → place ∷ rest ≡ []
    at true e = absurd (any place rest newcomer taken e nobody)
    at false e = absurd (own (place ∷ rest) newcomer e nobody)
