-- What is given into a room of this size is given into a room of that size, if they are the same; and what no byte
-- leaves.
use Rattle.std.proofs.Common.{◌≡◌, ℕ, max, List, [], ◌∷◌, take, Result, Ok, Err, refl, sym, ap, subst, ◌∙◌}
use Rattle.rb_model.specs.declared.types.CoreFault.{CoreFault}
use Rattle.rb_model.specs.declared.types.Taken.{Taken}
use Rattle.rb_model.specs.declared.types.Given.{Given}
use Rattle.rb_model.specs.State.{State}
use Rattle.rb_model.specs.Connections.{on_live}
use Rattle.rb_model.specs.Step.{unless_refused}
use Rattle.rb_model.specs.Exchanges.{exchange}
use Rattle.rb_model.specs.Gives.{write_fitting, unless_nothing, write_into, given_in, bytes_given}
use Rattle.rb_core.specs.StandsFor.{StandsFor}
use Rattle.rb_engine.specs.declared.engine.Engine.{Engine}
use Rattle.rb_engine.specs.Moves.{Moves, ActsNow}
use Rattle.rb_engine.proofs.Pieces.{refused_stays}

pub exchanges_in : (id : ℕ) (piece : List ℕ) (room free : ℕ) (old new : Engine) (result : Result Taken CoreFault × List ℕ) → room ≡ free → ActsNow (λ s now. exchange now id piece room s) old new result → ActsNow (λ s now. exchange now id piece free s) old new result
exchanges_in id piece room free old new result same acts =
    subst (λ (n : ℕ). ActsNow (λ s now. exchange now id piece n s) old new result) same acts

pub gives_in : (id room free : ℕ) (old new : Engine) (result : Result (List ℕ) CoreFault) → room ≡ free → ActsNow (λ s now. write_into s now id room) old new result → ActsNow (λ s now. write_into s now id free) old new result
gives_in id room free old new result same acts =
    subst (λ (n : ℕ). ActsNow (λ s now. write_into s now id n) old new result) same acts

-- ---- if no byte is given

nothing_on : (s : State) (r : Result (List ℕ) CoreFault × State) → Ok [] ≡ (unless_nothing s r).0 → (unless_nothing s r).1 ≡ s
nothing_on s (Ok [], new) is = refl
nothing_on s (Ok (byte ∷ bytes), new) is = absurd cc
nothing_on s (Err fault, new) is = absurd cc

nothing_stays : (s : State) (now id room : ℕ) → Ok [] ≡ (write_into s now id room).0 → (write_into s now id room).1 ≡ s
unfolding write_into
nothing_stays s now id room is = nothing_on s (unless_refused now s (on_live id (write_fitting (max s.clock now) room) s.connections)) is

pub idle_stays : (id room : ℕ) (given : List ℕ) (result : Result Given CoreFault) (old new : Engine) → ActsNow (λ s now. write_into s now id room) old new (bytes_given given result) → given_in result ≡ 0 → Moves (λ s now. s) old new
idle_stays id room given (Ok done) old new acts none s h =
    subst (StandsFor new.core.core) (nothing_stays s old.moment id room (ap (λ (n : ℕ). let r : Result (List ℕ) CoreFault = Ok (take n given) in r) (sym none) ∙ acts.gives s h)) (acts.stands s h)
idle_stays id room given (Err fault) old new acts none s h =
    subst (StandsFor new.core.core) (refused_stays s old.moment id room fault (acts.gives s h)) (acts.stands s h)
