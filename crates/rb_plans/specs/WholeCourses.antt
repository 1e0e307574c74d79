-- Of the versions that a program has, each is called once, from the least to the greatest, whatever is answered, or not.
use Rattle.std.specs.Prelude.{◌≡◌, ◌<◌, ℕ, zero, suc, ◌+◌, ⊤, List, [], ◌∷◌, Option, Some, None, IfSome, unwrap_or}
use Rattle.rb_plans.specs.declared.course.Course.{Course}
use Rattle.rb_plans.specs.declared.course.Place.{Place}
use Rattle.rb_plans.specs.declared.course.Aim.TheVariants as aims
use Rattle.rb_plans.specs.declared.course.Answer.{Answer}
use Rattle.rb_plans.specs.declared.course.Answer.TheVariants as answers
use Rattle.rb_plans.specs.declared.course.Stage.{Stage}
use Rattle.rb_plans.specs.declared.course.Stage.TheVariants.{Call}
use Rattle.rb_plans.specs.declared.course.Step.{Step}
use Rattle.rb_plans.specs.Next.{most_versions, place_of, step_to, step_to_versions, next, unanswered}

-- what a call of procedure 0 is answered with
abbrev pub IsOfCall : Answer → Type 0
IsOfCall answers.Ready = ⊤
IsOfCall (answers.Refused status) = ⊤
IsOfCall (answers.Port port) = ⊥
IsOfCall (answers.Address address) = ⊥

-- what follows if there is this answer, or none
abbrev pub follow : Course → Stage → Option Answer → Step
follow course stage (Some answer) = next course stage answer
follow course stage None = unwrap_or (unanswered course stage) (step_to stage)

-- the versions that are called from a stage on, at most this many, if each has this answer, or none
abbrev pub versions_called_from : ℕ → Course → (ℕ → Option Answer) → Stage → List ℕ
versions_called_from zero course answer stage = []
versions_called_from (suc n) course answer (Call (aims.Each vers high lacks) place) = vers ∷ versions_called_from n course answer (follow course (Call (aims.Each vers high lacks) place) (answer vers)).stage
versions_called_from (suc n) course answer _ = []

-- this many numbers from this one upwards
abbrev pub upwards : ℕ → ℕ → List ℕ
upwards zero least = []
upwards (suc n) least = least ∷ upwards n (least + 1)

-- COURSE-5
abbrev pub EachVersionIsCalled : Type 0
EachVersionIsCalled =
    (course : Course) (place : Place) (low more : ℕ) (answer : ℕ → Option Answer) → place_of course.way ≡ Some place → more < most_versions → ((vers : ℕ) → IfSome (answer vers) IsOfCall)
    → versions_called_from most_versions course answer (step_to_versions course low (low + more)).stage ≡ upwards (more + 1) low
