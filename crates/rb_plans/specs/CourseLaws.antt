-- A course that calls several versions does not go on at a further address.
use Rattle.std.specs.Prelude.{◌≡◌, ℕ, ⊤, false, IfOk, IfErr, Result, Err}
use Rattle.rb_plans.specs.declared.course.Aim.{Aim}
use Rattle.rb_plans.specs.declared.course.Aim.TheVariants as aims
use Rattle.rb_plans.specs.declared.course.Course.{Course}
use Rattle.rb_plans.specs.declared.course.Stage.{Stage}
use Rattle.rb_plans.specs.declared.course.Stage.TheVariants.{Find, FindOld, Call, End}
use Rattle.rb_show.specs.declared.show.Shown.{Shown}
use Rattle.rb_plans.specs.declared.fault.Fault.{Fault}
use Rattle.rb_plans.specs.Addresses.{is_unanswered}
use Rattle.rb_plans.specs.Plans.{follow, course_end}

abbrev pub IsOfSeveral : Aim → Type 0
IsOfSeveral (aims.Each vers high lacks) = ⊤
IsOfSeveral (aims.Only vers) = ⊥
IsOfSeveral aims.Least = ⊥
IsOfSeveral aims.Greatest = ⊥

-- one of several versions is looked up or called
abbrev pub AsksOfSeveral : Stage → Type 0
AsksOfSeveral (Find aim) = IsOfSeveral aim
AsksOfSeveral (FindOld aim transport) = IsOfSeveral aim
AsksOfSeveral (Call aim place) = IsOfSeveral aim
AsksOfSeveral (End end) = ⊥

-- the same, or nothing more is asked
abbrev pub AsksNoOther : Stage → Type 0
AsksNoOther (Find aim) = IsOfSeveral aim
AsksNoOther (FindOld aim transport) = IsOfSeveral aim
AsksNoOther (Call aim place) = IsOfSeveral aim
AsksNoOther (End end) = ⊤

-- whatever is replied, another of them follows, or the end
-- COURSE-10: Once the versions of a program are known, the host's next address is not asked.
abbrev pub SeveralStay : Type 0
SeveralStay =
    (course : Course) (stage : Stage) (reply : Result Shown Fault) → AsksOfSeveral stage
    → IfOk (follow course stage reply) (λ step. AsksNoOther step.stage)

-- a fault that ends the course is no reason to ask at the next address
-- COURSE-10
abbrev pub FaultsAreLast : Type 0
FaultsAreLast =
    (course : Course) (stage : Stage) (reply : Result Shown Fault) → AsksOfSeveral stage
    → IfErr (follow course stage reply) (λ fault. is_unanswered (Err fault) ≡ false)

-- nor is the end of a course
-- COURSE-10
abbrev pub EndsAreLast : Type 0
EndsAreLast = (prog xid : ℕ) (stage : Stage) → is_unanswered (course_end prog xid stage) ≡ false
