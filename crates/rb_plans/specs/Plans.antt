-- Plans as questions and courses.
use Rattle.std.specs.Prelude.{ℕ, Bool, true, false, if◌then◌else◌, Option, Some, None, Result, Ok, Err}
use Rattle.rb_words.specs.declared.plan.Listing.{Listing}
use Rattle.rb_words.specs.declared.plan.Listing.TheVariants as listings
use Rattle.rb_words.specs.declared.plan.Plan.{Plan}
use Rattle.rb_words.specs.declared.plan.Plan.TheVariants.{Show, Entries, Ping, Delete, Broadcast}
use Rattle.rb_words.specs.declared.plan.Source.{Source}
use Rattle.rb_words.specs.declared.plan.Source.TheVariants.{Here}
use Rattle.rb_show.specs.declared.fault.InfoFault.TheVariants.{Write, Unreadable, Refused, Memory}
use Rattle.rb_show.specs.declared.ask.Question.{Question}
use Rattle.rb_show.specs.declared.ask.Question.TheVariants as questions
use Rattle.rb_show.specs.declared.show.Shown.{Shown}
use Rattle.rb_show.specs.declared.show.Shown.TheVariants as shown
use Rattle.rb_plans.specs.declared.course.Aim.{Aim}
use Rattle.rb_plans.specs.declared.course.Aim.TheVariants as aims
use Rattle.rb_plans.specs.declared.course.Answer.{Answer}
use Rattle.rb_plans.specs.declared.course.Answer.TheVariants as answers
use Rattle.rb_plans.specs.declared.course.End.TheVariants as ends
use Rattle.rb_plans.specs.declared.course.Stage.{Stage}
use Rattle.rb_plans.specs.declared.course.Stage.TheVariants.{Find, FindOld, Call, End}
use Rattle.rb_plans.specs.declared.course.Course.{Course}
use Rattle.rb_plans.specs.declared.course.Step.{Step}
use Rattle.rb_plans.specs.Next.{next, unanswered}
use Rattle.rb_plans.specs.declared.fault.Fault.{Fault}
use Rattle.rb_plans.specs.declared.fault.Fault.TheVariants.{Info, NotAvailable, NoProgram, TooManyVersions, TooManyRoutes, SomeLack}

abbrev pub question_of : Listing → Question
question_of listings.Rows = questions.Rows
question_of listings.Short = questions.Short
question_of listings.Summary = questions.Summary
question_of listings.Table = questions.Pmap
question_of listings.Statistics = questions.Stats

-- the one question of a plan, and where its reply comes from
abbrev pub plan_question : Plan → Option (Source × Question)
plan_question (Show listing source) = Some (source, question_of listing)
plan_question (Entries source prog vers) = Some (source, questions.Entries prog vers)
plan_question (Delete netid prog vers) = Some (Here, questions.Unset netid prog vers)
plan_question (Ping way prog vers) = None
plan_question (Broadcast prog vers) = None

-- COURSE-12: A version that is named is the only one called.
abbrev pub aim_of : Option ℕ → Aim
aim_of (Some vers) = aims.Only vers
aim_of None = aims.Least

-- a refusal is an answer, and no other fault is
abbrev pub answer_of : Result Shown Fault → Result Answer Fault
answer_of (Ok (shown.Port port)) = Ok (answers.Port port)
answer_of (Ok (shown.Address address)) = Ok (answers.Address address)
answer_of (Ok shown.Null) = Ok answers.Ready
answer_of (Ok (shown.Rows n)) = Err (Info Unreadable)
answer_of (Ok (shown.Statistics n)) = Err (Info Unreadable)
answer_of (Ok (shown.Removed removed)) = Err (Info Unreadable)
answer_of (Err (Info (Refused head))) = Ok (answers.Refused head.status)
answer_of (Err fault) = Err fault

-- a fault of this machine, whoever is asked
abbrev pub is_of_here : Fault → Bool
is_of_here (Info Memory) = true
is_of_here (Info Write) = true
is_of_here TooManyRoutes = true
is_of_here fault = false

-- the step by which the course goes on, or else this fault, by which it ends
abbrev pub step_or : Fault → Option Step → Result Step Fault
step_or fault (Some step) = Ok step
step_or fault None = Err fault

-- a fault of this machine ends a course, and any other one unless it is of one of several versions
abbrev pub passed_over : Course → Stage → Fault → Result Step Fault
passed_over course stage fault = if is_of_here fault then Err fault else step_or fault (unanswered course stage)

abbrev pub follow_answer : Course → Stage → Result Answer Fault → Result Step Fault
follow_answer course stage (Ok answer) = Ok (next course stage answer)
follow_answer course stage (Err fault) = passed_over course stage fault

-- what follows of a reply
-- COURSE-6
abbrev pub follow : Course → Stage → Result Shown Fault → Result Step Fault
follow course stage reply = follow_answer course stage (answer_of reply)

-- the end of a program's course
-- COURSE-11: A program of more versions than are called has too many versions.
abbrev pub course_end : ℕ → ℕ → Stage → Result Shown Fault
course_end prog xid (End ends.Ready) = Ok shown.Null
course_end prog xid (End ends.SomeLack) = Err SomeLack
course_end prog xid (End (ends.NotAvailable vers why)) = Err (NotAvailable prog vers why)
course_end prog xid (End (ends.NoProgram why)) = Err (NoProgram prog why)
course_end prog xid (End (ends.Refused status)) = Err (Info (Refused (record { xid = xid; status = status })))
course_end prog xid (End ends.Unreadable) = Err (Info Unreadable)
course_end prog xid (End ends.TooMany) = Err TooManyVersions
course_end prog xid (Find aim) = Err TooManyVersions
course_end prog xid (FindOld aim transport) = Err TooManyVersions
course_end prog xid (Call aim place) = Err TooManyVersions
