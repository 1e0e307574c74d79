-- Courses of several versions.
use Rattle.std.specs.Prelude.{IfOk, IfErr}
use Rattle.std.proofs.Common.{◌≡◌, ℕ, ◌+◌, ◌==◌, ◌||◌, nat_lt, nat_le, Bool, true, false, if◌then◌else◌, Option, Some, None, Result, Ok, Err, refl}
use Rattle.rb_uaddr.specs.declared.address.Uaddr.{Uaddr}
use Rattle.rb_uaddr.specs.Uaddr.{port_of}
use Rattle.rb_rpc.specs.declared.reply.ReplyStatus.{ReplyStatus}
use Rattle.rb_rpc.specs.declared.reply.ReplyStatus.TheVariants as statuses
use Rattle.rb_show.specs.declared.fault.InfoFault.TheVariants.{Read, Write, Unreadable, CutOff, TooLong, Refused, TooMany, Memory}
use Rattle.rb_plans.specs.declared.course.Aim.TheVariants as aims
use Rattle.rb_plans.specs.declared.course.Answer.{Answer}
use Rattle.rb_plans.specs.declared.course.Answer.TheVariants as answers
use Rattle.rb_plans.specs.declared.course.Course.{Course}
use Rattle.rb_plans.specs.declared.course.End.TheVariants as ends
use Rattle.rb_plans.specs.declared.course.Place.{Place}
use Rattle.rb_plans.specs.declared.course.Place.TheVariants as places
use Rattle.rb_plans.specs.declared.course.Stage.{Stage}
use Rattle.rb_plans.specs.declared.course.Stage.TheVariants.{Find, FindOld, Call, End}
use Rattle.rb_plans.specs.declared.course.Step.{Step}
use Rattle.rb_words.specs.declared.plan.Way.{Way}
use Rattle.rb_words.specs.declared.plan.Way.TheVariants as ways
use Rattle.rb_plans.specs.Next.{place_of, begin_at, next_stage, step_to, after_lack, transport_at, after_port, is_of_teller, after_address, after_find_refusal_by, after_find, after_find_old, after_call}
use Rattle.rb_plans.specs.declared.fault.Fault.{Fault}
use Rattle.rb_plans.specs.declared.fault.Fault.TheVariants.{Info, NoConnection, NoSocket, NoReply, NoHost, NoAddress, NotAvailable, NoProgram, TooManyVersions, TooManyRoutes, SomeLack}
use Rattle.rb_plans.specs.Addresses.{is_unanswered}
use Rattle.rb_plans.specs.Plans.{is_of_here, answer_of, follow_answer}
use Rattle.rb_plans.specs.CourseLaws.{AsksOfSeveral, AsksNoOther, SeveralStay, FaultsAreLast, EndsAreLast}

stage_of : (b : Bool) (x y : Stage) → AsksNoOther x → AsksNoOther y → AsksNoOther (if b then x else y)
stage_of true x y p q = p
stage_of false x y p q = q

step_of : (b : Bool) (x y : Step) → AsksNoOther x.stage → AsksNoOther y.stage → AsksNoOther (if b then x else y).stage
step_of true x y p q = p
step_of false x y p q = q

begins : (known : Option Place) (vers high : ℕ) (lacks : Bool) → AsksNoOther (begin_at known (aims.Each vers high lacks))
begins (Some place) vers high lacks = tt
begins None vers high lacks = tt

goes_on : (course : Course) (vers high : ℕ) (lacks : Bool) → AsksNoOther (next_stage course vers high lacks)
goes_on course vers high lacks =
    stage_of (nat_lt vers high) (begin_at (place_of course.way) (aims.Each (vers + 1) high lacks)) (End (if lacks then ends.SomeLack else ends.Ready)) (begins (place_of course.way) (vers + 1) high lacks) tt

-- ---- each answer

at_port : (course : Course) (vers high : ℕ) (lacks : Bool) (port : ℕ) → AsksNoOther (after_port course (aims.Each vers high lacks) port).stage
at_port course vers high lacks port =
    let aim = aims.Each vers high lacks in
    step_of (port == 0 || nat_le 65536 port) (after_lack course aim None) (step_to (Call aim (places.Port (transport_at course.way) port))) (goes_on course vers high true) tt

at_address : (course : Course) (vers high : ℕ) (lacks : Bool) (address : Uaddr) → AsksNoOther (after_address course (aims.Each vers high lacks) address).stage
at_address course vers high lacks address =
    let aim = aims.Each vers high lacks in
    step_of (is_of_teller address) (after_port course aim (port_of address)) (step_to (Call aim (places.Address (transport_at course.way) address))) (at_port course vers high lacks (port_of address)) tt

refused : (way : Way) (course : Course) (vers high : ℕ) (lacks : Bool) (status : ReplyStatus) → AsksNoOther (after_find_refusal_by way course (aims.Each vers high lacks) status).stage
refused (ways.Getport transport) course vers high lacks status = goes_on course vers high true
refused (ways.Port transport port) course vers high lacks status = goes_on course vers high true
refused (ways.Address netid address) course vers high lacks status = goes_on course vers high true
refused (ways.Getaddr netid) course vers high lacks (statuses.ProgMismatch low most) = tt
refused (ways.Getaddr netid) course vers high lacks statuses.Success = goes_on course vers high true
refused (ways.Getaddr netid) course vers high lacks statuses.ProgUnavail = goes_on course vers high true
refused (ways.Getaddr netid) course vers high lacks statuses.ProcUnavail = goes_on course vers high true
refused (ways.Getaddr netid) course vers high lacks statuses.GarbageArgs = goes_on course vers high true
refused (ways.Getaddr netid) course vers high lacks statuses.SystemErr = goes_on course vers high true
refused (ways.Getaddr netid) course vers high lacks (statuses.RpcMismatch low most) = goes_on course vers high true
refused (ways.Getaddr netid) course vers high lacks (statuses.AuthError stat) = goes_on course vers high true

found : (course : Course) (vers high : ℕ) (lacks : Bool) (answer : Answer) → AsksNoOther (after_find course (aims.Each vers high lacks) answer).stage
found course vers high lacks (answers.Port port) = at_port course vers high lacks port
found course vers high lacks (answers.Address (Some address)) = at_address course vers high lacks address
found course vers high lacks (answers.Address None) = goes_on course vers high true
found course vers high lacks answers.Ready = tt
found course vers high lacks (answers.Refused status) = refused course.way course vers high lacks status

found_old : (course : Course) (vers high : ℕ) (lacks : Bool) (answer : Answer) → AsksNoOther (after_find_old course (aims.Each vers high lacks) answer).stage
found_old course vers high lacks (answers.Port port) = at_port course vers high lacks port
found_old course vers high lacks (answers.Address address) = tt
found_old course vers high lacks answers.Ready = tt
found_old course vers high lacks (answers.Refused status) = goes_on course vers high true

called : (course : Course) (vers high : ℕ) (lacks : Bool) (answer : Answer) → AsksNoOther (after_call course (aims.Each vers high lacks) answer).stage
called course vers high lacks (answers.Port port) = tt
called course vers high lacks (answers.Address address) = tt
called course vers high lacks answers.Ready = goes_on course vers high lacks
called course vers high lacks (answers.Refused status) = goes_on course vers high true

-- ---- no answer

passed : (here : Bool) (fault : Fault) (step : Step) → AsksNoOther step.stage → IfOk (if here then Err fault else Ok step) (λ s. AsksNoOther s.stage)
passed true fault step p = tt
passed false fault step p = p

ended : (fault : Fault) (step : Step) → IfErr (if is_of_here fault then Err fault else Ok step) (λ f. is_unanswered (Err f) ≡ false)
ended (Info Memory) step = refl
ended (Info Write) step = refl
ended TooManyRoutes step = refl
ended (Info Read) step = tt
ended (Info Unreadable) step = tt
ended (Info CutOff) step = tt
ended (Info TooLong) step = tt
ended (Info (Refused head)) step = tt
ended (Info TooMany) step = tt
ended NoConnection step = tt
ended NoSocket step = tt
ended NoReply step = tt
ended NoHost step = tt
ended (NoAddress family) step = tt
ended (NotAvailable prog vers why) step = tt
ended (NoProgram prog why) step = tt
ended TooManyVersions step = tt
ended SomeLack step = tt

-- ---- both

stays : (course : Course) (stage : Stage) (answer : Result Answer Fault) → AsksOfSeveral stage → IfOk (follow_answer course stage answer) (λ step. AsksNoOther step.stage)
stays course (Find (aims.Each vers high lacks)) (Ok answer) of = found course vers high lacks answer
stays course (FindOld (aims.Each vers high lacks) transport) (Ok answer) of = found_old course vers high lacks answer
stays course (Call (aims.Each vers high lacks) place) (Ok answer) of = called course vers high lacks answer
stays course (Find (aims.Each vers high lacks)) (Err fault) of = passed (is_of_here fault) fault (after_lack course (aims.Each vers high lacks) None) (goes_on course vers high true)
stays course (FindOld (aims.Each vers high lacks) transport) (Err fault) of = passed (is_of_here fault) fault (after_lack course (aims.Each vers high lacks) None) (goes_on course vers high true)
stays course (Call (aims.Each vers high lacks) place) (Err fault) of = passed (is_of_here fault) fault (after_lack course (aims.Each vers high lacks) None) (goes_on course vers high true)
stays course (Find (aims.Only vers)) answer of = absurd of
stays course (Find aims.Least) answer of = absurd of
stays course (Find aims.Greatest) answer of = absurd of
stays course (FindOld (aims.Only vers) transport) answer of = absurd of
stays course (FindOld aims.Least transport) answer of = absurd of
stays course (FindOld aims.Greatest transport) answer of = absurd of
stays course (Call (aims.Only vers) place) answer of = absurd of
stays course (Call aims.Least place) answer of = absurd of
stays course (Call aims.Greatest place) answer of = absurd of
stays course (End end) answer of = absurd of

ends_so : (course : Course) (stage : Stage) (answer : Result Answer Fault) → AsksOfSeveral stage → IfErr (follow_answer course stage answer) (λ fault. is_unanswered (Err fault) ≡ false)
ends_so course stage (Ok answer) of = tt
ends_so course (Find (aims.Each vers high lacks)) (Err fault) of = ended fault (after_lack course (aims.Each vers high lacks) None)
ends_so course (FindOld (aims.Each vers high lacks) transport) (Err fault) of = ended fault (after_lack course (aims.Each vers high lacks) None)
ends_so course (Call (aims.Each vers high lacks) place) (Err fault) of = ended fault (after_lack course (aims.Each vers high lacks) None)
ends_so course (Find (aims.Only vers)) (Err fault) of = absurd of
ends_so course (Find aims.Least) (Err fault) of = absurd of
ends_so course (Find aims.Greatest) (Err fault) of = absurd of
ends_so course (FindOld (aims.Only vers) transport) (Err fault) of = absurd of
ends_so course (FindOld aims.Least transport) (Err fault) of = absurd of
ends_so course (FindOld aims.Greatest transport) (Err fault) of = absurd of
ends_so course (Call (aims.Only vers) place) (Err fault) of = absurd of
ends_so course (Call aims.Least place) (Err fault) of = absurd of
ends_so course (Call aims.Greatest place) (Err fault) of = absurd of
ends_so course (End end) (Err fault) of = absurd of

pub several_stay : SeveralStay
several_stay course stage reply of = stays course stage (answer_of reply) of

pub faults_are_last : FaultsAreLast
faults_are_last course stage reply of = ends_so course stage (answer_of reply) of

pub ends_are_last : EndsAreLast
ends_are_last prog xid (End ends.Ready) = refl
ends_are_last prog xid (End ends.SomeLack) = refl
ends_are_last prog xid (End (ends.NotAvailable vers why)) = refl
ends_are_last prog xid (End (ends.NoProgram why)) = refl
ends_are_last prog xid (End (ends.Refused status)) = refl
ends_are_last prog xid (End ends.Unreadable) = refl
ends_are_last prog xid (End ends.TooMany) = refl
ends_are_last prog xid (Find aim) = refl
ends_are_last prog xid (FindOld aim transport) = refl
ends_are_last prog xid (Call aim place) = refl
