-- What is asked of a portmapper and of a program, and what follows of each answer.
use Rattle.std.specs.Prelude.{ℕ, ◌+◌, ◌-◌, ◌==◌, ◌||◌, nat_lt, nat_le, Bool, true, false, if◌then◌else◌, Option, Some, None, option_map, unwrap_or}
use Rattle.rb_address.specs.declared.host.Host.{Host}
use Rattle.rb_address.specs.declared.host.Host.TheVariants as hosts
use Rattle.rb_address.specs.declared.netid.Netid.{Netid}
use Rattle.rb_address.specs.declared.netid.Transport.{Transport}
use Rattle.rb_address.specs.declared.netid.Transport.TheVariants as transports
use Rattle.rb_address.specs.Hosts.{is_any, is_loopback, plain_host}
use Rattle.rb_address.specs.Netids.{protocol_of, transport_of as transport_of_netid}
use Rattle.rb_uaddr.specs.declared.address.Uaddr.{Uaddr}
use Rattle.rb_uaddr.specs.declared.address.Uaddr.TheVariants as uaddrs
use Rattle.rb_uaddr.specs.Uaddr.{port_of}
use Rattle.rb_rpc.specs.declared.reply.ReplyStatus.{ReplyStatus}
use Rattle.rb_rpc.specs.declared.reply.ReplyStatus.TheVariants as statuses
use Rattle.rb_show.specs.declared.ask.Ask.{Ask}
use Rattle.rb_show.specs.declared.ask.Question.{Question}
use Rattle.rb_show.specs.declared.ask.Question.TheVariants as questions
use Rattle.rb_plans.specs.declared.course.Course.{Course}
use Rattle.rb_words.specs.declared.plan.Way.{Way}
use Rattle.rb_words.specs.declared.plan.Way.TheVariants as ways
use Rattle.rb_plans.specs.declared.course.Place.{Place}
use Rattle.rb_plans.specs.declared.course.Place.TheVariants as places
use Rattle.rb_plans.specs.declared.course.Aim.{Aim}
use Rattle.rb_plans.specs.declared.course.Aim.TheVariants as aims
use Rattle.rb_plans.specs.declared.course.Answer.{Answer}
use Rattle.rb_plans.specs.declared.course.Answer.TheVariants as answers
use Rattle.rb_plans.specs.declared.course.End.TheVariants as ends
use Rattle.rb_plans.specs.declared.course.Stage.{Stage}
use Rattle.rb_plans.specs.declared.course.Stage.TheVariants.{Find, FindOld, Call, End}
use Rattle.rb_plans.specs.declared.course.Step.{Step}

-- ---- what is asked

-- a local socket is one of a stream, as TCP is
abbrev pub transport_of : Netid → Transport
transport_of netid = unwrap_or (transport_of_netid netid) transports.Tcp

abbrev pub version_of : Aim → ℕ
version_of (aims.Only vers) = vers
version_of aims.Least = 0
version_of aims.Greatest = 4294967295
version_of (aims.Each vers high lacks) = vers

-- what is called for its refusal alone is not shown
abbrev pub call_question : ℕ → Aim → Question
call_question prog (aims.Only vers) = questions.Null prog vers
call_question prog (aims.Each vers high lacks) = questions.Null prog vers
call_question prog aims.Least = questions.Probe prog 0
call_question prog aims.Greatest = questions.Probe prog 4294967295

-- the place of a program, if nothing is asked to find it
abbrev pub place_of : Way → Option Place
place_of (ways.Getport transport) = None
place_of (ways.Getaddr netid) = None
place_of (ways.Port transport port) = Some (places.Port transport port)
place_of (ways.Address netid address) = Some (places.Address (transport_of netid) address)

-- GETPORT with the protocol of the transport, or GETADDR of the netid, over its own transport
-- COURSE-1: GETPORT asks with the protocol of the transport.
abbrev pub find_by : Way → ℕ → Aim → Place × Question
find_by (ways.Getport transport) prog aim = (places.Portmapper transports.Tcp, questions.Port (protocol_of transport) prog (version_of aim))
find_by (ways.Getaddr netid) prog aim = (places.Portmapper (transport_of netid), questions.Address netid prog (version_of aim))
find_by (ways.Port transport port) prog aim = (places.Port transport port, call_question prog aim)
find_by (ways.Address netid address) prog aim = (places.Address (transport_of netid) address, call_question prog aim)

abbrev pub find_of : Course → Aim → Place × Question
find_of course aim = find_by course.way course.prog aim

abbrev pub question_at : Course → Stage → Option (Place × Question)
question_at course (Find aim) = Some (find_of course aim)
question_at course (FindOld aim transport) = Some (places.Portmapper transport, questions.Port (protocol_of transport) course.prog (version_of aim))
question_at course (Call aim place) = Some (place, call_question course.prog aim)
question_at course (End end) = None

abbrev pub by_user : Option ℕ → Place × Question → Place × Ask
by_user uid q = (q.0, record { question = q.1; uid = uid })

-- COURSE-2: Each question of a course has the same credential.
abbrev pub ask_at : Course → Stage → Option (Place × Ask)
ask_at course stage = option_map (by_user course.uid) (question_at course stage)

-- ---- what follows

abbrev pub begin_at : Option Place → Aim → Stage
begin_at (Some place) aim = Call aim place
begin_at None aim = Find aim

-- a version is called if its place is known, and else found first
abbrev pub begin : Course → Aim → Stage
begin course aim = begin_at (place_of course.way) aim

abbrev pub step_to : Stage → Step
step_to stage = record { lacks = None; stage = stage }

-- the version after this one, or the end
-- COURSE-5: Without a version each version is called that the refusal of version 0 names, or, if
-- that answers, the one of version 4294967295, from the least to the greatest.
-- COURSE-9: If one of several versions is not available, that is no success, and the version has a
-- line.
abbrev pub next_stage : Course → ℕ → ℕ → Bool → Stage
next_stage course vers high lacks =
    if nat_lt vers high then begin course (aims.Each (vers + 1) high lacks) else End (if lacks then ends.SomeLack else ends.Ready)

-- COURSE-8: At most 256 versions are called.
abbrev pub most_versions : ℕ
most_versions = 256

-- the first of these versions
abbrev pub step_to_versions : Course → ℕ → ℕ → Step
step_to_versions course low high =
    if nat_lt high low then step_to (End ends.Unreadable)
    else if nat_le most_versions (high - low) then step_to (End ends.TooMany)
    else step_to (begin course (aims.Each low high false))

-- the version is not available: the end, or, of several, the next one
abbrev pub after_lack : Course → Aim → Option ReplyStatus → Step
after_lack course (aims.Only vers) why = step_to (End (ends.NotAvailable vers why))
after_lack course aims.Least why = step_to (End (ends.NoProgram why))
after_lack course aims.Greatest why = step_to (End (ends.NoProgram why))
after_lack course (aims.Each vers high lacks) why = record { lacks = Some vers; stage = next_stage course vers high true }

abbrev pub transport_at : Way → Transport
transport_at (ways.Getport transport) = transport
transport_at (ways.Getaddr netid) = transport_of netid
transport_at (ways.Port transport port) = transport
transport_at (ways.Address netid address) = transport_of netid

-- COURSE-3: A port of 0 says that the version is not available.
abbrev pub after_port : Course → Aim → ℕ → Step
after_port course aim port =
    if port == 0 || nat_le 65536 port then after_lack course aim None
    else step_to (Call aim (places.Port (transport_at course.way) port))

abbrev pub host_in : Uaddr → Host
host_in (uaddrs.V4 octets port) = hosts.V4 octets
host_in (uaddrs.V6 octets port) = hosts.V6 octets

-- 0.0.0.0 and :: stand for every host of the one that tells them, and 127.0.0.0/8 and ::1 for that host itself
-- COURSE-4: An address of every host or of the loopback that a portmapper tells, also one of IPv4
-- in IPv6's form, is a port of the host that was asked.
abbrev pub means_teller : Host → Bool
means_teller host = is_any host || is_loopback host

-- so it is of IPv4 in IPv6's form, as ::ffff:127.0.0.1
-- COURSE-4
abbrev pub is_of_teller : Uaddr → Bool
is_of_teller address = means_teller (plain_host (host_in address))

-- such an address is a port of the host whose portmapper told it
-- COURSE-4
abbrev pub after_address : Course → Aim → Uaddr → Step
after_address course aim address =
    if is_of_teller address then after_port course aim (port_of address)
    else step_to (Call aim (places.Address (transport_at course.way) address))

-- the portmapper refused to say where the version is: the end, or, of several, the next one
-- COURSE-6
abbrev pub refused_find : Course → Aim → ReplyStatus → Step
refused_find course (aims.Each vers high lacks) status = after_lack course (aims.Each vers high lacks) (Some status)
refused_find course aim status = step_to (End (ends.Refused status))

-- FALLBACK-2: If GETADDR is refused by PROG_MISMATCH, GETPORT is asked over the same transport.
abbrev pub after_find_refusal_by : Way → Course → Aim → ReplyStatus → Step
after_find_refusal_by (ways.Getaddr netid) course aim (statuses.ProgMismatch low high) = step_to (FindOld aim (transport_of netid))
after_find_refusal_by way course aim status = refused_find course aim status

abbrev pub after_find_refusal : Course → Aim → ReplyStatus → Step
after_find_refusal course aim status = after_find_refusal_by course.way course aim status

-- it was asked where the version is
abbrev pub after_find : Course → Aim → Answer → Step
after_find course aim (answers.Port port) = after_port course aim port
after_find course aim (answers.Address (Some address)) = after_address course aim address
after_find course aim (answers.Address None) = after_lack course aim None
after_find course aim answers.Ready = step_to (End ends.Unreadable)
after_find course aim (answers.Refused status) = after_find_refusal course aim status

-- the same by GETPORT in place of GETADDR
abbrev pub after_find_old : Course → Aim → Answer → Step
after_find_old course aim (answers.Port port) = after_port course aim port
after_find_old course aim (answers.Address address) = step_to (End ends.Unreadable)
after_find_old course aim answers.Ready = step_to (End ends.Unreadable)
after_find_old course aim (answers.Refused status) = refused_find course aim status

-- procedure 0 answered
abbrev pub after_ready : Course → Aim → Step
after_ready course (aims.Only vers) = step_to (End ends.Ready)
after_ready course aims.Least = step_to (begin course aims.Greatest)
after_ready course aims.Greatest = step_to_versions course 0 4294967295
after_ready course (aims.Each vers high lacks) = step_to (next_stage course vers high lacks)

-- Procedure 0 was refused. The refusal of version 0, or of the greatest one, tells which there are.
abbrev pub after_refusal : Course → Aim → ReplyStatus → Step
after_refusal course aims.Least (statuses.ProgMismatch low high) = step_to_versions course low high
after_refusal course aims.Greatest (statuses.ProgMismatch low high) = step_to_versions course low high
after_refusal course aim status = after_lack course aim (Some status)

abbrev pub after_call : Course → Aim → Answer → Step
after_call course aim answers.Ready = after_ready course aim
after_call course aim (answers.Refused status) = after_refusal course aim status
after_call course aim (answers.Port port) = step_to (End ends.Unreadable)
after_call course aim (answers.Address address) = step_to (End ends.Unreadable)

abbrev pub next : Course → Stage → Answer → Step
next course (Find aim) answer = after_find course aim answer
next course (FindOld aim transport) answer = after_find_old course aim answer
next course (Call aim place) answer = after_call course aim answer
next course (End end) answer = step_to (End end)

-- ---- without an answer

-- the next of several versions; none for any other aim
abbrev pub lack_of_several : Course → Aim → Option Step
lack_of_several course (aims.Each vers high lacks) = Some (after_lack course (aims.Each vers high lacks) None)
lack_of_several course aim = None

-- A question had no answer, or none that can be read: of several versions this one is not available, else the course ends.
-- COURSE-6: A version of several that isn't answered, or whose place isn't told, is not available,
-- and the next one follows.
abbrev pub unanswered : Course → Stage → Option Step
unanswered course (Find aim) = lack_of_several course aim
unanswered course (FindOld aim transport) = lack_of_several course aim
unanswered course (Call aim place) = lack_of_several course aim
unanswered course (End end) = None
