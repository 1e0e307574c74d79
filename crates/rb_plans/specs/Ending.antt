-- How the command ends: its status, and the lines that say what is wrong.
use Rattle.std.specs.Prelude.{◌≡◌, ℕ, Bool, true, false, if◌then◌else◌, List, [], ◌++◌, codes, Option, Some, None, Result, Ok, Err}
use Rattle.std.specs.Fmt.{decimal}
use Rattle.std.specs.Io.KnownBytes.{Appends}
use Rattle.std.specs.Net.Text.{ip_text}
use Rattle.std.specs.declared.net.ip_addr.IpAddr.{IpAddr}
use Rattle.rb_address.specs.declared.host.Family.{Family}
use Rattle.rb_address.specs.declared.host.Family.TheVariants.{Inet, Inet6}
use Rattle.rb_rpc.specs.declared.auth.AuthStat.{AuthStat}
use Rattle.rb_rpc.specs.declared.auth.AuthStat.TheVariants as stats
use Rattle.rb_rpc.specs.declared.reply.ReplyStatus.{ReplyStatus}
use Rattle.rb_rpc.specs.declared.reply.ReplyStatus.TheVariants as statuses
use Rattle.rb_show.specs.declared.fault.InfoFault.{InfoFault}
use Rattle.rb_show.specs.declared.fault.InfoFault.TheVariants.{Read, Write, Unreadable, CutOff, TooLong, Refused, TooMany, Memory}
use Rattle.rb_show.specs.declared.show.Shown.{Shown}
use Rattle.rb_show.specs.declared.show.Shown.TheVariants.{Rows, Statistics, Port, Address, Null, Removed}
use Rattle.rb_plans.specs.declared.ending.Ending.{Ending}
use Rattle.rb_plans.specs.declared.ending.Notices.{Notices}
use Rattle.rb_plans.specs.declared.fault.Fault.{Fault}
use Rattle.rb_plans.specs.declared.fault.Fault.TheVariants.{Info, NoConnection, NoSocket, NoReply, NoHost, NoAddress, NotAvailable, NoProgram, TooManyVersions, TooManyRoutes, SomeLack}

-- ---- the lines of a fault

abbrev pub info_text : InfoFault → List ℕ
info_text Read = codes "read failed"
info_text Write = codes "write failed"
info_text Unreadable = codes "unreadable reply"
info_text CutOff = codes "unreadable reply"
info_text TooLong = codes "read failed"
info_text (Refused head) = codes "refused"
info_text TooMany = codes "too many rows"
info_text Memory = codes "no memory"

-- after the command's name
abbrev pub own_line : List ℕ → List ℕ
own_line text = codes "rpcinfo: " ++ (text ++ codes "\n")

abbrev pub family_text : Family → List ℕ
family_text Inet = codes "IPv4"
family_text Inet6 = codes "IPv6"

-- the first line; if versions had their own lines, there is none
-- COURSE-11
abbrev pub fault_line : Fault → List ℕ
fault_line (Info fault) = own_line (info_text fault)
fault_line NoConnection = codes "rpcinfo: no connection\n"
fault_line NoSocket = codes "rpcinfo: nobody listens on the socket\n"
fault_line NoReply = codes "rpcinfo: no reply\n"
fault_line NoHost = codes "rpcinfo: no such host\n"
fault_line (NoAddress family) = codes "rpcinfo: the host has no " ++ (family_text family ++ codes " address\n")
fault_line TooManyVersions = codes "rpcinfo: too many versions\n"
fault_line TooManyRoutes = codes "rpcinfo: too many routes\n"
fault_line (NotAvailable prog vers why) =
    codes "rpcinfo: program " ++ (decimal prog ++ (codes " version " ++ (decimal vers ++ codes " not available\n")))
fault_line (NoProgram prog why) = codes "rpcinfo: program " ++ (decimal prog ++ codes " not available\n")
fault_line SomeLack = []

-- RFC 5531 section 9, auth_stat
abbrev pub auth_text : AuthStat → List ℕ
auth_text stats.Success = codes "AUTH_OK"
auth_text stats.BadCredential = codes "AUTH_BADCRED"
auth_text stats.RejectedCredential = codes "AUTH_REJECTEDCRED"
auth_text stats.BadVerifier = codes "AUTH_BADVERF"
auth_text stats.RejectedVerifier = codes "AUTH_REJECTEDVERF"
auth_text stats.TooWeak = codes "AUTH_TOOWEAK"
auth_text stats.InvalidResponse = codes "AUTH_INVALIDRESP"
auth_text stats.Failed = codes "AUTH_FAILED"
auth_text stats.Kerberos = codes "AUTH_KERB_GENERIC"
auth_text stats.TimeExpired = codes "AUTH_TIMEEXPIRE"
auth_text stats.TicketFile = codes "AUTH_TKT_FILE"
auth_text stats.Decode = codes "AUTH_DECODE"
auth_text stats.NetAddress = codes "AUTH_NET_ADDR"
auth_text stats.GssCredential = codes "RPCSEC_GSS_CREDPROBLEM"
auth_text stats.GssContext = codes "RPCSEC_GSS_CTXPROBLEM"

abbrev pub server_line : List ℕ → List ℕ
server_line text = codes "rpcinfo: the server " ++ (text ++ codes "\n")

abbrev pub versions_line : ℕ → ℕ → List ℕ → List ℕ
versions_line low high of = codes "rpcinfo: the server has versions " ++ (decimal low ++ (codes " to " ++ (decimal high ++ (codes " of " ++ (of ++ codes "\n")))))

abbrev pub auth_line : AuthStat → List ℕ
auth_line stat = codes "rpcinfo: the server refuses the caller: " ++ (auth_text stat ++ codes "\n")

-- what a refusal says
abbrev pub status_line : ReplyStatus → List ℕ
status_line statuses.Success = []
status_line statuses.ProgUnavail = server_line (codes "has no such program")
status_line (statuses.ProgMismatch low high) = versions_line low high (codes "the program")
status_line statuses.ProcUnavail = server_line (codes "has no such procedure")
status_line statuses.GarbageArgs = server_line (codes "can't read the arguments")
status_line statuses.SystemErr = server_line (codes "failed")
status_line (statuses.RpcMismatch low high) = versions_line low high (codes "RPC")
status_line (statuses.AuthError stat) = auth_line stat

-- the refusal that a fault tells of
abbrev pub status_in : Fault → Option ReplyStatus
status_in (Info (Refused head)) = Some head.status
status_in (Info Read) = None
status_in (Info Write) = None
status_in (Info Unreadable) = None
status_in (Info CutOff) = None
status_in (Info TooLong) = None
status_in (Info TooMany) = None
status_in (Info Memory) = None
status_in NoConnection = None
status_in NoSocket = None
status_in NoReply = None
status_in NoHost = None
status_in (NoAddress family) = None
status_in TooManyVersions = None
status_in TooManyRoutes = None
status_in (NotAvailable prog vers why) = why
status_in (NoProgram prog why) = why
status_in SomeLack = None

abbrev pub line_of : Option ReplyStatus → List ℕ
line_of (Some status) = status_line status
line_of None = []

abbrev pub detail_line : Fault → List ℕ
detail_line fault = line_of (status_in fault)

-- STATUS-4: The line of a refusal is followed by one with what the refusal says.
-- STATUS-1
abbrev pub fault_lines : Fault → List ℕ
fault_lines fault = fault_line fault ++ detail_line fault

-- STATUS-3: A word that is no text has its line, and the status 2.
abbrev pub text_line : List ℕ
text_line = codes "rpcinfo: a word is no text\n"

-- ---- the end by an answer

-- STATUS-2: An UNSET that removed nothing ends the command with status 1.
abbrev pub shown_status : Shown → ℕ
shown_status (Rows n) = 0
shown_status (Statistics n) = 0
shown_status (Port port) = 0
shown_status (Address address) = 0
shown_status Null = 0
shown_status (Removed true) = 0
shown_status (Removed false) = 1

abbrev pub no_row_line : Shown → List ℕ
no_row_line (Rows n) = []
no_row_line (Statistics n) = []
no_row_line (Port port) = []
no_row_line (Address address) = []
no_row_line Null = []
no_row_line (Removed true) = []
no_row_line (Removed false) = codes "rpcinfo: there is no such row, or it is another user's\n"

-- STATUS-1: A fault ends the command with status 1 and the fault's lines.
abbrev pub status_of : Result Shown Fault → ℕ
status_of (Ok shown) = shown_status shown
status_of (Err fault) = 1

-- what is said of it to the fault output
abbrev pub answer_lines : Result Shown Fault → List ℕ
answer_lines (Ok shown) = no_row_line shown
answer_lines (Err fault) = fault_lines fault

-- the address that answered, if the host has several
abbrev pub answered_line : Option IpAddr → List ℕ
answered_line (Some address) = codes "rpcinfo: " ++ (ip_text address ++ codes " answered\n")
answered_line None = []

-- a question of version 3 was asked again by version 2
abbrev pub old_line : Bool → List ℕ
old_line is_old = if is_old then codes "rpcinfo: asked by version 2\n" else []

abbrev pub notice_lines : Notices → List ℕ
notice_lines notices = answered_line notices.answered ++ old_line notices.is_old

-- if it was written whole, it is this
abbrev pub SaysWhere : {E : Type 0} → (E → Option (List ℕ)) → E → E → Bool → List ℕ → Type 0
SaysWhere contents faults faults' is_told text = is_told ≡ true → Appends (contents faults) (contents faults') text

abbrev pub Says : {E : Type 0} → (E → Option (List ℕ)) → E → E → Ending → List ℕ → Type 0
Says contents faults faults' ending text = SaysWhere contents faults faults' ending.is_told text

-- the command ends by this answer
pub record EndsBy {E : Type 0} (contents : E → Option (List ℕ)) (faults faults' : E) (ending : Ending) (answer : Result Shown Fault) (notices : Notices) : Type 0 where
  pub status : ending.status ≡ status_of answer
  pub said : Says contents faults faults' ending (notice_lines notices ++ answer_lines answer)

-- nothing needs to be noticed
pub record IsNothing (notices : Notices) : Type 0 where
  pub answered : notices.answered ≡ None
  pub old : notices.is_old ≡ false
