-- Forwarded calls: what a target is asked, what counts as its reply, and how an entry ends (RFC 1833 sections 2.2.1 and 3.2).
use Rattle.std.specs.Prelude.{ℕ, ◌+◌, ◌-◌, ◌%◌, ◌^◌, ◌==◌, nat_le, nat_lt, min, not, Bool, true, false, ◌&&◌, if◌then◌else◌, List, [], ◌∷◌, ◌++◌, length, find, Option, Some, None, bytes_eq}
use Rattle.std.specs.List.{list_any, sum_by}
use Rattle.std.specs.Option.{option_map}
use Rattle.rb_xdr.specs.Xdr.{word}
use Rattle.rb_rpc.specs.CallBytes.{call_bytes}
use Rattle.rb_rpc.specs.ReadReplies.{read_reply}
use Rattle.rb_rpc.specs.declared.call.CallHead.{CallHead}
use Rattle.rb_rpc.specs.declared.reply.ReplyStatus.{ReplyStatus}
use Rattle.rb_rpc.specs.declared.reply.ReplyHead.{ReplyHead}
use Rattle.rb_rpc.specs.declared.call.Credential.TheVariants as credentials
use Rattle.rb_address.specs.declared.peer.Peer.{Peer}
use Rattle.rb_address.specs.Hosts.{is_same_host}
use Rattle.rb_address.specs.declared.caller.Caller.{Caller}
use Rattle.rb_address.specs.declared.caller.Caller.TheVariants.{Tcp, Udp}
use Rattle.rb_rpc.specs.declared.reply.ReplyStatus.TheVariants as replies
use Rattle.rb_forward.specs.declared.types.Forward.{Forward}
use Rattle.rb_forward.specs.declared.types.ForwardEnd.{ForwardEnd}
use Rattle.rb_forward.specs.declared.types.ForwardEnd.TheVariants.{Passed, Refused, Failed, Dropped}
use Rattle.rb_forward.specs.declared.types.Ended.{Ended}
use Rattle.rb_forward.specs.declared.types.FwdId.{FwdId}

-- A call that was forwarded: what is asked of whom and for whom, the content of its arguments, the moment at which it ends
-- at the latest, and whether it was sent.
pub record Entry : Type 0 where
  pub number : ℕ
  pub forward : Forward
  pub args : List ℕ
  pub deadline : ℕ
  pub sent : Bool

-- the entries in the order of their calls, and the number of the next one
pub record Forwards : Type 0 where
  pub next : ℕ
  pub all : List Entry

abbrev pub no_forwards : Forwards
no_forwards = record { next = 1; all = [] }

-- ---- what a target is asked

-- XID-1: The xid of the call of entry k, from 1 upwards, is the first xid and k - 1, modulo 2^32.
unfoldable pub xid_of : ℕ → ℕ → ℕ
xid_of first_xid number = (first_xid + number - 1) % 2 ^ 32

abbrev pub head_of : ℕ → ℕ → Forward → CallHead
head_of first_xid number asked =
    record { xid = xid_of first_xid number; prog = asked.prog; vers = asked.vers; proc = asked.proc; cred = credentials.None }

-- FORWARD-7: What is sent is a call with AUTH_NONE, and the content of args after it.
unfoldable pub question : ℕ → Entry → List ℕ
question first_xid e = call_bytes (head_of first_xid e.number e.forward) ++ e.args

-- ---- what a target says

-- the most bytes of results that pass: the limit of res and of results
-- FORWARD-4
unfoldable pub longest_results : ℕ
longest_results = 8800

-- What the reply says that has this many bytes after its head, which ends at this place. A refusal of the call itself stands.
abbrev pub outcome_said : ReplyStatus → ℕ → ℕ → ForwardEnd
outcome_said replies.Success place rest = if nat_le rest longest_results then Passed place else Failed
outcome_said (replies.RpcMismatch low high) place rest = Failed
outcome_said (replies.AuthError stat) place rest = Failed
outcome_said replies.ProgUnavail place rest = Refused replies.ProgUnavail
outcome_said (replies.ProgMismatch low high) place rest = Refused (replies.ProgMismatch low high)
outcome_said replies.ProcUnavail place rest = Refused replies.ProcUnavail
outcome_said replies.GarbageArgs place rest = Refused replies.GarbageArgs
outcome_said replies.SystemErr place rest = Refused replies.SystemErr

abbrev pub outcome_read : ℕ → Option (ReplyHead × ℕ) → ForwardEnd
outcome_read count None = Failed
outcome_read count (Some (head, place)) = outcome_said head.status place (count - place)

-- FORWARD-4: Results of up to 8,800 bytes pass; PROG_UNAVAIL, PROG_MISMATCH with its versions,
-- PROC_UNAVAIL, GARBAGE_ARGS and SYSTEM_ERR are passed on; a denial and any other reply is a
-- failure.
unfoldable pub outcome_of : List ℕ → ForwardEnd
outcome_of message = outcome_read (length message) (read_reply message)

-- ---- which entry ends

unfoldable pub is_same_peer : Peer → Peer → Bool
is_same_peer a b = is_same_host a.host b.host && a.port == b.port

-- FORWARD-1: A datagram ends the sent entry of least number that has its xid, host and port, before
-- the entry's deadline; every other datagram is ignored.
unfoldable pub is_answered : ℕ → ℕ → Peer → ℕ → Entry → Bool
is_answered first_xid clock from xid e =
    e.sent && is_same_peer e.forward.target from && xid_of first_xid e.number == xid && nat_lt clock e.deadline

-- the datagram is a reply to this entry
abbrev pub counts_for : ℕ → ℕ → Peer → List ℕ → Entry → Bool
counts_for first_xid clock from message e =
    nat_le 4 (length message) && is_answered first_xid clock from (word 0 message) e

abbrev pub is_due : ℕ → Entry → Bool
is_due clock e = nat_le e.deadline clock

abbrev pub is_connection : ℕ → Caller → Bool
is_connection id (Tcp number who) = number == id
is_connection id (Udp who longest) = false

abbrev pub is_of_connection : ℕ → Entry → Bool
is_of_connection id e = is_connection id e.forward.caller

-- ---- how it ends

-- the values without the first that passes a test
abbrev pub without_first : {A : Type 0} → (A → Bool) → List A → List A
without_first test [] = []
without_first test (x ∷ xs) = if test x then xs else x ∷ without_first test xs

-- the number of an entry, as it is told
abbrev pub id_of : Entry → FwdId
id_of e = record { number = e.number }

abbrev pub ended_by : ForwardEnd → Entry → Ended
ended_by outcome e = record { id = id_of e; forward = e.forward; outcome = outcome }

-- The first entry that passes the test, if there is one, ends so, and is there no longer.
abbrev pub with_end : (Entry → Bool) → ForwardEnd → Forwards → Option Ended × Forwards
with_end test outcome f =
    (option_map (ended_by outcome) (find test f.all), record f { all = without_first test f.all })

-- a datagram comes in: the sent entry of least number to which it is a reply ends
unfoldable pub reply : ℕ → ℕ → Peer → List ℕ → Forwards → Option Ended × Forwards
reply first_xid clock from message f = with_end (counts_for first_xid clock from message) (outcome_of message) f

-- the entry of least number whose deadline has come ends
unfoldable pub due : ℕ → Forwards → Option Ended × Forwards
due clock f = with_end (is_due clock) Failed f

-- the entry of a connection that is closed ends
unfoldable pub drop_caller : ℕ → Forwards → Option Ended × Forwards
drop_caller id f = with_end (is_of_connection id) Dropped f

-- ---- how it begins

-- the greatest moment, and the greatest number of an entry
abbrev pub greatest_number : ℕ
greatest_number = 2 ^ 64 - 1

-- a target's time to answer, in milliseconds
-- FORWARD-3: An entry waits for 5,000 ms.
abbrev pub patience : ℕ
patience = 5000

-- a moment this many milliseconds after that one
unfoldable pub later : ℕ → ℕ → ℕ
later moment wait = min (moment + wait) greatest_number

-- there is a place and a number for one more entry
unfoldable pub can_start : ℕ → Forwards → Bool
can_start cap f = nat_lt (length f.all) cap && nat_le f.next greatest_number

unfoldable pub next_entry : ℕ → Forward → List ℕ → Forwards → Entry
next_entry clock forward args f =
    record { number = f.next; forward = forward; args = args; deadline = later clock patience; sent = false }

unfoldable pub with_next_entry : ℕ → Forward → List ℕ → Forwards → Forwards
with_next_entry clock forward args f = record { next = f.next + 1; all = f.all ++ next_entry clock forward args f ∷ [] }

-- ---- how it is sent

pub record Unsent : Type 0 where
  pub number : ℕ
  pub target : Peer
  pub call : List ℕ

abbrev pub unsent_call : ℕ → Entry → Unsent
unsent_call first_xid e = record { number = e.number; target = e.forward.target; call = question first_xid e }

-- FORWARD-6: Unsent calls are lent in the order of their numbers, whether or not their deadlines
-- have come.
unfoldable pub unsent : ℕ → Forwards → Option Unsent
unsent first_xid f = option_map (unsent_call first_xid) (find (λ e. not e.sent) f.all)

abbrev pub is_unsent : ℕ → Entry → Bool
is_unsent number e = e.number == number && not e.sent

-- the values, with the first changed that passes a test
abbrev pub change_first : {A : Type 0} → (A → Bool) → (A → A) → List A → List A
change_first test change [] = []
change_first test change (x ∷ xs) = if test x then change x ∷ xs else x ∷ change_first test change xs

abbrev pub as_sent : Entry → Entry
as_sent e = record e { sent = true }

-- it is known, and was not sent
-- FORWARD-5: A call is sent once.
unfoldable pub can_be_sent : ℕ → Forwards → Bool
can_be_sent number f = list_any (is_unsent number) f.all

unfoldable pub sent : ℕ → Forwards → Forwards
sent number f = record f { all = change_first (is_unsent number) as_sent f.all }

-- ---- what is held

-- nothing of a call is held once it was sent
unfoldable pub held_call : ℕ → Entry → List ℕ
held_call first_xid e = if e.sent then [] else question first_xid e

-- what the fixed part of an entry counts as, in bytes
abbrev pub entry_charge : ℕ
entry_charge = 128

-- its fixed part, and the bytes of its call until it is sent
abbrev pub held : ℕ → Forwards → ℕ
held first_xid f = sum_by (λ e. entry_charge + length (held_call first_xid e)) f.all
