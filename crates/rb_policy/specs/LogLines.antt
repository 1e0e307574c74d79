-- The lines of a log.
use Rattle.std.specs.Prelude.{ℕ, nat_le, ◌&&◌, Bool, true, false, if◌then◌else◌, List, [], ◌∷◌, ◌++◌, map, take, decimal, codes, Option, Some, None}
use Rattle.rb_address.specs.declared.who.Owner.{Owner}
use Rattle.rb_address.specs.declared.who.Trust.{Trust}
use Rattle.rb_address.specs.declared.who.Trust.TheVariants as trusts
use Rattle.rb_address.specs.declared.who.Who.{Who}
use Rattle.rb_address.specs.Callers.{owner_text as text_of_owner, source_text}
use Rattle.rb_address.specs.Peers.{bare_host_text}
use Rattle.rb_rpc.specs.declared.reply.ReplyStatus.{ReplyStatus}
use Rattle.rb_rpc.specs.declared.reply.ReplyStatus.TheVariants.{Success, ProgUnavail, ProgMismatch, ProcUnavail, GarbageArgs, SystemErr, RpcMismatch, AuthError}
use Rattle.rb_registry.specs.declared.reasons.Refusal.{Refusal}
use Rattle.rb_registry.specs.declared.reasons.Refusal.TheVariants.{MayNotRegister, OwnProgram, NoAddress, Reserved, NoPlace, Taken, NothingToRemove}
use Rattle.rb_policy.specs.declared.caller_rate.LogCaller.{LogCaller}
use Rattle.rb_policy.specs.declared.caller_rate.LogCaller.TheVariants as callers
use Rattle.rb_policy.specs.declared.log_lines.LogKind.{LogKind}
use Rattle.rb_policy.specs.declared.log_lines.LogKind.TheVariants.{Accepted, Refused, Calls, GivenUp}
use Rattle.rb_policy.specs.declared.log_lines.ChangeLine.{ChangeLine}
use Rattle.rb_policy.specs.declared.log_lines.LogLine.{LogLine}
use Rattle.rb_policy.specs.declared.log_lines.LogLine.TheVariants as lines

-- ---- texts that callers sent

-- LOG-2: What a caller sent is shown in the log with `?` for each byte that is no printable
-- character of ASCII, or a space: it begins no line, and has no escape.
abbrev pub shown_byte : ℕ → ℕ
shown_byte b = if nat_le 33 b && nat_le b 126 then b else 63

-- the most bytes of a text that are shown
abbrev pub most_shown : ℕ
most_shown = 128

-- the first bytes of it; an empty text is shown as `-`
-- LOG-2
abbrev pub shown_text : List ℕ → List ℕ
shown_text [] = codes "-"
shown_text (b ∷ text) = map shown_byte (take most_shown (b ∷ text))

-- ---- words

abbrev pub owner_text : Owner → List ℕ
owner_text owner = text_of_owner owner

abbrev pub stranger_text : Trust → List ℕ
stranger_text trusts.Claims = []
stranger_text (trusts.Local owner) = []
stranger_text trusts.Stranger = codes " (stranger)"

abbrev pub caller_text : Who → List ℕ
caller_text who = source_text who.source ++ stranger_text who.trust

abbrev pub status_text : ReplyStatus → List ℕ
status_text Success = codes "success"
status_text ProgUnavail = codes "program unavailable"
status_text (ProgMismatch low high) = codes "version unavailable"
status_text ProcUnavail = codes "procedure unavailable"
status_text GarbageArgs = codes "garbage arguments"
status_text SystemErr = codes "system error"
status_text (RpcMismatch low high) = codes "version of RPC unavailable"
status_text (AuthError stat) = codes "credential refused"

abbrev pub changes_text : Bool → List ℕ
changes_text true = codes "SET"
changes_text false = codes "UNSET"

abbrev pub end_text : Option Refusal → List ℕ
end_text None = codes "accepted"
end_text (Some MayNotRegister) = codes "refused: may not register"
end_text (Some OwnProgram) = codes "refused: own program"
end_text (Some NoAddress) = codes "refused: no address"
end_text (Some Reserved) = codes "refused: reserved"
end_text (Some NoPlace) = codes "refused: no place"
end_text (Some Taken) = codes "refused: taken"
end_text (Some NothingToRemove) = codes "refused: nothing to remove"

abbrev pub kind_text : LogKind → List ℕ
kind_text Accepted = codes "accepted changes"
kind_text Refused = codes "refused changes"
kind_text Calls = codes "refused calls"
kind_text GivenUp = codes "connections given up"

-- whose lines were left out, if that is known of one
-- LOG-5
abbrev pub whose_part : Option LogCaller → List ℕ
whose_part None = []
whose_part (Some (callers.Owner owner)) = codes " of " ++ owner_text owner
whose_part (Some (callers.Host host)) = codes " by " ++ bare_host_text host

-- ---- lines

-- the address of a SET
abbrev pub address_part : Bool → List ℕ → List ℕ
address_part true addr = codes " " ++ shown_text addr
address_part false addr = []

-- The program, the version and the netid, and the address of a SET. Of a SET of version 2 the netid is `-` if its
-- protocol is none, and the address if its port is none; of an UNSET of version 2 the netid is `-`.
abbrev pub row_part : ChangeLine → List ℕ
row_part line =
    decimal line.prog ++ codes " " ++ decimal line.vers ++ codes " " ++ shown_text line.netid.now
    ++ address_part line.adds line.addr.now

-- LOG-3: A line of the log says what a SET or an UNSET is about, as whom the caller registers, from where it called and
-- whether it was accepted, or why not; or of a refused call from where and why; or whose connection was given up; or how many lines of a
-- kind were left out, and of whom.
abbrev pub change_line : ChangeLine → List ℕ
change_line line =
    codes "rpcbind: " ++ changes_text line.adds ++ codes " " ++ row_part line
    ++ codes " of " ++ owner_text line.owner ++ codes " by " ++ caller_text line.who ++ codes ": " ++ end_text line.refusal

-- LOG-3
abbrev pub log_line : LogLine → List ℕ
log_line (lines.Change change) = change_line change
log_line (lines.RefusedCall who status) = codes "rpcbind: call by " ++ caller_text who ++ codes " refused: " ++ status_text status
log_line (lines.GivenUp source) = codes "rpcbind: connection of " ++ source_text source ++ codes " given up"
log_line (lines.More left_out kind) =
    codes "rpcbind: " ++ decimal left_out.count ++ codes " more " ++ kind_text kind ++ whose_part left_out.caller
