-- What a text of kept rows says: the rows of its lines.
use Rattle.std.specs.Prelude.{◌≡◌, ℕ, ◌+◌, ◌==◌, nat_lt, Bool, false, not, ◌&&◌, if◌then◌else◌, List, [], ◌∷◌, ◌++◌, length, drop, filter, bytes_eq, Option, Some, None, Result, Ok, Err, true}
use Rattle.std.specs.Global.{Vec}
use Rattle.rb_address.specs.declared.who.Source.{Source}
use Rattle.rb_address.specs.declared.who.Source.TheVariants as sources
use Rattle.rb_address.specs.declared.who.Trust.{Trust}
use Rattle.rb_address.specs.declared.who.Trust.TheVariants as trusts
use Rattle.rb_address.specs.declared.who.Owner.{Owner}
use Rattle.rb_address.specs.declared.who.Who.{Who}
use Rattle.rb_address.specs.declared.host.Host.TheVariants.{V4}
use Rattle.rb_address.specs.Hosts.{is_same_host}
use Rattle.rb_address.specs.Callers.{unknown_host}
use Rattle.rb_rpc.specs.Verdict.{verdict}
use Rattle.rb_rpc.specs.declared.call.Verdict.{Verdict}
use Rattle.rb_rpc.specs.declared.call.Verdict.TheVariants as verdicts
use Rattle.rb_registry.specs.declared.row.Row.{Row}
use Rattle.rb_registry.specs.Rows.{is_of_key}
use Rattle.rb_arguments.specs.declared.request.Request.{Request}
use Rattle.rb_arguments.specs.declared.request.ArgumentFault.{ArgumentFault}
use Rattle.rb_arguments.specs.Arguments.{read_request}
use Rattle.rb_arguments.specs.declared.request.Request.TheVariants as requests
use Rattle.rb_arguments.specs.declared.procedure.RpcbProcedure.TheVariants as rpcbs
use Rattle.rb_answers.specs.Callers.{owner_named}
use Rattle.rb_answers.specs.Answers.{row_of_rpcb}
use Rattle.rb_model.specs.Step.{Event}
use Rattle.rb_model.specs.Step.Event.{Datagram}
use Rattle.rb_address.specs.Callers.{is_same_owner}
use Rattle.rb_model.specs.ChangeLaws.{set_bytes}
use Rattle.rb_lines.specs.Lines.{Line, line, lines_of, longest_input}
use Rattle.rb_lines.specs.Lines.Line.{Skipped as SaysNothing, Happens, Bad as SaysNoEvent}
use Rattle.rb_keep.specs.declared.reading.KeptLine.{KeptLine}
use Rattle.rb_keep.specs.declared.reading.KeptLine.TheVariants.{Skipped, Keeps, Removes, NotKept, Bad}
use Rattle.rb_keep.specs.declared.fault.KeepFault.{KeepFault}
use Rattle.rb_keep.specs.declared.fault.KeepFault.TheVariants as faults
use Rattle.rb_keep.specs.Kept.{unset_bytes}

-- ---- the row that an event sets again or removes

-- port 0 of 127.0.0.1
abbrev pub is_here : Source → Bool
is_here (sources.Inet peer) = is_same_host peer.host (V4 (127 ∷ 0 ∷ 0 ∷ 1 ∷ [])) && peer.port == 0
is_here sources.Local = false

abbrev pub only_claims : Trust → Bool
only_claims trusts.Claims = true
only_claims (trusts.Local owner) = false
only_claims trusts.Stranger = false

-- it is the caller from there that claims who it is, at a host that is not known
unfoldable pub is_this_machine : Who → Bool
is_this_machine who = is_here who.source && is_same_host who.asked unknown_host && only_claims who.trust

abbrev pub row_of_request : Owner → Request → Option Row
row_of_request owner (requests.Rpcb rpcbs.Set r) = row_of_rpcb owner r
row_of_request owner (requests.Rpcb rpcbs.Unset r) = row_of_rpcb owner r
row_of_request owner _ = None

abbrev pub row_of_reading : Owner → Result Request ArgumentFault → Option Row
row_of_reading owner (Ok request) = row_of_request owner request
row_of_reading owner (Err fault) = None

-- the row that a call is about, if it is read as one of this procedure of version 4: 1 is SET, and 2 is UNSET
abbrev pub row_by_verdict : ℕ → List ℕ → Verdict → Option Row
row_by_verdict proc bytes (verdicts.Call head used) = row_of_reading (owner_named head.cred) (read_request 4 proc (drop used bytes))
row_by_verdict proc bytes _ = None

unfoldable pub row_asked : ℕ → List ℕ → Option Row
row_asked proc bytes = row_by_verdict proc bytes (verdict bytes)

-- the row, if these bytes are those that set it
abbrev pub row_set_by : List ℕ → Option Row → Option Row
row_set_by bytes None = None
row_set_by bytes (Some row) = if bytes_eq (set_bytes row) bytes then Some row else None

unfoldable pub row_set : List ℕ → Option Row
row_set bytes = row_set_by bytes (row_asked 1 bytes)

-- the row, if these bytes are those that remove it
abbrev pub row_unset_by : List ℕ → Option Row → Option Row
row_unset_by bytes None = None
row_unset_by bytes (Some row) = if bytes_eq (unset_bytes row) bytes then Some row else None

unfoldable pub row_unset : List ℕ → Option Row
row_unset bytes = row_unset_by bytes (row_asked 2 bytes)

unfoldable pub kept_row : Event → Option Row
kept_row (Datagram now who bytes) = if is_this_machine who then row_set bytes else None
kept_row other = None

unfoldable pub gone_row : Event → Option Row
gone_row (Datagram now who bytes) = if is_this_machine who then row_unset bytes else None
gone_row other = None

-- ---- lines

-- by the row that an event sets again, and else by that which it removes
abbrev pub keeps_or_not : Option Row → Option Row → KeptLine
keeps_or_not (Some row) _ = Keeps row
keeps_or_not None (Some row) = Removes row
keeps_or_not None None = NotKept

abbrev pub kept_by : Line → KeptLine
kept_by SaysNothing = Skipped
kept_by SaysNoEvent = Bad
kept_by (Happens event) = keeps_or_not (kept_row event) (gone_row event)

-- KEEP-4: A line that says something must be the event that sets some row again, or that removes it
-- alone, at any moment; the first that is not is named by its number from 1, as no event line or as
-- another one.
unfoldable pub kept_line : List ℕ → KeptLine
kept_line text = kept_by (line text)

-- the row has the program, the version, the netid and the owner of the row that went
abbrev pub is_named : Row → Row → Bool
is_named gone row = is_of_key row gone && is_same_owner gone.owner row.owner

-- the rows but for that one
unfoldable pub without : Row → List Row → List Row
without gone rows = filter (λ row. not (is_named gone row)) rows

-- as many rows as a daemon may have
abbrev pub most_rows : ℕ
most_rows = 4096

-- the rows so far, with what the line of this number keeps after them, and without what it removes
-- KEEP-6: The line of a row after 4,096 others is named; a text of more than 16,777,216 bytes is
-- too long.
abbrev pub with_line : ℕ → List Row → KeptLine → Result (List Row) KeepFault
with_line k rows Skipped = Ok rows
with_line k rows Bad = Err (faults.BadLine k)
with_line k rows NotKept = Err (faults.NotKept k)
with_line k rows (Removes row) = Ok (without row rows)
with_line k rows (Keeps row) = if nat_lt (length rows) most_rows then Ok (rows ++ row ∷ []) else Err (faults.TooMany k)

-- the same of the line with this text
abbrev pub with_text : ℕ → List Row → List ℕ → Result (List Row) KeepFault
with_text k rows text = with_line k rows (kept_line text)

-- the rows so far, changed by the lines one after another, the first of which has this number; or the first fault
-- KEEP-5: A text is read line by line: a line that sets a row adds it, and one that removes a row takes
-- it out. Empty lines and lines that begin with `#` are skipped and count.
unfoldable pub rows_from : ℕ → List (List ℕ) → Result (List Row) KeepFault → Result (List Row) KeepFault
rows_from k texts (Err fault) = Err fault
rows_from k [] (Ok rows) = Ok rows
rows_from k (text ∷ texts) (Ok rows) = rows_from (k + 1) texts (with_text k rows text)

-- this byte and the part of those behind it that is up to their last line feed
abbrev pub up_to_feed : ℕ → List ℕ → List ℕ
up_to_feed byte [] = if byte == 10 then byte ∷ [] else []
up_to_feed byte (first ∷ more) = byte ∷ first ∷ more

-- a text up to its last line feed
unfoldable pub whole_part : List ℕ → List ℕ
whole_part [] = []
whole_part (byte ∷ text) = up_to_feed byte (whole_part text)

-- the rows of a text
-- KEEP-6
-- KEEP-13: What stands behind the last line feed of a text is not read: it was not written whole.
unfoldable pub read : List ℕ → Result (List Row) KeepFault
read text = if nat_lt longest_input (length text) then Err faults.TooLong else rows_from 1 (lines_of (whole_part text)) (Ok [])

-- ---- as the code has them

-- What a function returned is this, unless memory ran out.
abbrev pub Gives : {X : Type 0} → Result X KeepFault → Result X KeepFault → Type 0
Gives (Ok x) given = given ≡ Ok x
Gives (Err faults.NoMemory) given = Unit {0}
Gives (Err fault) given = given ≡ Err fault

-- the rows that were returned
abbrev pub result_items : Result (Vec Row) KeepFault → Result (List Row) KeepFault
result_items (Ok rows) = Ok rows.items
result_items (Err fault) = Err fault

-- the rows after a call, or the fault that it returned
abbrev pub after_line : Result (Unit {0}) KeepFault → List Row → Result (List Row) KeepFault
after_line (Ok u) rows = Ok rows
after_line (Err fault) rows = Err fault
