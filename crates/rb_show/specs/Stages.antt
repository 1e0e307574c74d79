-- What is told of a reply from each stage on.
use Rattle.std.specs.Prelude.{◌≡◌, ◌==◌, ℕ, if◌then◌else◌, List, [], ◌∷◌, length, Option, Some, None, Result, Ok, Err, Bool, true, false}
use Rattle.std.specs.Global.{Vec}
use Rattle.rb_xdr.specs.Xdr.{Reader}
use Rattle.rb_rpc.specs.declared.reply.ReplyHead.{ReplyHead}
use Rattle.rb_arguments.specs.declared.mapping.Mapping.{Mapping}
use Rattle.rb_arguments.specs.declared.rpcb.Rpcb.{Rpcb}
use Rattle.rb_arguments.specs.Types.{read_mapping, read_rpcb, read_entry}
use Rattle.rb_show.specs.declared.fault.InfoFault.{InfoFault}
use Rattle.rb_show.specs.declared.fault.InfoFault.TheVariants.{Unreadable, Refused}
use Rattle.rb_show.specs.Telling.{Teller, ◌>>=◌, give}
use Rattle.rb_show.specs.declared.ask.Question.{Question}
use Rattle.rb_show.specs.declared.ask.Question.TheVariants as questions
use Rattle.rb_show.specs.declared.form.Form.{Form}
use Rattle.rb_show.specs.declared.show.Shown.{Shown}
use Rattle.rb_show.specs.declared.show.Shown.TheVariants as shown
use Rattle.rb_show.specs.declared.stage.List.{List as Listed}
use Rattle.rb_show.specs.declared.stage.List.TheVariants as lists
use Rattle.rb_show.specs.declared.stage.Counted.{Counted}
use Rattle.rb_show.specs.declared.stage.Counted.TheVariants.{Nothing, Two, Three}
use Rattle.rb_show.specs.declared.stage.Stage.{Stage}
use Rattle.rb_show.specs.declared.stage.Stage.TheVariants.{Item, Row, Mapping as Mapped, Port, Address, Unset, Numbers, LookUp, Forward, Done}
use Rattle.rb_show.specs.declared.take.Pause.{Pause}
use Rattle.rb_show.specs.Statistics.{read_addr, read_call}
use Rattle.rb_show.specs.Lines.{is_json, heading, mapping_line, row_line, short_line, entry_line}
use Rattle.rb_show.specs.Rows.{itself, mapping_row}
use Rattle.rb_show.specs.Counts.{addr_line, call_line, tell_version, total}
use Rattle.rb_show.specs.Fronts.{Pauses, Tells, TellsOr, items_from, items_after, rest_items}
use Rattle.rb_show.specs.Replies.{tell_items_summary, tell_port, tell_address, tell_unset, ready_line, is_success}

-- ---- stages

abbrev pub first_stage : Question → Stage
first_stage questions.Rows = Item lists.Rows 0
first_stage questions.Short = Item lists.Short 0
first_stage questions.OldRows = Item lists.OldRows 0
first_stage questions.OldShort = Item lists.OldShort 0
first_stage questions.Summary = Row
first_stage questions.OldSummary = Mapped
first_stage questions.Pmap = Item lists.Table 0
first_stage (questions.Entries prog vers) = Item (lists.Entries prog) 0
first_stage questions.Stats = Numbers Nothing
first_stage (questions.Port prot prog vers) = Port
first_stage (questions.Callit prog vers) = Port
first_stage (questions.Address netid prog vers) = Address
first_stage (questions.Null prog vers) = Done shown.Null
first_stage (questions.Probe prog vers) = Done shown.Null
first_stage (questions.Unset netid prog vers) = Unset

-- the lines before anything of the results was read
abbrev pub first_lines : Form → Question → List (List ℕ)
first_lines form questions.Pmap = if is_json form then [] else heading form ∷ []
first_lines form (questions.Null prog vers) = ready_line prog vers ∷ []
first_lines form question = []

abbrev pub done_of : Stage → Option Shown
done_of (Done what) = Some what
done_of stage = None

abbrev pub stage_after_line : Listed → ℕ → Option ℕ → Stage
stage_after_line list count (Some next) = Item list next
stage_after_line list count None = Done (shown.Rows count)

abbrev pub version_of : Counted → ℕ
version_of Nothing = 2
version_of (Two two) = 3
version_of (Three two three) = 4

abbrev pub stage_after_version : Counted → ℕ × ℕ → Stage
stage_after_version Nothing counts = Numbers (Two counts)
stage_after_version (Two two) counts = Numbers (Three two counts)
stage_after_version (Three two three) counts = Done (shown.Statistics (total two three counts))

abbrev pub stage_after_found : Counted → ℕ → Option ℕ → Stage
stage_after_found counted count (Some next) = LookUp counted next
stage_after_found counted count None = Forward counted count 0

abbrev pub stage_after_called : Counted → ℕ → ℕ → Option ℕ → Stage
stage_after_called counted found count (Some next) = Forward counted found next
stage_after_called counted found count None = stage_after_version counted (found, count)

-- ---- what is told from them on

-- of a list after so many items
abbrev pub lines_from : Form → Listed → ℕ → Teller ℕ
lines_from form lists.Rows count = items_from read_rpcb (λ item. row_line form (itself item)) count
lines_from form lists.Short count = items_from read_rpcb (λ item. short_line form (itself item)) count
lines_from form lists.OldRows count = items_from read_mapping (λ item. row_line form (mapping_row item)) count
lines_from form lists.OldShort count = items_from read_mapping (λ item. short_line form (mapping_row item)) count
lines_from form lists.Table count = items_from read_mapping (mapping_line form) count
lines_from form (lists.Entries prog) count = items_from read_entry (entry_line form prog) count

abbrev pub lines_after : Form → Listed → ℕ → Option ℕ → Teller ℕ
lines_after form lists.Rows count = items_after read_rpcb (λ item. row_line form (itself item)) count
lines_after form lists.Short count = items_after read_rpcb (λ item. short_line form (itself item)) count
lines_after form lists.OldRows count = items_after read_mapping (λ item. row_line form (mapping_row item)) count
lines_after form lists.OldShort count = items_after read_mapping (λ item. short_line form (mapping_row item)) count
lines_after form lists.Table count = items_after read_mapping (mapping_line form) count
lines_after form (lists.Entries prog) count = items_after read_entry (entry_line form prog) count

-- of items that are summed up, after these
abbrev pub sum_from : {A : Type 0} → Form → Reader A → (A → Rpcb) → List A → Teller Shown
sum_from form reads stands_for taken =
    rest_items reads taken >>= λ items. tell_items_summary form stands_for items >>= λ _. give (shown.Rows (length items))

-- of the lists of a version
abbrev pub called_from : Form → ℕ → ℕ → ℕ → Teller (ℕ × ℕ)
called_from form vers found count = items_from read_call (call_line form vers) count >>= λ called. give (found, called)

abbrev pub found_from : Form → ℕ → ℕ → Teller (ℕ × ℕ)
found_from form vers count = items_from read_addr (addr_line form vers) count >>= λ found. called_from form vers found 0

-- after a version
abbrev pub after_version : Form → Counted → ℕ × ℕ → Teller Shown
after_version form Nothing a = tell_version form 3 >>= λ b. tell_version form 4 >>= λ c. give (shown.Statistics (total a b c))
after_version form (Two a) b = tell_version form 4 >>= λ c. give (shown.Statistics (total a b c))
after_version form (Three a b) c = give (shown.Statistics (total a b c))

-- from a stage on, after these rows and mappings
abbrev pub rest_at : Form → List Rpcb → List Mapping → Stage → Teller Shown
rest_at form rows mappings (Item list count) = lines_from form list count >>= λ n. give (shown.Rows n)
rest_at form rows mappings Row = sum_from form read_rpcb itself rows
rest_at form rows mappings Mapped = sum_from form read_mapping mapping_row mappings
rest_at form rows mappings Port = tell_port
rest_at form rows mappings Address = tell_address
rest_at form rows mappings Unset = tell_unset
rest_at form rows mappings (Numbers counted) = tell_version form (version_of counted) >>= after_version form counted
rest_at form rows mappings (LookUp counted count) = found_from form (version_of counted) count >>= after_version form counted
rest_at form rows mappings (Forward counted found count) = called_from form (version_of counted) found count >>= after_version form counted
rest_at form rows mappings (Done what) = give what

-- what the bytes tell next at a stage, whatever was taken before
abbrev pub NextIs : Form → Stage → List ℕ → Vec ℕ → Vec ℕ → Result (Stage × ℕ) Pause → Type 0
NextIs form stage bytes old new result =
    (rows : List Rpcb) (mappings : List Mapping) → TellsOr (rest_at form rows mappings stage) bytes (rest_at form rows mappings) old new result

-- the stages at which nothing is kept
abbrev pub is_plain : Stage → Bool
is_plain Row = false
is_plain Mapped = false
is_plain (Done what) = false
is_plain stage = true

abbrev pub as_done : Result (Shown × ℕ) Pause → Result (Stage × ℕ) Pause
as_done (Ok taken) = Ok (Done taken.0, taken.1)
as_done (Err pause) = Err pause

abbrev pub stage_after_sum : Stage → Option Shown → Stage
stage_after_sum stage (Some what) = Done what
stage_after_sum stage None = stage

-- of a list that is summed up: what was shown, or more
abbrev pub sum_after : {A : Type 0} → Form → Reader A → (A → Rpcb) → List A → Option Shown → Teller Shown
sum_after form reads stands_for items None = sum_from form reads stands_for items
sum_after form reads stands_for items (Some what) = give what

abbrev pub SumsUp : {A : Type 0} → Form → Reader A → (A → Rpcb) → List A → List A → List ℕ → Vec ℕ → Vec ℕ → Result (Option Shown × ℕ) Pause → Type 0
SumsUp form reads stands_for items items' bytes old new (Ok told) = Tells (sum_from form reads stands_for items) bytes told.1 (sum_after form reads stands_for items' told.0) old.items new.items
SumsUp form reads stands_for items items' bytes old new (Err pause) = (items' ≡ items) × (new.items ≡ old.items) × Pauses (sum_from form reads stands_for items) bytes pause

-- whether results of the call with this xid follow a head
abbrev pub check_head : ReplyHead → ℕ → Result (Unit {0}) InfoFault
check_head head xid =
    if head.xid == xid then (if is_success head.status then Ok tt else Err (Refused head)) else Err Unreadable
