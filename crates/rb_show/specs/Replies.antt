-- What the reply to each question tells (RFC 1833 sections 2.2 and 3.2).
use Rattle.std.specs.Prelude.{ℕ, Option, Some, None, option_map, length, ◌==◌, Bool, true, false, if◌then◌else◌, List, [], ◌∷◌, ◌++◌, codes}
use Rattle.std.specs.Fmt.{decimal}
use Rattle.rb_xdr.specs.Xdr.{Reader, read_number, read_bool, read_opaque}
use Rattle.rb_uaddr.specs.declared.address.Uaddr.{Uaddr}
use Rattle.rb_uaddr.specs.Uaddr.{parse}
use Rattle.rb_rpc.specs.declared.reply.ReplyHead.{ReplyHead}
use Rattle.rb_rpc.specs.declared.reply.ReplyStatus.{ReplyStatus}
use Rattle.rb_rpc.specs.declared.reply.ReplyStatus.TheVariants as statuses
use Rattle.rb_arguments.specs.declared.rpcb.Rpcb.{Rpcb}
use Rattle.rb_arguments.specs.Types.{read_mapping, read_rpcb, read_entry}
use Rattle.rb_rpc.specs.Records.{data_of}
use Rattle.rb_show.specs.declared.fault.InfoFault.TheVariants.{Unreadable, CutOff, Refused}
use Rattle.rb_show.specs.Data.{front_of, end_of}
use Rattle.rb_show.specs.Telling.{Told, Teller, ◌>>=◌, give, stop, tell, take_one}
use Rattle.rb_show.specs.Heads.{take_head}
use Rattle.rb_show.specs.Lists.{tell_items, greatest_list}
use Rattle.rb_show.specs.WholeLists.{take_items}
use Rattle.rb_show.specs.declared.ask.Ask.{Ask}
use Rattle.rb_show.specs.declared.ask.Question.{Question}
use Rattle.rb_show.specs.declared.ask.Question.TheVariants.{Rows, Short, OldRows, OldShort, Summary, OldSummary, Pmap, Entries, Stats, Port, Address, Null, Probe, Callit, Unset}
use Rattle.rb_show.specs.declared.form.Form.{Form}
use Rattle.rb_show.specs.declared.show.Shown.{Shown}
use Rattle.rb_show.specs.declared.show.Shown.TheVariants as shown
use Rattle.rb_show.specs.Counts.{tell_statistics}
use Rattle.rb_show.specs.Summary.{items_summary}
use Rattle.rb_show.specs.Rows.{itself, mapping_row}
use Rattle.rb_show.specs.Lines.{is_json, heading, mapping_line, row_line, short_line, entry_line}

-- the items of a list, a line each
unfoldable pub tell_list : {A : Type 0} → Reader A → (A → List ℕ) → Teller Shown
tell_list reads line = tell_items reads line greatest_list 0 >>= λ n. give (shown.Rows n)

-- the rows that the items of a list stand for, a line each
abbrev pub tell_rows : {A : Type 0} → Reader A → (A → Rpcb) → (Rpcb → List ℕ) → Teller Shown
tell_rows reads stands_for line = tell_list reads (λ item. line (stands_for item))

-- the summary of items
abbrev pub tell_items_summary : {A : Type 0} → Form → (A → Rpcb) → List A → Teller (Unit {0})
tell_items_summary form stands_for items = tell (items_summary form stands_for items ∷ [])

-- the items of a list, summed up once all of them were read
-- SUMMARY-1
unfoldable pub tell_summary : {A : Type 0} → Form → Reader A → (A → Rpcb) → Teller Shown
tell_summary form reads stands_for =
    take_items reads greatest_list [] >>= λ items. tell_items_summary form stands_for items >>= λ _. give (shown.Rows (length items))

-- the same after its heading
unfoldable pub tell_columns : Form → Teller Shown
tell_columns form = tell (heading form ∷ []) >>= λ _. tell_list read_mapping (mapping_line form)

-- objects have no heading
abbrev pub tell_table : Form → Teller Shown
tell_table form = if is_json form then tell_list read_mapping (mapping_line form) else tell_columns form

unfoldable pub tell_port : Teller Shown
tell_port = take_one read_number >>= λ port. give (shown.Port port)

-- SHOW-7: An empty text from GETADDR says that there is no address; another text that is no address
-- is unreadable.
abbrev pub address_in : List ℕ → Option (Option Uaddr)
address_in [] = Some None
address_in (b ∷ text) = option_map (λ address. Some address) (parse (b ∷ text))

abbrev pub by_address : Option (Option Uaddr) → Teller Shown
by_address (Some address) = give (shown.Address address)
by_address None = stop Unreadable

unfoldable pub tell_address : Teller Shown
tell_address = take_one (read_opaque 128) >>= λ text. by_address (address_in text)

abbrev pub ready_line : ℕ → ℕ → List ℕ
ready_line prog vers = codes "program " ++ (decimal prog ++ (codes " version " ++ (decimal vers ++ codes " ready\n")))

unfoldable pub tell_ready : ℕ → ℕ → Teller Shown
tell_ready prog vers = tell (ready_line prog vers ∷ []) >>= λ _. give shown.Null

abbrev pub removed_line : Bool → List ℕ
removed_line removed = if removed then codes "removed\n" else codes "not removed\n"

unfoldable pub tell_removed : Bool → Teller Shown
tell_removed removed = tell (removed_line removed ∷ []) >>= λ _. give (shown.Removed removed)

unfoldable pub tell_unset : Teller Shown
tell_unset = take_one read_bool >>= tell_removed

abbrev pub tell_results : Form → Question → Teller Shown
tell_results form Rows = tell_rows read_rpcb itself (row_line form)
tell_results form Short = tell_rows read_rpcb itself (short_line form)
tell_results form OldRows = tell_rows read_mapping mapping_row (row_line form)
tell_results form OldShort = tell_rows read_mapping mapping_row (short_line form)
tell_results form Summary = tell_summary form read_rpcb itself
tell_results form OldSummary = tell_summary form read_mapping mapping_row
tell_results form Pmap = tell_table form
tell_results form (Entries prog vers) = tell_list read_entry (entry_line form prog)
tell_results form Stats = tell_statistics form
tell_results form (Port prot prog vers) = tell_port
tell_results form (Address netid prog vers) = tell_address
tell_results form (Null prog vers) = tell_ready prog vers
tell_results form (Probe prog vers) = give shown.Null
tell_results form (Callit prog vers) = tell_port
tell_results form (Unset netid prog vers) = tell_unset

abbrev pub is_success : ReplyStatus → Bool
is_success statuses.Success = true
is_success statuses.ProgUnavail = false
is_success (statuses.ProgMismatch low high) = false
is_success statuses.ProcUnavail = false
is_success statuses.GarbageArgs = false
is_success statuses.SystemErr = false
is_success (statuses.RpcMismatch low high) = false
is_success (statuses.AuthError stat) = false

-- SHOW-2: A refused call shows nothing.
abbrev pub by_status : Form → Question → ReplyHead → Teller Shown
by_status form question head = if is_success head.status then tell_results form question else stop (Refused head)

-- SHOW-1: The xid of a reply is that of its call.
unfoldable pub by_head : Form → Question → ℕ → ReplyHead → Teller Shown
by_head form question xid head = if head.xid == xid then by_status form question head else stop Unreadable

-- SHOW-3: A reply that can be read is shown.
unfoldable pub tell_reply : Ask → Form → ℕ → Teller Shown
tell_reply ask form xid = take_head >>= by_head form ask.question xid

-- what the reply to a question tells that these bytes begin with, as far as they may be read
-- DATA-1: A reply's data is that of all its fragments.
abbrev pub tell_bytes : Ask → Form → ℕ → List ℕ → Told Shown
tell_bytes ask form xid bytes = tell_reply ask form xid (end_of bytes) (data_of (front_of bytes))

-- what the datagram tells that is a reply to a question
-- DATA-6: A datagram is a whole record, without marks.
abbrev pub tell_datagram : Ask → Form → ℕ → List ℕ → Told Shown
tell_datagram ask form xid bytes = tell_reply ask form xid CutOff bytes
