-- What rpcinfo shows of the rows that the daemon lists (RFC 1833 sections 2.2 and 3.2).
use Rattle.std.specs.Prelude.{◌≡◌, ◌≤◌, ℕ, if◌then◌else◌, List, [], ◌∷◌, ◌++◌, length, map, filter, Option, All}
use Rattle.rb_xdr.specs.Xdr.{IsNumber}
use Rattle.rb_rpc.specs.declared.reply.ReplyStatus.TheVariants.{Success}
use Rattle.rb_rpc.specs.Replies.{reply_head}
use Rattle.rb_uaddr.specs.declared.address.Hosts.{Hosts}
use Rattle.rb_registry.specs.declared.row.Row.{Row}
use Rattle.rb_arguments.specs.declared.mapping.Mapping.{Mapping}
use Rattle.rb_arguments.specs.declared.rpcb.Rpcb.{Rpcb}
use Rattle.rb_arguments.specs.declared.entry.Entry.{Entry}
use Rattle.rb_arguments.specs.Types.{IsMapping, IsRpcb, IsEntry}
use Rattle.rb_answers.specs.declared.answers.Listing.TheVariants.{Mappings, Rpcbs, Entries}
use Rattle.rb_registry.specs.Rows.{is_of_version}
use Rattle.rb_answers.specs.Results.{is_inet, mapping_of, rpcb_of, entry_of, list_bytes}
use Rattle.rb_show.specs.declared.fault.InfoFault.{InfoFault}
use Rattle.rb_show.specs.Telling.Told.{Done}
use Rattle.rb_show.specs.Lists.{greatest_list}
use Rattle.rb_show.specs.declared.ask.Ask.{Ask}
use Rattle.rb_show.specs.declared.ask.Question.{Question}
use Rattle.rb_show.specs.declared.ask.Question.TheVariants as questions
use Rattle.rb_show.specs.declared.form.Form.{Form}
use Rattle.rb_show.specs.declared.show.Shown.TheVariants as shown
use Rattle.rb_show.specs.Rows.{mapping_row}
use Rattle.rb_show.specs.Summary.{as_shown, summary_text}
use Rattle.rb_show.specs.Lines.{is_json, heading, mapping_line, row_line, short_line, entry_line}
use Rattle.rb_show.specs.Replies.{tell_reply}

-- the reply by this xid that lists rows, before these bytes
abbrev pub listing_reply : ℕ → List ℕ → List ℕ → List ℕ
listing_reply xid bytes rest = reply_head xid Success ++ (bytes ++ rest)

-- If a question is replied to with these bytes as results, these lines are told, and how many rows there are; whatever
-- stands after the reply is left.
abbrev pub ShowsLines : Form → Question → List ℕ → ℕ → List (List ℕ) → Type 0
ShowsLines form question bytes count lines =
    (uid : Option ℕ) (xid : ℕ) (rest : List ℕ) (end : InfoFault) → IsNumber xid
    → let ask : Ask = record { question = question; uid = uid } in
    tell_reply ask form xid end (listing_reply xid bytes rest) ≡ Done lines (shown.Rows count) rest

-- Each item has its line, in their order.
abbrev pub ShowsEach : {A : Type 0} → Form → Question → List ℕ → (A → List ℕ) → List A → Type 0
ShowsEach form question bytes line items =
    ShowsLines form question bytes (length items) (map line items)

-- All rows are summed up.
abbrev pub ShowsSum : Form → Question → List ℕ → List Rpcb → Type 0
ShowsSum form question bytes rows =
    ShowsLines form question bytes (length rows) (summary_text form (map as_shown rows) ∷ [])

-- ---- DUMP of versions 3 and 4

-- the rows as DUMP lists them, and the results that list them
abbrev pub rpcbs : List Row → List Rpcb
rpcbs rows = map rpcb_of rows

abbrev pub dump : List Row → List ℕ
dump rows = list_bytes rows Rpcbs

-- Each row has its line, long or short; or all of them are summed up.
pub record ShowsDump (form : Form) (rows : List Row) : Type 0 where
  pub each : ShowsEach form questions.Rows (dump rows) (row_line form) (rpcbs rows)
  pub short : ShowsEach form questions.Short (dump rows) (short_line form) (rpcbs rows)
  pub summary : ShowsSum form questions.Summary (dump rows) (rpcbs rows)

abbrev pub DumpsAreShown : Type 0
DumpsAreShown =
    (form : Form) (rows : List Row) → All IsRpcb (rpcbs rows) → length (rpcbs rows) ≤ greatest_list
    → ShowsDump form rows

-- ---- DUMP of version 2

-- the rows of tcp and udp as mappings, and the results that list them
abbrev pub mappings : List Row → List Mapping
mappings rows = map mapping_of (filter is_inet rows)

abbrev pub pmap_dump : List Row → List ℕ
pmap_dump rows = list_bytes rows Mappings

-- the rows of version 3 that they stand for
abbrev pub mapping_rows : List Row → List Rpcb
mapping_rows rows = map mapping_row (mappings rows)

-- the lines of the table of mappings: objects have no heading
abbrev pub table_lines : Form → List Mapping → List (List ℕ)
table_lines form all =
    if is_json form then map (mapping_line form) all
    else heading form ∷ map (mapping_line form) all

-- They have a line each in the table.
abbrev pub ShowsTable : Form → List ℕ → List Mapping → Type 0
ShowsTable form bytes all = ShowsLines form questions.Pmap bytes (length all) (table_lines form all)

-- Each of these rows has its line, long or short; or all of them are summed up. In the table the
-- mappings have theirs.
pub record ShowsMappings (form : Form) (rows : List Row) : Type 0 where
  pub each : ShowsEach form questions.OldRows (pmap_dump rows) (row_line form) (mapping_rows rows)
  pub short :
      ShowsEach form questions.OldShort (pmap_dump rows) (short_line form) (mapping_rows rows)
  pub summary : ShowsSum form questions.OldSummary (pmap_dump rows) (mapping_rows rows)
  pub table : ShowsTable form (pmap_dump rows) (mappings rows)

abbrev pub MappingsAreShown : Type 0
MappingsAreShown =
    (form : Form) (rows : List Row) → All IsMapping (mappings rows)
    → length (mappings rows) ≤ greatest_list → ShowsMappings form rows

-- ---- GETADDRLIST

-- the rows of a program's version as entries, and the results that list them
abbrev pub entries : ℕ → ℕ → Hosts → List Row → List Entry
entries prog vers hosts rows = map (entry_of hosts) (filter (is_of_version prog vers) rows)

abbrev pub address_list : ℕ → ℕ → Hosts → List Row → List ℕ
address_list prog vers hosts rows = list_bytes rows (Entries prog vers hosts)

-- Each address of the program's version has its line.
abbrev pub ShowsEntries : Form → ℕ → ℕ → Hosts → List Row → Type 0
ShowsEntries form prog vers hosts rows =
    ShowsEach form (questions.Entries prog vers) (address_list prog vers hosts rows)
    (entry_line form prog) (entries prog vers hosts rows)

abbrev pub EntriesAreShown : Type 0
EntriesAreShown =
    (form : Form) (rows : List Row) (prog vers : ℕ) (hosts : Hosts)
    → All IsEntry (entries prog vers hosts rows)
    → length (entries prog vers hosts rows) ≤ greatest_list
    → ShowsEntries form prog vers hosts rows
