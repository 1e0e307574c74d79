-- The bytes of an answer's results (RFC 1833 sections 2.2 and 3.2).
use Rattle.std.specs.Prelude.{ℕ, Bool, true, false, if◌then◌else◌, List, [], ◌++◌, map, filter}
use Rattle.std.specs.List.{flat_map}
use Rattle.rb_xdr.specs.Xdr.{number, boolean, opaque, linked_list}
use Rattle.rb_uaddr.specs.declared.address.Hosts.{Hosts}
use Rattle.rb_registry.specs.declared.row.Row.{Row}
use Rattle.rb_registry.specs.declared.row.Which.TheVariants.{Inet}
use Rattle.rb_registry.specs.Rows.{is_among, is_of_version}
use Rattle.rb_registry.specs.Items.{owner_text, prot_on}
use Rattle.rb_address.specs.declared.netid.Netid.{Netid}
use Rattle.rb_address.specs.Netids.{netid_text}
use Rattle.rb_stats.specs.Statistics.{statistics}
use Rattle.rb_arguments.specs.declared.mapping.Mapping.{Mapping}
use Rattle.rb_arguments.specs.declared.rpcb.Rpcb.{Rpcb}
use Rattle.rb_arguments.specs.declared.entry.Entry.{Entry}
use Rattle.rb_answers.specs.declared.answers.Results.TheVariants as results
use Rattle.rb_answers.specs.declared.answers.Listing.{Listing}
use Rattle.rb_answers.specs.declared.answers.Listing.TheVariants.{Mappings, Rpcbs, Entries}
use Rattle.rb_answers.specs.declared.answers.Value.{Value}
use Rattle.rb_answers.specs.declared.answers.Value.TheVariants as values
use Rattle.rb_arguments.specs.Types.{mapping_spelling, rpcb_spelling, netbuf_spelling, entry_spelling}
use Rattle.rb_answers.specs.Netids.{semantics_of, family_text, proto_text, entry_end}
use Rattle.rb_answers.specs.Ledger.{Ledger, rows_in}
use Rattle.rb_answers.specs.Answers.{shown_text, shown_port, Results}

-- ---- one result

abbrev pub value_bytes : Value → List ℕ
value_bytes values.Void = []
value_bytes (values.Bool b) = boolean b
value_bytes (values.Number n) = number n
value_bytes (values.Text text) = opaque text
value_bytes (values.Netbuf netbuf) = netbuf_spelling netbuf

-- ---- lists of rows

-- DUMP-3: DUMP of version 2 shows rows of tcp and udp alone, and of an address its port.
abbrev pub is_inet : Row → Bool
is_inet row = is_among row.netid Inet

abbrev pub mapping_of : Row → Mapping
mapping_of row = record { prog = row.prog; vers = row.vers; prot = prot_on row.netid; port = shown_port row }

-- DUMP-1: DUMP shows each address as it was set, 0.0.0.0 too.
abbrev pub rpcb_of : Row → Rpcb
rpcb_of row = record { prog = row.prog; vers = row.vers; netid = netid_text row.netid; addr = row.addr; owner = owner_text row.owner }

-- GETADDRLIST-1: GETADDRLIST gives all rows of the program's version, each with the host of TOLD-1
-- in place of 0.0.0.0 or `::`; any other text is shown as it was set.
abbrev pub entry_of : Hosts → Row → Entry
entry_of hosts row = record {
  maddr = shown_text hosts row;
  netid = netid_text row.netid;
  semantics = semantics_of row.netid;
  protofmly = family_text row.netid;
  proto = proto_text row.netid;
}

-- the rows that a list shows, in their order
abbrev pub list_bytes : List Row → Listing → List ℕ
list_bytes rows Mappings = linked_list mapping_spelling (map mapping_of (filter is_inet rows))
list_bytes rows Rpcbs = linked_list rpcb_spelling (map rpcb_of rows)
list_bytes rows (Entries prog vers hosts) = linked_list entry_spelling (map (entry_of hosts) (filter (is_of_version prog vers) rows))

-- ---- all results

-- what is remembered, as answers show it: the live rows, and the spelling of the statistics
pub record Shown : Type 0 where
  pub rows : List Row
  pub statistics : List ℕ

-- GETSTAT-1
abbrev pub shown_of : Ledger → Shown
shown_of l = record { rows = rows_in l; statistics = statistics l.history }

-- if this is remembered
unfoldable pub result_bytes : Shown → Results → List ℕ
result_bytes shown (results.Value value) = value_bytes value
result_bytes shown (results.Rows list) = list_bytes shown.rows list
result_bytes shown results.Statistics = shown.statistics

-- ---- one row

-- whether a list of this kind has an item for the row
abbrev pub is_shown : Listing → Row → Bool
is_shown Mappings row = is_inet row
is_shown Rpcbs row = true
is_shown (Entries prog vers hosts) row = is_of_version prog vers row

-- the spelling of that item
abbrev pub item_bytes : Listing → Row → List ℕ
item_bytes Mappings row = mapping_spelling (mapping_of row)
item_bytes Rpcbs row = rpcb_spelling (rpcb_of row)
item_bytes (Entries prog vers hosts) row = entry_spelling (entry_of hosts row)

-- what a row adds to a list
unfoldable pub row_bytes : Listing → Row → List ℕ
row_bytes list row = if is_shown list row then boolean true ++ item_bytes list row else []

-- what the rows add to a list one after another, and its end
abbrev pub rows_bytes : List Row → Listing → List ℕ
rows_bytes rows list = flat_map (row_bytes list) rows ++ boolean false

-- TRUE and the item of one kind
abbrev pub mapping_item : Row → List ℕ
mapping_item row = boolean true ++ mapping_spelling (mapping_of row)

-- of an address as it is told, on a netid
abbrev pub entry_told : List ℕ → Netid → List ℕ
entry_told text netid = boolean true ++ (opaque text ++ entry_end netid)

abbrev pub entry_item : Hosts → Row → List ℕ
entry_item hosts row = boolean true ++ entry_spelling (entry_of hosts row)
