-- What the lists of rows say (PMAPPROC_DUMP, RPCBPROC_DUMP and RPCBPROC_GETADDRLIST, RFC 1833 sections 2.2.1 and 3.2).
use Rattle.std.specs.Prelude.{◌≡◌, ◌≢◌, ◌⊎◌, ⊤, ℕ, List, [], ◌∷◌, codes, decimal}
use Rattle.rb_xdr.specs.Xdr.{linked_list}
use Rattle.rb_uaddr.specs.Uaddr.{any_host6}
use Rattle.rb_uaddr.specs.Grammar.{SpellsV6}
use Rattle.rb_address.specs.declared.netid.Netid.{Netid}
use Rattle.rb_address.specs.declared.netid.Netid.TheVariants.{Tcp, Udp, Tcp6, Udp6, Local}
use Rattle.rb_address.specs.declared.who.Owner.{Owner}
use Rattle.rb_address.specs.declared.who.Owner.TheVariants.{Unknown, Uid}
use Rattle.rb_address.specs.Netids.{netid_text}
use Rattle.rb_rpc.specs.declared.call.CallHead.{CallHead}
use Rattle.rb_registry.specs.declared.row.Row.{Row}
use Rattle.rb_arguments.specs.declared.entry.Entry.{Entry}
use Rattle.rb_arguments.specs.declared.mapping.Mapping.{Mapping}
use Rattle.rb_arguments.specs.declared.rpcb.Rpcb.{Rpcb}
use Rattle.rb_arguments.specs.declared.procedure.RpcbProcedure.TheVariants as rpcbs
use Rattle.rb_arguments.specs.declared.procedure.VoidProcedure.TheVariants as voids
use Rattle.rb_arguments.specs.declared.request.Request.TheVariants as requests
use Rattle.rb_arguments.specs.Types.{mapping_spelling, rpcb_spelling, entry_spelling}
use Rattle.rb_answers.specs.declared.answers.Answer.{Answer}
use Rattle.rb_answers.specs.declared.answers.Answer.TheVariants as answers
use Rattle.rb_answers.specs.declared.answers.Results.{Results}
use Rattle.rb_answers.specs.declared.context.Context.{Context}
use Rattle.rb_answers.specs.Ledger.{Ledger, rows_in}
use Rattle.rb_answers.specs.Results.{shown_of, result_bytes}
use Rattle.rb_answers.specs.Answers.{answer_to}
use Rattle.rb_promises.specs.Addresses.{IsOverIpv4, IsOverIpv6}
use Rattle.rb_promises.specs.Sets.{IsByProtocol}
use Rattle.rb_promises.specs.LookUps.{StandsInV6, TellsV4, PrintsV6, SpellsNone, HasPort, HasHosts}

-- ---- the items of a list

-- There is one item for each row that is listed, in the order of the rows, and no other.
pub data AreItems {Item : Type 0} (IsListed : Row → Type 0) (IsItemOf : Row → Item → Type 0)
    : List Row → List Item → Type 0 where
  NoMore : AreItems IsListed IsItemOf [] []
  Listed : (row : Row) (item : Item) (rows : List Row) (items : List Item) → IsListed row → IsItemOf row item
      → AreItems IsListed IsItemOf rows items → AreItems IsListed IsItemOf (row ∷ rows) (item ∷ items)
  Passed : (row : Row) (rows : List Row) (items : List Item) → ¬ (IsListed row)
      → AreItems IsListed IsItemOf rows items → AreItems IsListed IsItemOf (row ∷ rows) items

-- ---- DUMP of version 2

-- 6 for tcp and 17 for udp, and the port of the row's address
pub record IsMappingOf (row : Row) (m : Mapping) : Type 0 where
  pub prog : m.prog ≡ row.prog
  pub vers : m.vers ≡ row.vers
  pub prot : IsByProtocol m.prot row.netid
  pub port : HasPort row m.port

-- ---- DUMP of versions 3 and 4

-- how r_owner names the owner
abbrev pub NamesOwner : Owner → List ℕ → Type 0
NamesOwner Unknown text = text ≡ codes "unknown"
NamesOwner (Uid uid) text = ((uid ≡ 0) × (text ≡ codes "superuser")) ⊎ ((uid ≢ 0) × (text ≡ decimal uid))

-- the address as it was set
pub record IsRpcbOf (row : Row) (r : Rpcb) : Type 0 where
  pub prog : r.prog ≡ row.prog
  pub vers : r.vers ≡ row.vers
  pub netid : r.netid ≡ netid_text row.netid
  pub addr : r.addr ≡ row.addr
  pub owner : NamesOwner row.owner r.owner

-- every row is listed
abbrev pub IsAny : Row → Type 0
IsAny row = ⊤

-- ---- GETADDRLIST

-- An IPv4 address is listed as a look-up tells it. An IPv6 address is printed anew only if another host stands in for
-- ::, and every other text is listed as it was set.
pub data ListsAddress (context : Context) (row : Row) (text : List ℕ) : Type 0 where
  ListsV4 : IsOverIpv4 row.netid → TellsV4 context row.addr text → ListsAddress context row text
  IsReplaced : (host : List ℕ) (port : ℕ) → IsOverIpv6 row.netid → SpellsV6 any_host6 port row.addr
      → StandsInV6 context host → host ≢ any_host6 → PrintsV6 host port text → ListsAddress context row text
  IsNotReplaced : (own host : List ℕ) (port : ℕ) → IsOverIpv6 row.netid → SpellsV6 own port row.addr
      → StandsInV6 context host → (own ≢ any_host6) ⊎ (host ≡ any_host6) → text ≡ row.addr → ListsAddress context row text
  IsNoAddress : SpellsNone row.netid row.addr → text ≡ row.addr → ListsAddress context row text

-- nc_semantics is 1 without connections and 3 with them and an orderly release; nc_protofmly and nc_proto
abbrev pub IsDescribed : Netid → ℕ → List ℕ → List ℕ → Type 0
IsDescribed Tcp semantics family proto = (semantics ≡ 3) × (family ≡ codes "inet") × (proto ≡ codes "tcp")
IsDescribed Udp semantics family proto = (semantics ≡ 1) × (family ≡ codes "inet") × (proto ≡ codes "udp")
IsDescribed Tcp6 semantics family proto = (semantics ≡ 3) × (family ≡ codes "inet6") × (proto ≡ codes "tcp")
IsDescribed Udp6 semantics family proto = (semantics ≡ 1) × (family ≡ codes "inet6") × (proto ≡ codes "udp")
IsDescribed Local semantics family proto = (semantics ≡ 3) × (family ≡ codes "loopback") × (proto ≡ codes "-")

pub record IsEntryOf (context : Context) (row : Row) (e : Entry) : Type 0 where
  pub maddr : ListsAddress context row e.maddr
  pub netid : e.netid ≡ netid_text row.netid
  pub described : IsDescribed row.netid e.semantics e.protofmly e.proto

-- the rows of the program's version, on every netid
abbrev pub IsOfVersion : ℕ → ℕ → Row → Type 0
IsOfVersion prog vers row = (row.prog ≡ prog) × (row.vers ≡ vers)

-- ---- the laws

-- The results are spelled as a list of the items, and the ledger stays as it was.
pub record ListsItems {Item : Type 0} (spelling : Item → List ℕ) (IsListed : Row → Type 0)
    (IsItemOf : Row → Item → Type 0) (l : Ledger) (answered : Answer × Ledger) : Type 0 where
  pub given : Results
  pub is_given : answered ≡ (answers.Results given, l)
  pub items : List Item
  pub are_items : AreItems IsListed IsItemOf (rows_in l) items
  pub bytes : result_bytes (shown_of l) given ≡ linked_list spelling items

abbrev pub PmapDumpLists : Type 0
PmapDumpLists =
    (context : Context) (head : CallHead) (arguments : List ℕ) (l : Ledger)
    → ListsItems mapping_spelling (λ row. IsOverIpv4 row.netid) IsMappingOf l
    (answer_to context head (requests.Void voids.PmapDump) arguments l)

abbrev pub DumpLists : Type 0
DumpLists =
    (context : Context) (head : CallHead) (arguments : List ℕ) (l : Ledger)
    → ListsItems rpcb_spelling IsAny IsRpcbOf l (answer_to context head (requests.Void voids.Dump) arguments l)

abbrev pub GetaddrlistLists : Type 0
GetaddrlistLists =
    (context : Context) (head : CallHead) (r : Rpcb) (arguments : List ℕ) (l : Ledger) → HasHosts context
    → ListsItems entry_spelling (IsOfVersion r.prog r.vers) (IsEntryOf context) l
    (answer_to context head (requests.Rpcb rpcbs.Getaddrlist r) arguments l)
