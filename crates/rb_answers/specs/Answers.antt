-- What each procedure is answered, and the ledger after it (RFC 1833 sections 2.2 and 3.2).
use Rattle.std.specs.Prelude.{ℕ, ◌-◌, ◌/◌, ◌^◌, ◌==◌, nat_lt, nat_le, min, Bool, false, not, ◌&&◌, if◌then◌else◌, List, [], ◌∷◌, ◌++◌, length, bytes_eq, is_some, Option, Some, None, option_map}
use Rattle.std.specs.Option.{option_map_or}
use Rattle.rb_rpc.specs.declared.call.CallHead.{CallHead}
use Rattle.rb_uaddr.specs.declared.address.Hosts.{Hosts}
use Rattle.rb_uaddr.specs.declared.address.Uaddr.{Uaddr}
use Rattle.rb_uaddr.specs.declared.address.Uaddr.TheVariants.{V4, V6}
use Rattle.rb_uaddr.specs.Uaddr.{port_of, any_host, any_host6, text_of, parse, merged_address, transport_of, from_transport}
use Rattle.rb_address.specs.declared.netid.Netid.{Netid}
use Rattle.rb_address.specs.declared.netid.Transport.{Transport}
use Rattle.rb_address.specs.declared.who.Owner.{Owner}
use Rattle.rb_registry.specs.declared.row.Row.{Row}
use Rattle.rb_registry.specs.declared.row.Which.{Which}
use Rattle.rb_registry.specs.declared.row.Which.TheVariants.{Inet}
use Rattle.rb_registry.specs.Rows.{Change, rpcb_prog, has_place, removes_some, find_exact, find_row}
use Rattle.rb_address.specs.Netids.{netid_of, netid_named, transport_of_protocol}
use Rattle.rb_registry.specs.Rows.Change.{Added, Removed}
use Rattle.rb_stats.specs.declared.key.Target.{Target}
use Rattle.rb_stats.specs.Statistics.{Note}
use Rattle.rb_stats.specs.Statistics.Note.{WasSet, WasUnset, LookedUp}
use Rattle.rb_arguments.specs.declared.mapping.Mapping.{Mapping}
use Rattle.rb_arguments.specs.declared.rpcb.Rpcb.{Rpcb}
use Rattle.rb_arguments.specs.declared.procedure.MappingProcedure.TheVariants as mappings
use Rattle.rb_arguments.specs.declared.procedure.RpcbProcedure.TheVariants as rpcbs
use Rattle.rb_arguments.specs.declared.request.Request.TheVariants as requests
use Rattle.rb_arguments.specs.declared.request.Request.{Request}
use Rattle.rb_arguments.specs.declared.netbuf.Netbuf.{Netbuf}
use Rattle.rb_answers.specs.declared.answers.Answer.TheVariants as answers
use Rattle.rb_answers.specs.declared.answers.Results.TheVariants as results
use Rattle.rb_answers.specs.declared.answers.Value.{Value}
use Rattle.rb_answers.specs.declared.answers.Listing.{Listing}
use Rattle.rb_arguments.specs.declared.procedure.VoidProcedure.{VoidProcedure}
use Rattle.rb_arguments.specs.declared.procedure.VoidProcedure.TheVariants as voids
use Rattle.rb_answers.specs.declared.answers.Listing.TheVariants.{Mappings, Rpcbs, Entries}
use Rattle.rb_answers.specs.declared.answers.Value.TheVariants as values
use Rattle.rb_answers.specs.Callers.{who_of, netid_of_caller, may_register, owner_of, share_in, hosts_in}
use Rattle.rb_answers.specs.Reserved.{may_own}
use Rattle.rb_answers.specs.Ledger.{Ledger, rows_in, version_of, note_where}
use Rattle.rb_answers.specs.Netids.{which_of, address_in, is_address}
use Rattle.rb_answers.specs.Terms.{counts_look_up}
use Rattle.rb_answers.specs.Forwarding.{forward_call}
pub use Rattle.rb_answers.specs.declared.answers.Answer.{Answer}
pub use Rattle.rb_answers.specs.declared.answers.Results.{Results}
pub use Rattle.rb_answers.specs.declared.call.Call.{Call}
pub use Rattle.rb_answers.specs.declared.context.Context.{Context}

-- ---- changes

-- the caller is on this machine, as far as it is trusted
-- REGISTER-2
unfoldable pub comes_from_here : Context → Bool
comes_from_here context = may_register context.announced (who_of context.caller)

-- as whom a call of this head registers
-- OWNER-1
abbrev pub owner_in : Context → CallHead → Owner
owner_in context head = owner_of (who_of context.caller).trust head.cred

-- the change and the note of it after the others, if it is accepted, and whether it is
abbrev pub change_if : Bool → Change → Note → Ledger → Bool × Ledger
change_if accepted change note l = (
  accepted,
  record l {
    changes = if accepted then l.changes ++ change ∷ [] else l.changes;
    history = if accepted then l.history ++ note ∷ [] else l.history;
  },
)

-- ---- SET (RPCBPROC_SET, PMAPPROC_SET)

-- SET-4: SET of version 2 needs protocol 6 or 17 and a port from 1 to 65,535; the row is at 0.0.0.0
-- and that port.
unfoldable pub row_of_mapping : Owner → Mapping → Option Row
row_of_mapping owner m =
    if nat_le m.port 65535 then option_map on (transport_of_protocol m.prot) else None
  where
    on : Transport → Row
    on transport = record { prog = m.prog; vers = m.vers; netid = netid_of transport; owner = owner; addr = text_of (V4 any_host m.port) }

-- SET-5: SET of an empty or unknown netid is FALSE; the address text is kept as it is given;
-- r_owner is ignored.
unfoldable pub row_of_rpcb : Owner → Rpcb → Option Row
row_of_rpcb owner r = option_map on (netid_named r.netid)
  where
    on : Netid → Row
    on netid = record { prog = r.prog; vers = r.vers; netid = netid; owner = owner; addr = r.addr }

-- another program than the portmapper's own, at an address that may be set on its netid
-- SET-3
unfoldable pub can_be_set : Row → Bool
can_be_set row = not (row.prog == rpcb_prog) && is_address row.netid row.addr

-- these live rows are fewer than those among which the caller may set one more
-- QUOTA-1
unfoldable pub has_share : Context → List Row → Bool
has_share context rows = nat_lt (length rows) (share_in context)

-- A caller on this machine may set the row, its program is reserved for no other owner, and there is a place for it beside
-- these live rows, after this many changes.
abbrev pub accepts : Context → List Row → ℕ → Row → Bool
accepts context rows count row =
    comes_from_here context && can_be_set row && may_own context.reserved row && has_share context rows
    && has_place context.limit rows count row

-- SET-2: SET of a caller that may not register is FALSE.
unfoldable pub accepts_row : Context → Ledger → Row → Bool
accepts_row context l row = accepts context (rows_in l) (length l.changes) row

-- A SET of the row that is asked for, if there is one: TRUE, the row added and the SET noted, else FALSE.
-- COUNT-1: Only SETs and UNSETs that answer TRUE are counted as such, in setinfo and unsetinfo of
-- their version; as calls all are (COUNT-6).
unfoldable pub set_row : Context → CallHead → Option Row → Ledger → Bool × Ledger
set_row context head None l = (false, l)
set_row context head (Some row) l = change_if (accepts_row context l row) (Added row) (WasSet (version_of head.vers)) l

-- ---- room for a row

-- the row that a call of this head asks to SET, if it does
abbrev pub row_asked : Context → CallHead → Request → Option Row
row_asked context head (requests.Mapping mappings.Set m) = row_of_mapping (owner_in context head) m
row_asked context head (requests.Rpcb rpcbs.Set r) = row_of_rpcb (owner_in context head) r
row_asked context head _ = None

unfoldable pub row_to_set : Context → Call → Option Row
row_to_set context call = row_asked context call.head call.request

-- some row is asked for, and it is accepted beside these live rows, after this many changes
abbrev pub adds : Context → List Row → ℕ → Option Row → Bool
adds context rows count None = false
adds context rows count (Some row) = accepts context rows count row

-- the call is a SET that is accepted
unfoldable pub adds_row : Context → Call → List Row → ℕ → Bool
adds_row context call rows count = adds context rows count (row_to_set context call)

-- ROOM-1: A call needs room if and only if it is a SET that is accepted; if live rows fill the
-- table no SET is.
abbrev pub wants_room : Context → Call → Ledger → Bool
wants_room context call l = adds_row context call (rows_in l) (length l.changes)

-- ---- UNSET (RPCBPROC_UNSET, PMAPPROC_UNSET)

-- a caller on this machine may remove some row by it
-- UNSET-3: UNSET of a caller that may not register is FALSE.
unfoldable pub accepts_removal : Context → Ledger → Change → Bool
accepts_removal context l removal = comes_from_here context && removes_some (rows_in l) (length l.changes) removal

-- the rows of a version of a program on these netids that the caller's owner may remove
abbrev pub removal_of : Context → CallHead → ℕ → ℕ → Which → Change
removal_of context head prog vers which = Removed prog vers which (owner_in context head)

-- An UNSET of a version of a program on these netids, if they are known: TRUE if some row is removed, and the UNSET
-- noted, else FALSE.
-- UNSET-4 COUNT-1
unfoldable pub unset_rows : Context → CallHead → ℕ → ℕ → Option Which → Ledger → Bool × Ledger
unset_rows context head prog vers None l = (false, l)
unset_rows context head prog vers (Some which) l =
    change_if (accepts_removal context l (removal_of context head prog vers which)) (removal_of context head prog vers which) (WasUnset (version_of head.vers)) l

-- ---- rows that are asked for

-- the row's universal address as callers are told it: a host of its family stands in for 0.0.0.0 or ::
-- TOLD-2: GETADDR and GETVERSADDR tell a universal address with the host of TOLD-1, spelled anew (an
-- IPv6 host as UADDR-3 says), and the name of a local socket as it was set.
unfoldable pub shown_address : Hosts → Row → Option Uaddr
shown_address hosts row = option_map (merged_address hosts) (address_in row.netid row.addr)

-- the host is :: and another stands in for it
abbrev pub is_replaced : Hosts → List ℕ → Bool
is_replaced hosts own = bytes_eq own any_host6 && not (bytes_eq hosts.inet6 any_host6)

-- another host stands in for that of the address, or may, since 0.0.0.0 itself does if no other is known
abbrev pub is_told_anew : Hosts → Uaddr → Bool
is_told_anew hosts (V4 own port) = bytes_eq own any_host
is_told_anew hosts (V6 own port) = is_replaced hosts own

-- An IPv4 address is told in this way, and an IPv6 address if its :: is replaced. Any other IPv6 address and the name
-- of a local socket stay as they were set.
abbrev pub told_text : Hosts → Row → Option Uaddr → List ℕ
told_text hosts row (Some (V4 own port)) = text_of (merged_address hosts (V4 own port))
told_text hosts row (Some (V6 own port)) = if is_replaced hosts own then text_of (V6 hosts.inet6 port) else row.addr
told_text hosts row None = row.addr

-- GETADDRLIST-1
unfoldable pub shown_text : Hosts → Row → List ℕ
shown_text hosts row = told_text hosts row (address_in row.netid row.addr)

-- the text of an address that is told anew, or else the row's address as it was set
abbrev pub text_told : Option Uaddr → Row → List ℕ
text_told None row = row.addr
text_told (Some address) row = text_of address

-- 0 if there is no port
-- DUMP-3
unfoldable pub shown_port : Row → ℕ
shown_port row = option_map_or port_of (address_in row.netid row.addr) 0

-- 0 if there is no row
abbrev pub port_found : Option Row → ℕ
port_found found = option_map_or shown_port found 0

-- TOLD-2
abbrev pub addr_told : Hosts → Row → List ℕ
addr_told hosts row = option_map_or text_of (shown_address hosts row) row.addr

-- empty if there is no row
abbrev pub addr_found : Hosts → Option Row → List ℕ
addr_found hosts found = option_map_or (addr_told hosts) found []

-- COUNT-3: GETPORT counts in its version a look-up by the transport of prot, GETADDR and
-- GETVERSADDR one by the netid of the call: a success if a row was found. A GETPORT by another prot
-- than 6 and 17 counts none, nor does a stranger's look-up except by COUNT-2.
abbrev pub with_lookup : Context → CallHead → Target → Option Row → Ledger → Ledger
with_lookup context head target found l =
    note_where (counts_look_up (who_of context.caller) target.vers found) (LookedUp (version_of head.vers) target (is_some found)) l

-- the port of the row that was looked up
abbrev pub port_told : Context → CallHead → Target → Option Row → Ledger → ℕ × Ledger
port_told context head target found l = (port_found found, with_lookup context head target found l)

abbrev pub port_on : Context → CallHead → Mapping → Option Transport → Ledger → ℕ × Ledger
port_on context head m None l = (0, l)
port_on context head m (Some transport) l =
    port_told context head (record { prog = m.prog; vers = m.vers; netid = netid_of transport }) (find_row m.prog m.vers (netid_of transport) (rows_in l)) l

-- PMAPPROC_GETPORT: by the transport of prot; port is ignored. If prot is of none, nothing is looked up.
-- GETPORT-1: GETPORT goes by the transport of prot; it is 0 if there is no row, or prot is another
-- one.
-- COUNT-3
unfoldable pub getport : Context → CallHead → Mapping → Ledger → ℕ × Ledger
getport context head m l = port_on context head m (transport_of_protocol m.prot) l

-- the netid by which the call came
abbrev pub netid_asked : Context → Netid
netid_asked context = netid_of_caller context.caller

-- what is asked for, on that netid; r_netid, r_addr and r_owner are ignored
abbrev pub target_of : Context → Rpcb → Target
target_of context r = record { prog = r.prog; vers = r.vers; netid = netid_asked context }

-- the address of the row that was looked up
abbrev pub text_found : Context → CallHead → Rpcb → Option Row → Ledger → List ℕ × Ledger
text_found context head r found l =
    (addr_found (hosts_in context) found, with_lookup context head (target_of context r) found l)

-- RPCBPROC_GETADDR
-- GETADDR-2: GETADDR without a row of the version gives the greatest one on that netid.
-- GETADDR-1 COUNT-3
unfoldable pub getaddr : Context → CallHead → Rpcb → Ledger → List ℕ × Ledger
getaddr context head r l = text_found context head r (find_row r.prog r.vers (netid_asked context) (rows_in l)) l

-- RPCBPROC_GETVERSADDR: the same, of the exact version alone
-- GETVERSADDR-1: GETVERSADDR gives the exact version alone.
-- COUNT-3
unfoldable pub getversaddr : Context → CallHead → Rpcb → Ledger → List ℕ × Ledger
getversaddr context head r l = text_found context head r (find_exact r.prog r.vers (netid_asked context) (rows_in l)) l

-- ---- the rest

-- whole seconds since the start of 1970, as far as an unsigned int goes
-- GETTIME-1: GETTIME gives whole seconds, 2^32 - 1 if they are more.
unfoldable pub seconds : ℕ → ℕ
seconds clock = min (clock / 1000) (2 ^ 32 - 1)

-- UADDR2TADDR-1: UADDR2TADDR of a text that is no address gives an empty buf, TADDR2UADDR of a buf
-- that is none the empty text.
unfoldable pub taddr_of : List ℕ → Netbuf
taddr_of text = let buf = option_map_or transport_of (parse text) [] in record { maxlen = length buf; buf = buf }

-- empty if the form is none of an address; its maxlen is ignored
-- UADDR2TADDR-1
unfoldable pub uaddr_of : Netbuf → List ℕ
uaddr_of netbuf = option_map_or text_of (from_transport netbuf.buf) []

-- ---- the table

-- these results, and the ledger as it was
abbrev pub tell : Value → Ledger → Answer × Ledger
tell value l = (answers.Results (results.Value value), l)

-- a list of the live rows, and the ledger as it was
abbrev pub tell_rows : Listing → Ledger → Answer × Ledger
tell_rows listing l = (answers.Results (results.Rows listing), l)

-- what was done, as a result, and the ledger after it
abbrev pub tell_done : {A : Type 0} → (A → Value) → A × Ledger → Answer × Ledger
tell_done value done = (answers.Results (results.Value (value done.0)), done.1)

-- what a procedure without arguments is answered, and the ledger stays
-- NULL-1
abbrev pub answer_void : Context → VoidProcedure → Results
answer_void context voids.Null = results.Value values.Void
answer_void context voids.PmapDump = results.Rows Mappings
answer_void context voids.Dump = results.Rows Rpcbs
answer_void context voids.Gettime = results.Value (values.Number (seconds context.clock))
answer_void context voids.Getstat = results.Statistics

-- What a call of this head that asks for this is answered, and what it leaves behind. SET, UNSET, the look-ups and
-- calls that can't be forwarded note what they did. A call that is forwarded has its args in the bytes of the
-- arguments, which count for nothing else.
-- UNSET-5: UNSET of version 2 means tcp and udp; prot and port are ignored.
-- GETSTAT-1: GETSTAT gives the statistics of versions 2, 3 and 4, of the calls so far.
abbrev pub answer_to : Context → CallHead → Request → List ℕ → Ledger → Answer × Ledger
answer_to context head (requests.Void procedure) arguments l = (answers.Results (answer_void context procedure), l)
answer_to context head (requests.Mapping mappings.Set m) arguments l = tell_done values.Bool (set_row context head (row_of_mapping (owner_in context head) m) l)
answer_to context head (requests.Mapping mappings.Unset m) arguments l = tell_done values.Bool (unset_rows context head m.prog m.vers (Some Inet) l)
answer_to context head (requests.Mapping mappings.Getport m) arguments l = tell_done values.Number (getport context head m l)
answer_to context head (requests.Rpcb rpcbs.Set r) arguments l = tell_done values.Bool (set_row context head (row_of_rpcb (owner_in context head) r) l)
answer_to context head (requests.Rpcb rpcbs.Unset r) arguments l = tell_done values.Bool (unset_rows context head r.prog r.vers (which_of r.netid) l)
answer_to context head (requests.Rpcb rpcbs.Getaddr r) arguments l = tell_done values.Text (getaddr context head r l)
answer_to context head (requests.Rpcb rpcbs.Getversaddr r) arguments l = tell_done values.Text (getversaddr context head r l)
answer_to context head (requests.Rpcb rpcbs.Getaddrlist r) arguments l = tell_rows (Entries r.prog r.vers (hosts_in context)) l
answer_to context head (requests.Uaddr2taddr text) arguments l = tell (values.Netbuf (taddr_of text)) l
answer_to context head (requests.Taddr2uaddr netbuf) arguments l = tell (values.Text (uaddr_of netbuf)) l
answer_to context head (requests.Forward kind remote) arguments l = forward_call context head.xid kind remote arguments l

-- what a call is answered whose arguments are these bytes, and the ledger after it
unfoldable pub answer : Context → Call → List ℕ → Ledger → Answer × Ledger
answer context call arguments l = answer_to context call.head call.request arguments l
