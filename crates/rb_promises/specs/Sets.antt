-- Which SETs are accepted (RPCBPROC_SET and PMAPPROC_SET, RFC 1833 sections 2.2.1 and 3.2).
use Rattle.std.specs.Prelude.{◌≡◌, ◌≢◌, ◌⊎◌, ◌↔◌, ⊤, ℕ, ◌+◌, ◌-◌, ◌/◌, ◌^◌, ◌<◌, ◌≤◌, Bool, true, false, List, [], ◌∷◌, ◌++◌, length, Contains, Any}
use Rattle.rb_uaddr.specs.Uaddr.{any_host}
use Rattle.rb_uaddr.specs.Grammar.{SpellsV4}
use Rattle.rb_address.specs.declared.netid.Netid.{Netid}
use Rattle.rb_address.specs.declared.netid.Netid.TheVariants.{Tcp, Udp}
use Rattle.rb_address.specs.declared.who.Owner.{Owner}
use Rattle.rb_address.specs.declared.who.Owner.TheVariants.{Uid}
use Rattle.rb_address.specs.declared.who.Trust.TheVariants as trusts
use Rattle.rb_address.specs.Netids.{netid_text}
use Rattle.rb_rpc.specs.declared.call.CallHead.{CallHead}
use Rattle.rb_registry.specs.declared.row.Row.{Row}
use Rattle.rb_registry.specs.Rows.Change.{Added}
use Rattle.rb_stats.specs.declared.key.Version.{Version}
use Rattle.rb_stats.specs.declared.key.Version.TheVariants.{Two, Three, Four}
use Rattle.rb_stats.specs.Statistics.Note.{WasSet}
use Rattle.rb_arguments.specs.declared.mapping.Mapping.{Mapping}
use Rattle.rb_arguments.specs.declared.rpcb.Rpcb.{Rpcb}
use Rattle.rb_arguments.specs.declared.procedure.MappingProcedure.TheVariants as mappings
use Rattle.rb_arguments.specs.declared.procedure.RpcbProcedure.TheVariants as rpcbs
use Rattle.rb_arguments.specs.declared.request.Request.{Request}
use Rattle.rb_arguments.specs.declared.request.Request.TheVariants as requests
use Rattle.rb_answers.specs.declared.answers.Answer.TheVariants as answers
use Rattle.rb_answers.specs.declared.answers.Results.TheVariants as results
use Rattle.rb_answers.specs.declared.answers.Value.TheVariants as values
use Rattle.rb_answers.specs.declared.answers.Answer.{Answer}
use Rattle.rb_answers.specs.declared.context.Context.{Context}
use Rattle.rb_answers.specs.declared.reserved.Reservation.{Reservation}
use Rattle.rb_answers.specs.Callers.{who_of}
use Rattle.rb_answers.specs.Ledger.{Ledger, rows_in}
use Rattle.rb_answers.specs.Answers.{answer_to}
use Rattle.rb_promises.specs.LocalCallers.{IsLocal, CallsAs}
use Rattle.rb_promises.specs.Addresses.{IsAddressOn}

-- ---- which row is asked for

-- 6 is TCP over IPv4, and 17 is UDP over IPv4
abbrev pub IsByProtocol : ℕ → Netid → Type 0
IsByProtocol protocol netid = ((protocol ≡ 6) × (netid ≡ Tcp)) ⊎ ((protocol ≡ 17) × (netid ≡ Udp))

-- Version 2 asks by a protocol and a port, for a row at that port of 0.0.0.0. A port above 65535 asks for no row.
pub record IsOfMapping (caller : Owner) (m : Mapping) (row : Row) : Type 0 where
  pub prog : row.prog ≡ m.prog
  pub vers : row.vers ≡ m.vers
  pub netid : IsByProtocol m.prot row.netid
  pub owner : row.owner ≡ caller
  pub addr : SpellsV4 any_host m.port row.addr

-- Versions 3 and 4 ask by the name of a netid and an address, which is kept as it is given. The r_owner of the call
-- counts for nothing.
pub record IsOfRpcb (caller : Owner) (r : Rpcb) (row : Row) : Type 0 where
  pub prog : row.prog ≡ r.prog
  pub vers : row.vers ≡ r.vers
  pub netid : r.netid ≡ netid_text row.netid
  pub owner : row.owner ≡ caller
  pub addr : row.addr ≡ r.addr

abbrev pub SetsFor : Owner → Request → Row → Type 0
SetsFor caller (requests.Mapping mappings.Set m) row = IsOfMapping caller m row
SetsFor caller (requests.Rpcb rpcbs.Set r) row = IsOfRpcb caller r row
SetsFor caller _ row = ⊥

-- The request is a SET of the row, which a call of this head asks for in the name of its caller.
pub record AsksToSet (context : Context) (head : CallHead) (request : Request) (row : Row) : Type 0 where
  pub caller : Owner
  pub named : CallsAs context head caller
  pub asked : SetsFor caller request row

-- ---- which row is accepted

pub record HasSameKey (row other : Row) : Type 0 where
  pub prog : other.prog ≡ row.prog
  pub vers : other.vers ≡ row.vers
  pub netid : other.netid ≡ row.netid

-- A caller that is known as an owner other than the superuser leaves a quarter of the places to the superuser.
abbrev pub LeavesAQuarter : Context → List Row → Type 0
LeavesAQuarter context rows = (owner : Owner) → (who_of context.caller).trust ≡ trusts.Local owner
    → owner ≢ Uid 0 → length rows + context.limit / 4 < context.limit

-- the reservation covers the program
pub record Covers (prog : ℕ) (r : Reservation) : Type 0 where
  pub from : r.first ≤ prog
  pub to : prog ≤ r.last

-- the program is reserved for the uid that the owner is
abbrev pub IsReservedFor : List Reservation → ℕ → Owner → Type 0
IsReservedFor reserved prog owner = Any (λ r. Covers prog r × (owner ≡ Uid r.uid)) reserved

-- If some reservation covers the row's program, the row is of uid 0, or of a uid for which the program is reserved.
-- RESERVE-1
abbrev pub IsItsOwners : List Reservation → Row → Type 0
IsItsOwners reserved row = Any (Covers row.prog) reserved → (row.owner ≡ Uid 0) ⊎ IsReservedFor reserved row.prog row.owner

-- The caller is of this machine; the row is of another program than the portmapper, at an address of its netid; its program
-- is reserved for no other owner; no live row is of the same program, version and netid; and there is a place for one more row and a number for one more change.
pub record IsAccepted (context : Context) (l : Ledger) (row : Row) : Type 0 where
  pub local : IsLocal context.announced (who_of context.caller)
  pub foreign : row.prog ≢ 100000
  pub address : IsAddressOn row.netid row.addr
  pub owned : IsItsOwners context.reserved row
  pub is_new : (other : Row) → Contains (rows_in l) other → ¬ (HasSameKey row other)
  pub fits : length (rows_in l) < context.limit
  pub quarter : LeavesAQuarter context (rows_in l)
  pub numbered : length l.changes < 2 ^ 64 - 1

-- ---- what it leaves

-- the version in which a call of this version's number is counted: of the three that are served, 4 is the one that is left
pub data IsVersion (vers : ℕ) : Version → Type 0 where
  Second : vers ≡ 2 → IsVersion vers Two
  Third : vers ≡ 3 → IsVersion vers Three
  Fourth : vers ≢ 2 → vers ≢ 3 → IsVersion vers Four

-- The row is live after those that were, the SET is noted, and nothing else is changed.
pub record IsAddedTo (head : CallHead) (row : Row) (l new : Ledger) : Type 0 where
  pub live : rows_in new ≡ rows_in l ++ row ∷ []
  pub own : new.own ≡ l.own
  pub changes : new.changes ≡ l.changes ++ Added row ∷ []
  pub history : (version : Version) × IsVersion head.vers version × (new.history ≡ l.history ++ WasSet version ∷ [])
  pub forwards : new.forwards ≡ l.forwards

-- ---- the law

abbrev pub IsSetRequest : Request → Type 0
IsSetRequest (requests.Mapping mappings.Set m) = ⊤
IsSetRequest (requests.Rpcb rpcbs.Set r) = ⊤
IsSetRequest _ = ⊥

-- the result TRUE or FALSE
abbrev pub told : Bool → Answer
told value = answers.Results (results.Value (values.Bool value))

-- an accepted row is asked for
pub record SetsARow (context : Context) (head : CallHead) (request : Request) (l : Ledger) : Type 0 where
  pub row : Row
  pub asked : AsksToSet context head request row
  pub accepted : IsAccepted context l row

module _ (context : Context) (head : CallHead) (request : Request) (arguments : List ℕ) (l : Ledger) where
  abbrev answered : Answer × Ledger
  answered = answer_to context head request arguments l

  -- TRUE exactly if an accepted row is asked for, which is then added; else FALSE, and the ledger stays as it was.
  pub record AnswersSet : Type 0 where
    pub one_of : (answered.0 ≡ told true) ⊎ (answered.0 ≡ told false)
    pub exactly : (answered.0 ≡ told true) ↔ SetsARow context head request l
    pub adds : answered.0 ≡ told true → (row : Row) → AsksToSet context head request row → IsAddedTo head row l answered.1
    pub keeps : answered.0 ≡ told false → answered.1 ≡ l

abbrev pub SetsAreAcceptedExactly : Type 0
SetsAreAcceptedExactly =
    (context : Context) (head : CallHead) (request : Request) (arguments : List ℕ) (l : Ledger)
    → IsSetRequest request → AnswersSet context head request arguments l
