-- Which UNSETs are accepted (RPCBPROC_UNSET and PMAPPROC_UNSET, RFC 1833 sections 2.2.1 and 3.2).
use Rattle.std.specs.Prelude.{◌≡◌, ◌≢◌, ◌⊎◌, ◌↔◌, ⊤, ℕ, ◌-◌, ◌^◌, ◌<◌, true, false, List, [], ◌∷◌, ◌++◌, length, Contains}
use Rattle.rb_address.specs.declared.netid.Netid.{Netid}
use Rattle.rb_address.specs.declared.who.Owner.{Owner}
use Rattle.rb_address.specs.declared.who.Owner.TheVariants.{Uid}
use Rattle.rb_address.specs.Netids.{netid_text}
use Rattle.rb_rpc.specs.declared.call.CallHead.{CallHead}
use Rattle.rb_registry.specs.declared.row.Row.{Row}
use Rattle.rb_registry.specs.Rows.{Change}
use Rattle.rb_stats.specs.declared.key.Version.{Version}
use Rattle.rb_stats.specs.Statistics.Note.{WasUnset}
use Rattle.rb_arguments.specs.declared.procedure.MappingProcedure.TheVariants as mappings
use Rattle.rb_arguments.specs.declared.procedure.RpcbProcedure.TheVariants as rpcbs
use Rattle.rb_arguments.specs.declared.request.Request.{Request}
use Rattle.rb_arguments.specs.declared.request.Request.TheVariants as requests
use Rattle.rb_answers.specs.declared.answers.Answer.{Answer}
use Rattle.rb_answers.specs.declared.context.Context.{Context}
use Rattle.rb_answers.specs.Callers.{who_of}
use Rattle.rb_answers.specs.Ledger.{Ledger, rows_in}
use Rattle.rb_answers.specs.Answers.{answer_to}
use Rattle.rb_promises.specs.LocalCallers.{IsLocal, CallsAs}
use Rattle.rb_promises.specs.Addresses.{IsOverIpv4}
use Rattle.rb_promises.specs.Sets.{IsVersion, told}

-- ---- which rows are covered

-- the netid of this name, and every netid if the name is empty
abbrev pub IsMeant : List ℕ → Netid → Type 0
IsMeant name netid = (name ≡ []) ⊎ (name ≡ netid_text netid)

-- The request is an UNSET of the row's program and version, on its netid: of version 2 on tcp and udp, of versions 3 and 4
-- on those that its r_netid means. Its protocol, port, address and r_owner count for nothing.
abbrev pub IsNamed : Request → Row → Type 0
IsNamed (requests.Mapping mappings.Unset m) row = (row.prog ≡ m.prog) × (row.vers ≡ m.vers) × IsOverIpv4 row.netid
IsNamed (requests.Rpcb rpcbs.Unset r) row = (row.prog ≡ r.prog) × (row.vers ≡ r.vers) × IsMeant r.netid row.netid
IsNamed _ row = ⊥

-- the superuser removes every row, another caller those of its own owner
abbrev pub MayRemove : Owner → Owner → Type 0
MayRemove caller owner = (caller ≡ Uid 0) ⊎ (owner ≡ caller)

-- The request names the row, which is not the portmapper's own, and the caller may remove it.
pub record IsCovered (context : Context) (head : CallHead) (request : Request) (row : Row) : Type 0 where
  pub caller : Owner
  pub calls_as : CallsAs context head caller
  pub named : IsNamed request row
  pub foreign : row.prog ≢ 100000
  pub allowed : MayRemove caller row.owner

-- ---- what it leaves

-- The second rows are the first without those that are gone, in the same order.
pub data AreWithout (IsGone : Row → Type 0) : List Row → List Row → Type 0 where
  Neither : AreWithout IsGone [] []
  Goes : (row : Row) (rows left : List Row) → IsGone row → AreWithout IsGone rows left
      → AreWithout IsGone (row ∷ rows) left
  Stays : (row : Row) (rows left : List Row) → ¬ (IsGone row) → AreWithout IsGone rows left
      → AreWithout IsGone (row ∷ rows) (row ∷ left)

-- the portmapper's own rows are of its own program
abbrev pub AreThePortmappers : List Row → Type 0
AreThePortmappers own = (row : Row) → Contains own row → row.prog ≡ 100000

-- The covered rows are no longer live, the others are, the UNSET is noted, and nothing else is changed.
pub record IsRemovedFrom (context : Context) (head : CallHead) (request : Request) (l new : Ledger) : Type 0 where
  pub live : AreWithout (IsCovered context head request) (rows_in l) (rows_in new)
  pub own : new.own ≡ l.own
  pub changes : (change : Change) × (new.changes ≡ l.changes ++ change ∷ [])
  pub history : (version : Version) × IsVersion head.vers version × (new.history ≡ l.history ++ WasUnset version ∷ [])
  pub forwards : new.forwards ≡ l.forwards

-- ---- the law

abbrev pub IsUnsetRequest : Request → Type 0
IsUnsetRequest (requests.Mapping mappings.Unset m) = ⊤
IsUnsetRequest (requests.Rpcb rpcbs.Unset r) = ⊤
IsUnsetRequest _ = ⊥

-- The caller is of this machine, a live row is covered, and a number is left for one more change.
pub record RemovesARow (context : Context) (head : CallHead) (request : Request) (l : Ledger) : Type 0 where
  pub local : IsLocal context.announced (who_of context.caller)
  pub row : Row
  pub live : Contains (rows_in l) row
  pub covered : IsCovered context head request row
  pub numbered : length l.changes < 2 ^ 64 - 1

module _ (context : Context) (head : CallHead) (request : Request) (arguments : List ℕ) (l : Ledger) where
  abbrev answered : Answer × Ledger
  answered = answer_to context head request arguments l

  -- TRUE exactly if its caller is of this machine, a live row is covered and a number is left; then, if the daemon's
  -- own rows are the portmapper's, the covered rows are removed. Else FALSE, and the ledger stays as it was.
  pub record AnswersUnset : Type 0 where
    pub one_of : (answered.0 ≡ told true) ⊎ (answered.0 ≡ told false)
    pub exactly : (answered.0 ≡ told true) ↔ RemovesARow context head request l
    pub removes : answered.0 ≡ told true → AreThePortmappers l.own → IsRemovedFrom context head request l answered.1
    pub keeps : answered.0 ≡ told false → answered.1 ≡ l

abbrev pub UnsetsAreAcceptedExactly : Type 0
UnsetsAreAcceptedExactly =
    (context : Context) (head : CallHead) (request : Request) (arguments : List ℕ) (l : Ledger)
    → IsUnsetRequest request → AnswersUnset context head request arguments l
