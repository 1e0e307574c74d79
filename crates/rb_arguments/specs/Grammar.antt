-- Arguments, by what they are spelled from (RFC 4506, RFC 1833 sections 2.1 and 3.1).
use Rattle.std.specs.Prelude.{◌≡◌, ◌↔◌, ℕ, List, ◌++◌, Some, ⊤}
use Rattle.rb_xdr.specs.Xdr.{IsContent, AreBytes, opaque}
use Rattle.rb_arguments.specs.Types.{IsMapping, mapping_spelling, IsRpcb, rpcb_spelling, IsNetbuf, netbuf_spelling}
use Rattle.rb_arguments.specs.Remote.{SpellsRemote}
use Rattle.rb_arguments.specs.Arguments.{Request, procedure_at, request}
use Rattle.rb_arguments.specs.declared.procedure.Procedure.{Procedure}
use Rattle.rb_arguments.specs.declared.procedure.Procedure.TheVariants as procedures
use Rattle.rb_arguments.specs.declared.request.Request.TheVariants.{Void, Mapping, Rpcb, Uaddr2taddr, Taddr2uaddr, Forward}

-- the bytes begin with a spelling of the value
-- ARGS-1
pub record BeginsWith {A : Type 0} (is_value : A → Type 0) (spelling : A → List ℕ) (x : A) (bytes : List ℕ) : Type 0 where
  pub fits : is_value x
  pub rest : List ℕ
  pub whole : bytes ≡ spelling x ++ rest

-- The bytes begin with the argument of the request. A request without one is in front of any bytes.
abbrev pub SpellsRequest : Request → List ℕ → Type 0
SpellsRequest (Void procedure) bytes = ⊤
SpellsRequest (Mapping procedure m) bytes = BeginsWith IsMapping mapping_spelling m bytes
SpellsRequest (Rpcb procedure r) bytes = BeginsWith IsRpcb rpcb_spelling r bytes
SpellsRequest (Uaddr2taddr text) bytes = BeginsWith (IsContent 128) opaque text bytes
SpellsRequest (Taddr2uaddr n) bytes = BeginsWith IsNetbuf netbuf_spelling n bytes
SpellsRequest (Forward kind remote) bytes = SpellsRemote remote bytes

-- the procedure that a request is for
abbrev pub procedure_of : Request → Procedure
procedure_of (Void procedure) = procedures.Void procedure
procedure_of (Mapping procedure m) = procedures.Mapping procedure
procedure_of (Rpcb procedure r) = procedures.Rpcb procedure
procedure_of (Uaddr2taddr text) = procedures.Uaddr2taddr
procedure_of (Taddr2uaddr n) = procedures.Taddr2uaddr
procedure_of (Forward kind remote) = procedures.Forward kind

-- The version has the request's procedure under this number, and the bytes begin with its argument.
abbrev pub Asks : ℕ → ℕ → Request → List ℕ → Type 0
Asks vers proc r bytes = (procedure_at vers proc ≡ Some (procedure_of r)) × SpellsRequest r bytes

abbrev pub RequestsAreOfTheGrammar : Type 0
RequestsAreOfTheGrammar =
    (vers proc : ℕ) (bytes : List ℕ) → AreBytes bytes → (r : Request) → (request vers proc bytes ≡ Some r) ↔ Asks vers proc r bytes
