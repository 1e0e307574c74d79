-- The procedures of program 100000 and their arguments (RFC 1833 sections 2.2 and 3.2).
use Rattle.std.specs.Prelude.{ℕ, ◌==◌, Bool, ◌&&◌, if◌then◌else◌, List, [], ◌∷◌, Option, Some, None, option_map, option_and_then, find, is_some, Result, Ok, Err, ⊤}
use Rattle.rb_xdr.specs.Xdr.{Reader, Reading, read_opaque}
use Rattle.rb_arguments.specs.declared.kind.Kind.TheVariants.{Callit2, Callit3, Bcast, Indirect}
use Rattle.rb_arguments.specs.Types.{read_mapping, read_rpcb, read_netbuf}
use Rattle.rb_arguments.specs.Remote.{read_remote, HasContent}
use Rattle.rb_arguments.specs.declared.procedure.Procedure.{Procedure}
use Rattle.rb_arguments.specs.declared.procedure.Procedure.TheVariants.{Void, Mapping, Rpcb, Uaddr2taddr, Taddr2uaddr, Forward}
use Rattle.rb_arguments.specs.declared.procedure.VoidProcedure.TheVariants as voids
use Rattle.rb_arguments.specs.declared.procedure.MappingProcedure.TheVariants as mappings
use Rattle.rb_arguments.specs.declared.procedure.RpcbProcedure.TheVariants as rpcbs
use Rattle.rb_arguments.specs.declared.request.ArgumentFault.{ArgumentFault}
use Rattle.rb_arguments.specs.declared.request.ArgumentFault.TheVariants.{ProcUnavail, GarbageArgs}
use Rattle.rb_arguments.specs.declared.request.Request.TheVariants as requests
pub use Rattle.rb_arguments.specs.declared.request.Request.{Request}

-- version, number and procedure, under the type of its argument
-- PROC-1: Version 2 has the procedures 0 to 5, version 3 those from 0 to 8, version 4 those from 0
-- to 12: 28 in all.
-- PROC-2
abbrev pub procedures : List (ℕ × ℕ × Procedure)
procedures =
    line 2 0 (Void voids.Null)
    ∷ line 2 1 (Mapping mappings.Set)
    ∷ line 2 2 (Mapping mappings.Unset)
    ∷ line 2 3 (Mapping mappings.Getport)
    ∷ line 2 4 (Void voids.PmapDump)
    ∷ line 2 5 (Forward Callit2)
    ∷ line 3 0 (Void voids.Null)
    ∷ line 3 1 (Rpcb rpcbs.Set)
    ∷ line 3 2 (Rpcb rpcbs.Unset)
    ∷ line 3 3 (Rpcb rpcbs.Getaddr)
    ∷ line 3 4 (Void voids.Dump)
    ∷ line 3 5 (Forward Callit3)
    ∷ line 3 6 (Void voids.Gettime)
    ∷ line 3 7 Uaddr2taddr
    ∷ line 3 8 Taddr2uaddr
    ∷ line 4 0 (Void voids.Null)
    ∷ line 4 1 (Rpcb rpcbs.Set)
    ∷ line 4 2 (Rpcb rpcbs.Unset)
    ∷ line 4 3 (Rpcb rpcbs.Getaddr)
    ∷ line 4 4 (Void voids.Dump)
    ∷ line 4 5 (Forward Bcast)
    ∷ line 4 6 (Void voids.Gettime)
    ∷ line 4 7 Uaddr2taddr
    ∷ line 4 8 Taddr2uaddr
    ∷ line 4 9 (Rpcb rpcbs.Getversaddr)
    ∷ line 4 10 (Forward Indirect)
    ∷ line 4 11 (Rpcb rpcbs.Getaddrlist)
    ∷ line 4 12 (Void voids.Getstat)
    ∷ []
  where
    line : ℕ → ℕ → Procedure → ℕ × ℕ × Procedure
    line vers proc procedure = (vers, proc, procedure)

unfoldable pub procedure_at : ℕ → ℕ → Option Procedure
procedure_at vers proc = option_map (λ row. row.2) (find (λ row. row.0 == vers && row.1 == proc) procedures)

-- the version has a procedure of this number
unfoldable pub is_known : ℕ → ℕ → Bool
is_known vers proc = is_some (procedure_at vers proc)

-- ---- arguments

-- what was read, without where it ends: bytes after the arguments count for nothing
abbrev pub value_of : {A : Type 0} → Reading A → Option A
value_of (Ok read) = Some read.0
value_of (Err fault) = None

-- ARGS-1: Bytes after the arguments are ignored.
abbrev pub front : {A : Type 0} → Reader A → List ℕ → Option A
front reads bytes = value_of (reads bytes)

-- what the bytes ask of a procedure
unfoldable pub arguments : Procedure → List ℕ → Option Request
arguments (Void procedure) bytes = Some (requests.Void procedure)
arguments (Mapping procedure) bytes = option_map (requests.Mapping procedure) (front read_mapping bytes)
arguments (Rpcb procedure) bytes = option_map (requests.Rpcb procedure) (front read_rpcb bytes)
arguments Uaddr2taddr bytes = option_map requests.Uaddr2taddr (front (read_opaque 128) bytes)
arguments Taddr2uaddr bytes = option_map requests.Taddr2uaddr (front read_netbuf bytes)
arguments (Forward kind) bytes = option_map (requests.Forward kind) (front read_remote bytes)

-- what the bytes after the verifier ask for, None if they are unreadable
unfoldable pub request : ℕ → ℕ → List ℕ → Option Request
request vers proc bytes = option_and_then (λ procedure. arguments procedure bytes) (procedure_at vers proc)

-- with the reason if there is none
abbrev pub or_garbage : Option Request → Result Request ArgumentFault
or_garbage (Some request) = Ok request
or_garbage None = Err GarbageArgs

-- PROC-2: A number that the version has no procedure for is PROC_UNAVAIL, before the arguments are
-- read.
abbrev pub read_request : ℕ → ℕ → List ℕ → Result Request ArgumentFault
read_request vers proc bytes = if is_known vers proc then or_garbage (request vers proc bytes) else Err ProcUnavail

-- the bytes have what a call to be forwarded has in its args
abbrev pub HasArgs : Request → List ℕ → Type 0
HasArgs (requests.Void procedure) bytes = ⊤
HasArgs (requests.Mapping procedure m) bytes = ⊤
HasArgs (requests.Rpcb procedure r) bytes = ⊤
HasArgs (requests.Uaddr2taddr text) bytes = ⊤
HasArgs (requests.Taddr2uaddr netbuf) bytes = ⊤
HasArgs (requests.Forward kind remote) bytes = HasContent remote bytes
