-- The numbers of procedures, for those who call them (RFC 1833 sections 2.2 and 3.2).
use Rattle.std.specs.Prelude.{ℕ, ◌==◌, ◌&&◌, Bool, true, false, Option, option_map, find}
use Rattle.rb_arguments.specs.Arguments.{procedures}
use Rattle.rb_arguments.specs.declared.procedure.Procedure.{Procedure}
use Rattle.rb_arguments.specs.declared.procedure.Procedure.TheVariants.{Void, Mapping, Rpcb}
use Rattle.rb_arguments.specs.declared.procedure.VoidProcedure.{VoidProcedure}
use Rattle.rb_arguments.specs.declared.procedure.VoidProcedure.TheVariants.{Null, PmapDump, Dump, Gettime, Getstat}
use Rattle.rb_arguments.specs.declared.procedure.MappingProcedure.{MappingProcedure}
use Rattle.rb_arguments.specs.declared.procedure.MappingProcedure.TheVariants as mappings
use Rattle.rb_arguments.specs.declared.procedure.RpcbProcedure.{RpcbProcedure}
use Rattle.rb_arguments.specs.declared.procedure.RpcbProcedure.TheVariants as rpcbs

unfoldable pub is_void : VoidProcedure → VoidProcedure → Bool
is_void Null Null = true
is_void PmapDump PmapDump = true
is_void Dump Dump = true
is_void Gettime Gettime = true
is_void Getstat Getstat = true
is_void _ _ = false

unfoldable pub is_mapping : MappingProcedure → MappingProcedure → Bool
is_mapping mappings.Set mappings.Set = true
is_mapping mappings.Unset mappings.Unset = true
is_mapping mappings.Getport mappings.Getport = true
is_mapping _ _ = false

unfoldable pub is_rpcb : RpcbProcedure → RpcbProcedure → Bool
is_rpcb rpcbs.Set rpcbs.Set = true
is_rpcb rpcbs.Unset rpcbs.Unset = true
is_rpcb rpcbs.Getaddr rpcbs.Getaddr = true
is_rpcb rpcbs.Getversaddr rpcbs.Getversaddr = true
is_rpcb rpcbs.Getaddrlist rpcbs.Getaddrlist = true
is_rpcb _ _ = false

-- the same procedure, of those with no argument, a mapping or an rpcb
unfoldable pub is_procedure : Procedure → Procedure → Bool
is_procedure (Void a) (Void b) = is_void a b
is_procedure (Mapping a) (Mapping b) = is_mapping a b
is_procedure (Rpcb a) (Rpcb b) = is_rpcb a b
is_procedure _ _ = false

-- the number in the table's line of a procedure in a version
-- QUESTION-1
unfoldable pub number_of : ℕ → Procedure → Option ℕ
number_of vers procedure =
    option_map (λ row. row.1) (find (λ row. row.0 == vers && is_procedure row.2 procedure) procedures)
