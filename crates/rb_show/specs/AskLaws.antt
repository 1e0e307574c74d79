-- What is asked is what a portmapper reads (RFC 1833 sections 2.2 and 3.2).
use Rattle.std.specs.Prelude.{⊤, Option, Some, None}
use Rattle.rb_xdr.specs.Xdr.{IsNumber}
use Rattle.std.specs.Prelude.{ℕ}
use Rattle.rb_arguments.specs.declared.kind.Kind.TheVariants as kinds
use Rattle.rb_arguments.specs.declared.remote.RemoteCall.{RemoteCall}
use Rattle.rb_arguments.specs.declared.request.Request.{Request}
use Rattle.rb_arguments.specs.Grammar.{Asks}
use Rattle.rb_arguments.specs.declared.request.Request.TheVariants.{Void, Mapping, Rpcb, Forward}
use Rattle.rb_arguments.specs.declared.procedure.VoidProcedure.TheVariants as voids
use Rattle.rb_arguments.specs.declared.procedure.MappingProcedure.TheVariants as mappings
use Rattle.rb_arguments.specs.declared.procedure.RpcbProcedure.TheVariants as rpcbs
use Rattle.rb_show.specs.declared.ask.Question.{Question}
use Rattle.rb_show.specs.declared.ask.Question.TheVariants.{Rows, Short, OldRows, OldShort, Summary, OldSummary, Pmap, Entries, Stats, Port, Address, Null, Probe, Callit, Unset}
use Rattle.rb_show.specs.Asks.{procedure_of, rpcb_of, mapping_of, arguments_of}

-- its numbers fit in 32 bits
abbrev pub HasNumbers : Question → Type 0
HasNumbers Rows = ⊤
HasNumbers Short = ⊤
HasNumbers OldRows = ⊤
HasNumbers OldShort = ⊤
HasNumbers Summary = ⊤
HasNumbers OldSummary = ⊤
HasNumbers Pmap = ⊤
HasNumbers (Entries prog vers) = IsNumber prog × IsNumber vers
HasNumbers Stats = ⊤
HasNumbers (Port prot prog vers) = IsNumber prot × IsNumber prog × IsNumber vers
HasNumbers (Address netid prog vers) = IsNumber prog × IsNumber vers
HasNumbers (Null prog vers) = IsNumber prog × IsNumber vers
HasNumbers (Probe prog vers) = IsNumber prog × IsNumber vers
HasNumbers (Callit prog vers) = IsNumber prog × IsNumber vers
HasNumbers (Unset netid prog vers) = IsNumber prog × IsNumber vers

-- procedure 0 of a program's version, with arguments of no bytes
abbrev pub remote_of : ℕ → ℕ → RemoteCall
remote_of prog vers = record { prog = prog; vers = vers; proc = 0; count = 0 }

-- the request that a question to the portmapper is
abbrev pub request_of : Question → Option Request
request_of Rows = Some (Void voids.Dump)
request_of Short = Some (Void voids.Dump)
request_of OldRows = Some (Void voids.PmapDump)
request_of OldShort = Some (Void voids.PmapDump)
request_of Summary = Some (Void voids.Dump)
request_of OldSummary = Some (Void voids.PmapDump)
request_of Pmap = Some (Void voids.PmapDump)
request_of (Entries prog vers) = Some (Rpcb rpcbs.Getaddrlist (rpcb_of None prog vers))
request_of Stats = Some (Void voids.Getstat)
request_of (Port prot prog vers) = Some (Mapping mappings.Getport (mapping_of prot prog vers))
request_of (Address netid prog vers) = Some (Rpcb rpcbs.Getaddr (rpcb_of (Some netid) prog vers))
request_of (Null prog vers) = None
request_of (Probe prog vers) = None
request_of (Callit prog vers) = Some (Forward kinds.Callit2 (remote_of prog vers))
request_of (Unset netid prog vers) = Some (Rpcb rpcbs.Unset (rpcb_of netid prog vers))

-- its version and number, and its arguments, ask for that request
abbrev pub IsRequest : Question → Option Request → Type 0
IsRequest question (Some r) = Asks (procedure_of question).1 (procedure_of question).2 r (arguments_of question)
IsRequest question None = ⊤

abbrev pub QuestionsAreRequests : Type 0
QuestionsAreRequests = (question : Question) → HasNumbers question → IsRequest question (request_of question)
