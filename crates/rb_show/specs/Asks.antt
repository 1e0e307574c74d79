-- What is asked of a portmapper (RFC 1833 sections 2.2 and 3.2), and the call that asks it.
use Rattle.std.specs.Prelude.{ℕ, List, [], ◌++◌, length, true, Option, Some, None, unwrap_or}
use Rattle.std.specs.Io.KnownBytes.{Appends}
use Rattle.rb_xdr.specs.Xdr.{number}
use Rattle.rb_rpc.specs.CallBytes.{call_bytes}
use Rattle.rb_rpc.specs.declared.call.CallHead.{CallHead}
use Rattle.rb_rpc.specs.declared.call.Credential.{Credential}
use Rattle.rb_rpc.specs.declared.call.Credential.TheVariants as credentials
use Rattle.rb_rpc.specs.Records.{fragment_header}
use Rattle.rb_arguments.specs.declared.procedure.Procedure.{Procedure}
use Rattle.rb_arguments.specs.declared.procedure.Procedure.TheVariants.{Void, Mapping as MappingOf, Rpcb as RpcbOf}
use Rattle.rb_arguments.specs.declared.procedure.VoidProcedure.TheVariants as voids
use Rattle.rb_arguments.specs.declared.procedure.MappingProcedure.TheVariants as mappings
use Rattle.rb_arguments.specs.declared.procedure.RpcbProcedure.TheVariants as rpcbs
use Rattle.rb_arguments.specs.declared.mapping.Mapping.{Mapping}
use Rattle.rb_arguments.specs.declared.rpcb.Rpcb.{Rpcb}
use Rattle.rb_arguments.specs.Numbers.{number_of}
use Rattle.rb_arguments.specs.Types.{mapping_spelling, rpcb_spelling}
use Rattle.rb_address.specs.declared.netid.Netid.{Netid}
use Rattle.rb_address.specs.Netids.{netid_text}
use Rattle.rb_show.specs.declared.ask.Ask.{Ask}
use Rattle.rb_show.specs.declared.ask.Question.{Question}
use Rattle.rb_show.specs.declared.ask.Question.TheVariants.{Rows, Short, OldRows, OldShort, Summary, OldSummary, Pmap, Entries, Stats, Port, Address, Null, Probe, Callit, Unset}

-- a procedure of the portmapper in a version that has it
abbrev pub of_portmapper : ℕ → Procedure → ℕ × ℕ × ℕ
of_portmapper vers procedure = (100000, vers, unwrap_or (number_of vers procedure) 0)

-- program, version and procedure
-- QUESTION-1: What is asked is a procedure of the table, by its number there.
abbrev pub procedure_of : Question → ℕ × ℕ × ℕ
procedure_of Rows = of_portmapper 3 (Void voids.Dump)
procedure_of Short = of_portmapper 3 (Void voids.Dump)
procedure_of OldRows = of_portmapper 2 (Void voids.PmapDump)
procedure_of OldShort = of_portmapper 2 (Void voids.PmapDump)
procedure_of Summary = of_portmapper 3 (Void voids.Dump)
procedure_of OldSummary = of_portmapper 2 (Void voids.PmapDump)
procedure_of Pmap = of_portmapper 2 (Void voids.PmapDump)
procedure_of (Entries prog vers) = of_portmapper 4 (RpcbOf rpcbs.Getaddrlist)
procedure_of Stats = of_portmapper 4 (Void voids.Getstat)
procedure_of (Port prot prog vers) = of_portmapper 2 (MappingOf mappings.Getport)
procedure_of (Address netid prog vers) = of_portmapper 3 (RpcbOf rpcbs.Getaddr)
procedure_of (Null prog vers) = (prog, vers, 0)
procedure_of (Probe prog vers) = (prog, vers, 0)
procedure_of (Callit prog vers) = (100000, 2, 5)
procedure_of (Unset netid prog vers) = of_portmapper 4 (RpcbOf rpcbs.Unset)

-- an empty text stands for every netid
abbrev pub netid_text_of : Option Netid → List ℕ
netid_text_of (Some netid) = netid_text netid
netid_text_of None = []

-- a program's version on a netid, or on every one
abbrev pub rpcb_of : Option Netid → ℕ → ℕ → Rpcb
rpcb_of netid prog vers = record { prog = prog; vers = vers; netid = netid_text_of netid; addr = []; owner = [] }

abbrev pub rpcb_arguments : Option Netid → ℕ → ℕ → List ℕ
rpcb_arguments netid prog vers = rpcb_spelling (rpcb_of netid prog vers)

-- a program's version over a protocol
abbrev pub mapping_of : ℕ → ℕ → ℕ → Mapping
mapping_of prot prog vers = record { prog = prog; vers = vers; prot = prot; port = 0 }

-- QUESTION-2: `-b` asks CALLIT of version 2 for procedure 0 of the program, with arguments of no
-- bytes.
abbrev pub callit_arguments : ℕ → ℕ → List ℕ
callit_arguments prog vers = (number prog ++ number vers) ++ (number 0 ++ number 0)

-- QUESTION-3: UNSET names the netid of `-T`, and none without it.
abbrev pub arguments_of : Question → List ℕ
arguments_of Rows = []
arguments_of Short = []
arguments_of OldRows = []
arguments_of OldShort = []
arguments_of Summary = []
arguments_of OldSummary = []
arguments_of Pmap = []
arguments_of (Entries prog vers) = rpcb_arguments None prog vers
arguments_of Stats = []
arguments_of (Port prot prog vers) = mapping_spelling (mapping_of prot prog vers)
arguments_of (Address netid prog vers) = rpcb_arguments (Some netid) prog vers
arguments_of (Null prog vers) = []
arguments_of (Probe prog vers) = []
arguments_of (Callit prog vers) = callit_arguments prog vers
arguments_of (Unset netid prog vers) = rpcb_arguments netid prog vers

-- AUTH_NONE without a uid
abbrev pub credential_of : Option ℕ → Credential
credential_of (Some uid) = credentials.Sys uid
credential_of None = credentials.None

abbrev pub head_of : Ask → ℕ → CallHead
head_of ask xid = record {
  xid = xid;
  prog = (procedure_of ask.question).0;
  vers = (procedure_of ask.question).1;
  proc = (procedure_of ask.question).2;
  cred = credential_of ask.uid;
}

unfoldable pub call_of : Ask → ℕ → List ℕ
call_of ask xid = call_bytes (head_of ask xid) ++ arguments_of ask.question

-- in one fragment
abbrev pub marked_call : Ask → ℕ → List ℕ
marked_call ask xid = fragment_header (length (call_of ask xid)) true ++ call_of ask xid

-- these bytes were written, and nothing else
abbrev pub Writes : {W : Type 0} → (W → Option (List ℕ)) → W → W → List ℕ → Type 0
Writes contents writer writer' bytes = Appends (contents writer) (contents writer') bytes
