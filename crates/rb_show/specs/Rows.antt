-- The rows that the items of DUMP stand for (RFC 1833 sections 2.1 and 3.1).
use Rattle.std.specs.Prelude.{ℕ, ◌/◌, ◌%◌, List, ◌++◌, codes}
use Rattle.std.specs.Fmt.{decimal}
use Rattle.rb_arguments.specs.declared.mapping.Mapping.{Mapping}
use Rattle.rb_arguments.specs.declared.rpcb.Rpcb.{Rpcb}
use Rattle.rb_show.specs.Texts.{prot_text}

-- a row of version 3 stands for itself
abbrev pub itself : Rpcb → Rpcb
itself r = r

-- the address of a port on every host
abbrev pub address_of_port : ℕ → List ℕ
address_of_port port = codes "0.0.0.0." ++ (decimal (port / 256) ++ (codes "." ++ decimal (port % 256)))

-- SHOW-6: A mapping of version 2 is the row at 0.0.0.0 and its port, with the owner `unknown`, if
-- rows are asked for.
abbrev pub mapping_row : Mapping → Rpcb
mapping_row m = record {
  prog = m.prog;
  vers = m.vers;
  netid = prot_text m.prot;
  addr = address_of_port m.port;
  owner = codes "unknown";
}
