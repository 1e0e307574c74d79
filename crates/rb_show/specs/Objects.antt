-- Objects of JSON (RFC 8259), one on each line.
use Rattle.std.specs.Prelude.{ℕ, List, ◌++◌, map, codes}
use Rattle.std.specs.Fmt.{decimal, signed_decimal}
use Rattle.rb_arguments.specs.declared.mapping.Mapping.{Mapping}
use Rattle.rb_arguments.specs.declared.rpcb.Rpcb.{Rpcb}
use Rattle.rb_arguments.specs.declared.entry.Entry.{Entry}
use Rattle.rb_show.specs.Statistics.{VersionStat, AddrStat, CallStat}
use Rattle.rb_show.specs.Json.{json_text}
use Rattle.rb_show.specs.Texts.{joined}

-- ---- lists

abbrev pub program_members : ℕ → ℕ → List ℕ
program_members prog vers = codes "\"program\":" ++ (decimal prog ++ (codes ",\"version\":" ++ decimal vers))

abbrev pub place_members : List ℕ → List ℕ → List ℕ
place_members netid addr = codes "\"netid\":" ++ (json_text netid ++ (codes ",\"address\":" ++ json_text addr))

abbrev pub row_members : ℕ → ℕ → List ℕ → List ℕ → List ℕ
row_members prog vers netid addr = program_members prog vers ++ (codes "," ++ place_members netid addr)

-- JSON-2: With `--json` each line is an object with all that the columns have.
abbrev pub row_object : Rpcb → List ℕ
row_object r = codes "{" ++ (row_members r.prog r.vers r.netid r.addr ++ (codes ",\"owner\":" ++ (json_text r.owner ++ codes "}\n")))

abbrev pub mapping_object : Mapping → List ℕ
mapping_object m = codes "{" ++ (program_members m.prog m.vers ++ (codes ",\"protocol\":" ++ (decimal m.prot ++ (codes ",\"port\":" ++ (decimal m.port ++ codes "}\n")))))

-- the family and the protocol of an address
abbrev pub family_members : List ℕ → List ℕ → List ℕ
family_members family proto = codes "\"family\":" ++ (json_text family ++ (codes ",\"protocol\":" ++ json_text proto))

abbrev pub entry_object : Entry → List ℕ
entry_object e = codes "{" ++ (place_members e.netid e.maddr ++ (codes ",\"semantics\":" ++ (decimal e.semantics ++ (codes "," ++ (family_members e.protofmly e.proto ++ codes "}\n")))))

-- ---- statistics of a version of rpcbind

abbrev pub info_items : VersionStat → List ℕ
info_items s = joined (codes ",") (map signed_decimal s.info)

abbrev pub numbers_object : ℕ → VersionStat → List ℕ
numbers_object rpcbind s = codes "{\"rpcbind\":" ++ (decimal rpcbind ++ (codes ",\"info\":[" ++ (info_items s ++ (codes "],\"set\":" ++ (signed_decimal s.setinfo
    ++ (codes ",\"unset\":" ++ (signed_decimal s.unsetinfo ++ codes "}\n")))))))

-- how look-ups ended
abbrev pub found_members : AddrStat → List ℕ
found_members s = codes "\"success\":" ++ (signed_decimal s.success ++ (codes ",\"failure\":" ++ signed_decimal s.failure))

abbrev pub look_ups_object : ℕ → AddrStat → List ℕ
look_ups_object rpcbind s = codes "{\"rpcbind\":" ++ (decimal rpcbind ++ (codes "," ++ (program_members s.prog s.vers
    ++ (codes ",\"netid\":" ++ (json_text s.netid ++ (codes "," ++ (found_members s ++ codes "}\n")))))))

-- the program, version and procedure of forwarded calls
abbrev pub procedure_members : CallStat → List ℕ
procedure_members s = program_members s.prog s.vers ++ (codes ",\"procedure\":" ++ decimal s.proc)

-- how forwarded calls ended
abbrev pub outcomes_members : CallStat → List ℕ
outcomes_members s = codes "\"success\":" ++ (signed_decimal s.success ++ (codes ",\"failure\":" ++ (signed_decimal s.failure
    ++ (codes ",\"indirect\":" ++ signed_decimal s.indirect))))

abbrev pub forwards_object : ℕ → CallStat → List ℕ
forwards_object rpcbind s = codes "{\"rpcbind\":" ++ (decimal rpcbind ++ (codes "," ++ (procedure_members s
    ++ (codes ",\"netid\":" ++ (json_text s.netid ++ (codes "," ++ (outcomes_members s ++ codes "}\n")))))))
