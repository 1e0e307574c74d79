-- The lines that are printed.
use Rattle.std.specs.Prelude.{ℕ, Bool, true, false, if◌then◌else◌, List, [], ◌++◌, codes, Option, Some, None}
use Rattle.std.specs.Fmt.{decimal}
use Rattle.rb_words.specs.Services.{name_of}
use Rattle.rb_arguments.specs.declared.mapping.Mapping.{Mapping}
use Rattle.rb_arguments.specs.declared.rpcb.Rpcb.{Rpcb}
use Rattle.rb_arguments.specs.declared.entry.Entry.{Entry}
use Rattle.rb_show.specs.declared.form.Form.{Form}
use Rattle.rb_show.specs.declared.form.Form.TheVariants.{Plain, Named, Json}
use Rattle.rb_show.specs.Texts.{shown_text, at_left, at_right, prot_text}
use Rattle.rb_show.specs.Objects.{row_object, mapping_object, entry_object}

-- ---- lines

abbrev pub is_json : Form → Bool
is_json Plain = false
is_json (Named services) = false
is_json Json = true

-- the name of a program, or `-`
abbrev pub name_text : Option (List ℕ) → List ℕ
name_text (Some name) = shown_text name
name_text None = codes "-"

-- what stands after the columns of a line that speaks of a program
-- SHOW-8: With names each line of a list ends in the name of its own program, or `-`.
abbrev pub line_end : Form → ℕ → List ℕ
line_end Plain prog = codes "\n"
line_end Json prog = codes "\n"
line_end (Named services) prog = codes " " ++ (name_text (name_of services.now prog) ++ codes "\n")

-- of the table of mappings
abbrev pub heading : Form → List ℕ
heading Plain = codes "   program   vers proto  port\n"
heading Json = []
heading (Named services) = codes "   program   vers proto  port service\n"

abbrev pub mapping_columns : Mapping → List ℕ
mapping_columns m = at_right 10 (decimal m.prog) ++ (codes " " ++ (at_right 6 (decimal m.vers) ++ (codes " "
    ++ (at_left 5 (prot_text m.prot) ++ (codes " " ++ at_right 5 (decimal m.port))))))

abbrev pub mapping_line : Form → Mapping → List ℕ
mapping_line form m = if is_json form then mapping_object m else mapping_columns m ++ line_end form m.prog

-- program, version, netid, address and owner
abbrev pub row_columns : Form → Rpcb → List ℕ
row_columns form r = decimal r.prog ++ (codes " " ++ (decimal r.vers ++ (codes " " ++ (shown_text r.netid ++ (codes " " ++ (shown_text r.addr ++ (codes " " ++ (shown_text r.owner ++ line_end form r.prog))))))))

-- JSON-2
abbrev pub row_line : Form → Rpcb → List ℕ
row_line form r = if is_json form then row_object r else row_columns form r

abbrev pub short_line : Form → Rpcb → List ℕ
short_line form r = decimal r.prog ++ (codes " " ++ (decimal r.vers ++ (codes " " ++ (shown_text r.netid ++ line_end form r.prog))))

abbrev pub two_columns : List ℕ → List ℕ → List ℕ
two_columns first second = shown_text first ++ (codes " " ++ shown_text second)

-- netid and address, semantics, family and protocol of an address of this program
abbrev pub entry_columns : Form → ℕ → Entry → List ℕ
entry_columns form prog e = two_columns e.netid e.maddr ++ (codes " " ++ (decimal e.semantics ++ (codes " " ++ (two_columns e.protofmly e.proto ++ line_end form prog))))

abbrev pub entry_line : Form → ℕ → Entry → List ℕ
entry_line form prog e = if is_json form then entry_object e else entry_columns form prog e
