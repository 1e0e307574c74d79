-- A line for each program, with the versions and netids of its rows, as others' `rpcinfo -s` has them.
use Rattle.std.specs.Prelude.{ℕ, ◌≡◌, ◌==◌, ◌&&◌, not, if◌then◌else◌, List, [], ◌∷◌, ◌++◌, map, codes, Option, Some, None}
use Rattle.std.specs.Fmt.{decimal}
use Rattle.std.specs.List.{find, flat_map, fold, list_any}
use Rattle.std.specs.Borrow.{Bor}
use Rattle.std.specs.Str.{bytes_eq}
use Rattle.std.specs.String.{string_bytes}
use Rattle.rb_words.specs.Services.{name_of}
use Rattle.rb_arguments.specs.declared.rpcb.Rpcb.{Rpcb}
use Rattle.rb_show.specs.declared.form.Form.{Form}
use Rattle.rb_show.specs.declared.form.Form.TheVariants.{Plain, Named, Json}
use Rattle.rb_show.specs.declared.summary.Row.{Row}
use Rattle.rb_show.specs.Texts.{shown_text, at_left, at_right, joined}
use Rattle.rb_show.specs.Lines.{name_text}

-- ---- rows

-- a row, with its texts as they are shown
pub record ShownRow : Type 0 where
  pub prog : ℕ
  pub vers : ℕ
  pub netid : List ℕ
  pub owner : List ℕ

abbrev pub shown_row : Row → ShownRow
shown_row row = record { prog = row.prog; vers = row.vers; netid = string_bytes row.netid; owner = string_bytes row.owner }

abbrev pub shown_rows : List Row → List ShownRow
shown_rows rows = map shown_row rows

abbrev pub as_shown : Rpcb → ShownRow
as_shown r = record { prog = r.prog; vers = r.vers; netid = shown_text r.netid; owner = shown_text r.owner }

-- the texts after their borrows
abbrev pub borrowed_texts : List (Bor (List ℕ)) → List (List ℕ)
borrowed_texts texts = map (λ text. text.now) texts

-- ---- what a program has

abbrev pub add_program : List ℕ → ShownRow → List ℕ
add_program seen row = if list_any (λ prog. prog == row.prog) seen then seen else seen ++ row.prog ∷ []

-- SUMMARY-1: A summary has a line for each program, in the order in which they appear, and is
-- printed once the last row was read.
abbrev pub programs_of : List ShownRow → List ℕ
programs_of rows = fold add_program [] rows

abbrev pub add_version : ℕ → List ℕ → ShownRow → List ℕ
add_version prog seen row = if row.prog == prog && not (list_any (λ vers. vers == row.vers) seen) then row.vers ∷ seen else seen

-- a row's version came to those that were there
abbrev pub AddsVersion : ℕ → ShownRow → List ℕ → List ℕ → Type 0
AddsVersion prog row old new = new ≡ add_version prog old row

-- SUMMARY-2: A program's line in a summary has its own versions and netids, each once, in the
-- reverse order of their first appearance.
abbrev pub versions_of : List ShownRow → ℕ → List ℕ
versions_of rows prog = fold (add_version prog) [] rows

abbrev pub add_netid : ℕ → List (List ℕ) → ShownRow → List (List ℕ)
add_netid prog seen row = if row.prog == prog && not (list_any (λ netid. bytes_eq netid row.netid) seen) then row.netid ∷ seen else seen

-- a row's netid came to those that were there
abbrev pub AddsNetid : ℕ → ShownRow → List (Bor (List ℕ)) → List (Bor (List ℕ)) → Type 0
AddsNetid prog row old new = borrowed_texts new ≡ add_netid prog (borrowed_texts old) row

-- and its netids, in the same way
-- SUMMARY-2
abbrev pub netids_of : List ShownRow → ℕ → List (List ℕ)
netids_of rows prog = fold (add_netid prog) [] rows

abbrev pub owner_in : Option ShownRow → List ℕ
owner_in (Some row) = row.owner
owner_in None = []

-- SUMMARY-3: A program's owner in a summary is that of its first row.
abbrev pub owner_of : List ShownRow → ℕ → List ℕ
owner_of rows prog = owner_in (find (λ row. row.prog == prog) rows)

-- ---- lines

-- with commas between them
abbrev pub comma_list : List (List ℕ) → List ℕ
comma_list texts = joined (codes ",") texts

abbrev pub service_text : Form → ℕ → List ℕ
service_text Plain prog = codes "-"
service_text Json prog = codes "-"
service_text (Named services) prog = name_text (name_of services.now prog)

abbrev pub summary_heading : List ℕ
summary_heading = codes "   program version(s) netid(s)                         service     owner\n"

abbrev pub versions_text : List ShownRow → ℕ → List ℕ
versions_text rows prog = at_left 10 (comma_list (map decimal (versions_of rows prog)))

abbrev pub netids_text : List ShownRow → ℕ → List ℕ
netids_text rows prog = at_left 32 (comma_list (netids_of rows prog))

-- program, versions, netids, service and owner
abbrev pub summary_line : Form → List ShownRow → ℕ → List ℕ
summary_line form rows prog = at_right 10 (decimal prog) ++ (codes "  " ++ (versions_text rows prog ++ (netids_text rows prog
    ++ (codes " " ++ (at_left 11 (service_text form prog) ++ (codes " " ++ (owner_of rows prog ++ codes "\n")))))))

-- a line for each program, after the heading
-- SUMMARY-1
abbrev pub summary_text : Form → List ShownRow → List ℕ
summary_text form rows = summary_heading ++ flat_map (summary_line form rows) (programs_of rows)

-- the rows that items stand for
abbrev pub items_shown : {A : Type 0} → (A → Rpcb) → List A → List ShownRow
items_shown stands_for items = map (λ item. as_shown (stands_for item)) items

-- their summary
abbrev pub items_summary : {A : Type 0} → Form → (A → Rpcb) → List A → List ℕ
items_summary form stands_for items = summary_text form (items_shown stands_for items)
