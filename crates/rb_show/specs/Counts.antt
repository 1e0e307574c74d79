-- What the reply to GETSTAT tells (RFC 1833 section 2.1, rpcb_stat_byvers).
use Rattle.std.specs.Prelude.{ℕ, ◌+◌, if◌then◌else◌, List, [], ◌∷◌, ◌++◌, map, codes}
use Rattle.std.specs.Fmt.{decimal, signed_decimal}
use Rattle.rb_show.specs.Telling.{Teller, ◌>>=◌, give, tell, take_one}
use Rattle.rb_show.specs.Lists.{tell_items, greatest_list}
use Rattle.rb_show.specs.declared.show.Shown.{Shown}
use Rattle.rb_show.specs.declared.show.Shown.TheVariants.{Statistics}
use Rattle.rb_show.specs.declared.form.Form.{Form}
use Rattle.rb_show.specs.Texts.{shown_text, joined}
use Rattle.rb_show.specs.Lines.{is_json}
use Rattle.rb_show.specs.Statistics.{VersionStat, VersionFields, read_version, version_stat, AddrStat, AddrFields, read_addr, addr_stat, CallStat, CallFields, read_call, call_stat}
use Rattle.rb_show.specs.Objects.{numbers_object, look_ups_object, forwards_object}

-- ---- lines

abbrev pub version_line : ℕ → List ℕ
version_line vers = codes "version " ++ (decimal vers ++ codes "\n")

abbrev pub info_line : VersionStat → List ℕ
info_line s = codes "info " ++ (joined (codes " ") (map signed_decimal s.info) ++ codes "\n")

abbrev pub sets_line : VersionStat → List ℕ
sets_line s = codes "set " ++ (signed_decimal s.setinfo ++ (codes " unset " ++ (signed_decimal s.unsetinfo ++ codes "\n")))

abbrev pub addr_columns : AddrStat → List ℕ
addr_columns s = codes "addr " ++ (decimal s.prog ++ (codes " " ++ (decimal s.vers ++ (codes " " ++ (shown_text s.netid
    ++ (codes " " ++ (signed_decimal s.success ++ (codes " " ++ (signed_decimal s.failure ++ codes "\n")))))))))

-- look-ups that a version of rpcbind answered
abbrev pub addr_line : Form → ℕ → AddrFields → List ℕ
addr_line form rpcbind a = if is_json form then look_ups_object rpcbind (addr_stat a) else addr_columns (addr_stat a)

-- program, version and procedure
abbrev pub procedure_text : CallStat → List ℕ
procedure_text s = decimal s.prog ++ (codes " " ++ (decimal s.vers ++ (codes " " ++ decimal s.proc)))

abbrev pub outcomes_text : CallStat → List ℕ
outcomes_text s = signed_decimal s.success ++ (codes " " ++ (signed_decimal s.failure ++ (codes " " ++ signed_decimal s.indirect)))

abbrev pub call_columns : CallStat → List ℕ
call_columns s = codes "call " ++ (procedure_text s ++ (codes " " ++ (shown_text s.netid ++ (codes " " ++ (outcomes_text s ++ codes "\n")))))

-- calls that a version of rpcbind forwarded
abbrev pub call_line : Form → ℕ → CallFields → List ℕ
call_line form rpcbind c = if is_json form then forwards_object rpcbind (call_stat c) else call_columns (call_stat c)

-- ---- all of it

-- the two lists of a version, and how many items each has
unfoldable pub tell_lists : Form → ℕ → Teller (ℕ × ℕ)
tell_lists form vers =
    tell_items read_addr (addr_line form vers) greatest_list 0 >>= λ found. tell_items read_call (call_line form vers) greatest_list 0 >>= λ called. give (found, called)

-- the lines of a version's numbers
abbrev pub count_lines : Form → ℕ → VersionStat → List (List ℕ)
count_lines form vers n = if is_json form then numbers_object vers n ∷ [] else version_line vers ∷ info_line n ∷ sets_line n ∷ []

unfoldable pub tell_version : Form → ℕ → Teller (ℕ × ℕ)
tell_version form vers = take_one read_version >>= λ (v : VersionFields). tell (count_lines form vers (version_stat v)) >>= λ _. tell_lists form vers

abbrev pub total : ℕ × ℕ → ℕ × ℕ → ℕ × ℕ → ℕ
total a b c = a.0 + a.1 + b.0 + b.1 + c.0 + c.1

-- SHOW-4: What GETSTAT gives is shown as versions 2, 3 and 4, in this order.
unfoldable pub tell_statistics : Form → Teller Shown
tell_statistics form = tell_version form 2 >>= λ a. tell_version form 3 >>= λ b. tell_version form 4 >>= λ c. give (Statistics (total a b c))
