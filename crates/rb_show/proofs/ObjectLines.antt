-- The objects that are shown are lines of JSON.
use Rattle.std.proofs.Common.{◌≡◌, ◌<◌, ◌++◌, ◌∷◌, [], ℕ, suc, List, map, refl, sym, subst, append_assoc, append-nil, arith}
use Rattle.std.specs.Prelude.{codes, ℤ}
use Rattle.std.specs.Fmt.{decimal, signed_decimal}
use Rattle.std.specs.List.{AllByRecursion}
use Rattle.rb_xdr.specs.Xdr.{AreBytes, IsNumber, IsContent}
use Rattle.rb_arguments.specs.declared.mapping.Mapping.{Mapping}
use Rattle.rb_arguments.specs.declared.rpcb.Rpcb.{Rpcb}
use Rattle.rb_arguments.specs.declared.entry.Entry.{Entry}
use Rattle.rb_arguments.specs.Types.{IsMapping, IsRpcb, IsEntry}
use Rattle.rb_show.specs.Json.{json_text}
use Rattle.rb_show.specs.JsonGrammar.{IsValue, AreValues, AreMembers}
use Rattle.rb_show.specs.Objects.{program_members, place_members, row_members, row_object, mapping_object, family_members, entry_object, info_items, numbers_object, found_members, look_ups_object, procedure_members, outcomes_members, forwards_object}
use Rattle.rb_show.specs.ObjectLaws.{IsObjectLine}
use Rattle.rb_show.specs.Statistics.{VersionStat, AddrStat, CallStat, IsInt, AreInts, IsVersionStat, IsAddrStat, IsCallStat}
use Rattle.rb_show.specs.Texts.{joined}
use Rattle.rb_show.proofs.JsonGrammar.{Printed, number, signed_number, string, member, members_joined, one_value, values_joined, array, object_line}

-- ---- fields of a reply

by_recursion : (bytes : List ℕ) → AreBytes bytes → AllByRecursion (λ b. b < 256) bytes
by_recursion [] are = tt
by_recursion (b ∷ bytes) are = (are 0, by_recursion bytes (λ i. are (suc i)))

pub content : (limit : ℕ) (text : List ℕ) → IsContent limit text → Printed IsValue (json_text text)
content limit text fits = string text (by_recursion text fits.2)

pub field : (n : ℕ) → IsNumber n → Printed IsValue (decimal n)
field n small = number n (omega (arith, small))

-- ---- lists

program_are : (prog vers : ℕ) → IsNumber prog → IsNumber vers → Printed AreMembers (program_members prog vers)
program_are prog vers p v = members_joined (member (codes "program") refl (field prog p)) (member (codes "version") refl (field vers v))

place_are : (netid addr : List ℕ) → Printed IsValue (json_text netid) → Printed IsValue (json_text addr) → Printed AreMembers (place_members netid addr)
place_are netid addr n a = members_joined (member (codes "netid") refl n) (member (codes "address") refl a)

row_text : (row owner : List ℕ) → codes "{" ++ (row ++ (codes ",\"owner\":" ++ (owner ++ codes "}\n"))) ≡ codes "{" ++ ((row ++ (codes ",\"owner\":" ++ owner)) ++ codes "}\n")
row_text row owner = simp append_assoc

pub row_is : (r : Rpcb) → IsRpcb r → IsObjectLine (row_object r)
row_is r fits =
    let row : Printed AreMembers (row_members r.prog r.vers r.netid r.addr) =
    members_joined (program_are r.prog r.vers fits.prog fits.vers) (place_are r.netid r.addr (content 32 r.netid fits.netid) (content 128 r.addr fits.addr)) in
    object_line (row_members r.prog r.vers r.netid r.addr ++ (codes ",\"owner\":" ++ json_text r.owner)) (row_object r)
    (members_joined row (member (codes "owner") refl (content 128 r.owner fits.owner)))
    (row_text (row_members r.prog r.vers r.netid r.addr) (json_text r.owner))

mapping_text : (program prot port : List ℕ) → codes "{" ++ (program ++ (codes ",\"protocol\":" ++ (prot ++ (codes ",\"port\":" ++ (port ++ codes "}\n"))))) ≡ codes "{" ++ ((program ++ (codes ",\"protocol\":" ++ (prot ++ (codes ",\"port\":" ++ port)))) ++ codes "}\n")
mapping_text program prot port = simp append_assoc

pub mapping_is : (m : Mapping) → IsMapping m → IsObjectLine (mapping_object m)
mapping_is m fits =
    object_line (program_members m.prog m.vers ++ (codes ",\"protocol\":" ++ (decimal m.prot ++ (codes ",\"port\":" ++ decimal m.port)))) (mapping_object m)
    (members_joined (program_are m.prog m.vers fits.prog fits.vers) (members_joined (member (codes "protocol") refl (field m.prot fits.prot)) (member (codes "port") refl (field m.port fits.port))))
    (mapping_text (program_members m.prog m.vers) (decimal m.prot) (decimal m.port))

entry_text : (place semantics family : List ℕ) → codes "{" ++ (place ++ (codes ",\"semantics\":" ++ (semantics ++ (codes "," ++ (family ++ codes "}\n"))))) ≡ codes "{" ++ ((place ++ (codes ",\"semantics\":" ++ (semantics ++ (codes "," ++ family)))) ++ codes "}\n")
entry_text place semantics family = simp append_assoc

family_are : (family proto : List ℕ) → Printed IsValue (json_text family) → Printed IsValue (json_text proto) → Printed AreMembers (family_members family proto)
family_are family proto f p = members_joined (member (codes "family") refl f) (member (codes "protocol") refl p)

pub entry_is : (e : Entry) → IsEntry e → IsObjectLine (entry_object e)
entry_is e fits =
    object_line (place_members e.netid e.maddr ++ (codes ",\"semantics\":" ++ (decimal e.semantics ++ (codes "," ++ family_members e.protofmly e.proto)))) (entry_object e)
    (members_joined (place_are e.netid e.maddr (content 32 e.netid fits.netid) (content 128 e.maddr fits.maddr))
    (members_joined (member (codes "semantics") refl (field e.semantics fits.semantics)) (family_are e.protofmly e.proto (content 32 e.protofmly fits.protofmly) (content 32 e.proto fits.proto))))
    (entry_text (place_members e.netid e.maddr) (decimal e.semantics) (family_members e.protofmly e.proto))

-- ---- statistics

int_value : (z : ℤ) → IsInt z → Printed AreValues (signed_decimal z)
int_value z fits = one_value (signed_number z fits)

some_values : (n : ℤ) (ns : List ℤ) → AllByRecursion IsInt (n ∷ ns) → Printed AreValues (joined (codes ",") (map signed_decimal (n ∷ ns)))
some_values n [] fits = subst (Printed AreValues) (sym (append-nil (signed_decimal n))) (int_value n fits.0)
some_values n (m ∷ ns) fits = values_joined (int_value n fits.0) (some_values m ns fits.1)

ints_are : (k : ℕ) (ns : List ℤ) → AreInts (suc k) ns → Printed AreValues (joined (codes ",") (map signed_decimal ns))
ints_are k [] are = absurd (omega (arith, are.0))
ints_are k (n ∷ ns) are = some_values n ns are.1

pub info_are : (s : VersionStat) → IsVersionStat s → Printed AreValues (info_items s)
info_are s fits = ints_are 12 s.info fits.info

numbers_text : (begin name rpcbind comma info_name bracket info closed set_name set unset_name unset end : List ℕ)
    → begin ++ (name ++ (rpcbind ++ (comma ++ (info_name ++ (bracket ++ (info ++ (closed ++ (comma ++ (set_name ++ (set ++ (unset_name ++ (unset ++ end))))))))))))
    ≡ begin ++ (((name ++ rpcbind) ++ (comma ++ ((info_name ++ (bracket ++ (info ++ closed))) ++ (comma ++ ((set_name ++ set) ++ (unset_name ++ unset)))))) ++ end)
numbers_text begin name rpcbind comma info_name bracket info closed set_name set unset_name unset end = simp append_assoc

pub numbers_is : (rpcbind : ℕ) (s : VersionStat) → IsNumber rpcbind → IsVersionStat s → IsObjectLine (numbers_object rpcbind s)
numbers_is rpcbind s small fits =
    object_line _ (numbers_object rpcbind s)
    (members_joined (member (codes "rpcbind") refl (field rpcbind small))
    (members_joined (member (codes "info") refl (array (info_are s fits)))
    (members_joined (member (codes "set") refl (signed_number s.setinfo fits.setinfo)) (member (codes "unset") refl (signed_number s.unsetinfo fits.unsetinfo)))))
    (numbers_text (codes "{") (codes "\"rpcbind\":") (decimal rpcbind) (codes ",") (codes "\"info\":") (codes "[") (info_items s) (codes "]") (codes "\"set\":") (signed_decimal s.setinfo) (codes ",\"unset\":") (signed_decimal s.unsetinfo) (codes "}\n"))

-- the version of rpcbind, other members, a netid, and others
counted_text : (begin name rpcbind comma first netid_name netid last end : List ℕ)
    → begin ++ (name ++ (rpcbind ++ (comma ++ (first ++ (comma ++ (netid_name ++ (netid ++ (comma ++ (last ++ end)))))))))
    ≡ begin ++ (((name ++ rpcbind) ++ (comma ++ (first ++ (comma ++ ((netid_name ++ netid) ++ (comma ++ last)))))) ++ end)
counted_text begin name rpcbind comma first netid_name netid last end = simp append_assoc

counted_line : (rpcbind : ℕ) (netid : List ℕ) {first last : List ℕ} → IsNumber rpcbind → IsContent 32 netid → Printed AreMembers first → Printed AreMembers last
    → IsObjectLine (codes "{\"rpcbind\":" ++ (decimal rpcbind ++ (codes "," ++ (first ++ (codes ",\"netid\":" ++ (json_text netid ++ (codes "," ++ (last ++ codes "}\n"))))))))
counted_line rpcbind netid {first} {last} small fits f l =
    object_line _ _
    (members_joined (member (codes "rpcbind") refl (field rpcbind small)) (members_joined f (members_joined (member (codes "netid") refl (content 32 netid fits)) l)))
    (counted_text (codes "{") (codes "\"rpcbind\":") (decimal rpcbind) (codes ",") first (codes "\"netid\":") (json_text netid) last (codes "}\n"))

found_are : (s : AddrStat) → IsAddrStat s → Printed AreMembers (found_members s)
found_are s fits = members_joined (member (codes "success") refl (signed_number s.success fits.success)) (member (codes "failure") refl (signed_number s.failure fits.failure))

pub look_ups_is : (rpcbind : ℕ) (s : AddrStat) → IsNumber rpcbind → IsAddrStat s → IsObjectLine (look_ups_object rpcbind s)
look_ups_is rpcbind s small fits = counted_line rpcbind s.netid small fits.netid (program_are s.prog s.vers fits.prog fits.vers) (found_are s fits)

procedure_are : (s : CallStat) → IsCallStat s → Printed AreMembers (procedure_members s)
procedure_are s fits = members_joined (program_are s.prog s.vers fits.prog fits.vers) (member (codes "procedure") refl (field s.proc fits.proc))

outcomes_are : (s : CallStat) → IsCallStat s → Printed AreMembers (outcomes_members s)
outcomes_are s fits =
    members_joined (member (codes "success") refl (signed_number s.success fits.success)) (members_joined (member (codes "failure") refl (signed_number s.failure fits.failure)) (member (codes "indirect") refl (signed_number s.indirect fits.indirect)))

pub forwards_is : (rpcbind : ℕ) (s : CallStat) → IsNumber rpcbind → IsCallStat s → IsObjectLine (forwards_object rpcbind s)
forwards_is rpcbind s small fits = counted_line rpcbind s.netid small fits.netid (procedure_are s fits) (outcomes_are s fits)
