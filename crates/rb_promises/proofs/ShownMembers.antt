-- The objects that are shown have their members.
use Rattle.std.proofs.Common.{◌≡◌, ◌≢◌, ℕ, Bool, true, false, List, [], ◌∷◌, ◌++◌, map, refl, sym, ap, ◌∙◌, append_assoc, arith}
use Rattle.std.specs.Prelude.{ℤ, codes, ◌&&◌, not}
use Rattle.std.specs.Fmt.{decimal, signed_decimal}
use Rattle.std.specs.List.{AllByRecursion, list_all}
use Rattle.std.specs.Str.{bytes_eq}
use Rattle.std.proofs.lemmas.Bool.{and_parts}
use Rattle.std.proofs.lemmas.Bool.Decides.{not_from_Decides}
use Rattle.std.proofs.lemmas.Slice.Eq.{bytes_eq-Decides}
use Rattle.rb_xdr.specs.Xdr.{IsNumber, IsContent}
use Rattle.rb_arguments.specs.declared.mapping.Mapping.{Mapping}
use Rattle.rb_arguments.specs.declared.rpcb.Rpcb.{Rpcb}
use Rattle.rb_arguments.specs.declared.entry.Entry.{Entry}
use Rattle.rb_arguments.specs.Types.{IsMapping, IsRpcb, IsEntry}
use Rattle.rb_show.specs.Json.{json_text}
use Rattle.rb_show.specs.JsonGrammar.{IsMark, IsValue, IsObject, AreMembers, IsMember}
use Rattle.rb_show.specs.JsonGrammar.IsObject.{Members}
use Rattle.rb_show.specs.JsonGrammar.AreMembers.{OneMember, MoreMembers}
use Rattle.rb_show.specs.JsonGrammar.IsMember.{Member}
use Rattle.rb_show.specs.Objects.{row_object, mapping_object, entry_object, info_items, numbers_object, look_ups_object, forwards_object}
use Rattle.rb_show.specs.Statistics.{VersionStat, AddrStat, CallStat, IsInt, IsVersionStat, IsAddrStat, IsCallStat}
use Rattle.rb_show.proofs.JsonGrammar.{signed_number, array}
use Rattle.rb_promises.specs.JsonMembers.{member_names, row_names, mapping_names, entry_names, numbers_names, look_ups_names, forwards_names, HasMembers, IsLineOf, EachHasItsMembers, AreDistinct, NoNameIsTwice}
use Rattle.rb_promises.specs.JsonMembers.AreNamesOf.{OfRow, OfOldRow, OfMapping, OfEntry, OfNumbers, OfLookUps, OfForwards}
use Rattle.rb_show.proofs.ObjectLines.{content, field, info_are}
use Rattle.rb_show.proofs.LineTellers.{ObjectsAre, each_line}
use Rattle.rb_promises.proofs.PlainStrings.{is_plain, quoted, plain_string}
use Rattle.rb_promises.proofs.ReadTexts.{names_in_one_way}

-- ---- objects of these members

-- a name and a value
abbrev Pair : Type 0
Pair = List ℕ × List ℕ

abbrev IsPair : Pair → Type 0
IsPair pair = (list_all is_plain pair.0 ≡ true) × IsValue pair.1

abbrev pair_text : Pair → List ℕ
pair_text pair = quoted pair.0 ++ (58 ∷ pair.1)

abbrev pairs_text : Pair → List Pair → List ℕ
pairs_text pair [] = pair_text pair
pairs_text pair (other ∷ more) = pair_text pair ++ (44 ∷ pairs_text other more)

abbrev object_text : Pair → List Pair → List ℕ
object_text pair more = 123 ∷ (pairs_text pair more ++ 125 ∷ [])

mark : (m : ℕ) → IsMark m (m ∷ [])
mark m = record { before = []; after = []; is = refl; before_is = refl; after_is = refl }

is_member : (pair : Pair) → IsPair pair → IsMember (pair_text pair)
is_member pair is = Member (plain_string pair.0 is.0) (mark 58) is.1

are_members : (pair : Pair) (more : List Pair) → IsPair pair → AllByRecursion IsPair more → AreMembers (pairs_text pair more)
are_members pair [] is are = OneMember (is_member pair is)
are_members pair (other ∷ more) is are = MoreMembers (is_member pair is) (mark 44) (are_members other more are.0 are.1)

names_are : (pair : Pair) (more : List Pair) (is : IsPair pair) (are : AllByRecursion IsPair more) → member_names (are_members pair more is are) ≡ pair.0 ∷ map (λ (p : Pair). p.0) more
unfolding are_members is_member
names_are pair [] is are = refl
names_are pair (other ∷ more) is are = ap (λ (names : List (List ℕ)). pair.0 ∷ names) (names_are other more are.0 are.1)

-- such an object and a line feed, with nothing between brackets
abbrev flat_text : Pair → List Pair → List ℕ
flat_text pair [] = quoted pair.0 ++ (58 ∷ (pair.1 ++ codes "}\n"))
flat_text pair (other ∷ more) = quoted pair.0 ++ (58 ∷ (pair.1 ++ (44 ∷ flat_text other more)))

flat : (pair : Pair) (more : List Pair) → (pairs_text pair more ++ 125 ∷ []) ++ codes "\n" ≡ flat_text pair more
flat pair [] = append_assoc (pair_text pair) (125 ∷ []) (codes "\n") ∙ append_assoc (quoted pair.0) (58 ∷ pair.1) (codes "}\n")
flat pair (other ∷ more) =
    ap (λ (xs : List ℕ). xs ++ codes "\n") (append_assoc (pair_text pair) (44 ∷ pairs_text other more) (125 ∷ []))
    ∙ append_assoc (pair_text pair) (44 ∷ (pairs_text other more ++ 125 ∷ [])) (codes "\n")
    ∙ ap (λ (xs : List ℕ). pair_text pair ++ (44 ∷ xs)) (flat other more)
    ∙ append_assoc (quoted pair.0) (58 ∷ pair.1) (44 ∷ flat_text other more)

has_members : (pair : Pair) (more : List Pair) (line : List ℕ) → IsPair pair → AllByRecursion IsPair more → line ≡ 123 ∷ flat_text pair more → HasMembers (pair.0 ∷ map (λ (p : Pair). p.0) more) line
has_members pair more line is are e =
    let own : IsObject (object_text pair more) = Members (mark 123) (are_members pair more is are) (mark 125) in
    record {
      object = object_text pair more;
      is = e ∙ sym (ap (λ (xs : List ℕ). 123 ∷ xs) (flat pair more));
      is_object = own;
      each_reading = λ reading. names_in_one_way reading own ∙ names_are pair more is are;
    }

-- ---- values

text : (limit : ℕ) (bytes : List ℕ) → IsContent limit bytes → IsValue (json_text bytes)
text limit bytes fits = (content limit bytes fits).is

count : (n : ℕ) → IsNumber n → IsValue (decimal n)
count n small = (field n small).is

int : (z : ℤ) → IsInt z → IsValue (signed_decimal z)
int z fits = (signed_number z fits).is

-- ---- lists

-- with the labels of the values
row_text : (begin l1 program l2 version comma l3 netid l4 place l5 owner end : List ℕ)
    → begin ++ (((l1 ++ (program ++ (l2 ++ version))) ++ (comma ++ (l3 ++ (netid ++ (l4 ++ place))))) ++ (l5 ++ (owner ++ end)))
    ≡ begin ++ (l1 ++ (program ++ (l2 ++ (version ++ (comma ++ (l3 ++ (netid ++ (l4 ++ (place ++ (l5 ++ (owner ++ end)))))))))))
row_text begin l1 program l2 version comma l3 netid l4 place l5 owner end = simp append_assoc

row_flat : (program version netid place owner : List ℕ)
    → codes "{" ++ (((codes "\"program\":" ++ (program ++ (codes ",\"version\":" ++ version))) ++ (codes "," ++ (codes "\"netid\":" ++ (netid ++ (codes ",\"address\":" ++ place))))) ++ (codes ",\"owner\":" ++ (owner ++ codes "}\n")))
    ≡ 123 ∷ flat_text (codes "program", program) ((codes "version", version) ∷ (codes "netid", netid) ∷ (codes "address", place) ∷ (codes "owner", owner) ∷ [])
row_flat program version netid place owner =
    row_text (codes "{") (codes "\"program\":") program (codes ",\"version\":") version (codes ",") (codes "\"netid\":") netid (codes ",\"address\":") place (codes ",\"owner\":") owner (codes "}\n")

row_has : (r : Rpcb) → IsRpcb r → HasMembers row_names (row_object r)
row_has r fits =
    has_members (codes "program", decimal r.prog)
    ((codes "version", decimal r.vers) ∷ (codes "netid", json_text r.netid) ∷ (codes "address", json_text r.addr) ∷ (codes "owner", json_text r.owner) ∷ []) (row_object r)
    (refl, count r.prog fits.prog)
    ((refl, count r.vers fits.vers), ((refl, text 32 r.netid fits.netid), ((refl, text 128 r.addr fits.addr), ((refl, text 128 r.owner fits.owner), tt))))
    (row_flat (decimal r.prog) (decimal r.vers) (json_text r.netid) (json_text r.addr) (json_text r.owner))

mapping_text : (begin l1 program l2 version l3 prot l4 port end : List ℕ)
    → begin ++ ((l1 ++ (program ++ (l2 ++ version))) ++ (l3 ++ (prot ++ (l4 ++ (port ++ end)))))
    ≡ begin ++ (l1 ++ (program ++ (l2 ++ (version ++ (l3 ++ (prot ++ (l4 ++ (port ++ end))))))))
mapping_text begin l1 program l2 version l3 prot l4 port end = simp append_assoc

mapping_has : (m : Mapping) → IsMapping m → HasMembers mapping_names (mapping_object m)
mapping_has m fits =
    has_members (codes "program", decimal m.prog) ((codes "version", decimal m.vers) ∷ (codes "protocol", decimal m.prot) ∷ (codes "port", decimal m.port) ∷ []) (mapping_object m)
    (refl, count m.prog fits.prog)
    ((refl, count m.vers fits.vers), ((refl, count m.prot fits.prot), ((refl, count m.port fits.port), tt)))
    (mapping_text (codes "{") (codes "\"program\":") (decimal m.prog) (codes ",\"version\":") (decimal m.vers) (codes ",\"protocol\":") (decimal m.prot) (codes ",\"port\":") (decimal m.port) (codes "}\n"))

entry_text : (begin l1 netid l2 place l3 semantics comma l4 family l5 proto end : List ℕ)
    → begin ++ ((l1 ++ (netid ++ (l2 ++ place))) ++ (l3 ++ (semantics ++ (comma ++ ((l4 ++ (family ++ (l5 ++ proto))) ++ end)))))
    ≡ begin ++ (l1 ++ (netid ++ (l2 ++ (place ++ (l3 ++ (semantics ++ (comma ++ (l4 ++ (family ++ (l5 ++ (proto ++ end)))))))))))
entry_text begin l1 netid l2 place l3 semantics comma l4 family l5 proto end = simp append_assoc

entry_has : (e : Entry) → IsEntry e → HasMembers entry_names (entry_object e)
entry_has e fits =
    has_members (codes "netid", json_text e.netid)
    ((codes "address", json_text e.maddr) ∷ (codes "semantics", decimal e.semantics) ∷ (codes "family", json_text e.protofmly) ∷ (codes "protocol", json_text e.proto) ∷ []) (entry_object e)
    (refl, text 32 e.netid fits.netid)
    ((refl, text 128 e.maddr fits.maddr), ((refl, count e.semantics fits.semantics), ((refl, text 32 e.protofmly fits.protofmly), ((refl, text 32 e.proto fits.proto), tt))))
    (entry_text (codes "{") (codes "\"netid\":") (json_text e.netid) (codes ",\"address\":") (json_text e.maddr) (codes ",\"semantics\":") (decimal e.semantics) (codes ",") (codes "\"family\":") (json_text e.protofmly) (codes ",\"protocol\":") (json_text e.proto) (codes "}\n"))

-- ---- statistics

numbers_text : (l1 rpcbind l2 items bracket more : List ℕ)
    → l1 ++ (rpcbind ++ (l2 ++ (items ++ (bracket ++ more)))) ≡ l1 ++ (rpcbind ++ (l2 ++ ((items ++ bracket) ++ more)))
numbers_text l1 rpcbind l2 items bracket more = simp append_assoc

numbers_have : (vers : ℕ) (s : VersionStat) → IsNumber vers → IsVersionStat s → HasMembers numbers_names (numbers_object vers s)
numbers_have vers s small fits =
    has_members (codes "rpcbind", decimal vers)
    ((codes "info", 91 ∷ (info_items s ++ 93 ∷ [])) ∷ (codes "set", signed_decimal s.setinfo) ∷ (codes "unset", signed_decimal s.unsetinfo) ∷ []) (numbers_object vers s)
    (refl, count vers small)
    ((refl, (array (info_are s fits)).is), ((refl, int s.setinfo fits.setinfo), ((refl, int s.unsetinfo fits.unsetinfo), tt)))
    (numbers_text (codes "{\"rpcbind\":") (decimal vers) (codes ",\"info\":[") (info_items s) (codes "]") (codes ",\"set\":" ++ (signed_decimal s.setinfo ++ (codes ",\"unset\":" ++ (signed_decimal s.unsetinfo ++ codes "}\n")))))

look_ups_text : (l1 rpcbind comma l2 program l3 version l4 netid l5 success l6 failure end : List ℕ)
    → l1 ++ (rpcbind ++ (comma ++ ((l2 ++ (program ++ (l3 ++ version))) ++ (l4 ++ (netid ++ (comma ++ ((l5 ++ (success ++ (l6 ++ failure))) ++ end)))))))
    ≡ l1 ++ (rpcbind ++ (comma ++ (l2 ++ (program ++ (l3 ++ (version ++ (l4 ++ (netid ++ (comma ++ (l5 ++ (success ++ (l6 ++ (failure ++ end)))))))))))))
look_ups_text l1 rpcbind comma l2 program l3 version l4 netid l5 success l6 failure end = simp append_assoc

look_ups_have : (vers : ℕ) (s : AddrStat) → IsNumber vers → IsAddrStat s → HasMembers look_ups_names (look_ups_object vers s)
look_ups_have vers s small fits =
    has_members (codes "rpcbind", decimal vers)
    ((codes "program", decimal s.prog) ∷ (codes "version", decimal s.vers) ∷ (codes "netid", json_text s.netid) ∷ (codes "success", signed_decimal s.success) ∷ (codes "failure", signed_decimal s.failure) ∷ []) (look_ups_object vers s)
    (refl, count vers small)
    ((refl, count s.prog fits.prog), ((refl, count s.vers fits.vers), ((refl, text 32 s.netid fits.netid), ((refl, int s.success fits.success), ((refl, int s.failure fits.failure), tt)))))
    (look_ups_text (codes "{\"rpcbind\":") (decimal vers) (codes ",") (codes "\"program\":") (decimal s.prog) (codes ",\"version\":") (decimal s.vers) (codes ",\"netid\":") (json_text s.netid) (codes "\"success\":") (signed_decimal s.success) (codes ",\"failure\":") (signed_decimal s.failure) (codes "}\n"))

forwards_text : (l1 rpcbind comma l2 program l3 version l4 procedure l5 netid l6 success l7 failure l8 indirect end : List ℕ)
    → l1 ++ (rpcbind ++ (comma ++ (((l2 ++ (program ++ (l3 ++ version))) ++ (l4 ++ procedure)) ++ (l5 ++ (netid ++ (comma ++ ((l6 ++ (success ++ (l7 ++ (failure ++ (l8 ++ indirect))))) ++ end)))))))
    ≡ l1 ++ (rpcbind ++ (comma ++ (l2 ++ (program ++ (l3 ++ (version ++ (l4 ++ (procedure ++ (l5 ++ (netid ++ (comma ++ (l6 ++ (success ++ (l7 ++ (failure ++ (l8 ++ (indirect ++ end)))))))))))))))))
forwards_text l1 rpcbind comma l2 program l3 version l4 procedure l5 netid l6 success l7 failure l8 indirect end = simp append_assoc

forwards_have : (vers : ℕ) (s : CallStat) → IsNumber vers → IsCallStat s → HasMembers forwards_names (forwards_object vers s)
forwards_have vers s small fits =
    has_members (codes "rpcbind", decimal vers)
    ((codes "program", decimal s.prog) ∷ (codes "version", decimal s.vers) ∷ (codes "procedure", decimal s.proc) ∷ (codes "netid", json_text s.netid) ∷ (codes "success", signed_decimal s.success) ∷ (codes "failure", signed_decimal s.failure) ∷ (codes "indirect", signed_decimal s.indirect) ∷ []) (forwards_object vers s)
    (refl, count vers small)
    ((refl, count s.prog fits.prog), ((refl, count s.vers fits.vers), ((refl, count s.proc fits.proc), ((refl, text 32 s.netid fits.netid), ((refl, int s.success fits.success), ((refl, int s.failure fits.failure), ((refl, int s.indirect fits.indirect), tt)))))))
    (forwards_text (codes "{\"rpcbind\":") (decimal vers) (codes ",") (codes "\"program\":") (decimal s.prog) (codes ",\"version\":") (decimal s.vers) (codes ",\"procedure\":") (decimal s.proc) (codes ",\"netid\":") (json_text s.netid) (codes "\"success\":") (signed_decimal s.success) (codes ",\"failure\":") (signed_decimal s.failure) (codes ",\"indirect\":") (signed_decimal s.indirect) (codes "}\n"))

-- ---- replies

objects_have : ObjectsAre IsLineOf
objects_have = record {
  row = λ r fits. (row_names, OfRow, row_has r fits);
  old_row = λ r fits. (row_names, OfOldRow, row_has r fits);
  mapping = λ m fits. (mapping_names, OfMapping, mapping_has m fits);
  entry = λ prog vers e fits. (entry_names, OfEntry, entry_has e fits);
  statistics = record {
    numbers = λ vers s small fits. (numbers_names, OfNumbers, numbers_have vers s small fits);
    look_ups = λ vers s small fits. (look_ups_names, OfLookUps, look_ups_have vers s small fits);
    forwards = λ vers s small fits. (forwards_names, OfForwards, forwards_have vers s small fits);
  };
}

pub each_has_its_members : EachHasItsMembers
each_has_its_members = each_line IsLineOf objects_have

-- ---- no name is twice

-- whether each differs from those after it
abbrev differ : List (List ℕ) → Bool
differ [] = true
differ (name ∷ names) = list_all (λ other. not (bytes_eq name other)) names && differ names

others_differ : (name : List ℕ) (others : List (List ℕ)) → list_all (λ other. not (bytes_eq name other)) others ≡ true → AllByRecursion (λ other. name ≢ other) others
others_differ name [] are = tt
others_differ name (other ∷ others) are =
    let parts : (not (bytes_eq name other) ≡ true) × (list_all (λ xs. not (bytes_eq name xs)) others ≡ true) = and_parts _ _ are in
    let unequal : bytes_eq name other ≡ false = grind (arith, parts.0) in
    (not_from_Decides (bytes_eq name other) (bytes_eq-Decides name other) unequal, others_differ name others parts.1)

all_differ : (names : List (List ℕ)) → differ names ≡ true → AreDistinct names
all_differ [] are = tt
all_differ (name ∷ names) are =
    let parts : (list_all (λ other. not (bytes_eq name other)) names ≡ true) × (differ names ≡ true) = and_parts _ _ are in
    (others_differ name names parts.0, all_differ names parts.1)

pub no_name_is_twice : NoNameIsTwice
no_name_is_twice question names OfRow = all_differ row_names refl
no_name_is_twice question names OfOldRow = all_differ row_names refl
no_name_is_twice question names OfMapping = all_differ mapping_names refl
no_name_is_twice question names OfEntry = all_differ entry_names refl
no_name_is_twice question names OfNumbers = all_differ numbers_names refl
no_name_is_twice question names OfLookUps = all_differ look_ups_names refl
no_name_is_twice question names OfForwards = all_differ forwards_names refl
