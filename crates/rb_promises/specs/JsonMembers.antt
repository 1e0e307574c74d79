-- The members of the objects that rpcinfo shows (rpcinfo(8); RFC 8259 section 4).
use Rattle.std.specs.Prelude.{◌≡◌, ◌≢◌, ⊤, ℕ, true, List, [], ◌∷◌, ◌++◌, codes}
use Rattle.std.specs.List.{AllByRecursion}
use Rattle.rb_xdr.specs.Xdr.{AreBytes}
use Rattle.rb_show.specs.Telling.{told_lines}
use Rattle.rb_show.specs.declared.ask.Ask.{Ask}
use Rattle.rb_show.specs.declared.ask.Question.{Question}
use Rattle.rb_show.specs.declared.ask.Question.TheVariants.{Rows, OldRows, Pmap, Entries, Stats}
use Rattle.rb_show.specs.declared.form.Form.TheVariants.{Json}
use Rattle.rb_show.specs.JsonGrammar.{IsObject, AreMembers, IsMember}
use Rattle.rb_show.specs.JsonGrammar.IsObject.{NoMembers, Members}
use Rattle.rb_show.specs.JsonGrammar.AreMembers.{OneMember, MoreMembers}
use Rattle.rb_show.specs.JsonGrammar.IsMember.{Member}
use Rattle.rb_show.specs.ObjectLaws.{has_objects}
use Rattle.rb_show.specs.Replies.{tell_bytes}

-- ---- names of members

-- what stands between the quotation marks of a member's name
abbrev pub member_name : {bytes : List ℕ} → IsMember bytes → List ℕ
member_name (Member name colon value) = name.0

-- of each member, in their order
abbrev pub member_names : {bytes : List ℕ} → AreMembers bytes → List (List ℕ)
member_names (OneMember member) = member_name member ∷ []
member_names (MoreMembers member comma more) = member_name member ∷ member_names more

abbrev pub object_names : {bytes : List ℕ} → IsObject bytes → List (List ℕ)
object_names (NoMembers begin end) = []
object_names (Members begin members end) = member_names members

-- The names of an object's members are the same in whichever way the grammar reads it.
abbrev pub NamesAreReadInOneWay : Type 0
NamesAreReadInOneWay =
    (bytes : List ℕ) (one other : IsObject bytes) → object_names one ≡ object_names other

-- ---- those that are shown

-- of a row
abbrev pub row_names : List (List ℕ)
row_names =
    codes "program" ∷ codes "version" ∷ codes "netid" ∷ codes "address" ∷ codes "owner" ∷ []

-- of a mapping of version 2
abbrev pub mapping_names : List (List ℕ)
mapping_names = codes "program" ∷ codes "version" ∷ codes "protocol" ∷ codes "port" ∷ []

-- of an address of a program's version
abbrev pub entry_names : List (List ℕ)
entry_names =
    codes "netid" ∷ codes "address" ∷ codes "semantics" ∷ codes "family" ∷ codes "protocol" ∷ []

-- of the numbers of a version of rpcbind
abbrev pub numbers_names : List (List ℕ)
numbers_names = codes "rpcbind" ∷ codes "info" ∷ codes "set" ∷ codes "unset" ∷ []

-- of look-ups
abbrev pub look_ups_names : List (List ℕ)
look_ups_names =
    codes "rpcbind" ∷ codes "program" ∷ codes "version" ∷ codes "netid" ∷ codes "success"
    ∷ codes "failure" ∷ []

-- of forwarded calls
abbrev pub forwards_names : List (List ℕ)
forwards_names =
    codes "rpcbind" ∷ codes "program" ∷ codes "version" ∷ codes "procedure" ∷ codes "netid"
    ∷ codes "success" ∷ codes "failure" ∷ codes "indirect" ∷ []

-- The objects of a question's reply have these names.
-- JSON-4
pub data AreNamesOf : Question → List (List ℕ) → Type 0 where
  OfRow : AreNamesOf Rows row_names
  OfOldRow : AreNamesOf OldRows row_names
  OfMapping : AreNamesOf Pmap mapping_names
  OfEntry : {prog vers : ℕ} → AreNamesOf (Entries prog vers) entry_names
  OfNumbers : AreNamesOf Stats numbers_names
  OfLookUps : AreNamesOf Stats look_ups_names
  OfForwards : AreNamesOf Stats forwards_names

-- ---- lines

-- An object and a line feed. However the grammar reads the object, its members have these names,
-- in this order.
-- JSON-4: With `--json` an object has the members of its kind and no others, in the order of the
-- manual page, and no name twice.
pub record HasMembers (names : List (List ℕ)) (line : List ℕ) : Type 0 where
  pub object : List ℕ
  pub is : line ≡ object ++ codes "\n"
  pub is_object : IsObject object
  pub each_reading : (reading : IsObject object) → object_names reading ≡ names

-- the line of an object of this question's reply
abbrev pub IsLineOf : Question → List ℕ → Type 0
IsLineOf question line = (names : List (List ℕ)) × AreNamesOf question names × HasMembers names line

-- Each line that a reply tells has the members of its question, whatever the reply's bytes are.
abbrev pub EachHasItsMembers : Type 0
EachHasItsMembers =
    (ask : Ask) (xid : ℕ) (bytes : List ℕ) → has_objects ask.question ≡ true → AreBytes bytes
    → AllByRecursion (IsLineOf ask.question) (told_lines (tell_bytes ask Json xid bytes))

-- each differs from those after it
abbrev pub AreDistinct : List (List ℕ) → Type 0
AreDistinct [] = ⊤
AreDistinct (name ∷ names) = AllByRecursion (λ other. name ≢ other) names × AreDistinct names

-- No object has two members of one name.
abbrev pub NoNameIsTwice : Type 0
NoNameIsTwice =
    (question : Question) (names : List (List ℕ)) → AreNamesOf question names → AreDistinct names
