-- What is told of the list that a grammar spells (RFC 4506 section 4.19).
use Rattle.std.specs.Prelude.{◌≡◌, ◌<◌, ◌≤◌, ℕ, List, [], ◌++◌, length, map, take, All}
use Rattle.rb_xdr.specs.Xdr.{Reader, linked_list}
use Rattle.rb_show.specs.declared.fault.InfoFault.{InfoFault}
use Rattle.rb_show.specs.declared.fault.InfoFault.TheVariants.{TooMany}
use Rattle.rb_show.specs.Telling.Told.{Done, Stop}
use Rattle.rb_show.specs.Lists.{tell_items, greatest_list}
use Rattle.rb_show.specs.WholeLists.{take_items}

-- A list of at most 4,096 values is told by the line of each, in their order, and what stands after it is left.
abbrev pub ListsAreShown : {A : Type 0} → (A → Type 0) → (A → List ℕ) → Reader A → Type 0
ListsAreShown {A} is_value spelling reads =
    (line : A → List ℕ) (items : List A) (rest : List ℕ) (end : InfoFault)
    → All is_value items → length items ≤ greatest_list
    → tell_items reads line greatest_list 0 end (linked_list spelling items ++ rest)
    ≡ Done (map line items) (length items) rest

-- Of a longer one the lines of the first 4,096 values are told.
abbrev pub LongerListsStop : {A : Type 0} → (A → Type 0) → (A → List ℕ) → Reader A → Type 0
LongerListsStop {A} is_value spelling reads =
    (line : A → List ℕ) (items : List A) (rest : List ℕ) (end : InfoFault)
    → All is_value items → greatest_list < length items
    → tell_items reads line greatest_list 0 end (linked_list spelling items ++ rest)
    ≡ Stop (map line (take greatest_list items)) TooMany

-- A list that is taken whole is these values.
abbrev pub ListsAreTaken : {A : Type 0} → (A → Type 0) → (A → List ℕ) → Reader A → Type 0
ListsAreTaken {A} is_value spelling reads =
    (items : List A) (rest : List ℕ) (end : InfoFault)
    → All is_value items → length items ≤ greatest_list
    → take_items reads greatest_list [] end (linked_list spelling items ++ rest) ≡ Done [] items rest
