-- Worked examples of the definitions, byte by byte.
use Rattle.std.specs.Prelude.{◌≡◌, ℕ, List, [], ◌∷◌, ◌++◌, Some, None, Ok, Err, codes, pos, negsuc}
use Rattle.rb_xdr.specs.declared.fault.XdrFault.TheVariants.{Short, TooLong, BadBool, BadPadding}
use Rattle.rb_xdr.specs.Xdr.{XdrFault, Reading, number, words, opaque, array, linked_list, read_number, read_bool, read_opaque, read_array}
use Rattle.rb_xdr.specs.Ordered.{last_upto, with_number, looks, moves}
use Rattle.rb_xdr.specs.XdrTypes.{signed, optional, read_signed, read_pair, read_optional}

abbrev pub WritesNumbers : Type 0
WritesNumbers = number 1 ++ number 100000 ++ number 4294967295 ≡ 0 ∷ 0 ∷ 0 ∷ 1 ∷ 0 ∷ 1 ∷ 134 ∷ 160 ∷ 255 ∷ 255 ∷ 255 ∷ 255 ∷ []

-- -1, the least int and the greatest
abbrev pub WritesInts : Type 0
WritesInts = signed (negsuc 0) ++ signed (negsuc 2147483647) ++ signed (pos 2147483647) ≡ 255 ∷ 255 ∷ 255 ∷ 255 ∷ 128 ∷ 0 ∷ 0 ∷ 0 ∷ 127 ∷ 255 ∷ 255 ∷ 255 ∷ []

abbrev pub ReadsInts : Type 0
ReadsInts = read_pair read_signed read_signed (255 ∷ 255 ∷ 255 ∷ 254 ∷ 127 ∷ 255 ∷ 255 ∷ 255 ∷ []) ≡ Ok ((negsuc 1, pos 2147483647), 8)

-- the file of section 7 of RFC 4506: a name, a kind (2 is EXEC), the name of an interpreter, the owner, the data
abbrev pub file : List ℕ
file = words (9 ∷ 0x73696c6c ∷ 0x7970726f ∷ 0x67000000 ∷ 2 ∷ 4 ∷ 0x6c697370 ∷ 4 ∷ 0x6a6f686e ∷ 6 ∷ 0x28717569 ∷ 0x74290000 ∷ [])

abbrev pub WritesFile : Type 0
WritesFile = opaque (codes "sillyprog") ++ number 2 ++ opaque (codes "lisp") ++ opaque (codes "john") ++ opaque (codes "(quit)") ≡ file

-- what follows it counts for nothing
abbrev pub ReadsFile : Type 0
ReadsFile =
    read_pair (read_opaque 255) (read_pair read_number (read_pair (read_opaque 255) (read_pair (read_opaque 32) (read_opaque 65535)))) (file ++ 7 ∷ [])
    ≡ Ok ((codes "sillyprog", (2, (codes "lisp", (codes "john", codes "(quit)")))), 48)

-- an item after TRUE; nothing after FALSE
abbrev pub WritesOptions : Type 0
WritesOptions = optional number (Some 7) ++ optional number None ≡ words (1 ∷ 7 ∷ 0 ∷ [])

abbrev pub ReadsOptions : Type 0
ReadsOptions = read_pair (read_optional read_number) (read_optional read_bool) (words (1 ∷ 7 ∷ 0 ∷ [])) ≡ Ok ((Some 7, None), 12)

abbrev pub WritesLists : Type 0
WritesLists = linked_list number (5 ∷ 6 ∷ []) ++ array (5 ∷ 6 ∷ []) ≡ words (1 ∷ 5 ∷ 1 ∷ 6 ∷ 0 ∷ 2 ∷ 5 ∷ 6 ∷ [])

abbrev pub ReadsArray : Type 0
ReadsArray = read_array 2 (words (2 ∷ 5 ∷ 6 ∷ [])) ≡ Ok (5 ∷ 6 ∷ [], 12)

-- ---- faults, and which comes first

abbrev pub fault : XdrFault → Reading (List ℕ)
fault f = Err f

abbrev pub CountIsShort : Type 0
CountIsShort = read_opaque 4 (0 ∷ 0 ∷ 0 ∷ []) ≡ fault Short

abbrev pub CountIsTooLong : Type 0
CountIsTooLong = read_opaque 4 (0 ∷ 0 ∷ 0 ∷ 5 ∷ []) ≡ fault TooLong

abbrev pub ContentIsShort : Type 0
ContentIsShort = read_opaque 4 (0 ∷ 0 ∷ 0 ∷ 2 ∷ 97 ∷ []) ≡ fault Short

abbrev pub ResidueIsShort : Type 0
ResidueIsShort = read_opaque 4 (0 ∷ 0 ∷ 0 ∷ 2 ∷ 97 ∷ 98 ∷ 9 ∷ []) ≡ fault Short

abbrev pub ResidueIsNotZero : Type 0
ResidueIsNotZero = read_opaque 4 (0 ∷ 0 ∷ 0 ∷ 2 ∷ 97 ∷ 98 ∷ 0 ∷ 1 ∷ []) ≡ fault BadPadding

abbrev pub BoolIsTwo : Type 0
BoolIsTwo = read_bool (0 ∷ 0 ∷ 0 ∷ 2 ∷ []) ≡ Err BadBool

-- the first field with a fault decides
abbrev pub FirstFieldDecides : Type 0
FirstFieldDecides = read_pair read_bool (read_opaque 1) (words (2 ∷ 9 ∷ [])) ≡ Err BadBool

-- ---- searches

abbrev pub three : List (ℕ × ℕ)
three = (2, 0) ∷ (5, 1) ∷ (9, 2) ∷ []

-- among 2, 5 and 9 none is at most 1, and 5 is the last that is at most 8
abbrev pub FindsLast : Type 0
FindsLast = (last_upto 1 three ≡ None) × (last_upto 8 three ≡ Some (5, 1))

-- 7 is put before 9, which moves
abbrev pub PutsInPlace : Type 0
PutsInPlace = (with_number three 7 3 ≡ (2, 0) ∷ (5, 1) ∷ (7, 3) ∷ (9, 2) ∷ []) × (moves 7 three ≡ 2)

-- the looks of a search among none, one, two and five numbers, and among 4,096
abbrev pub LooksOfSearches : Type 0
LooksOfSearches = (looks 0 ≡ 0) × (looks 1 ≡ 1) × (looks 2 ≡ 2) × (looks 5 ≡ 4) × (looks 4096 ≡ 13)
