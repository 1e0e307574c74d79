-- External data representation (RFC 4506): the bytes that spell a value, and what is read from the front of bytes.
use Rattle.std.specs.Prelude.{ℕ, zero, suc, ◌+◌, ◌-◌, ◌*◌, ◌%◌, ◌^◌, ◌<◌, ◌≤◌, ◌==◌, nat_lt, if◌then◌else◌, Bool, true, false, List, [], ◌∷◌, ◌++◌, length, take, drop, replicate, Result, Ok, Err, slice_index, slice_range, ⊤}
use Rattle.std.specs.List.{list_all, flat_map}
use Rattle.std.specs.Int.{w32, to_be_bytes, from_be_bytes}
use Rattle.rb_xdr.specs.declared.fault.XdrFault.TheVariants.{Short, TooLong, BadBool, BadPadding}
-- why no front of the bytes is a spelling
pub use Rattle.rb_xdr.specs.declared.fault.XdrFault.{XdrFault}

abbrev pub fault_number : XdrFault → ℕ
fault_number Short = 1
fault_number TooLong = 2
fault_number BadBool = 3
fault_number BadPadding = 4

-- ---- numbers

-- an unsigned int is four bytes, the most significant first (section 4.2); so is an enum (4.3)
unfoldable pub number : ℕ → List ℕ
number n = to_be_bytes w32 n

-- one number after the other
abbrev pub words : List ℕ → List ℕ
words numbers = flat_map number numbers

-- the number that the four bytes from a place spell
unfoldable pub number_at : ℕ → List ℕ → ℕ
number_at place bytes = from_be_bytes w32 (take 4 (drop place bytes))

-- the number that the k-th four bytes spell, from 0
abbrev pub word : ℕ → List ℕ → ℕ
word k bytes = number_at (4 * k) bytes

-- a bool is the number 0 or 1 (section 4.4)
unfoldable pub boolean : Bool → List ℕ
boolean b = if b then number 1 else number 0

-- ---- opaque data and strings

-- the residual bytes up to a multiple of four (section 3)
abbrev pub residue : ℕ → ℕ
residue count = (4 - count % 4) % 4

-- the count, the content, and residual zeros (sections 4.10 and 4.11)
unfoldable pub opaque : List ℕ → List ℕ
opaque content = number (length content) ++ content ++ replicate (residue (length content)) 0

abbrev pub are_zero : List ℕ → Bool
are_zero bytes = list_all (λ b. b == 0) bytes

-- a variable-length array of numbers is their count and they (section 4.13)
unfoldable pub array : List ℕ → List ℕ
array numbers = number (length numbers) ++ words numbers

-- ---- lists

-- a linked list is TRUE and the item for each item, then FALSE (section 4.19)
unfoldable pub linked_list : {A : Type 0} → (A → List ℕ) → List A → List ℕ
linked_list spelling items = flat_map (λ x. boolean true ++ spelling x) items ++ boolean false

-- ---- reading

-- what is read: a value and the length of its spelling, or the first fault
abbrev pub Reading : Type 0 → Type 0
Reading A = Result (A × ℕ) XdrFault

-- from the front of bytes
abbrev pub Reader : Type 0 → Type 0
Reader A = List ℕ → Reading A

-- what is read after a number of bytes
abbrev pub behind : {A : Type 0} → ℕ → Reading A → Reading A
behind used (Ok x) = Ok (x.0, used + x.1)
behind used (Err fault) = Err fault

abbrev pub read_on : {A B : Type 0} → Reading A → (A → Reader B) → List ℕ → Reading B
read_on (Ok x) next bytes = behind x.1 (next x.0 (drop x.1 bytes))
read_on (Err fault) next bytes = Err fault

-- One after the other; the first fault decides. A struct is its fields in order (section 4.14).
infixl 10 ◌>>=◌
abbrev pub ◌>>=◌ : {A B : Type 0} → Reader A → (A → Reader B) → Reader B
first >>= next = λ bytes. read_on (first bytes) next bytes

-- no bytes are read (void, section 4.16)
abbrev pub give : {A : Type 0} → A → Reader A
give x = λ bytes. Ok (x, 0)

abbrev pub refuse : {A : Type 0} → XdrFault → Reader A
refuse fault = λ bytes. Err fault

unfoldable pub read_number : Reader ℕ
read_number bytes = if nat_lt (length bytes) 4 then Err Short else Ok (number_at 0 bytes, 4)

-- XDR-2: A bool is 0 or 1; another number is unreadable.
unfoldable pub read_bool : Reader Bool
read_bool = do
  n ← read_number
  if n == 0 then give false else if n == 1 then give true else refuse BadBool

-- this much content and its residual zeros
unfoldable pub read_content : ℕ → Reader (List ℕ)
read_content count bytes =
    if nat_lt (length bytes) (count + residue count) then Err Short
    else if are_zero (slice_range bytes count (count + residue count)) then Ok (take count bytes, count + residue count)
    else Err BadPadding

-- opaque data or a string of at most this many bytes
-- XDR-1: A residual byte that is not zero makes an item unreadable.
-- XDR-3: A count over the limit of its type is unreadable, whatever follows it.
unfoldable pub read_opaque : ℕ → Reader (List ℕ)
read_opaque limit = do
  count ← read_number
  if nat_lt limit count then refuse TooLong else read_content count

-- this many numbers
abbrev pub read_numbers : ℕ → Reader (List ℕ)
read_numbers zero = give []
read_numbers (suc k) = do
  n ← read_number
  more ← read_numbers k
  give (n ∷ more)

-- a variable-length array of at most this many numbers (section 4.13)
-- XDR-3
unfoldable pub read_array : ℕ → Reader (List ℕ)
read_array limit = do
  count ← read_number
  if nat_lt limit count then refuse TooLong else read_numbers count

-- ---- which values have a spelling

abbrev pub AreBytes : List ℕ → Type 0
AreBytes bytes = (i : ℕ) → slice_index bytes i < 256

abbrev pub IsNumber : ℕ → Type 0
IsNumber n = n < 2 ^ 32

abbrev pub AreNumbers : List ℕ → Type 0
AreNumbers [] = ⊤
AreNumbers (n ∷ more) = IsNumber n × AreNumbers more

-- content of at most this many bytes, whose number fits the count
abbrev pub IsContent : ℕ → List ℕ → Type 0
IsContent limit content = (length content ≤ limit) × (length content < 2 ^ 32) × AreBytes content

-- ---- the greatest length of a spelling

abbrev pub max_number : ℕ
max_number = 4

abbrev pub max_opaque : ℕ → ℕ
max_opaque limit = 4 + limit + residue limit
