-- The grammar of JSON (RFC 8259 sections 2 to 7), in UTF-8 (section 8.1).
use Rattle.std.specs.Prelude.{◌≡◌, ◌≢◌, ◌≤◌, ◌⊎◌, ℕ, ◌==◌, nat_le, Bool, true, ◌&&◌, ◌||◌, List, [], ◌∷◌, ◌++◌, codes, encode_utf8}
use Rattle.std.specs.Char.{IsScalar}
use Rattle.std.specs.List.{list_all}

-- ---- white space and marks (section 2)

-- space, horizontal tab, line feed and carriage return
abbrev pub is_white : ℕ → Bool
is_white b = b == 32 || b == 9 || b == 10 || b == 13

abbrev pub AreWhite : List ℕ → Type 0
AreWhite bytes = list_all is_white bytes ≡ true

-- this character, with any white space around it
pub record IsMark (mark : ℕ) (bytes : List ℕ) : Type 0 where
  pub before : List ℕ
  pub after : List ℕ
  pub is : bytes ≡ before ++ mark ∷ after
  pub before_is : AreWhite before
  pub after_is : AreWhite after

-- ---- numbers (section 6)

-- nothing, or one of these
abbrev pub Perhaps : (List ℕ → Type 0) → List ℕ → Type 0
Perhaps Is bytes = (bytes ≡ []) ⊎ Is bytes

abbrev pub is_digit : ℕ → Bool
is_digit b = nat_le 48 b && nat_le b 57

-- one digit or more
abbrev pub AreDigits : List ℕ → Type 0
AreDigits [] = ⊥
AreDigits (b ∷ more) = list_all is_digit (b ∷ more) ≡ true

-- digits, of which the first is 0 only if it is the only digit
abbrev pub IsInteger : List ℕ → Type 0
IsInteger [] = ⊥
IsInteger (b ∷ more) = AreDigits (b ∷ more) × (b ≡ 48 → more ≡ [])

abbrev pub IsMinus : List ℕ → Type 0
IsMinus bytes = bytes ≡ codes "-"

abbrev pub IsSign : List ℕ → Type 0
IsSign bytes = (bytes ≡ codes "+") ⊎ (bytes ≡ codes "-")

-- a point and digits
abbrev pub IsFraction : List ℕ → Type 0
IsFraction bytes = (digits : List ℕ) × (bytes ≡ codes "." ++ digits) × AreDigits digits

-- `e` or `E`, perhaps a sign, and digits
pub record IsExponent (bytes : List ℕ) : Type 0 where
  pub letter : List ℕ
  pub sign : List ℕ
  pub digits : List ℕ
  pub is : bytes ≡ letter ++ (sign ++ digits)
  pub letter_is : (letter ≡ codes "e") ⊎ (letter ≡ codes "E")
  pub sign_is : Perhaps IsSign sign
  pub digits_are : AreDigits digits

pub record IsNumber (bytes : List ℕ) : Type 0 where
  pub minus : List ℕ
  pub integer : List ℕ
  pub fraction : List ℕ
  pub exponent : List ℕ
  pub is : bytes ≡ minus ++ (integer ++ (fraction ++ exponent))
  pub minus_is : Perhaps IsMinus minus
  pub integer_is : IsInteger integer
  pub fraction_is : Perhaps IsFraction fraction
  pub exponent_is : Perhaps IsExponent exponent

-- ---- strings (section 7)

-- of either case
abbrev pub is_hex_digit : ℕ → Bool
is_hex_digit b = is_digit b || (nat_le 65 b && nat_le b 70) || (nat_le 97 b && nat_le b 102)

-- a character of Unicode, but no control character below 32, no quotation mark and no backslash
pub record StandsForItself (c : ℕ) : Type 0 where
  pub no_control : 32 ≤ c
  pub no_quote : c ≢ 34
  pub no_backslash : c ≢ 92
  pub unicode : IsScalar c

-- one of `"`, `\`, `/`, `b`, `f`, `n`, `r` and `t`
abbrev pub is_escape : ℕ → Bool
is_escape b = b == 34 || b == 92 || b == 47 || b == 98 || b == 102 || b == 110 || b == 114 || b == 116

-- a character that stands for itself, one of these after a backslash, or `\u` and four hexadecimal digits
pub data IsCharacter : List ℕ → Type 0 where
  Itself : (c : ℕ) → StandsForItself c → IsCharacter (encode_utf8 c)
  Escaped : (b : ℕ) → is_escape b ≡ true → IsCharacter (92 ∷ b ∷ [])
  Numbered : (a b c d : ℕ) → list_all is_hex_digit (a ∷ b ∷ c ∷ d ∷ []) ≡ true → IsCharacter (codes "\\u" ++ a ∷ b ∷ c ∷ d ∷ [])

pub data AreCharacters : List ℕ → Type 0 where
  NoCharacter : AreCharacters []
  OneCharacter : {first more : List ℕ} → IsCharacter first → AreCharacters more → AreCharacters (first ++ more)

-- characters between quotation marks
abbrev pub IsString : List ℕ → Type 0
IsString bytes = (text : List ℕ) × (bytes ≡ codes "\"" ++ (text ++ codes "\"")) × AreCharacters text

-- ---- values (sections 3 to 5)

mutual
  pub data IsValue : List ℕ → Type 0 where
    False : IsValue (codes "false")
    Null : IsValue (codes "null")
    True : IsValue (codes "true")
    Number : {number : List ℕ} → IsNumber number → IsValue number
    String : {string : List ℕ} → IsString string → IsValue string
    Array : {array : List ℕ} → IsArray array → IsValue array
    Object : {object : List ℕ} → IsObject object → IsValue object

  -- values between `[` and `]`, or none
  pub data IsArray : List ℕ → Type 0 where
    NoValues : {begin end : List ℕ} → IsMark 91 begin → IsMark 93 end → IsArray (begin ++ end)
    Values : {begin values end : List ℕ} → IsMark 91 begin → AreValues values → IsMark 93 end → IsArray (begin ++ (values ++ end))

  -- one value, or more with commas between them
  pub data AreValues : List ℕ → Type 0 where
    OneValue : {value : List ℕ} → IsValue value → AreValues value
    MoreValues : {value comma more : List ℕ} → IsValue value → IsMark 44 comma → AreValues more → AreValues (value ++ (comma ++ more))

  -- members between `{` and `}`, or none
  pub data IsObject : List ℕ → Type 0 where
    NoMembers : {begin end : List ℕ} → IsMark 123 begin → IsMark 125 end → IsObject (begin ++ end)
    Members : {begin members end : List ℕ} → IsMark 123 begin → AreMembers members → IsMark 125 end → IsObject (begin ++ (members ++ end))

  -- one member, or more with commas between them
  pub data AreMembers : List ℕ → Type 0 where
    OneMember : {member : List ℕ} → IsMember member → AreMembers member
    MoreMembers : {member comma more : List ℕ} → IsMember member → IsMark 44 comma → AreMembers more → AreMembers (member ++ (comma ++ more))

  -- a name, a colon and a value
  pub data IsMember : List ℕ → Type 0 where
    Member : {name colon value : List ℕ} → IsString name → IsMark 58 colon → IsValue value → IsMember (name ++ (colon ++ value))

-- a text is one value, with any white space around it
-- JSON-3
pub record IsText (bytes : List ℕ) : Type 0 where
  pub before : List ℕ
  pub value : List ℕ
  pub after : List ℕ
  pub is : bytes ≡ before ++ (value ++ after)
  pub before_is : AreWhite before
  pub value_is : IsValue value
  pub after_is : AreWhite after
