-- Each text of the grammar of JSON is UTF-8.
use Rattle.std.proofs.Common.{◌≡◌, ◌<◌, ◌⊎◌, ℕ, Bool, true, false, List, [], ◌∷◌, ◌++◌, IsUtf8, inl, inr, refl, sym, ◌∙◌, subst, arith}
use Rattle.std.specs.Prelude.{codes, nat_le}
use Rattle.std.specs.Str.{is_utf8}
use Rattle.std.specs.List.{list_all}
use Rattle.std.proofs.lemmas.Bool.{and_parts, false≢true}
use Rattle.std.proofs.lemmas.Bool.Decides.{nat_tests}
use Rattle.std.proofs.lemmas.Str.{IsUtf8-append, IsUtf8-nil, IsUtf8-encode, encode_ascii, is_utf8-from_IsUtf8}
use Rattle.rb_show.specs.JsonGrammar.{is_white, AreWhite, IsMark, is_digit, is_hex_digit, is_escape, Perhaps, AreDigits, IsInteger, IsMinus, IsSign, IsFraction, IsExponent, IsNumber, IsCharacter, AreCharacters, IsString, IsValue, IsArray, AreValues, IsObject, AreMembers, IsMember, IsText}
use Rattle.rb_show.specs.JsonGrammar.IsCharacter.{Itself, Escaped, Numbered}
use Rattle.rb_show.specs.JsonGrammar.AreCharacters.{NoCharacter, OneCharacter}
use Rattle.rb_show.specs.JsonGrammar.IsArray.{NoValues, Values}
use Rattle.rb_show.specs.JsonGrammar.AreValues.{OneValue, MoreValues}
use Rattle.rb_show.specs.JsonGrammar.IsObject.{NoMembers, Members}
use Rattle.rb_show.specs.JsonGrammar.AreMembers.{OneMember, MoreMembers}
use Rattle.rb_show.specs.JsonGrammar.IsMember.{Member}
use Rattle.rb_promises.specs.JsonExamples.{TextsAreUtf8}
use Rattle.rb_promises.proofs.PlainStrings.{ascii}

-- ---- parts

before : (b : ℕ) (bytes : List ℕ) → b < 128 → IsUtf8 bytes → IsUtf8 (b ∷ bytes)
before b bytes small are = IsUtf8-append (b ∷ []) bytes (subst IsUtf8 (encode_ascii b small) (IsUtf8-encode b (ascii b small))) are

-- bytes that pass a test which only ASCII passes
all_pass : (test : ℕ → Bool) → ((b : ℕ) → test b ≡ true → b < 128) → (bytes : List ℕ) → list_all test bytes ≡ true → IsUtf8 bytes
all_pass test small [] are = IsUtf8-nil
all_pass test small (b ∷ bytes) are =
    let parts : (test b ≡ true) × (list_all test bytes ≡ true) = and_parts _ _ are in
    before b bytes (small b parts.0) (all_pass test small bytes parts.1)

white_small : (b : ℕ) → is_white b ≡ true → b < 128
white_small b is = grind (arith, nat_tests, is)

digit_small : (b : ℕ) → is_digit b ≡ true → b < 128
digit_small b is = grind (arith, nat_tests, is)

hex_small : (b : ℕ) → is_hex_digit b ≡ true → b < 128
hex_small b is = grind (arith, nat_tests, is)

escape_small : (b : ℕ) → is_escape b ≡ true → b < 128
escape_small b is = grind (arith, nat_tests, is)

white : (bytes : List ℕ) → AreWhite bytes → IsUtf8 bytes
white bytes are = all_pass is_white white_small bytes are

digits : (bytes : List ℕ) → AreDigits bytes → IsUtf8 bytes
digits [] are = absurd are
digits (b ∷ bytes) are = all_pass is_digit digit_small (b ∷ bytes) are

mark : (m : ℕ) (bytes : List ℕ) → m < 128 → IsMark m bytes → IsUtf8 bytes
mark m bytes small is =
    subst IsUtf8 (sym is.is) (IsUtf8-append is.before (m ∷ is.after) (white is.before is.before_is) (before m is.after small (white is.after is.after_is)))

-- ---- numbers

integer : (bytes : List ℕ) → IsInteger bytes → IsUtf8 bytes
integer [] is = absurd is
integer (b ∷ bytes) is = digits (b ∷ bytes) is.0

sign : (b : ℕ) → b < 128 → IsUtf8 (b ∷ [])
sign b small = before b [] small IsUtf8-nil

minus : (bytes : List ℕ) → Perhaps IsMinus bytes → IsUtf8 bytes
minus bytes (inl none) = subst IsUtf8 (sym none) IsUtf8-nil
minus bytes (inr there) = subst IsUtf8 (sym there) (sign 45 (omega arith))

either_sign : (bytes : List ℕ) → Perhaps IsSign bytes → IsUtf8 bytes
either_sign bytes (inl none) = subst IsUtf8 (sym none) IsUtf8-nil
either_sign bytes (inr (inl plus)) = subst IsUtf8 (sym plus) (sign 43 (omega arith))
either_sign bytes (inr (inr less)) = subst IsUtf8 (sym less) (sign 45 (omega arith))

fraction : (bytes : List ℕ) → Perhaps IsFraction bytes → IsUtf8 bytes
fraction bytes (inl none) = subst IsUtf8 (sym none) IsUtf8-nil
fraction bytes (inr f) = subst IsUtf8 (sym f.1) (before 46 f.0 (omega arith) (digits f.0 f.2))

letter : (bytes : List ℕ) → (bytes ≡ codes "e") ⊎ (bytes ≡ codes "E") → IsUtf8 bytes
letter bytes (inl small) = subst IsUtf8 (sym small) (sign 101 (omega arith))
letter bytes (inr great) = subst IsUtf8 (sym great) (sign 69 (omega arith))

exponent : (bytes : List ℕ) → Perhaps IsExponent bytes → IsUtf8 bytes
exponent bytes (inl none) = subst IsUtf8 (sym none) IsUtf8-nil
exponent bytes (inr e) =
    subst IsUtf8 (sym e.is)
    (IsUtf8-append e.letter (e.sign ++ e.digits) (letter e.letter e.letter_is) (IsUtf8-append e.sign e.digits (either_sign e.sign e.sign_is) (digits e.digits e.digits_are)))

number : (bytes : List ℕ) → IsNumber bytes → IsUtf8 bytes
number bytes n =
    subst IsUtf8 (sym n.is)
    (IsUtf8-append n.minus (n.integer ++ (n.fraction ++ n.exponent)) (minus n.minus n.minus_is)
    (IsUtf8-append n.integer (n.fraction ++ n.exponent) (integer n.integer n.integer_is)
    (IsUtf8-append n.fraction n.exponent (fraction n.fraction n.fraction_is) (exponent n.exponent n.exponent_is))))

-- ---- strings

character : {bytes : List ℕ} → IsCharacter bytes → IsUtf8 bytes
character (Itself c is) = IsUtf8-encode c is.unicode
character (Escaped b is) = before 92 (b ∷ []) (omega arith) (sign b (escape_small b is))
character (Numbered a b c d are) = before 92 _ (omega arith) (before 117 _ (omega arith) (all_pass is_hex_digit hex_small (a ∷ b ∷ c ∷ d ∷ []) are))

characters : {bytes : List ℕ} → AreCharacters bytes → IsUtf8 bytes
characters NoCharacter = IsUtf8-nil
characters (OneCharacter {first} {more} one rest) = IsUtf8-append first more (character one) (characters rest)

string : (bytes : List ℕ) → IsString bytes → IsUtf8 bytes
string bytes s = subst IsUtf8 (sym s.1) (before 34 (s.0 ++ codes "\"") (omega arith) (IsUtf8-append s.0 (codes "\"") (characters s.2) (sign 34 (omega arith))))

-- ---- values

abbrev is_small : ℕ → Bool
is_small b = nat_le b 122

below : (b : ℕ) → is_small b ≡ true → b < 128
below b is = grind (arith, nat_tests, is)

mutual
  value : {bytes : List ℕ} → IsValue bytes → IsUtf8 bytes
  value IsValue.False = all_pass is_small below (codes "false") refl
  value IsValue.Null = all_pass is_small below (codes "null") refl
  value IsValue.True = all_pass is_small below (codes "true") refl
  value (IsValue.Number {number = bytes} n) = number bytes n
  value (IsValue.String {string = bytes} s) = string bytes s
  value (IsValue.Array a) = array a
  value (IsValue.Object o) = object o

  array : {bytes : List ℕ} → IsArray bytes → IsUtf8 bytes
  array (NoValues {begin} {end} b e) = IsUtf8-append begin end (mark 91 begin (omega arith) b) (mark 93 end (omega arith) e)
  array (Values {begin} {values} {end} b v e) = IsUtf8-append begin (values ++ end) (mark 91 begin (omega arith) b) (IsUtf8-append values end (some_values v) (mark 93 end (omega arith) e))

  some_values : {bytes : List ℕ} → AreValues bytes → IsUtf8 bytes
  some_values (OneValue v) = value v
  some_values (MoreValues {value = bytes} {comma} {more} v c rest) = IsUtf8-append bytes (comma ++ more) (value v) (IsUtf8-append comma more (mark 44 comma (omega arith) c) (some_values rest))

  object : {bytes : List ℕ} → IsObject bytes → IsUtf8 bytes
  object (NoMembers {begin} {end} b e) = IsUtf8-append begin end (mark 123 begin (omega arith) b) (mark 125 end (omega arith) e)
  object (Members {begin} {members} {end} b m e) = IsUtf8-append begin (members ++ end) (mark 123 begin (omega arith) b) (IsUtf8-append members end (some_members m) (mark 125 end (omega arith) e))

  some_members : {bytes : List ℕ} → AreMembers bytes → IsUtf8 bytes
  some_members (OneMember m) = one_member m
  some_members (MoreMembers {member = bytes} {comma} {more} m c rest) = IsUtf8-append bytes (comma ++ more) (one_member m) (IsUtf8-append comma more (mark 44 comma (omega arith) c) (some_members rest))

  one_member : {bytes : List ℕ} → IsMember bytes → IsUtf8 bytes
  one_member (Member {name} {colon} {value = bytes} s c v) = IsUtf8-append name (colon ++ bytes) (string name s) (IsUtf8-append colon bytes (mark 58 colon (omega arith) c) (value v))

pub texts_are_utf8 : TextsAreUtf8
texts_are_utf8 bytes t =
    subst IsUtf8 (sym t.is)
    (IsUtf8-append t.before (t.value ++ t.after) (white t.before t.before_is) (IsUtf8-append t.value t.after (value t.value_is) (white t.after t.after_is)))

-- so what is no UTF-8 is no text
pub is_no_utf8 : (bytes : List ℕ) → is_utf8 bytes ≡ false → IsText bytes → ⊥
is_no_utf8 bytes refused t = false≢true (sym refused ∙ is_utf8-from_IsUtf8 bytes (texts_are_utf8 bytes t))
