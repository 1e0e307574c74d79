-- Texts of the grammar of JSON that are printable.
use Rattle.std.proofs.Common.{◌≡◌, ◌<◌, ◌≤◌, ◌⊎◌, ◌+◌, ◌^◌, ◌/◌, ◌%◌, ℕ, zero, suc, List, [], ◌∷◌, ◌++◌, true, refl, sym, ap, ◌∙◌, subst, append_assoc, append-nil, get_or, map, inl, inr, arith}
use Rattle.std.specs.Prelude.{codes, nat_le, nat_eq, ◌&&◌, not, Bool, false, FitsSigned, ℤ, pos, negsuc}
use Rattle.std.specs.Char.{IsScalar}
use Rattle.std.specs.Int.{w32}
use Rattle.std.specs.Int.Digits.{digits_of, AllBelowBase}
use Rattle.std.specs.Fmt.{decimal, signed_decimal, digits}
use Rattle.std.specs.List.{AllByRecursion, list_all, flat_map}
use Rattle.std.proofs.lemmas.Bool.{cases_Bool}
use Rattle.std.proofs.lemmas.Bool.Decides.{nat_tests}
use Rattle.std.proofs.lemmas.Fmt.{decimal-digits_of}
use Rattle.std.proofs.lemmas.Int.Digits.{all_below_base_digits_of, first_digits_of}
use Rattle.std.proofs.lemmas.List.Folds.{list_all-append}
use Rattle.std.proofs.lemmas.Str.{encode_ascii}
use Rattle.rb_show.specs.Json.{hex_digit, code_escape, escaped_byte, json_text}
use Rattle.rb_show.specs.JsonLaws.{is_printable}
use Rattle.rb_show.specs.JsonGrammar.{IsMark, is_digit, IsInteger, IsNumber, is_hex_digit, IsCharacter, AreCharacters, IsValue, AreValues, AreMembers, IsText}
use Rattle.rb_show.specs.JsonGrammar.IsCharacter.{Itself, Escaped, Numbered}
use Rattle.rb_show.specs.JsonGrammar.AreCharacters.{NoCharacter, OneCharacter}
use Rattle.rb_show.specs.JsonGrammar.IsValue.{Number, String, Array, Object}
use Rattle.rb_show.specs.JsonGrammar.IsArray.{Values}
use Rattle.rb_show.specs.JsonGrammar.AreValues.{OneValue, MoreValues}
use Rattle.rb_show.specs.JsonGrammar.IsObject.{Members}
use Rattle.rb_show.specs.JsonGrammar.AreMembers.{OneMember, MoreMembers}
use Rattle.rb_show.specs.JsonGrammar.IsMember.{Member}
use Rattle.rb_show.specs.ObjectLaws.{IsObjectLine}
use Rattle.rb_show.proofs.JsonTexts.{printable_json}

-- these bytes are so, and printable
pub record Printed (Is : List ℕ → Type 0) (bytes : List ℕ) : Type 0 where
  pub is : Is bytes
  pub printable : list_all is_printable bytes ≡ true

both : (a b : List ℕ) → list_all is_printable a ≡ true → list_all is_printable b ≡ true → list_all is_printable (a ++ b) ≡ true
both a b a_is b_is = rw (list_all-append is_printable a b, a_is, b_is) refl

mark : (m : ℕ) → IsMark m (m ∷ [])
mark m = record { before = []; after = []; is = refl; before_is = refl; after_is = refl }

-- ---- numbers

some_digits : (d : ℕ) (more : List ℕ) → AllBelowBase 10 (d ∷ more) → list_all is_digit (map (λ (k : ℕ). 48 + k) (d ∷ more)) ≡ true
some_digits d [] below = grind (arith, nat_tests, below.0)
some_digits d (e ∷ more) below =
    let first : is_digit (48 + d) ≡ true = grind (arith, nat_tests, below.0) in
    rw (first, some_digits e more below.1) refl

integer_of : (ds : List ℕ) → AllBelowBase 10 ds → 0 < get_or ds 0 0 → IsInteger (map (λ (k : ℕ). 48 + k) ds)
integer_of [] below first = absurd (omega (arith, first))
integer_of (d ∷ more) below first = (some_digits d more below, λ e. absurd (omega (arith, e, first)))

decimal_integer : (n : ℕ) → n < 2 ^ 64 → IsInteger (decimal n)
unfolding digits
decimal_integer zero small = (refl, λ e. refl)
decimal_integer (suc n) small =
    subst IsInteger (sym (decimal-digits_of (suc n) (omega arith) small))
    (integer_of (digits_of 10 (suc n)) (all_below_base_digits_of 10 (suc n) (omega arith)) (first_digits_of 10 (suc n) (omega arith) (omega arith)))

digit_printable : (b : ℕ) → is_digit b ≡ true → is_printable b ≡ true
digit_printable b is = grind (arith, nat_tests, is)

digits_printable : (bytes : List ℕ) → list_all is_digit bytes ≡ true → list_all is_printable bytes ≡ true
digits_printable [] are = refl
digits_printable (b ∷ bytes) are = let first : is_digit b ≡ true = grind (arith, are) in let rest : list_all is_digit bytes ≡ true = grind (arith, are) in rw (digit_printable b first, digits_printable bytes rest) refl

integer_printable : (bytes : List ℕ) → IsInteger bytes → list_all is_printable bytes ≡ true
integer_printable [] is = absurd is
integer_printable (b ∷ bytes) is = digits_printable (b ∷ bytes) is.0

number_of : (minus integer : List ℕ) → (minus ≡ []) ⊎ (minus ≡ codes "-") → IsInteger integer → IsNumber (minus ++ integer)
number_of minus integer minus_is integer_is = record {
  minus = minus;
  integer = integer;
  fraction = [];
  exponent = [];
  is = ap (λ (xs : List ℕ). minus ++ xs) (sym (append-nil integer));
  minus_is = minus_is;
  integer_is = integer_is;
  fraction_is = inl refl;
  exponent_is = inl refl;
}

pub number : (n : ℕ) → n < 2 ^ 64 → Printed IsValue (decimal n)
number n small =
    let integer = decimal_integer n small in
    record { is = Number (number_of [] (decimal n) (inl refl) integer); printable = integer_printable (decimal n) integer }

pub signed_number : (z : ℤ) → FitsSigned w32 z → Printed IsValue (signed_decimal z)
signed_number (pos n) fits = number n (omega (arith, fits))
signed_number (negsuc n) fits =
    let integer = decimal_integer (suc n) (omega (arith, fits)) in
    record { is = Number (number_of (codes "-") (decimal (suc n)) (inr refl) integer); printable = integer_printable (decimal (suc n)) integer }

-- printable characters are bytes
pub printable_small : (bytes : List ℕ) → list_all is_printable bytes ≡ true → AllByRecursion (λ b. b < 256) bytes
printable_small [] are = tt
printable_small (b ∷ bytes) are =
    let first : is_printable b ≡ true = grind (arith, are) in
    let rest : list_all is_printable bytes ≡ true = grind (arith, are) in
    (grind (arith, nat_tests, first), printable_small bytes rest)

-- ---- strings

hex_is : (n : ℕ) → n < 16 → is_hex_digit (hex_digit n) ≡ true
hex_is n small = grind (arith, nat_tests, small)

ascii_scalar : (b : ℕ) → b < 128 → IsScalar b
ascii_scalar b small = grind (arith, nat_tests, small)

pub itself : (b : ℕ) → (nat_le 32 b && nat_le b 126) ≡ true → nat_eq b 34 ≡ false → nat_eq b 92 ≡ false → IsCharacter (b ∷ [])
itself b printable no_quote no_backslash =
    let low : 32 ≤ b = grind (arith, nat_tests, printable) in
    let high : b < 128 = grind (arith, nat_tests, printable) in
    subst IsCharacter (encode_ascii b high)
    (Itself b (record { no_control = low; no_quote = λ e. grind (arith, nat_tests, no_quote, e); no_backslash = λ e. grind (arith, nat_tests, no_backslash, e); unicode = ascii_scalar b high }))

coded : (b : ℕ) → b < 256 → IsCharacter (code_escape b)
coded b small =
    let high : is_hex_digit (hex_digit (b / 16)) ≡ true = hex_is (b / 16) (omega (arith, small)) in
    let low : is_hex_digit (hex_digit (b % 16)) ≡ true = hex_is (b % 16) (omega arith) in
    Numbered 48 48 (hex_digit (b / 16)) (hex_digit (b % 16)) (rw (high, low) refl)

escaped_is : (b : ℕ) → b < 256 → IsCharacter (escaped_byte b)
escaped_is b small =
    elim (cases_Bool (nat_eq b 34)) [
      | inl quote ↦ rw quote (Escaped 34 refl)
      | inr no_quote ↦ rw no_quote (
          elim (cases_Bool (nat_eq b 92)) [
            | inl backslash ↦ rw backslash (Escaped 92 refl)
            | inr no_backslash ↦ rw no_backslash (
                elim (cases_Bool (nat_le 32 b && nat_le b 126)) [
                  | inl printable ↦ rw printable (itself b printable no_quote no_backslash)
                  | inr other ↦ rw other (coded b small)
                ])
          ])
    ]

escaped_are : (text : List ℕ) → AllByRecursion (λ b. b < 256) text → AreCharacters (flat_map escaped_byte text)
escaped_are [] all = NoCharacter
escaped_are (b ∷ text) all = OneCharacter (escaped_is b all.0) (escaped_are text all.1)

pub string : (text : List ℕ) → AllByRecursion (λ b. b < 256) text → Printed IsValue (json_text text)
string text all = record { is = String (flat_map escaped_byte text, refl, escaped_are text all); printable = printable_json text all }

-- ---- members

-- characters of a name that stand for themselves
abbrev pub is_plain : ℕ → Bool
is_plain b = is_printable b && (not (nat_eq b 34) && not (nat_eq b 92))

record Plain (b : ℕ) : Type 0 where
  printable : is_printable b ≡ true
  no_quote : nat_eq b 34 ≡ false
  no_backslash : nat_eq b 92 ≡ false

plain_is : (b : ℕ) → is_plain b ≡ true → Plain b
plain_is b is = record { printable = grind (arith, is); no_quote = grind (arith, is); no_backslash = grind (arith, is) }

plain_are : (text : List ℕ) → list_all is_plain text ≡ true → AreCharacters text × (list_all is_printable text ≡ true)
plain_are [] are = (NoCharacter, refl)
plain_are (b ∷ text) are =
    let first : is_plain b ≡ true = grind (arith, are) in
    let rest : list_all is_plain text ≡ true = grind (arith, are) in
    let p = plain_is b first in
    let more = plain_are text rest in
    (OneCharacter (itself b p.printable p.no_quote p.no_backslash) more.0, rw (p.printable, more.1) refl)

-- a name, quoted and with its colon
abbrev pub named : List ℕ → List ℕ
named name = 34 ∷ (name ++ 34 ∷ 58 ∷ [])

name_assoc : (name value : List ℕ) → (34 ∷ (name ++ 34 ∷ [])) ++ (58 ∷ value) ≡ named name ++ value
name_assoc name value = ap (λ (xs : List ℕ). 34 ∷ xs) (append_assoc name (34 ∷ []) (58 ∷ value) ∙ sym (append_assoc name (34 ∷ 58 ∷ []) value))

pub member : (name : List ℕ) {value : List ℕ} → list_all is_plain name ≡ true → Printed IsValue value → Printed AreMembers (named name ++ value)
member name {value} plain v =
    let characters = plain_are name plain in
    record {
      is = subst AreMembers (name_assoc name value) (OneMember (Member (name, refl, characters.0) (mark 58) v.is));
      printable = both (named name) value (both name (34 ∷ 58 ∷ []) characters.1 refl) v.printable;
    }

members_are : {a b : List ℕ} → AreMembers a → AreMembers b → AreMembers (a ++ 44 ∷ b)
members_are (OneMember m) b_are = MoreMembers m (mark 44) b_are
members_are {b = b} (MoreMembers {member} {comma} {more} m c rest) b_are =
    subst AreMembers (simp append_assoc) (MoreMembers m c (members_are rest b_are))

pub members_joined : {a b : List ℕ} → Printed AreMembers a → Printed AreMembers b → Printed AreMembers (a ++ 44 ∷ b)
members_joined {a} {b} first second = record { is = members_are first.is second.is; printable = both a (44 ∷ b) first.printable second.printable }

-- ---- arrays

values_are : {a b : List ℕ} → AreValues a → AreValues b → AreValues (a ++ 44 ∷ b)
values_are (OneValue v) b_are = MoreValues v (mark 44) b_are
values_are {b = b} (MoreValues {value} {comma} {more} v c rest) b_are =
    subst AreValues (simp append_assoc) (MoreValues v c (values_are rest b_are))

pub one_value : {value : List ℕ} → Printed IsValue value → Printed AreValues value
one_value v = record { is = OneValue v.is; printable = v.printable }

pub values_joined : {a b : List ℕ} → Printed AreValues a → Printed AreValues b → Printed AreValues (a ++ 44 ∷ b)
values_joined {a} {b} first second = record { is = values_are first.is second.is; printable = both a (44 ∷ b) first.printable second.printable }

pub array : {values : List ℕ} → Printed AreValues values → Printed IsValue (91 ∷ (values ++ 93 ∷ []))
array {values} v = record { is = Array (Values (mark 91) v.is (mark 93)); printable = both values (93 ∷ []) v.printable refl }

-- ---- objects

pub object_line : (members line : List ℕ) → Printed AreMembers members → line ≡ codes "{" ++ (members ++ codes "}\n") → IsObjectLine line
object_line members line m is = record {
  object = codes "{" ++ (members ++ codes "}");
  is = is ∙ ap (λ (xs : List ℕ). 123 ∷ xs) (sym (append_assoc members (codes "}") (codes "\n")));
  is_object = Members (mark 123) m.is (mark 125);
  printable = both members (codes "}") m.printable refl;
}

-- an object and a line feed are a text
pub line_is_text : (line : List ℕ) → IsObjectLine line → IsText line
line_is_text line o = record { before = []; value = o.object; after = codes "\n"; is = o.is; before_is = refl; value_is = Object o.is_object; after_is = refl }
