-- Texts that are of the grammar of JSON, and texts that are none.
use Rattle.std.proofs.Common.{◌≡◌, ℕ, true, List, [], ◌∷◌, ◌++◌, inl, inr, refl, arith}
use Rattle.std.specs.Prelude.{codes, not}
use Rattle.std.specs.List.{list_all}
use Rattle.std.proofs.lemmas.Bool.{and_parts}
use Rattle.rb_show.specs.JsonGrammar.{AreWhite, IsMark, AreDigits, IsInteger, IsMinus, Perhaps, IsFraction, IsValue, AreMembers, IsMember, IsText}
use Rattle.rb_show.specs.JsonGrammar.IsArray.{Values}
use Rattle.rb_show.specs.JsonGrammar.AreValues.{OneValue, MoreValues}
use Rattle.rb_show.specs.JsonGrammar.IsObject.{Members}
use Rattle.rb_show.specs.JsonGrammar.AreMembers.{OneMember, MoreMembers}
use Rattle.rb_show.specs.JsonGrammar.IsMember.{Member}
use Rattle.rb_promises.specs.JsonExamples.{image, places, ExamplesAreTexts, marks_amiss, numbers_amiss, strings_amiss, values_amiss, bytes_amiss, AreNoTexts, OthersAreNone}
use Rattle.rb_promises.proofs.PlainStrings.{is_plain, quoted, plain_string}
use lib.Utf8.{encode}
use Rattle.std.specs.Str.{is_utf8, chars}
use Rattle.rb_promises.proofs.Utf8Texts.{is_no_utf8}
use Rattle.rb_promises.proofs.ReadTexts.{accepts, is_no_text}
use Rattle.rb_promises.proofs.JsonSteps.{run, start}

-- ---- parts

-- a mark with white space after it, or before it
opens : (mark : ℕ) (gap : List ℕ) → AreWhite gap → IsMark mark (mark ∷ gap)
opens mark gap white = record { before = []; after = gap; is = refl; before_is = refl; after_is = white }

closes : (gap : List ℕ) (mark : ℕ) → AreWhite gap → IsMark mark (gap ++ mark ∷ [])
closes gap mark white = record { before = gap; after = []; is = refl; before_is = white; after_is = refl }

-- minus, an integer and a fraction
number : (minus integer fraction : List ℕ) → Perhaps IsMinus minus → IsInteger integer → Perhaps IsFraction fraction → IsValue (minus ++ (integer ++ (fraction ++ [])))
number minus integer fraction m i f = IsValue.Number (record {
  minus = minus;
  integer = integer;
  fraction = fraction;
  exponent = [];
  is = refl;
  minus_is = m;
  integer_is = i;
  fraction_is = f;
  exponent_is = inl refl;
})

-- a point and digits
point : (digits : List ℕ) → AreDigits digits → Perhaps IsFraction (46 ∷ digits)
point digits are = inr (digits, refl, are)

-- digits of which the first is no zero
integer : (b : ℕ) (more : List ℕ) → AreDigits (b ∷ more) → (b ≡ 48 → ⊥) → IsInteger (b ∷ more)
integer b more are no_zero = (are, λ e. absurd (no_zero e))

string : (text : List ℕ) → list_all is_plain text ≡ true → IsValue (quoted text)
string text plain = IsValue.String (plain_string text plain)

-- a member whose value is this one
field : (name gap : List ℕ) {value : List ℕ} → list_all is_plain name ≡ true → AreWhite gap → IsValue value → IsMember (quoted name ++ ((58 ∷ gap) ++ value))
field name gap plain white value = Member (plain_string name plain) (opens 58 gap white) value

-- ---- the first example

size : (b : ℕ) (more : List ℕ) → AreDigits (b ∷ more) → (b ≡ 48 → ⊥) → IsValue (b ∷ (more ++ []))
size b more are no_zero = number [] (b ∷ more) [] (inl refl) (integer b more are no_zero) (inl refl)

comma : (gap : List ℕ) → AreWhite gap → IsMark 44 (44 ∷ gap)
comma = opens 44

n800 : IsValue (codes "800")
n800 = size 56 (codes "00") refl (λ e. omega (arith, e))

n600 : IsValue (codes "600")
n600 = size 54 (codes "00") refl (λ e. omega (arith, e))

n125 : IsValue (codes "125")
n125 = size 49 (codes "25") refl (λ e. omega (arith, e))

n100 : IsValue (codes "100")
n100 = size 49 (codes "00") refl (λ e. omega (arith, e))

ids : IsValue (codes "[116, 943, 234, 38793]")
ids = IsValue.Array (Values (opens 91 [] refl)
    (MoreValues (size 49 (codes "16") refl (λ e. omega (arith, e))) (comma (codes " ") refl)
    (MoreValues (size 57 (codes "43") refl (λ e. omega (arith, e))) (comma (codes " ") refl)
    (MoreValues (size 50 (codes "34") refl (λ e. omega (arith, e))) (comma (codes " ") refl)
    (OneValue (size 51 (codes "8793") refl (λ e. omega (arith, e)))))))
    (closes [] 93 refl))

thumbnail : IsValue (codes "{\n          \"Url\":    \"http://www.example.com/image/481989943\",\n          \"Height\": 125,\n          \"Width\":  100\n      }")
thumbnail = IsValue.Object (Members (opens 123 (codes "\n          ") refl)
    (MoreMembers (field (codes "Url") (codes "    ") refl refl (string (codes "http://www.example.com/image/481989943") refl)) (comma (codes "\n          ") refl)
    (MoreMembers (field (codes "Height") (codes " ") refl refl n125) (comma (codes "\n          ") refl)
    (OneMember (field (codes "Width") (codes "  ") refl refl n100))))
    (closes (codes "\n      ") 125 refl))

-- the value of an object with these members, of which the last ends before this gap
between : (gap last : List ℕ) {members : List ℕ} → AreWhite gap → AreWhite last → AreMembers members → IsValue ((123 ∷ gap) ++ (members ++ (last ++ 125 ∷ [])))
between gap last gap_white last_white members = IsValue.Object (Members (opens 123 gap gap_white) members (closes last 125 last_white))

-- one value and a line feed
text : {value : List ℕ} (bytes : List ℕ) → IsValue value → bytes ≡ value ++ codes "\n" → IsText bytes
text {value} bytes is e = record { before = []; value = value; after = codes "\n"; is = e; before_is = refl; value_is = is; after_is = refl }

-- and no more
bare : {value : List ℕ} → IsValue value → IsText (value ++ [])
bare {value} is = record { before = []; value = value; after = []; is = refl; before_is = refl; value_is = is; after_is = refl }

image_is : IsText image
image_is = text image (between (codes "\n  ") (codes "\n") refl refl (OneMember (field (codes "Image") (codes " ") refl refl (between (codes "\n      ") (codes "\n    ") refl refl (
    MoreMembers (field (codes "Width") (codes "  ") refl refl n800) (comma (codes "\n      ") refl)
    (MoreMembers (field (codes "Height") (codes " ") refl refl n600) (comma (codes "\n      ") refl)
    (MoreMembers (field (codes "Title") (codes "  ") refl refl (string (codes "View from 15th Floor") refl)) (comma (codes "\n      ") refl)
    (MoreMembers (field (codes "Thumbnail") (codes " ") refl refl thumbnail) (comma (codes "\n      ") refl)
    (MoreMembers (Member (plain_string (codes "Animated") refl) (record { before = codes " "; after = codes " "; is = refl; before_is = refl; after_is = refl }) IsValue.False) (comma (codes "\n      ") refl)
    (OneMember (field (codes "IDs") (codes " ") refl refl ids))))))))))) refl

-- ---- the second example

-- of a member with a text
line : (name gap value : List ℕ) → list_all is_plain name ≡ true → AreWhite gap → list_all is_plain value ≡ true → IsMember (quoted name ++ ((58 ∷ gap) ++ quoted value))
line name gap value plain white text_plain = field name gap plain white (string value text_plain)

gap5 : IsMark 44 (codes ",\n     ")
gap5 = comma (codes "\n     ") refl

latitude_1 : IsValue (codes "37.7668")
latitude_1 = number (codes "") (codes "37") (codes ".7668") (inl refl) (integer 51 (codes "7") refl (λ e. omega (arith, e))) (point (codes "7668") refl)

longitude_1 : IsValue (codes "-122.3959")
longitude_1 = number (codes "-") (codes "122") (codes ".3959") (inr refl) (integer 49 (codes "22") refl (λ e. omega (arith, e))) (point (codes "3959") refl)

latitude_2 : IsValue (codes "37.371991")
latitude_2 = number (codes "") (codes "37") (codes ".371991") (inl refl) (integer 51 (codes "7") refl (λ e. omega (arith, e))) (point (codes "371991") refl)

longitude_2 : IsValue (codes "-122.026020")
longitude_2 = number (codes "-") (codes "122") (codes ".026020") (inr refl) (integer 49 (codes "22") refl (λ e. omega (arith, e))) (point (codes "026020") refl)

places_is : IsText places
places_is = text places (IsValue.Array (Values (opens 91 (codes "\n  ") refl)
    (MoreValues (between (codes "\n     ") (codes "\n  ") refl refl
    (MoreMembers (line (codes "precision") (codes " ") (codes "zip") refl refl refl) gap5
    (MoreMembers (field (codes "Latitude") (codes "  ") refl refl latitude_1) gap5
    (MoreMembers (field (codes "Longitude") (codes " ") refl refl longitude_1) gap5
    (MoreMembers (line (codes "Address") (codes "   ") [] refl refl refl) gap5
    (MoreMembers (line (codes "City") (codes "      ") (codes "SAN FRANCISCO") refl refl refl) gap5
    (MoreMembers (line (codes "State") (codes "     ") (codes "CA") refl refl refl) gap5
    (MoreMembers (line (codes "Zip") (codes "       ") (codes "94107") refl refl refl) gap5
    (OneMember (line (codes "Country") (codes "   ") (codes "US") refl refl refl)))))))))) (comma (codes "\n  ") refl)
    (OneValue (between (codes "\n     ") (codes "\n  ") refl refl
    (MoreMembers (line (codes "precision") (codes " ") (codes "zip") refl refl refl) gap5
    (MoreMembers (field (codes "Latitude") (codes "  ") refl refl latitude_2) gap5
    (MoreMembers (field (codes "Longitude") (codes " ") refl refl longitude_2) gap5
    (MoreMembers (line (codes "Address") (codes "   ") [] refl refl refl) gap5
    (MoreMembers (line (codes "City") (codes "      ") (codes "SUNNYVALE") refl refl refl) gap5
    (MoreMembers (line (codes "State") (codes "     ") (codes "CA") refl refl refl) gap5
    (MoreMembers (line (codes "Zip") (codes "       ") (codes "94085") refl refl refl) gap5
    (OneMember (line (codes "Country") (codes "   ") (codes "US") refl refl refl))))))))))))
    (closes (codes "\n") 93 refl))) refl

pub examples_are_texts : ExamplesAreTexts
examples_are_texts = (image_is, (places_is, (bare (string (codes "Hello world!") refl), (bare (size 52 (codes "2") refl (λ e. omega (arith, e))), (bare IsValue.True, tt)))))

-- ---- texts that are none

none_are_texts : (texts : List (List ℕ)) → list_all (λ bytes. not (accepts (run start bytes))) texts ≡ true → AreNoTexts texts
none_are_texts [] refused = tt
none_are_texts (bytes ∷ texts) refused =
    let parts : (not (accepts (run start bytes)) ≡ true) × (list_all (λ xs. not (accepts (run start xs))) texts ≡ true) = and_parts _ _ refused in
    (is_no_text bytes (grind (arith, parts.0)), none_are_texts texts parts.1)

none_are_utf8 : (texts : List (List ℕ)) → list_all (λ bytes. not (is_utf8 bytes)) texts ≡ true → AreNoTexts texts
none_are_utf8 [] refused = tt
none_are_utf8 (bytes ∷ texts) refused =
    let parts : (not (is_utf8 bytes) ≡ true) × (list_all (λ xs. not (is_utf8 xs)) texts ≡ true) = and_parts _ _ refused in
    (is_no_utf8 bytes (grind (arith, parts.0)), none_are_utf8 texts parts.1)

pub others_are_none : OthersAreNone
unfolding is_utf8 chars encode
others_are_none = (none_are_texts marks_amiss refl, none_are_texts numbers_amiss refl, none_are_texts strings_amiss refl, none_are_texts values_amiss refl, none_are_utf8 bytes_amiss refl)
