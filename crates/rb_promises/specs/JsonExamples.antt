-- Texts that are of the grammar of JSON, and texts that are none.
use Rattle.std.specs.Prelude.{ℕ, List, [], ◌∷◌, ◌++◌, codes}
use Rattle.std.specs.List.{AllByRecursion}
use Rattle.std.specs.Str.{IsUtf8}
use Rattle.rb_show.specs.JsonGrammar.{IsText}

-- Each text of the grammar is in UTF-8 (RFC 8259 section 8.1).
abbrev pub TextsAreUtf8 : Type 0
TextsAreUtf8 = (bytes : List ℕ) → IsText bytes → IsUtf8 bytes

-- each line, and a line feed after it
abbrev pub lined : List (List ℕ) → List ℕ
lined [] = []
lined (line ∷ lines) = line ++ (codes "\n" ++ lined lines)

-- ---- the examples of RFC 8259 section 13

abbrev pub image : List ℕ
image = lined (
    codes "{"
    ∷ codes "  \"Image\": {"
    ∷ codes "      \"Width\":  800,"
    ∷ codes "      \"Height\": 600,"
    ∷ codes "      \"Title\":  \"View from 15th Floor\","
    ∷ codes "      \"Thumbnail\": {"
    ∷ codes "          \"Url\":    \"http://www.example.com/image/481989943\","
    ∷ codes "          \"Height\": 125,"
    ∷ codes "          \"Width\":  100"
    ∷ codes "      },"
    ∷ codes "      \"Animated\" : false,"
    ∷ codes "      \"IDs\": [116, 943, 234, 38793]"
    ∷ codes "    }"
    ∷ codes "}"
    ∷ [])

abbrev pub places : List ℕ
places = lined (
    codes "["
    ∷ codes "  {"
    ∷ codes "     \"precision\": \"zip\","
    ∷ codes "     \"Latitude\":  37.7668,"
    ∷ codes "     \"Longitude\": -122.3959,"
    ∷ codes "     \"Address\":   \"\","
    ∷ codes "     \"City\":      \"SAN FRANCISCO\","
    ∷ codes "     \"State\":     \"CA\","
    ∷ codes "     \"Zip\":       \"94107\","
    ∷ codes "     \"Country\":   \"US\""
    ∷ codes "  },"
    ∷ codes "  {"
    ∷ codes "     \"precision\": \"zip\","
    ∷ codes "     \"Latitude\":  37.371991,"
    ∷ codes "     \"Longitude\": -122.026020,"
    ∷ codes "     \"Address\":   \"\","
    ∷ codes "     \"City\":      \"SUNNYVALE\","
    ∷ codes "     \"State\":     \"CA\","
    ∷ codes "     \"Zip\":       \"94085\","
    ∷ codes "     \"Country\":   \"US\""
    ∷ codes "  }"
    ∷ codes "]"
    ∷ [])

abbrev pub examples : List (List ℕ)
examples = image ∷ places ∷ codes "\"Hello world!\"" ∷ codes "42" ∷ codes "true" ∷ []

abbrev pub ExamplesAreTexts : Type 0
ExamplesAreTexts = AllByRecursion IsText examples

-- ---- texts that are none

-- a comma or a colon is missing, or one stands before the end
abbrev pub marks_amiss : List (List ℕ)
marks_amiss =
    codes "{\"program\":7\"version\":3}"
    ∷ codes "{\"program\":7,}"
    ∷ codes "{\"program\" 7}"
    ∷ codes "{\"program\"}"
    ∷ codes "[1 2]"
    ∷ codes "[1,]"
    ∷ []

-- a leading zero, a plus, no digit
abbrev pub numbers_amiss : List (List ℕ)
numbers_amiss =
    codes "{\"port\":0111}"
    ∷ codes "-01"
    ∷ codes "+1"
    ∷ codes "-"
    ∷ codes ".5"
    ∷ codes "1."
    ∷ codes "1e"
    ∷ []

-- a quotation mark or a line feed within a string, an escape that is none, other quotation marks,
-- or no end
abbrev pub strings_amiss : List (List ℕ)
strings_amiss =
    codes "{\"owner\":\"a\"b\"}"
    ∷ codes "{\"owner\":\"a\nb\"}"
    ∷ codes "\"\\x41\""
    ∷ codes "\"\\u00c\""
    ∷ codes "{'owner':'a'}"
    ∷ codes "\"a"
    ∷ []

-- no value, two values, a word that is none, an open bracket, a name that is no string
abbrev pub values_amiss : List (List ℕ)
values_amiss =
    codes ""
    ∷ codes "{} {}"
    ∷ codes "True"
    ∷ codes "nul"
    ∷ codes "[[]"
    ∷ codes "[}"
    ∷ codes "{7:7}"
    ∷ []

-- what is no UTF-8 (RFC 3629), between quotation marks: a byte alone, a spelling that is too long,
-- a surrogate
abbrev pub bytes_amiss : List (List ℕ)
bytes_amiss =
    (34 ∷ 200 ∷ 34 ∷ [])
    ∷ (34 ∷ 128 ∷ 34 ∷ [])
    ∷ (34 ∷ 192 ∷ 175 ∷ 34 ∷ [])
    ∷ (34 ∷ 237 ∷ 160 ∷ 128 ∷ 34 ∷ [])
    ∷ []

abbrev pub AreNoTexts : List (List ℕ) → Type 0
AreNoTexts texts = AllByRecursion (λ bytes. ¬ (IsText bytes)) texts

abbrev pub OthersAreNone : Type 0
OthersAreNone =
    AreNoTexts marks_amiss × AreNoTexts numbers_amiss × AreNoTexts strings_amiss
    × AreNoTexts values_amiss × AreNoTexts bytes_amiss
