-- What the reader comes to after the parts of a text that the grammar has.
use Rattle.std.proofs.Common.{◌≡◌, ◌≢◌, ◌⊎◌, ℕ, suc, ◌<◌, ◌≤◌, Bool, true, false, List, [], ◌∷◌, ◌++◌, length, get_or, inl, inr, refl, sym, ap, ◌∙◌, subst, append_assoc, append-nil, arith}
use Rattle.std.specs.Prelude.{codes, nat_le, nat_eq, encode_utf8}
use Rattle.std.specs.List.{list_all}
use Rattle.std.proofs.lemmas.Bool.{cases_Bool, cases_eq, cases_lt, and_parts}
use Rattle.std.proofs.lemmas.Bool.Decides.{nat_tests}
use Rattle.std.proofs.lemmas.Str.{inside_one}
use Rattle.rb_show.specs.JsonGrammar.{is_white, AreWhite, IsMark, is_digit, is_hex_digit, Perhaps, AreDigits, IsInteger, IsMinus, IsSign, IsFraction, IsExponent, IsNumber, StandsForItself, IsCharacter, AreCharacters, IsString, IsValue, IsArray, AreValues, IsObject, AreMembers, IsMember}
use Rattle.rb_show.specs.JsonGrammar.IsCharacter.{Itself, Escaped, Numbered}
use Rattle.rb_show.specs.JsonGrammar.AreCharacters.{NoCharacter, OneCharacter}
use Rattle.rb_show.specs.JsonGrammar.IsArray.{NoValues, Values}
use Rattle.rb_show.specs.JsonGrammar.AreValues.{OneValue, MoreValues}
use Rattle.rb_show.specs.JsonGrammar.IsObject.{NoMembers, Members}
use Rattle.rb_show.specs.JsonGrammar.AreMembers.{OneMember, MoreMembers}
use Rattle.rb_show.specs.JsonGrammar.IsMember.{Member}
use Rattle.rb_promises.specs.JsonMembers.{member_name, member_names, object_names}
use Rattle.rb_promises.proofs.JsonSteps.{Mode, State, note, integer, in_hex, step, run}
use Rattle.rb_promises.proofs.JsonSteps.Mode.{Value, Name, Colon, After, Text, Escape, Hex, Minus, Zero, Digits, Point, Fraction, Letter, Sign, Exponent}
use Rattle.rb_promises.proofs.JsonSteps.State.{At}

pub run-append : (state : State) (a b : List ℕ) → run state (a ++ b) ≡ run (run state a) b
run-append state [] b = refl
run-append state (x ∷ a) b = run-append (step state x) a b

-- after two parts
run_both : (state middle last : State) (a b : List ℕ) → run state a ≡ middle → run middle b ≡ last → run state (a ++ b) ≡ last
run_both state middle last a b first second = run-append state a b ∙ ap (λ (s : State). run s b) first ∙ second

-- ---- white space and marks

-- bytes that end a number
pub data IsStop : ℕ → Type 0 where
  Comma : IsStop 44
  Bracket : IsStop 93
  Brace : IsStop 125
  Space : IsStop 32
  Tab : IsStop 9
  LineFeed : IsStop 10
  Return : IsStop 13

pub data IsBlank : ℕ → Type 0 where
  Space : IsBlank 32
  Tab : IsBlank 9
  LineFeed : IsBlank 10
  Return : IsBlank 13

pub blank : (b : ℕ) → is_white b ≡ true → IsBlank b
blank b white = elim (cases_eq b 32) [
  | inl space ↦ subst IsBlank (sym space) IsBlank.Space
  | inr no_space ↦ elim (cases_eq b 9) [
    | inl tab ↦ subst IsBlank (sym tab) IsBlank.Tab
    | inr no_tab ↦ elim (cases_eq b 10) [
      | inl feed ↦ subst IsBlank (sym feed) IsBlank.LineFeed
      | inr no_feed ↦ elim (cases_eq b 13) [
        | inl return ↦ subst IsBlank (sym return) IsBlank.Return
        | inr no_return ↦ absurd (grind (arith, nat_tests, white, no_space, no_tab, no_feed, no_return))
      ]
    ]
  ]
]

pub stops : {b : ℕ} → IsBlank b → IsStop b
stops Space = IsStop.Space
stops Tab = IsStop.Tab
stops LineFeed = IsStop.LineFeed
stops Return = IsStop.Return

-- white space leaves it as it is
abbrev pub Skips : State → Type 0
Skips state = (b : ℕ) → IsBlank b → step state b ≡ state

pub skips : (state : State) → Skips state → (bytes : List ℕ) → AreWhite bytes → run state bytes ≡ state
skips state skip [] white = refl
skips state skip (b ∷ bytes) white =
    let parts = and_parts _ _ white in
    ap (λ (s : State). run s bytes) (skip b (blank b parts.0)) ∙ skips state skip bytes parts.1

at_mark : (mark : ℕ) (bytes : List ℕ) (state last : State) → Skips state → step state mark ≡ last → Skips last → IsMark mark bytes → run state bytes ≡ last
at_mark mark bytes state last skip moves skip_then m =
    ap (run state) m.is
    ∙ run_both state state last m.before (mark ∷ m.after) (skips state skip m.before m.before_is)
    (ap (λ (s : State). run s m.after) moves ∙ skips last skip_then m.after m.after_is)

pub value_skips : (first : Bool) (brackets : List Bool) (names : List (List ℕ)) → Skips (At (Value first) brackets names)
value_skips first brackets names b Space = refl
value_skips first brackets names b Tab = refl
value_skips first brackets names b LineFeed = refl
value_skips first brackets names b Return = refl

name_skips : (first : Bool) (brackets : List Bool) (names : List (List ℕ)) → Skips (At (Name first) brackets names)
name_skips first brackets names b Space = refl
name_skips first brackets names b Tab = refl
name_skips first brackets names b LineFeed = refl
name_skips first brackets names b Return = refl

colon_skips : (brackets : List Bool) (names : List (List ℕ)) → Skips (At Colon brackets names)
colon_skips brackets names b Space = refl
colon_skips brackets names b Tab = refl
colon_skips brackets names b LineFeed = refl
colon_skips brackets names b Return = refl

pub after_skips : (brackets : List Bool) (names : List (List ℕ)) → Skips (At After brackets names)
after_skips brackets names b Space = refl
after_skips brackets names b Tab = refl
after_skips brackets names b LineFeed = refl
after_skips brackets names b Return = refl

-- ---- where a value may end

pub data WholeMode : Mode → Type 0 where
  AtZero : WholeMode Zero
  AtDigits : WholeMode Digits

pub data FractionalMode : Mode → Type 0 where
  OfWhole : {mode : Mode} → WholeMode mode → FractionalMode mode
  AtFraction : FractionalMode Fraction

pub data EndMode : Mode → Type 0 where
  AtAfter : EndMode After
  OfFractional : {mode : Mode} → FractionalMode mode → EndMode mode
  AtExponent : EndMode Exponent

-- a value has come, or a number that may be all
pub record Ends (brackets : List Bool) (names : List (List ℕ)) (state : State) : Type 0 where
  pub mode : Mode
  pub ends : EndMode mode
  pub is : state ≡ At mode brackets names

pub ended : (brackets : List Bool) (names : List (List ℕ)) (state : State) → state ≡ At After brackets names → Ends brackets names state
ended brackets names state is = record { mode = After; ends = AtAfter; is = is }

pub at_stop : {mode : Mode} → EndMode mode → {b : ℕ} → IsStop b → (brackets : List Bool) (names : List (List ℕ)) → step (At mode brackets names) b ≡ step (At After brackets names) b
at_stop AtAfter stop brackets names = refl
at_stop (OfFractional (OfWhole AtZero)) Comma brackets names = refl
at_stop (OfFractional (OfWhole AtZero)) Bracket brackets names = refl
at_stop (OfFractional (OfWhole AtZero)) Brace brackets names = refl
at_stop (OfFractional (OfWhole AtZero)) Space brackets names = refl
at_stop (OfFractional (OfWhole AtZero)) Tab brackets names = refl
at_stop (OfFractional (OfWhole AtZero)) LineFeed brackets names = refl
at_stop (OfFractional (OfWhole AtZero)) Return brackets names = refl
at_stop (OfFractional (OfWhole AtDigits)) Comma brackets names = refl
at_stop (OfFractional (OfWhole AtDigits)) Bracket brackets names = refl
at_stop (OfFractional (OfWhole AtDigits)) Brace brackets names = refl
at_stop (OfFractional (OfWhole AtDigits)) Space brackets names = refl
at_stop (OfFractional (OfWhole AtDigits)) Tab brackets names = refl
at_stop (OfFractional (OfWhole AtDigits)) LineFeed brackets names = refl
at_stop (OfFractional (OfWhole AtDigits)) Return brackets names = refl
at_stop (OfFractional AtFraction) Comma brackets names = refl
at_stop (OfFractional AtFraction) Bracket brackets names = refl
at_stop (OfFractional AtFraction) Brace brackets names = refl
at_stop (OfFractional AtFraction) Space brackets names = refl
at_stop (OfFractional AtFraction) Tab brackets names = refl
at_stop (OfFractional AtFraction) LineFeed brackets names = refl
at_stop (OfFractional AtFraction) Return brackets names = refl
at_stop AtExponent Comma brackets names = refl
at_stop AtExponent Bracket brackets names = refl
at_stop AtExponent Brace brackets names = refl
at_stop AtExponent Space brackets names = refl
at_stop AtExponent Tab brackets names = refl
at_stop AtExponent LineFeed brackets names = refl
at_stop AtExponent Return brackets names = refl

-- after a value, a mark is read as after any other
stops_before : {mode : Mode} → EndMode mode → {mark : ℕ} → IsStop mark → (before rest : List ℕ) (brackets : List Bool) (names : List (List ℕ)) → AreWhite before
    → run (At mode brackets names) (before ++ mark ∷ rest) ≡ run (At After brackets names) (before ++ mark ∷ rest)
stops_before end stop [] rest brackets names white = ap (λ (s : State). run s rest) (at_stop end stop brackets names)
stops_before end {mark} stop (b ∷ before) rest brackets names white =
    let parts = and_parts _ _ white in
    ap (λ (s : State). run s (before ++ mark ∷ rest)) (at_stop end (stops (blank b parts.0)) brackets names)

behind_value : (mark : ℕ) (bytes : List ℕ) (brackets : List Bool) (names : List (List ℕ)) (state last : State) → IsStop mark → Ends brackets names state → step (At After brackets names) mark ≡ last → Skips last → IsMark mark bytes
    → run state bytes ≡ last
behind_value mark bytes brackets names state last stop value moves skip_then m =
    ap (λ (s : State). run s bytes) value.is
    ∙ ap (run (At value.mode brackets names)) m.is
    ∙ stops_before value.ends stop m.before m.after brackets names m.before_is
    ∙ ap (run (At After brackets names)) (sym m.is)
    ∙ at_mark mark bytes (At After brackets names) last (after_skips brackets names) moves skip_then m

-- ---- numbers

many_digits : (state : State) → ((b : ℕ) → is_digit b ≡ true → step state b ≡ state) → (bytes : List ℕ) → list_all is_digit bytes ≡ true → run state bytes ≡ state
many_digits state stays [] are = refl
many_digits state stays (b ∷ bytes) are =
    let parts = and_parts _ _ are in
    ap (λ (s : State). run s bytes) (stays b parts.0) ∙ many_digits state stays bytes parts.1

-- one digit or more
some_digits : (state last : State) → ((b : ℕ) → is_digit b ≡ true → step state b ≡ last) → ((b : ℕ) → is_digit b ≡ true → step last b ≡ last) → (bytes : List ℕ) → AreDigits bytes → run state bytes ≡ last
some_digits state last first stays [] are = absurd are
some_digits state last first stays (b ∷ bytes) are =
    let parts = and_parts _ _ are in
    ap (λ (s : State). run s bytes) (first b parts.0) ∙ many_digits last stays bytes parts.1

module _ (brackets : List Bool) (names : List (List ℕ)) where
  -- a mode of this kind is come to
  record Comes (Is : Mode → Type 0) (state : State) : Type 0 where
    mode : Mode
    kind : Is mode
    is : state ≡ At mode brackets names

  whole : (state : State) → ((b : ℕ) → is_digit b ≡ true → step state b ≡ At (integer b) brackets names) → (bytes : List ℕ) → IsInteger bytes → Comes WholeMode (run state bytes)
  whole state first [] is = absurd is
  whole state first (b ∷ bytes) is =
      let parts : (is_digit b ≡ true) × (list_all is_digit bytes ≡ true) = and_parts _ _ is.0 in
      elim (cases_Bool (nat_eq b 48)) [
        | inl yes_zero ↦
            let none : bytes ≡ [] = is.1 (grind (arith, nat_tests, yes_zero)) in
            record { mode = Zero; kind = AtZero; is = ap (λ (s : State). run s bytes) (first b parts.0) ∙ ap (run (At (integer b) brackets names)) none ∙ rw yes_zero refl }
        | inr no_zero ↦
            let begins : At (integer b) brackets names ≡ At Digits brackets names = rw no_zero refl in
            record {
              mode = Digits;
              kind = AtDigits;
              is = ap (λ (s : State). run s bytes) (first b parts.0 ∙ begins) ∙ many_digits (At Digits brackets names) (λ d digit. rw digit refl) bytes parts.1;
            }
      ]

  point : {mode : Mode} → WholeMode mode → step (At mode brackets names) 46 ≡ At Point brackets names
  point AtZero = refl
  point AtDigits = refl

  fractional : (mode : Mode) → WholeMode mode → (bytes : List ℕ) → Perhaps IsFraction bytes → Comes FractionalMode (run (At mode brackets names) bytes)
  fractional mode kind bytes (inl none) = record { mode = mode; kind = OfWhole kind; is = ap (run (At mode brackets names)) none }
  fractional mode kind bytes (inr fraction) = record {
    mode = Fraction;
    kind = AtFraction;
    is =
        ap (run (At mode brackets names)) fraction.1 ∙ ap (λ (s : State). run s fraction.0) (point kind)
        ∙ some_digits (At Point brackets names) (At Fraction brackets names) (λ b digit. rw digit refl) (λ b digit. rw digit refl) fraction.0 fraction.2;
  }

  letter : {mode : Mode} → FractionalMode mode → (bytes : List ℕ) → (bytes ≡ codes "e") ⊎ (bytes ≡ codes "E") → run (At mode brackets names) bytes ≡ At Letter brackets names
  letter {mode} kind bytes (inl small) = ap (run (At mode brackets names)) small ∙ small_letter kind
    where
      small_letter : {m : Mode} → FractionalMode m → step (At m brackets names) 101 ≡ At Letter brackets names
      small_letter (OfWhole AtZero) = refl
      small_letter (OfWhole AtDigits) = refl
      small_letter AtFraction = refl
  letter {mode} kind bytes (inr great) = ap (run (At mode brackets names)) great ∙ great_letter kind
    where
      great_letter : {m : Mode} → FractionalMode m → step (At m brackets names) 69 ≡ At Letter brackets names
      great_letter (OfWhole AtZero) = refl
      great_letter (OfWhole AtDigits) = refl
      great_letter AtFraction = refl

  -- the digits after a letter and perhaps a sign
  power : (sign digits : List ℕ) → Perhaps IsSign sign → AreDigits digits → run (At Letter brackets names) (sign ++ digits) ≡ At Exponent brackets names
  power sign digits (inl none) are =
      ap (λ (xs : List ℕ). run (At Letter brackets names) (xs ++ digits)) none
      ∙ some_digits (At Letter brackets names) (At Exponent brackets names) (λ b digit. rw digit refl) (λ b digit. rw digit refl) digits are
  power sign digits (inr (inl plus)) are =
      ap (λ (xs : List ℕ). run (At Letter brackets names) (xs ++ digits)) plus
      ∙ some_digits (At Sign brackets names) (At Exponent brackets names) (λ b digit. rw digit refl) (λ b digit. rw digit refl) digits are
  power sign digits (inr (inr minus)) are =
      ap (λ (xs : List ℕ). run (At Letter brackets names) (xs ++ digits)) minus
      ∙ some_digits (At Sign brackets names) (At Exponent brackets names) (λ b digit. rw digit refl) (λ b digit. rw digit refl) digits are

  to_end : (mode : Mode) → FractionalMode mode → (bytes : List ℕ) → Perhaps IsExponent bytes → Comes EndMode (run (At mode brackets names) bytes)
  to_end mode kind bytes (inl none) = record { mode = mode; kind = OfFractional kind; is = ap (run (At mode brackets names)) none }
  to_end mode kind bytes (inr e) = record {
    mode = Exponent;
    kind = AtExponent;
    is =
        ap (run (At mode brackets names)) e.is
        ∙ run_both (At mode brackets names) (At Letter brackets names) (At Exponent brackets names) e.letter (e.sign ++ e.digits) (letter kind e.letter e.letter_is) (power e.sign e.digits e.sign_is e.digits_are);
  }

  unsigned : (state : State) → ((b : ℕ) → is_digit b ≡ true → step state b ≡ At (integer b) brackets names) → (whole_part fraction exponent : List ℕ) → IsInteger whole_part → Perhaps IsFraction fraction → Perhaps IsExponent exponent
      → Ends brackets names (run state (whole_part ++ (fraction ++ exponent)))
  unsigned state first whole_part fraction exponent integer_is fraction_is exponent_is =
      let w = whole state first whole_part integer_is in
      let f = fractional w.mode w.kind fraction fraction_is in
      let e = to_end f.mode f.kind exponent exponent_is in
      record {
        mode = e.mode;
        ends = e.kind;
        is =
            run_both state (At w.mode brackets names) (At e.mode brackets names) whole_part (fraction ++ exponent) w.is
            (run_both (At w.mode brackets names) (At f.mode brackets names) (At e.mode brackets names) fraction exponent f.is e.is);
      }

  pub number : (first : Bool) (bytes : List ℕ) → IsNumber bytes → Ends brackets names (run (At (Value first) brackets names) bytes)
  number first bytes n = subst (λ (xs : List ℕ). Ends brackets names (run (At (Value first) brackets names) xs)) (sym n.is) (by_minus n.minus n.minus_is)
    where
      by_minus : (minus : List ℕ) → Perhaps IsMinus minus → Ends brackets names (run (At (Value first) brackets names) (minus ++ (n.integer ++ (n.fraction ++ n.exponent))))
      by_minus minus (inl none) =
          subst (λ (xs : List ℕ). Ends brackets names (run (At (Value first) brackets names) (xs ++ (n.integer ++ (n.fraction ++ n.exponent))))) (sym none)
          (unsigned (At (Value first) brackets names) (λ b digit. rw digit refl) n.integer n.fraction n.exponent n.integer_is n.fraction_is n.exponent_is)
      by_minus minus (inr there) =
          subst (λ (xs : List ℕ). Ends brackets names (run (At (Value first) brackets names) (xs ++ (n.integer ++ (n.fraction ++ n.exponent))))) (sym there)
          (unsigned (At Minus brackets names) (λ b digit. rw digit refl) n.integer n.fraction n.exponent n.integer_is n.fraction_is n.exponent_is)

-- ---- strings

record IsPlain (b : ℕ) : Type 0 where
  no_control : 32 ≤ b
  no_quote : b ≢ 34
  no_backslash : b ≢ 92

module _ (name : Bool) (brackets : List Bool) (names : List (List ℕ)) where
  -- in a text that has come so far
  abbrev in_text : List ℕ → State
  in_text text = At (Text name text) brackets names

  one_byte : (text : List ℕ) (b : ℕ) → IsPlain b → step (in_text text) b ≡ in_text (text ++ b ∷ [])
  one_byte text b plain =
      let no_quote : nat_eq b 34 ≡ false = grind (arith, nat_tests, plain.no_quote) in
      let no_backslash : nat_eq b 92 ≡ false = grind (arith, nat_tests, plain.no_backslash) in
      let no_control : nat_le 32 b ≡ true = grind (arith, nat_tests, plain.no_control) in
      rw (no_quote, no_backslash, no_control) refl

  plain_bytes : (text bytes : List ℕ) → ((k : ℕ) → k < length bytes → IsPlain (get_or bytes k 0)) → run (in_text text) bytes ≡ in_text (text ++ bytes)
  plain_bytes text [] plain = ap in_text (sym (append-nil text))
  plain_bytes text (b ∷ bytes) plain =
      ap (λ (s : State). run s bytes) (one_byte text b (plain 0 (omega arith)))
      ∙ plain_bytes (text ++ b ∷ []) bytes (λ k below. plain (suc k) (omega (arith, below)))
      ∙ ap in_text (append_assoc text (b ∷ []) bytes)

  plain_character : (c k : ℕ) → StandsForItself c → k < length (encode_utf8 c) → IsPlain (get_or (encode_utf8 c) k 0)
  plain_character c k itself below = elim (cases_lt (get_or (encode_utf8 c) k 0) 128) [
    | inl small ↦ subst IsPlain (inside_one c [] (encode_utf8 c) k (sym (append-nil (encode_utf8 c))) below small) (record { no_control = itself.no_control; no_quote = itself.no_quote; no_backslash = itself.no_backslash })
    | inr great ↦ record { no_control = omega (arith, great); no_quote = λ e. omega (arith, great, e); no_backslash = λ e. omega (arith, great, e) }
  ]

  hex_byte : (text : List ℕ) (n b : ℕ) → is_hex_digit b ≡ true → step (At (Hex n name text) brackets names) b ≡ At (in_hex n name (text ++ b ∷ [])) brackets names
  hex_byte text n b hex = rw hex refl

  hex_bytes : (text : List ℕ) (a b c d : ℕ) → list_all is_hex_digit (a ∷ b ∷ c ∷ d ∷ []) ≡ true → run (At (Hex 3 name text) brackets names) (a ∷ b ∷ c ∷ d ∷ []) ≡ in_text (text ++ a ∷ b ∷ c ∷ d ∷ [])
  hex_bytes text a b c d hex =
      let at_a = and_parts _ _ hex in
      let at_b = and_parts _ _ at_a.1 in
      let at_c = and_parts _ _ at_b.1 in
      let at_d = and_parts _ _ at_c.1 in
      ap (λ (s : State). run s (b ∷ c ∷ d ∷ [])) (hex_byte text 3 a at_a.0)
      ∙ ap (λ (s : State). run s (c ∷ d ∷ [])) (hex_byte (text ++ a ∷ []) 2 b at_b.0)
      ∙ ap (λ (s : State). run s (d ∷ [])) (hex_byte ((text ++ a ∷ []) ++ b ∷ []) 1 c at_c.0)
      ∙ hex_byte (((text ++ a ∷ []) ++ b ∷ []) ++ c ∷ []) 0 d at_d.0
      ∙ ap in_text (simp append_assoc)

  character : (text : List ℕ) {bytes : List ℕ} → IsCharacter bytes → run (in_text text) bytes ≡ in_text (text ++ bytes)
  character text (Itself c itself) = plain_bytes text (encode_utf8 c) (λ k below. plain_character c k itself below)
  character text (Escaped b escape) =
      let escapes : step (At (Escape name (text ++ 92 ∷ [])) brackets names) b ≡ in_text ((text ++ 92 ∷ []) ++ b ∷ []) = rw escape refl in
      escapes ∙ ap in_text (append_assoc text (92 ∷ []) (b ∷ []))
  character text (Numbered a b c d hex) =
      hex_bytes ((text ++ 92 ∷ []) ++ 117 ∷ []) a b c d hex ∙ ap in_text (simp append_assoc)

  characters : (text : List ℕ) {bytes : List ℕ} → AreCharacters bytes → run (in_text text) bytes ≡ in_text (text ++ bytes)
  characters text NoCharacter = ap in_text (sym (append-nil text))
  characters text (OneCharacter {first} {more} one rest) =
      run_both (in_text text) (in_text (text ++ first)) (in_text ((text ++ first) ++ more)) first more (character text one) (characters (text ++ first) rest)
      ∙ ap in_text (append_assoc text first more)

module _ (first : Bool) (brackets : List Bool) (names : List (List ℕ)) where
  pub string_value : (bytes : List ℕ) → IsString bytes → run (At (Value first) brackets names) bytes ≡ At After brackets names
  string_value bytes string =
      ap (run (At (Value first) brackets names)) string.1
      ∙ run_both (in_text false brackets names []) (in_text false brackets names string.0) (At After brackets names) string.0 (codes "\"") (characters false brackets names [] string.2) refl

  string_name : (bytes : List ℕ) (string : IsString bytes) → run (At (Name first) brackets names) bytes ≡ At Colon brackets (note brackets (string.0 ∷ []) names)
  string_name bytes string =
      ap (run (At (Name first) brackets names)) string.1
      ∙ run_both (in_text true brackets names []) (in_text true brackets names string.0) (At Colon brackets (note brackets (string.0 ∷ []) names)) string.0 (codes "\"") (characters true brackets names [] string.2) refl

-- ---- values

-- names that are noted one after the other
noted : (outer : List Bool) (name : List ℕ) (more names : List (List ℕ)) → note (true ∷ outer) more (note (true ∷ outer) (name ∷ []) names) ≡ note (true ∷ outer) (name ∷ more) names
noted [] name more names = append_assoc names (name ∷ []) more
noted (b ∷ outer) name more names = refl

none_noted : (outer : List Bool) (names : List (List ℕ)) → note (true ∷ outer) [] names ≡ names
none_noted [] names = append-nil names
none_noted (b ∷ outer) names = refl

mutual
  value : {bytes : List ℕ} → IsValue bytes → (first b : Bool) (outer : List Bool) (names : List (List ℕ)) → Ends (b ∷ outer) names (run (At (Value first) (b ∷ outer) names) bytes)
  value IsValue.False first b outer names = ended (b ∷ outer) names _ refl
  value IsValue.Null first b outer names = ended (b ∷ outer) names _ refl
  value IsValue.True first b outer names = ended (b ∷ outer) names _ refl
  value (IsValue.Number {number = bytes} n) first b outer names = number (b ∷ outer) names first bytes n
  value (IsValue.String {string = bytes} s) first b outer names = ended (b ∷ outer) names _ (string_value first (b ∷ outer) names bytes s)
  value (IsValue.Array a) first b outer names = ended (b ∷ outer) names _ (array a first (b ∷ outer) names)
  value (IsValue.Object o) first b outer names = ended (b ∷ outer) names _ (object o first (b ∷ outer) names)

  pub array : {bytes : List ℕ} → IsArray bytes → (first : Bool) (outer : List Bool) (names : List (List ℕ)) → run (At (Value first) outer names) bytes ≡ At After outer names
  array (NoValues {begin} {end} b e) first outer names =
      run_both (At (Value first) outer names) (At (Value true) (false ∷ outer) names) (At After outer names) begin end
      (at_mark 91 begin (At (Value first) outer names) (At (Value true) (false ∷ outer) names) (value_skips first outer names) refl (value_skips true (false ∷ outer) names) b)
      (at_mark 93 end (At (Value true) (false ∷ outer) names) (At After outer names) (value_skips true (false ∷ outer) names) refl (after_skips outer names) e)
  array (Values {begin} {values} {end} b v e) first outer names =
      run_both (At (Value first) outer names) (At (Value true) (false ∷ outer) names) (At After outer names) begin (values ++ end)
      (at_mark 91 begin (At (Value first) outer names) (At (Value true) (false ∷ outer) names) (value_skips first outer names) refl (value_skips true (false ∷ outer) names) b)
      (run-append (At (Value true) (false ∷ outer) names) values end
      ∙ behind_value 93 end (false ∷ outer) names (run (At (Value true) (false ∷ outer) names) values) (At After outer names) Bracket (some_values v true outer names) refl (after_skips outer names) e)

  some_values : {bytes : List ℕ} → AreValues bytes → (first : Bool) (outer : List Bool) (names : List (List ℕ)) → Ends (false ∷ outer) names (run (At (Value first) (false ∷ outer) names) bytes)
  some_values (OneValue v) first outer names = value v first false outer names
  some_values (MoreValues {value = bytes} {comma} {more} v c rest) first outer names =
      let here = At (Value first) (false ∷ outer) names in
      let there = At (Value false) (false ∷ outer) names in
      let last = some_values rest false outer names in
      record {
        mode = last.mode;
        ends = last.ends;
        is =
            run-append here bytes (comma ++ more)
            ∙ run_both (run here bytes) there (At last.mode (false ∷ outer) names) comma more
            (behind_value 44 comma (false ∷ outer) names (run here bytes) there Comma (value v first false outer names) refl (value_skips false (false ∷ outer) names) c)
            last.is;
      }

  pub object : {bytes : List ℕ} → (o : IsObject bytes) → (first : Bool) (outer : List Bool) (names : List (List ℕ)) → run (At (Value first) outer names) bytes ≡ At After outer (note (true ∷ outer) (object_names o) names)
  object (NoMembers {begin} {end} b e) first outer names =
      run_both (At (Value first) outer names) (At (Name true) (true ∷ outer) names) (At After outer (note (true ∷ outer) [] names)) begin end
      (at_mark 123 begin (At (Value first) outer names) (At (Name true) (true ∷ outer) names) (value_skips first outer names) refl (name_skips true (true ∷ outer) names) b)
      (at_mark 125 end (At (Name true) (true ∷ outer) names) (At After outer names) (name_skips true (true ∷ outer) names) refl (after_skips outer names) e
      ∙ ap (At After outer) (sym (none_noted outer names)))
  object (Members {begin} {members} {end} b m e) first outer names =
      let all = note (true ∷ outer) (member_names m) names in
      run_both (At (Value first) outer names) (At (Name true) (true ∷ outer) names) (At After outer all) begin (members ++ end)
      (at_mark 123 begin (At (Value first) outer names) (At (Name true) (true ∷ outer) names) (value_skips first outer names) refl (name_skips true (true ∷ outer) names) b)
      (run-append (At (Name true) (true ∷ outer) names) members end
      ∙ behind_value 125 end (true ∷ outer) all (run (At (Name true) (true ∷ outer) names) members) (At After outer all) Brace (some_members m true outer names) refl (after_skips outer all) e)

  some_members : {bytes : List ℕ} → (m : AreMembers bytes) → (first : Bool) (outer : List Bool) (names : List (List ℕ)) → Ends (true ∷ outer) (note (true ∷ outer) (member_names m) names) (run (At (Name first) (true ∷ outer) names) bytes)
  some_members (OneMember m) first outer names = one_member m first outer names
  some_members (MoreMembers {member = bytes} {comma} {more} m c rest) first outer names =
      let here = At (Name first) (true ∷ outer) names in
      let new = note (true ∷ outer) (member_name m ∷ []) names in
      let there = At (Name false) (true ∷ outer) new in
      let last = some_members rest false outer new in
      record {
        mode = last.mode;
        ends = last.ends;
        is =
            run-append here bytes (comma ++ more)
            ∙ run_both (run here bytes) there (At last.mode (true ∷ outer) (note (true ∷ outer) (member_names rest) new)) comma more
            (behind_value 44 comma (true ∷ outer) new (run here bytes) there Comma (one_member m first outer names) refl (name_skips false (true ∷ outer) new) c)
            last.is
            ∙ ap (At last.mode (true ∷ outer)) (noted outer (member_name m) (member_names rest) names);
      }

  one_member : {bytes : List ℕ} → (m : IsMember bytes) → (first : Bool) (outer : List Bool) (names : List (List ℕ)) → Ends (true ∷ outer) (note (true ∷ outer) (member_name m ∷ []) names) (run (At (Name first) (true ∷ outer) names) bytes)
  one_member (Member {name} {colon} {value = bytes} s c v) first outer names =
      let new = note (true ∷ outer) (s.0 ∷ []) names in
      let here = At (Name first) (true ∷ outer) names in
      let there = At (Value false) (true ∷ outer) new in
      let last = value v false true outer new in
      record {
        mode = last.mode;
        ends = last.ends;
        is =
            run_both here (At Colon (true ∷ outer) new) (At last.mode (true ∷ outer) new) name (colon ++ bytes) (string_name first (true ∷ outer) names name s)
            (run_both (At Colon (true ∷ outer) new) there (At last.mode (true ∷ outer) new) colon bytes
            (at_mark 58 colon (At Colon (true ∷ outer) new) there (colon_skips (true ∷ outer) new) refl (value_skips false (true ∷ outer) new) c)
            last.is);
      }
