-- Each text of the grammar is read to its end, and names are read in one way.
use Rattle.std.proofs.Common.{◌≡◌, ℕ, Bool, true, false, List, [], ◌∷◌, ◌++◌, refl, sym, ap, ◌∙◌}
use Rattle.std.proofs.lemmas.Bool.{and_parts, false≢true}
use Rattle.rb_show.specs.JsonGrammar.{AreWhite, IsValue, IsObject, IsText}
use Rattle.rb_promises.specs.JsonMembers.{object_names}
use Rattle.rb_promises.proofs.JsonSteps.{Mode, State, run, start}
use Rattle.rb_promises.proofs.JsonSteps.Mode.{After, Zero, Digits, Fraction, Exponent}
use Rattle.rb_promises.proofs.JsonSteps.State.{Refused, At}
use Rattle.rb_promises.proofs.JsonRuns.{EndMode, Ends, run-append, blank, stops, skips, value_skips, after_skips, at_stop, ended, number, string_value, array, object}
use Rattle.rb_promises.proofs.JsonRuns.WholeMode.{AtZero, AtDigits}
use Rattle.rb_promises.proofs.JsonRuns.FractionalMode.{OfWhole, AtFraction}
use Rattle.rb_promises.proofs.JsonRuns.EndMode.{AtAfter, OfFractional, AtExponent}

-- ---- the end of a text

abbrev pub is_end : Mode → Bool
is_end After = true
is_end Zero = true
is_end Digits = true
is_end Fraction = true
is_end Exponent = true
is_end _ = false

-- a value has come, and no bracket is open
abbrev pub accepts : State → Bool
accepts Refused = false
accepts (At mode [] names) = is_end mode
accepts (At mode (b ∷ brackets) names) = false

is_end_mode : {mode : Mode} → EndMode mode → is_end mode ≡ true
is_end_mode AtAfter = refl
is_end_mode (OfFractional (OfWhole AtZero)) = refl
is_end_mode (OfFractional (OfWhole AtDigits)) = refl
is_end_mode (OfFractional AtFraction) = refl
is_end_mode AtExponent = refl

-- white space after a value
accepts_white : {mode : Mode} → EndMode mode → (names : List (List ℕ)) (bytes : List ℕ) → AreWhite bytes → accepts (run (At mode [] names) bytes) ≡ true
accepts_white end names [] white = is_end_mode end
accepts_white end names (b ∷ bytes) white =
    let parts = and_parts _ _ white in
    let space = blank b parts.0 in
    ap (λ (s : State). accepts (run s bytes)) (at_stop end (stops space) [] names ∙ after_skips [] names b space)
    ∙ ap accepts (skips (At After [] names) (after_skips [] names) bytes parts.1)

-- a value that stands alone
abbrev EndsText : State → Type 0
EndsText state = (names : List (List ℕ)) × Ends [] names state

alone : {bytes : List ℕ} → IsValue bytes → EndsText (run start bytes)
alone IsValue.False = ([], ended [] [] _ refl)
alone IsValue.Null = ([], ended [] [] _ refl)
alone IsValue.True = ([], ended [] [] _ refl)
alone (IsValue.Number {number = bytes} n) = ([], number [] [] false bytes n)
alone (IsValue.String {string = bytes} s) = ([], ended [] [] _ (string_value false [] [] bytes s))
alone (IsValue.Array a) = ([], ended [] [] _ (array a false [] []))
alone (IsValue.Object o) = (object_names o, ended [] (object_names o) _ (object o false [] []))

accepts_value : (value after : List ℕ) → IsValue value → AreWhite after → accepts (run start (value ++ after)) ≡ true
accepts_value value after is white =
    let end = alone is in
    ap accepts (run-append start value after)
    ∙ ap (λ (s : State). accepts (run s after)) end.1.is
    ∙ accepts_white end.1.ends end.0 after white

pub texts_are_accepted : (bytes : List ℕ) → IsText bytes → accepts (run start bytes) ≡ true
texts_are_accepted bytes t =
    ap (λ (xs : List ℕ). accepts (run start xs)) t.is
    ∙ ap accepts (run-append start t.before (t.value ++ t.after))
    ∙ ap (λ (s : State). accepts (run s (t.value ++ t.after))) (skips start (value_skips false [] []) t.before t.before_is)
    ∙ accepts_value t.value t.after t.value_is t.after_is

-- what is not read so is no text
pub is_no_text : (bytes : List ℕ) → accepts (run start bytes) ≡ false → IsText bytes → ⊥
is_no_text bytes refused t = false≢true (sym refused ∙ texts_are_accepted bytes t)

-- ---- names

abbrev names_in : State → List (List ℕ)
names_in Refused = []
names_in (At mode brackets names) = names

names_are_those : {bytes : List ℕ} (o : IsObject bytes) → object_names o ≡ names_in (run start bytes)
names_are_those o = sym (ap names_in (object o false [] []))

-- In whichever way an object is read, its members' names are these.
pub names_in_one_way : {bytes : List ℕ} (one other : IsObject bytes) → object_names one ≡ object_names other
names_in_one_way one other = names_are_those one ∙ sym (names_are_those other)
