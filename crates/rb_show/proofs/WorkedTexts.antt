-- A text that is of the grammar of JSON, and one that is none.
use Rattle.std.proofs.Common.{◌≡◌, ◌⊎◌, ℕ, List, [], ◌∷◌, ◌++◌, refl, sym, ap, ◌∙◌, inl, inr, arith}
use Rattle.std.specs.Prelude.{codes}
use Rattle.rb_show.specs.JsonGrammar.{IsMark, Perhaps, IsMinus, IsInteger, IsFraction, IsExponent, IsNumber, IsString, IsArray, AreValues, IsObject, AreMembers, IsText, AreWhite}
use Rattle.rb_show.specs.JsonGrammar.IsCharacter.{Escaped}
use Rattle.rb_show.specs.JsonGrammar.AreCharacters.{NoCharacter, OneCharacter}
use Rattle.rb_show.specs.JsonGrammar.IsValue.{Null, True, Number, Array, Object}
use Rattle.rb_show.specs.JsonGrammar.IsArray.{NoValues, Values}
use Rattle.rb_show.specs.JsonGrammar.AreValues.{OneValue, MoreValues}
use Rattle.rb_show.specs.JsonGrammar.IsObject.{Members}
use Rattle.rb_show.specs.JsonGrammar.AreMembers.{OneMember}
use Rattle.rb_show.specs.JsonGrammar.IsMember.{Member}
use Rattle.rb_show.proofs.JsonGrammar.{itself}

mark : (before : List ℕ) (m : ℕ) (after : List ℕ) → AreWhite before → AreWhite after → IsMark m (before ++ m ∷ after)
mark before m after before_is after_is = record { before = before; after = after; is = refl; before_is = before_is; after_is = after_is }

half : IsNumber (codes "-0.5E+3")
half = record {
  minus = codes "-";
  integer = codes "0";
  fraction = codes ".5";
  exponent = codes "E+3";
  is = refl;
  minus_is = inr refl;
  integer_is = (refl, λ e. refl);
  fraction_is = inr (codes "5", refl, refl);
  exponent_is = inr (record { letter = codes "E"; sign = codes "+"; digits = codes "3"; is = refl; letter_is = inr refl; sign_is = inr (inl refl); digits_are = refl });
}

comma : IsMark 44 (codes ",")
comma = mark [] 44 [] refl refl

spaced_comma : IsMark 44 (codes ", ")
spaced_comma = mark [] 44 (codes " ") refl refl

values : AreValues (codes "true,-0.5E+3, null, []")
values = MoreValues True comma (MoreValues (Number half) spaced_comma (MoreValues Null spaced_comma (OneValue (Array (NoValues (mark [] 91 [] refl refl) (mark [] 93 [] refl refl))))))

array : IsArray (codes "[ true,-0.5E+3, null, [] ]")
array = Values {begin = codes "[ "} {values = codes "true,-0.5E+3, null, []"} {end = codes " ]"} (mark [] 91 (codes " ") refl refl) values (mark (codes " ") 93 [] refl refl)

name : IsString (codes "\"a\\n\"")
name = (codes "a\\n", refl, OneCharacter {first = codes "a"} {more = codes "\\n"} (itself 97 refl refl refl) (OneCharacter {first = codes "\\n"} {more = []} (Escaped 110 refl) NoCharacter))

members : AreMembers (codes "\"a\\n\" : [ true,-0.5E+3, null, [] ]")
members = OneMember (Member {name = codes "\"a\\n\""} {colon = codes " : "} {value = codes "[ true,-0.5E+3, null, [] ]"} name (mark (codes " ") 58 (codes " ") refl refl) (Array array))

object : IsObject (codes "{ \"a\\n\" : [ true,-0.5E+3, null, [] ] }")
object = Members {begin = codes "{ "} {members = codes "\"a\\n\" : [ true,-0.5E+3, null, [] ]"} {end = codes " }"} (mark [] 123 (codes " ") refl refl) members (mark (codes " ") 125 [] refl refl)

pub spaced_text : IsText (codes " { \"a\\n\" : [ true,-0.5E+3, null, [] ] }\n")
spaced_text = record { before = codes " "; value = codes "{ \"a\\n\" : [ true,-0.5E+3, null, [] ] }"; after = codes "\n"; is = refl; before_is = refl; value_is = Object object; after_is = refl }

-- ---- 01

same_head : (a b : ℕ) (xs ys : List ℕ) → a ∷ xs ≡ b ∷ ys → a ≡ b
same_head a b xs ys e = cc

same_tail : (a b : ℕ) (xs ys : List ℕ) → a ∷ xs ≡ b ∷ ys → xs ≡ ys
same_tail a b xs ys e = cc

-- neither an exponent nor a fraction begins with 1
no_letter : (letter more : List ℕ) → (letter ≡ codes "e") ⊎ (letter ≡ codes "E") → codes "1" ≡ letter ++ more → ⊥
no_letter letter more (inl small) e = absurd (omega (arith, same_head 49 101 [] more (e ∙ ap (λ (xs : List ℕ). xs ++ more) small)))
no_letter letter more (inr great) e = absurd (omega (arith, same_head 49 69 [] more (e ∙ ap (λ (xs : List ℕ). xs ++ more) great)))

no_exponent : (exponent : List ℕ) → Perhaps IsExponent exponent → codes "1" ≡ exponent → ⊥
no_exponent exponent (inl none) e = absurd cc
no_exponent exponent (inr x) e = no_letter x.letter (x.sign ++ x.digits) x.letter_is (e ∙ x.is)

no_fraction : (fraction exponent : List ℕ) → Perhaps IsFraction fraction → Perhaps IsExponent exponent → codes "1" ≡ fraction ++ exponent → ⊥
no_fraction fraction exponent (inl none) x e = no_exponent exponent x (e ∙ ap (λ (xs : List ℕ). xs ++ exponent) none)
no_fraction fraction exponent (inr f) x e =
    absurd (omega (arith, same_head 49 46 [] (f.0 ++ exponent) (e ∙ ap (λ (xs : List ℕ). xs ++ exponent) f.1)))

no_integer : (integer rest : List ℕ) → IsInteger integer → codes "01" ≡ integer ++ rest → codes "1" ≡ rest
no_integer [] rest is e = absurd is
no_integer (b ∷ more) rest is e =
    let none : more ≡ [] = is.1 (sym (same_head 48 b (codes "1") (more ++ rest) e)) in
    same_tail 48 b (codes "1") (more ++ rest) e ∙ ap (λ (xs : List ℕ). xs ++ rest) none

pub no_leading_zero : IsNumber (codes "01") → ⊥
no_leading_zero n = by_minus n.minus n.minus_is n.is
  where
    by_minus : (minus : List ℕ) → Perhaps IsMinus minus → codes "01" ≡ minus ++ (n.integer ++ (n.fraction ++ n.exponent)) → ⊥
    by_minus minus (inl none) e =
        no_fraction n.fraction n.exponent n.fraction_is n.exponent_is
        (no_integer n.integer (n.fraction ++ n.exponent) n.integer_is (e ∙ ap (λ (xs : List ℕ). xs ++ (n.integer ++ (n.fraction ++ n.exponent))) none))
    by_minus minus (inr there) e =
        absurd (omega (arith, same_head 48 45 (codes "1") (n.integer ++ (n.fraction ++ n.exponent)) (e ∙ ap (λ (xs : List ℕ). xs ++ (n.integer ++ (n.fraction ++ n.exponent))) there)))
