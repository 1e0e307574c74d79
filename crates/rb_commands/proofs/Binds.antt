-- The values of the options of `serve`.
use Rattle.std.specs.Borrow.{Bor}
use Rattle.std.specs.List.{list_all}
use Rattle.std.specs.Char.{digit_value}
use Rattle.std.specs.Str.Parse.{IsNumeral, AllDigits, without_leading_plus, digits_value}
use Rattle.std.proofs.Common.{◌≡◌, ◌≢◌, ◌<◌, ◌≤◌, ◌+◌, ◌^◌, ℕ, true, List, [], ◌∷◌, ◌++◌, length, get_or, drop, arith, inl, inr, None, Result, Ok, Err, refl, sym, ap, subst, ◌∙◌, append_assoc, append-nil}
use Rattle.std.proofs.lemmas.List.{drop_more, drop_all, length_push}
use Rattle.std.proofs.lemmas.Bool.{cases_lt, and_parts, ltb-true}
use Rattle.std.proofs.lemmas.Str.Parse.{without_leading_plus_none}
use Rattle.rb_address.specs.declared.host.Host.TheVariants.{V4}
use Rattle.rb_address.specs.declared.network.NetworkFault.{NetworkFault}
use Rattle.rb_address.specs.Hosts.{plain_host}
use Rattle.rb_address.specs.Networks.{network_at}
use Rattle.rb_commands.specs.declared.options.Valued.{Valued}
use Rattle.rb_commands.specs.Options.{◌>>=◌, values_from}
use Rattle.rb_commands.specs.Serving.{is_octal, read_mode}

-- ---- the values of `--bind`, and of `--from`

module _ {A : Type 0} (value_at : ℕ → List ℕ → Result A Valued) where
  -- the values that were read, in front of those that are left
  abbrev pub with_front : List A → Result (List A) Valued → Result (List A) Valued
  with_front front (Ok others) = Ok (front ++ others)
  with_front front (Err bad) = Err bad

  abbrev onto : A → Result (List A) Valued → Result (List A) Valued
  onto value rest = rest >>= λ others. Ok (value ∷ others)

  with_front-onto : (front : List A) (value : A) (rest : Result (List A) Valued) → with_front front (onto value rest) ≡ with_front (front ++ value ∷ []) rest
  with_front-onto front value (Ok others) = ap Ok (sym (append_assoc front (value ∷ []) others))
  with_front-onto front value (Err bad) = refl

  -- the values from a place on are the one there and those after it
  taken : (k i : ℕ) (texts : List (Bor (List ℕ))) (none : Bor (List ℕ)) → i < length texts
      → values_from value_at k (drop i texts) ≡ (value_at k (get_or texts i none).now >>= λ value. onto value (values_from value_at (k + 1) (drop (i + 1) texts)))
  unfolding values_from
  taken k i texts none lt = ap (values_from value_at k) (drop_more texts i none lt)

  pub goes_on : (front : List A) (value : A) (i : ℕ) (texts : List (Bor (List ℕ))) (none : Bor (List ℕ)) (all : Result (List A) Valued) → i < length texts
      → (k : ℕ) → k ≡ length front → Ok value ≡ value_at k (get_or texts i none).now → with_front front (values_from value_at (length front) (drop i texts)) ≡ all
      → with_front (front ++ value ∷ []) (values_from value_at (length (front ++ value ∷ [])) (drop (i + 1) texts)) ≡ all
  goes_on front value i texts none all lt k place given h =
      let read = ap (λ (k : ℕ). value_at k (get_or texts i none).now) (sym place) ∙ sym given in
      let rest = values_from value_at (length front + 1) (drop (i + 1) texts) in
      let first : values_from value_at (length front) (drop i texts) ≡ onto value rest = taken (length front) i texts none lt ∙ ap (λ (r : Result A Valued). r >>= λ value. onto value rest) read in
      rw (length_push front value) (sym (with_front-onto front value rest) ∙ ap (with_front front) (sym first) ∙ h)

  pub stops : (front : List A) (bad : Valued) (i : ℕ) (texts : List (Bor (List ℕ))) (none : Bor (List ℕ)) (all : Result (List A) Valued) → i < length texts
      → (k : ℕ) → k ≡ length front → Err bad ≡ value_at k (get_or texts i none).now → with_front front (values_from value_at (length front) (drop i texts)) ≡ all → all ≡ Err bad
  stops front bad i texts none all lt k place given h =
      let read = ap (λ (k : ℕ). value_at k (get_or texts i none).now) (sym place) ∙ sym given in
      let rest = values_from value_at (length front + 1) (drop (i + 1) texts) in
      sym h ∙ ap (with_front front) (taken (length front) i texts none lt ∙ ap (λ (r : Result A Valued). r >>= λ value. onto value rest) read)

  pub ends : (front : List A) (i : ℕ) (texts : List (Bor (List ℕ))) (all : Result (List A) Valued) → length texts ≤ i → with_front front (values_from value_at (length front) (drop i texts)) ≡ all → all ≡ Ok front
  unfolding values_from
  ends front i texts all le h = sym h ∙ ap (λ (ts : List (Bor (List ℕ))). with_front front (values_from value_at (length front) ts)) (drop_all i texts le) ∙ ap Ok (append-nil front)

-- 0.0.0.0 alone is a network
pub is_network : (fault : NetworkFault) → Err fault ≡ network_at (V4 (0 ∷ 0 ∷ 0 ∷ 0 ∷ [])) 32 → ⊥
unfolding network_at plain_host
is_network fault h = absurd cc

-- ---- the mode of the local socket

all_octal : (text : List ℕ) → list_all is_octal text ≡ true → AllDigits 8 text
all_octal [] h = tt
all_octal (c ∷ text) h = let parts = and_parts _ _ h in (ltb-true _ _ parts.0, all_octal text parts.1)

no_plus : (text : List ℕ) → list_all is_octal text ≡ true → get_or text 0 0 ≢ 43
no_plus [] h e = omega (arith, e)
no_plus (c ∷ text) h e =
    let digit : digit_value c < 8 = ltb-true _ _ (and_parts _ _ h).0 in
    let plus : digit_value 43 < 8 = subst (λ (c : ℕ). digit_value c < 8) e digit in
    omega (arith, plus)

-- octal digits that are no number of 32 bits are no mode
pub no_mode : (text : List ℕ) → list_all is_octal text ≡ true → ¬ (IsNumeral 8 (without_leading_plus text) × (digits_value 8 (without_leading_plus text) < 2 ^ 32)) → None ≡ read_mode text
no_mode text octal h =
    let plain : without_leading_plus text ≡ text = without_leading_plus_none text (no_plus text octal) in
    let not : ¬ (IsNumeral 8 text × (digits_value 8 text < 2 ^ 32)) = subst (λ (t : List ℕ). ¬ (IsNumeral 8 t × (digits_value 8 t < 2 ^ 32))) plain h in
    elim (cases_lt (digits_value 8 text) (2 ^ 32)) [
      | inl fits ↦ let empty : 0 < length text → ⊥ = λ some. not ((some, all_octal text octal), fits) in let none : length text ≡ 0 = omega (arith, empty) in grind (arith, none)
      | inr over ↦ grind (arith, over)
    ]
