-- What the words of rpcinfo ask for, form by form.
use Rattle.std.specs.Prelude.{codes, bytes_eq, slice_get, unwrap_or, option_map, All}
use Rattle.std.specs.Option.{option_or}
use Rattle.std.specs.List.{list_all, find}
use Rattle.std.specs.Borrow.{Bor}
use Rattle.std.specs.Str.Parse.{digits_value}
use Rattle.std.proofs.Common.{◌≡◌, ◌≢◌, ◌<◌, ◌+◌, ◌&&◌, ℕ, Bool, true, false, not, cond, eqb, leb, List, [], ◌∷◌, ◌++◌, length, drop, Option, Some, None, Result, Ok, Err, refl, sym, ap, subst, ◌∙◌, arith, inl, inr, rules}
use Rattle.std.proofs.lemmas.Bool.{cases_Bool, and_parts, and_from, ne_eqb, leb-true, le-leb}
use Rattle.std.proofs.lemmas.Bool.Decides.{nat_tests}
use Rattle.std.proofs.lemmas.List.{drop_more, drop_all}
use Rattle.std.proofs.lemmas.List.Elements.{All-nil, All-cons, All-head, All-tail}
use Rattle.std.proofs.lemmas.Option.{none-some, same_Some, cond_some, slice_get_cases}
use Rattle.std.proofs.lemmas.Slice.Eq.{bytes_eq-Decides}
use Rattle.std.proofs.lemmas.Str.Parse.{IsNumeralModel, numerals_by_value}
use Rattle.rb_words.specs.declared.services.Service.{Service}
use Rattle.rb_words.specs.Numbers.{is_digit, is_numeral, is_between, number_in}
use Rattle.rb_words.specs.Services.{borrowed_texts, number_of}
use Rattle.rb_words.specs.declared.plan.Source.{Source}
use Rattle.rb_words.specs.declared.plan.Source.TheVariants.{Here, Input, Named}
use Rattle.rb_words.specs.declared.refusal.Refusal.{Refusal}
use Rattle.rb_words.specs.declared.refusal.Spot.{Spot}
use Rattle.rb_words.specs.declared.refusal.Spot.TheVariants as spots
use Rattle.rb_words.specs.declared.refusal.Expected.{Expected}
use Rattle.rb_words.specs.declared.refusal.Expected.TheVariants as wants
use Rattle.rb_words.specs.declared.shape.Shape.{Shape}
use Rattle.rb_words.specs.Words.{◌>>=◌, or_refusal, some_or_refusal, option_number, word_number, number_at, program_of, word_program, program_at, no_word, ends_at, source_of, source_in, source_at, host_in, host_at}
use Rattle.rb_promises.specs.WordForms.{SpellsWithin, SpellsNumber, SpellsPort, IsFirstNamed, SpellsProgram, NamesHost, SpellsSource, NoWord, ◌▹◌, IsProgram, MayHave, IsPort}
use Rattle.rb_promises.specs.WordForms.SpellsProgram.{ByNumber, ByName}

-- ---- one reading after another

pub bound : {A B : Type 0} (r : Result A Refusal) (f : A → Result B Refusal) (y : B) → (r >>= f) ≡ Ok y → (x : A) × (r ≡ Ok x) × (f x ≡ Ok y)
bound (Ok x) f y h = (x, refl, h)
bound (Err refusal) f y h = absurd cc

pub followed : {A B : Type 0} (r : Result A Refusal) (f : A → Result B Refusal) (x : A) (y : B) → r ≡ Ok x → f x ≡ Ok y → (r >>= f) ≡ Ok y
followed r f x y e h = ap (λ (r : Result _ Refusal). r >>= f) e ∙ h

pub same_Ok : {A : Type 0} (x y : A) → ◌≡◌ {A = Result A Refusal} (Ok x) (Ok y) → x ≡ y
same_Ok x y h = cc

-- ---- numbers

abbrev AreDigits : List ℕ → Type 0
AreDigits text = list_all is_digit text ≡ true

own : IsNumeralModel AreDigits (digits_value 10)
own = numerals_by_value AreDigits (search rules)

pub number_spelled : (least most n : ℕ) (text : List ℕ) → number_in least most text ≡ Some n → SpellsWithin least most n text
number_spelled least most n text h =
    let (tests, value) = cond_some (is_numeral text && is_between least most (digits_value 10 text)) (digits_value 10 text) n h in
    let (numeral, between) = and_parts (is_numeral text) (is_between least most (digits_value 10 text)) tests in
    let (some, digits) = and_parts (not (eqb (length text) 0)) (list_all is_digit text) numeral in
    let (low, high) = and_parts (leb least (digits_value 10 text)) (leb (digits_value 10 text) most) between in
    let above = leb-true _ _ low in
    let below = leb-true _ _ high in
    record {
      digits = (grind (arith, nat_tests, some), own.to text digits);
      value = value;
      at_least = omega (arith, above, value);
      at_most = omega (arith, below, value);
    }

pub number_read : (least most n : ℕ) (text : List ℕ) → SpellsWithin least most n text → number_in least most text ≡ Some n
number_read least most n text s =
    let value = s.value in
    let filled : 0 < length text = s.digits.0 in
    let some : not (eqb (length text) 0) ≡ true = rw (ne_eqb (length text) 0 (λ e. omega (arith, e, filled))) refl in
    let numeral : is_numeral text ≡ true = and_from _ _ some (own.from text s.digits.1) in
    let low : leb least (digits_value 10 text) ≡ true = le-leb _ _ (omega (arith, value, s.at_least)) in
    let high : leb (digits_value 10 text) most ≡ true = le-leb _ _ (omega (arith, value, s.at_most)) in
    let between : is_between least most (digits_value 10 text) ≡ true = and_from _ _ low high in
    ap (λ (b : Bool). cond b (Some (digits_value 10 text)) None) (and_from _ _ numeral between) ∙ ap Some value

some_found : {A : Type 0} (at : Spot) (wanted : Expected) (o p : Option A) → some_or_refusal at wanted o ≡ Ok p → (x : A) × (o ≡ Some x) × (p ≡ Some x)
some_found at wanted (Some x) p h = (x, refl, sym (same_Ok _ _ h))
some_found at wanted None p h = absurd cc

pub option_spelled : {A : Type 0} (Spells : A → List ℕ → Type 0) (read : List ℕ → Option A) (at : Spot) (wanted : Expected) (text : Bor (List ℕ)) (p : Option A) → ((x : A) → read text.now ≡ Some x → Spells x text.now)
    → some_or_refusal at wanted (read text.now) ≡ Ok p → MayHave Spells p (Some text)
option_spelled Spells read at wanted text p spelled h =
    let (x, is, same) = some_found at wanted (read text.now) p h in
    subst (λ p. MayHave Spells p (Some text)) (sym same) (spelled x is)

pub number_option_spelled : (least most : ℕ) (at : Spot) (wanted : Expected) (option : Option (Bor (List ℕ))) (p : Option ℕ) → option_number option at wanted least most ≡ Ok p → MayHave (SpellsWithin least most) p option
number_option_spelled least most at wanted None p h = subst (λ p. MayHave (SpellsWithin least most) p None) (same_Ok _ _ h) refl
number_option_spelled least most at wanted (Some text) p h = option_spelled (SpellsWithin least most) (number_in least most) at wanted text p (λ n is. number_spelled least most n text.now is) h

pub number_option_read : (least most : ℕ) (at : Spot) (wanted : Expected) (option : Option (Bor (List ℕ))) (p : Option ℕ) → MayHave (SpellsWithin least most) p option → option_number option at wanted least most ≡ Ok p
number_option_read least most at wanted option None h = ap (λ (o : Option (Bor (List ℕ))). option_number o at wanted least most) h
number_option_read least most at wanted None (Some n) h = absurd h
number_option_read least most at wanted (Some text) (Some n) h = ap (λ (o : Option ℕ). some_or_refusal at wanted o) (number_read least most n text.now h)

pub port_spelled : (option : Option (Bor (List ℕ))) (p : Option ℕ) → MayHave SpellsPort p option → IsPort (unwrap_or p 111) option
port_spelled option None h = subst (IsPort 111) (sym h) refl
port_spelled None (Some port) h = absurd h
port_spelled (Some text) (Some port) h = h

pub port_read : (port : ℕ) (option : Option (Bor (List ℕ))) → IsPort port option → (p : Option ℕ) × (MayHave SpellsPort p option) × (unwrap_or p 111 ≡ port)
port_read port None h = (None, refl, sym h)
port_read port (Some text) h = (Some port, h, refl)

-- ---- programs

first_named : (services : List Service) (number : ℕ) (name : List ℕ) → number_of services name ≡ Some number → IsFirstNamed services number name
first_named [] number name h = absurd (none-some number h)
first_named (service ∷ services) number name h = by_name (bytes_eq service.name.items name) refl h (first_named services number name)
  where
    Other : Service → Type 0
    Other other = other.name.items ≢ name

    by_name : (b : Bool) → bytes_eq service.name.items name ≡ b → option_map (λ service. service.number) (cond b (Some service) (find (λ service. bytes_eq service.name.items name) services)) ≡ Some number
        → (number_of services name ≡ Some number → IsFirstNamed services number name) → IsFirstNamed (service ∷ services) number name
    by_name true same h later = record {
      before = [];
      service = service;
      after = services;
      stands = refl;
      has_name = (bytes_eq-Decides service.name.items name).0 same;
      has_number = same_Some _ _ h;
      is_first = All-nil Other;
    }
    by_name false other h later =
        let f = later h in
        record {
          before = service ∷ f.before;
          service = f.service;
          after = f.after;
          stands = ap (λ (xs : List Service). service ∷ xs) f.stands;
          has_name = f.has_name;
          has_number = f.has_number;
          is_first = All-cons Other service f.before (λ is. let same = (bytes_eq-Decides service.name.items name).1 is in cc) f.is_first;
        }

found_first : (name : List ℕ) (before : List Service) (service : Service) (after : List Service) → All (λ other. other.name.items ≢ name) before → service.name.items ≡ name
    → find (λ service. bytes_eq service.name.items name) (before ++ service ∷ after) ≡ Some service
found_first name [] service after others is = rw ((bytes_eq-Decides service.name.items name).1 is) refl
found_first name (other ∷ before) service after others is =
    let P : Service → Type 0 = λ other. other.name.items ≢ name in
    let apart : bytes_eq other.name.items name ≡ false = elim (cases_Bool (bytes_eq other.name.items name)) [
      | inl same ↦ absurd (All-head P other before others ((bytes_eq-Decides other.name.items name).0 same))
      | inr apart ↦ apart
    ] in
    rw apart (found_first name before service after (All-tail P other before others) is)

first_read : (services : List Service) (number : ℕ) (name : List ℕ) → IsFirstNamed services number name → number_of services name ≡ Some number
first_read services number name f =
    ap (λ (services : List Service). number_of services name) f.stands
    ∙ ap (option_map (λ service. service.number)) (found_first name f.before f.service f.after f.is_first f.has_name)
    ∙ ap Some f.has_number

program_spelled : (services : List Service) (program : ℕ) (text : List ℕ) → program_of services text ≡ Some program → SpellsProgram services program text
program_spelled services program text h = by_number (number_in 0 4294967295 text) refl h
  where
    by_number : (o : Option ℕ) → number_in 0 4294967295 text ≡ o → option_or o (number_of services text) ≡ Some program → SpellsProgram services program text
    by_number (Some n) is h = ByNumber (number_spelled 0 4294967295 program text (is ∙ h))
    by_number None is h = ByName (λ n s. none-some n (sym is ∙ number_read 0 4294967295 n text s)) (first_named services program text h)

program_read : (services : List Service) (program : ℕ) (text : List ℕ) → SpellsProgram services program text → program_of services text ≡ Some program
program_read services program text (ByNumber s) = ap (λ (o : Option ℕ). option_or o (number_of services text)) (number_read 0 4294967295 program text s)
program_read services program text (ByName apart first) = by_number (number_in 0 4294967295 text) refl
  where
    by_number : (o : Option ℕ) → number_in 0 4294967295 text ≡ o → option_or o (number_of services text) ≡ Some program
    by_number (Some n) is = absurd (apart n (number_spelled 0 4294967295 n text is))
    by_number None is = first_read services program text first

-- ---- hosts

pub source_spelled : (text : List ℕ) (source : Source) → source_of text ≡ source → SpellsSource source text
source_spelled text source h = by_test (bytes_eq text (codes "-")) refl h
  where
    by_test : (b : Bool) → bytes_eq text (codes "-") ≡ b → cond b Input Named ≡ source → SpellsSource source text
    by_test true same h = subst (λ (s : Source). SpellsSource s text) h ((bytes_eq-Decides text (codes "-")).0 same)
    by_test false other h = subst (λ (s : Source). SpellsSource s text) h (λ is. let same = (bytes_eq-Decides text (codes "-")).1 is in cc)

pub source_read : (source : Source) (text : List ℕ) → SpellsSource source text → source_of text ≡ source
source_read Here text h = absurd h
source_read Input text h = rw ((bytes_eq-Decides text (codes "-")).1 h) refl
source_read Named text h = elim (cases_Bool (bytes_eq text (codes "-"))) [
  | inl same ↦ absurd (h ((bytes_eq-Decides text (codes "-")).0 same))
  | inr other ↦ rw other refl
]

-- ---- a word at its place

-- the words from a place on are the word there and those after it
taken : (words : List (Bor (List ℕ))) (i : ℕ) (word : Bor (List ℕ)) → slice_get words i ≡ Some word → drop i words ≡ word ∷ drop (i + 1) words
taken words i word h = elim (slice_get_cases words i).1 [
  | inl (x, within, there, at) ↦
      let same : x ≡ word = same_Some _ _ (sym there ∙ h) in
      drop_more words i x within ∙ ap (λ (w : Bor (List ℕ)). w ∷ drop (i + 1) words) (at ∙ same)
  | inr (past, none) ↦ absurd (none-some word (sym none ∙ h))
]

none_taken : (words : List (Bor (List ℕ))) (i : ℕ) → slice_get words i ≡ None → drop i words ≡ []
none_taken words i h = elim (slice_get_cases words i).1 [
  | inl (x, within, there, at) ↦ absurd (none-some x (sym h ∙ there))
  | inr (past, none) ↦ drop_all i words past
]

pub stands : (words : List (Bor (List ℕ))) (i : ℕ) (word : Bor (List ℕ)) (Spells : List ℕ → Type 0) (Follow : List (List ℕ) → Type 0) → slice_get words i ≡ Some word → Spells word.now → Follow (borrowed_texts (drop (i + 1) words))
    → (Spells ▹ Follow) (borrowed_texts (drop i words))
stands words i word Spells Follow there s f = subst (λ (ws : List (Bor (List ℕ))). (Spells ▹ Follow) (borrowed_texts ws)) (sym (taken words i word there)) (s, f)

pub ends : (words : List (Bor (List ℕ))) (i : ℕ) → slice_get words i ≡ None → NoWord (borrowed_texts (drop i words))
ends words i none = ap borrowed_texts (none_taken words i none)

pub record StandsAt (words : List (Bor (List ℕ))) (i : ℕ) (Spells : List ℕ → Type 0) (Follow : List (List ℕ) → Type 0) : Type 0 where
  pub word : Bor (List ℕ)
  pub there : slice_get words i ≡ Some word
  pub spells : Spells word.now
  pub follow : Follow (borrowed_texts (drop (i + 1) words))

pub stands_at : (words : List (Bor (List ℕ))) (i : ℕ) (Spells : List ℕ → Type 0) (Follow : List (List ℕ) → Type 0) → (Spells ▹ Follow) (borrowed_texts (drop i words)) → StandsAt words i Spells Follow
stands_at words i Spells Follow h = elim (slice_get_cases words i).1 [
  | inl (x, within, there, at) ↦
      let both : Spells x.now × Follow (borrowed_texts (drop (i + 1) words)) = subst (λ (ws : List (Bor (List ℕ))). (Spells ▹ Follow) (borrowed_texts ws)) (taken words i x there) h in
      record { word = x; there = there; spells = both.0; follow = both.1 }
  | inr (past, none) ↦
      let no : ⊥ = subst (λ (ws : List (Bor (List ℕ))). (Spells ▹ Follow) (borrowed_texts ws)) (drop_all i words past) h in
      absurd no
]

pub ends_there : (words : List (Bor (List ℕ))) (i : ℕ) → NoWord (borrowed_texts (drop i words)) → slice_get words i ≡ None
ends_there words i h = elim (slice_get_cases words i).1 [
  | inl (x, within, there, at) ↦
      let some : x.now ∷ borrowed_texts (drop (i + 1) words) ≡ [] = subst (λ (ws : List (Bor (List ℕ))). borrowed_texts ws ≡ []) (taken words i x there) h in
      absurd cc
  | inr (past, none) ↦ none
]

-- ---- what is read there

pub record Read (words : List (Bor (List ℕ))) (i : ℕ) (Spells : List ℕ → Type 0) : Type 0 where
  pub word : Bor (List ℕ)
  pub there : slice_get words i ≡ Some word
  pub spells : Spells word.now

or_found : {A : Type 0} (at : Spot) (wanted : Expected) (o : Option A) (x : A) → or_refusal at wanted o ≡ Ok x → o ≡ Some x
or_found at wanted (Some y) x h = ap Some (same_Ok _ _ h)
or_found at wanted None x h = absurd cc

pub number_there : (words : List (Bor (List ℕ))) (i n : ℕ) (wanted : Expected) → number_at words i wanted ≡ Ok n → Read words i (SpellsNumber n)
number_there words i n wanted h = by_word (slice_get words i) refl h
  where
    by_word : (o : Option (Bor (List ℕ))) → slice_get words i ≡ o → word_number i wanted o ≡ Ok n → Read words i (SpellsNumber n)
    by_word None is h = absurd cc
    by_word (Some word) is h = record { word = word; there = is; spells = number_spelled 0 4294967295 n word.now (or_found (spots.Word i) wanted (number_in 0 4294967295 word.now) n h) }

pub number_here : (words : List (Bor (List ℕ))) (i n : ℕ) (wanted : Expected) (word : Bor (List ℕ)) → slice_get words i ≡ Some word → SpellsNumber n word.now → number_at words i wanted ≡ Ok n
number_here words i n wanted word there s = ap (word_number i wanted) there ∙ ap (or_refusal (spots.Word i) wanted) (number_read 0 4294967295 n word.now s)

pub program_there : (shape : Shape) (i n : ℕ) → program_at shape i ≡ Ok n → Read shape.words.now i (IsProgram shape n)
program_there shape i n h = by_word (slice_get shape.words.now i) refl h
  where
    by_word : (o : Option (Bor (List ℕ))) → slice_get shape.words.now i ≡ o → word_program shape i o ≡ Ok n → Read shape.words.now i (IsProgram shape n)
    by_word None is h = absurd cc
    by_word (Some word) is h = record { word = word; there = is; spells = program_spelled shape.services.now n word.now (or_found (spots.Word i) wants.Program (program_of shape.services.now word.now) n h) }

pub program_here : (shape : Shape) (i n : ℕ) (word : Bor (List ℕ)) → slice_get shape.words.now i ≡ Some word → IsProgram shape n word.now → program_at shape i ≡ Ok n
program_here shape i n word there s = ap (word_program shape i) there ∙ ap (or_refusal (spots.Word i) wants.Program) (program_read shape.services.now n word.now s)

pub none_there : (words : List (Bor (List ℕ))) (i : ℕ) (x : Unit {0}) → ends_at words i ≡ Ok x → slice_get words i ≡ None
none_there words i x h = by_word (slice_get words i) h
  where
    by_word : (o : Option (Bor (List ℕ))) → no_word i o ≡ Ok x → o ≡ None
    by_word None h = refl
    by_word (Some word) h = absurd cc

pub none_here : (words : List (Bor (List ℕ))) (i : ℕ) → slice_get words i ≡ None → ends_at words i ≡ Ok tt
none_here words i none = ap (no_word i) none

pub source_there : (words : List (Bor (List ℕ))) (source : Source) → source_at words ≡ Ok source → Read words 0 (SpellsSource source)
source_there words source h = by_word (slice_get words 0) refl h
  where
    by_word : (o : Option (Bor (List ℕ))) → slice_get words 0 ≡ o → source_in o ≡ Ok source → Read words 0 (SpellsSource source)
    by_word None is h = absurd cc
    by_word (Some word) is h = record { word = word; there = is; spells = source_spelled word.now source (same_Ok _ _ h) }

pub source_here : (words : List (Bor (List ℕ))) (source : Source) (word : Bor (List ℕ)) → slice_get words 0 ≡ Some word → SpellsSource source word.now → source_at words ≡ Ok source
source_here words source word there s = ap source_in there ∙ ap Ok (source_read source word.now s)

pub host_there : (words : List (Bor (List ℕ))) (x : Unit {0}) → host_at words ≡ Ok x → Read words 0 NamesHost
host_there words x h =
    let (source, is, named) = bound (source_at words) host_in x h in
    by_source source is named
  where
    by_source : (source : Source) → source_at words ≡ Ok source → host_in source ≡ Ok x → Read words 0 NamesHost
    by_source Named is named = let r = source_there words Named is in record { word = r.word; there = r.there; spells = r.spells }
    by_source Here is named = absurd cc
    by_source Input is named = absurd cc

pub host_here : (words : List (Bor (List ℕ))) (word : Bor (List ℕ)) → slice_get words 0 ≡ Some word → NamesHost word.now → host_at words ≡ Ok tt
host_here words word there s = followed (source_at words) host_in Named tt (source_here words Named word there s) refl
