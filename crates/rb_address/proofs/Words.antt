-- The parts of a peer's text, and what they are read as.
use Rattle.std.specs.Prelude.{decimal as decimal_text, All}
use Rattle.std.specs.List.{position_or_len, list_all}
use Rattle.std.specs.Option.{option_map}
use Rattle.std.specs.Str.Parse.{AllDigits, IsNumeral, digits_value}
use Rattle.std.proofs.Common.{◌≡◌, ◌<◌, ◌≤◌, ◌^◌, ◌+◌, ◌&&◌, ℕ, zero, suc, Bool, true, false, not, cond, ltb, eqb, List, [], ◌∷◌, ◌++◌, length, get_or, take, drop, Option, Some, None, refl, sym, ap, subst, ◌∙◌, arith, inl, inr, append_assoc, lit<}
use Rattle.std.proofs.lemmas.Bool.{and_parts, and_from, and_cases, and_left, and_right, ltb-true, ltb-false, lt-ltb, le-ltb, eqb-true, eqb-false, eq-eqb, ne_eqb, not-true, not_from_false}
use Rattle.std.proofs.lemmas.Fmt.{decimal_nonempty, digits_decimal, digits_value-decimal, decimal-digits_value, decimal_digit, first_decimal}
use Rattle.std.proofs.lemmas.List.{length-append}
use Rattle.std.proofs.Math.Seq.{take-append_seam, drop-append-add}
use Rattle.std.proofs.lemmas.List.Elements.{All-nil, All-cons, All-head, All-tail, All-append, All-from_get_or}
use Rattle.std.proofs.lemmas.List.Sums.{split_at_first, passes_at_first}
use Rattle.std.proofs.lemmas.Option.{none-some, same_Some, cond_some, some_pair_parts}
use Rattle.std.proofs.lemmas.Str.Parse.{IsNumeralModel, numerals_by_value, tells_digits, not_in_digits}
use Rattle.std.specs.Option.{option_or}
use Rattle.std.specs.Prelude.{bytes_eq, codes}
use Rattle.std.proofs.lemmas.Slice.Eq.{bytes_eq-Decides}
use Rattle.rb_uaddr.specs.Uaddr.{IsBytes, ipv6_host, ipv6_host_text, HasNoDot}
use Rattle.rb_uaddr.specs.Grammar.{SpellsHost}
use Rattle.rb_uaddr.proofs.Groups.{spelled_host_fits}
use Rattle.rb_uaddr.proofs.Octets.{none_unless}
use Rattle.rb_uaddr.proofs.Ipv6Laws.{host_spells, spelled_host, printed_host_spells}
use Rattle.rb_address.proofs.HostTexts.{IsWithout, host_without}
use Rattle.rb_address.specs.declared.host.Host.{Host}
use Rattle.rb_address.specs.declared.host.Host.TheVariants.{V4, V6}
use Rattle.rb_address.specs.declared.peer.Peer.{Peer}
use Rattle.rb_address.specs.Hosts.{is_mapped}
use Rattle.rb_address.specs.Peers.{IsPeer, peer_text}
use Rattle.rb_address.specs.Reading.{◌>>=◌, cut, behind, is_digit, number_below, plain_number, ipv4_host, printed_ipv6, ipv4_peer, ipv6_peer, peer, SpellsPeer, PeersAreSpelled}

pub bound : {A B : Type 0} (o : Option A) (f : A → Option B) (y : B) → (o >>= f) ≡ Some y → (x : A) × (o ≡ Some x) × (f x ≡ Some y)
bound (Some x) f y h = (x, refl, h)
bound None f y h = absurd (none-some y h)

-- ---- what stands before a byte, and after it

place_behind : (at : ℕ) (front back : List ℕ) → IsWithout at front → position_or_len (λ b. eqb b at) (front ++ at ∷ back) ≡ length front
place_behind at [] back none = rw (eq-eqb at at refl) refl
place_behind at (b ∷ front) back none =
    let P : ℕ → Type 0 = λ b. eqb b at ≡ false in
    let head : eqb b at ≡ false = All-head P b front none in
    let rest = place_behind at front back (All-tail P b front none) in
    rw head (omega (arith, rest))

pub cut_at : (at : ℕ) (front back : List ℕ) → IsWithout at front → cut at (front ++ at ∷ back) ≡ Some (front, back)
unfolding cut
cut_at at front back none =
    let place = place_behind at front back none in
    let within : ltb (length front) (length (front ++ at ∷ back)) ≡ true = lt-ltb _ _ (omega (arith, length-append front (at ∷ back))) in
    let before : take (length front) (front ++ at ∷ back) ≡ front = take-append_seam front (at ∷ back) in
    let behind : drop (length front + 1) (front ++ at ∷ back) ≡ back = drop-append-add front (at ∷ back) 1 in
    rw (place, within, before, behind) refl

found_at : (b : Bool) (i : ℕ) (text front back : List ℕ) → option_map {U = List ℕ × List ℕ} (λ i. (take i text, drop (i + 1) text)) (cond b (Some i) None) ≡ Some (front, back) → (b ≡ true) × (take i text ≡ front) × (drop (i + 1) text ≡ back)
found_at true i text front back h = let parts = some_pair_parts _ _ _ _ h in (refl, parts.0, parts.1)
found_at false i text front back h = absurd (none-some (front, back) h)

pub cut_is : (at : ℕ) (text front back : List ℕ) → cut at text ≡ Some (front, back) → text ≡ front ++ at ∷ back
unfolding cut
cut_is at text front back h =
    let p : ℕ → Bool = λ b. eqb b at in
    let found = found_at (ltb (position_or_len p text) (length text)) (position_or_len p text) text front back h in
    let within : position_or_len p text < length text = ltb-true _ _ found.0 in
    let here : get_or text (position_or_len p text) 0 ≡ at = eqb-true _ _ (passes_at_first p text 0 within) in
    split_at_first p text 0 within ∙ rw (here, found.1, found.2) refl

-- ---- numbers

pub own : IsNumeralModel (AllDigits 10) (digits_value 10)
own = numerals_by_value (AllDigits 10) tells_digits

all_digits : (text : List ℕ) → list_all is_digit text ≡ true → AllDigits 10 text
all_digits [] h = tt
all_digits (c ∷ text) h = let parts = and_parts _ _ h in (ltb-true _ _ parts.0, all_digits text parts.1)

digits_pass : (text : List ℕ) → AllDigits 10 text → list_all is_digit text ≡ true
digits_pass [] h = refl
digits_pass (c ∷ text) h = and_from _ _ (lt-ltb _ _ h.0) (digits_pass text h.1)

some_long : (text : List ℕ) → not (eqb (length text) 0) ≡ true → 0 < length text
some_long text h = let ne = eqb-false _ _ (not-true _ h) in omega arith

long_some : (text : List ℕ) → 0 < length text → not (eqb (length text) 0) ≡ true
long_some text h = not_from_false _ (ne_eqb _ _ (λ e. omega (arith, e)))

pub decimal_is : (limit : ℕ) (text : List ℕ) (n : ℕ) → number_below limit text ≡ Some n → IsNumeral 10 text × (digits_value 10 text ≡ n) × (n < limit)
unfolding number_below
decimal_is limit text n h =
    let both = cond_some _ _ _ h in
    let outer = and_parts _ _ both.0 in
    let inner = and_parts _ _ outer.0 in
    ((some_long text inner.0, all_digits text inner.1), both.1, subst (λ (m : ℕ). m < limit) both.1 (ltb-true _ _ outer.1))

pub decimal_of : (limit : ℕ) (text : List ℕ) (n : ℕ) → IsNumeral 10 text → digits_value 10 text ≡ n → n < limit → number_below limit text ≡ Some n
unfolding number_below
decimal_of limit text n numeral value fits =
    let small : digits_value 10 text < limit = omega (arith, value) in
    rw (long_some text numeral.0, digits_pass text numeral.1, lt-ltb _ _ small, value) refl

pub numeral_without : (at : ℕ) (text : List ℕ) → AllDigits 10 text → (48 ≤ at → at ≤ 57 → ⊥) → IsWithout at text
numeral_without at text digits other =
    let P : ℕ → Type 0 = λ b. eqb b at ≡ false in
    All-from_get_or P text 0 (λ i within. ne_eqb _ _ (not_in_digits own text at digits (λ r. other r.0 r.1) i within))

-- ---- numbers without leading zeros

not_padded : (b : Bool) (read : Option ℕ) (n : ℕ) → cond b None read ≡ Some n → (b ≡ false) × (read ≡ Some n)
not_padded true read n h = absurd (none-some n h)
not_padded false read n h = (refl, h)

one_digit : (text : List ℕ) → 0 < length text → (ltb 1 (length text) && eqb (get_or text 0 0) 48) ≡ false → get_or text 0 0 ≡ 48 → length text ≡ 1
one_digit text some unpadded first = elim (and_cases _ _ unpadded) [
  | inl short ↦ let le : length text ≤ 1 = ltb-false _ _ short in omega (arith, some, le)
  | inr other ↦ absurd (eqb-false _ _ other first)
]

pub plain_is : (limit : ℕ) (text : List ℕ) (n : ℕ) → limit ≤ 2 ^ 64 → plain_number limit text ≡ Some n → (n < limit) × (text ≡ decimal_text n)
unfolding plain_number
plain_is limit text n few h =
    let parts : ((ltb 1 (length text) && eqb (get_or text 0 0) 48) ≡ false) × (number_below limit text ≡ Some n) = not_padded _ _ n h in
    let is : IsNumeral 10 text × (digits_value 10 text ≡ n) × (n < limit) = decimal_is limit text n parts.1 in
    let small : digits_value 10 text < 2 ^ 64 = omega (arith, is.1, is.2, few) in
    let same : decimal_text (digits_value 10 text) ≡ text = decimal-digits_value own text is.0.1 is.0.0 (one_digit text is.0.0 parts.0) small in
    (is.2, sym same ∙ ap decimal_text is.1)

no_padding : (n : ℕ) → n < 2 ^ 64 → (ltb 1 (length (decimal_text n)) && eqb (get_or (decimal_text n) 0 0) 48) ≡ false
no_padding zero fits =
    let one : length (decimal_text 0) ≡ 1 = ap (λ (ds : List ℕ). length ds) (decimal_digit 0 (lit< tt)) in
    let short : length (decimal_text 0) ≤ 1 = omega (arith, one) in
    and_left _ _ (le-ltb _ _ short)
no_padding (suc n) fits =
    let first : 48 < get_or (decimal_text (suc n)) 0 0 = first_decimal (suc n) (omega arith) fits in
    and_right _ _ (ne_eqb (get_or (decimal_text (suc n)) 0 0) 48 (λ e. omega (arith, first, e)))

pub plain_of : (limit n : ℕ) → limit ≤ 2 ^ 64 → n < limit → plain_number limit (decimal_text n) ≡ Some n
unfolding plain_number
plain_of limit n few small =
    let fits : n < 2 ^ 64 = omega (arith, few, small) in
    rw (no_padding n fits) (decimal_of limit (decimal_text n) n (decimal_nonempty n fits, digits_decimal own n fits) (digits_value-decimal own n fits) small)

pub decimal_without : (at n : ℕ) → n < 2 ^ 64 → (48 ≤ at → at ≤ 57 → ⊥) → IsWithout at (decimal_text n)
decimal_without at n fits other = numeral_without at (decimal_text n) (digits_decimal own n fits) other

-- ---- peers

abbrev pub dotted : ℕ → ℕ → ℕ → ℕ → List ℕ
dotted a b c d = decimal_text a ++ 46 ∷ (decimal_text b ++ 46 ∷ (decimal_text c ++ 46 ∷ decimal_text d))

pub record IsDotted (h text : List ℕ) : Type 0 where
  pub a : ℕ
  pub b : ℕ
  pub c : ℕ
  pub d : ℕ
  pub a_fits : a < 256
  pub b_fits : b < 256
  pub c_fits : c < 256
  pub d_fits : d < 256
  pub host_is : a ∷ b ∷ c ∷ d ∷ [] ≡ h
  pub text_is : text ≡ dotted a b c d

few_256 : 256 ≤ 2 ^ 64
few_256 = omega arith

few_65536 : 65536 ≤ 2 ^ 64
few_65536 = omega arith

pub wide : (n : ℕ) → n < 256 → n < 2 ^ 64
wide n h = omega (arith, h)

joined : (text w1 rest1 w2 rest2 w3 w4 : List ℕ) (a b c d : ℕ) → text ≡ w1 ++ 46 ∷ rest1 → rest1 ≡ w2 ++ 46 ∷ rest2 → rest2 ≡ w3 ++ 46 ∷ w4
    → w1 ≡ decimal_text a → w2 ≡ decimal_text b → w3 ≡ decimal_text c → w4 ≡ decimal_text d → text ≡ dotted a b c d
joined text w1 rest1 w2 rest2 w3 w4 a b c d cut1 cut2 cut3 a_is b_is c_is d_is = rw (cut1, cut2, cut3, a_is, b_is, c_is, d_is) refl

pub host_is : (text h : List ℕ) → ipv4_host text ≡ Some h → IsDotted h text
unfolding ipv4_host
host_is text h is =
    let (first, cut1, rest1) = bound (cut 46 text) _ h is in
    let (second, cut2, rest2) = bound (cut 46 first.1) _ h rest1 in
    let (third, cut3, rest3) = bound (cut 46 second.1) _ h rest2 in
    let (a, is_a, rest4) = bound (plain_number 256 first.0) _ h rest3 in
    let (b, is_b, rest5) = bound (plain_number 256 second.0) _ h rest4 in
    let (c, is_c, rest6) = bound (plain_number 256 third.0) _ h rest5 in
    let (d, is_d, rest7) = bound (plain_number 256 third.1) _ h rest6 in
    let (a_fits, a_is) = plain_is 256 first.0 a few_256 is_a in
    let (b_fits, b_is) = plain_is 256 second.0 b few_256 is_b in
    let (c_fits, c_is) = plain_is 256 third.0 c few_256 is_c in
    let (d_fits, d_is) = plain_is 256 third.1 d few_256 is_d in
    let whole : text ≡ first.0 ++ 46 ∷ first.1 = cut_is 46 text first.0 first.1 cut1 in
    let behind : first.1 ≡ second.0 ++ 46 ∷ second.1 = cut_is 46 first.1 second.0 second.1 cut2 in
    let last : second.1 ≡ third.0 ++ 46 ∷ third.1 = cut_is 46 second.1 third.0 third.1 cut3 in
    record {
      a = a;
      b = b;
      c = c;
      d = d;
      a_fits = a_fits;
      b_fits = b_fits;
      c_fits = c_fits;
      d_fits = d_fits;
      host_is = same_Some _ _ rest7;
      text_is = joined text first.0 first.1 second.0 second.1 third.0 third.1 a b c d whole behind last a_is b_is c_is d_is;
    }

pub host_of : (a b c d : ℕ) → a < 256 → b < 256 → c < 256 → d < 256 → ipv4_host (dotted a b c d) ≡ Some (a ∷ b ∷ c ∷ d ∷ [])
unfolding ipv4_host
host_of a b c d sa sb sc sd =
    let cut1 = cut_at 46 (decimal_text a) (decimal_text b ++ 46 ∷ (decimal_text c ++ 46 ∷ decimal_text d)) (decimal_without 46 a (wide a sa) (λ l h. omega arith)) in
    let cut2 = cut_at 46 (decimal_text b) (decimal_text c ++ 46 ∷ decimal_text d) (decimal_without 46 b (wide b sb) (λ l h. omega arith)) in
    let cut3 = cut_at 46 (decimal_text c) (decimal_text d) (decimal_without 46 c (wide c sc) (λ l h. omega arith)) in
    rw (cut1, cut2, cut3, plain_of 256 a few_256 sa, plain_of 256 b few_256 sb, plain_of 256 c few_256 sc, plain_of 256 d few_256 sd) refl

regroup : (a b c d port : List ℕ) → (a ++ 46 ∷ (b ++ 46 ∷ (c ++ 46 ∷ d))) ++ 58 ∷ port ≡ (a ++ codes "." ++ b ++ codes "." ++ c ++ codes "." ++ d) ++ codes ":" ++ port
regroup a b c d port = simp append_assoc

pub four_small : (a b c d : ℕ) → a < 256 → b < 256 → c < 256 → d < 256 → All (λ h. h < 256) (a ∷ b ∷ c ∷ d ∷ [])
four_small a b c d sa sb sc sd =
    let P : ℕ → Type 0 = λ n. n < 256 in
    All-cons P a (b ∷ c ∷ d ∷ []) sa (All-cons P b (c ∷ d ∷ []) sb (All-cons P c (d ∷ []) sc (All-cons P d [] sd (All-nil P))))

made_of : (text octets : List ℕ) (port : ℕ) → IsDotted octets text → port < 65536 → SpellsPeer (record { host = V4 octets; port = port }) (text ++ 58 ∷ decimal_text port)
made_of text octets port is fits =
    let P : List ℕ → Type 0 = λ h. SpellsPeer (record { host = V4 h; port = port }) (text ++ 58 ∷ decimal_text port) in
    let made : SpellsPeer (record { host = V4 (is.a ∷ is.b ∷ is.c ∷ is.d ∷ []); port = port }) (text ++ 58 ∷ decimal_text port) = record {
      is_peer = (record { count = refl; small = four_small is.a is.b is.c is.d is.a_fits is.b_fits is.c_fits is.d_fits }, fits);
      text_is = ap (λ (t : List ℕ). t ++ 58 ∷ decimal_text port) is.text_is ∙ regroup (decimal_text is.a) (decimal_text is.b) (decimal_text is.c) (decimal_text is.d) (decimal_text port);
    } in
    subst P is.host_is made

ipv4_is : (text : List ℕ) (p : Peer) → ipv4_peer text ≡ Some p → SpellsPeer p text
unfolding ipv4_peer
ipv4_is text p h =
    let (parts, cut1, rest1) = bound (cut 58 text) _ p h in
    let (octets, is_host, rest2) = bound (ipv4_host parts.0) _ p rest1 in
    let (port, is_port, rest3) = bound (plain_number 65536 parts.1) _ p rest2 in
    let (fits, port_is) = plain_is 65536 parts.1 port few_65536 is_port in
    let made = made_of parts.0 octets port (host_is parts.0 octets is_host) fits in
    let whole : text ≡ parts.0 ++ 58 ∷ decimal_text port = cut_is 58 text parts.0 parts.1 cut1 ∙ ap (λ (t : List ℕ). parts.0 ++ 58 ∷ t) port_is in
    let here : SpellsPeer (record { host = V4 octets; port = port }) text = subst (SpellsPeer (record { host = V4 octets; port = port })) (sym whole) made in
    subst (λ (q : Peer). SpellsPeer q text) (same_Some _ _ rest3) here

dotted_without : (at a b c d : ℕ) → a < 256 → b < 256 → c < 256 → d < 256 → (48 ≤ at → at ≤ 57 → ⊥) → (46 ≡ at → ⊥) → IsWithout at (dotted a b c d)
dotted_without at a b c d sa sb sc sd other no_dot =
    let P : ℕ → Type 0 = λ b. eqb b at ≡ false in
    let dot : eqb 46 at ≡ false = ne_eqb 46 at no_dot in
    All-append P (decimal_text a) _ (decimal_without at a (wide a sa) other) (All-cons P 46 _ dot
    (All-append P (decimal_text b) _ (decimal_without at b (wide b sb) other) (All-cons P 46 _ dot
    (All-append P (decimal_text c) _ (decimal_without at c (wide c sc) other) (All-cons P 46 _ dot
    (decimal_without at d (wide d sd) other))))))

-- what the text of four numbers and a port is
ipv4_parts : (a b c d port : ℕ) → a < 256 → b < 256 → c < 256 → d < 256 → port < 65536 → ipv4_peer (dotted a b c d ++ 58 ∷ decimal_text port) ≡ Some (record { host = V4 (a ∷ b ∷ c ∷ d ∷ []); port = port })
unfolding ipv4_peer
ipv4_parts a b c d port sa sb sc sd fits =
    let cut1 = cut_at 58 (dotted a b c d) (decimal_text port) (dotted_without 58 a b c d sa sb sc sd (λ l h. omega arith) (λ e. omega arith)) in
    rw (cut1, host_of a b c d sa sb sc sd, plain_of 65536 port few_65536 fits) refl

ipv4_reads : (h : List ℕ) (port : ℕ) → length h ≡ 4 → All (λ h. h < 256) h → port < 65536 → ipv4_peer (peer_text (record { host = V4 h; port = port })) ≡ Some (record { host = V4 h; port = port })
ipv4_reads [] port four small fits = absurd (omega (arith, four))
ipv4_reads (a ∷ []) port four small fits = absurd (omega (arith, four))
ipv4_reads (a ∷ b ∷ []) port four small fits = absurd (omega (arith, four))
ipv4_reads (a ∷ b ∷ c ∷ []) port four small fits = absurd (omega (arith, four))
ipv4_reads (a ∷ b ∷ c ∷ d ∷ []) port four small fits =
    ap ipv4_peer (sym (regroup (decimal_text a) (decimal_text b) (decimal_text c) (decimal_text d) (decimal_text port)))
    ∙ ipv4_parts a b c d port (small 0 0 (omega arith)) (small 1 0 (omega arith)) (small 2 0 (omega arith)) (small 3 0 (omega arith)) fits
ipv4_reads (a ∷ b ∷ c ∷ d ∷ e ∷ more) port four small fits = absurd (omega (arith, four))

-- ---- peers of IPv6

behind_is : (at : ℕ) (text rest : List ℕ) → behind at text ≡ Some rest → text ≡ at ∷ rest
behind_is at [] rest h = absurd (none-some rest h)
behind_is at (first ∷ more) rest h =
    let found = cond_some _ _ _ h in
    let same : first ≡ at = eqb-true _ _ found.0 in
    rw (same, found.1) refl

behind_at : (at : ℕ) (rest : List ℕ) → behind at (at ∷ rest) ≡ Some rest
behind_at at rest = rw (eq-eqb at at refl) refl

-- what is read in brackets
pub record IsPrinted (octets text : List ℕ) : Type 0 where
  pub fits : IsBytes 16 octets
  pub plain : is_mapped octets ≡ false
  pub text_is : ipv6_host_text octets ≡ text

printed_if : (text octets x : List ℕ) → cond (bytes_eq (ipv6_host_text octets) text && not (is_mapped octets)) (Some octets) None ≡ Some x
    → (octets ≡ x) × (ipv6_host_text octets ≡ text) × (is_mapped octets ≡ false)
printed_if text octets x h =
    let found = cond_some _ _ _ h in
    let parts = and_parts _ _ found.0 in
    (found.1, (bytes_eq-Decides (ipv6_host_text octets) text).0 parts.0, not-true _ parts.1)

pub printed_is : (text octets : List ℕ) → printed_ipv6 text ≡ Some octets → IsPrinted octets text
unfolding printed_ipv6
printed_is text x h =
    let (octets, read, rest) = bound (ipv6_host text) _ x h in
    let (same, text_is, plain) = printed_if text octets x rest in
    let none : HasNoDot text = subst HasNoDot text_is (host_without 46 (inl (omega arith)) octets) in
    let spelled : SpellsHost octets text = host_spells text octets none read in
    subst (λ (o : List ℕ). IsPrinted o text) same (record { fits = spelled_host_fits octets text spelled; plain = plain; text_is = text_is })

pub printed_of : (octets : List ℕ) → IsBytes 16 octets → is_mapped octets ≡ false → printed_ipv6 (ipv6_host_text octets) ≡ Some octets
unfolding printed_ipv6
printed_of octets fits plain =
    let read : ipv6_host (ipv6_host_text octets) ≡ Some octets = spelled_host (ipv6_host_text octets) octets (printed_host_spells octets fits) in
    let same : bytes_eq (ipv6_host_text octets) (ipv6_host_text octets) ≡ true = (bytes_eq-Decides (ipv6_host_text octets) (ipv6_host_text octets)).1 refl in
    rw (read, same, plain) refl

in_brackets : (host port : List ℕ) → 91 ∷ (host ++ 93 ∷ 58 ∷ port) ≡ codes "[" ++ host ++ codes "]" ++ codes ":" ++ port
in_brackets host port = simp append_assoc

rejoined : (text inside front back digits host port : List ℕ) → text ≡ 91 ∷ inside → inside ≡ front ++ 93 ∷ back → back ≡ 58 ∷ digits → host ≡ front → digits ≡ port → text ≡ 91 ∷ (host ++ 93 ∷ 58 ∷ port)
rejoined text inside front back digits host port whole cut1 behind1 host_is port_is = rw (whole, cut1, behind1, host_is, port_is) refl

ipv6_is : (text : List ℕ) (p : Peer) → ipv6_peer text ≡ Some p → SpellsPeer p text
unfolding ipv6_peer
ipv6_is text p h =
    let (inside, is_inside, rest1) = bound (behind 91 text) _ p h in
    let (parts, cut1, rest2) = bound (cut 93 inside) _ p rest1 in
    let (digits, is_digits, rest3) = bound (behind 58 parts.1) _ p rest2 in
    let (octets, is_host, rest4) = bound (printed_ipv6 parts.0) _ p rest3 in
    let (port, is_port, rest5) = bound (plain_number 65536 digits) _ p rest4 in
    let (fits, port_is) = plain_is 65536 digits port few_65536 is_port in
    let host = printed_is parts.0 octets is_host in
    let shown = rejoined text inside parts.0 parts.1 digits (ipv6_host_text octets) (decimal_text port) (behind_is 91 text inside is_inside) (cut_is 93 inside parts.0 parts.1 cut1) (behind_is 58 parts.1 digits is_digits) host.text_is port_is in
    let here : SpellsPeer (record { host = V6 octets; port = port }) text = record {
      is_peer = ((host.fits, host.plain), fits);
      text_is = shown ∙ in_brackets (ipv6_host_text octets) (decimal_text port);
    } in
    subst (λ (q : Peer). SpellsPeer q text) (same_Some _ _ rest5) here

ipv6_reads : (octets : List ℕ) (port : ℕ) → IsBytes 16 octets → is_mapped octets ≡ false → port < 65536
    → ipv6_peer (91 ∷ (ipv6_host_text octets ++ 93 ∷ 58 ∷ decimal_text port)) ≡ Some (record { host = V6 octets; port = port })
unfolding ipv6_peer
ipv6_reads octets port fits plain port_fits =
    let cut1 = cut_at 93 (ipv6_host_text octets) (58 ∷ decimal_text port) (host_without 93 (inr (omega arith, omega arith)) octets) in
    rw (cut1, printed_of octets fits plain, plain_of 65536 port few_65536 port_fits) refl

-- ---- both

-- what is in brackets is no peer of IPv4
begins_otherwise : (ds more rest : List ℕ) → 0 < length ds → IsWithout 91 ds → 91 ∷ rest ≡ ds ++ more → ⊥
begins_otherwise [] more rest some none is = omega (arith, some)
begins_otherwise (d ∷ ds) more rest some none is =
    let first : 91 ≡ d = ap (λ (t : List ℕ). get_or t 0 0) is in
    eqb-false _ _ (All-head (λ b. eqb b 91 ≡ false) d ds none) (sym first)

begun : (text front back a tail : List ℕ) → text ≡ front ++ 58 ∷ back → front ≡ a ++ 46 ∷ tail → text ≡ a ++ (46 ∷ tail ++ 58 ∷ back)
begun text front back a tail whole is = rw (whole, is) (append_assoc a (46 ∷ tail) (58 ∷ back))

ipv4_begins : (rest : List ℕ) (p : Peer) → ipv4_peer (91 ∷ rest) ≡ Some p → ⊥
unfolding ipv4_peer
ipv4_begins rest p h =
    let (parts, cut1, rest1) = bound (cut 58 (91 ∷ rest)) _ p h in
    let (octets, is_host, rest2) = bound (ipv4_host parts.0) _ p rest1 in
    let host = host_is parts.0 octets is_host in
    let a = decimal_text host.a in
    let tail = decimal_text host.b ++ 46 ∷ (decimal_text host.c ++ 46 ∷ decimal_text host.d) in
    begins_otherwise a (46 ∷ tail ++ 58 ∷ parts.1) rest (decimal_nonempty host.a (wide host.a host.a_fits)) (decimal_without 91 host.a (wide host.a host.a_fits) (λ l h. omega arith))
    (begun (91 ∷ rest) parts.0 parts.1 a tail (cut_is 58 (91 ∷ rest) parts.0 parts.1 cut1) host.text_is)

no_ipv4 : (rest : List ℕ) → ipv4_peer (91 ∷ rest) ≡ None
no_ipv4 rest = sym (none_unless (ipv4_peer (91 ∷ rest)) (ipv4_begins rest))

either_is : (text : List ℕ) (p : Peer) (o : Option Peer) → ipv4_peer text ≡ o → option_or o (ipv6_peer text) ≡ Some p → SpellsPeer p text
either_is text p None none is = ipv6_is text p is
either_is text p (Some q) some is = subst (λ (r : Peer). SpellsPeer r text) (same_Some q p is) (ipv4_is text q some)

pub peer_is : (text : List ℕ) (p : Peer) → peer text ≡ Some p → SpellsPeer p text
unfolding peer
peer_is text p is = either_is text p (ipv4_peer text) refl is

reads : (host : Host) (port : ℕ) → IsPeer (record { host = host; port = port }) → peer (peer_text (record { host = host; port = port })) ≡ Some (record { host = host; port = port })
unfolding peer
reads (V4 octets) port is = rw (ipv4_reads octets port is.0.count is.0.small is.1) refl
reads (V6 octets) port is =
    ap peer (sym (in_brackets (ipv6_host_text octets) (decimal_text port)))
    ∙ rw (no_ipv4 (ipv6_host_text octets ++ 93 ∷ 58 ∷ decimal_text port)) (ipv6_reads octets port is.0.0 is.0.1 is.1)

pub peer_of : (text : List ℕ) (p : Peer) → SpellsPeer p text → peer text ≡ Some p
peer_of text p s = ap peer s.text_is ∙ reads p.host p.port s.is_peer

pub peers_are_spelled : PeersAreSpelled
peers_are_spelled text p = (peer_is text p, peer_of text p)
