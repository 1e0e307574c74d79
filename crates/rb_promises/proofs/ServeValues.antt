-- What the values of the options of `serve` spell, and what they are read as.
use Rattle.std.specs.Prelude.{codes, bytes_eq, All}
use Rattle.std.specs.List.{list_all}
use Rattle.std.specs.Char.{digit_value}
use Rattle.std.specs.Borrow.{Bor}
use Rattle.std.specs.Str.Parse.{AllDigits, digits_value}
use Rattle.std.specs.Net.Addr.{octets_of}
use Rattle.std.specs.Net.Grammar.{IsDotted, IsGroupsAfter, IsColonHex}
use Rattle.std.specs.Prelude.{decimal as decimal_text}
use Rattle.std.proofs.Common.{◌≡◌, ◌≢◌, ◌<◌, ◌≤◌, ◌+◌, ◌-◌, ◌*◌, ◌^◌, ◌&&◌, ℕ, Bool, true, false, not, cond, eqb, leb, ltb, List, [], ◌∷◌, ◌++◌, length, drop, replicate, Option, Some, None, Result, Ok, Err, refl, sym, ap, subst, ◌∙◌, arith, inl, inr, lit<, length-append, append_assoc}
use Rattle.std.proofs.lemmas.Bool.{and_parts, and_from, not-true, eqb-true, eqb-false, eq-eqb, ne_eqb, ltb-true, ltb-false, lt-ltb, le-ltb, leb-true, le-leb}
use Rattle.std.proofs.lemmas.List.{drop_all, length-replicate}
use Rattle.std.proofs.lemmas.List.Elements.{All-nil, All-cons, All-head, All-tail, All-append}
use Rattle.std.proofs.lemmas.Option.{none-some, same_Some, cond_some}
use Rattle.std.proofs.lemmas.Slice.Eq.{bytes_eq-Decides}
use Rattle.rb_address.specs.declared.host.Host.{Host}
use Rattle.rb_address.specs.declared.host.Host.TheVariants.{V4, V6}
use Rattle.rb_address.specs.declared.network.Network.{Network}
use Rattle.rb_address.specs.declared.network.NetworkFault.{NetworkFault}
use Rattle.rb_address.specs.declared.network.NetworkFault.TheVariants.{TooLong, BitsBehind, Mapped}
use Rattle.rb_address.specs.Hosts.{plain_host, is_same_host, octets_of_host, bit_count}
use Rattle.rb_address.specs.Networks.{octet_bits, bits_of, is_clear, network_at, host_of, plain_host_of, if_ok, network_of_one, network_of_parts, network_of}
use Rattle.rb_address.specs.Reading.{◌>>=◌ as ◌>>?◌, number_below, plain_number, cut}
use Rattle.rb_address.proofs.HostTexts.{IsWithout}
use Rattle.rb_address.proofs.Words as words
use Rattle.rb_answers.specs.declared.listener.Forwarding.{Forwarding}
use Rattle.rb_answers.specs.declared.listener.Forwarding.TheVariants.{Anywhere, ForAll, ForLocal}
use Rattle.rb_words.specs.Services.{borrowed_texts}
use Rattle.rb_commands.specs.declared.options.Valued.{Valued}
use Rattle.rb_commands.specs.declared.options.Valued.TheVariants as valueds
use Rattle.rb_policy.specs.declared.brake.Rate.{Rate}
use Rattle.rb_policy.specs.declared.log_choice.Logged.{Logged}
use Rattle.rb_policy.specs.declared.log_choice.Logged.TheVariants.{Nothing, Changes, All as Everything}
use Rattle.rb_commands.specs.Options.{value_of, values_from, forward_for}
use Rattle.rb_commands.specs.Serving.{host_at, network_at as network_at_place, is_octal, read_mode, if_between, rate_number, rate_of_parts, rate_of, udp_rate, log_named, log_of}
use Rattle.rb_promises.specs.WordForms.{SpellsWithin, MayHave}
use Rattle.rb_promises.specs.OptionTexts.{SpellsHost, SpellEach, SpellsNetwork, SpellsMode, whom_text, SpellsRate, SpellsLog}
use Rattle.rb_promises.specs.OptionTexts.SpellsNetwork.{OfOneHost, WithLength}
use Rattle.rb_promises.specs.OptionTexts.SpellsRate.{OneNumber, TwoNumbers}
use Rattle.rb_promises.specs.ServeOptions.{IsLog}
use Rattle.rb_promises.proofs.OptionValues.{bound, followed, same_Ok, valued, below_is, undotted, host_is, host_read}

-- ---- bytes that a text has not

abbrev IsOther : ℕ → ℕ → Type 0
IsOther at b = eqb b at ≡ false

no_such : (at : ℕ) (front back : List ℕ) → IsWithout at (front ++ at ∷ back) → ⊥
no_such at [] back none = eqb-false _ _ (All-head (IsOther at) at back none) refl
no_such at (b ∷ front) back none = no_such at front back (All-tail (IsOther at) b (front ++ at ∷ back) none)

pub not_cut : (at : ℕ) (text : List ℕ) → IsWithout at text → cut at text ≡ None
not_cut at text none = by (cut at text) refl
  where
    by : (o : Option (List ℕ × List ℕ)) → cut at text ≡ o → o ≡ None
    by None is = refl
    by (Some parts) is = absurd (no_such at parts.0 parts.1 (subst (IsWithout at) (words.cut_is at text parts.0 parts.1 is) none))

dotted_without : (text octets : List ℕ) → IsDotted text octets → IsWithout 47 text
dotted_without text octets d =
    let (a_fits, b_fits, c_fits, d_fits) = d.fit in
    let P : ℕ → Type 0 = IsOther 47 in
    let number : (n : ℕ) → n < 256 → IsWithout 47 (decimal_text n) = λ n fits. words.decimal_without 47 n (words.wide n fits) (λ l h. omega arith) in
    let all : IsWithout 47 (words.dotted d.a d.b d.c d.d) =
    All-append P (decimal_text d.a) _ (number d.a a_fits) (All-cons P 46 _ refl
    (All-append P (decimal_text d.b) _ (number d.b b_fits) (All-cons P 46 _ refl
    (All-append P (decimal_text d.c) _ (number d.c c_fits) (All-cons P 46 _ refl (number d.d d_fits)))))) in
    subst (IsWithout 47) (undotted _ _ _ _ ∙ sym d.spelled) all

digits_without : (digits : List ℕ) → AllDigits 16 digits → IsWithout 47 digits
digits_without [] h = All-nil (IsOther 47)
digits_without (c ∷ digits) h =
    let small : digit_value c < 16 = h.0 in
    let other : c ≡ 47 → ⊥ = λ e. let at : digit_value 47 < 16 = subst (λ (b : ℕ). digit_value b < 16) e small in omega (arith, at) in
    All-cons (IsOther 47) c digits (ne_eqb c 47 other) (digits_without digits h.1)

groups_without : (ipv4 : Bool) (lead text segments : List ℕ) → IsWithout 47 lead → IsGroupsAfter ipv4 lead text segments → IsWithout 47 text
groups_without ipv4 lead text [] none h = subst (IsWithout 47) (sym h) (All-nil (IsOther 47))
groups_without ipv4 lead text (s ∷ segments) none (inl (group, rest, text_is, is_group, more)) =
    let P : ℕ → Type 0 = IsOther 47 in
    let colon : IsWithout 47 (codes ":") = All-cons P 58 [] refl (All-nil P) in
    subst (IsWithout 47) (sym text_is) (All-append P (lead ++ group) rest (All-append P lead group none (digits_without group is_group.0.0.1)) (groups_without ipv4 (codes ":") rest segments colon more))
groups_without ipv4 lead text (s ∷ segments) none (inr (last, octets, may, text_is, dotted, value)) =
    subst (IsWithout 47) (sym text_is) (All-append (IsOther 47) lead last none (dotted_without last octets dotted))

colon_hex_without : (text segments : List ℕ) → IsColonHex text segments → IsWithout 47 text
colon_hex_without text segments (inl full) = groups_without true [] text segments (All-nil (IsOther 47)) full.0
colon_hex_without text segments (inr e) =
    let P : ℕ → Type 0 = IsOther 47 in
    let colons : IsWithout 47 (codes "::") = All-cons P 58 (58 ∷ []) refl (All-cons P 58 [] refl (All-nil P)) in
    subst (IsWithout 47) (sym e.spelled)
    (All-append P (e.head_text ++ codes "::") e.tail_text
    (All-append P e.head_text (codes "::") (groups_without false [] e.head_text e.head (All-nil P) e.head_groups) colons)
    (groups_without true [] e.tail_text e.tail (All-nil P) e.tail_groups))

host_without : (host : Host) (text : List ℕ) → SpellsHost host text → IsWithout 47 text
host_without (V4 octets) text s = dotted_without text octets s
host_without (V6 octets) text s = colon_hex_without text s.segments s.spelled

-- ---- bits

bits-count : (octets : List ℕ) → length (bits_of octets) ≡ 8 * length octets
bits-count [] = refl
bits-count (o ∷ octets) =
    let rest = bits-count octets in
    let all : length (bits_of (o ∷ octets)) ≡ length (octet_bits o) + length (bits_of octets) = length-append (octet_bits o) (bits_of octets) in
    omega (arith, rest, all)

octets-count : (segments : List ℕ) → length (octets_of segments) ≡ 2 * length segments
octets-count [] = refl
octets-count (s ∷ segments) = let rest = octets-count segments in omega (arith, rest)

eight_segments : (text segments : List ℕ) → IsColonHex text segments → length segments ≡ 8
eight_segments text segments (inl full) = full.1
eight_segments text segments (inr e) =
    let room = e.room in
    let left : List ℕ = replicate (8 - length e.head - length e.tail) 0 in
    let zeros : length left ≡ 8 - length e.head - length e.tail = length-replicate {A = ℕ} (8 - length e.head - length e.tail) 0 in
    let all = ap length e.value in
    omega (arith, all, room, zeros, length-append e.head left, length-append (e.head ++ left) e.tail)

host_bits : (host : Host) (text : List ℕ) → SpellsHost host text → length (bits_of (octets_of_host host)) ≡ bit_count host
host_bits (V4 octets) text s = ap (λ (o : List ℕ). length (bits_of o)) s.value
host_bits (V6 octets) text s =
    let bits = bits-count octets in
    let count = octets-count s.segments in
    let eight = eight_segments text s.segments s.spelled in
    let same : length octets ≡ length (octets_of s.segments) = ap length s.octets_are in
    omega (arith, bits, count, eight, same)

-- ---- networks

abbrev IsZero : ℕ → Type 0
IsZero bit = bit ≡ 0

zeros_are : (bits : List ℕ) → list_all (λ bit. eqb bit 0) bits ≡ true → All IsZero bits
zeros_are [] h = All-nil IsZero
zeros_are (bit ∷ bits) h = let (here, rest) = and_parts _ _ h in All-cons IsZero bit bits (eqb-true bit 0 here) (zeros_are bits rest)

zeros_of : (bits : List ℕ) → All IsZero bits → list_all (λ bit. eqb bit 0) bits ≡ true
zeros_of [] h = refl
zeros_of (bit ∷ bits) h = and_from _ _ (eq-eqb bit 0 (All-head IsZero bit bits h)) (zeros_of bits (All-tail IsZero bit bits h))

abbrev chain : Bool → Bool → Bool → Network → Result Network NetworkFault
chain over clear plain network = cond over (Err TooLong) (cond (not clear) (Err BitsBehind) (cond (not plain) (Err Mapped) (Ok network)))

passed : (over clear plain : Bool) (made network : Network) → if_ok (chain over clear plain made) ≡ Some network → (over ≡ false) × (clear ≡ true) × (plain ≡ true) × (made ≡ network)
passed true clear plain made network h = absurd (none-some network h)
passed false false plain made network h = absurd (none-some network h)
passed false true false made network h = absurd (none-some network h)
passed false true true made network h = (refl, refl, refl, same_Some made network h)

record HasLength (host : Host) (length : ℕ) (network : Network) : Type 0 where
  most : length ≤ bit_count host
  clear : is_clear length host ≡ true
  plain : is_same_host (plain_host host) host ≡ true
  made : record { host = host; length = length } ≡ network

length_is : (host : Host) (length : ℕ) (network : Network) → if_ok (network_at host length) ≡ Some network → HasLength host length network
unfolding network_at
length_is host length network h =
    let (most, clear, plain, made) = passed (ltb (bit_count host) length) (is_clear length host) (is_same_host (plain_host host) host) (record { host = host; length = length }) network h in
    record { most = ltb-false _ _ most; clear = clear; plain = plain; made = made }

length_of : (host : Host) (length : ℕ) → length ≤ bit_count host → is_clear length host ≡ true → is_same_host (plain_host host) host ≡ true → if_ok (network_at host length) ≡ Some (record { host = host; length = length })
unfolding network_at
length_of host length most clear plain = rw (le-ltb _ _ most, clear, plain) refl

-- the host of a text that is none of IPv4 in IPv6's form
spelled_by : (text : List ℕ) (host : Host) → host_of text ≡ Some host → is_same_host (plain_host host) host ≡ true → SpellsHost host text
unfolding plain_host_of
spelled_by text host is plain =
    let read : plain_host_of text ≡ Some host = ap (λ (o : Option Host). o >>? (λ host. cond (is_same_host (plain_host host) host) (Some host) None)) is ∙ ap (λ (b : Bool). cond b (Some host) None) plain in
    host_is text host read

record IsReadAs (text : List ℕ) (host : Host) : Type 0 where
  read : host_of text ≡ Some host
  plain : is_same_host (plain_host host) host ≡ true

read_as : (text : List ℕ) (host : Host) → SpellsHost host text → IsReadAs text host
unfolding plain_host_of
read_as text host s =
    let (found, is, rest) = words.bound (host_of text) _ host (host_read text host s) in
    let (plain, same) = cond_some (is_same_host (plain_host found) found) found host rest in
    subst (IsReadAs text) same (record { read = is; plain = plain })

network_is : (text : List ℕ) (network : Network) → network_of text ≡ Some network → SpellsNetwork network text
unfolding network_of
network_is text network h = by_cut (cut 47 text) refl h
  where
    alone : network_of_one text ≡ Some network → SpellsNetwork network text
    alone h =
        let (host, is, rest) = words.bound (host_of text) _ network h in
        let l = length_is host (bit_count host) network rest in
        subst (λ (n : Network). SpellsNetwork n text) l.made (OfOneHost (spelled_by text host is l.plain) refl)

    with_length : (front back : List ℕ) → cut 47 text ≡ Some (front, back) → network_of_parts (Some (front, back)) text ≡ Some network → SpellsNetwork network text
    with_length front back is_cut h =
        let (host, is, rest1) = words.bound (host_of front) _ network h in
        let (length, is_length, rest2) = words.bound (plain_number 256 back) _ network rest1 in
        let l = length_is host length network rest2 in
        let (fits, back_is) = words.plain_is 256 back length (omega arith) is_length in
        let whole = words.cut_is 47 text front back is_cut ∙ ap (λ (b : List ℕ). front ++ 47 ∷ b) back_is ∙ sym (append_assoc front (codes "/") (decimal_text length)) in
        subst (λ (n : Network). SpellsNetwork n text) l.made (WithLength front whole (spelled_by front host is l.plain) l.most (zeros_are (drop length (bits_of (octets_of_host host))) l.clear))

    by_cut : (o : Option (List ℕ × List ℕ)) → cut 47 text ≡ o → network_of_parts o text ≡ Some network → SpellsNetwork network text
    by_cut None is h = alone h
    by_cut (Some parts) is h = with_length parts.0 parts.1 is h

few_bits : (host : Host) → bit_count host < 256
few_bits (V4 octets) = lit< tt
few_bits (V6 octets) = lit< tt

network_read : (text : List ℕ) (network : Network) → SpellsNetwork network text → network_of text ≡ Some network
unfolding network_of
network_read text network (OfOneHost s whole) =
    let host = network.host in
    let r = read_as text host s in
    let behind : drop (bit_count host) (bits_of (octets_of_host host)) ≡ [] = drop_all (bit_count host) (bits_of (octets_of_host host)) (omega (arith, host_bits host text s)) in
    let clear : is_clear (bit_count host) host ≡ true = ap (list_all (λ bit. eqb bit 0)) behind in
    let made : ◌≡◌ {A = Option Network} (Some (record { host = host; length = bit_count host })) (Some network) = ap (λ (n : ℕ). Some (record { host = host; length = n })) (sym whole) in
    ap (λ (o : Option (List ℕ × List ℕ)). network_of_parts o text) (not_cut 47 text (host_without host text s))
    ∙ ap (λ (o : Option Host). o >>? (λ host. if_ok (network_at host (bit_count host)))) r.read
    ∙ length_of host (bit_count host) (omega arith) clear r.plain ∙ made
network_read text network (WithLength front text_is s most behind) =
    let host = network.host in
    let r = read_as front host s in
    let few = few_bits host in
    let length = words.plain_of 256 network.length (omega arith) (omega (arith, few, most)) in
    let clear : is_clear network.length host ≡ true = zeros_of (drop network.length (bits_of (octets_of_host host))) behind in
    let cut_there : cut 47 text ≡ Some (front, decimal_text network.length) = ap (cut 47) (text_is ∙ append_assoc front (codes "/") (decimal_text network.length)) ∙ words.cut_at 47 front (decimal_text network.length) (host_without host front s) in
    ap (λ (o : Option (List ℕ × List ℕ)). network_of_parts o text) cut_there
    ∙ ap (λ (o : Option Host). o >>? (λ host. plain_number 256 (decimal_text network.length) >>? (λ length. if_ok (network_at host length)))) r.read
    ∙ ap (λ (o : Option ℕ). o >>? (λ length. if_ok (network_at host length))) length
    ∙ length_of host network.length most clear r.plain

-- ---- values at their places

pub record IsAtPlace {A : Type 0} (most : ℕ) (Spells : A → List ℕ → Type 0) (place : ℕ) (text : List ℕ) (x : A) : Type 0 where
  pub few : place < most
  pub spells : Spells x text

placed : {A : Type 0} (option : Valued) (place : ℕ) (o : Option A) (x : A) → cond (ltb place 16) (value_of option o) (Err option) ≡ Ok x → (place < 16) × (o ≡ Some x)
placed option place o x h = by (ltb place 16) refl h
  where
    by : (b : Bool) → ltb place 16 ≡ b → cond b (value_of option o) (Err option) ≡ Ok x → (place < 16) × (o ≡ Some x)
    by true few h = (ltb-true _ _ few, valued option o x h)
    by false many h = absurd cc

host_placed : (place : ℕ) (text : List ℕ) (host : Host) → host_at place text ≡ Ok host → IsAtPlace 16 SpellsHost place text host
host_placed place text host h = let (few, read) = placed (valueds.Bind place) place (plain_host_of text) host h in record { few = few; spells = host_is text host read }

host_at_place : (place : ℕ) (text : List ℕ) (host : Host) → IsAtPlace 16 SpellsHost place text host → host_at place text ≡ Ok host
host_at_place place text host p = rw (lt-ltb place 16 p.few) (ap (value_of (valueds.Bind place)) (host_read text host p.spells))

network_placed : (place : ℕ) (text : List ℕ) (network : Network) → network_at_place place text ≡ Ok network → IsAtPlace 16 SpellsNetwork place text network
network_placed place text network h = let (few, read) = placed (valueds.From place) place (network_of text) network h in record { few = few; spells = network_is text network read }

network_there : (place : ℕ) (text : List ℕ) (network : Network) → IsAtPlace 16 SpellsNetwork place text network → network_at_place place text ≡ Ok network
network_there place text network p = rw (lt-ltb place 16 p.few) (ap (value_of (valueds.From place)) (network_read text network p.spells))

pub record AreSpelled {A : Type 0} (most : ℕ) (Spells : A → List ℕ → Type 0) (place : ℕ) (texts : List (Bor (List ℕ))) (values : List A) : Type 0 where
  pub each : SpellEach Spells values (borrowed_texts texts)
  pub few : place + length texts ≤ most

pub values_are : {A : Type 0} (most : ℕ) (Spells : A → List ℕ → Type 0) (value_at : ℕ → List ℕ → Result A Valued) → ((place : ℕ) (text : List ℕ) (x : A) → value_at place text ≡ Ok x → IsAtPlace most Spells place text x)
    → (place : ℕ) (texts : List (Bor (List ℕ))) (values : List A) → place ≤ most → values_from value_at place texts ≡ Ok values → AreSpelled most Spells place texts values
unfolding values_from
values_are most Spells value_at read place [] values le h = subst (AreSpelled most Spells place []) (same_Ok _ _ h) (record { each = tt; few = omega (arith, le) })
values_are most Spells value_at read place (text ∷ texts) values le h =
    let (first, is, rest) = bound (value_at place text.now) _ values h in
    let (others, are, made) = bound (values_from value_at (place + 1) texts) _ values rest in
    let p = read place text.now first is in
    let here = p.few in
    let later = values_are most Spells value_at read (place + 1) texts others (omega (arith, here)) are in
    let few = later.few in
    subst (AreSpelled most Spells place (text ∷ texts)) (same_Ok _ _ made) (record { each = (p.spells, later.each); few = omega (arith, few) })

pub values_read : {A : Type 0} (most : ℕ) (Spells : A → List ℕ → Type 0) (value_at : ℕ → List ℕ → Result A Valued) → ((place : ℕ) (text : List ℕ) (x : A) → IsAtPlace most Spells place text x → value_at place text ≡ Ok x)
    → (place : ℕ) (texts : List (Bor (List ℕ))) (values : List A) → AreSpelled most Spells place texts values → values_from value_at place texts ≡ Ok values
unfolding values_from
values_read most Spells value_at write place [] [] a = refl
values_read most Spells value_at write place [] (x ∷ xs) a = absurd a.each
values_read most Spells value_at write place (text ∷ texts) [] a = absurd a.each
values_read most Spells value_at write place (text ∷ texts) (x ∷ xs) a =
    let few = a.few in
    followed (value_at place text.now) _ x (x ∷ xs) (write place text.now x (record { few = omega (arith, few); spells = a.each.0 }))
    (followed (values_from value_at (place + 1) texts) _ xs (x ∷ xs) (values_read most Spells value_at write (place + 1) texts xs (record { each = a.each.1; few = omega (arith, few) })) refl)

pub hosts_are : (texts : List (Bor (List ℕ))) (hosts : List Host) → values_from host_at 0 texts ≡ Ok hosts → AreSpelled 16 SpellsHost 0 texts hosts
hosts_are texts hosts h = values_are 16 SpellsHost host_at host_placed 0 texts hosts (omega arith) h

pub hosts_read : (texts : List (Bor (List ℕ))) (hosts : List Host) → AreSpelled 16 SpellsHost 0 texts hosts → values_from host_at 0 texts ≡ Ok hosts
hosts_read texts hosts a = values_read 16 SpellsHost host_at host_at_place 0 texts hosts a

pub networks_are : (texts : List (Bor (List ℕ))) (networks : List Network) → values_from network_at_place 0 texts ≡ Ok networks → AreSpelled 16 SpellsNetwork 0 texts networks
networks_are texts networks h = values_are 16 SpellsNetwork network_at_place network_placed 0 texts networks (omega arith) h

pub networks_read : (texts : List (Bor (List ℕ))) (networks : List Network) → AreSpelled 16 SpellsNetwork 0 texts networks → values_from network_at_place 0 texts ≡ Ok networks
networks_read texts networks a = values_read 16 SpellsNetwork network_at_place network_there 0 texts networks a

-- ---- the mode

octal_digits : (text : List ℕ) → list_all is_octal text ≡ true → AllDigits 8 text
octal_digits [] h = tt
octal_digits (c ∷ text) h = let (here, rest) = and_parts _ _ h in (ltb-true _ _ here, octal_digits text rest)

octal_passes : (text : List ℕ) → AllDigits 8 text → list_all is_octal text ≡ true
octal_passes [] h = refl
octal_passes (c ∷ text) h = and_from _ _ (lt-ltb _ _ h.0) (octal_passes text h.1)

pub mode_is : (text : List ℕ) (n : ℕ) → read_mode text ≡ Some n → SpellsMode n text
mode_is text n h =
    let (tests, value) = cond_some _ _ n h in
    let (numeral, small) = and_parts (not (eqb (length text) 0) && list_all is_octal text) (ltb (digits_value 8 text) 512) tests in
    let (some, digits) = and_parts (not (eqb (length text) 0)) (list_all is_octal text) numeral in
    let filled = eqb-false (length text) 0 (not-true _ some) in
    record { digits = (omega (arith, filled), octal_digits text digits); value = value; fits = subst (λ (m : ℕ). m < 512) value (ltb-true _ _ small) }

pub mode_of : (text : List ℕ) (n : ℕ) → SpellsMode n text → read_mode text ≡ Some n
mode_of text n m =
    let filled : 0 < length text = m.digits.0 in
    let some : not (eqb (length text) 0) ≡ true = rw (ne_eqb (length text) 0 (λ e. omega (arith, e, filled))) refl in
    let small = lt-ltb (digits_value 8 text) 512 (subst (λ (m : ℕ). m < 512) (sym m.value) m.fits) in
    let tests = and_from _ _ (and_from _ _ some (octal_passes text m.digits.1)) small in
    ap (λ (b : Bool). cond b (Some (digits_value 8 text)) None) tests ∙ ap Some m.value

-- ---- numbers between two others

pub between_is : (least most n : ℕ) (text : List ℕ) → if_between least most (number_below (2 ^ 64) text) ≡ Some n → SpellsWithin least most n text
between_is least most n text h = by (number_below (2 ^ 64) text) refl h
  where
    by : (o : Option ℕ) → number_below (2 ^ 64) text ≡ o → if_between least most o ≡ Some n → SpellsWithin least most n text
    by None is h = absurd (none-some n h)
    by (Some m) is h =
        let (tests, same) = cond_some (leb least m && leb m most) m n h in
        let (low, high) = and_parts (leb least m) (leb m most) tests in
        let s = below_is (2 ^ 64) n text (lit< tt) (is ∙ ap Some same) in
        let above = leb-true _ _ low in
        let under = leb-true _ _ high in
        record { digits = s.digits; value = s.value; at_least = omega (arith, above, same); at_most = omega (arith, under, same) }

pub between_of : (least most n : ℕ) (text : List ℕ) → most < 2 ^ 64 → SpellsWithin least most n text → if_between least most (number_below (2 ^ 64) text) ≡ Some n
between_of least most n text fits s =
    let top = s.at_most in
    let read = words.decimal_of (2 ^ 64) text n s.digits s.value (omega (arith, top, fits)) in
    let tests : (leb least n && leb n most) ≡ true = and_from _ _ (le-leb _ _ s.at_least) (le-leb _ _ s.at_most) in
    ap (if_between least most) read ∙ ap (λ (b : Bool). cond b (Some n) None) tests

-- ---- rates

rate_number_of : (n : ℕ) (text : List ℕ) → SpellsWithin 1 1000 n text → value_of valueds.UdpRate (rate_number text) ≡ Ok n
rate_number_of n text s = ap (value_of valueds.UdpRate) (between_of 1 1000 n text (lit< tt) s)

rate_number_is : (n : ℕ) (text : List ℕ) → value_of valueds.UdpRate (rate_number text) ≡ Ok n → SpellsWithin 1 1000 n text
rate_number_is n text h = between_is 1 1000 n text (valued valueds.UdpRate (rate_number text) n h)

rate_is : (text : List ℕ) (rate : Rate) → rate_of text ≡ Ok rate → SpellsRate rate text
rate_is text rate h = by (cut 44 text) refl h
  where
    by : (o : Option (List ℕ × List ℕ)) → cut 44 text ≡ o → rate_of_parts o text ≡ Ok rate → SpellsRate rate text
    by None is h =
        let (most, read, made) = bound (value_of valueds.UdpRate (rate_number text)) _ rate h in
        subst (λ (r : Rate). SpellsRate r text) (same_Ok _ _ made) (OneNumber (rate_number_is most text read) refl)
    by (Some parts) is h =
        let (of_network, read1, rest) = bound (value_of valueds.UdpRate (rate_number parts.0)) _ rate h in
        let (of_host, read2, made) = bound (value_of valueds.UdpRate (rate_number parts.1)) _ rate rest in
        let whole = words.cut_is 44 text parts.0 parts.1 is ∙ sym (append_assoc parts.0 (codes ",") parts.1) in
        subst (λ (r : Rate). SpellsRate r text) (same_Ok _ _ made) (TwoNumbers parts.0 parts.1 whole (rate_number_is of_network parts.0 read1) (rate_number_is of_host parts.1 read2))

no_comma : (least most n : ℕ) (text : List ℕ) → SpellsWithin least most n text → IsWithout 44 text
no_comma least most n text s = words.numeral_without 44 text s.digits.1 (λ l h. omega arith)

rate_read : (text : List ℕ) (rate : Rate) → SpellsRate rate text → rate_of text ≡ Ok rate
rate_read text rate (OneNumber s same) =
    let made : ◌≡◌ {A = Result Rate Valued} (Ok (record { network = rate.network; host = rate.network })) (Ok rate) = ap (λ (n : ℕ). Ok (record { network = rate.network; host = n })) (sym same) in
    ap (λ (o : Option (List ℕ × List ℕ)). rate_of_parts o text) (not_cut 44 text (no_comma 1 1000 rate.network text s))
    ∙ followed (value_of valueds.UdpRate (rate_number text)) _ rate.network rate (rate_number_of rate.network text s) made
rate_read text rate (TwoNumbers first second text_is s1 s2) =
    let cut_there : cut 44 text ≡ Some (first, second) = ap (cut 44) (text_is ∙ append_assoc first (codes ",") second) ∙ words.cut_at 44 first second (no_comma 1 1000 rate.network first s1) in
    ap (λ (o : Option (List ℕ × List ℕ)). rate_of_parts o text) cut_there
    ∙ followed (value_of valueds.UdpRate (rate_number first)) _ rate.network rate (rate_number_of rate.network first s1)
    (followed (value_of valueds.UdpRate (rate_number second)) _ rate.host rate (rate_number_of rate.host second s2) refl)

pub udp_rate_is : (option : Option (Bor (List ℕ))) (rate : Option Rate) → udp_rate option ≡ Ok rate → MayHave SpellsRate rate option
udp_rate_is None rate h = subst (λ (r : Option Rate). MayHave SpellsRate r None) (same_Ok _ _ h) refl
udp_rate_is (Some text) rate h =
    let (found, read, made) = bound (rate_of text.now) _ rate h in
    subst (λ (r : Option Rate). MayHave SpellsRate r (Some text)) (same_Ok _ _ made) (rate_is text.now found read)

pub udp_rate_of : (option : Option (Bor (List ℕ))) (rate : Option Rate) → MayHave SpellsRate rate option → udp_rate option ≡ Ok rate
udp_rate_of option None h = ap udp_rate h
udp_rate_of None (Some rate) h = absurd h
udp_rate_of (Some text) (Some rate) h = followed (rate_of text.now) _ rate (Some rate) (rate_read text.now rate h) refl

-- ---- words

one_of : {A : Type 0} (P : A → Type 0) (b : Bool) (x y : A) (other : Option A) → (b ≡ true → P x) → (other ≡ Some y → P y) → cond b (Some x) other ≡ Some y → P y
one_of P true x y other here there is = subst P (same_Some x y is) (here refl)
one_of P false x y other here there is = there is

abbrev Serves : List ℕ → Forwarding → Type 0
Serves text whom = (text ≡ whom_text whom) × (whom ≢ Anywhere)

pub served_is : (text : List ℕ) (whom : Forwarding) → forward_for text ≡ Some whom → Serves text whom
served_is text whom =
    let at : (name : List ℕ) → bytes_eq text name ≡ true → text ≡ name = λ name e. (bytes_eq-Decides text name).0 e in
    one_of (Serves text) (bytes_eq text (codes "all")) ForAll whom _ (λ e. (at (codes "all") e, λ same. cc))
    (one_of (Serves text) (bytes_eq text (codes "local")) ForLocal whom _ (λ e. (at (codes "local") e, λ same. cc)) (λ is. absurd (none-some whom is)))

pub served_of : (text : List ℕ) (whom : Forwarding) → Serves text whom → forward_for text ≡ Some whom
served_of text Anywhere h = absurd (h.1 refl)
served_of text ForAll h = ap forward_for h.0
served_of text ForLocal h = ap forward_for h.0

log_named_is : (text : List ℕ) (log : Logged) → log_named text ≡ Some log → SpellsLog log text
log_named_is text log =
    let P : Logged → Type 0 = λ log. SpellsLog log text in
    let at : (name : List ℕ) → bytes_eq text name ≡ true → text ≡ name = λ name e. (bytes_eq-Decides text name).0 e in
    one_of P (bytes_eq text (codes "changes")) Changes log _ (at (codes "changes"))
    (one_of P (bytes_eq text (codes "all")) Everything log _ (at (codes "all")) (λ is. absurd (none-some log is)))

pub log_is : (option : Option (Bor (List ℕ))) (log : Logged) → log_of option ≡ Ok log → IsLog log option
log_is None log h = sym (same_Ok _ _ h)
log_is (Some text) log h = log_named_is text.now log (valued valueds.Log (log_named text.now) log h)

pub log_read : (option : Option (Bor (List ℕ))) (log : Logged) → IsLog log option → log_of option ≡ Ok log
log_read None log h = ap Ok (sym h)
log_read (Some text) Nothing h = absurd h
log_read (Some text) Changes h = ap (λ (t : List ℕ). value_of valueds.Log (log_named t)) h
log_read (Some text) Everything h = ap (λ (t : List ℕ). value_of valueds.Log (log_named t)) h
