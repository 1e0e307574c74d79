-- What the values of options spell, and what they are read as.
use Rattle.std.specs.Prelude.{codes, bytes_eq, reverse, option_map, All}
use Rattle.std.specs.List.{list_all}
use Rattle.std.specs.Option.{option_or}
use Rattle.std.specs.Borrow.{Bor}
use Rattle.std.specs.Net.Addr.{octets_of}
use Rattle.std.specs.Net.Grammar.{IsDotted, IsColonHex}
use Rattle.std.specs.Net.Reader.{read_ipv6, whole_value}
use Rattle.std.proofs.Common.{◌≡◌, ◌≢◌, ◌<◌, ◌≤◌, ◌-◌, ◌^◌, ◌&&◌, ℕ, Bool, true, false, not, cond, eqb, leb, List, [], ◌∷◌, ◌++◌, length, take, drop, Option, Some, None, Result, Ok, Err, refl, sym, ap, subst, ◌∙◌, arith, inl, inr, append_assoc, append-nil}
use Rattle.std.proofs.NetLemmas.Ipv6.{read_ipv6_complete, read_ipv6_sound, EndsGroups-nil, IsDotted-not_colon_hex}
use Rattle.std.proofs.lemmas.Bool.{cases_Bool, and_parts, and_from, not-true, eqb-false, ne_eqb, leb-true, le-leb}
use Rattle.std.proofs.lemmas.List.{take-append-drop}
use Rattle.std.proofs.lemmas.List.Elements.{All-nil, All-cons, All-head, All-tail}
use Rattle.std.proofs.lemmas.Option.{none-some, same_Some, cond_some}
use Rattle.std.proofs.lemmas.Slice.Eq.{bytes_eq-Decides}
use Rattle.rb_uaddr.specs.Uaddr.{ipv6_host}
use Rattle.rb_uaddr.proofs.Ipv6Laws.{whole_read}
use Rattle.rb_address.specs.declared.host.Host.{Host}
use Rattle.rb_address.specs.declared.host.Host.TheVariants.{V4, V6}
use Rattle.rb_address.specs.Hosts.{mapped_front, is_mapped, plain_host, is_same_host}
use Rattle.rb_address.specs.Networks.{host_of, plain_host_of}
use Rattle.rb_address.specs.Reading.{number_below, ipv4_host}
use Rattle.rb_address.proofs.Words as words
use Rattle.rb_answers.specs.declared.listener.Announced.{Announced}
use Rattle.rb_answers.specs.declared.listener.Forwarding.{Forwarding}
use Rattle.rb_answers.specs.declared.listener.Forwarding.TheVariants.{Anywhere, ForAll, ForLocal}
use Rattle.rb_words.specs.Services.{borrowed_texts}
use Rattle.rb_lines.specs.Paths.{is_quotable, is_path}
use Rattle.rb_commands.specs.declared.options.Valued.{Valued}
use Rattle.rb_commands.specs.declared.options.Valued.TheVariants.{Announce, Local}
use Rattle.rb_commands.specs.Options.{◌>>=◌, value_of, unannounced, with_host, announce_at, announced_of, read_local, local_address, unless_zero, port, udp_lists, forwarding_of}
use Rattle.rb_promises.specs.WordForms.{SpellsWithin, SpellsPort, MayHave}
use Rattle.rb_promises.specs.OptionTexts.{SpellsInet6, SpellsHost, SpellEach, hosts_of_families, Announces, IsSocketPath, SpellsPath, lists_text, whom_text}

-- ---- one value after another

pub bound : {A B : Type 0} (r : Result A Valued) (f : A → Result B Valued) (y : B) → (r >>= f) ≡ Ok y → (x : A) × (r ≡ Ok x) × (f x ≡ Ok y)
bound (Ok x) f y h = (x, refl, h)
bound (Err option) f y h = absurd cc

pub followed : {A B : Type 0} (r : Result A Valued) (f : A → Result B Valued) (x : A) (y : B) → r ≡ Ok x → f x ≡ Ok y → (r >>= f) ≡ Ok y
followed r f x y e h = ap (λ (r : Result _ Valued). r >>= f) e ∙ h

pub same_Ok : {A : Type 0} (x y : A) → ◌≡◌ {A = Result A Valued} (Ok x) (Ok y) → x ≡ y
same_Ok x y h = cc

pub valued : {A : Type 0} (option : Valued) (o : Option A) (x : A) → value_of option o ≡ Ok x → o ≡ Some x
valued option (Some y) x h = ap Some (same_Ok y x h)
valued option None x h = absurd cc

-- ---- numbers

pub below_is : (limit n : ℕ) (text : List ℕ) → 0 < limit → number_below limit text ≡ Some n → SpellsWithin 0 (limit - 1) n text
below_is limit n text some h =
    let (numeral, value, fits) = words.decimal_is limit text n h in
    record { digits = numeral; value = value; at_least = omega arith; at_most = omega (arith, fits, some) }

pub below_of : (limit n : ℕ) (text : List ℕ) → 0 < limit → SpellsWithin 0 (limit - 1) n text → number_below limit text ≡ Some n
below_of limit n text some s =
    let most = s.at_most in
    words.decimal_of limit text n s.digits s.value (omega (arith, most, some))

pub port_is : (text : List ℕ) (n : ℕ) → port text ≡ Some n → SpellsPort n text
port_is text n h = by_number (number_below (2 ^ 16) text) refl h
  where
    by_test : (m : ℕ) → number_below (2 ^ 16) text ≡ Some m → (b : Bool) → eqb m 0 ≡ b → cond b None (Some m) ≡ Some n → SpellsPort n text
    by_test m is true zero_is h = absurd (none-some n h)
    by_test m is false other h =
        let same : m ≡ n = same_Some m n h in
        let s = below_is (2 ^ 16) n text (omega arith) (is ∙ ap Some same) in
        let some : m ≡ 0 → ⊥ = eqb-false m 0 other in
        record { digits = s.digits; value = s.value; at_least = omega (arith, some, same); at_most = s.at_most }

    by_number : (o : Option ℕ) → number_below (2 ^ 16) text ≡ o → unless_zero o ≡ Some n → SpellsPort n text
    by_number None is h = absurd (none-some n h)
    by_number (Some m) is h = by_test m is (eqb m 0) refl h

pub port_of : (text : List ℕ) (n : ℕ) → SpellsPort n text → port text ≡ Some n
port_of text n s =
    let read = below_of (2 ^ 16) n text (omega arith) (record { digits = s.digits; value = s.value; at_least = omega arith; at_most = s.at_most }) in
    let least = s.at_least in
    let some : eqb n 0 ≡ false = ne_eqb n 0 (λ e. omega (arith, e, least)) in
    ap unless_zero read ∙ ap (λ (b : Bool). cond b None (Some n)) some

-- ---- hosts

mapped_is : (octets inet : List ℕ) → is_mapped octets ≡ false → octets ≡ mapped_front ++ inet → ⊥
unfolding is_mapped
mapped_is octets inet h e =
    let is : is_mapped (mapped_front ++ inet) ≡ true = refl in
    let same : is_mapped octets ≡ is_mapped (mapped_front ++ inet) = ap is_mapped e in
    absurd cc

mapped_of : (octets : List ℕ) → ((inet : List ℕ) → octets ≢ mapped_front ++ inet) → is_mapped octets ≡ false
unfolding is_mapped
mapped_of octets h = elim (cases_Bool (is_mapped octets)) [
  | inl is ↦
      let front : take 12 octets ≡ mapped_front = (bytes_eq-Decides (take 12 octets) mapped_front).0 is in
      absurd (h (drop 12 octets) (sym (take-append-drop 12 octets) ∙ ap (λ (xs : List ℕ). xs ++ drop 12 octets) front))
  | inr other ↦ other
]

pub undotted : (a b c d : List ℕ) → a ++ 46 ∷ (b ++ 46 ∷ (c ++ 46 ∷ d)) ≡ a ++ codes "." ++ b ++ codes "." ++ c ++ codes "." ++ d
undotted a b c d = simp append_assoc

dotted_is : (text octets : List ℕ) → ipv4_host text ≡ Some octets → IsDotted text octets
dotted_is text octets h =
    let is = words.host_is text octets h in
    record {
      a = is.a;
      b = is.b;
      c = is.c;
      d = is.d;
      fit = (is.a_fits, is.b_fits, is.c_fits, is.d_fits);
      value = sym is.host_is;
      spelled = is.text_is ∙ undotted _ _ _ _;
    }

dotted_of : (text octets : List ℕ) → IsDotted text octets → ipv4_host text ≡ Some octets
dotted_of text octets is =
    let (a_fits, b_fits, c_fits, d_fits) = is.fit in
    ap ipv4_host (is.spelled ∙ sym (undotted _ _ _ _)) ∙ words.host_of is.a is.b is.c is.d a_fits b_fits c_fits d_fits ∙ ap Some (sym is.value)

inet6_is : (text octets : List ℕ) → ipv6_host text ≡ Some octets → is_mapped octets ≡ false → SpellsInet6 octets text
unfolding ipv6_host
inet6_is text octets h unmapped = at (whole_value (read_ipv6 text)) refl h
  where
    at : (o : Option (List ℕ)) → whole_value (read_ipv6 text) ≡ o → option_map octets_of o ≡ Some octets → SpellsInet6 octets text
    at None read is = absurd (none-some octets is)
    at (Some segments) read is =
        let (front, text_is, colon_hex) = read_ipv6_sound text segments [] (whole_read (read_ipv6 text) segments read) in
        record {
          segments = segments;
          spelled = subst (λ t. IsColonHex t segments) (sym (text_is ∙ append-nil front)) colon_hex;
          octets_are = sym (same_Some _ octets is);
          is_no_inet = λ inet. mapped_is octets inet unmapped;
        }

inet6_of : (text octets : List ℕ) → SpellsInet6 octets text → ipv6_host text ≡ Some octets
unfolding ipv6_host
inet6_of text octets s =
    let read : read_ipv6 text ≡ Some (s.segments, []) = ap read_ipv6 (sym (append-nil text)) ∙ read_ipv6_complete text s.segments [] s.spelled EndsGroups-nil in
    rw read (ap Some (sym s.octets_are))

no_inet : (text octets : List ℕ) → SpellsInet6 octets text → ipv4_host text ≡ None
no_inet text octets s = at (ipv4_host text) refl
  where
    at : (o : Option (List ℕ)) → ipv4_host text ≡ o → o ≡ None
    at None is = refl
    at (Some inet) is = absurd (IsDotted-not_colon_hex text inet s.segments (dotted_is text inet is) s.spelled)

plain_is : (octets : List ℕ) → is_same_host (plain_host (V6 octets)) (V6 octets) ≡ true → is_mapped octets ≡ false
unfolding plain_host
plain_is octets h = at (is_mapped octets) refl h
  where
    at : (b : Bool) → is_mapped octets ≡ b → is_same_host (cond b (V4 (drop 12 octets)) (V6 octets)) (V6 octets) ≡ true → is_mapped octets ≡ false
    at true is h = absurd cc
    at false is h = is

plain_of : (octets : List ℕ) → is_mapped octets ≡ false → is_same_host (plain_host (V6 octets)) (V6 octets) ≡ true
unfolding plain_host
plain_of octets h = rw h ((bytes_eq-Decides octets octets).1 refl)

plain_inet : (octets : List ℕ) → is_same_host (plain_host (V4 octets)) (V4 octets) ≡ true
unfolding plain_host
plain_inet octets = (bytes_eq-Decides octets octets).1 refl

pub host_is : (text : List ℕ) (host : Host) → plain_host_of text ≡ Some host → SpellsHost host text
unfolding plain_host_of
host_is text host h =
    let (found, is, rest) = words.bound (host_of text) _ host h in
    let (plain, same) = cond_some (is_same_host (plain_host found) found) found host rest in
    subst (λ (h : Host). SpellsHost h text) same (by_family (ipv4_host text) (ipv6_host text) refl refl found is plain)
  where
    by_family : (a b : Option (List ℕ)) → ipv4_host text ≡ a → ipv6_host text ≡ b → (found : Host) → option_or (option_map V4 a) (option_map V6 b) ≡ Some found → is_same_host (plain_host found) found ≡ true → SpellsHost found text
    by_family (Some octets) b is4 is6 found is plain = subst (λ (h : Host). SpellsHost h text) (same_Some _ _ is) (dotted_is text octets is4)
    by_family None (Some octets) is4 is6 found is plain =
        let same : V6 octets ≡ found = same_Some _ _ is in
        let plain' = subst (λ (h : Host). is_same_host (plain_host h) h ≡ true) (sym same) plain in
        subst (λ (h : Host). SpellsHost h text) same (inet6_is text octets is6 (plain_is octets plain'))
    by_family None None is4 is6 found is plain = absurd (none-some found is)

pub host_read : (text : List ℕ) (host : Host) → SpellsHost host text → plain_host_of text ≡ Some host
unfolding plain_host_of
host_read text (V4 octets) s = rw (dotted_of text octets s, plain_inet octets) refl
host_read text (V6 octets) s = rw (no_inet text octets s, inet6_of text octets s, plain_of octets (mapped_of octets s.is_no_inet)) refl

-- ---- announced hosts

added_is : (place : ℕ) (announced next : Announced) (text : List ℕ) → announce_at place announced text ≡ Ok next → (host : Host) × SpellsHost host text × (with_host announced host ≡ Some next)
added_is place announced next text h =
    let (host, read, rest) = bound (value_of (Announce place) (plain_host_of text)) _ next h in
    (host, host_is text host (valued (Announce place) (plain_host_of text) host read), valued (Announce place) (with_host announced host) next rest)

added_of : (place : ℕ) (announced next : Announced) (text : List ℕ) (host : Host) → SpellsHost host text → with_host announced host ≡ Some next → announce_at place announced text ≡ Ok next
added_of place announced next text host s e =
    followed (value_of (Announce place) (plain_host_of text)) _ host next (ap (value_of (Announce place)) (host_read text host s)) (ap (value_of (Announce place)) e)

pub announced_is : (texts : List (Bor (List ℕ))) (announced : Announced) → announced_of texts ≡ Ok announced → Announces announced (borrowed_texts texts)
announced_is [] announced h = subst (λ (a : Announced). Announces a []) (same_Ok _ _ h) (inl tt)
announced_is (text ∷ []) announced h =
    let (host, s, e) = added_is 0 unannounced announced text.now h in
    by_host host s e
  where
    by_host : (host : Host) → SpellsHost host text.now → with_host unannounced host ≡ Some announced → Announces announced (text.now ∷ [])
    by_host (V4 octets) s e = subst (λ (a : Announced). Announces a (text.now ∷ [])) (same_Some _ _ e) (inl (s, tt))
    by_host (V6 octets) s e = subst (λ (a : Announced). Announces a (text.now ∷ [])) (same_Some _ _ e) (inl (s, tt))
announced_is (first ∷ second ∷ []) announced h =
    let (one, read, rest) = bound (announce_at 0 unannounced first.now) _ announced h in
    let (host1, s1, e1) = added_is 0 unannounced one first.now read in
    let (host2, s2, e2) = added_is 1 one announced second.now rest in
    by_hosts host1 host2 one s1 s2 e1 e2
  where
    from : (a b : Announced) → Some a ≡ Some b → (o : Announced → Option Announced) → o b ≡ Some announced → o a ≡ Some announced
    from a b e o h = ap o (same_Some a b e) ∙ h

    by_hosts : (host1 host2 : Host) (one : Announced) → SpellsHost host1 first.now → SpellsHost host2 second.now → with_host unannounced host1 ≡ Some one → with_host one host2 ≡ Some announced → Announces announced (first.now ∷ second.now ∷ [])
    by_hosts (V4 a) (V4 b) one s1 s2 e1 e2 = absurd (none-some announced (from _ one e1 (λ (o : Announced). with_host o (V4 b)) e2))
    by_hosts (V6 a) (V6 b) one s1 s2 e1 e2 = absurd (none-some announced (from _ one e1 (λ (o : Announced). with_host o (V6 b)) e2))
    by_hosts (V4 a) (V6 b) one s1 s2 e1 e2 =
        subst (λ (a : Announced). Announces a (first.now ∷ second.now ∷ [])) (same_Some _ _ (from _ one e1 (λ (o : Announced). with_host o (V6 b)) e2)) (inl (s1, (s2, tt)))
    by_hosts (V6 a) (V4 b) one s1 s2 e1 e2 =
        subst (λ (a : Announced). Announces a (first.now ∷ second.now ∷ [])) (same_Some _ _ (from _ one e1 (λ (o : Announced). with_host o (V4 b)) e2)) (inr (s1, (s2, tt)))
announced_is (first ∷ second ∷ third ∷ more) announced h =
    let (one, read1, rest1) = bound (announce_at 0 unannounced first.now) _ announced h in
    let (both, read2, rest2) = bound (announce_at 1 one second.now) _ announced rest1 in
    absurd cc

in_order : (texts : List (Bor (List ℕ))) (inet inet6 : Option (List ℕ)) → SpellEach SpellsHost (hosts_of_families inet inet6) (borrowed_texts texts) → announced_of texts ≡ Ok (record { inet = inet; inet6 = inet6 })
in_order [] None None h = refl
in_order [] (Some a) None h = absurd h
in_order [] None (Some b) h = absurd h
in_order [] (Some a) (Some b) h = absurd h
in_order (text ∷ []) None None h = absurd h
in_order (text ∷ []) (Some a) None h = added_of 0 unannounced _ text.now (V4 a) h.0 refl
in_order (text ∷ []) None (Some b) h = added_of 0 unannounced _ text.now (V6 b) h.0 refl
in_order (text ∷ []) (Some a) (Some b) h = absurd h.1
in_order (first ∷ second ∷ []) None None h = absurd h
in_order (first ∷ second ∷ []) (Some a) None h = absurd h.1
in_order (first ∷ second ∷ []) None (Some b) h = absurd h.1
in_order (first ∷ second ∷ []) (Some a) (Some b) h =
    let one : Announced = record { inet = Some a; inet6 = None } in
    followed (announce_at 0 unannounced first.now) _ one _ (added_of 0 unannounced one first.now (V4 a) h.0 refl) (added_of 1 one _ second.now (V6 b) h.1.0 refl)
in_order (first ∷ second ∷ third ∷ more) None None h = absurd h
in_order (first ∷ second ∷ third ∷ more) (Some a) None h = absurd h.1
in_order (first ∷ second ∷ third ∷ more) None (Some b) h = absurd h.1
in_order (first ∷ second ∷ third ∷ more) (Some a) (Some b) h = absurd h.1.1

in_reverse : (texts : List (Bor (List ℕ))) (inet inet6 : Option (List ℕ)) → SpellEach SpellsHost (reverse (hosts_of_families inet inet6)) (borrowed_texts texts) → announced_of texts ≡ Ok (record { inet = inet; inet6 = inet6 })
in_reverse texts None None h = in_order texts None None h
in_reverse texts (Some a) None h = in_order texts (Some a) None h
in_reverse texts None (Some b) h = in_order texts None (Some b) h
in_reverse [] (Some a) (Some b) h = absurd h
in_reverse (text ∷ []) (Some a) (Some b) h = absurd h.1
in_reverse (first ∷ second ∷ []) (Some a) (Some b) h =
    let one : Announced = record { inet = None; inet6 = Some b } in
    followed (announce_at 0 unannounced first.now) _ one _ (added_of 0 unannounced one first.now (V6 b) h.0 refl) (added_of 1 one _ second.now (V4 a) h.1.0 refl)
in_reverse (first ∷ second ∷ third ∷ more) (Some a) (Some b) h = absurd h.1.1

pub announced_read : (texts : List (Bor (List ℕ))) (announced : Announced) → Announces announced (borrowed_texts texts) → announced_of texts ≡ Ok announced
announced_read texts announced (inl h) = in_order texts announced.inet announced.inet6 h
announced_read texts announced (inr h) = in_reverse texts announced.inet announced.inet6 h

-- ---- the local socket

abbrev Printed : ℕ → Type 0
Printed byte = 32 ≤ byte

abbrev Unquoted : ℕ → Type 0
Unquoted byte = byte ≢ 39

quotable_is : (text : List ℕ) → list_all is_quotable text ≡ true → All Printed text × All Unquoted text
quotable_is [] h = (All-nil Printed, All-nil Unquoted)
quotable_is (byte ∷ text) h =
    let (here, rest) = and_parts (is_quotable byte) (list_all is_quotable text) h in
    let (low, other) = and_parts (leb 32 byte) (not (eqb byte 39)) here in
    let (printed, unquoted) = quotable_is text rest in
    (All-cons Printed byte text (leb-true _ _ low) printed, All-cons Unquoted byte text (eqb-false byte 39 (not-true _ other)) unquoted)

quotable_of : (text : List ℕ) → All Printed text → All Unquoted text → list_all is_quotable text ≡ true
quotable_of [] printed unquoted = refl
quotable_of (byte ∷ text) printed unquoted =
    let low = le-leb 32 byte (All-head Printed byte text printed) in
    let other : not (eqb byte 39) ≡ true = rw (ne_eqb byte 39 (All-head Unquoted byte text unquoted)) refl in
    and_from _ _ (and_from _ _ low other) (quotable_of text (All-tail Printed byte text printed) (All-tail Unquoted byte text unquoted))

pub path_is : (text : List ℕ) → is_path text ≡ true → IsSocketPath text
path_is text h =
    let (sized, all) = and_parts (not (eqb (length text) 0) && leb (length text) 107) (list_all is_quotable text) h in
    let (some, few) = and_parts (not (eqb (length text) 0)) (leb (length text) 107) sized in
    let (printed, unquoted) = quotable_is text all in
    let filled = eqb-false (length text) 0 (not-true _ some) in
    record { some = omega (arith, filled); few = leb-true _ _ few; no_control = printed; no_quote = unquoted }

pub path_of : (text : List ℕ) → IsSocketPath text → is_path text ≡ true
path_of text p =
    let filled = p.some in
    let some : not (eqb (length text) 0) ≡ true = rw (ne_eqb (length text) 0 (λ e. omega (arith, e, filled))) refl in
    and_from _ _ (and_from _ _ some (le-leb _ _ p.few)) (quotable_of text p.no_control p.no_quote)

pub local_is : (option : Option (Bor (List ℕ))) (path : Option (List ℕ)) → local_address option ≡ Ok path → MayHave SpellsPath path option
local_is None path h = subst (λ (p : Option (List ℕ)). MayHave SpellsPath p None) (same_Ok _ _ h) refl
local_is (Some text) path h =
    let (read, is, made) = bound (read_local (Some text)) _ path h in
    by_test (is_path text.now) refl read is made
  where
    by_test : (b : Bool) → is_path text.now ≡ b → (read : Option (Bor (List ℕ))) → cond b (Ok (Some text)) (Err Local) ≡ Ok read → ◌≡◌ {A = Result (Option (List ℕ)) Valued} (Ok (option_map (λ p. p.now) read)) (Ok path) → MayHave SpellsPath path (Some text)
    by_test true passes read is made =
        let same : Some text.now ≡ path = ap (option_map (λ p. p.now)) (same_Ok _ _ is) ∙ same_Ok _ _ made in
        subst (λ (p : Option (List ℕ)). MayHave SpellsPath p (Some text)) same (refl, path_is text.now passes)
    by_test false passes read is made = absurd cc

pub local_of : (option : Option (Bor (List ℕ))) (path : Option (List ℕ)) → MayHave SpellsPath path option → local_address option ≡ Ok path
local_of option None h = ap local_address h
local_of None (Some path) h = absurd h
local_of (Some text) (Some path) h =
    let passes : is_path text.now ≡ true = ap is_path h.0 ∙ path_of path h.1 in
    rw passes (ap (λ (p : List ℕ). Ok (Some p)) h.0)

-- ---- the terms

-- the value of the first test that holds
one_of : {A : Type 0} (P : A → Type 0) (b : Bool) (x y : A) (other : Option A) → (b ≡ true → P x) → (other ≡ Some y → P y) → cond b (Some x) other ≡ Some y → P y
one_of P true x y other here there is = subst P (same_Some x y is) (here refl)
one_of P false x y other here there is = there is

pub lists_is : (text : List ℕ) (long : Bool) → udp_lists text ≡ Some long → text ≡ lists_text long
lists_is text long =
    let P : Bool → Type 0 = λ long. text ≡ lists_text long in
    let at : (name : List ℕ) → bytes_eq text name ≡ true → text ≡ name = λ name e. (bytes_eq-Decides text name).0 e in
    one_of P (bytes_eq text (codes "all")) true long _ (at (codes "all"))
    (one_of P (bytes_eq text (codes "local")) false long _ (at (codes "local")) (λ is. absurd (none-some long is)))

pub lists_of : (text : List ℕ) (long : Bool) → text ≡ lists_text long → udp_lists text ≡ Some long
lists_of text true h = ap udp_lists h
lists_of text false h = ap udp_lists h

pub whom_is : (text : List ℕ) (whom : Forwarding) → forwarding_of text ≡ Some whom → text ≡ whom_text whom
whom_is text whom =
    let P : Forwarding → Type 0 = λ whom. text ≡ whom_text whom in
    let at : (name : List ℕ) → bytes_eq text name ≡ true → text ≡ name = λ name e. (bytes_eq-Decides text name).0 e in
    one_of P (bytes_eq text (codes "any")) Anywhere whom _ (at (codes "any"))
    (one_of P (bytes_eq text (codes "all")) ForAll whom _ (at (codes "all"))
    (one_of P (bytes_eq text (codes "local")) ForLocal whom _ (at (codes "local")) (λ is. absurd (none-some whom is))))

pub whom_of : (text : List ℕ) (whom : Forwarding) → text ≡ whom_text whom → forwarding_of text ≡ Some whom
whom_of text Anywhere h = ap forwarding_of h
whom_of text ForAll h = ap forwarding_of h
whom_of text ForLocal h = ap forwarding_of h
