-- The parts of a caller's text, and what they are read as.
use Rattle.std.specs.Prelude.{decimal as decimal_text, bytes_eq, codes, All}
use Rattle.std.specs.Net.Text.{ipv4_text}
use Rattle.std.specs.Option.{option_map, option_or}
use Rattle.std.proofs.Common.{◌≡◌, ◌<◌, ◌≤◌, ◌^◌, ℕ, Bool, true, false, cond, eqb, List, [], ◌∷◌, ◌++◌, length, slice_index, Option, Some, None, refl, sym, ap, subst, ◌∙◌, arith, inl, inr, append_assoc, append-nil}
use Rattle.std.proofs.lemmas.Bool.{eqb-false, ne_eqb}
use Rattle.std.proofs.lemmas.List.Elements.{All-nil, All-cons, All-head, All-tail, All-append}
use Rattle.std.proofs.lemmas.Option.{none-some, same_Some}
use Rattle.std.proofs.lemmas.Slice.Eq.{bytes_eq-Decides}
use Rattle.rb_uaddr.specs.Uaddr.{IsBytes, ipv6_host_text}
use Rattle.rb_uaddr.proofs.Octets.{none_unless}
use Rattle.rb_address.specs.declared.host.Host.{Host}
use Rattle.rb_address.specs.declared.host.Host.TheVariants.{V4, V6}
use Rattle.rb_address.specs.declared.peer.Peer.{Peer}
use Rattle.rb_address.specs.declared.who.Owner.{Owner}
use Rattle.rb_address.specs.declared.who.Owner.TheVariants.{Unknown, Uid}
use Rattle.rb_address.specs.declared.who.Source.{Source}
use Rattle.rb_address.specs.declared.who.Source.TheVariants.{Inet, Local}
use Rattle.rb_address.specs.declared.who.Trust.{Trust}
use Rattle.rb_address.specs.declared.who.Trust.TheVariants as trusts
use Rattle.rb_address.specs.declared.who.Who.{Who}
use Rattle.rb_address.specs.Hosts.{is_same_host, IsHost}
use Rattle.rb_address.specs.Peers.{IsPeer, bare_host_text, host_text, peer_text}
use Rattle.rb_address.specs.Callers.{unknown_host, IsSource, IsOwner, IsTrust, IsWho, source_text, asked_text, owner_text, trust_text, who_text}
use Rattle.rb_address.specs.Reading.{cut, number_below, plain_number, ipv4_host, printed_ipv6, ipv4_peer, ipv6_peer, peer}
use Rattle.rb_address.specs.CallerTexts.{source, printed_host, asked, trust, claimant_of_parts, claimant, who_of_parts, who, SpellsWho, CallersAreSpelled}
use Rattle.rb_address.proofs.HostLaws.{same_host_is}
use Rattle.rb_address.proofs.HostTexts.{IsOther, IsWithout, host_without}
use Rattle.rb_address.proofs.Words.{bound, cut_at, cut_is, plain_is, plain_of, decimal_without, IsDotted, host_is, host_of, four_small, printed_is, printed_of, peer_is, peer_of}

-- ---- bytes that stand in no host, no peer and not in `local`

pub record IsOutside (at : ℕ) : Type 0 where
  pub other : IsOther at
  pub no_dot : 46 ≡ at → ⊥
  pub no_open : 91 ≡ at → ⊥
  pub no_close : 93 ≡ at → ⊥

slash_outside : IsOutside 47
slash_outside = record { other = inl (omega arith); no_dot = λ e. omega (arith, e); no_open = λ e. omega (arith, e); no_close = λ e. omega (arith, e) }

greater_outside : IsOutside 62
greater_outside = record { other = inr (omega arith, omega arith); no_dot = λ e. omega (arith, e); no_open = λ e. omega (arith, e); no_close = λ e. omega (arith, e) }

pub low_outside : (at : ℕ) → at < 46 → IsOutside at
low_outside at low = record { other = inl (omega (arith, low)); no_dot = λ e. omega (arith, low, e); no_open = λ e. omega (arith, low, e); no_close = λ e. omega (arith, low, e) }

module _ (at : ℕ) (out : IsOutside at) where
  byte_without : (c : ℕ) → (c ≡ at → ⊥) → IsWithout at (c ∷ [])
  byte_without c other = All-cons (λ b. eqb b at ≡ false) c [] (ne_eqb c at other) (All-nil (λ b. eqb b at ≡ false))

  joined : (xs ys : List ℕ) → IsWithout at xs → IsWithout at ys → IsWithout at (xs ++ ys)
  joined xs ys a b = All-append (λ b. eqb b at ≡ false) xs ys a b

  colon_without : IsWithout at (codes ":")
  colon_without = byte_without 58 (λ e. grind (arith, out.other, e))

  number_without : (n : ℕ) → n < 2 ^ 64 → IsWithout at (decimal_text n)
  number_without n fits = decimal_without at n fits (λ l h. grind (arith, out.other, l, h))

  octet_without : (octets : List ℕ) (i : ℕ) → IsBytes 4 octets → i < 4 → IsWithout at (decimal_text (slice_index octets i))
  octet_without octets i is lt = number_without (slice_index octets i) (omega (arith, is.small i 0 (omega (arith, is.count, lt))))

  dots_without : (octets : List ℕ) → IsBytes 4 octets → IsWithout at (ipv4_text octets)
  dots_without octets is =
      let dot = byte_without 46 out.no_dot in
      let one = joined _ (codes ".") (octet_without octets 0 is (omega arith)) dot in
      let two = joined _ (codes ".") (joined _ _ one (octet_without octets 1 is (omega arith))) dot in
      let three = joined _ (codes ".") (joined _ _ two (octet_without octets 2 is (omega arith))) dot in
      joined _ _ three (octet_without octets 3 is (omega arith))

  host_text_without : (h : Host) → IsHost h → IsWithout at (host_text h)
  host_text_without (V4 octets) is = dots_without octets is
  host_text_without (V6 octets) is =
      let front = joined (codes "[") _ (byte_without 91 out.no_open) (host_without at out.other octets) in
      joined (codes "[" ++ ipv6_host_text octets) (codes "]") front (byte_without 93 out.no_close)

  pub bare_without : (h : Host) → IsHost h → IsWithout at (bare_host_text h)
  bare_without (V4 octets) is = dots_without octets is
  bare_without (V6 octets) is = host_without at out.other octets

  pub peer_text_without : (p : Peer) → IsPeer p → IsWithout at (peer_text p)
  peer_text_without p is =
      let front = joined (host_text p.host) (codes ":") (host_text_without p.host is.0) colon_without in
      joined _ (decimal_text p.port) front (number_without p.port (omega (arith, is.1)))

  -- a small letter
  letter_without : (c : ℕ) (text : List ℕ) → 96 < c → IsWithout at text → IsWithout at (c ∷ text)
  letter_without c text small rest = All-cons (λ b. eqb b at ≡ false) c text (ne_eqb c at (λ e. grind (arith, out.other, small, e))) rest

  nothing : IsWithout at []
  nothing = All-nil (λ b. eqb b at ≡ false)

  local_without : IsWithout at (codes "local")
  local_without =
      letter_without 108 (codes "ocal") (omega arith) (letter_without 111 (codes "cal") (omega arith) (letter_without 99 (codes "al") (omega arith)
      (letter_without 97 (codes "l") (omega arith) (letter_without 108 [] (omega arith) nothing))))

  pub source_without : (s : Source) → IsSource s → IsWithout at (source_text s)
  source_without (Inet p) is = peer_text_without p is
  source_without Local is = local_without

  -- the host that was asked stands after `>`
  asked_without : (h : Host) → IsHost h → (62 ≡ at → ⊥) → IsWithout at (asked_text h)
  asked_without h is other = by_known (is_same_host h unknown_host)
    where
      by_known : (b : Bool) → IsWithout at (cond b [] (codes ">" ++ bare_host_text h))
      by_known true = nothing
      by_known false = joined (codes ">") (bare_host_text h) (byte_without 62 other) (bare_without h is)

  -- a source, and the host that was asked
  front_without : (s : Source) (h : Host) → IsSource s → IsHost h → (62 ≡ at → ⊥) → IsWithout at (source_text s ++ asked_text h)
  front_without s h is is_host other = joined (source_text s) (asked_text h) (source_without s is) (asked_without h is_host other)

  unknown_without : IsWithout at (codes "unknown")
  unknown_without =
      letter_without 117 (codes "nknown") (omega arith) (letter_without 110 (codes "known") (omega arith) (letter_without 107 (codes "nown") (omega arith) (letter_without 110 (codes "own") (omega arith)
      (letter_without 111 (codes "wn") (omega arith) (letter_without 119 (codes "n") (omega arith) (letter_without 110 [] (omega arith) nothing))))))

  stranger_without : IsWithout at (codes "stranger")
  stranger_without =
      letter_without 115 (codes "tranger") (omega arith) (letter_without 116 (codes "ranger") (omega arith) (letter_without 114 (codes "anger") (omega arith) (letter_without 97 (codes "nger") (omega arith)
      (letter_without 110 (codes "ger") (omega arith) (letter_without 103 (codes "er") (omega arith) (letter_without 101 (codes "r") (omega arith) (letter_without 114 [] (omega arith) nothing)))))))

  owner_without : (o : Owner) → IsOwner o → IsWithout at (owner_text o)
  owner_without Unknown is = unknown_without
  owner_without (Uid uid) is = number_without uid (omega (arith, is))

  trust_without : (t : Trust) → IsTrust t → (47 ≡ at → ⊥) → IsWithout at (trust_text t)
  trust_without trusts.Claims is other = nothing
  trust_without (trusts.Local owner) is other = joined (codes "/") (owner_text owner) (byte_without 47 other) (owner_without owner is)
  trust_without trusts.Stranger is other = joined (codes "/") (codes "stranger") (byte_without 47 other) stranger_without

-- a space and a line feed stand in no peer and no caller
pub peer_without : (at : ℕ) → at < 46 → (p : Peer) → IsPeer p → IsWithout at (peer_text p)
peer_without at low p is = peer_text_without at (low_outside at low) p is

pub who_without : (at : ℕ) → at < 46 → (w : Who) → IsWho w → IsWithout at (who_text w)
who_without at low w is =
    let out = low_outside at low in
    joined at out _ _ (front_without at out w.source w.asked is.0 is.1 (λ e. omega (arith, low, e))) (trust_without at out w.trust is.2 (λ e. omega (arith, low, e)))

-- ---- a text without such a byte is not cut

no_such : (at : ℕ) (front back : List ℕ) → IsWithout at (front ++ at ∷ back) → ⊥
no_such at [] back none = eqb-false _ _ (All-head (λ b. eqb b at ≡ false) at back none) refl
no_such at (b ∷ front) back none = no_such at front back (All-tail (λ b. eqb b at ≡ false) b (front ++ at ∷ back) none)

not_cut : (at : ℕ) (text : List ℕ) → IsWithout at text → cut at text ≡ None
not_cut at text none = sym (none_unless (cut at text) (λ parts h. no_such at parts.0 parts.1 (subst (IsWithout at) (cut_is at text parts.0 parts.1 h) none)))

-- ---- hosts

undotted : (a b c d : List ℕ) → a ++ 46 ∷ (b ++ 46 ∷ (c ++ 46 ∷ d)) ≡ a ++ codes "." ++ b ++ codes "." ++ c ++ codes "." ++ d
undotted a b c d = simp append_assoc

ipv4_is : (text octets : List ℕ) → ipv4_host text ≡ Some octets → IsBytes 4 octets × (text ≡ ipv4_text octets)
ipv4_is text octets h =
    let is : IsDotted octets text = host_is text octets h in
    let P : List ℕ → Type 0 = λ o. IsBytes 4 o × (text ≡ ipv4_text o) in
    let made : P (is.a ∷ is.b ∷ is.c ∷ is.d ∷ []) = (
      record { count = refl; small = four_small is.a is.b is.c is.d is.a_fits is.b_fits is.c_fits is.d_fits },
      is.text_is ∙ undotted (decimal_text is.a) (decimal_text is.b) (decimal_text is.c) (decimal_text is.d),
    ) in
    subst P is.host_is made

ipv4_of : (octets : List ℕ) → length octets ≡ 4 → All (λ h. h < 256) octets → ipv4_host (ipv4_text octets) ≡ Some octets
ipv4_of [] four small = absurd (omega (arith, four))
ipv4_of (a ∷ []) four small = absurd (omega (arith, four))
ipv4_of (a ∷ b ∷ []) four small = absurd (omega (arith, four))
ipv4_of (a ∷ b ∷ c ∷ []) four small = absurd (omega (arith, four))
ipv4_of (a ∷ b ∷ c ∷ d ∷ []) four small =
    ap ipv4_host (sym (undotted (decimal_text a) (decimal_text b) (decimal_text c) (decimal_text d)))
    ∙ host_of a b c d (small 0 0 (omega arith)) (small 1 0 (omega arith)) (small 2 0 (omega arith)) (small 3 0 (omega arith))
ipv4_of (a ∷ b ∷ c ∷ d ∷ e ∷ more) four small = absurd (omega (arith, four))

no_ipv4 : (text : List ℕ) → IsWithout 46 text → ipv4_host text ≡ None
unfolding ipv4_host
no_ipv4 text none = rw (not_cut 46 text none) refl

record IsBare (h : Host) (text : List ℕ) : Type 0 where
  is_host : IsHost h
  text_is : text ≡ bare_host_text h

bare_is : (text : List ℕ) (h : Host) → printed_host text ≡ Some h → IsBare h text
unfolding printed_host
bare_is text h is = either (ipv4_host text) (printed_ipv6 text) refl refl is
  where
    either : (a b : Option (List ℕ)) → ipv4_host text ≡ a → printed_ipv6 text ≡ b → option_or (option_map V4 a) (option_map V6 b) ≡ Some h → IsBare h text
    either (Some octets) b e f is =
        let (bytes, text_is) = ipv4_is text octets e in
        subst (λ (h : Host). IsBare h text) (same_Some _ _ is) (record { is_host = bytes; text_is = text_is })
    either None (Some octets) e f is =
        let p = printed_is text octets f in
        subst (λ (h : Host). IsBare h text) (same_Some _ _ is) (record { is_host = (p.fits, p.plain); text_is = sym p.text_is })
    either None None e f is = absurd (none-some h is)

bare_of : (h : Host) → IsHost h → printed_host (bare_host_text h) ≡ Some h
unfolding printed_host
bare_of (V4 octets) is = rw (ipv4_of octets is.count is.small) refl
bare_of (V6 octets) is = rw (no_ipv4 (ipv6_host_text octets) (host_without 46 (inl (omega arith)) octets), printed_of octets is.0 is.1) refl

-- ---- the host that was asked

not_left : {A : Type 0} (b : Bool) (read : Option A) (x : A) → cond b None read ≡ Some x → (b ≡ false) × (read ≡ Some x)
not_left true read x h = absurd (none-some x h)
not_left false read x h = (refl, h)

record IsAsked (h : Host) (text : List ℕ) : Type 0 where
  is_host : IsHost h
  text_is : codes ">" ++ text ≡ asked_text h

asked_is : (text : List ℕ) (h : Host) → asked text ≡ Some h → IsAsked h text
unfolding asked
asked_is text h is =
    let (x, read, rest) = bound (printed_host text) _ h is in
    let (known, same) = not_left (is_same_host x unknown_host) (Some x) h rest in
    let bare = bare_is text x read in
    subst (λ (h : Host). IsAsked h text) (same_Some _ _ same) (record { is_host = bare.is_host; text_is = rw known (ap (λ (t : List ℕ). codes ">" ++ t) bare.text_is) })

asked_of : (h : Host) → IsHost h → is_same_host h unknown_host ≡ false → asked (bare_host_text h) ≡ Some h
unfolding asked
asked_of h is known = rw (bare_of h is, known) refl

-- ---- where a call comes from

differs : (text word : List ℕ) → (text ≡ word → ⊥) → bytes_eq text word ≡ false
differs text word other = at (bytes_eq text word) refl
  where
    at : (b : Bool) → bytes_eq text word ≡ b → b ≡ false
    at true e = absurd (other ((bytes_eq-Decides text word).0 e))
    at false e = refl

record IsFrom (s : Source) (text : List ℕ) : Type 0 where
  is_source : IsSource s
  text_is : text ≡ source_text s

source_is : (text : List ℕ) (s : Source) → source text ≡ Some s → IsFrom s text
unfolding source
source_is text s is = by_word (bytes_eq text (codes "local")) (peer text) refl refl is
  where
    by_word : (b : Bool) (read : Option Peer) → bytes_eq text (codes "local") ≡ b → peer text ≡ read → cond b (Some Local) (option_map Inet read) ≡ Some s → IsFrom s text
    by_word true read e f is = subst (λ (s : Source). IsFrom s text) (same_Some _ _ is) (record { is_source = tt; text_is = (bytes_eq-Decides text (codes "local")).0 e })
    by_word false (Some p) e f is =
        let spelled = peer_is text p f in
        subst (λ (s : Source). IsFrom s text) (same_Some _ _ is) (record { is_source = spelled.is_peer; text_is = spelled.text_is })
    by_word false None e f is = absurd (none-some s is)

no_peer : peer (codes "local") ≡ None
unfolding cut ipv4_peer ipv6_peer peer
no_peer = refl

peer_read : (p : Peer) → IsPeer p → peer (peer_text p) ≡ Some p
peer_read p is = peer_of (peer_text p) p (record { is_peer = is; text_is = refl })

peer_differs : (p : Peer) → IsPeer p → peer_text p ≡ codes "local" → ⊥
peer_differs p is same = none-some p (sym no_peer ∙ ap peer (sym same) ∙ peer_read p is)

source_of : (s : Source) → IsSource s → source (source_text s) ≡ Some s
unfolding source
source_of (Inet p) is = rw (differs (peer_text p) (codes "local") (peer_differs p is), peer_read p is) refl
source_of Local is = refl

-- ---- whose word there is

record IsKnown (t : Trust) (text : List ℕ) : Type 0 where
  is_trust : IsTrust t
  text_is : codes "/" ++ text ≡ trust_text t

few_uids : 2 ^ 32 ≤ 2 ^ 64
few_uids = omega arith

trust_is : (text : List ℕ) (t : Trust) → trust text ≡ Some t → IsKnown t text
unfolding trust
trust_is text t is = by_word (bytes_eq text (codes "unknown")) (bytes_eq text (codes "stranger")) (plain_number (2 ^ 32) text) refl refl refl is
  where
    by_word : (a b : Bool) (read : Option ℕ) → bytes_eq text (codes "unknown") ≡ a → bytes_eq text (codes "stranger") ≡ b → plain_number (2 ^ 32) text ≡ read
        → cond a (Some (trusts.Local Unknown)) (cond b (Some trusts.Stranger) (option_map (λ uid. trusts.Local (Uid uid)) read)) ≡ Some t → IsKnown t text
    by_word true b read e f g is =
        subst (λ (t : Trust). IsKnown t text) (same_Some _ _ is) (record { is_trust = tt; text_is = ap (λ (word : List ℕ). codes "/" ++ word) ((bytes_eq-Decides text (codes "unknown")).0 e) })
    by_word false true read e f g is =
        subst (λ (t : Trust). IsKnown t text) (same_Some _ _ is) (record { is_trust = tt; text_is = ap (λ (word : List ℕ). codes "/" ++ word) ((bytes_eq-Decides text (codes "stranger")).0 f) })
    by_word false false (Some uid) e f g is =
        let (fits, same) = plain_is (2 ^ 32) text uid few_uids g in
        subst (λ (t : Trust). IsKnown t text) (same_Some _ _ is) (record { is_trust = fits; text_is = ap (λ (word : List ℕ). codes "/" ++ word) same })
    by_word false false None e f g is = absurd (none-some t is)

no_uid : (word : List ℕ) → plain_number (2 ^ 32) word ≡ None → (uid : ℕ) → uid < 2 ^ 32 → bytes_eq (decimal_text uid) word ≡ false
no_uid word none uid fits =
    differs (decimal_text uid) word (λ same. none-some uid (sym none ∙ ap (plain_number (2 ^ 32)) (sym same) ∙ plain_of (2 ^ 32) uid few_uids fits))

unknown_is_no_uid : plain_number (2 ^ 32) (codes "unknown") ≡ None
unfolding plain_number number_below
unknown_is_no_uid = refl

stranger_is_no_uid : plain_number (2 ^ 32) (codes "stranger") ≡ None
unfolding plain_number number_below
stranger_is_no_uid = refl

owner_of : (o : Owner) → IsOwner o → trust (owner_text o) ≡ Some (trusts.Local o)
unfolding trust
owner_of Unknown is = refl
owner_of (Uid uid) is =
    rw (no_uid (codes "unknown") unknown_is_no_uid uid is, no_uid (codes "stranger") stranger_is_no_uid uid is, plain_of (2 ^ 32) uid few_uids is) refl

stranger_of : trust (codes "stranger") ≡ Some trusts.Stranger
unfolding trust
stranger_of = refl

-- ---- a source, and the host that was asked

abbrev claims : Source → Host → Who
claims s h = record { source = s; asked = h; trust = trusts.Claims }

record IsClaimant (w : Who) (text : List ℕ) : Type 0 where
  is_source : IsSource w.source
  is_host : IsHost w.asked
  claims : w.trust ≡ trusts.Claims
  text_is : text ≡ source_text w.source ++ asked_text w.asked

unknown_is_host : IsHost unknown_host
unknown_is_host = record { count = refl; small = four_small 0 0 0 0 (omega arith) (omega arith) (omega arith) (omega arith) }

rejoined : (text front back a b : List ℕ) → text ≡ front ++ 62 ∷ back → front ≡ a → codes ">" ++ back ≡ b → text ≡ a ++ b
rejoined text front back a b whole one two = rw (whole, one, ← two) refl

claimant_is : (text : List ℕ) (w : Who) → claimant text ≡ Some w → IsClaimant w text
unfolding claimant
claimant_is text w is = by_parts (cut 62 text) refl is
  where
    by_parts : (o : Option (List ℕ × List ℕ)) → cut 62 text ≡ o → claimant_of_parts text o ≡ Some w → IsClaimant w text
    by_parts None e is =
        let (s, read, rest) = bound (source text) _ w is in
        let from = source_is text s read in
        subst (λ (w : Who). IsClaimant w text) (same_Some _ _ rest)
        (record { is_source = from.is_source; is_host = unknown_is_host; claims = refl; text_is = from.text_is ∙ sym (append-nil (source_text s)) })
    by_parts (Some parts) e is =
        let (s, read, rest) = bound (source parts.0) _ w is in
        let (h, read_host, rest') = bound (asked parts.1) _ w rest in
        let from = source_is parts.0 s read in
        let host = asked_is parts.1 h read_host in
        subst (λ (w : Who). IsClaimant w text) (same_Some _ _ rest')
        (record {
          is_source = from.is_source;
          is_host = host.is_host;
          claims = refl;
          text_is = rejoined text parts.0 parts.1 (source_text s) (asked_text h) (cut_is 62 text parts.0 parts.1 e) from.text_is host.text_is;
        })

claimant_of : (s : Source) (h : Host) → IsSource s → IsHost h → claimant (source_text s ++ asked_text h) ≡ Some (claims s h)
unfolding claimant
claimant_of s h is is_host = by_known (is_same_host h unknown_host) refl
  where
    by_known : (b : Bool) → is_same_host h unknown_host ≡ b → claimant (source_text s ++ cond b [] (codes ">" ++ bare_host_text h)) ≡ Some (claims s h)
    by_known true e =
        ap claimant (append-nil (source_text s)) ∙ rw (not_cut 62 (source_text s) (source_without 62 greater_outside s is), source_of s is) (ap (λ (h : Host). Some (claims s h)) (sym (same_host_is h unknown_host e)))
    by_known false e =
        rw (cut_at 62 (source_text s) (bare_host_text h) (source_without 62 greater_outside s is), source_of s is, asked_of h is_host e) refl

-- ---- callers

judged : (text front back a b : List ℕ) → text ≡ front ++ 47 ∷ back → front ≡ a → codes "/" ++ back ≡ b → text ≡ a ++ b
judged text front back a b whole one two = rw (whole, one, ← two) refl

claims_alone : (w : Who) (text : List ℕ) → IsClaimant w text → SpellsWho w text
claims_alone w text c = record {
  is_who = (c.is_source, c.is_host, rw c.claims tt);
  text_is = rw c.claims (c.text_is ∙ sym (append-nil (source_text w.source ++ asked_text w.asked)));
}

pub who_is : (text : List ℕ) (w : Who) → who text ≡ Some w → SpellsWho w text
unfolding who
who_is text w is = by_parts (cut 47 text) refl is
  where
    by_parts : (o : Option (List ℕ × List ℕ)) → cut 47 text ≡ o → who_of_parts text o ≡ Some w → SpellsWho w text
    by_parts None e is = claims_alone w text (claimant_is text w is)
    by_parts (Some parts) e is =
        let (caller, read, rest) = bound (claimant parts.0) _ w is in
        let (known, read_trust, rest') = bound (trust parts.1) _ w rest in
        let c = claimant_is parts.0 caller read in
        let t = trust_is parts.1 known read_trust in
        subst (λ (w : Who). SpellsWho w text) (same_Some _ _ rest')
        (record {
          is_who = (c.is_source, c.is_host, t.is_trust);
          text_is = judged text parts.0 parts.1 (source_text caller.source ++ asked_text caller.asked) (trust_text known) (cut_is 47 text parts.0 parts.1 e) c.text_is t.text_is;
        })

reads : (s : Source) (h : Host) (t : Trust) → IsSource s → IsHost h → IsTrust t → who (source_text s ++ asked_text h ++ trust_text t) ≡ Some (record { source = s; asked = h; trust = t })
unfolding who
reads s h trusts.Claims is is_host is_trust =
    ap who (append-nil (source_text s ++ asked_text h))
    ∙ rw (not_cut 47 (source_text s ++ asked_text h) (front_without 47 slash_outside s h is is_host (λ e. omega (arith, e)))) (claimant_of s h is is_host)
reads s h (trusts.Local owner) is is_host is_trust =
    rw (cut_at 47 (source_text s ++ asked_text h) (owner_text owner) (front_without 47 slash_outside s h is is_host (λ e. omega (arith, e))), claimant_of s h is is_host, owner_of owner is_trust) refl
reads s h trusts.Stranger is is_host is_trust =
    rw (cut_at 47 (source_text s ++ asked_text h) (codes "stranger") (front_without 47 slash_outside s h is is_host (λ e. omega (arith, e))), claimant_of s h is is_host, stranger_of) refl

pub who_of : (text : List ℕ) (w : Who) → SpellsWho w text → who text ≡ Some w
who_of text w s = ap who s.text_is ∙ reads w.source w.asked w.trust s.is_who.0 s.is_who.1 s.is_who.2

pub callers_are_spelled : CallersAreSpelled
callers_are_spelled text w = (who_is text w, who_of text w)
