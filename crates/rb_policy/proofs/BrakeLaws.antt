-- What follows of how many datagrams are served.
use Rattle.std.proofs.Common.{◌≡◌, ◌<◌, ◌≤◌, ◌+◌, ◌⊎◌, ◌*◌, inl, inr, ℕ, zero, suc, Bool, true, false, cond, if◌then◌else◌, nat_lt, nat_le, nat_eq, eqb, ◌&&◌, ◌||◌, List, [], ◌∷◌, ◌++◌, length, take, Some, None, refl, sym, ap, ◌∙◌, subst, arith}
use Rattle.std.specs.Prelude.{bytes_eq}
use Rattle.std.specs.List.{All}
use Rattle.std.proofs.lemmas.Bool.Decides.{nat_tests}
use Rattle.std.proofs.lemmas.Slice.Eq.{bytes_eq-Decides}
use Rattle.std.proofs.lemmas.List.Elements.{All-head, All-tail}
use Rattle.std.proofs.lemmas.List.Sums.{sum_by_push, sum_by-le-sum_by}
use Rattle.rb_address.specs.declared.host.Host.{Host}
use Rattle.rb_address.specs.declared.host.Host.TheVariants.{V4, V6}
use Rattle.rb_address.specs.declared.peer.Peer.{Peer}
use Rattle.rb_address.specs.declared.who.Owner.TheVariants.{Unknown}
use Rattle.rb_address.specs.declared.who.Source.TheVariants.{Inet}
use Rattle.rb_address.specs.declared.who.Trust.TheVariants.{Claims, Local, Stranger}
use Rattle.rb_address.specs.Hosts.{is_same_host}
use Rattle.rb_address.specs.Networks.{octet_bits, bits_of, is_same_front}
use Rattle.rb_policy.specs.declared.brake.Rate.{Rate}
use Rattle.rb_policy.specs.declared.places.PlaceKey.{PlaceKey}
use Rattle.rb_policy.specs.Places.{place_by, network_place, host_place}
use Rattle.rb_policy.specs.Recents.{one_second}
use Rattle.rb_policy.specs.Brake.{Datagram, moment_of, served_within, has_room_at, admits, admit, host_counted}
use Rattle.rb_policy.specs.Trusts.{is_home}
use Rattle.rb_policy.specs.BrakeLaws.{serve_after, serve, is_same_network, served_in_second, NeverMore, NeverHeldBack, HaveOnePlace, AreNetworks, StrangersCount}

-- ---- one place

same_bytes : (a b : List ℕ) → bytes_eq a b ≡ true → a ≡ b
same_bytes a b same = (bytes_eq-Decides a b).0 same

module _ (key : PlaceKey) where
  one_network : (a b : Host) → is_same_network a b ≡ true → network_place key a ≡ network_place key b
  one_network (V4 a) (V4 b) same = ap (place_by key) (same_bytes (take 3 a) (take 3 b) same)
  one_network (V6 a) (V6 b) same = ap (place_by key) (same_bytes (take 6 a) (take 6 b) same)
  one_network (V4 a) (V6 b) same = grind (arith, same)
  one_network (V6 a) (V4 b) same = grind (arith, same)

  one_host : (a b : Host) → is_same_host a b ≡ true → host_place key a ≡ host_place key b
  one_host (V4 a) (V4 b) same = ap (place_by key) (same_bytes a b same)
  one_host (V6 a) (V6 b) same = ap (place_by key) (same_bytes a b same)
  one_host (V4 a) (V6 b) same = grind (arith, same)
  one_host (V6 a) (V4 b) same = grind (arith, same)

pub have_one_place : HaveOnePlace
have_one_place = record { network = one_network; host = one_host }

-- ---- never more

module _ (place_of : Host → ℕ) (most : ℕ) where
  -- of no place more were served in a second
  IsBounded : List Datagram → Type 0
  IsBounded served = (place since : ℕ) → served_in_second (λ host. eqb (place_of host) place) since served ≤ most

  none : IsBounded []
  unfolding IsBounded
  none place since = omega arith

  -- what was served in a second that has a moment was served within the second before that moment
  within : (b : Bool) (since now moment : ℕ) → since ≤ now → now < since + one_second
      → cond (b && (nat_le since moment && nat_lt moment (since + one_second))) 1 0 ≤ cond (b && nat_lt now (moment + one_second)) 1 0
  within true since now moment low high = grind (arith, nat_tests, low, high)
  within false since now moment low high = omega arith

  more : (served : List Datagram) (x : Datagram) → served_within place_of (place_of x.host) x.moment served < most → IsBounded served → IsBounded (served ++ x ∷ [])
  unfolding IsBounded
  more served x few bounded place since =
      let f : Datagram → ℕ = λ d. cond (eqb (place_of d.host) place && (nat_le since d.moment && nat_lt d.moment (since + one_second))) 1 0 in
      rw (sum_by_push f served x) (split (eqb (place_of x.host) place) (nat_le since x.moment) (nat_lt x.moment (since + one_second)) refl refl refl)
    where
      count : ℕ
      count = served_in_second (λ host. eqb (place_of host) place) since served

      split : (b l h : Bool) → eqb (place_of x.host) place ≡ b → nat_le since x.moment ≡ l → nat_lt x.moment (since + one_second) ≡ h
          → served_in_second (λ host. eqb (place_of host) place) since served + cond (b && (l && h)) 1 0 ≤ most
      split true true true same low high =
          let at : place_of x.host ≡ place = grind (arith, nat_tests, same) in
          let low : since ≤ x.moment = grind (arith, nat_tests, low) in
          let high : x.moment < since + one_second = grind (arith, nat_tests, high) in
          let less : served_in_second (λ host. eqb (place_of host) place) since served ≤ served_within place_of place x.moment served =
          sum_by-le-sum_by
          (λ (d : Datagram). cond (eqb (place_of d.host) place && (nat_le since d.moment && nat_lt d.moment (since + one_second))) 1 0)
          (λ (d : Datagram). cond (eqb (place_of d.host) place && nat_lt x.moment (d.moment + one_second)) 1 0)
          served (λ d. within (eqb (place_of d.host) place) since x.moment d.moment low high) in
          let few : served_within place_of place x.moment served < most = subst (λ (p : ℕ). served_within place_of p x.moment served < most) at few in
          omega (arith, less, few)
      split true true false same low high = omega (arith, bounded place since)
      split true false h same low high = omega (arith, bounded place since)
      split false l h same low high = omega (arith, bounded place since)

  -- whose place is one
  at_most : (is_one : Host → Bool) (place since : ℕ) (served : List Datagram) → ((host : Host) → is_one host ≡ true → place_of host ≡ place) → IsBounded served → served_in_second is_one since served ≤ most
  unfolding IsBounded
  at_most is_one place since served at bounded =
      let less : served_in_second is_one since served ≤ served_in_second (λ host. eqb (place_of host) place) since served =
      sum_by-le-sum_by
      (λ (d : Datagram). cond (is_one d.host && (nat_le since d.moment && nat_lt d.moment (since + one_second))) 1 0)
      (λ (d : Datagram). cond (eqb (place_of d.host) place && (nat_le since d.moment && nat_lt d.moment (since + one_second))) 1 0)
      served (λ d. each (is_one d.host) (place_of d.host) (nat_le since d.moment && nat_lt d.moment (since + one_second)) (at d.host)) in
      omega (arith, less, bounded place since)
    where
      each : (b : Bool) (p : ℕ) (t : Bool) → (b ≡ true → p ≡ place) → cond (b && t) 1 0 ≤ cond (eqb p place && t) 1 0
      each true p true at = let same : p ≡ place = at refl in grind (arith, nat_tests, same)
      each true p false at = omega arith
      each false p t at = omega arith

-- the second moment has room
room : (place_of : Host → ℕ) (most : ℕ) (served : List Datagram) (now : ℕ) (host : Host) → has_room_at place_of most served now host ≡ true → served_within place_of (place_of host) now served < most
room place_of most served now host has = grind (arith, nat_tests, has)

both : (a b : Bool) → (a && b) ≡ true → (a ≡ true) × (b ≡ true)
both true b e = (refl, e)
both false b e = grind (arith, e)

module _ (key : PlaceKey) (rate : Rate) where
  AreBounded : List Datagram → Type 0
  AreBounded served = IsBounded (network_place key) rate.network served × IsBounded (host_place key) rate.host served

  module _ (served : List Datagram) (moment : ℕ) (host : Host) where
    abbrev x : Datagram
    x = record { moment = moment; host = host }

    abbrev has_room_for : Bool
    has_room_for = has_room_at (network_place key) rate.network served moment host && has_room_at (host_place key) rate.host served moment host

    either : AreBounded served → (b : Bool) → has_room_for ≡ b → AreBounded (if b then served ++ (x ∷ []) else served)
    unfolding AreBounded
    either bounded true has =
        let rooms = both _ _ has in (
          more (network_place key) rate.network served x (room (network_place key) rate.network served moment host rooms.0) bounded.0,
          more (host_place key) rate.host served x (room (host_place key) rate.host served moment host rooms.1) bounded.1,
        )
    either bounded false has = bounded

  step : (served : List Datagram) (now : ℕ) (host : Host) → AreBounded served → AreBounded (admit key rate served now host)
  unfolding admit admits
  step served now host bounded = either served (moment_of served now) host bounded _ refl

  run : (served came : List Datagram) → AreBounded served → AreBounded (serve_after key rate served came)
  run served [] bounded = bounded
  run served (d ∷ rest) bounded = run (admit key rate served d.moment d.host) rest (step served d.moment d.host bounded)

  all : (came : List Datagram) → AreBounded (serve key rate came)
  unfolding AreBounded
  all came = run [] came (none (network_place key) rate.network, none (host_place key) rate.host)

  at_most_network : (came : List Datagram) (since : ℕ) (host : Host) → served_in_second (is_same_network host) since (serve key rate came) ≤ rate.network
  unfolding AreBounded
  at_most_network came since host = at_most (network_place key) rate.network (is_same_network host) (network_place key host) since (serve key rate came) (λ other same. sym (one_network key host other same)) (all came).0

  at_most_host : (came : List Datagram) (since : ℕ) (host : Host) → served_in_second (is_same_host host) since (serve key rate came) ≤ rate.host
  unfolding AreBounded
  at_most_host came since host = at_most (host_place key) rate.host (is_same_host host) (host_place key host) since (serve key rate came) (λ other same. sym (one_host key host other same)) (all came).1

pub never_more : NeverMore
never_more = record { network = at_most_network; host = at_most_host }

-- ---- never held back

neither : (n m a b : ℕ) → (nat_lt a n && nat_lt b m) ≡ false → (n ≤ a) ⊎ (m ≤ b)
neither n m a b e = split (nat_lt a n) refl
  where
    split : (t : Bool) → nat_lt a n ≡ t → (n ≤ a) ⊎ (m ≤ b)
    split true is = inr (grind (arith, nat_tests, is, e))
    split false is = inl (grind (arith, nat_tests, is))

pub never_held_back : NeverHeldBack
unfolding admits
never_held_back key rate came now host dropped = neither rate.network rate.host _ _ dropped

-- ---- networks

parts : (a b c d : List ℕ) → length a ≡ length b → bytes_eq (a ++ c) (b ++ d) ≡ (bytes_eq a b && bytes_eq c d)
parts [] [] c d same = refl
parts [] (y ∷ b) c d same = absurd (omega (arith, same))
parts (x ∷ a) [] c d same = absurd (omega (arith, same))
parts (x ∷ a) (y ∷ b) c d same = ap (λ (e : Bool). nat_eq x y && e) (parts a b c d (omega (arith, same))) ∙ and_assoc (nat_eq x y) (bytes_eq a b) (bytes_eq c d)
  where
    and_assoc : (p q r : Bool) → (p && (q && r)) ≡ ((p && q) && r)
    and_assoc true q r = refl
    and_assoc false q r = refl

octet : (x y : ℕ) → x < 256 → y < 256 → bytes_eq (octet_bits x) (octet_bits y) ≡ nat_eq x y
octet x y small_x small_y = grind (arith, nat_tests, small_x, small_y)

-- this many bytes have eight times as many bits
front : (n : ℕ) (a b : List ℕ) → n ≤ length a → n ≤ length b → All (λ x. x < 256) a → All (λ x. x < 256) b
    → is_same_front (8 * n) a b ≡ bytes_eq (take n a) (take n b)
front zero a b long_a long_b bytes_a bytes_b = refl
front (suc n) [] b long_a long_b bytes_a bytes_b = absurd (omega (arith, long_a))
front (suc n) (x ∷ a) [] long_a long_b bytes_a bytes_b = absurd (omega (arith, long_b))
front (suc n) (x ∷ a) (y ∷ b) long_a long_b bytes_a bytes_b =
    let more : 8 * suc n ≡ suc (suc (suc (suc (suc (suc (suc (suc (8 * n)))))))) = omega arith in
    ap (λ (k : ℕ). is_same_front k (x ∷ a) (y ∷ b)) more
    ∙ parts (octet_bits x) (octet_bits y) (take (8 * n) (bits_of a)) (take (8 * n) (bits_of b)) refl
    ∙ ap (λ (e : Bool). e && is_same_front (8 * n) a b) (octet x y (All-head (λ z. z < 256) x a bytes_a) (All-head (λ z. z < 256) y b bytes_b))
    ∙ ap (λ (e : Bool). nat_eq x y && e)
    (front n a b (omega (arith, long_a)) (omega (arith, long_b)) (All-tail (λ z. z < 256) x a bytes_a) (All-tail (λ z. z < 256) y b bytes_b))

pub are_networks : AreNetworks
are_networks (V4 a) (V4 b) is_a is_b = front 3 a b (omega (arith, is_a.count)) (omega (arith, is_b.count)) is_a.small is_b.small
are_networks (V6 a) (V6 b) is_a is_b = front 6 a b (omega (arith, is_a.count)) (omega (arith, is_b.count)) is_a.small is_b.small
are_networks (V4 a) (V6 b) is_a is_b = refl
are_networks (V6 a) (V4 b) is_a is_b = refl

-- ---- whose count

counted : (claims is_local : Bool) (peer : Peer)
    → host_counted (if claims then Claims else if is_local then Local Unknown else Stranger) (Inet peer)
    ≡ (if claims || is_local then None else Some peer.host)
counted true is_local peer = refl
counted false true peer = refl
counted false false peer = refl

pub strangers_count : StrangersCount
strangers_count beliefs bound peer = counted beliefs.claims (is_home bound && is_same_host bound peer.host) peer
