-- What follows of how many datagrams are served.
use Rattle.std.specs.Prelude.{◌≡◌, ◌≢◌, ℕ, ◌+◌, ◌≤◌, ◌⊎◌, nat_lt, nat_le, Bool, true, false, ◌&&◌, ◌||◌, if◌then◌else◌, Some, None, List, [], ◌∷◌, take, bytes_eq}
use Rattle.std.specs.List.{count_by}
use Rattle.rb_address.specs.declared.host.Host.{Host}
use Rattle.rb_address.specs.declared.host.Host.TheVariants.{V4, V6}
use Rattle.rb_address.specs.declared.peer.Peer.{Peer}
use Rattle.rb_address.specs.declared.who.Source.TheVariants.{Inet}
use Rattle.rb_address.specs.Hosts.{is_same_host, IsBytesOf}
use Rattle.rb_address.specs.Networks.{has_front}
use Rattle.rb_policy.specs.declared.trust.Entrance.TheVariants.{Udp}
use Rattle.rb_policy.specs.declared.trust.Beliefs.{Beliefs}
use Rattle.rb_policy.specs.Trusts.{trust_of, is_home}
use Rattle.rb_policy.specs.declared.brake.Rate.{Rate}
use Rattle.rb_policy.specs.declared.places.PlaceKey.{PlaceKey}
use Rattle.rb_policy.specs.Places.{network_place, host_place}
use Rattle.rb_policy.specs.Recents.{one_second}
use Rattle.rb_policy.specs.Brake.{Datagram, moment_of, served_within, admits, admit, host_counted}

-- what is served of datagrams that came in this order, after some that were
abbrev pub serve_after : PlaceKey → Rate → List Datagram → List Datagram → List Datagram
serve_after key rate served [] = served
serve_after key rate served (datagram ∷ more) =
    serve_after key rate (admit key rate served datagram.moment datagram.host) more

abbrev pub serve : PlaceKey → Rate → List Datagram → List Datagram
serve key rate came = serve_after key rate [] came

-- whether two hosts are of one network: IPv4 /24, IPv6 /48
abbrev pub is_same_network : Host → Host → Bool
is_same_network (V4 a) (V4 b) = bytes_eq (take 3 a) (take 3 b)
is_same_network (V6 a) (V6 b) = bytes_eq (take 6 a) (take 6 b)
is_same_network (V4 a) (V6 b) = false
is_same_network (V6 a) (V4 b) = false

-- how many of some hosts' were served in the second that begins at a moment
abbrev pub served_in_second : (Host → Bool) → ℕ → List Datagram → ℕ
served_in_second is_one since served =
    count_by (λ d. is_one d.host && (nat_le since d.moment && nat_lt d.moment (since + one_second))) served

-- In no second are more served of one network, or of one host, whatever the key.
-- BRAKE-1
pub record NeverMore : Type 0 where
  pub network : (key : PlaceKey) (rate : Rate) (came : List Datagram) (since : ℕ) (host : Host)
      → served_in_second (is_same_network host) since (serve key rate came) ≤ rate.network
  pub host : (key : PlaceKey) (rate : Rate) (came : List Datagram) (since : ℕ) (host : Host)
      → served_in_second (is_same_host host) since (serve key rate came) ≤ rate.host

-- this many were served, of the place of its network or of its host, within the second before it
abbrev pub WereServed : PlaceKey → Rate → List Datagram → ℕ → Host → Type 0
WereServed key rate served now host =
    (rate.network ≤ served_within (network_place key) (network_place key host) now served)
    ⊎ (rate.host ≤ served_within (host_place key) (host_place key host) now served)

-- BRAKE-2: With `--udp-rate` a stranger's datagram is dropped only if within the second before as many were served as the
-- rate has, of the place of its network or of its host; each has one place of 1,024.
abbrev pub NeverHeldBack : Type 0
NeverHeldBack =
    (key : PlaceKey) (rate : Rate) (came : List Datagram) (now : ℕ) (host : Host)
    → admits key rate (serve key rate came) now host ≡ false
    → WereServed key rate (serve key rate came) (moment_of (serve key rate came) now) host

-- Networks are not split over places, nor are hosts.
-- BRAKE-2
pub record HaveOnePlace : Type 0 where
  pub network : (key : PlaceKey) (a b : Host) → is_same_network a b ≡ true → network_place key a ≡ network_place key b
  pub host : (key : PlaceKey) (a b : Host) → is_same_host a b ≡ true → host_place key a ≡ host_place key b

abbrev pub network_bits : Host → ℕ
network_bits (V4 octets) = 24
network_bits (V6 octets) = 48

-- They are the networks of 24 bits of IPv4, and of 48 of IPv6.
-- BRAKE-1
abbrev pub AreNetworks : Type 0
AreNetworks = (a b : Host) → IsBytesOf a → IsBytesOf b → has_front a (network_bits a) b ≡ is_same_network a b

-- Over UDP those count whose claims are not believed and who do not come from 127.0.0.1 or ::1 to a socket that is bound there,
-- and nobody else.
-- BRAKE-3
abbrev pub StrangersCount : Type 0
StrangersCount =
    (beliefs : Beliefs) (bound : Host) (peer : Peer)
    → host_counted (trust_of beliefs (Udp bound peer)) (Inet peer)
    ≡ (if beliefs.claims || (is_home bound && is_same_host bound peer.host) then None else Some peer.host)

-- ---- worked

abbrev pub at : ℕ → ℕ → ℕ → Datagram
at moment third last = record { moment = moment; host = V4 (192 ∷ 0 ∷ third ∷ last ∷ []) }

abbrev pub first_key : PlaceKey
first_key = record { point = 2; factor = 1 }

abbrev pub second_key : PlaceKey
second_key = record { point = 257; factor = 65537 }

-- With two for each network and one for each host, the second of 192.0.2.1 is dropped within the second, and so is the
-- third of 192.0.2.0/24. 192.0.3.1 is of another network.
abbrev pub OneSecondIsServed : Type 0
OneSecondIsServed =
    serve second_key (record { network = 2; host = 1 })
    (at 5000 2 1 ∷ at 5000 2 1 ∷ at 5200 2 2 ∷ at 5999 2 3 ∷ at 5999 3 1 ∷ at 6000 2 1 ∷ at 6000 2 3 ∷ at 6200 2 3 ∷ [])
    ≡ at 5000 2 1 ∷ at 5200 2 2 ∷ at 5999 3 1 ∷ at 6000 2 1 ∷ at 6200 2 3 ∷ []

-- 10.0.2.1 and 10.0.1.3 share a place under one key, and not under another.
-- BRAKE-4
pub record PlacesGoByTheKey : Type 0 where
  pub shared : host_place first_key (V4 (10 ∷ 0 ∷ 2 ∷ 1 ∷ [])) ≡ host_place first_key (V4 (10 ∷ 0 ∷ 1 ∷ 3 ∷ []))
  pub apart : host_place second_key (V4 (10 ∷ 0 ∷ 2 ∷ 1 ∷ [])) ≢ host_place second_key (V4 (10 ∷ 0 ∷ 1 ∷ 3 ∷ []))
