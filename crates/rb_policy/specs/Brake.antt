-- How many datagrams are served in a second: of one network, and of one host.
use Rattle.std.specs.Prelude.{◌≡◌, ℕ, ◌+◌, ◌<◌, ◌≤◌, ◌==◌, nat_lt, max, Bool, true, ◌&&◌, Option, Some, None, if◌then◌else◌, List, [], ◌∷◌, ◌++◌, map, length, slice_index_or}
use Rattle.std.specs.List.{count_by, filter, AllByRecursion}
use Rattle.rb_address.specs.declared.host.Host.{Host}
use Rattle.rb_address.specs.declared.who.Source.{Source}
use Rattle.rb_address.specs.declared.who.Source.TheVariants.{Inet, Local}
use Rattle.rb_address.specs.declared.who.Trust.{Trust}
use Rattle.rb_address.specs.declared.who.Trust.TheVariants as Trusts
use Rattle.rb_address.specs.declared.who.Trust.TheVariants.{Claims, Stranger}
use Rattle.rb_address.specs.declared.who.Who.{Who}
use Rattle.rb_policy.specs.declared.brake.Rate.{Rate}
use Rattle.rb_policy.specs.declared.places.PlaceKey.{PlaceKey}
use Rattle.rb_policy.specs.Places.{table_places, network_place, host_place}
use Rattle.rb_policy.specs.Recents.{RecentMoments, has_room, one_second, last_of}

-- ---- what was served

-- a datagram: its moment, in milliseconds, and the host that it came from
pub record Datagram : Type 0 where
  pub moment : ℕ
  pub host : Host

-- the latest moment of those that were served
abbrev pub latest_of : List Datagram → ℕ
latest_of [] = 0
latest_of (datagram ∷ more) = max datagram.moment (latest_of more)

-- a moment before that one counts as that one
abbrev pub moment_of : List Datagram → ℕ → ℕ
moment_of served now = max now (latest_of served)

-- how many of one place were served within the second before a moment
abbrev pub served_within : (Host → ℕ) → ℕ → ℕ → List Datagram → ℕ
served_within place_of place now served = count_by (λ d. place_of d.host == place && nat_lt now (d.moment + one_second)) served

abbrev pub has_room_at : (Host → ℕ) → ℕ → List Datagram → ℕ → Host → Bool
has_room_at place_of most served now host = nat_lt (served_within place_of (place_of host) now served) most

abbrev pub admits_at : PlaceKey → Rate → List Datagram → ℕ → Host → Bool
admits_at key rate served now host =
    has_room_at (network_place key) rate.network served now host && has_room_at (host_place key) rate.host served now host

-- BRAKE-1: With `--udp-rate`, of strangers' datagrams at most as many are served in a second as the rate has, of one
-- network (IPv4 /24, IPv6 /48) and of one host; others are dropped, and are not counted.
unfoldable pub admits : PlaceKey → Rate → List Datagram → ℕ → Host → Bool
admits key rate served now host = admits_at key rate served (moment_of served now) host

-- what was served then
unfoldable pub admit : PlaceKey → Rate → List Datagram → ℕ → Host → List Datagram
admit key rate served now host =
    if admits key rate served now host then served ++ (record { moment = moment_of served now; host = host } ∷ []) else served

-- ---- whose datagrams count

-- BRAKE-3: With `--udp-rate` strangers alone are counted, each by its host.
abbrev pub host_counted : Trust → Source → Option Host
host_counted Stranger (Inet peer) = Some peer.host
host_counted Stranger Local = None
host_counted Claims source = None
host_counted (Trusts.Local owner) source = None

-- a stranger's is served if it is admitted, and each other one always
abbrev pub passes_by : PlaceKey → Rate → List Datagram → ℕ → Option Host → Bool
passes_by key rate served now None = true
passes_by key rate served now (Some host) = admits key rate served now host

abbrev pub passes : PlaceKey → Rate → List Datagram → ℕ → Who → Bool
passes key rate served now who = passes_by key rate served now (host_counted who.trust who.source)

-- what was served of strangers then
abbrev pub pass_by : PlaceKey → Rate → List Datagram → ℕ → Option Host → List Datagram
pass_by key rate served now None = served
pass_by key rate served now (Some host) = admit key rate served now host

abbrev pub pass : PlaceKey → Rate → List Datagram → ℕ → Who → List Datagram
pass key rate served now who = pass_by key rate served now (host_counted who.trust who.source)

-- ---- what a brake keeps of it

-- the moments of what was served of one place
abbrev pub moments_at : (Host → ℕ) → ℕ → List Datagram → List ℕ
moments_at place_of place served = map (λ d. d.moment) (filter (λ d. place_of d.host == place) served)

-- Each place has the moments of the last that were served of it.
pub record IsTable (place_of : Host → ℕ) (most : ℕ) (table : List RecentMoments) (served : List Datagram) : Type 0 where
  pub count : length table ≡ table_places
  pub each : (place : ℕ) (d : RecentMoments) → place < table_places
      → slice_index_or table place d ≡ record { most = most; moments = last_of most (moments_at place_of place served) }

-- No moment is before an earlier one.
abbrev pub AreInOrder : List ℕ → Type 0
AreInOrder [] = Unit {0}
AreInOrder (moment ∷ more) = AllByRecursion (λ later. moment ≤ later) more × AreInOrder more

-- what a contract sees of a brake
pub record BrakeTables : Type 0 where
  pub key : PlaceKey
  pub rate : Rate
  pub networks : List RecentMoments
  pub hosts : List RecentMoments
  pub latest : ℕ

-- whether one more may be served of the place of a network, and of that of a host
abbrev pub has_room_for : BrakeTables → ℕ → ℕ → ℕ → RecentMoments → Bool
has_room_for brake network host now other =
    has_room (slice_index_or brake.networks network other) now && has_room (slice_index_or brake.hosts host other) now

-- The brake has what it needs to know of these, and they are all that were served.
pub record StandsForServed (brake : BrakeTables) (served : List Datagram) : Type 0 where
  pub networks : IsTable (network_place brake.key) brake.rate.network brake.networks served
  pub hosts : IsTable (host_place brake.key) brake.rate.host brake.hosts served
  pub latest : brake.latest ≡ latest_of served
  pub in_order : AreInOrder (map (λ d. d.moment) served)

-- Whatever was served, so that the brake knows it, this is answered of it.
abbrev pub ShowsServed : {A : Type 0} → (List Datagram → A) → BrakeTables → A → Type 0
ShowsServed show brake result = (served : List Datagram) → StandsForServed brake served → result ≡ show served

-- Whatever was served, so that the old brake knows it, the new one knows what becomes of it.
abbrev pub BecomesServed : (List Datagram → List Datagram) → BrakeTables → BrakeTables → Type 0
BecomesServed change old new = (served : List Datagram) → StandsForServed old served → StandsForServed new (change served)
