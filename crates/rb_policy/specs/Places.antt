-- By which places networks and hosts are told apart.
use Rattle.std.specs.Prelude.{ℕ, ◌+◌, ◌*◌, ◌%◌, List, take}
use Rattle.std.specs.List.{fold}
use Rattle.rb_address.specs.declared.host.Host.{Host}
use Rattle.rb_address.specs.declared.host.Host.TheVariants.{V4, V6}
use Rattle.rb_address.specs.Hosts.{octets_of_host}
use Rattle.rb_policy.specs.declared.places.PlaceKey.{PlaceKey}

-- how many places networks are told apart by, and how many hosts are
abbrev pub table_places : ℕ
table_places = 1024

-- the greatest prime number below 2 ^ 32
abbrev pub prime : ℕ
prime = 4294967291

-- the polynomial with these bytes as its coefficients, after a 1, at a point
abbrev pub polynomial : ℕ → List ℕ → ℕ
polynomial point octets = fold (λ number octet. (number * point + octet) % prime) 1 octets

-- BRAKE-4: The place of a network, and that of a host, is by a key of the system's randomness: so nobody chooses with whom
-- he shares one. Two share it under about one key in a thousand.
abbrev pub place_by : PlaceKey → List ℕ → ℕ
place_by key octets = (polynomial key.point octets * key.factor) % prime % table_places

-- the bytes that hosts of one network begin with: IPv4 /24, IPv6 /48
abbrev pub network_octets : Host → List ℕ
network_octets (V4 octets) = take 3 octets
network_octets (V6 octets) = take 6 octets

abbrev pub network_place : PlaceKey → Host → ℕ
network_place key host = place_by key (network_octets host)

abbrev pub host_place : PlaceKey → Host → ℕ
host_place key host = place_by key (octets_of_host host)
