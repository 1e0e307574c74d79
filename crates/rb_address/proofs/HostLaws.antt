-- IPv4 in IPv6's form.
use Rattle.std.proofs.Common.{◌≡◌, ◌<◌, ℕ, Bool, true, false, cond, List, drop, refl, arith, length-drop, ap, subst}
use Rattle.std.proofs.lemmas.List.Elements.{All-drop}
use Rattle.std.proofs.lemmas.Slice.Eq.{bytes_eq-Decides}
use Rattle.rb_uaddr.specs.Uaddr.{IsBytes}
use Rattle.rb_address.specs.declared.host.Host.{Host}
use Rattle.rb_address.specs.declared.host.Host.TheVariants.{V4, V6}
use Rattle.rb_address.specs.Hosts.{is_same_host, is_mapped, plain_host, IsHost, PlainIsHost, PlainStays, MappedIsPlain}

last_four : (octets : List ℕ) → IsBytes 16 octets → IsBytes 4 (drop 12 octets)
last_four octets is = record {
  count = omega (arith, length-drop 12 octets, is.count);
  small = All-drop (λ b. b < 256) 12 octets is.small;
}

pub plain_is_host : PlainIsHost
unfolding plain_host
plain_is_host (V4 octets) is = is
plain_is_host (V6 octets) is = at (is_mapped octets) refl
  where
    at : (b : Bool) → is_mapped octets ≡ b → IsHost (cond b (V4 (drop 12 octets)) (V6 octets))
    at true e = last_four octets is
    at false e = (is, e)

pub plain_stays : PlainStays
unfolding plain_host
plain_stays (V4 octets) is = refl
plain_stays (V6 octets) is = rw (is.1) refl

pub mapped_is_plain : MappedIsPlain
unfolding plain_host is_mapped
mapped_is_plain (V4 octets) is = refl
mapped_is_plain (V6 octets) is = plain_stays (V6 octets) is

pub same_host_is : (a b : Host) → is_same_host a b ≡ true → a ≡ b
same_host_is (V4 a) (V4 b) is = ap (λ (o : List ℕ). V4 o) ((bytes_eq-Decides a b).0 is)
same_host_is (V6 a) (V6 b) is = ap (λ (o : List ℕ). V6 o) ((bytes_eq-Decides a b).0 is)
same_host_is (V4 a) (V6 b) is = cc
same_host_is (V6 a) (V4 b) is = cc

itself : (a : Host) → is_same_host a a ≡ true
itself (V4 a) = (bytes_eq-Decides a a).1 refl
itself (V6 a) = (bytes_eq-Decides a a).1 refl

pub same_host_of : (a b : Host) → a ≡ b → is_same_host a b ≡ true
same_host_of a b is = subst (λ (h : Host). is_same_host a h ≡ true) is (itself a)
