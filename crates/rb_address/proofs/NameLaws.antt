-- A netid has one name.
use Rattle.std.proofs.Common.{◌≡◌, ℕ, Bool, true, false, cond, List, Option, Some, refl, ap, subst, ◌∙◌}
use Rattle.std.specs.Prelude.{codes, bytes_eq, ◌==◌}
use Rattle.std.proofs.lemmas.Slice.Eq.{bytes_eq-Decides}
use Rattle.std.proofs.lemmas.Bool.{eqb-true}
use Rattle.std.proofs.lemmas.Option.{none-some, same_Some}
use Rattle.rb_address.specs.declared.netid.Transport.{Transport}
use Rattle.rb_address.specs.declared.netid.Transport.TheVariants as transports
use Rattle.rb_address.specs.declared.netid.Netid.{Netid}
use Rattle.rb_address.specs.declared.netid.Netid.TheVariants.{Tcp, Udp, Tcp6, Udp6, Local}
use Rattle.rb_address.specs.Netids.{netid_text, netid_named, transport_of_protocol, protocol_of, NamesAreExact, ProtocolsAreExact}

-- the value of the first test that holds
one_of : {A : Type 0} (P : A → Type 0) (b : Bool) (x y : A) (other : Option A) → (b ≡ true → P x) → (other ≡ Some y → P y) → cond b (Some x) other ≡ Some y → P y
one_of P true x y other here there is = subst P (same_Some x y is) (here refl)
one_of P false x y other here there is = there is

named_is : (name : List ℕ) (n : Netid) → netid_named name ≡ Some n → name ≡ netid_text n
unfolding netid_named
named_is name n =
    let P : Netid → Type 0 = λ m. name ≡ netid_text m in
    let at : (text : List ℕ) → bytes_eq name text ≡ true → name ≡ text = λ text e. (bytes_eq-Decides name text).0 e in
    one_of P (bytes_eq name (codes "tcp")) Tcp n _ (at (codes "tcp"))
    (one_of P (bytes_eq name (codes "udp")) Udp n _ (at (codes "udp"))
    (one_of P (bytes_eq name (codes "tcp6")) Tcp6 n _ (at (codes "tcp6"))
    (one_of P (bytes_eq name (codes "udp6")) Udp6 n _ (at (codes "udp6"))
    (one_of P (bytes_eq name (codes "local")) Local n _ (at (codes "local"))
    (λ is. absurd (none-some n is))))))

named : (n : Netid) → netid_named (netid_text n) ≡ Some n
unfolding netid_named
named Tcp = refl
named Udp = refl
named Tcp6 = refl
named Udp6 = refl
named Local = refl

pub names_are_exact : NamesAreExact
names_are_exact name n = (named_is name n, λ is. ap netid_named is ∙ named n)

protocol_is : (protocol : ℕ) (t : Transport) → transport_of_protocol protocol ≡ Some t → protocol ≡ protocol_of t
unfolding transport_of_protocol
protocol_is protocol t =
    let P : Transport → Type 0 = λ u. protocol ≡ protocol_of u in
    one_of P (protocol == 6) transports.Tcp t _ (λ e. eqb-true _ _ e)
    (one_of P (protocol == 17) transports.Udp t _ (λ e. eqb-true _ _ e) (λ is. absurd (none-some t is)))

protocol_read : (t : Transport) → transport_of_protocol (protocol_of t) ≡ Some t
unfolding transport_of_protocol
protocol_read transports.Tcp = refl
protocol_read transports.Udp = refl

pub protocols_are_exact : ProtocolsAreExact
protocols_are_exact protocol t = (protocol_is protocol t, λ is. ap transport_of_protocol is ∙ protocol_read t)
