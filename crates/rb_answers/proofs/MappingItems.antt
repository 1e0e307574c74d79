-- How long a mapping's item of a list is.
use Rattle.std.proofs.Common.{◌≡◌, ◌++◌, ◌≤◌, ◌-◌, ℕ, true, List, length, Option, Some, None, refl, ap, arith}
use Rattle.std.specs.Option.{SomeIff}
use Rattle.std.proofs.lemmas.List.{length-append}
use Rattle.rb_xdr.specs.Xdr.{number, boolean}
use Rattle.rb_xdr.specs.Puts.{Leaves}
use Rattle.rb_xdr.proofs.Words.{length-number}
use Rattle.rb_xdr.proofs.Types.{length-boolean}
use Rattle.rb_arguments.specs.declared.mapping.Mapping.{Mapping}
use Rattle.rb_arguments.specs.Types.{mapping_spelling}
use Rattle.std.specs.Option.{option_map_or}
use Rattle.rb_uaddr.specs.Uaddr.{port_of}
use Rattle.rb_address.specs.declared.netid.Netid.{Netid}
use Rattle.rb_address.specs.declared.netid.Netid.TheVariants.{Tcp, Udp, Tcp6, Udp6, Local}
use Rattle.rb_registry.specs.declared.row.Row.{Row}
use Rattle.rb_registry.specs.declared.row.Which.TheVariants.{Inet}
use Rattle.rb_address.specs.Netids.{is_netid}
use Rattle.rb_registry.specs.Rows.{is_among}
use Rattle.rb_registry.specs.Items.{prot_on, inet_port, inet_item}
use Rattle.rb_answers.specs.Netids.{address_in}
use Rattle.rb_answers.specs.Answers.{shown_port}
use Rattle.rb_answers.specs.Results.{is_inet, mapping_item}

pub mapping_item_length : (m : Mapping) → length (boolean true ++ mapping_spelling m) ≡ 20
mapping_item_length m =
    let first = length-append (boolean true) (mapping_spelling m) in
    let second = length-append (number m.prog) (number m.vers ++ (number m.prot ++ number m.port)) in
    let third = length-append (number m.vers) (number m.prot ++ number m.port) in
    let fourth = length-append (number m.prot) (number m.port) in
    omega (arith, first, second, third, fourth, length-boolean true, length-number m.prog, length-number m.vers, length-number m.prot, length-number m.port)

-- over tcp and udp the port that is shown is that of the IPv4 address
pub inet_port_shown : (row : Row) → is_inet row ≡ true → inet_port row.addr ≡ shown_port row
unfolding shown_port address_in is_among is_netid
inet_port_shown row inet = by_netid row.netid inet refl
  where
    by_netid : (netid : Netid) → is_among netid Inet ≡ true → row.netid ≡ netid → inet_port row.addr ≡ option_map_or port_of (address_in row.netid row.addr) 0
    by_netid Tcp inet is = rw is refl
    by_netid Udp inet is = rw is refl
    by_netid Tcp6 inet is = absurd (cc)
    by_netid Udp6 inet is = absurd (cc)
    by_netid Local inet is = absurd (cc)

pub inet_item_shown : (row : Row) → is_inet row ≡ true → inet_item row ≡ mapping_item row
inet_item_shown row inet =
    ap (λ (port : ℕ). boolean true ++ (number row.prog ++ (number row.vers ++ (number (prot_on row.netid) ++ number port)))) (inet_port_shown row inet)

-- the room that is left after bytes of a known length
pub leaves_by_length : (bytes : List ℕ) (n room : ℕ) (result : Option ℕ) → length bytes ≡ n → SomeIff result (n ≤ room) (room - n) → Leaves bytes room result
leaves_by_length bytes n room None is refused = omega (arith, is, refused)
leaves_by_length bytes n room (Some left) is (fits, left_is) = omega (arith, is, fits, left_is)
