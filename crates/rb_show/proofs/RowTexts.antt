-- The texts of the row that a mapping stands for are within the limits of rpcb.
use Rattle.std.proofs.Common.{◌≡◌, ◌<◌, ◌≤◌, ◌^◌, ◌/◌, ◌%◌, ◌++◌, ◌∷◌, [], ℕ, zero, suc, List, Option, Some, None, length, refl, true, arith, length-append}
use Rattle.std.specs.Prelude.{codes}
use Rattle.std.specs.Fmt.{decimal}
use Rattle.std.specs.List.{AllByRecursion, list_all}
use Rattle.std.proofs.lemmas.Fmt.{length-decimal-le}
use Rattle.std.proofs.lemmas.List.Folds.{list_all-append}
use Rattle.rb_xdr.specs.Xdr.{AreBytes, IsNumber, IsContent}
use Rattle.rb_address.specs.declared.netid.Transport.{Transport}
use Rattle.rb_address.specs.declared.netid.Transport.TheVariants.{Tcp, Udp}
use Rattle.rb_address.specs.Netids.{transport_of_protocol}
use Rattle.rb_arguments.specs.declared.mapping.Mapping.{Mapping}
use Rattle.rb_arguments.specs.Types.{IsMapping, IsRpcb}
use Rattle.rb_show.specs.JsonLaws.{is_printable}
use Rattle.rb_show.specs.Rows.{address_of_port, mapping_row}
use Rattle.rb_show.specs.Texts.{prot_text, transport_text}
use Rattle.rb_show.proofs.JsonGrammar.{number, printable_small}

-- ---- lengths

transport_short : (prot : ℕ) (transport : Option Transport) → prot < 2 ^ 32 → length (transport_text prot transport) ≤ 32
transport_short prot (Some Tcp) small = omega arith
transport_short prot (Some Udp) small = omega arith
transport_short prot None small = omega (arith, length-decimal-le 10 prot (omega arith) (omega (arith, small)) (omega (arith, small)))

pub prot_short : (prot : ℕ) → prot < 2 ^ 32 → length (prot_text prot) ≤ 32
prot_short prot small = transport_short prot (transport_of_protocol prot) small

pub address_short : (port : ℕ) → port < 2 ^ 32 → length (address_of_port port) ≤ 128
address_short port small =
    let high : length (decimal (port / 256)) ≤ 8 = length-decimal-le 8 (port / 256) (omega arith) (omega (arith, small)) (omega (arith, small)) in
    let low : length (decimal (port % 256)) ≤ 3 = length-decimal-le 3 (port % 256) (omega arith) (omega arith) (omega arith) in
    omega (arith, high, low, length-append (decimal (port / 256)) (codes "." ++ decimal (port % 256)))

-- ---- bytes

digits_printable : (n : ℕ) → n < 2 ^ 64 → list_all is_printable (decimal n) ≡ true
digits_printable n small = (number n small).printable

transport_printable : (prot : ℕ) (transport : Option Transport) → prot < 2 ^ 32 → list_all is_printable (transport_text prot transport) ≡ true
transport_printable prot (Some Tcp) small = refl
transport_printable prot (Some Udp) small = refl
transport_printable prot None small = digits_printable prot (omega (arith, small))

address_printable : (high low : List ℕ) → list_all is_printable high ≡ true → list_all is_printable low ≡ true → list_all is_printable (codes "0.0.0.0." ++ (high ++ (codes "." ++ low))) ≡ true
address_printable high low h l = rw (list_all-append is_printable high (46 ∷ low), h, l) refl

are_bytes : (bytes : List ℕ) → AllByRecursion (λ b. b < 256) bytes → AreBytes bytes
are_bytes [] all i = omega arith
are_bytes (b ∷ bytes) all zero = all.0
are_bytes (b ∷ bytes) all (suc i) = are_bytes bytes all.1 i

printable_bytes : (bytes : List ℕ) → list_all is_printable bytes ≡ true → AreBytes bytes
printable_bytes bytes printable = are_bytes bytes (printable_small bytes printable)

-- ---- the row

prot_fits : (prot : ℕ) → IsNumber prot → IsContent 32 (prot_text prot)
prot_fits prot small =
    let short = prot_short prot small in
    (short, omega (arith, short), printable_bytes (prot_text prot) (transport_printable prot (transport_of_protocol prot) small))

address_fits : (port : ℕ) → IsNumber port → IsContent 128 (address_of_port port)
address_fits port small =
    let short = address_short port small in
    let high = digits_printable (port / 256) (omega (arith, small)) in
    let low = digits_printable (port % 256) (omega arith) in
    (short, omega (arith, short), printable_bytes (address_of_port port) (address_printable (decimal (port / 256)) (decimal (port % 256)) high low))

pub mapping_row_fits : (m : Mapping) → IsMapping m → IsRpcb (mapping_row m)
mapping_row_fits m fits = record {
  prog = fits.prog;
  vers = fits.vers;
  netid = prot_fits m.prot fits.prot;
  addr = address_fits m.port fits.port;
  owner = (omega arith, omega arith, printable_bytes (codes "unknown") refl);
}
