-- Texts of JSON are printable.
use Rattle.std.proofs.Common.{◌≡◌, ◌<◌, ℕ, List, [], ◌∷◌, true, refl, arith}
use Rattle.std.specs.List.{AllByRecursion, list_all, flat_map}
use Rattle.std.proofs.lemmas.Bool.Decides.{nat_tests}
use Rattle.std.proofs.lemmas.List.Folds.{list_all-append}
use Rattle.rb_show.specs.Json.{hex_digit, escaped_byte}
use Rattle.rb_show.specs.JsonLaws.{is_printable, AllBytesArePrintable}

printable_digit : (n : ℕ) → n < 16 → is_printable (hex_digit n) ≡ true
printable_digit n small = grind (arith, nat_tests, small)

printable_byte : (b : ℕ) → b < 256 → list_all is_printable (escaped_byte b) ≡ true
printable_byte b small = grind (arith, nat_tests, printable_digit, small)

printable_bytes : (text : List ℕ) → AllByRecursion (λ b. b < 256) text → list_all is_printable (flat_map escaped_byte text) ≡ true
printable_bytes [] all = refl
printable_bytes (b ∷ text) all = rw (list_all-append is_printable (escaped_byte b) (flat_map escaped_byte text), printable_byte b all.0, printable_bytes text all.1) refl

pub printable_json : AllBytesArePrintable
printable_json text all = rw (list_all-append is_printable (flat_map escaped_byte text) (34 ∷ []), printable_bytes text all) refl
