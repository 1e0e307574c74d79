-- Numbers of an event line, and what they are spelled from.
use Rattle.std.proofs.Common.{◌≡◌, ◌^◌, ℕ, List, Some}
use Rattle.rb_address.specs.Reading.{number_below}
use Rattle.rb_address.proofs.Words.{decimal_is, decimal_of}
use Rattle.rb_lines.specs.LineGrammar.{SpellsNumber}

pub number_is : (text : List ℕ) (n : ℕ) → number_below (2 ^ 64) text ≡ Some n → SpellsNumber n text
number_is text n h = let is = decimal_is (2 ^ 64) text n h in record { digits = is.0; value = is.1; fits = is.2 }

pub number_of : (text : List ℕ) (n : ℕ) → SpellsNumber n text → number_below (2 ^ 64) text ≡ Some n
number_of text n s = decimal_of (2 ^ 64) text n s.digits s.value s.fits
