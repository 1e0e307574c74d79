use Rattle.std.specs.List.{list_all}
use Rattle.std.specs.Str.Parse.{digits_value}
use Rattle.std.proofs.Common.{◌≡◌, ◌<◌, ◌^◌, take, true}
use Rattle.rb_address.specs.Reading.{is_digit}
use Rattle.rb_address.proofs.reading.number_below.Given as goal

abbrev pub invariant-loop-b : goal.invariant-loop-b
invariant-loop-b l = (list_all is_digit (take l.b-index l.text) ≡ true) × (l.n ≡ digits_value 10 (take l.b-index l.text)) × (l.n < 2 ^ 64)
