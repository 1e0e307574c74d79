-- The names of the lines so far are there.
use Rattle.std.proofs.Common.{◌≡◌, take}
use Rattle.std.specs.List.{flat_map}
use Rattle.rb_words.specs.Services.{named_numbers, services_in_line}
use Rattle.rb_words.proofs.services.read_services.Given as goal

abbrev pub invariant-loop-line : goal.invariant-loop-line
invariant-loop-line l = named_numbers l.services.items ≡ flat_map (λ line. services_in_line line.now) (take l.line-index l.line-items)
