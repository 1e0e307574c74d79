-- The names so far are added.
use Rattle.std.proofs.Common.{◌≡◌, ◌++◌, map, take}
use Rattle.rb_words.specs.Services.{named_numbers, pairs_with}
use Rattle.rb_words.proofs.services.push_names.Given as goal

abbrev pub invariant-loop-name : goal.invariant-loop-name
invariant-loop-name l = named_numbers l.services.items ≡ named_numbers l.fn.services.items ++ pairs_with (map (λ name. name.now) (take l.name-index l.names)) l.number
