-- The texts so far are joined.
use Rattle.std.proofs.Common.{◌≡◌, ◌++◌, codes, map, take}
use Rattle.std.specs.List.{flat_map}
use Rattle.std.specs.String.{string_bytes}
use Rattle.rb_show.proofs.summary.comma_list.Given as goal

abbrev pub invariant-loop-next : goal.invariant-loop-next
invariant-loop-next l = string_bytes l.text ≡ string_bytes l.initial.text ++ flat_map (λ next. codes "," ++ next) (map (λ one. one.now) (take l.next-index l.rest))
