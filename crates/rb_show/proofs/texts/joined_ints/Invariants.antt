-- The numbers so far are joined.
use Rattle.std.proofs.Common.{◌≡◌, ◌++◌, map, take}
use Rattle.std.specs.Fmt.{signed_decimal}
use Rattle.std.specs.List.{flat_map}
use Rattle.std.specs.String.{string_bytes}
use Rattle.rb_show.proofs.texts.joined_ints.Given as goal

abbrev pub invariant-loop-next : goal.invariant-loop-next
invariant-loop-next l = string_bytes l.text ≡ string_bytes l.initial.text ++ flat_map (λ next. l.between ++ next) (map signed_decimal (take l.next-index l.rest))
