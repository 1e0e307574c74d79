use Rattle.std.proofs.Common.{◌≡◌, drop, length}
use Rattle.rb_commands.specs.Options.{reserve_at, reserved_from}
use Rattle.rb_commands.proofs.Binds.{with_front}
use Rattle.rb_commands.proofs.options.read_reserved.Given as goal

abbrev pub invariant-loop-text : goal.invariant-loop-text
invariant-loop-text l = with_front reserve_at l.reserved (reserved_from (length l.reserved) (drop l.text-index l.texts)) ≡ reserved_from 0 l.texts
