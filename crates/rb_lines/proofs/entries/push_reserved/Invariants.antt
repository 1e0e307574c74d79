use Rattle.std.proofs.Common.{◌≡◌, ◌≤◌, ◌+◌, ◌*◌, ◌++◌, length, take, ℕ, List}
use Rattle.rb_lines.specs.Entries.{reserved_text}
use Rattle.rb_lines.proofs.entries.push_reserved.Given as goal

abbrev pub invariant-loop-reservation : goal.invariant-loop-reservation
invariant-loop-reservation l =
    (l.front.text.items ≡ l.fn.front.text.items ++ reserved_text (take l.reservation-index l.all))
    × (length l.front.text.items ≤ length l.fn.front.text.items + 73 * l.reservation-index)
