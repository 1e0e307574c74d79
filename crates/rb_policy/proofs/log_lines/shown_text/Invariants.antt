-- The bytes so far are shown.
use Rattle.std.proofs.Common.{◌≡◌, map, take, length, ◌≤◌}
use Rattle.rb_policy.specs.LogLines.{shown_byte}
use Rattle.rb_policy.proofs.log_lines.shown_text.Given as goal

abbrev pub invariant-loop-byte : goal.invariant-loop-byte
invariant-loop-byte l = record {
  bytes : l.shown.bytes ≡ map shown_byte (take l.byte-index l.text);
  len : length l.shown.bytes ≤ l.byte-index;
}
