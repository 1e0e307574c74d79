-- The bytes so far are shown.
use Rattle.std.proofs.Common.{◌≡◌, map, take}
use Rattle.std.specs.String.{string_bytes}
use Rattle.rb_show.specs.Texts.{shown_byte}
use Rattle.rb_show.proofs.texts.shown_text.Given as goal

abbrev pub invariant-loop-byte : goal.invariant-loop-byte
invariant-loop-byte l = string_bytes l.shown ≡ map shown_byte (take l.byte-index l.text)
