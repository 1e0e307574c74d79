-- The bytes so far are escaped, after the first quotation mark.
use Rattle.std.proofs.Common.{◌≡◌, ◌++◌, codes, take}
use Rattle.std.specs.List.{flat_map}
use Rattle.std.specs.String.{string_bytes}
use Rattle.rb_show.specs.Json.{escaped_byte}
use Rattle.rb_show.proofs.json.json_text.Given as goal

abbrev pub invariant-loop-byte : goal.invariant-loop-byte
invariant-loop-byte l = string_bytes l.json ≡ codes "\"" ++ flat_map escaped_byte (take l.byte-index l.text)
