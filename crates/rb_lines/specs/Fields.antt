-- The bytes of an event line.
use Rattle.std.specs.Prelude.{ℕ, ◌==◌, if◌then◌else◌, List, [], length, codes, Option, Some, None}
use Rattle.std.specs.Result.{result_ok}
use Rattle.std.specs.Str.{bytes_eq}
use Rattle.hex.specs.Hex.{decode_of}

-- hexadecimal digits, two for each byte, or `-` for no bytes
unfoldable pub hex_bytes : List ℕ → Option (List ℕ)
hex_bytes text =
    if bytes_eq text (codes "-") then Some []
    else if length text == 0 then None
    else result_ok (decode_of text)
