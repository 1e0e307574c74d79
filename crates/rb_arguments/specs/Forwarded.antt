-- Calls that are made for a caller (RFC 1833 sections 2.1 and 3.1).
use Rattle.std.specs.Prelude.{ℕ}

-- the most bytes of arguments of such a call: the limit of args
-- ARGS-2
unfoldable pub longest_forwarded : ℕ
longest_forwarded = 8800
