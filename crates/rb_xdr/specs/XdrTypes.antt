-- Ints, pairs and options (RFC 4506 sections 4.1, 4.14 and 4.19).
use Rattle.std.specs.Prelude.{ℕ, ◌+◌, Bool, true, false, List, ◌++◌, Option, Some, None, ℤ}
use Rattle.std.specs.Int.{cast_signed, cast_unsigned, w32}
use Rattle.rb_xdr.specs.Xdr.{number, boolean, Reader, ◌>>=◌, give, read_number, read_bool}

-- an int is the same in two's complement (section 4.1)
unfoldable pub signed : ℤ → List ℕ
signed z = number (cast_unsigned w32 z)

-- optional data is TRUE and the item, or FALSE (section 4.19)
unfoldable pub optional : {A : Type 0} → (A → List ℕ) → Option A → List ℕ
optional spelling (Some x) = boolean true ++ spelling x
optional spelling None = boolean false

unfoldable pub read_signed : Reader ℤ
read_signed = do
  n ← read_number
  give (cast_signed w32 n)

unfoldable pub read_pair : {A B : Type 0} → Reader A → Reader B → Reader (A × B)
read_pair first second = do
  a ← first
  b ← second
  give (a, b)

abbrev pub read_item : {A : Type 0} → Reader A → Bool → Reader (Option A)
read_item reads true = do
  x ← reads
  give (Some x)
read_item reads false = give None

unfoldable pub read_optional : {A : Type 0} → Reader A → Reader (Option A)
read_optional reads = do
  there ← read_bool
  read_item reads there

abbrev pub max_optional : ℕ → ℕ
max_optional max = 4 + max
