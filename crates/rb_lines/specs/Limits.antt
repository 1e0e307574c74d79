-- Which limit is out of its range.
use Rattle.std.specs.Prelude.{ℕ, ◌+◌, Bool, ◌||◌, nat_lt, if◌then◌else◌, List, ◌++◌, length, codes, Option, Some, None}
use Rattle.std.specs.Fmt.{decimal}
use Rattle.rb_model.specs.declared.types.Limits.{Limits}
use Rattle.rb_answers.specs.declared.listener.Listener.{Listener}
use Rattle.rb_answers.specs.Callers.{own_rows}
use Rattle.rb_lines.specs.declared.limits.BadLimit.{BadLimit}
use Rattle.rb_lines.specs.declared.limits.BadLimit.TheVariants.{Conns, Rows, Forwards}

abbrev pub is_outside : ℕ → ℕ → ℕ → Bool
is_outside least most n = nat_lt n least || nat_lt most n

-- the least rows: those of the listener itself, and two more
abbrev pub least_rows : Listener → ℕ
least_rows listener = length (own_rows listener) + 2

-- FAULT-2: Limits out of their ranges end `serve` with status 1, and a line says the first that is,
-- of connections, rows and forwarded calls.
abbrev pub bad_limit : Limits → Listener → Option BadLimit
bad_limit limits listener =
    if is_outside 1 256 limits.conns then Some (Conns limits.conns)
    else (if is_outside (least_rows listener) 4096 limits.rows then Some (Rows limits.rows (least_rows listener))
    else (if is_outside 0 64 limits.forwards then Some (Forwards limits.forwards) else None))

-- what is said of it
abbrev pub limit_text : BadLimit → List ℕ
limit_text (Conns n) = codes "--conns " ++ (decimal n ++ codes ": 1 to 256 is wanted")
limit_text (Rows n least) = codes "--rows " ++ (decimal n ++ (codes ": " ++ (decimal least ++ codes " to 4096 is wanted")))
limit_text (Forwards n) = codes "--forwards " ++ (decimal n ++ codes ": 0 to 64 is wanted")
