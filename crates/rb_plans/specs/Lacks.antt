-- The line of a version that is not available.
use Rattle.std.specs.Prelude.{ℕ, List, ◌++◌, codes}
use Rattle.std.specs.Fmt.{decimal}

-- COURSE-9
abbrev pub lack_line : ℕ → ℕ → List ℕ
lack_line prog vers = codes "program " ++ (decimal prog ++ (codes " version " ++ (decimal vers ++ codes " not available\n")))
