-- The lines of an input that say what its events gave.
use Rattle.std.specs.Prelude.{ℕ, if◌then◌else◌, List, [], ◌∷◌, ◌++◌, take, drop, map, codes}
use Rattle.std.specs.List.{flat_map}
use Rattle.std.specs.Str.{bytes_eq}
use Rattle.rb_model.specs.Step.{Output}
use Rattle.rb_lines.specs.Printing.{output_text}
use Rattle.rb_lines.specs.Lines.{lines_of}

-- The output line that stands after `#> `, with the line feed that ends it. Another line has none.
unfoldable pub output_line_in : List ℕ → List (List ℕ)
output_line_in line = if bytes_eq (take 3 line) (codes "#> ") then (drop 3 line ++ codes "\n") ∷ [] else []

-- the output lines that a text has
unfoldable pub output_lines_in : List ℕ → List (List ℕ)
output_lines_in text = flat_map output_line_in (lines_of text)

-- the output lines of a run
unfoldable pub output_lines : List Output → List (List ℕ)
output_lines outputs = map output_text outputs
