-- What a written line is, as the code has it.
use Rattle.std.specs.Prelude.{ℕ, List, ◌++◌, codes}
use Rattle.rb_lines.specs.declared.written_line.WrittenLine.{WrittenLine}
use Rattle.rb_lines.specs.declared.written_line.Tail.{Tail}
use Rattle.rb_lines.specs.declared.written_line.Tail.TheVariants as tails
use Rattle.rb_lines.specs.Printing.{hex_text}

-- what stands after the front: the end of the line alone, or bytes and the end
abbrev pub tail_text : Tail → List ℕ
tail_text tails.End = codes "\n"
tail_text (tails.Bytes bytes) = hex_text bytes.now ++ codes "\n"

abbrev pub line_text : WrittenLine → List ℕ
line_text line = line.front.text.items ++ tail_text line.tail
