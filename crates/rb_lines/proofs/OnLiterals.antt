use Rattle.std.specs.Prelude.{⊤}
use Rattle.hex.proofs.OnLiterals.{hex_on_literals}
use Rattle.rb_address.proofs.OnLiterals.{rb_address_on_literals}
use Rattle.rb_lines.specs.Fields.{hex_bytes}
use Rattle.rb_lines.specs.Lines.{datagram_line, event, lone_event, line, lines_of, longest_input, forward_line, open_line, bytes_line, gave_line, events_from, read}
use Rattle.rb_lines.specs.Printing.{report_of}

-- What is unfolded to compute the definitions of this crate, and of those below, on literals.
unfoldable pub rb_lines_on_literals : ⊤
unfolding hex_on_literals rb_address_on_literals
    hex_bytes
    datagram_line event lone_event line lines_of longest_input forward_line open_line bytes_line
    gave_line events_from read
    report_of
rb_lines_on_literals = tt
