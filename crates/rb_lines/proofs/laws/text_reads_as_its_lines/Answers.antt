use Rattle.rb_lines.proofs.LineLaws.{reads_the_events, stops_at_the_first, refuses_long}
use Rattle.rb_lines.proofs.laws.text_reads_as_its_lines.Goals as goal

pub returns : goal.returns
returns c = record { events = reads_the_events; bad_line = stops_at_the_first; too_long = refuses_long }
