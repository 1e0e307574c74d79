-- All that the bytes tell so far was added to the text.
use Rattle.std.proofs.Common.{◌-◌, length}
use Rattle.rb_show.proofs.Tellings.{HasTold}
use Rattle.rb_show.proofs.telling.Telling.tell.Given as goal

abbrev pub invariant-values : goal.invariant-values
invariant-values l = HasTold l.fn.self l.self l.bytes l.fn.text.items l.text.items l.used

abbrev pub decreases-values : goal.decreases-values
decreases-values l = length l.bytes - l.used
