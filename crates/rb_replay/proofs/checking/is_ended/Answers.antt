use Rattle.std.proofs.lemmas.Slice.Eq.{bytes_eq-Decides}
use Rattle.rb_replay.proofs.Comparing.{ended_is}
use Rattle.rb_replay.proofs.checking.is_ended.Goals as goal

pub returns-in-Some : goal.returns-in-Some
returns-in-Some c = ended_is c.args.text.now c.args.line.now c.in-Some.front c.eq.result c.in-Some.ensures.cases (rw c.eq.ensures (bytes_eq-Decides c.in-Some.front.now c.args.line.now))
