use Rattle.std.proofs.Common.{List, subst}
use Rattle.rb_around.specs.declared.held.HeldLink.{HeldLink}
use Rattle.rb_around.specs.Turning.{ServesEach}
use Rattle.rb_daemon.proofs.GoingOn.{each_serves_none}
use Rattle.rb_daemon.proofs.serving.Serving.answer_changes.Goals as goal

pub returns-clause-each : goal.returns-clause-each
returns-clause-each g c = subst (λ (all : List HeldLink). ServesEach all c.args.self.now.places c.answer_changes.new.places) c.as_slice.ensures c.answer_changes.ensures

pub returns-clause-none : goal.returns-clause-none
returns-clause-none g c = each_serves_none c.as_slice.result.now c.args.self.now.places c.answer_changes.new.places c.answer_changes.ensures
