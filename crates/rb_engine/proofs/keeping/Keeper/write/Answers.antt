use Rattle.rb_engine.specs.Keeping.{Keeps}
use Rattle.rb_engine.proofs.keeping.Keeper.write.Goals as goal

pub returns-in-Ok-clause-kept : goal.returns-in-Ok-clause-kept
returns-in-Ok-clause-kept g c = Keeps.Written c.in-Some.journal c.write.new.self c.in-Some.is c.note_written.ensures.journal c.in-Ok.ensures.written
