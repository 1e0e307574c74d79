use Rattle.rb_engine.proofs.Takings.{taken_written}
use Rattle.rb_engine.proofs.keeping.Journal.write.Goals as goal

pub returns-clause-written : goal.returns-clause-written
returns-clause-written g c =
    taken_written c.keep-done.new.self.file.placed (λ placed. placed.file) g.H.File.Write.contents c.note.new.engine.core.core c.note.new.self.is_known c.note.new.self.owners c.note.new.self.text.items c.note.new.self.file.placed c.keep-done.result c.note.ensures.engine.core c.note.ensures.file c.note.ensures.lines c.keep-done.ensures.taken
