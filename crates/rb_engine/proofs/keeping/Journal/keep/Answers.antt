use Rattle.rb_engine.specs.Keeping.{Takes}
use Rattle.rb_engine.proofs.keeping.Journal.keep.Goals as goal

pub returns-clause-taken : goal.returns-clause-taken
returns-clause-taken g c = Takes.Anew c.replace.new.self.text.items c.in_ok-replace.ensures.lines c.in_ok-replace.ensures.taken
