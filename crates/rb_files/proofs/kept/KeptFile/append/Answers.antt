use Rattle.std.proofs.Common.{refl, sym}
use Rattle.rb_files.proofs.kept.KeptFile.append.Goals as goal

pub returns-clause-taken : goal.returns-clause-taken
returns-clause-taken g c = record { before = c.in-Some.placed; after = record { file = c.add_to.new.file; identity = c.in-Some.placed.identity }; was = sym c.in-Some.ensures.value; is = refl; grown = c.in_default-add_to.ensures }
