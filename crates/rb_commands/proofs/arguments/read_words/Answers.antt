use Rattle.rb_commands.proofs.Unrun.{no_memory, unread}
use Rattle.rb_commands.proofs.arguments.read_words.Goals as goal

pub returns-in-Err-clause-unrun : goal.returns-in-Err-clause-unrun
returns-in-Err-clause-unrun g c = no_memory g.E.Write.contents _ _ c.args.output.now _ (c.explain.ensures.status, c.explain.ensures.told)

pub returns-in-Ok-try_get_matches_from-clause-unrun : goal.returns-in-Ok-try_get_matches_from-clause-unrun
returns-in-Ok-try_get_matches_from-clause-unrun g c = unread g.E.Write.contents _ _ c.args.output.now c.read_matches.result c.read_matches.ensures.unread
