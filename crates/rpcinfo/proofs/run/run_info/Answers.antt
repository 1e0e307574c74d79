use Rattle.rb_plans.specs.declared.fault.Fault.TheVariants.{Info}
use Rattle.rpcinfo.proofs.Endings.{explained, noticed, unread_noticed}
use Rattle.rpcinfo.proofs.run.run_info.Goals as goal

pub returns-in-Err-clause-quiet : goal.returns-in-Err-clause-quiet
returns-in-Err-clause-quiet g c = λ zero. unread_noticed g.E.Write.contents _ _ _ (c.show.ensures.ends.quiet zero)

pub returns-in-Err-services_for-clause-failed : goal.returns-in-Err-services_for-clause-failed
returns-in-Err-services_for-clause-failed g c = λ one. explained g.E.Write.contents _ _ _ (Info c.in-Err-services_for.fault) c.explain.ensures.status c.explain.ensures.said

pub returns-in-Ok-read_matches-clause-quiet : goal.returns-in-Ok-read_matches-clause-quiet
returns-in-Ok-read_matches-clause-quiet g c = λ zero.
    noticed g.E.Write.contents c.args.faults.now c.read_matches.new.faults c.run_words.new.faults c.run_words.result.1 c.run_words.result.0.0 c.run_words.result.0.1 c.in-Ok-read_matches.ensures.read zero
    c.run_words.ensures.ends c.run_words.ensures.quiet
