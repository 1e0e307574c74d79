use Rattle.rpcinfo.proofs.Flushes.{answers_out}
use Rattle.rpcinfo.proofs.run.run_words.Goals as goal

pub returns-clause-says : goal.returns-clause-says
returns-clause-says g c = answers_out g.I.Read.remaining g.O.Write.contents c.args.words.now c.args.input.now c.args.output.now _ _ _ _ c.carry_out-answer.ensures.answer c.flush_answer-answer.ensures
