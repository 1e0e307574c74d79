use Rattle.rb_replay.proofs.running.run_replay.Goals as goal

pub returns-in-Err-clause-told : goal.returns-in-Err-clause-told
returns-in-Err-clause-told g c = λ fails. record {
  fault = c.in-Err.fault;
  why = c.in-Err.ensures.refused;
  status = c.explain_run.ensures.status;
  told = c.explain_run.ensures.told;
}
