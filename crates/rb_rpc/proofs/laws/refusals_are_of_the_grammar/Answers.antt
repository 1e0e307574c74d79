use Rattle.rb_rpc.proofs.Refusals.{mismatches_agree, auth_errors_agree, the_rest}
use Rattle.rb_rpc.proofs.laws.refusals_are_of_the_grammar.Goals as goal

pub returns-clause-mismatch : goal.returns-clause-mismatch
returns-clause-mismatch c = mismatches_agree

pub returns-clause-auth_error : goal.returns-clause-auth_error
returns-clause-auth_error c = auth_errors_agree

pub returns-clause-no_call : goal.returns-clause-no_call
returns-clause-no_call c = the_rest
