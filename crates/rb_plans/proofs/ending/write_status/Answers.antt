use Rattle.rb_plans.proofs.ending.write_status.Goals as goal

pub returns-in-ProgMismatch : goal.returns-in-ProgMismatch
returns-in-ProgMismatch g c = rw c.in-ProgMismatch.is c.write_versions.ensures

pub returns-in-ProcUnavail : goal.returns-in-ProcUnavail
returns-in-ProcUnavail g c = rw c.in-ProcUnavail.is c.write_server-in-ProcUnavail.ensures

pub returns-in-GarbageArgs : goal.returns-in-GarbageArgs
returns-in-GarbageArgs g c = rw c.in-GarbageArgs.is c.write_server-in-GarbageArgs.ensures

pub returns-in-SystemErr : goal.returns-in-SystemErr
returns-in-SystemErr g c = rw c.in-SystemErr.is c.write_server-in-SystemErr.ensures

pub returns-in-RpcMismatch : goal.returns-in-RpcMismatch
returns-in-RpcMismatch g c = rw c.in-RpcMismatch.is c.write_versions-in-RpcMismatch.ensures

pub returns-in-AuthError : goal.returns-in-AuthError
returns-in-AuthError g c = rw c.in-AuthError.is c.write_auth.ensures
