use Rattle.std.proofs.Common.{List, ℕ, ◌≡◌, ◌++◌, subst}
use Rattle.std.specs.Prelude.{OnOk}
use Rattle.rb_rpc.proofs.Numbers.{call_by_sys}
use Rattle.rb_rpc.proofs.call.put_call.Goals as goal

pub returns-in-Sys-clause-ok : goal.returns-in-Sys-clause-ok
returns-in-Sys-clause-ok c =
    subst (λ (text : List ℕ). OnOk c.put_numbers-in-Sys.result (c.put_numbers-in-Sys.new.out ≡ record c.args.out.now { bytes = c.args.out.now.bytes ++ text }))
    (call_by_sys c.args.head.now c.in-Sys.uid c.in-Sys.is) c.put_numbers-in-Sys.ensures.ok
