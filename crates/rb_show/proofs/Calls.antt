-- Calls have some bytes.
use Rattle.std.proofs.Common.{◌≤◌, ℕ, arith, length, length-append}
use Rattle.rb_xdr.proofs.Words.{length-number}
use Rattle.rb_rpc.specs.CallBytes.{call_bytes}
use Rattle.rb_show.specs.declared.ask.Ask.{Ask}
use Rattle.rb_show.specs.Asks.{call_of}

pub call_some : (ask : Ask) (xid : ℕ) → 1 ≤ length (call_of ask xid)
unfolding call_of call_bytes
call_some ask xid = simp (length-append, length-number) (omega arith)
