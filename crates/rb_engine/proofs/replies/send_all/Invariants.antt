use Rattle.std.proofs.Common.{drop}
use Rattle.rb_engine.specs.Waiting.{HandsAll}
use Rattle.rb_engine.proofs.replies.send_all.Given as goal

-- whatever the sockets become by the replies that are left, they become by all
abbrev pub invariant-loop-held : goal.invariant-loop-held
invariant-loop-held g l = (x : g.row.S.Denot) → HandsAll g.S.Datagrams.sends (drop l.held-index l.all) l.sockets x → HandsAll g.S.Datagrams.sends l.all l.fn.sockets x
