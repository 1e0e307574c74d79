use Rattle.std.proofs.Common.{◌≡◌, ◌++◌, map, take, drop}
use Rattle.rb_sockets.specs.News.{told_of}
use Rattle.rb_sockets.proofs.listener.note_all_told.Given as goal

-- what those so far found is told
abbrev pub invariant-loop-listener : goal.invariant-loop-listener
invariant-loop-listener l = l.listeners ≡ map told_of (take l.listener-index l.fn.listeners) ++ drop l.listener-index l.fn.listeners
