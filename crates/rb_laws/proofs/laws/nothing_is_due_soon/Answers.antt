use Rattle.std.proofs.Common.{◌+◌, arith}
use Rattle.rb_laws.proofs.EntriesKept.{reached-kept}
use Rattle.rb_laws.proofs.FewDue.{live-few, reaches}
use Rattle.rb_laws.proofs.Room.{reached-room}
use Rattle.rb_laws.proofs.laws.nothing_is_due_soon.Goals as goal

pub returns : goal.returns
returns c = λ s reached now.
    let entries = (reached-kept s reached).few in
    let room = reached-room s reached in
    let live = live-few s.connections.all in
    let r = reaches (s.setting.limits.conns + s.setting.limits.forwards) s now (omega (arith, entries, room, live)) in
    record { calls = r.calls; few = r.few; nothing = r.nothing }
