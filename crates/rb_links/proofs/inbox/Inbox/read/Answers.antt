use Rattle.std.proofs.Common.{◌-◌, ◌∙◌}
use Rattle.rb_evidence.proofs.WalkLaws.{read_behind}
use Rattle.rb_links.proofs.Readings.{came}
use Rattle.rb_links.proofs.inbox.Inbox.read.Goals as goal
use borrow.Rule.Slice.PartMut.{post_of}

pub returns-clause-read : goal.returns-clause-read
returns-clause-read g c =
    let s = c.self.inside.start in
    let e = c.self.inside.end in
    let rest = post_of e (1024 - e) c.self.inside.bytes in
    read_behind c.args.self.now c.self.inside.bytes c.read.new.buf rest s e c.in_ok-n.n
    (c.self.view_is ∙ c.move_to_front.ensures) c.self.invariant.0 c.self.invariant.1 c.in_ok-n.ensures.bound.0

pub returns-clause-came : goal.returns-clause-came
returns-clause-came g c =
    let s = c.self.inside.start in
    let e = c.self.inside.end in
    let rest = post_of e (1024 - e) c.self.inside.bytes in
    rw (← came c.args.self.now c.self.inside.bytes c.read.new.buf rest s e c.in_ok-n.n
    (c.self.view_is ∙ c.move_to_front.ensures) c.self.invariant.0 c.self.invariant.1 c.in_ok-n.ensures.bound.0) c.in_ok-n.ensures.bytes.0
