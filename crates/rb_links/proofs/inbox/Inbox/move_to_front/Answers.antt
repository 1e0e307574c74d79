use Rattle.std.proofs.Common.{◌-◌, take, ◌∙◌, ap}
use Rattle.rb_evidence.proofs.WalkLaws.{copied}
use Rattle.rb_links.proofs.inbox.Inbox.move_to_front.Goals as goal

pub returns : goal.returns
returns c =
    ap (take (c.self.inside.end - c.self.inside.start)) c.copy_within.ensures.after
    ∙ copied c.self.inside.bytes c.self.inside.start c.self.inside.end c.self.invariant.0 c.self.invariant.1
    ∙ c.self.view_is
