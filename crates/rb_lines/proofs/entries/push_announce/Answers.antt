use Rattle.std.proofs.Common.{◌++◌, ◌∙◌, ℕ, List, ap, append_assoc, codes}
use Rattle.rb_address.specs.Peers.{bare_host_text}
use Rattle.rb_lines.proofs.entries.push_announce.Goals as goal

pub returns-clause-text : goal.returns-clause-text
returns-clause-text c =
    c.push_host.ensures.text
    ∙ ap (λ (front : List ℕ). front ++ bare_host_text c.args.host) c.push.ensures.text
    ∙ append_assoc c.args.front.now.text.items (codes " --announce ") (bare_host_text c.args.host)
