use Rattle.std.proofs.Common.{sym, ◌∙◌}
use Rattle.rb_answers.proofs.Addresses.{shown_anew, shown_as_set}
use Rattle.rb_answers.proofs.shown.address_anew.Goals as goal

pub returns-in-Some : goal.returns-in-Some
returns-in-Some c =
    rw c.merge.ensures (sym (shown_anew c.args.hosts.now c.args.row.now c.in-Some.address (sym c.address_in.ensures ∙ c.in-Some.is) (sym c.is_told_anew.ensures ∙ c.if-is_told_anew.true)))

pub returns-in_default : goal.returns-in_default
returns-in_default c =
    sym (shown_as_set c.args.hosts.now c.args.row.now c.in-Some.address (sym c.address_in.ensures ∙ c.in-Some.is) (sym c.is_told_anew.ensures ∙ c.if-is_told_anew.false))
