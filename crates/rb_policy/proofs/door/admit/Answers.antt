use Rattle.std.proofs.Common.{◌∙◌, sym}
use Rattle.rb_policy.proofs.Doors.{never_shut}
use Rattle.rb_policy.proofs.door.admit.Goals as goal

pub returns-in-None-given_up : goal.returns-in-None-given_up
returns-in-None-given_up c =
    never_shut c.args.places.now c.args.newcomer.now (sym c.first_free.ensures ∙ c.in-None.is) c.in-None-given_up.ensures.none
