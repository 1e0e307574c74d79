use Rattle.rb_plans.proofs.ending.write_auth.Goals as goal

pub returns : goal.returns
returns g c = rw (← c.auth_text-text.ensures) c.writeln.ensures.bytes
