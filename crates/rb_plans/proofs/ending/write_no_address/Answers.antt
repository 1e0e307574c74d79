use Rattle.rb_plans.proofs.ending.write_no_address.Goals as goal

pub returns : goal.returns
returns g c = rw (← c.family_text-text.ensures) c.writeln.ensures.bytes
