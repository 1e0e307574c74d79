use Rattle.rb_plans.proofs.HexTexts.{accepted, only, others, own_bytes, long, short}
use Rattle.rb_plans.proofs.laws.texts_are_hexadecimal.Goals as goal

pub returns : goal.returns
returns c = record { accepted = accepted; only = only; others = others; bytes = own_bytes; long = long; short = short }
