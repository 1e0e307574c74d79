use Rattle.std.proofs.Common.{◌∙◌, arith, drop, take_all, length-drop}
use Rattle.rb_address.proofs.host.last_four.Goals as goal

pub returns : goal.returns
returns c =
    let octets = c.args.octets.now in
    c.copy_from_slice.ensures.after ∙ take_all 4 (drop 12 octets) (omega (arith, length-drop 12 octets, c.told-octets))
