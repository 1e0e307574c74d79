use Rattle.rb_address.proofs.NetworkBits.{same_octet}
use Rattle.rb_address.proofs.network.is_same_octet.Goals as goal

pub returns : goal.returns
returns c = rw (c.from.ensures, c.from-2.ensures) (same_octet c.args.x c.args.y c.ranges.x.fits c.ranges.y.fits c.args.bits c.requires)
