use Rattle.rb_address.proofs.NetworkBits.{octet_clear}
use Rattle.rb_address.proofs.network.is_octet_clear.Goals as goal

pub returns : goal.returns
returns c = rw c.from.ensures (octet_clear c.args.x c.ranges.x.fits c.args.bits c.requires)
