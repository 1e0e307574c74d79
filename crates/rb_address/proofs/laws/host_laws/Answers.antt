use Rattle.rb_address.proofs.HostLaws.{plain_is_host, plain_stays, mapped_is_plain}
use Rattle.rb_address.proofs.laws.host_laws.Goals as goal

pub returns : goal.returns
returns c = record { plain_is_host = plain_is_host; plain_stays = plain_stays; mapped_is_plain = mapped_is_plain }
