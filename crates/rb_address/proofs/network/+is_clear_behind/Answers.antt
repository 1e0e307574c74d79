use Rattle.rb_address.proofs.NetworkBits.{behind_goes_on, behind_is_set}
use Rattle.rb_address.proofs.network.+is_clear_behind.Goals as goal

pub returns-then-is_octet_clear : goal.returns-then-is_octet_clear
returns-then-is_octet_clear t c =
    behind_goes_on c.args.bits c.min.result c.min.ensures c.args.octets.now c.is_octet_clear.result c.in-len1-up.len_at_least c.is_octet_clear.ensures
    c.saturating_sub.result c.is_clear_behind.result c.saturating_sub.ensures c.is_clear_behind.ensures c.if-is_octet_clear.true

pub returns-else-is_octet_clear : goal.returns-else-is_octet_clear
returns-else-is_octet_clear t c =
    behind_is_set c.args.bits c.min.result c.min.ensures c.args.octets.now c.is_octet_clear.result c.in-len1-up.len_at_least c.is_octet_clear.ensures c.if-is_octet_clear.false
