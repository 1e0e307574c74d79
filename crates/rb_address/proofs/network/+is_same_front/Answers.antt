use Rattle.rb_address.proofs.NetworkBits.{front_goes_on, front_differs}
use Rattle.rb_address.proofs.network.+is_same_front.Goals as goal

pub returns-then-is_same_octet : goal.returns-then-is_same_octet
returns-then-is_same_octet t c =
    front_goes_on c.args.bits c.min.result c.min.ensures c.args.a.now c.args.b.now c.is_same_octet.result c.in-len1-up.len_at_least c.in-len1-up-b.len_at_least c.is_same_octet.ensures
    c.saturating_sub.result c.is_same_front.result c.saturating_sub.ensures c.is_same_front.ensures c.if-is_same_octet.true

pub returns-else-is_same_octet : goal.returns-else-is_same_octet
returns-else-is_same_octet t c =
    front_differs c.args.bits c.min.result c.min.ensures c.args.a.now c.args.b.now c.is_same_octet.result c.in-len1-up.len_at_least c.in-len1-up-b.len_at_least c.is_same_octet.ensures c.if-is_same_octet.false
