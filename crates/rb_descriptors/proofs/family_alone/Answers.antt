use Rattle.std.proofs.Common.{[], refl, ap, ◌∙◌}
use Rattle.std.specs.Net.SockAddr.{in_storage}
use Rattle.std.proofs.NetLemmas.SockAddrs.{in_storage-nil}
use Rattle.rb_descriptors.proofs.family_alone.Goals as goal

pub returns : goal.returns
returns c = c.put.ensures [] refl in_storage-nil ∙ ap in_storage c.to_ne_bytes.ensures
