use Rattle.std.proofs.Common.{rules, ◌≡◌}
use Rattle.std.specs.String.{string_bytes}
use Rattle.rb_show.specs.Objects.{place_members, family_members}
use Rattle.rb_show.proofs.objects.entry_object.Goals as goal

pub returns : goal.returns
returns c =
    let place : string_bytes c.in_ok-place.place ≡ place_members c.args.item.now.netid c.args.item.now.maddr = search rules in
    let family : string_bytes c.in_ok-family.family ≡ family_members c.args.item.now.protofmly c.args.item.now.proto = search rules in
    rw (place, family) at c.format.ensures.ok
