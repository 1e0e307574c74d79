use Rattle.std.proofs.Common.{rules, ◌≡◌}
use Rattle.std.specs.String.{string_bytes}
use Rattle.rb_show.specs.Statistics.{addr_stat}
use Rattle.rb_show.specs.Json.{json_text}
use Rattle.rb_show.specs.Objects.{program_members, found_members}
use Rattle.rb_show.proofs.objects.look_ups_object.Goals as goal

pub returns : goal.returns
returns c =
    let program : string_bytes c.in_ok-program.program ≡ program_members c.args.item.now.0 c.args.item.now.1.0 = search rules in
    let netid : string_bytes c.in_ok-netid.netid ≡ json_text c.args.item.now.1.1.1.1 = search rules in
    let found : string_bytes c.in_ok-found.found ≡ found_members (addr_stat c.args.item.now) = search rules in
    rw (program, netid, found) at c.format.ensures.ok
