use Rattle.std.proofs.Common.{rules, ◌≡◌}
use Rattle.std.specs.String.{string_bytes}
use Rattle.rb_show.specs.Statistics.{call_stat}
use Rattle.rb_show.specs.Json.{json_text}
use Rattle.rb_show.specs.Objects.{procedure_members, outcomes_members}
use Rattle.rb_show.proofs.objects.forwards_object.Goals as goal

pub returns : goal.returns
returns c =
    let procedure : string_bytes c.in_ok-procedure.procedure ≡ procedure_members (call_stat c.args.item.now) = search rules in
    let netid : string_bytes c.in_ok-netid.netid ≡ json_text c.args.item.now.1.1.1.1.1.1 = search rules in
    let outcomes : string_bytes c.in_ok-outcomes.outcomes ≡ outcomes_members (call_stat c.args.item.now) = search rules in
    rw (procedure, netid, outcomes) at c.format.ensures.ok
