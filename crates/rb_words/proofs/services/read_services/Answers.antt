use Rattle.std.proofs.Common.{◌≡◌, ◌∙◌, ap, arith, length, take}
use Rattle.std.specs.Prelude.{nat_lt, false}
use Rattle.std.specs.List.{flat_map}
use Rattle.std.proofs.lemmas.Bool.{le-ltb}
use Rattle.std.proofs.lemmas.List.{take_all}
use Rattle.rb_words.specs.Services.{services_in_line, longest_services}
use Rattle.rb_words.proofs.Plain.{flat_map_now}
use Rattle.rb_words.proofs.services.read_services.Goals as goal

pub returns : goal.returns
returns c =
    let lines = c.in_ok-lines.lines.items in
    let fits : nat_lt longest_services (length c.args.text.now) ≡ false = le-ltb longest_services (length c.args.text.now) (omega arith) in
    let all : take c.loop-line.line-index c.deref-line-items.result.now ≡ lines = take_all c.loop-line.line-index c.deref-line-items.result.now (omega arith) ∙ c.deref-line-items.ensures.value in
    rw fits (c.loop-line.invariant ∙ ap (flat_map (λ line. services_in_line line.now)) all ∙ flat_map_now services_in_line lines ∙ ap (flat_map services_in_line) c.in_ok-lines.ensures)
