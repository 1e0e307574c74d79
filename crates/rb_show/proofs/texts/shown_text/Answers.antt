use Rattle.std.proofs.Common.{◌≡◌, ◌<◌, ◌++◌, length, get_or, rules, arith, ap, ◌∙◌}
use Rattle.std.specs.Prelude.{encode_utf8}
use Rattle.std.specs.String.{string_bytes}
use Rattle.rb_show.specs.Texts.{shown_byte}
use Rattle.rb_show.proofs.ShownBytes.{more, whole}
use Rattle.rb_show.proofs.texts.shown_text.Goals as goal

pub loop-byte-preserved : goal.loop-byte-preserved
loop-byte-preserved c =
    let within : c.loop-byte.byte-index < length c.args.text.now = omega arith in
    let pushed : string_bytes c.push.new.self ≡ string_bytes c.loop-byte.shown ++ encode_utf8 (shown_byte (get_or c.args.text.now c.loop-byte.byte-index 0)) = search rules in
    pushed ∙ ap (λ xs. xs ++ encode_utf8 (shown_byte (get_or c.args.text.now c.loop-byte.byte-index 0))) c.loop-byte.invariant ∙ more c.args.text.now c.loop-byte.byte-index within

pub returns : goal.returns
returns c =
    let some : 0 < length c.args.text.now = search rules in
    whole c.args.text.now (string_bytes c.loop-byte.shown) c.loop-byte.byte-index (omega arith) some c.loop-byte.invariant
