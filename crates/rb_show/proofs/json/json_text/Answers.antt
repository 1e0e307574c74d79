use Rattle.std.proofs.Common.{◌<◌, ◌++◌, codes, length, get_or, ap, ◌∙◌, arith}
use Rattle.rb_show.specs.Json.{escaped_byte}
use Rattle.rb_show.proofs.GrowingTexts.{one_more}
use Rattle.rb_show.proofs.json.json_text.Goals as goal

pub loop-byte-preserved : goal.loop-byte-preserved
loop-byte-preserved c =
    let within : c.loop-byte.byte-index < length c.args.text.now = omega arith in
    c.in_ok-push_escaped.ensures ∙ ap (λ xs. xs ++ escaped_byte (get_or c.args.text.now c.loop-byte.byte-index 0)) c.loop-byte.invariant
    ∙ one_more escaped_byte (codes "\"") c.args.text.now c.loop-byte.byte-index 0 within
