use Rattle.std.proofs.Common.{◌≡◌, ◌<◌, ◌∙◌, ℕ, List, [], ◌∷◌, length, map, take, min, ap, rules, arith}
use Rattle.std.proofs.lemmas.List.{take_min, length-take}
use Rattle.rb_policy.specs.LogLines.{shown_byte, shown_text}
use Rattle.rb_policy.proofs.log_lines.shown_text.Goals as goal

-- the first 128 bytes are shown
all_shown : (text shown : List ℕ) (i : ℕ) → i ≡ min 128 (length text) → 0 < length text → shown ≡ map shown_byte (take i text) → shown ≡ shown_text text
all_shown [] shown i all some e = absurd (omega (arith, some))
all_shown (b ∷ text) shown i all some e =
    e ∙ ap (λ (n : ℕ). map shown_byte (take n (b ∷ text))) all ∙ ap (map shown_byte) (take_min 128 (b ∷ text))

pub returns : goal.returns
returns c =
    let text = c.args.text.now in
    let some : 0 < length text = search rules in
    all_shown text c.loop-byte.shown.bytes c.loop-byte.byte-index (omega (arith, length-take c.min.result text)) some c.loop-byte.invariant.bytes
