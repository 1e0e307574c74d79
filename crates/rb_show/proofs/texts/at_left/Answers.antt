use Rattle.std.proofs.Common.{◌≡◌, ℕ, List, ◌-◌, ◌++◌, ◌∷◌, [], length, replicate, rules, arith, ap, ◌∙◌, append_assoc, lit<}
use Rattle.std.specs.Prelude.{encode_utf8}
use Rattle.std.specs.String.{string_bytes}
use Rattle.std.proofs.lemmas.List.{replicate_more}
use Rattle.std.proofs.lemmas.Str.{encode_ascii}
use Rattle.rb_show.proofs.texts.at_left.Goals as goal

pub loop-place-preserved : goal.loop-place-preserved
loop-place-preserved c =
    let text = c.args.text.now in
    let spaces : List ℕ = replicate c.loop-place.place 32 in
    let pushed : string_bytes c.push.new.self ≡ string_bytes c.loop-place.padded ++ encode_utf8 32 = search rules in
    pushed ∙ ap (λ xs. xs ++ encode_utf8 32) c.loop-place.invariant ∙ ap (λ xs. (text ++ spaces) ++ xs) (encode_ascii 32 (lit< tt))
    ∙ append_assoc text spaces (32 ∷ []) ∙ ap (λ xs. text ++ xs) (replicate_more c.loop-place.place 32)

pub returns : goal.returns
returns c =
    let all : c.loop-place.place ≡ c.args.width - length c.args.text.now = omega arith in
    c.loop-place.invariant ∙ ap (λ n. c.args.text.now ++ replicate n 32) all
