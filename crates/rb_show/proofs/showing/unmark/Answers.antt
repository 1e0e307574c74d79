use Rattle.std.proofs.Common.{◌≡◌, ◌<◌, ◌+◌, ◌++◌, ◌∷◌, [], ℕ, List, true, false, length, take, drop, get_or, sym, ap, ◌∙◌, subst, arith, rules}
use Rattle.std.proofs.lemmas.List.{take_more, take_all, take-append-drop}
use Rattle.rb_rpc.specs.Streams.{StreamGoesOn}
use Rattle.rb_show.specs.Showings.{Keeps}
use Rattle.rb_show.proofs.Showings.{Kept, one_kept, ends_kept, all_kept}
use Rattle.rb_show.proofs.showing.unmark.Goals as goal

pub returns-then-ended : goal.returns-then-ended
returns-then-ended c =
    let i : ℕ = c.loop-byte.byte-index in
    let b : ℕ = get_or c.args.bytes.now i 0 in
    let within : i < length c.args.bytes.now = omega arith in
    let ended : c.feed-part.result.1 ≡ true = search rules in
    let stream : StreamGoesOn c.loop-byte.marks c.feed-part.result.0 (b ∷ []) true c.feed-part.new.self = rw ended at c.feed-part.ensures.stream in
    let keeps : Keeps c.feed-part.result.0 b c.loop-byte.held.items c.keep.new.held.items = search rules in
    λ before content s. ends_kept c.args.marks.now c.loop-byte.marks c.feed-part.new.self (take i c.args.bytes.now) c.args.held.now.items c.loop-byte.held.items c.keep.new.held.items c.feed-part.result.0 b
    c.loop-byte.invariant stream keeps c.args.bytes.now (drop (i + 1) c.args.bytes.now)
    (sym (take-append-drop (i + 1) c.args.bytes.now) ∙ ap (λ (xs : List ℕ). xs ++ drop (i + 1) c.args.bytes.now) (take_more c.args.bytes.now i 0 within)) before content s

pub loop-byte-preserved : goal.loop-byte-preserved
loop-byte-preserved c =
    let i : ℕ = c.loop-byte.byte-index in
    let b : ℕ = get_or c.args.bytes.now i 0 in
    let within : i < length c.args.bytes.now = omega arith in
    let ended : c.feed-part.result.1 ≡ false = search rules in
    let stream : StreamGoesOn c.loop-byte.marks c.feed-part.result.0 (b ∷ []) false c.feed-part.new.self = rw ended at c.feed-part.ensures.stream in
    let keeps : Keeps c.feed-part.result.0 b c.loop-byte.held.items c.keep.new.held.items = search rules in
    subst (λ (xs : List ℕ). Kept c.args.marks.now c.feed-part.new.self xs c.args.held.now.items c.keep.new.held.items) (sym (take_more c.args.bytes.now i 0 within))
    (one_kept c.args.marks.now c.loop-byte.marks c.feed-part.new.self (take i c.args.bytes.now) c.args.held.now.items c.loop-byte.held.items c.keep.new.held.items c.feed-part.result.0 b c.loop-byte.invariant stream keeps)

pub returns : goal.returns
returns c =
    let all : take c.loop-byte.byte-index c.args.bytes.now ≡ c.args.bytes.now = take_all c.loop-byte.byte-index c.args.bytes.now (omega arith) in
    all_kept c.args.marks.now c.loop-byte.marks c.args.bytes.now c.args.held.now.items c.loop-byte.held.items
    (subst (λ (xs : List ℕ). Kept c.args.marks.now c.loop-byte.marks xs c.args.held.now.items c.loop-byte.held.items) all c.loop-byte.invariant)
