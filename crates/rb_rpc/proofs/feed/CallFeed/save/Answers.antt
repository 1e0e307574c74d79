use Rattle.std.proofs.Common.{ℕ, ◌≡◌, ◌<◌, ◌%◌, List, length, ◌++◌, ap, ◌∙◌, sym, subst, refl, arith}
use Rattle.std.proofs.Math.ListN.{take}
use Rattle.std.proofs.Math.Seq.{take-append_seam}
use Rattle.rb_rpc.specs.Stages.{Stage}
use Rattle.rb_rpc.specs.Feeds.{CallFeed, StandsForCall}
use Rattle.rb_rpc.specs.Saved.{feed_saved_as, stage_saved_as}
use Rattle.rb_rpc.proofs.feed.CallFeed.save.Goals as goal

feed_is : (feed : CallFeed) (seen number : ℕ) (stage : Stage) → seen ≡ feed.seen → number ≡ feed.number → stage ≡ feed.stage → ◌≡◌ {A = CallFeed} (record { seen = seen; number = number; stage = stage }) feed
feed_is feed seen number stage a b c = rw (a, b, c) refl

-- eleven words are all that is taken of a list that begins with them
eleven : (xs ys : List ℕ) → length xs ≡ 11 → take 11 (xs ++ ys) ≡ xs
eleven xs ys count = subst (λ (n : ℕ). take n (xs ++ ys) ≡ xs) count (take-append_seam xs ys)

pub returns-clause-same : goal.returns-clause-same
unfolding feed_saved_as
returns-clause-same c =
    let small : c.args.self.now.seen < 256 = omega arith in
    let seen_is : c.from.result % 256 ≡ c.args.self.now.seen = omega (arith, c.from.ensures) in
    let copied = c.copy_from_slice.ensures in
    let stage_is = ap stage_saved_as (eleven c.copy_from_slice.new.self _ copied.len ∙ copied.after) ∙ c.stage_words.ensures in
    feed_is c.args.self.now _ _ _ seen_is refl stage_is

pub returns-clause-stands : goal.returns-clause-stands
returns-clause-stands c = λ fed h. subst (λ (f : CallFeed). StandsForCall f fed) (sym (returns-clause-same c)) h
