-- What is posted is what the model gives.
use Rattle.std.proofs.Common.{◌≡◌, ◌<◌, ◌≤◌, ◌+◌, ℕ, List, Option, Some, None, IfSome, length, get_or, drop, refl, ap, subst, sym, ◌∙◌}
use Rattle.std.proofs.lemmas.List.{drop_more, drop_all}
use Rattle.rb_address.specs.declared.who.Source.{Source}
use Rattle.rb_model.specs.State.{State}
use Rattle.rb_model.specs.Calls.{Outcome, Outcome as outcomes, reply_in}
use Rattle.rb_core.specs.StandsFor.{CoreView, StandsFor}
use Rattle.rb_forward.specs.Forwards.{Unsent}
use Rattle.rb_policy.specs.WaysBack.{Ways, noted}
use Rattle.rb_model.specs.Step.{unsent_call}
use Rattle.rb_core.specs.Events.{OnlyBegins}
use Rattle.rb_arrivals.specs.Dispatches.{Dispatch, Hands}
use Rattle.rb_engine.specs.declared.engine.Answer.TheVariants as answers
use Rattle.rb_engine.specs.declared.engine.Engine.{Engine}
use Rattle.rb_engine.specs.Keeping.{SameEngine}
use Rattle.rb_engine.specs.Moves.{ActsNow, HandsNow, ShowsNow}
use Rattle.rb_engine.specs.Served.{answered, send_unsent}
use Rattle.rb_engine.specs.Sending.{answer_sent, call_sent, way_noted, ways_answered}
use Rattle.rb_engine.specs.Waiting.{Waiting, waiting, dispatch_of, HandsAll, PostsReply, Posts}
use Rattle.rb_engine.specs.Waiting.Posts.{HandedOn, Posted}

pub replied_posts : {S : Type 0} (sends : S → Dispatch → S → Type 0) (socket : ℕ) (to : Source) (bytes : List ℕ) (r : Outcome × State) (before after : List Waiting) (old new : S) → answers.Reply ≡ (answered r).0 → bytes ≡ reply_in r.0 → PostsReply sends (waiting socket to bytes) before after old new → Posts sends (answer_sent socket to r) before after old new
replied_posts sends socket to bytes (outcomes.NoCall, s) before after old new is same posted = absurd cc
replied_posts sends socket to bytes (outcomes.Reply given stamp, s) before after old new is same posted = rw (← same) (Posted (waiting socket to bytes) refl posted)
replied_posts sends socket to bytes (outcomes.Forwarded, s) before after old new is same posted = absurd cc
replied_posts sends socket to bytes (outcomes.Silent, s) before after old new is same posted = absurd cc

-- ---- a call is forwarded, after looks

pub stands_after : {first mid last : CoreView} {s : State} → last ≡ mid → mid ≡ first → StandsFor first s → StandsFor last s
stands_after {first} {mid} {last} {s} a b h = subst (λ (x : CoreView). StandsFor x s) (sym (a ∙ b)) h

pub handed_posts : {S : Type 0} (sends : S → Dispatch → S → Type 0) (socket : ℕ) (to : Source) (r : Outcome × State) (before : List Waiting) (old new : S) → answers.Forwarded ≡ (answered r).0 → Hands sends (call_sent (unsent_call (answered r).1)) old new → Posts sends (answer_sent socket to r) before before old new
handed_posts sends socket to (outcomes.NoCall, s) before old new is hands = absurd cc
handed_posts sends socket to (outcomes.Reply given stamp, s) before old new is hands = absurd cc
handed_posts sends socket to (outcomes.Forwarded, s) before old new is hands = HandedOn hands refl
handed_posts sends socket to (outcomes.Silent, s) before old new is hands = absurd cc

way_is : (socket : ℕ) (ways new : Ways) (s : State) (unsent : Option Unsent) (number : ℕ) → Some number ≡ (send_unsent s unsent).0 → new ≡ noted ways number socket → new ≡ way_noted socket ways unsent
way_is socket ways new s None number is same = absurd cc
way_is socket ways new s (Some unsent) number is same = subst (λ (x : Option ℕ). IfSome x (λ n. new ≡ noted ways n socket)) is same

pub noted_ways : (socket : ℕ) (ways new : Ways) (r : Outcome × State) (number : ℕ) → answers.Forwarded ≡ (answered r).0 → Some number ≡ (send_unsent (answered r).1 (unsent_call (answered r).1)).0 → new ≡ noted ways number socket → new ≡ ways_answered socket ways r
noted_ways socket ways new (outcomes.NoCall, s) number is sent same = absurd cc
noted_ways socket ways new (outcomes.Reply given stamp, s) number is sent same = absurd cc
noted_ways socket ways new (outcomes.Forwarded, s) number is sent same = way_is socket ways new s (unsent_call s) number sent same
noted_ways socket ways new (outcomes.Silent, s) number is sent same = absurd cc

no_way_is : (socket : ℕ) (ways : Ways) (s : State) (unsent : Option Unsent) → None ≡ (send_unsent s unsent).0 → ways ≡ way_noted socket ways unsent
no_way_is socket ways s None is = refl
no_way_is socket ways s (Some unsent) is = absurd cc

pub unnoted_ways : (socket : ℕ) (ways : Ways) (r : Outcome × State) → answers.Forwarded ≡ (answered r).0 → None ≡ (send_unsent (answered r).1 (unsent_call (answered r).1)).0 → ways ≡ ways_answered socket ways r
unnoted_ways socket ways (outcomes.NoCall, s) is sent = absurd cc
unnoted_ways socket ways (outcomes.Reply given stamp, s) is sent = absurd cc
unnoted_ways socket ways (outcomes.Forwarded, s) is sent = no_way_is socket ways s (unsent_call s) sent
unnoted_ways socket ways (outcomes.Silent, s) is sent = absurd cc

-- ---- what waits is sent, one after another

pub all_more : {S : Type 0} (sends : S → Dispatch → S → Type 0) (all : List Waiting) (i : ℕ) (w : Waiting) (start cur next : S) → i < length all → w ≡ get_or all i w → ((x : S) → HandsAll sends (drop i all) cur x → HandsAll sends all start x) → sends cur (dispatch_of w) next → (x : S) → HandsAll sends (drop (i + 1) all) next x → HandsAll sends all start x
unfolding HandsAll
all_more sends all i w start cur next here is so sent x rest = so x (rw (drop_more all i w here) (record { mid = next; before = subst (λ (v : Waiting). sends cur (dispatch_of v) next) is sent; after = rest }))

pub all_done : {S : Type 0} (sends : S → Dispatch → S → Type 0) (all : List Waiting) (i : ℕ) (start cur : S) → length all ≤ i → ((x : S) → HandsAll sends (drop i all) cur x → HandsAll sends all start x) → HandsAll sends all start cur
unfolding HandsAll
all_done sends all i start cur over so = so cur (rw (drop_all i all over) refl)

-- ---- what can't wait goes out after a look, and after what changed is kept

pub after_held : {S : Type 0} (sends : S → Dispatch → S → Type 0) (socket : ℕ) (to : Source) (first mid last : CoreView) (before held after : List Waiting) (old new : S) → last ≡ mid → OnlyBegins first mid → held ≡ before → PostsReply sends (waiting socket to last.reply) held after old new → PostsReply sends (waiting socket to first.reply) before after old new
after_held sends socket to first mid last before held after old new kept begun same posted =
    subst (λ (x : List ℕ). PostsReply sends (waiting socket to x) before after old new) (ap (λ (x : CoreView). x.reply) kept ∙ ap (λ (x : CoreView). x.reply) begun)
    (subst (λ (x : List Waiting). PostsReply sends (waiting socket to last.reply) x after old new) same posted)

-- ---- what changed is kept before

stands_mid : {old mid : Engine} {s : State} → SameEngine old mid → StandsFor old.core.core s → StandsFor mid.core.core s
stands_mid {old} {mid} {s} same h = subst (λ (x : CoreView). StandsFor x s) (sym same.core) h

pub hands_after : {S : Type 0} (sends : S → Dispatch → S → Type 0) (datagram : State → ℕ → Option Dispatch) (first mid : Engine) (old new : S) → SameEngine first mid → HandsNow sends datagram mid old new → HandsNow sends datagram first old new
hands_after sends datagram first mid old new same hands = λ s h. subst (λ (m : ℕ). Hands sends (datagram s m) old new) same.moment (hands s (stands_mid same h))

pub shows_after : {R : Type 0} (show : State → ℕ → R) (first mid : Engine) (r : R) → SameEngine first mid → ShowsNow show mid r → ShowsNow show first r
shows_after show first mid r same shows = λ s h. subst (λ (m : ℕ). r ≡ show s m) same.moment (shows s (stands_mid same h))

pub acts_after : {R : Type 0} (step : State → ℕ → R × State) (first mid last : Engine) (r : R) → SameEngine first mid → ActsNow step mid last r → ActsNow step first last r
acts_after step first mid last r same acts = record {
  gives = λ s h. subst (λ (m : ℕ). r ≡ (step s m).0) same.moment (acts.gives s (stands_mid same h));
  stands = λ s h. subst (λ (m : ℕ). StandsFor last.core.core (step s m).1) same.moment (acts.stands s (stands_mid same h));
}
