-- What a reader of calls makes of the bytes that it is fed.
use Rattle.std.proofs.Common.{◌≡◌, ◌<◌, ◌≤◌, ◌+◌, ◌*◌, ◌%◌, ◌^◌, ℕ, true, false, List, [], ◌∷◌, ◌++◌, length, take, drop, get_or, refl, sym, ap, subst, ◌∙◌, append_assoc, append-nil, arith, length-append}
use Rattle.std.proofs.lemmas.List.{take_all, take_more, take-append-drop}
use Rattle.std.proofs.lemmas.List.Concat.{flat_map-append}
use Rattle.std.proofs.lemmas.List.Sums.{fold-append}
use Rattle.rb_xdr.specs.Xdr.{AreBytes, AreNumbers, number, number_at, words}
use Rattle.rb_xdr.proofs.Words.{number-number_at, number_at_small}
use Rattle.rb_rpc.specs.Verdict.{verdict, EndsWithin}
use Rattle.rb_rpc.specs.declared.call.CallHead.{CallHead}
use Rattle.rb_rpc.specs.declared.call.Verdict.{Verdict}
use Rattle.rb_rpc.specs.declared.call.Verdict.TheVariants.{NoCall, RpcMismatch, AuthError, Call}
use Rattle.rb_rpc.proofs.Calls.{AreBytes-append, AreBytes-number}
use Rattle.rb_rpc.proofs.Feeding.{AreBytes-more, so_far_more, four_are}
use Rattle.rb_rpc.specs.declared.stage.Stage.TheVariants as stages
use Rattle.rb_rpc.specs.Stages.{Stage, stage_after, verdict_at, is_call}
use Rattle.rb_rpc.specs.Feeds.{CallFeed, HasPart, StandsForCall, behind_head, arguments_of}
use Rattle.rb_rpc.specs.FeedLaws.{StandsForMore, AreArguments, max_head}
use Rattle.rb_rpc.proofs.CallsStay.{calls_stay, end_at_the_place, arguments_grow, none_yet}
use Rattle.rb_rpc.proofs.WordVerdicts.{whole}

AreBytes-none : AreBytes []
AreBytes-none i = omega arith

words_are_bytes : (ws : List ℕ) → AreBytes (words ws)
words_are_bytes [] = AreBytes-none
words_are_bytes (w ∷ ws) = AreBytes-append (number w) (words ws) (AreBytes-number w) (words_are_bytes ws)

-- ---- after the head of a call

pub record InArguments (fed : List ℕ) (head : CallHead) (place : ℕ) : Type 0 where
  pub is : verdict fed ≡ Call head place
  pub stays : (more : List ℕ) → verdict (fed ++ more) ≡ Call head place
  pub within : place ≤ length fed
  pub short : place ≤ max_head

pub in_arguments : (feed : CallFeed) (fed : List ℕ) (head : CallHead) (place : ℕ) → StandsForCall feed fed → verdict_at feed.stage ≡ Call head place → InArguments fed head place
in_arguments feed fed head place h e =
    let at_words : verdict (words h.numbers) ≡ Call head place =
    ap verdict (sym (append-nil (words h.numbers))) ∙ sym (whole h.numbers [] h.fit (omega arith)) ∙ ap verdict_at (sym h.stage_is) ∙ e in
    let are : AreBytes (words h.numbers) = words_are_bytes h.numbers in
    let ends = end_at_the_place (words h.numbers) are head place at_words in
    record {
      is = ap verdict h.fed_is ∙ calls_stay (words h.numbers) h.front are head place at_words;
      stays = λ more. ap (λ (xs : List ℕ). verdict (xs ++ more)) h.fed_is ∙ ap verdict (append_assoc (words h.numbers) h.front more) ∙ calls_stay (words h.numbers) (h.front ++ more) are head place at_words;
      within = omega (arith, ends.within, ap length h.fed_is, length-append (words h.numbers) h.front);
      short = ends.short;
    }

-- ---- the verdict

pub ends_rightly : (feed : CallFeed) (fed : List ℕ) → StandsForCall feed fed → verdict_at feed.stage ≡ verdict fed
ends_rightly feed fed h = by_verdict (verdict_at feed.stage) refl
  where
    no_call : is_call (verdict_at feed.stage) ≡ false → verdict_at feed.stage ≡ verdict fed
    no_call e = ap verdict_at h.stage_is ∙ whole h.numbers h.front h.fit (h.part e).few ∙ ap verdict (sym h.fed_is)

    by_verdict : (v : Verdict) → verdict_at feed.stage ≡ v → verdict_at feed.stage ≡ verdict fed
    by_verdict NoCall e = no_call (ap is_call e)
    by_verdict (RpcMismatch xid) e = no_call (ap is_call e)
    by_verdict (AuthError xid stat) e = no_call (ap is_call e)
    by_verdict (Call head place) e = e ∙ sym (in_arguments feed fed head place h e).is

-- the head of a call ends within this many bytes
ends_by : (feed : CallFeed) (limit : ℕ) → ((head : CallHead) (place : ℕ) → verdict_at feed.stage ≡ Call head place → place ≤ limit) → EndsWithin (verdict_at feed.stage) limit
ends_by feed limit few = by_verdict (verdict_at feed.stage) refl
  where
    by_verdict : (v : Verdict) → verdict_at feed.stage ≡ v → EndsWithin v limit
    by_verdict NoCall e = tt
    by_verdict (RpcMismatch xid) e = tt
    by_verdict (AuthError xid stat) e = tt
    by_verdict (Call head place) e = few head place e

pub ends_within : (feed : CallFeed) (fed : List ℕ) → StandsForCall feed fed → EndsWithin (verdict_at feed.stage) (length fed)
ends_within feed fed h = ends_by feed (length fed) (λ head place e. (in_arguments feed fed head place h e).within)

pub ends_short : (feed : CallFeed) (fed : List ℕ) → StandsForCall feed fed → EndsWithin (verdict_at feed.stage) max_head
ends_short feed fed h = ends_by feed max_head (λ head place e. (in_arguments feed fed head place h e).short)

-- ---- more arguments

pub stands_still : (feed : CallFeed) (fed more : List ℕ) → StandsForCall feed fed → is_call (verdict_at feed.stage) ≡ true → StandsForCall feed (fed ++ more)
stands_still feed fed more h e = record {
  numbers = h.numbers;
  front = h.front ++ more;
  fed_is = ap (λ (xs : List ℕ). xs ++ more) h.fed_is ∙ append_assoc (words h.numbers) h.front more;
  fit = h.fit;
  stage_is = h.stage_is;
  part = λ other. absurd (both (sym e ∙ other));
}
  where
    both : true ≡ false → ⊥
    both e = cc

pub more_arguments : (feed : CallFeed) (fed more : List ℕ) → StandsForCall feed fed → is_call (verdict_at feed.stage) ≡ true → arguments_of (fed ++ more) ≡ arguments_of fed ++ more
more_arguments feed fed more h e = by_verdict (verdict_at feed.stage) refl e
  where
    by_verdict : (v : Verdict) → verdict_at feed.stage ≡ v → is_call v ≡ true → arguments_of (fed ++ more) ≡ arguments_of fed ++ more
    by_verdict NoCall was e = absurd cc
    by_verdict (RpcMismatch xid) was e = absurd cc
    by_verdict (AuthError xid stat) was e = absurd cc
    by_verdict (Call head place) was e =
        let here = in_arguments feed fed head place h was in
        arguments_grow fed more head place here.is (here.stays more) here.within

-- ---- one byte more

-- the bytes after the whole words are a part of one still
pub part_more : (feed : CallFeed) (fed : List ℕ) (byte : ℕ) → StandsForCall feed fed → is_call (verdict_at feed.stage) ≡ false → byte < 256 → feed.seen < 3
    → StandsForCall (record { seen = feed.seen + 1; number = feed.number * 256 % 2 ^ 32 + byte; stage = feed.stage }) (fed ++ byte ∷ [])
part_more feed fed byte h early small seen =
    let was : HasPart feed h.front = h.part early in
    record {
      numbers = h.numbers;
      front = h.front ++ byte ∷ [];
      fed_is = ap (λ (xs : List ℕ). xs ++ byte ∷ []) h.fed_is ∙ append_assoc (words h.numbers) h.front (byte ∷ []);
      fit = h.fit;
      stage_is = h.stage_is;
      part = λ still. record {
        few = omega (arith, was.seen_is, seen, length-append h.front (byte ∷ []));
        bytes = AreBytes-more h.front byte was.bytes small;
        seen_is = omega (arith, was.seen_is, length-append h.front (byte ∷ []));
        number_is = ap (λ (n : ℕ). n * 256 % 2 ^ 32 + byte) was.number_is ∙ so_far_more h.front byte was.bytes was.few;
      };
    }

fit_more : (ws : List ℕ) (w : ℕ) → AreNumbers ws → w < 2 ^ 32 → AreNumbers (ws ++ w ∷ [])
fit_more [] w fit small = (small, tt)
fit_more (x ∷ ws) w fit small = (fit.0, fit_more ws w fit.1 small)

-- four bytes spell a number
pub spelled : (four : List ℕ) → AreBytes four → length four ≡ 4 → number (number_at 0 four) ≡ four
spelled four are len = number-number_at 0 four are (omega (arith, len)) ∙ take_all 4 four (omega (arith, len))

-- they are one more word
pub word_more : (feed : CallFeed) (fed : List ℕ) (byte : ℕ) (stage : Stage) → StandsForCall feed fed → is_call (verdict_at feed.stage) ≡ false → byte < 256 → 3 ≤ feed.seen
    → stage ≡ stage_after feed.stage (feed.number * 256 % 2 ^ 32 + byte)
    → StandsForCall (record { seen = 0; number = 0; stage = stage }) (fed ++ byte ∷ [])
word_more feed fed byte stage h early small seen is =
    let was : HasPart feed h.front = h.part early in
    let four : List ℕ = h.front ++ byte ∷ [] in
    let len : length four ≡ 4 = omega (arith, was.seen_is, seen, was.few, length-append h.front (byte ∷ [])) in
    let are : AreBytes four = AreBytes-more h.front byte was.bytes small in
    let w : ℕ = number_at 0 four in
    let next : feed.number * 256 % 2 ^ 32 + byte ≡ w = ap (λ (n : ℕ). n * 256 % 2 ^ 32 + byte) was.number_is ∙ so_far_more h.front byte was.bytes was.few ∙ four_are four len in
    let words_are : words (h.numbers ++ w ∷ []) ≡ words h.numbers ++ four =
    flat_map-append number h.numbers (w ∷ []) ∙ ap (λ (xs : List ℕ). words h.numbers ++ xs) (append-nil (number w) ∙ spelled four are len) in
    record {
      numbers = h.numbers ++ w ∷ [];
      front = [];
      fed_is = ap (λ (xs : List ℕ). xs ++ byte ∷ []) h.fed_is ∙ append_assoc (words h.numbers) h.front (byte ∷ []) ∙ sym words_are ∙ sym (append-nil (words (h.numbers ++ w ∷ [])));
      fit = fit_more h.numbers w h.fit (number_at_small 0 four are);
      stage_is = is ∙ ap (λ (n : ℕ). stage_after feed.stage n) next ∙ ap (λ (s : Stage). stage_after s w) h.stage_is ∙ sym (fold-append stage_after stages.Xid h.numbers (w ∷ []));
      part = λ still. record { few = omega arith; bytes = AreBytes-none; seen_is = refl; number_is = refl };
    }

pub no_arguments : (bytes : List ℕ) → is_call (verdict bytes) ≡ false → arguments_of bytes ≡ []
unfolding arguments_of
no_arguments bytes early = by_verdict (verdict bytes) early
  where
    by_verdict : (v : Verdict) → is_call v ≡ false → behind_head v bytes ≡ []
    by_verdict NoCall early = refl
    by_verdict (RpcMismatch xid) early = refl
    by_verdict (AuthError xid stat) early = refl
    by_verdict (Call head place) early = absurd cc

-- it is no call, or one whose arguments begin with the next byte
pub none_more : (feed : CallFeed) (fed : List ℕ) (byte : ℕ) → StandsForCall feed fed → is_call (verdict_at feed.stage) ≡ false → byte < 256 → arguments_of (fed ++ byte ∷ []) ≡ arguments_of fed ++ []
none_more feed fed byte h early small =
    let are : AreBytes fed = subst AreBytes (sym h.fed_is) (AreBytes-append (words h.numbers) h.front (words_are_bytes h.numbers) (h.part early).bytes) in
    let no_call : is_call (verdict fed) ≡ false = ap is_call (sym (ends_rightly feed fed h)) ∙ early in
    none_yet fed byte are small no_call ∙ ap (λ (xs : List ℕ). xs ++ []) (sym (no_arguments fed no_call))

-- ---- the head in a piece

-- After this front of the piece no arguments have come.
pub record HasFed (first feed : CallFeed) (front : List ℕ) : Type 0 where
  pub stands : StandsForMore first front feed
  pub none : AreArguments first front []

one_more : (fed bytes : List ℕ) (n : ℕ) → n < length bytes → (fed ++ take n bytes) ++ get_or bytes n 0 ∷ [] ≡ fed ++ take (n + 1) bytes
one_more fed bytes n within =
    append_assoc fed (take n bytes) (get_or bytes n 0 ∷ []) ∙ ap (λ (xs : List ℕ). fed ++ xs) (sym (take_more bytes n 0 within))

-- a byte of the head
pub byte_fed : (first feed next : CallFeed) (bytes : List ℕ) (n : ℕ) → n < length bytes → HasFed first feed (take n bytes)
    → StandsForMore feed (get_or bytes n 0 ∷ []) next → AreArguments feed (get_or bytes n 0 ∷ []) []
    → HasFed first next (take (n + 1) bytes)
byte_fed first feed next bytes n within h stands none = record {
  stands = λ fed at. subst (λ (xs : List ℕ). StandsForCall next xs) (one_more fed bytes n within) (stands (fed ++ take n bytes) (h.stands fed at));
  none = λ fed at.
      ap arguments_of (sym (one_more fed bytes n within)) ∙ none (fed ++ take n bytes) (h.stands fed at)
      ∙ append-nil (arguments_of (fed ++ take n bytes)) ∙ h.none fed at;
}

-- What the piece came to: the arguments in it, and the feed after it.
pub record HasFedAll (first feed : CallFeed) (bytes arguments : List ℕ) : Type 0 where
  pub stands : StandsForMore first bytes feed
  pub arguments_are : AreArguments first bytes arguments

then_rest : (fed bytes : List ℕ) (n : ℕ) → (fed ++ take n bytes) ++ drop n bytes ≡ fed ++ bytes
then_rest fed bytes n = append_assoc fed (take n bytes) (drop n bytes) ∙ ap (λ (xs : List ℕ). fed ++ xs) (take-append-drop n bytes)

-- the rest are arguments
pub rest_fed : (first feed : CallFeed) (bytes : List ℕ) (n : ℕ) → HasFed first feed (take n bytes) → is_call (verdict_at feed.stage) ≡ true → HasFedAll first feed bytes (drop n bytes)
rest_fed first feed bytes n h call = record {
  stands = λ fed at. subst (λ (xs : List ℕ). StandsForCall feed xs) (then_rest fed bytes n) (stands_still feed (fed ++ take n bytes) (drop n bytes) (h.stands fed at) call);
  arguments_are = λ fed at.
      ap arguments_of (sym (then_rest fed bytes n)) ∙ more_arguments feed (fed ++ take n bytes) (drop n bytes) (h.stands fed at) call
      ∙ ap (λ (xs : List ℕ). xs ++ drop n bytes) (h.none fed at ∙ append-nil (arguments_of fed));
}
