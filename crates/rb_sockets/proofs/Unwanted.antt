-- Where none of the sockets is wanted, none is served again, and none has something to tell.
use Rattle.std.specs.List.{list_any}
use Rattle.std.proofs.Common.{◌≡◌, Bool, false, not, List, [], ◌∷◌, Option, Some, None, refl}
use Rattle.std.proofs.lemmas.Bool.{or_parts, or_from, true≢false}
use Rattle.rb_policy.specs.declared.turns.Again.{Again}
use Rattle.rb_policy.specs.declared.turns.Again.TheVariants.{AtEvent, AtOnce, AfterWait}
use Rattle.rb_sockets.specs.declared.calls.ForwardSocket.{ForwardSocket}
use Rattle.rb_sockets.specs.declared.sockets.Sockets.{Sockets}
use Rattle.rb_sockets.specs.declared.watched.Watched.{Watched}
use Rattle.rb_sockets.specs.News.{is_local_changed}
use Rattle.rb_sockets.specs.Wanted.{is_at_event, is_ready, are_ready, is_ready_if, are_forwards_ready}
use Rattle.rb_sockets.specs.Watching.{is_at_once, is_after_wait, holds_of, of_forwards, of_calls, of_datagrams, of_listeners, of_all, are_listeners_ready}

-- ---- a test that one which awaits an event does not pass

then : (p : Again → Bool) → p AtEvent ≡ false → (again : Again) → not (is_at_event again) ≡ false → p again ≡ false
then p not_at AtEvent is = not_at
then p not_at AtOnce is = absurd (true≢false is)
then p not_at AfterWait is = absurd (true≢false is)

of_one : {S : Type 0} (p : Again → Bool) → p AtEvent ≡ false → (watched : Watched S) → is_ready watched ≡ false → p watched.again ≡ false
of_one p not_at watched none = then p not_at watched.again (or_parts watched.is_shown (not (is_at_event watched.again)) none).1

of_each : {S : Type 0} (p : Again → Bool) → p AtEvent ≡ false → (sockets : List (Watched S)) → are_ready sockets ≡ false → list_any (λ (watched : Watched S). p watched.again) sockets ≡ false
of_each p not_at [] none = refl
of_each p not_at (watched ∷ sockets) none =
    let parts = or_parts (is_ready watched) (are_ready sockets) none in
    or_from (p watched.again) (list_any (λ one. p one.again) sockets) (of_one p not_at watched parts.0) (of_each p not_at sockets parts.1)

of_any : (p : Again → Bool) → p AtEvent ≡ false → (forwards : Option (Watched ForwardSocket)) → is_ready_if forwards ≡ false → holds_of p forwards ≡ false
of_any p not_at None none = refl
of_any p not_at (Some watched) none = of_one p not_at watched none

-- ---- of all

pub record NoneWanted (sockets : Sockets) : Type 0 where
  pub forwards : are_forwards_ready sockets.forwards ≡ false
  pub calls : are_ready sockets.calls.all.items ≡ false
  pub listeners : are_listeners_ready sockets ≡ false
  pub change : is_local_changed sockets ≡ false

none_wanted : (sockets : Sockets) → sockets.may_want ≡ false → NoneWanted sockets
none_wanted sockets none =
    let all = or_parts _ (is_local_changed sockets) (sockets.noted none) in
    let most = or_parts _ (are_listeners_ready sockets) all.0 in
    let some = or_parts (are_forwards_ready sockets.forwards) (are_ready sockets.calls.all.items) most.0 in
    record { forwards = some.0; calls = some.1; listeners = most.1; change = all.1 }

no_datagrams : (p : Again → Bool) → p AtEvent ≡ false → (sockets : Sockets) → sockets.may_want ≡ false → of_datagrams p sockets ≡ false
no_datagrams p not_at sockets none =
    let unwanted = none_wanted sockets none in
    let parts = or_parts (is_ready_if sockets.forwards.inet) (is_ready_if sockets.forwards.inet6) unwanted.forwards in
    or_from (of_forwards p sockets.forwards) (of_calls p sockets.calls)
    (or_from (holds_of p sockets.forwards.inet) (holds_of p sockets.forwards.inet6)
    (of_any p not_at sockets.forwards.inet parts.0) (of_any p not_at sockets.forwards.inet6 parts.1))
    (of_each p not_at sockets.calls.all.items unwanted.calls)

no_listeners : (p : Again → Bool) → p AtEvent ≡ false → (sockets : Sockets) → sockets.may_want ≡ false → of_listeners p sockets ≡ false
no_listeners p not_at sockets none = of_each p not_at sockets.listeners.items (none_wanted sockets none).listeners

pub no_datagrams_left : (sockets : Sockets) → sockets.may_want ≡ false → of_datagrams is_at_once sockets ≡ false
no_datagrams_left sockets none = no_datagrams is_at_once refl sockets none

pub no_listeners_left : (sockets : Sockets) → sockets.may_want ≡ false → of_listeners is_at_once sockets ≡ false
no_listeners_left sockets none = no_listeners is_at_once refl sockets none

pub none_tried_again : (sockets : Sockets) → sockets.may_want ≡ false → of_all is_after_wait sockets ≡ false
none_tried_again sockets none =
    or_from (of_datagrams is_after_wait sockets) (of_listeners is_after_wait sockets)
    (no_datagrams is_after_wait refl sockets none) (no_listeners is_after_wait refl sockets none)
