-- What a write leaves of an outbox is a rest of what that held.
use Rattle.std.specs.Prelude.{IfOk, OnErr}
use Rattle.std.proofs.Common.{◌≡◌, ℕ, drop, Result, Ok, Err, ap}
use Rattle.rb_links.specs.Outgoing.{Outgoing}
use Rattle.rb_links.specs.Numbers.{IsRest}

pub rest_is : {E : Type 0} (r : Result ℕ E) (old new : Outgoing) → IfOk r (λ n. new.bytes ≡ drop n old.bytes) → OnErr r (new ≡ old) → IsRest old.bytes new.bytes
rest_is (Ok n) old new left kept = (n, left)
rest_is (Err fault) old new left kept = (0, ap (λ (o : Outgoing). o.bytes) kept)
