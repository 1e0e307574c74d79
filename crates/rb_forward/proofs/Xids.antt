-- Numbers of entries and xids.
use Rattle.std.proofs.Common.{◌≡◌, ℕ, ◌+◌, ◌-◌, ◌%◌, ◌^◌, ap, ◌∙◌, arith}
use Rattle.std.proofs.Math.Nat.{add-mod-mod}
use Rattle.rb_forward.specs.Forwards.{xid_of}

-- the xid after this many entries
pub xid-next : (first given : ℕ) → (first + given % 2 ^ 32) % 2 ^ 32 ≡ xid_of first (given + 1)
unfolding xid_of
xid-next first given =
    let same : first + given ≡ first + (given + 1) - 1 = omega arith in
    add-mod-mod first given (2 ^ 32) ∙ ap (λ n. n % 2 ^ 32) same

pub ruleset xids = (xid-next)
