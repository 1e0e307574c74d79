-- How many bytes a core holds, by its parts.
use Rattle.std.proofs.Common.{ℕ, ◌+◌, ◌*◌, ◌^◌, ◌≤◌, ◌<◌, arith}
use Rattle.std.proofs.Math.Nat.{mul-le-mul_left}
use Rattle.rb_registry.specs.Slots.{row_charge}
use Rattle.rb_arguments.specs.Forwarded.{longest_forwarded as args}
use Rattle.rb_forward.specs.StandsFor.{longest_forwarded_call}
use Rattle.rb_model.specs.Calls.{longest_reply, longest_kept}
use Rattle.rb_model.specs.Connections.{longest_fragment}
use Rattle.rb_connections.specs.StandsFor.{buffer_size, most_charge}
use Rattle.rb_forward.specs.Forwards.{entry_charge}

-- what a core holds, by its parts
pub parts_fit : (a b c d e conns rows cap : ℕ) → a ≤ most_charge * conns → conns ≤ 256 → b ≤ (row_charge + 128) * rows → rows ≤ 4096 → c ≤ 48 * 192 → d ≤ (entry_charge + longest_forwarded_call) * cap → cap ≤ 64 → e ≤ longest_reply
    → a + b + c + d + e < 2 ^ 64
unfolding longest_reply longest_kept buffer_size longest_fragment args
parts_fit a b c d e conns rows cap ha hc hb hr hk hd hf he =
    omega (arith, ha, hb, hk, hd, he, mul-le-mul_left most_charge hc, mul-le-mul_left (row_charge + 128) hr, mul-le-mul_left (entry_charge + longest_forwarded_call) hf)
