-- What the log tells of a change.
use Rattle.std.specs.Prelude.{◌≡◌, Bool, true, false}
use Rattle.rb_serving.specs.declared.seen.ChangeAsked.{ChangeAsked}
use Rattle.rb_serving.specs.declared.seen.ChangeKind.{ChangeKind}
use Rattle.rb_serving.specs.declared.seen.ChangeKind.TheVariants.{Set, Unset}
use Rattle.rb_policy.specs.declared.log_lines.ChangeLine.{ChangeLine}

abbrev pub is_set : ChangeKind → Bool
is_set Set = true
is_set Unset = false

-- The line of a SET or an UNSET has what it was about, who asked for it, as whom, and why it was refused.
-- LOG-3
pub record IsLineOf (change : ChangeAsked) (line : ChangeLine) : Type 0 where
  pub adds : line.adds ≡ is_set change.asked
  pub prog : line.prog ≡ change.row.prog
  pub vers : line.vers ≡ change.row.vers
  pub netid : line.netid.now ≡ change.row.netid
  pub addr : line.addr.now ≡ change.row.addr
  pub owner : line.owner ≡ change.owner
  pub who : line.who ≡ change.who
  pub refusal : line.refusal ≡ change.refusal
