-- What is held back of a connection from this machine until it is known whose it is.
use Rattle.std.specs.Prelude.{◌≡◌, Bool, true, false, ◌&&◌, if◌then◌else◌, None}
use Rattle.std.specs.Option.{is_some}
use Rattle.rb_rpc.specs.declared.standing.Standing.{Standing}
use Rattle.rb_rpc.specs.declared.standing.Standing.TheVariants.{Idle, Reading, Owing, Awaiting, Sends, Lost}
use Rattle.rb_policy.specs.declared.asks.Held.{Held}
use Rattle.rb_policy.specs.declared.asks.Held.TheVariants.{Nothing, Part, Whole}
use Rattle.rb_policy.specs.Asks.{may_change, held_in}
use Rattle.rb_links.specs.declared.link.Link.{Link}
use Rattle.rb_links.specs.Shown.{unknown_ends}

-- whether the next byte that is handed in begins a record, by where the core says that the connection stands
abbrev pub is_between_records : Standing → Bool
is_between_records Idle = true
is_between_records Reading = false
is_between_records Owing = true
is_between_records Awaiting = true
is_between_records Sends = true
is_between_records Lost = true

-- ASK-2: What may begin a call that waits is not handed in before it is known whose the connection is.
abbrev pub must_wait : Link → Bool
must_wait link = is_some (unknown_ends link) && link.is_between && may_change link.inbox

-- how much of its call is held back then
abbrev pub held_of : Link → Held
held_of link = if must_wait link then held_in link.inbox else Nothing

abbrev pub is_same_held : Held → Held → Bool
is_same_held Nothing Nothing = true
is_same_held Part Part = true
is_same_held Whole Whole = true
is_same_held a b = false

-- Nothing is known yet of the connection that has the place.
pub record BeginsAnew (link : Link) : Type 0 where
  pub sought : link.sought ≡ None
  pub held : link.held ≡ Nothing
  pub ended : link.has_ended ≡ false
  pub between : link.is_between ≡ true
  pub standing : link.standing ≡ Reading
