-- The reply over UDP that is held after an event is what the event shows.
use Rattle.std.proofs.Common.{◌≤◌, ℕ, List, length, arith}
use Rattle.std.proofs.lemmas.Grind.{common_steps}
use Rattle.rb_address.specs.declared.peer.Peer.{Peer}
use Rattle.rb_address.specs.declared.who.Who.{Who}
use Rattle.rb_answers.specs.Ledger.{Ledger}
use Rattle.rb_model.specs.State.{State}
use Rattle.rb_model.specs.Ending.{at_fresh_moment, forward_reply, expire_connection, expire}
use Rattle.rb_model.specs.Step.{Output, datagram, unsent_call, step}
use Rattle.rb_model.specs.Step.Event.{Unsent, Datagram, Forward, Expire}
use Rattle.rb_model.specs.Bounds.{bytes_out}
use Rattle.rb_model.specs.Costs.{unsent_count}

module _ (s : State) where
  pub unsent-shown : unsent_count (unsent_call s) ≤ bytes_out Unsent (step s Unsent).0
  unfolding step
  unsent-shown = grind arith

  pub datagram-shown : (now : ℕ) (who : Who) (content : List ℕ) → let after : Output × State = step s (Datagram now who content) in length after.1.reply ≤ bytes_out (Datagram now who content) after.0
  unfolding step datagram
  datagram-shown now who content = grind arith

  pub forward-shown : (now : ℕ) (from : Peer) (message : List ℕ) → let after : Output × State = step s (Forward now from message) in length after.1.reply ≤ bytes_out (Forward now from message) after.0
  unfolding step forward_reply
  forward-shown now from message = grind arith

  none_held : (now : ℕ) (ledger : Ledger) → length (expire_connection (record (at_fresh_moment now s) { ledger = ledger })).1.reply ≤ 0
  unfolding expire_connection
  none_held now ledger = omega arith

  pub expiry-shown : (now : ℕ) → let after : Output × State = step s (Expire now) in length after.1.reply ≤ bytes_out (Expire now) after.0
  unfolding step expire
  expiry-shown now = grind (arith, common_steps, none_held)
