-- What laws of a run presuppose of how it begins.
use Rattle.std.specs.Prelude.{◌≡◌, ◌≢◌, ◌≤◌, ◌<◌, ℕ, ◌^◌, List, Some}
use Rattle.rb_uaddr.specs.Grammar.{IsLocalText}
use Rattle.rb_answers.specs.declared.listener.Listener.{Listener}
use Rattle.rb_lines.specs.Lines.{longest_input}
use Rattle.rb_lines.specs.RecordLaws.{HasPath}

-- The listener's port is one of 16 bits and not 0, and its path, if there is one, may name a local socket.
pub record IsAtAddresses (listener : Listener) : Type 0 where
  pub some : listener.port ≢ 0
  pub few : listener.port < 2 ^ 16
  pub local : (path : List ℕ) → listener.local ≡ Some path → IsLocalText path

-- So it is, its path may stand in a line, and a record of up to so many bytes is no longer than an input may be.
pub record MeetsLaws (listener : Listener) (record_limit : ℕ) : Type 0 where
  pub addresses : IsAtAddresses listener
  pub path : HasPath listener
  pub record_fits : record_limit ≤ longest_input
