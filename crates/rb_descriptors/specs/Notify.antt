-- Where a service manager is told of this process (sd_notify(3), unix(7)).
use Rattle.std.specs.Prelude.{◌≡◌, ℕ, ◌+◌, ◌==◌, if◌then◌else◌, List, [], ◌∷◌, ◌++◌, length}
use Rattle.std.specs.Int.{w16, to_le_bytes}
use Rattle.std.specs.Net.SockAddr.{in_storage}
use Rattle.rb_descriptors.specs.declared.notify.Notifier.{Notifier}

-- the path, or the name with a zero in the place of its `@`
abbrev pub unix_name : List ℕ → List ℕ
unix_name [] = []
unix_name (first ∷ rest) = if first == 64 then 0 ∷ rest else first ∷ rest

-- the same behind AF_UNIX, as C has it
abbrev pub unix_address : List ℕ → List ℕ
unix_address address = to_le_bytes w16 1 ++ unix_name address

pub record IsNotifierOf (address : List ℕ) (notifier : Notifier) : Type 0 where
  pub raw : notifier.raw ≡ in_storage (unix_address address)
  pub len : notifier.len ≡ 2 + length address
