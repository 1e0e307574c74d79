-- The rows of the portmapper itself.
use Rattle.std.proofs.Common.{ℕ, List, Option, Some, None, ◌++◌, refl}
use Rattle.std.specs.Prelude.{IsTrue}
use Rattle.rb_registry.specs.Registry.{AreOwn}
use Rattle.rb_registry.specs.Rows.{are_distinct, is_row, is_on}
use Rattle.rb_address.specs.Netids.{is_netid}
use Rattle.rb_answers.specs.declared.listener.Listener.{Listener}
use Rattle.rb_answers.specs.Callers.{own_rows, own_inet6, own_inet, own_local}

own_by : (port : ℕ) (inet6 inet local : Option (List ℕ)) → AreOwn (own_inet6 port inet6 ++ own_inet port inet ++ own_local local)
own_by port None None None = refl
own_by port None None (Some path) = refl
own_by port None (Some host) None = refl
own_by port None (Some host) (Some path) = refl
own_by port (Some host6) None None = refl
own_by port (Some host6) None (Some path) = refl
own_by port (Some host6) (Some host) None = refl
own_by port (Some host6) (Some host) (Some path) = refl

-- each is of the portmapper's program
pub are_own : (listener : Listener) → AreOwn (own_rows listener)
unfolding own_rows
are_own listener = own_by listener.port listener.announced.inet6 listener.announced.inet listener.local

distinct_by : (port : ℕ) (inet6 inet local : Option (List ℕ))
    → IsTrue (are_distinct (own_inet6 port inet6 ++ own_inet port inet ++ own_local local))
unfolding is_row is_on is_netid
distinct_by port None None None = refl
distinct_by port None None (Some path) = refl
distinct_by port None (Some host) None = refl
distinct_by port None (Some host) (Some path) = refl
distinct_by port (Some host6) None None = refl
distinct_by port (Some host6) None (Some path) = refl
distinct_by port (Some host6) (Some host) None = refl
distinct_by port (Some host6) (Some host) (Some path) = refl

-- no two are of one version and netid
pub are_distinct_rows : (listener : Listener) → IsTrue (are_distinct (own_rows listener))
unfolding own_rows
are_distinct_rows listener = distinct_by listener.port listener.announced.inet6 listener.announced.inet listener.local
