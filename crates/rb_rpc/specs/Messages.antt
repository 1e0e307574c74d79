-- Credentials and verifiers (RFC 5531 sections 8.2 and 9, appendix A).
use Rattle.std.specs.Prelude.{ℕ, ◌==◌, List, [], ◌∷◌, ◌++◌, Option, Some, None, Ok, Err}
use Rattle.std.specs.Prelude.{find}
use Rattle.rb_xdr.specs.Xdr.{Reading, ◌>>=◌, give, number, opaque, read_number, read_opaque, read_array}
use Rattle.rb_rpc.specs.declared.auth.AuthStat.TheVariants as stats
pub use Rattle.rb_rpc.specs.declared.call.CallHead.{CallHead}
pub use Rattle.rb_rpc.specs.declared.call.Credential.{Credential}
pub use Rattle.rb_rpc.specs.declared.auth.AuthStat.{AuthStat}

-- ---- opaque_auth

-- a flavor, and a body of at most 400 bytes (section 8.2)
abbrev pub auth : ℕ → List ℕ → List ℕ
auth flavor body = number flavor ++ opaque body

abbrev pub max_auth_body : ℕ
max_auth_body = 400

-- AUTH_NONE, no body (section 10.1)
abbrev pub auth_none : List ℕ
auth_none = auth 0 []

-- ---- the body of AUTH_SYS (appendix A)

pub record SysBody : Type 0 where
  pub stamp : ℕ
  pub machine : List ℕ
  pub uid : ℕ
  pub gid : ℕ
  pub gids : List ℕ

abbrev pub max_machine : ℕ
max_machine = 255

abbrev pub max_gids : ℕ
max_gids = 16

-- CRED-4: An AUTH_SYS credential is answered AUTH_ERROR AUTH_BADCRED unless its body begins with a
-- stamp, a name of at most 255 bytes, uid, gid and at most 16 gids; bytes after these fields are
-- ignored.
unfoldable pub body_of_sys : List ℕ → Reading SysBody
body_of_sys = do
  stamp ← read_number
  machine ← read_opaque max_machine
  uid ← read_number
  gid ← read_number
  gids ← read_array max_gids
  give (record { stamp = stamp; machine = machine; uid = uid; gid = gid; gids = gids })

-- the uid that a body says, if it can be read; what follows its fields counts for nothing
abbrev pub uid_of : Reading SysBody → Option ℕ
uid_of (Ok read) = Some read.0.uid
uid_of (Err fault) = None

-- ---- auth_stat (section 9)

abbrev pub auth_stat_number : AuthStat → ℕ
auth_stat_number stats.Success = 0
auth_stat_number stats.BadCredential = 1
auth_stat_number stats.RejectedCredential = 2
auth_stat_number stats.BadVerifier = 3
auth_stat_number stats.RejectedVerifier = 4
auth_stat_number stats.TooWeak = 5
auth_stat_number stats.InvalidResponse = 6
auth_stat_number stats.Failed = 7
auth_stat_number stats.Kerberos = 8
auth_stat_number stats.TimeExpired = 9
auth_stat_number stats.TicketFile = 10
auth_stat_number stats.Decode = 11
auth_stat_number stats.NetAddress = 12
auth_stat_number stats.GssCredential = 13
auth_stat_number stats.GssContext = 14

abbrev pub auth_stats : List AuthStat
auth_stats =
    stats.Success ∷ stats.BadCredential ∷ stats.RejectedCredential ∷ stats.BadVerifier ∷ stats.RejectedVerifier ∷ stats.TooWeak ∷ stats.InvalidResponse ∷ stats.Failed
    ∷ stats.Kerberos ∷ stats.TimeExpired ∷ stats.TicketFile ∷ stats.Decode ∷ stats.NetAddress ∷ stats.GssCredential ∷ stats.GssContext ∷ []

-- the one of this number, if there is one
unfoldable pub auth_stat_of : ℕ → Option AuthStat
auth_stat_of n = find (λ stat. auth_stat_number stat == n) auth_stats
