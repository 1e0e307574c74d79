-- Calls as they are written (RFC 5531 section 9, appendix A).
use Rattle.std.specs.Prelude.{ℕ, List, [], ◌++◌}
use Rattle.rb_xdr.specs.Xdr.{number, opaque, array}
use Rattle.rb_rpc.specs.declared.call.Credential.TheVariants as credentials
use Rattle.rb_rpc.specs.declared.call.CallHead.{CallHead}
use Rattle.rb_rpc.specs.declared.call.Credential.{Credential}
use Rattle.rb_rpc.specs.Messages.{auth, auth_none, SysBody}

-- the body of AUTH_SYS with stamp 0, an empty name, gid 0 and no gids (appendix A)
abbrev pub sys_body : ℕ → List ℕ
sys_body uid = number 0 ++ opaque [] ++ number uid ++ number 0 ++ number 0

abbrev pub credential : Credential → List ℕ
credential credentials.None = auth_none
credential (credentials.Sys uid) = auth 1 (sys_body uid)

-- xid, CALL, RPC version 2, the program, its version, and the procedure (section 9)
abbrev pub call_words : CallHead → List ℕ
call_words head = number head.xid ++ number 0 ++ number 2 ++ number head.prog ++ number head.vers ++ number head.proc

-- CALL-4: A call is written with RPC version 2, AUTH_NONE, or AUTH_SYS with stamp 0, an empty name,
-- gid 0 and no gids, and the null verifier; what is written is read again.
unfoldable pub call_bytes : CallHead → List ℕ
call_bytes head = call_words head ++ credential head.cred ++ auth_none

-- the body of any AUTH_SYS (appendix A)
abbrev pub sys_bytes : SysBody → List ℕ
sys_bytes body = number body.stamp ++ opaque body.machine ++ number body.uid ++ number body.gid ++ array body.gids
