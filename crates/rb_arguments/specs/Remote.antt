-- The argument of the procedures that forward a call (RFC 1833 sections 2.1, rpcb_rmtcallargs, and 3.1, call_args).
use Rattle.std.specs.Prelude.{◌≡◌, ◌≤◌, ℕ, ◌+◌, List, ◌++◌, length, slice_range}
use Rattle.rb_xdr.specs.Xdr.{number, opaque, Reader, ◌>>=◌, give, read_number, read_opaque, IsNumber, IsContent}
use Rattle.rb_arguments.specs.Forwarded.{longest_forwarded}
use Rattle.rb_arguments.specs.declared.remote.RemoteCall.{RemoteCall}

-- ARGS-2: CALLIT, BCAST and INDIRECT take prog, vers, proc and args of at most 8,800 bytes; more
-- are GARBAGE_ARGS.
unfoldable pub read_remote : Reader RemoteCall
read_remote = do
  prog ← read_number
  vers ← read_number
  proc ← read_number
  args ← read_opaque longest_forwarded
  give (record { prog = prog; vers = vers; proc = proc; count = length args })

-- The content of args. It stands after three numbers and its own count.
-- ARGS-3: The content of args is passed on as it came; bytes after it are ignored.
abbrev pub args_of : RemoteCall → List ℕ → List ℕ
args_of remote arguments = slice_range arguments 16 (16 + remote.count)

-- the bytes have that content, and it is no longer than it may be
pub record HasContent (remote : RemoteCall) (arguments : List ℕ) : Type 0 where
  pub few : remote.count ≤ longest_forwarded
  pub within : 16 + remote.count ≤ length arguments

-- The bytes begin with a spelling of the argument.
-- ARGS-2
pub record SpellsRemote (remote : RemoteCall) (bytes : List ℕ) : Type 0 where
  pub prog : IsNumber remote.prog
  pub vers : IsNumber remote.vers
  pub proc : IsNumber remote.proc
  pub args : IsContent longest_forwarded (args_of remote bytes)
  pub count : length (args_of remote bytes) ≡ remote.count
  pub rest : List ℕ
  pub whole : bytes ≡ number remote.prog ++ (number remote.vers ++ (number remote.proc ++ (opaque (args_of remote bytes) ++ rest)))
