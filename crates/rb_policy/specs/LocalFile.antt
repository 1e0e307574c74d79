-- What is done about a file at the path of the local socket as the daemon starts, and whether the socket is root's; and when its
-- abstract name is tried again.
use Rattle.std.specs.Prelude.{◌≡◌, ℕ, ◌==◌, Bool, true, false, IsTrue, ◌&&◌, if◌then◌else◌, List, [], codes, Option, Some, None}
use Rattle.std.specs.declared.io.ErrorKind.{ErrorKind}
use Rattle.std.specs.declared.io.ErrorKind.TheVariants as kinds
use Rattle.rb_policy.specs.declared.trust.Entrance.{Entrance}
use Rattle.rb_policy.specs.declared.trust.Entrance.TheVariants.{RootSocket, OpenSocket}
use Rattle.rb_forward.specs.Forwards.{later}
use Rattle.rb_policy.specs.Trusts.{lets_in_root_alone}
use Rattle.rb_policy.specs.declared.local_file.SeenFile.{SeenFile}
use Rattle.rb_policy.specs.declared.local_file.FileState.{FileState}
use Rattle.rb_policy.specs.declared.local_file.FileState.TheVariants.{Absent, NotASocket, Refuses, Answers}
use Rattle.rb_policy.specs.declared.local_file.FileAction.{FileAction}
use Rattle.rb_policy.specs.declared.local_file.FileAction.TheVariants.{Bind, RemoveAndBind, GiveUp}

-- ---- what is at the path

-- ENOENT alone says that nothing is there
-- LOCAL-2
abbrev pub is_nothing_there : ErrorKind → Bool
is_nothing_there kinds.NotFound = true
is_nothing_there _ = false

-- LOCAL-2: Nothing is at a path exactly if a look at it ends with ENOENT. A socket there refuses
-- exactly if a try to connect ends with ECONNREFUSED, and answers if it is taken, or ends with
-- EAGAIN: its listener has no room for one more. Any other error is told, and the file stays.
abbrev pub state_by_connect : ErrorKind → Option FileState
state_by_connect kinds.ConnectionRefused = Some Refuses
state_by_connect kinds.WouldBlock = Some Answers
state_by_connect _ = None

-- ---- what is done about it

-- a file is removed if it is a socket that nobody listens on any more, and in no other case
-- LOCAL-1: A file at the path of the local socket is stale, and removed, if it is a socket that
-- refuses a connection; one that answers, and one that is no socket, stay, and the daemon does not
-- start. A line says which of the two it is.
abbrev pub file_action : FileState → FileAction
file_action Absent = Bind
file_action NotASocket = GiveUp
file_action Refuses = RemoveAndBind
file_action Answers = GiveUp

-- what is said if the file stays, so that the daemon does not start
-- LOCAL-1
abbrev pub obstacle_text : FileState → List ℕ
obstacle_text Absent = []
obstacle_text NotASocket = codes "the file is no socket, and stays"
obstacle_text Refuses = []
obstacle_text Answers = codes "another program listens on it"

-- ---- who comes in there

-- whether a mode that may be known lets in root alone
abbrev pub lets_in_root_by : Option ℕ → Bool
lets_in_root_by None = false
lets_in_root_by (Some mode) = lets_in_root_alone mode

-- TRUST-3: The local socket is root's if the mode with which the system made its file lets in root alone, and so does the one
-- that it has then; if the first is not known it is not.
abbrev pub entrance_of : Option ℕ → ℕ → Entrance
entrance_of made mode = if lets_in_root_by made && lets_in_root_alone mode then RootSocket else OpenSocket

-- It is root's only if this mode lets in root alone.
abbrev pub IsRootsByMode : ℕ → Entrance → Type 0
IsRootsByMode mode entrance = entrance ≡ RootSocket → IsTrue (lets_in_root_alone mode)

-- the file that was made, of the same user, and root alone may write to it
abbrev pub is_roots_still : SeenFile → Option SeenFile → Bool
is_roots_still made None = false
is_roots_still made (Some found) =
    made.device == found.device && made.inode == found.inode && made.uid == found.uid && lets_in_root_alone found.mode

-- TRUST-12: The local socket is root's no longer, for good, once the file at its path is gone, is another one, belongs to another
-- user, or lets in others: that is looked at after each accept.
abbrev pub entrance_now : Entrance → SeenFile → Option SeenFile → Entrance
entrance_now RootSocket made found = if is_roots_still made found then RootSocket else OpenSocket
entrance_now other made found = other

-- ---- the abstract name

-- LOCAL-3: If the port is 111 (RFC 1833 section 3.1) and there is a local socket, the abstract name `/run/rpcbind.sock` is held,
-- and who connects there is refused. If another program has it, a line says so, and it is tried again.
abbrev pub takes_abstract_name : ℕ → Bool
takes_abstract_name port = port == 111

-- LOCAL-5: 10,000 ms after a try that failed the abstract name is tried again.
abbrev pub next_try : ℕ → ℕ
next_try last = later last 10000
