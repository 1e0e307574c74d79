-- Why the words of the command line end the program before they are read, with which status, and what is told of it.
use Rattle.std.specs.Prelude.{ℕ, Bool, List, ◌++◌, codes, string_bytes, Option, ⊤}
use Rattle.rb_lines.specs.declared.faults.Fault.TheVariants as faults
use Rattle.rb_lines.specs.Faults.{fault_line}
use Rattle.rb_lines.specs.Faults as lines
use Rattle.rb_startup.specs.declared.words.WordsFault.{WordsFault}
use Rattle.rb_startup.specs.declared.words.WordsFault.TheVariants.{NotHad, NoMemory, NotTaken, HostForHelp, NoUser, NoUsers}
use Rattle.rb_startup.specs.Faults.{Tells, TellsBehind}

-- EXIT-2: Words end the program with status 2 if they are no text, if one is an option of Debian's without its like, if `serve`
-- has `-h HOST`, and if a reservation names a user that there is not; and with 1 if memory is refused or users' names can't be
-- read.
abbrev pub status_of : WordsFault → ℕ
status_of (NotHad fault) = lines.status_of fault
status_of NoMemory = 1
status_of (NotTaken text) = 2
status_of HostForHelp = 2
status_of (NoUser name) = 2
status_of (NoUsers error) = 1

abbrev pub host_line : List ℕ
host_line = codes "rpcbind: serve -h shows help: give a host as --bind HOST, or in --options='-h HOST'\n"

-- of names of users in them
abbrev pub IsOfUsers : WordsFault → Type 0
IsOfUsers NoMemory = ⊤
IsOfUsers (NoUser name) = ⊤
IsOfUsers (NoUsers error) = ⊤
IsOfUsers _ = ⊥

-- of options of Debian's among them
abbrev pub IsOfOptions : WordsFault → Type 0
IsOfOptions NoMemory = ⊤
IsOfOptions (NotTaken text) = ⊤
IsOfOptions HostForHelp = ⊤
IsOfOptions _ = ⊥

-- if all was written: the line of the fault, and nothing else; of a file that can't be read, the system's word ends it
-- EXIT-2
abbrev pub TellsWords : {E : Type 0} → (E → Option (List ℕ)) → E → E → Bool → WordsFault → Type 0
TellsWords contents old new is_told (NotHad fault) = Tells contents old new is_told (fault_line fault)
TellsWords contents old new is_told NoMemory = Tells contents old new is_told (fault_line faults.NoMemory)
TellsWords contents old new is_told (NotTaken text) =
    Tells contents old new is_told (codes "rpcbind: " ++ (string_bytes text ++ codes "\n"))
TellsWords contents old new is_told HostForHelp = Tells contents old new is_told host_line
TellsWords contents old new is_told (NoUser name) =
    Tells contents old new is_told (codes "rpcbind: --reserve: /etc/passwd has no user " ++ (string_bytes name ++ codes "\n"))
TellsWords contents old new is_told (NoUsers error) = TellsBehind contents old is_told (codes "rpcbind: read /etc/passwd: ")
