-- What is read of the settings of others: lines of tcpd's files (hosts_access(5)) and of /etc/passwd (passwd(5)).
use Rattle.std.specs.Prelude.{ℕ, ◌^◌, ◌==◌, Bool, ◌||◌, if◌then◌else◌, List, codes, bytes_eq, Option, Some, None}
use Rattle.rb_address.specs.Reading.{◌>>=◌, cut, plain_number}

-- ---- tcpd's files

abbrev pub front_or : List ℕ → Option (List ℕ × List ℕ) → List ℕ
front_or text None = text
front_or text (Some parts) = parts.0

abbrev pub is_one_of_its_names : List ℕ → Bool
is_one_of_its_names name = bytes_eq name (codes "rpcbind") || bytes_eq name (codes "portmap") || bytes_eq name (codes "ALL")

-- a service at one host stands before an `@`
-- HOSTS-1
abbrev pub is_service : List ℕ → Bool
is_service name = is_one_of_its_names (front_or name (cut 64 name))

-- a space, a tab or a comma
abbrev pub is_between : ℕ → Bool
is_between byte = byte == 32 || byte == 9 || byte == 44

-- ---- users

-- behind the name stand a password and the uid
abbrev pub uid_behind : List ℕ → Option ℕ
uid_behind rest = do
  password ← cut 58 rest
  uid ← cut 58 password.1
  plain_number (2 ^ 32) uid.0

abbrev pub uid_in_parts : List ℕ → Option (List ℕ × List ℕ) → Option ℕ
uid_in_parts name None = None
uid_in_parts name (Some parts) = if bytes_eq parts.0 name then uid_behind parts.1 else None

-- the uid of the user of this name, if the line is that user's
abbrev pub uid_in : List ℕ → List ℕ → Option ℕ
uid_in name line = uid_in_parts name (cut 58 line)
