-- What the values of the options of `serve` mean.
use Rattle.std.specs.Prelude.{ℕ, ◌+◌, ◌^◌, ◌==◌, nat_lt, nat_le, not, Bool, ◌&&◌, if◌then◌else◌, List, ◌∷◌, length, codes, bytes_eq, Option, Some, None, Result, Ok, Err, option_map}
use Rattle.std.specs.List.{list_all}
use Rattle.std.specs.Char.{digit_value}
use Rattle.std.specs.Str.Parse.{digits_value}
use Rattle.std.specs.Borrow.{Bor}
use Rattle.rb_address.specs.declared.host.Host.{Host}
use Rattle.rb_address.specs.declared.network.Network.{Network}
use Rattle.rb_address.specs.Reading.{cut, number_below}
use Rattle.rb_address.specs.Networks.{network_of, plain_host_of}
use Rattle.rb_answers.specs.declared.listener.Terms.{Terms}
use Rattle.rb_policy.specs.declared.brake.Rate.{Rate}
use Rattle.rb_settings.specs.declared.settings.LocalSocket.{LocalSocket}
use Rattle.rb_policy.specs.declared.log_choice.Logged.{Logged}
use Rattle.rb_policy.specs.declared.log_choice.Logged.TheVariants.{Nothing, Changes, All as Everything}
use Rattle.rb_settings.specs.declared.settings.Settings.{Settings}
use Rattle.rb_commands.specs.declared.options.Valued.{Valued}
use Rattle.rb_commands.specs.declared.options.Valued.TheVariants.{Bind, From, LocalMode, Port, UdpLists, ForwardFor, UdpRate, Turns, RecordLimit, Keep, Log}
use Rattle.rb_commands.specs.declared.serving.ServeTexts.{ServeTexts}
use Rattle.rb_commands.specs.declared.serving.Serve.{Serve}
use Rattle.rb_commands.specs.Options.{◌>>=◌, value_of, values_from, reserved_from, announced_of, read_local, port, limits_of, udp_lists, forward_for}

-- the host at a place of `--bind`, of which there are at most 16
abbrev pub host_at : ℕ → List ℕ → Result Host Valued
host_at place text = if nat_lt place 16 then value_of (Bind place) (plain_host_of text) else Err (Bind place)

-- the network at a place of `--from`, of which there are at most 16
abbrev pub network_at : ℕ → List ℕ → Result Network Valued
network_at place text = if nat_lt place 16 then value_of (From place) (network_of text) else Err (From place)

-- OPTION-4: `--bind` is given at most 16 times, `--announce` at most once for each family.
-- OPTION-4
abbrev pub hosts_from : ℕ → List (Bor (List ℕ)) → Result (List Host) Valued
hosts_from place texts = values_from host_at place texts

-- OPTION-5: `--from` is a host, a slash and a length in decimal without leading zeros, or a host
-- alone, an IPv6 host in any spelling; it is given at most 16 times.
abbrev pub networks_from : ℕ → List (Bor (List ℕ)) → Result (List Network) Valued
networks_from place texts = values_from network_at place texts

abbrev pub is_octal : ℕ → Bool
is_octal c = nat_lt (digit_value c) 8

-- a number below 512 in octal digits: the bits for owner, group and others
-- OPTION-3
abbrev pub read_mode : List ℕ → Option ℕ
read_mode text =
    if not (length text == 0) && list_all is_octal text && nat_lt (digits_value 8 text) 512
    then Some (digits_value 8 text) else None

-- `--local PATH` and `--local-mode MODE`: without a path there is no such socket
abbrev pub local_of : Option (Bor (List ℕ)) → List ℕ → Result (Option LocalSocket) Valued
local_of path mode = do
  named ← read_local path
  bits ← value_of LocalMode (read_mode mode)
  Ok (option_map (λ path. record { path = path; mode = bits }) named)

abbrev pub if_between : ℕ → ℕ → Option ℕ → Option ℕ
if_between least most None = None
if_between least most (Some n) = if nat_le least n && nat_le n most then Some n else None

-- ---- how many datagrams are served in a second

abbrev pub rate_number : List ℕ → Option ℕ
rate_number text = if_between 1 1000 (number_below (2 ^ 64) text)

-- two numbers, or one that is both
abbrev pub rate_of_parts : Option (List ℕ × List ℕ) → List ℕ → Result Rate Valued
rate_of_parts None text = do
  most ← value_of UdpRate (rate_number text)
  Ok (record { network = most; host = most })
rate_of_parts (Some parts) text = do
  of_network ← value_of UdpRate (rate_number parts.0)
  of_host ← value_of UdpRate (rate_number parts.1)
  Ok (record { network = of_network; host = of_host })

-- of one network and, after a comma, of one host
-- OPTION-6: `--udp-rate` is a number from 1 to 1,000, or two with a comma; one stands for both.
abbrev pub rate_of : List ℕ → Result Rate Valued
rate_of text = rate_of_parts (cut 44 text) text

abbrev pub udp_rate : Option (Bor (List ℕ)) → Result (Option Rate) Valued
udp_rate None = Ok None
udp_rate (Some text) = rate_of text.now >>= λ rate. Ok (Some rate)

-- ---- the terms, and the record

abbrev pub terms_of : List ℕ → List ℕ → Result Terms Valued
terms_of lists whom = do
  long ← value_of UdpLists (udp_lists lists)
  served ← value_of ForwardFor (forward_for whom)
  Ok (record { long_replies = long; forwarding = served })

-- in bytes
-- OPTION-2: `--record-limit` is a number from 1,000 to 16,777,216.
abbrev pub record_limit : List ℕ → Option ℕ
record_limit text = if_between 1000 16777216 (number_below (2 ^ 64) text)

-- `--record FILE` and `--record-limit N`: without a file 0, which records nothing
abbrev pub limit_at : ℕ → Option (Bor (List ℕ)) → ℕ
limit_at limit None = 0
limit_at limit (Some path) = limit

abbrev pub recorded_of : Option (Bor (List ℕ)) → List ℕ → Result ℕ Valued
recorded_of path text = do
  limit ← value_of RecordLimit (record_limit text)
  Ok (limit_at limit path)

-- ---- the file of kept rows, and the log

-- OPTION-8: `--keep` is a path of at least one byte; `--log` is `changes` or `all`, and nothing is
-- told without it.
abbrev pub keep_of : Option (Bor (List ℕ)) → Result (Option (Bor (List ℕ))) Valued
keep_of None = Ok None
keep_of (Some path) = if length path.now == 0 then Err Keep else Ok (Some path)

abbrev pub log_named : List ℕ → Option Logged
log_named text =
    if bytes_eq text (codes "changes") then Some Changes
    else if bytes_eq text (codes "all") then Some Everything
    else None

-- nothing, if it is not given
-- OPTION-8
abbrev pub log_of : Option (Bor (List ℕ)) → Result Logged Valued
log_of None = Ok Nothing
log_of (Some text) = value_of Log (log_named text.now)

-- ---- all of them

-- what the daemon is started with; the limit of open files is none of the options
-- SETTING-1: Each setting of the daemon is the one that its option asks for: without `--local`
-- there is no local socket, without `--udp-rate` no limit, without `--record` no record, and
-- without `--keep` nothing is kept.
-- OPTION-9: Each option of `serve` sets its own field; the first that can't be read is named.
abbrev pub settings_of : ℕ → ServeTexts → Result Settings Valued
settings_of open_files texts = do
  announced ← announced_of texts.announce.now
  hosts ← hosts_from 0 texts.bind.now
  networks ← networks_from 0 texts.from.now
  socket ← local_of texts.local texts.local_mode.now
  listens ← value_of Port (port texts.port.now)
  most ← limits_of texts.conns.now texts.rows.now texts.forwards.now
  on ← terms_of texts.udp_lists.now texts.forward_for.now
  rate ← udp_rate texts.udp_rate
  bytes ← recorded_of texts.record_path texts.record_limit.now
  kept ← keep_of texts.keep
  tells ← log_of texts.log
  owned ← reserved_from 0 texts.reserve.now
  Ok (record {
    bind = hosts;
    from = networks;
    loopback6 = texts.loopback6;
    local = socket;
    believe_claims = texts.believe_claims;
    announce = announced;
    port = listens;
    limits = most;
    terms = on;
    reserve = owned;
    udp_rate = rate;
    record_limit = bytes;
    keep = kept;
    log = tells;
    open_files = open_files;
  })

-- what `serve` is asked for, or the first option whose value can't be read
-- OPTION-9
abbrev pub serve_of : ℕ → ServeTexts → Result Serve Valued
serve_of open_files texts = do
  started ← settings_of open_files texts
  ends ← value_of Turns (number_below (2 ^ 64) texts.turns.now)
  Ok (record { settings = started; record_path = texts.record_path; keep_check = texts.keep_check; turns = ends })
