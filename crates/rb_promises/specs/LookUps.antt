-- What is told of the rows that are looked up (RPCBPROC_GETADDR, RPCBPROC_GETVERSADDR and PMAPPROC_GETPORT, RFC 1833
-- sections 2.2.1 and 3.2).
use Rattle.std.specs.Prelude.{◌≡◌, ◌≢◌, ◌⊎◌, ◌↔◌, ⊤, ℕ, ◌+◌, ◌*◌, ◌<◌, ◌≤◌, List, [], ◌∷◌, Contains, Option, Some, None, decimal}
use Rattle.std.specs.List.{join_with_byte}
use Rattle.rb_uaddr.specs.Uaddr.{IsBytes, any_host, any_host6, dot}
use Rattle.rb_uaddr.specs.Grammar.{SpellsV4, SpellsV6, PrintsHost}
use Rattle.rb_address.specs.declared.host.Host.{Host}
use Rattle.rb_address.specs.declared.host.Host.TheVariants as hosts
use Rattle.rb_address.specs.declared.netid.Netid.{Netid}
use Rattle.rb_address.specs.declared.netid.Netid.TheVariants.{Tcp, Udp, Tcp6, Udp6, Local}
use Rattle.rb_address.specs.declared.who.Source.{Source}
use Rattle.rb_address.specs.declared.who.Source.TheVariants as sources
use Rattle.rb_address.specs.declared.host.Family.TheVariants.{Inet, Inet6}
use Rattle.rb_address.specs.Hosts.{IsBytesOf, family_of}
use Rattle.rb_rpc.specs.declared.call.CallHead.{CallHead}
use Rattle.rb_address.specs.declared.caller.Caller.{Caller}
use Rattle.rb_address.specs.declared.caller.Caller.TheVariants as callers
use Rattle.rb_registry.specs.declared.row.Row.{Row}
use Rattle.rb_arguments.specs.declared.mapping.Mapping.{Mapping}
use Rattle.rb_arguments.specs.declared.rpcb.Rpcb.{Rpcb}
use Rattle.rb_arguments.specs.declared.procedure.MappingProcedure.TheVariants as mappings
use Rattle.rb_arguments.specs.declared.procedure.RpcbProcedure.TheVariants as rpcbs
use Rattle.rb_arguments.specs.declared.request.Request.TheVariants as requests
use Rattle.rb_answers.specs.declared.answers.Answer.TheVariants as answers
use Rattle.rb_answers.specs.declared.answers.Results.TheVariants as results
use Rattle.rb_answers.specs.declared.answers.Value.TheVariants as values
use Rattle.rb_answers.specs.declared.answers.Answer.{Answer}
use Rattle.rb_answers.specs.declared.context.Context.{Context}
use Rattle.rb_answers.specs.Callers.{who_of}
use Rattle.rb_answers.specs.Ledger.{Ledger, rows_in}
use Rattle.rb_answers.specs.Answers.{answer_to}
use Rattle.rb_promises.specs.Addresses.{IsOverIpv4, IsOverIpv6, IsAddressOn}
use Rattle.rb_promises.specs.Sets.{IsByProtocol}

-- ---- which row is found

-- one of these rows, of the program on the netid
pub record IsOn (prog : ℕ) (netid : Netid) (rows : List Row) (row : Row) : Type 0 where
  pub live : Contains rows row
  pub prog_is : row.prog ≡ prog
  pub netid_is : row.netid ≡ netid

-- and of the version
pub record IsOf (prog vers : ℕ) (netid : Netid) (rows : List Row) (row : Row) : Type 0 where
  pub on : IsOn prog netid rows row
  pub vers_is : row.vers ≡ vers

abbrev pub NoneIsOn : ℕ → Netid → List Row → Type 0
NoneIsOn prog netid rows = (row : Row) → IsOn prog netid rows row → ⊥

abbrev pub NoneIsOf : ℕ → ℕ → Netid → List Row → Type 0
NoneIsOf prog vers netid rows = (row : Row) → IsOf prog vers netid rows row → ⊥

-- no row of the program on the netid is of a greater version
abbrev pub IsGreatest : ℕ → Netid → List Row → Row → Type 0
IsGreatest prog netid rows row = (other : Row) → IsOn prog netid rows other → other.vers ≤ row.vers

-- A row of just the version that was asked for; if there is none, of the greatest one of the program on the netid.
pub data IsFound (prog vers : ℕ) (netid : Netid) (rows : List Row) : Option Row → Type 0 where
  ThatVersion : (row : Row) → IsOf prog vers netid rows row → IsFound prog vers netid rows (Some row)
  GreatestVersion : (row : Row) → NoneIsOf prog vers netid rows → IsOn prog netid rows row
      → IsGreatest prog netid rows row → IsFound prog vers netid rows (Some row)
  NoVersion : NoneIsOn prog netid rows → IsFound prog vers netid rows None

-- A row of just the version that was asked for, and no other.
pub data IsFoundExactly (prog vers : ℕ) (netid : Netid) (rows : List Row) : Option Row → Type 0 where
  ThatRow : (row : Row) → IsOf prog vers netid rows row → IsFoundExactly prog vers netid rows (Some row)
  NoRow : NoneIsOf prog vers netid rows → IsFoundExactly prog vers netid rows None

-- ---- the netid of a call

-- over IPv4 the first netid, over IPv6 the second, and over the local socket its own
abbrev pub IsOver : Source → Netid → Netid → Netid → Type 0
IsOver (sources.Inet peer) v4 v6 netid =
    ((family_of peer.host ≡ Inet) × (netid ≡ v4)) ⊎ ((family_of peer.host ≡ Inet6) × (netid ≡ v6))
IsOver sources.Local v4 v6 netid = netid ≡ Local

-- the netid by which the caller's call came
abbrev pub CameBy : Caller → Netid → Type 0
CameBy (callers.Tcp id who) netid = IsOver who.source Tcp Tcp6 netid
CameBy (callers.Udp who longest) netid = IsOver who.source Udp Udp6 netid

-- ---- which host is told

-- the host that was asked is of another family, or stands for every host
abbrev pub AsksForNone : (List ℕ → Host) → List ℕ → Host → Type 0
AsksForNone of every asked = (host : List ℕ) → asked ≡ of host → host ≡ every

-- The host of a family that a caller is told in place of every host: the one that it asked, if that is one of the
-- family and does not stand for every host; else the announced one; and every host if none is announced. Over UDP the
-- host that it asked is that of the socket, and a socket of all addresses stands for every host.
pub data StandsIn (of : List ℕ → Host) (every : List ℕ) (announced : Option (List ℕ)) (asked : Host) (host : List ℕ)
    : Type 0 where
  TheAsked : asked ≡ of host → host ≢ every → StandsIn of every announced asked host
  TheAnnounced : AsksForNone of every asked → announced ≡ Some host → StandsIn of every announced asked host
  EveryHost : AsksForNone of every asked → announced ≡ None → host ≡ every → StandsIn of every announced asked host

-- which IPv4 host, and which IPv6 host
abbrev pub StandsInV4 : Context → List ℕ → Type 0
StandsInV4 context host = StandsIn hosts.V4 any_host context.announced.inet (who_of context.caller).asked host

abbrev pub StandsInV6 : Context → List ℕ → Type 0
StandsInV6 context host = StandsIn hosts.V6 any_host6 context.announced.inet6 (who_of context.caller).asked host

-- ---- what is told of a row

-- What is set at 0.0.0.0 is told with the host that stands in for it, and any other IPv4 address as it was set.
pub record TellsV4 (context : Context) (addr text : List ℕ) : Type 0 where
  pub own : List ℕ
  pub host : List ℕ
  pub port : ℕ
  pub was_set : SpellsV4 own port addr
  pub host_is : ((own ≡ any_host) × StandsInV4 context host) ⊎ ((own ≢ any_host) × (host ≡ own))
  pub is_told : SpellsV4 host port text

-- The text is the host as RFC 5952 section 4 prints it, and the port.
pub record PrintsV6 (host : List ℕ) (port : ℕ) (text : List ℕ) : Type 0 where
  pub host_text : List ℕ
  pub p1 : ℕ
  pub p2 : ℕ
  pub printed : PrintsHost host host_text
  pub p1_fits : p1 < 256
  pub p2_fits : p2 < 256
  pub port_is : port ≡ 256 * p1 + p2
  pub text_is : text ≡ join_with_byte dot (host_text ∷ decimal p1 ∷ decimal p2 ∷ [])

-- What is set at :: is told with the host that stands in for it, and any other IPv6 host as itself. Each is printed
-- anew.
pub record TellsV6 (context : Context) (addr text : List ℕ) : Type 0 where
  pub own : List ℕ
  pub host : List ℕ
  pub port : ℕ
  pub was_set : SpellsV6 own port addr
  pub host_is : ((own ≡ any_host6) × StandsInV6 context host) ⊎ ((own ≢ any_host6) × (host ≡ own))
  pub is_told : PrintsV6 host port text

-- it is no address of the family of the netid: the name of a local socket, say
abbrev pub SpellsNone : Netid → List ℕ → Type 0
SpellsNone Tcp addr = (host : List ℕ) (port : ℕ) → SpellsV4 host port addr → ⊥
SpellsNone Udp addr = (host : List ℕ) (port : ℕ) → SpellsV4 host port addr → ⊥
SpellsNone Tcp6 addr = (host : List ℕ) (port : ℕ) → SpellsV6 host port addr → ⊥
SpellsNone Udp6 addr = (host : List ℕ) (port : ℕ) → SpellsV6 host port addr → ⊥
SpellsNone Local addr = ⊤

-- What else there is at a netid is told as it was set.
pub data TellsRow (context : Context) (row : Row) (text : List ℕ) : Type 0 where
  AsV4 : IsOverIpv4 row.netid → TellsV4 context row.addr text → TellsRow context row text
  AsV6 : IsOverIpv6 row.netid → TellsV6 context row.addr text → TellsRow context row text
  AsItStands : SpellsNone row.netid row.addr → text ≡ row.addr → TellsRow context row text

-- empty if there is no row
abbrev pub TellsText : Context → Option Row → List ℕ → Type 0
TellsText context None text = text ≡ []
TellsText context (Some row) text = TellsRow context row text

-- the row's port, or 0 if its address is none of IPv4
pub data HasPort (row : Row) (port : ℕ) : Type 0 where
  Spelled : (host : List ℕ) → SpellsV4 host port row.addr → HasPort row port
  Without : SpellsNone Tcp row.addr → port ≡ 0 → HasPort row port

-- 0 if there is no row
abbrev pub TellsPort : Option Row → ℕ → Type 0
TellsPort None port = port ≡ 0
TellsPort (Some row) port = HasPort row port

-- ---- the laws

-- The announced hosts and the one that was asked are of four bytes and of sixteen.
pub record HasHosts (context : Context) : Type 0 where
  pub asked : IsBytesOf (who_of context.caller).asked
  pub inet : (host : List ℕ) → context.announced.inet ≡ Some host → IsBytes 4 host
  pub inet6 : (host : List ℕ) → context.announced.inet6 ≡ Some host → IsBytes 16 host

-- each is at an address that may be set
abbrev pub AreAtAddresses : List Row → Type 0
AreAtAddresses rows = (row : Row) → Contains rows row → IsAddressOn row.netid row.addr

-- A look-up leaves the rows and the forwarded calls.
pub record LeavesRows (l new : Ledger) : Type 0 where
  pub own : new.own ≡ l.own
  pub changes : new.changes ≡ l.changes
  pub forwards : new.forwards ≡ l.forwards

-- the results that are a text, and a number
abbrev pub told_text : List ℕ → Answer
told_text text = answers.Results (results.Value (values.Text text))

abbrev pub told_number : ℕ → Answer
told_number number = answers.Results (results.Value (values.Number number))

-- What is told is the address of the row that is found.
pub record TellsAddress (context : Context) (Finds : Option Row → Type 0) (l : Ledger) (answered : Answer × Ledger)
    : Type 0 where
  pub found : Option Row
  pub is_found : Finds found
  pub text : List ℕ
  pub is_told : answered.0 ≡ told_text text
  pub tells : TellsText context found text
  pub leaves : LeavesRows l answered.1

-- If every live row is at an address that may be set, the text is empty exactly if none is found.
abbrev pub IsEmptyExactly : Type 0 → Ledger → Answer × Ledger → Type 0
IsEmptyExactly NoneIsThere l answered = AreAtAddresses (rows_in l) → (answered.0 ≡ told_text []) ↔ NoneIsThere

module _ (context : Context) (head : CallHead) (r : Rpcb) (arguments : List ℕ) (l : Ledger) where
  abbrev getaddr_answer : Answer × Ledger
  getaddr_answer = answer_to context head (requests.Rpcb rpcbs.Getaddr r) arguments l

  abbrev getversaddr_answer : Answer × Ledger
  getversaddr_answer = answer_to context head (requests.Rpcb rpcbs.Getversaddr r) arguments l

  pub record AnswersGetaddr : Type 0 where
    pub netid : Netid
    pub came : CameBy context.caller netid
    pub tells : TellsAddress context (IsFound r.prog r.vers netid (rows_in l)) l getaddr_answer
    pub is_empty : IsEmptyExactly (NoneIsOn r.prog netid (rows_in l)) l getaddr_answer

  pub record AnswersGetversaddr : Type 0 where
    pub netid : Netid
    pub came : CameBy context.caller netid
    pub tells : TellsAddress context (IsFoundExactly r.prog r.vers netid (rows_in l)) l getversaddr_answer
    pub is_empty : IsEmptyExactly (NoneIsOf r.prog r.vers netid (rows_in l)) l getversaddr_answer

abbrev pub GetaddrAnswers : Type 0
GetaddrAnswers =
    (context : Context) (head : CallHead) (r : Rpcb) (arguments : List ℕ) (l : Ledger)
    → HasHosts context → AnswersGetaddr context head r arguments l

abbrev pub GetversaddrAnswers : Type 0
GetversaddrAnswers =
    (context : Context) (head : CallHead) (r : Rpcb) (arguments : List ℕ) (l : Ledger)
    → HasHosts context → AnswersGetversaddr context head r arguments l

-- ---- GETPORT

-- What is told is the port of the row that is found on the netid of the protocol.
pub record TellsPortOn (m : Mapping) (netid : Netid) (l : Ledger) (answered : Answer × Ledger) : Type 0 where
  pub found : Option Row
  pub is_found : IsFound m.prog m.vers netid (rows_in l) found
  pub port : ℕ
  pub is_told : answered.0 ≡ told_number port
  pub tells : TellsPort found port
  pub leaves : LeavesRows l answered.1
  pub is_zero : AreAtAddresses (rows_in l) → (port ≡ 0) ↔ NoneIsOn m.prog netid (rows_in l)

module _ (context : Context) (head : CallHead) (m : Mapping) (arguments : List ℕ) (l : Ledger) where
  abbrev getport_answer : Answer × Ledger
  getport_answer = answer_to context head (requests.Mapping mappings.Getport m) arguments l

  -- If the protocol is neither TCP nor UDP, 0 is told and nothing is changed.
  pub record AnswersGetport : Type 0 where
    pub on : (netid : Netid) → IsByProtocol m.prot netid → TellsPortOn m netid l getport_answer
    pub other : ((netid : Netid) → IsByProtocol m.prot netid → ⊥) → getport_answer ≡ (told_number 0, l)

abbrev pub GetportAnswers : Type 0
GetportAnswers =
    (context : Context) (head : CallHead) (m : Mapping) (arguments : List ℕ) (l : Ledger)
    → AnswersGetport context head m arguments l
