-- RFC 1833 on a page: what a message is answered with (RFC 5531 sections 8 and 9, RFC 1833 sections 2.2 and 3.2). Begin at
-- `Answers`, and read upwards. Which messages are in the bytes of a connection, in which order their replies go out and what each
-- leaves is on the page of runs, Accounts.antt; what the caller of a forwarded call is told at its end, on the page of ends, Ends.antt.
-- As whom a caller counts is in LocalCallers.antt. A module under `declared` is a type of the sources.
use Rattle.std.specs.Prelude.{◌≡◌, ◌≢◌, ◌↔◌, ⊤, ℕ, ◌<◌, ◌≤◌, true, false, List, [], ◌∷◌, ◌++◌, length, Option, Some, None}
use Rattle.rb_xdr.specs.Xdr.{AreBytes, boolean, number, opaque, linked_list}
use Rattle.rb_address.specs.declared.netid.Netid.{Netid}
use Rattle.rb_rpc.specs.declared.call.CallHead.{CallHead}
use Rattle.rb_address.specs.declared.caller.Caller.{Caller}
use Rattle.rb_address.specs.declared.caller.Caller.TheVariants as callers
use Rattle.rb_arguments.specs.declared.kind.Kind.{Kind}
use Rattle.rb_arguments.specs.declared.kind.Kind.TheVariants.{Indirect}
use Rattle.rb_rpc.specs.declared.reply.ReplyStatus.{ReplyStatus}
use Rattle.rb_rpc.specs.declared.reply.ReplyStatus.TheVariants as replies
use Rattle.rb_rpc.specs.Replies.{reply_head}
use Rattle.rb_rpc.specs.Grammar.{IsNoCall}
use Rattle.rb_rpc.specs.Feeds.{arguments_of}
use Rattle.rb_registry.specs.declared.row.Row.{Row}
use Rattle.rb_stats.specs.declared.key.Version.{Version}
use Rattle.rb_stats.specs.Statistics.{statistics}
use Rattle.rb_stats.specs.Statistics.Note.{Called}
use Rattle.rb_arguments.specs.declared.mapping.Mapping.{Mapping}
use Rattle.rb_arguments.specs.declared.netbuf.Netbuf.{Netbuf}
use Rattle.rb_arguments.specs.declared.remote.RemoteCall.{RemoteCall}
use Rattle.rb_arguments.specs.declared.procedure.MappingProcedure.TheVariants as mappings
use Rattle.rb_arguments.specs.declared.procedure.RpcbProcedure.TheVariants as rpcbs
use Rattle.rb_arguments.specs.declared.procedure.VoidProcedure.TheVariants as voids
use Rattle.rb_arguments.specs.declared.request.Request.{Request}
use Rattle.rb_arguments.specs.declared.request.Request.TheVariants as requests
use Rattle.rb_arguments.specs.Types.{mapping_spelling, rpcb_spelling, netbuf_spelling, entry_spelling}
use Rattle.rb_answers.specs.declared.call.Call.{Call}
use Rattle.rb_answers.specs.declared.context.Context.{Context}
use Rattle.rb_answers.specs.Callers.{who_of}
use Rattle.rb_answers.specs.Ledger.{Ledger, rows_in}
use Rattle.rb_model.specs.Calls.{Outcome, Outcome as outcomes, outcome, message_of, longest_for}
use Rattle.rb_model.specs.Grammar.{BeginsWithRequest, HasUnreadableArguments, IsRefused}
use Rattle.rb_model.specs.State.{State}
use Rattle.rb_model.specs.Step.{IsReached, context_in, serve}
use Rattle.rb_promises.specs.Addresses.{IsOverIpv4}
use Rattle.rb_promises.specs.Sets.{IsByProtocol, SetsARow, IsVersion}
use Rattle.rb_promises.specs.Unsets.{RemovesARow}
use Rattle.rb_promises.specs.LookUps.{IsFound, IsFoundExactly, CameBy, TellsText, TellsPort, HasHosts}
use Rattle.rb_promises.specs.ListedRows.{AreItems, IsMappingOf, IsRpcbOf, IsAny, IsEntryOf, IsOfVersion}
use Rattle.rb_promises.specs.TurnedAddresses.{TurnsText, TurnsBytes, AreSeconds}
use Rattle.rb_promises.specs.Forwards.{GoesBy, GoesTo, HasRoom}
use Rattle.rb_promises.specs.ReachedRows.{HaveKeysOfTheirOwn}

-- ---- the results of each procedure

-- SET and UNSET: TRUE if this is so, else FALSE. A SET on another netid than tcp, udp, tcp6, udp6 and local asks for no row, so none
-- is accepted. An UNSET takes the rows that its caller's user registered (the superuser: any), of version 2 those on tcp and udp, of
-- 3 and 4 those on r_netid, on each netid if that is empty.
pub data IsWhether (IsSo : Type 0) (results : List ℕ) : Type 0 where
  Yes : IsSo → results ≡ boolean true → IsWhether IsSo results
  No : ¬ IsSo → results ≡ boolean false → IsWhether IsSo results

-- GETPORT: the port of the row that is found on the netid of the protocol, 0 if none is
pub record IsPortFound (m : Mapping) (rows : List Row) (results : List ℕ) : Type 0 where
  pub netid : Netid
  pub by : IsByProtocol m.prot netid
  pub found : Option Row
  pub is_found : IsFound m.prog m.vers netid rows found
  pub port : ℕ
  pub tells : TellsPort found port
  pub spelled : results ≡ number port

-- and 0 for any other protocol
pub data GivesPort (m : Mapping) (rows : List Row) (results : List ℕ) : Type 0 where
  ByProtocol : IsPortFound m rows results → GivesPort m rows results
  ByNone : ((netid : Netid) → ¬ (IsByProtocol m.prot netid)) → results ≡ number 0 → GivesPort m rows results

-- GETADDR and GETVERSADDR: the address of the row that is found on the netid by which the call came, with the host that was asked,
-- or else the announced one, in place of every host; the empty text if none is found. GETVERSADDR finds just that version. r_netid
-- counts for nothing.
pub record GivesAddress (context : Context) (Finds : Netid → Option Row → Type 0) (results : List ℕ) : Type 0 where
  pub netid : Netid
  pub came : CameBy context.caller netid
  pub found : Option Row
  pub is_found : Finds netid found
  pub text : List ℕ
  pub tells : TellsText context found text
  pub spelled : results ≡ opaque text

-- DUMP and GETADDRLIST: an item for each row that is listed
pub record GivesList {Item : Type 0} (spelling : Item → List ℕ) (IsListed : Row → Type 0) (IsItemOf : Row → Item → Type 0)
    (rows : List Row) (results : List ℕ) : Type 0 where
  pub items : List Item
  pub are_items : AreItems IsListed IsItemOf rows items
  pub spelled : results ≡ linked_list spelling items

-- GETTIME
pub record GivesTime (milliseconds : ℕ) (results : List ℕ) : Type 0 where
  pub seconds : ℕ
  pub are : AreSeconds milliseconds seconds
  pub spelled : results ≡ number seconds

-- UADDR2TADDR: no bytes, if the text spells no address, as one whose IPv6 host ends in an IPv4 address
pub record GivesForm (text results : List ℕ) : Type 0 where
  pub netbuf : Netbuf
  pub turned : TurnsText text netbuf.buf
  pub maxlen : netbuf.maxlen ≡ length netbuf.buf
  pub spelled : results ≡ netbuf_spelling netbuf

-- TADDR2UADDR: an IPv6 host is printed in groups, also one that stands for an IPv4 host
pub record GivesText (form results : List ℕ) : Type 0 where
  pub text : List ℕ
  pub turned : TurnsBytes form text
  pub spelled : results ≡ opaque text

-- The results of this request, on these rows; a forwarded call has none here, see `Forwards`.
abbrev pub Gives : Context → CallHead → Ledger → Request → List ℕ → Type 0
Gives context head l (requests.Void voids.Null) results = results ≡ []
Gives context head l (requests.Void voids.PmapDump) results = GivesList mapping_spelling (λ row. IsOverIpv4 row.netid) IsMappingOf (rows_in l) results
Gives context head l (requests.Void voids.Dump) results = GivesList rpcb_spelling IsAny IsRpcbOf (rows_in l) results
Gives context head l (requests.Void voids.Gettime) results = GivesTime context.clock results
Gives context head l (requests.Void voids.Getstat) results = results ≡ statistics l.history
Gives context head l (requests.Mapping mappings.Set m) results = IsWhether (SetsARow context head (requests.Mapping mappings.Set m) l) results
Gives context head l (requests.Mapping mappings.Unset m) results = IsWhether (RemovesARow context head (requests.Mapping mappings.Unset m) l) results
Gives context head l (requests.Mapping mappings.Getport m) results = GivesPort m (rows_in l) results
Gives context head l (requests.Rpcb rpcbs.Set r) results = IsWhether (SetsARow context head (requests.Rpcb rpcbs.Set r) l) results
Gives context head l (requests.Rpcb rpcbs.Unset r) results = IsWhether (RemovesARow context head (requests.Rpcb rpcbs.Unset r) l) results
Gives context head l (requests.Rpcb rpcbs.Getaddr r) results = GivesAddress context (λ netid. IsFound r.prog r.vers netid (rows_in l)) results
Gives context head l (requests.Rpcb rpcbs.Getversaddr r) results = GivesAddress context (λ netid. IsFoundExactly r.prog r.vers netid (rows_in l)) results
Gives context head l (requests.Rpcb rpcbs.Getaddrlist r) results = GivesList entry_spelling (IsOfVersion r.prog r.vers) (IsEntryOf context) (rows_in l) results
Gives context head l (requests.Uaddr2taddr text) results = GivesForm text results
Gives context head l (requests.Taddr2uaddr netbuf) results = GivesText netbuf.buf results
Gives context head l (requests.Forward kind remote) results = ⊥

-- ---- replies

-- on a connection: over TCP or the local socket
abbrev pub IsOverTcp : Caller → Type 0
IsOverTcp (callers.Tcp id who) = ⊤
IsOverTcp (callers.Udp who longest) = ⊥

abbrev pub IsListRequest : Request → Type 0
IsListRequest (requests.Void voids.PmapDump) = ⊤
IsListRequest (requests.Void voids.Dump) = ⊤
IsListRequest (requests.Rpcb rpcbs.Getaddrlist r) = ⊤
IsListRequest _ = ⊥

-- a list of rows on a connection
abbrev pub IsStreamed : Caller → Request → Type 0
IsStreamed caller request = IsOverTcp caller × IsListRequest request

-- A list on a connection may have any length, and is of the rows as of its call, which is after this many changes: what is set or
-- removed while it is sent is not in it. Other results become SYSTEM_ERR if their reply is too long: over 9,000 bytes, or for a
-- stranger over UDP over twice its datagram.
pub data Replies (caller : Caller) (xid : ℕ) (request : Request) (changes : ℕ) (results : List ℕ) (given : Outcome) : Type 0 where
  AList : IsStreamed caller request → given ≡ outcomes.Reply (reply_head xid replies.Success ++ results) (Some changes)
      → Replies caller xid request changes results given
  Short : ¬ (IsStreamed caller request) → length (reply_head xid replies.Success ++ results) ≤ longest_for caller
      → given ≡ outcomes.Reply (reply_head xid replies.Success ++ results) None
      → Replies caller xid request changes results given
  TooLong : ¬ (IsStreamed caller request) → longest_for caller < length (reply_head xid replies.Success ++ results)
      → given ≡ outcomes.Reply (reply_head xid replies.SystemErr) None
      → Replies caller xid request changes results given

-- CALLIT, BCAST and INDIRECT: the row of exactly that program and version, on udp, or on udp6 for a caller over IPv6
pub record IsSought (context : Context) (remote : RemoteCall) (rows : List Row) (found : Option Row) : Type 0 where
  pub netid : Netid
  pub goes_by : GoesBy (who_of context.caller).source netid
  pub is_found : IsFoundExactly remote.prog remote.vers netid rows found

-- INDIRECT is told why a call is not forwarded, the others are not answered
pub data IsToldWhy (kind : Kind) (xid : ℕ) (status : ReplyStatus) (given : Outcome) : Type 0 where
  Told : kind ≡ Indirect → given ≡ outcomes.Reply (reply_head xid status) None → IsToldWhy kind xid status given
  Silent : kind ≢ Indirect → given ≡ outcomes.Silent → IsToldWhy kind xid status given

pub data Forwards (context : Context) (xid : ℕ) (kind : Kind) (remote : RemoteCall) (l : Ledger) (given : Outcome) : Type 0 where
  Goes : (found : Option Row) → IsSought context remote (rows_in l) found → GoesTo context remote found → HasRoom context l
      → given ≡ outcomes.Forwarded → Forwards context xid kind remote l given
  GoesNowhere : (found : Option Row) → IsSought context remote (rows_in l) found → ¬ (GoesTo context remote found)
      → IsToldWhy kind xid replies.ProgUnavail given → Forwards context xid kind remote l given
  HasNoRoom : (found : Option Row) → IsSought context remote (rows_in l) found → GoesTo context remote found → ¬ (HasRoom context l)
      → IsToldWhy kind xid replies.SystemErr given → Forwards context xid kind remote l given

-- ---- the page

-- A call of a procedure is answered with its results, or forwarded.
pub data AnswersCall (context : Context) (call : Call) (l : Ledger) (given : Outcome) : Type 0 where
  WithResults : (results : List ℕ) → Gives context call.head l call.request results
      → Replies context.caller call.head.xid call.request (length l.changes) results given
      → AnswersCall context call l given
  ByForwarding : (kind : Kind) (remote : RemoteCall) → call.request ≡ requests.Forward kind remote
      → Forwards context call.head.xid kind remote l given → AnswersCall context call l given

-- A call of a procedure is counted in info by its version and procedure, whatever it is answered, GETSTAT itself too; setinfo and
-- unsetinfo count TRUE alone.
pub record IsCounted (head : CallHead) (l new : Ledger) : Type 0 where
  pub version : Version
  pub is : IsVersion head.vers version
  pub left : new ≡ record l { history = l.history ++ Called version head.proc ∷ [] }

-- A message is no call, and has no answer; or it is refused, whatever the daemon holds, by the first of these that is wrong: the
-- version of RPC, the credential (over 400 bytes: AUTH_ERROR, AUTH_BADCRED), the verifier (over 400: AUTH_BADVERF), the program, its
-- version (PROG_MISMATCH tells 2 to 4), the procedure; or its arguments can't be read; or it asks for a procedure.
pub data Answers (context : Context) (l : Ledger) (bytes : List ℕ) (given : Outcome) : Type 0 where
  NoCall : IsNoCall bytes → given ≡ outcomes.NoCall → Answers context l bytes given
  Refused : (xid : ℕ) (status : ReplyStatus) → IsRefused xid status bytes
      → given ≡ outcomes.Reply (reply_head xid status) None → Answers context l bytes given
  Unreadable : (head : CallHead) → HasUnreadableArguments head bytes
      → given ≡ outcomes.Reply (reply_head head.xid replies.GarbageArgs) None → Answers context l bytes given
  Asked : (call : Call) (counted : Ledger) → BeginsWithRequest call bytes → IsCounted call.head l counted → AnswersCall context call counted given
      → Answers context l bytes given

-- ---- the law

-- what a message of these bytes is answered with, by the definition that the code is proved by
abbrev pub answer_given : Context → Ledger → List ℕ → Outcome
answer_given context l bytes = (outcome context (message_of bytes) (arguments_of bytes) l).0

-- A message is answered with this if and only if the page says so: so the page gives it one answer.
abbrev pub IsAnsweredAsSaid : Context → Ledger → Type 0
IsAnsweredAsSaid context l =
    (bytes : List ℕ) → AreBytes bytes → (given : Outcome) → (answer_given context l bytes ≡ given) ↔ Answers context l bytes given

-- Hosts have the bytes of their family, and no two rows have the same program, version and netid.
abbrev pub MessagesAreAnsweredAsSaid : Type 0
MessagesAreAnsweredAsSaid =
    (context : Context) (l : Ledger) → HasHosts context → HaveKeysOfTheirOwn (rows_in l) → IsAnsweredAsSaid context l

-- So in each state that a run reaches: `serve` is what answers each record and each datagram of a run.
abbrev pub CallersAreServedAsSaid : Type 0
CallersAreServedAsSaid =
    (s : State) → IsReached s → (caller : Caller) → HasHosts (context_in s caller) → (bytes : List ℕ) → AreBytes bytes
    → (given : Outcome) → ((serve s caller bytes).0 ≡ given) ↔ Answers (context_in s caller) s.ledger bytes given
