-- What rpcinfo shows of the live rows, which it asks the daemon for.
use Rattle.std.specs.Prelude.{◌≡◌, ℕ, true, List, ◌++◌, length, Option, Some, All}
use Rattle.rb_xdr.specs.Xdr.{IsNumber}
use Rattle.rb_address.specs.declared.who.Who.{Who}
use Rattle.rb_address.specs.declared.caller.Caller.TheVariants.{Tcp}
use Rattle.rb_rpc.specs.declared.reply.ReplyStatus.TheVariants.{Success}
use Rattle.rb_rpc.specs.Replies.{reply_head}
use Rattle.rb_rpc.specs.Grammar.{IsCaller}
use Rattle.rb_registry.specs.declared.row.Row.{Row}
use Rattle.rb_arguments.specs.Types.{IsRpcb}
use Rattle.rb_answers.specs.Callers.{own_rows}
use Rattle.rb_answers.specs.Ledger.{rows_in}
use Rattle.rb_answers.specs.Results.{rpcb_of}
use Rattle.rb_model.specs.Calls.Outcome.{Reply}
use Rattle.rb_model.specs.State.{State, are_good}
use Rattle.rb_model.specs.Step.{serve}
use Rattle.rb_model.specs.ChangeLaws.{IsReachedByBytes}
use Rattle.rb_show.specs.declared.ask.Ask.{Ask}
use Rattle.rb_show.specs.declared.ask.Question.{Question}
use Rattle.rb_show.specs.declared.ask.Question.TheVariants.{Rows, Short, Summary, OldRows, OldShort, OldSummary, Pmap}
use Rattle.rb_show.specs.declared.form.Form.{Form}
use Rattle.rb_show.specs.Asks.{credential_of, call_of}
use Rattle.rb_promises.specs.RowLists.{dump, pmap_dump, ShowsDump, ShowsMappings}

-- rpcinfo's call that asks this over a connection is answered with these results
abbrev pub IsAnsweredBy : State → Question → List ℕ → Type 0
IsAnsweredBy s question results =
    (id : ℕ) (who : Who) (uid : Option ℕ) (xid : ℕ) → IsNumber xid → IsCaller (credential_of uid)
    → let ask : Ask = record { question = question; uid = uid } in
    (serve s (Tcp id who) (call_of ask xid)).0
    ≡ Reply (reply_head xid Success ++ results) (Some (length s.ledger.changes))

-- with the list of all live rows, by DUMP of version 3; or of those of tcp and udp, by that of version 2
pub record AnswersDumps (s : State) : Type 0 where
  pub each : IsAnsweredBy s Rows (dump (rows_in s.ledger))
  pub short : IsAnsweredBy s Short (dump (rows_in s.ledger))
  pub summary : IsAnsweredBy s Summary (dump (rows_in s.ledger))
  pub old_each : IsAnsweredBy s OldRows (pmap_dump (rows_in s.ledger))
  pub old_short : IsAnsweredBy s OldShort (pmap_dump (rows_in s.ledger))
  pub old_summary : IsAnsweredBy s OldSummary (pmap_dump (rows_in s.ledger))
  pub table : IsAnsweredBy s Pmap (pmap_dump (rows_in s.ledger))

abbrev pub DumpsAreAnswered : Type 0
DumpsAreAnswered = (s : State) → AnswersDumps s

-- the row fits the item of DUMP
abbrev pub FitsDump : Row → Type 0
FitsDump row = IsRpcb (rpcb_of row)

-- all of them are shown, in either version
pub record ShowsLive (form : Form) (rows : List Row) : Type 0 where
  pub dumps : ShowsDump form rows
  pub mappings : ShowsMappings form rows

-- In each state that a run of bytes reaches at good limits, all live rows are shown of these lists, in their order, if
-- the listener's own rows fit the item of DUMP.
abbrev pub LiveRowsAreShown : Type 0
LiveRowsAreShown =
    (s : State) → IsReachedByBytes s → are_good s.setting.limits s.setting.listener ≡ true
    → All FitsDump (own_rows s.setting.listener) → (form : Form) → ShowsLive form (rows_in s.ledger)
