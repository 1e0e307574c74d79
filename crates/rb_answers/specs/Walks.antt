-- Which calls walk rows.
use Rattle.std.specs.Prelude.{Bool, true, false, ◌&&◌, ◌||◌, IsTrue}
use Rattle.rb_arguments.specs.declared.procedure.VoidProcedure.TheVariants as voids
use Rattle.rb_arguments.specs.declared.procedure.MappingProcedure.TheVariants as mappings
use Rattle.rb_arguments.specs.declared.procedure.RpcbProcedure.TheVariants as rpcbs
use Rattle.rb_arguments.specs.declared.request.Request.{Request}
use Rattle.rb_arguments.specs.declared.request.Request.TheVariants as requests
use Rattle.rb_answers.specs.declared.answers.Answer.{Answer}
use Rattle.rb_answers.specs.declared.answers.Answer.TheVariants as answers
use Rattle.rb_answers.specs.declared.answers.Results.{Results}
use Rattle.rb_answers.specs.declared.answers.Results.TheVariants as results
use Rattle.rb_answers.specs.declared.call.Call.{Call}

-- a list of rows is asked for
abbrev pub lists_rows : Request → Bool
lists_rows (requests.Void voids.PmapDump) = true
lists_rows (requests.Void voids.Dump) = true
lists_rows (requests.Rpcb rpcbs.Getaddrlist r) = true
lists_rows _ = false

-- a SET or an UNSET
abbrev pub changes_rows : Request → Bool
changes_rows (requests.Mapping mappings.Set m) = true
changes_rows (requests.Mapping mappings.Unset m) = true
changes_rows (requests.Rpcb rpcbs.Set r) = true
changes_rows (requests.Rpcb rpcbs.Unset r) = true
changes_rows _ = false

-- A list walks rows, and so does a SET or an UNSET of a caller that may register: that of another is refused before.
-- REGISTER-3
abbrev pub walks_rows : Bool → Request → Bool
walks_rows may request = lists_rows request || may && changes_rows request

-- rows are shown
abbrev pub are_rows : Results → Bool
are_rows (results.Value value) = false
are_rows (results.Rows list) = true
are_rows results.Statistics = false

abbrev pub shows_rows : Answer → Bool
shows_rows (answers.Results given) = are_rows given
shows_rows (answers.Refused status) = false
shows_rows answers.Forwarded = false
shows_rows answers.Silent = false

-- a list answers a call for one alone
abbrev pub ListsIfAsked : Call → Answer → Type 0
ListsIfAsked call given = IsTrue (shows_rows given) → IsTrue (lists_rows call.request)
