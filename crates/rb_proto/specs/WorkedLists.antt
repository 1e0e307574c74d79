-- Worked examples: SETs that need room, and what is yet to be given of a list.
use Rattle.std.specs.Prelude.{◌≡◌, ℕ, Bool, true, false, List, [], ◌∷◌, ◌++◌, drop, map, Some, None, Result, Ok, Err}
use Rattle.rb_registry.specs.declared.row.Row.{Row}
use Rattle.rb_registry.specs.Rows.Change.{Added}
use Rattle.rb_registry.specs.Worked.{own, first, second, one_removed, of_eight}
use Rattle.rb_arguments.specs.declared.request.ArgumentFault.{ArgumentFault}
use Rattle.rb_answers.specs.declared.answers.Listing.TheVariants.{Mappings}
use Rattle.rb_answers.specs.declared.list_reply.ListReply.{ListReply}
use Rattle.rb_arguments.specs.declared.request.Request.{Request}
use Rattle.rb_arguments.specs.Arguments.{read_request}
use Rattle.rb_answers.specs.Callers.{own_rows}
use Rattle.rb_answers.specs.Ledger.{Ledger, fresh_ledger}
use Rattle.rb_answers.specs.Answers.{wants_room}
use Rattle.rb_answers.specs.ListParts.{list_reply}
use Rattle.rb_answers.specs.ListReplies.{rest_of}
use Rattle.rb_proto.specs.Worked.{Message, listener, from, call, context_of, call_of}

-- ---- room

-- these rows were set
abbrev pub with_rows : List Row → Ledger
with_rows rows = record (fresh_ledger (own_rows listener)) { changes = map Added rows }

abbrev pub request_wants : Message → Ledger → Result Request ArgumentFault → Bool
request_wants m l (Ok request) = wants_room (context_of 8 m) (call_of m request) l
request_wants m l (Err fault) = false

-- whether a call needs room, if there are eight rows at most
abbrev pub wants : Message → Ledger → Bool
wants m l = request_wants m l (read_request m.vers m.proc m.args)

-- SET of (program, 1) on tcp, at this port
abbrev pub set_at : ℕ → ℕ → Message
set_at port prog = call 2 1 (prog ∷ 1 ∷ 6 ∷ port ∷ [])

abbrev pub set : ℕ → Message
set prog = set_at 2049 prog

-- the row is new and the caller is here; an UNSET, a DUMP, a SET at no port and one from elsewhere need none
abbrev pub SetsWantRoom : Type 0
SetsWantRoom =
    map (λ m. wants m (with_rows []))
    (set 200001 ∷ call 2 2 (200001 ∷ 1 ∷ 6 ∷ 0 ∷ []) ∷ call 2 4 [] ∷ set_at 0 200001
    ∷ record (set 200001) { caller = from (198 ∷ 51 ∷ 100 ∷ 7 ∷ []) } ∷ [])
    ≡ true ∷ false ∷ false ∷ false ∷ false ∷ []

-- a SET of a live row needs none, nor does one if eight rows are live
abbrev pub FullTableWantsNone : Type 0
FullTableWantsNone =
    (map (λ m. wants m (with_rows (first ∷ []))) (set 200001 ∷ set 200002 ∷ []) ≡ false ∷ true ∷ [])
    × (map (λ m. wants m (with_rows (first ∷ second ∷ []))) (set 200003 ∷ []) ≡ false ∷ [])

-- ---- lists in parts

-- a DUMP of version 2 under xid 1, as of this many changes
abbrev pub fresh_dump : ℕ → ListReply
fresh_dump stamp = record { xid = 1; list = Mappings; stamp = stamp; cursor = None; given = 0; begun = false }

-- that dump up to the row of a key, of which this many bytes were given
abbrev pub dump_behind : ℕ → ℕ → ℕ → ListReply
dump_behind stamp key given = record (fresh_dump stamp) { cursor = Some key; given = given; begun = true }

-- a head of 24 bytes, and 20 for each row: 100 bytes end in the fourth row
abbrev pub PartsCrossRows : Type 0
PartsCrossRows =
    (rest_of (of_eight 0 []) (fresh_dump 0) ≡ list_reply 1 own Mappings)
    × (rest_of (of_eight 0 []) (dump_behind 0 2 16) ≡ drop 100 (list_reply 1 own Mappings))
    × (rest_of (of_eight 0 []) (dump_behind 0 5 4) ≡ [])

-- the first of two rows was removed: it is listed as of before, and not as of now
abbrev pub ListsAreAsOfTheirCall : Type 0
ListsAreAsOfTheirCall =
    (rest_of (of_eight 2 one_removed) (fresh_dump 2) ≡ list_reply 1 (own ++ first ∷ second ∷ []) Mappings)
    × (rest_of (of_eight 2 one_removed) (dump_behind 2 6 0) ≡ drop 164 (list_reply 1 (own ++ first ∷ second ∷ []) Mappings))
    × (rest_of (of_eight 2 one_removed) (fresh_dump 3) ≡ list_reply 1 (own ++ second ∷ []) Mappings)
