-- `new` makes a struct of no bytes. The walk names its ghost numbers: 0 steps, and a tie that no clause tells.
use Rattle.std.proofs.Common.{List, [], ◌∷◌, refl}
use Rattle.std.proofs.raw_atomic.Walks.{proved}
use base.Fml.{ftrue}
use mir.Val.{Val, vstruct, vcons, vnil}
use types.Kit.{‵, raw, ◌$◌, ◌∵◌, !, qed, done, drop, fjoin, fpack, feq_i, suffices}
use types.Part.{agg}
use types.Run.{enter, and_then, no_more, returns}
use types.ByLocal.{alloc_all, pass_all, free_all, look_at, get, sets}
use denote.Builtin.{u8}
use denote.Laws.{Is}
use denote.RattleType.{RattleType, Valss}
use denote.Steps.{nothing, owned}
use denote.Struct.Laws.{makes}
use denote.Struct.Struct.{Shape, within}
use denote.Triple.Entry.{on_entry}
use denote.Triple.Walked.{Stays, walk_of, says, ends_at}
use Rattle.std.specs.contracts.marker.PhantomData as marker
use Rattle.rb_xdr.specs.contracts.tally.Tally.new as f
use Rattle.rb_xdr.specs.contracts.tally.Tally.{the_row as R}
use Rattle.rb_xdr.proofs.tally.Tally.new.Statement.{statement}
use Rattle.rb_xdr.proofs.tally.Tally.new.Code as code

abbrev Marker : RattleType
Marker = marker.the_row u8

-- the one field
abbrev fields : Shape
fields = record { name = []; args = []; types = []; fields = Marker ∷ [] }

-- the machine's values of the marker and of the struct
abbrev empty : Val
empty = vstruct vnil

abbrev made : Val
made = vstruct (vcons empty vnil)

abbrev stayed : Stays f.ended.signature.params f.ended.kept
stayed = tt

pub new_spec : {M : Type 1} → statement M
new_spec 𝓤 𝓛 𝓜 𝓡 wired =
    let c = f.clauses 𝓛 𝓜.mem 𝓡.returns in let W = walk_of 𝓛 f.ended stayed c in
    proved 𝓛 f.ended stayed c 𝓜 𝓡 tt
    f.Key.name code.function (code.unfolded 𝓤 𝓛.H 𝓜 𝓡 wired)
    (λ κs. tt) (λ κs. tt) (λ κs qs bounds a _ are.
    let y : W.Ghost = ((κs, qs, bounds, a, tt), tt) in
    let tally : R.Denot = record { marker = record {}; steps = 0; tie = 0 } in
    qed 𝓛 (raw (on_entry 𝓛 f.signature κs qs a y.0.4) ∷ ‵ ftrue ∷ []) ∵ drop ! $ drop ! $
    enter ! _ _ _ _ _ $ alloc_all ! (λ l. pass_all ! refl tt $
    sets ! (agg ! (no_more !)) refl (tt, tt) $
    sets ! (agg ! (and_then ! (get ! refl) (no_more !))) refl (tt, (tt, tt)) $
    returns ! (look_at ! 0 refl) $ free_all ! refl $
    suffices ! _ (ends_at 𝓛 f.ended stayed c y made tally tt tt) $ says ! refl $
    -- what the struct owns: the marker as its one field, and nothing of its own
    nothing ! $ nothing ! $ owned ! Marker (Is Marker) (makes (marker.the_type u8) tt 𝓛) (record {}) (empty ∷ []) (tt, (refl, tt)) $ fjoin ! $
    feq_i ! (List Val) (made ∷ []) (made ∷ []) refl $ fjoin ! $
    fpack ! (Valss fields.fields) (within fields (record {}, tt) (made ∷ [])) (empty ∷ [], tt) $ fjoin ! $
    nothing ! $ nothing ! $ done !))
