use Rattle.std.proofs.Common.{◌∷◌, [], refl, arith}
use Rattle.rb_rpc.specs.declared.marks.Part.TheVariants as parts
use Rattle.rb_rpc.proofs.Feeding.{Ran, header_ran, data_ran}
use Rattle.rb_rpc.proofs.marks.Marks.feed.Goals as goal

header : (c : goal.After-place-1) → Ran c.args.self.now c.behind_header-place.result parts.Header (c.args.byte ∷ [])
header c =
    header_ran c.args.self.now c.behind_header-place.result c.in-Header.seen c.in-Header.number c.args.byte (omega arith) c.in-Header.is c.behind_header-place.ensures

pub returns-in-Header-clause-ends : goal.returns-in-Header-clause-ends
returns-in-Header-clause-ends c = (header c).ends

pub returns-in-Header-clause-data : goal.returns-in-Header-clause-data
returns-in-Header-clause-data c = (header c).content

pub returns-in-Header-clause-after : goal.returns-in-Header-clause-after
returns-in-Header-clause-after c = (header c).stands

pub returns-in-Header-clause-stream : goal.returns-in-Header-clause-stream
returns-in-Header-clause-stream c = (header c).stream

one : (c : goal.After-place-in-Data-1) → Ran c.args.self.now c.behind-place.result parts.Data (c.args.byte ∷ [])
one c =
    data_ran c.args.self.now c.behind-place.result c.in-Data.left c.saturating_sub.result 1 c.in-Data.last (c.args.byte ∷ []) refl
    (λ some. omega (arith, some)) c.in-Data.is c.saturating_sub.ensures c.behind-place.ensures

pub returns-in-Data-clause-ends : goal.returns-in-Data-clause-ends
returns-in-Data-clause-ends c = (one c).ends

pub returns-in-Data-clause-data : goal.returns-in-Data-clause-data
returns-in-Data-clause-data c = (one c).content

pub returns-in-Data-clause-after : goal.returns-in-Data-clause-after
returns-in-Data-clause-after c = (one c).stands

pub returns-in-Data-clause-stream : goal.returns-in-Data-clause-stream
returns-in-Data-clause-stream c = (one c).stream
