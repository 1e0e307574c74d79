use Rattle.std.proofs.Common.{take, append-nil, refl, ap, ◌∙◌, arith}
use Rattle.std.proofs.lemmas.List.{length-take}
use Rattle.rb_rpc.specs.Records.{first_record}
use Rattle.rb_rpc.specs.declared.marks.Part.TheVariants as parts
use Rattle.rb_rpc.proofs.Feeding.{Ran, data_ran, none_ended}
use Rattle.rb_rpc.proofs.marks.Marks.feed_data.Goals as goal

pub returns-in-Header-clause-ends : goal.returns-in-Header-clause-ends
returns-in-Header-clause-ends c = λ fed h. ap first_record (append-nil fed) ∙ none_ended c.args.self.now fed h

run : (c : goal.After-place-1) → Ran c.args.self.now c.behind-place.result parts.Data (take c.min-count.result c.args.piece.now)
run c =
    data_ran c.args.self.now c.behind-place.result c.in-Data.left _ c.min-count.result c.in-Data.last (take c.min-count.result c.args.piece.now)
    (omega (arith, length-take c.min-count.result c.args.piece.now)) (λ some. omega arith) c.in-Data.is refl c.behind-place.ensures

pub returns-in-Data-clause-ends : goal.returns-in-Data-clause-ends
returns-in-Data-clause-ends c = (run c).ends

pub returns-in-Data-clause-data : goal.returns-in-Data-clause-data
returns-in-Data-clause-data c = (run c).content

pub returns-in-Data-clause-after : goal.returns-in-Data-clause-after
returns-in-Data-clause-after c = (run c).stands

pub returns-in-Data-clause-stream : goal.returns-in-Data-clause-stream
returns-in-Data-clause-stream c = (run c).stream
