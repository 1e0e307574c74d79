use Rattle.std.proofs.Common.{◌∙◌, rules}
use Rattle.std.specs.Str.{bytes_eq}
use Rattle.std.proofs.lemmas.Iterator.{YieldsList-from_slice}
use Rattle.std.proofs.lemmas.Iterator.Search.{any_from_yields_List}
use Rattle.rb_show.proofs.SummaryRows.{any_at}
use Rattle.rb_show.proofs.summary.has_text.Goals as goal

pub returns : goal.returns
returns c =
    any_from_yields_List (λ one. bytes_eq one.now c.args.text.now) _ _ c.any.result c.any.ensures.ran (YieldsList-from_slice c.args.texts.now c.iter.ensures.rest) (λ x b q k. search rules)
    ∙ any_at c.args.text.now c.args.texts.now
