use Rattle.std.proofs.Common.{◌∙◌, rules}
use Rattle.std.specs.Prelude.{nat_eq}
use Rattle.std.proofs.lemmas.Iterator.{YieldsList-from_slice}
use Rattle.std.proofs.lemmas.Iterator.Search.{find_from_yields_List}
use Rattle.rb_show.proofs.SummaryRows.{owner_found}
use Rattle.rb_show.proofs.summary.owner_of.Goals as goal

pub returns-in-Some : goal.returns-in-Some
returns-in-Some c =
    let found = find_from_yields_List (λ row. nat_eq row.prog c.args.prog) _ _ c.find.result c.find.ensures.ran (YieldsList-from_slice c.args.rows.now c.iter.ensures.rest) (λ x b q k. search rules) in
    c.as_str.ensures.value ∙ rw c.in-Some.is at (owner_found c.args.rows.now c.args.prog _ found)

pub returns-in-None : goal.returns-in-None
returns-in-None c =
    let found = find_from_yields_List (λ row. nat_eq row.prog c.args.prog) _ _ c.find.result c.find.ensures.ran (YieldsList-from_slice c.args.rows.now c.iter.ensures.rest) (λ x b q k. search rules) in
    rw c.in-None.is at (owner_found c.args.rows.now c.args.prog _ found)
