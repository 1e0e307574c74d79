use Rattle.std.proofs.Common.{◌∙◌}
use Rattle.rb_answers.proofs.MappingItems.{inet_item_shown}
use Rattle.rb_answers.proofs.rows.mapping_item.Goals as goal

pub returns : goal.returns
returns c = c.inet_item.ensures ∙ inet_item_shown c.args.row.now c.requires
