use Rattle.std.proofs.Common.{◌∙◌, sym}
use Rattle.rb_words.proofs.Parses.{refused_digits}
use Rattle.rb_words.proofs.number.number_in.Goals as goal

pub returns-in-Err : goal.returns-in-Err
returns-in-Err c = refused_digits c.args.text.now c.args.least c.args.most c.ranges.most.fits (sym c.is_of_digits.ensures ∙ c.if-not-is_of_digits.false) c.in-Err.ensures.value.0
