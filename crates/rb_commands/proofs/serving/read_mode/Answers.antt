use Rattle.std.proofs.Common.{◌∙◌, sym, ap}
use Rattle.rb_commands.specs.declared.options.Valued.TheVariants.{LocalMode}
use Rattle.rb_commands.specs.Options.{value_of}
use Rattle.rb_commands.proofs.Binds.{no_mode}
use Rattle.rb_commands.proofs.serving.read_mode.Goals as goal

pub returns-in-Err : goal.returns-in-Err
returns-in-Err c = ap (value_of LocalMode) (no_mode c.args.text.now (sym c.is_octal.ensures ∙ c.if-not-is_octal.false) c.in-Err.ensures.value)
