-- What holds of what words ask for.
use Rattle.std.specs.Prelude.{⊤}
use Rattle.rb_lines.specs.Starts.{MeetsLaws}
use Rattle.rb_settings.specs.Settings.{listener_of}
use Rattle.rb_commands.specs.declared.serving.Serve.{Serve}
use Rattle.rb_commands.specs.declared.arguments.Words.{Words}
use Rattle.rb_commands.specs.declared.arguments.Words.TheVariants as words

-- The daemon begins as its laws presuppose.
abbrev pub BeginsWell : Serve → Type 0
BeginsWell serve = MeetsLaws (listener_of serve.settings) serve.settings.record_limit

-- So does one that is asked for.
abbrev pub AsksWell : Words → Type 0
AsksWell (words.Serve serve) = BeginsWell serve
AsksWell (words.Replay beginning) = ⊤
AsksWell (words.Check beginning) = ⊤
