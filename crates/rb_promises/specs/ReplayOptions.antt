-- Which values of the options of `replay` give which beginning.
use Rattle.std.specs.Prelude.{◌≡◌, ◌↔◌, ◌≤◌, length, Ok}
use Rattle.rb_words.specs.Services.{borrowed_texts}
use Rattle.rb_lines.specs.declared.beginning.Beginning.{Beginning}
use Rattle.rb_commands.specs.declared.options.ReplayTexts.{ReplayTexts}
use Rattle.rb_commands.specs.Options.{beginning_of}
use Rattle.rb_promises.specs.WordForms.{SpellsNumber, SpellsPort, MayHave}
use Rattle.rb_promises.specs.OptionTexts.{SpellsLong, SpellEach, Announces, SpellsPath, SpellsReservation, lists_text, whom_text}

pub record IsBeginning (texts : ReplayTexts) (beginning : Beginning) : Type 0 where
  pub announce : Announces beginning.listener.announced (borrowed_texts texts.announce.now)
  pub local : MayHave SpellsPath beginning.listener.local texts.local
  pub conns : SpellsLong beginning.limits.conns texts.conns.now
  pub rows : SpellsLong beginning.limits.rows texts.rows.now
  pub forwards : SpellsLong beginning.limits.forwards texts.forwards.now
  pub port : SpellsPort beginning.listener.port texts.port.now
  pub xid : SpellsNumber beginning.first_xid texts.xid.now
  pub moment : SpellsLong beginning.moment texts.moment.now
  pub udp_lists : texts.udp_lists.now ≡ lists_text beginning.listener.terms.long_replies
  pub forward_for : texts.forward_for.now ≡ whom_text beginning.listener.terms.forwarding
  pub reserve : SpellEach SpellsReservation beginning.listener.reserved (borrowed_texts texts.reserve.now)
  pub few_reserved : length texts.reserve.now ≤ 64
  pub steps : beginning.steps ≡ texts.steps

-- A replay has a beginning exactly if each value spells its part of it, and else one of them can't be read.
abbrev pub BeginningsAreSpelled : Type 0
BeginningsAreSpelled =
    (texts : ReplayTexts) (beginning : Beginning) → (beginning_of texts ≡ Ok beginning) ↔ IsBeginning texts beginning
