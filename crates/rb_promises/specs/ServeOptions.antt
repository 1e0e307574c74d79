-- What the values of the options of `serve` ask for.
use Rattle.std.specs.Prelude.{◌≡◌, ◌≢◌, ◌↔◌, ⊤, ℕ, ◌<◌, ◌≤◌, false, List, length, codes, Option, Some, None, option_map, Ok}
use Rattle.std.specs.Borrow.{Bor}
use Rattle.rb_words.specs.Services.{borrowed_texts}
use Rattle.rb_answers.specs.declared.listener.Forwarding.TheVariants.{Anywhere}
use Rattle.rb_policy.specs.declared.log_choice.Logged.{Logged}
use Rattle.rb_policy.specs.declared.log_choice.Logged.TheVariants.{Nothing}
use Rattle.rb_lines.specs.Starts.{MeetsLaws}
use Rattle.rb_settings.specs.declared.settings.Settings.{Settings}
use Rattle.rb_settings.specs.Settings.{listener_of}
use Rattle.rb_commands.specs.declared.serving.ServeTexts.{ServeTexts}
use Rattle.rb_commands.specs.declared.serving.Serve.{Serve}
use Rattle.rb_commands.specs.Serving.{serve_of}
use Rattle.rb_promises.specs.WordForms.{SpellsWithin, SpellsPort, MayHave}
use Rattle.rb_promises.specs.OptionTexts.{SpellsLong, SpellsHost, SpellEach, Announces, SpellsNetwork, IsSocketPath, SpellsMode, lists_text, whom_text, SpellsRate, SpellsLog, SpellsReservation}

-- of the value of an option, if it is given
abbrev pub WhereGiven : (List ℕ → Type 0) → Option (Bor (List ℕ)) → Type 0
WhereGiven Holds None = ⊤
WhereGiven Holds (Some text) = Holds text.now

-- The log has no lines if the option is not given.
abbrev pub IsLog : Logged → Option (Bor (List ℕ)) → Type 0
IsLog log None = log ≡ Nothing
IsLog log (Some text) = SpellsLog log text.now

-- Up to a limit, or 0 bytes if no file is given.
abbrev pub RecordsUpTo : ℕ → ℕ → Option (Bor (List ℕ)) → Type 0
RecordsUpTo bytes limit None = bytes ≡ 0
RecordsUpTo bytes limit (Some path) = bytes ≡ limit

-- Each option sets its own field, and no other. The limit of open files is the system's.
-- SETTING-1
pub record AreSettings (open_files : ℕ) (texts : ServeTexts) (settings : Settings) : Type 0 where
  pub bind : SpellEach SpellsHost settings.bind (borrowed_texts texts.bind.now)
  pub few_hosts : length texts.bind.now ≤ 16
  pub from : SpellEach SpellsNetwork settings.from (borrowed_texts texts.from.now)
  pub few_networks : length texts.from.now ≤ 16
  pub loopback6 : settings.loopback6 ≡ texts.loopback6
  pub mode : ℕ
  pub local_mode : SpellsMode mode texts.local_mode.now
  pub local : settings.local ≡ option_map (λ path. record { path = path; mode = mode }) texts.local
  pub local_path : WhereGiven IsSocketPath texts.local
  pub believe_claims : settings.believe_claims ≡ texts.believe_claims
  pub announce : Announces settings.announce (borrowed_texts texts.announce.now)
  pub port : SpellsPort settings.port texts.port.now
  pub conns : SpellsLong settings.limits.conns texts.conns.now
  pub rows : SpellsLong settings.limits.rows texts.rows.now
  pub forwards : SpellsLong settings.limits.forwards texts.forwards.now
  pub udp_lists : texts.udp_lists.now ≡ lists_text settings.terms.long_replies
  pub forward_for : texts.forward_for.now ≡ whom_text settings.terms.forwarding
  pub not_anywhere : settings.terms.forwarding ≢ Anywhere
  pub reserve : SpellEach SpellsReservation settings.reserve (borrowed_texts texts.reserve.now)
  pub few_reserved : length texts.reserve.now ≤ 64
  pub udp_rate : MayHave SpellsRate settings.udp_rate texts.udp_rate
  pub limit : ℕ
  pub record_limit : SpellsWithin 1000 16777216 limit texts.record_limit.now
  pub recorded : RecordsUpTo settings.record_limit limit texts.record_path
  pub keep : settings.keep ≡ texts.keep
  pub keep_path : WhereGiven (λ path. 0 < length path) texts.keep
  pub log : IsLog settings.log texts.log
  pub of_files : settings.open_files ≡ open_files

-- What laws of a daemon presuppose of how it begins, and of its terms.
pub record AreMet (texts : ServeTexts) (settings : Settings) : Type 0 where
  pub begins : MeetsLaws (listener_of settings) settings.record_limit
  pub short_replies : texts.udp_lists.now ≡ codes "local" → settings.terms.long_replies ≡ false

-- What is beside the settings is asked for in the same way.
pub record IsServe (open_files : ℕ) (texts : ServeTexts) (serve : Serve) : Type 0 where
  pub settings : AreSettings open_files texts serve.settings
  pub record_path : serve.record_path ≡ texts.record_path
  pub keep_check : serve.keep_check ≡ texts.keep_check
  pub turns : SpellsLong serve.turns texts.turns.now

-- `serve` is asked for this exactly if each value spells its part of it, and else one of them can't be read.
abbrev pub ServicesAreSpelled : Type 0
ServicesAreSpelled =
    (open_files : ℕ) (texts : ServeTexts) (serve : Serve)
    → (serve_of open_files texts ≡ Ok serve) ↔ IsServe open_files texts serve

-- Whatever the values of its options are, what `serve` is asked for is as these laws presuppose.
abbrev pub SettingsMeetLaws : Type 0
SettingsMeetLaws =
    (open_files : ℕ) (texts : ServeTexts) (serve : Serve)
    → serve_of open_files texts ≡ Ok serve → AreMet texts serve.settings
