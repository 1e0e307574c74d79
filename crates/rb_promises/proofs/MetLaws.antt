-- What `serve` is asked for is as the laws of the daemon presuppose.
use Rattle.std.specs.Prelude.{codes}
use Rattle.std.proofs.Common.{◌≡◌, Bool, true, false, refl, sym, ◌∙◌}
use Rattle.rb_commands.proofs.Asked.{serve_begins_well}
use Rattle.rb_promises.specs.OptionTexts.{lists_text}
use Rattle.rb_promises.specs.ServeOptions.{SettingsMeetLaws}
use Rattle.rb_promises.proofs.ReadServices.{services_are_spelled}

short : (long : Bool) → lists_text long ≡ codes "local" → long ≡ false
short true is = absurd cc
short false is = refl

pub settings_meet_laws : SettingsMeetLaws
settings_meet_laws open_files texts serve asked =
    let settings = ((services_are_spelled open_files texts serve).0 asked).settings in
    record {
      begins = serve_begins_well open_files texts serve asked;
      short_replies = λ local. short serve.settings.terms.long_replies (sym settings.udp_lists ∙ local);
    }
