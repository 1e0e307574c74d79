-- What laws of a daemon presuppose stays so as hosts are found.
use Rattle.std.proofs.Common.{◌≡◌, sym, subst}
use Rattle.rb_lines.specs.Starts.{MeetsLaws}
use Rattle.rb_settings.specs.declared.settings.Settings.{Settings}
use Rattle.rb_settings.specs.Settings.{listener_of}

-- where a daemon listens, other hosts change nothing of it
pub still_begins : (old new : Settings) → new ≡ record old { bind = new.bind } → MeetsLaws (listener_of old) old.record_limit → MeetsLaws (listener_of new) new.record_limit
still_begins old new is h =
    subst (λ (s : Settings). MeetsLaws (listener_of s) s.record_limit) (sym is) (record {
      addresses = record { some = h.addresses.some; few = h.addresses.few; local = h.addresses.local };
      path = h.path;
      record_fits = h.record_fits;
    })
