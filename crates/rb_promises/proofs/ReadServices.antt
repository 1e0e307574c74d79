-- What the values of the options of `serve` ask for.
use Rattle.std.specs.Prelude.{option_map}
use Rattle.std.specs.Borrow.{Bor}
use Rattle.std.proofs.Common.{◌≡◌, ◌≢◌, ◌<◌, ◌≤◌, ◌+◌, ◌^◌, ℕ, Bool, true, false, cond, eqb, List, length, Option, Some, None, Result, Ok, Err, refl, sym, ap, subst, ◌∙◌, arith, lit<}
use Rattle.std.proofs.lemmas.Bool.{eqb-false, ne_eqb}
use Rattle.rb_address.specs.Reading.{number_below}
use Rattle.rb_answers.specs.declared.listener.Forwarding.TheVariants.{Anywhere}
use Rattle.rb_answers.specs.declared.listener.Terms.{Terms}
use Rattle.rb_lines.specs.Paths.{is_path}
use Rattle.rb_settings.specs.declared.settings.LocalSocket.{LocalSocket}
use Rattle.rb_settings.specs.declared.settings.Settings.{Settings}
use Rattle.rb_commands.specs.declared.options.Valued.{Valued}
use Rattle.rb_commands.specs.declared.options.Valued.TheVariants.{LocalMode, Port, UdpLists, ForwardFor, Turns, RecordLimit}
use Rattle.rb_commands.specs.declared.options.Valued.TheVariants as valueds
use Rattle.rb_commands.specs.declared.serving.ServeTexts.{ServeTexts}
use Rattle.rb_commands.specs.declared.serving.Serve.{Serve}
use Rattle.rb_commands.specs.Options.{value_of, announced_of, read_local, limits_of, port, udp_lists, forward_for, reserved_from}
use Rattle.rb_commands.specs.Serving.{hosts_from, networks_from, read_mode, local_of, udp_rate, terms_of, record_limit, limit_at, recorded_of, keep_of, log_of, settings_of, serve_of}
use Rattle.rb_promises.specs.OptionTexts.{IsSocketPath, SpellsMode, lists_text, whom_text}
use Rattle.rb_promises.specs.WordForms.{SpellsWithin}
use Rattle.rb_promises.specs.ServeOptions.{WhereGiven, RecordsUpTo, AreSettings, IsServe, ServicesAreSpelled}
use Rattle.rb_promises.proofs.ReservedValues.{reserved_are, reserved_read, all_from_start}
use Rattle.rb_promises.proofs.OptionValues.{bound, followed, same_Ok, valued, port_is, port_of, announced_is, announced_read, path_is, path_of, lists_is, lists_of}
use Rattle.rb_promises.proofs.ReadBeginnings.{number_is, number_of, AreLimits, limits_are, limits_read}
use Rattle.rb_promises.proofs.ServeValues.{hosts_are, hosts_read, networks_are, networks_read, mode_is, mode_of, between_is, between_of, udp_rate_is, udp_rate_of, served_is, served_of, log_is, log_read}

-- ---- paths

local_kept : (option path : Option (Bor (List ℕ))) → read_local option ≡ Ok path → (path ≡ option) × WhereGiven IsSocketPath option
local_kept None path h = (sym (same_Ok _ _ h), tt)
local_kept (Some text) path h = by (is_path text.now) refl h
  where
    by : (b : Bool) → is_path text.now ≡ b → cond b (Ok (Some text)) (Err valueds.Local) ≡ Ok path → (path ≡ Some text) × IsSocketPath text.now
    by true passes h = (sym (same_Ok _ _ h), path_is text.now passes)
    by false passes h = absurd cc

local_read : (option path : Option (Bor (List ℕ))) → path ≡ option → WhereGiven IsSocketPath option → read_local option ≡ Ok path
local_read None path same p = ap Ok (sym same)
local_read (Some text) path same p = rw (path_of text.now p) (ap Ok (sym same))

abbrev socket_at : ℕ → Option (Bor (List ℕ)) → Option LocalSocket
socket_at mode option = option_map (λ path. record { path = path; mode = mode }) option

record IsSocket (option : Option (Bor (List ℕ))) (text : List ℕ) (socket : Option LocalSocket) : Type 0 where
  mode : ℕ
  spelled : SpellsMode mode text
  made : socket ≡ socket_at mode option
  path : WhereGiven IsSocketPath option

socket_is : (option : Option (Bor (List ℕ))) (text : List ℕ) (socket : Option LocalSocket) → local_of option text ≡ Ok socket → IsSocket option text socket
socket_is option text socket h =
    let (path, read1, rest) = bound (read_local option) _ socket h in
    let (bits, read2, made) = bound (value_of LocalMode (read_mode text)) _ socket rest in
    let (same, held) = local_kept option path read1 in
    record {
      mode = bits;
      spelled = mode_is text bits (valued LocalMode (read_mode text) bits read2);
      made = sym (same_Ok _ _ made) ∙ ap (socket_at bits) same;
      path = held;
    }

socket_read : (option : Option (Bor (List ℕ))) (text : List ℕ) (socket : Option LocalSocket) → IsSocket option text socket → local_of option text ≡ Ok socket
socket_read option text socket s =
    followed (read_local option) _ option socket (local_read option option refl s.path)
    (followed (value_of LocalMode (read_mode text)) _ s.mode socket (ap (value_of LocalMode) (mode_of text s.mode s.spelled)) (ap Ok (sym s.made)))

keep_is : (option keep : Option (Bor (List ℕ))) → keep_of option ≡ Ok keep → (keep ≡ option) × WhereGiven (λ path. 0 < length path) option
keep_is None keep h = (sym (same_Ok _ _ h), tt)
keep_is (Some text) keep h = by (eqb (length text.now) 0) refl h
  where
    by : (b : Bool) → eqb (length text.now) 0 ≡ b → cond b (Err valueds.Keep) (Ok (Some text)) ≡ Ok keep → (keep ≡ Some text) × (0 < length text.now)
    by true none h = absurd cc
    by false some h = let filled = eqb-false (length text.now) 0 some in (sym (same_Ok _ _ h), omega (arith, filled))

keep_read : (option keep : Option (Bor (List ℕ))) → keep ≡ option → WhereGiven (λ path. 0 < length path) option → keep_of option ≡ Ok keep
keep_read None keep same p = ap Ok (sym same)
keep_read (Some text) keep same p =
    let some : eqb (length text.now) 0 ≡ false = ne_eqb (length text.now) 0 (λ e. omega (arith, e, p)) in
    ap (λ (b : Bool). cond b (Err valueds.Keep) (Ok (Some text))) some ∙ ap Ok (sym same)

-- ---- the record

limit_is : (bytes limit : ℕ) (option : Option (Bor (List ℕ))) → limit_at limit option ≡ bytes → RecordsUpTo bytes limit option
limit_is bytes limit None h = sym h
limit_is bytes limit (Some path) h = sym h

limit_of : (bytes limit : ℕ) (option : Option (Bor (List ℕ))) → RecordsUpTo bytes limit option → limit_at limit option ≡ bytes
limit_of bytes limit None h = sym h
limit_of bytes limit (Some path) h = sym h

record IsRecorded (option : Option (Bor (List ℕ))) (text : List ℕ) (bytes : ℕ) : Type 0 where
  limit : ℕ
  spelled : SpellsWithin 1000 16777216 limit text
  made : RecordsUpTo bytes limit option

recorded_is : (option : Option (Bor (List ℕ))) (text : List ℕ) (bytes : ℕ) → recorded_of option text ≡ Ok bytes → IsRecorded option text bytes
recorded_is option text bytes h =
    let (limit, read, made) = bound (value_of RecordLimit (record_limit text)) _ bytes h in
    record {
      limit = limit;
      spelled = between_is 1000 16777216 limit text (valued RecordLimit (record_limit text) limit read);
      made = limit_is bytes limit option (same_Ok _ _ made);
    }

recorded_read : (option : Option (Bor (List ℕ))) (text : List ℕ) (bytes : ℕ) → IsRecorded option text bytes → recorded_of option text ≡ Ok bytes
recorded_read option text bytes r =
    followed (value_of RecordLimit (record_limit text)) _ r.limit bytes (ap (value_of RecordLimit) (between_of 1000 16777216 r.limit text (lit< tt) r.spelled))
    (ap Ok (limit_of bytes r.limit option r.made))

-- ---- the terms

record AreTerms (lists whom : List ℕ) (terms : Terms) : Type 0 where
  long : lists ≡ lists_text terms.long_replies
  served : (whom ≡ whom_text terms.forwarding) × (terms.forwarding ≢ Anywhere)

terms_are : (lists whom : List ℕ) (terms : Terms) → terms_of lists whom ≡ Ok terms → AreTerms lists whom terms
terms_are lists whom terms h =
    let (long, read1, rest) = bound (value_of UdpLists (udp_lists lists)) _ terms h in
    let (served, read2, made) = bound (value_of ForwardFor (forward_for whom)) _ terms rest in
    subst (AreTerms lists whom) (same_Ok _ _ made) (record {
      long = lists_is lists long (valued UdpLists (udp_lists lists) long read1);
      served = served_is whom served (valued ForwardFor (forward_for whom) served read2);
    })

terms_read : (lists whom : List ℕ) (terms : Terms) → AreTerms lists whom terms → terms_of lists whom ≡ Ok terms
terms_read lists whom terms a =
    followed (value_of UdpLists (udp_lists lists)) _ terms.long_replies terms (ap (value_of UdpLists) (lists_of lists terms.long_replies a.long))
    (followed (value_of ForwardFor (forward_for whom)) _ terms.forwarding terms (ap (value_of ForwardFor) (served_of whom terms.forwarding a.served)) refl)

-- ---- the settings

from_start : (n : ℕ) → 0 + n ≤ 16 → n ≤ 16
from_start n few = omega (arith, few)

settings_are : (open_files : ℕ) (texts : ServeTexts) (settings : Settings) → settings_of open_files texts ≡ Ok settings → AreSettings open_files texts settings
settings_are open_files texts settings h =
    let (given, read1, rest1) = bound (announced_of texts.announce.now) _ settings h in
    let (hosts, read2, rest2) = bound (hosts_from 0 texts.bind.now) _ settings rest1 in
    let (networks, read3, rest3) = bound (networks_from 0 texts.from.now) _ settings rest2 in
    let (socket, read4, rest4) = bound (local_of texts.local texts.local_mode.now) _ settings rest3 in
    let (listens, read5, rest5) = bound (value_of Port (port texts.port.now)) _ settings rest4 in
    let (most, read6, rest6) = bound (limits_of texts.conns.now texts.rows.now texts.forwards.now) _ settings rest5 in
    let (terms, read7, rest7) = bound (terms_of texts.udp_lists.now texts.forward_for.now) _ settings rest6 in
    let (rate, read8, rest8) = bound (udp_rate texts.udp_rate) _ settings rest7 in
    let (bytes, read9, rest9) = bound (recorded_of texts.record_path texts.record_limit.now) _ settings rest8 in
    let (keeps, read10, rest10) = bound (keep_of texts.keep) _ settings rest9 in
    let (tells, read11, rest11) = bound (log_of texts.log) _ settings rest10 in
    let (owned, read12, made) = bound (reserved_from 0 texts.reserve.now) _ settings rest11 in
    let reserved = reserved_are texts.reserve.now owned read12 in
    let placed = hosts_are texts.bind.now hosts read2 in
    let within = networks_are texts.from.now networks read3 in
    let local = socket_is texts.local texts.local_mode.now socket read4 in
    let limits = limits_are texts.conns.now texts.rows.now texts.forwards.now most read6 in
    let on = terms_are texts.udp_lists.now texts.forward_for.now terms read7 in
    let recorded = recorded_is texts.record_path texts.record_limit.now bytes read9 in
    let (keep, keep_path) = keep_is texts.keep keeps read10 in
    subst (AreSettings open_files texts) (same_Ok _ _ made) (record {
      bind = placed.each;
      few_hosts = from_start (length texts.bind.now) placed.few;
      from = within.each;
      few_networks = from_start (length texts.from.now) within.few;
      loopback6 = refl;
      mode = local.mode;
      local_mode = local.spelled;
      local = local.made;
      local_path = local.path;
      believe_claims = refl;
      announce = announced_is texts.announce.now given read1;
      port = port_is texts.port.now listens (valued Port (port texts.port.now) listens read5);
      conns = limits.conns_are;
      rows = limits.rows_are;
      forwards = limits.forwards_are;
      udp_lists = on.long;
      forward_for = on.served.0;
      not_anywhere = on.served.1;
      reserve = reserved.each;
      few_reserved = all_from_start (length texts.reserve.now) reserved.few;
      udp_rate = udp_rate_is texts.udp_rate rate read8;
      limit = recorded.limit;
      record_limit = recorded.spelled;
      recorded = recorded.made;
      keep = keep;
      keep_path = keep_path;
      log = log_is texts.log tells read11;
      of_files = refl;
    })

settings_read : (open_files : ℕ) (texts : ServeTexts) (settings : Settings) → AreSettings open_files texts settings → settings_of open_files texts ≡ Ok settings
settings_read open_files texts settings s =
    let limits : AreLimits texts.conns.now texts.rows.now texts.forwards.now settings.limits = record { conns_are = s.conns; rows_are = s.rows; forwards_are = s.forwards } in
    let on : AreTerms texts.udp_lists.now texts.forward_for.now settings.terms = record { long = s.udp_lists; served = (s.forward_for, s.not_anywhere) } in
    let local : IsSocket texts.local texts.local_mode.now settings.local = record { mode = s.mode; spelled = s.local_mode; made = s.local; path = s.local_path } in
    let recorded : IsRecorded texts.record_path texts.record_limit.now settings.record_limit = record { limit = s.limit; spelled = s.record_limit; made = s.recorded } in
    let whole : ◌≡◌ {A = Result Settings Valued} (Ok (record settings { loopback6 = texts.loopback6; believe_claims = texts.believe_claims; open_files = open_files })) (Ok settings) =
    ap (λ (b : Bool). Ok (record settings { loopback6 = b; believe_claims = texts.believe_claims; open_files = open_files })) (sym s.loopback6)
    ∙ ap (λ (b : Bool). Ok (record settings { believe_claims = b; open_files = open_files })) (sym s.believe_claims)
    ∙ ap (λ (n : ℕ). Ok (record settings { open_files = n })) (sym s.of_files) in
    followed (announced_of texts.announce.now) _ settings.announce settings (announced_read texts.announce.now settings.announce s.announce)
    (followed (hosts_from 0 texts.bind.now) _ settings.bind settings (hosts_read texts.bind.now settings.bind (record { each = s.bind; few = let few = s.few_hosts in omega (arith, few) }))
    (followed (networks_from 0 texts.from.now) _ settings.from settings (networks_read texts.from.now settings.from (record { each = s.from; few = let few = s.few_networks in omega (arith, few) }))
    (followed (local_of texts.local texts.local_mode.now) _ settings.local settings (socket_read texts.local texts.local_mode.now settings.local local)
    (followed (value_of Port (port texts.port.now)) _ settings.port settings (ap (value_of Port) (port_of texts.port.now settings.port s.port))
    (followed (limits_of texts.conns.now texts.rows.now texts.forwards.now) _ settings.limits settings (limits_read texts.conns.now texts.rows.now texts.forwards.now settings.limits limits)
    (followed (terms_of texts.udp_lists.now texts.forward_for.now) _ settings.terms settings (terms_read texts.udp_lists.now texts.forward_for.now settings.terms on)
    (followed (udp_rate texts.udp_rate) _ settings.udp_rate settings (udp_rate_of texts.udp_rate settings.udp_rate s.udp_rate)
    (followed (recorded_of texts.record_path texts.record_limit.now) _ settings.record_limit settings (recorded_read texts.record_path texts.record_limit.now settings.record_limit recorded)
    (followed (keep_of texts.keep) _ settings.keep settings (keep_read texts.keep settings.keep s.keep s.keep_path)
    (followed (log_of texts.log) _ settings.log settings (log_read texts.log settings.log s.log)
    (followed (reserved_from 0 texts.reserve.now) _ settings.reserve settings (reserved_read texts.reserve.now settings.reserve (record { each = s.reserve; few = let few = s.few_reserved in omega (arith, few) })) whole)))))))))))

-- ---- and what is beside them

serve_is : (open_files : ℕ) (texts : ServeTexts) (serve : Serve) → serve_of open_files texts ≡ Ok serve → IsServe open_files texts serve
serve_is open_files texts serve h =
    let (settings, read1, rest) = bound (settings_of open_files texts) _ serve h in
    let (ends, read2, made) = bound (value_of Turns (number_below (2 ^ 64) texts.turns.now)) _ serve rest in
    subst (IsServe open_files texts) (same_Ok _ _ made) (record {
      settings = settings_are open_files texts settings read1;
      record_path = refl;
      keep_check = refl;
      turns = number_is (2 ^ 64) Turns texts.turns.now ends (lit< tt) read2;
    })

serve_read : (open_files : ℕ) (texts : ServeTexts) (serve : Serve) → IsServe open_files texts serve → serve_of open_files texts ≡ Ok serve
serve_read open_files texts serve s =
    let whole : ◌≡◌ {A = Result Serve Valued} (Ok (record serve { record_path = texts.record_path; keep_check = texts.keep_check })) (Ok serve) =
    ap (λ (path : Option (Bor (List ℕ))). Ok (record serve { record_path = path; keep_check = texts.keep_check })) (sym s.record_path)
    ∙ ap (λ (b : Bool). Ok (record serve { keep_check = b })) (sym s.keep_check) in
    followed (settings_of open_files texts) _ serve.settings serve (settings_read open_files texts serve.settings s.settings)
    (followed (value_of Turns (number_below (2 ^ 64) texts.turns.now)) _ serve.turns serve (number_of (2 ^ 64) Turns texts.turns.now serve.turns (lit< tt) s.turns) whole)

pub services_are_spelled : ServicesAreSpelled
services_are_spelled open_files texts serve = (serve_is open_files texts serve, serve_read open_files texts serve)
