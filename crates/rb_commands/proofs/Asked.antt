-- What `serve` is asked for is as laws of the daemon presuppose.
use Rattle.std.specs.Prelude.{nat_le, option_map, IfSome}
use Rattle.std.specs.List.{list_all, AllByRecursion}
use Rattle.std.specs.Borrow.{Bor}
use Rattle.std.proofs.Common.{◌≡◌, ◌≢◌, ◌<◌, ◌≤◌, ◌&&◌, ◌^◌, ℕ, Bool, true, false, not, cond, eqb, leb, List, [], ◌∷◌, length, Option, Some, None, Result, Ok, Err, refl, sym, ap, subst, ◌∙◌, arith}
use Rattle.std.proofs.lemmas.Bool.{and_parts, not-true, eqb-false, leb-true}
use Rattle.std.proofs.lemmas.List.Elements.{All-from_recursion}
use Rattle.std.proofs.lemmas.Option.{none-some, same_Some, cond_some}
use Rattle.rb_uaddr.specs.Grammar.{IsLocalText}
use Rattle.rb_address.specs.Reading.{number_below}
use Rattle.rb_address.proofs.Words as words
use Rattle.rb_lines.specs.Lines.{longest_input}
use Rattle.rb_lines.specs.Paths.{is_quotable, is_path}
use Rattle.rb_lines.specs.Starts.{MeetsLaws}
use Rattle.rb_settings.specs.declared.settings.LocalSocket.{LocalSocket}
use Rattle.rb_settings.specs.declared.settings.Settings.{Settings}
use Rattle.rb_settings.specs.Settings.{path_of, listener_of}
use Rattle.rb_commands.specs.declared.options.Valued.{Valued}
use Rattle.rb_commands.specs.declared.options.Valued.TheVariants.{LocalMode, Port, Turns, RecordLimit}
use Rattle.rb_commands.specs.declared.options.Valued.TheVariants as valueds
use Rattle.rb_commands.specs.declared.serving.ServeTexts.{ServeTexts}
use Rattle.rb_commands.specs.declared.serving.Serve.{Serve}
use Rattle.rb_commands.specs.Options.{◌>>=◌, value_of, announced_of, read_local, limits_of, unless_zero, port, reserved_from}
use Rattle.rb_commands.specs.Serving.{hosts_from, networks_from, read_mode, local_of, udp_rate, terms_of, if_between, record_limit, limit_at, recorded_of, keep_of, log_of, settings_of, serve_of}
use Rattle.rb_commands.specs.Asked.{BeginsWell}

-- ---- one value after another

bound : {A B : Type 0} (r : Result A Valued) (f : A → Result B Valued) (y : B) → (r >>= f) ≡ Ok y → (x : A) × (r ≡ Ok x) × (f x ≡ Ok y)
bound (Ok x) f y h = (x, refl, h)
bound (Err option) f y h = absurd cc

same_Ok : {A : Type 0} (x y : A) → ◌≡◌ {A = Result A Valued} (Ok x) (Ok y) → x ≡ y
same_Ok x y h = cc

valued : {A : Type 0} (option : Valued) (o : Option A) (x : A) → value_of option o ≡ Ok x → o ≡ Some x
valued option (Some y) x h = ap Some (same_Ok y x h)
valued option None x h = absurd cc

-- ---- the port

port_fits : (text : List ℕ) (n : ℕ) → port text ≡ Some n → (n ≢ 0) × (n < 2 ^ 16)
port_fits text n h = by_number (number_below (2 ^ 16) text) refl h
  where
    by_test : (m : ℕ) → number_below (2 ^ 16) text ≡ Some m → (b : Bool) → eqb m 0 ≡ b → cond b None (Some m) ≡ Some n → (n ≢ 0) × (n < 2 ^ 16)
    by_test m is true zero_is h = absurd (none-some n h)
    by_test m is false other h =
        let same : m ≡ n = same_Some m n h in
        let (numeral, value, fits) = words.decimal_is (2 ^ 16) text n (is ∙ ap Some same) in
        (λ zero. eqb-false m 0 other (same ∙ zero), fits)

    by_number : (o : Option ℕ) → number_below (2 ^ 16) text ≡ o → unless_zero o ≡ Some n → (n ≢ 0) × (n < 2 ^ 16)
    by_number None is h = absurd (none-some n h)
    by_number (Some m) is h = by_test m is (eqb m 0) refl h

-- ---- the path of the local socket

no_zero : (text : List ℕ) → list_all is_quotable text ≡ true → AllByRecursion (λ b. b ≢ 0) text
no_zero [] h = tt
no_zero (byte ∷ text) h =
    let (here, rest) = and_parts (is_quotable byte) (list_all is_quotable text) h in
    let (low, other) = and_parts (leb 32 byte) (not (eqb byte 39)) here in
    let above = leb-true _ _ low in
    (λ zero. omega (arith, above, zero), no_zero text rest)

local_text : (text : List ℕ) → is_path text ≡ true → IsLocalText text
local_text text h =
    let (sized, all) = and_parts (not (eqb (length text) 0) && leb (length text) 107) (list_all is_quotable text) h in
    let (some, few) = and_parts (not (eqb (length text) 0)) (leb (length text) 107) sized in
    let filled = eqb-false (length text) 0 (not-true _ some) in
    let most = leb-true _ _ few in
    record { some = omega (arith, filled); few = omega (arith, most); no_zero = All-from_recursion (λ b. b ≢ 0) text (no_zero text all) }

abbrev socket_at : ℕ → Option (Bor (List ℕ)) → Option LocalSocket
socket_at mode named = option_map (λ path. record { path = path; mode = mode }) named

chosen : (b : Bool) (text path : List ℕ) → cond b (Some text) None ≡ Some path → text ≡ path
chosen true text path is = same_Some text path is
chosen false text path is = absurd (none-some path is)

quoted : (option named : Option (Bor (List ℕ))) → read_local option ≡ Ok named → (mode : ℕ) (path : List ℕ) → path_of (socket_at mode named) ≡ Some path → is_path path ≡ true
quoted None named h mode path is =
    absurd (none-some path (ap (λ (n : Option (Bor (List ℕ))). path_of (socket_at mode n)) (same_Ok _ _ h) ∙ is))
quoted (Some text) named h mode path is = by (is_path text.now) refl h
  where
    by : (b : Bool) → is_path text.now ≡ b → cond b (Ok (Some text)) (Err valueds.Local) ≡ Ok named → is_path path ≡ true
    by true passes h =
        subst (λ (p : List ℕ). is_path p ≡ true)
        (chosen (nat_le (length text.now) 128) text.now path (ap (λ (n : Option (Bor (List ℕ))). path_of (socket_at mode n)) (same_Ok _ _ h) ∙ is)) passes
    by false passes h = absurd cc

local_path : (option : Option (Bor (List ℕ))) (text : List ℕ) (socket : Option LocalSocket) → local_of option text ≡ Ok socket → (path : List ℕ) → path_of socket ≡ Some path → is_path path ≡ true
local_path option text socket h path is =
    let (named, read1, rest) = bound (read_local option) _ socket h in
    let (bits, read2, made) = bound (value_of LocalMode (read_mode text)) _ socket rest in
    quoted option named read1 bits path (ap path_of (same_Ok _ _ made) ∙ is)

quotable : (o : Option (List ℕ)) → ((path : List ℕ) → o ≡ Some path → is_path path ≡ true) → IfSome o (λ path. is_path path ≡ true)
quotable None may = tt
quotable (Some path) may = may path refl

-- ---- the record

between_most : (least most n : ℕ) (o : Option ℕ) → if_between least most o ≡ Some n → n ≤ most
between_most least most n None h = absurd (none-some n h)
between_most least most n (Some m) h =
    let (tests, same) = cond_some (leb least m && leb m most) m n h in
    let (low, high) = and_parts (leb least m) (leb m most) tests in
    let under = leb-true _ _ high in
    omega (arith, under, same)

within : (option : Option (Bor (List ℕ))) (limit bytes : ℕ) → limit ≤ 16777216 → limit_at limit option ≡ bytes → bytes ≤ longest_input
unfolding longest_input
within None limit bytes few h = omega (arith, h)
within (Some path) limit bytes few h = omega (arith, few, h)

recorded_fits : (option : Option (Bor (List ℕ))) (text : List ℕ) (bytes : ℕ) → recorded_of option text ≡ Ok bytes → bytes ≤ longest_input
recorded_fits option text bytes h =
    let (limit, read, made) = bound (value_of RecordLimit (record_limit text)) _ bytes h in
    within option limit bytes (between_most 1000 16777216 limit (number_below (2 ^ 64) text) (valued RecordLimit (record_limit text) limit read)) (same_Ok _ _ made)

-- ---- all of them

settings_meet : (open_files : ℕ) (texts : ServeTexts) (settings : Settings) → settings_of open_files texts ≡ Ok settings → MeetsLaws (listener_of settings) settings.record_limit
settings_meet open_files texts settings h =
    let (given, read1, rest1) = bound (announced_of texts.announce.now) _ settings h in
    let (hosts, read2, rest2) = bound (hosts_from 0 texts.bind.now) _ settings rest1 in
    let (networks, read3, rest3) = bound (networks_from 0 texts.from.now) _ settings rest2 in
    let (socket, read4, rest4) = bound (local_of texts.local texts.local_mode.now) _ settings rest3 in
    let (listens, read5, rest5) = bound (value_of Port (port texts.port.now)) _ settings rest4 in
    let (most, read6, rest6) = bound (limits_of texts.conns.now texts.rows.now texts.forwards.now) _ settings rest5 in
    let (terms, read7, rest7) = bound (terms_of texts.udp_lists.now texts.forward_for.now) _ settings rest6 in
    let (rate, read8, rest8) = bound (udp_rate texts.udp_rate) _ settings rest7 in
    let (bytes, read9, rest9) = bound (recorded_of texts.record_path texts.record_limit.now) _ settings rest8 in
    let (keeps, read10, rest10) = bound (keep_of texts.keep) _ settings rest9 in
    let (tells, read11, rest11) = bound (log_of texts.log) _ settings rest10 in
    let (owned, read12, made) = bound (reserved_from 0 texts.reserve.now) _ settings rest11 in
    let (some, fits) = port_fits texts.port.now listens (valued Port (port texts.port.now) listens read5) in
    subst (λ (s : Settings). MeetsLaws (listener_of s) s.record_limit) (same_Ok _ _ made) (record {
      addresses = record {
        some = some;
        few = fits;
        local = λ path is. local_text path (local_path texts.local texts.local_mode.now socket read4 path is);
      };
      path = quotable (path_of socket) (local_path texts.local texts.local_mode.now socket read4);
      record_fits = recorded_fits texts.record_path texts.record_limit.now bytes read9;
    })

pub serve_begins_well : (open_files : ℕ) (texts : ServeTexts) (serve : Serve) → serve_of open_files texts ≡ Ok serve → BeginsWell serve
serve_begins_well open_files texts serve h =
    let (started, read1, rest) = bound (settings_of open_files texts) _ serve h in
    let (ends, read2, made) = bound (value_of Turns (number_below (2 ^ 64) texts.turns.now)) _ serve rest in
    subst BeginsWell (same_Ok _ _ made) (settings_meet open_files texts started read1)
