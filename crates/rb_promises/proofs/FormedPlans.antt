-- What each line of the synopsis asks for.
use Rattle.std.specs.Prelude.{slice_get, is_some}
use Rattle.std.specs.Borrow.{Bor}
use Rattle.std.proofs.Common.{◌≡◌, ◌≢◌, ◌+◌, ℕ, Bool, true, false, List, [], ◌∷◌, drop, Option, Some, None, Ok, refl, sym, ap, subst, ◌∙◌}
use Rattle.std.proofs.lemmas.Option.{none-some, same_Some}
use Rattle.rb_address.specs.declared.netid.Netid.{Netid}
use Rattle.rb_address.specs.declared.netid.Netid.TheVariants as netids
use Rattle.rb_address.specs.declared.netid.Transport.{Transport}
use Rattle.rb_address.specs.declared.netid.Transport.TheVariants as transports
use Rattle.rb_address.specs.Netids.{netid_named}
use Rattle.rb_address.proofs.NameLaws.{names_are_exact}
use Rattle.rb_uaddr.specs.declared.address.Uaddr.{Uaddr}
use Rattle.rb_uaddr.specs.Grammar.{Spells as SpellsAddress}
use Rattle.rb_uaddr.specs.Uaddr.{parse}
use Rattle.rb_uaddr.proofs.GrammarLaws.{read_is_spelled}
use Rattle.rb_words.specs.Services.{borrowed_texts}
use Rattle.rb_words.specs.declared.plan.Listing.{Listing}
use Rattle.rb_words.specs.declared.plan.Listing.TheVariants as listings
use Rattle.rb_words.specs.declared.plan.Plan.{Plan}
use Rattle.rb_words.specs.declared.plan.Plan.TheVariants.{Show, Ping}
use Rattle.rb_words.specs.declared.plan.Source.{Source}
use Rattle.rb_words.specs.declared.plan.Source.TheVariants.{Here, Input, Named}
use Rattle.rb_words.specs.declared.refusal.Spot.{Spot}
use Rattle.rb_words.specs.declared.refusal.Spot.TheVariants as spots
use Rattle.rb_words.specs.declared.refusal.Expected.{Expected}
use Rattle.rb_words.specs.declared.refusal.Expected.TheVariants as wants
use Rattle.rb_words.specs.declared.shape.Flag.{Flag}
use Rattle.rb_words.specs.declared.shape.Flag.TheVariants as flags
use Rattle.rb_words.specs.declared.shape.Shape.{Shape}
use Rattle.rb_words.specs.declared.plan.Way.{Way}
use Rattle.rb_words.specs.declared.plan.Way.TheVariants as ways
use Rattle.rb_words.specs.Words.{flag_of, some_or_refusal, option_number, number_at, program_at, ends_at, source_of, source_at, host_at, show_from, show_plan, entries_plan, version_in, ping_plan, ping_plan_at_host, program_and_version, option_netid, option_address, by_address, by_netid, by_option, without_flag, by_port, by_transport, delete_plan, broadcast_plan, plan_of, is_ping, is_broadcast, may_have_netid, only_where, has_address, check_options, is_here}
use Rattle.rb_promises.specs.WordForms.{SpellsNumber, SpellsPort, SpellsNetid, SpellsSocket, NamesHost, SpellsSource, NoWord, ◌▹◌, MayEnd, words_in, IsProgram, Given, MayHave, NotGiven, listing_flags, transport_flag, IsLine}
use Rattle.rb_promises.proofs.FormedWords.{bound, followed, same_Ok, option_spelled, number_option_spelled, source_spelled, stands, ends, stands_at, ends_there, number_there, number_here, program_there, program_here, none_there, none_here, source_there, host_there, host_here}

-- ---- the words at the end of a form

version_there : (words : List (Bor (List ℕ))) (i : ℕ) (version : Option ℕ) → version_in words i (slice_get words i) ≡ Ok version → MayEnd version (borrowed_texts (drop i words))
version_there words i version h = by_word (slice_get words i) refl h
  where
    by_word : (o : Option (Bor (List ℕ))) → slice_get words i ≡ o → version_in words i o ≡ Ok version → MayEnd version (borrowed_texts (drop i words))
    by_word None is h = subst (λ (v : Option ℕ). MayEnd v (borrowed_texts (drop i words))) (same_Ok _ _ h) (ends words i is)
    by_word (Some word) is h =
        let (n, read, rest) = bound (number_at words i wants.Version) _ version h in
        let (x, over, made) = bound (ends_at words (i + 1)) _ version rest in
        let there = number_there words i n wants.Version read in
        let last = ends words (i + 1) (none_there words (i + 1) x over) in
        subst (λ (v : Option ℕ). MayEnd v (borrowed_texts (drop i words))) (same_Ok _ _ made) (stands words i there.word (SpellsNumber n) NoWord there.there there.spells last)

version_here : (words : List (Bor (List ℕ))) (i : ℕ) (version : Option ℕ) → MayEnd version (borrowed_texts (drop i words)) → version_in words i (slice_get words i) ≡ Ok version
version_here words i None h = ap (version_in words i) (ends_there words i h)
version_here words i (Some n) h =
    let s = stands_at words i (SpellsNumber n) NoWord h in
    ap (version_in words i) s.there
    ∙ followed (number_at words i wants.Version) _ n (Some n) (number_here words i n wants.Version s.word s.there s.spells)
    (followed (ends_at words (i + 1)) _ tt (Some n) (none_here words (i + 1) (ends_there words (i + 1) s.follow)) refl)

record Called (way : Way) (shape : Shape) (i : ℕ) (plan : Plan) : Type 0 where
  program : ℕ
  version : Option ℕ
  is : Ping way program version ≡ plan
  words : (IsProgram shape program ▹ MayEnd version) (borrowed_texts (drop i shape.words.now))

call_there : (way : Way) (shape : Shape) (i : ℕ) (plan : Plan) → ping_plan way shape i ≡ Ok plan → Called way shape i plan
call_there way shape i plan h =
    let (program, read, rest) = bound (program_at shape i) _ plan h in
    let (version, last, made) = bound (version_in shape.words.now (i + 1) (slice_get shape.words.now (i + 1))) _ plan rest in
    let there = program_there shape i program read in
    record {
      program = program;
      version = version;
      is = same_Ok _ _ made;
      words = stands shape.words.now i there.word (IsProgram shape program) (MayEnd version) there.there there.spells (version_there shape.words.now (i + 1) version last);
    }

pub call_here : (way : Way) (shape : Shape) (i program : ℕ) (version : Option ℕ) → (IsProgram shape program ▹ MayEnd version) (borrowed_texts (drop i shape.words.now)) → ping_plan way shape i ≡ Ok (Ping way program version)
call_here way shape i program version h =
    let s = stands_at shape.words.now i (IsProgram shape program) (MayEnd version) h in
    followed (program_at shape i) _ program _ (program_here shape i program s.word s.there s.spells)
    (followed (version_in shape.words.now (i + 1) (slice_get shape.words.now (i + 1))) _ version _ (version_here shape.words.now (i + 1) version s.follow) refl)

record HostCalled (way : Way) (shape : Shape) (plan : Plan) : Type 0 where
  program : ℕ
  version : Option ℕ
  is : Ping way program version ≡ plan
  words : (NamesHost ▹ IsProgram shape program ▹ MayEnd version) (words_in shape)

host_call_there : (way : Way) (shape : Shape) (plan : Plan) → ping_plan_at_host way shape ≡ Ok plan → HostCalled way shape plan
host_call_there way shape plan h =
    let (x, host, rest) = bound (host_at shape.words.now) _ plan h in
    let named = host_there shape.words.now x host in
    let called = call_there way shape 1 plan rest in
    record {
      program = called.program;
      version = called.version;
      is = called.is;
      words = stands shape.words.now 0 named.word NamesHost (IsProgram shape called.program ▹ MayEnd called.version) named.there named.spells called.words;
    }

pub host_call_here : (way : Way) (shape : Shape) (program : ℕ) (version : Option ℕ) → (NamesHost ▹ IsProgram shape program ▹ MayEnd version) (words_in shape) → ping_plan_at_host way shape ≡ Ok (Ping way program version)
host_call_here way shape program version h =
    let s = stands_at shape.words.now 0 NamesHost (IsProgram shape program ▹ MayEnd version) h in
    followed (host_at shape.words.now) _ tt _ (host_here shape.words.now s.word s.there s.spells) (call_here way shape 1 program version s.follow)

both_there : (shape : Shape) (pair : ℕ × ℕ) → program_and_version shape ≡ Ok pair → (IsProgram shape pair.0 ▹ SpellsNumber pair.1 ▹ NoWord) (words_in shape)
both_there shape pair h =
    let (program, read, rest1) = bound (program_at shape 0) _ pair h in
    let (version, last, rest2) = bound (number_at shape.words.now 1 wants.Version) _ pair rest1 in
    let (x, over, made) = bound (ends_at shape.words.now 2) _ pair rest2 in
    let first = program_there shape 0 program read in
    let second = number_there shape.words.now 1 version wants.Version last in
    let none = ends shape.words.now 2 (none_there shape.words.now 2 x over) in
    let tail = stands shape.words.now 1 second.word (SpellsNumber version) NoWord second.there second.spells none in
    subst (λ (pair : ℕ × ℕ). (IsProgram shape pair.0 ▹ SpellsNumber pair.1 ▹ NoWord) (words_in shape)) (same_Ok _ _ made)
    (stands shape.words.now 0 first.word (IsProgram shape program) (SpellsNumber version ▹ NoWord) first.there first.spells tail)

pub both_here : (shape : Shape) (program version : ℕ) → (IsProgram shape program ▹ SpellsNumber version ▹ NoWord) (words_in shape) → program_and_version shape ≡ Ok (program, version)
both_here shape program version h =
    let first = stands_at shape.words.now 0 (IsProgram shape program) (SpellsNumber version ▹ NoWord) h in
    let second = stands_at shape.words.now 1 (SpellsNumber version) NoWord first.follow in
    followed (program_at shape 0) _ program _ (program_here shape 0 program first.word first.there first.spells)
    (followed (number_at shape.words.now 1 wants.Version) _ version _ (number_here shape.words.now 1 version wants.Version second.word second.there second.spells)
    (followed (ends_at shape.words.now 2) _ tt _ (none_here shape.words.now 2 (ends_there shape.words.now 2 second.follow)) refl))

-- ---- options

one_flag : (given : List Flag) (flag : Flag) → flag_of given ≡ Ok (Some flag) → given ≡ flag ∷ []
one_flag [] flag h = let no : None ≡ Some flag = same_Ok _ _ h in absurd (none-some flag no)
one_flag (only ∷ []) flag h = let same : Some only ≡ Some flag = same_Ok _ _ h in ap (λ (f : Flag). f ∷ []) (same_Some _ _ same)
one_flag (first ∷ second ∷ more) flag h = absurd cc

no_flag : (given : List Flag) → flag_of given ≡ Ok None → given ≡ []
no_flag [] h = refl
no_flag (only ∷ []) h = let same : None ≡ Some only = sym (same_Ok _ _ h) in absurd (none-some only same)
no_flag (first ∷ second ∷ more) h = absurd cc

barred : (option : Option (Bor (List ℕ))) (at : Spot) (wanted : Expected) (x : Unit {0}) → only_where (is_some option) false at wanted ≡ Ok x → option ≡ None
barred None at wanted x h = refl
barred (Some text) at wanted x h = absurd cc

pub absent : (option : Option (Bor (List ℕ))) (has : Bool) (at : Spot) (wanted : Expected) → option ≡ None → only_where (is_some option) has at wanted ≡ Ok tt
absent option has at wanted none = ap (λ (o : Option (Bor (List ℕ))). only_where (is_some o) has at wanted) none

pub free : (given : Bool) (at : Spot) (wanted : Expected) → only_where given true at wanted ≡ Ok tt
free true at wanted = refl
free false at wanted = refl

netid_spelled : (option : Option (Bor (List ℕ))) (netid : Option Netid) → option_netid option ≡ Ok netid → MayHave SpellsNetid netid option
netid_spelled None netid h = subst (λ (n : Option Netid). MayHave SpellsNetid n None) (same_Ok _ _ h) refl
netid_spelled (Some text) netid h = option_spelled SpellsNetid netid_named spots.Netid wants.Netid text netid (λ n is. (names_are_exact text.now n).0 is) h

pub netid_read : (option : Option (Bor (List ℕ))) (netid : Option Netid) → MayHave SpellsNetid netid option → option_netid option ≡ Ok netid
netid_read option None h = ap option_netid h
netid_read None (Some netid) h = absurd h
netid_read (Some text) (Some netid) h = ap (some_or_refusal spots.Netid wants.Netid) ((names_are_exact text.now netid).1 h)

address_spelled : (option : Option (Bor (List ℕ))) (address : Option Uaddr) → option_address option ≡ Ok address → MayHave SpellsAddress address option
address_spelled None address h = subst (λ (a : Option Uaddr). MayHave SpellsAddress a None) (same_Ok _ _ h) refl
address_spelled (Some text) address h = option_spelled SpellsAddress parse spots.Address wants.Address text address (λ u is. (read_is_spelled text.now u).0 is) h

pub address_read : (option : Option (Bor (List ℕ))) (address : Option Uaddr) → MayHave SpellsAddress address option → option_address option ≡ Ok address
address_read option None h = ap option_address h
address_read None (Some called) h = absurd h
address_read (Some text) (Some called) h = ap (some_or_refusal spots.Address wants.Address) ((read_is_spelled text.now called).1 h)

pub record Checked (flag : Option Flag) (shape : Shape) : Type 0 where
  pub target : only_where (is_some shape.target) (is_ping flag) spots.Target wants.Ping ≡ Ok tt
  pub netid : only_where (is_some shape.netid) (may_have_netid flag) spots.Netid wants.NoFlagOrDelete ≡ Ok tt
  pub broadcast : only_where (is_some shape.broadcast) (is_broadcast flag) spots.Broadcast wants.BroadcastAlone ≡ Ok tt
  pub address : only_where (is_some shape.address) (has_address flag (is_some shape.netid)) spots.Address wants.NetidAlone ≡ Ok tt

pub checked : (flag : Option Flag) (shape : Shape) (x : Unit {0}) → check_options flag shape ≡ Ok x → Checked flag shape
checked flag shape x h =
    let (x1, target, rest1) = bound (only_where (is_some shape.target) (is_ping flag) spots.Target wants.Ping) _ x h in
    let (x2, netid, rest2) = bound (only_where (is_some shape.netid) (may_have_netid flag) spots.Netid wants.NoFlagOrDelete) _ x rest1 in
    let (x3, broadcast, address) = bound (only_where (is_some shape.broadcast) (is_broadcast flag) spots.Broadcast wants.BroadcastAlone) _ x rest2 in
    record { target = target; netid = netid; broadcast = broadcast; address = address }

pub passes : (flag : Option Flag) (shape : Shape) → Checked flag shape → check_options flag shape ≡ Ok tt
passes flag shape c =
    followed (only_where (is_some shape.target) (is_ping flag) spots.Target wants.Ping) _ tt tt c.target
    (followed (only_where (is_some shape.netid) (may_have_netid flag) spots.Netid wants.NoFlagOrDelete) _ tt tt c.netid
    (followed (only_where (is_some shape.broadcast) (is_broadcast flag) spots.Broadcast wants.BroadcastAlone) _ tt tt c.broadcast c.address))

-- ---- what is read, as a line of the synopsis

abbrev pub HasLocal : Shape → Plan → Type 0
HasLocal shape plan = only_where (is_some shape.local) (is_here plan) spots.Local wants.NoHost ≡ Ok tt

abbrev WithLocal : Shape → Plan → Type 0
WithLocal shape plan = HasLocal shape plan → IsLine shape plan

list_is : (shape : Shape) (listing : Listing) (plan : Plan) → shape.flags.now ≡ listing_flags listing → NotGiven (shape.target ∷ shape.netid ∷ shape.address ∷ shape.broadcast ∷ []) → show_plan listing shape.words.now ≡ Ok plan → WithLocal shape plan
list_is shape listing plan flag others h =
    let (x, over, made) = bound (ends_at shape.words.now 1) _ plan h in
    by_word (slice_get shape.words.now 0) refl (none_there shape.words.now 1 x over) (same_Ok _ _ made)
  where
    by_source : (word : Bor (List ℕ)) (source : Source) → (SpellsSource source ▹ NoWord) (words_in shape) → WithLocal shape (Show listing source)
    by_source word Here s local = let there = stands_at shape.words.now 0 (SpellsSource Here) NoWord s in absurd there.spells
    by_source word Input s local = record { flag = flag; host = ((barred shape.local spots.Local wants.NoHost tt local, tt), s); others = others }
    by_source word Named s local = record { flag = flag; host = ((barred shape.local spots.Local wants.NoHost tt local, tt), s); others = others }

    by_word : (o : Option (Bor (List ℕ))) → slice_get shape.words.now 0 ≡ o → slice_get shape.words.now 1 ≡ None → show_from listing o ≡ plan → WithLocal shape plan
    by_word None is none made = subst (WithLocal shape) made (λ local. record { flag = flag; host = ends shape.words.now 0 is; others = others })
    by_word (Some word) is none made =
        let source = source_of word.now in
        let s = stands shape.words.now 0 word (SpellsSource source) NoWord is (source_spelled word.now source refl) (ends shape.words.now 1 none) in
        subst (WithLocal shape) made (by_source word source s)

transport_is : (shape : Shape) (transport : Transport) (plan : Plan) → shape.flags.now ≡ transport_flag transport ∷ [] → shape.netid ≡ None → shape.address ≡ None → shape.broadcast ≡ None → by_transport transport shape ≡ Ok plan → WithLocal shape plan
transport_is shape transport plan flag netid address broadcast h =
    let (port, read, rest) = bound (option_number shape.target spots.Target wants.Port 1 65535) (by_port transport shape) plan h in
    by_target port (number_option_spelled 1 65535 spots.Target wants.Port shape.target port read) rest
  where
    by_target : (port : Option ℕ) → MayHave SpellsPort port shape.target → by_port transport shape port ≡ Ok plan → WithLocal shape plan
    by_target None target rest =
        let c = host_call_there (ways.Getport transport) shape plan rest in
        subst (WithLocal shape) c.is (λ local. record { flag = flag; target = target; words = c.words; others = (netid, (address, (barred shape.local spots.Local wants.NoHost tt local, (broadcast, tt)))) })
    by_target (Some port) target rest =
        let c = host_call_there (ways.Port transport port) shape plan rest in
        subst (WithLocal shape) c.is (λ local. record { flag = flag; target = target; words = c.words; others = (netid, (address, (barred shape.local spots.Local wants.NoHost tt local, (broadcast, tt)))) })

netid_is : (shape : Shape) (netid : Netid) (plan : Plan) → shape.flags.now ≡ [] → Given (SpellsSocket netid) shape.netid → shape.target ≡ None → shape.broadcast ≡ None → by_netid netid shape ≡ Ok plan → WithLocal shape plan
netid_is shape netid plan flag socket target broadcast h =
    let (address, read, rest) = bound (option_address shape.address) (by_address netid shape) plan h in
    by_given address (address_spelled shape.address address read) rest
  where
    by_given : (address : Option Uaddr) → MayHave SpellsAddress address shape.address → by_address netid shape address ≡ Ok plan → WithLocal shape plan
    by_given None none h =
        let c = host_call_there (ways.Getaddr netid) shape plan h in
        subst (WithLocal shape) c.is (λ local. record { flag = flag; socket = socket; words = c.words; others = (target, (none, (barred shape.local spots.Local wants.NoHost tt local, (broadcast, tt)))) })
    by_given (Some called) given h =
        let c = call_there (ways.Address netid called) shape 0 plan h in
        subst (WithLocal shape) c.is (λ local. record { flag = flag; address = given; socket = socket; words = c.words; others = (target, (barred shape.local spots.Local wants.NoHost tt local, (broadcast, tt))) })

socket_given : (option : Option (Bor (List ℕ))) (netid : Netid) → netid ≢ netids.Local → MayHave SpellsNetid (Some netid) option → Given (SpellsSocket netid) option
socket_given None netid socket h = absurd h
socket_given (Some text) netid socket h = (socket, h)

no_flag_is : (shape : Shape) (plan : Plan) → shape.flags.now ≡ [] → Checked None shape → without_flag shape ≡ Ok plan → WithLocal shape plan
no_flag_is shape plan flag c h =
    let (netid, read, rest) = bound (option_netid shape.netid) (by_option shape) plan h in
    let target = barred shape.target spots.Target wants.Ping tt c.target in
    let broadcast = barred shape.broadcast spots.Broadcast wants.BroadcastAlone tt c.broadcast in
    by_given netid target broadcast (netid_spelled shape.netid netid read) rest
  where
    by_given : (netid : Option Netid) → shape.target ≡ None → shape.broadcast ≡ None → MayHave SpellsNetid netid shape.netid → by_option shape netid ≡ Ok plan → WithLocal shape plan
    by_given None target broadcast none rest =
        let barred_address : only_where (is_some shape.address) false spots.Address wants.NetidAlone ≡ Ok tt = ap (λ (o : Option (Bor (List ℕ))). only_where (is_some shape.address) (is_some o) spots.Address wants.NetidAlone) (sym none) ∙ c.address in
        let address = barred shape.address spots.Address wants.NetidAlone tt barred_address in
        list_is shape listings.Rows plan flag (target, (none, (address, (broadcast, tt)))) rest
    by_given (Some netids.Local) target broadcast spelled rest = absurd cc
    by_given (Some netids.Tcp) target broadcast spelled rest = netid_is shape netids.Tcp plan flag (socket_given shape.netid netids.Tcp (λ e. cc) spelled) target broadcast rest
    by_given (Some netids.Udp) target broadcast spelled rest = netid_is shape netids.Udp plan flag (socket_given shape.netid netids.Udp (λ e. cc) spelled) target broadcast rest
    by_given (Some netids.Tcp6) target broadcast spelled rest = netid_is shape netids.Tcp6 plan flag (socket_given shape.netid netids.Tcp6 (λ e. cc) spelled) target broadcast rest
    by_given (Some netids.Udp6) target broadcast spelled rest = netid_is shape netids.Udp6 plan flag (socket_given shape.netid netids.Udp6 (λ e. cc) spelled) target broadcast rest

entries_is : (shape : Shape) (plan : Plan) → shape.flags.now ≡ flags.List ∷ [] → shape.target ≡ None → shape.netid ≡ None → shape.address ≡ None → shape.broadcast ≡ None → entries_plan shape ≡ Ok plan → WithLocal shape plan
entries_is shape plan flag target netid address broadcast h =
    let (source, read1, rest1) = bound (source_at shape.words.now) _ plan h in
    let (program, read2, rest2) = bound (program_at shape 1) _ plan rest1 in
    let (version, read3, rest3) = bound (number_at shape.words.now 2 wants.Version) _ plan rest2 in
    let (x, over, made) = bound (ends_at shape.words.now 3) _ plan rest3 in
    let first = source_there shape.words.now source read1 in
    let second = program_there shape 1 program read2 in
    let third = number_there shape.words.now 2 version wants.Version read3 in
    let last = stands shape.words.now 2 third.word (SpellsNumber version) NoWord third.there third.spells (ends shape.words.now 3 (none_there shape.words.now 3 x over)) in
    let tail = stands shape.words.now 1 second.word (IsProgram shape program) (SpellsNumber version ▹ NoWord) second.there second.spells last in
    let words = stands shape.words.now 0 first.word (SpellsSource source) (IsProgram shape program ▹ SpellsNumber version ▹ NoWord) first.there first.spells tail in
    subst (WithLocal shape) (same_Ok _ _ made) (λ local. record { flag = flag; words = words; others = (target, (netid, (address, (barred shape.local spots.Local wants.NoHost tt local, (broadcast, tt))))) })

delete_is : (shape : Shape) (plan : Plan) → shape.flags.now ≡ flags.Delete ∷ [] → shape.target ≡ None → shape.address ≡ None → shape.broadcast ≡ None → delete_plan shape ≡ Ok plan → WithLocal shape plan
delete_is shape plan flag target address broadcast h =
    let (netid, read1, rest1) = bound (option_netid shape.netid) _ plan h in
    let (pair, read2, made) = bound (program_and_version shape) _ plan rest1 in
    let row = netid_spelled shape.netid netid read1 in
    let words = both_there shape pair read2 in
    subst (WithLocal shape) (same_Ok _ _ made) (λ local. record { flag = flag; row = row; words = words; others = (target, (address, (broadcast, tt))) })

broadcast_is : (shape : Shape) (plan : Plan) → shape.flags.now ≡ flags.Broadcast ∷ [] → shape.target ≡ None → shape.netid ≡ None → shape.address ≡ None → broadcast_plan shape ≡ Ok plan → WithLocal shape plan
broadcast_is shape plan flag target netid address h =
    let (pair, read, made) = bound (program_and_version shape) _ plan h in
    let words = both_there shape pair read in
    subst (WithLocal shape) (same_Ok _ _ made) (λ local. record { flag = flag; words = words; others = (target, (netid, (address, (barred shape.local spots.Local wants.NoHost tt local, tt)))) })

pub line_is : (flag : Option Flag) (shape : Shape) (plan : Plan) → flag_of shape.flags.now ≡ Ok flag → Checked flag shape → plan_of flag shape ≡ Ok plan → WithLocal shape plan
line_is None shape plan one c h = no_flag_is shape plan (no_flag shape.flags.now one) c h
line_is (Some flag) shape plan one c h = by_flag flag (one_flag shape.flags.now flag one) c (barred shape.address spots.Address wants.NetidAlone tt c.address) h
  where
    no_target : (has : Bool) → has ≡ false → only_where (is_some shape.target) has spots.Target wants.Ping ≡ Ok tt → shape.target ≡ None
    no_target has is h = barred shape.target spots.Target wants.Ping tt (ap (λ (b : Bool). only_where (is_some shape.target) b spots.Target wants.Ping) (sym is) ∙ h)

    no_netid : only_where (is_some shape.netid) false spots.Netid wants.NoFlagOrDelete ≡ Ok tt → shape.netid ≡ None
    no_netid h = barred shape.netid spots.Netid wants.NoFlagOrDelete tt h

    no_broadcast : only_where (is_some shape.broadcast) false spots.Broadcast wants.BroadcastAlone ≡ Ok tt → shape.broadcast ≡ None
    no_broadcast h = barred shape.broadcast spots.Broadcast wants.BroadcastAlone tt h

    by_flag : (flag : Flag) → shape.flags.now ≡ flag ∷ [] → Checked (Some flag) shape → shape.address ≡ None → plan_of (Some flag) shape ≡ Ok plan → WithLocal shape plan
    by_flag flags.Table is c address h = list_is shape listings.Table plan is (no_target false refl c.target, (no_netid c.netid, (address, (no_broadcast c.broadcast, tt)))) h
    by_flag flags.Short is c address h = list_is shape listings.Short plan is (no_target false refl c.target, (no_netid c.netid, (address, (no_broadcast c.broadcast, tt)))) h
    by_flag flags.Summary is c address h = list_is shape listings.Summary plan is (no_target false refl c.target, (no_netid c.netid, (address, (no_broadcast c.broadcast, tt)))) h
    by_flag flags.Statistics is c address h = list_is shape listings.Statistics plan is (no_target false refl c.target, (no_netid c.netid, (address, (no_broadcast c.broadcast, tt)))) h
    by_flag flags.List is c address h = entries_is shape plan is (no_target false refl c.target) (no_netid c.netid) address (no_broadcast c.broadcast) h
    by_flag flags.Tcp is c address h = transport_is shape transports.Tcp plan is (no_netid c.netid) address (no_broadcast c.broadcast) h
    by_flag flags.Udp is c address h = transport_is shape transports.Udp plan is (no_netid c.netid) address (no_broadcast c.broadcast) h
    by_flag flags.Delete is c address h = delete_is shape plan is (no_target false refl c.target) address (no_broadcast c.broadcast) h
    by_flag flags.Broadcast is c address h = broadcast_is shape plan is (no_target false refl c.target) (no_netid c.netid) address h
