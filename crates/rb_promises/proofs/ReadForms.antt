-- Each form is read as what it asks for, and the law.
use Rattle.std.specs.Prelude.{is_some, unwrap_or, All, Contains}
use Rattle.std.specs.Borrow.{Bor}
use Rattle.std.proofs.Common.{◌≡◌, ◌≢◌, ℕ, Bool, true, false, cond, List, [], ◌∷◌, Option, Some, None, Result, Ok, refl, ap, subst, ◌∙◌, lit<}
use Rattle.std.proofs.lemmas.List.Elements.{All-nil, All-cons, All-contains}
use Rattle.rb_address.specs.declared.netid.Netid.{Netid}
use Rattle.rb_address.specs.declared.netid.Netid.TheVariants as netids
use Rattle.rb_address.specs.declared.netid.Transport.{Transport}
use Rattle.rb_address.specs.declared.netid.Transport.TheVariants as transports
use Rattle.rb_uaddr.specs.declared.address.Uaddr.{Uaddr}
use Rattle.rb_words.specs.Services.{borrowed_texts}
use Rattle.rb_words.specs.declared.plan.Layout.{Layout}
use Rattle.rb_words.specs.declared.plan.Layout.TheVariants.{Names, Json}
use Rattle.rb_words.specs.declared.plan.Listing.{Listing}
use Rattle.rb_words.specs.declared.plan.Listing.TheVariants as listings
use Rattle.rb_words.specs.declared.plan.Plan.{Plan}
use Rattle.rb_words.specs.declared.plan.Plan.TheVariants.{Show, Entries, Ping, Delete, Broadcast}
use Rattle.rb_words.specs.declared.plan.Request.{Request}
use Rattle.rb_words.specs.declared.plan.Source.{Source}
use Rattle.rb_words.specs.declared.plan.Source.TheVariants.{Here, Input, Named}
use Rattle.rb_words.specs.declared.refusal.Refusal.{Refusal}
use Rattle.rb_words.specs.declared.refusal.Spot.TheVariants as spots
use Rattle.rb_words.specs.declared.refusal.Expected.TheVariants as wants
use Rattle.rb_words.specs.declared.shape.Flag.{Flag}
use Rattle.rb_words.specs.declared.shape.Flag.TheVariants as flags
use Rattle.rb_words.specs.declared.shape.Shape.{Shape}
use Rattle.rb_words.specs.declared.plan.Way.{Way}
use Rattle.rb_words.specs.declared.plan.Way.TheVariants as ways
use Rattle.rb_words.specs.Words.{refusal_at, flag_of, option_number, number_at, program_at, ends_at, source_at, show_plan, program_and_version, option_netid, option_address, by_address, by_netid, by_option, by_port, by_transport, plan_of, is_here, is_ping, is_broadcast, may_have_netid, has_address, only_where, check_options, wanted_with, listing_has_layout, has_layout, layout_of, request_of}
use Rattle.rb_promises.specs.WordForms.{SpellsNumber, SpellsNetid, SpellsSocket, NamesHost, SpellsSource, NoWord, ◌▹◌, MayEnd, words_in, IsProgram, Given, MayHave, listing_flags, MayNameHost, IsList, IsEntries, transport_flag, IsTransportPing, IsNetidPing, IsAddressPing, IsDelete, IsBroadcast, IsLine, listings_with, GoesWith, IsLayout, IsForm, WordsAreOfTheForms}
use Rattle.rb_promises.proofs.FormedWords.{bound, followed, same_Ok, number_option_spelled, number_option_read, port_spelled, port_read, source_read, stands_at, ends_there, number_here, program_here, none_here, source_here}
use Rattle.rb_promises.proofs.FormedPlans.{call_here, host_call_here, both_here, absent, free, netid_read, address_read, Checked, checked, passes, HasLocal, line_is}

-- ---- what a line says is read

record IsRead (shape : Shape) (plan : Plan) : Type 0 where
  flag : Option Flag
  one : flag_of shape.flags.now ≡ Ok flag
  options : Checked flag shape
  read : plan_of flag shape ≡ Ok plan
  local : HasLocal shape plan

no_target : (flag : Option Flag) (shape : Shape) → shape.target ≡ None → only_where (is_some shape.target) (is_ping flag) spots.Target wants.Ping ≡ Ok tt
no_target flag shape none = absent shape.target (is_ping flag) spots.Target wants.Ping none

no_netid : (flag : Option Flag) (shape : Shape) → shape.netid ≡ None → only_where (is_some shape.netid) (may_have_netid flag) spots.Netid wants.NoFlagOrDelete ≡ Ok tt
no_netid flag shape none = absent shape.netid (may_have_netid flag) spots.Netid wants.NoFlagOrDelete none

no_broadcast : (flag : Option Flag) (shape : Shape) → shape.broadcast ≡ None → only_where (is_some shape.broadcast) (is_broadcast flag) spots.Broadcast wants.BroadcastAlone ≡ Ok tt
no_broadcast flag shape none = absent shape.broadcast (is_broadcast flag) spots.Broadcast wants.BroadcastAlone none

no_address : (flag : Option Flag) (shape : Shape) → shape.address ≡ None → only_where (is_some shape.address) (has_address flag (is_some shape.netid)) spots.Address wants.NetidAlone ≡ Ok tt
no_address flag shape none = absent shape.address (has_address flag (is_some shape.netid)) spots.Address wants.NetidAlone none

no_local : (shape : Shape) (plan : Plan) → shape.local ≡ None → HasLocal shape plan
no_local shape plan none = absent shape.local (is_here plan) spots.Local wants.NoHost none

unmarked : (flag : Option Flag) (shape : Shape) → shape.target ≡ None → shape.netid ≡ None → shape.address ≡ None → shape.broadcast ≡ None → Checked flag shape
unmarked flag shape target netid address broadcast = record {
  target = no_target flag shape target;
  netid = no_netid flag shape netid;
  broadcast = no_broadcast flag shape broadcast;
  address = no_address flag shape address;
}

named_shown : (listing : Listing) (source : Source) (words : List (Bor (List ℕ))) → (SpellsSource source ▹ NoWord) (borrowed_texts words) → show_plan listing words ≡ Ok (Show listing source)
named_shown listing source [] h = absurd h
named_shown listing source (word ∷ []) h = ap (λ (s : Source). Ok (Show listing s)) (source_read source word.now h.0)
named_shown listing source (word ∷ second ∷ more) h = let none = h.1 in absurd cc

here_shown : (listing : Listing) (words : List (Bor (List ℕ))) → NoWord (borrowed_texts words) → show_plan listing words ≡ Ok (Show listing Here)
here_shown listing [] h = refl
here_shown listing (word ∷ more) h = absurd cc

shown : (shape : Shape) (listing : Listing) (source : Source) → MayNameHost shape source → (show_plan listing shape.words.now ≡ Ok (Show listing source)) × HasLocal shape (Show listing source)
shown shape listing Here h = (here_shown listing shape.words.now h, free (is_some shape.local) spots.Local wants.NoHost)
shown shape listing Input h = (named_shown listing Input shape.words.now h.1, absent shape.local false spots.Local wants.NoHost h.0.0)
shown shape listing Named h = (named_shown listing Named shape.words.now h.1, absent shape.local false spots.Local wants.NoHost h.0.0)

list_read : (shape : Shape) (listing : Listing) (source : Source) → IsList shape listing source → IsRead shape (Show listing source)
list_read shape listing source l = by_listing listing l.flag (shown shape listing source l.host)
  where
    options : (flag : Option Flag) → Checked flag shape
    options flag = unmarked flag shape l.others.0 l.others.1.0 l.others.1.1.0 l.others.1.1.1.0

    by_flag : (flag : Flag) (listing : Listing) → shape.flags.now ≡ flag ∷ [] → plan_of (Some flag) shape ≡ show_plan listing shape.words.now
        → (show_plan listing shape.words.now ≡ Ok (Show listing source)) × HasLocal shape (Show listing source) → IsRead shape (Show listing source)
    by_flag flag listing is plan h = record { flag = Some flag; one = ap flag_of is; options = options (Some flag); read = plan ∙ h.0; local = h.1 }

    by_listing : (listing : Listing) → shape.flags.now ≡ listing_flags listing
        → (show_plan listing shape.words.now ≡ Ok (Show listing source)) × HasLocal shape (Show listing source) → IsRead shape (Show listing source)
    by_listing listings.Rows is h = record {
      flag = None;
      one = ap flag_of is;
      options = options None;
      read = followed (option_netid shape.netid) (by_option shape) None (Show listings.Rows source) (netid_read shape.netid None l.others.1.0) h.0;
      local = h.1;
    }
    by_listing listings.Table is h = by_flag flags.Table listings.Table is refl h
    by_listing listings.Short is h = by_flag flags.Short listings.Short is refl h
    by_listing listings.Summary is h = by_flag flags.Summary listings.Summary is refl h
    by_listing listings.Statistics is h = by_flag flags.Statistics listings.Statistics is refl h

entries_read : (shape : Shape) (source : Source) (program version : ℕ) → IsEntries shape source program version → IsRead shape (Entries source program version)
entries_read shape source program version l =
    let first = stands_at shape.words.now 0 (SpellsSource source) (IsProgram shape program ▹ SpellsNumber version ▹ NoWord) l.words in
    let second = stands_at shape.words.now 1 (IsProgram shape program) (SpellsNumber version ▹ NoWord) first.follow in
    let third = stands_at shape.words.now 2 (SpellsNumber version) NoWord second.follow in
    record {
      flag = Some flags.List;
      one = ap flag_of l.flag;
      options = unmarked (Some flags.List) shape l.others.0 l.others.1.0 l.others.1.1.0 l.others.1.1.1.1.0;
      read = followed (source_at shape.words.now) _ source _ (source_here shape.words.now source first.word first.there first.spells)
          (followed (program_at shape 1) _ program _ (program_here shape 1 program second.word second.there second.spells)
          (followed (number_at shape.words.now 2 wants.Version) _ version _ (number_here shape.words.now 2 version wants.Version third.word third.there third.spells)
          (followed (ends_at shape.words.now 3) _ tt _ (none_here shape.words.now 3 (ends_there shape.words.now 3 third.follow)) refl)));
      local = no_local shape (Entries source program version) l.others.1.1.1.0;
    }

abbrev called_by : Transport → Option ℕ → Way
called_by transport None = ways.Getport transport
called_by transport (Some port) = ways.Port transport port

by_port_read : (shape : Shape) (transport : Transport) (port : Option ℕ) (program : ℕ) (version : Option ℕ) → (NamesHost ▹ IsProgram shape program ▹ MayEnd version) (words_in shape) → by_port transport shape port ≡ Ok (Ping (called_by transport port) program version)
by_port_read shape transport None program version words = host_call_here (ways.Getport transport) shape program version words
by_port_read shape transport (Some port) program version words = host_call_here (ways.Port transport port) shape program version words

transport_read : (shape : Shape) (transport : Transport) (port : Option ℕ) (program : ℕ) (version : Option ℕ) → IsTransportPing shape transport port program version → IsRead shape (Ping (called_by transport port) program version)
transport_read shape transport port program version l = by_transport_of transport l.flag is_read
  where
    is_read : (transport : Transport) → by_transport transport shape ≡ Ok (Ping (called_by transport port) program version)
    is_read transport = followed (option_number shape.target spots.Target wants.Port 1 65535) (by_port transport shape) port _
        (number_option_read 1 65535 spots.Target wants.Port shape.target port l.target) (by_port_read shape transport port program version l.words)

    options : (flag : Flag) → is_ping (Some flag) ≡ true → Checked (Some flag) shape
    options flag ping = record {
      target = ap (λ (b : Bool). only_where (is_some shape.target) b spots.Target wants.Ping) ping ∙ free (is_some shape.target) spots.Target wants.Ping;
      netid = no_netid (Some flag) shape l.others.0;
      broadcast = no_broadcast (Some flag) shape l.others.1.1.1.0;
      address = no_address (Some flag) shape l.others.1.0;
    }

    by_transport_of : (transport : Transport) → shape.flags.now ≡ transport_flag transport ∷ [] → ((transport : Transport) → by_transport transport shape ≡ Ok (Ping (called_by transport port) program version)) → IsRead shape (Ping (called_by transport port) program version)
    by_transport_of transports.Tcp is read = record {
      flag = Some flags.Tcp;
      one = ap flag_of is;
      options = options flags.Tcp refl;
      read = read transports.Tcp;
      local = no_local shape (Ping (called_by transport port) program version) l.others.1.1.0;
    }
    by_transport_of transports.Udp is read = record {
      flag = Some flags.Udp;
      one = ap flag_of is;
      options = options flags.Udp refl;
      read = read transports.Udp;
      local = no_local shape (Ping (called_by transport port) program version) l.others.1.1.0;
    }

socket_is : (option : Option (Bor (List ℕ))) (netid : Netid) → Given (SpellsSocket netid) option → (netid ≢ netids.Local) × MayHave SpellsNetid (Some netid) option
socket_is None netid h = absurd h
socket_is (Some text) netid h = h

socket_read : (shape : Shape) (netid : Netid) → netid ≢ netids.Local → by_option shape (Some netid) ≡ by_netid netid shape
socket_read shape netids.Tcp h = refl
socket_read shape netids.Udp h = refl
socket_read shape netids.Tcp6 h = refl
socket_read shape netids.Udp6 h = refl
socket_read shape netids.Local h = absurd (h refl)

netid_ping_read : (shape : Shape) (netid : Netid) (program : ℕ) (version : Option ℕ) → IsNetidPing shape netid program version → IsRead shape (Ping (ways.Getaddr netid) program version)
netid_ping_read shape netid program version l =
    let s = socket_is shape.netid netid l.socket in
    record {
      flag = None;
      one = ap flag_of l.flag;
      options = record {
        target = no_target None shape l.others.0;
        netid = free (is_some shape.netid) spots.Netid wants.NoFlagOrDelete;
        broadcast = no_broadcast None shape l.others.1.1.1.0;
        address = no_address None shape l.others.1.0;
      };
      read = followed (option_netid shape.netid) (by_option shape) (Some netid) _ (netid_read shape.netid (Some netid) s.1)
          (socket_read shape netid s.0 ∙ followed (option_address shape.address) (by_address netid shape) None _ (address_read shape.address None l.others.1.0) (host_call_here (ways.Getaddr netid) shape program version l.words));
      local = no_local shape (Ping (ways.Getaddr netid) program version) l.others.1.1.0;
    }

some_given : (Spells : List ℕ → Type 0) (option : Option (Bor (List ℕ))) → Given Spells option → (text : Bor (List ℕ)) × (option ≡ Some text)
some_given Spells None h = absurd h
some_given Spells (Some text) h = (text, refl)

address_ping_read : (shape : Shape) (netid : Netid) (called : Uaddr) (program : ℕ) (version : Option ℕ) → IsAddressPing shape netid called program version → IsRead shape (Ping (ways.Address netid called) program version)
address_ping_read shape netid called program version l =
    let s = socket_is shape.netid netid l.socket in
    let (name, named) = some_given (SpellsSocket netid) shape.netid l.socket in
    record {
      flag = None;
      one = ap flag_of l.flag;
      options = record {
        target = no_target None shape l.others.0;
        netid = free (is_some shape.netid) spots.Netid wants.NoFlagOrDelete;
        broadcast = no_broadcast None shape l.others.1.1.0;
        address = ap (λ (o : Option (Bor (List ℕ))). only_where (is_some shape.address) (is_some o) spots.Address wants.NetidAlone) named ∙ free (is_some shape.address) spots.Address wants.NetidAlone;
      };
      read = followed (option_netid shape.netid) (by_option shape) (Some netid) _ (netid_read shape.netid (Some netid) s.1)
          (socket_read shape netid s.0 ∙ followed (option_address shape.address) (by_address netid shape) (Some called) _ (address_read shape.address (Some called) l.address) (call_here (ways.Address netid called) shape 0 program version l.words));
      local = no_local shape (Ping (ways.Address netid called) program version) l.others.1.0;
    }

delete_read : (shape : Shape) (netid : Option Netid) (program version : ℕ) → IsDelete shape netid program version → IsRead shape (Delete netid program version)
delete_read shape netid program version l = record {
  flag = Some flags.Delete;
  one = ap flag_of l.flag;
  options = record {
    target = no_target (Some flags.Delete) shape l.others.0;
    netid = free (is_some shape.netid) spots.Netid wants.NoFlagOrDelete;
    broadcast = no_broadcast (Some flags.Delete) shape l.others.1.1.0;
    address = no_address (Some flags.Delete) shape l.others.1.0;
  };
  read = followed (option_netid shape.netid) _ netid _ (netid_read shape.netid netid l.row)
      (followed (program_and_version shape) _ (program, version) _ (both_here shape program version l.words) refl);
  local = free (is_some shape.local) spots.Local wants.NoHost;
}

broadcast_read : (shape : Shape) (program version : ℕ) → IsBroadcast shape program version → IsRead shape (Broadcast program version)
broadcast_read shape program version l = record {
  flag = Some flags.Broadcast;
  one = ap flag_of l.flag;
  options = record {
    target = no_target (Some flags.Broadcast) shape l.others.0;
    netid = no_netid (Some flags.Broadcast) shape l.others.1.0;
    broadcast = free (is_some shape.broadcast) spots.Broadcast wants.BroadcastAlone;
    address = no_address (Some flags.Broadcast) shape l.others.1.1.0;
  };
  read = followed (program_and_version shape) _ (program, version) _ (both_here shape program version l.words) refl;
  local = no_local shape (Broadcast program version) l.others.1.1.1.0;
}

line_read : (shape : Shape) (plan : Plan) → IsLine shape plan → IsRead shape plan
line_read shape (Show listing source) l = list_read shape listing source l
line_read shape (Entries source program version) l = entries_read shape source program version l
line_read shape (Ping (ways.Getport transport) program version) l = transport_read shape transport None program version l
line_read shape (Ping (ways.Port transport port) program version) l = transport_read shape transport (Some port) program version l
line_read shape (Ping (ways.Getaddr netid) program version) l = netid_ping_read shape netid program version l
line_read shape (Ping (ways.Address netid called) program version) l = address_ping_read shape netid called program version l
line_read shape (Delete netid program version) l = delete_read shape netid program version l
line_read shape (Broadcast program version) l = broadcast_read shape program version l

-- ---- layouts

goes : (plan : Plan) (layout : Layout) → has_layout plan layout ≡ true → GoesWith plan layout
goes (Show listings.Rows source) Names h = (0, lit< tt, refl)
goes (Show listings.Rows source) Json h = (0, lit< tt, refl)
goes (Show listings.Table source) Names h = (1, lit< tt, refl)
goes (Show listings.Table source) Json h = (1, lit< tt, refl)
goes (Show listings.Short source) Names h = (2, lit< tt, refl)
goes (Show listings.Short source) Json h = absurd cc
goes (Show listings.Statistics source) Names h = absurd cc
goes (Show listings.Statistics source) Json h = (2, lit< tt, refl)
goes (Show listings.Summary source) layout h = absurd cc
goes (Entries source program version) layout h = tt
goes (Ping way program version) layout h = absurd cc
goes (Delete netid program version) layout h = absurd cc
goes (Broadcast program version) layout h = absurd cc

all_three : (P : Listing → Type 0) (a b c : Listing) → P a → P b → P c → All P (a ∷ b ∷ c ∷ [])
all_three P a b c x y z = All-cons P a (b ∷ c ∷ []) x (All-cons P b (c ∷ []) y (All-cons P c [] z (All-nil P)))

each_has : (layout : Layout) (listing : Listing) → Contains (listings_with layout) listing → listing_has_layout listing layout ≡ true
each_has Names listing in_list =
    let P : Listing → Type 0 = λ listing. listing_has_layout listing Names ≡ true in
    All-contains P (listings_with Names) listing (all_three P listings.Rows listings.Table listings.Short refl refl refl) in_list
each_has Json listing in_list =
    let P : Listing → Type 0 = λ listing. listing_has_layout listing Json ≡ true in
    All-contains P (listings_with Json) listing (all_three P listings.Rows listings.Table listings.Statistics refl refl refl) in_list

has : (plan : Plan) (layout : Layout) → GoesWith plan layout → has_layout plan layout ≡ true
has (Show listing source) layout h = each_has layout listing h
has (Entries source program version) layout h = refl
has (Ping way program version) layout h = absurd h
has (Delete netid program version) layout h = absurd h
has (Broadcast program version) layout h = absurd h

layout_is : (plan : Plan) (layouts : List Layout) (layout : Option Layout) → layout_of layouts plan ≡ Ok layout → IsLayout plan layout layouts
layout_is plan [] layout h = subst (λ (l : Option Layout). IsLayout plan l []) (same_Ok _ _ h) refl
layout_is plan (only ∷ []) layout h = by_test (has_layout plan only) refl h
  where
    by_test : (b : Bool) → has_layout plan only ≡ b → cond b (Ok (Some only)) (refusal_at (spots.Layout only) (wanted_with only)) ≡ Ok layout → IsLayout plan layout (only ∷ [])
    by_test true goes_with h = subst (λ (l : Option Layout). IsLayout plan l (only ∷ [])) (same_Ok _ _ h) (refl, goes plan only goes_with)
    by_test false other h = absurd cc
layout_is plan (first ∷ second ∷ more) layout h = absurd cc

layout_read : (plan : Plan) (layouts : List Layout) (layout : Option Layout) → IsLayout plan layout layouts → layout_of layouts plan ≡ Ok layout
layout_read plan layouts None h = ap (λ (ls : List Layout). layout_of ls plan) h
layout_read plan layouts (Some layout) h =
    ap (λ (ls : List Layout). layout_of ls plan) h.0
    ∙ ap (λ (b : Bool). cond b (Ok (Some layout)) (refusal_at (spots.Layout layout) (wanted_with layout))) (has plan layout h.1)

-- ---- the law

form_is : (shape : Shape) (request : Request) → request_of shape ≡ Ok request → IsForm shape request
form_is shape request h =
    let (flag, one, rest1) = bound (flag_of shape.flags.now) _ request h in
    let (x, options, rest2) = bound (check_options flag shape) _ request rest1 in
    let (port, read1, rest3) = bound (option_number shape.port spots.Port wants.Port 1 65535) _ request rest2 in
    let (uid, read2, rest4) = bound (option_number shape.uid spots.Uid wants.Uid 0 4294967295) _ request rest3 in
    let (plan, read3, rest5) = bound (plan_of flag shape) _ request rest4 in
    let (y, local, rest6) = bound (only_where (is_some shape.local) (is_here plan) spots.Local wants.NoHost) _ request rest5 in
    let (layout, read4, made) = bound (layout_of shape.layouts.now plan) _ request rest6 in
    subst (IsForm shape) (same_Ok _ _ made) (record {
      line = line_is flag shape plan one (checked flag shape x options) read3 local;
      port = port_spelled shape.port port (number_option_spelled 1 65535 spots.Port wants.Port shape.port port read1);
      uid = number_option_spelled 0 4294967295 spots.Uid wants.Uid shape.uid uid read2;
      layout = layout_is plan shape.layouts.now layout read4;
    })

form_read : (shape : Shape) (request : Request) → IsForm shape request → request_of shape ≡ Ok request
form_read shape request f =
    let l = line_read shape request.plan f.line in
    let (port, spelled, is) = port_read request.port shape.port f.port in
    let done : ◌≡◌ {A = Result Request Refusal} (Ok (record { port = unwrap_or port 111; uid = request.uid; plan = request.plan; layout = request.layout })) (Ok request) =
    ap (λ (n : ℕ). Ok (record { port = n; uid = request.uid; plan = request.plan; layout = request.layout })) is in
    followed (flag_of shape.flags.now) _ l.flag request l.one
    (followed (check_options l.flag shape) _ tt request (passes l.flag shape l.options)
    (followed (option_number shape.port spots.Port wants.Port 1 65535) _ port request (number_option_read 1 65535 spots.Port wants.Port shape.port port spelled)
    (followed (option_number shape.uid spots.Uid wants.Uid 0 4294967295) _ request.uid request (number_option_read 0 4294967295 spots.Uid wants.Uid shape.uid request.uid f.uid)
    (followed (plan_of l.flag shape) _ request.plan request l.read
    (followed (only_where (is_some shape.local) (is_here request.plan) spots.Local wants.NoHost) _ tt request l.local
    (followed (layout_of shape.layouts.now request.plan) _ request.layout request (layout_read request.plan shape.layouts.now request.layout f.layout) done))))))

pub words_are_of_the_forms : WordsAreOfTheForms
words_are_of_the_forms shape request = (form_is shape request, form_read shape request)
