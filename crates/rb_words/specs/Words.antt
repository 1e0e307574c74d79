-- What the words of a command line ask for.
use Rattle.std.specs.Prelude.{ℕ, ◌+◌, Bool, true, false, not, ◌&&◌, is_some, unwrap_or, List, [], ◌∷◌, Option, Some, None, Result, Ok, Err, if◌then◌else◌, slice_get, codes}
use Rattle.std.specs.Option.{option_or}
use Rattle.std.specs.Str.{bytes_eq}
use Rattle.std.specs.Borrow.{Bor}
use Rattle.rb_words.specs.declared.shape.Flag.{Flag}
use Rattle.rb_words.specs.declared.refusal.Refusal.{Refusal}
use Rattle.rb_words.specs.declared.refusal.Spot.{Spot}
use Rattle.rb_words.specs.declared.refusal.Spot.TheVariants as spots
use Rattle.rb_words.specs.declared.refusal.Expected.{Expected}
use Rattle.rb_words.specs.declared.refusal.Expected.TheVariants as wants
use Rattle.rb_words.specs.declared.plan.Layout.{Layout}
use Rattle.rb_words.specs.declared.plan.Layout.TheVariants as layouts
use Rattle.rb_words.specs.declared.plan.Listing.{Listing}
use Rattle.rb_words.specs.declared.plan.Listing.TheVariants as listings
use Rattle.rb_words.specs.declared.plan.Request.{Request}
use Rattle.rb_words.specs.declared.shape.Shape.{Shape}
use Rattle.rb_words.specs.declared.shape.Flag.TheVariants as flags
use Rattle.rb_words.specs.declared.plan.Source.{Source}
use Rattle.rb_words.specs.declared.plan.Source.TheVariants.{Here, Input, Named}
use Rattle.rb_address.specs.declared.netid.Netid.{Netid}
use Rattle.rb_address.specs.declared.netid.Netid.TheVariants as netids
use Rattle.rb_address.specs.declared.netid.Transport.{Transport}
use Rattle.rb_address.specs.declared.netid.Transport.TheVariants as transports
use Rattle.rb_address.specs.Netids.{netid_named}
use Rattle.rb_words.specs.declared.services.Service.{Service}
use Rattle.rb_words.specs.Services.{number_of}
use Rattle.rb_words.specs.declared.plan.Plan.{Plan}
use Rattle.rb_words.specs.declared.plan.Plan.TheVariants.{Show, Entries, Ping, Delete, Broadcast}
use Rattle.rb_words.specs.declared.plan.Way.{Way}
use Rattle.rb_words.specs.declared.plan.Way.TheVariants as ways
use Rattle.rb_uaddr.specs.declared.address.Uaddr.{Uaddr}
use Rattle.rb_uaddr.specs.Uaddr.{parse}
use Rattle.rb_words.specs.Numbers.{number_in}

-- ---- refusals

abbrev pub refusal_at : {A : Type 0} → Spot → Expected → Result A Refusal
refusal_at at wanted = Err (record { at = at; wanted = wanted })

-- one after the other, up to the first that is refused
infixl 10 ◌>>=◌
abbrev pub ◌>>=◌ : {A B : Type 0} → Result A Refusal → (A → Result B Refusal) → Result B Refusal
(Ok x) >>= f = f x
(Err refusal) >>= f = Err refusal

-- WORDS-5: There is at most one flag.
abbrev pub flag_of : List Flag → Result (Option Flag) Refusal
flag_of [] = Ok None
flag_of (flag ∷ []) = Ok (Some flag)
flag_of (flag ∷ second ∷ flags) = refusal_at (spots.Flag second) wants.OneFlag

abbrev pub or_refusal : {A : Type 0} → Spot → Expected → Option A → Result A Refusal
or_refusal at wanted (Some x) = Ok x
or_refusal at wanted None = refusal_at at wanted

abbrev pub some_or_refusal : {A : Type 0} → Spot → Expected → Option A → Result (Option A) Refusal
some_or_refusal at wanted (Some x) = Ok (Some x)
some_or_refusal at wanted None = refusal_at at wanted

-- the number that an option has
-- WORDS-4
abbrev pub option_number : Option (Bor (List ℕ)) → Spot → Expected → ℕ → ℕ → Result (Option ℕ) Refusal
option_number None at wanted least most = Ok None
option_number (Some text) at wanted least most = some_or_refusal at wanted (number_in least most text.now)

abbrev pub word_number : ℕ → Expected → Option (Bor (List ℕ)) → Result ℕ Refusal
word_number i wanted None = refusal_at spots.End wanted
word_number i wanted (Some text) = or_refusal (spots.Word i) wanted (number_in 0 4294967295 text.now)

-- the number that a word is
-- WORDS-4
abbrev pub number_at : List (Bor (List ℕ)) → ℕ → Expected → Result ℕ Refusal
number_at words i wanted = word_number i wanted (slice_get words i)

-- WORDS-2: A program is a number, or else a name of the file.
abbrev pub program_of : List Service → List ℕ → Option ℕ
program_of services text = option_or (number_in 0 4294967295 text) (number_of services text)

abbrev pub word_program : Shape → ℕ → Option (Bor (List ℕ)) → Result ℕ Refusal
word_program shape i None = refusal_at spots.End wants.Program
word_program shape i (Some text) = or_refusal (spots.Word i) wants.Program (program_of shape.services.now text.now)

-- the program that a word is
abbrev pub program_at : Shape → ℕ → Result ℕ Refusal
program_at shape i = word_program shape i (slice_get shape.words.now i)

abbrev pub no_word : ℕ → Option (Bor (List ℕ)) → Result (Unit {0}) Refusal
no_word i None = Ok tt
no_word i (Some text) = refusal_at (spots.Word i) wants.NoWord

-- no word stands at this place
abbrev pub ends_at : List (Bor (List ℕ)) → ℕ → Result (Unit {0}) Refusal
ends_at words i = no_word i (slice_get words i)

-- ---- hosts

-- `-` is standard input
abbrev pub source_of : List ℕ → Source
source_of text = if bytes_eq text (codes "-") then Input else Named

abbrev pub source_in : Option (Bor (List ℕ)) → Result Source Refusal
source_in None = refusal_at spots.End wants.Host
source_in (Some text) = Ok (source_of text.now)

abbrev pub source_at : List (Bor (List ℕ)) → Result Source Refusal
source_at words = source_in (slice_get words 0)

abbrev pub host_in : Source → Result (Unit {0}) Refusal
host_in Named = Ok tt
host_in Here = refusal_at (spots.Word 0) wants.Host
host_in Input = refusal_at (spots.Word 0) wants.Host

-- the first word names a host
abbrev pub host_at : List (Bor (List ℕ)) → Result (Unit {0}) Refusal
host_at words = source_at words >>= host_in

-- ---- the words of each form

abbrev pub show_from : Listing → Option (Bor (List ℕ)) → Plan
show_from listing None = Show listing Here
show_from listing (Some text) = Show listing (source_of text.now)

-- [HOST]
abbrev pub show_plan : Listing → List (Bor (List ℕ)) → Result Plan Refusal
show_plan listing words = ends_at words 1 >>= λ _. Ok (show_from listing (slice_get words 0))

-- HOST PROGRAM VERSION
abbrev pub entries_plan : Shape → Result Plan Refusal
entries_plan shape = do
  source ← source_at shape.words.now
  prog ← program_at shape 1
  vers ← number_at shape.words.now 2 wants.Version
  _ ← ends_at shape.words.now 3
  Ok (Entries source prog vers)

-- without a VERSION, each of them
abbrev pub version_in : List (Bor (List ℕ)) → ℕ → Option (Bor (List ℕ)) → Result (Option ℕ) Refusal
version_in words i None = Ok None
version_in words i (Some text) = do
  vers ← number_at words i wants.Version
  _ ← ends_at words (i + 1)
  Ok (Some vers)

-- PROGRAM [VERSION]
abbrev pub ping_plan : Way → Shape → ℕ → Result Plan Refusal
ping_plan way shape i = do
  prog ← program_at shape i
  vers ← version_in shape.words.now (i + 1) (slice_get shape.words.now (i + 1))
  Ok (Ping way prog vers)

-- HOST PROGRAM [VERSION]
abbrev pub ping_plan_at_host : Way → Shape → Result Plan Refusal
ping_plan_at_host way shape = host_at shape.words.now >>= λ _. ping_plan way shape 1

-- PROGRAM VERSION
abbrev pub program_and_version : Shape → Result (ℕ × ℕ) Refusal
program_and_version shape = do
  prog ← program_at shape 0
  vers ← number_at shape.words.now 1 wants.Version
  _ ← ends_at shape.words.now 2
  Ok (prog, vers)

-- ---- netids and addresses

abbrev pub option_netid : Option (Bor (List ℕ)) → Result (Option Netid) Refusal
option_netid None = Ok None
option_netid (Some text) = some_or_refusal spots.Netid wants.Netid (netid_named text.now)

-- WORDS-10: The address of `-a` is a universal address.
abbrev pub option_address : Option (Bor (List ℕ)) → Result (Option Uaddr) Refusal
option_address None = Ok None
option_address (Some text) = some_or_refusal spots.Address wants.Address (parse text.now)

-- ---- what each flag asks for

-- procedure 0 at the address of `-a`, or at that which GETADDR says
abbrev pub by_address : Netid → Shape → Option Uaddr → Result Plan Refusal
by_address netid shape None = ping_plan_at_host (ways.Getaddr netid) shape
by_address netid shape (Some address) = ping_plan (ways.Address netid address) shape 0

abbrev pub by_netid : Netid → Shape → Result Plan Refusal
by_netid netid shape = option_address shape.address >>= by_address netid shape

-- a socket has no address of a host
abbrev pub by_option : Shape → Option Netid → Result Plan Refusal
by_option shape None = show_plan listings.Rows shape.words.now
by_option shape (Some netids.Local) = refusal_at spots.Netid wants.Socket
by_option shape (Some netid) = by_netid netid shape

abbrev pub without_flag : Shape → Result Plan Refusal
without_flag shape = option_netid shape.netid >>= by_option shape

-- procedure 0 at the port of `-n`, or at that which GETPORT says
abbrev pub by_port : Transport → Shape → Option ℕ → Result Plan Refusal
by_port transport shape None = ping_plan_at_host (ways.Getport transport) shape
by_port transport shape (Some port) = ping_plan_at_host (ways.Port transport port) shape

abbrev pub by_transport : Transport → Shape → Result Plan Refusal
by_transport transport shape = option_number shape.target spots.Target wants.Port 1 65535 >>= by_port transport shape

abbrev pub delete_plan : Shape → Result Plan Refusal
delete_plan shape = do
  netid ← option_netid shape.netid
  program ← program_and_version shape
  Ok (Delete netid program.0 program.1)

abbrev pub broadcast_plan : Shape → Result Plan Refusal
broadcast_plan shape = program_and_version shape >>= λ program. Ok (Broadcast program.0 program.1)

-- WORDS-6: A form has its own words, and no more.
-- WORDS-7: `-t` and `-u` call over their own transport.
abbrev pub plan_of : Option Flag → Shape → Result Plan Refusal
plan_of None shape = without_flag shape
plan_of (Some flags.Table) shape = show_plan listings.Table shape.words.now
plan_of (Some flags.Short) shape = show_plan listings.Short shape.words.now
plan_of (Some flags.Summary) shape = show_plan listings.Summary shape.words.now
plan_of (Some flags.List) shape = entries_plan shape
plan_of (Some flags.Statistics) shape = show_plan listings.Statistics shape.words.now
plan_of (Some flags.Tcp) shape = by_transport transports.Tcp shape
plan_of (Some flags.Udp) shape = by_transport transports.Udp shape
plan_of (Some flags.Delete) shape = delete_plan shape
plan_of (Some flags.Broadcast) shape = broadcast_plan shape

-- ---- which options a flag has

abbrev pub is_ping : Option Flag → Bool
is_ping (Some flags.Tcp) = true
is_ping (Some flags.Udp) = true
is_ping _ = false

abbrev pub is_broadcast : Option Flag → Bool
is_broadcast (Some flags.Broadcast) = true
is_broadcast _ = false

abbrev pub may_have_netid : Option Flag → Bool
may_have_netid None = true
may_have_netid (Some flags.Delete) = true
may_have_netid _ = false

abbrev pub only_where : Bool → Bool → Spot → Expected → Result (Unit {0}) Refusal
only_where given has at wanted = if given && not has then refusal_at at wanted else Ok tt

abbrev pub has_address : Option Flag → Bool → Bool
has_address None netid = netid
has_address (Some flag) netid = false

-- each option that is given is one that the flag has
-- WORDS-1: `--broadcast` goes with `-b` alone.
abbrev pub check_options : Option Flag → Shape → Result (Unit {0}) Refusal
check_options flag shape = do
  _ ← only_where (is_some shape.target) (is_ping flag) spots.Target wants.Ping
  _ ← only_where (is_some shape.netid) (may_have_netid flag) spots.Netid wants.NoFlagOrDelete
  _ ← only_where (is_some shape.broadcast) (is_broadcast flag) spots.Broadcast wants.BroadcastAlone
  only_where (is_some shape.address) (has_address flag (is_some shape.netid)) spots.Address wants.NetidAlone

-- the portmapper of this machine is asked
abbrev pub is_here : Plan → Bool
is_here (Show listing Here) = true
is_here (Delete netid prog vers) = true
is_here _ = false

-- ---- layouts

-- what is expected if a layout stands in a form that does not have it
abbrev pub wanted_with : Layout → Expected
wanted_with layouts.Names = wants.List
wanted_with layouts.Json = wants.Objects

-- statistics have no names, the short rows are no objects, and a summary is written in one way
abbrev pub listing_has_layout : Listing → Layout → Bool
listing_has_layout listings.Statistics layouts.Names = false
listing_has_layout listings.Short layouts.Json = false
listing_has_layout listings.Summary layout = false
listing_has_layout listing layout = true

abbrev pub has_layout : Plan → Layout → Bool
has_layout (Show listing source) layout = listing_has_layout listing layout
has_layout (Entries source prog vers) layout = true
has_layout (Ping way prog vers) layout = false
has_layout (Delete netid prog vers) layout = false
has_layout (Broadcast prog vers) layout = false

-- WORDS-3: `--names` goes with the rows, `-p`, `-s` and `-l` alone, `--json` with the rows, `-p`,
-- `-l` and `-m` alone, and at most one of them is asked for.
abbrev pub layout_of : List Layout → Plan → Result (Option Layout) Refusal
layout_of [] plan = Ok None
layout_of (layout ∷ []) plan = if has_layout plan layout then Ok (Some layout) else refusal_at (spots.Layout layout) (wanted_with layout)
layout_of (layout ∷ second ∷ layouts) plan = refusal_at (spots.Layout second) wants.OneLayout

-- ---- all of it

-- the portmapper's port is 111 if none is given
-- WORDS-4: Ports are 1 to 65535, other numbers 0 to 4294967295.
-- WORDS-8: What is asked is asked as the user of `--uid`.
-- WORDS-9: What can't be read is named, with what is expected.
abbrev pub request_of : Shape → Result Request Refusal
request_of shape = do
  flag ← flag_of shape.flags.now
  _ ← check_options flag shape
  port ← option_number shape.port spots.Port wants.Port 1 65535
  uid ← option_number shape.uid spots.Uid wants.Uid 0 4294967295
  plan ← plan_of flag shape
  _ ← only_where (is_some shape.local) (is_here plan) spots.Local wants.NoHost
  layout ← layout_of shape.layouts.now plan
  Ok (record { port = unwrap_or port 111; uid = uid; plan = plan; layout = layout })
