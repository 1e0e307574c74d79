-- The words of a command line: what they name, and what their shape says.
use Rattle.std.specs.Prelude.{◌≡◌, ◌≢◌, ℕ, Bool, true, false, List, [], Option, Some, None, slice_get, Result, Ok, Err}
use Rattle.std.specs.Borrow.{Bor}
use Rattle.std.specs.declared.net.ipv4_addr.Ipv4Addr.{Ipv4Addr}
use Rattle.std.specs.Net.Grammar.{IsIpv4Text}
use Rattle.rb_words.specs.declared.services.Service.{Service}
use Rattle.rb_words.specs.declared.plan.Layout.{Layout}
use Rattle.rb_words.specs.declared.plan.Layout.TheVariants as layouts
use Rattle.rb_words.specs.declared.plan.Listing.TheVariants as listings
use Rattle.rb_words.specs.declared.plan.Plan.{Plan}
use Rattle.rb_words.specs.declared.plan.Plan.TheVariants.{Show, Entries, Ping, Delete, Broadcast}
use Rattle.rb_words.specs.declared.plan.Source.{Source}
use Rattle.rb_words.specs.declared.plan.Source.TheVariants.{Here, Input, Named}
use Rattle.rb_words.specs.declared.plan.Request.{Request}
use Rattle.rb_words.specs.declared.plan.Way.{Way}
use Rattle.rb_words.specs.declared.plan.Way.TheVariants as ways
use Rattle.rb_words.specs.declared.shape.Shape.{Shape}
use Rattle.rb_words.specs.declared.refusal.Refusal.{Refusal}
use Rattle.rb_words.specs.declared.refusal.Expected.{Expected}
use Rattle.rb_words.specs.declared.refusal.Expected.TheVariants as wants
use Rattle.rb_words.specs.Refusals.{refusal_lines}
use Rattle.rb_words.specs.Words.{request_of}
use Rattle.rb_show.specs.declared.ask.Ask.{Ask}
use Rattle.rb_show.specs.declared.ask.Question.{Question}
use Rattle.rb_show.specs.declared.form.Form.{Form}
use Rattle.rb_show.specs.declared.form.Form.TheVariants.{Plain, Named, Json}
use Rattle.rb_plans.specs.declared.ending.Ending.{Ending}
use Rattle.rb_plans.specs.declared.invocation.Invocation.{Invocation}
use Rattle.rb_plans.specs.Ending.{Says}

-- a question of the user that the words name
-- WORDS-8
abbrev pub ask_of : Invocation → Question → Ask
ask_of words question = record { question = question; uid = words.request.uid }

abbrev pub layout_form : Option Layout → Bor (List Service) → Form
layout_form None services = Plain
layout_form (Some layouts.Names) services = Named services
layout_form (Some layouts.Json) services = Json

-- a summary always has names
abbrev pub form_by : Plan → Option Layout → Bor (List Service) → Form
form_by (Show listings.Summary source) layout services = Named services
form_by plan layout services = layout_form layout services

-- how the words ask for a list
abbrev pub form_of : Request → Bor (List Service) → Form
form_of request services = form_by request.plan request.layout services

-- ---- names of programs

abbrev pub has_names : Form → Bool
has_names (Named services) = true
has_names Plain = false
has_names Json = false

abbrev pub is_program : Expected → Bool
is_program wants.Program = true
is_program wanted = false

abbrev pub wants_by : Bor (List Service) → Result Request Refusal → Bool
wants_by services (Ok request) = has_names (form_of request services)
wants_by services (Err refusal) = is_program refusal.wanted

-- WORDS-11: Names of programs are read only if they are shown, or if without them a word stands for no program.
abbrev pub wants_names : Shape → Bool
wants_names shape = wants_by shape.services (request_of shape)

-- ---- networks

-- The network of `--broadcast` is the IPv4 address that its text writes, if it is given.
abbrev pub IsNetworkOf : Option (Bor (List ℕ)) → Option Ipv4Addr → Type 0
IsNetworkOf None network = network ≡ None
IsNetworkOf (Some text) None = ⊥
IsNetworkOf (Some text) (Some address) = IsIpv4Text text.now address

-- ---- the host

-- the first word that belongs to no option, or nothing
abbrev pub text_of : Option (Bor (List ℕ)) → List ℕ
text_of None = []
text_of (Some text) = text.now

abbrev pub first_word : Shape → List ℕ
first_word shape = text_of (slice_get shape.words.now 0)

-- it names the host that is asked
abbrev pub is_named : Source → Bool
is_named Named = true
is_named Here = false
is_named Input = false

abbrev pub is_at_host : Way → Bool
is_at_host (ways.Getport transport) = true
is_at_host (ways.Getaddr netid) = true
is_at_host (ways.Port transport port) = true
is_at_host (ways.Address netid address) = false

-- HOSTNAME-1: A host that is asked has a name: the first word is not empty.
abbrev pub names_host : Plan → Bool
names_host (Show listing source) = is_named source
names_host (Entries source prog vers) = is_named source
names_host (Ping way prog vers) = is_at_host way
names_host (Delete netid prog vers) = false
names_host (Broadcast prog vers) = false

-- The shape of the words is read as what they ask for, or what can't be read is named.
abbrev pub ReadsShape : {E : Type 0} → (E → Option (List ℕ)) → Shape → E → E → Result Request Ending → Type 0
ReadsShape contents shape faults faults' (Ok request) = request_of shape ≡ Ok request
ReadsShape contents shape faults faults' (Err ending) =
    (refusal : Refusal) × ((request_of shape ≡ Err refusal) × Says contents faults faults' ending (refusal_lines shape refusal))

-- The words are what their shape says; a host that is asked has a name.
-- HOSTNAME-1
pub record AreOf (shape : Shape) (words : Invocation) : Type 0 where
  pub request : request_of shape ≡ Ok words.request
  pub host : words.host.now ≡ first_word shape
  pub named : names_host words.request.plan ≡ true → words.host.now ≢ []
  pub network : IsNetworkOf shape.broadcast words.network
  pub local : words.local ≡ shape.local
  pub form : words.form ≡ form_of words.request shape.services
