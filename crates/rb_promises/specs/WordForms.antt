-- What the words of rpcinfo ask for: one form for each line of the synopsis of its manual page, rpcinfo(8).
use Rattle.std.specs.Prelude.{◌≡◌, ◌≢◌, ◌↔◌, ◌≤◌, ⊤, ℕ, List, [], ◌∷◌, ◌++◌, codes, Option, Some, None, Ok, All, Contains}
use Rattle.std.specs.Borrow.{Bor}
use Rattle.std.specs.Str.Parse.{IsNumeral, digits_value}
use Rattle.rb_address.specs.declared.netid.Netid.{Netid}
use Rattle.rb_address.specs.declared.netid.Netid.TheVariants.{Local}
use Rattle.rb_address.specs.declared.netid.Transport.{Transport}
use Rattle.rb_address.specs.declared.netid.Transport.TheVariants.{Tcp, Udp}
use Rattle.rb_address.specs.Netids.{netid_text}
use Rattle.rb_uaddr.specs.declared.address.Uaddr.{Uaddr}
use Rattle.rb_uaddr.specs.Grammar.{Spells as SpellsAddress}
use Rattle.rb_words.specs.declared.services.Service.{Service}
use Rattle.rb_words.specs.Services.{borrowed_texts}
use Rattle.rb_words.specs.declared.plan.Layout.{Layout}
use Rattle.rb_words.specs.declared.plan.Layout.TheVariants.{Names, Json}
use Rattle.rb_words.specs.declared.plan.Listing.{Listing}
use Rattle.rb_words.specs.declared.plan.Listing.TheVariants.{Rows, Short, Summary, Table, Statistics}
use Rattle.rb_words.specs.declared.plan.Plan.{Plan}
use Rattle.rb_words.specs.declared.plan.Plan.TheVariants.{Show, Entries, Ping, Delete, Broadcast}
use Rattle.rb_words.specs.declared.plan.Request.{Request}
use Rattle.rb_words.specs.declared.plan.Source.{Source}
use Rattle.rb_words.specs.declared.plan.Source.TheVariants.{Here, Input, Named}
use Rattle.rb_words.specs.declared.plan.Way.TheVariants as ways
use Rattle.rb_words.specs.declared.shape.Flag.{Flag}
use Rattle.rb_words.specs.declared.shape.Flag.TheVariants as flags
use Rattle.rb_words.specs.declared.shape.Shape.{Shape}
use Rattle.rb_words.specs.Words.{request_of}

-- ---- what a text spells

-- decimal digits and nothing else, of a number within these bounds
pub record SpellsWithin (least most n : ℕ) (text : List ℕ) : Type 0 where
  pub digits : IsNumeral 10 text
  pub value : digits_value 10 text ≡ n
  pub at_least : least ≤ n
  pub at_most : n ≤ most

abbrev pub SpellsNumber : ℕ → List ℕ → Type 0
SpellsNumber n text = SpellsWithin 0 4294967295 n text

abbrev pub SpellsPort : ℕ → List ℕ → Type 0
SpellsPort port text = SpellsWithin 1 65535 port text

-- The first service of this name has this number.
pub record IsFirstNamed (services : List Service) (number : ℕ) (name : List ℕ) : Type 0 where
  pub before : List Service
  pub service : Service
  pub after : List Service
  pub stands : services ≡ before ++ service ∷ after
  pub has_name : service.name.items ≡ name
  pub has_number : service.number ≡ number
  pub is_first : All (λ other. other.name.items ≢ name) before

-- a number, or a name that is no number
pub data SpellsProgram (services : List Service) (program : ℕ) (text : List ℕ) : Type 0 where
  ByNumber : SpellsNumber program text → SpellsProgram services program text
  ByName : ((n : ℕ) → SpellsNumber n text → ⊥) → IsFirstNamed services program text
      → SpellsProgram services program text

abbrev pub SpellsNetid : Netid → List ℕ → Type 0
SpellsNetid netid text = text ≡ netid_text netid

-- a netid of TCP or UDP
abbrev pub SpellsSocket : Netid → List ℕ → Type 0
SpellsSocket netid text = (netid ≢ Local) × SpellsNetid netid text

abbrev pub NamesHost : List ℕ → Type 0
NamesHost text = text ≢ codes "-"

-- `-` in the place of a host is standard input
abbrev pub SpellsSource : Source → List ℕ → Type 0
SpellsSource Named text = NamesHost text
SpellsSource Input text = text ≡ codes "-"
SpellsSource Here text = ⊥

-- ---- one word after the other

abbrev pub NoWord : List (List ℕ) → Type 0
NoWord words = words ≡ []

-- a word that spells this, and those that follow
infixr 5 ◌▹◌
abbrev pub ◌▹◌ : (List ℕ → Type 0) → (List (List ℕ) → Type 0) → List (List ℕ) → Type 0
(Spells ▹ Follow) [] = ⊥
(Spells ▹ Follow) (word ∷ words) = Spells word × Follow words

-- [version]
abbrev pub MayEnd : Option ℕ → List (List ℕ) → Type 0
MayEnd None = NoWord
MayEnd (Some version) = SpellsNumber version ▹ NoWord

abbrev pub words_in : Shape → List (List ℕ)
words_in shape = borrowed_texts shape.words.now

abbrev pub IsProgram : Shape → ℕ → List ℕ → Type 0
IsProgram shape program text = SpellsProgram shape.services.now program text

-- ---- options

-- The option is there, and its value spells this.
abbrev pub Given : (List ℕ → Type 0) → Option (Bor (List ℕ)) → Type 0
Given Spells None = ⊥
Given Spells (Some value) = Spells value.now

-- the value of an option that may be left out
abbrev pub MayHave : {A : Type 0} → (A → List ℕ → Type 0) → Option A → Option (Bor (List ℕ)) → Type 0
MayHave Spells None option = option ≡ None
MayHave Spells (Some x) option = Given (Spells x) option

abbrev pub NotGiven : List (Option (Bor (List ℕ))) → Type 0
NotGiven [] = ⊤
NotGiven (option ∷ options) = (option ≡ None) × NotGiven options

-- ---- the lines of the synopsis

abbrev pub listing_flags : Listing → List Flag
listing_flags Rows = []
listing_flags Table = flags.Table ∷ []
listing_flags Short = flags.Short ∷ []
listing_flags Summary = flags.Summary ∷ []
listing_flags Statistics = flags.Statistics ∷ []

-- [host | --local path]
abbrev pub MayNameHost : Shape → Source → Type 0
MayNameHost shape Here = NoWord (words_in shape)
MayNameHost shape source = NotGiven (shape.local ∷ []) × (SpellsSource source ▹ NoWord) (words_in shape)

-- [-p | -s | -m | --summary] [host | --local path]
pub record IsList (shape : Shape) (listing : Listing) (source : Source) : Type 0 where
  pub flag : shape.flags.now ≡ listing_flags listing
  pub host : MayNameHost shape source
  pub others : NotGiven (shape.target ∷ shape.netid ∷ shape.address ∷ shape.broadcast ∷ [])

-- -l host program version
pub record IsEntries (shape : Shape) (source : Source) (program version : ℕ) : Type 0 where
  pub flag : shape.flags.now ≡ flags.List ∷ []
  pub words : (SpellsSource source ▹ IsProgram shape program ▹ SpellsNumber version ▹ NoWord) (words_in shape)
  pub others : NotGiven (shape.target ∷ shape.netid ∷ shape.address ∷ shape.local ∷ shape.broadcast ∷ [])

abbrev pub transport_flag : Transport → Flag
transport_flag Tcp = flags.Tcp
transport_flag Udp = flags.Udp

-- [-n port] -t|-u host program [version]
pub record IsTransportPing (shape : Shape) (transport : Transport) (port : Option ℕ) (program : ℕ) (version : Option ℕ) : Type 0 where
  pub flag : shape.flags.now ≡ transport_flag transport ∷ []
  pub target : MayHave SpellsPort port shape.target
  pub words : (NamesHost ▹ IsProgram shape program ▹ MayEnd version) (words_in shape)
  pub others : NotGiven (shape.netid ∷ shape.address ∷ shape.local ∷ shape.broadcast ∷ [])

-- -T netid host program [version]
pub record IsNetidPing (shape : Shape) (netid : Netid) (program : ℕ) (version : Option ℕ) : Type 0 where
  pub flag : shape.flags.now ≡ []
  pub socket : Given (SpellsSocket netid) shape.netid
  pub words : (NamesHost ▹ IsProgram shape program ▹ MayEnd version) (words_in shape)
  pub others : NotGiven (shape.target ∷ shape.address ∷ shape.local ∷ shape.broadcast ∷ [])

-- -a address -T netid program [version]
-- WORDS-10
pub record IsAddressPing (shape : Shape) (netid : Netid) (called : Uaddr) (program : ℕ) (version : Option ℕ) : Type 0 where
  pub flag : shape.flags.now ≡ []
  pub address : Given (SpellsAddress called) shape.address
  pub socket : Given (SpellsSocket netid) shape.netid
  pub words : (IsProgram shape program ▹ MayEnd version) (words_in shape)
  pub others : NotGiven (shape.target ∷ shape.local ∷ shape.broadcast ∷ [])

-- -d [-T netid] [--local path] program version
pub record IsDelete (shape : Shape) (netid : Option Netid) (program version : ℕ) : Type 0 where
  pub flag : shape.flags.now ≡ flags.Delete ∷ []
  pub row : MayHave SpellsNetid netid shape.netid
  pub words : (IsProgram shape program ▹ SpellsNumber version ▹ NoWord) (words_in shape)
  pub others : NotGiven (shape.target ∷ shape.address ∷ shape.broadcast ∷ [])

-- [--broadcast address] -b program version
pub record IsBroadcast (shape : Shape) (program version : ℕ) : Type 0 where
  pub flag : shape.flags.now ≡ flags.Broadcast ∷ []
  pub words : (IsProgram shape program ▹ SpellsNumber version ▹ NoWord) (words_in shape)
  pub others : NotGiven (shape.target ∷ shape.netid ∷ shape.address ∷ shape.local ∷ [])

-- WORDS-6
abbrev pub IsLine : Shape → Plan → Type 0
IsLine shape (Show listing source) = IsList shape listing source
IsLine shape (Entries source program version) = IsEntries shape source program version
IsLine shape (Ping (ways.Getport transport) program version) = IsTransportPing shape transport None program version
IsLine shape (Ping (ways.Port transport port) program version) = IsTransportPing shape transport (Some port) program version
IsLine shape (Ping (ways.Getaddr netid) program version) = IsNetidPing shape netid program version
IsLine shape (Ping (ways.Address netid address) program version) = IsAddressPing shape netid address program version
IsLine shape (Delete netid program version) = IsDelete shape netid program version
IsLine shape (Broadcast program version) = IsBroadcast shape program version

-- ---- the options of each form

-- The port is 111 if it isn't given.
abbrev pub IsPort : ℕ → Option (Bor (List ℕ)) → Type 0
IsPort port None = port ≡ 111
IsPort port (Some text) = SpellsPort port text.now

-- the lists that may be written so
abbrev pub listings_with : Layout → List Listing
listings_with Names = Rows ∷ Table ∷ Short ∷ []
listings_with Json = Rows ∷ Table ∷ Statistics ∷ []

-- these lists, and that of -l
abbrev pub GoesWith : Plan → Layout → Type 0
GoesWith (Show listing source) layout = Contains (listings_with layout) listing
GoesWith (Entries source program version) layout = ⊤
GoesWith _ layout = ⊥

-- [--names | --json]
abbrev pub IsLayout : Plan → Option Layout → List Layout → Type 0
IsLayout plan None layouts = layouts ≡ []
IsLayout plan (Some layout) layouts = (layouts ≡ layout ∷ []) × GoesWith plan layout

pub record IsForm (shape : Shape) (request : Request) : Type 0 where
  pub line : IsLine shape request.plan
  pub port : IsPort request.port shape.port
  pub uid : MayHave SpellsNumber request.uid shape.uid
  pub layout : IsLayout request.plan request.layout shape.layouts.now

-- ---- the law

-- Words ask for something exactly if they are of its form, so they ask for one thing, or can't be read.
abbrev pub WordsAreOfTheForms : Type 0
WordsAreOfTheForms = (shape : Shape) (request : Request) → (request_of shape ≡ Ok request) ↔ IsForm shape request
