-- What is told of addresses in their other form, and of the time (RPCBPROC_UADDR2TADDR, RPCBPROC_TADDR2UADDR and
-- RPCBPROC_GETTIME, RFC 1833 section 2.2.1).
use Rattle.std.specs.Prelude.{◌≡◌, ℕ, ◌+◌, ◌-◌, ◌*◌, ◌^◌, ◌<◌, ◌≤◌, List, [], ◌∷◌, ◌++◌, length, replicate, All}
use Rattle.rb_uaddr.specs.declared.address.Uaddr.{Uaddr}
use Rattle.rb_uaddr.specs.declared.address.Uaddr.TheVariants.{V4, V6}
use Rattle.rb_uaddr.specs.Grammar.{SpellsV4, Spells, IsTransportOf}
use Rattle.rb_rpc.specs.declared.call.CallHead.{CallHead}
use Rattle.rb_arguments.specs.declared.netbuf.Netbuf.{Netbuf}
use Rattle.rb_arguments.specs.declared.procedure.VoidProcedure.TheVariants as voids
use Rattle.rb_arguments.specs.declared.request.Request.TheVariants as requests
use Rattle.rb_answers.specs.declared.answers.Answer.{Answer}
use Rattle.rb_answers.specs.declared.answers.Answer.TheVariants as answers
use Rattle.rb_answers.specs.declared.answers.Results.TheVariants as results
use Rattle.rb_answers.specs.declared.answers.Value.TheVariants as values
use Rattle.rb_answers.specs.declared.context.Context.{Context}
use Rattle.rb_answers.specs.Ledger.{Ledger}
use Rattle.rb_answers.specs.Answers.{answer_to}
use Rattle.rb_promises.specs.LookUps.{PrintsV6, told_text, told_number}

-- ---- from a text

-- The bytes that are written of an address: its family, a zero, the port and the host, and zeros where nothing is said.
pub record IsWritten (family : ℕ) (port : ℕ) (behind form : List ℕ) : Type 0 where
  pub p1 : ℕ
  pub p2 : ℕ
  pub p1_fits : p1 < 256
  pub p2_fits : p2 < 256
  pub port_is : port ≡ 256 * p1 + p2
  pub form_is : form ≡ family ∷ 0 ∷ p1 ∷ p2 ∷ behind

-- AF_INET is 2 and AF_INET6 is 10
abbrev pub IsWrittenOf : Uaddr → List ℕ → Type 0
IsWrittenOf (V4 host port) form = IsWritten 2 port (host ++ replicate 8 0) form
IsWrittenOf (V6 host port) form = IsWritten 10 port (replicate 4 0 ++ host ++ replicate 4 0) form

-- The address that the text spells is written; if it spells none, nothing is.
pub data TurnsText (text form : List ℕ) : Type 0 where
  AsSpelled : (u : Uaddr) → Spells u text → IsWrittenOf u form → TurnsText text form
  AsNone : ((u : Uaddr) → ¬ (Spells u text)) → form ≡ [] → TurnsText text form

-- ---- from bytes

-- an IPv4 address has one spelling, and an IPv6 host is printed as RFC 5952 section 4 says
abbrev pub Prints : Uaddr → List ℕ → Type 0
Prints (V4 host port) text = SpellsV4 host port text
Prints (V6 host port) text = PrintsV6 host port text

-- The address whose transport form the bytes are is printed; if they are of none, the text is empty.
pub data TurnsBytes (form text : List ℕ) : Type 0 where
  AsForm : (u : Uaddr) → IsTransportOf u form → Prints u text → TurnsBytes form text
  AsNoForm : ((u : Uaddr) → ¬ (IsTransportOf u form)) → text ≡ [] → TurnsBytes form text

-- ---- the time

-- This many whole seconds are in this many milliseconds, or the most that there can be told, from the year 2106 on.
pub data AreSeconds (milliseconds number : ℕ) : Type 0 where
  Whole : number < 2 ^ 32 → number * 1000 ≤ milliseconds → milliseconds < number * 1000 + 1000 → AreSeconds milliseconds number
  TheMost : 2 ^ 32 * 1000 ≤ milliseconds → number ≡ 2 ^ 32 - 1 → AreSeconds milliseconds number

-- ---- the laws

-- the result that is a netbuf
abbrev pub told_netbuf : Netbuf → Answer
told_netbuf netbuf = answers.Results (results.Value (values.Netbuf netbuf))

pub record TellsNetbuf (text : List ℕ) (l : Ledger) (answered : Answer × Ledger) : Type 0 where
  pub netbuf : Netbuf
  pub is_told : answered ≡ (told_netbuf netbuf, l)
  pub turned : TurnsText text netbuf.buf
  pub maxlen : netbuf.maxlen ≡ length netbuf.buf

pub record TellsForm (netbuf : Netbuf) (l : Ledger) (answered : Answer × Ledger) : Type 0 where
  pub text : List ℕ
  pub is_told : answered ≡ (told_text text, l)
  pub turned : TurnsBytes netbuf.buf text

pub record TellsTime (context : Context) (l : Ledger) (answered : Answer × Ledger) : Type 0 where
  pub number : ℕ
  pub is_told : answered ≡ (told_number number, l)
  pub seconds : AreSeconds context.clock number

abbrev pub TextsAreTurned : Type 0
TextsAreTurned =
    (context : Context) (head : CallHead) (text arguments : List ℕ) (l : Ledger)
    → TellsNetbuf text l (answer_to context head (requests.Uaddr2taddr text) arguments l)

-- of bytes, and its maxlen counts for nothing
abbrev pub FormsAreTurned : Type 0
FormsAreTurned =
    (context : Context) (head : CallHead) (netbuf : Netbuf) (arguments : List ℕ) (l : Ledger)
    → All (λ b. b < 256) netbuf.buf → TellsForm netbuf l (answer_to context head (requests.Taddr2uaddr netbuf) arguments l)

abbrev pub TimesAreTold : Type 0
TimesAreTold =
    (context : Context) (head : CallHead) (arguments : List ℕ) (l : Ledger)
    → TellsTime context l (answer_to context head (requests.Void voids.Gettime) arguments l)
