-- Addresses in their other form, and the time.
use Rattle.std.proofs.Common.{◌≡◌, ℕ, ◌*◌, ◌/◌, ◌%◌, ◌^◌, ◌<◌, inl, inr, List, [], All, Option, Some, None, refl, sym, ◌∙◌, arith}
use Rattle.std.specs.Option.{option_map_or}
use Rattle.std.proofs.lemmas.Bool.{cases_lt}
use Rattle.std.proofs.lemmas.Option.{none-some}
use Rattle.rb_uaddr.specs.declared.address.Uaddr.{Uaddr}
use Rattle.rb_uaddr.specs.declared.address.Uaddr.TheVariants.{V4, V6}
use Rattle.rb_uaddr.specs.Uaddr.{IsUaddr, port_bytes, text_of, parse, transport_of, from_transport}
use Rattle.rb_uaddr.proofs.GrammarLaws.{read_is_spelled, read_is_address, printed_is_spelled, high_byte_fits, low_byte_fits, port_is_its_bytes}
use Rattle.rb_uaddr.proofs.TransportLaws.{transport_is_exact, transport_is_address}
use Rattle.rb_answers.specs.Answers.{seconds, taddr_of, uaddr_of}
use Rattle.rb_promises.specs.TurnedAddresses.{IsWrittenOf, TurnsText, Prints, TurnsBytes, AreSeconds, TextsAreTurned, FormsAreTurned, TimesAreTold}
use Rattle.rb_promises.specs.TurnedAddresses.TurnsText.{AsSpelled, AsNone}
use Rattle.rb_promises.specs.TurnedAddresses.TurnsBytes.{AsForm, AsNoForm}
use Rattle.rb_promises.specs.TurnedAddresses.AreSeconds.{Whole, TheMost}
use Rattle.rb_promises.proofs.Told.{prints_v6}

-- ---- from a text

written : (u : Uaddr) → IsUaddr u → IsWrittenOf u (transport_of u)
unfolding transport_of port_bytes
written (V4 host port) (host_fits, port_fits) =
    record { p1 = port / 256; p2 = port % 256; p1_fits = high_byte_fits port port_fits; p2_fits = low_byte_fits port; port_is = port_is_its_bytes port; form_is = refl }
written (V6 host port) (host_fits, port_fits) =
    record { p1 = port / 256; p2 = port % 256; p1_fits = high_byte_fits port port_fits; p2_fits = low_byte_fits port; port_is = port_is_its_bytes port; form_is = refl }

text_turned : (text : List ℕ) (o : Option Uaddr) → parse text ≡ o → TurnsText text (option_map_or transport_of o [])
text_turned text None none = AsNone (λ u s. none-some u (sym none ∙ (read_is_spelled text u).1 s)) refl
text_turned text (Some u) some = AsSpelled u ((read_is_spelled text u).0 some) (written u (read_is_address text u some))

pub texts_are_turned : TextsAreTurned
unfolding taddr_of
texts_are_turned context head text arguments l =
    record { netbuf = _; is_told = refl; turned = text_turned text (parse text) refl; maxlen = refl }

-- ---- from bytes

printed : (u : Uaddr) → IsUaddr u → Prints u (text_of u)
printed (V4 host port) fits = printed_is_spelled (V4 host port) fits
printed (V6 host port) (host_fits, port_fits) = prints_v6 host port host_fits port_fits

form_turned : (form : List ℕ) → All (λ b. b < 256) form → (o : Option Uaddr) → from_transport form ≡ o → TurnsBytes form (option_map_or text_of o [])
form_turned form small None none = AsNoForm (λ u is. none-some u (sym none ∙ (transport_is_exact form u).1 is)) refl
form_turned form small (Some u) some =
    AsForm u ((transport_is_exact form u).0 some) (printed u (transport_is_address form u small some))

pub forms_are_turned : FormsAreTurned
unfolding uaddr_of
forms_are_turned context head netbuf arguments l small =
    record { text = _; is_told = refl; turned = form_turned netbuf.buf small (from_transport netbuf.buf) refl }

-- ---- the time

are_seconds : (clock : ℕ) → AreSeconds clock (seconds clock)
unfolding seconds
are_seconds clock = elim (cases_lt clock (2 ^ 32 * 1000)) [
  | inl before ↦ Whole (omega (arith, before)) (omega (arith, before)) (omega (arith, before))
  | inr behind ↦ TheMost behind (omega (arith, behind))
]

pub times_are_told : TimesAreTold
times_are_told context head arguments l = record { number = _; is_told = refl; seconds = are_seconds context.clock }
