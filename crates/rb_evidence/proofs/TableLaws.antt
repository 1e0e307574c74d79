-- The uid is of one line, which is of one connection.
use Rattle.std.proofs.Common.{◌≡◌, ◌<◌, ◌*◌, ◌/◌, ◌%◌, ◌^◌, ◌&&◌, ℕ, zero, suc, Bool, true, false, cond, not, eqb, List, [], ◌∷◌, ◌++◌, length, filter, get_or, Option, Some, None, refl, sym, ap, subst, ◌∙◌, arith, length-append, append_assoc, drop, replicate, lit<, ◌-◌}
use Rattle.std.specs.Prelude.{slice_get, codes, All}
use Rattle.std.specs.List.{list_all}
use Rattle.std.specs.Option.{option_map}
use Rattle.std.proofs.lemmas.Bool.{and_parts, not-true, eqb-true, eqb-false}
use Rattle.std.proofs.lemmas.List.Sums.{AllPass-from_list_all}
use Rattle.std.proofs.lemmas.Bool.Decides.{nat_tests}
use Rattle.std.proofs.lemmas.List.Elements.{All-append, All-drop, All-cons, All-nil, filter_passes}
use Rattle.std.proofs.lemmas.Option.{none-some, same_Some}
use Rattle.std.proofs.lemmas.Slice.Eq.{bytes_eq-Decides}
use Rattle.rb_address.specs.declared.host.Host.{Host}
use Rattle.rb_address.specs.declared.host.Host.TheVariants.{V4, V6}
use Rattle.rb_address.specs.Hosts.{octets_of_host, is_mapped, mapped_host, mapped_front}
use Rattle.rb_address.specs.Peers.{IsPeer}
use Rattle.rb_address.specs.Reading.{number_below, plain_number}
use Rattle.rb_address.proofs.Words.{bound}
use Rattle.rb_evidence.specs.declared.table.OwnedSocket.{OwnedSocket}
use Rattle.rb_evidence.specs.Table.{lines_of, fields_of, is_text, is_field, is_between, is_same_socket, the_socket, socket_in, socket_between, uid_between, upper_digit, byte_text, words_text, text_at, endpoint_text, mapped_text}
use Rattle.rb_evidence.specs.Laws.{EndpointsDiffer, MappedDiffer, IsOwnedLine, UidIsOfOneSocket, TwoSocketsAreNone, ShownTwiceIsOne}

-- ---- one line

cond_some : {A : Type 0} (b : Bool) (o : Option A) (n : A) → cond b o None ≡ Some n → (b ≡ true) × (o ≡ Some n)
cond_some true o n is = (refl, is)
cond_some false o n is = absurd (none-some n is)

field_is : (text : List ℕ) (field : Option (List ℕ)) → is_text text field ≡ true → field ≡ Some text
field_is text None is = cc
field_is text (Some field) is = ap (λ (t : List ℕ). Some t) ((bytes_eq-Decides field text).0 is)

owned : (theirs ours line : List ℕ) (socket : OwnedSocket) → is_between theirs ours line ≡ true → socket_in line ≡ Some socket → IsOwnedLine theirs ours line socket.uid socket.inode
unfolding socket_in
owned theirs ours line socket between is =
    let (uid_text, uid_field, rest1) = bound (slice_get (fields_of line) 7) _ socket is in
    let (inode_text, inode_field, rest2) = bound (slice_get (fields_of line) 9) _ socket rest1 in
    let (inode, inode_is, rest3) = bound (number_below (2 ^ 64) inode_text) _ socket rest2 in
    let (uid, uid_is, rest4) = bound (cond (is_field 3 (codes "01") line && not (eqb inode 0)) (plain_number (2 ^ 32) uid_text) None) _ socket rest3 in
    let found = cond_some (is_field 3 (codes "01") line && not (eqb inode 0)) (plain_number (2 ^ 32) uid_text) uid uid_is in
    let shown : record { uid = uid; inode = inode } ≡ socket = same_Some _ socket rest4 in
    let tests = and_parts _ _ found.0 in
    let ends = and_parts _ _ between in
    let line_is : IsOwnedLine theirs ours line uid inode = record {
      own = field_is theirs _ ends.0;
      other = field_is ours _ ends.1;
      established = field_is (codes "01") _ tests.0;
      has_socket = eqb-false _ _ (not-true _ tests.1);
      inode_is = (inode_text, inode_field, inode_is);
      uid_is = (uid_text, uid_field, found.1);
    } in
    subst (λ (s : OwnedSocket). IsOwnedLine theirs ours line s.uid s.inode) shown line_is

-- ---- one socket

same_some : (a b : Option OwnedSocket) (s : OwnedSocket) → a ≡ Some s → is_same_socket a b ≡ true → b ≡ Some s
same_some None b s is same = absurd (none-some s is)
same_some (Some a) None s is same = cc
same_some (Some a) (Some b) s is same =
    let parts = and_parts _ _ same in
    let uids = eqb-true a.uid b.uid parts.0 in
    let inodes = eqb-true a.inode b.inode parts.1 in
    ap (λ (t : OwnedSocket). Some t) (λ i. record { uid = sym uids i; inode = sym inodes i }) ∙ is

uid_some : (o : Option OwnedSocket) (uid : ℕ) → option_map (λ (s : OwnedSocket). s.uid) o ≡ Some uid → (s : OwnedSocket) × (o ≡ Some s) × (s.uid ≡ uid)
uid_some None uid is = absurd (none-some uid is)
uid_some (Some s) uid is = (s, refl, same_Some s.uid uid is)

-- the first of some lines shows the socket, and so does each other one
shows_each : (lines : List (List ℕ)) (s : OwnedSocket) → the_socket lines ≡ Some s → (0 < length lines) × All (λ (l : List ℕ). socket_in l ≡ Some s) lines
shows_each [] s is = absurd (none-some s is)
shows_each (line ∷ more) s is =
    let P : List ℕ → Type 0 = λ l. socket_in l ≡ Some s in
    let p : List ℕ → Bool = λ l. is_same_socket (socket_in line) (socket_in l) in
    let found = cond_some (list_all p more) (socket_in line) s is in
    let all = AllPass-from_list_all p more found.0 in
    (omega arith, All-cons P line more found.1 (λ k d l. same_some (socket_in line) _ s found.1 (all k d l)))

each_owned : (theirs ours : List ℕ) (lines : List (List ℕ)) (s : OwnedSocket) → All (λ (l : List ℕ). is_between theirs ours l ≡ true) lines → All (λ (l : List ℕ). socket_in l ≡ Some s) lines
    → All (λ (l : List ℕ). IsOwnedLine theirs ours l s.uid s.inode) lines
each_owned theirs ours lines s between shown k d l = owned theirs ours _ s (between k d l) (shown k d l)

pub uid_is_of_one_socket : UidIsOfOneSocket
unfolding uid_between socket_between
uid_is_of_one_socket table theirs ours uid is =
    let found = filter (is_between theirs ours) (lines_of table) in
    let (s, shown, uid_is) = uid_some (the_socket found) uid is in
    let (some, each) = shows_each found s shown in
    let owned = each_owned theirs ours found s (filter_passes (is_between theirs ours) (lines_of table)) each in
    record { inode = s.inode; are_some = some; each = subst (λ (u : ℕ). All (λ (l : List ℕ). IsOwnedLine theirs ours l u s.inode) found) uid_is owned }

abbrev uid_in : List (List ℕ) → Option ℕ
uid_in lines = option_map (λ (s : OwnedSocket). s.uid) (the_socket lines)

abbrev uid_by : Bool → Option OwnedSocket → Option ℕ
uid_by b o = option_map (λ (s : OwnedSocket). s.uid) (cond b o None)

pub two_sockets_are_none : TwoSocketsAreNone
unfolding uid_between socket_between
two_sockets_are_none table theirs ours a b more is other = ap uid_in is ∙ rw other refl

pub shown_twice_is_one : ShownTwiceIsOne
unfolding uid_between socket_between
shown_twice_is_one table theirs ours line again s is shown same = ap uid_in is ∙ rw same (ap (uid_by true) shown)

-- ---- one connection

digit_same : (a b : ℕ) → a < 16 → b < 16 → upper_digit a ≡ upper_digit b → a ≡ b
digit_same a b sa sb is = grind (arith, nat_tests)

byte_same : (a b : ℕ) → a < 256 → b < 256 → upper_digit (a / 16) ≡ upper_digit (b / 16) → upper_digit (a % 16) ≡ upper_digit (b % 16) → a ≡ b
byte_same a b sa sb high low =
    let highs : a / 16 ≡ b / 16 = digit_same (a / 16) (b / 16) (omega (arith, sa)) (omega (arith, sb)) high in
    let lows : a % 16 ≡ b % 16 = digit_same (a % 16) (b % 16) (omega arith) (omega arith) low in
    omega (arith, highs, lows)

same_at : (i : ℕ) (xs ys : List ℕ) → xs ≡ ys → get_or xs i 0 ≡ get_or ys i 0
same_at i xs ys is = ap (λ (t : List ℕ). get_or t i 0) is

true_is_false : true ≡ false → ⊥
true_is_false is = cc

same_words : (n : ℕ) (xs ys back back' : List ℕ) → length xs ≡ 4 * n → length ys ≡ 4 * n → All (λ b. b < 256) xs → All (λ b. b < 256) ys → words_text xs ++ back ≡ words_text ys ++ back' → (xs ≡ ys) × (back ≡ back')
same_words n (a ∷ b ∷ c ∷ d ∷ xs) (a' ∷ b' ∷ c' ∷ d' ∷ ys) back back' nx ny sx sy is =
    let d_is : d ≡ d' = byte_same d d' (sx 3 0 (omega arith)) (sy 3 0 (omega arith)) (same_at 0 _ _ is) (same_at 1 _ _ is) in
    let c_is : c ≡ c' = byte_same c c' (sx 2 0 (omega arith)) (sy 2 0 (omega arith)) (same_at 2 _ _ is) (same_at 3 _ _ is) in
    let b_is : b ≡ b' = byte_same b b' (sx 1 0 (omega arith)) (sy 1 0 (omega arith)) (same_at 4 _ _ is) (same_at 5 _ _ is) in
    let a_is : a ≡ a' = byte_same a a' (sx 0 0 (omega arith)) (sy 0 0 (omega arith)) (same_at 6 _ _ is) (same_at 7 _ _ is) in
    let P : ℕ → Type 0 = λ m. m < 256 in
    let behind = same_words (n - 1) xs ys back back' (omega (arith, nx)) (omega (arith, ny))
    (All-drop P 4 (a ∷ b ∷ c ∷ d ∷ xs) sx) (All-drop P 4 (a' ∷ b' ∷ c' ∷ d' ∷ ys) sy) (ap (drop 8) is) in
    let more = behind.0 in
    (cc, behind.1)
same_words n [] [] back back' nx ny sx sy is = (refl, is)
same_words n xs ys back back' nx ny sx sy is = absurd (omega (arith, nx, ny))

length_words : (n : ℕ) (xs : List ℕ) → length xs ≡ 4 * n → length (words_text xs) ≡ 8 * n
length_words n (a ∷ b ∷ c ∷ d ∷ xs) nx = omega (arith, nx, length_words (n - 1) xs (omega (arith, nx)))
length_words n [] nx = omega (arith, nx)
length_words n xs nx = absurd (omega (arith, nx))

abbrev port_text : ℕ → List ℕ
port_text port = 58 ∷ byte_text (port / 256) ++ byte_text (port % 256)

text_is : (host : Host) (port : ℕ) → text_at host port ≡ words_text (octets_of_host host) ++ port_text port
text_is host port = simp append_assoc

port_same : (p q : ℕ) → p < 2 ^ 16 → q < 2 ^ 16 → port_text p ≡ port_text q → p ≡ q
port_same p q sp sq is =
    let high : p / 256 ≡ q / 256 = byte_same (p / 256) (q / 256) (omega (arith, sp)) (omega (arith, sq)) (same_at 1 _ _ is) (same_at 2 _ _ is) in
    let low : p % 256 ≡ q % 256 = byte_same (p % 256) (q % 256) (omega arith) (omega arith) (same_at 3 _ _ is) (same_at 4 _ _ is) in
    omega (arith, high, low)

same_ends : (n : ℕ) (xs ys : List ℕ) (p q : ℕ) → length xs ≡ 4 * n → length ys ≡ 4 * n → All (λ b. b < 256) xs → All (λ b. b < 256) ys → p < 2 ^ 16 → q < 2 ^ 16
    → words_text xs ++ port_text p ≡ words_text ys ++ port_text q → (xs ≡ ys) × (p ≡ q)
same_ends n xs ys p q nx ny sx sy sp sq is =
    let both = same_words n xs ys (port_text p) (port_text q) nx ny sx sy is in
    (both.0, port_same p q sp sq both.1)

other_length : (xs ys : List ℕ) (p q : ℕ) → length xs ≡ 4 → length ys ≡ 16 → words_text xs ++ port_text p ≡ words_text ys ++ port_text q → ⊥
other_length xs ys p q nx ny is =
    omega (arith, ap (λ (t : List ℕ). length t) is, length-append (words_text xs) (port_text p), length-append (words_text ys) (port_text q), length_words 1 xs nx, length_words 4 ys ny)

differ : (h k : Host) (p q : ℕ) → IsPeer (record { host = h; port = p }) → IsPeer (record { host = k; port = q })
    → words_text (octets_of_host h) ++ port_text p ≡ words_text (octets_of_host k) ++ port_text q → (h ≡ k) × (p ≡ q)
differ (V4 xs) (V4 ys) p q fp fq is =
    let both = same_ends 1 xs ys p q fp.0.count fq.0.count fp.0.small fq.0.small fp.1 fq.1 is in (ap (λ (o : List ℕ). V4 o) both.0, both.1)
differ (V6 xs) (V6 ys) p q fp fq is =
    let both = same_ends 4 xs ys p q fp.0.0.count fq.0.0.count fp.0.0.small fq.0.0.small fp.1 fq.1 is in (ap (λ (o : List ℕ). V6 o) both.0, both.1)
differ (V4 xs) (V6 ys) p q fp fq is = absurd (other_length xs ys p q fp.0.count fq.0.0.count is)
differ (V6 xs) (V4 ys) p q fp fq is = absurd (other_length ys xs q p fq.0.count fp.0.0.count (sym is))

pub endpoints_differ : EndpointsDiffer
unfolding endpoint_text
endpoints_differ p q fp fq is =
    let both = differ p.host q.host p.port q.port fp fq (sym (text_is p.host p.port) ∙ is ∙ text_is q.host q.port) in
    λ i. record { host = both.0 i; port = both.1 i }

zeros_before : (n : ℕ) (xs : List ℕ) → All (λ b. b < 256) xs → All (λ b. b < 256) (replicate n 0 ++ xs)
zeros_before zero xs small = small
zeros_before (suc n) xs small = let P : ℕ → Type 0 = λ b. b < 256 in All-cons P 0 (replicate n 0 ++ xs) (lit< tt) (zeros_before n xs small)

small_front : All (λ b. b < 256) mapped_front
small_front =
    let P : ℕ → Type 0 = λ b. b < 256 in
    zeros_before 10 (255 ∷ 255 ∷ []) (All-cons P 255 (255 ∷ []) (lit< tt) (All-cons P 255 [] (lit< tt) (All-nil P)))

mapped_ends : (h k : Host) (p q : ℕ) → IsPeer (record { host = h; port = p }) → IsPeer (record { host = k; port = q })
    → words_text (octets_of_host (mapped_host h)) ++ port_text p ≡ words_text (octets_of_host (mapped_host k)) ++ port_text q → (h ≡ k) × (p ≡ q)
unfolding is_mapped
mapped_ends (V4 xs) (V4 ys) p q fp fq is =
    let P : ℕ → Type 0 = λ b. b < 256 in
    let both = same_ends 4 (mapped_front ++ xs) (mapped_front ++ ys) p q (omega (arith, fp.0.count)) (omega (arith, fq.0.count))
    (All-append P mapped_front xs small_front fp.0.small) (All-append P mapped_front ys small_front fq.0.small) fp.1 fq.1 is in
    (ap (λ (o : List ℕ). V4 (drop 12 o)) both.0, both.1)
mapped_ends (V6 xs) (V6 ys) p q fp fq is = differ (V6 xs) (V6 ys) p q fp fq is
mapped_ends (V4 xs) (V6 ys) p q fp fq is =
    let P : ℕ → Type 0 = λ b. b < 256 in
    let both = same_ends 4 (mapped_front ++ xs) ys p q (omega (arith, fp.0.count)) fq.0.0.count (All-append P mapped_front xs small_front fp.0.small) fq.0.0.small fp.1 fq.1 is in
    let mapped : is_mapped ys ≡ true = ap is_mapped (sym both.0) in
    let plain = fq.0.1 in
    absurd (true_is_false (sym mapped ∙ plain))
mapped_ends (V6 xs) (V4 ys) p q fp fq is =
    let P : ℕ → Type 0 = λ b. b < 256 in
    let both = same_ends 4 xs (mapped_front ++ ys) p q fp.0.0.count (omega (arith, fq.0.count)) fp.0.0.small (All-append P mapped_front ys small_front fq.0.small) fp.1 fq.1 is in
    let mapped : is_mapped xs ≡ true = ap is_mapped both.0 in
    let plain = fp.0.1 in
    absurd (true_is_false (sym mapped ∙ plain))

pub mapped_differ : MappedDiffer
unfolding mapped_text
mapped_differ p q fp fq is =
    let both = mapped_ends p.host q.host p.port q.port fp fq (sym (text_is (mapped_host p.host) p.port) ∙ is ∙ text_is (mapped_host q.host) q.port) in
    λ i. record { host = both.0 i; port = both.1 i }
