-- Laws of the words of a book: an entry's five words, lists of entries, and the whole book. Assumes nothing.
use mathlib.Core.Path.{◌≡◌, refl, sym, ap, ap₂, ◌∙◌}
use mathlib.Core.Logic.{◌⊎◌, ◌≢◌, inl, inr}
use mathlib.Core.Bool.{Bool, true, false, not, cond, ◌&&◌}
use mathlib.Core.List.{List, [], ◌∷◌, ◌++◌, append_assoc}
use Prim.Native.Nat.{ℕ, zero, suc, ◌+◌, ◌-◌, ◌*◌, ◌/◌, ◌%◌, ◌≤◌, ◌<◌}
use native.Mathlib.Nat.{div-div-eq-div-mul, mod-add-div'}
use native.Mathlib.Omega.{arith}
use lib.Dec.{eqb, leb}
use lib.ListN.{length, get_or, take, drop, length-append, length-drop}
use lib.Seq.{take_at, drop_at, drop-drop, get_or-take, get_or-drop}
use borrow.Author.Tests.{leb-true, eqb-true, le-leb}
use Rattle.numbers.specs.Tests.{all}
use Rattle.numbers.specs.Causes.{unless}
use Rattle.numbers.proofs.TestLaws.{and_split, and-join, or_cases, every_holds}
use Rattle.numbers.proofs.CauseLaws.{clear-all, unless-zero}
use Rattle.rules.specs.Entry.{Key, Label, Record, key, legal, fault, counterparty_ok, amount_limit, status_ok, mark_ok, party_ok, day_ok, is_type, is_volume, is_money, within, most_money, most_volume, is_mark, is_standing, is_bilateral}
use Rattle.rules.specs.Words.{word, kind_of, value_of, type_bits, encode, decode, entry_ok, entries_ok, read_entries, encode_all, used_words, laid, is_book, entries, count_of, coefficient_of, tolerance_of, room_in, kind_at, value_at}

-- a word is its kind and its value
pub word-kind : (k v : ℕ) → v < 268435456 → kind_of (word k v) ≡ k
word-kind k v h = omega arith

pub word_value : (k v : ℕ) → v < 268435456 → value_of (word k v) ≡ v
word_value k v h = omega arith

-- the ranges of what checks 3 to 7 let pass
pub record Faultless (k : Key) (a : ℕ) : Type 0 where
  pub party-above : 1 ≤ k.party
  pub party : k.party ≤ 999
  pub day : k.day ≤ 36524
  pub type-above : 1 ≤ k.type
  pub type : k.type ≤ 22
  pub no-mark : k.type ≢ 21
  pub counterparty : k.counterparty ≤ 999
  pub amount : a ≤ most_money

pub within-true : (low high x : ℕ) → within low high x ≡ true → (low ≤ x) × (x ≤ high)
within-true low high x e =
    let s = and_split (leb low x) (leb x high) e in
    (leb-true low x s.0, leb-true x high s.1)

-- the types: an interval, and type 22; none is a mark's
pub volume-range : (t : ℕ) → is_volume t ≡ true → ((1 ≤ t) × (t ≤ 16)) ⊎ (t ≡ 22)
volume-range t e =
    elim (or_cases (within 1 16 t) (eqb t 22) e) [ inl v ↦ inl (within-true 1 16 t v) | inr u ↦ inr (eqb-true t 22 u) ]

pub type-range : (t : ℕ) → is_type t ≡ true → (1 ≤ t) × (t ≤ 22) × (t ≢ 21)
type-range t e =
    elim (or_cases (is_volume t) (is_money t) e) [
      | inl v ↦ elim (volume-range t v) [ inl s ↦ omega arith | inr q ↦ omega arith ]
      | inr m ↦ (let s = within-true 17 20 t m in omega arith)
    ]

pub counterparty-range : (k : Key) → counterparty_ok k ≡ true → k.counterparty ≤ 999
unfolding counterparty_ok
counterparty-range k e = go (eqb k.type 6) e
  where
    go : (b : Bool) → cond b (leb k.counterparty 999 && not (eqb k.counterparty k.party)) (eqb k.counterparty 0) ≡ true → k.counterparty ≤ 999
    go true e = leb-true _ _ (and_split (leb k.counterparty 999) _ e).0
    go false e = omega (arith, eqb-true k.counterparty 0 e)

pub amount-range : (t : ℕ) → amount_limit t ≤ most_money
unfolding amount_limit
amount-range t = go (is_money t)
  where
    go : (b : Bool) → cond b most_money most_volume ≤ most_money
    go true = omega arith
    go false = omega arith

pub no-fault : (k : Key) (a : ℕ) → fault k a ≡ 0 → Faultless k a
unfolding fault
no-fault k a e =
    let c = clear-all (unless (party_ok k.party) 3 ∷ unless (day_ok k.day) 4 ∷ unless (is_type k.type) 5 ∷ unless (counterparty_ok k) 6 ∷ unless (leb a (amount_limit k.type)) 7 ∷ []) e in
    let p = within-true 1 999 k.party (unless-zero _ 2 c.0) in
    let d = leb-true k.day 36524 (unless-zero _ 3 c.1.0) in
    let t = type-range k.type (unless-zero _ 4 c.1.1.0) in
    let q = counterparty-range k (unless-zero _ 5 c.1.1.1.0) in
    let l = leb-true a (amount_limit k.type) (unless-zero _ 6 c.1.1.1.1.0) in
    omega (arith, amount-range k.type)

-- the ranges of a legal record
pub record Bounds (r : Record) : Type 0 where
  pub party : (key r).party ≤ 999
  pub day : (key r).day ≤ 36524
  pub type : (key r).type ≤ 22
  pub counterparty : (key r).counterparty ≤ 999
  pub status : r.label.status ≤ 2
  pub amount : r.amount ≤ most_money

pub status-range : (l : Label) → status_ok l ≡ true → l.status ≤ 2
unfolding status_ok
status-range l e =
    elim (or_cases (leb l.status 1) _ e) [
      | inl s ↦ omega (arith, leb-true l.status 1 s)
      | inr s ↦ omega (arith, eqb-true l.status 2 (and_split (eqb l.status 2) (is_bilateral l.key) s).0)
    ]

pub mark-bounds : (r : Record) → mark_ok r ≡ true → Bounds r
unfolding mark_ok
mark-bounds r e =
    let h = every_holds (is_mark r ∷ day_ok (key r).day ∷ eqb (key r).party 0 ∷ eqb (key r).counterparty 0 ∷ eqb r.amount 0 ∷ is_standing r ∷ []) e in
    omega
    (arith, eqb-true (key r).type 21 h.0, leb-true (key r).day 36524 h.1.0, eqb-true (key r).party 0 h.1.1.0, eqb-true (key r).counterparty 0 h.1.1.1.0, eqb-true r.amount 0 h.1.1.1.1.0, eqb-true r.label.status 0 h.1.1.1.1.1.0)

pub legal-bounds : (r : Record) → legal r ≡ true → Bounds r
unfolding legal
legal-bounds r e =
    elim (or_cases (eqb (fault (key r) r.amount) 0 && status_ok r.label) (mark_ok r) e) [ inl s ↦ passed s | inr m ↦ mark-bounds r m ]
  where
    passed : eqb (fault (key r) r.amount) 0 && status_ok r.label ≡ true → Bounds r
    passed s =
        let t = and_split _ _ s in
        let f = no-fault (key r) r.amount (eqb-true _ _ t.0) in
        omega (arith, status-range r.label t.1)

-- the figures of a kind 3 word
pub record Bits (t c s : ℕ) : Type 0 where
  pub fits : type_bits t c s < 268435456
  pub type : type_bits t c s % 256 ≡ t
  pub counterparty : type_bits t c s / 256 % 65536 ≡ c
  pub status : type_bits t c s / 16777216 ≡ s

pub bits : (t c s : ℕ) → t < 256 → c < 65536 → s < 16 → Bits t c s
bits t c s ht hc hs =
    let q : type_bits t c s / 256 ≡ c + s * 65536 = omega arith in
    record { fits = omega arith; type = omega arith; counterparty = rw q (omega arith); status = omega arith }

pub bits_back : (v : ℕ) → type_bits (v % 256) (v / 256 % 65536) (v / 16777216) ≡ v
bits_back v = rw (← div-div-eq-div-mul v 256 65536) (omega arith)

pub legal-bits : (r : Record) → legal r ≡ true → Bits (key r).type (key r).counterparty r.label.status
legal-bits r e = let b = legal-bounds r e in bits _ _ _ (omega arith) (omega arith) (omega arith)

pub decode-encode : (r : Record) (ws : List ℕ) → legal r ≡ true → decode (encode r ++ ws) ≡ r
unfolding decode encode
decode-encode r ws e =
    let b = legal-bounds r e in
    let t = legal-bits r e in
    rw (word_value 1 (key r).party (omega arith), word_value 2 (key r).day (omega arith), word_value 3 _ t.fits, t.type, t.counterparty, t.status, word_value 4 (r.amount % 268435456) (omega arith), word_value 5 (r.amount / 268435456) (omega arith), mod-add-div' r.amount 268435456)

pub encode-ok : (r : Record) (ws : List ℕ) → legal r ≡ true → entry_ok (encode r ++ ws) ≡ true
unfolding entry_ok encode
encode-ok r ws e =
    let b = legal-bounds r e in
    let t = legal-bits r e in
    rw (decode-encode r ws e, e, word-kind 1 (key r).party (omega arith), word-kind 2 (key r).day (omega arith), word-kind 3 _ t.fits, word-kind 4 (r.amount % 268435456) (omega arith), word-kind 5 (r.amount / 268435456) (omega arith))

-- the five words of an entry have their kinds, and its record is legal
pub record IsEntry (ws : List ℕ) : Type 0 where
  pub kind_0 : kind_of (get_or ws 0 0) ≡ 1
  pub kind_1 : kind_of (get_or ws 1 0) ≡ 2
  pub kind_2 : kind_of (get_or ws 2 0) ≡ 3
  pub kind_3 : kind_of (get_or ws 3 0) ≡ 4
  pub kind-4 : kind_of (get_or ws 4 0) ≡ 5
  pub is-legal : legal (decode ws) ≡ true

pub entry-facts : (ws : List ℕ) → entry_ok ws ≡ true → IsEntry ws
unfolding entry_ok
entry-facts ws e =
    let h = every_holds (kind_at ws 0 1 ∷ kind_at ws 1 2 ∷ kind_at ws 2 3 ∷ kind_at ws 3 4 ∷ kind_at ws 4 5 ∷ legal (decode ws) ∷ []) e in
    record {
      kind_0 = eqb-true _ _ h.0;
      kind_1 = eqb-true _ _ h.1.0;
      kind_2 = eqb-true _ _ h.1.1.0;
      kind_3 = eqb-true _ _ h.1.1.1.0;
      kind-4 = eqb-true _ _ h.1.1.1.1.0;
      is-legal = h.1.1.1.1.1.0;
    }

pub word_of : (k w : ℕ) → kind_of w ≡ k → word k (value_of w) ≡ w
word_of k w e = omega arith

pub first-five : (ws : List ℕ) → 5 ≤ length ws → ws ≡ get_or ws 0 0 ∷ get_or ws 1 0 ∷ get_or ws 2 0 ∷ get_or ws 3 0 ∷ get_or ws 4 0 ∷ drop 5 ws
first-five [] h = absurd (omega arith)
first-five (a ∷ []) h = absurd (omega arith)
first-five (a ∷ b ∷ []) h = absurd (omega arith)
first-five (a ∷ b ∷ c ∷ []) h = absurd (omega arith)
first-five (a ∷ b ∷ c ∷ d ∷ []) h = absurd (omega arith)
first-five (a ∷ b ∷ c ∷ d ∷ e ∷ ws) h = refl

-- any words of an entry are what its record is written as
pub encode-decode : (ws : List ℕ) → 5 ≤ length ws → entry_ok ws ≡ true → ws ≡ encode (decode ws) ++ drop 5 ws
unfolding encode decode
encode-decode ws h e =
    let f = entry-facts ws e in
    let v = value_at ws 3 in
    let u = value_at ws 4 in
    let low : (v + u * 268435456) % 268435456 ≡ v = omega arith in
    let high : (v + u * 268435456) / 268435456 ≡ u = omega arith in
    first-five ws h ∙ sym (rw (bits_back (value_at ws 2), low, high, word_of 1 (get_or ws 0 0) f.kind_0, word_of 2 (get_or ws 1 0) f.kind_1, word_of 3 (get_or ws 2 0) f.kind_2, word_of 4 (get_or ws 3 0) f.kind_3, word_of 5 (get_or ws 4 0) f.kind-4))

-- no unnamed bit is set
pub record NoUnnamedBits (ws : List ℕ) : Type 0 where
  pub party : value_at ws 0 < 65536
  pub figures : value_at ws 2 < 67108864
  pub amount : value_at ws 4 < 65536

pub unnamed-bits : (ws : List ℕ) → entry_ok ws ≡ true → NoUnnamedBits ws
unfolding decode
unnamed-bits ws e =
    let b = legal-bounds (decode ws) (entry-facts ws e).is-legal in
    let f = figures (value_at ws 0) (value_at ws 2) (value_at ws 3) (value_at ws 4) b.party b.status b.amount in
    record { party = f.0; figures = f.1; amount = f.2 }
  where
    figures : (p v x y : ℕ) → p ≤ 999 → v / 16777216 ≤ 2 → x + y * 268435456 ≤ most_money → (p < 65536) × (v < 67108864) × (y < 65536)
    figures p v x y hp hv hy = omega arith

-- lists of entries
pub length-encode_all : (rs : List Record) → length (encode_all rs) ≡ 5 * length rs
unfolding encode_all encode
length-encode_all [] = refl
length-encode_all (r ∷ rs) = omega (arith, length-encode_all rs)

pub encode_all-append : (rs ss : List Record) → encode_all (rs ++ ss) ≡ encode_all rs ++ encode_all ss
unfolding encode_all
encode_all-append [] ss = refl
encode_all-append (r ∷ rs) ss = rw (encode_all-append rs ss, append_assoc)

pub read-encoded : (rs : List Record) (ws : List ℕ) → all legal rs ≡ true → read_entries (length rs) (encode_all rs ++ ws) ≡ rs
unfolding read_entries encode_all all encode
read-encoded [] ws e = refl
read-encoded (r ∷ rs) ws e =
    let s = and_split (legal r) (all legal rs) e in
    rw (append_assoc (encode r) (encode_all rs) ws, decode-encode r (encode_all rs ++ ws) s.0, read-encoded rs ws s.1)

pub entries_ok-encoded : (rs : List Record) (ws : List ℕ) → all legal rs ≡ true → entries_ok (length rs) (encode_all rs ++ ws) ≡ true
unfolding entries_ok encode_all all encode
entries_ok-encoded [] ws e = refl
entries_ok-encoded (r ∷ rs) ws e =
    let s = and_split (legal r) (all legal rs) e in
    rw (append_assoc (encode r) (encode_all rs) ws, encode-ok r (encode_all rs ++ ws) s.0) (entries_ok-encoded rs ws s.1)

pub length-read : (n : ℕ) (ws : List ℕ) → length (read_entries n ws) ≡ n
unfolding read_entries
length-read zero ws = refl
length-read (suc n) ws = ap suc (length-read n (drop 5 ws))

pub read_at_lem : (n : ℕ) (ws : List ℕ) (i : ℕ) (d : Record) → i < n → get_or (read_entries n ws) i d ≡ decode (drop (5 * i) ws)
unfolding read_entries
read_at_lem zero ws i d h = absurd (omega arith)
read_at_lem (suc n) ws zero d h = refl
read_at_lem (suc n) ws (suc i) d h =
    let e : 5 * suc i ≡ 5 + 5 * i = omega arith in
    rw (e, ← drop-drop (5 * i) 5 ws) (read_at_lem n (drop 5 ws) i d (omega arith))

pub read-legal : (n : ℕ) (ws : List ℕ) → entries_ok n ws ≡ true → all legal (read_entries n ws) ≡ true
unfolding entries_ok read_entries all
read-legal zero ws e = refl
read-legal (suc n) ws e =
    let s = and_split (entry_ok ws) (entries_ok n (drop 5 ws)) e in
    and-join _ _ (entry-facts ws s.0).is-legal (read-legal n (drop 5 ws) s.1)

-- entry i and those after it, in a loop's form
pub read_step : (n : ℕ) (ws : List ℕ) (i : ℕ) → i < n → read_entries (n - i) (drop (5 * i) ws) ≡ decode (drop (5 * i) ws) ∷ read_entries (n - (i + 1)) (drop (5 * (i + 1)) ws)
unfolding read_entries
read_step n ws i h =
    let l : n - i ≡ suc (n - (i + 1)) = omega arith in
    let e : 5 * (i + 1) ≡ 5 * i + 5 = omega arith in
    rw (l, e, ← drop-drop 5 (5 * i) ws)

pub entries_ok-step : (n : ℕ) (ws : List ℕ) (i : ℕ) → i < n → entries_ok (n - i) (drop (5 * i) ws) ≡ entry_ok (drop (5 * i) ws) && entries_ok (n - (i + 1)) (drop (5 * (i + 1)) ws)
unfolding entries_ok
entries_ok-step n ws i h =
    let l : n - i ≡ suc (n - (i + 1)) = omega arith in
    let e : 5 * (i + 1) ≡ 5 * i + 5 = omega arith in
    rw (l, e, ← drop-drop 5 (5 * i) ws)

-- what a slice must be to hold these records
pub record Fits (R TM : ℕ) (rs : List Record) (ws : List ℕ) : Type 0 where
  pub legals : all legal rs ≡ true
  pub coefficient : R ≤ 1000
  pub tolerance : TM ≤ 200000000
  pub long : 3 ≤ length ws
  pub room : length rs ≤ room_in (length ws)

-- a book of any legal records, laid over the words of such a slice
pub record IsLaid (R TM : ℕ) (rs : List Record) (ws : List ℕ) : Type 0 where
  pub is-book : is_book (laid R TM rs ws) ≡ true
  pub holds : entries (laid R TM rs ws) ≡ rs
  pub count : count_of (laid R TM rs ws) ≡ length rs
  pub coefficient : coefficient_of (laid R TM rs ws) ≡ R
  pub tolerance : tolerance_of (laid R TM rs ws) ≡ TM
  pub long : length (laid R TM rs ws) ≡ length ws

pub length-laid : (R TM : ℕ) (rs : List Record) (ws : List ℕ) → 3 + 5 * length rs ≤ length ws → length (laid R TM rs ws) ≡ length ws
unfolding laid used_words
length-laid R TM rs ws h = simp (length-append, length-encode_all, length-drop) (omega arith)

-- the used words of a laid book, and the words past them
pub length-used : (R TM : ℕ) (rs : List Record) → length (used_words R TM rs) ≡ 3 + 5 * length rs
unfolding used_words
length-used R TM rs = omega (arith, length-encode_all rs)

pub laid-used : (R TM : ℕ) (rs : List Record) (ws : List ℕ) → take (3 + 5 * length rs) (laid R TM rs ws) ≡ used_words R TM rs
unfolding laid
laid-used R TM rs ws = take_at (used_words R TM rs) _ _ (length-used R TM rs)

pub laid-past : (R TM : ℕ) (rs : List Record) (ws : List ℕ) → drop (3 + 5 * length rs) (laid R TM rs ws) ≡ drop (3 + 5 * length rs) ws
unfolding laid
laid-past R TM rs ws = drop_at (used_words R TM rs) _ _ (length-used R TM rs)

-- records laid over a book of no more of them: as over the words below
laid-over : (R TM : ℕ) (rs : List Record) (us ws : List ℕ) → drop (3 + 5 * length rs) us ≡ drop (3 + 5 * length rs) ws → laid R TM rs us ≡ laid R TM rs ws
unfolding laid
laid-over R TM rs us ws p = ap (λ x. used_words R TM rs ++ x) p

pub laid-again : (R TM : ℕ) (rs ss : List Record) (ws : List ℕ) → length rs ≤ length ss → laid R TM ss (laid R TM rs ws) ≡ laid R TM ss ws
laid-again R TM rs ss ws h =
    let n = 3 + 5 * length rs in
    let k = 5 * (length ss - length rs) in
    let e : 3 + 5 * length ss ≡ n + k = omega arith in
    laid-over R TM ss (laid R TM rs ws) ws
    (rw (e, ← drop-drop k n (laid R TM rs ws), ← drop-drop k n ws, laid-past R TM rs ws))

-- the words of n entries are within a slice that has room for them
pub room-words : (n lent : ℕ) → 3 ≤ lent → n ≤ room_in lent → 3 + 5 * n ≤ lent
room-words n lent h r = omega arith

pub laid-book : {R TM : ℕ} {rs : List Record} {ws : List ℕ} → Fits R TM rs ws → IsLaid R TM rs ws
unfolding is_book entries laid used_words
laid-book {R} {TM} {rs} {ws} f =
    let n = word_value 6 (length rs) (omega arith) in
    let r = word_value 7 R (omega arith) in
    let t = word_value 8 TM (omega arith) in
    let l = length-laid R TM rs ws (room-words (length rs) (length ws) f.long f.room) in
    record {
      is-book = rw (n, r, t, l, word-kind 6 (length rs) (omega arith), word-kind 7 R (omega arith), word-kind 8 TM (omega arith), le-leb 3 (length ws) f.long, le-leb R 1000 f.coefficient, le-leb TM 200000000 f.tolerance, le-leb (length rs) (room_in (length ws)) f.room) (entries_ok-encoded rs _ f.legals);
      holds = rw n (read-encoded rs _ f.legals);
      count = n;
      coefficient = r;
      tolerance = t;
      long = l;
    }

-- what a book is, as facts
pub record IsBookFacts (ws : List ℕ) : Type 0 where
  pub long : 3 ≤ length ws
  pub kind_0 : kind_of (get_or ws 0 0) ≡ 6
  pub kind_1 : kind_of (get_or ws 1 0) ≡ 7
  pub kind_2 : kind_of (get_or ws 2 0) ≡ 8
  pub coefficient : coefficient_of ws ≤ 1000
  pub tolerance : tolerance_of ws ≤ 200000000
  pub room : count_of ws ≤ room_in (length ws)
  pub sound : entries_ok (count_of ws) (drop 3 ws) ≡ true
  pub count : length (entries ws) ≡ count_of ws
  pub legals : all legal (entries ws) ≡ true

pub book-facts : (ws : List ℕ) → is_book ws ≡ true → IsBookFacts ws
unfolding is_book entries
book-facts ws e =
    let h = every_holds (leb 3 (length ws) ∷ kind_at ws 0 6 ∷ kind_at ws 1 7 ∷ kind_at ws 2 8 ∷ leb (coefficient_of ws) 1000 ∷ leb (tolerance_of ws) 200000000 ∷ leb (count_of ws) (room_in (length ws)) ∷ entries_ok (count_of ws) (drop 3 ws) ∷ []) e in
    let s = h.1.1.1.1.1.1.1.0 in
    record {
      long = leb-true _ _ h.0;
      kind_0 = eqb-true _ _ h.1.0;
      kind_1 = eqb-true _ _ h.1.1.0;
      kind_2 = eqb-true _ _ h.1.1.1.0;
      coefficient = leb-true _ _ h.1.1.1.1.0;
      tolerance = leb-true _ _ h.1.1.1.1.1.0;
      room = leb-true _ _ h.1.1.1.1.1.1.0;
      sound = s;
      count = length-read (count_of ws) (drop 3 ws);
      legals = read-legal (count_of ws) (drop 3 ws) s;
    }

-- the entries of a book fit its own words
pub book-fits : (ws : List ℕ) → is_book ws ≡ true → Fits (coefficient_of ws) (tolerance_of ws) (entries ws) ws
book-fits ws e =
    let f = book-facts ws e in
    record { legals = f.legals; coefficient = f.coefficient; tolerance = f.tolerance; long = f.long; room = rw f.count f.room }

pub encode-read : (n : ℕ) (ws : List ℕ) → 5 * n ≤ length ws → entries_ok n ws ≡ true → ws ≡ encode_all (read_entries n ws) ++ drop (5 * n) ws
unfolding encode_all read_entries entries_ok
encode-read zero ws h e = refl
encode-read (suc n) ws h e =
    let s = and_split (entry_ok ws) (entries_ok n (drop 5 ws)) e in
    let m : 5 * suc n ≡ 5 + 5 * n = omega arith in
    let ih = encode-read n (drop 5 ws) (simp length-drop (omega arith)) s.1 in
    encode-decode ws (omega arith) s.0
    ∙ ap (λ l. encode (decode ws) ++ l) ih
    ∙ rw (m, ← drop-drop (5 * n) 5 ws, append_assoc)

pub first_three : (ws : List ℕ) → 3 ≤ length ws → ws ≡ get_or ws 0 0 ∷ get_or ws 1 0 ∷ get_or ws 2 0 ∷ drop 3 ws
first_three [] h = absurd (omega arith)
first_three (a ∷ []) h = absurd (omega arith)
first_three (a ∷ b ∷ []) h = absurd (omega arith)
first_three (a ∷ b ∷ c ∷ ws) h = refl

-- any book is laid over itself
pub book-laid : (ws : List ℕ) → is_book ws ≡ true → ws ≡ laid (coefficient_of ws) (tolerance_of ws) (entries ws) ws
unfolding laid used_words entries
book-laid ws e =
    let f = book-facts ws e in
    let n = count_of ws in
    let h = room-words n (length ws) f.long f.room in
    first_three ws f.long
    ∙ ap (λ l. get_or ws 0 0 ∷ get_or ws 1 0 ∷ get_or ws 2 0 ∷ l) (encode-read n (drop 3 ws) (simp length-drop (omega arith)) f.sound)
    ∙ sym (rw (length-read n (drop 3 ws), word_of 6 (get_or ws 0 0) f.kind_0, word_of 7 (get_or ws 1 0) f.kind_1, word_of 8 (get_or ws 2 0) f.kind_2, ← drop-drop (5 * n) 3 ws))

-- two lists have the same first n words
abbrev pub Agree : ℕ → List ℕ → List ℕ → Type 0
Agree n ws vs = (i : ℕ) → i < n → get_or ws i 0 ≡ get_or vs i 0

pub agree-take : (n : ℕ) (ws vs : List ℕ) → take n ws ≡ take n vs → Agree n ws vs
agree-take n ws vs e i h = sym (get_or-take n ws i 0 h) ∙ ap (λ l. get_or l i 0) e ∙ get_or-take n vs i 0 h

pub agree-drop : (k n : ℕ) (ws vs : List ℕ) → Agree (k + n) ws vs → Agree n (drop k ws) (drop k vs)
agree-drop k n ws vs a i h = rw (get_or-drop k ws i 0, get_or-drop k vs i 0) (a (k + i) (omega arith))

pub decode-agree : (ws vs : List ℕ) → Agree 5 ws vs → decode ws ≡ decode vs
unfolding decode
decode-agree ws vs a = rw (a 0 (omega arith), a 1 (omega arith), a 2 (omega arith), a 3 (omega arith), a 4 (omega arith))

pub entry_ok-agree : (ws vs : List ℕ) → Agree 5 ws vs → entry_ok ws ≡ entry_ok vs
unfolding entry_ok
entry_ok-agree ws vs a =
    rw (decode-agree ws vs a, a 0 (omega arith), a 1 (omega arith), a 2 (omega arith), a 3 (omega arith), a 4 (omega arith))

pub read-agree : (n : ℕ) (ws vs : List ℕ) → Agree (5 * n) ws vs → read_entries n ws ≡ read_entries n vs
unfolding read_entries
read-agree zero ws vs a = refl
read-agree (suc n) ws vs a =
    ap₂ ◌∷◌ (decode-agree ws vs (λ i h. a i (omega arith))) (read-agree n (drop 5 ws) (drop 5 vs) (agree-drop 5 (5 * n) ws vs (λ i h. a i (omega arith))))

pub entries_ok-agree : (n : ℕ) (ws vs : List ℕ) → Agree (5 * n) ws vs → entries_ok n ws ≡ entries_ok n vs
unfolding entries_ok
entries_ok-agree zero ws vs a = refl
entries_ok-agree (suc n) ws vs a =
    ap₂ ◌&&◌ (entry_ok-agree ws vs (λ i h. a i (omega arith))) (entries_ok-agree n (drop 5 ws) (drop 5 vs) (agree-drop 5 (5 * n) ws vs (λ i h. a i (omega arith))))

-- nothing depends on the words after the last entry
pub record SameBook (ws vs : List ℕ) : Type 0 where
  pub count : count_of ws ≡ count_of vs
  pub coefficient : coefficient_of ws ≡ coefficient_of vs
  pub tolerance : tolerance_of ws ≡ tolerance_of vs
  pub is-book : is_book ws ≡ is_book vs
  pub holds : entries ws ≡ entries vs

pub unread : (ws vs : List ℕ) → length ws ≡ length vs → take (3 + 5 * count_of ws) ws ≡ take (3 + 5 * count_of ws) vs → SameBook ws vs
unfolding is_book entries
unread ws vs l e =
    let n = count_of ws in
    let a = agree-take (3 + 5 * n) ws vs e in
    let a0 = a 0 (omega arith) in
    let a1 = a 1 (omega arith) in
    let a2 = a 2 (omega arith) in
    let past = agree-drop 3 (5 * n) ws vs a in
    let c : n ≡ count_of vs = ap value_of a0 in
    record {
      count = c;
      coefficient = ap value_of a1;
      tolerance = ap value_of a2;
      is-book = rw (entries_ok-agree n (drop 3 ws) (drop 3 vs) past, l, a0, a1, a2);
      holds = read-agree n (drop 3 ws) (drop 3 vs) past ∙ ap (λ k. read_entries k (drop 3 vs)) c;
    }
