-- Laws of what a host writes: figures that fit their bits are read back as they were written. Assumes nothing.
use mathlib.Core.Path.{◌≡◌, refl, ◌∙◌}
use mathlib.Core.Bool.{Bool, true, false, cond}
use Rattle.std.proofs.Common.{Result, Ok, Err}
use mathlib.Core.List.{List, [], ◌∷◌}
use Prim.Native.Nat.{ℕ, suc, ◌+◌, ◌*◌, ◌/◌, ◌%◌, ◌≤◌, ◌<◌}
use native.Mathlib.Nat.{add-zero, div-div-eq-div-mul}
use native.Mathlib.Omega.{arith}
use lib.Dec.{leb, ltb}
use lib.ListN.{length, get_or, set, length-set}
use lib.Seq.{get_or-set_same, get_or-set_other}
use borrow.Author.Tests.{leb-true, ltb-true, lt-ltb}
use Rattle.numbers.specs.Causes.{unless}
use Rattle.numbers.proofs.TestLaws.{every_holds}
use Rattle.numbers.proofs.CauseLaws.{unless-zero, clear-all}
use Rattle.rules.specs.Entry.{key_of}
use Rattle.rules.specs.Words.{values, types, counterparties, status_unit, low_amounts, word, value_of, type_bits}
use Rattle.rules.specs.DayFile.{parties, high_amounts, line, lines_in, party_in, is_head, is_line, items_from}
use Rattle.rules.proofs.WordLaws.{word-kind, word_value}
use Rattle.rules.specs.declared.refusal.Refusal.{Refusal}
use Rattle.rules.specs.declared.refusal.Refusal.TheVariants.{BadFigure}
use Rattle.file_writer.specs.declared.HeadWords.{HeadWords}
use Rattle.file_writer.specs.declared.LineWords.{LineWords}
use Rattle.word_bytes.specs.Coding.{word_at}
use Rattle.file_writer.specs.Write.{block_lines, head_fits, head_words, line_fits, line_words, bytes_at, put_cause, put_words}

pub head_in : (p d n : ℕ) → head_fits p d n ≡ true → (p < parties) × (d < values) × (n < block_lines)
head_in p d n e =
    let h = every_holds (ltb p parties ∷ ltb d values ∷ ltb n block_lines ∷ []) e in
    (ltb-true p parties h.0, ltb-true d values h.1.0, ltb-true n block_lines h.1.1.0)

pub line-in : (t c a : ℕ) → line_fits t c a ≡ true → (t < types) × (c < counterparties) × (a < low_amounts * high_amounts)
line-in t c a e =
    let h = every_holds (ltb t types ∷ ltb c counterparties ∷ ltb a (low_amounts * high_amounts) ∷ []) e in
    (ltb-true t types h.0, ltb-true c counterparties h.1.0, ltb-true a (low_amounts * high_amounts) h.1.1.0)

-- what was made fits
of-done : {A : Type 0} (b : Bool) {x y : A} → ◌≡◌ {A = Result A Refusal} (cond b (Ok x) (Err BadFigure)) (Ok y) → (b ≡ true) × (x ≡ y)
of-done true e = (refl, cc)
of-done false e = absurd (cc)

-- what is written of figures that fit their bits, and that others are refused
module _ (p d n : ℕ) where
  pub head-refused : head_fits p d n ≡ false → ◌≡◌ {A = Result HeadWords Refusal} (Err BadFigure) (head_words p d n)
  unfolding head_words
  head-refused e = rw e

  pub head-written : head_fits p d n ≡ true → ◌≡◌ {A = Result HeadWords Refusal} (Ok (record { first = word 1 (p + n * parties); second = word 2 d })) (head_words p d n)
  unfolding head_words
  head-written e = rw e

module _ (t c a : ℕ) where
  pub line_refused : line_fits t c a ≡ false → ◌≡◌ {A = Result LineWords Refusal} (Err BadFigure) (line_words t c a)
  unfolding line_words
  line_refused e = rw e

  pub line-written : line_fits t c a ≡ true → ◌≡◌ {A = Result LineWords Refusal} (Ok (record { figures = word 3 (t + c * types); low = word 4 (a % low_amounts); high = word 5 (a / low_amounts) })) (line_words t c a)
  unfolding line_words
  line-written e = rw (e, add-zero (t + c * types))

-- a head that was written is a head, and its figures are read back
pub record HeadBack (p d n : ℕ) (w : HeadWords) : Type 0 where
  pub is-head : is_head w.first w.second ≡ true
  pub party : party_in w.first ≡ p
  pub lines : lines_in w.first ≡ n
  pub day : value_of w.second ≡ d

pub head-back : (p d n : ℕ) {w : HeadWords} → head_words p d n ≡ Ok w → HeadBack p d n w
unfolding head_words
head-back p d n e =
    let f = of-done (head_fits p d n) e in
    let h = head_in p d n f.0 in
    let k = word-kind 1 (p + n * parties) (omega arith) in
    let v = word_value 1 (p + n * parties) (omega arith) in
    rw (← f.1)
    (record {
      is-head = rw (k, word-kind 2 d (omega arith));
      party = rw v (omega arith);
      lines = rw v (omega arith);
      day = word_value 2 d (omega arith);
    })

-- a line that was written is a line, and is read back as the item it was
pub record LineBack (t c a : ℕ) (w : LineWords) : Type 0 where
  pub is-line : is_line w.figures w.low w.high ≡ true
  pub reads : (n p d : ℕ) (ws : List ℕ) → items_from (suc n) p d (w.figures ∷ w.low ∷ w.high ∷ ws) ≡ line (key_of p d t c) a ∷ items_from n p d ws

pub line-back : (t c a : ℕ) {w : LineWords} → line_words t c a ≡ Ok w → LineBack t c a w
unfolding line_words items_from
line-back t c a e =
    let f = of-done (line_fits t c a) e in
    let h = line-in t c a f.0 in
    let k = word-kind 3 (type_bits t c 0) (omega arith) in
    let v = word_value 3 (type_bits t c 0) (omega arith) in
    let type : type_bits t c 0 % types ≡ t = omega arith in
    let party : type_bits t c 0 / types ≡ c = omega arith in
    let top : a / low_amounts < high_amounts = omega arith in
    let amount : a % low_amounts + a / low_amounts * low_amounts ≡ a = omega arith in
    let low = word_value 4 (a % low_amounts) (omega arith) in
    let high = word_value 5 (a / low_amounts) (omega arith) in
    rw (← f.1)
    (record {
      is-line = rw (k, v, word-kind 4 (a % low_amounts) (omega arith), word-kind 5 (a / low_amounts) (omega arith), high, lt-ltb (type_bits t c 0) status_unit (omega arith), lt-ltb (a / low_amounts) high_amounts top);
      reads = λ n p d ws. rw (v, low, high, type, party, amount);
    })

-- a word that was written is read back
pub put_in : (lent at : ℕ) → put_cause lent at ≡ 0 → at + 4 ≤ lent
unfolding put_cause
put_in lent at e =
    leb-true (at + 4) lent (unless-zero (leb (at + 4) lent) 10 (clear-all (unless (leb (at + 4) lent) 11 ∷ []) e).0)

bytes-sum : (w : ℕ) → w % 256 + w / 256 % 256 * 256 + w / 65536 % 256 * 65536 + w / 16777216 * 16777216 ≡ w
bytes-sum w =
    rw (← div-div-eq-div-mul w 256 256, ← div-div-eq-div-mul w 256 65536, ← div-div-eq-div-mul (w / 256) 256 256)
    (sums w (w / 256) (w / 256 / 256) (w / 256 / 256 / 256) (omega arith) (omega arith) (omega arith))
  where
    sums : (w x y z : ℕ) → w ≡ w % 256 + x * 256 → x ≡ x % 256 + y * 256 → y ≡ y % 256 + z * 256 → w % 256 + x % 256 * 256 + y % 256 * 65536 + z * 16777216 ≡ w
    sums w x y z a b c = omega arith

-- the bytes of four stores
module _ (bs : List ℕ) (at a b c d : ℕ) (h : at + 4 ≤ length bs) where
  byte-0 : get_or (set (set (set (set bs at a) (at + 1) b) (at + 2) c) (at + 3) d) at 0 ≡ a
  byte-0 =
      get_or-set_other (set (set (set bs at a) (at + 1) b) (at + 2) c) (at + 3) at d 0 (λ e. omega arith)
      ∙ get_or-set_other (set (set bs at a) (at + 1) b) (at + 2) at c 0 (λ e. omega arith)
      ∙ get_or-set_other (set bs at a) (at + 1) at b 0 (λ e. omega arith)
      ∙ get_or-set_same bs at a 0 (omega arith)

  byte-1 : get_or (set (set (set (set bs at a) (at + 1) b) (at + 2) c) (at + 3) d) (at + 1) 0 ≡ b
  byte-1 =
      get_or-set_other (set (set (set bs at a) (at + 1) b) (at + 2) c) (at + 3) (at + 1) d 0 (λ e. omega arith)
      ∙ get_or-set_other (set (set bs at a) (at + 1) b) (at + 2) (at + 1) c 0 (λ e. omega arith)
      ∙ get_or-set_same (set bs at a) (at + 1) b 0 (simp length-set (omega arith))

  byte-2 : get_or (set (set (set (set bs at a) (at + 1) b) (at + 2) c) (at + 3) d) (at + 2) 0 ≡ c
  byte-2 =
      get_or-set_other (set (set (set bs at a) (at + 1) b) (at + 2) c) (at + 3) (at + 2) d 0 (λ e. omega arith)
      ∙ get_or-set_same (set (set bs at a) (at + 1) b) (at + 2) c 0 (simp length-set (omega arith))

  byte-3 : get_or (set (set (set (set bs at a) (at + 1) b) (at + 2) c) (at + 3) d) (at + 3) 0 ≡ d
  byte-3 = get_or-set_same (set (set (set bs at a) (at + 1) b) (at + 2) c) (at + 3) d 0 (simp length-set (omega arith))

  word-of-four : word_at (set (set (set (set bs at a) (at + 1) b) (at + 2) c) (at + 3) d) at ≡ a + b * 256 + c * 65536 + d * 16777216
  unfolding word_at
  word-of-four = rw (byte-0, byte-1, byte-2, byte-3)

pub word_back : (bs : List ℕ) (at w : ℕ) → put_cause (length bs) at ≡ 0 → word_at (put_words bs at w) at ≡ w
unfolding put_words bytes_at
word_back bs at w e =
    rw e (word-of-four bs at (w % 256) (w / 256 % 256) (w / 65536 % 256) (w / 16777216) (put_in (length bs) at e) ∙ bytes-sum w)
