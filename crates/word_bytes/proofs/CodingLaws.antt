-- Laws of reading a book's words and writing them back. Assumes nothing.
use mathlib.Core.Path.{◌≡◌, refl, sym, ◌∙◌, ap, ap₂}
use mathlib.Core.Logic.{inl, inr, ◌≢◌}
use mathlib.Core.Bool.{Bool, true, false}
use mathlib.Core.List.{List, [], ◌∷◌, ◌++◌, append_assoc, append-nil}
use Prim.Native.Nat.{ℕ, zero, suc, ◌+◌, ◌*◌, ◌/◌, ◌-◌, ◌≤◌, ◌<◌, min}
use native.Mathlib.Nat.{suc-ne-zero}
use native.Mathlib.Omega.{arith}
use lib.Dec.{leb}
use lib.ListN.{length, get_or, take, drop, length-append, length-drop, take-append-drop}
use lib.Seq.{take_all, take-length, take_at, length-take-le, drop-length, drop_at, drop-drop}
use mir.Val.{bool_byte}
use borrow.Author.Tests.{leb-true, leb-false, eqb-true}
use Rattle.rules.specs.Words.{book_words, used_with}
use Rattle.numbers.specs.Causes.{if_done}
use Rattle.numbers.proofs.TestLaws.{bool_cases}
use Rattle.rules.specs.DayFile.{words_of}
use Rattle.word_bytes.specs.Bytes.{bytes_of, is_whole, on_words, with_words, yes_no}
use Rattle.word_bytes.specs.Coding.{over_bytes, words_in, count_in, needed_for}
use Rattle.word_bytes.proofs.BytesLaws.{Bytes, length-words, bytes_back, bytes-append, bytes_past}

-- how many words are read
pub count-lent : (m : ℕ) (bs : List ℕ) → 4 * count_in m bs ≤ length bs
unfolding count_in
count-lent m bs = elim (bool_cases (is_whole bs)) [ inl e ↦ rw e (omega arith) | inr e ↦ rw e (omega arith) ]

pub count-odd : (m : ℕ) (bs : List ℕ) → is_whole bs ≡ false → 0 ≡ count_in m bs
unfolding count_in
count-odd m bs w = rw w

pub count-whole : (m : ℕ) {n : ℕ} (bs : List ℕ) → is_whole bs ≡ true → n ≡ min m (length bs / 4) → n ≡ count_in m bs
unfolding count_in
count-whole m bs w e = e ∙ rw w

-- less than a word has no entries
pub used-none : (k : ℕ) (bs : List ℕ) → length bs < 4 → min book_words (3 + 5 * (0 + k)) ≡ used_with k (words_of bs)
unfolding words_of
used-none k [] h = refl
used-none k (a ∷ []) h = refl
used-none k (a ∷ b ∷ []) h = refl
used-none k (a ∷ b ∷ c ∷ []) h = refl
used-none k (a ∷ b ∷ c ∷ d ∷ bs) h = absurd (omega arith)

-- and that arrays for the most entries have them
pub needed-most : (k : ℕ) (bs : List ℕ) → needed_for k bs ≤ book_words
unfolding count_in
needed-most k bs = elim (bool_cases (is_whole bs)) [ inl e ↦ rw e (omega arith) | inr e ↦ rw e (omega arith) ]

take-cut : (m : ℕ) (ws : List ℕ) → take (min m (length ws)) ws ≡ take m ws
take-cut m ws =
    elim (bool_cases (leb m (length ws))) [
      | inl h ↦ let e : min m (length ws) ≡ m = omega (arith, leb-true m (length ws) h) in rw e
      | inr h ↦
          let e : min m (length ws) ≡ length ws = omega (arith, leb-false m (length ws) h) in
          rw (e, take-length ws) (sym (take_all m ws (omega (arith, leb-false m (length ws) h))))
    ]

pub decoded : (m : ℕ) (bs : List ℕ) → take (count_in m bs) (words_of bs) ≡ words_in m bs
unfolding count_in words_in
decoded m bs =
    elim (bool_cases (is_whole bs)) [ inl e ↦ rw (e, ← length-words bs) (take-cut m (words_of bs)) | inr e ↦ rw e ]

-- the part of lent words that was read
pub part-read : (m : ℕ) (bs ws us : List ℕ) (n k : ℕ) → n ≡ count_in m bs → n ≡ k → length ws ≡ k → ws ≡ take k (words_of bs) → take n (ws ++ us) ≡ words_in m bs
part-read m bs ws us n k e h l v = take_at ws us n (l ∙ sym h) ∙ v ∙ ap (λ i. take i (words_of bs)) (sym h ∙ e) ∙ decoded m bs

-- the first n of some words
pub taken : (n : ℕ) (ws : List ℕ) → n ≤ length ws → n ≡ length (take n ws)
taken n ws h = sym (length-take-le n ws h)

-- the first n words again, after a call left vs of them
module _ (n : ℕ) (ws vs : List ℕ) (h : n ≤ length ws) (k : length vs ≡ length (take n ws)) where
  pub back_long : n ≤ length (vs ++ drop n ws)
  back_long = rw (length-append vs (drop n ws)) (omega (arith, taken n ws h))

-- the words that the code reads
words-whole : (m : ℕ) (bs : List ℕ) → is_whole bs ≡ true → words_in m bs ≡ take m (words_of bs)
unfolding words_in
words-whole m bs w = rw w

pub words-none : (m : ℕ) (bs : List ℕ) → is_whole bs ≡ false → words_in m bs ≡ []
unfolding words_in
words-none m bs w = rw w

-- on them a call answers as on the bytes: no words are no book
pub on-words : {A : Type 0} (m : ℕ) (bs : List ℕ) (f : List ℕ → A) (refused : A) → f [] ≡ refused → f (take m (words_of bs)) ≡ f (words_of bs) → f (words_in m bs) ≡ on_words bs f refused
unfolding on_words words_in
on-words m bs f refused e c = elim (bool_cases (is_whole bs)) [ inl w ↦ rw w c | inr w ↦ rw w e ]

-- a figure of such an answer
pub on-figure : {A B : Type 0} (bs : List ℕ) (g : A → B) (f : List ℕ → A) (refused : A) → g (on_words bs f refused) ≡ on_words bs (λ ws. g (f ws)) (g refused)
unfolding on_words
on-figure bs g f refused = elim (bool_cases (is_whole bs)) [ inl w ↦ rw w | inr w ↦ rw w ]

-- the words that the code reads have the bytes that it read
pub same_bytes : (m : ℕ) (bs : List ℕ) → Bytes bs → over_bytes (words_in m bs) bs ≡ bs
unfolding over_bytes
same_bytes m bs h =
    let l : count_in m bs ≤ length (words_of bs) = omega (arith, count-lent m bs, length-words bs) in
    rw (← decoded m bs, length-take-le (count_in m bs) (words_of bs) l) (bytes_back (count_in m bs) bs h (count-lent m bs))

-- a call that writes: its cause and the words that it leaves. A refused one leaves all, on no words none are left, and no words past the first m are seen
pub record Call (m : ℕ) (bs : List ℕ) : Type 0 where
  pub cause : List ℕ → ℕ
  pub leaves : List ℕ → List ℕ
  pub refused : (ws : List ℕ) → cause ws ≢ 0 → leaves ws ≡ ws
  pub none : leaves [] ≡ []
  pub uncut : leaves (words_of bs) ≡ leaves (take m (words_of bs)) ++ drop m (words_of bs)

over-cut : (m : ℕ) (bs : List ℕ) (f : Call m bs) → Bytes bs → is_whole bs ≡ true → length (f.leaves (take m (words_of bs))) ≡ length (take m (words_of bs)) → over_bytes (f.leaves (take m (words_of bs))) bs ≡ bytes_of (f.leaves (words_of bs))
unfolding over_bytes
over-cut m bs f b w l =
    let cut = take m (words_of bs) in
    ap (λ us. bytes_of (f.leaves cut) ++ us) (rw l (sym (bytes_past bs b (eqb-true _ _ w) m)))
    ∙ sym (bytes-append (f.leaves cut) (drop m (words_of bs)))
    ∙ ap bytes_of (sym f.uncut)

pub over_none : (bs : List ℕ) → over_bytes [] bs ≡ bs
unfolding over_bytes bytes_of
over_none bs = refl

with-words : (m : ℕ) (bs : List ℕ) (f : Call m bs) → Bytes bs → length (f.leaves (words_in m bs)) ≡ length (words_in m bs) → over_bytes (f.leaves (words_in m bs)) bs ≡ with_words bs f.leaves
unfolding with_words
with-words m bs f b l = go (is_whole bs) refl
  where
    go : (t : Bool) → is_whole bs ≡ t → over_bytes (f.leaves (words_in m bs)) bs ≡ with_words bs f.leaves
    go false w = rw (w, words-none m bs w, f.none) (over_none bs)
    go true w = rw (w, words-whole m bs w) (over-cut m bs f b w (rw (words-whole m bs w) at l))

written : (c : ℕ) (ws vs bs : List ℕ) → over_bytes ws bs ≡ bs → (c ≢ 0 → vs ≡ ws) → if_done c (over_bytes vs bs) bs ≡ over_bytes vs bs
written zero ws vs bs e h = refl
written (suc c) ws vs bs e h = sym (ap (λ us. over_bytes us bs) (h (suc-ne-zero c)) ∙ e)

-- no words are stored
pub over-empty : (ws bs : List ℕ) → length ws ≡ 0 → over_bytes ws bs ≡ bs
over-empty [] bs z = over_none bs
over-empty (w ∷ ws) bs z = absurd (omega arith)

-- the words read, of which the call leaves vs, written back where the answer is 0
pub written-bytes : {m : ℕ} {bs vs : List ℕ} {answer : ℕ} (f : Call m bs) → Bytes bs → length vs ≡ length (words_in m bs) → vs ≡ f.leaves (words_in m bs) → answer ≡ f.cause (words_in m bs) → if_done answer (over_bytes vs bs) bs ≡ with_words bs f.leaves
written-bytes {m} {bs} f bytes kept left answered =
    let ws = words_in m bs in
    rw (answered, left) (written (f.cause ws) ws (f.leaves ws) bs (same_bytes m bs bytes) (f.refused ws))
    ∙ with-words m bs f bytes (ap length (sym left) ∙ kept)

-- words stored in three parts, from the last to the first, are stored whole
stored-whole : (ws bs cs ds es : List ℕ) (end : ℕ) → 1 ≤ end → end ≤ length ws → 4 * length ws ≤ length bs →
    cs ≡ take (4 * end) bs ++ over_bytes (drop end ws) (drop (4 * end) bs) →
    ds ≡ take 4 cs ++ over_bytes (take (end - 1) (drop 1 ws)) (drop 4 cs) →
    es ≡ take 0 ds ++ bytes_of (get_or ws 0 0 ∷ []) ++ drop 4 ds →
    es ≡ over_bytes ws bs
unfolding over_bytes bytes_of
stored-whole [] bs cs ds es end one inside lent c d e = absurd (omega arith)
stored-whole (w ∷ vs) bs cs ds es zero one inside lent c d e = absurd (omega arith)
stored-whole (w ∷ vs) bs cs ds es (suc u) one inside lent c d e =
    let mid = take (suc u - 1) vs in
    let v : suc u - 1 ≡ u = omega arith in
    let past = over_bytes (drop u vs) (drop (4 * suc u) bs) in
    let before : length (take (4 * suc u) bs) ≡ 4 * suc u = length-take-le (4 * suc u) bs (omega arith) in
    let four : length (take 4 cs) ≡ 4 = length-take-le 4 cs (rw (c, length-append (take (4 * suc u) bs) past, before) (omega arith)) in
    let m : length mid ≡ u = rw v (length-take-le u vs (omega arith)) in
    let l : 4 + 4 * u ≡ 4 * suc u = omega arith in
    let p : drop (4 * length mid) (drop 4 cs) ≡ past =
    rw m (drop-drop (4 * u) 4 cs) ∙ ap (λ n. drop n cs) l ∙ ap (drop (4 * suc u)) c ∙ drop_at (take (4 * suc u) bs) past (4 * suc u) before in
    let q : drop 4 ds ≡ bytes_of mid ++ past = ap (drop 4) d ∙ drop_at (take 4 cs) _ 4 four ∙ ap (λ us. bytes_of mid ++ us) p in
    let whole : mid ++ drop u vs ≡ vs = rw v (take-append-drop u vs) in
    let joined : bytes_of mid ++ bytes_of (drop u vs) ≡ bytes_of vs = sym (bytes-append mid (drop u vs)) ∙ ap bytes_of whole in
    let end = drop (4 * suc (length vs)) bs in
    let n : 4 * suc u + 4 * length (drop u vs) ≡ 4 * suc (length vs) = rw (length-drop u vs) (omega arith) in
    let rest : drop (4 * length (drop u vs)) (drop (4 * suc u) bs) ≡ end = drop-drop (4 * length (drop u vs)) (4 * suc u) bs ∙ ap (λ i. drop i bs) n in
    let all : bytes_of mid ++ past ≡ bytes_of vs ++ end =
    ap (λ us. bytes_of mid ++ (bytes_of (drop u vs) ++ us)) rest ∙ sym (append_assoc (bytes_of mid) (bytes_of (drop u vs)) end) ∙ ap (λ us. us ++ end) joined in
    e ∙ ap (λ us. bytes_of (w ∷ []) ++ us) (q ∙ all)

-- a part that goes to the end of a list, lent and put back
abbrev rest_of : {A : Type 0} → ℕ → List A → List A
rest_of a xs = take (length xs - a) (drop a xs)

abbrev put_from : {A : Type 0} → ℕ → List A → List A → List A
put_from a xs ys = take a xs ++ (ys ++ drop (length xs - a) (drop a xs))

rest-is : {A : Type 0} (a : ℕ) (xs : List A) → rest_of a xs ≡ drop a xs
rest-is a xs = rw (← length-drop a xs) (take-length (drop a xs))

put_is : {A : Type 0} (a : ℕ) (xs ys : List A) → put_from a xs ys ≡ take a xs ++ ys
put_is a xs ys =
    ap (λ us. take a xs ++ (ys ++ us)) (rw (← length-drop a xs) (drop-length (drop a xs))) ∙ ap (λ us. take a xs ++ us) (append-nil ys)

-- so are they in the parts that the code lends
pub stored-parts : (ws bs hs ls : List ℕ) (end : ℕ) → 1 ≤ end → end ≤ length ws → 4 * length ws ≤ length bs →
    hs ≡ over_bytes (rest_of end ws) (rest_of (4 * end) bs) →
    ls ≡ over_bytes (take (end - 1) (drop 1 ws)) (rest_of 4 (put_from (4 * end) bs hs)) →
    bytes_of (get_or ws 0 0 ∷ []) ++ drop 4 (put_from 4 (put_from (4 * end) bs hs) ls) ≡ over_bytes ws bs
stored-parts ws bs hs ls end one inside lent h l =
    let cs = put_from (4 * end) bs hs in
    stored-whole ws bs cs (put_from 4 cs ls) _ end one inside lent
    (put_is (4 * end) bs hs ∙ ap (λ us. take (4 * end) bs ++ us) (h ∙ ap₂ over_bytes (rest-is end ws) (rest-is (4 * end) bs)))
    (put_is 4 cs ls ∙ ap (λ us. take 4 cs ++ us) (l ∙ ap (over_bytes (take (end - 1) (drop 1 ws))) (rest-is 4 cs)))
    refl

pub yes-byte : (b : Bool) → bool_byte b ≡ yes_no b
yes-byte true = refl
yes-byte false = refl
