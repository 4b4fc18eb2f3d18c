-- Laws of words and their bytes. Assumes nothing.
use mathlib.Core.Path.{◌≡◌, refl, sym, ◌∙◌, ap, ap₂}
use mathlib.Core.List.{List, [], ◌∷◌, ◌++◌, append_assoc, append-nil}
use Prim.Native.Nat.{ℕ, zero, suc, ◌+◌, ◌-◌, ◌*◌, ◌/◌, ◌%◌, ◌≤◌, ◌<◌}
use native.Mathlib.Nat.{div-add-mod', div-div-eq-div-mul}
use native.Mathlib.Numerals.{add-one}
use native.Mathlib.Omega.{arith}
use lib.ListN.{length, get_or, take, drop, set, take-append-drop}
use lib.Seq.{take_all, take-length, drop-length, drop_at, take-suc, take-suc-set, length-take-le, drop-append-add, drop-drop, take_at}
use Rattle.std.specs.Int.{w32, to_le_bytes}
use Rattle.rules.specs.DayFile.{words_of}
use Rattle.word_bytes.specs.Bytes.{bytes_of}
use Rattle.word_bytes.specs.Coding.{word_at}

-- each is a byte, each is a word
abbrev pub Bytes : List ℕ → Type 0
Bytes bs = (i : ℕ) → get_or bs i 0 < 256

abbrev pub Words : List ℕ → Type 0
Words ws = (i : ℕ) → get_or ws i 0 < 4294967296

-- bytes → word → bytes, and word → bytes → word
pub record SameBytes (a b c d w : ℕ) : Type 0 where
  pub first : w % 256 ≡ a
  pub second : w / 256 % 256 ≡ b
  pub third : w / 65536 % 256 ≡ c
  pub fourth : w / 16777216 ≡ d

pub bytes_of-word : (a b c d : ℕ) → a < 256 → b < 256 → c < 256 → d < 256 → SameBytes a b c d (a + b * 256 + c * 65536 + d * 16777216)
bytes_of-word a b c d ha hb hc hd =
    record { first = omega arith; second = omega arith; third = omega arith; fourth = omega arith }

pub word-of-bytes : (w : ℕ) → w % 256 + w / 256 % 256 * 256 + w / 65536 % 256 * 65536 + w / 16777216 * 16777216 ≡ w
word-of-bytes w =
    let p = div-add-mod' w 256 in
    let q = div-add-mod' (w / 256) 256 in
    let r = div-add-mod' (w / 65536) 256 in
    let s : w / 256 / 256 ≡ w / 65536 = div-div-eq-div-mul w 256 256 in
    let t : w / 65536 / 256 ≡ w / 16777216 = div-div-eq-div-mul w 65536 256 in
    omega arith

-- the library's bytes of a word of 32 bits
pub le-bytes : (w : ℕ) → w < 4294967296 → to_le_bytes w32 w ≡ bytes_of (w ∷ [])
unfolding bytes_of
le-bytes w h = let t : w / 16777216 % 256 ≡ w / 16777216 = omega arith in rw t

-- a part of bytes replaced by a word's
pub put-part : (at : ℕ) (bs ws : List ℕ) {cs : List ℕ} → cs ≡ ws → take at bs ++ (cs ++ drop (at + 4 - at) (drop at bs)) ≡ take at bs ++ ws ++ drop (at + 4) bs
put-part at bs ws e =
    let n : at + 4 - at ≡ 4 = omega arith in
    rw (n, drop-drop 4 at bs, e) (sym (append_assoc (take at bs) ws (drop (at + 4) bs)))

-- lengths
pub length-words : (bs : List ℕ) → length (words_of bs) ≡ length bs / 4
unfolding words_of
length-words [] = refl
length-words (a ∷ []) = refl
length-words (a ∷ b ∷ []) = refl
length-words (a ∷ b ∷ c ∷ []) = refl
length-words (a ∷ b ∷ c ∷ d ∷ bs) = omega (arith, length-words bs)

pub length-bytes : (ws : List ℕ) → length (bytes_of ws) ≡ 4 * length ws
unfolding bytes_of
length-bytes [] = refl
length-bytes (w ∷ ws) = omega (arith, length-bytes ws)

-- words → bytes → words, for any words of 32 bits
pub words_back : (ws bs : List ℕ) → words_of (bytes_of ws ++ bs) ≡ ws ++ words_of bs
unfolding words_of bytes_of
words_back [] bs = refl
words_back (w ∷ ws) bs = ap₂ ◌∷◌ (word-of-bytes w) (words_back ws bs)

-- bytes → words → bytes, for as many words as the bytes make
pub bytes_back : (n : ℕ) (bs : List ℕ) → Bytes bs → 4 * n ≤ length bs → bytes_of (take n (words_of bs)) ++ drop (4 * n) bs ≡ bs
unfolding words_of bytes_of
bytes_back zero bs h l = refl
bytes_back (suc n) [] h l = absurd (omega arith)
bytes_back (suc n) (a ∷ []) h l = absurd (omega arith)
bytes_back (suc n) (a ∷ b ∷ []) h l = absurd (omega arith)
bytes_back (suc n) (a ∷ b ∷ c ∷ []) h l = absurd (omega arith)
bytes_back (suc n) (a ∷ b ∷ c ∷ d ∷ bs) h l =
    let s = bytes_of-word a b c d (h 0) (h 1) (h 2) (h 3) in
    let m : 4 * suc n ≡ suc (suc (suc (suc (4 * n)))) = omega arith in
    rw (m, s.first, s.second, s.third, s.fourth, bytes_back n bs (λ i. h (suc (suc (suc (suc i))))) (omega arith))

pub bytes-append : (us ws : List ℕ) → bytes_of (us ++ ws) ≡ bytes_of us ++ bytes_of ws
unfolding bytes_of
bytes-append [] ws = refl
bytes-append (u ∷ us) ws = rw (bytes-append us ws)

-- of bytes that make whole words
module _ (bs : List ℕ) (b : Bytes bs) (w : length bs % 4 ≡ 0) where
  pub bytes_whole : bytes_of (words_of bs) ≡ bs
  bytes_whole =
      let n = length bs / 4 in
      let e : 4 * n ≡ length bs = omega arith in
      let t : take n (words_of bs) ≡ words_of bs = rw (← length-words bs) (take-length (words_of bs)) in
      sym (append-nil _) ∙ ap₂ (λ ws us. bytes_of ws ++ us) (sym t) (sym (rw e (drop-length bs))) ∙ bytes_back n bs b (omega arith)

  -- the bytes of the words past the first m
  pub bytes_past : (m : ℕ) → bytes_of (drop m (words_of bs)) ≡ drop (4 * length (take m (words_of bs))) bs
  bytes_past m =
      let ws = words_of bs in
      sym (drop_at (bytes_of (take m ws)) (bytes_of (drop m ws)) _ (length-bytes (take m ws)))
      ∙ ap (λ x. drop (4 * length (take m ws)) x) (sym (bytes-append (take m ws) (drop m ws)) ∙ ap bytes_of (take-append-drop m ws) ∙ bytes_whole)

-- word i of the bytes
pub word-at : (bs : List ℕ) (i : ℕ) → 4 * i + 4 ≤ length bs → get_or (words_of bs) i 0 ≡ word_at bs (4 * i)
unfolding words_of word_at
word-at [] i h = absurd (omega arith)
word-at (a ∷ []) i h = absurd (omega arith)
word-at (a ∷ b ∷ []) i h = absurd (omega arith)
word-at (a ∷ b ∷ c ∷ []) i h = absurd (omega arith)
word-at (a ∷ b ∷ c ∷ d ∷ bs) zero h = refl
word-at (a ∷ b ∷ c ∷ d ∷ bs) (suc i) h =
    let m : 4 * suc i ≡ suc (suc (suc (suc (4 * i)))) = omega arith in
    let p : suc (suc (suc (suc (4 * i)))) + 1 ≡ suc (suc (suc (suc (4 * i + 1)))) = omega arith in
    let q : suc (suc (suc (suc (4 * i)))) + 2 ≡ suc (suc (suc (suc (4 * i + 2)))) = omega arith in
    let r : suc (suc (suc (suc (4 * i)))) + 3 ≡ suc (suc (suc (suc (4 * i + 3)))) = omega arith in
    rw (m, p, q, r) (word-at bs i (omega arith))

-- one element more: a loop that fills a list with another's elements
pub fill_step : {A : Type 0} (d : A) (xs ys : List A) (i : ℕ) (x : A) → i < length xs → i < length ys → x ≡ get_or ys i d → take i xs ≡ take i ys → take (i + 1) (set xs i x) ≡ take (i + 1) ys
fill_step d xs ys i x h l v e = rw (add-one i, take-suc-set xs i x h, take-suc ys i d l, e, v)

pub filled : {A : Type 0} (xs ys : List A) (i n : ℕ) → i ≤ n → length xs ≡ n → length xs ≤ i → take i xs ≡ take i ys → xs ≡ take n ys
filled xs ys i n h l g e =
    let m : i ≡ n = omega arith in
    sym (take_all i xs g) ∙ e ∙ ap (λ k. take k ys) m

-- one word more: the loop that writes bytes
pub write_step : (bs ws : List ℕ) (i : ℕ) → i < length ws → (cs : List ℕ) → cs ≡ bytes_of (take i ws) ++ drop (4 * i) bs → take (4 * i) cs ++ bytes_of (get_or ws i 0 ∷ []) ++ drop (4 * i + 4) cs ≡ bytes_of (take (i + 1) ws) ++ drop (4 * (i + 1)) bs
write_step bs ws i h cs e =
    let l : length (bytes_of (take i ws)) ≡ 4 * i = length-bytes (take i ws) ∙ ap (λ n. 4 * n) (length-take-le i ws (omega arith)) in
    let m : 4 * (i + 1) ≡ 4 * i + 4 = omega arith in
    let past : drop (4 * i + 4) cs ≡ drop (4 * i + 4) bs = ap (λ x. drop (4 * i + 4) x) e ∙ rw (← l) (drop-append-add (bytes_of (take i ws)) _ 4) ∙ drop-drop 4 (4 * i) bs in
    rw (past, m, e, take_at (bytes_of (take i ws)) (drop (4 * i) bs) (4 * i) l, add-one i, take-suc ws i 0 h, bytes-append, append_assoc)

-- a word's bytes put over those of word i
put-set : (ws : List ℕ) (i w : ℕ) → i < length ws → take (4 * i) (bytes_of ws) ++ bytes_of (w ∷ []) ++ drop (4 * i + 4) (bytes_of ws) ≡ bytes_of (set ws i w)
unfolding bytes_of
put-set [] i w h = absurd (omega arith)
put-set (v ∷ ws) zero w h = refl
put-set (v ∷ ws) (suc i) w h =
    let m : 4 * suc i ≡ suc (suc (suc (suc (4 * i)))) = omega arith in
    let n : suc (suc (suc (suc (4 * i)))) + 4 ≡ suc (suc (suc (suc (4 * i + 4)))) = omega arith in
    rw (m, n, put-set ws i w (omega arith))

pub put_step : (ws : List ℕ) {bs cs : List ℕ} (i w : ℕ) → i < length ws → bs ≡ bytes_of ws → cs ≡ take (4 * i) bs ++ bytes_of (w ∷ []) ++ drop (4 * i + 4) bs → cs ≡ bytes_of (set ws i w)
put_step ws i w h b c = c ∙ rw b (put-set ws i w h)
