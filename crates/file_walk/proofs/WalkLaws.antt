-- Laws of the walks of a file's bytes: what the words that a reader takes tell of its items and of its form. Assumes nothing.
use mathlib.Core.Path.{◌≡◌, refl, ap, ◌∙◌}
use mathlib.Core.Logic.{◌⊎◌, inl, inr}
use mathlib.Core.Bool.{Bool, true, false, cond, ◌&&◌}
use mathlib.Core.List.{List, [], ◌∷◌}
use Prim.Native.Nat.{ℕ, zero, suc, ◌+◌, ◌-◌, ◌*◌, ◌/◌, ◌%◌, ◌≤◌, ◌<◌, zero-le}
use native.Mathlib.Numerals.{add-one, add-two, add-three, add-four}
use native.Mathlib.Omega.{arith}
use lib.ListN.{length, get_or, drop, length-drop}
use lib.Seq.{drop-cons}
use denote.Ref.{Bor}
use Rattle.std.proofs.Common.{Option, Some, None}
use Rattle.numbers.proofs.TestLaws.{below-or-above}
use Rattle.rules.specs.Entry.{key_of}
use Rattle.rules.specs.Words.{types, low_amounts, value_of}
use Rattle.rules.specs.DayFile.{line, head_item, lines_in, party_in, is_head, is_line, is_shaped, items_from, words_of}
use Rattle.word_bytes.specs.Coding.{word_at}
use Rattle.file_walk.specs.declared.reader.Reader.{Reader}
use Rattle.file_walk.specs.declared.walk.Form.{Form}
use Rattle.file_walk.specs.declared.walk.Form.TheVariants.{Open, Ended, Broken}
use Rattle.file_walk.specs.declared.walk.Pass.{Pass}
use Rattle.file_walk.specs.Read.{words_by}
use Rattle.file_walk.specs.Walk.{head_past, line_past, passed_on}
use Rattle.file_walk.proofs.ReadLaws.{found_word, found_none}

-- the words of bytes, one at a time
four : (bs : List ℕ) (at : ℕ) → at + 4 ≤ length bs → drop at bs ≡ get_or bs at 0 ∷ get_or bs (at + 1) 0 ∷ get_or bs (at + 2) 0 ∷ get_or bs (at + 3) 0 ∷ drop (at + 4) bs
four bs at h =
    rw (add-one at, add-two at, add-three at, add-four at, drop-cons bs at 0 (omega arith), drop-cons bs (suc at) 0 (omega arith), drop-cons bs (suc (suc at)) 0 (omega arith), drop-cons bs (suc (suc (suc at))) 0 (omega arith))

words-cons : (bs : List ℕ) (at : ℕ) → at + 4 ≤ length bs → words_of (drop at bs) ≡ word_at bs at ∷ words_of (drop (at + 4) bs)
unfolding words_of word_at
words-cons bs at h = rw (four bs at h)

-- fewer bytes than a word's make no word
no_word : (bs : List ℕ) → length bs < 4 → words_of bs ≡ []
unfolding words_of
no_word [] h = refl
no_word (a ∷ []) h = refl
no_word (a ∷ b ∷ []) h = refl
no_word (a ∷ b ∷ c ∷ []) h = refl
no_word (a ∷ b ∷ c ∷ d ∷ bs) h = absurd (omega arith)

-- words that were taken, and then others: none comes after one that was not whole
abbrev pub seen : List (Option ℕ) → List ℕ → List ℕ
seen [] ws = ws
seen (None ∷ os) ws = []
seen (Some w ∷ os) ws = w ∷ seen os ws

-- the words from a reader on, and from where it then comes to
abbrev pub words_left : Reader → List ℕ
words_left r = words_of (drop r.at r.bytes.now)

pub words-seen : (n : ℕ) (r : Reader) → words_left r ≡ seen (words_by n r).1 (words_left (words_by n r).0)
words-seen zero r = refl
words-seen (suc n) r =
    elim (below-or-above (length r.bytes.now) (r.at + 4)) [
      | inl l ↦ rw (found_none r.bytes.now r.at l) (no_word (drop r.at r.bytes.now) (rw (length-drop r.at r.bytes.now) (omega arith)))
      | inr h ↦
          rw (found_word r.bytes.now r.at h)
          (words-cons r.bytes.now r.at h ∙ ap (λ ws. word_at r.bytes.now r.at ∷ ws) (words-seen n (record { bytes = r.bytes; at = r.at + 4 })))
    ]

-- what the two words of a head hold
module _ (r : Reader) {t : Reader × List (Option ℕ)} (e : t ≡ words_by 2 r) (p d : ℕ) where
  pub head-held : {w x : ℕ} → get_or t.1 0 None ≡ Some w → get_or t.1 1 None ≡ Some x → items_from 0 p d (words_left r) ≡ head_item (lines_in w) (party_in w) (value_of x) (items_from (lines_in w) (party_in w) (value_of x) (words_left t.0))
  unfolding items_from
  head-held a b = rw (words-seen 2 r, e) (go _ _ (words_left (words_by 2 r).0) (rw e at a) (rw e at b))
    where
      go : (f g : Option ℕ) (ws : List ℕ) {w x : ℕ} → f ≡ Some w → g ≡ Some x → items_from 0 p d (seen (f ∷ g ∷ []) ws) ≡ head_item (lines_in w) (party_in w) (value_of x) (items_from (lines_in w) (party_in w) (value_of x) ws)
      go f g ws a b = rw (a, b)

  no-head : (f g : Option ℕ) (ws : List ℕ) → (f ≡ None) ⊎ (g ≡ None) → items_from 0 p d (seen (f ∷ g ∷ []) ws) ≡ []
  unfolding items_from
  no-head None g ws h = refl
  no-head (Some w) None ws h = refl
  no-head (Some w) (Some x) ws (inl a) = (cc)
  no-head (Some w) (Some x) ws (inr b) = (cc)

  pub head-cut : (get_or t.1 0 None ≡ None) ⊎ (get_or t.1 1 None ≡ None) → items_from 0 p d (words_left r) ≡ []
  head-cut h = rw (words-seen 2 r) (no-head _ _ (words_left (words_by 2 r).0) (rw e at h))

-- what the three words of a line hold
module _ (r : Reader) {t : Reader × List (Option ℕ)} (e : t ≡ words_by 3 r) (p d : ℕ) where
  pub line-held : (n : ℕ) {w x y : ℕ} → 0 < n → get_or t.1 0 None ≡ Some w → get_or t.1 1 None ≡ Some x → get_or t.1 2 None ≡ Some y →
      items_from n p d (words_left r) ≡ line (key_of p d (value_of w % types) (value_of w / types)) (value_of x + value_of y * low_amounts) ∷ items_from (n - 1) p d (words_left t.0)
  unfolding items_from
  line-held zero h a b c = absurd (omega arith)
  line-held (suc n) h a b c = let k : suc n - 1 ≡ n = omega arith in rw (words-seen 3 r, e, k) (go _ _ _ (words_left (words_by 3 r).0) (rw e at a) (rw e at b) (rw e at c))
    where
      go : (f g k : Option ℕ) (ws : List ℕ) {w x y : ℕ} → f ≡ Some w → g ≡ Some x → k ≡ Some y →
          items_from (suc n) p d (seen (f ∷ g ∷ k ∷ []) ws) ≡ line (key_of p d (value_of w % types) (value_of w / types)) (value_of x + value_of y * low_amounts) ∷ items_from n p d ws
      go f g k ws a b c = rw (a, b, c)

  no-line : (n : ℕ) (f g k : Option ℕ) (ws : List ℕ) → (f ≡ None) ⊎ ((g ≡ None) ⊎ (k ≡ None)) → items_from (suc n) p d (seen (f ∷ g ∷ k ∷ []) ws) ≡ []
  unfolding items_from
  no-line n None g k ws h = refl
  no-line n (Some w) None k ws h = refl
  no-line n (Some w) (Some x) None ws h = refl
  no-line n (Some w) (Some x) (Some y) ws (inl a) = (cc)
  no-line n (Some w) (Some x) (Some y) ws (inr (inl b)) = (cc)
  no-line n (Some w) (Some x) (Some y) ws (inr (inr c)) = (cc)

  pub line-cut : (n : ℕ) → 0 < n → (get_or t.1 0 None ≡ None) ⊎ ((get_or t.1 1 None ≡ None) ⊎ (get_or t.1 2 None ≡ None)) → items_from n p d (words_left r) ≡ []
  line-cut zero z h = absurd (omega arith)
  line-cut (suc n) z h = rw (words-seen 3 r) (no-line n _ _ _ (words_left (words_by 3 r).0) (rw e at h))

-- what is left of a file decides by its form so far
abbrev pub shape : Form → List ℕ → Bool
shape (Open n) ws = is_shaped n ws
shape Ended ws = true
shape Broken ws = false

head-shape : (f g : Option ℕ) (ws : List ℕ) → shape (head_past (f ∷ g ∷ [])) ws ≡ is_shaped 0 (seen (f ∷ g ∷ []) ws)
unfolding is_shaped
head-shape None g ws = refl
head-shape (Some w) None ws = refl
head-shape (Some w) (Some x) ws = go (is_head w x)
  where
    go : (b : Bool) → shape (cond b (Open (lines_in w)) Broken) ws ≡ b && is_shaped (lines_in w) ws
    go true = refl
    go false = refl

line-shape : (n : ℕ) (f g k : Option ℕ) (ws : List ℕ) → shape (line_past (suc n) (f ∷ g ∷ k ∷ [])) ws ≡ is_shaped (suc n) (seen (f ∷ g ∷ k ∷ []) ws)
unfolding is_shaped
line-shape n None g k ws = refl
line-shape n (Some w) None k ws = refl
line-shape n (Some w) (Some x) None ws = refl
line-shape n (Some w) (Some x) (Some y) ws = let k : suc n - 1 ≡ n = omega arith in rw k (go (is_line w x y))
  where
    go : (b : Bool) → shape (cond b (Open n) Broken) ws ≡ b && is_shaped n ws
    go true = refl
    go false = refl

-- one head or line more tells the same
pub pass-shape : (r : Reader) (left : ℕ) → shape (passed_on r left).form (words_left (passed_on r left).reader) ≡ is_shaped left (words_left r)
pass-shape r zero = rw (words-seen 2 r) (head-shape _ _ (words_left (words_by 2 r).0))
pass-shape r (suc n) = rw (words-seen 3 r) (line-shape n _ _ _ (words_left (words_by 3 r).0))

-- a reader stays within its bytes, also where it finds no word
within-by : (n : ℕ) (r : Reader) → r.at ≤ length r.bytes.now → (words_by n r).0.at ≤ length r.bytes.now
within-by zero r h = h
within-by (suc n) r h =
    elim (below-or-above (length r.bytes.now) (r.at + 4)) [
      | inl l ↦ rw (found_none r.bytes.now r.at l) (within-by n r h)
      | inr m ↦ rw (found_word r.bytes.now r.at m) (within-by n (record { bytes = r.bytes; at = r.at + 4 }) m)
    ]

within-on : (r : Reader) (left : ℕ) → r.at ≤ length r.bytes.now → (passed_on r left).reader.at ≤ length r.bytes.now
within-on r zero h = within-by 2 r h
within-on r (suc n) h = within-by 3 r h

-- where the form goes on, all words were whole, and the reader has come further within its bytes
pub further : (r : Reader) (left : ℕ) {k : ℕ} → (passed_on r left).form ≡ Open k → (r.at < (passed_on r left).reader.at) × ((passed_on r left).reader.at ≤ length r.bytes.now)
further r zero e =
    elim (below-or-above (length r.bytes.now) (r.at + 4)) [
      | inl l ↦ absurd (let x = rw (found_none r.bytes.now r.at l) at e in cc)
      | inr m ↦
          elim (below-or-above (length r.bytes.now) (r.at + 4 + 4)) [
            | inl l ↦ absurd (let x = rw (found_word r.bytes.now r.at m, found_none r.bytes.now (r.at + 4) l) at e in cc)
            | inr o ↦ rw (found_word r.bytes.now r.at m, found_word r.bytes.now (r.at + 4) o) (omega arith, o)
          ]
    ]
further r (suc n) e =
    elim (below-or-above (length r.bytes.now) (r.at + 4)) [
      | inl l ↦ absurd (let x = rw (found_none r.bytes.now r.at l) at e in cc)
      | inr m ↦
          elim (below-or-above (length r.bytes.now) (r.at + 4 + 4)) [
            | inl l ↦ absurd (let x = rw (found_word r.bytes.now r.at m, found_none r.bytes.now (r.at + 4) l) at e in cc)
            | inr o ↦
                elim (below-or-above (length r.bytes.now) (r.at + 4 + 4 + 4)) [
                  | inl l ↦ absurd (let x = rw (found_word r.bytes.now r.at m, found_word r.bytes.now (r.at + 4) o, found_none r.bytes.now (r.at + 4 + 4) l) at e in cc)
                  | inr q ↦ rw (found_word r.bytes.now r.at m, found_word r.bytes.now (r.at + 4) o, found_word r.bytes.now (r.at + 4 + 4) q) (omega arith, q)
                ]
          ]
    ]

-- a reader keeps its bytes
same-bytes : (r : Reader) (left : ℕ) → (passed_on r left).reader.bytes ≡ r.bytes
same-bytes r zero = refl
same-bytes r (suc n) = refl

-- a pass over the bytes bs, in a walk of the whole file: it is within them, and what is left decides
pub record Along (bs : List ℕ) (p : Pass) : Type 0 where
  pub bytes : p.reader.bytes.now ≡ bs
  pub within : p.reader.at ≤ length bs
  pub same : shape p.form (words_left p.reader) ≡ is_shaped 0 (words_of bs)

-- where a pass begins
pub along-start : (bs : List ℕ) (r : Reader) → r.bytes.now ≡ bs → r.at ≡ 0 → Along bs (record { reader = r; form = Open 0 })
along-start bs r b z = record { bytes = b; within = rw z zero-le; same = rw (z, b) }

-- where it ends
abbrev pub has_ended : Form → Bool
has_ended (Open n) = false
has_ended Ended = true
has_ended Broken = false

pub along-end : {bs : List ℕ} {p : Pass} → Along bs p → ((n : ℕ) → p.form ≡ Open n → ⊥) → has_ended p.form ≡ is_shaped 0 (words_of bs)
along-end {bs} {p} a off = go p.form off a.same
  where
    go : (f : Form) → ((n : ℕ) → f ≡ Open n → ⊥) → shape f (words_left p.reader) ≡ is_shaped 0 (words_of bs) → has_ended f ≡ is_shaped 0 (words_of bs)
    go (Open n) off e = absurd (off n refl)
    go Ended off e = e
    go Broken off e = e

-- how much of it is left to read
abbrev pub unread : Form → ℕ → ℕ
unread (Open n) k = suc k
unread Ended k = 0
unread Broken k = 0

abbrev pub to_come : Pass → ℕ
to_come p = unread p.form (length p.reader.bytes.now - p.reader.at)

-- what a pass keeps, and that less is left to read, also where nothing is known of its place
module _ (p : Pass) {left : ℕ} (on : p.form ≡ Open left) {next : Pass} (e : next ≡ passed_on p.reader left) where
  pub bytes-on : {bs : List ℕ} → p.reader.bytes.now ≡ bs → next.reader.bytes.now ≡ bs
  bytes-on h = rw e (ap (λ (b : Bor (List ℕ)). b.now) (same-bytes p.reader left) ∙ h)

  pub same-on : {whole : Bool} → shape p.form (words_left p.reader) ≡ whole → shape next.form (words_left next.reader) ≡ whole
  same-on h = rw e (pass-shape p.reader left ∙ (rw on at h))

  pub less-on : to_come next < to_come p
  less-on = rw (e, on) (go (passed_on p.reader left).form (λ k. further p.reader left))
    where
      go : (f : Form) → ((k : ℕ) → f ≡ Open k → (p.reader.at < (passed_on p.reader left).reader.at) × ((passed_on p.reader left).reader.at ≤ length p.reader.bytes.now)) → unread f (length (passed_on p.reader left).reader.bytes.now - (passed_on p.reader left).reader.at) < suc (length p.reader.bytes.now - p.reader.at)
      go (Open k) h = rw (same-bytes p.reader left) (omega (arith, h k refl))
      go Ended h = omega arith
      go Broken h = omega arith

-- the pass after it is along the bytes too
module _ {bs : List ℕ} {p : Pass} (a : Along bs p) {left : ℕ} (on : p.form ≡ Open left) {next : Pass} (e : next ≡ passed_on p.reader left) where
  pub along-on : Along bs next
  along-on =
      record {
        bytes = bytes-on p on e a.bytes;
        within = rw (e, ← a.bytes) (within-on p.reader left (rw a.bytes a.within));
        same = same-on p on e a.same;
      }
