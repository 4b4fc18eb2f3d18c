-- Calls on records, lifted to the words of a book: what is true of every such call, proved once for any machine. Assumes nothing.
use mathlib.Core.Path.{◌≡◌, refl, sym, ap, ap₂, ◌∙◌}
use mathlib.Core.Logic.{inl, inr, ◌≢◌}
use mathlib.Core.Bool.{Bool, true, false, true≢false, ◌&&◌}
use mathlib.Core.List.{List, [], ◌∷◌, ◌++◌, append_assoc}
use Prim.Native.Nat.{ℕ, zero, suc, ◌+◌, ◌*◌, ◌≤◌, min}
use native.Mathlib.Nat.{min-le_right}
use native.Mathlib.Omega.{arith}
use lib.Dec.{leb}
use lib.ListN.{length, take, drop, length-take, take-append-drop}
use lib.Seq.{get_or-take, drop-append-le}
use borrow.Author.Tests.{leb-true, leb-false, le-leb, lt-leb}
use Rattle.numbers.specs.Tests.{all, every}
use Rattle.numbers.specs.Causes.{unless}
use Rattle.numbers.proofs.TestLaws.{bool_cases, below-or-above}
use Rattle.numbers.proofs.CauseLaws.{unless-zero, else-split, done-else, done-zero}
use Rattle.rules.specs.Entry.{Record, legal}
use Rattle.rules.specs.Words.{Frame, frame_of, kind_at, is_book, entries, entries_ok, count_of, coefficient_of, tolerance_of, room_in, used_words, laid}
use Rattle.rules.specs.Machine.{Machine, leaves_of, figures_of}
use Rattle.rules.specs.Calls.{lifted}
use Rattle.rules.proofs.WordLaws.{Fits, room-words, book-facts, Agree, agree-drop, read-agree, entries_ok-agree}
use Rattle.rules.proofs.BookLaws.{Stays, laid-stays}

-- a refused call leaves the state as it was
pub refused-leaves : {S C F : Type 0} (m : Machine S C F) (s : S) (c : C) → m.cause s c ≢ 0 → leaves_of m s c ≡ s
unfolding leaves_of
refused-leaves m s c h = done-else _ _ _ h

pub done-leaves : {S C F : Type 0} (m : Machine S C F) (s : S) (c : C) → m.cause s c ≡ 0 → leaves_of m s c ≡ m.done s c
unfolding leaves_of
done-leaves m s c e = done-zero _ _ _ e

-- what calls see of a book's words beside the room: whether they are a book, R, TM and the records
pub record SameView (ws vs : List ℕ) : Type 0 where
  pub is-book : is_book ws ≡ is_book vs
  pub coefficient : is_book vs ≡ true → coefficient_of ws ≡ coefficient_of vs
  pub tolerance : is_book vs ≡ true → tolerance_of ws ≡ tolerance_of vs
  pub holds : is_book vs ≡ true → entries ws ≡ entries vs

-- words cut at any length with room for the entries have the same view
guarded : (p g h x y : Bool) → g ≡ h → (h ≡ true → x ≡ y) → p && g && x ≡ p && h && y
guarded true true true x y e h = h refl
guarded true true false x y e h = absurd (true≢false e)
guarded true false true x y e h = absurd (true≢false (sym e))
guarded true false false x y e h = refl
guarded false g k x y e h = refl

-- a cut has room for what the slice and the cut's length have room for, both
room-both : (k a b : ℕ) → k ≤ room_in a → k ≤ room_in b → k ≤ room_in (min a b)
room-both k a b h l =
    elim (below-or-above a b) [
      | inl p ↦ let e : min a b ≡ a = omega arith in rw e h
      | inr p ↦ let e : min a b ≡ b = omega arith in rw e l
    ]

room-grows : (a b : ℕ) → a ≤ b → room_in a ≤ room_in b
room-grows a b h = omega arith

-- and no more room than the slice: what fits the cut's length fits the cut and the slice alike
pub room-alike : (k a b : ℕ) → (k ≤ room_in b → k ≤ room_in a) → leb k (room_in (min a b)) ≡ leb k (room_in b)
room-alike k a b h =
    elim (bool_cases (leb k (room_in b))) [
      | inl e ↦ let l = leb-true k (room_in b) e in rw e (le-leb k (room_in (min a b)) (room-both k a b (h l) l))
      | inr e ↦ let g = room-grows (min a b) b (min-le_right a b) in rw e (lt-leb k (room_in (min a b)) (omega (arith, leb-false k (room_in b) e)))
    ]

pub cut-long : (m : ℕ) → 3 ≤ m → (ws : List ℕ) → leb 3 (length (take m ws)) ≡ leb 3 (length ws)
cut-long m head ws =
    elim (bool_cases (leb 3 (length ws))) [
      | inl e ↦ rw (e, length-take m ws) (le-leb 3 (min m (length ws)) (omega (arith, leb-true 3 (length ws) e)))
      | inr e ↦ rw (e, length-take m ws) (lt-leb 3 (min m (length ws)) (omega (arith, leb-false 3 (length ws) e)))
    ]

module _ (m : ℕ) (head : 3 ≤ m) (ws : List ℕ) (held : count_of ws ≤ room_in (length ws) → count_of ws ≤ room_in m) where
  cut-agree : Agree m (take m ws) ws
  cut-agree i h = get_or-take m ws i 0 h

  cut-room : leb (count_of ws) (room_in (length (take m ws))) ≡ leb (count_of ws) (room_in (length ws))
  cut-room = rw (length-take m ws) (room-alike (count_of ws) m (length ws) held)

  cut-past : count_of ws ≤ room_in (length ws) → Agree (5 * count_of ws) (drop 3 (take m ws)) (drop 3 ws)
  cut-past l =
      let k = held l in
      agree-drop 3 (5 * count_of ws) (take m ws) ws (λ i h. cut-agree i (omega arith))

  cut-is_book : is_book (take m ws) ≡ is_book ws
  unfolding is_book
  cut-is_book =
      rw (cut-long m head ws, cut-agree 0 (omega arith), cut-agree 1 (omega arith), cut-agree 2 (omega arith))
      (guarded
      (every (leb 3 (length ws) ∷ kind_at ws 0 6 ∷ kind_at ws 1 7 ∷ kind_at ws 2 8 ∷ leb (coefficient_of ws) 1000 ∷ leb (tolerance_of ws) 200000000 ∷ []))
      (leb (count_of ws) (room_in (length (take m ws))))
      (leb (count_of ws) (room_in (length ws)))
      (entries_ok (count_of ws) (drop 3 (take m ws)))
      (entries_ok (count_of ws) (drop 3 ws))
      cut-room
      (λ e. entries_ok-agree (count_of ws) (drop 3 (take m ws)) (drop 3 ws) (cut-past (leb-true (count_of ws) (room_in (length ws)) e))))

  pub cut-view : SameView (take m ws) ws
  unfolding entries
  cut-view =
      record {
        is-book = cut-is_book;
        coefficient = λ b. rw (cut-agree 1 (omega arith));
        tolerance = λ b. rw (cut-agree 2 (omega arith));
        holds = λ b. rw (cut-agree 0 (omega arith)) (read-agree (count_of ws) (drop 3 (take m ws)) (drop 3 ws) (cut-past (book-facts ws b).room));
      }

-- records laid over the words, before and after the cut
cut-laid : (m : ℕ) (ws : List ℕ) (R TM : ℕ) (rs : List Record) → 3 + 5 * length rs ≤ length (take m ws) → laid R TM rs ws ≡ laid R TM rs (take m ws) ++ drop m ws
unfolding laid
cut-laid m ws R TM rs l =
    let n = 3 + 5 * length rs in
    ap (λ x. used_words R TM rs ++ drop n x) (sym (take-append-drop m ws))
    ∙ rw (drop-append-le n (take m ws) (drop m ws) l, append_assoc)

-- the frame of these figures
abbrev pub framed : ℕ → ℕ → ℕ → Frame
framed R TM room = record { coefficient = R; tolerance = TM; room = room }

-- what a done call must keep: legal records within the room
pub record Keeps {C F : Type 0} (on : Frame → Machine (List Record) C F) : Type 0 where
  pub legals : (f : Frame) (rs : List Record) (c : C) → all legal rs ≡ true → (on f).cause rs c ≡ 0 → all legal ((on f).done rs c) ≡ true
  pub room : (f : Frame) (rs : List Record) (c : C) → length rs ≤ f.room → (on f).cause rs c ≡ 0 → length ((on f).done rs c) ≤ f.room

-- a call looks at the room only for whether the entries that it adds fit
pub record Roomy {C F : Type 0} (on : Frame → Machine (List Record) C F) (adds : C → ℕ) : Type 0 where
  pub cause : (R TM n m : ℕ) (rs : List Record) (c : C) → leb (length rs + adds c) n ≡ leb (length rs + adds c) m → (on (framed R TM n)).cause rs c ≡ (on (framed R TM m)).cause rs c
  pub figures : (R TM n m : ℕ) (rs : List Record) (c : C) → (on (framed R TM n)).figures rs c ≡ (on (framed R TM m)).figures rs c
  pub done : (R TM n m : ℕ) (rs : List Record) (c : C) → (on (framed R TM n)).done rs c ≡ (on (framed R TM m)).done rs c

module _ {C F : Type 0} (on : Frame → Machine (List Record) C F) where
  -- a call does the same on two frames
  pub record SameOn (f g : Frame) (rs : List Record) (c : C) : Type 0 where
    pub cause : (on f).cause rs c ≡ (on g).cause rs c
    pub figures : (on f).figures rs c ≡ (on g).figures rs c
    pub done : (on f).done rs c ≡ (on g).done rs c

  -- and on two slices of the same view
  pub record SameFor (c : C) (ws vs : List ℕ) : Type 0 where
    pub view : SameView ws vs
    pub same : is_book vs ≡ true → SameOn (frame_of ws) (frame_of vs) (entries vs) c

  -- the records of a done call on words
  abbrev pub left : List ℕ → C → List Record
  left ws c = (on (frame_of ws)).done (entries ws) c

  pub record Passes (ws : List ℕ) (c : C) : Type 0 where
    pub is-book : is_book ws ≡ true
    pub clear : (on (frame_of ws)).cause (entries ws) c ≡ 0

  pub passes : (ws : List ℕ) (c : C) → (lifted on).cause ws c ≡ 0 → Passes ws c
  passes ws c e =
      let s = else-split (unless (is_book ws) 1) ((on (frame_of ws)).cause (entries ws) c) e in
      record { is-book = unless-zero _ 0 s.0; clear = s.1 }

  -- only the view counts, and the room for what a call adds
  same-frame : {f g : Frame} → f ≡ g → (rs : List Record) (c : C) → SameOn f g rs c
  same-frame e rs c = record { cause = ap (λ f. (on f).cause rs c) e; figures = ap (λ f. (on f).figures rs c) e; done = ap (λ f. (on f).done rs c) e }

  framed-as : {ws vs : List ℕ} → SameView ws vs → is_book vs ≡ true → frame_of ws ≡ framed (coefficient_of vs) (tolerance_of vs) (room_in (length ws))
  framed-as s b = rw (s.coefficient b, s.tolerance b)

  pub with-room : {adds : C → ℕ} → Roomy on adds → {ws vs : List ℕ} → SameView ws vs → (c : C) → leb (count_of vs + adds c) (room_in (length ws)) ≡ leb (count_of vs + adds c) (room_in (length vs)) → SameFor c ws vs
  with-room {adds} r {ws} {vs} s c h = record { view = s; same = at }
    where
      at : is_book vs ≡ true → SameOn (frame_of ws) (frame_of vs) (entries vs) c
      at b =
          let R = coefficient_of vs in
          let TM = tolerance_of vs in
          let n = room_in (length ws) in
          let m = room_in (length vs) in
          let l : length (entries vs) ≡ count_of vs = (book-facts vs b).count in
          let o = same-frame (framed-as s b) (entries vs) c in
          record {
            cause = o.cause ∙ r.cause R TM n m (entries vs) c (rw l h);
            figures = o.figures ∙ r.figures R TM n m (entries vs) c;
            done = o.done ∙ r.done R TM n m (entries vs) c;
          }

  pub same-cause : {ws vs : List ℕ} {c : C} → SameFor c ws vs → (lifted on).cause ws c ≡ (lifted on).cause vs c
  same-cause {ws} {vs} {c} s =
      elim (bool_cases (is_book vs)) [
        | inl b ↦ rw (s.view.is-book, b) (ap (λ rs. (on (frame_of ws)).cause rs c) (s.view.holds b) ∙ (s.same b).cause)
        | inr b ↦ rw (s.view.is-book, b)
      ]

  pub same-figures : {ws vs : List ℕ} {c : C} → SameFor c ws vs → (none : F) → figures_of none (lifted on) ws c ≡ figures_of none (lifted on) vs c
  unfolding figures_of
  same-figures {ws} {vs} {c} s none = go ((lifted on).cause vs c) refl
    where
      go : (k : ℕ) → (lifted on).cause vs c ≡ k → figures_of none (lifted on) ws c ≡ figures_of none (lifted on) vs c
      go zero e =
          let b = (passes vs c e).is-book in
          rw (same-cause s, e) (ap (λ rs. (on (frame_of ws)).figures rs c) (s.view.holds b) ∙ (s.same b).figures)
      go (suc k) e = rw (same-cause s, e)

  module _ (keeps : Keeps on) where
    pub left-fits : (ws : List ℕ) (c : C) → (lifted on).cause ws c ≡ 0 → Fits (coefficient_of ws) (tolerance_of ws) (left ws c) ws
    left-fits ws c e =
        let p = passes ws c e in
        let f = book-facts ws p.is-book in
        record {
          legals = keeps.legals (frame_of ws) (entries ws) c f.legals p.clear;
          coefficient = f.coefficient;
          tolerance = f.tolerance;
          long = f.long;
          room = keeps.room (frame_of ws) (entries ws) c (rw f.count f.room) p.clear;
        }

    -- a done call leaves a book of its records, with R, TM, the length and the words past them
    pub lifted-stays : (ws : List ℕ) (c : C) → (lifted on).cause ws c ≡ 0 → Stays ws (leaves_of (lifted on) ws c) (left ws c) (length (left ws c))
    lifted-stays ws c e = laid-stays (left-fits ws c e) (done-leaves (lifted on) ws c e) refl

    -- a call on cut words leaves the same, and the words past the cut as they were
    pub cut-leaves : (m : ℕ) (ws : List ℕ) (c : C) → SameFor c (take m ws) ws → leaves_of (lifted on) ws c ≡ leaves_of (lifted on) (take m ws) c ++ drop m ws
    unfolding leaves_of
    cut-leaves m ws c s = go ((lifted on).cause ws c) refl
      where
        go : (k : ℕ) → (lifted on).cause ws c ≡ k → leaves_of (lifted on) ws c ≡ leaves_of (lifted on) (take m ws) c ++ drop m ws
        go zero e =
            let us = take m ws in
            let b = (passes ws c e).is-book in
            let f = left-fits us c (same-cause s ∙ e) in
            let l = room-words (length (left us c)) (length us) f.long f.room in
            let same : left us c ≡ left ws c = ap (λ rs. (on (frame_of us)).done rs c) (s.view.holds b) ∙ (s.same b).done in
            rw (same-cause s, e)
            (ap₂ (λ R TM. laid R TM (left ws c) ws) (sym (s.view.coefficient b)) (sym (s.view.tolerance b))
            ∙ ap (λ rs. laid (coefficient_of us) (tolerance_of us) rs ws) (sym same)
            ∙ cut-laid m ws (coefficient_of us) (tolerance_of us) (left us c) l)
        go (suc k) e = rw (same-cause s, e) (sym (take-append-drop m ws))
