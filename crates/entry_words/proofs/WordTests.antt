-- The tests of an entry's five words as code makes them, whole words against limits, are those of a legal entry. Assumes nothing.
use mathlib.Core.Path.{◌≡◌, refl, sym, ap, ◌∙◌}
use mathlib.Core.Logic.{◌⊎◌, inl, inr}
use mathlib.Core.Bool.{Bool, true, false, not, ◌&&◌, ◌||◌, true≢false}
use mathlib.Core.List.{List, [], ◌∷◌}
use Prim.Native.Nat.{ℕ, ◌+◌, ◌*◌, ◌/◌, ◌%◌, ◌≤◌, ◌<◌}
use native.Mathlib.Omega.{arith}
use lib.Dec.{eqb, leb, ltb}
use borrow.Author.Tests.{le-leb, leb-true, lt-leb, lt-ltb, ltb-true, le-ltb, ltb-false, eq-eqb, ne_eqb, eqb-true, eqb-false, not-true}
use Rattle.numbers.specs.Tests.{every}
use Rattle.numbers.specs.Causes.{unless, first_of}
use Rattle.numbers.proofs.TestLaws.{Holds, bool_cases, below-or-above, and_split, and-join, or_cases, or_left, or_right, every_holds, holds-every}
use Rattle.rules.specs.Entry.{Label, Record, key_of, record_of, key, last_party, last_day, most_volume, most_money, within, bilateral, mark_type, is_money, is_type, is_bilateral, cancelled, party_ok, day_ok, counterparty_ok, amount_limit, status_ok, fault, is_mark, mark_ok, is_standing, legal}
use Rattle.rules.specs.Words.{types, counterparties, status_unit, low_amounts, word, kind_of, value_of, type_bits, decode, encode, entry_ok}
use Rattle.rules.proofs.WordLaws.{IsEntry, within-true, type-range, no-fault, bits_back, word_of, encode-ok, entry-facts}
use Rattle.rules.proofs.BookLaws.{mark-legal}
use Rattle.entry_words.specs.Parts.{word_values, who_limit, amount_words, amount_words_ok, mark_word_tests, mark_words_ok}

same_test : (a b : Bool) → (a ≡ true → b ≡ true) → (b ≡ true → a ≡ true) → a ≡ b
same_test true b f g = sym (f refl)
same_test false true f g = g refl
same_test false false f g = refl

-- two numbers differ; a number is not between two others
differ : (a b : ℕ) → not (eqb a b) ≡ true → a ≡ b → ⊥
differ a b e = eqb-false a b (not-true (eqb a b) e)

differs : (a b : ℕ) → (a ≡ b → ⊥) → not (eqb a b) ≡ true
differs a b h = rw (ne_eqb a b h)

outside : (x y f : ℕ) → not (ltb x f && ltb f y) ≡ true → (f ≤ x) ⊎ (y ≤ f)
outside x y f e =
    elim (below-or-above x f) [
      | inl h ↦ inr (ltb-false f y (not-true (ltb f y) (rw (lt-ltb x f h) at e)))
      | inr h ↦ inl h
    ]

lies-outside : (x y f : ℕ) → (f ≤ x) ⊎ (y ≤ f) → not (ltb x f && ltb f y) ≡ true
lies-outside x y f (inl h) = rw (le-ltb x f h)
lies-outside x y f (inr h) = elim (bool_cases (ltb x f)) [ inl e ↦ rw (e, le-ltb f y h) | inr e ↦ rw e ]

-- the two words l and h of an amount, as one number against that of the largest amount m
module _ (m l h : ℕ) where
  abbrev whole_tests : List Bool
  whole_tests =
      leb (word 4 0) l ∷ ltb l (word 5 0) ∷ leb (word 5 0) h ∷ leb (l + h * word_values) (amount_words m) ∷ []

  abbrev amount_tests : List Bool
  amount_tests = eqb (kind_of l) 4 ∷ eqb (kind_of h) 5 ∷ leb (value_of l + value_of h * low_amounts) m ∷ []

  pub amount-words : m ≤ most_money → every whole_tests ≡ every amount_tests
  amount-words b = same_test (every whole_tests) (every amount_tests) forth back
    where
      forth : every whole_tests ≡ true → every amount_tests ≡ true
      forth e =
          let s = every_holds whole_tests e in
          holds-every amount_tests
          (eq-eqb (kind_of l) 4 (omega (arith, leb-true, ltb-true)), (eq-eqb (kind_of h) 5 (omega (arith, leb-true, ltb-true)), (le-leb (value_of l + value_of h * low_amounts) m (omega (arith, leb-true, ltb-true)), tt)))

      back : every amount_tests ≡ true → every whole_tests ≡ true
      back e =
          let s = every_holds amount_tests e in
          holds-every whole_tests
          (le-leb (word 4 0) l (omega (arith, leb-true, eqb-true)), (lt-ltb l (word 5 0) (omega (arith, leb-true, eqb-true)), (le-leb (word 5 0) h (omega (arith, leb-true, eqb-true)), (le-leb (l + h * word_values) (amount_words m) (omega (arith, leb-true, eqb-true)), tt))))

-- what a mark is, test by test: one has no party
abbrev mark_tests : Record → List Bool
mark_tests r =
    is_mark r
    ∷ day_ok (key r).day
    ∷ eqb (key r).party 0
    ∷ eqb (key r).counterparty 0
    ∷ eqb r.amount 0
    ∷ is_standing r
    ∷ []

mark-holds : (r : Record) → mark_ok r ≡ true → Holds (mark_tests r)
unfolding mark_ok
mark-holds r e = every_holds (mark_tests r) e

mark-has-no_party : (r : Record) → 1 ≤ (key r).party → mark_ok r ≡ false
mark-has-no_party r h =
    elim (bool_cases (mark_ok r)) [
      | inl e ↦ (let z = eqb-true (key r).party 0 (mark-holds r e).1.1.0 in absurd (omega arith))
      | inr e ↦ e
    ]

-- checks 5 and 6 of a post and the status, then the two kinds and the amount: together those of a legal entry
and-false : (k j : Bool) → false ≡ k && j && false
and-false true true = refl
and-false true false = refl
and-false false j = refl

together : (t c s k j a : Bool) → every (t ∷ c ∷ s ∷ []) && every (k ∷ j ∷ a ∷ []) ≡ k && j && ((eqb (first_of (unless t 5 ∷ unless c 6 ∷ unless a 7 ∷ [])) 0 && s) || false)
together true true true k j true = refl
together true true true k j false = refl
together true true false k j true = and-false k j
together true true false k j false = and-false k j
together true false s k j a = and-false k j
together false c s k j a = and-false k j

guarded : (w : Bool) {m n : Bool} → (w ≡ true → m ≡ n) → w && m ≡ w && n
guarded true h = h refl
guarded false h = refl

type-in : (t : ℕ) → 1 ≤ t → t ≤ 22 → (t ≡ 21 → ⊥) → is_type t ≡ true
type-in t a b n =
    elim (below-or-above t 17) [
      | inl h ↦ rw (le-leb 1 t a, le-leb t 16 (omega arith))
      | inr h ↦ elim (below-or-above t 21) [
        | inl u ↦ rw (le-leb 1 t a, lt-leb t 16 (omega arith), ne_eqb t 22 (λ q. omega arith), le-leb 17 t h, le-leb t 20 (omega arith))
        | inr u ↦ rw (le-leb 1 t a, lt-leb t 16 (omega arith), eq-eqb t 22 (omega arith))
      ]
    ]

no-money : (t : ℕ) → (17 ≤ t → t ≤ 20 → ⊥) → amount_limit t ≡ most_volume
unfolding amount_limit
no-money t h =
    elim (bool_cases (is_money t)) [
      | inl e ↦ (let s = within-true 17 20 t e in absurd (h s.0 s.1))
      | inr e ↦ rw e
    ]

-- what code tests of type and counterparty as one number w, for a party p and a type t
abbrev pub who_tests : ℕ → ℕ → ℕ → List Bool
who_tests p t w = leb 1 w ∷ leb w (who_limit t) ∷ not (eqb w mark_type) ∷ not (eqb w (bilateral + p * types)) ∷ []

-- the value of a kind 3 word isn't that of a cancelled entry with a type and no counterparty
abbrev Outside : ℕ → Type 0
Outside v = (v ≤ type_bits 0 0 cancelled) ⊎ (type_bits 0 1 cancelled ≤ v)

module _ (r : Record) (typed : (key r).type < types) (partied : 1 ≤ (key r).party) (bounded : r.label.status ≤ 2) (out : Outside (type_bits (key r).type (key r).counterparty r.label.status)) where
  abbrev who : ℕ
  who = (key r).type + (key r).counterparty * types

  abbrev tested : List Bool
  tested = who_tests (key r).party (key r).type who

  abbrev meant : List Bool
  meant = is_type (key r).type ∷ counterparty_ok (key r) ∷ status_ok r.label ∷ []

  status-in : 1 ≤ who → (1 ≤ (key r).counterparty → (key r).type ≡ bilateral) → status_ok r.label ≡ true
  unfolding status_ok
  status-in w q =
      elim (below-or-above r.label.status 2) [
        | inl h ↦ or_left (leb r.label.status 1) _ (le-leb r.label.status 1 (omega arith))
        | inr h ↦ elim out [
          | inl v ↦ absurd (omega arith)
          | inr v ↦ or_right (leb r.label.status 1) _ (and-join (eqb r.label.status 2) _ (eq-eqb r.label.status 2 (omega arith)) (and-join (eqb (key r).type 6) _ (eq-eqb (key r).type 6 (q (omega arith))) (lt-ltb 0 (key r).counterparty (omega arith))))
        ]
      ]

  sale-means : (key r).type ≡ bilateral → every tested ≡ every meant
  unfolding counterparty_ok
  sale-means q = same_test (every tested) (every meant) forth back
    where
      forth : every tested ≡ true → every meant ≡ true
      forth e =
          let h = every_holds tested e in
          let l : bilateral + (key r).counterparty * types ≤ type_bits bilateral last_party 0 = leb-true _ _ (rw q at h.1.0) in
          let n : (key r).counterparty ≡ (key r).party → ⊥ = λ z. differ who (bilateral + (key r).party * types) h.1.1.1.0 (omega arith) in
          holds-every meant
          (ap is_type q, (rw q (and-join (leb (key r).counterparty last_party) _ (le-leb (key r).counterparty last_party (omega arith)) (differs (key r).counterparty (key r).party n)), (status-in (omega arith) (λ z. q), tt)))

      back : every meant ≡ true → every tested ≡ true
      back e =
          let h = every_holds meant e in
          let s = and_split (leb (key r).counterparty last_party) (not (eqb (key r).counterparty (key r).party)) (rw q at h.1.0) in
          let m = leb-true (key r).counterparty last_party s.0 in
          let n : who ≡ bilateral + (key r).party * types → ⊥ = λ z. differ (key r).counterparty (key r).party s.1 (omega arith) in
          holds-every tested
          (le-leb 1 who (omega arith), (rw q (le-leb (bilateral + (key r).counterparty * types) (type_bits bilateral last_party 0) (omega arith)), (differs who mark_type (λ z. omega arith), (differs who (bilateral + (key r).party * types) n, tt))))

  other-means : ((key r).type ≡ bilateral → ⊥) → every tested ≡ every meant
  unfolding counterparty_ok
  other-means n = same_test (every tested) (every meant) forth back
    where
      forth : every tested ≡ true → every meant ≡ true
      forth e =
          let h = every_holds tested e in
          let l : who ≤ 22 = leb-true _ _ (rw (ne_eqb (key r).type 6 n) at h.1.0) in
          let m : 1 ≤ who = leb-true _ _ h.0 in
          let k : (key r).type ≡ 21 → ⊥ = λ z. differ who mark_type h.1.1.0 (omega arith) in
          holds-every meant
          (type-in (key r).type (omega arith) (omega arith) k, (rw (ne_eqb (key r).type 6 n) (eq-eqb (key r).counterparty 0 (omega arith)), (status-in m (λ z. omega arith), tt)))

      back : every meant ≡ true → every tested ≡ true
      back e =
          let h = every_holds meant e in
          let t = type-range (key r).type h.0 in
          let m : (key r).counterparty ≡ 0 = eqb-true _ _ (rw (ne_eqb (key r).type 6 n) at h.1.0) in
          holds-every tested
          (le-leb 1 who (omega arith), (rw (ne_eqb (key r).type 6 n) (le-leb who 22 (omega arith)), (differs who mark_type (λ z. omega arith), (differs who (bilateral + (key r).party * types) (λ z. omega arith), tt))))

  who-means : every tested ≡ every meant
  who-means =
      elim (bool_cases (eqb (key r).type 6)) [
        | inl e ↦ sale-means (eqb-true (key r).type 6 e)
        | inr e ↦ other-means (eqb-false (key r).type 6 e)
      ]

  -- where the tests hold, the limit of the amount is the type's
  who-amount : every tested ≡ true → amount_limit who ≡ amount_limit (key r).type
  who-amount e =
      elim (bool_cases (eqb (key r).type 6)) [
        | inl q ↦ (let z = eqb-true (key r).type 6 q in no-money who (λ a b. omega arith) ∙ sym (no-money (key r).type (λ a b. omega arith)))
        | inr q ↦ (let l : who ≤ 22 = leb-true _ _ (rw q at (every_holds tested e).1.0) in let z : who ≡ (key r).type = omega arith in ap amount_limit z)
      ]

  tested-legal : (k j : Bool) → party_ok (key r).party ≡ true → day_ok (key r).day ≡ true → every tested && every (k ∷ j ∷ leb r.amount (amount_limit who) ∷ []) ≡ k && j && legal r
  unfolding legal fault
  tested-legal k j p d =
      guarded (every tested) (λ e. ap (λ m. every (k ∷ j ∷ leb r.amount m ∷ [])) (who-amount e))
      ∙ ap (λ b. b && every (k ∷ j ∷ leb r.amount (amount_limit (key r).type) ∷ [])) who-means
      ∙ rw (p, d, mark-has-no_party r partied) (together (is_type (key r).type) (counterparty_ok (key r)) (status_ok r.label) k j (leb r.amount (amount_limit (key r).type)))

-- party and day in range, no status past cancelled, and none cancelled without a counterparty
abbrev pub plain_tests : ℕ → ℕ → ℕ → List Bool
plain_tests a d f =
    within (word 1 1) (word 1 last_party) a
    ∷ within (word 2 0) (word 2 last_day) d
    ∷ (leb (word 3 0) f && ltb f (word 3 (type_bits 0 0 3)))
    ∷ not (ltb (word 3 (type_bits 0 0 cancelled)) f && ltb f (word 3 (type_bits 0 1 cancelled)))
    ∷ []

record Plain (a d f : ℕ) : Type 0 where
  party : (word 1 1 ≤ a) × (a ≤ word 1 last_party)
  day : (word 2 0 ≤ d) × (d ≤ word 2 last_day)
  figures : (word 3 0 ≤ f) × (f < word 3 (type_bits 0 0 3))
  out : (f ≤ word 3 (type_bits 0 0 cancelled)) ⊎ (word 3 (type_bits 0 1 cancelled) ≤ f)

plain-facts : (a d f : ℕ) → every (plain_tests a d f) ≡ true → Plain a d f
plain-facts a d f e =
    let h = every_holds (plain_tests a d f) e in
    let s = and_split (leb (word 3 0) f) (ltb f (word 3 (type_bits 0 0 3))) h.1.1.0 in
    record {
      party = within-true (word 1 1) (word 1 last_party) a h.0;
      day = within-true (word 2 0) (word 2 last_day) d h.1.0;
      figures = (leb-true _ _ s.0, ltb-true _ _ s.1);
      out = outside (word 3 (type_bits 0 0 cancelled)) (word 3 (type_bits 0 1 cancelled)) f h.1.1.1.0;
    }

within_in : (low high x : ℕ) → (low ≤ x) × (x ≤ high) → within low high x ≡ true
within_in low high x h = and-join _ _ (le-leb low x h.0) (le-leb x high h.1)

plain-holds : (a d f : ℕ) → Plain a d f → every (plain_tests a d f) ≡ true
plain-holds a d f i =
    holds-every (plain_tests a d f)
    (within_in (word 1 1) (word 1 last_party) a i.party, (within_in (word 2 0) (word 2 last_day) d i.day, (and-join _ _ (le-leb (word 3 0) f i.figures.0) (lt-ltb f (word 3 (type_bits 0 0 3)) i.figures.1), (lies-outside (word 3 (type_bits 0 0 cancelled)) (word 3 (type_bits 0 1 cancelled)) f i.out, tt))))

-- a word of a kind and a value; a kind 3 word f of type t, counterparty c and status s
word-at : (w k v : ℕ) → kind_of w ≡ k → value_of w ≡ v → w ≡ word k v
word-at w k v p q = omega arith

figures-at : (f : ℕ) → kind_of f ≡ 3 → f ≡ word 3 (type_bits (value_of f % types) (value_of f / types % counterparties) (value_of f / status_unit))
figures-at f k = sym (ap (word 3) (bits_back (value_of f)) ∙ word_of 3 f k)

who-at : (f t c s : ℕ) → f ≡ word 3 (type_bits t c s) → t < types → c < counterparties → (f % types ≡ t) × (f % status_unit ≡ t + c * types)
who-at f t c s q a b = (omega arith, omega arith)

out_of : (f v : ℕ) → f ≡ word 3 v → (f ≤ word 3 (type_bits 0 0 cancelled)) ⊎ (word 3 (type_bits 0 1 cancelled) ≤ f) → Outside v
out_of f v q (inl z) = inl (omega arith)
out_of f v q (inr z) = inr (omega arith)

figures-plain : (f t c s : ℕ) → f ≡ word 3 (type_bits t c s) → t ≤ 22 → c ≤ last_party → (s ≤ 1) ⊎ ((s ≡ 2) × (1 ≤ c)) → (word 3 0 ≤ f) × (f < word 3 (type_bits 0 0 3)) × ((f ≤ word 3 (type_bits 0 0 cancelled)) ⊎ (word 3 (type_bits 0 1 cancelled) ≤ f))
figures-plain f t c s q a b (inl z) = (omega arith, omega arith, inl (omega arith))
figures-plain f t c s q a b (inr z) = (omega arith, omega arith, inr (omega arith))

status-cases : (l : Label) → status_ok l ≡ true → (l.status ≤ 1) ⊎ ((l.status ≡ 2) × (1 ≤ l.key.counterparty))
unfolding status_ok
status-cases l e =
    elim (or_cases (leb l.status 1) _ e) [
      | inl s ↦ inl (leb-true _ _ s)
      | inr s ↦ (let b = and_split (eqb l.status 2) (is_bilateral l.key) s in inr (eqb-true _ _ b.0, ltb-true _ _ (and_split (eqb l.key.type 6) _ b.1).1))
    ]

-- the words a, d, f, l and h of an entry: what each return of the code knows
module _ (a d f l h : ℕ) where
  abbrev five : List ℕ
  five = a ∷ d ∷ f ∷ l ∷ h ∷ []

  pub plain-words : every (plain_tests a d f) ≡ true → every (who_tests (a % counterparties) (f % types) (f % status_unit)) && amount_words_ok (f % status_unit) l h ≡ entry_ok five
  unfolding entry_ok decode amount_words_ok
  plain-words e =
      let i = plain-facts a d f e in
      let k : kind_of f ≡ 3 = omega arith in
      let p : a % counterparties ≡ value_of a = omega arith in
      let t : value_of f % types < types = omega arith in
      let s : value_of f / status_unit ≤ 2 = omega arith in
      let y : (1 ≤ value_of a) × (value_of a ≤ last_party) = omega arith in
      let q = figures-at f k in
      let w = who-at f _ _ _ q t (omega arith) in
      rw (p, w.0, w.1, eq-eqb (kind_of a) 1 (omega arith), eq-eqb (kind_of d) 2 (omega arith), eq-eqb (kind_of f) 3 k) (tested-legal (decode five) t y.0 s (out_of f _ q i.out) (eqb (kind_of l) 4) (eqb (kind_of h) 5) (within_in 1 last_party (value_of a) y) (le-leb (value_of d) last_day (omega arith)))

  mark-entry : mark_words_ok a d f l h ≡ true → entry_ok five ≡ true
  unfolding encode
  mark-entry e =
      let t = every_holds (mark_word_tests a d f l h) e in
      let w = within-true (word 2 0) (word 2 last_day) d t.1.0 in
      let g = encode-ok (record_of (key_of 0 (value_of d) mark_type 0) 0 0) [] (mark-legal (value_of d) (omega arith)) in
      rw (eqb-true a (word 1 0) t.0, eqb-true f (word 3 mark_type) t.1.1.0, eqb-true l (word 4 0) t.1.1.1.0, eqb-true h (word 5 0) t.1.1.1.1.0) (rw (word_of 2 d (omega arith)) at g)

  module _ (w : IsEntry five) where
    legal-plain : eqb (fault (key (decode five)) (decode five).amount) 0 && status_ok (decode five).label ≡ true → Plain a d f
    unfolding decode
    legal-plain e =
        let s = and_split _ _ e in
        let n = no-fault (key (decode five)) (decode five).amount (eqb-true _ _ s.0) in
        let u = figures-plain f _ _ _ (figures-at f w.kind_2) n.type n.counterparty (status-cases (decode five).label s.1) in
        record { party = omega (arith, w.kind_0, n.party-above, n.party); day = omega (arith, w.kind_1, n.day); figures = (u.0, u.1); out = u.2 }

    legal-mark : mark_ok (decode five) ≡ true → mark_words_ok a d f l h ≡ true
    unfolding decode
    legal-mark e =
        let m = mark-holds (decode five) e in
        let y = leb-true (value_of d) last_day m.1.0 in
        let q : f ≡ word 3 mark_type = figures-at f w.kind_2 ∙ rw (eqb-true (value_of f % types) mark_type m.0, eqb-true (value_of f / types % counterparties) 0 m.1.1.1.0, eqb-true (value_of f / status_unit) 0 m.1.1.1.1.1.0) in
        let z = eqb-true (value_of l + value_of h * low_amounts) 0 m.1.1.1.1.0 in
        holds-every (mark_word_tests a d f l h)
        (eq-eqb a (word 1 0) (word-at a 1 0 w.kind_0 (eqb-true _ _ m.1.1.0)), (within_in (word 2 0) (word 2 last_day) d (omega (arith, w.kind_1)), (eq-eqb f (word 3 mark_type) q, (eq-eqb l (word 4 0) (word-at l 4 0 w.kind_3 (omega arith)), (eq-eqb h (word 5 0) (word-at h 5 0 w.kind-4 (omega arith)), tt)))))

  pub mark-words : every (plain_tests a d f) ≡ false → mark_words_ok a d f l h ≡ entry_ok five
  unfolding legal
  mark-words e = same_test (mark_words_ok a d f l h) (entry_ok five) mark-entry back
    where
      back : entry_ok five ≡ true → mark_words_ok a d f l h ≡ true
      back m =
          let w = entry-facts five m in
          elim (or_cases (eqb (fault (key (decode five)) (decode five).amount) 0 && status_ok (decode five).label) (mark_ok (decode five)) w.is-legal) [
            | inl s ↦ absurd (true≢false (sym (plain-holds a d f (legal-plain w s)) ∙ e))
            | inr s ↦ legal-mark w s
          ]
