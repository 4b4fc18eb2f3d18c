-- How the tests of a copy stand to today's: with today's figures they are today's, and an older copy takes what is today's and within its own limits. Assumes nothing.
use mathlib.Core.Path.{◌≡◌, refl, sym, ap, ap₂, ◌∙◌}
use mathlib.Core.Logic.{inl, inr}
use mathlib.Core.Bool.{Bool, true, false, not, cond, ◌&&◌, ◌||◌, false≢true, and-true, and-false}
use mathlib.Core.List.{List, [], ◌∷◌, map}
use Prim.Native.Nat.{ℕ, zero, suc, ◌+◌, ◌*◌, ◌/◌, ◌%◌, ◌≤◌, ◌<◌, zero-le}
use native.Mathlib.Nat.{le_refl, le_trans, lt_of_le_of_lt, suc-ne-zero}
use native.Mathlib.Omega.{arith}
use lib.Dec.{eqb, leb, ltb}
use lib.ListN.{drop}
use borrow.Author.Tests.{eqb-true, eq-eqb, leb-true, ltb-true, le-leb, lt-ltb, le-ltb, ne_eqb}
use Rattle.numbers.specs.Tests.{every, all}
use Rattle.numbers.specs.Causes.{unless, or_else, first_of}
use Rattle.numbers.proofs.TestLaws.{bool_cases, below-or-above, and_split, and-join}
use Rattle.numbers.proofs.CauseLaws.{unless-zero, else-split, clear-all}
use Rattle.rules.specs.Refusals.{not_a_book, bad_file, bad_party, bad_day, bad_type, bad_counterparty, bad_amount, day_closed}
use Rattle.rules.specs.Entry.{Key, Record, key_of, key, most_volume, most_money, within, updated_program, is_money, is_type, party_ok, day_ok, counterparty_ok, amount_limit, fault, mark_ok, status_ok, legal}
use Rattle.rules.specs.Words.{Frame, frame_of, types, low_amounts, status_unit, kind_of, value_of, decode, entry_ok, entries_ok, read_entries, is_book, entries, count_of}
use Rattle.rules.specs.Book.{shut_to, post_refusal}
use Rattle.rules.specs.DayFile.{Item, line, empty_block, high_amounts, words_of, is_line, is_shaped, is_file, lines_in, party_in, head_item, items_from, items, item_cause, file_refusal}
use Rattle.rules.specs.Calls.{Change, post, withdraw, control, file, refusal, cause_of}
use Rattle.rules.proofs.Limits.{fault-amount, mark-facts}
use Rattle.former.specs.Former.{Copy, until06, until02, present, is_type_by, limit_by, fault_by, legal_by, entry_ok_by, entries_ok_by, is_book_by, is_line_by, is_shaped_by, is_file_by, item_cause_by, refusal_by, machine_by}
use Rattle.former.specs.Promise.{known_by, in_item, in_call, type_fits, amount_fits, fits, record_fits, narrow_by, Stays, is_faultless}

-- a copy's types are those of today's that it knows
type-by : (c : Copy) (t : ℕ) → is_type_by c t ≡ is_type t && known_by c.updates t
type-by c t =
    elim (bool_cases (eqb t updated_program)) [
      | inl e ↦ rw (eqb-true t updated_program e) (update c.updates)
      | inr e ↦ rw e (other c.updates (within 1 16 t) (is_money t))
    ]
  where
    update : (u : Bool) → (u && true) || false ≡ u || false
    update true = refl
    update false = refl

    other : (u v m : Bool) → (v || (u && false)) || m ≡ ((v || false) || m) && (u || true)
    other true v m = sym (and-true _)
    other false v m = sym (and-true _)

known-type : (c : Copy) (t : ℕ) → known_by c.updates t ≡ true → is_type_by c t ≡ is_type t
known-type c t e = type-by c t ∙ ap (λ k. is_type t && k) e ∙ and-true (is_type t)

type-now : (c : Copy) (t : ℕ) → is_type_by c t ≡ true → is_type t ≡ true
type-now c t e = (and_split (is_type t) (known_by c.updates t) (sym (type-by c t) ∙ e)).0

-- the types of records are known
abbrev pub all_known : Bool → List Record → Bool
all_known updates rs = all (λ r. known_by updates (key r).type) rs

-- a copy with today's limits: where it knows the types, each test is today's

module _ (c : Copy) (m : c.money ≡ most_money) (h : c.high ≡ high_amounts) where
  same-fault : (k : Key) (a : ℕ) → known_by c.updates k.type ≡ true → fault_by c k a ≡ fault k a
  unfolding fault_by fault limit_by amount_limit
  same-fault k a e = rw (known-type c k.type e, m)

  same_entries : (n : ℕ) (ws : List ℕ) → all_known c.updates (read_entries n ws) ≡ true → entries_ok_by c n ws ≡ entries_ok n ws
  unfolding entries_ok_by entries_ok entry_ok_by entry_ok legal_by legal read_entries all
  same_entries zero ws e = refl
  same_entries (suc n) ws e =
      let s = and_split (known_by c.updates (key (decode ws)).type) (all_known c.updates (read_entries n (drop 5 ws))) e in
      let r = decode ws in
      rw (same-fault (key r) r.amount s.0, same_entries n (drop 5 ws) s.1)

  pub same-book : (ws : List ℕ) → all_known c.updates (entries ws) ≡ true → is_book_by c ws ≡ is_book ws
  unfolding is_book_by is_book entries
  same-book ws e = rw (same_entries (count_of ws) (drop 3 ws) e)

  same_line : (w x y : ℕ) → is_line_by c w x y ≡ is_line w x y
  same_line w x y = rw h

  same-shaped : (n : ℕ) (ws : List ℕ) → is_shaped_by c n ws ≡ is_shaped n ws
  unfolding is_shaped_by is_shaped
  same-shaped zero [] = refl
  same-shaped zero (w ∷ []) = refl
  same-shaped zero (w ∷ x ∷ ws) = rw (same-shaped (lines_in w) ws)
  same-shaped (suc n) [] = refl
  same-shaped (suc n) (w ∷ []) = refl
  same-shaped (suc n) (w ∷ x ∷ []) = refl
  same-shaped (suc n) (w ∷ x ∷ y ∷ ws) = ap₂ ◌&&◌ (same_line w x y) (same-shaped n ws)

  pub same-file : (bs : List ℕ) → is_file_by c bs ≡ is_file bs
  unfolding is_file_by is_file
  same-file bs = rw (same-shaped 0 (words_of bs))

  same-items : (rs : List Record) (is : List Item) → all (in_item (type_fits c)) is ≡ true → first_of (map (item_cause_by c rs) is) ≡ first_of (map (item_cause rs) is)
  unfolding item_cause_by item_cause all
  same-items rs [] e = refl
  same-items rs (line k a ∷ is) e =
      let s = and_split (known_by c.updates k.type) (all (in_item (type_fits c)) is) e in
      rw (same-fault k a s.0, same-items rs is s.1)
  same-items rs (empty_block p d ∷ is) e = rw (same-items rs is e)

  same-refusal : (f : Frame) (rs : List Record) (call : Change) → in_call (type_fits c) call ≡ true → refusal_by c f rs call ≡ refusal f rs call
  unfolding refusal_by refusal post_refusal file_refusal
  same-refusal f rs (post k a) e = rw (same-fault k a e)
  same-refusal f rs (withdraw n) e = refl
  same-refusal f rs (control d) e = refl
  same-refusal f rs (file bs) e = rw (same-file bs, same-items rs (items bs) e)

  pub same-cause : (ws : List ℕ) (call : Change) → all_known c.updates (entries ws) ≡ true → in_call (type_fits c) call ≡ true → (machine_by c).cause ws call ≡ cause_of ws call
  unfolding cause_of
  same-cause ws call b e = rw (same-book ws b, same-refusal (frame_of ws) (entries ws) call e)

  -- lines in which today's copy finds no fault are within its limits
  pub amounts-now : (rs : List Record) (is : List Item) → first_of (map (item_cause rs) is) ≡ 0 → all (in_item (amount_fits c)) is ≡ true
  unfolding item_cause all limit_by amount_limit
  amounts-now rs [] z = refl
  amounts-now rs (line k a ∷ is) z =
      let zs = else-split (item_cause rs (line k a)) _ z in
      let s = clear-all (fault k a ∷ unless (not (shut_to k rs)) day_closed ∷ []) zs.0 in
      and-join _ _ (le-leb a (limit_by c k.type) (rw m (fault-amount k a s.0))) (amounts-now rs is zs.1)
  amounts-now rs (empty_block p d ∷ is) z = amounts-now rs is (else-split (item_cause rs (empty_block p d)) _ z).1

-- a file that today's copy reads has no fault
pub file-faultless : (ws bs : List ℕ) → cause_of ws (file bs) ≡ 0 → is_faultless ws bs ≡ true
unfolding cause_of refusal file_refusal
file-faultless ws bs z =
    let s = else-split (unless (is_book ws) not_a_book) _ z in
    let t = else-split (unless (is_file bs) bad_file) _ s.1 in
    let u = else-split (first_of (map (item_cause (entries ws)) (items bs))) _ t.1 in
    and-join _ _ (unless-zero (is_file bs) 1 t.0) (eq-eqb _ 0 u.0)

-- today's copy knows all types
all-holds : {A : Type 0} (xs : List A) → all (λ x. true) xs ≡ true
unfolding all
all-holds [] = refl
all-holds (x ∷ xs) = all-holds xs

item-known : (is : List Item) → all (in_item (type_fits present)) is ≡ true
unfolding all
item-known [] = refl
item-known (line k a ∷ is) = item-known is
item-known (empty_block p d ∷ is) = item-known is

call_known : (call : Change) → in_call (type_fits present) call ≡ true
call_known (post k a) = refl
call_known (withdraw n) = refl
call_known (control d) = refl
call_known (file bs) = item-known (items bs)

pub all_known_lem : (rs : List Record) → all_known true rs ≡ true
all_known_lem rs = all-holds rs

pub present-book : (ws : List ℕ) → is_book_by present ws ≡ is_book ws
present-book ws = same-book present refl refl ws (all_known_lem (entries ws))

pub present-file : (bs : List ℕ) → is_file_by present bs ≡ is_file bs
present-file bs = same-file present refl refl bs

pub present-cause : (ws : List ℕ) (call : Change) → (machine_by present).cause ws call ≡ cause_of ws call
present-cause ws call = same-cause present refl refl ws call (all_known_lem (entries ws)) (call_known call)

-- a copy whose limits are not above today's, and whose bits of an amount carry its own
pub record Older (c : Copy) : Type 0 where
  pub money : c.money ≤ most_money
  pub high : c.high ≤ high_amounts
  pub carries-money : c.money < c.high * low_amounts
  pub carries-volumes : most_volume < c.high * low_amounts

pub until06-older : Older until06
until06-older = omega arith

pub until02-older : Older until02
until02-older = omega arith

-- tests of which the last is narrower, and tests of a first and of those after it
and_last : (k l m : Bool) → k && (l && m) ≡ (k && l) && m
and_last true l m = refl
and_last false l m = refl

and_narrow : (k l m : Bool) → (m ≡ true → l ≡ true) → k && m ≡ (k && l) && m
and_narrow true true m h = refl
and_narrow true false true h = absurd (false≢true (h refl))
and_narrow true false false h = refl
and_narrow false l m h = refl

and_both : (k l ks ls : Bool) → (k && l) && (ks && ls) ≡ (k && ks) && (l && ls)
and_both true true ks ls = refl
and_both true false true ls = refl
and_both true false false ls = refl
and_both false l ks ls = refl

-- no cause holds: the same of a list whose last test is narrower
clear-else : (t : Bool) (n x y : ℕ) (m : Bool) → eqb x 0 ≡ eqb y 0 && m → eqb (or_else (unless t (suc n)) x) 0 ≡ eqb (or_else (unless t (suc n)) y) 0 && m
clear-else true n x y m e = e
clear-else false n x y m e = rw (ne_eqb (suc n) 0 (suc-ne-zero n))

clear-known : (t known : Bool) (n x y : ℕ) (m : Bool) → eqb x 0 ≡ eqb y 0 && m →
    eqb (or_else (unless (t && known) (suc n)) x) 0 ≡ eqb (or_else (unless t (suc n)) y) 0 && (known && m)
clear-known true true n x y m e = e
clear-known true false n x y m e = rw (ne_eqb (suc n) 0 (suc-ne-zero n)) (sym (and-false (eqb y 0)))
clear-known false known n x y m e = rw (ne_eqb (suc n) 0 (suc-ne-zero n))

clear-last : (l m : Bool) (n : ℕ) → (m ≡ true → l ≡ true) → eqb (or_else (unless m (suc n)) 0) 0 ≡ eqb (or_else (unless l (suc n)) 0) 0 && m
clear-last true true n h = refl
clear-last false true n h = absurd (false≢true (h refl))
clear-last true false n h = ne_eqb (suc n) 0 (suc-ne-zero n)
clear-last false false n h = rw (ne_eqb (suc n) 0 (suc-ne-zero n))

-- a cause that stays is today's too
abbrev Kept : ℕ → ℕ → Type 0
Kept k l = Stays k → l ≡ k

pub none_stays : Stays 0
none_stays = omega arith

kept_same : (k : ℕ) → Kept k k
kept_same k s = refl

kept-else : (x v : ℕ) {y w : ℕ} → Kept x v → Kept y w → Kept (or_else x y) (or_else v w)
kept-else zero v f g s = rw (f none_stays) (g s)
kept-else (suc n) v f g s = rw (f s)

kept-after : (x : ℕ) {y w : ℕ} → Kept y w → Kept (or_else x y) (or_else x w)
kept-after x g = kept-else x x (kept_same x) g

kept-unless : (n : ℕ) → ¬ Stays n → (l m : Bool) → (m ≡ true → l ≡ true) → Kept (unless m n) (unless l n)
kept-unless n lifted true true h s = refl
kept-unless n lifted false true h s = absurd (false≢true (h refl))
kept-unless n lifted l false h s = absurd (lifted s)

module _ (c : Copy) (o : Older c) where
  limit-grows : (t : ℕ) → limit_by c t ≤ amount_limit t
  unfolding limit_by amount_limit
  limit-grows t = go (is_money t)
    where
      go : (b : Bool) → cond b c.money most_volume ≤ cond b most_money most_volume
      go true = o.money
      go false = le_refl most_volume

  amount-now : (t a : ℕ) → leb a (limit_by c t) ≡ true → leb a (amount_limit t) ≡ true
  amount-now t a e = le-leb a (amount_limit t) (le_trans (leb-true a (limit_by c t) e) (limit-grows t))

  -- an amount with a bit beyond the copy's is above its limit
  pub limit-carried : (t : ℕ) → limit_by c t < c.high * low_amounts
  unfolding limit_by
  limit-carried t = go (is_money t)
    where
      go : (b : Bool) → cond b c.money most_volume < c.high * low_amounts
      go true = o.carries-money
      go false = o.carries-volumes

  -- books: today's, with each type known and each amount within the copy's limit
  fault-by : (k : Key) (a : ℕ) → eqb (fault_by c k a) 0 ≡ eqb (fault k a) 0 && fits c k a
  unfolding fault_by fault
  fault-by k a =
      clear-else (party_ok k.party) 2 _ _ _
      (clear-else (day_ok k.day) 3 _ _ _
      (rw (type-by c k.type)
      (clear-known (is_type k.type) (known_by c.updates k.type) 4 _ _ _
      (clear-else (counterparty_ok k) 5 _ _ _ (clear-last _ _ 6 (amount-now k.type a))))))

  -- a mark's type is known, and its amount 0
  mark-fits : (r : Record) → mark_ok r ≡ true → record_fits c r ≡ true
  mark-fits r m =
      let f = mark-facts r m in
      and-join (known_by c.updates (key r).type) (leb r.amount (limit_by c (key r).type)) (rw f.0 (either c.updates)) (le-leb r.amount (limit_by c (key r).type) (rw f.1 zero-le))
    where
      either : (u : Bool) → u || true ≡ true
      either true = refl
      either false = refl

  legal-by : (r : Record) → legal_by c r ≡ legal r && record_fits c r
  unfolding legal_by legal
  legal-by r =
      let passes : Bool = eqb (fault (key r) r.amount) 0 in
      let status : Bool = status_ok r.label in
      elim (bool_cases (mark_ok r)) [
        | inl m ↦
            rw (m, mark-fits r m) (marked (eqb (fault_by c (key r) r.amount) 0 && status) (passes && status))
        | inr m ↦ rw (m, fault-by (key r) r.amount) (unmarked passes (record_fits c r) status)
      ]
    where
      marked : (x y : Bool) → x || true ≡ (y || true) && true
      marked true true = refl
      marked true false = refl
      marked false true = refl
      marked false false = refl

      unmarked : (f m s : Bool) → (f && m) && s || false ≡ (f && s || false) && m
      unmarked true true true = refl
      unmarked true true false = refl
      unmarked true false true = refl
      unmarked true false false = refl
      unmarked false m s = refl

  entries_by : (n : ℕ) (ws : List ℕ) → entries_ok_by c n ws ≡ entries_ok n ws && all (record_fits c) (read_entries n ws)
  unfolding entries_ok_by entries_ok entry_ok_by entry_ok read_entries all
  entries_by zero ws = refl
  entries_by (suc n) ws =
      rw (legal-by (decode ws), and_last _ (legal (decode ws)) (record_fits c (decode ws)), entries_by n (drop 5 ws))
      (and_both (entry_ok ws) (record_fits c (decode ws)) (entries_ok n (drop 5 ws)) _)

  pub book-by : (ws : List ℕ) → is_book_by c ws ≡ is_book ws && all (record_fits c) (entries ws)
  unfolding is_book_by is_book entries
  book-by ws =
      let n = count_of ws in
      let us = drop 3 ws in
      rw (entries_by n us, and_last _ (entries_ok n us) (all (record_fits c) (read_entries n us)))

  pub book-now : (ws : List ℕ) → is_book_by c ws ≡ true → (is_book ws ≡ true) × (all (record_fits c) (entries ws) ≡ true)
  book-now ws e = and_split (is_book ws) (all (record_fits c) (entries ws)) (sym (book-by ws) ∙ e)

  -- files: today's, with no line's amount beyond the copy's bits
  beyond : (u v : ℕ) → u < low_amounts → ltb (u + v * low_amounts) (c.high * low_amounts) ≡ ltb v c.high
  beyond u v h =
      elim (below-or-above v c.high) [
        | inl l ↦ rw (lt-ltb v c.high l) (lt-ltb (u + v * low_amounts) (c.high * low_amounts) (omega arith))
        | inr l ↦ rw (le-ltb v c.high l) (le-ltb (u + v * low_amounts) (c.high * low_amounts) (omega arith))
      ]

  line-by : (k : Key) (w x y : ℕ) → is_line_by c w x y ≡ is_line w x y && narrow_by c (line k (value_of x + value_of y * low_amounts))
  line-by k w x y =
      rw (beyond (value_of x) (value_of y) (omega arith))
      (and_narrow (every (eqb (kind_of w) 3 ∷ ltb (value_of w) status_unit ∷ eqb (kind_of x) 4 ∷ eqb (kind_of y) 5 ∷ []))
      (ltb (value_of y) high_amounts)
      (ltb (value_of y) c.high)
      λ e. lt-ltb (value_of y) high_amounts (omega (arith, ltb-true (value_of y) c.high e, o.high)))

  head-narrow : (n p d : ℕ) (is : List Item) → all (narrow_by c) (head_item n p d is) ≡ all (narrow_by c) is
  unfolding all
  head-narrow zero p d is = refl
  head-narrow (suc n) p d is = refl

  shaped-by : (n : ℕ) (ws : List ℕ) (p d : ℕ) → is_shaped_by c n ws ≡ is_shaped n ws && all (narrow_by c) (items_from n p d ws)
  unfolding is_shaped_by is_shaped items_from all
  shaped-by zero [] p d = refl
  shaped-by zero (w ∷ []) p d = refl
  shaped-by zero (w ∷ x ∷ ws) p d =
      let q = party_in w in
      let e = value_of x in
      let n = lines_in w in
      rw (head-narrow n q e (items_from n q e ws), shaped-by n ws q e, and_last _ (is_shaped n ws) (all (narrow_by c) (items_from n q e ws)))
  shaped-by (suc n) [] p d = refl
  shaped-by (suc n) (w ∷ []) p d = refl
  shaped-by (suc n) (w ∷ x ∷ []) p d = refl
  shaped-by (suc n) (w ∷ x ∷ y ∷ ws) p d =
      let k : Key = key_of p d (value_of w % types) (value_of w / types) in
      rw (line-by k w x y, shaped-by n ws p d)
      (and_both (is_line w x y) (narrow_by c (line k (value_of x + value_of y * low_amounts))) (is_shaped n ws) _)

  pub file-by : (bs : List ℕ) → is_file_by c bs ≡ is_file bs && all (narrow_by c) (items bs)
  unfolding is_file_by is_file items
  file-by bs = rw (shaped-by 0 (words_of bs) 0 0, and_last _ (is_shaped 0 (words_of bs)) (all (narrow_by c) (items_from 0 0 0 (words_of bs))))

  -- an amount within the copy's limit has no bit beyond the copy's
  fits-narrow : (is : List Item) → all (in_item (amount_fits c)) is ≡ true → all (narrow_by c) is ≡ true
  unfolding all
  fits-narrow [] e = refl
  fits-narrow (line k a ∷ is) e =
      let s = and_split (amount_fits c k a) (all (in_item (amount_fits c)) is) e in
      let l : a < c.high * low_amounts = lt_of_le_of_lt (leb-true a (limit_by c k.type) s.0) (limit-carried k.type) in
      and-join _ _ (lt-ltb a (c.high * low_amounts) l) (fits-narrow is s.1)
  fits-narrow (empty_block p d ∷ is) e = fits-narrow is e

  -- where all amounts are, the copy and today's take the same files
  form-fits : (bs : List ℕ) → all (in_item (amount_fits c)) (items bs) ≡ true → is_file_by c bs ≡ is_file bs
  form-fits bs e = file-by bs ∙ ap (λ b. is_file bs && b) (fits-narrow (items bs) e) ∙ and-true (is_file bs)

  pub file-now : (bs : List ℕ) → is_file_by c bs ≡ true → is_file bs ≡ true
  file-now bs e = (and_split (is_file bs) (all (narrow_by c) (items bs)) (sym (file-by bs) ∙ e)).0

  -- causes: one that stays is today's
  fault-kept : (k : Key) (a : ℕ) → Kept (fault_by c k a) (fault k a)
  unfolding fault_by fault
  fault-kept k a =
      kept-after (unless (party_ok k.party) bad_party)
      (kept-after (unless (day_ok k.day) bad_day)
      (kept-else (unless (is_type_by c k.type) bad_type) (unless (is_type k.type) bad_type)
      (kept-unless bad_type (λ s. s.2 refl) _ _ (type-now c k.type))
      (kept-after (unless (counterparty_ok k) bad_counterparty)
      (kept-else (unless (leb a (limit_by c k.type)) bad_amount) (unless (leb a (amount_limit k.type)) bad_amount)
      (kept-unless bad_amount (λ s. s.3 refl) _ _ (amount-now k.type a)) (kept_same 0)))))

  item-kept : (rs : List Record) (i : Item) → Kept (item_cause_by c rs i) (item_cause rs i)
  unfolding item_cause_by item_cause
  item-kept rs (line k a) = kept-else (fault_by c k a) (fault k a) (fault-kept k a) (kept_same _)
  item-kept rs (empty_block p d) = kept_same _

  items_kept : (rs : List Record) (is : List Item) → Kept (first_of (map (item_cause_by c rs) is)) (first_of (map (item_cause rs) is))
  items_kept rs [] = kept_same 0
  items_kept rs (i ∷ is) = kept-else (item_cause_by c rs i) (item_cause rs i) (item-kept rs i) (items_kept rs is)

  refusal-kept : (f : Frame) (rs : List Record) (call : Change) → Kept (refusal_by c f rs call) (refusal f rs call)
  unfolding refusal_by refusal post_refusal file_refusal
  refusal-kept f rs (post k a) = kept-else (fault_by c k a) (fault k a) (fault-kept k a) (kept_same _)
  refusal-kept f rs (withdraw n) = kept_same _
  refusal-kept f rs (control d) = kept_same _
  refusal-kept f rs (file bs) =
      kept-else (unless (is_file_by c bs) bad_file) (unless (is_file bs) bad_file)
      (kept-unless bad_file (λ s. s.1 refl) (is_file bs) (is_file_by c bs) (file-now bs))
      (kept-else (first_of (map (item_cause_by c rs) (items bs))) (first_of (map (item_cause rs) (items bs))) (items_kept rs (items bs)) (kept_same _))

  -- and all are today's where the types are known and the amounts within the copy's limits
  fault-fits : (k : Key) (a : ℕ) → fits c k a ≡ true → fault_by c k a ≡ fault k a
  unfolding fault_by fault
  fault-fits k a e =
      let s = and_split (type_fits c k a) (amount_fits c k a) e in
      rw (known-type c k.type s.0, s.1, amount-now k.type a s.1)

  items-fit : (rs : List Record) (is : List Item) → all (in_item (fits c)) is ≡ true → first_of (map (item_cause_by c rs) is) ≡ first_of (map (item_cause rs) is)
  unfolding item_cause_by item_cause all
  items-fit rs [] e = refl
  items-fit rs (line k a ∷ is) e =
      let s = and_split (fits c k a) (all (in_item (fits c)) is) e in
      rw (fault-fits k a s.0, items-fit rs is s.1)
  items-fit rs (empty_block p d ∷ is) e = rw (items-fit rs is e)

  amounts-fit : (is : List Item) → all (in_item (fits c)) is ≡ true → all (in_item (amount_fits c)) is ≡ true
  unfolding all
  amounts-fit [] e = refl
  amounts-fit (line k a ∷ is) e =
      let s = and_split (fits c k a) (all (in_item (fits c)) is) e in
      and-join _ _ (and_split (type_fits c k a) (amount_fits c k a) s.0).1 (amounts-fit is s.1)
  amounts-fit (empty_block p d ∷ is) e = amounts-fit is e

  refusal-fits : (f : Frame) (rs : List Record) (call : Change) → in_call (fits c) call ≡ true → refusal_by c f rs call ≡ refusal f rs call
  unfolding refusal_by refusal post_refusal file_refusal
  refusal-fits f rs (post k a) e = rw (fault-fits k a e)
  refusal-fits f rs (withdraw n) e = refl
  refusal-fits f rs (control d) e = refl
  refusal-fits f rs (file bs) e = rw (form-fits bs (amounts-fit (items bs) e), items-fit rs (items bs) e)

  pub cause-fits : (ws : List ℕ) (call : Change) → is_book_by c ws ≡ true → in_call (fits c) call ≡ true → (machine_by c).cause ws call ≡ cause_of ws call
  unfolding cause_of
  cause-fits ws call b e = rw (b, (book-now ws b).0, refusal-fits (frame_of ws) (entries ws) call e)

  pub cause-kept : (ws : List ℕ) (call : Change) → Kept ((machine_by c).cause ws call) (cause_of ws call)
  unfolding cause_of
  cause-kept ws call =
      kept-else (unless (is_book_by c ws) not_a_book) (unless (is_book ws) not_a_book)
      (kept-unless not_a_book (λ s. s.0 refl) _ _ λ e. (book-now ws e).0)
      (refusal-kept (frame_of ws) (entries ws) call)

  -- a post of a type that the copy does not know, and a file with such a line and no fault that today's copy finds
  fault-unknown : (k : Key) (a : ℕ) → party_ok k.party ≡ true → day_ok k.day ≡ true → known_by c.updates k.type ≡ false → fault_by c k a ≡ bad_type
  unfolding fault_by
  fault-unknown k a p d e = rw (p, d, type-by c k.type, e, and-false (is_type k.type))

  pub post-unknown : (ws : List ℕ) (k : Key) (a : ℕ) → is_book_by c ws ≡ true → party_ok k.party ≡ true → day_ok k.day ≡ true →
      known_by c.updates k.type ≡ false → (machine_by c).cause ws (post k a) ≡ bad_type
  unfolding refusal_by
  post-unknown ws k a b p d e = rw (b, fault-unknown k a p d e)

  line-unknown : (rs : List Record) (k : Key) (a : ℕ) → item_cause rs (line k a) ≡ 0 → amount_fits c k a ≡ true →
      item_cause_by c rs (line k a) ≡ unless (known_by c.updates k.type) bad_type
  unfolding item_cause_by item_cause fault_by fault
  line-unknown rs k a z e =
      let s = clear-all (fault k a ∷ unless (not (shut_to k rs)) day_closed ∷ []) z in
      let f = clear-all (unless (party_ok k.party) bad_party ∷ unless (day_ok k.day) bad_day ∷ unless (is_type k.type) bad_type ∷ unless (counterparty_ok k) bad_counterparty ∷ unless (leb a (amount_limit k.type)) bad_amount ∷ []) s.0 in
      rw (unless-zero (party_ok k.party) 2 f.0, unless-zero (day_ok k.day) 3 f.1.0, type-by c k.type, unless-zero (is_type k.type) 4 f.1.1.0, unless-zero (counterparty_ok k) 5 f.1.1.1.0, e, unless-zero (not (shut_to k rs)) 7 s.1.0)
      (only (known_by c.updates k.type))
    where
      only : (b : Bool) → or_else (or_else (unless b bad_type) 0) 0 ≡ unless b bad_type
      only true = refl
      only false = refl

  block_same : (rs : List Record) (p d : ℕ) → item_cause_by c rs (empty_block p d) ≡ item_cause rs (empty_block p d)
  unfolding item_cause_by
  block_same rs p d = refl

  items-unknown : (rs : List Record) (is : List Item) → first_of (map (item_cause rs) is) ≡ 0 → all (in_item (amount_fits c)) is ≡ true →
      first_of (map (item_cause_by c rs) is) ≡ unless (all (in_item (type_fits c)) is) bad_type
  unfolding all
  items-unknown rs [] z e = refl
  items-unknown rs (line k a ∷ is) z e =
      let zs = else-split (item_cause rs (line k a)) _ z in
      let s = and_split (amount_fits c k a) (all (in_item (amount_fits c)) is) e in
      rw (line-unknown rs k a zs.0 s.0, items-unknown rs is zs.1 s.1) (either (known_by c.updates k.type) (all (in_item (type_fits c)) is))
    where
      either : (x y : Bool) → or_else (unless x bad_type) (unless y bad_type) ≡ unless (x && y) bad_type
      either true y = refl
      either false y = refl
  items-unknown rs (empty_block p d ∷ is) z e =
      let zs = else-split (item_cause rs (empty_block p d)) _ z in
      rw (block_same rs p d, zs.0, items-unknown rs is zs.1 e)

  pub file-unknown : (ws bs : List ℕ) → is_book_by c ws ≡ true → is_faultless ws bs ≡ true → all (in_item (amount_fits c)) (items bs) ≡ true →
      all (in_item (type_fits c)) (items bs) ≡ false → (machine_by c).cause ws (file bs) ≡ bad_type
  unfolding refusal_by
  file-unknown ws bs b f a u =
      let s = and_split (is_file bs) (eqb (first_of (map (item_cause (entries ws)) (items bs))) 0) f in
      rw (b, form-fits bs a, s.0, items-unknown (entries ws) (items bs) (eqb-true _ _ s.1) a, u)
