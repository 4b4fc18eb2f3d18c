-- Laws of opening, and of what a post and a change of status store, on the words and on the records they hold. Assumes nothing.
use mathlib.Core.Path.{◌≡◌, refl, sym, ap, ◌∙◌}
use mathlib.Core.Logic.{inl, inr, ◌≢◌}
use mathlib.Core.Bool.{true, false, ◌&&◌, false≢true}
use mathlib.Core.List.{List, [], ◌∷◌, ◌++◌}
use Prim.Native.Nat.{ℕ, zero, suc, ◌+◌, ◌*◌, ◌≤◌, ◌<◌, zero-le}
use native.Mathlib.Numerals.{add-one, add-two, add-three, add-four}
use native.Mathlib.Omega.{arith}
use lib.Dec.{eqb, leb, ltb}
use lib.ListN.{length, get_or, take, drop, set, length-append, length-set}
use lib.Seq.{drop-drop, sets-eq, take_at}
use borrow.Author.Tests.{leb-true, eqb-true, le-leb}
use Rattle.numbers.specs.Tests.{all}
use Rattle.numbers.specs.Causes.{unless}
use Rattle.numbers.proofs.TestLaws.{and_split, or_cases, or_right}
use Rattle.numbers.proofs.CauseLaws.{clear-all, unless-zero, done-else}
use Rattle.numbers.proofs.ListLaws.{drop-past}
use Rattle.rules.specs.Entry.{Key, Record, key_of, record_of, key, no_record, with_status, legal, fault, status_ok, mark_ok, is_mark, is_standing, is_bilateral, standing, withdrawn, cancelled, mark_type}
use Rattle.rules.specs.Words.{word, type_bits, encode, encode_all, used_words, laid, is_book, entries, count_of, coefficient_of, tolerance_of, room_in}
use Rattle.rules.specs.Book.{open_cause, open_words, entry_at}
use Rattle.rules.specs.Stores.{stored_at, posted, raised, restatused}
use Rattle.rules.proofs.WordLaws.{Fits, laid-book, room-words, length-used, laid-past, encode_all-append, read_at_lem, book-facts, book-fits, book-laid}

-- opening
pub record OpenLimits (lent R TM : ℕ) : Type 0 where
  pub long : 3 ≤ lent
  pub coefficient : R ≤ 1000
  pub tolerance : TM ≤ 200000000

pub open-limits : (lent R TM : ℕ) → open_cause lent R TM ≡ 0 → OpenLimits lent R TM
unfolding open_cause
open-limits lent R TM e =
    let c = clear-all (unless (leb 3 lent) 11 ∷ unless (leb R 1000 && leb TM 200000000) 12 ∷ []) e in
    let f = and_split (leb R 1000) (leb TM 200000000) (unless-zero _ 11 c.1.0) in
    record { long = leb-true _ _ (unless-zero _ 10 c.0); coefficient = leb-true _ _ f.0; tolerance = leb-true _ _ f.1 }

stored-three : (ws : List ℕ) (a b c : ℕ) → 3 ≤ length ws → set (set (set ws 0 a) 1 b) 2 c ≡ a ∷ b ∷ c ∷ drop 3 ws
stored-three [] a b c h = absurd (omega arith)
stored-three (x ∷ []) a b c h = absurd (omega arith)
stored-three (x ∷ y ∷ []) a b c h = absurd (omega arith)
stored-three (x ∷ y ∷ z ∷ ws) a b c h = refl

pub opened-laid : (ws : List ℕ) (R TM : ℕ) → open_cause (length ws) R TM ≡ 0 → open_words ws R TM ≡ laid R TM [] ws
unfolding open_words laid used_words encode_all
opened-laid ws R TM e = rw e (stored-three ws _ _ _ (open-limits (length ws) R TM e).long)

-- what a call makes of a record is legal again
pub new-legal : (k : Key) (a : ℕ) → fault k a ≡ 0 → legal (record_of k standing a) ≡ true
unfolding legal status_ok
new-legal k a e = rw e

-- an entry that is no mark passes checks 3 to 7
pub legal-fault : (r : Record) → legal r ≡ true → is_mark r ≡ false → fault (key r) r.amount ≡ 0
unfolding legal mark_ok
legal-fault r e m =
    elim (or_cases (eqb (fault (key r) r.amount) 0 && status_ok r.label) (mark_ok r) e) [
      | inl s ↦ eqb-true _ _ (and_split (eqb (fault (key r) r.amount) 0) (status_ok r.label) s).0
      | inr s ↦ absurd (false≢true (rw m at s))
    ]

pub restatus-legal : (r : Record) → legal r ≡ true → is_mark r ≡ false → legal (record_of (key r) withdrawn r.amount) ≡ true
unfolding legal status_ok
restatus-legal r e m = rw (legal-fault r e m)

pub cancel-legal : (r : Record) → legal r ≡ true → is_bilateral (key r) ≡ true → legal (record_of (key r) cancelled r.amount) ≡ true
unfolding legal status_ok
cancel-legal r e b =
    let t : (key r).type ≡ 6 = eqb-true _ _ (and_split (eqb (key r).type 6) (ltb 0 (key r).counterparty) b).0 in
    rw (legal-fault r e (rw t), b)

pub mark-legal : (d : ℕ) → d ≤ 36524 → legal (record_of (key_of 0 d mark_type 0) standing 0) ≡ true
unfolding legal mark_ok
mark-legal d h =
    let r : Record = record_of (key_of 0 d mark_type 0) standing 0 in
    or_right (eqb (fault (key r) 0) 0 && status_ok r.label) (mark_ok r) (rw (le-leb d 36524 h))

-- the five words of a new entry, stored at a place
pub stored-words : (ws : List ℕ) (at : ℕ) (k : Key) (a : ℕ) → at + 5 ≤ length ws → stored_at ws at k a ≡ take at ws ++ encode (record_of k standing a) ++ drop (at + 5) ws
unfolding stored_at encode
stored-words ws at k a h = rw (add-one at, add-two at, add-three at, add-four at) (sets-eq (encode (record_of k standing a)) ws at h)

stored-laid : {R TM : ℕ} {rs : List Record} {ws : List ℕ} → Fits R TM rs ws → length rs < room_in (length ws) → (k : Key) (a : ℕ) → stored_at (laid R TM rs ws) (3 + 5 * length rs) k a ≡ used_words R TM rs ++ encode (record_of k standing a) ++ drop (3 + 5 * (length rs + 1)) ws
unfolding laid
stored-laid {R} {TM} {rs} {ws} f h k a =
    let n = 3 + 5 * length rs in
    let u = length-used R TM rs in
    let l = room-words (length rs + 1) (length ws) f.long (omega arith) in
    let m : 3 + 5 * (length rs + 1) ≡ n + 5 = omega arith in
    stored-words (laid R TM rs ws) n k a (rw (laid-book f).long (omega arith))
    ∙ rw (take_at (used_words R TM rs) (drop n ws) n u, drop-past (used_words R TM rs) (drop n ws) n 5 u, drop-drop 5 n ws, m)

pub posted-laid : {R TM : ℕ} {rs : List Record} {ws : List ℕ} → Fits R TM rs ws → length rs < room_in (length ws) → (k : Key) (a : ℕ) → posted (laid R TM rs ws) k a ≡ laid R TM (rs ++ (record_of k standing a ∷ [])) ws
unfolding posted laid used_words encode_all encode
posted-laid {R} {TM} {rs} {ws} f h k a =
    rw ((laid-book f).count, stored-laid f h k a, length-append rs (record_of k standing a ∷ []), encode_all-append rs (record_of k standing a ∷ []))

-- entry n of any words, and of laid ones
pub entry-at : (ws : List ℕ) (n : ℕ) → n < count_of ws → entry_at ws n ≡ get_or (entries ws) n no_record
unfolding entry_at entries
entry-at ws n h = rw (← drop-drop (5 * n) 3 ws) (sym (read_at_lem (count_of ws) (drop 3 ws) n no_record h))

pub entry_at-laid : {R TM : ℕ} {rs : List Record} {ws : List ℕ} → Fits R TM rs ws → (n : ℕ) → n < length rs → entry_at (laid R TM rs ws) n ≡ get_or rs n no_record
entry_at-laid {R} {TM} {rs} {ws} f n h =
    let l = laid-book f in
    entry-at (laid R TM rs ws) n (rw l.count h) ∙ ap (λ x. get_or x n no_record) l.holds

-- the change of one status, on the words of entries and on the records
raised-word : (s t c : ℕ) → raised s (word 3 (type_bits t c 0)) ≡ word 3 (type_bits t c s)
raised-word s t c = omega arith

raised-entries : (s : ℕ) (rs : List Record) (n : ℕ) (ws : List ℕ) → n < length rs → (get_or rs n no_record).label.status ≡ 0 → set (encode_all rs ++ ws) (5 * n + 2) (raised s (get_or (encode_all rs ++ ws) (5 * n + 2) 0)) ≡ encode_all (set rs n (with_status s (get_or rs n no_record))) ++ ws
unfolding encode_all encode
raised-entries s [] n ws h e = absurd (omega arith)
raised-entries s (r ∷ rs) zero ws h e = rw (e, raised-word s (key r).type (key r).counterparty)
raised-entries s (r ∷ rs) (suc n) ws h e =
    let m : 5 * suc n + 2 ≡ suc (suc (suc (suc (suc (5 * n + 2))))) = omega arith in
    rw (m, raised-entries s rs n ws (omega arith) e)

pub restatused-laid : (s R TM : ℕ) (rs : List Record) (ws : List ℕ) (n : ℕ) → n < length rs → (get_or rs n no_record).label.status ≡ 0 → restatused s (laid R TM rs ws) n ≡ laid R TM (set rs n (with_status s (get_or rs n no_record))) ws
unfolding restatused laid used_words
restatused-laid s R TM rs ws n h e =
    let m : 3 + 5 * n + 2 ≡ suc (suc (suc (5 * n + 2))) = omega arith in
    rw (m, length-set rs n (with_status s (get_or rs n no_record)), raised-entries s rs n (drop (3 + 5 * length rs) ws) h e)

-- the law 'stays': what a done call on a book leaves is a book of these records, n of them,
-- with the same figures, length and words past the entries
pub record Stays (ws vs : List ℕ) (rs : List Record) (n : ℕ) : Type 0 where
  pub is-book : is_book vs ≡ true
  pub holds : entries vs ≡ rs
  pub count : count_of vs ≡ n
  pub coefficient : coefficient_of vs ≡ coefficient_of ws
  pub tolerance : tolerance_of vs ≡ tolerance_of ws
  pub long : length vs ≡ length ws
  pub past : drop (3 + 5 * n) vs ≡ drop (3 + 5 * n) ws

pub laid-stays : {ws vs : List ℕ} {rs : List Record} {n : ℕ} → Fits (coefficient_of ws) (tolerance_of ws) rs ws → vs ≡ laid (coefficient_of ws) (tolerance_of ws) rs ws → length rs ≡ n → Stays ws vs rs n
laid-stays {ws} {rs = rs} f e c =
    let l = laid-book f in
    rw e
    (record {
      is-book = l.is-book;
      holds = l.holds;
      count = l.count ∙ c;
      coefficient = l.coefficient;
      tolerance = l.tolerance;
      long = l.long;
      past = rw (← c) (laid-past _ _ rs ws);
    })

-- opening leaves a book with no entries
pub record IsOpened (ws : List ℕ) (R TM : ℕ) : Type 0 where
  pub is-book : is_book (open_words ws R TM) ≡ true
  pub holds : entries (open_words ws R TM) ≡ []
  pub count : count_of (open_words ws R TM) ≡ 0
  pub coefficient : coefficient_of (open_words ws R TM) ≡ R
  pub tolerance : tolerance_of (open_words ws R TM) ≡ TM
  pub long : length (open_words ws R TM) ≡ length ws

pub open-fits : (ws : List ℕ) (R TM : ℕ) → open_cause (length ws) R TM ≡ 0 → Fits R TM [] ws
unfolding all
open-fits ws R TM e =
    let o = open-limits (length ws) R TM e in
    record { legals = refl; coefficient = o.coefficient; tolerance = o.tolerance; long = o.long; room = zero-le }

pub open_stays : (ws : List ℕ) (R TM : ℕ) → open_cause (length ws) R TM ≡ 0 → IsOpened ws R TM
open_stays ws R TM e =
    let l = laid-book (open-fits ws R TM e) in
    let o = opened-laid ws R TM e in
    record { is-book = rw o l.is-book; holds = rw o l.holds; count = rw o l.count; coefficient = rw o l.coefficient; tolerance = rw o l.tolerance; long = rw o l.long }

pub open-refused : (ws : List ℕ) (R TM : ℕ) → open_cause (length ws) R TM ≢ 0 → open_words ws R TM ≡ ws
unfolding open_words
open-refused ws R TM h = done-else _ _ _ h

-- a post and a change of status on the words of any book
pub posted-book : (ws : List ℕ) (k : Key) (a : ℕ) → is_book ws ≡ true → count_of ws < room_in (length ws) → posted ws k a ≡ laid (coefficient_of ws) (tolerance_of ws) (entries ws ++ (record_of k standing a ∷ [])) ws
posted-book ws k a b h =
    ap (λ w. posted w k a) (book-laid ws b) ∙ posted-laid (book-fits ws b) (rw (book-facts ws b).count h) k a

pub length-snoc : {A : Type 0} (xs : List A) (x : A) → length (xs ++ (x ∷ [])) ≡ length xs + 1
length-snoc xs x = length-append xs (x ∷ [])

pub restatused-book : (s : ℕ) (ws : List ℕ) (n : ℕ) → is_book ws ≡ true → n < count_of ws → is_standing (entry_at ws n) ≡ true → restatused s ws n ≡ laid (coefficient_of ws) (tolerance_of ws) (set (entries ws) n (with_status s (get_or (entries ws) n no_record))) ws
restatused-book s ws n b h e =
    ap (λ w. restatused s w n) (book-laid ws b)
    ∙ restatused-laid s (coefficient_of ws) (tolerance_of ws) (entries ws) ws n (rw (book-facts ws b).count h) (ap (λ r. r.label.status) (sym (entry-at ws n h)) ∙ eqb-true _ _ e)
