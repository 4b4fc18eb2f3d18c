-- The calls that change a book: each stated on frame and records, and once for all of them on words.
use Rattle.std.specs.Prelude.{List, [], ◌∷◌, ◌++◌, ℕ, length}
use Rattle.numbers.specs.Causes.{unless, or_else}
use Rattle.rules.specs.Refusals.{not_a_book}
use Rattle.rules.specs.Entry.{Key, Record, record_of, standing}
use Rattle.rules.specs.Words.{Frame, frame_of, is_book, entries, coefficient_of, tolerance_of, laid}
use Rattle.rules.specs.Book.{post_refusal, withdraw_refusal, withdrawn_at}
use Rattle.rules.specs.Control.{first_pass, second_pass, control_refusal, controlled_records, detected_parties, cancelled_entries}
use Rattle.rules.specs.DayFile.{file_refusal, items, lines_of}
use Rattle.rules.specs.Machine.{Machine, figures_of, leaves_of}
use Rattle.rules.specs.declared.Posted.{Posted}
use Rattle.rules.specs.declared.Controlled.{Controlled}
use Rattle.rules.specs.declared.FileRead.{FileRead}

pub data Change : Type 0 where
  post : Key → ℕ → Change
  withdraw : ℕ → Change
  control : ℕ → Change
  file : List ℕ → Change

-- what a call answers beside its cause: a post's number, a file's lines, a control's counts
pub record Figures : Type 0 where
  pub number : ℕ
  pub lines : ℕ
  pub first : ℕ
  pub second : ℕ
  pub cancelled : ℕ

-- on a refusal the other returned figures are zero
abbrev pub no_figures : Figures
no_figures = record { number = 0; lines = 0; first = 0; second = 0; cancelled = 0 }

-- each call on records: its cause, its figures and the records that it leaves
unfoldable pub refusal : Frame → List Record → Change → ℕ
refusal f rs (post k a) = post_refusal f rs k a
refusal f rs (withdraw n) = withdraw_refusal rs n
refusal f rs (control d) = control_refusal f rs d
refusal f rs (file bs) = file_refusal f rs bs

unfoldable pub figures_on : Frame → List Record → Change → Figures
figures_on f rs (post k a) = record { number = length rs; lines = 0; first = 0; second = 0; cancelled = 0 }
figures_on f rs (withdraw n) = no_figures
figures_on f rs (control d) =
    record {
      number = 0;
      lines = 0;
      first = detected_parties (first_pass f.coefficient f.tolerance d rs);
      second = detected_parties (second_pass f.coefficient f.tolerance d rs);
      cancelled = cancelled_entries f.coefficient f.tolerance d rs;
    }
figures_on f rs (file bs) = record { number = 0; lines = length (lines_of (items bs)); first = 0; second = 0; cancelled = 0 }

-- a post appends one standing record, a file its lines
unfoldable pub changed : Frame → List Record → Change → List Record
changed f rs (post k a) = rs ++ (record_of k standing a ∷ [])
changed f rs (withdraw n) = withdrawn_at rs n
changed f rs (control d) = controlled_records f.coefficient f.tolerance d rs
changed f rs (file bs) = rs ++ lines_of (items bs)

abbrev pub on_records : Frame → Machine (List Record) Change Figures
on_records f = record { cause = refusal f; figures = figures_on f; done = changed f }

-- any calls on records, on words: 1 where they are no book; a done call lays its records over the slice
abbrev pub lifted : {C F : Type 0} → (Frame → Machine (List Record) C F) → Machine (List ℕ) C F
lifted on =
    record {
      cause = λ ws c. or_else (unless (is_book ws) not_a_book) ((on (frame_of ws)).cause (entries ws) c);
      figures = λ ws c. (on (frame_of ws)).figures (entries ws) c;
      done = λ ws c. laid (coefficient_of ws) (tolerance_of ws) ((on (frame_of ws)).done (entries ws) c) ws;
    }

abbrev pub book_machine : Machine (List ℕ) Change Figures
book_machine = lifted on_records

-- the calls: what each answers, and the words that it leaves
unfoldable pub cause_of : List ℕ → Change → ℕ
cause_of ws c = book_machine.cause ws c

unfoldable pub figures_at : List ℕ → Change → Figures
figures_at ws c = figures_of no_figures book_machine ws c

unfoldable pub words_after : List ℕ → Change → List ℕ
words_after ws c = leaves_of book_machine ws c

abbrev pub post_answer : List ℕ → Key → ℕ → Posted
post_answer ws k a = record { answer = cause_of ws (post k a); number = (figures_at ws (post k a)).number }

abbrev pub control_answer : List ℕ → ℕ → Controlled
control_answer ws d =
    record {
      answer = cause_of ws (control d);
      first = (figures_at ws (control d)).first;
      second = (figures_at ws (control d)).second;
      cancelled = (figures_at ws (control d)).cancelled;
    }

abbrev pub file_answer : List ℕ → List ℕ → FileRead
file_answer ws bs = record { answer = cause_of ws (file bs); posted = (figures_at ws (file bs)).lines }
