-- Writing a book (document 02, change 3): "For each accepted sheet, writing its book gives the sheet's own bytes and version, and reading these gives the same book."
-- Assumes nothing.
use Rattle.std.specs.Prelude.{◌≡◌, cond, Result, Ok, Err, List, ◌++◌, ℕ, ◌≤◌, ◌<◌, ltb, length, take, drop}
use Rattle.layout.specs.Layout.{Sheet, encode, WellFormedSheet}
use Rattle.layout.specs.Reading.{read_sheet}
use Rattle.book.specs.Books.{Translates}
use Rattle.book.specs.Looks.{Looks}
use Rattle.book.specs.declared.Book.{Book}
use Rattle.fields.specs.declared.Refused.{Refused}
use Rattle.store.specs.Answers.{Answer, written, refused}
use Rattle.sheet_writer.specs.declared.TooShort.{TooShort}
use Rattle.sheet_writer.specs.Parts.{most_bytes}

-- ---- what a call answers

-- "The answer is the number of bytes written"; "Turned away: 16, buffer shorter than the sheet": document 02's number for each case of the code's answer
abbrev pub answer_of : Result ℕ TooShort → Answer
answer_of (Ok n) = written n
answer_of (Err _) = refused 16

-- ---- the call

-- what it answers, and what it leaves in the buffer
pub record Writing : Type 0 where
  pub answer : Answer
  pub buffer : List ℕ

-- the call that writes these bytes: "16, buffer shorter than the sheet, nothing written"; "Bytes of the buffer past the sheet don't change"
abbrev pub writing_of : List ℕ → List ℕ → Writing
writing_of bytes buffer =
    cond (ltb (length buffer) (length bytes))
    (record { answer = refused 16; buffer = buffer })
    (record { answer = written (length bytes); buffer = bytes ++ drop (length bytes) buffer })

-- the promise: whatever the table, some bytes are written, and those of a sheet's book are the sheet's own. "For a book that no sheet gives, the result .. is free": which bytes these are is
-- then the program's choice
pub record Writes (table before : List ℕ) (r : Result ℕ TooShort) (after : List ℕ) : Type 0 where
  pub bytes : List ℕ
  pub few : length bytes ≤ most_bytes
  pub call : record { answer = answer_of r; buffer = after } ≡ writing_of bytes before
  pub own : (S : Sheet) (b : Book) → WellFormedSheet S → Looks S b → b.table ≡ table → bytes ≡ encode S

-- ---- writing, then reading

-- sheet s, whose book is b, written into a buffer
pub record WritesBack (s : List ℕ) (b : Book) (before : List ℕ) (r : Result ℕ TooShort) (after : List ℕ) : Type 0 where
  -- "writing its book gives the sheet's own bytes"; a buffer of just the sheet's length is enough
  pub own : length s ≤ length before → (answer_of r ≡ written (length s)) × (after ≡ s ++ drop (length s) before)
  -- "buffer shorter than the sheet, nothing written"
  pub short : length before < length s → (answer_of r ≡ refused 16) × (after ≡ before)
  -- "and version": the bytes are read as the same sheet, which has its version
  pub reads : length s ≤ length before → read_sheet (take (length s) after) ≡ read_sheet s
  -- "and reading these gives the same book": they are accepted too, and the book is the same as a value
  pub again : length s ≤ length before → (u : Result Book Refused) → Translates (take (length s) after) u → u ≡ Ok b
