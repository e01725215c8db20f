-- Writing a book, then reading what was written (document 02, change 3).
-- Assumes nothing.
use mathlib.Core.Path.{◌≡◌, refl, sym, ◌∙◌, ap, subst}
use mathlib.Core.List.{List, ◌++◌}
use Prim.Native.Nat.{ℕ, ◌+◌, ◌≤◌, ◌<◌}
use native.Mathlib.Omega.{arith}
use lib.ListN.{length, take, drop}
use lib.Seq.{sets, sets-eq, take-append_seam}
use borrow.Author.Tests.{lt-ltb, le-ltb}
use Rattle.std.specs.Prelude.{Result, Ok, Err}
use Rattle.layout.specs.Terms.{today}
use Rattle.layout.specs.Layout.{Sheet, encode, WellFormedSheet, Bytes, longest}
use Rattle.layout.specs.Reading.{accepted, read_sheet}
use Rattle.layout.proofs.Acceptance.{Accepts, accepted-is-encoded}
use Rattle.layout.proofs.Length.{sheet-length}
use Rattle.book.specs.declared.Book.{Book}
use Rattle.fields.specs.declared.Refused.{Refused}
use Rattle.book.specs.Books.{Translates}
use Rattle.book.specs.Looks.{Looks}
use Rattle.book.proofs.Translated.{translated}
use Rattle.sheet_writer.specs.declared.TooShort.{TooShort}
use Rattle.sheet_writer.specs.Parts.{table_bytes}
use Rattle.store.specs.Answers.{written, refused}
use Rattle.sheet_writer.specs.Writing.{answer_of, Writing, writing_of, Writes, WritesBack}
use Rattle.sheet_writer.proofs.Lengths.{table-most}
use Rattle.sheet_writer.proofs.Own.{own-bytes}

-- ---- the call, by whether the bytes fit

module _ (bytes before : List ℕ) where
  fits_not : length before < length bytes → writing_of bytes before ≡ record { answer = refused 16; buffer = before }
  fits_not h = rw (lt-ltb (length before) (length bytes) h) refl

  fits : length bytes ≤ length before → writing_of bytes before ≡ record { answer = written (length bytes); buffer = bytes ++ drop (length bytes) before }
  fits h = rw (le-ltb (length before) (length bytes) h) refl

from_first : (bytes before : List ℕ) → length bytes ≤ length before → sets before 0 bytes ≡ bytes ++ drop (length bytes) before
from_first bytes before h = let z : 0 + length bytes ≡ length bytes = omega arith in sets-eq bytes before 0 (omega (arith, h)) ∙ ap (λ (n : ℕ). bytes ++ drop n before) z

module _ (table before : List ℕ) (n : ℕ) (size : n ≡ length (table_bytes table)) where
  own : (S : Sheet) (b : Book) → WellFormedSheet S → Looks S b → b.table ≡ table → table_bytes table ≡ encode S
  own S b w l e = subst (λ (t : List ℕ). table_bytes t ≡ encode S) e (own-bytes S b w l)

  pub writes_nothing : (e : TooShort) → length before < n → Writes table before (Err e) before
  writes_nothing e h = record { bytes = table_bytes table; few = table-most table; call = sym (fits_not (table_bytes table) before (omega (arith, h, size))); own = own }

  pub writes-all : (after : List ℕ) → n ≤ length before → after ≡ sets before 0 (table_bytes table) → Writes table before (Ok n) after
  writes-all after h e =
      let room : length (table_bytes table) ≤ length before = omega (arith, h, size) in
      record {
        bytes = table_bytes table;
        few = table-most table;
        call = (λ i. record { answer = written (size i); buffer = (e ∙ from_first (table_bytes table) before room) i }) ∙ sym (fits (table_bytes table) before room);
        own = own;
      }

-- ---- for each accepted sheet

-- s is the sheet S in bytes, and the table is its book's
module _ {table before after : List ℕ} {r : Result ℕ TooShort} (writes : Writes table before r after) (s : List ℕ) (S : Sheet) (b : Book) (accepts : Accepts today s S) (looks : Looks S b) (is : b.table ≡ table) where
  call : record { answer = answer_of r; buffer = after } ≡ writing_of s before
  call = writes.call ∙ ap (λ (l : List ℕ). writing_of l before) (writes.own S b accepts.formed looks is ∙ sym accepts.bytes)

  pub short : length before < length s → (answer_of r ≡ refused 16) × (after ≡ before)
  short h = let c = call ∙ fits_not s before h in (ap (λ (w : Writing). w.answer) c, ap (λ (w : Writing). w.buffer) c)

  pub long : length s ≤ length before → (answer_of r ≡ written (length s)) × (after ≡ s ++ drop (length s) before)
  long h = let c = call ∙ fits s before h in (ap (λ (w : Writing). w.answer) c, ap (λ (w : Writing). w.buffer) c)

  pub same_bytes : length s ≤ length before → take (length s) after ≡ s
  same_bytes h = ap (take (length s)) (long h).1 ∙ take-append_seam s (drop (length s) before)

  -- "A sheet has at most 5,774 bytes": a buffer of so many is never refused
  pub every-sheet-has-room : longest ≤ length before → answer_of r ≡ written (length s)
  every-sheet-has-room h = (long (omega (arith, h, sheet-length S accepts.formed, ap length accepts.bytes))).0

-- writing its book gives its own bytes, which are read as the same sheet and translated into the same book
pub write-then-read : (s : List ℕ) → Bytes s → (t : Result Book Refused) → Translates s t → (S : Sheet) → read_sheet s ≡ accepted S
    → (b : Book) × (t ≡ Ok b) × ((before : List ℕ) (r : Result ℕ TooShort) (after : List ℕ) → Writes b.table before r after → WritesBack s b before r after)
write-then-read s bytes t translates S is =
    let (b, e, looks) = translated s t bytes translates S is in
    let accepts : Accepts today s S = accepted-is-encoded s bytes is in (
      b,
      e,
      λ before r after writes.
          let same : length s ≤ length before → take (length s) after ≡ s = same_bytes writes s S b accepts looks refl in
          record {
            own = long writes s S b accepts looks refl;
            short = short writes s S b accepts looks refl;
            reads = λ h. ap read_sheet (same h);
            again = λ h u v. (subst (λ (l : List ℕ). Translates l u) (same h) v).keeps S is ∙ sym (translates.keeps S is) ∙ e;
          },
    )
