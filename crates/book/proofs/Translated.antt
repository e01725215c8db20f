-- For callers: the answer by its case; what was translated from accepted bytes is looked up as the accepted sheet, and the place of a refusal fits a u32.
-- Assumes nothing.
use Rattle.std.proofs.Common.{◌≡◌, List, ℕ, ◌≤◌, Result, Ok, Err, arith}
use Rattle.layout.specs.Layout.{Sheet, Bytes}
use Rattle.layout.specs.Reading.{accepted, refused, read_sheet}
use Rattle.layout.specs.Reading as R
use Rattle.layout.proofs.Acceptance.{accepted-is-encoded}
use Rattle.fields.specs.declared.Refused.{Refused}
use Rattle.sheet.proofs.Cases.{AnswerOf, answer-is}
use Rattle.book.specs.Books.{Translates}
use Rattle.book.specs.Looks.{Looks}
use Rattle.book.specs.declared.Book.{Book}
use Rattle.book.proofs.Lookups.{looks}
use Rattle.book.proofs.Places.{Near, near}

pub translated : (s : List ℕ) (r : Result Book Refused) → Bytes s → Translates s r → (S : Sheet) → read_sheet s ≡ accepted S → (b : Book) × (r ≡ Ok b) × Looks S b
translated s r bytes t S e = (_, t.keeps S e, looks S (accepted-is-encoded s bytes e).formed)

-- the answer is that of the reading's outcome
pub answered : (s : List ℕ) (r : Result Book Refused) → Translates s r → AnswerOf (read_sheet s) r
answered s r t = answer-is r (read_sheet s) t.answers

module _ (sheet : List ℕ) (e : Refused) (translates : Translates sheet (Err e)) where
  -- the place of a refusal fits a u32
  pub place-fits : e.place ≤ 10894
  place-fits = look (read_sheet sheet) (near sheet) (answered sheet (Err e) translates)
    where
      look : (r : R.Outcome) → Near r → AnswerOf {A = Book} r (Err e) → e.place ≤ 10894
      look (accepted S) h p = absurd p
      look (refused k q) h p = omega (arith, p.1)
