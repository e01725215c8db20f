-- The book of a sheet, and what `translate` promises.
-- Assumes nothing.
use Rattle.std.specs.Prelude.{◌≡◌, List, ℕ, Result, Ok}
use Rattle.layout.specs.Layout.{Sheet}
use Rattle.layout.specs.Reading.{accepted, read_sheet}
use Rattle.fields.specs.declared.Refused.{Refused}
use Rattle.sheet.specs.Answers.{values_of, read_values, pages_of}
use Rattle.sheet.specs.declared.Pages.{Pages}
use Rattle.book.specs.Tables.{table_of}
use Rattle.book.specs.declared.Book.{Book}

-- the book of some pages
abbrev pub book_from : Pages → Book
book_from p = record { table = table_of p.tables.heads p.tables.fragments p.tables.ranges p.count p.version p.outputs }

-- the book of a sheet
abbrev pub book_of : Sheet → Book
book_of S = book_from (pages_of S)

-- what translating these bytes promises: the reader's answer, and for an accepted sheet its book
pub record Translates (s : List ℕ) (r : Result Book Refused) : Type 0 where
  pub answers : values_of r ≡ read_values (read_sheet s)
  pub keeps : (S : Sheet) → read_sheet s ≡ accepted S → r ≡ Ok (book_of S)
