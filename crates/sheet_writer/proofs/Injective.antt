-- A book tells its sheet: two well-formed sheets with the same book are the same, since their books say the same bytes, and those are their own.
-- Assumes nothing.
use mathlib.Core.Path.{◌≡◌, ap, sym, ◌∙◌}
use mathlib.Core.Logic.{◌≢◌}
use Prim.Native.Nat.{ℕ}
use Rattle.layout.specs.Layout.{Sheet, WellFormedSheet}
use Rattle.layout.specs.Pages.{rule_at, range_at}
use Rattle.layout.proofs.Accepted.{same-bytes-same-sheet}
use Rattle.book.specs.declared.Book.{Book}
use Rattle.book.specs.Books.{book_of}
use Rattle.book.proofs.Lookups.{looks}
use Rattle.sheet_writer.specs.Parts.{table_bytes}
use Rattle.sheet_writer.proofs.Own.{own-bytes}

-- `book_of` is injective on well-formed sheets
pub same-book-same-sheet : (S T : Sheet) → WellFormedSheet S → WellFormedSheet T → book_of S ≡ book_of T → S ≡ T
same-book-same-sheet S T v w e =
    same-bytes-same-sheet S T v w (sym (own-bytes S (book_of S) v (looks S v)) ∙ ap (λ (b : Book). table_bytes b.table) e ∙ own-bytes T (book_of T) w (looks T w))

-- so two sheets that differ in the version alone have two books
pub other-version-other-book : (S T : Sheet) → WellFormedSheet S → WellFormedSheet T → S.version ≢ T.version → book_of S ≢ book_of T
other-version-other-book S T v w differ e = differ (ap (λ (X : Sheet). X.version) (same-book-same-sheet S T v w e))

-- and so have two that differ in one range's v alone, as by 0 and 65535: no upper end, and the largest
pub other-end-other-book : (S T : Sheet) → WellFormedSheet S → WellFormedSheet T → (r n i : ℕ) → (range_at (rule_at S.rules r) n i).v ≢ (range_at (rule_at T.rules r) n i).v → book_of S ≢ book_of T
other-end-other-book S T v w r n i differ e = differ (ap (λ (X : Sheet). (range_at (rule_at X.rules r) n i).v) (same-book-same-sheet S T v w e))
