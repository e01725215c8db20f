-- What a caller looks up in the book of a sheet: all that the sheet says. Rule r is that of file order; its cells are those of its round's ranges, the trigger's too, by their names.
-- Assumes nothing.
use Rattle.std.specs.Prelude.{◌≡◌, ℕ, ◌<◌, ◌≤◌, length, get_or}
use Rattle.layout.specs.Layout.{Sheet, header_of}
use Rattle.layout.specs.Pages.{header_word, rule_at}
use Rattle.tables.specs.Cells.{head_at, version_at, outputs_at, HoldsRules}
use Rattle.book.specs.declared.Book.{Book}

pub record Looks (S : Sheet) (b : Book) : Type 0 where
  pub version' : get_or b.table version_at 0 ≡ S.version
  pub outputs : get_or b.table outputs_at 0 ≡ S.outputs
  -- each rule's eight bytes as one number, and 0 where there is no rule: no head is 0, for P has a fragment
  pub head : (r : ℕ) → r < length S.rules → get_or b.table (head_at r) 0 ≡ header_word (header_of (rule_at S.rules r))
  pub none : (r : ℕ) → length S.rules ≤ r → r < 16 → get_or b.table (head_at r) 0 ≡ 0
  -- the masks and the cells of its rules
  pub table : HoldsRules b.table S.rules
