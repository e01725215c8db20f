-- What the code shows of a sheet that it read.
-- Assumes nothing.
use Rattle.std.specs.Prelude.{◌≡◌, length}
use Rattle.layout.specs.Layout.{Sheet}
use Rattle.parts.specs.Shown.{no_rules, RulesShown}
use Rattle.sheet.specs.declared.Pages.{Pages}

-- the pages before anything is read
abbrev pub no_pages : Pages
no_pages = record { version = 0; outputs = 0; count = 0; tables = no_rules }

-- the whole sheet
pub record SheetShown (p₀ p : Pages) (S : Sheet) : Type 0 where
  pub version' : p.version ≡ S.version
  pub outputs' : p.outputs ≡ S.outputs
  pub count' : p.count ≡ length S.rules
  pub tables' : RulesShown p₀.tables p.tables S.rules
