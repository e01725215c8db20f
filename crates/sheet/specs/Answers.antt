-- The reader's answer and the pages of an accepted sheet: what `read` promises.
-- Assumes nothing.
use Rattle.std.specs.Prelude.{◌≡◌, List, ℕ, length, Result, Ok, Err}
use Rattle.pattern.specs.Judge.{all_whole}
use Rattle.pattern.specs.Values.{Values, verdict_values, refused_values}
use Rattle.layout.specs.Layout.{Sheet}
use Rattle.layout.specs.Reading.{Outcome, accepted, refused, read_sheet}
use Rattle.layout.specs.Pages.{head_table, fragment_table, range_table}
use Rattle.fields.specs.Faults.{number_of}
use Rattle.fields.specs.declared.Refused.{Refused}
use Rattle.sheet.specs.declared.Pages.{Pages}
use Rattle.sheet.specs.Shown.{no_pages}

-- document 01's values for each case of the answer: "refusal number or 0", and the place; an accepted sheet's are those of its fresh monitor, which is whole
abbrev pub values_of : {A : Type 0} → Result A Refused → Values
values_of (Ok a) = record { answer = 0; refusal = 0; mask = 0; place = 0 }
values_of (Err e) = record { answer = 3; refusal = number_of e.fault; mask = 0; place = e.place }

-- the values due for what the reading says
abbrev pub read_values : Outcome → Values
read_values (accepted S) = verdict_values all_whole
read_values (refused number place) = refused_values number place

abbrev pub pages_of : Sheet → Pages
pages_of S = record {
  version = S.version;
  outputs = S.outputs;
  count = length S.rules;
  tables = record { heads = head_table S.rules; fragments = fragment_table S.rules; ranges = range_table S.rules };
}

-- what reading these bytes promises: the answer has the values that the definition says, and an accepted sheet's pages are its own. No pages come with a refusal, so that nothing of the
-- sheet that was refused can be learnt from them
pub record Reads (s : List ℕ) (r : Result Pages Refused) : Type 0 where
  pub answers : values_of r ≡ read_values (read_sheet s)
  pub keeps : (S : Sheet) → read_sheet s ≡ accepted S → r ≡ Ok (pages_of S)

-- the same into pages that are given: an accepted sheet's are its own, if they were those before anything is read
pub record ReadsInto (s : List ℕ) (p₀ p : Pages) (r : Result (Unit {0}) Refused) : Type 0 where
  pub answers : values_of r ≡ read_values (read_sheet s)
  pub keeps : p₀ ≡ no_pages → (S : Sheet) → read_sheet s ≡ accepted S → (r ≡ Ok (tt {0})) × (p ≡ pages_of S)
