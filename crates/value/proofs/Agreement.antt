-- Demand 3 for the monitor as a value, `value-agreement`: the law of `monitor` for every form, at this one.
-- Assumes nothing.
use mathlib.Core.Path.{◌≡◌}
use mathlib.Core.List.{List}
use Prim.Native.Nat.{ℕ}
use Rattle.std.specs.Prelude.{Result, Ok}
use Rattle.fields.specs.declared.Refused.{Refused}
use Rattle.layout.specs.Layout.{Sheet, Bytes}
use Rattle.layout.specs.Reading.{accepted, read_sheet}
use Rattle.book.specs.Books.{Translates}
use Rattle.book.specs.declared.Book.{Book}
use Rattle.answers.specs.Cases.{Answer}
use Rattle.answers.specs.declared.Observation.{Observation}
use Rattle.monitor.specs.Promise.{Observes, Freshes, Run, CodeAgreement}
use Rattle.monitor.proofs.Agreement.{agreement}
use Rattle.value.specs.Value.{numbers_of, by_value}
use Rattle.value.specs.declared.Monitor.{Monitor}

pub value-agreement : (bytes : List ℕ) → Bytes bytes → (t : Result Book Refused) → Translates bytes t → (S : Sheet) → read_sheet bytes ≡ accepted S
    → (b : Book) × (t ≡ Ok b) × ((m : Monitor) → Freshes by_value m → (os : List Observation) (as' : List Answer) (last : Monitor)
    → Run (Observes by_value b.table) m os as' last → CodeAgreement S os as' (numbers_of last))
value-agreement bytes are t translates S is =
    let a = agreement bytes are t translates S is in
    (a.0, a.1, a.2 Monitor by_value)
