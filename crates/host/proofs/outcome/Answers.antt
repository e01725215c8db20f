-- `host::outcome` keeps its promise, by the reader's answer. The place of a refusal fits a u32, however long the sheet is. Assumes nothing.
use mathlib.Core.Path.{◌∙◌, ap}
use Prim.Native.Nat.{ℕ}
use native.Mathlib.Omega.{arith}
use Rattle.layout.proofs.Fields.{bytes_of}
use Rattle.book.proofs.Translated.{place-fits}
use Rattle.runner.specs.Log.{turned_away}
use Rattle.host.proofs.Outcomes.{sheet-refused, sheet-accepted}
use Rattle.host.proofs.outcome.Goals as goal

pub overflow_cast-refused : goal.overflow_cast-refused
overflow_cast-refused c = omega (arith, place-fits c.args.sheet.now _ c.in-Err.ensures)

pub returns-in-Ok : goal.returns-in-Ok
returns-in-Ok c =
    let sheet = c.args.sheet.now in
    sheet-accepted sheet (bytes_of sheet (λ i. (c.type_inv.sheet i).fits)) c.args.log.now c.args.budget c.run.result _ c.in-Ok.ensures c.run.ensures

pub returns-in-Err : goal.returns-in-Err
returns-in-Err c =
    let sheet = c.args.sheet.now in
    sheet-refused sheet (bytes_of sheet (λ i. (c.type_inv.sheet i).fits)) c.args.log.now c.args.budget c.turned_away.result _ c.in-Err.ensures
    (c.turned_away.ensures ∙ ap (λ (n : ℕ). turned_away n c.in-Err.refused.place) c.number.ensures)
