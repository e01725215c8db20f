-- `live::guard4_open` keeps its promise, by the reader's answer. The place of a refusal fits a u32, however long the sheet is. Assumes nothing.
use mathlib.Core.Path.{◌∙◌, ap}
use Prim.Native.Nat.{ℕ}
use native.Mathlib.Omega.{arith}
use Rattle.pattern.specs.Values.{refused_values}
use Rattle.replies.specs.Replies.{word_of}
use Rattle.book.proofs.Translated.{place-fits}
use Rattle.live.proofs.Lending.{opens-accepted, opens-refused}
use Rattle.live.proofs.guard4_open.Goals as goal

pub overflow_cast-refused : goal.overflow_cast-refused
overflow_cast-refused c = omega (arith, place-fits c.args.sheet.now _ c.in-Err.ensures)

pub returns-in-Ok : goal.returns-in-Ok
returns-in-Ok c =
    opens-accepted c.args.sheet.now _ _ c.in-Ok.ensures _ c.fresh-first.ensures

pub returns-in-Err : goal.returns-in-Err
returns-in-Err c =
    opens-refused c.args.sheet.now _ _ c.in-Err.ensures _
    (c.refused_word.ensures ∙ ap (λ (n : ℕ). word_of (refused_values n c.in-Err.refused.place)) c.number.ensures)
