-- `sheet_writer::write` keeps its promise: the size first, then the bytes. Assumes nothing.
use mathlib.Core.Path.{◌≡◌, ◌∙◌, ap}
use mathlib.Core.List.{List}
use lib.ListN.{length}
use lib.Seq.{sets}
use borrow.Author.Rules.{rules}
use Rattle.sheet_writer.specs.Parts.{table_bytes}
use Rattle.sheet_writer.proofs.Writing.{writes_nothing, writes-all}
use Rattle.sheet_writer.proofs.write.Goals as goal

pub returns-then-buffer-bytes : goal.returns-then-buffer-bytes
returns-then-buffer-bytes c =
    let s = c.args in
    let size = c.size-bytes.ensures ∙ ap (λ (t : List _). length (table_bytes t)) c.new-places.ensures in
    writes_nothing s.table.now s.buffer.now _ size _ c.if-buffer-bytes.true

pub returns : goal.returns
returns c =
    let s = c.args in
    let size = c.size-bytes.ensures ∙ ap (λ (t : List _). length (table_bytes t)) c.new-places.ensures in
    let put : c.put_sheet.new.self.buffer.now ≡ sets s.buffer.now 0 (table_bytes s.table.now) = c.put_sheet.ensures.buffer ∙ ap (λ (t : List _). sets s.buffer.now 0 (table_bytes t)) c.new-places.ensures in
    writes-all s.table.now s.buffer.now _ size _ c.if-buffer-bytes.false (search rules ∙ put)
