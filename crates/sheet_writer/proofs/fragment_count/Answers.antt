-- `sheet_writer::fragment_count` meets its contract. Assumes nothing.
use mathlib.Core.Path.{◌∙◌, ap}
use Rattle.tables.specs.Words.{cap}
use Rattle.sheet_writer.specs.Parts.{fragment_count}
use Rattle.sheet_writer.proofs.fragment_count.Goals as goal

pub returns : goal.returns
unfolding fragment_count
returns c = c.few.ensures ∙ ap (cap 16) c.fragments_in.ensures
