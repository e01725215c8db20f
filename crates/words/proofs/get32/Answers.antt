-- `words::get32` meets its contract: four bytes, the lowest first. Assumes nothing.
use mathlib.Core.Path.{◌∙◌, ap}
use Rattle.std.specs.Int.{w32, from_le_bytes}
use Rattle.words.proofs.Bytes.{from-four}
use Rattle.words.proofs.get32.Goals as goal

pub returns : goal.returns
returns c = c.from_le_bytes.ensures ∙ ap (from_le_bytes w32) c.bytes_at.ensures ∙ from-four c.args.m.now c.args.at
