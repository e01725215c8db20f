-- `words::get16` meets its contract: two bytes, the low one first. Assumes nothing.
use mathlib.Core.Path.{◌∙◌, ap}
use Rattle.std.specs.Int.{w16, from_le_bytes}
use Rattle.words.proofs.Bytes.{from-two}
use Rattle.words.proofs.get16.Goals as goal

pub returns : goal.returns
returns c = c.from_le_bytes.ensures ∙ ap (from_le_bytes w16) c.bytes_at.ensures ∙ from-two c.args.m.now c.args.at
