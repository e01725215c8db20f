-- `fragment::waiting` meets its contract. Assumes nothing.
use mathlib.Core.Path.{◌∙◌, ap}
use Rattle.std.specs.Int.{w64, to_le_bytes}
use Rattle.fragment.specs.Fragments.{waiting_of}
use Rattle.fragment.proofs.Bytes.{low-digits}
use Rattle.fragment.proofs.waiting.Goals as goal

pub returns : goal.returns
unfolding waiting_of
returns c = c.to_le_bytes.ensures ∙ ap (to_le_bytes w64) c.cut.ensures ∙ low-digits 8 _
