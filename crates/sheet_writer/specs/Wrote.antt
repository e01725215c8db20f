-- What a writer has put into the buffer. Assumes nothing.
use Rattle.std.specs.Prelude.{◌≡◌, List, ℕ, ◌+◌, ◌≤◌, length}
use Rattle.std.proofs.lemmas.List.Edits.{sets}
use Rattle.sheet_writer.specs.declared.Writer.{Writer}

-- the bytes fit behind what is there
abbrev pub HasRoom : Writer → List ℕ → Type 0
HasRoom w bytes = w.at + length bytes ≤ length w.buffer.now

-- the bytes stand where the writer was, it is now behind them, and nothing else changed
pub record Wrote (before after : Writer) (bytes : List ℕ) : Type 0 where
  pub same_buffer : after.buffer.ghost_name ≡ before.buffer.ghost_name
  pub at : after.at ≡ before.at + length bytes
  pub buffer : after.buffer.now ≡ sets before.buffer.now before.at bytes
