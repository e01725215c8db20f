-- `words::store` meets its contract: the state's 32 bytes are stored one after the other. Assumes nothing.
use mathlib.Core.Path.{◌∙◌, ap, sym}
use Prim.Native.Nat.{ℕ, ◌%◌}
use lib.Seq.{sets}
use native.Mathlib.Omega.{arith}
use lib.ListN.{get_or}
use mir.Syntax.{w8, w16}
use mir.Val.{Fits}
use Rattle.words.specs.Words.{rule_offset}
use Rattle.words.proofs.Bytes.{stored, each-byte}
use Rattle.words.proofs.Laws.{Small, state-stored, stores}
use borrow.Author.Rules.{rules}
use Rattle.words.proofs.store.Goals as goal

pub returns : goal.returns
returns c =
    let a = c.args in
    let states : (i : ℕ) → Fits w8 (get_or a.st.states i 0) = λ i. search rules in
    let counts : (i : ℕ) → Fits w16 (get_or a.st.counts i 0) = λ i. search rules in
    let small : Small a.st = record { end = search rules; states = λ i. (states i).fits; counts = λ i. (counts i).fits; eight_states = search rules; eight_counts = search rules } in
    stores a.m.now (omega arith) small
    (state-stored a.m.now (rule_offset (a.r % 16)) small (stored 4 _ _ _ c.put.ensures c.to_le_bytes.ensures)
    (c.put-2.ensures ∙ ap (sets _ _) (sym (each-byte a.st.states small.states))) c.put_counts.ensures)
