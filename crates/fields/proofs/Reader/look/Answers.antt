-- `Reader::look` meets its contract: the number of a piece of the bytes is that at the reader's place. Assumes nothing.
use Rattle.std.proofs.Common.{◌≡◌, ◌∙◌, zero-add, subst, ℕ, ◌+◌, ◌-◌, ◌≤◌, List, length, take, drop, arith}
use Rattle.std.proofs.lemmas.List.{get_or-take, get_or-drop, length-take-le, length-drop}
use Rattle.layout.specs.Form.{number}
use Rattle.fields.specs.Values.{Value}
use Rattle.fields.proofs.Numbers.{number-same}
use Rattle.fields.proofs.Reader.look.Goals as goal

-- the bytes from a place to an end
abbrev piece : List ℕ → ℕ → ℕ → List ℕ
piece s at end = take (end - at) (drop at s)

piece-value : (s : List ℕ) (at n : ℕ) {x : ℕ} → at + n ≤ length s → Value (length (piece s at (at + n))) x (number (piece s at (at + n)) (length (piece s at (at + n))) 0)
    → Value n x (number s n at)
piece-value s at n {x} h v =
    let t : List ℕ = piece s at (at + n) in
    let long : length t ≡ n = length-take-le _ (drop at s) (omega (arith, length-drop {A = ℕ})) ∙ omega arith in
    let same : number t n 0 ≡ number s n at
    = number-same t s n 0 at (λ i l. rw zero-add (get_or-take (at + n - at) (drop at s) i 0 (omega arith) ∙ get_or-drop at s i 0)) in
    subst (λ (k : ℕ). Value n x k) same (subst (λ (k : ℕ). Value k x (number t k 0)) long v)

pub returns : goal.returns
returns c = (c.if-self-end.false, piece-value c.args.self.now.bytes.now _ _ c.if-self-end.false c.number.ensures)
