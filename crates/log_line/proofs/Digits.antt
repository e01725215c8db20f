-- Digits that are written one before the other, the lowest first. While some are still to come, they and what is written are the whole numeral: `Writing`.
-- Assumes nothing.
use mathlib.Core.Path.{◌≡◌, ◌∙◌}
use mathlib.Core.List.{[], ◌∷◌, ◌++◌, append_assoc}
use Prim.Native.Nat.{ℕ, zero, suc, ◌+◌, ◌/◌, ◌<◌, ◌≤◌}
use native.Mathlib.Omega.{arith}
use lib.ListN.{length}
use Rattle.runner.specs.declared.Outcome.{Outcome}
use Rattle.log_line.specs.declared.text.Line.{Line}
use Rattle.log_line.specs.Line.{space, newline, decimal, numeral, text, Before, Made}

-- x has at most k + 1 digits
abbrev pub Few : ℕ → ℕ → Type 0
Few zero x = x < 10
Few (suc k) x = Few k (x / 10)

module _ (line₀ : Line) (x : ℕ) where
  pub record Writing (line : Line) (rest : ℕ) : Type 0 where
    -- one less than the digits that there is room for
    pub k : ℕ
    pub room : line₀.start + k ≤ line.start + 9
    pub few : k ≤ 9
    pub fits : Few k rest
    pub long : length line.bytes ≡ length line₀.bytes
    pub inside : line.start ≤ line₀.start
    pub same : numeral x ++ text line₀ ≡ decimal (suc k) rest ++ text line

-- ---- five numbers, each with a character after it

module _ (o : Outcome) {none a b c d e : Line} {mask refusal answer : ℕ} (long : length none.bytes ≡ 55) (end : none.start ≡ 55) (nil : text none ≡ [])
    (w₁ : Before 11 (numeral o.place ++ (newline ∷ [])) none a) (w₂ : Before 11 (numeral o.taken ++ (space ∷ [])) a b)
    (w₃ : Before 11 (numeral mask ++ (space ∷ [])) b c) (w₄ : Before 11 (numeral refusal ++ (space ∷ [])) c d)
    (w₅ : Before 11 (numeral answer ++ (space ∷ [])) d e)
    (wide₃ : mask ≡ o.mask) (wide₄ : refusal ≡ o.refusal) (wide₅ : answer ≡ o.answer) where
  pub made : Made o e
  made = record {
    long = w₅.long ∙ w₄.long ∙ w₃.long ∙ w₂.long ∙ w₁.long ∙ long;
    inside = omega (arith, end, w₁.inside, w₂.inside, w₃.inside, w₄.inside, w₅.inside);
    line = simp (w₅.written, w₄.written, w₃.written, w₂.written, w₁.written, wide₃, wide₄, wide₅, nil, append_assoc);
  }
