-- The twelve bytes: five fields, each stored where the last one ends. Assumes nothing.
use mathlib.Core.Path.{◌≡◌, ◌∙◌, ap}
use mathlib.Core.List.{List, ◌++◌}
use Prim.Native.Nat.{ℕ, ◌≤◌}
use lib.ListN.{length, drop}
use lib.Seq.{sets, sets-eq}
use Rattle.layout.specs.Layout.{le}
use Rattle.runner.specs.declared.Outcome.{Outcome}
use Rattle.host.specs.Host.{twelve}

pub stored-twelve : (o : Outcome) (l : List ℕ) {a b c d e : List ℕ} → 12 ≤ length l → a ≡ sets l 0 (le 1 o.answer) → b ≡ sets a 1 (le 1 o.refusal) → c ≡ sets b 2 (le 2 o.mask)
    → d ≡ sets c 4 (le 4 o.taken) → e ≡ sets d 8 (le 4 o.place) → e ≡ twelve o ++ drop 12 l
stored-twelve o l h answer refusal mask taken place =
    place ∙ ap (λ (x : List ℕ). sets x 8 (le 4 o.place)) (taken ∙ ap (λ (x : List ℕ). sets x 4 (le 4 o.taken))
    (mask ∙ ap (λ (x : List ℕ). sets x 2 (le 2 o.mask)) (refusal ∙ ap (λ (x : List ℕ). sets x 1 (le 1 o.refusal)) answer)))
    ∙ sets-eq (twelve o) l 0 h
