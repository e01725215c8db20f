-- `fields::number` meets its contract: the number of eight bytes is that of the field's, if the others are 0. Assumes nothing.
use Rattle.std.proofs.Common.{◌≡◌, ◌∙◌, sym, ap, ℕ, zero, suc, ◌+◌, ◌-◌, ◌≤◌, ◌++◌, List, length, get_or, drop, replicate, refl, arith}
use Rattle.std.specs.Int.{w64, from_le_bytes}
use Rattle.std.proofs.lemmas.List.{get_or_append_left, get_or-append_right, get_or-drop}
use Rattle.layout.specs.Form.{number}
use Rattle.layout.proofs.Fields.{bytes_of, number_small}
use Rattle.fields.proofs.Numbers.{number-same, number-padded, number-eight}
use Rattle.fields.proofs.number.Goals as goal

zeros : (n i : ℕ) → ◌≡◌ {A = ℕ} (get_or (replicate n 0) i 0) 0
zeros zero i = refl
zeros (suc n) zero = refl
zeros (suc n) (suc i) = zeros n i

-- the field's bytes, in place of as many of eight zeros
padded : (s t : List ℕ) → t ≡ s → length s ≤ 8 → from_le_bytes w64 (t ++ drop (length s) (replicate 8 0)) ≡ number s (length s) 0
padded s t e h =
    let n : ℕ = length s in
    let all : List ℕ = s ++ drop n (replicate 8 0) in
    let whole : n + (8 - n) ≡ 8 = omega arith in
    let after : (i : ℕ) → 0 + n ≤ i → get_or all i 0 ≡ 0
    = λ i l. let back : n + (i - n) ≡ i = omega arith in get_or-append_right s _ n i 0 refl (omega arith) ∙ get_or-drop n _ (i - n) 0 ∙ zeros 8 (n + (i - n)) in
    ap (λ (l : List ℕ). from_le_bytes w64 (l ++ drop n (replicate 8 0))) e
    ∙ (number-eight all ∙ (ap (λ (k : ℕ). number all k 0) (sym whole) ∙ (number-padded all n (8 - n) 0 after
    ∙ number-same all s n 0 0 (λ i l. get_or_append_left s _ 0 (0 + i) (omega arith)))))

pub returns : goal.returns
returns c = (
  c.from_le_bytes.ensures ∙ padded c.args.field.now _ c.copy_from_slice.ensures.after c.requires,
  number_small c.args.field.now (bytes_of c.args.field.now (λ i. (c.type_inv.field i).fits)) _ _,
)
