-- Moving two ranges is moving all: where every range but the event's own already stands as a sibling's event leaves it, and the event's own counts one more, the states and the counts are those
-- that the model gets by moving each range.
-- Assumes nothing.
use mathlib.Core.Path.{◌≡◌, refl, sym, ◌∙◌, ap, subst}
use mathlib.Core.Bool.{Bool, true, false}
use mathlib.Core.List.{List, map}
use Prim.Native.Nat.{ℕ, suc, ◌≤◌, ◌<◌}
use native.Mathlib.Omega.{arith}
use lib.Dec.{T, ltb, eqb}
use lib.ListN.{length, get_or, set, get_or-map, length-map, length-set}
use lib.Seq.{get_or-set_same, get_or-set_other}
use borrow.Author.Tests.{ltb-true, ltb-false, eqb-true, eqb-false}
use Rattle.pattern.specs.Lists.{In}
use Rattle.pattern.specs.Meaning.{Join, Range, fragment_names, Rule}
use Rattle.pattern.specs.Recogniser.{State, idle, counting, own, sibling, next_count, move, moves, tallies, within}
use Rattle.pattern.specs.Model.{round_of, fragment_at, has}
use Rattle.pattern.proofs.Basics.{is_in←}
use Rattle.pattern.proofs.Running.{within-own, within-sibling}
use Rattle.recogniser.specs.Numbers.{state_of}
use Rattle.layout.specs.Pages.{range_at}
use Rattle.layout.proofs.Once.{in-names, same-range}
use Rattle.fragment.proofs.Bytes.{same-list}
use Rattle.step.proofs.Sound.{Sound}
use Rattle.step.proofs.Indices.{Long, moves-length, moves-at, moves-past, tallies-length, tallies-at, tallies-past}

-- an event on range i of fragment n, in the eyes of the fragment's ranges
module _ {rule : Rule} (sound : Sound rule) {n i name : ℕ} (hn : n < length (round_of rule)) (hi : i < length (fragment_at rule n).ranges) (e : name ≡ (range_at rule n i).name) where
  abbrev rs : List Range
  rs = (fragment_at rule n).ranges

  abbrev j : Join
  j = (fragment_at rule n).join

  pub own_at : within name (range_at rule n i) ≡ own
  own_at = within-own name (range_at rule n i) e

  pub sibling-at : (k : ℕ) → k < length (fragment_at rule n).ranges → (k ≡ i → ⊥) → within name (range_at rule n k) ≡ sibling
  sibling-at k hk d = within-sibling name (range_at rule n k) (λ z. d (same-range (fragment_at rule n).ranges (sound.fine n hn).distinct k i hk hi (sym z ∙ e)))

  pub has-it : T (has rule n name)
  has-it = is_in← name (fragment_names (fragment_at rule n)) (subst (λ (m : ℕ). In m (fragment_names (fragment_at rule n))) (sym e) (in-names (fragment_at rule n).ranges i hi))

  -- the model's states and counts before the event; the code's states, but for the event's own range, after it
  pub record Beside (ss : List State) (cs xs : List ℕ) : Type 0 where
    pub states : length ss ≡ 8
    pub counts : length cs ≡ 8
    pub eight : length xs ≡ 8
    pub here : move (fragment_at rule n).join (range_at rule n i) (get_or cs i 0) (get_or ss i idle) own ≡ counting
    pub tallied : next_count (range_at rule n i) (get_or cs i 0) (get_or ss i idle) ≡ suc (get_or cs i 0)
    pub there : (k : ℕ) → k < length (fragment_at rule n).ranges → (k ≡ i → ⊥) → state_of (get_or xs k 0) ≡ move (fragment_at rule n).join (range_at rule n k) (get_or cs k 0) (get_or ss k idle) sibling
    pub past : (k : ℕ) → length (fragment_at rule n).ranges ≤ k → k < 8 → state_of (get_or xs k 0) ≡ get_or ss k idle

  module _ {ss : List State} {cs xs : List ℕ} (b : Beside ss cs xs) where
    few : length (fragment_at rule n).ranges ≤ 8
    few = (sound.count n hn).1

    long : Long (fragment_at rule n).ranges ss cs
    long = record { states = omega (arith, few, b.states); counts = omega (arith, few, b.counts) }

    pub states-moved : map state_of (set xs i 3) ≡ moves (fragment_at rule n).join (within name) (fragment_at rule n).ranges ss cs
    states-moved =
        same-list idle (map state_of (set xs i 3)) (moves j (within name) rs ss cs) (eight' ∙ sym (moves-length j (within name) rs ss cs long ∙ b.states))
        (λ k g. get_or-map state_of (set xs i 3) k 0 ∙ look k (subst (λ (m : ℕ). k < m) eight' g) (ltb k (length rs)) refl (eqb k i) refl)
      where
        eight' : length (map state_of (set xs i 3)) ≡ 8
        eight' = length-map (set xs i 3) state_of ∙ length-set xs i 3 ∙ b.eight

        there' : (k : ℕ) → (k ≡ i → ⊥) → state_of (get_or (set xs i 3) k 0) ≡ state_of (get_or xs k 0)
        there' k d = ap state_of (get_or-set_other xs i k 3 0 d)

        look : (k : ℕ) → k < 8 → (a : Bool) → ltb k (length (fragment_at rule n).ranges) ≡ a → (c : Bool) → eqb k i ≡ c → state_of (get_or (set xs i 3) k 0) ≡ get_or (moves j (within name) rs ss cs) k idle
        look k g true qa true qc =
            subst (λ (x : ℕ). state_of (get_or (set xs i 3) x 0) ≡ get_or (moves j (within name) rs ss cs) x idle) (sym (eqb-true k i qc))
            (ap state_of (get_or-set_same xs i 3 0 (omega (arith, hi, few, b.eight))) ∙ sym (moves-at j (within name) rs ss cs i long hi ∙ rw own_at b.here))
        look k g true qa false qc =
            let l = ltb-true k (length rs) qa in
            let d = eqb-false k i qc in
            there' k d ∙ b.there k l d ∙ sym (moves-at j (within name) rs ss cs k long l ∙ rw (sibling-at k l d))
        look k g false qa c qc = let l = ltb-false k (length rs) qa in there' k (λ z. omega (arith, z, l, hi)) ∙ b.past k l g ∙ sym (moves-past j (within name) rs ss cs k l)

    pub counts-moved : set cs i (suc (get_or cs i 0)) ≡ tallies (within name) (fragment_at rule n).ranges ss cs
    counts-moved =
        same-list 0 (set cs i (suc (get_or cs i 0))) (tallies (within name) rs ss cs) (length-set cs i (suc (get_or cs i 0)) ∙ sym (tallies-length (within name) rs ss cs))
        (λ k g. look k (ltb k (length rs)) refl (eqb k i) refl)
      where
        there' : (k : ℕ) → (k ≡ i → ⊥) → get_or (set cs i (suc (get_or cs i 0))) k 0 ≡ get_or cs k 0
        there' k d = get_or-set_other cs i k (suc (get_or cs i 0)) 0 d

        look : (k : ℕ) (a : Bool) → ltb k (length (fragment_at rule n).ranges) ≡ a → (c : Bool) → eqb k i ≡ c → get_or (set cs i (suc (get_or cs i 0))) k 0 ≡ get_or (tallies (within name) rs ss cs) k 0
        look k true qa true qc =
            subst (λ (x : ℕ). get_or (set cs i (suc (get_or cs i 0))) x 0 ≡ get_or (tallies (within name) rs ss cs) x 0) (sym (eqb-true k i qc))
            (get_or-set_same cs i (suc (get_or cs i 0)) 0 (omega (arith, hi, few, b.counts)) ∙ sym (tallies-at (within name) rs ss cs i long hi ∙ rw own_at b.tallied))
        look k true qa false qc =
            let l = ltb-true k (length rs) qa in
            let d = eqb-false k i qc in
            there' k d ∙ sym (tallies-at (within name) rs ss cs k long l ∙ rw (sibling-at k l d))
        look k false qa c qc = let l = ltb-false k (length rs) qa in there' k (λ z. omega (arith, z, l, hi)) ∙ sym (tallies-past (within name) rs ss cs k l)
