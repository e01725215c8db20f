-- One range of a fragment gets another state and count, and its bits with them: the rest stays as it is, and so do the facts of `Ranges`. An event makes one such change, or two.
-- Of the count what is stored is saturated; the facts are of the count itself.
-- Assumes nothing.
use mathlib.Core.Path.{◌≡◌, refl, sym, ◌∙◌, ap, subst}
use mathlib.Core.Bool.{Bool, true, false, cond}
use mathlib.Core.List.{List, [], ◌∷◌, map}
use Prim.Native.Nat.{ℕ, zero, suc, ◌≤◌, ◌<◌}
use native.Mathlib.Omega.{arith}
use lib.Dec.{eqb}
use lib.ListN.{length, get_or, set, length-set}
use lib.Seq.{get_or-set_same, get_or-set_other}
use borrow.Author.Tests.{lt-ltb, eqb-true, eqb-false}
use Rattle.pattern.specs.Meaning.{Rule}
use Rattle.pattern.specs.Recogniser.{Class, own, next, move, is_error}
use Rattle.pattern.specs.Model.{fragment_at}
use Rattle.recogniser.specs.Numbers.{state_of}
use Rattle.recogniser.specs.Counts.{saturated}
use Rattle.layout.specs.Pages.{range_at}
use Rattle.masks.specs.Masks.{mask_n}
use Rattle.rule_state.specs.declared.RuleState.{RuleState}
use Rattle.step.specs.Steps.{put_of}
use Rattle.step.specs.Shows.{InPlay, would_err, Ranges}
use Rattle.step.proofs.Sets.{put_is}

-- a value set before a function of each element, or after it
map-set : (f : ℕ → ℕ) (l : List ℕ) (i v : ℕ) → map f (set l i v) ≡ set (map f l) i (f v)
map-set f [] i v = refl
map-set f (x ∷ xs) zero v = refl
map-set f (x ∷ xs) (suc i) v = ap (λ (t : List ℕ). f x ∷ t) (map-set f xs i v)

-- st' is st, where range i of fragment n has this state and this count, and its bits say what *next* and *own* would be to it
pub record Replaced (rule : Rule) (n : ℕ) (st : RuleState) (i state count : ℕ) (st' : RuleState) : Type 0 where
  pub states : st'.states ≡ set st.states i state
  pub counts : st'.counts ≡ set st.counts i (saturated count)
  pub lacking : st'.lacking ≡ put_of st.lacking i (is_error (move (fragment_at rule n).join (range_at rule n i) count (state_of state) next))
  pub full : st'.full ≡ put_of st.full i (is_error (move (fragment_at rule n).join (range_at rule n i) count (state_of state) own))

module _ {rule : Rule} {n : ℕ} {cs : List ℕ} {st st' : RuleState} {i state count : ℕ} (r : Replaced rule n st i state count st') (w : Ranges rule n cs st)
    (few : length (fragment_at rule n).ranges ≤ 8) (hi : i < length (fragment_at rule n).ranges) where
  abbrev size : ℕ
  size = length (fragment_at rule n).ranges

  -- ---- place by place

  pub state-here : get_or st'.states i 0 ≡ state
  state-here = ap (λ (l : List ℕ). get_or l i 0) r.states ∙ get_or-set_same st.states i state 0 (omega (arith, hi, few, w.eight_states))

  pub state-there : (k : ℕ) → (k ≡ i → ⊥) → get_or st'.states k 0 ≡ get_or st.states k 0
  state-there k d = ap (λ (l : List ℕ). get_or l k 0) r.states ∙ get_or-set_other st.states i k state 0 d

  count-here : get_or (set cs i count) i 0 ≡ count
  count-here = get_or-set_same cs i count 0 (omega (arith, hi, few, w.eight_counts))

  count-there : (k : ℕ) → (k ≡ i → ⊥) → get_or (set cs i count) k 0 ≡ get_or cs k 0
  count-there k d = get_or-set_other cs i k count 0 d

  -- ---- the sets

  module _ (class : Class) where
    abbrev bit : Bool
    bit = is_error (move (fragment_at rule n).join (range_at rule n i) count (state_of state) class)

    abbrev before : ℕ → Bool
    before = would_err rule n cs st class

    abbrev after : ℕ → Bool
    after = would_err rule n (set cs i count) st' class

    column : (k : ℕ) → k < 8 → cond (eqb k i) bit (before k) ≡ after k
    column k g = look (eqb k i) refl
      where
        look : (b : Bool) → eqb k i ≡ b → cond b bit (before k) ≡ after k
        look true q = subst (λ (x : ℕ). bit ≡ after x) (sym (eqb-true k i q)) (sym (rw (lt-ltb i size hi, state-here, count-here)))
        look false q = let d = eqb-false k i q in sym (rw (state-there k d, count-there k d))

    set-kept : {s s' : ℕ} → s ≡ mask_n before 8 → s' ≡ put_of s i bit → s' ≡ mask_n after 8
    set-kept e e' = e' ∙ ap (λ (x : ℕ). put_of x i bit) e ∙ put_is before after i bit column

  -- ---- all of it

  pub kept : InPlay (fragment_at rule n).join (range_at rule n i) state count → Ranges rule n (set cs i count) st'
  kept p = record {
    eight_states = ap length r.states ∙ length-set st.states i state ∙ w.eight_states;
    eight_counts = length-set cs i count ∙ w.eight_counts;
    stored = r.counts ∙ ap (λ (l : List ℕ). set l i (saturated count)) w.stored ∙ sym (map-set saturated cs i count);
    each = λ k g. look k g (eqb k i) refl;
    idle = λ k l g. state-there k (λ z. omega (arith, z, l, hi)) ∙ w.idle k l g;
    lacking = set-kept next w.lacking r.lacking;
    full = set-kept own w.full r.full;
  }
    where
      Here : ℕ → Type 0
      Here k = InPlay (fragment_at rule n).join (range_at rule n k) (get_or st'.states k 0) (get_or (set cs i count) k 0)

      look : (k : ℕ) → k < length (fragment_at rule n).ranges → (b : Bool) → eqb k i ≡ b → Here k
      look k g true q = subst Here (sym (eqb-true k i q)) (rw (state-here, count-here) p)
      look k g false q = let d = eqb-false k i q in rw (state-there k d, count-there k d) (w.each k g)
