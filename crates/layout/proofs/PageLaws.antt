-- Looking a sheet's pages up: the head of rule r, the word of its fragment f and that of that fragment's range s stand where `Pages` says.
-- A table is filled from the front: an entry is what was put there last, and nothing that is put later reaches back.
-- Assumes nothing.
use mathlib.Core.Path.{◌≡◌, refl, ap, sym, subst, ◌∙◌}
use mathlib.Core.Logic.{inr}
use mathlib.Core.List.{List, [], ◌∷◌, ◌++◌}
use Prim.Native.Nat.{ℕ, zero, suc, ◌+◌, ◌*◌, ◌<◌, ◌≤◌}
use native.Mathlib.Nat.{mul-suc, add-zero}
use native.Mathlib.Omega.{arith}
use lib.ListN.{length, get_or, take, replicate, length-set, length-append, length-replicate}
use lib.Seq.{get_or-set_same, get_or-set_other}
use Rattle.pattern.specs.Lists.{Each}
use Rattle.pattern.specs.Meaning.{Range, Fragment, Kind, once, repeated, timed, Rule, WellFormedFragment, WellFormed}
use Rattle.pattern.specs.Model.{trigger_fragment, last_fragments, round_of, no_fragment, fragment_at}
use Rattle.layout.specs.Layout.{header_of}
use Rattle.layout.specs.Pages.{range_word, fragment_word, header_word, fill, put_range, put_ranges, put_fragment, put_rule_ranges, put_rule_fragments, put_rule, head_table, fragment_table, range_table, no_range, no_rule, rule_at, range_at}
use Rattle.layout.proofs.Sets.{each_append}

-- ---- tables

module _ {A : Type 0} (put : List ℕ → ℕ → A → List ℕ) where
  pub fill-length : ((t : List ℕ) (k : ℕ) (x : A) → length (put t k x) ≡ length t) → (t : List ℕ) (k : ℕ) (xs : List A) → length (fill put t k xs) ≡ length t
  fill-length same t k [] = refl
  fill-length same t k (x ∷ xs) = fill-length same (put t k x) (suc k) xs ∙ same t k x

  -- each element has w entries
  module _ (w : ℕ) (later : (t : List ℕ) (k : ℕ) (x : A) (i : ℕ) → i < w * k → get_or (put t k x) i 0 ≡ get_or t i 0) where
    -- what is put at the numbers from k on leaves the entries before
    pub fill-later : (t : List ℕ) (k : ℕ) (xs : List A) (i : ℕ) → i < w * k → get_or (fill put t k xs) i 0 ≡ get_or t i 0
    fill-later t k [] i h = refl
    fill-later t k (x ∷ xs) i h = fill-later (put t k x) (suc k) xs i (omega (arith, mul-suc w k, h)) ∙ later t k x i h

    -- an entry of element j is what was put for it
    pub fill-entry : (d : A) (t : List ℕ) (k : ℕ) (xs : List A) (j i : ℕ) → j < length xs → i < w * (k + j) + w
        → get_or (fill put t k xs) i 0 ≡ get_or (put (fill put t k (take j xs)) (k + j) (get_or xs j d)) i 0
    fill-entry d t k [] j i l h = absurd (omega (arith, l))
    fill-entry d t k (x ∷ xs) zero i l h = rw add-zero (fill-later (put t k x) (suc k) xs i (start (rw add-zero at h)))
      where
        start : i < w * k + w → i < w * suc k
        start h = omega (arith, mul-suc w k, h)
    fill-entry d t k (x ∷ xs) (suc j) i l h =
        let e : suc k + j ≡ k + suc j = omega arith in
        fill-entry d (put t k x) (suc k) xs j i (omega (arith, l)) (subst (λ (n : ℕ). i < w * n + w) (sym e) h)
        ∙ ap (λ (n : ℕ). get_or (put (fill put (put t k x) (suc k) (take j xs)) n (get_or xs j d)) i 0) e

range-later : (t : List ℕ) (k : ℕ) (r : Range) (i : ℕ) → i < 1 * k → get_or (put_range t k r) i 0 ≡ get_or t i 0
range-later t k r i h = get_or-set_other t k i (range_word r) 0 (λ e. omega (arith, h, e))

ranges-later : (t : List ℕ) (k : ℕ) (f : Fragment) (i : ℕ) → i < 8 * k → get_or (put_ranges t k f) i 0 ≡ get_or t i 0
ranges-later t k f i h = fill-later put_range 1 range-later t (8 * k) f.ranges i (omega (arith, h))

rule-ranges-later : (t : List ℕ) (k : ℕ) (r : Rule) (i : ℕ) → i < 128 * k → get_or (put_rule_ranges t k r) i 0 ≡ get_or t i 0
rule-ranges-later t k r i h = fill-later put_ranges 8 ranges-later t (16 * k) (round_of r) i (omega (arith, h))

fragment-later : (t : List ℕ) (k : ℕ) (f : Fragment) (i : ℕ) → i < 1 * k → get_or (put_fragment t k f) i 0 ≡ get_or t i 0
fragment-later t k f i h = get_or-set_other t k i (fragment_word f) 0 (λ e. omega (arith, h, e))

rule-fragments-later : (t : List ℕ) (k : ℕ) (r : Rule) (i : ℕ) → i < 16 * k → get_or (put_rule_fragments t k r) i 0 ≡ get_or t i 0
rule-fragments-later t k r i h = fill-later put_fragment 1 fragment-later t (16 * k) (round_of r) i (omega (arith, h))

rule-later : (t : List ℕ) (k : ℕ) (r : Rule) (i : ℕ) → i < 1 * k → get_or (put_rule t k r) i 0 ≡ get_or t i 0
rule-later t k r i h = get_or-set_other t k i (header_word (header_of r)) 0 (λ e. omega (arith, h, e))

ranges-length : (t : List ℕ) (k : ℕ) (f : Fragment) → length (put_ranges t k f) ≡ length t
ranges-length t k f = fill-length put_range (λ t k r. length-set t k (range_word r)) t (8 * k) f.ranges

rule-ranges-length : (t : List ℕ) (k : ℕ) (r : Rule) → length (put_rule_ranges t k r) ≡ length t
rule-ranges-length t k r = fill-length put_ranges ranges-length t (16 * k) (round_of r)

rule-fragments-length : (t : List ℕ) (k : ℕ) (r : Rule) → length (put_rule_fragments t k r) ≡ length t
rule-fragments-length t k r = fill-length put_fragment (λ t k f. length-set t k (fragment_word f)) t (16 * k) (round_of r)

-- ---- the pages

module _ (rules : List Rule) (r : ℕ) (present : r < length rules) (few : r < 16) where
  pub head_at_lem : get_or (head_table rules) r 0 ≡ header_word (header_of (rule_at rules r))
  unfolding head_table
  head_at_lem =
      fill-entry put_rule 1 rule-later no_rule (replicate 16 0) 0 rules r r present (omega arith)
      ∙ ap (λ (i : ℕ). get_or (put_rule (fill put_rule (replicate 16 0) 0 (take r rules)) i (rule_at rules r)) r 0) (omega arith)
      ∙ get_or-set_same (fill put_rule (replicate 16 0) 0 (take r rules)) r _ 0
      (subst (λ (n : ℕ). r < n) (sym (fill-length put_rule (λ t k x. length-set t k (header_word (header_of x))) (replicate 16 0) 0 (take r rules))) few)

  module _ (f : ℕ) (inside : f < length (round_of (rule_at rules r))) (fewer : f < 16) where
    pub fragment-at : get_or (fragment_table rules) (16 * r + f) 0 ≡ fragment_word (fragment_at (rule_at rules r) f)
    unfolding fragment_table
    fragment-at =
        let rule : Rule = rule_at rules r in
        let t : List ℕ = fill put_rule_fragments (replicate 256 0) 0 (take r rules) in
        let t' : List ℕ = fill put_fragment t (16 * r) (take f (round_of rule)) in
        let l : length t' ≡ 256
        = fill-length put_fragment (λ t k x. length-set t k (fragment_word x)) t (16 * r) (take f (round_of rule))
        ∙ fill-length put_rule_fragments rule-fragments-length (replicate 256 0) 0 (take r rules) ∙ length-replicate {A = ℕ} 256 0 in
        fill-entry put_rule_fragments 16 rule-fragments-later no_rule (replicate 256 0) 0 rules r (16 * r + f) present (omega arith)
        ∙ ap (λ (i : ℕ). get_or (put_rule_fragments t i rule) (16 * r + f) 0) (omega arith)
        ∙ fill-entry put_fragment 1 fragment-later no_fragment t (16 * r) (round_of rule) f (16 * r + f) inside (omega arith)
        ∙ get_or-set_same t' (16 * r + f) _ 0 (omega (arith, l))

    pub range_at_lem : (s : ℕ) → s < length (fragment_at (rule_at rules r) f).ranges → s < 8
        → get_or (range_table rules) (8 * (16 * r + f) + s) 0 ≡ range_word (range_at (rule_at rules r) f s)
    unfolding range_table
    range_at_lem s within fewest =
        let rule : Rule = rule_at rules r in
        let i : ℕ = 8 * (16 * r + f) + s in
        let t : List ℕ = fill put_rule_ranges (replicate 2048 0) 0 (take r rules) in
        let t' : List ℕ = fill put_ranges t (16 * r) (take f (round_of rule)) in
        let t'' : List ℕ = fill put_range t' (8 * (16 * r + f)) (take s (fragment_at rule f).ranges) in
        let l : length t'' ≡ 2048
        = fill-length put_range (λ t k x. length-set t k (range_word x)) t' (8 * (16 * r + f)) (take s (fragment_at rule f).ranges)
        ∙ fill-length put_ranges ranges-length t (16 * r) (take f (round_of rule))
        ∙ fill-length put_rule_ranges rule-ranges-length (replicate 2048 0) 0 (take r rules) ∙ length-replicate {A = ℕ} 2048 0 in
        fill-entry put_rule_ranges 128 rule-ranges-later no_rule (replicate 2048 0) 0 rules r i present (omega arith)
        ∙ ap (λ (j : ℕ). get_or (put_rule_ranges t j rule) i 0) (omega arith)
        ∙ fill-entry put_ranges 8 ranges-later no_fragment t (16 * r) (round_of rule) f i inside (omega arith)
        ∙ fill-entry put_range 1 range-later no_range t' (8 * (16 * r + f)) (fragment_at rule f).ranges s i within (omega arith)
        ∙ get_or-set_same t'' i _ 0 (omega (arith, l))

-- ---- a well-formed rule's round

trigger-formed : (i : ℕ) → i ≤ 63 → WellFormedFragment (trigger_fragment i)
trigger-formed i h = record { count = omega arith; ranges = (record { named = h; some = omega arith; small = omega arith; order = inr (omega arith); few = omega arith }, tt) }

-- every fragment of the round is well-formed, the trigger's too
pub round-formed : (r : Rule) → WellFormed r → Each WellFormedFragment (round_of r)
round-formed r w = each_append WellFormedFragment r.p (last_fragments r.kind) w.p.fragments (last r.kind r.p w)
  where
    last : (K : Kind) (p : List Fragment) → WellFormed (record { kind = K; p = p }) → Each WellFormedFragment (last_fragments K)
    last (once i) p w = (trigger-formed i w.kind, tt)
    last (repeated i) p w = (trigger-formed i w.kind, tt)
    last (timed q t) p w = w.kind.0.fragments

-- and there are at most 16
pub round-few : (r : Rule) → WellFormed r → length (round_of r) ≤ 16
round-few r w = go r.kind r.p w
  where
    go : (K : Kind) (p : List Fragment) → WellFormed (record { kind = K; p = p }) → length (p ++ last_fragments K) ≤ 16
    go (once i) p w = omega (arith, w.p.count, length-append p (trigger_fragment i ∷ []))
    go (repeated i) p w = omega (arith, w.p.count, length-append p (trigger_fragment i ∷ []))
    go (timed q t) p w = omega (arith, w.p.count, w.kind.0.count, length-append p q)

-- a property of each element is one of the element at an index
pub each_at : {A : Type 0} (P : A → Type 0) (d : A) (xs : List A) (i : ℕ) → Each P xs → i < length xs → P (get_or xs i d)
each_at P d [] i g h = absurd (omega (arith, h))
each_at P d (x ∷ xs) zero g h = g.0
each_at P d (x ∷ xs) (suc i) g h = each_at P d xs i g.1 (omega (arith, h))
