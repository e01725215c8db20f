-- A round ends: each step takes a byte, or fills a range below its u, or is the first of its fragment, or leaves it, so that `steps` falls. More steps say nothing more, and a missing byte is a 0.
-- Assumes nothing.
use mathlib.Core.Path.{◌≡◌, refl, sym, ◌∙◌, ap}
use mathlib.Core.Logic.{◌⊎◌, inl, inr}
use mathlib.Core.Bool.{Bool, true, false, cond, not, true≢false, and-eq-true_iff}
use mathlib.Core.List.{List, [], ◌∷◌, ◌++◌, append-nil}
use Prim.Native.Nat.{ℕ, zero, suc, ◌+◌, ◌-◌, ◌%◌, ◌≤◌, ◌<◌}
use native.Mathlib.Nat.{le_refl, mod-lt, mod-le, zero-lt-suc}
use native.Mathlib.Omega.{arith}
use lib.Dec.{ltb, eqb}
use lib.ListN.{length, get_or, set, replicate, length-set, length-append}
use lib.Seq.{get_or-set_same}
use borrow.Author.Tests.{eq-eqb, eqb-true, ltb-true, ltb-false, leb-false, not-true}
use Rattle.std.specs.Prelude.{Option, Some, None, is_some, is_none}
use Rattle.std.specs.Option.{option_eq}
use Rattle.pattern.specs.Lists.{Each}
use Rattle.pattern.specs.Meaning.{Fragment, Rule, WellFormedFragment, WellFormed}
use Rattle.pattern.specs.Model.{round_of}
use Rattle.pattern.proofs.Basics.{same?, true-or-false, zero_one}
use Rattle.layout.proofs.PageLaws.{round-formed}
use Rattle.tables.proofs.Names.{first-few, first_passes, first-before}
use Rattle.rule_player.specs.declared.Filling.{Filling}
use Rattle.rule_player.specs.declared.Step.{Step}
use Rattle.rule_player.specs.declared.Step.TheVariants.{Name, Leave}
use Rattle.rule_player.specs.Choice.{empty, count_of, comes, range_of, enough_of, may_come, is_short, first_short, needs_every, may_end, needed, towards_the_end, picked, step_by}
use Rattle.rule_player.specs.Choice.{first_byte, other_bytes, Stand, start, said_by, leads_to, walk, sum_to, lack_in, lack_at, steps, chosen_from, chosen}

-- fragments of at most eight ranges
abbrev pub Small : List Fragment → Type 0
Small = Each (λ (f : Fragment). length f.ranges ≤ 8)

abbrev standing : List Fragment → Filling → List ℕ → Stand
standing fs s bytes = record { fragments = fs; filling = s; bytes = bytes }

-- ---- which range's name came last, if any has

pub some-or-none : (o : Option ℕ) → (o ≡ None) ⊎ ((l : ℕ) × (o ≡ Some l))
some-or-none None = inl refl
some-or-none (Some l) = inr (l, refl)

pub some≢none : {l : ℕ} → ◌≡◌ {A = Option ℕ} (Some l) None → ⊥
some≢none e = let q : ◌≡◌ {A = ℕ} 0 1 = cc in zero_one q

pub same-some : {k l : ℕ} → ◌≡◌ {A = Option ℕ} (Some k) (Some l) → k ≡ l
same-some e = cc

pub the-last-is : (o : Option ℕ) (k : ℕ) → option_eq eqb o (Some k) ≡ true → o ≡ Some k
the-last-is None k e = absurd (true≢false (sym e))
the-last-is (Some l) k e = ap Some (eqb-true l k e)

-- ---- sums

module _ (g h : ℕ → ℕ) (le : (i : ℕ) → h i ≤ g i) where
  sum-keeps : (n : ℕ) → sum_to h n ≤ sum_to g n
  sum-keeps zero = le_refl 0
  sum-keeps (suc n) = omega (arith, sum-keeps n, le n)

  sum-falls : (n k : ℕ) → k < n → h k < g k → sum_to h n < sum_to g n
  sum-falls zero k l less = absurd (omega arith)
  sum-falls (suc n) k l less = elim (same? k n) [
    | inl e ↦ let here : h n < g n = rw e at less in omega (arith, sum-keeps n)
    | inr d ↦ omega (arith, sum-falls n k (omega arith) less, le n)
  ]

set-grows : (l : List ℕ) (i j : ℕ) → get_or l j 0 ≤ get_or (set l i (suc (get_or l i 0))) j 0
set-grows [] i j = le_refl 0
set-grows (x ∷ l) zero zero = omega arith
set-grows (x ∷ l) zero (suc j) = le_refl (get_or l j 0)
set-grows (x ∷ l) (suc i) zero = le_refl x
set-grows (x ∷ l) (suc i) (suc j) = set-grows l i j

module _ (f : Fragment) (s : Filling) where
  abbrev count : ℕ
  count = length f.ranges

  -- ---- what is lacking, once a name has come

  abbrev lacks : Filling → ℕ → ℕ
  lacks t i = (range_of f i).u - count_of t i

  lacks_less : (i j : ℕ) → lacks (comes s i) j ≤ lacks s j
  lacks_less i j = omega (arith, set-grows s.counts i j)

  -- no more than before; and less, where it is the first of its fragment
  lack-keeps : (i : ℕ) → lack_in f (comes s i) + cond (is_none s.last) 1 0 ≤ lack_in f s
  lack-keeps i = omega (arith, sum-keeps (lacks s) (lacks (comes s i)) (lacks_less i) count)

  -- and where there were not enough of it
  lack-falls : (i : ℕ) → i < count → count ≤ length s.counts → enough_of f s i ≡ false → lack_in f (comes s i) < lack_in f s
  lack-falls i l few short =
      let less : lacks (comes s i) i < lacks s i = rw (get_or-set_same s.counts i (suc (count_of s i)) 0 (omega arith)) (omega (arith, leb-false (range_of f i).u (count_of s i) short)) in
      omega (arith, sum-falls (lacks s) (lacks (comes s i)) (lacks_less i) count i l less)

  -- ---- what must come

  -- it is the first short range of those that have come; if there is none, of all; else 0
  needed-is : (P : ℕ → Type 0) → (first_short f s false < count → P (first_short f s false)) → (count ≤ first_short f s false → first_short f s true < count → P (first_short f s true))
      → (count ≤ first_short f s false → count ≤ first_short f s true → P 0) → P (needed f s)
  needed-is P begun other none = elim (true-or-false (ltb (first_short f s false) count)) [
    | inl e ↦ rw e (begun (ltb-true _ _ e))
    | inr e ↦ elim (true-or-false (ltb (first_short f s true) count)) [
      | inl d ↦ rw (e, d) (other (ltb-false _ _ e) (ltb-true _ _ d))
      | inr d ↦ rw (e, d) (none (ltb-false _ _ e) (ltb-false _ _ d))
    ]
  ]

  -- its number is a range's
  pub needed-within : 1 ≤ length f.ranges → needed f s < length f.ranges
  needed-within some = needed-is (λ i. i < count) (λ l. l) (λ p l. l) (λ p q. some)

  -- a range that has come and is short is needed before one that has not come
  pub needed-begun : (l : ℕ) → l < length f.ranges → is_short f s false l ≡ true → is_short f s false (needed f s) ≡ true
  needed-begun l h q = needed-is (λ i. is_short f s false i ≡ true) (λ a. first_passes (is_short f s false) 0 count (omega arith)) (λ a b. absurd (none a)) (λ a b. absurd (none a))
    where
      none : count ≤ first_short f s false → ⊥
      none a = true≢false (sym q ∙ first-before (is_short f s false) 0 count l (omega arith) (omega arith))

  -- where something has come and the fragment may not be left, it is short
  pub needed-short : is_some s.last ≡ true → may_end f s ≡ false → (needed f s < length f.ranges) × (enough_of f s (needed f s) ≡ false)
  needed-short begun ends = needed-is (λ i. (i < count) × (enough_of f s i ≡ false)) (λ l. (l, short false l)) (λ p l. (l, short true l)) (λ p q. absurd (left p q))
    where
      short : (every : Bool) → first_short f s every < count → enough_of f s (first_short f s every) ≡ false
      short every l = not-true _ ((and-eq-true_iff (not (enough_of f s (first_short f s every))) _).0 (first_passes (is_short f s every) 0 count (omega arith))).0

      past : (every : Bool) → count ≤ first_short f s false → count ≤ first_short f s true → first_short f s every ≡ count
      past true p q = omega (arith, first-few (is_short f s true) 0 count)
      past false p q = omega (arith, first-few (is_short f s false) 0 count)

      -- else no range is short, and the fragment may be left
      left : count ≤ first_short f s false → count ≤ first_short f s true → ⊥
      left p q = true≢false (rw (begun, eq-eqb _ _ (past (needs_every f) p q)) at ends)

  -- ---- a step: the fragment is left, what must come does, or what the byte says

  pub step_is : (P : Step → Type 0) (byte : ℕ) → (may_end f s ≡ true → P Leave) → (may_end f s ≡ false → P (Name (needed f s)))
      → ((i : ℕ) → i < length f.ranges → 1 ≤ byte → may_come f s i ≡ true → P (Name i)) → P (step_by f s byte)
  step_is P byte leave must may = go (byte % suc count) refl
    where
      towards : P (towards_the_end f s)
      towards = elim (true-or-false (may_end f s)) [ inl e ↦ rw e (leave e) | inr e ↦ rw e (must e) ]

      go : (k : ℕ) → byte % suc count ≡ k → P (picked f s k)
      go zero e = towards
      go (suc i) e = elim (true-or-false (may_come f s i)) [
        | inl m ↦ rw m (may i (omega (arith, mod-lt byte (zero-lt-suc count))) (omega (arith, mod-le byte (suc count))) m)
        | inr m ↦ rw m towards
      ]

-- the number of a name that comes is a range's
pub named-within : (f : Fragment) (s : Filling) (byte i : ℕ) → 1 ≤ length f.ranges → step_by f s byte ≡ Name i → i < length f.ranges
named-within f s byte i some =
    step_is f s (λ x. x ≡ Name i → i < length f.ranges) byte
    (λ e z. let q : ◌≡◌ {A = ℕ} 0 1 = cc in absurd (zero_one q))
    (λ e z. let q : needed f s ≡ i = cc in omega (arith, needed-within f s some))
    (λ j l b e z. let q : j ≡ i = cc in omega arith)

others-fewer : (l : List ℕ) → length (other_bytes l) ≤ length l
others-fewer [] = le_refl 0
others-fewer (b ∷ l) = omega arith

-- a byte that is not 0 is not missing
taken : (l : List ℕ) → 1 ≤ first_byte l → length (other_bytes l) < length l
taken [] h = absurd (omega arith)
taken (b ∷ l) h = omega arith

module _ (f : Fragment) (fs : List Fragment) (s : Filling) (bytes : List ℕ) (small : Small (f ∷ fs)) (eight : length s.counts ≡ 8) where
  -- one step more takes fewer steps after it
  pub next-fewer : steps (leads_to f fs s (other_bytes bytes) (step_by f s (first_byte bytes))) < steps (record { fragments = f ∷ fs; filling = s; bytes = bytes })
  next-fewer =
      step_is f s (λ k. steps (leads_to f fs s (other_bytes bytes) k) < steps (standing (f ∷ fs) s bytes)) (first_byte bytes)
      (λ e. omega (arith, others-fewer bytes))
      (λ e. omega (arith, others-fewer bytes, nearer e))
      (λ i l b e. omega (arith, taken bytes b, lack-keeps f s i))
    where
      nearer : may_end f s ≡ false → lack_in f (comes s (needed f s)) < lack_in f s
      nearer ends = elim (some-or-none s.last) [
        | inl e ↦ rw e (omega (arith, rw e at (lack-keeps f s (needed f s))))
        | inr d ↦ let (l, short) = needed-short f s (ap is_some d.1) ends in lack-falls f s (needed f s) l (omega (arith, small.0)) short
      ]

-- ---- steps enough, and a missing byte is a 0

walk_none : (n : ℕ) (s : Filling) (bytes : List ℕ) → walk n (standing [] s bytes) ≡ []
unfolding walk
walk_none zero s bytes = refl
walk_none (suc n) s bytes = walk_none n s bytes

zeros : (bytes : List ℕ) (z : ℕ) → (first_byte (bytes ++ replicate z 0) ≡ first_byte bytes) × (y : ℕ) × (other_bytes (bytes ++ replicate z 0) ≡ other_bytes bytes ++ replicate y 0)
zeros [] zero = (refl, 0, refl)
zeros [] (suc z) = (refl, z, refl)
zeros (b ∷ bytes) z = (refl, z, refl)

-- where a step leads, there are eight counts again and fragments as small, whatever the bytes behind it
by-step : (Q : Stand → Stand → Type 0) (f : Fragment) (fs : List Fragment) (s : Filling) (a b : List ℕ) → Small (f ∷ fs) → length s.counts ≡ 8
    → ((gs : List Fragment) (t : Filling) → Small gs → length t.counts ≡ 8 → Q (standing gs t a) (standing gs t b)) → (k : Step) → Q (leads_to f fs s a k) (leads_to f fs s b k)
by-step Q f fs s a b small eight all (Name i) = all (f ∷ fs) (comes s i) small (length-set s.counts i (suc (count_of s i)) ∙ eight)
by-step Q f fs s a b small eight all Leave = all fs empty small.1 refl

-- two walks of enough steps, the one with z bytes 0 behind the bytes
walk_same : (n m z : ℕ) (fs : List Fragment) (s : Filling) (bytes : List ℕ) → Small fs → length s.counts ≡ 8
    → steps (standing fs s bytes) ≤ n → steps (standing fs s bytes) ≤ m → walk n (standing fs s (bytes ++ replicate z 0)) ≡ walk m (standing fs s bytes)
unfolding walk
walk_same zero m z [] s bytes small eight l l' = sym (walk_none m s bytes)
walk_same zero m z (f ∷ fs) s bytes small eight l l' = absurd (omega arith)
walk_same (suc n) m z [] s bytes small eight l l' = walk_none n s (bytes ++ replicate z 0) ∙ sym (walk_none m s bytes)
walk_same (suc n) zero z (f ∷ fs) s bytes small eight l l' = absurd (omega arith)
walk_same (suc n) (suc m) z (f ∷ fs) s bytes small eight l l' =
    let k : Step = step_by f s (first_byte bytes) in
    let less = next-fewer f fs s bytes small eight in
    let (e, y, e') = zeros bytes z in
    let same = by-step (λ p q. steps q ≤ n → steps q ≤ m → walk n p ≡ walk m q) f fs s (other_bytes bytes ++ replicate y 0) (other_bytes bytes) small eight
    (λ gs t. walk_same n m y gs t (other_bytes bytes)) k (omega arith) (omega arith) in
    rw (e, e') (ap (λ (w : List ℕ). said_by f k ++ w) same)

module _ (f : Fragment) (fs : List Fragment) (s : Filling) (bytes : List ℕ) (small : Small (f ∷ fs)) (eight : length s.counts ≡ 8) where
  pub chosen-step : chosen_from (record { fragments = f ∷ fs; filling = s; bytes = bytes })
      ≡ said_by f (step_by f s (first_byte bytes)) ++ chosen_from (leads_to f fs s (other_bytes bytes) (step_by f s (first_byte bytes)))
  unfolding chosen_from walk
  chosen-step =
      let k : Step = step_by f s (first_byte bytes) in
      let n : ℕ = length bytes + (lack_in f s + lack_at fs empty) in
      let e : steps (standing (f ∷ fs) s bytes) ≡ suc n = omega arith in
      let same = by-step (λ p q. steps q ≤ n → walk n p ≡ walk (steps q) q) f fs s (other_bytes bytes ++ []) (other_bytes bytes) small eight
      (λ gs t g c l. walk_same n _ 0 gs t (other_bytes bytes) g c l (le_refl _)) k (omega (arith, next-fewer f fs s bytes small eight)) in
      ap (λ (m : ℕ). walk m (standing (f ∷ fs) s bytes)) e ∙ ap (λ (w : List ℕ). said_by f k ++ w) (rw append-nil at same)

pub chosen_none : (s : Filling) (bytes : List ℕ) → chosen_from (record { fragments = []; filling = s; bytes = bytes }) ≡ []
unfolding chosen_from
chosen_none s bytes = walk_none (steps (standing [] s bytes)) s bytes

few : (fs : List Fragment) → Each WellFormedFragment fs → Small fs
few [] w = tt
few (f ∷ fs) w = (w.0.count.1, few fs w.1)

pub missing-is-zero : (r : Rule) → WellFormed r → (choice : List ℕ) (n : ℕ) → chosen r (choice ++ replicate n 0) ≡ chosen r choice
unfolding chosen_from
missing-is-zero r w choice n =
    let k : ℕ = steps (start (round_of r) (choice ++ replicate n 0)) in
    walk_same k (steps (start (round_of r) choice)) n (round_of r) empty choice (few (round_of r) (round-formed r w)) refl (omega (arith, length-append choice (replicate n 0))) (le_refl _)
