-- "A sheet has at most 5,774 bytes": 64 names and 16 fragments a rule, 16 rules. Distinct names below 64 are at most 64: take the largest number away, and count on.
-- Assumes nothing.
use mathlib.Core.Path.{◌≡◌, refl, subst}
use mathlib.Core.Logic.{inl, inr}
use mathlib.Core.Bool.{Bool, true, false, cond}
use mathlib.Core.List.{List, [], ◌∷◌, ◌++◌, map}
use Prim.Native.Nat.{ℕ, zero, suc, ◌+◌, ◌*◌, ◌≤◌, ◌<◌}
use native.Mathlib.Omega.{arith}
use lib.Dec.{eqb}
use lib.ListN.{length, length-append, length-map}
use borrow.Author.Tests.{eqb-true, eqb-false}
use Rattle.pattern.specs.Lists.{In, Distinct, Each}
use Rattle.pattern.specs.Meaning.{Range, Fragment, fragment_names, ordering_names, Kind, once, repeated, timed, Rule, kind_names, names_of, WellFormedRange, WellFormedFragment, WellFormed}
use Rattle.layout.specs.Terms.{Terms, today}
use Rattle.layout.specs.Layout.{Sheet, each, range_bytes, fragment_bytes, rule_bytes, encode, WellFormedRule, WellFormedSheet, longest}
use Rattle.layout.proofs.Sets.{each_append}

-- ---- distinct numbers below k are at most k

abbrev remove : ℕ → List ℕ → List ℕ
remove m [] = []
remove m (n ∷ ns) = cond (eqb m n) ns (n ∷ remove m ns)

remove-length : (m : ℕ) (ns : List ℕ) → length ns ≤ suc (length (remove m ns))
remove-length m [] = omega arith
remove-length m (n ∷ ns) = go (eqb m n) (remove-length m ns)
  where
    go : (b : Bool) → length ns ≤ suc (length (remove m ns)) → suc (length ns) ≤ suc (length (cond b ns (n ∷ remove m ns)))
    go true h = omega arith
    go false h = omega (arith, h)

remove-in : (x m : ℕ) (ns : List ℕ) → In x (remove m ns) → In x ns
remove-in x m [] h = h
remove-in x m (n ∷ ns) h = go (eqb m n) (remove-in x m ns) h
  where
    go : (b : Bool) → (In x (remove m ns) → In x ns) → In x (cond b ns (n ∷ remove m ns)) → In x (n ∷ ns)
    go true ih h = inr h
    go false ih (inl e) = inl e
    go false ih (inr h) = inr (ih h)

remove-distinct : (m : ℕ) (ns : List ℕ) → Distinct ns → Distinct (remove m ns)
remove-distinct m [] d = tt
remove-distinct m (n ∷ ns) d = go (eqb m n) (remove-distinct m ns d.1)
  where
    go : (b : Bool) → Distinct (remove m ns) → Distinct (cond b ns (n ∷ remove m ns))
    go true ih = d.1
    go false ih = (λ h. d.0 (remove-in n m ns h), ih)

abbrev pub Below : ℕ → List ℕ → Type 0
Below k ns = Each (λ (n : ℕ). n < k) ns

absent-below : (k : ℕ) (ns : List ℕ) → ¬ In k ns → Below (suc k) ns → Below k ns
absent-below k [] out h = tt
absent-below k (n ∷ ns) out h = (smaller h.0 (λ e. out (inl e)), absent-below k ns (λ i. out (inr i)) h.1)
  where
    smaller : n < suc k → (k ≡ n → ⊥) → n < k
    smaller l ne = omega (arith, l, ne)

remove-below : (k : ℕ) (ns : List ℕ) → Distinct ns → Below (suc k) ns → Below k (remove k ns)
remove-below k [] d h = tt
remove-below k (n ∷ ns) d h = go (eqb k n) refl (remove-below k ns d.1 h.1)
  where
    go : (b : Bool) → eqb k n ≡ b → Below k (remove k ns) → Below k (cond b ns (n ∷ remove k ns))
    go true e ih = absent-below k ns (λ i. d.0 (subst (λ (x : ℕ). In x ns) (eqb-true k n e) i)) h.1
    go false e ih = (omega (arith, h.0, eqb-false k n e), ih)

pub pigeons : (k : ℕ) (ns : List ℕ) → Distinct ns → Below k ns → length ns ≤ k
pigeons zero [] d h = omega arith
pigeons zero (n ∷ ns) d h = absurd (omega (arith, h.0))
pigeons (suc k) ns d h = omega (arith, remove-length k ns, pigeons k (remove k ns) (remove-distinct k ns d) (remove-below k ns d h))

-- ---- a rule's names

range-names : (rs : List Range) → Each WellFormedRange rs → Below 64 (map (λ (r : Range). r.name) rs)
range-names [] g = tt
range-names (r ∷ rs) g = (omega (arith, g.0.named), range-names rs g.1)

ordering-below : (fs : List Fragment) → Each WellFormedFragment fs → Below 64 (ordering_names fs)
ordering-below [] g = tt
ordering-below (f ∷ fs) g =
    each_append (λ (n : ℕ). n < 64) (fragment_names f) (ordering_names fs) (range-names f.ranges g.0.ranges) (ordering-below fs g.1)

kind-below : (p : List Fragment) (K : Kind) → WellFormed (record { kind = K; p = p }) → Below 64 (kind_names K)
kind-below p (once i) w = (omega (arith, w.kind), tt)
kind-below p (repeated i) w = (omega (arith, w.kind), tt)
kind-below p (timed q t) w = ordering-below q w.kind.0.fragments

-- a well-formed rule's names are below 64, and so at most 64
pub names-below : (r : Rule) → WellFormed r → Below 64 (names_of r)
names-below r w =
    each_append (λ (n : ℕ). n < 64) (ordering_names r.p) (kind_names r.kind) (ordering-below r.p w.p.fragments) (kind-below r.p r.kind w)

-- ---- bytes

ranges-length : (rs : List Range) → length (each range_bytes rs) ≡ 5 * length rs
ranges-length [] = refl
ranges-length (r ∷ rs) = let e : length (each range_bytes rs) ≡ 5 * length rs = ranges-length rs in omega (arith, e)

fragments-length : (fs : List Fragment) → length (each fragment_bytes fs) ≡ 2 * length fs + 5 * length (ordering_names fs)
fragments-length [] = refl
fragments-length (f ∷ fs) =
    let e : length (each fragment_bytes fs) ≡ 2 * length fs + 5 * length (ordering_names fs) = fragments-length fs in
    let r : length (each range_bytes f.ranges) ≡ 5 * length f.ranges = ranges-length f.ranges in
    let n : length (fragment_names f) ≡ length f.ranges = length-map f.ranges (λ (x : Range). x.name) in
    let a : length (fragment_names f ++ ordering_names fs) ≡ length (fragment_names f) + length (ordering_names fs)
    = length-append (fragment_names f) (ordering_names fs) in
    let b : length (each range_bytes f.ranges ++ each fragment_bytes fs) ≡ length (each range_bytes f.ranges) + length (each fragment_bytes fs)
    = length-append (each range_bytes f.ranges) (each fragment_bytes fs) in
    omega (arith, e, r, n, a, b)

-- 8 bytes, 2 for each of at most 16 fragments, 5 for each of at most 64 names
rule-length : (p : List Fragment) (K : Kind) → WellFormed (record { kind = K; p = p }) → length (rule_bytes (record { kind = K; p = p })) ≤ 360
rule-length p K w =
    let names = pigeons 64 (names_of (record { kind = K; p = p })) w.distinct (names-below (record { kind = K; p = p }) w) in
    by_kind K w names
  where
    bytes_of : (q : List Fragment) → length (each fragment_bytes p ++ each fragment_bytes q) ≡ 2 * length p + 2 * length q + 5 * length (ordering_names p) + 5 * length (ordering_names q)
    bytes_of q = omega (arith, length-append (each fragment_bytes p) (each fragment_bytes q), fragments-length p, fragments-length q)

    by_kind : (K : Kind) → WellFormed (record { kind = K; p = p }) → length (names_of (record { kind = K; p = p })) ≤ 64 → length (rule_bytes (record { kind = K; p = p })) ≤ 360
    by_kind (once i) w h = omega (arith, w.p.count.1, h, length-append (ordering_names p) (i ∷ []), bytes_of [])
    by_kind (repeated i) w h = omega (arith, w.p.count.1, h, length-append (ordering_names p) (i ∷ []), bytes_of [])
    by_kind (timed q t) w h = omega (arith, w.p.count.1, w.kind.0.count.1, h, length-append (ordering_names p) (ordering_names q), bytes_of q)

rules-length : (T : Terms) (version outputs : ℕ) (rs : List Rule) → Each (WellFormedRule T version outputs) rs → length (each rule_bytes rs) ≤ 360 * length rs
rules-length T version outputs [] g = omega arith
rules-length T version outputs (r ∷ rs) g =
    omega (arith, rule-length r.p r.kind g.0.formed, rules-length T version outputs rs g.1, length-append (rule_bytes r) (each rule_bytes rs))

pub sheet-length : (S : Sheet) → WellFormedSheet S → length (encode S) ≤ longest
sheet-length S w = omega (arith, w.count, rules-length today S.version S.outputs S.rules w.rules)
