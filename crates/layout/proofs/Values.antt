-- The faults of a field's value: a value has none exactly when it is what documents 01 and 02 ask of it.
-- Assumes nothing.
use mathlib.Core.Path.{◌≡◌, refl, sym, ◌∙◌}
use mathlib.Core.Logic.{◌⊎◌, inl, inr}
use mathlib.Core.Bool.{Bool, true, false, cond, not, ◌&&◌}
use Prim.Native.Nat.{ℕ, zero, suc, ◌≤◌, ◌<◌, ◌^◌}
use native.Mathlib.Nat.{zero-lt-suc}
use native.Mathlib.Omega.{arith}
use lib.Dec.{ltb}
use borrow.Author.Tests.{ne_eqb, lt-ltb, le-ltb, ltb-false}
use Rattle.pattern.specs.Meaning.{Between}
use Rattle.names.specs.Names.{member, insert, with_name}
use Rattle.layout.specs.Layout.{Input}
use Rattle.layout.specs.Terms.{◌when◌or◌, no_fault, Terms, base, first_shuffled, today, Covered}
use Rattle.layout.specs.Faults.{outside, unlike, due_zero, count_fault, below, most_fault, name_fault, trigger_fault, by_kind}

-- the faults of a name, in whatever order they are asked: each has a number
abbrev EachNumbered : (Bool → Bool → Bool → ℕ) → Type 0
EachNumbered order =
    (0 < order true true true) × (0 < order true true false) × (0 < order true false true) × (0 < order true false false)
    × (0 < order false true true) × (0 < order false true false) × (0 < order false false true)

in_order : (order : Bool → Bool → Bool → ℕ) → EachNumbered order → (a b c : Bool) → order a b c ≡ 0 → (a ≡ false) × (b ≡ false) × (c ≡ false)
in_order order some true true true z = absurd (omega (arith, some, z))
in_order order some true true false z = absurd (omega (arith, some, z))
in_order order some true false true z = absurd (omega (arith, some, z))
in_order order some true false false z = absurd (omega (arith, some, z))
in_order order some false true true z = absurd (omega (arith, some, z))
in_order order some false true false z = absurd (omega (arith, some, z))
in_order order some false false true z = absurd (omega (arith, some, z))
in_order order some false false false z = (refl, refl, refl)

-- on terms that the meaning covers, as today's are
pub today-covered : Covered today
today-covered = record { versions = omega arith; joins = λ v. few (ltb v first_shuffled); rules = omega arith; faultless = in_order today.in_order (omega arith); right = refl }
  where
    few : (b : Bool) → cond b 1 3 ≤ 3
    few true = omega arith
    few false = omega arith

-- and as document 01's were
pub base-covered : Covered base
base-covered = record { versions = omega arith; joins = λ v. omega arith; rules = omega arith; faultless = in_order base.in_order (omega arith); right = refl }

pub outside-faultless : (k first last x : ℕ) → outside (suc k) first last x ≡ 0 → Between first last x
outside-faultless k first last x = go (ltb x first) (ltb last x) refl refl
  where
    go : (a b : Bool) → ltb x first ≡ a → ltb last x ≡ b → (suc k when a or suc k when b or 0) ≡ 0 → Between first last x
    go true b _ _ z = absurd (omega (arith, z))
    go false true _ _ z = absurd (omega (arith, z))
    go false false p q z = (ltb-false x first p, ltb-false last x q)

pub outside-right : (k first last x : ℕ) → Between first last x → outside k first last x ≡ 0
outside-right k first last x h = rw (le-ltb x first h.0, le-ltb last x h.1)

pub unlike-faultless : (k due x : ℕ) → unlike (suc k) due x ≡ 0 → x ≡ due
unlike-faultless k due x z = omega (arith, outside-faultless k due due x z)

pub below-faultless : (least x : ℕ) → below least x ≡ 0 → least ≤ x
below-faultless least x = go (ltb x least) refl
  where
    go : (b : Bool) → ltb x least ≡ b → (7 when b or 0) ≡ 0 → least ≤ x
    go true _ z = absurd (omega (arith, z))
    go false e z = ltb-false x least e

pub below_right : (least x : ℕ) → least ≤ x → below least x ≡ 0
below_right least x h = rw (le-ltb x least h)

-- v: other than 0 it is held to u in every version
pub most-bounded : (endless : Bool) (u v : ℕ) → 0 < v → most_fault endless u v ≡ below u v
most-bounded true u v some = rw (ne_eqb v 0 (λ e. omega (arith, some, e)))
most-bounded false u v some = refl

-- what the meaning asks of it, and what the version does
abbrev pub MostFits : Bool → ℕ → ℕ → Type 0
MostFits endless u v = ((v ≡ 0) ⊎ (u ≤ v)) × (v ≡ 0 → endless ≡ true)

pub most-faultless : (endless : Bool) (u v : ℕ) → 1 ≤ u → most_fault endless u v ≡ 0 → MostFits endless u v
most-faultless true u zero some z = (inl refl, λ _. refl)
most-faultless false u zero some z = absurd (omega (arith, some, below-faultless u 0 z))
most-faultless endless u (suc v) some z = (inr (below-faultless u (suc v) (sym (most-bounded endless u (suc v) (zero-lt-suc v)) ∙ z)), λ e. absurd (omega (arith, e)))

pub most-right : (endless : Bool) (u v : ℕ) → MostFits endless u v → most_fault endless u v ≡ 0
most-right endless u zero (order, allowed) = rw (allowed refl)
most-right endless u (suc v) (inl e, allowed) = absurd (omega (arith, e))
most-right endless u (suc v) (inr h, allowed) = most-bounded endless u (suc v) (zero-lt-suc v) ∙ below_right u (suc v) h

-- a name that may come after the names so far, in Q or not
abbrev pub NameFits : ℕ → Bool → ℕ → ℕ → Type 0
NameFits outputs of_q used n = (member used n ≡ false) × ((of_q && not (member outputs n)) ≡ false)

module _ {T : Terms} (covered : Covered T) where
  pub name-right : (outputs : ℕ) (of_q : Bool) (used n : ℕ) → n ≤ 63 → NameFits outputs of_q used n → name_fault T outputs of_q used n ≡ 0
  name-right outputs of_q used n h f = go (le-ltb 63 n h) f.0 f.1
    where
      go : {a b c : Bool} → a ≡ false → b ≡ false → c ≡ false → T.in_order a b c ≡ 0
      go p q r = rw (p, q, r) covered.right

  pub name-faultless : (outputs : ℕ) (of_q : Bool) (used n : ℕ) → name_fault T outputs of_q used n ≡ 0 → (n ≤ 63) × NameFits outputs of_q used n
  name-faultless outputs of_q used n z = let f = covered.faultless (ltb 63 n) _ _ z in (ltb-false 63 n f.0, (f.1, f.2))

abbrev pub TriggerFits : ℕ → ℕ → Type 0
TriggerFits outputs i = (i ≤ 63) × Input outputs i

pub trigger-faultless : (outputs i : ℕ) → trigger_fault outputs i ≡ 0 → TriggerFits outputs i
trigger-faultless outputs i z = let f = base-covered.faultless (ltb 63 i) false _ z in (ltb-false 63 i f.0, f.2)

trigger-right : (outputs i : ℕ) → TriggerFits outputs i → trigger_fault outputs i ≡ 0
trigger-right outputs i h = rw (le-ltb 63 i h.0, h.1)

-- the fields of a rule that go by its kind: kind, Q count, trigger, t
abbrev pub ByKind : ℕ → ℕ → ℕ → ℕ → ℕ → Type 0
ByKind outputs zero n i t = (n ≡ 0) × TriggerFits outputs i × (t ≡ 0)
ByKind outputs (suc zero) n i t = (n ≡ 0) × TriggerFits outputs i × (t ≡ 0)
ByKind outputs (suc (suc zero)) n i t = Between 1 8 n × (i ≡ 0) × (t ≤ 4294967295)
ByKind outputs (suc (suc (suc k))) n i t = ⊥

pub kind-faultless : (outputs k n i t : ℕ) → k ≤ 2 → by_kind k (count_fault 8) due_zero n ≡ 0 → by_kind k due_zero (trigger_fault outputs) i ≡ 0
    → by_kind k no_fault due_zero t ≡ 0 → t < 256 ^ 4 → ByKind outputs k n i t
kind-faultless outputs zero n i t h a b d l = (unlike-faultless 4 0 n a, trigger-faultless outputs i b, unlike-faultless 4 0 t d)
kind-faultless outputs (suc zero) n i t h a b d l = (unlike-faultless 4 0 n a, trigger-faultless outputs i b, unlike-faultless 4 0 t d)
kind-faultless outputs (suc (suc zero)) n i t h a b d l = (outside-faultless 3 1 8 n a, unlike-faultless 4 0 i b, omega (arith, l))
kind-faultless outputs (suc (suc (suc k))) n i t h a b d l = absurd (omega (arith, h))

pub record KindRight (outputs k n i t : ℕ) : Type 0 where
  pub kind : k ≤ 2
  pub count_q : by_kind k (count_fault 8) due_zero n ≡ 0
  pub trigger : by_kind k due_zero (trigger_fault outputs) i ≡ 0
  pub time : by_kind k no_fault due_zero t ≡ 0
  pub small : (n < 256) × (i < 256) × (t < 256 ^ 4)

pub kind-right : (outputs k n i t : ℕ) → ByKind outputs k n i t → KindRight outputs k n i t
kind-right outputs zero n i t (a, b, d) = record { kind = omega arith; count_q = rw a; trigger = trigger-right outputs i b; time = rw d; small = omega (arith, a, b.0, d) }
kind-right outputs (suc zero) n i t (a, b, d) = record { kind = omega arith; count_q = rw a; trigger = trigger-right outputs i b; time = rw d; small = omega (arith, a, b.0, d) }
kind-right outputs (suc (suc zero)) n i t (a, b, d) = record { kind = omega arith; count_q = outside-right 4 1 8 n a; trigger = rw b; time = refl; small = omega (arith, a, b, d) }
kind-right outputs (suc (suc (suc k))) n i t g = absurd g

-- the set with a name of 0 to 63
pub with-name : (set n : ℕ) → n ≤ 63 → with_name set n ≡ insert set n
with-name set n h = rw (lt-ltb n 64 (omega (arith, h)))
