-- Well-formedness as a test that computes, for rules that are written out.
-- Assumes nothing.
use mathlib.Core.Logic.{◌⊎◌, inl, inr}
use mathlib.Core.Bool.{Bool, true, not, ◌&&◌, ◌||◌}
use mathlib.Core.List.{List, [], ◌∷◌}
use Prim.Native.Nat.{ℕ}
use lib.Dec.{T, leb, eqb, leb→le, eqb→eq, T_not}
use lib.ListN.{length}
use Rattle.pattern.specs.Lists.{Distinct, Each, is_in, all_of}
use Rattle.pattern.specs.Meaning.{Range, Fragment, Kind, once, repeated, timed, Rule, names_of, AtMost, Between, WellFormedRange, WellFormedFragment, WellFormedOrdering, WellFormedKind, WellFormed}
use Rattle.pattern.specs.Agreement.{WellFormedRules}
use Rattle.pattern.proofs.Basics.{both_l, both_r, either, is_in←}

abbrev between : ℕ → ℕ → ℕ → Bool
between a b n = leb a n && leb n b

abbrev ok_range : Range → Bool
ok_range r = leb r.name 63 && (between 1 65535 r.u && ((eqb r.v 0 || leb r.u r.v) && leb r.v 65535))

abbrev ok_fragment : Fragment → Bool
ok_fragment f = between 1 8 (length f.ranges) && all_of ok_range f.ranges

abbrev ok_ordering : List Fragment → Bool
ok_ordering fs = between 1 8 (length fs) && all_of ok_fragment fs

abbrev ok_kind : Kind → Bool
ok_kind (once i) = leb i 63
ok_kind (repeated i) = leb i 63
ok_kind (timed q t) = ok_ordering q && leb t 4294967295

abbrev distinct : List ℕ → Bool
distinct [] = true
distinct (x ∷ xs) = not (is_in x xs) && distinct xs

abbrev ok_rule : Rule → Bool
ok_rule r = ok_ordering r.p && (ok_kind r.kind && distinct (names_of r))

between→ : (a b n : ℕ) → T (between a b n) → Between a b n
between→ a b n t = (leb→le a n (both_l (leb a n) (leb n b) t), leb→le n b (both_r (leb a n) (leb n b) t))

each→ : {A : Type 0} (ok : A → Bool) (P : A → Type 0) → ((x : A) → T (ok x) → P x) → (xs : List A) → T (all_of ok xs) → Each P xs
each→ ok P h [] t = tt
each→ ok P h (x ∷ xs) t = (h x (both_l (ok x) (all_of ok xs) t), each→ ok P h xs (both_r (ok x) (all_of ok xs) t))

range→ : (r : Range) → T (ok_range r) → WellFormedRange r
range→ r t =
    let named : Bool = leb r.name 63 in
    let least : Bool = between 1 65535 r.u in
    let order : Bool = eqb r.v 0 || leb r.u r.v in
    let few : Bool = leb r.v 65535 in
    let t' = both_r named (least && (order && few)) t in
    let t'' = both_r least (order && few) t' in
    let (s, l) = between→ 1 65535 r.u (both_l least (order && few) t') in
    record {
      named = leb→le r.name 63 (both_l named (least && (order && few)) t);
      some = s;
      small = l;
      order = ends (either (eqb r.v 0) (leb r.u r.v) (both_l order few t''));
      few = leb→le r.v 65535 (both_r order few t'');
    }
  where
    ends : T (eqb r.v 0) ⊎ T (leb r.u r.v) → AtMost r r.u
    ends (inl z) = inl (eqb→eq r.v 0 z)
    ends (inr z) = inr (leb→le r.u r.v z)

fragment→ : (f : Fragment) → T (ok_fragment f) → WellFormedFragment f
fragment→ f t =
    let count : Bool = between 1 8 (length f.ranges) in
    let each : Bool = all_of ok_range f.ranges in
    record { count = between→ 1 8 (length f.ranges) (both_l count each t); ranges = each→ ok_range WellFormedRange range→ f.ranges (both_r count each t) }

ordering→ : (fs : List Fragment) → T (ok_ordering fs) → WellFormedOrdering fs
ordering→ fs t =
    let count : Bool = between 1 8 (length fs) in
    let each : Bool = all_of ok_fragment fs in
    record { count = between→ 1 8 (length fs) (both_l count each t); fragments = each→ ok_fragment WellFormedFragment fragment→ fs (both_r count each t) }

kind→ : (k : Kind) → T (ok_kind k) → WellFormedKind k
kind→ (once i) t = leb→le i 63 t
kind→ (repeated i) t = leb→le i 63 t
kind→ (timed q t) h = (ordering→ q (both_l (ok_ordering q) (leb t 4294967295) h), leb→le t 4294967295 (both_r (ok_ordering q) (leb t 4294967295) h))

distinct→ : (l : List ℕ) → T (distinct l) → Distinct l
distinct→ [] t = tt
distinct→ (x ∷ xs) t = (λ i. T_not (is_in x xs) (both_l (not (is_in x xs)) (distinct xs) t) (is_in← x xs i), distinct→ xs (both_r (not (is_in x xs)) (distinct xs) t))

ok→ : (r : Rule) → T (ok_rule r) → WellFormed r
ok→ r t =
    let p : Bool = ok_ordering r.p in
    let kind : Bool = ok_kind r.kind in
    let once : Bool = distinct (names_of r) in
    let t' = both_r p (kind && once) t in
    record { p = ordering→ r.p (both_l p (kind && once) t); kind = kind→ r.kind (both_l kind once t'); distinct = distinct→ (names_of r) (both_r kind once t') }

abbrev pub ok_rules : List Rule → Bool
ok_rules rs = between 1 16 (length rs) && all_of ok_rule rs

pub oks→ : (rs : List Rule) → T (ok_rules rs) → WellFormedRules rs
oks→ rs t = record { count = between→ 1 16 (length rs) (both_l (between 1 16 (length rs)) (all_of ok_rule rs) t); each = each→ ok_rule WellFormed ok→ rs (both_r (between 1 16 (length rs)) (all_of ok_rule rs) t) }
