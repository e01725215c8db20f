-- What the step asks of a rule (`Sound`), and that a well-formed rule has it.
-- Assumes nothing.
use mathlib.Core.Path.{◌≡◌, sym, ◌∙◌, subst}
use mathlib.Core.Bool.{false}
use Prim.Native.Nat.{ℕ, suc, ◌+◌, ◌≤◌, ◌<◌}
use native.Mathlib.Omega.{arith}
use lib.Dec.{T}
use lib.ListN.{length, length-append}
use Rattle.pattern.specs.Lists.{In, Distinct, is_in}
use Rattle.pattern.specs.Meaning.{Range, fragment_names, ordering_names, Kind, once, repeated, timed, Rule, names_of, WellFormedRange, WellFormedFragment, WellFormedKind, WellFormed, Between}
use Rattle.pattern.specs.Model.{last_fragments, round_of, no_fragment, fragment_at, has}
use Rattle.pattern.proofs.Fragment.{Fine}
use Rattle.pattern.proofs.Basics.{each_in, is_in→, zero_one}
use Rattle.pattern.proofs.Numbering.{round-names}
use Rattle.layout.specs.Pages.{range_at, no_range}
use Rattle.layout.proofs.PageLaws.{each_at, round-formed}
use Rattle.layout.proofs.Once.{same_place, one-distinct, name-place, ordering-place}
use Rattle.tables.specs.Cells.{is_timed}

-- ---- what a well-formed rule has

-- where a name stands: range i of fragment n
pub record At (rule : Rule) (name : ℕ) : Type 0 where
  pub n : ℕ
  pub i : ℕ
  pub inside : n < length (round_of rule)
  pub held : i < length (fragment_at rule n).ranges
  pub is : name ≡ (range_at rule n i).name

pub record Sound (rule : Rule) : Type 0 where
  pub some : 1 ≤ length rule.p
  -- a trigger or a Q comes after P
  pub after : length rule.p < length (round_of rule)
  pub fine : (n : ℕ) → n < length (round_of rule) → Fine (fragment_at rule n).ranges
  pub count : (n : ℕ) → n < length (round_of rule) → Between 1 8 (length (fragment_at rule n).ranges)
  -- a name is in one fragment alone
  pub apart : (n m name : ℕ) → n < length (round_of rule) → m < length (round_of rule) → T (has rule n name) → T (has rule m name) → n ≡ m
  pub small : (n i : ℕ) → n < length (round_of rule) → i < length (fragment_at rule n).ranges → (range_at rule n i).name < 64
  pub named : (name : ℕ) → T (is_in name (names_of rule)) → At rule name
  -- what comes after P is the trigger alone, but for Q
  pub last : is_timed rule.kind ≡ false → length (round_of rule) ≡ suc (length rule.p)

some-last : (k : Kind) → WellFormedKind k → 1 ≤ length (last_fragments k)
some-last (once i) w = omega arith
some-last (repeated i) w = omega arith
some-last (timed q t) w = w.0.count.0

one_last : (k : Kind) → is_timed k ≡ false → length (last_fragments k) ≡ 1
one_last (once i) e = omega arith
one_last (repeated i) e = omega arith
one_last (timed q t) e = let z : ◌≡◌ {A = ℕ} 0 1 = cc in absurd (zero_one z)

module _ (rule : Rule) (w : WellFormed rule) where
  names : Distinct (ordering_names (round_of rule))
  names = subst Distinct (sym (round-names rule)) w.distinct

  formed : (n : ℕ) → n < length (round_of rule) → WellFormedFragment (fragment_at rule n)
  formed n h = each_at WellFormedFragment no_fragment (round_of rule) n (round-formed rule w) h

  long : length (round_of rule) ≡ length rule.p + length (last_fragments rule.kind)
  long = length-append rule.p (last_fragments rule.kind)

  range : (n : ℕ) (h : n < length (round_of rule)) (r : Range) → In r (fragment_at rule n).ranges → WellFormedRange r
  range n h r i = each_in WellFormedRange (fragment_at rule n).ranges (formed n h).ranges r i

  -- the place of a name in a fragment that has it
  placed : (n name : ℕ) → T (has rule n name) → (i : ℕ) × (i < length (fragment_at rule n).ranges) × (name ≡ (range_at rule n i).name)
  placed n name t = name-place (fragment_at rule n).ranges name (is_in→ name (fragment_names (fragment_at rule n)) t)

  pub sound : Sound rule
  sound = record {
    some = w.p.count.0;
    after = omega (arith, long, some-last rule.kind w.kind);
    fine = λ n h. record { distinct = one-distinct (round_of rule) n h names; some = λ r i. (range n h r i).some; order = λ r i. (range n h r i).order };
    count = λ n h. (formed n h).count;
    apart = λ n m name hn hm t u. (let (i, hi, e) = placed n name t in let (j, hj, e') = placed m name u in (same_place (round_of rule) names n m i j hn hm hi hj (sym e ∙ e')).0);
    small = λ n i hn hi. (let z : (range_at rule n i).name ≤ 63 = (each_at WellFormedRange no_range (fragment_at rule n).ranges i (formed n hn).ranges hi).named in omega (arith, z));
    named = λ name t. (let (n, i, hn, hi, e) = ordering-place (round_of rule) name (subst (In name) (sym (round-names rule)) (is_in→ name (names_of rule) t)) in record { n = n; i = i; inside = hn; held = hi; is = e });
    last = λ z. (let o = one_last rule.kind z in omega (arith, long, o));
  }
