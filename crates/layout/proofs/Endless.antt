-- Ranges without an upper end (document 02, change 2): "In version 2, v = 0 means that u or more occurrences are allowed, so at field v refusal 7 is not given for v = 0; u = 0 still meets it".
-- What a field v says, by its version; and that no other bytes are affected: the readings on the terms of before and of after part only at a field v that is 0, in version 2.
-- Assumes nothing.
use mathlib.Core.Path.{◌≡◌, refl, sym, subst, ◌∙◌}
use mathlib.Core.Logic.{◌⊎◌, inl, inr}
use mathlib.Core.Bool.{true, false}
use mathlib.Core.List.{List}
use Prim.Native.Nat.{ℕ, zero, suc, ◌+◌, ◌≤◌, ◌<◌}
use native.Mathlib.Nat.{zero-lt-suc}
use native.Mathlib.Omega.{arith}
use lib.ListN.{length}
use borrow.Author.Tests.{lt-ltb}
use Rattle.pattern.specs.Meaning.{Between}
use Rattle.layout.specs.Terms.{with_shuffles, with_endless, today}
use Rattle.layout.specs.Layout.{Sheet}
use Rattle.layout.specs.Faults.{least_fault, most_fault, Field, v_field, size_of, fault_of}
use Rattle.layout.specs.Form.{Form, number, read, value_at, RightField, ComesTo}
use Rattle.layout.specs.Reading.{sheet, HasVersion, accepted, refused, read_sheet_on, EndlessRefused}
use Rattle.layout.proofs.FirstFault.{comes-stops, fault-stops, comes-on, stops-later, Faulty, first-fault}
use Rattle.layout.proofs.Values.{outside-faultless, most-bounded}
use Rattle.layout.proofs.Parting.{Part, Same}
use Rattle.layout.proofs.Versions.{Placed, placed, SameOr, AlikeBut, alike-but, same_answer_lem}

-- ---- the field v

-- v = 0 where the version does not let it in; every u that was read is at least 1
not-let-in : (u : ℕ) → 1 ≤ u → most_fault false u 0 ≡ 7
not-let-in u some = rw (lt-ltb 0 u some)

pub v-0-in-version-1 : (u : ℕ) → 1 ≤ u → most_fault (today.endless 1) u 0 ≡ 7
v-0-in-version-1 u some = not-let-in u some

pub v-0-in-version-2 : (u : ℕ) → most_fault (today.endless 2) u 0 ≡ 0
v-0-in-version-2 u = refl

-- "0 < v < u": 7 in every version
pub v-below-u : (version u v : ℕ) → 0 < v → v < u → most_fault (today.endless version) u v ≡ 7
v-below-u version u v some h = most-bounded (today.endless version) u v some ∙ rw (lt-ltb v u h)

-- "u = 0 still meets it", whatever the version and before v is looked at
pub u-0 : least_fault 0 ≡ 7
u-0 = refl

-- ---- no other bytes

-- a v of version 2 that is 0: 7 on the terms of before, and right on those with change 2
abbrev EndLetIn : Field → ℕ → Type 0
EndLetIn l x = (u : ℕ) × (l ≡ v_field 2 u) × (x ≡ 0) × (fault_of with_shuffles (v_field 2 u) 0 ≡ 7)

module _ (s : List ℕ) where
  ends : (version : ℕ) → Between 1 with_endless.newest version → (u v : ℕ) → SameOr with_shuffles with_endless s EndLetIn (v_field version u) v
  ends zero known u v = absurd (omega (arith, known))
  ends (suc zero) known u v = inl refl
  ends (suc (suc zero)) known zero zero = inl refl
  ends (suc (suc zero)) known (suc u) zero = inr (suc u, refl, refl, not-let-in (suc u) (zero-lt-suc u))
  ends (suc (suc zero)) known u (suc v) = inl (sym (most-bounded true u (suc v) (zero-lt-suc v)))
  ends (suc (suc (suc version))) known u v = absurd (omega (arith, known))

  alike : AlikeBut with_shuffles with_endless s EndLetIn
  alike = record {
    versions = λ x. inl refl;
    rules = λ x. inl refl;
    kinds = λ version known x. inl refl;
    joins = λ version known x. inl refl;
    names = λ outputs of_q used x. inl refl;
    ends = λ version known. ends version (outside-faultless 2 1 with_endless.newest version known.1);
    bytes = refl;
  }

  -- a reading that went on after a field is not refused at it
  goes_on : (m : Form Sheet) (place : ℕ) → read with_endless s sheet 0 ≡ read with_endless s m (place + 2) → ¬ (read_sheet_on with_endless s ≡ refused 7 place)
  goes_on m place e r = look (first-fault with_endless s refl r)
    where
      look : Faulty with_endless s 7 place → ⊥
      look (inl f) = omega (arith, stops-later with_endless s m (place + 2) (sym e ∙ fault-stops with_endless s sheet 0 f))
      look (inr (ten, left)) = omega (arith, ten)

  -- the readings part at such a field
  at-end : (p : Part with_shuffles with_endless s sheet 0) (u : ℕ) → p.which ≡ v_field 2 u → value_at s p.which p.place ≡ 0 → fault_of with_shuffles (v_field 2 u) 0 ≡ 7 → EndlessRefused s
  unfolding read_sheet_on
  at-end p u l value seven =
      let place : ℕ = p.place in
      let v : Field = v_field 2 u in
      let inside : place + 2 ≤ length s = subst (λ (x : Field). place + size_of x ≤ length s) l p.fits in
      let zero' : number s 2 place ≡ 0 = subst (λ (x : Field). value_at s x place ≡ 0) l value in
      let before : ComesTo with_shuffles s sheet 0 v place = subst (λ (x : Field). ComesTo with_shuffles s sheet 0 x place) l p.one in
      let now' : ComesTo with_endless s sheet 0 v place = subst (λ (x : Field). ComesTo with_endless s sheet 0 x place) l p.other in
      let right : RightField with_endless s v place = record { fits = inside; faultless = rw zero' refl } in
      let (m, on) = comes-on with_endless s sheet 0 v place now' right in
      record {
        version = version (placed with_endless s v place now');
        u = u;
        place = place;
        comes = now';
        inside = inside;
        zero = zero';
        old = rw (comes-stops with_shuffles s sheet 0 v 7 place before (inr (inside, rw zero' seven, omega arith)));
        new = goes_on m place on;
      }
    where
      version : Placed with_endless s (v_field 2 u) p.place → HasVersion 2 s
      version (inl (e, here)) = absurd (let z : ◌≡◌ {A = ℕ} 0 1 = cc e in omega arith)
      version (inr known) = known.0

  -- the answer is what it was; or the bytes are of version 2, it was 7 at a v that is 0, and is so no more
  pub endless-alone-changes : (read_sheet_on with_endless s ≡ read_sheet_on with_shuffles s) ⊎ EndlessRefused s
  endless-alone-changes = look (alike-but with_shuffles with_endless s EndLetIn alike)
    where
      look : Same with_shuffles with_endless s sheet 0 ⊎ ((p : Part with_shuffles with_endless s sheet 0) × EndLetIn p.which (value_at s p.which p.place))
          → (read_sheet_on with_endless s ≡ read_sheet_on with_shuffles s) ⊎ EndlessRefused s
      look (inl same) = inl (sym (same_answer_lem with_shuffles with_endless s EndLetIn alike same))
      look (inr (p, (u, l, value, seven))) = inr (at-end p u l value seven)

  -- so what was accepted still is, as the same sheet
  pub accepted-stays : {S : Sheet} → read_sheet_on with_shuffles s ≡ accepted S → read_sheet_on with_endless s ≡ accepted S
  accepted-stays {S} e = look endless-alone-changes
    where
      look : (read_sheet_on with_endless s ≡ read_sheet_on with_shuffles s) ⊎ EndlessRefused s → read_sheet_on with_endless s ≡ accepted S
      look (inl same) = same ∙ e
      look (inr r) = absurd (let z : ◌≡◌ {A = ℕ} 0 1 = cc (e, r.old) in omega arith)
