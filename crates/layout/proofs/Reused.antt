-- Document 02, change 6: "At a range name the order becomes 1, 6, 9, 8. The old answers that change are those sheets whose first fault is a Q name that is an input and already in the rule: 8 becomes 9,
-- same place. No other sheet is affected, accepted ones least of all." The two readings part at a name alone, and a name has other faults on the two terms only if it is of both kinds.
-- Assumes nothing.
use mathlib.Core.Path.{◌≡◌, refl, sym, subst, ◌∙◌}
use mathlib.Core.Logic.{◌⊎◌, inl, inr}
use mathlib.Core.Bool.{Bool, true, false, not, ◌&&◌}
use mathlib.Core.List.{List}
use Prim.Native.Nat.{ℕ, ◌+◌, ◌≤◌}
use native.Mathlib.Omega.{arith}
use lib.Dec.{ltb}
use lib.ListN.{length}
use borrow.Author.Tests.{le-ltb, ltb-false}
use Rattle.names.specs.Names.{member}
use Rattle.layout.specs.Terms.{with_endless, today}
use Rattle.layout.specs.Layout.{Sheet, last_name, Input}
use Rattle.layout.specs.Faults.{trigger_fault, name_fault, Field, name_field, size_of}
use Rattle.layout.specs.Form.{value_at, ComesTo}
use Rattle.layout.specs.Examples.{timed_bytes, reused-second}
use Rattle.layout.specs.Reading.{sheet, accepted, refused, read_sheet_on, read_sheet, ReusedInput, EightToNine, EightBecomesNine}
use Rattle.layout.proofs.FirstFault.{comes-stops}
use Rattle.layout.proofs.Parting.{Part, Same}
use Rattle.layout.proofs.Versions.{AlikeBut, alike-but, same_answer_lem}

-- the order at a range's name, before change 6 and with it: above the last name, already in the rule, of the wrong direction
abbrev before : Bool → Bool → Bool → ℕ
before = with_endless.in_order

abbrev now : Bool → Bool → Bool → ℕ
now = today.in_order

-- ---- the trigger

-- it is its rule's first name, so the order of 8 and 9 does not show there: 6, then 9, as before
pub trigger-order : (outputs i : ℕ) → (trigger_fault outputs i ≡ before (ltb last_name i) false (member outputs i)) × (trigger_fault outputs i ≡ now (ltb last_name i) false (member outputs i))
trigger-order outputs i = (refl, refl)

-- ---- a name

-- a name of 0 to 63, in Q, an input, and in the rule before
abbrev Twofold : Field → ℕ → Type 0
Twofold l n = (outputs : ℕ) × (used : ℕ) × (l ≡ name_field outputs true used) × (n ≤ last_name) × Input outputs n × (member used n ≡ true)

names : (outputs : ℕ) (of_q : Bool) (used n : ℕ)
    → (name_fault with_endless outputs of_q used n ≡ name_fault today outputs of_q used n) ⊎ Twofold (name_field outputs of_q used) n
names outputs of_q used n = look of_q (ltb last_name n) (member used n) (member outputs n) refl refl refl
  where
    look : (q above again output : Bool) → ltb last_name n ≡ above → member used n ≡ again → member outputs n ≡ output
        → (before above again (q && not output) ≡ now above again (q && not output)) ⊎ Twofold (name_field outputs q used) n
    look q true again output _ _ _ = inl refl
    look q false false output _ _ _ = look' (q && not output)
      where
        look' : (wrong : Bool) → (before false false wrong ≡ now false false wrong) ⊎ Twofold (name_field outputs q used) n
        look' true = inl refl
        look' false = inl refl
    look false false true output _ _ _ = inl refl
    look true false true true _ _ _ = inl refl
    look true false true false a b c = inr (outputs, used, refl, ltb-false last_name n a, c, b)

-- it was 8, and is 9
eight : (outputs used n : ℕ) → n ≤ last_name → member used n ≡ true → name_fault with_endless outputs true used n ≡ 8
eight outputs used n known again = rw (le-ltb last_name n known, again)

nine : (outputs used n : ℕ) → n ≤ last_name → Input outputs n → name_fault today outputs true used n ≡ 9
nine outputs used n known input = rw (le-ltb last_name n known, input)

-- ---- a sheet

refused-place : {j k p q : ℕ} → refused j p ≡ refused k q → p ≡ q
refused-place e = cc e

module _ (s : List ℕ) where
  alike : AlikeBut with_endless today s Twofold
  alike = record {
    versions = λ x. inl refl;
    rules = λ x. inl refl;
    kinds = λ version known x. inl refl;
    joins = λ version known x. inl refl;
    names = names;
    ends = λ version known u x. inl refl;
    bytes = refl;
  }

  -- it is refused with 9
  is-nine : (place : ℕ) → ReusedInput s place → read_sheet s ≡ refused 9 place
  unfolding read_sheet_on
  is-nine place r =
      rw (comes-stops today s sheet 0 (name_field r.outputs true r.used) 9 place r.comes (inr (r.inside, nine r.outputs r.used _ r.known r.input, omega arith)))

  -- and was so with 8, where the reading came to it before as well
  was-eight : (place : ℕ) (r : ReusedInput s place) → ComesTo with_endless s sheet 0 (name_field r.outputs true r.used) place → read_sheet_on with_endless s ≡ refused 8 place
  unfolding read_sheet_on
  was-eight place r c =
      rw (comes-stops with_endless s sheet 0 (name_field r.outputs true r.used) 8 place c (inr (r.inside, eight r.outputs r.used _ r.known r.again, omega arith)))

  -- where the readings part
  reused : (p : Part with_endless today s sheet 0) → Twofold p.which (value_at s p.which p.place)
      → (r : ReusedInput s p.place) × ComesTo with_endless s sheet 0 (name_field r.outputs true r.used) p.place
  reused p (outputs, used, l, known, input, again) = (
    record {
      outputs = outputs;
      used = used;
      comes = subst (λ (x : Field). ComesTo today s sheet 0 x p.place) l p.other;
      inside = subst (λ (x : Field). p.place + size_of x ≤ length s) l p.fits;
      known = subst (λ (x : Field). value_at s x p.place ≤ last_name) l known;
      input = subst (λ (x : Field). Input outputs (value_at s x p.place)) l input;
      again = subst (λ (x : Field). member used (value_at s x p.place) ≡ true) l again;
    },
    subst (λ (x : Field). ComesTo with_endless s sheet 0 x p.place) l p.one,
  )

  pub eight-becomes-nine : EightBecomesNine s
  eight-becomes-nine = look (alike-but with_endless today s Twofold alike)
    where
      look : Same with_endless today s sheet 0 ⊎ ((p : Part with_endless today s sheet 0) × Twofold p.which (value_at s p.which p.place)) → EightBecomesNine s
      look (inl same) = record {
        alone = inl (sym (same_answer_lem with_endless today s Twofold alike same));
        every = λ place r. absurd (omega (
          arith,
          eight r.outputs r.used _ r.known r.again,
          nine r.outputs r.used _ r.known r.input,
          same (name_field r.outputs true r.used) place r.comes r.inside,
        ));
      }
      look (inr (p, t)) =
          let (r, c) = reused p t in
          let old : read_sheet_on with_endless s ≡ refused 8 p.place = was-eight p.place r c in
          let there : (place : ℕ) → ReusedInput s place → p.place ≡ place = λ place q. refused-place (sym (is-nine p.place r) ∙ is-nine place q) in
          record {
            alone = inr (p.place, r, record { old = old; new = is-nine p.place r });
            every = λ place q. record { old = old ∙ rw (there place q); new = is-nine place q };
          }

  -- "accepted ones least of all": what was accepted is accepted as the same sheet, and nothing else is
  pub accepted-as-before : (S : Sheet) → (read_sheet_on with_endless s ≡ accepted S → read_sheet s ≡ accepted S) × (read_sheet s ≡ accepted S → read_sheet_on with_endless s ≡ accepted S)
  accepted-as-before S = look eight-becomes-nine.alone
    where
      look : (read_sheet s ≡ read_sheet_on with_endless s) ⊎ ((place : ℕ) × ReusedInput s place × EightToNine s place)
          → (read_sheet_on with_endless s ≡ accepted S → read_sheet s ≡ accepted S) × (read_sheet s ≡ accepted S → read_sheet_on with_endless s ≡ accepted S)
      look (inl same) = (λ e. same ∙ e, λ e. sym same ∙ e)
      look (inr (place, r, c)) = (λ e. absurd (let z : ◌≡◌ {A = ℕ} 0 1 = cc (e, c.old) in omega arith), λ e. absurd (let z : ◌≡◌ {A = ℕ} 0 1 = cc (e, c.new) in omega arith))

-- there are such sheets
pub such-a-sheet : ReusedInput (timed_bytes 4 3) 36
such-a-sheet = look (eight-becomes-nine (timed_bytes 4 3)).alone
  where
    s : List ℕ
    s = timed_bytes 4 3

    look : (read_sheet s ≡ read_sheet_on with_endless s) ⊎ ((place : ℕ) × ReusedInput s place × EightToNine s place) → ReusedInput s 36
    look (inl same) = absurd (let z : ◌≡◌ {A = ℕ} 8 9 = cc (same, reused-second.0, reused-second.1) in omega arith)
    look (inr (place, r, c)) = subst (ReusedInput s) (refused-place (sym c.new ∙ reused-second.0)) r
