-- "the first faulty field decides": a refusal below 10 is that of the first faulty field, all fields before it being right, and a first faulty field is always found;
-- 10 is said exactly where every field is right and bytes are left over.
-- Assumes nothing.
use mathlib.Core.Path.{◌≡◌, refl, sym, subst, ◌∙◌}
use mathlib.Core.Logic.{◌⊎◌, inl, inr}
use mathlib.Core.Bool.{Bool, true, false, cond}
use mathlib.Core.List.{List}
use Prim.Native.Nat.{ℕ, zero, suc, ◌+◌, ◌<◌, ◌≤◌}
use native.Mathlib.Nat.{zero-lt-suc}
use native.Mathlib.Omega.{arith}
use lib.Dec.{ltb}
use lib.ListN.{length}
use borrow.Author.Tests.{ltb-true, ltb-false, lt-ltb, le-ltb}
use Rattle.layout.specs.Terms.{Terms}
use Rattle.layout.specs.Layout.{Sheet}
use Rattle.layout.specs.Faults.{Field, size_of, fault_of}
use Rattle.layout.specs.Form.{Form, done, field, Got, got, stopped, next, field_at, read, value_at, RightField, HasFault, ComesTo, FirstFault}
use Rattle.layout.specs.Reading.{sheet, accepted, refused, at_end, read_sheet_on}

module _ (T : Terms) (s : List ℕ) where
  -- ---- a field: it is right, or it has a fault

  abbrev field_of : Field → ℕ → Got ℕ
  field_of l at = field_at s (size_of l) (fault_of T l) at

  pub right-field : (l : Field) (at : ℕ) → RightField T s l at → field_of l at ≡ got (value_at s l at) (at + size_of l)
  unfolding field_at
  right-field l at r = rw (le-ltb _ _ r.fits, r.faultless)

  pub faulty-field : (l : Field) (at k : ℕ) → HasFault T s l at k → field_of l at ≡ stopped k at
  unfolding field_at
  faulty-field l at k (inl (short, one)) = rw (lt-ltb _ _ short, one)
  faulty-field l at zero (inr (fits, e, some)) = absurd (omega (arith, some))
  faulty-field l at (suc k) (inr (fits, e, some)) = rw (le-ltb _ _ fits, e)

  abbrev pub AtField : Field → ℕ → Type 0
  AtField l at = RightField T s l at ⊎ ((k : ℕ) × HasFault T s l at k)

  pub at_field : (l : Field) (at : ℕ) → AtField l at
  at_field l at = go (ltb (length s) (at + size_of l)) refl (fault_of T l (value_at s l at)) refl
    where
      go : (b : Bool) → ltb (length s) (at + size_of l) ≡ b → (k : ℕ) → fault_of T l (value_at s l at) ≡ k → AtField l at
      go true t k e = inr (1, inl (ltb-true _ _ t, refl))
      go false t zero e = inl (record { fits = ltb-false _ _ t; faultless = e })
      go false t (suc k) e = inr (suc k, inr (ltb-false _ _ t, e, zero-lt-suc k))

  -- ---- a form

  number_of : {A : Type 0} {j k p q : ℕ} → ◌≡◌ {A = Got A} (stopped j p) (stopped k q) → j ≡ k
  number_of e = cc e

  place_of : {A : Type 0} {j k p q : ℕ} → ◌≡◌ {A = Got A} (stopped j p) (stopped k q) → p ≡ q
  place_of e = cc e

  stop-finds : {A : Type 0} (m : Form A) (at : ℕ) {k place : ℕ} → read T s m at ≡ stopped k place → FirstFault T s m at k place
  stop-finds (done a) at e = absurd (let z : ◌≡◌ {A = ℕ} 0 1 = cc e in omega arith)
  stop-finds (field l after) at {k} {place} e = go (at_field l at) (stop-finds (after (value_at s l at)) (at + size_of l)) e
    where
      go : AtField l at → (read T s (after (value_at s l at)) (at + size_of l) ≡ stopped k place → FirstFault T s (after (value_at s l at)) (at + size_of l) k place)
          → next (field_of l at) (λ x. read T s (after x)) ≡ stopped k place → FirstFault T s (field l after) at k place
      go (inl r) ih e = let f = ih (rw (right-field l at r) at e) in record { which = f.which; comes = inr (r, f.comes); has = f.has }
      go (inr (j, h)) ih e =
          let e' = rw (faulty-field l at j h) at e in
          record { which = l; comes = inl (sym (place_of e'), refl); has = subst (λ (p : ℕ). HasFault T s l p k) (place_of e') (subst (HasFault T s l at) (number_of e') h) }

  -- a field to which the reading comes stops it by its fault
  pub comes-stops : {A : Type 0} (m : Form A) (at : ℕ) (l : Field) (k place : ℕ) → ComesTo T s m at l place → HasFault T s l place k → read T s m at ≡ stopped k place
  comes-stops (done a) at l k place c h = absurd c
  comes-stops (field first after) at l k place (inl (here, same)) h =
      rw (faulty-field first at k (subst (λ (p : ℕ). HasFault T s first p k) here (subst (λ (x : Field). HasFault T s x place k) (sym same) h)), here)
  comes-stops (field first after) at l k place (inr (r, c)) h = rw (right-field first at r) (comes-stops (after (value_at s first at)) (at + size_of first) l k place c h)

  pub fault-stops : {A : Type 0} (m : Form A) (at : ℕ) {k place : ℕ} → FirstFault T s m at k place → read T s m at ≡ stopped k place
  fault-stops m at {k} {place} f = comes-stops m at f.which k place f.comes f.has

  -- and one that is right lets it go on
  pub comes-on : {A : Type 0} (m : Form A) (at : ℕ) (l : Field) (place : ℕ) → ComesTo T s m at l place → RightField T s l place
      → (rest : Form A) × (read T s m at ≡ read T s rest (place + size_of l))
  comes-on (done a) at l place c r = absurd c
  comes-on (field first after) at l place (inl (here, same)) r =
      let r' : RightField T s first at = subst (RightField T s first) here (subst (λ (x : Field). RightField T s x place) (sym same) r) in
      (after (value_at s first at), rw (right-field first at r', here, sym same))
  comes-on (field first after) at l place (inr (q, c)) r =
      let (rest, e) = comes-on (after (value_at s first at)) (at + size_of first) l place c r in
      (rest, rw (right-field first at q) e)

  -- a reading from an offset on comes to no field before it
  comes-later : {A : Type 0} (m : Form A) (at : ℕ) (l : Field) (place : ℕ) → ComesTo T s m at l place → at ≤ place
  comes-later (done a) at l place c = absurd c
  comes-later (field first after) at l place (inl (here, same)) = omega (arith, here)
  comes-later (field first after) at l place (inr (r, c)) = omega (arith, comes-later (after (value_at s first at)) (at + size_of first) l place c)

  pub stops-later : {A : Type 0} (m : Form A) (at : ℕ) {k place : ℕ} → read T s m at ≡ stopped k place → at ≤ place
  stops-later m at {k} {place} e = let f = stop-finds m at e in comes-later m at f.which place f.comes

  -- ---- the sheet

  -- every field is right up to this offset, where the last rule ends, and more bytes follow
  pub record LeftOver (place : ℕ) : Type 0 where
    pub S : Sheet
    pub right_up_to : read T s sheet 0 ≡ got S place
    pub more : place < length s

  -- what a refusal means
  abbrev pub Faulty : ℕ → ℕ → Type 0
  Faulty k place = FirstFault T s sheet 0 k place ⊎ ((k ≡ 10) × LeftOver place)

  end-finds : (g : Got Sheet) {k place : ℕ} → read T s sheet 0 ≡ g → at_end s g ≡ refused k place → Faulty k place
  end-finds (stopped j p) {k} {place} q e =
      let ek : j ≡ k = cc e in let ep : p ≡ place = cc e in inl (stop-finds sheet 0 (q ∙ rw (ek, ep)))
  end-finds (got S end) {k} {place} q e = go (ltb end (length s)) refl e
    where
      go : (b : Bool) → ltb end (length s) ≡ b → cond b (refused 10 end) (accepted S) ≡ refused k place → Faulty k place
      go true t e =
          let ek : 10 ≡ k = cc e in
          let ep : end ≡ place = cc e in
          inr (sym ek, record { S = S; right_up_to = q ∙ rw ep; more = subst (λ (i : ℕ). i < length s) ep (ltb-true _ _ t) })
      go false t e = absurd (let z : ◌≡◌ {A = ℕ} 0 1 = cc e in omega arith)

  -- on terms that find no fault in the number of bytes, as today's find none
  module _ (short : T.bytes (length s) ≡ 0) where
    -- "The refusal is that of the first faulty field": all earlier fields are right, this one is not; or all are right, and bytes are left over
    pub first-fault : {k place : ℕ} → read_sheet_on T s ≡ refused k place → Faulty k place
    unfolding read_sheet_on
    first-fault e = end-finds (read T s sheet 0) refl (rw short at e)

    -- and the other way round: bytes with a first fault are refused with its number, at its place
    pub fault-refused : {k place : ℕ} → Faulty k place → read_sheet_on T s ≡ refused k place
    unfolding read_sheet_on
    fault-refused (inl f) = rw (short, fault-stops sheet 0 f)
    fault-refused (inr (e, l)) = rw (short, l.right_up_to, lt-ltb _ _ l.more, e)
