-- One form read on two terms: every field to which the reading comes has the same faults on both, and then the two readings are equal (`same_reads`), or they part at a field to which both come and
-- whose value has other faults on the one terms than on the other (`parts`). So where the terms change at some field, no sheet is affected whose reading does not come to one.
-- Assumes nothing.
use mathlib.Core.Path.{◌≡◌, refl, sym, subst, ◌∙◌}
use mathlib.Core.Logic.{◌⊎◌, inl, inr}
use mathlib.Core.Bool.{Bool, true, false}
use mathlib.Core.List.{List}
use Prim.Native.Nat.{ℕ, zero, suc, ◌+◌, ◌≤◌}
use native.Mathlib.Omega.{arith}
use lib.Dec.{eqb}
use lib.ListN.{length}
use borrow.Author.Tests.{eqb-true, eqb-false}
use Rattle.names.specs.Names.{insert_all}
use Rattle.layout.specs.Terms.{Terms}
use Rattle.layout.specs.Faults.{Field, size_of, fault_of}
use Rattle.layout.specs.Form.{Form, done, field, ◌>>=◌, read, value_at, RightField, ComesTo}
use Rattle.layout.specs.Reading.{several}
use Rattle.layout.proofs.FirstFault.{right-field, faulty-field, AtField, at_field}

module _ (T U : Terms) (s : List ℕ) where
  -- the value of a field at a place has the same fault on both
  abbrev pub Agrees : Field → ℕ → Type 0
  Agrees l place = fault_of T l (value_at s l place) ≡ fault_of U l (value_at s l place)

  -- where two readings of a form part
  pub record Part {A : Type 0} (m : Form A) (at : ℕ) : Type 0 where
    pub which : Field
    pub place : ℕ
    pub one : ComesTo T s m at which place
    pub other : ComesTo U s m at which place
    pub fits : place + size_of which ≤ length s
    pub differ : ¬ Agrees which place

  -- where they do not: so it is of each field to which the one comes
  abbrev pub Same : {A : Type 0} → Form A → ℕ → Type 0
  Same m at = (l : Field) (place : ℕ) → ComesTo U s m at l place → place + size_of l ≤ length s → Agrees l place

  module _ {A : Type 0} (l : Field) (after : ℕ → Form A) (at : ℕ) where
    abbrev x : ℕ
    x = value_at s l at

    abbrev end : ℕ
    end = at + size_of l

    same-field : (end ≤ length s → Agrees l at) → (RightField U s l at → Same (after x) end) → Same (field l after) at
    same-field e rest l' place (inl (here, same)) fits =
        subst (λ (y : Field). place + size_of y ≤ length s → Agrees y place) same (subst (λ (i : ℕ). i + size_of l ≤ length s → Agrees l i) (sym here) e) fits
    same-field e rest l' place (inr (r, c)) fits = rest r l' place c fits

    step : AtField U s l at → Same (after x) end ⊎ Part (after x) end → Same (field l after) at ⊎ Part (field l after) at
    step now rest = look now (eqb (fault_of T l x) (fault_of U l x)) refl rest
      where
        here : end ≤ length s → eqb (fault_of T l x) (fault_of U l x) ≡ false → Part (field l after) at
        here fits t = record { which = l; place = at; one = inl (refl, refl); other = inl (refl, refl); fits = fits; differ = eqb-false (fault_of T l x) (fault_of U l x) t }

        look : AtField U s l at → (b : Bool) → eqb (fault_of T l x) (fault_of U l x) ≡ b → Same (after x) end ⊎ Part (after x) end → Same (field l after) at ⊎ Part (field l after) at
        look (inr (k, inl (short, one))) b t rest = inl (same-field (λ fits. absurd (omega (arith, short, fits))) (λ r. absurd (omega (arith, short, r.fits))))
        look (inr (k, inr (fits, e, some))) true t rest = inl (same-field (λ _. eqb-true _ _ t) (λ r. absurd (omega (arith, e, some, r.faultless))))
        look (inr (k, inr (fits, e, some))) false t rest = inr (here fits t)
        look (inl r) false t rest = inr (here r.fits t)
        look (inl r) true t (inl same) = inl (same-field (λ _. eqb-true _ _ t) (λ _. same))
        look (inl r) true t (inr p) =
            let r' : RightField T s l at = record { fits = r.fits; faultless = eqb-true _ _ t ∙ r.faultless } in
            inr (record { which = p.which; place = p.place; one = inr (r', p.one); other = inr (r, p.other); fits = p.fits; differ = p.differ })

    same_step : AtField U s l at → Same (field l after) at → (Same (after x) end → read T s (after x) end ≡ read U s (after x) end)
        → read T s (field l after) at ≡ read U s (field l after) at
    same_step (inl r) same rest =
        let r' : RightField T s l at = record { fits = r.fits; faultless = same l at (inl (refl, refl)) r.fits ∙ r.faultless } in
        rw (right-field T s l at r', right-field U s l at r) (rest (λ l' place c fits. same l' place (inr (r, c)) fits))
    same_step (inr (k, inl short)) same rest = rw (faulty-field T s l at k (inl short), faulty-field U s l at k (inl short))
    same_step (inr (k, inr (fits, e, some))) same rest =
        rw (faulty-field T s l at k (inr (fits, same l at (inl (refl, refl)) fits ∙ e, some)), faulty-field U s l at k (inr (fits, e, some)))

  pub parts : {A : Type 0} (m : Form A) (at : ℕ) → Same m at ⊎ Part m at
  parts (done a) at = inl (λ l place c fits. absurd c)
  parts (field l after) at = step l after at (at_field U s l at) (parts (after (value_at s l at)) (at + size_of l))

  pub same_reads : {A : Type 0} (m : Form A) (at : ℕ) → Same m at → read T s m at ≡ read U s m at
  same_reads (done a) at same = refl
  same_reads (field l after) at same = same_step l after at (at_field U s l at) same (same_reads (after (value_at s l at)) (at + size_of l))

-- ---- every field of a form

abbrev pub Every : {A : Type 0} → (Field → Type 0) → Form A → Type 0
Every P (done a) = Unit {0}
Every P (field l after) = P l × ((x : ℕ) → Every P (after x))

module _ (P : Field → Type 0) where
  pub every_bind : {A B : Type 0} (m : Form A) (f : A → Form B) → Every P m → ((a : A) → Every P (f a)) → Every P (m >>= f)
  every_bind (done a) f e h = h a
  every_bind (field l after) f (p, e) h = (p, λ x. every_bind (after x) f (e x) h)

  pub every-several : {A : Type 0} (one : ℕ → Form A) (names : A → List ℕ) → ((used : ℕ) → Every P (one used)) → (n used : ℕ) → Every P (several one names used n)
  unfolding several
  every-several one names h zero used = tt
  every-several one names h (suc n) used =
      every_bind (one used) _ (h used) (λ x. every_bind (several one names (insert_all used (names x)) n) _ (every-several one names h n (insert_all used (names x))) (λ xs. tt))

  pub every-comes : (T : Terms) (s : List ℕ) {A : Type 0} (m : Form A) (at : ℕ) (l : Field) (place : ℕ) → Every P m → ComesTo T s m at l place → P l
  every-comes T s (done a) at l place e c = absurd c
  every-comes T s (field first after) at l place (p, e) (inl (here, same)) = subst P same p
  every-comes T s (field first after) at l place (p, e) (inr (r, c)) = every-comes T s (after (value_at s first at)) (at + size_of first) l place (e (value_at s first at)) c
