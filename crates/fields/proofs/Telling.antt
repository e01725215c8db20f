-- How the code tells what was read: the ways to say it, and what is known once it is said. A field is looked at first, then its value is tested, and then the reader goes on or not.
-- Assumes nothing.
use Rattle.std.proofs.Common.{Bool, true, false, cond, ltb, subst, ◌≡◌, ap, sym, ◌∙◌, refl, ℕ, zero, suc, ◌+◌, ◌^◌, ◌<◌, ◌≤◌, Option, Some, None, Result, Ok, Err, MatchResult, IsErrAnd, List, length, arith}
use Rattle.std.proofs.lemmas.Result.{err_from_is_err_and, MatchResult-weaker}
use borrow.Author.Tests.{lt-ltb, le-ltb}
use Rattle.pattern.specs.Meaning.{Between}
use Rattle.layout.specs.Form.{Got, got, stopped, next, number, field_at, unless}
use Rattle.layout.specs.Terms.{no_fault}
use Rattle.layout.specs.Faults.{outside}
use Rattle.layout.proofs.Values.{outside-faultless}
use Rattle.fields.specs.Faults.{number_of, number_or_0}
use Rattle.fields.specs.Values.{Value}
use Rattle.fields.specs.Told.{a_field, Read, Stopped, Told, Looked, Settled}
use Rattle.fields.specs.declared.Fault.{Fault}
use Rattle.fields.specs.declared.Fault.TheVariants.{DoesNotFit, NoMark, UnknownVersion, OutsideItsValues, NotZero, NoName, BoundTooLow, AlreadyInRule, WrongDirection, BytesLeftOver}
use Rattle.fields.specs.declared.Refused.{Refused}
use Rattle.fields.specs.declared.Reader.{Reader}

-- no fault has the number 0
pub positive : (k : Fault) → 0 < number_of k
positive DoesNotFit = omega arith
positive NoMark = omega arith
positive UnknownVersion = omega arith
positive OutsideItsValues = omega arith
positive NotZero = omega arith
positive NoName = omega arith
positive BoundTooLow = omega arith
positive AlreadyInRule = omega arith
positive WrongDirection = omega arith
positive BytesLeftOver = omega arith

-- ---- a field

module _ (s : List ℕ) (n : ℕ) (fault : ℕ → ℕ) (at : ℕ) where
  field-short : length s < at + n → field_at s n fault at ≡ stopped 1 at
  unfolding field_at
  field-short h = rw (lt-ltb _ _ h)

  field-whole : at + n ≤ length s → field_at s n fault at ≡ unless s (fault (number s n at)) (number s n at) (at + n) at
  unfolding field_at
  field-whole h = rw (le-ltb _ _ h)

  unless-stops : (k x end : ℕ) → 0 < k → unless s k x end at ≡ stopped k at
  unless-stops zero x end h = absurd (omega arith)
  unless-stops (suc k) x end h = refl

  -- what the code read, if it is the number there
  field-read : {x k : ℕ} → at + n ≤ length s → x ≡ number s n at → k ≡ fault x → field_at s n fault at ≡ unless s k x (at + n) at
  field-read h e ek = field-whole h ∙ rw (← e) (rw ek)

  -- a value at which the reading goes on has no fault
  faultless : {x end : ℕ} → field_at s n fault at ≡ got x end → fault x ≡ 0
  unfolding field_at
  faultless {x} {end} e = go (ltb (length s) (at + n)) e
    where
      tested : (k : ℕ) → fault (number s n at) ≡ k → unless s k (number s n at) (at + n) at ≡ got x end → fault x ≡ 0
      tested zero f e = let same : number s n at ≡ x = cc e in ap fault (sym same) ∙ f
      tested (suc k) f e = absurd (let z : ◌≡◌ {A = ℕ} 0 1 = cc e in omega arith)

      go : (b : Bool) → cond b (stopped 1 at) (unless s (fault (number s n at)) (number s n at) (at + n) at) ≡ got x end → fault x ≡ 0
      go true e = absurd (let z : ◌≡◌ {A = ℕ} 0 1 = cc e in omega arith)
      go false e = tested _ refl e

-- a refusal is told by its number and its place
pub stops_at_lem : {V A : Type 0} {Shows : V → A → Type 0} {old new : Reader} {e : Refused} {G : List ℕ → ℕ → Got A} {k place : ℕ} → G old.bytes.now old.at ≡ stopped k place
    → (number_of e.fault ≡ k) × (e.place ≡ place) → (new.bytes.now ≡ old.bytes.now) × (new.at ≡ place) → Told Shows old new (Err e) G
stops_at_lem stops is new = record { same = new.0; says = record { stops = cc (stops, is.0, is.1); stands = cc (new.1, is.1) } }

-- there was no field to test
pub short : {V : Type 0} {Shows : V → ℕ → Type 0} (n : ℕ) (old : Reader) {r : Result V Refused} {e : Refused} (fault : ℕ → ℕ) → Looked n old (Err e)
    → IsErrAnd r (λ y. y ≡ e) → Told Shows old old r (a_field n fault)
short n old {r} fault (h, is) err =
    let p = err_from_is_err_and r err in
    rw (p.1, p.2, is) (stops_at_lem (field-short old.bytes.now n fault old.at h) (refl, refl) (refl, refl))

-- there was one, and its value was tested
module _ {n : ℕ} {old new : Reader} {x : ℕ} {P : ℕ → Type 0} (fault : ℕ → ℕ) where
  pub settled : {k : Option Fault} {r : Result ℕ Refused} → Looked n old (Ok x) → number_or_0 k ≡ fault x → (fault x ≡ 0 → x < 256 ^ n → P x)
      → Settled n x k old new r → Told (λ v a. (v ≡ a) × P a) old new r (a_field n fault)
  settled {k = None} (h, (is, small)) e p told =
      record {
        same = told.same;
        says = rw told.says.0 (record {
          value = x;
          reads = field-read old.bytes.now n fault old.at h is e ∙ ap (got x) (sym told.says.1);
          shows = (refl, p (sym e) (rw is small));
        });
      }
  settled {k = Some k} (h, (is, small)) e p told =
      record {
        same = told.same;
        says = rw told.says.0 (record {
          stops = field-read old.bytes.now n fault old.at h is e ∙ unless-stops old.bytes.now n fault old.at (number_of k) x (old.at + n) (positive k);
          stands = told.says.1;
        });
      }

-- a field that was read whatever its value, and the value has a fault: tested, it stops at the field's place
pub tested_at : (n : ℕ) (fault : ℕ → ℕ) {old new : Reader} {v k : ℕ} → 0 < k → Told (Value n) old new (Ok v) (a_field n no_fault) → fault v ≡ k
    → field_at old.bytes.now n fault old.at ≡ stopped k old.at
unfolding field_at
tested_at n fault {old} {new} {v} {k} pos told e = go (ltb (length old.bytes.now) (old.at + n)) told.says.reads
  where
    here : ℕ
    here = number old.bytes.now n old.at

    go : (b : Bool) → cond b (stopped 1 old.at) (got here (old.at + n)) ≡ got told.says.value new.at
        → cond b (stopped 1 old.at) (unless old.bytes.now (fault here) here (old.at + n) old.at) ≡ stopped k old.at
    go true r = absurd (let z : ◌≡◌ {A = ℕ} 0 1 = cc r in omega arith)
    go false r =
        let same : here ≡ v = (let read : here ≡ told.says.value = cc r in read ∙ sym told.says.shows.0) in
        ap (λ (m : ℕ). unless old.bytes.now m here (old.at + n) old.at) (ap fault same ∙ e) ∙ unless-stops old.bytes.now n fault old.at k here (old.at + n) pos

-- a value that is not outside
pub inside : (k : Fault) (first last x : ℕ) → outside (number_of k) first last x ≡ 0 → Between first last x
inside k first last x e = go (number_of k) (positive k) e
  where
    go : (m : ℕ) → 0 < m → outside m first last x ≡ 0 → Between first last x
    go zero h e = absurd (omega arith)
    go (suc m) h e = outside-faultless m first last x e

-- ---- what is told

module _ {V A : Type 0} {old new : Reader} {r : Result V Refused} {G : List ℕ → ℕ → Got A} {Shows : V → A → Type 0} where
  pub weaken : {Shows' : V → A → Type 0} → ((v : V) (a : A) → Shows v a → Shows' v a) → Told Shows old new r G → Told Shows' old new r G
  weaken {Shows'} f told = record { same = told.same; says = MatchResult-weaker r told.says (λ v t. record { value = t.value; reads = t.reads; shows = f v t.value t.shows }) (λ e t. t) }

  -- the same by another definition
  pub by_same : {H : List ℕ → ℕ → Got A} → ((s : List ℕ) (at : ℕ) → H s at ≡ G s at) → Told Shows old new r G → Told Shows old new r H
  by_same {H} same told =
      let e : H old.bytes.now old.at ≡ G old.bytes.now old.at = same old.bytes.now old.at in
      record { same = told.same; says = subst (λ (g : Got A). MatchResult r (Read Shows new.at g) (Stopped new.at g)) (sym e) told.says }

-- nothing more is read
pub done : {V A : Type 0} {Shows : V → A → Type 0} {at : Reader} {v : V} {a : A} → Shows v a → Told Shows at at (Ok v) (λ s. got a)
done {a} shows = record { same = refl; says = record { value = a; reads = refl; shows = shows } }

-- a part before the rest
module _ {U A V B : Type 0} {First : U → A → Type 0} {Shows : V → B → Type 0} {old mid : Reader} {G : List ℕ → ℕ → Got A} (H : A → List ℕ → ℕ → Got B) where
  -- it was refused, and so is all
  pub fails : {e : Refused} {r : Result V Refused} → Told First old mid (Err e) G → IsErrAnd r (λ y. y ≡ e) → Told Shows old mid r (λ s at. next (G s at) (λ a. H a s))
  fails {r} told err = let p = err_from_is_err_and r err in record { same = told.same; says = rw (p.1, p.2) (record { stops = rw told.says.stops; stands = told.says.stands }) }

  -- it was read, and then the rest
  pub goes_on : {u : U} {new : Reader} {r : Result V Refused} → Told First old mid (Ok u) G
      → ((a : A) → G old.bytes.now old.at ≡ got a mid.at → First u a → Told Shows mid new r (H a)) → Told Shows old new r (λ s at. next (G s at) (λ a. H a s))
  goes_on {new} {r} told rest =
      let t = rest told.says.value told.says.reads told.says.shows in
      let e : next (G old.bytes.now old.at) (λ a. H a old.bytes.now) ≡ H told.says.value mid.bytes.now mid.at = rw (told.says.reads, told.same) in
      record { same = t.same ∙ told.same; says = subst (λ (g : Got B). MatchResult r (Read Shows new.at g) (Stopped new.at g)) (sym e) t.says }

-- a part that is the last, and its result all's
module _ {V A B : Type 0} {First : V → A → Type 0} {Shows : V → B → Type 0} {old new : Reader} {G : List ℕ → ℕ → Got A} (f : A → B) where
  pub last : {r : Result V Refused} → ((v : V) (a : A) → G old.bytes.now old.at ≡ got a new.at → First v a → Shows v (f a)) → Told First old new r G
      → Told Shows old new r (λ s at. next (G s at) (λ a. got (f a)))
  last {r} shows told =
      record {
        same = told.same;
        says = MatchResult-weaker r told.says
            (λ v t. record { value = f t.value; reads = rw t.reads; shows = shows v t.value t.reads t.shows })
            (λ e t. record { stops = rw t.stops; stands = t.stands });
      }

-- a number that was read is the code's own
module _ {old mid : Reader} {v : ℕ} {P : ℕ → Type 0} {G : List ℕ → ℕ → Got ℕ} where
  pub number-is : Told (λ x a. (x ≡ a) × P a) old mid (Ok v) G → P v
  number-is told = subst P (sym told.says.shows.0) told.says.shows.1

  pub then : {V B : Type 0} {Shows : V → B → Type 0} {new : Reader} {r : Result V Refused} (H : ℕ → List ℕ → ℕ → Got B) → Told (λ x a. (x ≡ a) × P a) old mid (Ok v) G
      → Told Shows mid new r (H v) → Told Shows old new r (λ s at. next (G s at) (λ a. H a s))
  then {Shows} {new} {r} H told rest = goes_on H told (λ a e shows. subst (λ (x : ℕ). Told Shows mid new r (H x)) shows.0 rest)

-- a field that was read has no fault
pub no-fault : (n : ℕ) (fault : ℕ → ℕ) {old mid : Reader} {v : ℕ} {P : ℕ → Type 0} → Told (λ x a. (x ≡ a) × P a) old mid (Ok v) (a_field n fault) → fault v ≡ 0
no-fault n fault {old} told = subst (λ (x : ℕ). fault x ≡ 0) (sym told.says.shows.0) (faultless old.bytes.now n fault old.at told.says.reads)
