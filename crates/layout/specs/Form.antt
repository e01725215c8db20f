-- A form: fields one after the other, and what comes after each, which may go by its value.
-- A form is read from an offset on, field by field: a value and the offset after it, or the number and the place of the first fault. What is a fault, the terms say.
-- Assumes nothing.
use Rattle.std.specs.Prelude.{◌≡◌, ◌⊎◌, cond, List, ℕ, zero, suc, ◌+◌, ◌*◌, ◌<◌, ◌≤◌, ltb, length, get_or}
use Rattle.layout.specs.Terms.{Terms}
use Rattle.layout.specs.Faults.{Field, size_of, fault_of}

pub data Form (A : Type 0) : Type 0 where
  -- no field more
  done : A → Form A
  field : Field → (after : ℕ → Form A) → Form A

-- one form after another
infixl 20 ◌>>=◌
abbrev pub ◌>>=◌ : {A B : Type 0} → Form A → (A → Form B) → Form B
◌>>=◌ (done a) f = f a
◌>>=◌ (field l after) f = field l (λ x. after x >>= f)

-- one field
abbrev pub ask : Field → Form ℕ
ask l = field l done

-- ---- reading

-- a value and the offset after it, or a fault's number and its place
pub data Got (A : Type 0) : Type 0 where
  got : A → ℕ → Got A
  stopped : (number place : ℕ) → Got A

-- what is read after it
abbrev pub next : {A B : Type 0} → Got A → (A → ℕ → Got B) → Got B
next (got a at) f = f a at
next (stopped k place) f = stopped k place

module _ (s : List ℕ) where
  -- the number of n bytes from an offset on, little-endian
  unfoldable pub number : ℕ → ℕ → ℕ
  number zero at = 0
  number (suc n) at = get_or s at 0 + 256 * number n (at + 1)

  -- a value that has a fault stops the reading at its field
  abbrev pub unless : ℕ → ℕ → ℕ → ℕ → Got ℕ
  unless zero x end at = got x end
  unless (suc k) x end at = stopped (suc k) at

  -- a field of n bytes: "1 field doesn't fit in the bytes left", then the faults of its value; "Place is the offset of that field"
  unfoldable pub field_at : ℕ → (ℕ → ℕ) → ℕ → Got ℕ
  field_at n fault at = cond (ltb (length s) (at + n)) (stopped 1 at) (unless (fault (number n at)) (number n at) (at + n) at)

  -- the value of a field at an offset
  abbrev pub value_at : Field → ℕ → ℕ
  value_at l at = number (size_of l) at

module _ (T : Terms) (s : List ℕ) where
  abbrev pub read : {A : Type 0} → Form A → ℕ → Got A
  read (done a) at = got a at
  read (field l after) at = next (field_at s (size_of l) (fault_of T l) at) (λ x. read (after x))

  -- ---- "the first faulty field decides"

  -- a field at an offset is right: it fits in the bytes left, and its value has no fault
  pub record RightField (l : Field) (at : ℕ) : Type 0 where
    pub fits : at + size_of l ≤ length s
    pub faultless : fault_of T l (value_at s l at) ≡ 0

  -- it has the fault of this number: it does not fit, or it does and its value has the fault
  abbrev pub HasFault : Field → ℕ → ℕ → Type 0
  HasFault l at k = ((length s < at + size_of l) × (k ≡ 1)) ⊎ ((at + size_of l ≤ length s) × (fault_of T l (value_at s l at) ≡ k) × (0 < k))

  -- a form read from an offset on comes to a field at a place: that is its first; or its first is right, and the fields after it come to that one
  abbrev pub ComesTo : {A : Type 0} → Form A → (at : ℕ) → Field → (place : ℕ) → Type 0
  ComesTo (done a) at l place = ⊥
  ComesTo (field first after) at l place = ((place ≡ at) × (first ≡ l)) ⊎ (RightField first at × ComesTo (after (value_at s first at)) (at + size_of first) l place)

  -- its first fault: that of a field to which it comes, all fields before being right
  pub record FirstFault {A : Type 0} (m : Form A) (at k place : ℕ) : Type 0 where
    pub which : Field
    pub comes : ComesTo m at which place
    pub has : HasFault which place k
