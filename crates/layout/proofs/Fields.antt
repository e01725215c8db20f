-- A field and its bytes: what is read at a field is what the layout writes there, and the other way round. A part of a sheet is a piece of the bytes between two offsets,
-- and pieces are joined end to end.
-- Assumes nothing.
use mathlib.Core.Path.{◌≡◌, refl, ap, ap₂, sym, subst, ◌∙◌}
use mathlib.Core.Bool.{Bool, true, false, cond}
use mathlib.Core.List.{List, [], ◌∷◌, ◌++◌, append_assoc}
use Prim.Native.Nat.{ℕ, zero, suc, ◌+◌, ◌*◌, ◌/◌, ◌%◌, ◌^◌, ◌<◌, ◌≤◌}
use native.Mathlib.Nat.{add-zero, pow-suc}
use native.Mathlib.Numerals.{add-one}
use native.Mathlib.Omega.{arith}
use lib.Dec.{ltb}
use lib.ListN.{length, get_or, drop, length-append, length-drop}
use lib.Seq.{drop-cons, drop-drop, drop_at, get_or-drop}
use borrow.Author.Tests.{le-ltb, ltb-false}
use Rattle.layout.specs.Layout.{le, Bytes}
use Rattle.layout.specs.Form.{Got, got, stopped, field_at, number, unless}

-- ---- bytes

pub byte_at : (s : List ℕ) → Bytes s → (i : ℕ) → get_or s i 0 < 256
byte_at [] h i = omega arith
byte_at (b ∷ s) h zero = h.0
byte_at (b ∷ s) h (suc i) = byte_at s h.1 i

pub bytes_of : (s : List ℕ) → ((i : ℕ) → get_or s i 0 < 256) → Bytes s
bytes_of [] h = tt
bytes_of (b ∷ s) h = (h 0, bytes_of s (λ i. h (suc i)))

low_byte : (b y : ℕ) → b < 256 → (b + 256 * y) % 256 ≡ b
low_byte b y h = omega arith

high-bytes : (b y : ℕ) → b < 256 → (b + 256 * y) / 256 ≡ y
high-bytes b y h = omega arith

pub le-length : (n x : ℕ) → length (le n x) ≡ n
le-length zero x = refl
le-length (suc n) x = ap suc (le-length n (x / 256))

module _ (s : List ℕ) (bytes : Bytes s) where
  -- the bytes of a field are those of its number
  number-bytes : (n at : ℕ) → at + n ≤ length s → drop at s ≡ le n (number s n at) ++ drop (at + n) s
  unfolding number
  number-bytes zero at h = rw add-zero
  number-bytes (suc n) at h =
      let b : ℕ = get_or s at 0 in
      let y : ℕ = number s n (at + 1) in
      let ih : drop (at + 1) s ≡ le n y ++ drop (at + 1 + n) s = number-bytes n (at + 1) (omega arith) in
      let e : at + 1 + n ≡ at + suc n = omega arith in
      drop-cons s at 0 (omega arith)
      ∙ ap₂ ◌∷◌ (sym (low_byte b y (byte_at s bytes at)))
      (ap (λ (k : ℕ). drop k s) (sym (add-one at)) ∙ ih ∙ ap₂ (λ (z k : ℕ). le n z ++ drop k s) (sym (high-bytes b y (byte_at s bytes at))) e)

  pub number_small : (n at : ℕ) → number s n at < 256 ^ n
  unfolding number
  number_small zero at = omega arith
  number_small (suc n) at =
      let h : number s n (at + 1) < 256 ^ n = number_small n (at + 1) in rw (pow-suc 256 n) (omega (arith, byte_at s bytes at))

-- a field's number is read off its bytes
pub number_of : (s : List ℕ) (n x at : ℕ) (rest : List ℕ) → x < 256 ^ n → drop at s ≡ le n x ++ rest → number s n at ≡ x
unfolding number
number_of s zero x at rest h e = omega (arith, h)
number_of s (suc n) x at rest h e =
    let first : get_or s at 0 ≡ x % 256
    = ap (λ (k : ℕ). get_or s k 0) (sym (add-zero at)) ∙ sym (get_or-drop at s 0 0) ∙ ap (λ (l : List ℕ). get_or l 0 0) e in
    let others : drop (at + 1) s ≡ le n (x / 256) ++ rest = sym (drop-drop 1 at s) ∙ ap (drop 1) e in
    let h' : x < 256 ^ n * 256 = rw pow-suc at h in
    let small : x / 256 < 256 ^ n = omega arith in
    ap₂ (λ (a b : ℕ). a + 256 * b) first (number_of s n (x / 256) (at + 1) rest small others) ∙ omega arith

-- ---- pieces

-- from one offset to another the bytes are xs
pub record Piece (s : List ℕ) (at : ℕ) (xs : List ℕ) (end : ℕ) : Type 0 where
  pub bytes : drop at s ≡ xs ++ drop end s
  pub inside : end ≤ length s

pub join-pieces : {s : List ℕ} {at : ℕ} {xs ys : List ℕ} {mid end : ℕ} → Piece s at xs mid → Piece s mid ys end → Piece s at (xs ++ ys) end
join-pieces {xs} {ys} p q =
    record { bytes = p.bytes ∙ ap (xs ++◌) q.bytes ∙ sym (append_assoc xs ys _); inside = q.inside }

pub no-piece : {s : List ℕ} {at : ℕ} → at ≤ length s → Piece s at [] at
no-piece h = record { bytes = refl; inside = h }

-- ---- a field that is read

unless-got : (s : List ℕ) (k x end at : ℕ) {y end' : ℕ} → unless s k x end at ≡ got y end' → (k ≡ 0) × (x ≡ y) × (end ≡ end')
unless-got s zero x end at e = (refl, (cc), (cc))
unless-got s (suc k) x end at e = absurd (let z : ◌≡◌ {A = ℕ} 0 1 = cc in omega arith)

-- what was read at a field: its bytes, a value without fault that fits the field
pub record FieldGot (s : List ℕ) (n : ℕ) (fault : ℕ → ℕ) (at x end : ℕ) : Type 0 where
  pub piece : Piece s at (le n x) end
  pub faultless : fault x ≡ 0
  pub small : x < 256 ^ n

pub field-sound : {s : List ℕ} → Bytes s → (n : ℕ) (fault : ℕ → ℕ) {at x end : ℕ} → field_at s n fault at ≡ got x end → FieldGot s n fault at x end
unfolding field_at
field-sound {s} bytes n fault {at} {x} {end} e = go (ltb (length s) (at + n)) refl e
  where
    go : (b : Bool) → ltb (length s) (at + n) ≡ b
        → cond b (stopped 1 at) (unless s (fault (number s n at)) (number s n at) (at + n) at) ≡ got x end → FieldGot s n fault at x end
    go true _ r = absurd (let z : ◌≡◌ {A = ℕ} 0 1 = cc in omega arith)
    go false t r =
        let (z, ex, ee) = unless-got s _ _ _ at r in
        let h : at + n ≤ length s = ltb-false _ _ t in
        record {
          piece = record {
            bytes = number-bytes s bytes n at h ∙ ap₂ (λ (y k : ℕ). le n y ++ drop k s) ex ee;
            inside = subst (λ (k : ℕ). k ≤ length s) ee h;
          };
          faultless = ap fault (sym ex) ∙ z;
          small = subst (λ (y : ℕ). y < 256 ^ n) ex (number_small s bytes n at);
        }

-- ---- a field that is written

long-enough : (s : List ℕ) (at : ℕ) (xs rest : List ℕ) → at ≤ length s → drop at s ≡ xs ++ rest → at + length xs ≤ length s
long-enough s at xs rest h e = omega (arith, sym (length-drop at s) ∙ ap length e ∙ length-append xs rest)

-- a reading finds this value, and what is left of the bytes
pub record Finds {A : Type 0} (s : List ℕ) (g : Got A) (a : A) (rest : List ℕ) : Type 0 where
  pub end : ℕ
  pub reads : g ≡ got a end
  pub left : drop end s ≡ rest
  pub inside : end ≤ length s

pub field-complete : (s : List ℕ) (n : ℕ) (fault : ℕ → ℕ) (x at : ℕ) {rest : List ℕ} → at ≤ length s → x < 256 ^ n → fault x ≡ 0
    → drop at s ≡ le n x ++ rest → Finds s (field_at s n fault at) x rest
unfolding field_at
field-complete s n fault x at {rest} h small z e =
    let l : at + n ≤ length s = subst (λ (k : ℕ). at + k ≤ length s) (le-length n x) (long-enough s at (le n x) rest h e) in
    record {
      end = at + n;
      reads = rw (le-ltb (length s) (at + n) l, number_of s n x at rest small e, z);
      left = sym (drop-drop n at s) ∙ ap (drop n) e ∙ drop_at (le n x) rest n (le-length n x);
      inside = l;
    }
