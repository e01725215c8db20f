-- Forms, one after the other and several in a row: how they are read, and the bytes that they are read from.
-- Assumes nothing.
use mathlib.Core.Path.{◌≡◌, refl, ap, sym, subst, ◌∙◌}
use mathlib.Core.List.{List, [], ◌∷◌, ◌++◌, append_assoc}
use Prim.Native.Nat.{ℕ, zero, suc, ◌≤◌}
use native.Mathlib.Omega.{arith}
use lib.ListN.{length, drop}
use Rattle.names.specs.Names.{insert_all}
use Rattle.layout.specs.Terms.{Terms}
use Rattle.layout.specs.Layout.{each, Bytes}
use Rattle.layout.specs.Faults.{size_of, fault_of}
use Rattle.layout.specs.Form.{Form, done, field, ◌>>=◌, Got, got, stopped, next, field_at, read}
use Rattle.layout.specs.Reading.{several}
use Rattle.layout.proofs.Fields.{Piece, join-pieces, no-piece, FieldGot, field-sound, Finds}

-- ---- one after the other

-- a reading that went on to its end got the first part
pub next-got : {A B : Type 0} (g : Got A) {f : A → ℕ → Got B} {b : B} {end : ℕ} → next g f ≡ got b end
    → (a : A) × (at : ℕ) × (g ≡ got a at) × (f a at ≡ got b end)
next-got (got a at) e = (a, at, refl, e)
next-got (stopped k p) e = absurd (let z : ◌≡◌ {A = ℕ} 0 1 = cc in omega arith)

-- a field before the rest: its value, and what is known of it
pub field-got : {A : Type 0} {s : List ℕ} → Bytes s → (n : ℕ) (fault : ℕ → ℕ) (at : ℕ) {f : ℕ → ℕ → Got A} {b : A} {end : ℕ} → next (field_at s n fault at) f ≡ got b end
    → (x : ℕ) × (at₁ : ℕ) × FieldGot s n fault at x at₁ × (f x at₁ ≡ got b end)
field-got {s} bytes n fault at e = let (x, at₁, e₁, k) = next-got (field_at s n fault at) e in (x, at₁, field-sound bytes n fault e₁, k)

pub next-same : {A B : Type 0} (g : Got A) {f f' : A → ℕ → Got B} → ((a : A) (at : ℕ) → f a at ≡ f' a at) → next g f ≡ next g f'
next-same (got a at) h = h a at
next-same (stopped k p) h = refl

value_of : {A : Type 0} {a b : A} {i j : ℕ} → got a i ≡ got b j → a ≡ b
value_of e = cc e

end_of : {A : Type 0} {a b : A} {i j : ℕ} → got a i ≡ got b j → i ≡ j
end_of e = cc e

-- what holds of a reading's value and end holds of an equal reading's
pub moved : {A : Type 0} (P : A → ℕ → Type 0) {a b : A} {i j : ℕ} → got a i ≡ got b j → P a i → P b j
moved P {a} {b} {i} {j} e p = subst (λ (x : _). P x j) (value_of e) (subst (P a) (end_of e) p)

module _ (T : Terms) (s : List ℕ) where
  -- a form after another is read where that one ended
  pub read-bind : {A B : Type 0} (m : Form A) (f : A → Form B) (at : ℕ) → read T s (m >>= f) at ≡ next (read T s m at) (λ a. read T s (f a))
  read-bind (done a) f at = refl
  read-bind (field l after) f at = go (field_at s (size_of l) (fault_of T l) at) (λ x. read-bind (after x) f)
    where
      go : (g : Got ℕ) → ((x i : ℕ) → read T s (after x >>= f) i ≡ next (read T s (after x) i) (λ a. read T s (f a)))
          → next g (λ x. read T s (after x >>= f)) ≡ next (next g (λ x. read T s (after x))) (λ a. read T s (f a))
      go (got x i) ih = ih x i
      go (stopped k p) ih = refl

  module _ {A : Type 0} (one : ℕ → Form A) (names : A → List ℕ) where
    pub read-several : (used n at : ℕ)
        → read T s (several one names used (suc n)) at
        ≡ next (read T s (one used) at) (λ x i. next (read T s (several one names (insert_all used (names x)) n) i) (λ xs j. got (x ∷ xs) j))
    unfolding several
    read-several used n at =
        read-bind (one used) _ at ∙ next-same (read T s (one used) at) (λ x i. read-bind (several one names (insert_all used (names x)) n) _ i)

    pub several-length : (n used at : ℕ) {end : ℕ} {xs : List A} → read T s (several one names used n) at ≡ got xs end → length xs ≡ n
    unfolding several
    several-length zero used at e = ap length (sym (value_of e))
    several-length (suc n) used at e =
        let (x, i, e₁, k₁) = next-got (read T s (one used) at) (sym (read-several used n at) ∙ e) in
        let (xs, j, e₂, k₂) = next-got (read T s (several one names (insert_all used (names x)) n) i) k₁ in
        ap length (sym (value_of k₂)) ∙ ap suc (several-length n (insert_all used (names x)) i e₂)

-- ---- and the bytes

-- what was read from an offset on: the bytes of a part, and a good one
pub record Sound {A : Type 0} (s : List ℕ) (bytes : A → List ℕ) (Good : A → Type 0) (at : ℕ) (x : A) (end : ℕ) : Type 0 where
  pub piece : Piece s at (bytes x) end
  pub good : Good x

-- each is good after the names of those before it
abbrev pub AllGood : {A : Type 0} → (A → List ℕ) → (ℕ → A → Type 0) → ℕ → List A → Type 0
AllGood names Good used [] = Unit {0}
AllGood names Good used (x ∷ xs) = Good used x × AllGood names Good (insert_all used (names x)) xs

module _ {A : Type 0} (T : Terms) (s : List ℕ) (one : ℕ → Form A) (names : A → List ℕ) (bytes : A → List ℕ) (Good : ℕ → A → Type 0) where
  abbrev SeveralGood : ℕ → ℕ → List A → Type 0
  SeveralGood n used xs = (length xs ≡ n) × AllGood names Good used xs

  pub several-sound : ((used at end : ℕ) (x : A) → at ≤ length s → read T s (one used) at ≡ got x end → Sound s bytes (Good used) at x end)
      → (n used at end : ℕ) (xs : List A) → at ≤ length s → read T s (several one names used n) at ≡ got xs end
      → Sound s (each bytes) (λ (ys : List A). (length ys ≡ n) × AllGood names Good used ys) at xs end
  unfolding several
  several-sound sound zero used at end xs h e =
      moved (λ (ys : List A) (k : ℕ). Sound s (each bytes) (SeveralGood 0 used) at ys k) e (record { piece = no-piece h; good = (refl, tt) })
  several-sound sound (suc n) used at end xs h e =
      let (x, i, e₁, k₁) = next-got (read T s (one used) at) (sym (read-several T s one names used n at) ∙ e) in
      let (ys, j, e₂, k₂) = next-got (read T s (several one names (insert_all used (names x)) n) i) k₁ in
      let a : Sound s bytes (Good used) at x i = sound used at i x h e₁ in
      let b : Sound s (each bytes) (SeveralGood n (insert_all used (names x))) i ys j
      = several-sound sound n (insert_all used (names x)) i j ys a.piece.inside e₂ in
      moved (λ (zs : List A) (k : ℕ). Sound s (each bytes) (SeveralGood (suc n) used) at zs k) k₂
      (record { piece = join-pieces a.piece b.piece; good = (ap suc b.good.0, (a.good, b.good.1)) })

  pub several-complete : ((used at : ℕ) (x : A) (rest : List ℕ) → at ≤ length s → Good used x → drop at s ≡ bytes x ++ rest
      → Finds s (read T s (one used) at) x rest)
      → (xs : List A) (used at : ℕ) (rest : List ℕ) → at ≤ length s → AllGood names Good used xs → drop at s ≡ each bytes xs ++ rest
      → Finds s (read T s (several one names used (length xs)) at) xs rest
  unfolding several
  several-complete complete [] used at rest h g e = record { end = at; reads = refl; left = e; inside = h }
  several-complete complete (x ∷ xs) used at rest h g e =
      let others : List ℕ = each bytes xs ++ rest in
      let a : Finds s (read T s (one used) at) x others
      = complete used at x others h g.0 (e ∙ append_assoc (bytes x) (each bytes xs) rest) in
      let b : Finds s (read T s (several one names (insert_all used (names x)) (length xs)) a.end) xs rest
      = several-complete complete xs (insert_all used (names x)) a.end rest a.inside g.1 a.left in
      record {
        end = b.end;
        reads = read-several T s one names used (length xs) at ∙ rw (a.reads, b.reads);
        left = b.left;
        inside = b.inside;
      }
