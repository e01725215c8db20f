-- What the other files use of Booleans and lists. Assumes nothing.
use mathlib.Core.Path.{◌≡◌, refl, sym, ◌∙◌, ap, subst}
use mathlib.Core.Logic.{◌⊎◌, inl, inr, ◌≢◌}
use mathlib.Core.Bool.{Bool, true, false, cond, not, ◌&&◌, ◌||◌}
use mathlib.Core.List.{List, [], ◌∷◌, ◌++◌, map}
use Prim.Native.Nat.{ℕ, zero, suc, ◌≤◌}
use native.Mathlib.Nat.{not-suc-le-zero}
use native.Mathlib.Omega.{arith}
use lib.Dec.{T, eqb, eqb→eq, T_not}
use lib.ListN.{length, replicate}
use borrow.Author.Tests.{eq-eqb}
use Rattle.pattern.specs.Lists.{In, Distinct, Each, all_of, any_of, is_in}

-- ---- Booleans

pub both : (a b : Bool) → T a → T b → T (a && b)
both true b t u = u
both false b t u = absurd t

pub both_l : (a b : Bool) → T (a && b) → T a
both_l true b t = tt
both_l false b t = absurd t

pub both_r : (a b : Bool) → T (a && b) → T b
both_r true b t = t
both_r false b t = absurd t

pub either : (a b : Bool) → T (a || b) → T a ⊎ T b
either true b t = inl tt
either false b t = inr t

pub either_l : (a b : Bool) → T a → T (a || b)
either_l true b t = tt
either_l false b t = absurd t

pub either_r : (a b : Bool) → T b → T (a || b)
either_r true b t = tt
either_r false b t = t

pub is_true : (b : Bool) → T b → b ≡ true
is_true true t = refl
is_true false t = absurd t

pub is_false : (b : Bool) → T (not b) → b ≡ false
is_false true t = absurd t
is_false false t = refl

pub not-not : (b : Bool) → T (not (not b)) → T b
not-not true t = tt
not-not false t = t

pub and-true-or : (b : Bool) → ((b || false) && true) ≡ b
and-true-or true = refl
and-true-or false = refl

-- what holds of both branches holds of the one taken
pub by_cond : {A : Type 0} (P : A → Type 0) (b : Bool) {x y : A} → P x → P y → P (cond b x y)
by_cond P true h k = h
by_cond P false h k = k

-- or only where the test is passed
pub by-test : {A : Type 0} (P : A → Type 0) (b : Bool) {x y : A} → (T b → P x) → P y → P (cond b x y)
by-test P true h k = h tt
by-test P false h k = k

-- a test has one of two results
pub test : (b : Bool) → T b ⊎ T (not b)
test true = inl tt
test false = inr tt

pub true-or-false : (b : Bool) → (b ≡ true) ⊎ (b ≡ false)
true-or-false true = inl refl
true-or-false false = inr refl

pub same? : (m n : ℕ) → (m ≡ n) ⊎ (m ≢ n)
same? m n = look (test (eqb m n))
  where
    look : T (eqb m n) ⊎ T (not (eqb m n)) → (m ≡ n) ⊎ (m ≢ n)
    look (inl t) = inl (eqb→eq m n t)
    look (inr t) = inr (λ (e : m ≡ n). T_not (eqb m n) t (rw (eq-eqb m n e) tt))

pub none_or_some : (k : ℕ) → (k ≡ 0) ⊎ (1 ≤ k)
none_or_some zero = inl refl
none_or_some (suc k) = inr (omega arith)

-- ---- membership

module _ {A : Type 0} where
  pub in_left : (x : A) (a b : List A) → In x a → In x (a ++ b)
  in_left x [] b x'' = elim x'' [ ]
  in_left x (y ∷ a) b (inl e) = inl e
  in_left x (y ∷ a) b (inr i) = inr (in_left x a b i)

  pub in_right : (x : A) (a b : List A) → In x b → In x (a ++ b)
  in_right x [] b i = i
  in_right x (y ∷ a) b i = inr (in_right x a b i)

  pub in-append : (x : A) (a b : List A) → In x (a ++ b) → In x a ⊎ In x b
  in-append x [] b i = inr i
  in-append x (y ∷ a) b (inl e) = inl (inl e)
  in-append x (y ∷ a) b (inr i) = elim (in-append x a b i) [ inl k ↦ inl (inr k) | inr k ↦ inr k ]

  pub in-replicate : (x y : A) (k : ℕ) → In x (replicate k y) → x ≡ y
  in-replicate x y zero x'' = elim x'' [ ]
  in-replicate x y (suc k) (inl e) = e
  in-replicate x y (suc k) (inr i) = in-replicate x y k i

  -- a list that is not empty has an element
  pub some_in : (xs : List A) → 1 ≤ length xs → (x : A) × In x xs
  some_in [] h = absurd (not-suc-le-zero h)
  some_in (x ∷ xs) h = (x, inl refl)

  pub distinct-left : (a b : List A) → Distinct (a ++ b) → Distinct a
  distinct-left [] b d = tt
  distinct-left (x ∷ a) b d = ((λ i. d.0 (in_left x a b i)), distinct-left a b d.1)

  pub distinct-right : (a b : List A) → Distinct (a ++ b) → Distinct b
  distinct-right [] b d = d
  distinct-right (x ∷ a) b d = distinct-right a b d.1

  -- no element of the one is in the other
  pub distinct_apart : (x : A) (a b : List A) → Distinct (a ++ b) → In x a → In x b → ⊥
  distinct_apart x [] b d x4 j = elim x4 [ ]
  distinct_apart x (y ∷ a) b d (inl e) j = d.0 (in_right y a b (rw e at j))
  distinct_apart x (y ∷ a) b d (inr i) j = distinct_apart x a b d.1 i j

  pub each_in : (P : A → Type 0) (xs : List A) → Each P xs → (x : A) → In x xs → P x
  each_in P [] h x x4 = elim x4 [ ]
  each_in P (y ∷ xs) h x (inl e) = subst P (sym e) h.0
  each_in P (y ∷ xs) h x (inr i) = each_in P xs h.1 x i

  pub all→ : (t : A → Bool) (xs : List A) → T (all_of t xs) → (x : A) → In x xs → T (t x)
  all→ t [] h x x4 = elim x4 [ ]
  all→ t (y ∷ xs) h x (inl e) = subst (λ (z : A). T (t z)) (sym e) (both_l (t y) (all_of t xs) h)
  all→ t (y ∷ xs) h x (inr i) = all→ t xs (both_r (t y) (all_of t xs) h) x i

  pub all← : (t : A → Bool) (xs : List A) → ((x : A) → In x xs → T (t x)) → T (all_of t xs)
  all← t [] h = tt
  all← t (y ∷ xs) h = both (t y) (all_of t xs) (h y (inl refl)) (all← t xs (λ x i. h x (inr i)))

  pub any← : (t : A → Bool) (xs : List A) (x : A) → In x xs → T (t x) → T (any_of t xs)
  any← t [] x x4 h = elim x4 [ ]
  any← t (y ∷ xs) x (inl e) h = either_l (t y) (any_of t xs) (subst (λ (z : A). T (t z)) e h)
  any← t (y ∷ xs) x (inr i) h = either_r (t y) (any_of t xs) (any← t xs x i h)

  pub any→ : (t : A → Bool) (xs : List A) → T (any_of t xs) → (x : A) × In x xs × T (t x)
  any→ t [] h = elim h [ ]
  any→ t (y ∷ xs) h = look (either (t y) (any_of t xs) h) (any→ t xs)
    where
      look : T (t y) ⊎ T (any_of t xs) → (T (any_of t xs) → (x : A) × In x xs × T (t x)) → (x : A) × In x (y ∷ xs) × T (t x)
      look (inl k) ih = (y, inl refl, k)
      look (inr k) ih = let (x, i, l) = ih k in (x, inr i, l)

  pub not-all→ : (t : A → Bool) (xs : List A) → T (not (all_of t xs)) → (x : A) × In x xs × T (not (t x))
  not-all→ t [] h = absurd h
  not-all→ t (y ∷ xs) h = look (t y) refl h (not-all→ t xs)
    where
      look : (b : Bool) → t y ≡ b → T (not (b && all_of t xs)) → (T (not (all_of t xs)) → (x : A) × In x xs × T (not (t x))) → (x : A) × In x (y ∷ xs) × T (not (t x))
      look true q k ih = let (x, i, l) = ih k in (x, inr i, l)
      look false q k ih = (y, inl refl, rw q tt)

module _ {A B : Type 0} (f : A → B) where
  pub in_map : (xs : List A) (x : A) → In x xs → In (f x) (map f xs)
  in_map [] x x3 = elim x3 [ ]
  in_map (y ∷ xs) x (inl e) = inl (ap f e)
  in_map (y ∷ xs) x (inr i) = inr (in_map xs x i)

  pub of_map : (xs : List A) (y : B) → In y (map f xs) → (x : A) × In x xs × (y ≡ f x)
  of_map [] y x' = elim x' [ ]
  of_map (z ∷ xs) y (inl e) = (z, inl refl, e)
  of_map (z ∷ xs) y (inr i) = let (x, j, e) = of_map xs y i in (x, inr j, e)

  -- elements with one image are one
  pub distinct-map : (xs : List A) → Distinct (map f xs) → (x y : A) → In x xs → In y xs → f x ≡ f y → x ≡ y
  distinct-map [] d x y x6 _ q = elim x6 [ ]
  distinct-map (z ∷ xs) d x y (inl e) (inl e') q = e ∙ sym e'
  distinct-map (z ∷ xs) d x y (inl e) (inr j) q = absurd (d.0 (subst (λ (b : B). In b (map f xs)) (sym q ∙ ap f e) (in_map xs y j)))
  distinct-map (z ∷ xs) d x y (inr i) (inl e') q = absurd (d.0 (subst (λ (b : B). In b (map f xs)) (q ∙ ap f e') (in_map xs x i)))
  distinct-map (z ∷ xs) d x y (inr i) (inr j) q = distinct-map xs d.1 x y i j q

-- ---- the test for membership

pub is_in→ : (n : ℕ) (l : List ℕ) → T (is_in n l) → In n l
is_in→ n [] t = elim t [ ]
is_in→ n (m ∷ l) t = look (either (eqb n m) (is_in n l) t) (is_in→ n l)
  where
    look : T (eqb n m) ⊎ T (is_in n l) → (T (is_in n l) → In n l) → In n (m ∷ l)
    look (inl e) ih = inl (eqb→eq n m e)
    look (inr i) ih = inr (ih i)

pub is_in← : (n : ℕ) (l : List ℕ) → In n l → T (is_in n l)
is_in← n [] x' = elim x' [ ]
is_in← n (m ∷ l) (inl e) = either_l (eqb n m) (is_in n l) (rw (eq-eqb n m e) tt)
is_in← n (m ∷ l) (inr i) = either_r (eqb n m) (is_in n l) (is_in← n l i)

pub zero_one : ◌≡◌ {A = ℕ} 0 1 → ⊥
zero_one e = omega arith
