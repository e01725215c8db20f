-- The names by their places: name n goes to its place in each rule that holds it, one rule after the other; and from the last name to the first, each place has the lowest that stands there.
-- Assumes nothing.
use mathlib.Core.Path.{◌≡◌, refl, sym, ◌∙◌, ap, ap₂, subst}
use mathlib.Core.Logic.{◌≢◌}
use mathlib.Core.Bool.{Bool, true, false, cond, not, ◌&&◌, and-true, and-eq-true_iff}
use mathlib.Core.List.{List}
use Prim.Native.Nat.{ℕ, suc, ◌+◌, ◌-◌, ◌*◌, ◌<◌}
use native.Mathlib.Omega.{arith}
use lib.Dec.{eqb}
use lib.ListN.{length, get_or, set, replicate, length-set, get_or-replicate}
use lib.Seq.{get_or-set_same, get_or-set_other}
use borrow.Author.Tests.{eq-eqb, eqb-true, eqb-false}
use Rattle.names.specs.Names.{member}
use Rattle.names.proofs.Sets.{member-empty}
use Rattle.masks.specs.Masks.{Less}
use Rattle.tables.specs.Cells.{fragment_in, index_in, cell_at, mask_in, first_from, stands_at, name_at}
use Rattle.places.specs.Places.{place_at, place_count, Placed, Named}

-- ---- one name

module _ (table : List ℕ) (n : ℕ) (before : List ℕ) where
  abbrev mask : ℕ
  mask = mask_in (get_or table n 0)

  -- what stands at a place, if the rule has had its turn
  abbrev due : Bool → ℕ → ℕ → ℕ → ℕ
  due had r f i = cond (had && stands_at table r f i n) n (get_or before (place_at r f i) 0)

  -- the rules of `todo` have still to be given the name; the others have it
  pub record Placing (todo : ℕ) (names : List ℕ) : Type 0 where
    pub size : length names ≡ place_count
    pub held : (r : ℕ) → member todo r ≡ true → member mask r ≡ true
    pub place : (r f i : ℕ) → r < 16 → f < 16 → i < 8 → get_or names (place_at r f i) 0 ≡ due (not (member todo r)) r f i

  module _ {todo left : ℕ} {names : List ℕ} (p : Placing todo names) (low : ℕ) (rule : low < 16) (inside : member todo low ≡ true) (less : Less todo low left) where
    abbrev cell : ℕ
    cell = get_or table (cell_at low n) 0

    abbrev at : ℕ
    at = place_at low (fragment_in cell) (index_in cell)

    -- at the lowest rule's places: the name where it stands, else what was there
    here : (f i : ℕ) → f < 16 → i < 8 → get_or (set names at n) (place_at low f i) 0 ≡ cond (stands_at table low f i n) n (get_or before (place_at low f i) 0)
    here f i hf hi = rw (p.held low inside) (go (eqb (fragment_in cell) f) refl (eqb (index_in cell) i) refl)
      where
        old : get_or names (place_at low f i) 0 ≡ get_or before (place_at low f i) 0
        old = p.place low f i rule hf hi ∙ rw inside refl

        go : (a : Bool) → eqb (fragment_in cell) f ≡ a → (b : Bool) → eqb (index_in cell) i ≡ b → get_or (set names at n) (place_at low f i) 0 ≡ cond (a && b) n (get_or before (place_at low f i) 0)
        go true ea true eb =
            let x : fragment_in cell ≡ f = eqb-true (fragment_in cell) f ea in
            let y : index_in cell ≡ i = eqb-true (index_in cell) i eb in
            let z : at ≡ place_at low f i = ap₂ (place_at low) x y in
            rw (sym z) (get_or-set_same names at n 0 (omega (arith, p.size, rule, hf, hi, z)))
        go true ea false eb =
            let x : fragment_in cell ≡ f = eqb-true (fragment_in cell) f ea in
            let y : index_in cell ≢ i = eqb-false (index_in cell) i eb in
            get_or-set_other names at (place_at low f i) n 0 (λ z. y (omega (arith, z, x))) ∙ old
        go false ea b eb =
            let x : fragment_in cell ≢ f = eqb-false (fragment_in cell) f ea in
            get_or-set_other names at (place_at low f i) n 0 (λ z. x (omega (arith, z, hi))) ∙ old

    turn : Placing left (set names at n)
    turn = record {
      size = length-set names at n ∙ p.size;
      held = λ r e. p.held r ((and-eq-true_iff (member todo r) (not (eqb r low))).0 (sym (less.members r) ∙ e)).0;
      place = λ r f i a b c. go r f i a b c (eqb r low) refl;
    }
      where
        gone : member left low ≡ false
        gone = less.members low ∙ rw (inside, eq-eqb low low refl) refl

        go : (r f i : ℕ) → r < 16 → f < 16 → i < 8 → (b : Bool) → eqb r low ≡ b → get_or (set names at n) (place_at r f i) 0 ≡ due (not (member left r)) r f i
        go r f i a b c true e =
            let x : low ≡ r = sym (eqb-true r low e) in
            subst (λ (r : ℕ). get_or (set names at n) (place_at r f i) 0 ≡ due (not (member left r)) r f i) x (rw gone (here f i b c))
        go r f i a b c false e =
            let x : r ≢ low = eqb-false r low e in
            let same : member todo r ≡ member left r = sym (less.members r ∙ rw e (and-true (member todo r))) in
            get_or-set_other names at (place_at r f i) n 0 (λ z. x (omega (arith, z, b, c))) ∙ p.place r f i a b c ∙ ap (λ (h : Bool). due (not h) r f i) same

    pub placing-more : {f i : ℕ} → f ≡ fragment_in cell → i ≡ index_in cell → Placing left (set names (128 * low + 8 * f + i) n)
    placing-more {f} {i} x y = let z : 128 * low + 8 * f + i ≡ at = omega (arith, x, y) in rw z turn

  pub placing-end : {todo : ℕ} {names : List ℕ} → todo ≡ 0 → Placing todo names → Placed table n before names
  placing-end e p = record { size = p.size; place = λ r f i a b c. p.place r f i a b c ∙ rw (e, member-empty r) refl }

-- ---- all names

-- every place has its name, of those from n on
abbrev pub NamedFrom : List ℕ → ℕ → List ℕ → Type 0
NamedFrom table n names = (r f i : ℕ) → r < 16 → f < 16 → i < 8 → get_or names (place_at r f i) 0 ≡ first_from (stands_at table r f i) n (64 - n)

pub naming-start : (table : List ℕ) → NamedFrom table 64 (replicate place_count 64)
naming-start table r f i a b c = get_or-replicate place_count (place_at r f i) 64 0 (omega (arith, a, b, c))

pub naming-more : (table names after : List ℕ) (m n : ℕ) → n < 64 → m ≡ suc n → NamedFrom table m names → Placed table n names after → NamedFrom table n after
naming-more table names after m n h e named placed r f i a b c =
    let k : 64 - n ≡ suc (64 - m) = omega (arith, h, e) in
    placed.place r f i a b c ∙ rw (k, named r f i a b c, e) refl

pub naming-end : (table names : List ℕ) (n : ℕ) → n ≡ 0 → NamedFrom table n names → Named table names
unfolding name_at
naming-end table names n e named = subst (λ (k : ℕ). NamedFrom table k names) e named
