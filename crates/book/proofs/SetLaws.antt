-- The sets of names and the masks of rules, against the lists of names that they stand for.
-- Assumes nothing.
use mathlib.Core.Path.{◌≡◌, refl, ap, ap₂, sym, ◌∙◌}
use mathlib.Core.Bool.{Bool, true, false, cond, ◌||◌, ◌&&◌, or_assoc, or-false, or-true}
use mathlib.Core.List.{List, [], ◌∷◌, ◌++◌, append-nil}
use Prim.Native.Nat.{ℕ, zero, suc, ◌+◌, ◌≤◌, ◌<◌}
use native.Mathlib.Omega.{arith}
use lib.Dec.{ltb, eqb}
use lib.ListN.{length, get_or, take, length-set}
use lib.Seq.{take-suc, get_or-set_same, get_or-set_other}
use borrow.Author.Tests.{eqb-true, eqb-false, ltb-true, ltb-false, lt-ltb, le-ltb}
use Rattle.pattern.specs.Lists.{is_in}
use Rattle.pattern.specs.Meaning.{Fragment, fragment_names, ordering_names}
use Rattle.pattern.specs.Model.{no_fragment}
use Rattle.names.specs.Names.{member, insert}
use Rattle.names.proofs.Digits.{member-or}
use Rattle.names.proofs.Sets.{member-empty, member-insert}
use Rattle.pattern.proofs.Numbering.{ordering-append}
use Rattle.tables.specs.Words.{bit_in}
use Rattle.book.proofs.Turns.{turn-length, turn-leaves, turn_at_lem}
use Rattle.book.specs.Tables.{stored, names_from, union_from, mask_of}

-- ---- a table stored entry by entry

pub stored-length : (f : ℕ → ℕ) (n : ℕ) (t : List ℕ) → length (stored f n t) ≡ length t
stored-length f n t = turn-length _ (λ u i. length-set u i (f i)) n t

pub stored_at : (f : ℕ → ℕ) (n : ℕ) (t : List ℕ) (i : ℕ) → i < n → n ≤ length t → get_or (stored f n t) i 0 ≡ f i
stored_at f n t i l h =
    turn_at_lem _ (λ u k. length-set u k (f k)) (length t) i i (f i) (λ u s. get_or-set_same u i (f i) 0 (omega (arith, s, l, h))) n l
    (λ k m ne u. get_or-set_other u k i (f k) 0 (λ e. ne (sym e))) t refl

pub stored_past : (f : ℕ → ℕ) (n : ℕ) (t : List ℕ) (j : ℕ) → n ≤ j → get_or (stored f n t) j 0 ≡ get_or t j 0
stored_past f n t j h = turn-leaves _ j n (λ i l u. get_or-set_other u i j (f i) 0 (λ e. omega (arith, l, h, e))) t

-- ---- lists of names

in-append : (m : ℕ) (a b : List ℕ) → is_in m (a ++ b) ≡ (is_in m a || is_in m b)
in-append m [] b = refl
in-append m (n ∷ a) b = ap (λ (x : Bool). eqb m n || x) (in-append m a b) ∙ sym (or_assoc (eqb m n) (is_in m a) (is_in m b))

-- ---- sets

-- the set of n ranges has the names of the first n
pub member-names : (ranges : List ℕ) (base : ℕ) (ns : List ℕ) (m n : ℕ) → n ≤ length ns → ((i : ℕ) → i < n → bit_in (get_or ranges (base + i) 0) ≡ get_or ns i 0)
    → member (names_from ranges base n) m ≡ is_in m (take n ns)
member-names ranges base ns m zero h e = member-empty m
member-names ranges base ns m (suc n) h e =
    let ih : member (names_from ranges base n) m ≡ is_in m (take n ns) = member-names ranges base ns m n (omega (arith, h)) (λ i l. e i (omega (arith, l))) in
    let x : ℕ = get_or ns n 0 in
    member-insert (names_from ranges base n) (bit_in (get_or ranges (base + n) 0)) m
    ∙ ap₂ (λ (a : Bool) (y : ℕ). a || eqb m y) ih (e n (omega arith))
    ∙ ap (λ (b : Bool). is_in m (take n ns) || b) (sym (or-false (eqb m x)))
    ∙ sym (in-append m (take n ns) (x ∷ []))
    ∙ ap (is_in m) (sym (take-suc ns n 0 (omega (arith, h))))

-- the union of n fragments' sets has the names of the first n
pub member_union : (names : List ℕ) (base : ℕ) (fs : List Fragment) (m n : ℕ) → n ≤ length fs
    → ((i : ℕ) → i < n → member (get_or names (base + i) 0) m ≡ is_in m (fragment_names (get_or fs i no_fragment)))
    → member (union_from names base n) m ≡ is_in m (ordering_names (take n fs))
member_union names base fs m zero h e = member-empty m
member_union names base fs m (suc n) h e =
    let ih : member (union_from names base n) m ≡ is_in m (ordering_names (take n fs)) = member_union names base fs m n (omega (arith, h)) (λ i l. e i (omega (arith, l))) in
    let f : Fragment = get_or fs n no_fragment in
    let one : ordering_names (f ∷ []) ≡ fragment_names f = append-nil (fragment_names f) in
    member-or (union_from names base n) (get_or names (base + n) 0) m
    ∙ ap₂ ◌||◌ ih (e n (omega arith))
    ∙ ap (λ (l : List ℕ). is_in m (ordering_names (take n fs)) || is_in m l) (sym one)
    ∙ sym (in-append m (ordering_names (take n fs)) (ordering_names (f ∷ [])))
    ∙ ap (is_in m) (sym (ordering-append (take n fs) (f ∷ [])))
    ∙ ap (λ (l : List Fragment). is_in m (ordering_names l)) (sym (take-suc fs n no_fragment (omega (arith, h))))

-- ---- masks

one_below : (r n : ℕ) → (r ≡ n → ⊥) → ltb r (suc n) ≡ ltb r n
one_below r n ne = go (ltb r n) refl
  where
    go : (b : Bool) → ltb r n ≡ b → ltb r (suc n) ≡ b
    go true e = lt-ltb r (suc n) (omega (arith, ltb-true r n e))
    go false e = le-ltb r (suc n) (omega (arith, ltb-false r n e, ne))

-- bit r of the mask: r is below n, and set r has the name
pub member-mask : (sets : List ℕ) (m n r : ℕ) → member (mask_of sets m n) r ≡ (ltb r n && member (get_or sets r 0) m)
member-mask sets m zero r = member-empty r ∙ sym (rw (le-ltb r 0 (omega arith)))
member-mask sets m (suc n) r = go (member (get_or sets n 0) m) refl (eqb r n) refl (member-mask sets m n r)
  where
    same : r ≡ n → (ltb r (suc n) && member (get_or sets r 0) m) ≡ member (get_or sets n 0) m
    same e = rw (e, lt-ltb n (suc n) (omega arith))

    none : r ≡ n → (ltb r n && member (get_or sets r 0) m) ≡ false
    none e = rw (le-ltb r n (omega (arith, e)))

    go : (b : Bool) → member (get_or sets n 0) m ≡ b → (d : Bool) → eqb r n ≡ d → member (mask_of sets m n) r ≡ (ltb r n && member (get_or sets r 0) m)
        → member (cond b (insert (mask_of sets m n) n) (mask_of sets m n)) r ≡ (ltb r (suc n) && member (get_or sets r 0) m)
    go true e true q ih = member-insert (mask_of sets m n) n r ∙ rw q (or-true (member (mask_of sets m n) r)) ∙ sym (same (eqb-true r n q) ∙ e)
    go true e false q ih = member-insert (mask_of sets m n) n r ∙ rw q (or-false (member (mask_of sets m n) r)) ∙ ih ∙ rw (one_below r n (eqb-false r n q))
    go false e true q ih = ih ∙ none (eqb-true r n q) ∙ sym (same (eqb-true r n q) ∙ e)
    go false e false q ih = ih ∙ rw (one_below r n (eqb-false r n q))
