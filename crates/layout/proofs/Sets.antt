-- The set of names as a word, against the list of names: a name is new at each step exactly when the list is distinct. `names_of` has the trigger after P's names and a file has
-- it before them: distinctness is the same.
-- Assumes nothing.
use mathlib.Core.Path.{◌≡◌, refl, sym, ◌∙◌}
use mathlib.Core.Logic.{◌⊎◌, inl, inr, ⊎_elim}
use mathlib.Core.Bool.{Bool, true, false, not, ◌||◌, ◌&&◌}
use mathlib.Core.List.{List, [], ◌∷◌, ◌++◌, map}
use Prim.Native.Nat.{ℕ}
use native.Mathlib.Omega.{arith}
use lib.Dec.{eqb}
use borrow.Author.Tests.{eqb-false, ne_eqb}
use Rattle.pattern.specs.Lists.{In, Distinct, Each}
use Rattle.pattern.specs.Meaning.{Range, Fragment, fragment_names, ordering_names, WellFormedRange, WellFormedFragment}
use Rattle.pattern.proofs.Basics.{in_left, in_right}
use Rattle.names.specs.Names.{member, insert, insert_all}
use Rattle.names.proofs.Sets.{member-insert, member-empty}
use Rattle.layout.specs.Terms.{Terms}
use Rattle.layout.specs.Layout.{EndAllowed, Allowed}
use Rattle.layout.specs.Reading.{range_name}
use Rattle.layout.proofs.Forms.{AllGood}
use Rattle.layout.proofs.Parts.{RangeFits, FragmentFits}

-- ---- lists

pub in_either : {A : Type 0} (x : A) (a b : List A) → In x (a ++ b) → In x a ⊎ In x b
in_either x [] b h = inr h
in_either x (y ∷ a) b (inl e) = inl (inl e)
in_either x (y ∷ a) b (inr h) = ⊎_elim (λ l. inl (inr l)) (λ r. inr r) (in_either x a b h)

pub each_append : {A : Type 0} (P : A → Type 0) (a b : List A) → Each P a → Each P b → Each P (a ++ b)
each_append P [] b f g = g
each_append P (n ∷ a) b f g = (f.0, each_append P a b f.1 g)

pub append-each : {A : Type 0} (P : A → Type 0) (a b : List A) → Each P (a ++ b) → Each P a × Each P b
append-each P [] b f = (tt, f)
append-each P (n ∷ a) b f = let r = append-each P a b f.1 in ((f.0, r.0), r.1)

-- the trigger stands first in a file and last in `names_of`
pub trigger-last : {A : Type 0} (i : A) (a : List A) → Distinct (i ∷ a) → Distinct (a ++ (i ∷ []))
trigger-last i [] d = d
trigger-last i (x ∷ a) (out, (out', d)) =
    (λ h. ⊎_elim out' (λ l. ⊎_elim (λ e. out (inl (sym e))) (λ z. z) l) (in_either x a (i ∷ []) h), trigger-last i a (λ h. out (inr h), d))

pub trigger-first : {A : Type 0} (i : A) (a : List A) → Distinct (a ++ (i ∷ [])) → Distinct (i ∷ a)
trigger-first i [] d = d
trigger-first i (x ∷ a) (out, d) =
    let ih = trigger-first i a d in
    (λ h. ⊎_elim (λ e. out (in_right x a (i ∷ []) (inl (sym e)))) ih.0 h, (λ h. out (in_left x a (i ∷ []) h), ih.1))

-- ---- new names

pub neither : (a b : Bool) → (a || b) ≡ false → (a ≡ false) × (b ≡ false)
neither true b e = absurd (let z : ◌≡◌ {A = ℕ} 0 1 = cc e in omega arith)
neither false b e = (refl, e)

-- each name is new when it comes
abbrev pub Fresh : ℕ → List ℕ → Type 0
Fresh w [] = Unit {0}
Fresh w (n ∷ ns) = (member w n ≡ false) × Fresh (insert w n) ns

abbrev Out : ℕ → List ℕ → Type 0
Out w ns = Each (λ (n : ℕ). member w n ≡ false) ns

out-insert : (w m : ℕ) (ns : List ℕ) → Out (insert w m) ns → (¬ In m ns) × Out w ns
out-insert w m [] h = (λ z. z, tt)
out-insert w m (n ∷ ns) h =
    let a = neither (member w n) (eqb n m) (sym (member-insert w m n) ∙ h.0) in
    let b = out-insert w m ns h.1 in
    (λ l. ⊎_elim (λ e. eqb-false n m a.1 (sym e)) b.0 l, (a.0, b.1))

insert-out : (w m : ℕ) (ns : List ℕ) → ¬ In m ns → Out w ns → Out (insert w m) ns
insert-out w m [] p h = tt
insert-out w m (n ∷ ns) p h =
    (member-insert w m n ∙ rw (h.0, ne_eqb n m (λ e. p (inl (sym e)))), insert-out w m ns (λ l. p (inr l)) h.1)

fresh-out : (w : ℕ) (ns : List ℕ) → Fresh w ns → Distinct ns × Out w ns
fresh-out w [] f = (tt, tt)
fresh-out w (n ∷ ns) f =
    let a = fresh-out (insert w n) ns f.1 in
    let b = out-insert w n ns a.1 in
    ((b.0, a.0), (f.0, b.1))

out-fresh : (w : ℕ) (ns : List ℕ) → Distinct ns → Out w ns → Fresh w ns
out-fresh w [] d o = tt
out-fresh w (n ∷ ns) d o = (o.0, out-fresh (insert w n) ns d.1 (insert-out w n ns d.0 o.1))

out-zero : (ns : List ℕ) → Out 0 ns
out-zero [] = tt
out-zero (n ∷ ns) = (member-empty n, out-zero ns)

pub fresh-distinct : (ns : List ℕ) → Fresh 0 ns → Distinct ns
fresh-distinct ns f = (fresh-out 0 ns f).0

pub distinct-fresh : (ns : List ℕ) → Distinct ns → Fresh 0 ns
distinct-fresh ns d = out-fresh 0 ns d (out-zero ns)

pub fresh-append : (w : ℕ) (a b : List ℕ) → Fresh w (a ++ b) → Fresh w a × Fresh (insert_all w a) b
fresh-append w [] b f = (tt, f)
fresh-append w (n ∷ a) b f = let r = fresh-append (insert w n) a b f.1 in ((f.0, r.0), r.1)

pub append-fresh : (w : ℕ) (a b : List ℕ) → Fresh w a → Fresh (insert_all w a) b → Fresh w (a ++ b)
append-fresh w [] b f g = g
append-fresh w (n ∷ a) b f g = (f.0, append-fresh (insert w n) a b f.1 g)

-- ---- fragments that fit are well-formed ones that the version allows, of new names, in the direction due

module _ (outputs : ℕ) (of_q : Bool) where
  abbrev pub Direction : ℕ → Type 0
  Direction n = (of_q && not (member outputs n)) ≡ false

  module _ (T : Terms) (version : ℕ) where
    -- the ranges of a fragment, as the reading asks them of the names so far: what the meaning asks of each, new names in the direction due, and ends that the version allows
    record RangesApart (w : ℕ) (rs : List Range) : Type 0 where
      formed : Each WellFormedRange rs
      fresh : Fresh w (map (λ (r : Range). r.name) rs)
      directed : Each Direction (map (λ (r : Range). r.name) rs)
      ends : Each (EndAllowed T version) rs

    ranges-split : (w : ℕ) (rs : List Range) → AllGood range_name (RangeFits T version outputs of_q) w rs → RangesApart w rs
    ranges-split w [] g = record { formed = tt; fresh = tt; directed = tt; ends = tt }
    ranges-split w (r ∷ rs) (g, gs) =
        let a = ranges-split (insert w r.name) rs gs in
        record { formed = (g.formed, a.formed); fresh = (g.named.0, a.fresh); directed = (g.named.1, a.directed); ends = (g.ended, a.ends) }

    ranges-join : (w : ℕ) (rs : List Range) → RangesApart w rs → AllGood range_name (RangeFits T version outputs of_q) w rs
    ranges-join w [] a = tt
    ranges-join w (r ∷ rs) a = (
      record { formed = a.formed.0; named = (a.fresh.0, a.directed.0); ended = a.ends.0 },
      ranges-join (insert w r.name) rs (record { formed = a.formed.1; fresh = a.fresh.1; directed = a.directed.1; ends = a.ends.1 }),
    )

    pub fragments-split : (w : ℕ) (fs : List Fragment) → AllGood fragment_names (FragmentFits T version outputs of_q) w fs
        → Each WellFormedFragment fs × Fresh w (ordering_names fs) × Each Direction (ordering_names fs) × Each (Allowed T version) fs
    fragments-split w [] g = (tt, tt, tt, tt)
    fragments-split w (f ∷ fs) (g, gs) =
        let a = ranges-split w f.ranges g.ranges in
        let b = fragments-split (insert_all w (fragment_names f)) fs gs in (
          (record { count = g.count; ranges = a.formed }, b.0),
          append-fresh w (fragment_names f) (ordering_names fs) a.fresh b.1,
          each_append Direction (fragment_names f) (ordering_names fs) a.directed b.2,
          (record { join = g.join; ends = a.ends }, b.3),
        )

    pub fragments-join : (w : ℕ) (fs : List Fragment) → Each WellFormedFragment fs → Fresh w (ordering_names fs) → Each Direction (ordering_names fs) → Each (Allowed T version) fs
        → AllGood fragment_names (FragmentFits T version outputs of_q) w fs
    fragments-join w [] g f d j = tt
    fragments-join w (x ∷ fs) g f d j =
        let a = fresh-append w (fragment_names x) (ordering_names fs) f in
        let b = append-each Direction (fragment_names x) (ordering_names fs) d in (
          record { join = j.0.join; count = g.0.count; ranges = ranges-join w x.ranges (record { formed = g.0.ranges; fresh = a.0; directed = b.0; ends = j.0.ends }) },
          fragments-join (insert_all w (fragment_names x)) fs g.1 a.1 b.1 j.1,
        )
