-- The fragments of a round by their numbers, as the model has them, and the stages of the plan: what the model computes of a number is what the plan says of the stage.
-- A name of a rule is in one of its fragments alone (`same-fragment`).
-- Assumes nothing.
use mathlib.Core.Path.{◌≡◌, refl, sym, ◌∙◌, ap}
use mathlib.Core.Logic.{inl, inr}
use mathlib.Core.Bool.{Bool, true, false, ◌&&◌}
use mathlib.Core.List.{List, [], ◌∷◌, ◌++◌, nil≢cons, append_assoc, append-nil, head-eq_of_cons-eq, tail-eq_of_cons-eq}
use Prim.Native.Nat.{ℕ, zero, suc, ◌+◌, ◌-◌}
use native.Mathlib.Omega.{arith}
use lib.Dec.{leb, leb-suc-suc, leb-zero, leb-suc-zero}
use lib.ListN.{length, get_or, drop, length-append, length-drop}
use borrow.Author.Tests.{le-leb, lt-leb}
use Rattle.pattern.specs.Lists.{In, Distinct}
use Rattle.pattern.specs.Meaning.{Range, Fragment, fragment_names, ordering_names, kind_names, Kind, once, repeated, timed, Rule, names_of}
use Rattle.pattern.specs.Model.{trigger_fragment, last_fragments, round_of, no_fragment, is_once, fragment_at, is_last, after_p}
use Rattle.pattern.proofs.Basics.{in_left, in_right, distinct-right, distinct_apart}
use Rattle.pattern.proofs.Rounds.{Stage, round, ended}
use Rattle.pattern.proofs.Fragment.{X, Checked}
use Rattle.pattern.proofs.Alive.{laws}
use Rattle.pattern.proofs.Orderings.{stages, fragments}
use Rattle.pattern.proofs.Rules.{CheckedRule, CheckedKind, once', repeated', timed', kind_of, rule_of, answering, ending_of, plan_of}

-- ---- a name of a rule is in one fragment of its round

pub in-fragments : (fs : List Fragment) (f : Fragment) (m : ℕ) → In f fs → In m (fragment_names f) → In m (ordering_names fs)
in-fragments [] f m x'' i = elim x'' [ ]
in-fragments (g ∷ fs) f m (inl e) i = in_left m (fragment_names g) (ordering_names fs) (rw e at i)
in-fragments (g ∷ fs) f m (inr k) i = in_right m (fragment_names g) (ordering_names fs) (in-fragments fs f m k i)

pub same-fragment : (fs : List Fragment) → Distinct (ordering_names fs) → (f g : Fragment) → In f fs → In g fs → (m : ℕ) → In m (fragment_names f) → In m (fragment_names g) → f ≡ g
same-fragment [] d f g x5 _ m i k = elim x5 [ ]
same-fragment (h ∷ fs) d f g (inl e) (inl e') m i k = e ∙ sym e'
same-fragment (h ∷ fs) d f g (inl e) (inr j) m i k = absurd (distinct_apart m (fragment_names h) (ordering_names fs) d (rw e at i) (in-fragments fs g m j k))
same-fragment (h ∷ fs) d f g (inr j) (inl e) m i k = absurd (distinct_apart m (fragment_names h) (ordering_names fs) d (rw e at k) (in-fragments fs f m j i))
same-fragment (h ∷ fs) d f g (inr j) (inr j') m i k = same-fragment fs (distinct-right (fragment_names h) (ordering_names fs) d) f g j j' m i k

pub ordering-append : (a b : List Fragment) → ordering_names (a ++ b) ≡ ordering_names a ++ ordering_names b
ordering-append [] b = refl
ordering-append (f ∷ a) b = ap (λ (l : List ℕ). fragment_names f ++ l) (ordering-append a b) ∙ sym (append_assoc (fragment_names f) (ordering_names a) (ordering_names b))

pub round-names : (r : Rule) → ordering_names (round_of r) ≡ names_of r
round-names r = ordering-append r.p (last_fragments r.kind) ∙ ap (λ (l : List ℕ). ordering_names r.p ++ l) (last r.kind)
  where
    last : (k : Kind) → ordering_names (last_fragments k) ≡ kind_names k
    last (once i) = refl
    last (repeated i) = refl
    last (timed q t) = refl

-- a fragment that has a range is one of the list
pub numbered : (fs : List Fragment) (n : ℕ) (x : Range) → In x (get_or fs n no_fragment).ranges → In (get_or fs n no_fragment) fs
numbered [] n x i = absurd i
numbered (f ∷ fs) zero x i = inl refl
numbered (f ∷ fs) (suc n) x i = inr (numbered fs n x i)

-- ---- the round by number

abbrev pub plain : List (Stage X) → List Fragment
plain [] = []
plain (g ∷ gs) = g.frag.fragment ∷ plain gs

-- the fragment that the plan leaves out: the trigger's, in kind 0
abbrev pub extra : CheckedKind → List Fragment
extra (once' i) = trigger_fragment i ∷ []
extra (repeated' i) = []
extra (timed' q qs t) = []

pub plain-stages : (a : Bool) (fs : List Checked) (gs : List (Stage X)) → plain (stages a fs ++ gs) ≡ fragments fs ++ plain gs
plain-stages a [] gs = refl
plain-stages a (f ∷ fs) gs = ap (λ (l : List Fragment). f.fragment ∷ l) (plain-stages a fs gs)

pub length-stages : (a : Bool) (fs : List Checked) (gs : List (Stage X)) → length (stages a fs ++ gs) ≡ length (fragments fs) + length gs
length-stages a [] gs = omega arith
length-stages a (f ∷ fs) gs = ap suc (length-stages a fs gs) ∙ omega arith

length-plain : (gs : List (Stage X)) → length (plain gs) ≡ length gs
length-plain [] = refl
length-plain (g ∷ gs) = ap suc (length-plain gs)

pub get_d-plain : (n : ℕ) (gs : List (Stage X)) (g : Stage X) (rest : List (Stage X)) (more : List Fragment) → drop n gs ≡ g ∷ rest → get_or (plain gs ++ more) n no_fragment ≡ g.frag.fragment
get_d-plain zero gs g rest more q = rw q
get_d-plain (suc n) [] g rest more q = absurd (nil≢cons q)
get_d-plain (suc n) (x ∷ gs) g rest more q = get_d-plain n gs g rest more q

pub drop-next : (n : ℕ) (gs : List (Stage X)) (g : Stage X) (rest : List (Stage X)) → drop n gs ≡ g ∷ rest → drop (suc n) gs ≡ rest
drop-next zero (x ∷ gs) g rest q = tail-eq_of_cons-eq q
drop-next zero [] g rest q = absurd (nil≢cons q)
drop-next (suc n) [] g rest q = absurd (nil≢cons q)
drop-next (suc n) (x ∷ gs) g rest q = drop-next n gs g rest q

pub drop-length : (n : ℕ) (gs : List (Stage X)) (g : Stage X) (rest : List (Stage X)) → drop n gs ≡ g ∷ rest → length gs ≡ n + suc (length rest)
drop-length n gs g rest q = let h : length gs - n ≡ suc (length rest) = sym (length-drop n gs) ∙ ap length q in omega (arith, h)

-- Q's stages come after P's
after-q : (n : ℕ) (qs : List Checked) (g : Stage X) (rest : List (Stage X)) → drop n (stages true qs ++ []) ≡ g ∷ rest → g.after_p ≡ true
after-q zero [] g rest q = absurd (nil≢cons q)
after-q zero (x ∷ qs) g rest q = ap (λ (y : Stage X). y.after_p) (sym (head-eq_of_cons-eq q))
after-q (suc n) [] g rest q = absurd (nil≢cons q)
after-q (suc n) (x ∷ qs) g rest q = after-q n qs g rest q

after-p : (n : ℕ) (ps qs : List Checked) (g : Stage X) (rest : List (Stage X)) → drop n (stages false ps ++ (stages true qs ++ [])) ≡ g ∷ rest → leb (length (fragments ps)) n ≡ g.after_p
after-p n [] qs g rest q = leb-zero n ∙ sym (after-q n qs g rest q)
after-p zero (p ∷ ps) qs g rest q = leb-suc-zero (length (fragments ps)) ∙ ap (λ (y : Stage X). y.after_p) (head-eq_of_cons-eq q)
after-p (suc n) (p ∷ ps) qs g rest q = leb-suc-suc (length (fragments ps)) n ∙ after-p n ps qs g rest q

module _ (c : CheckedRule) where
  abbrev pub stages_of : List (Stage X)
  stages_of = round X laws (plan_of c)

  pub round-plain : round_of (rule_of c) ≡ plain stages_of ++ extra c.kind
  round-plain = last c.kind ∙ ap (λ (m : List Fragment). m ++ extra c.kind) (sym (spread c.kind))
    where
      P : List Fragment
      P = fragments (c.p ∷ c.ps)

      spread : (k : CheckedKind) → plain (stages false (c.p ∷ c.ps) ++ (stages true (answering k) ++ [])) ≡ P ++ fragments (answering k)
      spread k = plain-stages false (c.p ∷ c.ps) (stages true (answering k) ++ []) ∙ ap (λ (m : List Fragment). P ++ m) (plain-stages true (answering k) [] ∙ append-nil (fragments (answering k)))

      last : (k : CheckedKind) → P ++ last_fragments (kind_of k) ≡ (P ++ fragments (answering k)) ++ extra k
      last (once' i) = ap (λ (m : List Fragment). m ++ (trigger_fragment i ∷ [])) (sym (append-nil P))
      last (repeated' i) = sym (append-nil (P ++ (trigger_fragment i ∷ [])))
      last (timed' q qs t) = sym (append-nil (P ++ fragments (q ∷ qs)))

  pub length-round : length (round_of (rule_of c)) ≡ length stages_of + length (extra c.kind)
  length-round = ap length round-plain ∙ length-append (plain stages_of) (extra c.kind) ∙ ap (λ (n : ℕ). n + length (extra c.kind)) (length-plain stages_of)

  -- what the model computes of a fragment's number, where it is a stage of the plan
  module _ (n : ℕ) (g : Stage X) (rest : List (Stage X)) (at_n : drop n stages_of ≡ g ∷ rest) where
    pub fragment-is : fragment_at (rule_of c) n ≡ g.frag.fragment
    fragment-is = ap (λ (x : List Fragment). get_or x n no_fragment) round-plain ∙ get_d-plain n stages_of g rest (extra c.kind) at_n

    pub after_is : after_p (rule_of c) n ≡ g.after_p
    after_is = after-p n (c.p ∷ c.ps) (answering c.kind) g rest at_n

    pub last-is : is_last (rule_of c) n ≡ ended X laws (plan_of c) (ending_of c.kind) rest
    last-is = look c.kind rest (drop-length n stages_of g rest at_n) length-round
      where
        look : (k : CheckedKind) (gs : List (Stage X)) → length stages_of ≡ n + suc (length gs) → length (round_of (rule_of c)) ≡ length stages_of + length (extra k)
            → leb (length (round_of (rule_of c))) (suc n) ≡ ended X laws (plan_of c) (ending_of k) gs
        look (once' i) [] e e' = lt-leb (length (round_of (rule_of c))) (suc n) (omega (arith, e, e'))
        look (once' i) (x ∷ gs) e e' = lt-leb (length (round_of (rule_of c))) (suc n) (omega (arith, e, e'))
        look (repeated' i) [] e e' = le-leb (length (round_of (rule_of c))) (suc n) (omega (arith, e, e'))
        look (repeated' i) (x ∷ gs) e e' = lt-leb (length (round_of (rule_of c))) (suc n) (omega (arith, e, e'))
        look (timed' q qs t) [] e e' = le-leb (length (round_of (rule_of c))) (suc n) (omega (arith, e, e'))
        look (timed' q qs t) (x ∷ gs) e e' = lt-leb (length (round_of (rule_of c))) (suc n) (omega (arith, e, e'))

    pub not-released : (is_once (rule_of c).kind && after_p (rule_of c) n) ≡ false
    not-released = look c.kind (drop-length n stages_of g rest at_n) (length-stages false (c.p ∷ c.ps) (stages true (answering c.kind) ++ []))
      where
        look : (k : CheckedKind) → length stages_of ≡ n + suc (length rest) → length stages_of ≡ length (fragments (c.p ∷ c.ps)) + length (stages true (answering k) ++ [])
            → (is_once (kind_of k) && leb (length (fragments (c.p ∷ c.ps))) n) ≡ false
        look (once' i) e e' = lt-leb (length (fragments (c.p ∷ c.ps))) n (omega (arith, e, e'))
        look (repeated' i) e e' = refl
        look (timed' q qs t) e e' = refl
