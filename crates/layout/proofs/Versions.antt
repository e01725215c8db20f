-- The versions: what version 2 adds affects no other sheet (document 02, change 1: "Version 1 sheets read as before"), and a sheet of version 1 has no shuffled fragment and no v = 0.
-- Two terms that say the same at every field but some read every sheet alike whose reading comes to none of these (`alike-but`).
-- Assumes nothing.
use mathlib.Core.Path.{◌≡◌, refl, sym, subst, ◌∙◌}
use mathlib.Core.Logic.{◌⊎◌, inl, inr}
use mathlib.Core.Bool.{Bool, true, false}
use mathlib.Core.List.{List, [], ◌∷◌}
use Prim.Native.Nat.{ℕ, zero, suc, ◌+◌, ◌^◌, ◌≤◌, ◌<◌}
use native.Mathlib.Omega.{arith}
use lib.ListN.{length}
use borrow.Author.Tests.{lt-ltb, le-ltb}
use Rattle.pattern.specs.Lists.{Each}
use Rattle.pattern.specs.Meaning.{Range, Join, all, any, all_shuffled, any_shuffled, Fragment, Kind, once, repeated, timed, fragment_names, Rule, Between, WellFormed}
use Rattle.pattern.specs.Judge.{Observation}
use Rattle.pattern.specs.Before.{Bounded, PlainFragment, PlainKind, PlainRule}
use Rattle.pattern.specs.Before as Before
use Rattle.pattern.proofs.Plain.{plain-agreement}
use Rattle.layout.specs.Terms.{Terms, base, with_endless, today}
use Rattle.layout.specs.Layout.{Sheet, join_number, in_q, Directed, EndAllowed, Allowed, WellFormedRule, WellFormedSheet, Bytes}
use Rattle.layout.specs.Faults.{outside, version_fault, size_of, fault_of}
use Rattle.layout.specs.Faults.{Field, mark_field, version_field, outputs_field, rule_count_field, kind_field, count_p_field, count_q_field, trigger_field, time_field, join_field, range_count_field, name_field, u_field, v_field}
use Rattle.layout.specs.Form.{Form, done, ◌>>=◌, ask, number, value_at, ComesTo}
use Rattle.layout.specs.Reading.{range_name, range, ranges, fragment, fragments, header, rule, rules, sheet, HasVersion, accepted, read_sheet_on, read_sheet}
use Rattle.layout.proofs.Parting.{Part, Same, parts, same_reads, Every, every_bind, every-several, every-comes}
use Rattle.layout.proofs.Values.{outside-faultless}
use Rattle.layout.proofs.Acceptance.{accepted-is-encoded}
use Rattle.layout.proofs.Accepted.{accepted-rules}

-- ---- the version's field, and the fields whose faults go by it

-- the fields after the version's
abbrev body : ℕ → Form Sheet
body version = do
  o ← ask outputs_field
  n ← ask rule_count_field
  rs ← rules version o n
  done (record { version = version; outputs = o; rules = rs })

module _ (T : Terms) (s : List ℕ) where
  -- these bytes have this version, and the terms have it
  abbrev pub Known : ℕ → Type 0
  Known version = HasVersion version s × (version_fault T version ≡ 0)

  -- a field after the version's: if its faults go by a version, then by this one
  abbrev pub AfterVersion : Field → Type 0
  AfterVersion mark_field = Unit {0}
  AfterVersion version_field = ⊥
  AfterVersion outputs_field = Unit {0}
  AfterVersion rule_count_field = Unit {0}
  AfterVersion (kind_field version) = Known version
  AfterVersion count_p_field = Unit {0}
  AfterVersion (count_q_field kind) = Unit {0}
  AfterVersion (trigger_field kind outputs) = Unit {0}
  AfterVersion (time_field kind) = Unit {0}
  AfterVersion (join_field version) = Known version
  AfterVersion range_count_field = Unit {0}
  AfterVersion (name_field outputs of_q used) = Unit {0}
  AfterVersion u_field = Unit {0}
  AfterVersion (v_field version u) = Known version

  module _ (version : ℕ) (known : Known version) (outputs : ℕ) where
    module _ (of_q : Bool) where
      range-after : (used : ℕ) → Every AfterVersion (range version outputs of_q used)
      unfolding range
      range-after used = (tt, λ n. (tt, λ u. (known, λ v. tt)))

      ranges-after : (n used : ℕ) → Every AfterVersion (ranges version outputs of_q used n)
      unfolding ranges
      ranges-after = every-several AfterVersion (range version outputs of_q) range_name range-after

      fragment-after : (used : ℕ) → Every AfterVersion (fragment version outputs of_q used)
      unfolding fragment
      fragment-after used = (known, λ j. (tt, λ n. every_bind AfterVersion (ranges version outputs of_q used n) _ (ranges-after n used) (λ rs. tt)))

      fragments-after : (used n : ℕ) → Every AfterVersion (fragments version outputs of_q used n)
      unfolding fragments
      fragments-after used n = every-several AfterVersion (fragment version outputs of_q) fragment_names fragment-after n used

    header-after : Every AfterVersion (header version outputs)
    unfolding header
    header-after = (known, λ k. (tt, λ p. (tt, λ q. (tt, λ i. (tt, λ t. tt)))))

    rule-after : Every AfterVersion (rule version outputs)
    unfolding rule
    rule-after =
        every_bind AfterVersion (header version outputs) _ header-after
        (λ h. every_bind AfterVersion (fragments version outputs false _ _) _ (fragments-after false _ _)
        (λ p. every_bind AfterVersion (fragments version outputs true _ _) _ (fragments-after true _ _) (λ q. tt)))

    rules-after : (n : ℕ) → Every AfterVersion (rules version outputs n)
    unfolding rules
    rules-after n = every-several AfterVersion (λ _. rule version outputs) _ (λ used. rule-after) n 0

  -- the version's field is at place 3, and stands nowhere else
  abbrev pub Placed : Field → ℕ → Type 0
  Placed l place = ((l ≡ version_field) × (place ≡ 3)) ⊎ AfterVersion l

  pub placed : (l : Field) (place : ℕ) → ComesTo T s sheet 0 l place → Placed l place
  unfolding sheet
  placed l place (inl (here, same)) = inr (subst AfterVersion same tt)
  placed l place (inr (r, inl (here, same))) = inl (sym same, here)
  placed l place (inr (r, inr (q, c))) =
      let version : ℕ = number s 2 3 in
      let known : Known version = ((q.fits, refl), q.faultless) in
      inr (every-comes AfterVersion T s (body version) 5 l place (tt, λ o. (tt, λ n. every_bind AfterVersion (rules version o n) _ (rules-after version known o n) (λ rs. tt))) c)

-- ---- two terms

module _ (T U : Terms) (s : List ℕ) (P : Field → ℕ → Type 0) where
  -- a value of a field has the same fault on both, or P holds
  abbrev pub SameOr : Field → ℕ → Type 0
  SameOr l x = (fault_of T l x ≡ fault_of U l x) ⊎ P l x

  -- so it is at each field that goes by the terms
  pub record AlikeBut : Type 0 where
    pub versions : (x : ℕ) → SameOr version_field x
    pub rules : (x : ℕ) → SameOr rule_count_field x
    pub kinds : (version : ℕ) → Known U s version → (x : ℕ) → SameOr (kind_field version) x
    pub joins : (version : ℕ) → Known U s version → (x : ℕ) → SameOr (join_field version) x
    pub names : (outputs : ℕ) (of_q : Bool) (used x : ℕ) → SameOr (name_field outputs of_q used) x
    pub ends : (version : ℕ) → Known U s version → (u x : ℕ) → SameOr (v_field version u) x
    pub bytes : T.bytes (length s) ≡ U.bytes (length s)

  module _ (like : AlikeBut) where
    -- and so at each field
    alike : (l : Field) (place x : ℕ) → Placed U s l place → SameOr l x
    alike mark_field place x p = inl refl
    alike version_field place x p = like.versions x
    alike outputs_field place x p = inl refl
    alike rule_count_field place x p = like.rules x
    alike (kind_field version) place x (inl (e, here)) = absurd (let z : ◌≡◌ {A = ℕ} 0 1 = cc e in omega arith)
    alike (kind_field version) place x (inr known) = like.kinds version known x
    alike count_p_field place x p = inl refl
    alike (count_q_field kind) place x p = inl refl
    alike (trigger_field kind outputs) place x p = inl refl
    alike (time_field kind) place x p = inl refl
    alike (join_field version) place x (inl (e, here)) = absurd (let z : ◌≡◌ {A = ℕ} 0 1 = cc e in omega arith)
    alike (join_field version) place x (inr known) = like.joins version known x
    alike range_count_field place x p = inl refl
    alike (name_field outputs of_q used) place x p = like.names outputs of_q used x
    alike u_field place x p = inl refl
    alike (v_field version u) place x (inl (e, here)) = absurd (let z : ◌≡◌ {A = ℕ} 0 1 = cc e in omega arith)
    alike (v_field version u) place x (inr known) = like.ends version known u x

    -- the readings part at a field of which P holds, or nowhere
    pub alike-but : Same T U s sheet 0 ⊎ ((p : Part T U s sheet 0) × P p.which (value_at s p.which p.place))
    alike-but = look (parts T U s sheet 0)
      where
        differs : (p : Part T U s sheet 0) → SameOr p.which (value_at s p.which p.place) → P p.which (value_at s p.which p.place)
        differs p (inl e) = absurd (p.differ e)
        differs p (inr h) = h

        look : Same T U s sheet 0 ⊎ Part T U s sheet 0 → Same T U s sheet 0 ⊎ ((p : Part T U s sheet 0) × P p.which (value_at s p.which p.place))
        look (inl same) = inl same
        look (inr p) = inr (p, differs p (alike p.which p.place (value_at s p.which p.place) (placed U s p.which p.place p.other)))

    -- and then these bytes get the same answer on both
    pub same_answer_lem : Same T U s sheet 0 → read_sheet_on T s ≡ read_sheet_on U s
    unfolding read_sheet_on
    same_answer_lem same = rw (like.bytes, same_reads T U s sheet 0 same)

-- ---- change 1

-- a version above the newest is refused
above : (newest x : ℕ) → 0 < newest → newest < x → outside 3 1 newest x ≡ 3
above newest x some h = rw (le-ltb x 1 (omega (arith, some, h)), lt-ltb newest x h)

-- "Version 1 sheets read as before": what document 01's terms answered stays for all bytes but those whose version is 2. What change 6 has changed since, in every version, `eight-becomes-nine` says
pub other-versions-stay : (s : List ℕ) → ¬ HasVersion 2 s → read_sheet_on with_endless s ≡ read_sheet_on base s
other-versions-stay s other = look (alike-but with_endless base s Two like)
  where
    -- the version's field, with version 2
    Two : Field → ℕ → Type 0
    Two l x = (l ≡ version_field) × (x ≡ 2)

    one : (version : ℕ) → version_fault base version ≡ 0 → version ≡ 1
    one version z = omega (arith, outside-faultless 2 1 1 version z)

    versions : (x : ℕ) → SameOr with_endless base s Two version_field x
    versions zero = inl refl
    versions (suc zero) = inl refl
    versions (suc (suc zero)) = inr (refl, refl)
    versions (suc (suc (suc x))) = inl (above with_endless.newest (suc (suc (suc x))) (omega arith) (omega arith) ∙ sym (above base.newest (suc (suc (suc x))) (omega arith) (omega arith)))

    like : AlikeBut with_endless base s Two
    like = record {
      versions = versions;
      rules = λ x. inl refl;
      kinds = λ version known x. inl refl;
      joins = λ version known x. inl (rw (one version known.1));
      names = λ outputs of_q used x. inl refl;
      ends = λ version known u x. inl (rw (one version known.1));
      bytes = refl;
    }

    look : Same with_endless base s sheet 0 ⊎ ((p : Part with_endless base s sheet 0) × Two p.which (value_at s p.which p.place)) → read_sheet_on with_endless s ≡ read_sheet_on base s
    look (inl same) = same_answer_lem with_endless base s Two like same
    look (inr (p, (l, two))) = absurd (there (placed base s p.which p.place p.other))
      where
        there : Placed base s p.which p.place → ⊥
        there (inl (e, here)) =
            let fits : p.place + 2 ≤ length s = subst (λ (x : Field). p.place + size_of x ≤ length s) l p.fits in
            other (omega (arith, fits, here), subst (λ (i : ℕ). number s 2 i ≡ 2) here (subst (λ (x : Field). value_at s x p.place ≡ 2) l two))
        there (inr after) = subst (AfterVersion base s) l after

-- "refusal 3 is for versions other than 1 and 2"
pub one-or-two : (S : Sheet) → WellFormedSheet S → (S.version ≡ 1) ⊎ (S.version ≡ 2)
one-or-two S w = look S.version w.known
  where
    look : (x : ℕ) → Between 1 today.newest x → (x ≡ 1) ⊎ (x ≡ 2)
    look zero h = absurd (omega (arith, h))
    look (suc zero) h = inl refl
    look (suc (suc zero)) h = inr refl
    look (suc (suc (suc x))) h = absurd (omega (arith, h))

-- a join that version 1 allows is not shuffled, and a v is not 0
plain-join : (j : Join) → join_number j ≤ 1 → (j ≡ all) ⊎ (j ≡ any)
plain-join all h = inl refl
plain-join any h = inr refl
plain-join all_shuffled h = absurd (omega (arith, h))
plain-join any_shuffled h = absurd (omega (arith, h))

bounded : (rs : List Range) → Each (EndAllowed today 1) rs → Each Bounded rs
bounded [] h = tt
bounded (r ∷ rs) h = (some h.0, bounded rs h.1)
  where
    some : EndAllowed today 1 r → Bounded r
    some allowed =
        let other : r.v ≡ 0 → ⊥ = λ e. (let z : ◌≡◌ {A = ℕ} 0 1 = cc (allowed e) in omega arith) in
        omega (arith, other)

plain-fragments : (fs : List Fragment) → Each (Allowed today 1) fs → Each PlainFragment fs
plain-fragments [] h = tt
plain-fragments (f ∷ fs) h = (record { join = plain-join f.join h.0.join; ranges = bounded f.ranges h.0.ends }, plain-fragments fs h.1)

kind-of : (k : Kind) → Each (Allowed today 1) (in_q k) → PlainKind k
kind-of (once i) h = tt
kind-of (repeated i) h = tt
kind-of (timed q t) h = plain-fragments q h

-- a well-formed sheet of version 1 has no shuffled fragment, and every range has an upper end
pub plain-rules : (S : Sheet) → WellFormedSheet S → S.version ≡ 1 → Each PlainRule S.rules
plain-rules S w one = go S.rules (subst (λ (v : ℕ). Each (WellFormedRule today v S.outputs) S.rules) one w.rules)
  where
    go : (rs : List Rule) → Each (WellFormedRule today 1 S.outputs) rs → Each PlainRule rs
    go [] h = tt
    go (r ∷ rs) h = (record { p = plain-fragments r.p h.0.allowed_p; kind = kind-of r.kind h.0.allowed_q }, go rs h.1)

-- and so has none that was accepted
pub version-one-plain : (s : List ℕ) → Bytes s → {S : Sheet} → read_sheet s ≡ accepted S → S.version ≡ 1 → Each PlainRule S.rules
version-one-plain s bytes {S} e one = plain-rules S (accepted-is-encoded s bytes e).formed one

-- and keeps every answer and verdict: the monitor's are those of the judge by the meaning that rules had before changes 1 and 2
pub version-one-verdicts : (s : List ℕ) → Bytes s → {S : Sheet} → read_sheet s ≡ accepted S → S.version ≡ 1 → (os : List Observation) → Before.Agreement S.rules os
version-one-verdicts s bytes {S} e one os = plain-agreement S.rules (version-one-plain s bytes e one) (accepted-rules s bytes e) os

-- version 2 has every join, and v = 0: a sheet of that version is well-formed if its rules are and keep to their directions
every-end : (rs : List Range) → Each (EndAllowed today 2) rs
every-end [] = tt
every-end (r ∷ rs) = (λ _. refl, every-end rs)

every-fragment : (fs : List Fragment) → Each (Allowed today 2) fs
every-fragment [] = tt
every-fragment (f ∷ fs) = (record { join = few f.join; ends = every-end f.ranges }, every-fragment fs)
  where
    few : (j : Join) → join_number j ≤ 3
    few all = omega arith
    few any = omega arith
    few all_shuffled = omega arith
    few any_shuffled = omega arith

pub version-two-every-join : (outputs : ℕ) (rules : List Rule) → outputs < 2 ^ 64 → Between 1 16 (length rules) → Each (λ (r : Rule). WellFormed r × Directed outputs r.kind) rules
    → WellFormedSheet (record { version = 2; outputs = outputs; rules = rules })
version-two-every-join outputs rules few count each = record { known = (omega arith, omega arith); outputs = few; count = count; rules = go rules each }
  where
    go : (rs : List Rule) → Each (λ (r : Rule). WellFormed r × Directed outputs r.kind) rs → Each (WellFormedRule today 2 outputs) rs
    go [] h = tt
    go (r ∷ rs) h = (record { formed = h.0.0; directed = h.0.1; kinds = omega arith; allowed_p = every-fragment r.p; allowed_q = every-fragment (in_q r.kind) }, go rs h.1)
