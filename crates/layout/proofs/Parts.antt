-- Ranges, fragments and rules, and their bytes: a part that is read stands there in bytes and fits, and a part that fits is read from its bytes. "Fits" is what the reading asks,
-- with the set of names so far; that it is what `WellFormedSheet` asks is said in `Sets` and `Acceptance`.
-- Assumes nothing.
use mathlib.Core.Path.{◌≡◌, refl, sym, subst, ◌∙◌}
use mathlib.Core.Bool.{Bool, true, false}
use mathlib.Core.List.{List, [], ◌∷◌, ◌++◌, append_assoc}
use Prim.Native.Nat.{ℕ, zero, suc, ◌≤◌}
use native.Mathlib.Omega.{arith}
use lib.ListN.{length, drop}
use Rattle.pattern.specs.Meaning.{Range, Join, all, any, all_shuffled, any_shuffled, Fragment, fragment_names, ordering_names, Kind, once, repeated, timed, Rule, Between, WellFormedRange}
use Rattle.names.specs.Names.{insert_all}
use Rattle.layout.specs.Terms.{no_fault, Terms, Covered}
use Rattle.layout.specs.Layout.{each, most_fragments, most_ranges, join_number, kind_number, in_q, trigger_of, time_of, range_bytes, fragment_bytes, Header, header_of, header_bytes, rule_bytes, EndAllowed, Bytes}
use Rattle.layout.specs.Form.{got, next, field_at, read}
use Rattle.layout.specs.Faults.{due_zero, count_fault, least_fault, most_fault, trigger_fault, kind_fault, join_fault, name_fault, by_kind}
use Rattle.layout.specs.Reading.{join_of, kind_of, trigger_set, range_name, range, ranges, fragment, fragments, header, rule}
use Rattle.layout.proofs.Values.{outside-faultless, outside-right, below-faultless, below_right, most-faultless, most-right, NameFits, name-faultless, name-right, ByKind, kind-faultless, kind-right}
use Rattle.layout.proofs.Fields.{Piece, join-pieces, field-complete, Finds}
use Rattle.layout.proofs.Forms.{next-got, field-got, next-same, moved, read-bind, several-length, Sound, AllGood, several-sound, several-complete}

-- ---- a range

-- a range that may stand after the names so far
pub record RangeFits (T : Terms) (version outputs : ℕ) (of_q : Bool) (used : ℕ) (r : Range) : Type 0 where
  pub formed : WellFormedRange r
  pub named : NameFits outputs of_q used r.name
  pub ended : EndAllowed T version r

module _ {T : Terms} (covered : Covered T) (s : List ℕ) (version outputs : ℕ) (of_q : Bool) where
  range-sound : Bytes s → (used at end : ℕ) (r : Range) → at ≤ length s → read T s (range version outputs of_q used) at ≡ got r end
      → Sound s range_bytes (RangeFits T version outputs of_q used) at r end
  unfolding range
  range-sound bytes used at end r h e =
      let (n, at₁, a, k₁) = field-got bytes 1 (name_fault T outputs of_q used) at e in
      let (u, at₂, b, k₂) = field-got bytes 2 least_fault at₁ k₁ in
      let (v, at₃, d, k₃) = field-got bytes 2 (most_fault (T.endless version) u) at₂ k₂ in
      let f = name-faultless covered outputs of_q used n a.faultless in
      let some : 1 ≤ u = below-faultless 1 u b.faultless in
      let m = most-faultless (T.endless version) u v some d.faultless in
      moved (λ (x : Range) (k : ℕ). Sound s range_bytes (RangeFits T version outputs of_q used) at x k) k₃
      (record {
        piece = join-pieces a.piece (join-pieces b.piece d.piece);
        good = record {
          formed = record { named = f.0; some = some; small = omega (arith, b.small); order = m.0; few = omega (arith, d.small) };
          named = f.1;
          ended = m.1;
        };
      })

  range-complete : (used at : ℕ) (r : Range) (rest : List ℕ) → at ≤ length s → RangeFits T version outputs of_q used r → drop at s ≡ range_bytes r ++ rest
      → Finds s (read T s (range version outputs of_q used) at) r rest
  unfolding range
  range-complete used at r rest h g e =
      let w : WellFormedRange r = g.formed in
      let a = field-complete s 1 (name_fault T outputs of_q used) r.name at h (omega (arith, w.named)) (name-right covered outputs of_q used r.name w.named g.named) e in
      let b = field-complete s 2 least_fault r.u a.end a.inside (omega (arith, w.small)) (below_right 1 r.u w.some) a.left in
      let m = most-right (T.endless version) r.u r.v (w.order, g.ended) in
      let d = field-complete s 2 (most_fault (T.endless version) r.u) r.v b.end b.inside (omega (arith, w.few)) m b.left in
      record { end = d.end; reads = rw (a.reads, b.reads, d.reads); left = d.left; inside = d.inside }

-- ---- a fragment

pub record FragmentFits (T : Terms) (version outputs : ℕ) (of_q : Bool) (used : ℕ) (f : Fragment) : Type 0 where
  pub join : join_number f.join ≤ T.last_join version
  pub count : Between 1 8 (length f.ranges)
  pub ranges : AllGood range_name (RangeFits T version outputs of_q) used f.ranges

-- the number of a join that some version allows
pub join-number : {T : Terms} → Covered T → (version j : ℕ) → Between 0 (T.last_join version) j → join_number (join_of j) ≡ j
join-number covered version zero h = refl
join-number covered version (suc zero) h = refl
join-number covered version (suc (suc zero)) h = refl
join-number covered version (suc (suc (suc zero))) h = refl
join-number covered version (suc (suc (suc (suc j)))) h = absurd (omega (arith, h.1, covered.joins version))

pub join-of : (j : Join) → join_of (join_number j) ≡ j
join-of all = refl
join-of any = refl
join-of all_shuffled = refl
join-of any_shuffled = refl

module _ {T : Terms} (covered : Covered T) (s : List ℕ) (version outputs : ℕ) (of_q : Bool) where
  pub ranges-length : (used n at : ℕ) {end : ℕ} {rs : List Range} → read T s (ranges version outputs of_q used n) at ≡ got rs end → length rs ≡ n
  unfolding ranges
  ranges-length used n at e = several-length T s (range version outputs of_q) range_name n used at e

  -- a fragment is read as its join, its count and its ranges
  pub read-fragment : (used at : ℕ)
      → read T s (fragment version outputs of_q used) at
      ≡ next (field_at s 1 (join_fault T version) at) (λ j at₁. next (field_at s 1 (count_fault most_ranges) at₁) (λ n at₂. next (read T s (ranges version outputs of_q used n) at₂)
      (λ rs at₃. got (record { join = join_of j; ranges = rs }) at₃)))
  unfolding fragment
  read-fragment used at =
      next-same (field_at s 1 (join_fault T version) at) (λ j at₁. next-same (field_at s 1 (count_fault most_ranges) at₁) (λ n at₂. read-bind T s (ranges version outputs of_q used n) _ at₂))

  fragment-sound : Bytes s → (used at end : ℕ) (f : Fragment) → at ≤ length s → read T s (fragment version outputs of_q used) at ≡ got f end
      → Sound s fragment_bytes (FragmentFits T version outputs of_q used) at f end
  unfolding ranges
  fragment-sound bytes used at end f h e =
      let (j, at₁, a, k₁) = field-got bytes 1 (join_fault T version) at (sym (read-fragment used at) ∙ e) in
      let (n, at₂, b, k₂) = field-got bytes 1 (count_fault most_ranges) at₁ k₁ in
      let (rs, at₃, e₃, k₃) = next-got (read T s (ranges version outputs of_q used n) at₂) k₂ in
      let d : Sound s (each range_bytes) (λ (ys : List Range). (length ys ≡ n) × AllGood range_name (RangeFits T version outputs of_q) used ys) at₂ rs at₃
      = several-sound T s (range version outputs of_q) range_name range_bytes (RangeFits T version outputs of_q) (range-sound covered s version outputs of_q bytes) n used at₂ at₃ rs b.piece.inside e₃ in
      let allowed = outside-faultless 3 0 (T.last_join version) j a.faultless in
      let same : join_number (join_of j) ≡ j = join-number covered version j allowed in
      moved (λ (x : Fragment) (k : ℕ). Sound s fragment_bytes (FragmentFits T version outputs of_q used) at x k) k₃
      (record {
        piece = rw (same, d.good.0) (join-pieces a.piece (join-pieces b.piece d.piece));
        good = record { join = rw same allowed.1; count = rw d.good.0 (outside-faultless 3 1 8 n b.faultless); ranges = d.good.1 };
      })

  pub fragments-sound : Bytes s → (n used at end : ℕ) (fs : List Fragment) → at ≤ length s → read T s (fragments version outputs of_q used n) at ≡ got fs end
      → Sound s (each fragment_bytes) (λ (ys : List Fragment). (length ys ≡ n) × AllGood fragment_names (FragmentFits T version outputs of_q) used ys) at fs end
  unfolding fragments
  fragments-sound bytes n used at end fs h e =
      several-sound T s (fragment version outputs of_q) fragment_names fragment_bytes (FragmentFits T version outputs of_q) (fragment-sound bytes) n used at end fs h e

  fragment-complete : (used at : ℕ) (f : Fragment) (rest : List ℕ) → at ≤ length s → FragmentFits T version outputs of_q used f → drop at s ≡ fragment_bytes f ++ rest
      → Finds s (read T s (fragment version outputs of_q used) at) f rest
  unfolding ranges
  fragment-complete used at f rest h g e =
      let n : ℕ = length f.ranges in
      let j : ℕ = join_number f.join in
      let tail : List ℕ = each range_bytes f.ranges in
      let a = field-complete s 1 (join_fault T version) j at h (omega (arith, g.join, covered.joins version)) (outside-right 4 0 (T.last_join version) j (omega arith, g.join)) e in
      let b = field-complete s 1 (count_fault most_ranges) n a.end a.inside (omega (arith, g.count)) (outside-right 4 1 8 n g.count) a.left in
      let d : Finds s (read T s (ranges version outputs of_q used n) b.end) f.ranges rest
      = several-complete T s (range version outputs of_q) range_name range_bytes (RangeFits T version outputs of_q) (range-complete covered s version outputs of_q)
      f.ranges used b.end rest b.inside g.ranges b.left in
      record {
        end = d.end;
        reads = read-fragment used at ∙ rw (a.reads, b.reads, d.reads, join-of f.join);
        left = d.left;
        inside = d.inside;
      }

  pub fragments-complete : (fs : List Fragment) (used at : ℕ) (rest : List ℕ) → at ≤ length s → AllGood fragment_names (FragmentFits T version outputs of_q) used fs
      → drop at s ≡ each fragment_bytes fs ++ rest → Finds s (read T s (fragments version outputs of_q used (length fs)) at) fs rest
  unfolding fragments
  fragments-complete fs used at rest h g e =
      several-complete T s (fragment version outputs of_q) fragment_names fragment_bytes (FragmentFits T version outputs of_q) fragment-complete fs used at rest h g e

  pub fragments-length : (used n at : ℕ) {end : ℕ} {fs : List Fragment} → read T s (fragments version outputs of_q used n) at ≡ got fs end → length fs ≡ n
  unfolding fragments
  fragments-length used n at e = several-length T s (fragment version outputs of_q) fragment_names n used at e

-- ---- a rule's eight bytes

pub record HeaderFits (T : Terms) (version outputs : ℕ) (h : Header) : Type 0 where
  pub kinds : T.first_kind version ≤ h.kind
  pub count_p : Between 1 8 h.count_p
  pub by_kind' : ByKind outputs h.kind h.count_q h.trigger h.time

module _ {T : Terms} (covered : Covered T) (s : List ℕ) (version outputs : ℕ) where
  pub header-sound : Bytes s → (at end : ℕ) (h : Header) → read T s (header version outputs) at ≡ got h end → Sound s header_bytes (HeaderFits T version outputs) at h end
  unfolding header
  header-sound bytes at end h e =
      let (k, at₁, a, k₁) = field-got bytes 1 (kind_fault T version) at e in
      let (m, at₂, b, k₂) = field-got bytes 1 (count_fault most_fragments) at₁ k₁ in
      let (n, at₃, c, k₃) = field-got bytes 1 (by_kind k (count_fault most_fragments) due_zero) at₂ k₂ in
      let (i, at₄, d, k₄) = field-got bytes 1 (by_kind k due_zero (trigger_fault outputs)) at₃ k₃ in
      let (t, at₅, f, k₅) = field-got bytes 4 (by_kind k no_fault due_zero) at₄ k₄ in
      let kind = outside-faultless 3 (T.first_kind version) 2 k a.faultless in
      moved (λ (x : Header) (j : ℕ). Sound s header_bytes (HeaderFits T version outputs) at x j) k₅
      (record {
        piece = join-pieces a.piece (join-pieces b.piece (join-pieces c.piece (join-pieces d.piece f.piece)));
        good = record {
          kinds = kind.0;
          count_p = outside-faultless 3 1 8 m b.faultless;
          by_kind' = kind-faultless outputs k n i t kind.1 c.faultless d.faultless f.faultless f.small;
        };
      })

  header-complete : (at : ℕ) (h : Header) (rest : List ℕ) → at ≤ length s → HeaderFits T version outputs h → drop at s ≡ header_bytes h ++ rest
      → Finds s (read T s (header version outputs) at) h rest
  unfolding header
  header-complete at h rest l g e =
      let w = kind-right outputs h.kind h.count_q h.trigger h.time g.by_kind' in
      let a = field-complete s 1 (kind_fault T version) h.kind at l (omega (arith, w.kind)) (outside-right 4 (T.first_kind version) 2 h.kind (g.kinds, w.kind)) e in
      let b = field-complete s 1 (count_fault most_fragments) h.count_p a.end a.inside (omega (arith, g.count_p)) (outside-right 4 1 8 h.count_p g.count_p) a.left in
      let c = field-complete s 1 (by_kind h.kind (count_fault most_fragments) due_zero) h.count_q b.end b.inside w.small.0 w.count_q b.left in
      let d = field-complete s 1 (by_kind h.kind due_zero (trigger_fault outputs)) h.trigger c.end c.inside w.small.1 w.trigger c.left in
      let f = field-complete s 4 (by_kind h.kind no_fault due_zero) h.time d.end d.inside w.small.2 w.time d.left in
      record { end = f.end; reads = rw (a.reads, b.reads, c.reads, d.reads, f.reads); left = f.left; inside = f.inside }

-- ---- a rule

pub record RuleFits (T : Terms) (version outputs : ℕ) (r : Rule) : Type 0 where
  pub header : HeaderFits T version outputs (header_of r)
  pub p : AllGood fragment_names (FragmentFits T version outputs false) (trigger_set (header_of r)) r.p
  pub q : AllGood fragment_names (FragmentFits T version outputs true) (insert_all (trigger_set (header_of r)) (ordering_names r.p)) (in_q r.kind)

pub nothing : {A : Type 0} (xs : List A) → length xs ≡ 0 → xs ≡ []
nothing [] e = refl
nothing (x ∷ xs) e = absurd (omega (arith, e))

-- the rule of a header and fragments
abbrev pub made : Header → List Fragment → List Fragment → Rule
made h p q = record { kind = kind_of h.kind h.trigger q h.time; p = p }

-- it has that header and those fragments
pub header_of_lem : (outputs k m n i t : ℕ) (p q : List Fragment) → ByKind outputs k n i t → length p ≡ m → length q ≡ n
    → (header_of (record { kind = kind_of k i q t; p = p }) ≡ record { kind = k; count_p = m; count_q = n; trigger = i; time = t }) × (in_q (kind_of k i q t) ≡ q)
header_of_lem outputs zero m n i t p q (a, b, d) lp lq = (rw (lp, a, d), sym (nothing q (lq ∙ a)))
header_of_lem outputs (suc zero) m n i t p q (a, b, d) lp lq = (rw (lp, a, d), sym (nothing q (lq ∙ a)))
header_of_lem outputs (suc (suc zero)) m n i t p q (a, b, d) lp lq = (rw (lp, lq, b), refl)
header_of_lem outputs (suc (suc (suc k))) m n i t p q g lp lq = absurd g

kind-of : (K : Kind) → kind_of (kind_number K) (trigger_of K) (in_q K) (time_of K) ≡ K
kind-of (once i) = refl
kind-of (repeated i) = refl
kind-of (timed q t) = refl

module _ {T : Terms} (covered : Covered T) (s : List ℕ) (version outputs : ℕ) where
  -- a rule is read as its header, P and Q
  pub read-rule : (at : ℕ)
      → read T s (rule version outputs) at
      ≡ next (read T s (header version outputs) at) (λ h at₁. next (read T s (fragments version outputs false (trigger_set h) h.count_p) at₁)
      (λ p at₂. next (read T s (fragments version outputs true (insert_all (trigger_set h) (ordering_names p)) h.count_q) at₂) (λ q at₃. got (made h p q) at₃)))
  unfolding rule
  read-rule at =
      read-bind T s (header version outputs) _ at
      ∙ next-same (read T s (header version outputs) at) (λ h at₁. read-bind T s (fragments version outputs false (trigger_set h) h.count_p) _ at₁
      ∙ next-same (read T s (fragments version outputs false (trigger_set h) h.count_p) at₁)
      (λ p at₂. read-bind T s (fragments version outputs true (insert_all (trigger_set h) (ordering_names p)) h.count_q) _ at₂))

  made-sound : (h : Header) (p q : List Fragment) (at at₁ at₂ at₃ : ℕ) → header_of (made h p q) ≡ h → in_q (kind_of h.kind h.trigger q h.time) ≡ q
      → Sound s header_bytes (HeaderFits T version outputs) at h at₁
      → Sound s (each fragment_bytes) (λ (ys : List Fragment). (length ys ≡ h.count_p) × AllGood fragment_names (FragmentFits T version outputs false) (trigger_set h) ys) at₁ p at₂
      → Sound s (each fragment_bytes) (λ (ys : List Fragment). (length ys ≡ h.count_q) × AllGood fragment_names (FragmentFits T version outputs true) (insert_all (trigger_set h) (ordering_names p)) ys) at₂ q at₃
      → Sound s rule_bytes (RuleFits T version outputs) at (made h p q) at₃
  made-sound h p q at at₁ at₂ at₃ oh oq a b d =
      let Q : List Fragment = in_q (kind_of h.kind h.trigger q h.time) in
      record {
        piece = subst (λ (x : Header). Piece s at (header_bytes x ++ (each fragment_bytes p ++ each fragment_bytes Q)) at₃) (sym oh)
            (subst (λ (x : List Fragment). Piece s at (header_bytes h ++ (each fragment_bytes p ++ each fragment_bytes x)) at₃) (sym oq)
            (join-pieces a.piece (join-pieces b.piece d.piece)));
        good = record {
          header = subst (HeaderFits T version outputs) (sym oh) a.good;
          p = subst (λ (x : Header). AllGood fragment_names (FragmentFits T version outputs false) (trigger_set x) p) (sym oh) b.good.1;
          q = subst (λ (x : Header). AllGood fragment_names (FragmentFits T version outputs true) (insert_all (trigger_set x) (ordering_names p)) Q) (sym oh)
              (subst (λ (x : List Fragment). AllGood fragment_names (FragmentFits T version outputs true) (insert_all (trigger_set h) (ordering_names p)) x) (sym oq) d.good.1);
        };
      }

  pub rule-sound : Bytes s → (at end : ℕ) (r : Rule) → read T s (rule version outputs) at ≡ got r end → Sound s rule_bytes (RuleFits T version outputs) at r end
  rule-sound bytes at end r e =
      let (h, at₁, e₁, k₁) = next-got (read T s (header version outputs) at) (sym (read-rule at) ∙ e) in
      let (p, at₂, e₂, k₂) = next-got (read T s (fragments version outputs false (trigger_set h) h.count_p) at₁) k₁ in
      let (q, at₃, e₃, k₃) = next-got (read T s (fragments version outputs true (insert_all (trigger_set h) (ordering_names p)) h.count_q) at₂) k₂ in
      let a = header-sound covered s version outputs bytes at at₁ h e₁ in
      let b = fragments-sound covered s version outputs false bytes h.count_p (trigger_set h) at₁ at₂ p a.piece.inside e₂ in
      let d = fragments-sound covered s version outputs true bytes h.count_q (insert_all (trigger_set h) (ordering_names p)) at₂ at₃ q b.piece.inside e₃ in
      let o = header_of_lem outputs h.kind h.count_p h.count_q h.trigger h.time p q a.good.by_kind' b.good.0 d.good.0 in
      moved (λ (x : Rule) (j : ℕ). Sound s rule_bytes (RuleFits T version outputs) at x j) k₃ (made-sound h p q at at₁ at₂ at₃ o.0 o.1 a b d)

  pub rule-complete : (at : ℕ) (r : Rule) (rest : List ℕ) → at ≤ length s → RuleFits T version outputs r → drop at s ≡ rule_bytes r ++ rest
      → Finds s (read T s (rule version outputs) at) r rest
  rule-complete at r rest l g e =
      let P : List ℕ = each fragment_bytes r.p in
      let Q : List ℕ = each fragment_bytes (in_q r.kind) in
      let set : ℕ = trigger_set (header_of r) in
      let a : Finds s (read T s (header version outputs) at) (header_of r) ((P ++ Q) ++ rest) = header-complete covered s version outputs at (header_of r) ((P ++ Q) ++ rest) l g.header e in
      let b : Finds s (read T s (fragments version outputs false set (length r.p)) a.end) r.p (Q ++ rest)
      = fragments-complete covered s version outputs false r.p set a.end (Q ++ rest) a.inside g.p (a.left ∙ append_assoc P Q rest) in
      let d : Finds s (read T s (fragments version outputs true (insert_all set (ordering_names r.p)) (length (in_q r.kind))) b.end) (in_q r.kind) rest
      = fragments-complete covered s version outputs true (in_q r.kind) (insert_all set (ordering_names r.p)) b.end rest b.inside g.q b.left in
      record { end = d.end; reads = read-rule at ∙ rw (a.reads, b.reads, d.reads, kind-of r.kind); left = d.left; inside = d.inside }
