-- Demand 2: bytes are read as the sheet S exactly when they are the bytes of S and S is well-formed.
-- Assumes nothing.
use mathlib.Core.Path.{◌≡◌, refl, ap, sym, subst, ◌∙◌}
use mathlib.Core.Bool.{Bool, true, false, not, cond}
use mathlib.Core.List.{List, [], ◌∷◌, ◌++◌, append-nil}
use Prim.Native.Nat.{ℕ, zero, suc, ◌≤◌, ◌<◌, ◌^◌, zero-le}
use native.Mathlib.Omega.{arith}
use lib.Dec.{ltb}
use lib.ListN.{length, length-drop, drop_of_length-le}
use borrow.Author.Tests.{le-ltb, ltb-false, not-false}
use Rattle.pattern.specs.Lists.{Each, Distinct}
use Rattle.pattern.specs.Meaning.{Fragment, fragment_names, ordering_names, Kind, once, repeated, timed, Rule, Between, WellFormedOrdering}
use Rattle.names.specs.Names.{member, insert, insert_all}
use Rattle.names.proofs.Sets.{member-empty}
use Rattle.layout.specs.Terms.{no_fault, Terms, today, Covered}
use Rattle.layout.specs.Layout.{Sheet, le, each, rule_bytes, mark, encode, Output, Allowed, WellFormedRule, WellFormedOn, WellFormedSheet, Bytes}
use Rattle.layout.specs.Form.{Got, got, stopped, next, field_at, read}
use Rattle.layout.specs.Faults.{mark_fault, version_fault, rules_fault}
use Rattle.layout.specs.Reading.{rule, rules, sheet, Outcome, accepted, refused, at_end, unless_long, read_sheet_on, read_sheet}
use Rattle.layout.proofs.Values.{today-covered, unlike-faultless, outside-faultless, outside-right}
use Rattle.layout.proofs.Fields.{Piece, join-pieces, field-complete, Finds}
use Rattle.layout.proofs.Forms.{next-got, field-got, next-same, moved, read-bind, Sound, AllGood, several-sound, several-complete}
use Rattle.layout.proofs.Parts.{FragmentFits, RuleFits, rule-sound, rule-complete}
use Rattle.layout.proofs.Sets.{trigger-last, trigger-first, Direction, fresh-distinct, distinct-fresh, fresh-append, append-fresh, fragments-split, fragments-join}

-- ---- the whole sheet, and a sheet that fits

abbrev pub none : Rule → List ℕ
none r = []

abbrev Fit : Terms → ℕ → ℕ → ℕ → Rule → Type 0
Fit T version outputs used r = RuleFits T version outputs r

record SheetFits (T : Terms) (S : Sheet) : Type 0 where
  known : Between 1 T.newest S.version
  outputs : S.outputs < 2 ^ 64
  count : Between 1 T.most_rules (length S.rules)
  rules : AllGood none (Fit T S.version S.outputs) 0 S.rules

module _ {T : Terms} (covered : Covered T) (s : List ℕ) where
  -- a sheet is read as its header's four fields, and the rules
  pub read-sheet : (at : ℕ)
      → read T s sheet at
      ≡ next (field_at s 3 mark_fault at) (λ m at₁. next (field_at s 2 (version_fault T) at₁) (λ v at₂. next (field_at s 8 no_fault at₂)
      (λ o at₃. next (field_at s 1 (rules_fault T) at₃) (λ n at₄. next (read T s (rules v o n) at₄) (λ rs at₅. got (record { version = v; outputs = o; rules = rs }) at₅)))))
  unfolding sheet
  read-sheet at =
      next-same (field_at s 3 mark_fault at) (λ m at₁. next-same (field_at s 2 (version_fault T) at₁) (λ v at₂. next-same (field_at s 8 no_fault at₂)
      (λ o at₃. next-same (field_at s 1 (rules_fault T) at₃) (λ n at₄. read-bind T s (rules v o n) _ at₄))))

  sheet-sound : Bytes s → (at end : ℕ) (S : Sheet) → read T s sheet at ≡ got S end → Sound s encode (SheetFits T) at S end
  unfolding rules
  sheet-sound bytes at end S e =
      let (m, at₁, a, k₁) = field-got bytes 3 mark_fault at (sym (read-sheet at) ∙ e) in
      let (v, at₂, b, k₂) = field-got bytes 2 (version_fault T) at₁ k₁ in
      let (o, at₃, c, k₃) = field-got bytes 8 no_fault at₂ k₂ in
      let (n, at₄, d, k₄) = field-got bytes 1 (rules_fault T) at₃ k₃ in
      let (rs, at₅, e₅, k₅) = next-got (read T s (rules v o n) at₄) k₄ in
      let f : Sound s (each rule_bytes) (λ (ys : List Rule). (length ys ≡ n) × AllGood none (Fit T v o) 0 ys) at₄ rs at₅
      = several-sound T s (λ _. rule v o) none rule_bytes (Fit T v o) (λ used i j r l p. rule-sound covered s v o bytes i j r p) n 0 at₄ at₅ rs d.piece.inside e₅ in
      moved (λ (x : Sheet) (j : ℕ). Sound s encode (SheetFits T) at x j) k₅
      (record {
        piece = join-pieces (subst (λ (x : ℕ). Piece s at (le 3 x) at₁) (unlike-faultless 1 mark m a.faultless) a.piece)
            (join-pieces b.piece
            (join-pieces c.piece (join-pieces (subst (λ (x : ℕ). Piece s at₃ (le 1 x) at₄) (sym f.good.0) d.piece) f.piece)));
        good = record {
          known = outside-faultless 2 1 T.newest v b.faultless;
          outputs = c.small;
          count = subst (Between 1 T.most_rules) (sym f.good.0) (outside-faultless 3 1 T.most_rules n d.faultless);
          rules = f.good.1;
        };
      })

  sheet-complete : (S : Sheet) → SheetFits T S → s ≡ encode S → Finds s (read T s sheet 0) S []
  unfolding rules
  sheet-complete S g e =
      let v : ℕ = S.version in
      let o : ℕ = S.outputs in
      let n : ℕ = length S.rules in
      let R : List ℕ = each rule_bytes S.rules in
      let a = field-complete s 3 mark_fault mark 0 zero-le (omega arith) (outside-right 2 mark mark mark (omega arith)) e in
      let b = field-complete s 2 (version_fault T) v a.end a.inside (omega (arith, g.known, covered.versions)) (outside-right 3 1 T.newest v g.known) a.left in
      let c = field-complete s 8 no_fault o b.end b.inside g.outputs refl b.left in
      let d = field-complete s 1 (rules_fault T) n c.end c.inside (omega (arith, g.count, covered.rules)) (outside-right 4 1 T.most_rules n g.count) c.left in
      let f : Finds s (read T s (rules v o n) d.end) S.rules []
      = several-complete T s (λ _. rule v o) none rule_bytes (Fit T v o) (λ used i r rest l w p. rule-complete covered s v o i r rest l w p) S.rules 0 d.end [] d.inside g.rules
      (d.left ∙ sym (append-nil R)) in
      record { end = f.end; reads = read-sheet 0 ∙ rw (a.reads, b.reads, c.reads, d.reads, f.reads); left = f.left; inside = f.inside }

-- ---- a rule that fits is a well-formed one, and the other way round

either_way : (outputs : ℕ) (ns : List ℕ) → Each (Direction outputs false) ns
either_way outputs [] = tt
either_way outputs (n ∷ ns) = (refl, either_way outputs ns)

outputs-only : (outputs : ℕ) (ns : List ℕ) → Each (Direction outputs true) ns → Each (Output outputs) ns
outputs-only outputs [] d = tt
outputs-only outputs (n ∷ ns) d = (not-false (member outputs n) d.0, outputs-only outputs ns d.1)

only-outputs : (outputs : ℕ) (ns : List ℕ) → Each (Output outputs) ns → Each (Direction outputs true) ns
only-outputs outputs [] d = tt
only-outputs outputs (n ∷ ns) d = (ap not d.0, only-outputs outputs ns d.1)

module _ (T : Terms) (version outputs : ℕ) where
  -- P after a trigger
  after-trigger : (p : List Fragment) (i : ℕ) → Between 1 8 (length p) → AllGood fragment_names (FragmentFits T version outputs false) (insert 0 i) p
      → WellFormedOrdering p × Distinct (ordering_names p ++ (i ∷ [])) × Each (Allowed T version) p
  after-trigger p i b g =
      let a = fragments-split outputs false T version (insert 0 i) p g in
      (record { count = b; fragments = a.0 }, trigger-last i (ordering_names p) (fresh-distinct (i ∷ ordering_names p) (member-empty i, a.1)), a.3)

  trigger-before : (p : List Fragment) (i : ℕ) → WellFormedOrdering p → Distinct (ordering_names p ++ (i ∷ [])) → Each (Allowed T version) p
      → AllGood fragment_names (FragmentFits T version outputs false) (insert 0 i) p
  trigger-before p i o d j =
      fragments-join outputs false T version (insert 0 i) p o.fragments (distinct-fresh (i ∷ ordering_names p) (trigger-first i (ordering_names p) d)).1
      (either_way outputs (ordering_names p)) j

  rule-formed : (p : List Fragment) (K : Kind) → RuleFits T version outputs (record { kind = K; p = p }) → WellFormedRule T version outputs (record { kind = K; p = p })
  rule-formed p (once i) f =
      let a = after-trigger p i f.header.count_p f.p in
      let t = f.header.by_kind'.1 in
      record { formed = record { p = a.0; kind = t.0; distinct = a.1 }; directed = t.1; kinds = f.header.kinds; allowed_p = a.2; allowed_q = tt }
  rule-formed p (repeated i) f =
      let a = after-trigger p i f.header.count_p f.p in
      let t = f.header.by_kind'.1 in
      record { formed = record { p = a.0; kind = t.0; distinct = a.1 }; directed = t.1; kinds = f.header.kinds; allowed_p = a.2; allowed_q = tt }
  rule-formed p (timed q t) f =
      let a = fragments-split outputs false T version 0 p f.p in
      let b = fragments-split outputs true T version (insert_all 0 (ordering_names p)) q f.q in
      record {
        formed = record {
          p = record { count = f.header.count_p; fragments = a.0 };
          kind = (record { count = f.header.by_kind'.0; fragments = b.0 }, f.header.by_kind'.2);
          distinct = fresh-distinct (ordering_names p ++ ordering_names q) (append-fresh 0 (ordering_names p) (ordering_names q) a.1 b.1);
        };
        directed = outputs-only outputs (ordering_names q) b.2;
        kinds = f.header.kinds;
        allowed_p = a.3;
        allowed_q = b.3;
      }

  rule_fits : (p : List Fragment) (K : Kind) → WellFormedRule T version outputs (record { kind = K; p = p }) → RuleFits T version outputs (record { kind = K; p = p })
  rule_fits p (once i) g = record {
    header = record { kinds = g.kinds; count_p = g.formed.p.count; by_kind' = (refl, (g.formed.kind, g.directed), refl) };
    p = trigger-before p i g.formed.p g.formed.distinct g.allowed_p;
    q = tt;
  }
  rule_fits p (repeated i) g = record {
    header = record { kinds = g.kinds; count_p = g.formed.p.count; by_kind' = (refl, (g.formed.kind, g.directed), refl) };
    p = trigger-before p i g.formed.p g.formed.distinct g.allowed_p;
    q = tt;
  }
  rule_fits p (timed q t) g =
      let f = fresh-append 0 (ordering_names p) (ordering_names q) (distinct-fresh (ordering_names p ++ ordering_names q) g.formed.distinct) in
      record {
        header = record { kinds = g.kinds; count_p = g.formed.p.count; by_kind' = (g.formed.kind.0.count, refl, g.formed.kind.1) };
        p = fragments-join outputs false T version 0 p g.formed.p.fragments f.0 (either_way outputs (ordering_names p)) g.allowed_p;
        q = fragments-join outputs true T version (insert_all 0 (ordering_names p)) q g.formed.kind.0.fragments f.1 (only-outputs outputs (ordering_names q) g.directed) g.allowed_q;
      }

  rules-formed : (rs : List Rule) → AllGood none (Fit T version outputs) 0 rs → Each (WellFormedRule T version outputs) rs
  rules-formed [] g = tt
  rules-formed (r ∷ rs) g = (rule-formed r.p r.kind g.0, rules-formed rs g.1)

  rules-fit : (rs : List Rule) → Each (WellFormedRule T version outputs) rs → AllGood none (Fit T version outputs) 0 rs
  rules-fit [] g = tt
  rules-fit (r ∷ rs) g = (rule_fits r.p r.kind g.0, rules-fit rs g.1)

-- ---- acceptance

at-end : (s : List ℕ) (g : Got Sheet) {S : Sheet} → at_end s g ≡ accepted S → (end : ℕ) × (g ≡ got S end) × (length s ≤ end)
at-end s (stopped k p) e = absurd (let z : ◌≡◌ {A = ℕ} 0 1 = cc e in omega arith)
at-end s (got T end) {S} e = go (ltb end (length s)) refl e
  where
    go : (b : Bool) → ltb end (length s) ≡ b → cond b (refused 10 end) (accepted T) ≡ accepted S → (j : ℕ) × (got T end ≡ got S j) × (length s ≤ j)
    go true _ e = absurd (let z : ◌≡◌ {A = ℕ} 0 1 = cc e in omega arith)
    go false t e = (end, (cc e), ltb-false end (length s) t)

unless-long : (k : ℕ) {o : Outcome} {S : Sheet} → unless_long k o ≡ accepted S → (k ≡ 0) × (o ≡ accepted S)
unless-long zero e = (refl, e)
unless-long (suc k) e = absurd (let z : ◌≡◌ {A = ℕ} 0 1 = cc e in omega arith)

-- bytes that are the sheet S's, S being well-formed, and of which the caller does not say that they are too many
pub record Accepts (T : Terms) (s : List ℕ) (S : Sheet) : Type 0 where
  pub bytes : s ≡ encode S
  pub formed : WellFormedOn T S
  pub allowed : T.bytes (length s) ≡ 0

-- "bytes are read as S exactly when they are `encode S` and S is well-formed"
pub record Acceptance (T : Terms) (s : List ℕ) (S : Sheet) : Type 0 where
  pub only : read_sheet_on T s ≡ accepted S → Accepts T s S
  pub always : Accepts T s S → read_sheet_on T s ≡ accepted S

module _ {T : Terms} (covered : Covered T) where
  only-encoded : (s : List ℕ) → Bytes s → {S : Sheet} → read_sheet_on T s ≡ accepted S → Accepts T s S
  unfolding read_sheet_on
  only-encoded s bytes {S} e =
      let (few, e₀) = unless-long (T.bytes (length s)) e in
      let (end, e₁, l) = at-end s (read T s sheet 0) e₀ in
      let a : Sound s encode (SheetFits T) 0 S end = sheet-sound covered s bytes 0 end S e₁ in
      let g : SheetFits T S = a.good in
      record {
        bytes = a.piece.bytes ∙ ap (encode S ++◌) (drop_of_length-le s l) ∙ append-nil (encode S);
        formed = record { known = g.known; outputs = g.outputs; count = g.count; rules = rules-formed T S.version S.outputs S.rules g.rules };
        allowed = few;
      }

  always-encoded : (S : Sheet) → WellFormedOn T S → T.bytes (length (encode S)) ≡ 0 → read_sheet_on T (encode S) ≡ accepted S
  unfolding read_sheet_on
  always-encoded S w few =
      let s : List ℕ = encode S in
      let a = sheet-complete covered s S (record { known = w.known; outputs = w.outputs; count = w.count; rules = rules-fit T S.version S.outputs S.rules w.rules }) refl in
      let l : length s ≤ a.end = omega (arith, sym (length-drop a.end s) ∙ ap length a.left) in
      rw (few, a.reads, le-ltb a.end (length s) l)

  -- on any terms that the meaning covers
  pub acceptance-on : (s : List ℕ) → Bytes s → (S : Sheet) → Acceptance T s S
  acceptance-on s bytes S = record {
    only = only-encoded s bytes;
    always = λ a. ap (read_sheet_on T) a.bytes ∙ always-encoded S a.formed (subst (λ (x : List ℕ). T.bytes (length x) ≡ 0) a.bytes a.allowed);
  }

-- ---- on today's

pub acceptance : (s : List ℕ) → Bytes s → (S : Sheet) → Acceptance today s S
acceptance = acceptance-on today-covered

-- what is accepted is the bytes of a well-formed sheet
pub accepted-is-encoded : (s : List ℕ) → Bytes s → {S : Sheet} → read_sheet s ≡ accepted S → Accepts today s S
accepted-is-encoded = only-encoded today-covered

-- the bytes of a well-formed sheet are accepted
pub encoded-is-accepted : (S : Sheet) → WellFormedSheet S → read_sheet (encode S) ≡ accepted S
encoded-is-accepted S w = always-encoded today-covered S w refl
