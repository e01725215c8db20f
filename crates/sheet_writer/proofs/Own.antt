-- The bytes that the table of a sheet's book says are the sheet's own: part by part, each is looked up as the sheet has it.
-- Assumes nothing.
use mathlib.Core.Path.{◌≡◌, refl, sym, ◌∙◌, ap, ap₂, subst}
use mathlib.Core.Bool.{false}
use mathlib.Core.List.{List, [], ◌∷◌, ◌++◌, append_assoc, append-nil}
use Prim.Native.Nat.{ℕ, zero, suc, ◌+◌, ◌≤◌, ◌<◌}
use native.Mathlib.Omega.{arith}
use lib.Dec.{eqb}
use lib.ListN.{length, get_or, take, length-append, get_or-append}
use lib.Seq.{take-suc, take-length}
use borrow.Author.Tests.{eq-eqb, ne_eqb}
use Rattle.pattern.specs.Meaning.{Fragment, Kind, once, repeated, timed, Rule, WellFormedFragment, WellFormed}
use Rattle.pattern.specs.Model.{last_fragments, round_of, no_fragment, fragment_at}
use Rattle.layout.specs.Layout.{Sheet, le, each, in_q, range_bytes, fragment_bytes, header_of, header_bytes, rule_bytes, mark, encode, WellFormedSheet}
use Rattle.layout.specs.Pages.{header_word, no_range, no_rule, rule_at, range_at}
use Rattle.layout.proofs.PageLaws.{round-formed, round-few, each_at}
use Rattle.layout.proofs.Accepted.{rule-formed}
use Rattle.tables.specs.Words.{kind_in, count_p_in, count_q_in, trigger_in, time_in}
use Rattle.tables.specs.Cells.{less_in, head_at}
use Rattle.tables.proofs.Bounds.{cap-of}
use Rattle.tables.proofs.Names.{first-at, name-at}
use Rattle.cells.proofs.HeadLaws.{looks-head, some-head}
use Rattle.book.specs.declared.Book.{Book}
use Rattle.book.specs.Looks.{Looks}
use Rattle.places.specs.Places.{cell_of}
use Rattle.places.proofs.Reading.{cell-at}
use Rattle.sheet_writer.specs.Parts.{up_to, range_in, range_part, fragment_part, fragment_count, rule_part, rule_count, header_part, table_bytes}

-- ---- one part after the other

each-++ : {A : Type 0} (f : A → List ℕ) (xs ys : List A) → each f (xs ++ ys) ≡ each f xs ++ each f ys
each-++ f [] ys = refl
each-++ f (x ∷ xs) ys = ap (λ (l : List ℕ). f x ++ l) (each-++ f xs ys) ∙ sym (append_assoc (f x) (each f xs) (each f ys))

-- parts by their numbers, as a list has them
module _ {A : Type 0} (f : A → List ℕ) (d : A) (g : ℕ → List ℕ) (xs : List A) (same : (i : ℕ) → i < length xs → g i ≡ f (get_or xs i d)) where
  first-parts : (n : ℕ) → n ≤ length xs → up_to g n ≡ each f (take n xs)
  first-parts zero h = refl
  first-parts (suc n) h =
      ap₂ (λ (a b : List ℕ). a ++ b) (first-parts n (omega (arith, h))) (same n (omega (arith, h)) ∙ sym (append-nil (f (get_or xs n d))))
      ∙ sym (each-++ f (take n xs) (get_or xs n d ∷ [])) ∙ ap (each f) (sym (take-suc xs n d (omega (arith, h))))

  parts : up_to g (length xs) ≡ each f xs
  parts = first-parts (length xs) (omega arith) ∙ ap (each f) (take-length xs)

-- ---- a rule's head

-- eight bytes are those of the head's parts
head_bytes : (w : ℕ) → le 8 w ≡ le 1 (kind_in w) ++ (le 1 (count_p_in w) ++ (le 1 (count_q_in w) ++ (le 1 (trigger_in w) ++ le 4 (time_in w))))
head_bytes w = listed (omega arith) (omega arith) (omega arith) (omega arith) (omega arith) (omega arith) (omega arith) (omega arith)
  where
    listed : {a b c d e f g h a' b' c' d' e' f' g' h' : ℕ} → a ≡ a' → b ≡ b' → c ≡ c' → d ≡ d' → e ≡ e' → f ≡ f' → g ≡ g' → h ≡ h'
        → ◌≡◌ {A = List ℕ} (a ∷ b ∷ c ∷ d ∷ e ∷ f ∷ g ∷ h ∷ []) (a' ∷ b' ∷ c' ∷ d' ∷ e' ∷ f' ∷ g' ∷ h' ∷ [])
    listed a b c d e f g h = rw (a, b, c, d, e, f, g, h) refl

-- ---- a sheet's parts, in its book

-- the fragments of P and Q are the round's, before a trigger's
fragment-of : (K : Kind) (p : List Fragment) (i : ℕ) → i < length (p ++ in_q K) → get_or (p ++ last_fragments K) i no_fragment ≡ get_or (p ++ in_q K) i no_fragment
fragment-of (once t) p i h = rw (append-nil p) (get_or-append p _ no_fragment i (subst (λ (l : List Fragment). i < length l) (append-nil p) h))
fragment-of (repeated t) p i h = rw (append-nil p) (get_or-append p _ no_fragment i (subst (λ (l : List Fragment). i < length l) (append-nil p) h))
fragment-of (timed q t) p i h = refl

no_more : (K : Kind) (p : List Fragment) → length (p ++ in_q K) ≤ length (p ++ last_fragments K)
no_more (once t) p = omega (arith, length-append p [], length-append p (last_fragments (once t)))
no_more (repeated t) p = omega (arith, length-append p [], length-append p (last_fragments (repeated t)))
no_more (timed q t) p = omega arith

module _ (S : Sheet) (b : Book) (formed : WellFormedSheet S) (looks : Looks S b) where
  abbrev table : List ℕ
  table = b.table

  module _ (r : ℕ) (here : r < length S.rules) where
    abbrev rule : Rule
    rule = rule_at S.rules r

    well : WellFormed rule
    well = rule-formed S formed r here

    module _ (f : ℕ) (inside : f < length (round_of rule)) where
      range-own : (i : ℕ) → i < length (fragment_at rule f).ranges → range_part table r f i ≡ range_bytes (range_at rule f i)
      unfolding range_part
      range-own i within =
          let c = cell-at looks.table r here well f i inside within in
          let e : range_in _ _ ≡ range_at rule f i = λ k. record { name = name-at looks.table r here well f i inside within k; u = c.u k; v = c.v k } in
          ap range_bytes e

      some : 0 < length (fragment_at rule f).ranges
      some = omega (arith, (each_at WellFormedFragment no_fragment (round_of rule) f (round-formed rule well) inside).count)

      fragment-own : fragment_part table r f ≡ fragment_bytes (fragment_at rule f)
      unfolding fragment_part
      fragment-own =
          let c = cell-at looks.table r here well f 0 inside some in
          let e : up_to (range_part table r f) (suc (less_in (cell_of table r f 0))) ≡ each range_bytes (fragment_at rule f).ranges
          = ap (up_to (range_part table r f)) c.less ∙ parts range_bytes no_range (range_part table r f) (fragment_at rule f).ranges range-own in
          λ k. le 1 (c.join k) ++ (le 1 (c.less k) ++ e k)

    -- the sheet's own fragments of the rule
    abbrev fragments : List Fragment
    fragments = rule.p ++ in_q rule.kind

    count-own : fragment_count (header_word (header_of rule)) ≡ length fragments
    unfolding fragment_count
    count-own =
        let h = looks-head rule well in
        let e : length rule.p + length (in_q rule.kind) ≡ length fragments = sym (length-append rule.p (in_q rule.kind)) in
        rw (h.count_p, h.count_q, e) (cap-of 16 _ (omega (arith, no_more rule.kind rule.p, round-few rule well)))

    header-own : le 8 (header_word (header_of rule)) ≡ header_bytes (header_of rule)
    header-own =
        let h = looks-head rule well in
        head_bytes (header_word (header_of rule)) ∙ rw (h.kind, h.count_p, h.count_q, h.trigger, h.time) refl

    rule-own : rule_part table r ≡ rule_bytes rule
    unfolding rule_part
    rule-own = rw (looks.head r here, count-own) (λ k. header-own k ++ (parts fragment_bytes no_fragment (fragment_part table r) fragments own ∙ each-++ fragment_bytes rule.p (in_q rule.kind)) k)
      where
        own : (f : ℕ) → f < length fragments → fragment_part table r f ≡ fragment_bytes (get_or fragments f no_fragment)
        own f h = fragment-own f (omega (arith, h, no_more rule.kind rule.p)) ∙ ap fragment_bytes (fragment-of rule.kind rule.p f h)

  rules-own : rule_count table ≡ length S.rules
  unfolding rule_count
  rules-own = first-at _ (length S.rules) 16 0 (omega arith) (omega (arith, formed.count)) some-rule (λ h. eq-eqb _ 0 (looks.none (length S.rules) (omega arith) (omega (arith, h))))
    where
      some-rule : (r : ℕ) → r < length S.rules → eqb (get_or table (head_at r) 0) 0 ≡ false
      some-rule r h = ne_eqb _ 0 (λ e. some-head (rule_at S.rules r) (rule-formed S formed r h) (sym (looks.head r h) ∙ e))

  -- the bytes of a sheet's book are the sheet's own
  pub own-bytes : table_bytes table ≡ encode S
  unfolding table_bytes header_part
  own-bytes =
      let e : up_to (rule_part table) (rule_count table) ≡ each rule_bytes S.rules = ap (up_to (rule_part table)) rules-own ∙ parts rule_bytes no_rule (rule_part table) S.rules rule-own in
      λ k. le 3 mark ++ (le 2 (looks.version' k) ++ (le 8 (looks.outputs k) ++ (le 1 (rules-own k) ++ e k)))
