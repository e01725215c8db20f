-- The changes that an event makes of a fragment's ranges, in the words of `Kept`: the fragment before its first event, a range that takes one more, and a range whose block a sibling closes.
-- Assumes nothing.
use mathlib.Core.Path.{◌≡◌, refl, sym, ◌∙◌, ap, ap₂}
use mathlib.Core.Bool.{Bool, true, false, cond, ◌&&◌, and-false}
use mathlib.Core.List.{List, map}
use Prim.Native.Nat.{ℕ, zero, suc, ◌≤◌, ◌<◌}
use native.Mathlib.Nat.{mod-eq_of_lt}
use native.Mathlib.Omega.{arith}
use lib.Dec.{ltb, eqb}
use lib.ListN.{length, get_or, set, replicate, get_or-map}
use lib.Seq.{set-get_or}
use borrow.Author.Tests.{le-leb, lt-leb, ltb-true, eqb-true}
use Rattle.pattern.specs.Meaning.{Join, AtMost, Rule}
use Rattle.pattern.specs.Recogniser.{counting, error, Class, own, next, has_room, move, is_error, next_count}
use Rattle.pattern.specs.Model.{round_of, fragment_at}
use Rattle.pattern.proofs.Block.{fewer}
use Rattle.pattern.proofs.Running.{roomy}
use Rattle.recogniser.specs.Numbers.{state_of}
use Rattle.recogniser.specs.Counts.{saturated}
use Rattle.recogniser.proofs.Counts.{one_more, saturated-zero, same_move}
use Rattle.layout.specs.Pages.{range_at}
use Rattle.masks.specs.Masks.{mask_n}
use Rattle.rule_state.specs.declared.RuleState.{RuleState}
use Rattle.tables.specs.Cells.{less_in, Cell}
use Rattle.fragment.specs.Fragments.{zeros, waiting_of, ranges_of}
use Rattle.fragment.proofs.States.{waiting-length, waiting-at}
use Rattle.step.specs.Steps.{put_of, count_of, taken_state, opened_of, closed_of, moved_by, errs_of}
use Rattle.step.specs.Shows.{InPlay, waits, counts, closed, would_err, Ranges, errs_to}
use Rattle.step.proofs.Sound.{Sound}
use Rattle.step.proofs.Indices.{range-in}
use Rattle.step.proofs.Flags.{clash}
use Rattle.step.proofs.Sets.{same_set, put_is, none_in, ranges-are}
use Rattle.step.proofs.Numbers.{lacks-is, full_is, needed-is, counts-now, done-now, done_full}
use Rattle.step.proofs.Kept.{Replaced}

-- no element of a list of zeros is another number
pub zero-at : (n k : ℕ) → get_or {A = ℕ} (replicate n 0) k 0 ≡ 0
zero-at zero k = refl
zero-at (suc n) zero = refl
zero-at (suc n) (suc k) = zero-at n k

-- what is stored of the counts, at a place
stored_at : (cs : List ℕ) (k : ℕ) → get_or (map saturated cs) k 0 ≡ saturated (get_or cs k 0)
stored_at cs k = ap (get_or (map saturated cs) k) (sym saturated-zero) ∙ get_or-map saturated cs k 0

zeros-stored : zeros ≡ map saturated zeros
zeros-stored = ap (replicate 8) (sym saturated-zero)

module _ {rule : Rule} (sound : Sound rule) {n : ℕ} (hn : n < length (round_of rule)) where
  abbrev size : ℕ
  size = length (fragment_at rule n).ranges

  abbrev join : Join
  join = (fragment_at rule n).join

  pub few : size ≤ 8
  few = (sound.count n hn).1

  -- a range takes one event at least
  one : (i : ℕ) → i < size → AtMost (range_at rule n i) 1
  one i hi = let r = range-in (fragment_at rule n).ranges i hi in fewer (range_at rule n i) ((sound.fine n hn).some (range_at rule n i) r) ((sound.fine n hn).order (range_at rule n i) r)

  -- ---- before the first event

  module _ {i cell : ℕ} (c : Cell rule n i cell) (st : RuleState) where
    waits-at : (k : ℕ) → k < size → get_or (waiting_of cell) k 0 ≡ 2
    waits-at k g = let l : k ≤ less_in cell = omega (arith, c.less, g) in waiting-at cell k (omega (arith, g, few)) ∙ rw (le-leb k (less_in cell) l)

    abbrev st₀ : RuleState
    st₀ = opened_of cell st

    pub opened-states : (opened_of cell st).states ≡ waiting_of cell
    unfolding opened_of
    opened-states = refl

    pub opened-counts : (opened_of cell st).counts ≡ zeros
    unfolding opened_of
    opened-counts = refl

    pub opened-end : (opened_of cell st).end ≡ st.end
    unfolding opened_of
    opened-end = refl

    pub opened-at : (k : ℕ) → k < size → get_or (opened_of cell st).states k 0 ≡ 2
    opened-at k g = ap (λ (l : List ℕ). get_or l k 0) opened-states ∙ waits-at k g

    pub opened-past : (k : ℕ) → size ≤ k → k < 8 → get_or (opened_of cell st).states k 0 ≡ 0
    opened-past k l g = let m : less_in cell < k = omega (arith, c.less, l) in ap (λ (x : List ℕ). get_or x k 0) opened-states ∙ waiting-at cell k g ∙ rw (lt-leb k (less_in cell) m)

    lacking-is : (opened_of cell st).lacking ≡ mask_n (would_err rule n zeros (opened_of cell st) next) 8
    unfolding opened_of
    lacking-is = look (eqb (moved_by cell 2 2 0) 5) refl
      where
        -- the column at a place
        at : (b : Bool) → eqb (moved_by cell 2 2 0) 5 ≡ b → (k : ℕ) → would_err rule n zeros (opened_of cell st) next k ≡ (ltb k (size) && b)
        at b q k = go (ltb k (size)) refl
          where
            go : (a : Bool) → ltb k (size) ≡ a → (a && errs_to rule n zeros (opened_of cell st) next k) ≡ (a && b)
            go true z = rw (opened-at k (ltb-true k (size) z)) (sym (needed-is c k) ∙ q)
            go false z = refl

        look : (b : Bool) → eqb (moved_by cell 2 2 0) 5 ≡ b → cond b (ranges_of cell) 0 ≡ mask_n (would_err rule n zeros (opened_of cell st) next) 8
        look true q = ranges-are cell (size) c.less ∙ same_set (λ k. ltb k (size)) (would_err rule n zeros (opened_of cell st) next) (λ k g. sym (at true q k ∙ keep (ltb k (size))))
          where
            keep : (a : Bool) → (a && true) ≡ a
            keep true = refl
            keep false = refl
        look false q = sym (none_in (would_err rule n zeros (opened_of cell st) next) (λ k g. at false q k ∙ and-false (ltb k (size))))

    full-none : (opened_of cell st).full ≡ mask_n (would_err rule n zeros (opened_of cell st) own) 8
    unfolding opened_of
    full-none = sym (none_in (would_err rule n zeros (opened_of cell st) own) (λ k g. at k (ltb k (size)) refl))
      where
        at : (k : ℕ) (a : Bool) → ltb k (size) ≡ a → (a && errs_to rule n zeros (opened_of cell st) own k) ≡ false
        at k true z = rw (opened-at k (ltb-true k (size) z))
        at k false z = refl

    pub opened-ranges : Ranges rule n zeros (opened_of cell st)
    opened-ranges = record {
      eight_states = ap length opened-states ∙ waiting-length cell;
      eight_counts = refl;
      stored = opened-counts ∙ zeros-stored;
      each = λ k g. waits (opened-at k g) (zero-at 8 k);
      idle = opened-past;
      lacking = lacking-is;
      full = full-none;
    }

  -- ---- a range takes one more

  -- what *own* makes of a range that can take one more: it counts, one more than before
  pub record Takes (i state count : ℕ) : Type 0 where
    pub moves : move (fragment_at rule n).join (range_at rule n i) count (state_of state) own ≡ counting
    pub tallies : next_count (range_at rule n i) count (state_of state) ≡ suc count
    pub room : AtMost (range_at rule n i) (suc count)

  pub takes : (i state count : ℕ) → i < size → InPlay (fragment_at rule n).join (range_at rule n i) state count
      → is_error (move (fragment_at rule n).join (range_at rule n i) count (state_of state) own) ≡ false → Takes i state count
  takes i state count hi (waits z y) e = record { moves = rw z; tallies = rw (z, y); room = rw y (one i hi) }
  takes i state count hi (counts z y) e = go (has_room (range_at rule n i) count) refl (rw z at e)
    where
      go : (b : Bool) → has_room (range_at rule n i) count ≡ b → is_error (cond b counting error) ≡ false → Takes i state count
      go true q x = record { moves = rw (z, q); tallies = rw (z, q); room = roomy (range_at rule n i) count q }
      go false q x = clash (sym x)
  takes i state count hi (closed z y) e = clash (sym (rw z at e))

  module _ {i cell : ℕ} (c : Cell rule n i cell) (cs : List ℕ) (st : RuleState) (stored : st.counts ≡ map saturated cs) (now : ℕ) where
    abbrev k₁ : ℕ
    k₁ = suc (get_or cs i 0)

    count-is : count_of cell st ≡ saturated k₁
    count-is = rw (c.index, stored, stored_at cs i) (one_more (get_or cs i 0))

    -- what is stored of the count is to the tests what the count is: a cell's bounds are of sixteen bits
    stored-move : (class : Class) → is_error (move (fragment_at rule n).join (range_at rule n i) (saturated k₁) counting class) ≡ is_error (move (fragment_at rule n).join (range_at rule n i) k₁ counting class)
    stored-move class = ap is_error (same_move (range_at rule n i) (omega (arith, c.u)) (omega (arith, c.v)) k₁ (fragment_at rule n).join counting class)

    pub taken-replaced : Replaced rule n st i 3 (suc (get_or cs i 0)) (taken_state cell st now)
    taken-replaced = record {
      states = ap₂ (set st.states) c.index (counts-now cell (count_of cell st));
      counts = ap₂ (set st.counts) c.index count-is;
      lacking = ap₂ (put_of st.lacking) c.index (ap (errs_of cell 2) count-is ∙ lacks-is c (saturated k₁) ∙ stored-move next);
      full = ap₂ (put_of st.full) c.index (ap (errs_of cell 0) count-is ∙ full_is c (saturated k₁) ∙ stored-move own);
    }

  -- ---- a sibling's event closes a block

  pub closed-replaced : {cs : List ℕ} {st : RuleState} → Ranges rule n cs st → st.current < size → would_err rule n cs st next st.current ≡ false
      → Replaced rule n st st.current 4 (get_or cs st.current 0) (closed_of st)
  unfolding closed_of
  closed-replaced {cs} {st} w hj e = record {
    states = rw (mod-eq_of_lt small, done-now);
    counts = sym (ap (set st.counts st.current) (sym count_at) ∙ set-get_or st.counts st.current 0);
    lacking = w.lacking ∙ sym (ap (λ (x : ℕ). put_of x st.current false) w.lacking ∙ put_is lacks lacks st.current false (λ k g. stays k (eqb k st.current) refl));
    full = rw (mod-eq_of_lt small, done_full);
  }
    where
      small : st.current < 8
      small = omega (arith, hj, few)

      count_at : get_or st.counts st.current 0 ≡ saturated (get_or cs st.current 0)
      count_at = ap (λ (l : List ℕ). get_or l st.current 0) w.stored ∙ stored_at cs st.current

      lacks : ℕ → Bool
      lacks = would_err rule n cs st next

      stays : (k : ℕ) (b : Bool) → eqb k st.current ≡ b → cond b false (would_err rule n cs st next k) ≡ would_err rule n cs st next k
      stays k true q = sym (ap (would_err rule n cs st next) (eqb-true k st.current q) ∙ e)
      stays k false q = refl
