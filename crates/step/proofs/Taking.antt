-- An event that is no error: the range that it names takes it, in a fragment whose other ranges stand as a sibling's event leaves them, and the rule stands as the model's. And the first event
-- of a fragment, before which every range waits.
-- Assumes nothing.
use mathlib.Core.Path.{◌≡◌, refl, sym, ◌∙◌, ap, subst}
use mathlib.Core.Bool.{Bool, true, false, cond, and-false}
use mathlib.Core.List.{List, map}
use Prim.Native.Nat.{ℕ, suc, ◌≤◌, ◌<◌}
use native.Mathlib.Omega.{arith}
use lib.ListN.{length, get_or, replicate}
use borrow.Author.Tests.{lt-ltb}
use Rattle.pattern.specs.Meaning.{shuffled, Rule}
use Rattle.pattern.specs.Recogniser.{State, idle, unbegun, own, moves, tallies, not_begun, within}
use Rattle.pattern.specs.Model.{round_of, in_time, fragment_at, after_p, begin, end_after, at_rest}
use Rattle.pattern.specs.Model as M
use Rattle.recogniser.specs.Numbers.{state_of}
use Rattle.layout.specs.Pages.{range_at}
use Rattle.rule_state.specs.declared.RuleState.{RuleState}
use Rattle.tables.specs.Cells.{frees_in, is_timed, frees, Cell}
use Rattle.fragment.specs.Fragments.{zeros}
use Rattle.step.specs.declared.Seen.TheVariants.{Releases, Taken}
use Rattle.step.specs.declared.Ready.{Ready}
use Rattle.step.specs.Steps.{taken_state, taken_of, opened_of, ready_as, freed_of, step_of}
use Rattle.step.specs.Shows.{counts, would_err, Ranges, AloneBut, Lone, Counting, freed}
use Rattle.step.proofs.Sound.{Sound}
use Rattle.step.proofs.Indices.{fresh-length, fresh_at, fresh-past}
use Rattle.step.proofs.Kept.{Replaced, state-here, state-there, kept}
use Rattle.step.proofs.Changes as Ch
use Rattle.step.proofs.Moving.{Beside, states-moved, counts-moved}
use Rattle.step.proofs.Flags.{end_is}
use Rattle.step.proofs.Settled.{Linked, timely, settled}

-- how the first event of a fragment is seen
abbrev pub opens_by : ℕ → RuleState → Ready
opens_by cell st = cond (frees_in cell) (ready_as Releases st) (ready_as Taken (opened_of cell st))

module _ {rule : Rule} (sound : Sound rule) (time : ℕ) {n i name : ℕ} (hn : n < length (round_of rule)) (hi : i < length (fragment_at rule n).ranges)
    (e : name ≡ (range_at rule n i).name) {cell : ℕ} (c : Cell rule n i cell) where
  -- ---- an event that is no error to any range

  -- st is the code's state, but for the event's own range, after the event, and cs the model's counts before it
  module _ (cs : List ℕ) (st : RuleState) (w : Ranges rule n cs st) (clear : would_err rule n cs st own i ≡ false) (alone : shuffled (fragment_at rule n).join ≡ false → AloneBut rule n st i) where
    takes : Ch.Takes sound hn i (get_or st.states i 0) (get_or cs i 0)
    takes = Ch.takes sound hn i (get_or st.states i 0) (get_or cs i 0) hi (w.each i hi) (rw (lt-ltb i (length (fragment_at rule n).ranges) hi) at clear)

    abbrev o : RuleState
    o = taken_state cell st time

    replaced : Replaced rule n st i 3 (suc (get_or cs i 0)) (taken_state cell st time)
    replaced = Ch.taken-replaced sound hn c cs st w.stored time

    few : length (fragment_at rule n).ranges ≤ 8
    few = (sound.count n hn).1

    lone : AloneBut rule n st i → Lone rule n (taken_state cell st time)
    lone a = record {
      held = subst (λ (k : ℕ). k < length (fragment_at rule n).ranges) (sym c.index) hi;
      counts = ap (λ (k : ℕ). get_or (taken_state cell st time).states k 0) c.index ∙ state-here replaced w few hi;
      alone = λ k g d z. (let d' : k ≡ i → ⊥ = λ y. d (y ∙ sym c.index) in a k g d' (sym (state-there replaced w few hi k d') ∙ z));
    }

    -- what the model makes of its states and counts
    module _ (ss : List State) (b : Beside sound hn hi e ss cs st.states) (unfree : frees rule n ≡ false) where
      abbrev N : M.RuleState
      N = record {
        fragment = n;
        states = moves (fragment_at rule n).join (within name) (fragment_at rule n).ranges ss cs;
        counts = tallies (within name) (fragment_at rule n).ranges ss cs;
        end = end_after rule n st.end time;
      }

      counting : Counting rule (taken_state cell st time) N
      counting = record {
        inside = hn;
        unfree = unfree;
        fragment = c.fragment;
        states = ap (map state_of) replaced.states ∙ states-moved sound hn hi e b;
        end = end_is c st.end time;
        ranges = subst (λ (l : List ℕ). Ranges rule n l (taken_state cell st time)) (counts-moved sound hn hi e b) (kept replaced w few hi (counts refl takes.room));
        lone = λ p. lone (alone p);
      }

      pub taken-linked : (after_p rule n ≡ true → in_time rule.kind st.end time ≡ true) → Linked rule time (taken_of cell st time) N
      unfolding taken_of
      taken-linked t = settled sound time counting c (timely rule n st.end time t)

  -- ---- the first event of a fragment

  module _ (st : RuleState) (t : after_p rule n ≡ true → in_time rule.kind st.end time ≡ true) where
    abbrev B : M.RuleState
    B = begin rule n st.end (record { name = name; time = time })

    abbrev start : List State
    start = not_begun (fragment_at rule n).ranges 8

    abbrev st₀ : RuleState
    st₀ = opened_of cell st

    waits_there : (k : ℕ) → k < length (fragment_at rule n).ranges → get_or (opened_of cell st).states k 0 ≡ 2
    waits_there = Ch.opened-at sound hn c st

    unbegun-at : (k : ℕ) → k < length (fragment_at rule n).ranges → get_or (not_begun (fragment_at rule n).ranges 8) k idle ≡ unbegun
    unbegun-at k g = fresh_at (fragment_at rule n).ranges 8 k (sound.count n hn).1 g

    beside : Beside sound hn hi e (not_begun (fragment_at rule n).ranges 8) (replicate 8 0) (opened_of cell st).states
    beside = record {
      states = fresh-length (fragment_at rule n).ranges 8;
      counts = refl;
      eight = (Ch.opened-ranges sound hn c st).eight_states;
      here = rw (unbegun-at i hi);
      tallied = rw (unbegun-at i hi) (sym (ap suc (Ch.zero-at 8 i)));
      there = λ k g d. ap state_of (waits_there k g) ∙ sym (rw (unbegun-at k g));
      past = λ k l g. ap state_of (Ch.opened-past sound hn c st k l g) ∙ sym (fresh-past (fragment_at rule n).ranges 8 k l);
    }

    begin-taken : frees rule n ≡ false → Linked rule time (taken_of cell (opened_of cell st) time) B
    begin-taken q =
        subst (λ (S : M.RuleState). Linked rule time (taken_of cell (opened_of cell st) time) S) is
        (taken-linked zeros (opened_of cell st) (Ch.opened-ranges sound hn c st) clear alone start beside q
        (λ a. ap (λ (x : ℕ). in_time rule.kind x time) (Ch.opened-end sound hn c st) ∙ t a))
      where
        -- every range waits: *own* is no error, and none counts
        clear : would_err rule n zeros (opened_of cell st) own i ≡ false
        clear = rw (lt-ltb i (length (fragment_at rule n).ranges) hi, waits_there i hi)

        alone : shuffled (fragment_at rule n).join ≡ false → AloneBut rule n (opened_of cell st) i
        alone p k g d z = omega (arith, z, waits_there k g)

        states-are : moves (fragment_at rule n).join (within name) (fragment_at rule n).ranges start (replicate 8 0) ≡ B.states
        states-are = sym (rw q)

        is : N zeros (opened_of cell st) (Ch.opened-ranges sound hn c st) clear alone start beside q ≡ B
        is k = record { fragment = n; states = states-are k; counts = B.counts; end = end_after rule n (Ch.opened-end sound hn c st k) time }

    pub begin-linked : Linked rule time (step_of cell st time (opens_by cell st)) (begin rule n st.end (record { name = name; time = time }))
    unfolding freed_of
    begin-linked = rw c.frees (look (frees rule n) refl)
      where
        look : (b : Bool) → frees rule n ≡ b → Linked rule time (step_of cell st time (cond b (ready_as Releases st) (ready_as Taken (opened_of cell st)))) B
        look true q = let rests : at_rest rule B ≡ true = rw q in record {
          status = sym (rw rests);
          due = λ z. sym (rw rests (and-false (is_timed rule.kind)));
          shows = λ z. freed refl q;
        }
        look false q = begin-taken q
