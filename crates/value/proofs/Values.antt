-- The calls by value, from the calls in memory: a monitor and the bytes that hold it have the same numbers, so what is promised of one is promised of the other.
-- Assumes nothing.
use mathlib.Core.Path.{◌≡◌, sym, subst, ◌∙◌, ap}
use mathlib.Core.List.{List}
use Prim.Native.Nat.{ℕ}
use Rattle.pattern.specs.Judge.{Kept}
use Rattle.layout.specs.Layout.{Sheet}
use Rattle.book.specs.declared.Book.{Book}
use Rattle.words.specs.Words.{Held, held_by, Holds}
use Rattle.monitor.specs.Promise.{Tracks, in_memory, Follows, Observes, Freshes}
use Rattle.value.specs.Value.{numbers_of, by_value}
use Rattle.value.specs.declared.Monitor.{Monitor}
use Rattle.answers.specs.Observe.{observe_of}
use Rattle.answers.specs.declared.Observation.{Observation}
use Rattle.answers.specs.Cases.{Answer}

-- a monitor is its numbers
same_numbers : (a b : Monitor) → numbers_of a ≡ numbers_of b → a ≡ b
same_numbers a b = ap (λ (m : Held). record { rules = m.rules; taken = m.taken; latest = m.latest; verdict = m.verdict; mask = m.mask; dues = m.dues })

-- bytes that hold a monitor which follows do so themselves, and the other way
in-memory : (S : Sheet) (k : Kept) (b : Book) (m : Monitor) (w : List ℕ) → Holds w (numbers_of m) → Follows by_value S k b m → Follows in_memory S k b w
in-memory S k b m w h f = record { fits = h.fits; tracks = subst (Tracks S k b) (sym h.held) f.tracks }

of-memory : (S : Sheet) (k : Kept) (b : Book) (m : Monitor) (w : List ℕ) → numbers_of m ≡ held_by w → Follows in_memory S k b w → Follows by_value S k b m
of-memory S k b m w e f = record { fits = tt; tracks = subst (Tracks S k b) (sym e) f.tracks }

module _ {table before after : List ℕ} {m next : Monitor} {o : Observation} {a : Answer} (h : Holds before (numbers_of m)) (p : Observes in_memory table before o a after) (e : numbers_of next ≡ held_by after) where
  same : after ≡ before → next ≡ m
  same q = same_numbers next m (e ∙ ap held_by q ∙ h.held)

  pub turns : Observes by_value table m o a next
  turns = record {
    fits = λ u. tt;
    holds = λ u.
        ap (λ (x : Held). record { monitor = x; answer = a }) e ∙ p.holds h.fits ∙ ap (λ (x : Held). observe_of table x o) h.held;
    unchanged = λ z. same (p.unchanged z);
    stopped = λ z. same (p.stopped (ap (λ (x : Held). x.verdict) h.held ∙ z));
    blank = λ u s z. tt;
    answers = λ b lent S k f. p.answers b lent S k (in-memory S k b m before h f);
    follows = λ b lent S k f oracle right. of-memory S _ b next after e (p.follows b lent S k (in-memory S k b m before h f) oracle right);
  }

pub starts : {w : List ℕ} {m : Monitor} → Freshes in_memory w → numbers_of m ≡ held_by w → Freshes by_value m
starts {w} {m} f e = record { fits = tt; holds = e ∙ f.holds; blank = tt; follows = λ S b formed looks. of-memory S _ b m w e (f.follows S b formed looks) }
