-- Document 01's printed sheet: its bytes, how it is read, and some of its refusals; the same sheet in version 2, shuffled, and with a range that has no upper end; and a timed sheet, by the names of
-- its Q, before change 6 and with it. Assumes nothing.
use Rattle.std.specs.Prelude.{◌≡◌, refl, List, [], ◌∷◌, ◌++◌, ℕ, take, set}
use Rattle.pattern.specs.Meaning.{Join, all, all_shuffled, repeated, timed}
use Rattle.names.specs.Names.{member, insert}
use Rattle.layout.specs.Terms.{with_endless}
use Rattle.layout.specs.Layout.{Sheet, encode}
use Rattle.layout.specs.Form.{number, field_at}
use Rattle.layout.specs.Reading.{accepted, refused, read_sheet, read_sheet_on, sheet, rules, rule, header, fragments, fragment, ranges, range, several}

-- kind 1, {0[1,v], 1[1,1]} with some join before 2
abbrev pub joined : ℕ → Join → ℕ → Sheet
joined version join v = record {
  version = version;
  outputs = 0;
  rules = record {
    kind = repeated 2;
    p = record { join = join; ranges = record { name = 0; u = 1; v = v } ∷ record { name = 1; u = 1; v = 1 } ∷ [] } ∷ [];
  } ∷ [];
}

-- "book.lob holds R alone with outputs 0", R being joined all, with bounds [1,1]
abbrev pub printed : Sheet
printed = joined 1 all 1

abbrev pub printed_bytes : List ℕ
printed_bytes =
    0x4C ∷ 0x4F ∷ 0x42 ∷ 0x01 ∷ 0x00 ∷ 0x00 ∷ 0x00 ∷ 0x00 ∷ 0x00 ∷ 0x00 ∷ 0x00 ∷ 0x00 ∷ 0x00 ∷ 0x01
    ∷ 0x01 ∷ 0x01 ∷ 0x00 ∷ 0x02 ∷ 0x00 ∷ 0x00 ∷ 0x00 ∷ 0x00
    ∷ 0x00 ∷ 0x02 ∷ 0x00 ∷ 0x01 ∷ 0x00 ∷ 0x01 ∷ 0x00 ∷ 0x01 ∷ 0x01 ∷ 0x00 ∷ 0x01 ∷ 0x00 ∷ []

pub encoded : encode printed ≡ printed_bytes
encoded = refl

pub reads : read_sheet printed_bytes ≡ accepted printed
unfolding read_sheet_on sheet rules rule header fragments fragment ranges range field_at number several member insert
reads = refl

-- the outputs do not fit; name 2, the trigger, comes again; a byte is left over
pub short : read_sheet (take 12 printed_bytes) ≡ refused 1 5
unfolding read_sheet_on sheet rules rule header fragments fragment ranges range field_at number several member insert
short = refl

pub twice : read_sheet (set printed_bytes 29 2) ≡ refused 8 29
unfolding read_sheet_on sheet rules rule header fragments fragment ranges range field_at number several member insert
twice = refl

pub longer : read_sheet (printed_bytes ++ (0 ∷ [])) ≡ refused 10 34
unfolding read_sheet_on sheet rules rule header fragments fragment ranges range field_at number several member insert
longer = refl

-- ---- change 1

-- version 2, {0, 1} all, shuffled
abbrev pub shuffled_bytes : List ℕ
shuffled_bytes = set (set printed_bytes 3 2) 22 2

pub encoded-shuffled : encode (joined 2 all_shuffled 1) ≡ shuffled_bytes
encoded-shuffled = refl

pub reads-shuffled : read_sheet shuffled_bytes ≡ accepted (joined 2 all_shuffled 1)
unfolding read_sheet_on sheet rules rule header fragments fragment ranges range field_at number several member insert
reads-shuffled = refl

-- join 2 in version 1; join 4 in version 2; version 3
pub shuffled-in-one : read_sheet (set shuffled_bytes 3 1) ≡ refused 4 22
unfolding read_sheet_on sheet rules rule header fragments fragment ranges range field_at number several member insert
shuffled-in-one = refl

pub join-four : read_sheet (set shuffled_bytes 22 4) ≡ refused 4 22
unfolding read_sheet_on sheet rules rule header fragments fragment ranges range field_at number several member insert
join-four = refl

pub third-version : read_sheet (set shuffled_bytes 3 3) ≡ refused 3 3
unfolding read_sheet_on sheet rules rule header fragments fragment ranges range field_at number several member insert
third-version = refl

-- ---- change 2

-- version 2, {0[1,0], 1[1,1]} all
abbrev pub endless_bytes : List ℕ
endless_bytes = set (set printed_bytes 3 2) 27 0

pub encoded-endless : encode (joined 2 all 0) ≡ endless_bytes
encoded-endless = refl

pub reads-endless : read_sheet endless_bytes ≡ accepted (joined 2 all 0)
unfolding read_sheet_on sheet rules rule header fragments fragment ranges range field_at number several member insert
reads-endless = refl

-- v = 0 in version 1; u = 0, with v = 0, in version 2; u = 2 and v = 1 in version 2
pub endless-in-one : read_sheet (set endless_bytes 3 1) ≡ refused 7 27
unfolding read_sheet_on sheet rules rule header fragments fragment ranges range field_at number several member insert
endless-in-one = refl

pub least_zero : read_sheet (set endless_bytes 25 0) ≡ refused 7 25
unfolding read_sheet_on sheet rules rule header fragments fragment ranges range field_at number several member insert
least_zero = refl

pub most-below-least : read_sheet (set (set endless_bytes 25 2) 27 1) ≡ refused 7 27
unfolding read_sheet_on sheet rules rule header fragments fragment ranges range field_at number several member insert
most-below-least = refl

-- ---- change 6

-- kind 2, {3} before {n, m} all, within 10; 4 and 6 are outputs
abbrev pub timed_bytes : (n m : ℕ) → List ℕ
timed_bytes n m =
    0x4C ∷ 0x4F ∷ 0x42 ∷ 0x01 ∷ 0x00 ∷ 0x50 ∷ 0x00 ∷ 0x00 ∷ 0x00 ∷ 0x00 ∷ 0x00 ∷ 0x00 ∷ 0x00 ∷ 0x01
    ∷ 0x02 ∷ 0x01 ∷ 0x01 ∷ 0x00 ∷ 0x0A ∷ 0x00 ∷ 0x00 ∷ 0x00
    ∷ 0x00 ∷ 0x01 ∷ 0x03 ∷ 0x01 ∷ 0x00 ∷ 0x01 ∷ 0x00
    ∷ 0x00 ∷ 0x02 ∷ n ∷ 0x01 ∷ 0x00 ∷ 0x01 ∷ 0x00 ∷ m ∷ 0x01 ∷ 0x00 ∷ 0x01 ∷ 0x00 ∷ []

abbrev pub timed_sheet : Sheet
timed_sheet = record {
  version = 1;
  outputs = 0x50;
  rules = record {
    kind = timed (record { join = all; ranges = record { name = 4; u = 1; v = 1 } ∷ record { name = 6; u = 1; v = 1 } ∷ [] } ∷ []) 10;
    p = record { join = all; ranges = record { name = 3; u = 1; v = 1 } ∷ [] } ∷ [];
  } ∷ [];
}

pub accepted-on-both : (read_sheet (timed_bytes 4 6) ≡ accepted timed_sheet) × (read_sheet_on with_endless (timed_bytes 4 6) ≡ accepted timed_sheet)
unfolding read_sheet_on sheet rules rule header fragments fragment ranges range field_at number several member insert
accepted-on-both = (refl, refl)

-- what a sheet is refused with, and was before change 6
abbrev Refuses : List ℕ → (now before place : ℕ) → Type 0
Refuses s now before place = (read_sheet s ≡ refused now place) × (read_sheet_on with_endless s ≡ refused before place)

-- 3 again, an input, as the first name of Q and as the second
pub reused-first : Refuses (timed_bytes 3 6) 9 8 31
unfolding read_sheet_on sheet rules rule header fragments fragment ranges range field_at number several member insert
reused-first = (refl, refl)

pub reused-second : Refuses (timed_bytes 4 3) 9 8 36
unfolding read_sheet_on sheet rules rule header fragments fragment ranges range field_at number several member insert
reused-second = (refl, refl)

-- 4 again, an output; 5, an input and new; 64, no name; 4 in Q and in P
pub output-again : Refuses (timed_bytes 4 4) 8 8 36
unfolding read_sheet_on sheet rules rule header fragments fragment ranges range field_at number several member insert
output-again = (refl, refl)

pub new-input : Refuses (timed_bytes 4 5) 9 9 36
unfolding read_sheet_on sheet rules rule header fragments fragment ranges range field_at number several member insert
new-input = (refl, refl)

pub no_name : Refuses (timed_bytes 4 64) 6 6 36
unfolding read_sheet_on sheet rules rule header fragments fragment ranges range field_at number several member insert
no_name = (refl, refl)

pub output-in-both : Refuses (set (timed_bytes 4 6) 24 4) 8 8 31
unfolding read_sheet_on sheet rules rule header fragments fragment ranges range field_at number several member insert
output-in-both = (refl, refl)

-- of the printed sheet, all of whose names are inputs: 0 again in P; the trigger above 63, and an output
pub input-again-in-p : Refuses (set printed_bytes 29 0) 8 8 29
unfolding read_sheet_on sheet rules rule header fragments fragment ranges range field_at number several member insert
input-again-in-p = (refl, refl)

pub trigger-above : Refuses (set printed_bytes 17 64) 6 6 17
unfolding read_sheet_on sheet rules rule header fragments fragment ranges range field_at number several member insert
trigger-above = (refl, refl)

pub trigger-output : Refuses (set printed_bytes 5 4) 9 9 17
unfolding read_sheet_on sheet rules rule header fragments fragment ranges range field_at number several member insert
trigger-output = (refl, refl)
