-- The refusals of a sheet by the numbers that document 01 gives them.
-- Assumes nothing.
use Rattle.std.specs.Prelude.{ℕ, Option, Some, None}
use Rattle.fields.specs.declared.Fault.{Fault}
use Rattle.fields.specs.declared.Fault.TheVariants.{DoesNotFit, NoMark, UnknownVersion, OutsideItsValues, NotZero, NoName, BoundTooLow, AlreadyInRule, WrongDirection, BytesLeftOver}

abbrev pub number_of : Fault → ℕ
number_of DoesNotFit = 1
number_of NoMark = 2
number_of UnknownVersion = 3
number_of OutsideItsValues = 4
number_of NotZero = 5
number_of NoName = 6
number_of BoundTooLow = 7
number_of AlreadyInRule = 8
number_of WrongDirection = 9
number_of BytesLeftOver = 10

-- the number of the fault that a value has, or 0
abbrev pub number_or_0 : Option Fault → ℕ
number_or_0 None = 0
number_or_0 (Some fault) = number_of fault
