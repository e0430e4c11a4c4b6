-- The numbers and words of the causes, and the numbers of a fault.
use Rattle.std.specs.Prelude.{ℕ, List, codes, ◌+◌, ◌-◌, ◌^◌, min}
use Rattle.pbm.specs.declared.faults.Cause.{Cause}
use Rattle.pbm.specs.declared.faults.Cause.TheVariants.{Magic, Number, Short, OtherSize, TooLarge}
use Rattle.pbm.specs.declared.faults.StackFault.{StackFault}

abbrev pub cause_number : Cause → ℕ
cause_number Magic = 20
cause_number Number = 21
cause_number Short = 22
cause_number OtherSize = 23
cause_number TooLarge = 24

-- what is wrong, in words
abbrev pub cause_words : Cause → List ℕ
cause_words Magic = codes "an image does not start with P4 and a line feed"
cause_words Number = codes "a width or height is not a plain number from 1 to 1023"
cause_words Short = codes "the input ends before the last row of an image"
cause_words OtherSize = codes "an image has another size than the first"
cause_words TooLarge = codes "there are more than 1023 images or 16777216 cells"

-- a fault with this cause, image and byte
abbrev pub fault_in : Cause → ℕ → ℕ → StackFault
fault_in cause image byte = record { cause = cause; image = image; byte = byte }

abbrev pub fault_numbers : StackFault → ℕ × ℕ × ℕ
fault_numbers f = (cause_number f.cause, f.image, f.byte)

-- the same fault, its byte counted from a place that stands so many bytes before the stack, as far as a number of 64 bits goes
abbrev pub counted_from : ℕ → StackFault → StackFault
counted_from start f = record { cause = f.cause; image = f.image; byte = min (f.byte + start) (2 ^ 64 - 1) }
