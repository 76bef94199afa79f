-- What a command makes of what is in hand: what is in hand then, and what is printed, and how.
use Rattle.std.specs.Prelude.{ℕ, ◌+◌, ◌*◌, ◌≡◌, Bool, true, false, List, [], ◌∷◌, ◌++◌, take, replicate, Option, None, Some}
use Rattle.std.specs.Borrow.{Bor}
use Rattle.rules.specs.declared.State.{State}
use Rattle.galley_rules.specs.declared.Galley.{Galley}
use Rattle.numbers.specs.Numbers.{number_count}
use Rattle.console_text.specs.Ascii.{ascii}
use Rattle.console_text.specs.Decimal.{decimal_of}
use Rattle.console_text.specs.Signed.{integer_of, signed_decimal}
use Rattle.console_hex.specs.Bytes.{hex_of}
use Rattle.console_outcome.specs.declared.hand.Hand.{Hand}
use Rattle.console_outcome.specs.declared.outcome.Outcome.{Outcome}

-- what is in hand, with another state, or with another galley
abbrev pub with_state : Hand → State → Hand
with_state hand s = record { state = s; galley = hand.galley }

abbrev pub with_galley : Hand → Galley → Hand
with_galley hand g = record { state = hand.state; galley = g }

-- what is in hand after a command, and what it prints: numbers, all of them as their 32 bits where they are signed, and bytes, where the
-- answer has any
pub record Told : Type 0 where
  pub hand : Hand
  pub signed : Bool
  pub numbers : List ℕ
  pub bytes : Option (List ℕ)

abbrev pub told : Hand → Bool → List ℕ → Option (List ℕ) → Told
told hand signed numbers bytes = record { hand = hand; signed = signed; numbers = numbers; bytes = bytes }

-- numbers alone; signed ones; numbers and bytes
abbrev pub tells : Hand → List ℕ → Told
tells hand numbers = told hand false numbers None

abbrev pub tells_signed : Hand → List ℕ → Told
tells_signed hand numbers = told hand true numbers None

abbrev pub tells_bytes : Hand → List ℕ → List ℕ → Told
tells_bytes hand numbers bytes = told hand false numbers (Some bytes)

-- "The buffer has ROOM bytes (0 to 2,048), every one A5h before the call": a command is lent as many as any line asks for
abbrev pub buffer_bytes : ℕ
buffer_bytes = 2_048

abbrev pub fresh : List ℕ
fresh = replicate buffer_bytes 0xA5

-- what an outcome of the source says, with the buffer that holds its bytes: so many from its front
abbrev pub part_of : Option ℕ → List ℕ → Option (List ℕ)
part_of None buffer = None
part_of (Some count) buffer = Some (take count buffer)

abbrev pub told_of : Outcome → List ℕ → Told
told_of outcome buffer = told outcome.hand outcome.signed (take outcome.numbers.count outcome.numbers.list) (part_of outcome.bytes buffer)

-- bytes that are lent
abbrev pub lent_bytes : Option (Bor (List ℕ)) → Option (List ℕ)
lent_bytes None = None
lent_bytes (Some bytes) = Some bytes.now

-- an outcome that has no bytes says the same with every buffer
abbrev pub Tells : Outcome → Told → Type 0
Tells outcome says = (buffer : List ℕ) → told_of outcome buffer ≡ says

-- ---- how it is printed: "Answers are decimal numbers separated by single spaces." Bytes come last

-- a space, where something stands before
abbrev pub space_after : Bool → List ℕ
space_after true = 32 ∷ []
space_after false = []

-- a number, or the signed one that its 32 bits are
abbrev pub number_text : Bool → ℕ → List ℕ
number_text true n = signed_decimal (integer_of n)
number_text false n = decimal_of n

unfoldable pub numbers_text : Bool → Bool → List ℕ → List ℕ
numbers_text signed begun [] = []
numbers_text signed begun (n ∷ numbers) = space_after begun ++ (number_text signed n ++ numbers_text signed true numbers)

-- whether there are some
abbrev pub begun : List ℕ → Bool
begun [] = false
begun (n ∷ numbers) = true

-- what comes after the numbers; "`ok`", where there is nothing to print
abbrev pub end_by : Bool → Option (List ℕ) → List ℕ
end_by true None = 10 ∷ []
end_by false None = ascii "ok\n"
end_by some (Some bytes) = space_after some ++ (hex_of bytes ++ (10 ∷ []))

-- a line of numbers and bytes; that of an outcome
unfoldable pub line_by : Bool → List ℕ → Option (List ℕ) → List ℕ
line_by signed numbers bytes = numbers_text signed false numbers ++ end_by (begun numbers) bytes

abbrev pub line_of : Told → List ℕ
line_of t = line_by t.signed t.numbers t.bytes

-- no line is longer: eleven bytes a number and a space, two digits a byte of the buffer or `-`, a space and a line feed
abbrev pub line_most : ℕ → ℕ
line_most buffer = 12 * number_count + 2 * buffer + 3
