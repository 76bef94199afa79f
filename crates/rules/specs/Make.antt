-- A call as a value: one of those that are handed a state is made, or a list of them one after the other.
use Rattle.std.specs.Prelude.{ℕ, ◌≡◌, Bool, true, false, List, [], ◌∷◌, map, Option, None, Some, Result, Ok, Err}
use Rattle.rules.specs.Types.{State, Target, Answer, ReadAnswer, Refusal, Made, Call, Write, Read, Ticks, Tachometer, Pin, WriteWord, Pulse}
use Rattle.rules.specs.Valid.{valid_of, if_valid}
use Rattle.rules.specs.Words.{duty_word}
use Rattle.rules.specs.Map.{target_address}
use Rattle.rules.specs.Calls.{accepted, number_of, answer, read_answer}
use Rattle.rules.specs.Write.{write_of}
use Rattle.rules.specs.WriteWord.{write_word_of}
use Rattle.rules.specs.Read.{read_of}
use Rattle.rules.specs.Tick.{ticks_passed}
use Rattle.rules.specs.Tachometer.{result_of}
use Rattle.rules.specs.Pin.{pin_of}
use Rattle.rules.specs.Pulse.{pulse_of}

-- a call that reads nothing answers byte 0
abbrev pub without_byte : Answer → ReadAnswer
without_byte a = read_answer a.refusal 0 a.state

-- a call answers with a byte exactly when it is a read
abbrev pub is_read : Call → Bool
is_read (Write a b) = false
is_read (Read a) = true
is_read (Ticks n) = false
is_read (Tachometer n count) = false
is_read (Pin high) = false
is_read (WriteWord a word) = false
is_read (Pulse n) = false

-- what a call answers, by its result in the code
abbrev pub byte_or_0 : Option ℕ → ℕ
byte_or_0 None = 0
byte_or_0 (Some byte) = byte

abbrev pub made_by : State → Result Made Refusal → ReadAnswer
made_by s (Ok m) = read_answer accepted (byte_or_0 m.byte) m.state
made_by s (Err refusal) = read_answer (number_of refusal) 0 s

-- the refusal, the byte of a read, and the state that is given back
unfoldable pub made : State → Call → ReadAnswer
made s (Write a b) = without_byte (write_of s a b)
made s (Read a) = read_of s a
made s (Ticks n) = without_byte (ticks_passed s n)
made s (Tachometer n count) = without_byte (result_of s n count)
made s (Pin high) = without_byte (pin_of s high)
made s (WriteWord a word) = without_byte (write_word_of s a word)
made s (Pulse n) = without_byte (pulse_of s n)

-- a list of calls, "each given the state that the one before left": an answer each, and the state that the last one leaves. A
-- refused call changes nothing, and the list goes on
unfoldable pub made_each : State → List Call → List ReadAnswer
made_each s [] = []
made_each s (call ∷ calls) = made s call ∷ made_each (made s call).state calls

unfoldable pub after_each : State → List Call → State
after_each s [] = s
after_each s (call ∷ calls) = after_each (made s call).state calls

-- a quiet span: a list of calls that pass ticks, given by the ticks of each. What one call answers that makes them all: the state
-- that the last one leaves, and 1 where the first is refused
unfoldable pub each_passed : State → List ℕ → Answer
each_passed s elapsed = if_valid s (answer accepted (after_each s (map Ticks elapsed)))

-- the six target duties; and the call that writes a duty to the target of the channel with index i
abbrev pub targets : State → List ℕ
targets s = map (λ ch. ch.target) s.channels

unfoldable pub target_call : ℕ → ℕ → Call
target_call i duty = WriteWord (target_address Target i) (duty_word duty)

-- demand 1: "a refused call that was handed a state gives the same state back"; "All given-back states after sound ones are sound"
pub record Keeps (s : State) (call : Call) : Type 0 where
  pub refused : ((made s call).refusal ≡ accepted → ⊥) → (made s call).state ≡ s
  pub valid : valid_of s ≡ true → valid_of (made s call).state ≡ true
