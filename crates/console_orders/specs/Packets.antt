-- What `run` and `encode` make of what is in hand, and what they print.
use Rattle.std.specs.Prelude.{ℕ, List, [], ◌∷◌, take}
use Rattle.strings.specs.declared.order.Order.{Order}
use Rattle.strings.specs.Encode.{encoded}
use Rattle.strings.specs.Run.{Given, run_of}
use Rattle.lent.specs.Values.{number}
use Rattle.console_outcome.specs.declared.hand.Hand.{Hand}
use Rattle.console_outcome.specs.Outcome.{with_state, Told, tells_bytes}

-- "refusal, records taken, answer bytes written, the answer buffer as bytes"
abbrev pub ran_told : Hand → Given → Told
ran_told hand g =
    let a = g.answer in
    tells_bytes (with_state hand a.state) (a.refusal ∷ a.taken ∷ a.answered ∷ []) g.buffer

-- "`run STRING ALLOWANCE ROOM`", by the values of a line: how many of its bytes are the string, the allowance, and how much of the buffer
-- that is lent is the room: it "is printed whole"
abbrev pub run_told : Hand → List ℕ → List ℕ → List ℕ → Told
run_told hand v bytes buffer = ran_told hand (run_of hand.state (take (number v 0) bytes) (number v 1) (take (number v 2) buffer))

-- "the call's record as bytes"
abbrev pub encode_told : Hand → Order → Told
encode_told hand order = tells_bytes hand [] (encoded order)
