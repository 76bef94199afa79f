-- What the lines of the controller make of what is in hand, and what they print: the table of the console's lines.
use Rattle.std.specs.Prelude.{ℕ, Bool, true, false, List, [], ◌∷◌}
use Rattle.rules.specs.Types.{Answer}
use Rattle.rules.specs.Types.{ReadAnswer}
use Rattle.rules.specs.declared.Call.{Call}
use Rattle.rules.specs.Basics.{flag}
use Rattle.rules.specs.Start.{start_of}
use Rattle.rules.specs.Make.{made}
use Rattle.rules.specs.FanFail.{fan_fail_of}
use Rattle.lent.specs.Values.{number, byte_of}
use Rattle.numbers.specs.Numbers.{state_numbers, state_from}
use Rattle.console_outcome.specs.declared.hand.Hand.{Hand}
use Rattle.console_outcome.specs.Outcome.{with_state, Told, tells}

-- "refusal"; of a read "refusal, byte"
abbrev pub call_numbers : Bool → ReadAnswer → List ℕ
call_numbers true a = a.refusal ∷ a.byte ∷ []
call_numbers false a = a.refusal ∷ []

-- a call on the state in hand
abbrev pub call_told : Hand → Call → Bool → Told
call_told hand call reads = let a = made hand.state call in tells (with_state hand a.state) (call_numbers reads a)

-- "`start WATCHDOG SPINUP TARGET FREQUENCY MODIFICATION`": "refusal; the state in hand is the one given back"
abbrev pub start_by : List ℕ → Answer
start_by v = start_of (number v 0) (number v 1) (number v 2) (byte_of (number v 3)) (number v 4)

abbrev pub start_told : Hand → List ℕ → Told
start_told hand v = let a = start_by v in tells (with_state hand a.state) (a.refusal ∷ [])

-- "refusal, asserted (0 or 1), how many, lowest channel"
abbrev pub fan_fail_told : Hand → Told
fan_fail_told hand =
    let a = fan_fail_of hand.state in
    tells (with_state hand a.state) (a.refusal ∷ flag a.asserted ∷ a.failed ∷ a.lowest ∷ [])

-- "the state's numbers"; "`ok`; the state in hand is made of these numbers"
abbrev pub dump_told : Hand → Told
dump_told hand = tells hand (state_numbers hand.state)

abbrev pub load_told : Hand → List ℕ → Told
load_told hand v = tells (with_state hand (state_from v)) []
