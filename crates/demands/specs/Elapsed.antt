-- Demand 3, and "Quiet spans": what passes in a list of calls, each given the state that the one before left, with nothing between. A
-- list gives the ticks of each call; the paper calls a call a jump, and the list a quiet span. K7: "A pulse breaks a quiet span", as any call but a jump does.
use Rattle.std.specs.Prelude.{ℕ, ◌+◌, ◌-◌, ◌*◌, ◌/◌, ◌^◌, ◌<◌, ◌≡◌, true, false, List, [], ◌∷◌, map, ltb, if◌then◌else◌}
use Rattle.demands.specs.Types.{Channel, State, ReadAnswer, Ticks}
use Rattle.rules.specs.State.{channel}
use Rattle.rules.specs.Registers.{rate_code, watchdog_code, delay_code}
use Rattle.rules.specs.Duty.{conditions_of, output_duty}
use Rattle.rules.specs.Valid.{valid_of}
use Rattle.rules.specs.Calls.{accepted, state_not_valid, read_answer}
use Rattle.rules.specs.Tick.{wanted, period_of, spin_up_due, overridden, idle_limit, tick, iterate, ticks_passed}
use Rattle.rules.specs.Make.{made_each, after_each}

-- the answers of the calls, and the state that the last one leaves
abbrev pub answers : State → List ℕ → List ReadAnswer
answers s elapsed = made_each s (map Ticks elapsed)

abbrev pub end_of : State → List ℕ → State
end_of s elapsed = after_each s (map Ticks elapsed)

-- the ticks of a list, and the ticks so far after each call, from t on
unfoldable pub total : List ℕ → ℕ
total [] = 0
total (n ∷ elapsed) = n + total elapsed

unfoldable pub totals : ℕ → List ℕ → List ℕ
totals t [] = []
totals t (n ∷ elapsed) = (t + n) ∷ totals (t + n) elapsed

-- "distance d of at least 1 between ramp value and target"
abbrev pub distance : Channel → ℕ
distance ch = if ltb ch.ramp (wanted ch) then wanted ch - ch.ramp else ch.ramp - wanted ch

-- "(floor(t / p) + d) × p − t ticks"
abbrev pub settling_ticks : ℕ → Channel → ℕ
settling_ticks t ch = (t / period_of ch + distance ch) * period_of ch - t

-- the output duty of channel i
abbrev pub duty_at : State → ℕ → ℕ
duty_at s i = output_duty (conditions_of s) (channel s i)

-- "if in a sound state a duty is not at its target, with a rate code other than 0, no spin-up running or due, and no override in
-- force or coming within the tick count that the paper's settling formula gives". "An override .. comes within n ticks of a quiet
-- span exactly when the watchdog is on and not expired and its idle count plus n is at least its limit". K8: the "settling sentence
-- needs a ramp value above 0, or wait and delay code both 0"
pub record Settles (s : State) (i : ℕ) : Type 0 where
  pub is-valid : valid_of s ≡ true
  pub off-target : duty_at s i ≡ wanted (channel s i) → ⊥
  pub has-rate : rate_code (channel s i).dynamics ≡ 0 → ⊥
  pub not-running : (channel s i).spin ≡ 0
  pub not-due : spin_up_due (channel s i) ≡ false
  pub not-overridden : overridden (conditions_of s) (channel s i) ≡ false
  pub none-coming : (watchdog_code s.registers.control ≡ 0 → ⊥) → s.timer.expired ≡ false →
      s.timer.idle + settling_ticks s.timer.clock (channel s i) < idle_limit s
  pub no-wait : (channel s i).ramp ≡ 0 → (s.timer.wait ≡ 0) × (delay_code s.registers.options ≡ 0)

-- demand 3, sentence by sentence. K8: it "reads over the new rule"
pub record AsCounted : Type 0 where
  -- "After each jump of it, every field of the state equals what the one-tick rule leaves when applied to the span's first state as
  -- many times as the ticks so far add up to", "from any sound state"
  pub counted : (s : State) (elapsed : List ℕ) → valid_of s ≡ true →
      answers s elapsed ≡ map (λ t. read_answer accepted 0 (iterate t tick s)) (totals 0 elapsed)
  -- "from any other, each is refused with 1 and the state stays"
  pub refused : (s : State) (elapsed : List ℕ) → valid_of s ≡ false →
      answers s elapsed ≡ map (λ n. read_answer state_not_valid 0 s) elapsed
  -- "quiet spans from one state with the same total end in the same state"
  pub same_total : (s : State) (one other : List ℕ) → total one ≡ total other → end_of s one ≡ end_of s other
  -- "a jump of a and then of b equals one of a + b, if the sum is within that limit"
  pub joined : (s : State) (a b : ℕ) → a + b < 2 ^ 32 →
      ticks_passed (ticks_passed s a).state b ≡ ticks_passed s (a + b)
  -- "then every quiet span of exactly that count from that state leaves it at its target"
  pub settles : (s : State) (i : ℕ) (elapsed : List ℕ) → Settles s i →
      total elapsed ≡ settling_ticks s.timer.clock (channel s i) → duty_at (end_of s elapsed) i ≡ wanted (channel s i)
  -- "and every one of fewer ticks leaves it off its target"
  pub not-sooner : (s : State) (i : ℕ) (elapsed : List ℕ) → Settles s i →
      total elapsed < settling_ticks s.timer.clock (channel s i) → duty_at (end_of s elapsed) i ≡ wanted (channel s i) → ⊥
