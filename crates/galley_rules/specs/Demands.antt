-- What is demanded of the galley as a whole: both states after each call, hysteresis, and the controller after a sample.
use Rattle.std.specs.Prelude.{ℕ, ◌-◌, ◌≤◌, ◌<◌, ◌≡◌, true, false, List, eqb, ℤ, pos, ◌+ℤ◌, take, drop, replicate}
use Rattle.rules.specs.Basics.{every}
use Rattle.rules.specs.Calls.{accepted}
use Rattle.rules.specs.Valid.{valid_of}
use Rattle.rules.specs.Make.{made_each, after_each, targets}
use Rattle.galley_rules.specs.Types.{State, Galley}
use Rattle.galley_rules.specs.Temperature.{row_of}
use Rattle.galley_rules.specs.Galley.{with_sample, valid_galley}
use Rattle.galley_rules.specs.Table.{row_duty}
use Rattle.galley_rules.specs.Sample.{row_after, sample_row, sample_duty, sample_calls, sample_of}
use Rattle.galley_rules.specs.Span.{span_refusal, span_rows}
use Rattle.galley_rules.specs.Degrees.{degrees_read}

-- ---- demand 1, over both states

-- a call that is handed a galley: a sample, with both tables; a span of rows, with both tables; the reading
pub data GalleyCall : Type 0 where
  sample : ℤ → List ℕ → List ℕ → GalleyCall
  span : ℕ → ℕ → List ℕ → List ℕ → GalleyCall
  reading : GalleyCall

-- what it leaves. Span and reading are not handed the controller
pub record Left : Type 0 where
  pub refusal : ℕ
  pub galley : Galley
  pub state : State

abbrev pub left : ℕ → Galley → State → Left
left refusal g s = record { refusal = refusal; galley = g; state = s }

unfoldable pub left_by : Galley → State → GalleyCall → Left
left_by g s (sample t normal quiet) = let a = sample_of g s t normal quiet in left a.refusal a.galley a.state
left_by g s (span first end normal quiet) = left (span_refusal g first end normal quiet) g s
left_by g s reading = let a = degrees_read g in left a.refusal a.galley s

-- "a refused call that was handed a state gives the same state back"; a sound state stays sound, whatever the other one is. What fresh
-- was given stays: only the row and the temperature change
pub record KeepsBoth (g : Galley) (s : State) (call : GalleyCall) : Type 0 where
  pub refused : ((left_by g s call).refusal ≡ accepted → ⊥) → ((left_by g s call).galley ≡ g) × ((left_by g s call).state ≡ s)
  pub galley-valid : valid_galley g ≡ true → valid_galley (left_by g s call).galley ≡ true
  pub state-valid : valid_of s ≡ true → valid_of (left_by g s call).state ≡ true
  pub given_stays : let next = (left_by g s call).galley in next ≡ with_sample g next.row next.temperature

-- ---- hysteresis

-- "After a sample T the row is the lesser of the present row and the row of T + h, but never below the row of T": it rises to the row of
-- T, falls to the row of T + h, and between them stays
pub record Hysteresis (row : ℕ) (t : ℤ) (h : ℕ) : Type 0 where
  pub rises : row < row_of t → row_after row t h ≡ row_of t
  pub falls : row_of (t +ℤ pos h) < row → row_after row t h ≡ row_of (t +ℤ pos h)
  pub stays : row_of t ≤ row → row ≤ row_of (t +ℤ pos h) → row_after row t h ≡ row

-- ---- the table in force

-- "the quiet one in force while its flag is set": the duty that a sample looks up, and the part that a span hands back
module _ (g : Galley) (s : State) (t : ℤ) (normal quiet : List ℕ) (first end : ℕ) where
  pub record InForce : Type 0 where
    pub quiet-duty : g.quiet ≡ true → sample_duty g s t normal quiet ≡ row_duty quiet (sample_row g s t normal quiet)
    pub normal-duty : g.quiet ≡ false → sample_duty g s t normal quiet ≡ row_duty normal (sample_row g s t normal quiet)
    pub quiet-rows : g.quiet ≡ true → span_refusal g first end normal quiet ≡ accepted → span_rows g first end normal quiet ≡ take (end - first) (drop first quiet)
    pub normal-rows : g.quiet ≡ false → span_refusal g first end normal quiet ≡ accepted → span_rows g first end normal quiet ≡ take (end - first) (drop first normal)

-- ---- the controller after an accepted sample

module _ (g : Galley) (s : State) (t : ℤ) (normal quiet : List ℕ) where
  pub record Driven : Type 0 where
    -- every target duty is the row's
    pub at-duty : targets (sample_of g s t normal quiet).state ≡ replicate 6 (sample_duty g s t normal quiet)
    -- the writes, made one by one as calls, leave just that state, and none of them is refused
    pub one_by_one : (sample_of g s t normal quiet).state ≡ after_each s (sample_calls g s t normal quiet)
    pub each-accepted : every (λ a. eqb a.refusal accepted) (made_each s (sample_calls g s t normal quiet)) ≡ true
    -- where no target differs the state is the very same, and so the watchdog is not fed
    pub not-fed : targets s ≡ replicate 6 (sample_duty g s t normal quiet) → (sample_of g s t normal quiet).state ≡ s
