-- The types of src/ and those of the rules that the galley speaks of, under short names; and what its calls give back by the paper: the
-- refusal number first.
use Rattle.std.specs.Prelude.{ℕ, Bool, Float}
pub use Rattle.rules.specs.declared.State.{State}
pub use Rattle.rules.specs.declared.Call.{Call}
pub use Rattle.galley_rules.specs.declared.Galley.{Galley}
pub use Rattle.galley_rules.specs.declared.Sample.{Sample}
pub use Rattle.galley_rules.specs.declared.refusal.GalleyRefusal.{GalleyRefusal}

-- a fresh galley
pub record GalleyAnswer : Type 0 where
  pub refusal : ℕ
  pub galley : Galley

-- a sample: whether ALERT and SHDN are asserted, and both states
pub record SampleAnswer : Type 0 where
  pub refusal : ℕ
  pub alert : Bool
  pub shutdown : Bool
  pub galley : Galley
  pub state : State

-- a reading of the temperature
pub record DegreesAnswer : Type 0 where
  pub refusal : ℕ
  pub degrees : Float
  pub galley : Galley
