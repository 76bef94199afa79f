-- What has been read of a record: the stage, and of its number so many groups, and what they are worth.
use Rattle.std.specs.Prelude.{ℕ, ◌*◌, ◌^◌, ◌≤◌, ◌<◌}
use Rattle.strings.specs.declared.Stage.{Stage}

pub record Partial : Type 0 where
  pub stage : Stage
  pub groups : ℕ
  pub value : ℕ

abbrev pub partial : Stage → ℕ → ℕ → Partial
partial stage groups value = record { stage = stage; groups = groups; value = value }

-- part of a record holds at most four groups, worth no more than they can be
pub record HalfRead (p : Partial) : Type 0 where
  pub few : p.groups ≤ 4
  pub low : p.value < 2 ^ (7 * p.groups)
