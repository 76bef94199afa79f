-- A text for a person, put on a page: what it touches, and how long it is at most.
use Rattle.std.specs.Prelude.{ℕ, ◌+◌, ◌≤◌, ◌≡◌, length, take}
use Rattle.lent.specs.declared.Page.{Page}

-- at most so many bytes are put: what stands on the page stays, and its index only grows. Where the buffer has room for them, the
-- index lies within it afterwards, and nothing was left out
pub record Frame (most : ℕ) (before after : Page) : Type 0 where
  pub kept : take before.at after.bytes.now ≡ take before.at before.bytes.now
  pub long : length after.bytes.now ≡ length before.bytes.now
  pub grows : before.at ≤ after.at
  pub within : after.at ≤ before.at + most
  pub same : after.bytes.ghost_name ≡ before.bytes.ghost_name
