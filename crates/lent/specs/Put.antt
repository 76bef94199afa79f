-- Bytes put into a buffer from an index on. Those for which it has no room are left out, and the index then lies past its end.
use Rattle.std.specs.Prelude.{ℕ, ◌+◌, min, max, ◌≡◌, List, length}
use Rattle.std.proofs.lemmas.List.Edits.{sets}
use Rattle.lent.specs.declared.Page.{Page}

-- the buffer after it, and the index that is given back
pub record Put (bytes : List ℕ) (at : ℕ) (before after : List ℕ) (next : ℕ) : Type 0 where
  pub stored : after ≡ sets before at bytes
  pub index : next ≡ max at (min (at + length bytes) (length before + 1))

-- the same of a page, which stays over the same buffer
pub record Puts (bytes : List ℕ) (before after : Page) : Type 0 where
  pub put : Put bytes before.at before.bytes.now after.bytes.now after.at
  pub same : after.bytes.ghost_name ≡ before.bytes.ghost_name
