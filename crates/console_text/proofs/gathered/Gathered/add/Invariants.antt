-- No more bytes are kept than the line has room for.
use Rattle.std.proofs.Common.{◌≤◌, max, length}
use Rattle.console_text.proofs.gathered.Gathered.add.Given as goal

abbrev pub invariant-loop-byte : goal.invariant-loop-byte
invariant-loop-byte l = l.self.kept ≤ max l.fn.self.kept (length l.line)
