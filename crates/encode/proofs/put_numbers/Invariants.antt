-- The numbers from the loop's index on are still to come.
use Rattle.std.proofs.Common.{drop}
use Rattle.lent.proofs.Stores.{Rests}
use Rattle.strings.specs.Encode.{numbers_bytes}
use Rattle.encode.proofs.put_numbers.Given as goal

abbrev pub invariant-loop-number : goal.invariant-loop-number
invariant-loop-number l = Rests (numbers_bytes (drop l.number-index l.numbers)) l.page (numbers_bytes l.numbers) l.fn.page
