-- Up to the loop's index, the bytes are those of part of a record.
use Rattle.records.proofs.Index.{ReadTo}
use Rattle.records.proofs.record.record_at.Given as goal

abbrev pub invariant-loop-i : goal.invariant-loop-i
invariant-loop-i l = ReadTo l.string l.at l.partial l.i
