-- The rows are the table's, by computation.
use Rattle.std.proofs.Common.{refl}
use Rattle.console_text.specs.Words.{run_of}
use Rattle.numbers.specs.Numbers.{channels_limits, limits}
use Rattle.console_table.specs.Table.{commands, state_numbers}
use Rattle.console_table.proofs.table.Goals as goal

pub returns : goal.returns
unfolding commands state_numbers limits channels_limits run_of
returns c = record { same = refl; names = refl }
