-- The table's rows as the source holds them, and what a search gives.
use Rattle.std.specs.Prelude.{◌≤◌, ◌<◌, ◌≡◌, List, map, length, replicate, Option, Some, None}
use Rattle.console_table.specs.declared.Parameter.{Parameter}
use Rattle.console_table.specs.declared.Parameters.{Parameters}
use Rattle.console_table.specs.declared.Parameters.TheVariants.{Listed, StateNumbers, Any}
use Rattle.console_table.specs.declared.Command.{Command}
use Rattle.console_table.specs.declared.Found.{Found}
use Rattle.console_table.specs.Table.{Row, any, commands, name_of, state_numbers, Named}

-- a command's parameters as the source holds them
abbrev pub parameters_in : Parameters → List Parameter
parameters_in (Listed parameters) = parameters.now
parameters_in StateNumbers = state_numbers
parameters_in (Any count) = replicate count any

-- what a row of the source says
abbrev pub row_in : Command → Row
row_in command = record { usage = command.usage.now; asks = command.asks; parameters = parameters_in command.parameters }

-- the source's rows are the table's, and have their names
pub record Describe (source : List Command) (rows : List Row) : Type 0 where
  pub same : map row_in source ≡ rows
  pub names : map (λ (command : Command). command.name.now) source ≡ map name_of rows

-- a row of the source is one of the table, which has no more parameters than a state has numbers
pub record Is (command : Command) (row : Row) : Type 0 where
  pub same : row_in command ≡ row
  pub few : length row.parameters ≤ length state_numbers

-- what a search gives
abbrev pub FoundAs : Option Named → Option Found → Type 0
FoundAs None None = Unit {0}
FoundAs None (Some found) = ⊥
FoundAs (Some named) None = ⊥
FoundAs (Some named) (Some found) = (found.place ≡ named.place) × (named.place < length commands) × Is found.row.now named.row
