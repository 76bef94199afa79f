-- "for a span of rows it hands back that part of the table in force, not a copy".
use Rattle.std.specs.Prelude.{ℕ, ◌-◌, not, List, [], eqb, ltb, take, drop, if◌then◌else◌}
use Rattle.rules.specs.Calls.{accepted, state_not_valid}
use Rattle.galley_rules.specs.Types.{Galley}
use Rattle.galley_rules.specs.Galley.{valid_galley}
use Rattle.galley_rules.specs.Table.{no_table, are_tables, in_force}

-- "21 span of rows outside it"
abbrev pub rows_outside : ℕ
rows_outside = 21

module _ (g : Galley) (first end : ℕ) (normal quiet : List ℕ) where
  -- "with a at most b and b at most 48"
  unfoldable pub span_refusal : ℕ
  span_refusal =
      if not (valid_galley g) then state_not_valid
      else if not (are_tables normal quiet) then no_table
      else if ltb end first then rows_outside
      else if ltb 48 end then rows_outside
      else accepted

  -- "A span a to b leaves out row b"; refused, "an empty part"
  unfoldable pub span_rows : List ℕ
  span_rows = if eqb span_refusal accepted then take (end - first) (drop first (in_force g.quiet normal quiet)) else []
