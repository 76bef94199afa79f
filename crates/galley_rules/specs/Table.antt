-- The two tables, and the duty of a row.
use Rattle.std.specs.Prelude.{ℕ, ◌*◌, Bool, ◌&&◌, List, eqb, length, get_or, if◌then◌else◌}

-- "20 either table not 48 bytes"
abbrev pub no_table : ℕ
no_table = 20

unfoldable pub are_tables : List ℕ → List ℕ → Bool
are_tables normal quiet = eqb (length normal) 48 && eqb (length quiet) 48

-- "The galley holds a normal and a quiet table, the quiet one in force while its flag is set"
abbrev pub in_force : Bool → List ℕ → List ℕ → List ℕ
in_force flag normal quiet = if flag then quiet else normal

-- "duty in 256ths with FFh forced to full", "table byte v as 2v, FFh as 511"
abbrev pub duty_of : ℕ → ℕ
duty_of v = if eqb v 0xFF then 511 else 2 * v

unfoldable pub row_duty : List ℕ → ℕ → ℕ
row_duty table row = duty_of (get_or table row 0)
