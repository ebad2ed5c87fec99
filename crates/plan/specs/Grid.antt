-- A grid floor: rows and columns, and passages that follow from them.
use Rattle.std.specs.Prelude.{ℕ, ◌+◌, ◌-◌, ◌*◌, ◌/◌, ◌%◌, cond, ◌||◌, None, Option, ◌==◌, nat_lt}
use Rattle.fault.specs.declared.PlanFault.{PlanFault}
use Rattle.fault.specs.declared.PlanFault.TheVariants.{Cells}
use Rattle.model.specs.Plans.{Passage}
use Rattle.plan.specs.First.{when}

abbrev pub grid_fault : ℕ → ℕ → Option PlanFault
grid_fault rows columns = when (rows * columns == 0 || nat_lt 64 (rows * columns)) (Cells 0)

abbrev pub to : ℕ → ℕ → ℕ → Passage
to zone next kind = record { origin = zone; destination = next; kind = kind }

-- from the cell (row, column), which is the zone: 0 east, 1 south, 2 west and 3 north, where that neighbour exists
abbrev pub side_passage : ℕ → ℕ → ℕ → ℕ → ℕ → ℕ → Option Passage
side_passage rows columns row column zone side =
    cond (side == 0) (when (nat_lt (column + 1) columns) (to zone (zone + 1) 0))
    (cond (side == 1) (when (nat_lt (row + 1) rows) (to zone (zone + columns) 1))
    (cond (side == 2) (when (nat_lt 0 column) (to zone (zone - 1) 0))
    (when (nat_lt 0 row) (to zone (zone - columns) 1))))

abbrev pub grid_passage : ℕ → ℕ → ℕ → Option Passage
grid_passage rows columns n = cond (nat_lt (n / 4) (rows * columns)) (side_passage rows columns ((n / 4) / columns) ((n / 4) % columns) (n / 4) (n % 4)) None
