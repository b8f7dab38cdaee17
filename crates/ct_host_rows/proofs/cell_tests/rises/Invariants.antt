use Rattle.std.proofs.Common.{◌≡◌, None}
use Rattle.turn_cell.specs.Sight.{IsOfCell}
use Rattle.ct_host_rows.proofs.cell_tests.rises.Given as goal

abbrev pub invariant-loop-number : goal.invariant-loop-number
invariant-loop-number g l = IsOfCell l.cell l.pass × (l.pass.held ≡ None)
