use Rattle.std.proofs.Common.{◌≡◌, ◌++◌, drop}
use Rattle.ct_form.specs.Forms.{given_in}
use Rattle.ct_form.proofs.making.given_bounds.Given as goal

abbrev pub invariant-loop-j : goal.invariant-loop-j
invariant-loop-j l = l.found.items ++ given_in (drop l.j l.bounds) ≡ given_in l.bounds
