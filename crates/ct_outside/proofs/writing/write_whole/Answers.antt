use Rattle.std.proofs.Common.{ℕ, arith, length-drop, length-take}
use Rattle.std.proofs.lemmas.List.{take_rest}
use Rattle.ct_outside.proofs.Appended.{appends_more}
use Rattle.ct_outside.proofs.writing.write_whole.Goals as goal

pub loop-done-preserved : goal.loop-done-preserved
loop-done-preserved g c = record {
  within = omega (arith, c.in_ok-done.ensures.at_most, length-drop {A = ℕ}, length-take {A = ℕ});
  appended = appends_more _ _ _ _ _ _ c.loop-done.invariant.appended (rw take_rest at c.in_ok-done.ensures.appends);
  later = omega arith;
}
