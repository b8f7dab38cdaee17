use Rattle.std.specs.Arc.{arc_value}
use Rattle.ct_version.specs.declared.finished.Finished.TheVariants.{Upto}
use Rattle.ct_handing.proofs.LevelsSoFar.{rising, first_level}
use Rattle.ct_handing.proofs.handing.helped.Goals as goal

pub first_covering-first-requires : goal.first_covering-first-requires
first_covering-first-requires c =
    rising (arc_value c.args.version.now).instance (arc_value c.args.version.now).number c.args.levels.now c.requires.levels c.args.g c.requires.covers

pub returns-clause-level : goal.returns-clause-level
returns-clause-level c =
    first_level (arc_value c.args.version.now).instance (arc_value c.args.version.now).number c.args.levels.now c.requires.levels c.args.g
    c.first_covering-first.result (Upto 0) c.first_covering-first.ensures
