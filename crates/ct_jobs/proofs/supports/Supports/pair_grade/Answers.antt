use Rattle.std.proofs.Common.{ℕ, length, refl, ap, ◌∙◌, arith}
use Rattle.ct_instance.specs.Jobs.{the_move}
use Rattle.ct_jobs.proofs.GradesBySupport.{found_makes_grade, length-supports}
use Rattle.ct_jobs.proofs.supports.Supports.pair_grade.Goals as goal

pub get-later-requires : goal.get-later-requires
get-later-requires c =
    let n : ℕ = length c.args.moves.now.moves in
    omega (arith, ap length c.requires.supports, length-supports c.args.moves.now.instance c.args.moves.now.moves c.args.known n)

pub grade_with-requires : goal.grade_with-requires
grade_with-requires c =
    let l = c.args.moves.now in
    let made = found_makes_grade l c.instance-instance.ensures.checked l.instance refl c.args.known c.args.i c.args.before c.requires.some c.requires.earlier c.requires.new c.requires.in_list
    c.args.own c.as_slice.result.now (the_move l.moves c.args.i).head (c.as_slice.ensures.coordinates ∙ c.head.ensures ∙ ap (λ m. m.head) c.get.ensures.at) refl c.requires.own
    c.args.self.now c.requires.supports c.get-later.result.now c.get-later.ensures in
    record { places = made.places; fits = omega (arith, made.sum, made.limit) }

pub returns : goal.returns
returns c =
    let l = c.args.moves.now in
    let made = found_makes_grade l c.instance-instance.ensures.checked l.instance refl c.args.known c.args.i c.args.before c.requires.some c.requires.earlier c.requires.new c.requires.in_list
    c.args.own c.as_slice.result.now (the_move l.moves c.args.i).head (c.as_slice.ensures.coordinates ∙ c.head.ensures ∙ ap (λ m. m.head) c.get.ensures.at) refl c.requires.own
    c.args.self.now c.requires.supports c.get-later.result.now c.get-later.ensures in
    c.grade_with.ensures ∙ made.sum
