use Rattle.std.proofs.Common.{rules, ◌≡◌, ◌≤◌, ℕ, Result, Err, IfErr, sym, subst, arith}
use Rattle.std.specs.Arc.{arc_value}
use Rattle.ct_vectors.specs.declared.limits.TheConstants.{GRADE_LIMIT}
use Rattle.ct_vectors.specs.Vectors.{total}
use Rattle.ct_version.specs.Editions.{IsEdition}
use Rattle.ct_version.specs.declared.answers.Answered.{Answered}
use Rattle.ct_session.specs.declared.stops.SolveStop.{SolveStop}
use Rattle.ct_session.specs.declared.stops.SolveStop.TheVariants.{Full}
use Rattle.ct_session.specs.Sessions.{IsFullAt}
use Rattle.ct_session.proofs.Reached.{sum_limit}
use Rattle.ct_session.proofs.sessions.Session.solve.Goals as goal

pub sum-requires : goal.sum-requires
sum-requires g c =
    let edition : IsEdition (arc_value c.self.inside.version) = search rules in
    let same : (arc_value c.self.inside.version).instance ≡ (g.D.Desk.place c.args.self.now.desk).instance = search rules in
    let most : total c.args.b.now ≤ GRADE_LIMIT =
    sum_limit (g.D.Desk.place c.args.self.now.desk).instance (arc_value c.self.inside.version) c.args.b.now edition same c.requires.right c.requires.limit in
    omega arith

pub reach-requires : goal.reach-requires
reach-requires g c =
    let edition : IsEdition (arc_value c.self.inside.version) = search rules in
    let same : (arc_value c.self.inside.version).instance ≡ (g.D.Desk.place c.args.self.now.desk).instance = search rules in
    let most : total c.args.b.now ≤ GRADE_LIMIT =
    sum_limit (g.D.Desk.place c.args.self.now.desk).instance (arc_value c.self.inside.version) c.args.b.now edition same c.requires.right c.requires.limit in
    subst (λ (n : ℕ). n ≤ GRADE_LIMIT) (sym c.sum.ensures) most

pub returns-in_err-reach-clause-full : goal.returns-in_err-reach-clause-full
returns-in_err-reach-clause-full g c =
    let same : c.from_residual.result ≡ Err c.in_err-reach.field-0.0 = search rules in
    subst
    (λ (r : Result Answered SolveStop). IfErr r (λ e. (f : ℕ) → e ≡ Full f → IsFullAt (g.D.Desk.place c.args.self.now.desk) (total c.args.b.now) c.reach.new.self.pinned.number f))
    (sym same)
    (λ f e. subst (λ (n : ℕ). IsFullAt (g.D.Desk.place c.args.self.now.desk) n c.reach.new.self.pinned.number f) c.sum.ensures (c.in_err-reach.ensures.full f e))
