use Rattle.std.proofs.Common.{◌≡◌, ℕ, map, take, Contains, sym, subst, ap, ◌∙◌}
use Rattle.ct_vectors.specs.Vectors.{total}
use Rattle.ct_instance.specs.Instance.{Problem, column_count}
use Rattle.ct_instance.specs.TestSet.{Binomial, test_list}
use Rattle.ct_instance.proofs.Points.{right-total}
use Rattle.ct_best.specs.Best.{AreBest}
use Rattle.ct_best.specs.Search.{AreBestPoints}
use Rattle.ct_best.proofs.Cut.{best_from_points, best_of_none, version_has}
use Rattle.ct_best.proofs.best_list.best.Goals as goal

pub least_found-requires-clause-small : goal.least_found-requires-clause-small
least_found-requires-clause-small c =
    right-total c.args.version.now.instance c.moves-moves.ensures.version.instance c.args.b.now c.requires.right c.requires.limit

pub least_found-requires-clause-list : goal.least_found-requires-clause-list
least_found-requires-clause-list c =
    subst (λ (i : Problem). (m : Binomial) → Contains (test_list i (total c.args.b.now)) m → Contains c.moves-moves.result.now.moves m) (sym c.moves-moves.ensures.instance)
    (version_has c.args.version.now.instance c.moves-moves.ensures.version.instance c.args.version.now.number c.moves-moves.ensures.version.version (total c.args.b.now)
    c.in_ok-answer_into.ensures.covers c.moves-moves.result.now.moves c.moves-moves.ensures.list)

pub returns-in-Infeasible-clause-best : goal.returns-in-Infeasible-clause-best
returns-in-Infeasible-clause-best c =
    subst (AreBest c.args.version.now.instance c.args.count c.args.b.now) (sym c.new.ensures.items)
    (best_of_none c.args.version.now.instance c.moves-moves.ensures.version.instance c.args.b.now c.requires.right c.args.count c.in-Infeasible.short
    (sym c.in-Infeasible.is ∙ c.in_ok-answer_into.ensures.answer))

pub returns-in_ok-points-in-Optimum-clause-best : goal.returns-in_ok-points-in-Optimum-clause-best
returns-in_ok-points-in-Optimum-clause-best c =
    subst (AreBest i c.args.count c.args.b.now)
    (sym (c.cut.ensures ∙ ap (λ (n : ℕ). map (take n) c.in_ok-points-in-Optimum.points.items) columns))
    (best_from_points i c.args.b.now c.args.count c.in_ok-points-in-Optimum.points.items
    (subst (λ (j : Problem). AreBestPoints j c.args.b.now c.args.count c.in_ok-points-in-Optimum.points.items) c.moves-moves.ensures.instance c.in_ok-points-in-Optimum.ensures))
  where
    i : Problem
    i = c.args.version.now.instance

    columns : c.columns.result ≡ column_count i
    columns = c.columns.ensures.columns ∙ ap column_count (c.deref-in-Optimum.ensures ∙ c.instance-in-Optimum.ensures.instance ∙ c.moves-moves.ensures.instance)
