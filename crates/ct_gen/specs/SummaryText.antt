-- The text of a summary.
use Rattle.std.specs.Prelude.{ℕ, List, [], ◌∷◌, ◌++◌, codes, decimal}
use Rattle.std.specs.Fmt.{signed_decimal}
use Rattle.ct_version.specs.declared.finished.Finished.{Finished}
use Rattle.ct_version.specs.declared.finished.Finished.TheVariants.{Upto, All}
use Rattle.ct_gen.specs.declared.summary.Summary.{Summary}

-- a word and its value, with a space between them and LF behind
abbrev pub entry : List ℕ → List ℕ → List ℕ
entry word text = word ++ codes " " ++ text ++ 10 ∷ []

abbrev pub level_text : Finished → List ℕ
level_text (Upto level) = decimal level
level_text All = codes "all"

abbrev pub summary_text : Summary → List ℕ
summary_text s =
    entry (codes "made") (decimal s.number) ++
    entry (codes "columns") (codes "6") ++
    entry (codes "requests") (decimal s.requests) ++
    entry (codes "optimum") (decimal s.optimum) ++
    entry (codes "infeasible") (decimal s.infeasible) ++
    entry (codes "full") (decimal s.full) ++
    entry (codes "cost") (signed_decimal s.cost) ++
    entry (codes "moves") (decimal s.moves) ++
    entry (codes "level") (level_text s.level) ++
    codes "end" ++ 10 ∷ []
