-- What holds of the k least solutions. Each statement is the contract of a function in the module `laws`.
use Rattle.std.specs.Prelude.{ℕ, ◌≡◌, List}
use Rattle.ct_vectors.specs.Vectors.{total}
use Rattle.ct_instance.specs.Instance.{Problem, IsInstance, IsRight}
use Rattle.ct_instance.specs.Answer.{IsSolution}
use Rattle.ct_instance.specs.TestSet.{test_list}
use Rattle.ct_best.specs.Best.{IsSmaller, AreBest, IsStepBack}

-- a solution that isn't the least is one move of the test list of its sum, taken backwards, above a smaller one
abbrev pub SolutionsAreReached : Type 0
SolutionsAreReached =
    (i : Problem) → IsInstance i → (b : List ℕ) → IsRight i b → (x z : List ℕ) → IsSolution i b x → IsSolution i b z → IsSmaller i z x →
    IsStepBack i (test_list i (total b)) b x

-- for each k and b there is a list of the k least
abbrev pub BestListExists : Type 0
BestListExists = (i : Problem) → IsInstance i → (k : ℕ) (b : List ℕ) → IsRight i b → (xs : List (List ℕ)) × AreBest i k b xs

-- and only one
abbrev pub BestListIsOne : Type 0
BestListIsOne = (i : Problem) (k : ℕ) (b : List ℕ) (xs zs : List (List ℕ)) → AreBest i k b xs → AreBest i k b zs → xs ≡ zs
