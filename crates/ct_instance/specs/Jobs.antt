-- The jobs of a list of moves: a generator for each column, and a critical pair for each two moves.
use Rattle.std.specs.Prelude.{ℕ, ◌+◌, ◌-◌, ◌≤◌, ◌<◌, ◌≡◌, ◌⊎◌, Bool, false, ◌&&◌, nat_eq, List, [], ◌++◌, filter, map, length, unwrap_or, slice_get, zero, suc}
use Rattle.std.specs.List.{flat_map}
use Rattle.ct_vectors.specs.Vectors.{add, subtract, lcm, total, Disjoint, up_to}
use Rattle.ct_instance.specs.declared.jobs.Job.{Job}
use Rattle.ct_instance.specs.declared.jobs.Job.TheVariants.{Generator, Pair}
use Rattle.ct_instance.specs.Instance.{Problem, column_count, degree_of, start_of, unit_of}
use Rattle.ct_instance.specs.Made.{indices}
use Rattle.ct_instance.specs.TestSet.{Binomial}
use Rattle.ct_instance.specs.Walk.{move_at}

-- the move with this number, and an empty one where there is none
abbrev pub the_move : List Binomial → ℕ → Binomial
the_move ms k = unwrap_or (move_at ms k) (record { head = []; tail = [] })

-- the column with this number, from 1, and an empty one where there is none
abbrev pub the_column : Problem → ℕ → List ℕ
the_column i zero = []
the_column i (suc j) = unwrap_or (slice_get i.columns j) []

-- the job is one of the list's
abbrev pub IsJob : Problem → List Binomial → Job → Type 0
IsJob i ms (Generator j) = (1 ≤ j) × (j ≤ column_count i)
IsJob i ms (Pair a b) = (1 ≤ a) × (a < b) × (b ≤ length ms)

-- job order, in which the jobs of one grade are taken: generators before pairs, generators by column, pairs by the
-- smaller number and then by the greater
abbrev pub JobComesBefore : Job → Job → Type 0
JobComesBefore (Generator j) (Generator k) = j < k
JobComesBefore (Generator j) (Pair a b) = Unit {0}
JobComesBefore (Pair a b) (Generator k) = ⊥
JobComesBefore (Pair a b) (Pair c d) = (a < c) ⊎ ((a ≡ c) × (b < d))

-- whether two jobs are one, as a test
abbrev pub is_same_job : Job → Job → Bool
is_same_job (Generator j) (Generator k) = nat_eq j k
is_same_job (Generator j) (Pair a b) = false
is_same_job (Pair a b) (Generator k) = false
is_same_job (Pair a b) (Pair c d) = nat_eq a c && nat_eq b d

-- the degree of both its ends
abbrev pub job_degree_of : Problem → List Binomial → Job → List ℕ
job_degree_of i ms (Generator j) = the_column i j
job_degree_of i ms (Pair a b) = degree_of i.columns (lcm (the_move ms a).head (the_move ms b).head)

abbrev pub job_grade_of : Problem → List Binomial → Job → ℕ
job_grade_of i ms j = total (job_degree_of i ms j)

-- the ends: for a generator x_j and its column in artificials; for a pair what each move leaves of the least common multiple
abbrev pub first_end_of : Problem → List Binomial → Job → List ℕ
first_end_of i ms (Generator j) = unit_of i (j - 1)
first_end_of i ms (Pair a b) = let h = lcm (the_move ms a).head (the_move ms b).head in add (subtract h (the_move ms a).head) (the_move ms a).tail

abbrev pub second_end_of : Problem → List Binomial → Job → List ℕ
second_end_of i ms (Generator j) = start_of i (the_column i j)
second_end_of i ms (Pair a b) = let h = lcm (the_move ms a).head (the_move ms b).head in add (subtract h (the_move ms b).head) (the_move ms b).tail

-- a pair whose heads share no variable
abbrev pub IsCoprime : List Binomial → Job → Type 0
IsCoprime ms (Generator j) = ⊥
IsCoprime ms (Pair a b) = Disjoint (the_move ms a).head (the_move ms b).head

-- the numbers from a + 1 to b
abbrev pub numbers_after : ℕ → ℕ → List ℕ
numbers_after a b = map (λ k. a + suc k) (indices (b - a))

-- all jobs, whatever their grade, in the order of one grade
unfoldable pub all_jobs : Problem → List Binomial → List Job
all_jobs i ms =
    map Generator (numbers_after 0 (column_count i)) ++ flat_map (λ a. map (Pair a) (numbers_after a (length ms))) (numbers_after 0 (length ms))

-- the jobs of one grade, in job order
unfoldable pub jobs_at : Problem → List Binomial → ℕ → List Job
jobs_at i ms g = filter (λ j. nat_eq (job_grade_of i ms j) g) (all_jobs i ms)

-- over several grades, jobs are taken by their grade first
abbrev pub IsEarlierJob : Problem → List Binomial → Job → Job → Type 0
IsEarlierJob i ms j k =
    (job_grade_of i ms j < job_grade_of i ms k) ⊎ ((job_grade_of i ms j ≡ job_grade_of i ms k) × JobComesBefore j k)

-- the jobs up to a grade, by grade first
unfoldable pub jobs_up_to : Problem → List Binomial → ℕ → List Job
jobs_up_to i ms g = flat_map (jobs_at i ms) (up_to g)
