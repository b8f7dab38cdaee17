-- What adding a pair, the range and a look-up do to the jobs of a map.
use Rattle.std.proofs.Common.{ℕ, ◌<◌, ◌≡◌, ◌⊎◌, inl, inr, ◌&&◌, ◌-◌, append-nil, append_assoc, get_or, slice_get, option_to_list, Bool, true, false, true≢false, cond, nat_eq, nat_lt, Option, Some, None, List, [], ◌∷◌, ◌++◌, map, filter, length, IsPermutation, refl, sym, ap, ap₂, subst, ◌∙◌, arith, eq-eqb}
use Rattle.std.specs.List.{AllByRecursion}
use Rattle.std.specs.List.Sorted.{IsStrictlySortedBy}
use Rattle.std.specs.declared.cmp.Ordering.{Ordering}
use Rattle.std.specs.Ordering.{is_eq, is_lt, match_ordering, nat_cmp}
use Rattle.std.specs.declared.cmp.Ordering.TheVariants.{Less, Equal, Greater}
use Rattle.std.specs.declared.ops.Bound.TheVariants.{Excluded, Unbounded}
use Rattle.std.specs.Map.{keys_of, lookup, set_value}
use Rattle.std.specs.BTreeMap.{is_at, insert_entry}
use Rattle.std.specs.BTreeMap.Range.{entries_between}
use Rattle.std.proofs.lemmas.Bool.{lt-ltb, le-ltb, ne_eqb}
use Rattle.std.proofs.lemmas.Cmp.{ranked}
use Rattle.std.proofs.lemmas.Option.{get_or_from_slice_get}
use Rattle.std.proofs.lemmas.List.{map-append}
use Rattle.std.proofs.lemmas.Map.Keys.{sorted_head, sorted_tail}
use Rattle.std.proofs.lemmas.List.Sorted.{IsPermutation-refl, IsPermutation-sym, IsPermutation-trans, IsPermutation-to_front, IsPermutation-middle, IsPermutation-append_left, IsPermutation-append_right}
use Rattle.ct_instance.specs.declared.jobs.Job.{Job}
use Rattle.ct_instance.specs.declared.jobs.Job.TheVariants.{Pair}
use Rattle.ct_instance.specs.Versions.{least_above}
use Rattle.ct_jobs.specs.declared.graded.GradedJob.{GradedJob}
use Rattle.ct_jobs.specs.declared.graded.GradedPair.{GradedPair}
use Rattle.ct_jobs.specs.declared.one_grade.OneGrade.{OneGrade}
use Rattle.ct_jobs.specs.Kept.{pair_of}
use Rattle.ct_jobs.specs.GradedJobs.{next_grade, of_grade, lesser_of}
use Rattle.ct_jobs.specs.PairsByGrade.{graded_pair, pairs_in, jobs_in, graded_in, graded_entries}
use Rattle.ct_jobs.proofs.NextGrades.{lesser_of_assoc, least_above-append, next_grade-append, of_grade-append}

abbrev is_some_of : {X : Type 0} → Option X → Bool
is_some_of None = false
is_some_of (Some x) = true

abbrev value_of : {X : Type 0} → X → Option X → X
value_of d None = d
value_of d (Some x) = x

-- ---- one more pair

pub past : (x : GradedJob) (bs rs ss : List GradedJob) → IsPermutation (x ∷ rs) ss → IsPermutation (x ∷ (bs ++ rs)) (bs ++ ss)
past x bs rs ss h =
    IsPermutation-trans (x ∷ (bs ++ rs)) (bs ++ x ∷ rs) (bs ++ ss) (IsPermutation-sym (bs ++ x ∷ rs) (x ∷ (bs ++ rs)) (IsPermutation-middle bs x rs))
    (IsPermutation-append_right bs (x ∷ rs) ss h)

at_its_end : (x : GradedJob) (bs rs : List GradedJob) → IsPermutation (x ∷ (bs ++ rs)) ((bs ++ x ∷ []) ++ rs)
at_its_end x bs rs = IsPermutation-append_left rs (x ∷ bs) (bs ++ x ∷ []) (IsPermutation-sym (bs ++ x ∷ []) (x ∷ bs) (IsPermutation-to_front bs x))

map_push : (k : ℕ) (ps : List (ℕ × ℕ)) (p : ℕ × ℕ) → map (graded_pair k) (ps ++ p ∷ []) ≡ map (graded_pair k) ps ++ graded_pair k p ∷ []
map_push k [] p = refl
map_push k (q ∷ ps) p = ap (λ l. graded_pair k q ∷ l) (map_push k ps p)

-- where the grade has an entry
pub pair_written : (g : ℕ) (p : ℕ × ℕ) (v w : OneGrade) (es : List (ℕ × OneGrade)) → lookup (is_at (nat_cmp g)) es ≡ Some v → pairs_in w ≡ pairs_in v ++ p ∷ [] →
    IsPermutation (graded_pair g p ∷ graded_entries es) (graded_entries (set_value (is_at (nat_cmp g)) es w))
pair_written g p v w [] l h = absurd (true≢false (sym (ap is_some_of l)))
pair_written g p v w (e ∷ es) l h = go (nat_cmp g e.0) refl l (pair_written g p v w es)
  where
    go : (o : Ordering) → nat_cmp g e.0 ≡ o → cond (is_eq o) (Some e.1) (lookup (is_at (nat_cmp g)) es) ≡ Some v →
        (lookup (is_at (nat_cmp g)) es ≡ Some v → pairs_in w ≡ pairs_in v ++ p ∷ [] → IsPermutation (graded_pair g p ∷ graded_entries es) (graded_entries (set_value (is_at (nat_cmp g)) es w))) →
        IsPermutation (graded_pair g p ∷ (graded_in e ++ graded_entries es)) (graded_entries (cond (is_eq o) ((e.0, w) ∷ es) (e ∷ set_value (is_at (nat_cmp g)) es w)))
    go Equal q f rest =
        let same : g ≡ e.0 = ranked g e.0 Equal (sym q) in
        let value : e.1 ≡ v = ap (value_of v) f in
        let parts : map (graded_pair e.0) (pairs_in w) ≡ graded_in e ++ graded_pair g p ∷ [] =
        ap (map (graded_pair e.0)) (h ∙ ap (λ u. pairs_in u ++ p ∷ []) (sym value)) ∙ map_push e.0 (pairs_in e.1) p ∙ ap (λ k. graded_in e ++ graded_pair k p ∷ []) (sym same) in
        subst (λ l. IsPermutation (graded_pair g p ∷ (graded_in e ++ graded_entries es)) (l ++ graded_entries es)) (sym parts) (at_its_end (graded_pair g p) (graded_in e) (graded_entries es))
    go Less q f rest = past (graded_pair g p) (graded_in e) (graded_entries es) (graded_entries (set_value (is_at (nat_cmp g)) es w)) (rest f h)
    go Greater q f rest = past (graded_pair g p) (graded_in e) (graded_entries es) (graded_entries (set_value (is_at (nat_cmp g)) es w)) (rest f h)

-- what is not written
pub entry_stays : (g : ℕ) (v w : OneGrade) (es : List (ℕ × OneGrade)) → lookup (is_at (nat_cmp g)) es ≡ Some v → pairs_in w ≡ pairs_in v → graded_entries (set_value (is_at (nat_cmp g)) es w) ≡ graded_entries es
entry_stays g v w [] l h = refl
entry_stays g v w (e ∷ es) l h = go (nat_cmp g e.0) l (entry_stays g v w es)
  where
    go : (o : Ordering) → cond (is_eq o) (Some e.1) (lookup (is_at (nat_cmp g)) es) ≡ Some v →
        (lookup (is_at (nat_cmp g)) es ≡ Some v → pairs_in w ≡ pairs_in v → graded_entries (set_value (is_at (nat_cmp g)) es w) ≡ graded_entries es) →
        graded_entries (cond (is_eq o) ((e.0, w) ∷ es) (e ∷ set_value (is_at (nat_cmp g)) es w)) ≡ graded_in e ++ graded_entries es
    go Equal f rest = ap (λ ps. map (graded_pair e.0) ps ++ graded_entries es) (h ∙ ap pairs_in (sym (ap (value_of v) f)))
    go Less f rest = ap (λ l. graded_in e ++ l) (rest f h)
    go Greater f rest = ap (λ l. graded_in e ++ l) (rest f h)

-- where it has none
pub pair_inserted : (g : ℕ) (p : ℕ × ℕ) (v : OneGrade) (es : List (ℕ × OneGrade)) → lookup (is_at (nat_cmp g)) es ≡ None → pairs_in v ≡ p ∷ [] →
    IsPermutation (graded_pair g p ∷ graded_entries es) (graded_entries (insert_entry nat_cmp es g v))
pair_inserted g p v [] l h =
    subst (λ ps. IsPermutation (graded_pair g p ∷ []) (map (graded_pair g) ps ++ [])) (sym h) (IsPermutation-refl (graded_pair g p ∷ []))
pair_inserted g p v (e ∷ es) l h = go (nat_cmp g e.0) refl l (pair_inserted g p v es)
  where
    go : (o : Ordering) → nat_cmp g e.0 ≡ o → cond (is_eq o) (Some e.1) (lookup (is_at (nat_cmp g)) es) ≡ None →
        (lookup (is_at (nat_cmp g)) es ≡ None → pairs_in v ≡ p ∷ [] → IsPermutation (graded_pair g p ∷ graded_entries es) (graded_entries (insert_entry nat_cmp es g v))) →
        IsPermutation (graded_pair g p ∷ (graded_in e ++ graded_entries es)) (graded_entries (match_ordering o ((g, v) ∷ e ∷ es) ((e.0, v) ∷ es) (e ∷ insert_entry nat_cmp es g v)))
    go Less q f rest =
        subst (λ ps. IsPermutation (graded_pair g p ∷ (graded_in e ++ graded_entries es)) (map (graded_pair g) ps ++ (graded_in e ++ graded_entries es))) (sym h)
        (IsPermutation-refl (graded_pair g p ∷ (graded_in e ++ graded_entries es)))
    go Equal q f rest = absurd (true≢false (ap is_some_of f))
    go Greater q f rest = past (graded_pair g p) (graded_in e) (graded_entries es) (graded_entries (insert_entry nat_cmp es g v)) (rest f h)

-- ---- the last of the parked pairs is taken in

pub last_popped : (js rest : List GradedPair) (n : ℕ) (r : Option GradedPair) (x : GradedPair) → n ≡ length js → js ≡ rest ++ option_to_list r → ((d : GradedPair) → 0 < n → r ≡ Some (get_or js (n - 1) d)) →
    Some x ≡ slice_get js (length js - 1) → js ≡ rest ++ x ∷ []
last_popped [] rest n r x l e v g = absurd (true≢false (ap is_some_of g))
last_popped (j ∷ js) rest n r x l e v g =
    e ∙ ap (λ o. rest ++ option_to_list o) (v x (omega (arith, l)) ∙ ap Some (ap (λ k. get_or (j ∷ js) (k - 1) x) l ∙ get_or_from_slice_get (j ∷ js) (length (j ∷ js) - 1) x x (sym g)))

pub last_moved : (all kept more : List GradedJob) (js rest : List GradedPair) (x : GradedPair) → IsPermutation all (kept ++ map pair_of js) → IsPermutation (pair_of x ∷ kept) more → js ≡ rest ++ x ∷ [] →
    IsPermutation all (more ++ map pair_of rest)
last_moved all kept more js rest x p h e =
    let front = kept ++ map pair_of rest in
    let split : kept ++ map pair_of js ≡ front ++ pair_of x ∷ [] =
    ap (λ l. kept ++ map pair_of l) e ∙ ap (λ l. kept ++ l) (map-append pair_of rest (x ∷ [])) ∙ sym (append_assoc kept (map pair_of rest) (pair_of x ∷ [])) in
    IsPermutation-trans all (kept ++ map pair_of js) (more ++ map pair_of rest) p
    (subst (λ l. IsPermutation l (more ++ map pair_of rest)) (sym split)
    (IsPermutation-trans (front ++ pair_of x ∷ []) (pair_of x ∷ front) (more ++ map pair_of rest) (IsPermutation-to_front front (pair_of x))
    (IsPermutation-append_left (map pair_of rest) (pair_of x ∷ kept) more h)))

-- ---- the next grade

lesser_of_same : (o : Option ℕ) → lesser_of o o ≡ o
lesser_of_same None = refl
lesser_of_same (Some x) = ap Some (omega arith)

next_of_pairs : (d k : ℕ) (p : ℕ × ℕ) (ps : List (ℕ × ℕ)) → next_grade d (map (graded_pair k) (p ∷ ps)) ≡ least_above d (k ∷ [])
next_of_pairs d k p [] = refl
next_of_pairs d k p (q ∷ ps) =
    least_above-append d (k ∷ []) (map (λ (j : GradedJob). j.grade) (map (graded_pair k) (q ∷ ps))) ∙ ap (lesser_of (least_above d (k ∷ []))) (next_of_pairs d k q ps) ∙
    lesser_of_same (least_above d (k ∷ []))

next_of_keys : (d : ℕ) (es : List (ℕ × OneGrade)) → next_grade d (graded_entries es) ≡ least_above d (keys_of es)
next_of_keys d [] = refl
next_of_keys d (e ∷ es) =
    next_grade-append d (graded_in e) (graded_entries es) ∙ ap₂ lesser_of (next_of_pairs d e.0 e.1.first e.1.rest.items) (next_of_keys d es) ∙
    sym (least_above-append d (e.0 ∷ []) (keys_of es))

is_above : (d g : ℕ) → nat_lt d g ≡ true → least_above d (g ∷ []) ≡ Some g
is_above d g e = simp e

is_not_above : (d g : ℕ) → nat_lt d g ≡ false → least_above d (g ∷ []) ≡ None
is_not_above d g e = simp e

lesser_than_one : (d k y : ℕ) → k < y → lesser_of (Some k) (least_above d (y ∷ [])) ≡ Some k
lesser_than_one d k y l = go (nat_lt d y) refl
  where
    go : (b : Bool) → nat_lt d y ≡ b → lesser_of (Some k) (least_above d (y ∷ [])) ≡ Some k
    go true e = ap (lesser_of (Some k)) (is_above d y e) ∙ ap Some (omega arith)
    go false e = ap (lesser_of (Some k)) (is_not_above d y e)

lesser_than_all : (d k : ℕ) (ks : List ℕ) → AllByRecursion (λ y. nat_cmp k y ≡ Less) ks → lesser_of (Some k) (least_above d ks) ≡ Some k
lesser_than_all d k [] h = refl
lesser_than_all d k (y ∷ ks) h =
    ap (lesser_of (Some k)) (least_above-append d (y ∷ []) ks) ∙ sym (lesser_of_assoc (Some k) (least_above d (y ∷ [])) (least_above d ks)) ∙
    ap (λ o. lesser_of o (least_above d ks)) (lesser_than_one d k y (ranked k y Less (sym h.0))) ∙ lesser_than_all d k ks h.1

-- the key of the first entry
abbrev pub first_key : List (ℕ × OneGrade) → Option ℕ
first_key [] = None
first_key (e ∷ es) = Some e.0

pub next_is_first : (d : ℕ) (es : List (ℕ × OneGrade)) → IsStrictlySortedBy nat_cmp (keys_of es) → next_grade d (graded_entries es) ≡ first_key (entries_between nat_cmp (Excluded d) Unbounded es)
next_is_first d es s = next_of_keys d es ∙ least es s
  where
    least : (es : List (ℕ × OneGrade)) → IsStrictlySortedBy nat_cmp (keys_of es) → least_above d (keys_of es) ≡ first_key (entries_between nat_cmp (Excluded d) Unbounded es)
    least [] s = refl
    least (e ∷ es) s = least_above-append d (e.0 ∷ []) (keys_of es) ∙ go (nat_cmp d e.0) refl (least es (sorted_tail nat_cmp e.0 (keys_of es) s))
      where
        not_above : d ≡ e.0 ⊎ e.0 < d → nat_lt d e.0 ≡ false
        not_above (inl h) = le-ltb d e.0 (omega arith)
        not_above (inr h) = le-ltb d e.0 (omega arith)

        skip : nat_lt d e.0 ≡ false → lesser_of (least_above d (e.0 ∷ [])) (least_above d (keys_of es)) ≡ least_above d (keys_of es)
        skip f = ap (λ o. lesser_of o (least_above d (keys_of es))) (is_not_above d e.0 f)

        go : (o : Ordering) → nat_cmp d e.0 ≡ o → least_above d (keys_of es) ≡ first_key (entries_between nat_cmp (Excluded d) Unbounded es) →
            lesser_of (least_above d (e.0 ∷ [])) (least_above d (keys_of es)) ≡ first_key (cond (is_lt o && true) (e ∷ entries_between nat_cmp (Excluded d) Unbounded es) (entries_between nat_cmp (Excluded d) Unbounded es))
        go Less q rest =
            ap (λ o. lesser_of o (least_above d (keys_of es))) (is_above d e.0 (lt-ltb d e.0 (ranked d e.0 Less (sym q)))) ∙
            lesser_than_all d e.0 (keys_of es) (sorted_head nat_cmp e.0 (keys_of es) s)
        go Equal q rest = skip (not_above (inl (ranked d e.0 Equal (sym q)))) ∙ rest
        go Greater q rest = skip (not_above (inr (ranked d e.0 Greater (sym q)))) ∙ rest

-- ---- the jobs of one grade

same_grade : (g : ℕ) (ps : List (ℕ × ℕ)) → of_grade g (map (graded_pair g) ps) ≡ map (λ (p : ℕ × ℕ). Pair p.0 p.1) ps
same_grade g [] = refl
same_grade g (p ∷ ps) =
    ap (λ b. map (λ (j : GradedJob). j.job) (cond b (graded_pair g p ∷ filter (λ (j : GradedJob). nat_eq j.grade g) (map (graded_pair g) ps)) (filter (λ (j : GradedJob). nat_eq j.grade g) (map (graded_pair g) ps))))
    (eq-eqb g g refl) ∙ ap (λ l. Pair p.0 p.1 ∷ l) (same_grade g ps)

other_grade : (g k : ℕ) (ps : List (ℕ × ℕ)) → (k ≡ g → ⊥) → of_grade g (map (graded_pair k) ps) ≡ []
other_grade g k [] h = refl
other_grade g k (p ∷ ps) h =
    ap (λ b. map (λ (j : GradedJob). j.job) (cond b (graded_pair k p ∷ filter (λ (j : GradedJob). nat_eq j.grade g) (map (graded_pair k) ps)) (filter (λ (j : GradedJob). nat_eq j.grade g) (map (graded_pair k) ps))))
    (ne_eqb k g h) ∙ other_grade g k ps h

none_later : (g : ℕ) (es : List (ℕ × OneGrade)) → AllByRecursion (λ y. nat_cmp g y ≡ Less) (keys_of es) → of_grade g (graded_entries es) ≡ []
none_later g [] h = refl
none_later g (e ∷ es) h =
    let less : g < e.0 = ranked g e.0 Less (sym h.0) in
    of_grade-append g (graded_in e) (graded_entries es) ∙ ap₂ ◌++◌ (other_grade g e.0 (pairs_in e.1) (λ s. omega (arith, s, less))) (none_later g es h.1)

-- the jobs of what a look-up finds
abbrev pub found_jobs : Option OneGrade → List Job
found_jobs None = []
found_jobs (Some v) = jobs_in v

pub jobs_found : (g : ℕ) (es : List (ℕ × OneGrade)) → IsStrictlySortedBy nat_cmp (keys_of es) → of_grade g (graded_entries es) ≡ found_jobs (lookup (is_at (nat_cmp g)) es)
jobs_found g [] s = refl
jobs_found g (e ∷ es) s =
    of_grade-append g (graded_in e) (graded_entries es) ∙ go (nat_cmp g e.0) refl (jobs_found g es (sorted_tail nat_cmp e.0 (keys_of es) s))
  where
    go : (o : Ordering) → nat_cmp g e.0 ≡ o → of_grade g (graded_entries es) ≡ found_jobs (lookup (is_at (nat_cmp g)) es) →
        of_grade g (graded_in e) ++ of_grade g (graded_entries es) ≡ found_jobs (cond (is_eq o) (Some e.1) (lookup (is_at (nat_cmp g)) es))
    go Equal q rest =
        let same : g ≡ e.0 = ranked g e.0 Equal (sym q) in
        ap₂ ◌++◌ (ap (λ k. of_grade k (graded_in e)) same ∙ same_grade e.0 (pairs_in e.1))
        (none_later g es (subst (λ k. AllByRecursion (λ y. nat_cmp k y ≡ Less) (keys_of es)) (sym same) (sorted_head nat_cmp e.0 (keys_of es) s))) ∙
        append-nil (jobs_in e.1)
    go Less q rest =
        let l : g < e.0 = ranked g e.0 Less (sym q) in
        ap₂ ◌++◌ (other_grade g e.0 (pairs_in e.1) (λ s. omega (arith, s, l))) rest
    go Greater q rest =
        let l : e.0 < g = ranked g e.0 Greater (sym q) in
        ap₂ ◌++◌ (other_grade g e.0 (pairs_in e.1) (λ s. omega (arith, s, l))) rest
