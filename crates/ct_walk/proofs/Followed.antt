-- Steps that a caller names are free steps, a walk is followed, and a list with more moves leads no less far.
use Rattle.std.proofs.Common.{ℕ, ◌≡◌, ◌↔◌, Some, List, [], ◌∷◌, length, Contains, refl, sym, subst, ap, ◌∙◌, suc}
use Rattle.std.proofs.lemmas.Option.{slice_get_read}
use Rattle.ct_vectors.specs.Vectors.{scale, Divides}
use Rattle.ct_instance.specs.TestSet.{Binomial}
use Rattle.ct_instance.specs.Walk.{IsNormal, moved, FreeStep, Leads, stay, step, IsStep, IsWalk, ends, walks}
use Rattle.ct_instance.specs.Jobs.{the_move}
use Rattle.ct_walk.specs.Moves.{CanApply, Follows}
use Rattle.ct_walk.proofs.Steps.{move_at_listed, move_at_within, normal_none, normal_from_none}
use Rattle.ct_walk.proofs.Ends.{the_move_at}
use Rattle.ct_walk.proofs.WalkFacts.{step_some}

applied_is_free : (ms : List Binomial) (p : List ℕ) (number times : ℕ) → CanApply ms p number times → FreeStep ms p (moved (the_move ms number) times p)
applied_is_free ms p number times c = record {
  number = number;
  move = the_move ms number;
  times = times;
  at = the_move_at ms number c.number_some c.number_within;
  some = c.some;
  fits = c.fits;
  gives = refl;
}

pub follows_leads : (ms : List Binomial) (p q : List ℕ) (steps : List (ℕ × ℕ)) → Follows ms p steps q → Leads ms p q
follows_leads ms p q [] f = subst (Leads ms p) (sym f) (stay p)
follows_leads ms p q (s ∷ steps) f =
    let next : List ℕ = moved (the_move ms s.0) s.1 p in
    step p next q (applied_is_free ms p s.0 s.1 f.0) (follows_leads ms next q steps f.1)

step_applies : (ms : List Binomial) (p q : List ℕ) (number times : ℕ) → IsStep ms p number times q → CanApply ms p number times × (q ≡ moved (the_move ms number) times p)
step_applies ms p q number times s =
    let at = move_at_within ms number s.move s.at in
    let same : s.move ≡ the_move ms number = let e : Some s.move ≡ Some (the_move ms number) = sym s.at ∙ the_move_at ms number at.0 at.1 in cc in (
      record {
        number_some = at.0;
        number_within = at.1;
        some = step_some ms p q number times s;
        fits = subst (λ (m : Binomial). Divides (scale times m.head) p) same s.count.fits;
      },
      s.gives ∙ ap (λ (m : Binomial). moved m times p) same,
    )

pub walk_follows : (ms : List Binomial) (p q : List ℕ) (steps : List (ℕ × ℕ)) → IsWalk ms p steps q → Follows ms p steps q
walk_follows ms p q steps (ends r n) = refl
walk_follows ms p r steps (walks x q y number times more s w) =
    let a = step_applies ms p q number times s in
    (a.0, subst (λ (z : List ℕ). Follows ms z more r) a.1 (walk_follows ms q r more w))

-- ---- more moves

free_step_by_more : (ms ns : List Binomial) → ((m : Binomial) → Contains ms m → Contains ns m) → (p q : List ℕ) → FreeStep ms p q → FreeStep ns p q
free_step_by_more ms ns all p q u =
    let c = all u.move (move_at_listed ms u.number u.move u.at) in record {
      number = suc c.0;
      move = u.move;
      times = u.times;
      at = slice_get_read ns (length ns) c.0 u.move refl c.1 (sym c.2);
      some = u.some;
      fits = u.fits;
      gives = u.gives;
    }

pub leads_by_more : (ms ns : List Binomial) → ((m : Binomial) → Contains ms m → Contains ns m) → (p q : List ℕ) → Leads ms p q → Leads ns p q
leads_by_more ms ns all p q (stay r) = stay p
leads_by_more ms ns all p r (step x q y u l) = step p q r (free_step_by_more ms ns all p q u) (leads_by_more ms ns all q r l)

-- ---- normal points

pub normal_is_undivided : (ms : List Binomial) (p : List ℕ) → IsNormal ms p ↔ ((m : Binomial) → Contains ms m → Divides m.head p → ⊥)
normal_is_undivided ms p = (normal_none ms p, normal_from_none ms p)
