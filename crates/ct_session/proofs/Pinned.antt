-- A pin that was refused, and the point that an answer leaves.
use Rattle.std.proofs.Common.{◌≡◌, inl, ℕ, ◌/◌, ◌%◌, ◌<◌, max, List, Result, Ok, Err, IfOk, IfErr, refl, sym, subst, arith, eq-eqb}
use Rattle.ct_instance.specs.Instance.{Problem, IsRight, IsPoint}
use Rattle.ct_instance.specs.Fiber.{least_of}
use Rattle.ct_instance.proofs.Points.{least_is_point}
use Rattle.ct_version.specs.declared.answers.AnswerKind.{AnswerKind}
use Rattle.ct_version.specs.declared.answers.Answered.{Answered}
use Rattle.ct_version.specs.declared.stops.NotYet.{NotYet}
use Rattle.ct_version.specs.Editions.{Edition, IsEdition}
use Rattle.ct_version.specs.Answers.{IsAnswered}
use Rattle.ct_version.specs.Desks.{raised}
use Rattle.ct_session.specs.Sessions.{newest, IsRepinned}

refused_pin : (held word before after : ℕ) → word % 2 ≡ 0 → held < word / 2 → after ≡ raised before → IsRepinned held word before after held
refused_pin held word before after even above rise =
    let told : newest held word ≡ max held (word / 2) = rw (eq-eqb (word % 2) 0 even) refl in
    record {
      either = inl refl;
      calm = λ c. absurd (omega (arith, c.0, c.1));
      refused = λ r. (refl, omega arith, omega arith);
      rises = λ m. (omega arith, omega arith);
    }

-- the old version stays where the pin of a newer one is refused
pub refused_pin_keeps : (old held now word begun before after : ℕ) → old ≡ now → held ≡ now → begun ≡ before →
    word % 2 ≡ 0 → held < word / 2 → after ≡ raised before → IsRepinned old word begun after now
refused_pin_keeps old held now word begun before after same asked start even above rise =
    subst (λ x. IsRepinned x word begun after now) (sym same)
    (subst (λ x. IsRepinned now word x after now) (sym start)
    (refused_pin now word before after even (subst (λ x. x < word / 2) asked above) rise))

pub least_point : (p : Problem) (v : Edition) (b : List ℕ) → IsEdition v → v.instance ≡ p → IsRight p b → IsPoint p (least_of v.instance b)
least_point p v b edition same right =
    subst (λ i. IsPoint i (least_of v.instance b)) same
    (least_is_point v.instance edition.instance b (subst (λ i. IsRight i b) (sym same) right))

-- the point stays one of the instance
pub point_after : (p : Problem) (v : Edition) (b old new : List ℕ) (r : Result AnswerKind NotYet) → IsEdition v → v.instance ≡ p → IsRight p b → IsPoint p old →
    IfOk r (λ _. new ≡ least_of v.instance b) → IfErr r (λ _. new ≡ old) → IsPoint p new
point_after p v b old new (Ok kind) edition same right point ok err = subst (IsPoint p) (sym ok) (least_point p v b edition same right)
point_after p v b old new (Err e) edition same right point ok err = subst (IsPoint p) (sym err) point

pub end_point : (p : Problem) (v : Edition) (b : List ℕ) (a : Answered) → IsEdition v → v.instance ≡ p → IsRight p b → IsAnswered v b a → IsPoint p a.walk.end
end_point p v b a edition same right answered = subst (IsPoint p) (sym answered.end) (least_point p v b edition same right)
