-- A completion that goes on from version to version.
use Rattle.std.proofs.Common.{◌≡◌, ℕ, ◌≤◌, ◌<◌, Bool, true, false, ⊎_elim, sym, ap, subst, ◌∙◌, refl, arith, suc}
use Rattle.std.specs.Arc.{arc_value}
use Rattle.std.proofs.lemmas.Bool.{cases_lt}
use Rattle.ct_instance.specs.Instance.{Problem}
use Rattle.ct_instance.specs.Versions.{Covers, level_of}
use Rattle.ct_levels.proofs.Levels.{levels_rise, covers_number, Covers-le}
use Rattle.ct_version.specs.declared.pins.Helped.{Helped}
use Rattle.ct_version.specs.Desks.{IsHelp}
use Rattle.ct_solo.specs.Seen.{SoloSeen, place_of, edition_of, IsCovered, IsSameSolo, IsAdvanced, IsCompleted}

-- what is kept as long as the work goes on
pub record IsUnderWay (s : SoloSeen) (g : ℕ) (t : SoloSeen) : Type 0 where
  pub same : IsSameSolo s t
  pub unchanged : IsCovered s g → t ≡ s
  pub first : (j : ℕ) → s.number ≤ j → j < t.number → Covers (level_of s.instance j) g → ⊥

pub starts : (s : SoloSeen) (g : ℕ) → IsUnderWay s g s
starts s g = record { same = refl; unchanged = λ h. refl; first = λ j low below covers. omega (arith, low, below) }

-- a version that doesn't cover g has a smaller number
pub number_below : (s : SoloSeen) (g : ℕ) → (IsCovered s g → ⊥) → s.number < g
number_below s g beyond =
    ⊎_elim (λ l. l) (λ l. absurd (beyond (Covers-le (level_of s.instance s.number) g s.number l (covers_number s.instance s.number)))) (cases_lt s.number g)

abbrev with_number : SoloSeen → ℕ → SoloSeen
with_number s n = record { instance = s.instance; limit = s.limit; top = s.top; number = n }

-- one version more, where this one doesn't cover g
pub goes_on : (s : SoloSeen) (g : ℕ) (t u : SoloSeen) → IsUnderWay s g t → (IsCovered t g → ⊥) → u ≡ record t { number = suc t.number } → IsUnderWay s g u
goes_on s g t u w beyond next =
    let number : u.number ≡ suc t.number = ap (λ (x : SoloSeen). x.number) next in
    let instance : t.instance ≡ s.instance = ap (λ (x : SoloSeen). x.instance) w.same in
    record {
      same = next ∙ ap (λ (x : SoloSeen). with_number x (suc t.number)) w.same ∙ ap (with_number s) (sym number);
      unchanged = λ covers. absurd (beyond (subst (λ (x : SoloSeen). IsCovered x g) (sym (w.unchanged covers)) covers));
      first = λ j low below covers.
          ⊎_elim (λ l. w.first j low l covers)
          (λ l. let at : j ≡ t.number = omega (arith, l, below, number) in
          beyond (subst (λ (i : Problem). Covers (level_of i t.number) g) (sym instance) (subst (λ (n : ℕ). Covers (level_of s.instance n) g) at covers)))
          (cases_lt j t.number);
    }

pub next_of : (s t : SoloSeen) (b : Bool) → b ≡ true → IsAdvanced s t b → t ≡ record s { number = suc s.number }
next_of s t true e a = a
next_of s t false e a = absurd (cc)

pub completed : (s : SoloSeen) (g : ℕ) (t : SoloSeen) (h : Helped) → IsUnderWay s g t → IsCovered t g → IsHelp (place_of t) g h → arc_value h.version ≡ edition_of t →
    IsCompleted s g t h
completed s g t h w covers help version = record {
  help = subst (λ (x : SoloSeen). IsHelp (place_of x) g h) w.same help;
  version = version;
  unchanged = w.unchanged;
  first = λ beyond. record {
    covered = subst (λ (x : SoloSeen). Covers (level_of x.instance t.number) g) w.same covers;
    first = λ j below covered.
        ⊎_elim (λ l. beyond (levels_rise s.instance j s.number g (omega (arith, l)) covered)) (λ l. w.first j l below covered) (cases_lt j s.number);
  };
}
