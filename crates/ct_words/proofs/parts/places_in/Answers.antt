use Rattle.std.proofs.Common.{◌≡◌, true, rules, sym, ◌∙◌}
use Rattle.std.proofs.lemmas.Result.{IfOk-weaker}
use Rattle.clap.specs.Words.{found_of}
use Rattle.ct_words.proofs.Found.{places_some, places_none}
use Rattle.ct_words.proofs.parts.places_in.Goals as goal

pub returns-in-Some : goal.returns-in-Some
returns-in-Some c =
    let said : c.is_said.result ≡ true = search rules in
    IfOk-weaker c.copied.result _ _ (λ copy h. h ∙ places_some (found_of c.args.matches.now) _ (sym c.is_said.ensures ∙ said) c.in-Some.ensures) c.copied.ensures

pub returns-in-None : goal.returns-in-None
returns-in-None c =
    let said : c.is_said.result ≡ true = search rules in
    rw c.new-in-None.ensures.items (places_none (found_of c.args.matches.now) (sym c.is_said.ensures ∙ said) c.in-None.ensures)
