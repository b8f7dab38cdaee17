use Rattle.std.proofs.Common.{◌≡◌, ◌∷◌, Ok, refl, sym, ◌∙◌, rules, arith}
use Rattle.ct_text.specs.Numbers.{natural_of}
use Rattle.ct_lines.proofs.Spelling.{numbered_left}
use Rattle.ct_lines.proofs.words.Words.numbered.Goals as goal

pub returns : goal.returns
returns c =
    let e : natural_of c.in-Some.word.now c.args.number ≡ Ok c.args.number = search rules in
    let front : c.args.self.now ≡ c.in-Some.word.now ∷ c.self.inside.pieces = sym c.self.view_is ∙ rw c.in-Some.is refl in
    numbered_left c.in-Some.word.now c.args.number c.args.self.now c.self.inside.pieces c.advance.new.self (omega arith) e front c.advance.ensures
