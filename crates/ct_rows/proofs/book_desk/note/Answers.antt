use Rattle.std.proofs.Common.{rules, ◌≡◌, ◌++◌, [], ◌∷◌}
use Rattle.ct_session.proofs.Words.{latest_after, one_taken}
use Rattle.ct_rows.proofs.book_desk.note.Goals as goal

pub returns-clause-one_take : goal.returns-clause-one_take
returns-clause-one_take g c =
    let more : c.push.new.self.items ≡ c.args.words.now.items ++ c.args.word ∷ [] = search rules in
    one_taken c.args.words.now.items c.push.new.self.items c.args.word more

pub returns-clause-latest : goal.returns-clause-latest
returns-clause-latest g c =
    let more : c.push.new.self.items ≡ c.args.words.now.items ++ c.args.word ∷ [] = search rules in
    latest_after c.args.words.now.items c.push.new.self.items c.args.word more
