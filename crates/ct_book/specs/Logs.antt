-- The journal with its counts.
use Rattle.std.specs.Prelude.{ℕ, ◌<◌, ◌≡◌, List, length, get_or, All}
use Rattle.ct_completion.specs.declared.journals.Entry.{Entry}
use Rattle.ct_completion.specs.Journal.{entries_of, AreSerials}

-- the entries, the number of passes, and how many entries there is room for
pub record LogSeen : Type 0 where
  pub entries : List Entry
  pub passes : ℕ
  pub room : ℕ

-- the entries are of the passes, with their serials, and each pass has as many as its count says
pub record IsLog (entries : List Entry) (counts : List ℕ) : Type 0 where
  pub pass : All (λ e. e.pass < length counts) entries
  pub serials : AreSerials entries
  pub counted : (pass : ℕ) → pass < length counts → get_or counts pass 0 ≡ entries_of pass entries
