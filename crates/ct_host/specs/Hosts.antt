-- What a host and its passes are seen as.
use Rattle.std.specs.Prelude.{ℕ, ◌+◌, ◌/◌, ◌≤◌, ◌≡◌, Option, Some, List, [], ◌∷◌, ◌++◌}
use Rattle.atomic_table.specs.Seated.{TableId}
use Rattle.turn_cell.specs.Sight.{CellPlace, CellSight}
use Rattle.count_lock.specs.Pairs.{first_number, first_count}
use Rattle.count_lock.specs.Sight.{LockPlace, LockSight}
use Rattle.ct_completion.specs.declared.journals.Entry.{Entry}
use Rattle.ct_completion.specs.Journal.{entries_of}
use Rattle.ct_book.specs.Books.{BookSeen}
use Rattle.ct_book.specs.Benches.{BenchPlace, desk_place}
use Rattle.ct_host.specs.Values.{PlacedVersion, bench_place}

-- what a host and its passes have in common: which cell and which lock it is, and what each was opened with
pub record HostKey : Type 0 where
  pub cell : TableId
  pub version : Option PlacedVersion
  pub lock : TableId
  pub book : Option BookSeen

-- a host: its key, and its instance, limit on the number of moves and number of passes
pub record HostSeen : Type 0 where
  pub key : HostKey
  pub place : BenchPlace

-- a pass: the key of its host; its number; how many steps it made; the greatest number of a version that it has seen; the
-- words that its takes of the cell found, and how often it was split; and what each book showed that it got from the lock
pub record PassSeen : Type 0 where
  pub key : HostKey
  pub number : ℕ
  pub steps : ℕ
  pub seen : ℕ
  pub words : List ℕ
  pub splits : ℕ
  pub shown : List (List ℕ)

-- the pass is one of this host
abbrev pub IsOfHost : HostSeen → PassSeen → Type 0
IsOfHost host pass = pass.key ≡ host.key

-- ---- from cell and lock

abbrev pub key_in : CellPlace PlacedVersion → LockPlace BookSeen → HostKey
key_in cell lock = record { cell = cell.cell; version = Some cell.first; lock = lock.lock; book = Some lock.first }

abbrev pub host_in : CellPlace PlacedVersion → LockPlace BookSeen → HostSeen
host_in cell lock = record { key = key_in cell lock; place = bench_place lock.first }

abbrev pub pass_in : CellSight PlacedVersion → LockSight BookSeen → PassSeen
pass_in cell lock =
    record {
      key = record { cell = cell.cell; version = cell.first; lock = lock.lock; book = lock.first };
      number = first_number lock.pairs;
      steps = first_count lock.pairs;
      seen = cell.seen;
      words = cell.words;
      splits = cell.splits;
      shown = lock.shown;
    }

-- what a host keeps: the cell is for versions of its book's instance within its limit, and the lock has its passes
pub record IsHost (cell : CellPlace PlacedVersion) (lock : LockPlace BookSeen) (most : ℕ) : Type 0 where
  pub name : (cell.first).place ≡ desk_place (bench_place lock.first)
  pub passes : lock.passes ≡ (lock.first).passes
  pub some : 1 ≤ lock.passes
  pub limit : (lock.first).limit ≡ most

-- ---- passes of the opening

-- the pass with this number of a host that begins with a version and a journal: its steps are the entries of the journal
-- that are its own, and it has seen that version
abbrev pub opened_pass : HostKey → ℕ → List Entry → ℕ → PassSeen
opened_pass key version journal number =
    record { key = key; number = number; steps = entries_of number journal; seen = version; words = []; splits = number + 1; shown = [] }

-- where it begins with version 0 and no entries, the pass has made no step
abbrev pub fresh_pass : HostKey → ℕ → PassSeen
fresh_pass key number = opened_pass key 0 [] number

-- ---- what calls leave

-- what was shown last
abbrev pub last_shown : List (List ℕ) → List ℕ
last_shown [] = []
last_shown (item ∷ []) = item
last_shown (item ∷ other ∷ items) = last_shown (other ∷ items)

-- a pass after one take of the cell that found this word
abbrev pub after_pin : PassSeen → ℕ → PassSeen
after_pin pass word = record pass { seen = word / 2; words = pass.words ++ word ∷ [] }

-- what a bench or a desk is a part of: a host, and the pass with this number of the host with this key
pub record HomeSeen : Type 0 where
  pub host : HostSeen
  pub key : HostKey
  pub number : ℕ

abbrev pub home_of : HostSeen → PassSeen → HomeSeen
home_of host pass = record { host = host; key = pass.key; number = pass.number }

-- a desk with a pass of its own, and how many of its pins were refused for memory
pub record OwnDeskSeen : Type 0 where
  pub host : HostSeen
  pub pass : PassSeen
  pub refused : ℕ
