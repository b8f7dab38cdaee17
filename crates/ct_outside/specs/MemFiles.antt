-- The files of a map by their names.
use Rattle.std.specs.Prelude.{ℕ, List, map, string_bytes, String, Vec}
use Rattle.std.specs.BTreeMap.{BTreeMap}
use Rattle.std.specs.declared.alloc.Global.{Global}

-- each name with its bytes, in the order of the names
abbrev pub files_of : BTreeMap (String Global) (Vec ℕ Global) → List (List ℕ × List ℕ)
files_of files = map (λ entry. (string_bytes entry.0, entry.1.items)) files.entries
