-- What the files of a map tell of a name is what the map has at it.
use Rattle.std.proofs.Common.{◌≡◌, ◌≢◌, ℕ, List, [], ◌∷◌, map, Bool, true, false, cond, Option, Some, None, refl, ap, sym, string_bytes, String, Vec}
use Rattle.std.specs.BTreeMap.{BTreeMap, get_by_text, is_at}
use Rattle.std.specs.Map.{lookup, update}
use Rattle.std.specs.Ordering.{nat_cmp}
use Rattle.std.specs.Cmp.Lexicographic.{slice_cmp}
use Rattle.std.specs.Str.{bytes_eq}
use Rattle.std.specs.declared.alloc.Global.{Global}
use Rattle.std.proofs.lemmas.Map.Text.{is_eq-slice_cmp}
use Rattle.std.proofs.lemmas.Slice.Eq.{bytes_eq-Decides}
use Rattle.std.proofs.lemmas.Bool.{false_from_ne_true}
use Rattle.ct_outside.specs.MemFiles.{files_of}
use Rattle.ct_outside.specs.MemShelf.{told_of}
use Rattle.ct_outside.specs.Shelf.{Told, absent, holds}

-- what the bytes at a name tell
abbrev pub told_by : Option (Vec ℕ Global) → Told
told_by None = absent
told_by (Some bytes) = holds bytes.items

-- a choice by a test, told
told_by-cond : (test : Bool) (bytes : Vec ℕ Global) (rest : Option (Vec ℕ Global)) (told : Told) → told ≡ told_by rest → cond test (holds bytes.items) told ≡ told_by (cond test (Some bytes) rest)
told_by-cond true bytes rest told same = refl
told_by-cond false bytes rest told same = same

told_of_entries : (entries : List (String Global × Vec ℕ Global)) (name : List ℕ) → told_of (map (λ entry. (string_bytes entry.0, entry.1.items)) entries) name ≡ told_by (lookup (is_at (λ k. slice_cmp nat_cmp name (string_bytes k))) entries)
told_of_entries [] name = refl
told_of_entries (entry ∷ entries) name =
    rw is_eq-slice_cmp (told_by-cond (bytes_eq name (string_bytes entry.0)) entry.1 _ _ (told_of_entries entries name))

pub told_of-files_of : (files : BTreeMap (String Global) (Vec ℕ Global)) (name : List ℕ) → told_of (files_of files) name ≡ told_by (get_by_text files name)
told_of-files_of files name = told_of_entries files.entries name

-- a map that was set at a name, seen at that name and at every other
pub update_same : (f : List ℕ → Option (Vec ℕ Global)) (name : List ℕ) (w : Option (Vec ℕ Global)) → update bytes_eq f name w name ≡ w
update_same f name w = ap (λ b. cond b w (f name)) ((bytes_eq-Decides name name).1 refl)

pub update_other : (f : List ℕ → Option (Vec ℕ Global)) (name other : List ℕ) (w : Option (Vec ℕ Global)) → other ≢ name → update bytes_eq f name w other ≡ f other
update_other f name other w differs = ap (λ b. cond b w (f other)) (false_from_ne_true _ (λ same. differs (sym ((bytes_eq-Decides name other).0 same))))
