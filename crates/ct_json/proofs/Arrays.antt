-- Values of the crate of JSON as the definitions see them.
use Rattle.std.proofs.Common.{◌≡◌, ℕ, List, [], ◌∷◌, map, Bool, true, false, Option, Some, None, Result, Ok, Err, if◌then◌else◌, refl, sym, ap, ◌∙◌}
use Rattle.std.specs.Option.{option_map}
use Rattle.std.specs.Str.{is_utf8, IsUtf8}
use Rattle.std.proofs.lemmas.Str.{IsUtf8-from_is_utf8, is_utf8-from_IsUtf8}
use Rattle.serde_json.specs.Data.{Data, Items}
use Rattle.serde_json.specs.Read.{read}
use Rattle.serde_json.specs.Find.{as_array}
use Rattle.serde_json.specs.View.{view, items_of, items_view}
use Rattle.serde_json.specs.declared.value.Value.{Value}
use Rattle.serde_json.specs.declared.error.Error.{Error}
use Rattle.serde_json.specs.Errors.{IsMemory}
use Rattle.ct_input.specs.declared.fault.Fault.{Fault}
use Rattle.ct_input.specs.declared.fault.Fault.TheVariants.{JsonSyntax}
use Rattle.ct_input.specs.declared.path.PathStep.{PathStep}
use Rattle.ct_input.specs.declared.path.JsonReason.TheVariants.{Kind}
use Rattle.ct_input.specs.declared.fault.InputStop.{InputStop}
use Rattle.ct_input.specs.declared.fault.InputStop.TheVariants as stops
use Rattle.ct_input.specs.Sheet.{Fails}
use Rattle.ct_json.specs.Refusing.{IsUnread}
use Rattle.ct_json.specs.Values.{list_in, or_refuse, array_at}
use Rattle.ct_json.specs.Files.{or_syntax, value_of}

list_in-items_of : (ds : List Data) → list_in (items_of ds) ≡ ds
list_in-items_of [] = refl
list_in-items_of (d ∷ ds) = ap (λ (es : List Data). d ∷ es) (list_in-items_of ds)

pub array_read : (here : List PathStep) (d : Data) (vs : List Value) → as_array d ≡ Some (items_view vs) → array_at here d ≡ Ok (map view vs)
array_read here d vs is = rw is (ap (λ (ds : List Data). Ok ds) (list_in-items_of (map view vs)))

pub value_read : (bytes : List ℕ) (d : Data) → IsUtf8 bytes → read bytes ≡ Some d → value_of bytes ≡ Ok d
value_read bytes d utf8 is = rw (is_utf8-from_IsUtf8 bytes utf8, is) refl

no_value : (bytes : List ℕ) (test : Bool) → (test ≡ true → read bytes ≡ None) → or_syntax (if test then read bytes else None) ≡ Err JsonSyntax
no_value bytes true none = rw (none refl) refl
no_value bytes false none = refl

value_refused : (bytes : List ℕ) → (IsUtf8 bytes → read bytes ≡ None) → value_of bytes ≡ Err JsonSyntax
value_refused bytes none = no_value bytes (is_utf8 bytes) (λ e. none (IsUtf8-from_is_utf8 bytes e))

pub value_fails : (bytes : List ℕ) (stop : InputStop) (error : Error) → IsUnread stop error → (¬ (IsMemory error) → IsUtf8 bytes → read bytes ≡ None) → Fails stop (value_of bytes)
value_fails bytes stops.Memory error unread none = tt
value_fails bytes (stops.Fault f) error unread none = rw unread.0 (value_refused bytes (none unread.1))
