-- What holds of form texts. Each statement is the contract of a function in the module `laws`.
use Rattle.std.specs.Prelude.{◌≡◌, ◌++◌, ℕ, List, IsOk, IsErr, Ok, Err}
use Rattle.ct_text.specs.Tokens.{text_of}
use Rattle.ct_instance.specs.Instance.{Problem}
use Rattle.ct_input.specs.declared.fault.Fault.{Fault}
use Rattle.ct_input.specs.Sheet.{sheet_of}
use Rattle.ct_input.specs.Files.{value_in, instance_file}
use Rattle.ct_input.specs.FirstFault.{IsFirstFault}
use Rattle.ct_input.specs.Cut.{IsCutBefore, EndsWithEnd}
use Rattle.ct_form.specs.Forms.{Form}
use Rattle.ct_form.specs.EqualityForms.{plain_form, IsForm}
use Rattle.ct_form_text.specs.FormText.{form_text}
use Rattle.ct_form_text.specs.Files.{form_file}

-- A fault of a form text that a token has is the first.
abbrev pub FormFaultIsFirst : Type 0
FormFaultIsFirst = (bytes : List ℕ) (fault : Fault) → value_in form_text bytes ≡ Err fault → IsFirstFault form_text (sheet_of (text_of bytes)) fault

-- a form file stands for a form
abbrev pub TextIsForm : Type 0
TextIsForm = (bytes : List ℕ) (f : Form) → form_file bytes ≡ Ok f → IsForm f

-- and an instance file for the form of its instance
abbrev pub InstanceTextIsPlain : Type 0
InstanceTextIsPlain = (bytes : List ℕ) (i : Problem) → instance_file bytes ≡ Ok i → form_file bytes ≡ Ok (plain_form i)

-- the front of a form file that ends before the last byte of its last token is refused
abbrev pub CutFormHasFault : Type 0
CutFormHasFault = (front more : List ℕ) → IsOk (form_file (front ++ more)) → IsCutBefore front more → IsErr (form_file front)

abbrev pub FormEndsWithEnd : Type 0
FormEndsWithEnd = (bytes : List ℕ) → IsOk (form_file bytes) → EndsWithEnd bytes
