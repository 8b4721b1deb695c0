-- Every form is listed.
use Rattle.std.proofs.Common.{[], ◌∷◌, Contains, refl, arith}
use Rattle.tz_words.specs.declared.form.Form.{Form}
use Rattle.tz_words.specs.declared.form.Form.TheVariants as forms

pub every_form : (form : Form) → Contains (forms.Info ∷ forms.Local ∷ forms.Moves ∷ forms.Days ∷ forms.Tzif ∷ forms.Dump ∷ forms.Check ∷ forms.Clock ∷ forms.Batch ∷ []) form
every_form forms.Info = (0, omega arith, refl)
every_form forms.Local = (1, omega arith, refl)
every_form forms.Moves = (2, omega arith, refl)
every_form forms.Days = (3, omega arith, refl)
every_form forms.Tzif = (4, omega arith, refl)
every_form forms.Dump = (5, omega arith, refl)
every_form forms.Check = (6, omega arith, refl)
every_form forms.Clock = (7, omega arith, refl)
every_form forms.Batch = (8, omega arith, refl)
