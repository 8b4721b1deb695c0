use Rattle.tz_words.proofs.Forms.{every_form}
use Rattle.tz_words.proofs.form.all_forms.Goals as goal

pub returns : goal.returns
returns c = every_form
