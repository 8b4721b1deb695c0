-- What a source answers has one status: the reasons exclude each other.
use Rattle.std.proofs.Common.{◌≡◌, ℕ, List, Option, Some, None, refl}
use Rattle.tz_types.specs.declared.source.Source.{Source}
use Rattle.tz_types.specs.declared.database.Db.{Db}
use Rattle.tz_specs.specs.Reads.{Reads}
use Rattle.tz_specs.proofs.TextLemmas.{read_isnt_refused}
use Rattle.tz_cli.specs.SourceAnswer.{IsThere, IsMissing, SourceAnswers}
use Rattle.tz_words.specs.declared.status.Status.{Status}
use Rattle.tz_words.specs.declared.status.Status.TheVariants as statuses
use Rattle.tz_cli.proofs.Texts.{some_not_none}

not_missing : (source : Source) (asked : Option (List ℕ)) (db : Db) → Reads source db → IsThere db asked → IsMissing source asked → ⊥
not_missing source None db reads there missing = missing
not_missing source (Some name) db reads there missing = some_not_none source name db missing.db reads missing.reads there missing.none

missing_reads : (source : Source) (asked : Option (List ℕ)) → IsMissing source asked → (db : Db) × Reads source db
missing_reads source None missing = absurd missing
missing_reads source (Some name) missing = (missing.db, missing.reads)

-- where what is answered is answered by a database of the source that has what is asked for, and has one status
pub answers_once : (source : Source) (asked : Option (List ℕ)) (inside : Type 0) (answers : Status → List ℕ → Type 0) (r s : Status) (line other : List ℕ)
    → ((status : Status) (line : List ℕ) → answers status line → (db : Db) × Reads source db × IsThere db asked)
    → (answers r line → answers s other → r ≡ s)
    → SourceAnswers source asked inside answers r line → SourceAnswers source asked inside answers s other → r ≡ s
answers_once source asked inside answers statuses.Text statuses.Text line other has same a b = refl
answers_once source asked inside answers statuses.Text statuses.NoZone line other has same a b =
    let read = missing_reads source asked b.0 in
    absurd (read_isnt_refused source read.0 a.0 read.1 a.1)
answers_once source asked inside answers statuses.Text statuses.Range line other has same a b =
    absurd (read_isnt_refused source b.0.db a.0 b.0.reads a.1)
answers_once source asked inside answers statuses.Text s line other has same a b =
    let read = has s other b.1 in
    absurd (read_isnt_refused source read.0 a.0 read.1 a.1)
answers_once source asked inside answers statuses.NoZone statuses.Text line other has same a b =
    let read = missing_reads source asked a.0 in
    absurd (read_isnt_refused source read.0 b.0 read.1 b.1)
answers_once source asked inside answers statuses.NoZone statuses.NoZone line other has same a b = refl
answers_once source asked inside answers statuses.NoZone statuses.Range line other has same a b =
    absurd (not_missing source asked b.0.db b.0.reads b.0.there a.0)
answers_once source asked inside answers statuses.NoZone s line other has same a b =
    let read = has s other b.1 in
    absurd (not_missing source asked read.0 read.1 read.2 a.0)
answers_once source asked inside answers statuses.Range statuses.Text line other has same a b =
    absurd (read_isnt_refused source a.0.db b.0 a.0.reads b.1)
answers_once source asked inside answers statuses.Range statuses.NoZone line other has same a b =
    absurd (not_missing source asked a.0.db a.0.reads a.0.there b.0)
answers_once source asked inside answers statuses.Range statuses.Range line other has same a b = refl
answers_once source asked inside answers statuses.Range s line other has same a b = absurd (a.0.outside b.0)
answers_once source asked inside answers r statuses.Text line other has same a b =
    let read = has r line a.1 in
    absurd (read_isnt_refused source read.0 b.0 read.1 b.1)
answers_once source asked inside answers r statuses.NoZone line other has same a b =
    let read = has r line a.1 in
    absurd (not_missing source asked read.0 read.1 read.2 b.0)
answers_once source asked inside answers r statuses.Range line other has same a b = absurd (b.0.outside a.0)
answers_once source asked inside answers r s line other has same a b = same a.1 b.1
