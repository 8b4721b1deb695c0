-- What a batch reads: the files that its words name, and the script's text and the sources that their contents are.
use Rattle.std.specs.Prelude.{◌≡◌, ℕ, ◌≤◌, List, [], ◌∷◌, map, IsFalse}
use Rattle.std.specs.List.{concat}
use Rattle.tz_types.specs.declared.limit.TheConstants.{MOST_BYTES}
use Rattle.tz_types.specs.Source.{bytes_together}
use Rattle.tz_types.specs.declared.source.Source.{Source}
use Rattle.tz_version.specs.declared.sources.Sources.{Sources}
use Rattle.tz_words.specs.NamedText.{NamedText, IsSourceOf}
use Rattle.tz_words.specs.BatchCommand.{BatchCommand}
use Rattle.tz_words.specs.Command.{leap_files}
use Rattle.tz_io.specs.Files.{FilesState}
use Rattle.tz_cli.specs.Outcome.{MayReadAll}
use Rattle.tz_top.specs.Groups.{MayReadGroups, is_too_large}

-- the files of each text
abbrev pub text_groups : List NamedText → List (List (List ℕ))
text_groups texts = map (λ (text : NamedText). text.files) texts

-- The names of the files that a batch reads, in groups that may each have so many bytes together, in this order: the
-- script's file, that of the leap text, where there is one, and the files of each text.
abbrev pub file_groups : BatchCommand → List (List (List ℕ))
file_groups batch = (batch.script ∷ []) ∷ leap_files batch.leaps ∷ text_groups batch.texts

-- the sources are those of the texts named, each with the contents of its files
abbrev pub AreSourcesOf : List NamedText → List (List (List ℕ)) → List Source → Type 0
AreSourcesOf [] [] [] = Unit {0}
AreSourcesOf (text ∷ texts) (contents ∷ others) (source ∷ sources) =
    IsSourceOf text contents source × AreSourcesOf texts others sources
AreSourcesOf _ _ _ = ⊥

-- The contents of the files of a batch, group by group, are the text of its script, its leap text, which has no bytes
-- where it has no file, and those of its sources.
pub record AreTextsOf (batch : BatchCommand) (contents : List (List (List ℕ))) (script : List ℕ) (sources : Sources) : Type 0 where
  pub leaps : List (List ℕ)
  pub texts : List (List (List ℕ))
  pub contents_are : contents ≡ (script ∷ []) ∷ leaps ∷ texts
  pub leaps_are : sources.leaps ≡ concat leaps
  pub sources_are : AreSourcesOf batch.texts texts sources.texts

-- The source may be what was read of the text named.
pub record IsReadSource (files : FilesState) (text : NamedText) (source : Source) : Type 0 where
  pub contents : List (List ℕ)
  pub read : MayReadAll files text.files contents
  pub few_bytes : bytes_together contents ≤ MOST_BYTES
  pub is : IsSourceOf text contents source

-- The sources may be what was read of the texts named.
pub record AreReadSources (files : FilesState) (texts : List NamedText) (sources : List Source) : Type 0 where
  pub contents : List (List (List ℕ))
  pub read : MayReadGroups files (text_groups texts) contents
  pub few_bytes : IsFalse (is_too_large contents)
  pub are : AreSourcesOf texts contents sources

-- The files of the batch may have contents, none too large, that are the text of its script and its sources.
pub record AreReadTexts (files : FilesState) (batch : BatchCommand) (script : List ℕ) (sources : Sources) : Type 0 where
  pub contents : List (List (List ℕ))
  pub read : MayReadGroups files (file_groups batch) contents
  pub few_bytes : IsFalse (is_too_large contents)
  pub are : AreTextsOf batch contents script sources
