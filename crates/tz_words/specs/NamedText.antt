-- Words that name the files of a text, and the version that may be given with them.
use Rattle.std.specs.Prelude.{◌≡◌, ℕ, ◌==◌, nat_le, Bool, not, ◌&&◌, if◌then◌else◌, List, [], ◌∷◌, length, true, Option, Some, None}
use Rattle.std.specs.Borrow.{Bor}
use Rattle.std.specs.List.{list_all}
use Rattle.tz_types.specs.declared.limit.TheConstants.{MOST_FILES}
use Rattle.tz_types.specs.declared.source.Source.{Source}
use Rattle.tz_specs.specs.Choice.{only_if}
use Rattle.tz_specs.specs.Parts.{parts_at}
use Rattle.tz_specs.specs.Reads.{is_version}
use Rattle.tz_specs.specs.Word.{is_empty}

-- a version, where one is given, and the names of the files, in the order in which they are read
pub record NamedText : Type 0 where
  pub version : Option (List ℕ)
  pub files : List (List ℕ)

-- the parts of a word between its commas
abbrev pub parts_of : List ℕ → List (List ℕ)
parts_of word = parts_at 0x2c word

-- each name has a byte
abbrev pub are_names : List (List ℕ) → Bool
are_names names = list_all (λ name. not (is_empty name)) names

-- one to sixteen names of files
abbrev pub are_file_names : List (List ℕ) → Bool
are_file_names names = nat_le 1 (length names) && nat_le (length names) MOST_FILES && are_names names

-- no version, or one of 1 to 64 visible bytes
abbrev pub may_be_given : Option (List ℕ) → Bool
may_be_given None = true
may_be_given (Some version) = is_version version

-- the text with that version, if any, and files of these names
abbrev pub text_with_names : Option (List ℕ) → List (List ℕ) → Option NamedText
text_with_names version names = only_if (are_file_names names) (record { version = version; files = names })

-- the first part is a version of 1 to 64 visible bytes, and the others are names
abbrev pub text_with_version : List (List ℕ) → Option NamedText
text_with_version [] = None
text_with_version (version ∷ names) = if is_version version then text_with_names (Some version) names else None

-- What a word names: where it begins with `=`, what follows that in the first part is the version, and no file's name.
abbrev pub named_text_of : List ℕ → Option NamedText
named_text_of [] = None
named_text_of (byte ∷ bytes) =
    if byte == 0x3d then text_with_version (parts_of bytes) else text_with_names None (parts_of (byte ∷ bytes))

-- the names behind a first one
abbrev pub parts_left : Option (Bor (List ℕ)) → List (List ℕ)
parts_left None = []
parts_left (Some later) = parts_of later.now

-- The source has the version of the text named, and these contents for its files.
pub record IsSourceOf (text : NamedText) (contents : List (List ℕ)) (source : Source) : Type 0 where
  pub version_is : source.version ≡ text.version
  pub files_are : source.files ≡ contents
