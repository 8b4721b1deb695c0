-- The version of a database that a source is read as.
use Rattle.std.proofs.Common.{◌≡◌, ℕ, Bool, true, false, ◌&&◌, nat_le, nat_eq, if◌then◌else◌, IsTrue, List, [], ◌∷◌, length, drop, codes, Option, Some, None, refl, sym, ap, ⊎_elim, arith, subst}
use Rattle.std.specs.List.{list_all, starts_with}
use Rattle.std.proofs.lemmas.Bool.{cases_Bool, and_parts}
use Rattle.std.proofs.lemmas.Bool.Decides.{nat_tests}
use Rattle.tz_types.specs.Text.{is_printable, IsText}
use Rattle.tz_types.specs.declared.limit.TheConstants.{LONGEST_VERSION}
use Rattle.tz_types.specs.declared.source.Source.{Source}
use Rattle.tz_types.specs.declared.database.Db.{Db}
use Rattle.tz_specs.specs.Line.{lines_of}
use Rattle.tz_specs.specs.Reads.{without_white_end, is_version, version_of_line, version_of_text, version_of, Reads}
use Rattle.tz_text_laws.specs.Version.{IsVersionGiven}

unknown : IsText 1 LONGEST_VERSION (codes "unknown")
unknown = record { low = omega arith; high = omega arith; visible = refl }

version_text : (bytes : List ℕ) → IsTrue (is_version bytes) → IsText 1 LONGEST_VERSION bytes
version_text bytes h =
    let first = and_parts (nat_le 1 (length bytes) && nat_le (length bytes) LONGEST_VERSION) (list_all is_printable bytes) h in
    let sizes = and_parts (nat_le 1 (length bytes)) (nat_le (length bytes) LONGEST_VERSION) first.0 in
    let low = sizes.0 in
    let high = sizes.1 in
    record { low = grind (arith, nat_tests, low); high = grind (arith, nat_tests, high); visible = first.1 }

of_line : (line : List ℕ) → IsText 1 LONGEST_VERSION (version_of_line line)
of_line line =
    let version = without_white_end (drop 10 line) in
    let begins = starts_with nat_eq line (codes "# version ") in
    ⊎_elim
    (λ (is : (begins && is_version version) ≡ true). subst (IsText 1 LONGEST_VERSION) (sym (ap (λ (test : Bool). if test then version else codes "unknown") is)) (version_text version (and_parts begins (is_version version) is).1))
    (λ (isnt : (begins && is_version version) ≡ false). subst (IsText 1 LONGEST_VERSION) (sym (ap (λ (test : Bool). if test then version else codes "unknown") isnt)) unknown)
    (cases_Bool (begins && is_version version))

of_text : (text : List ℕ) → IsText 1 LONGEST_VERSION (version_of_text text)
unfolding version_of_text
of_text text = by_lines (lines_of text) refl
  where
    by_lines : (lines : List (List ℕ)) → lines_of text ≡ lines → IsText 1 LONGEST_VERSION (version_of_text text)
    by_lines [] is = rw is unknown
    by_lines (line ∷ lines) is = rw is (of_line line)

of_source : (source : Source) → IsVersionGiven source.version → IsText 1 LONGEST_VERSION (version_of source)
of_source source given = by_given source.version source.files refl refl given
  where
    by_given : (version : Option (List ℕ)) (files : List (List ℕ)) → source.version ≡ version → source.files ≡ files → IsVersionGiven version → IsText 1 LONGEST_VERSION (version_of source)
    by_given (Some version) files is are given = rw is given
    by_given None [] is are given = rw (is, are) unknown
    by_given None (file ∷ files) is are given = rw (is, are) (of_text file)

pub version_within : (source : Source) (db : Db) → Reads source db → IsVersionGiven source.version → IsText 1 LONGEST_VERSION db.version
version_within source db reads given = rw reads.version (of_source source given)
