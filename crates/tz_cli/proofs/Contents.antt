-- What was read of files, one after another, is their contents, and what stops the reading has its reason.
use Rattle.std.proofs.Common.{◌≡◌, ℕ, ◌+◌, ◌<◌, ◌≤◌, List, [], ◌∷◌, ◌++◌, length, take, min, Option, Some, None, IfSome, IsSomeAnd, refl, sym, ap, ◌∙◌, arith, length-append, suc, subst}
use Rattle.std.specs.List.{AllZip, Any, concat, slice_index_or}
use Rattle.std.proofs.lemmas.List.{length-take, take_all, append_assoc}
use Rattle.std.proofs.lemmas.List.Sums.{sum_by_push, sum_by-append, sum_by-cons}
use Rattle.tz_types.specs.declared.limit.TheConstants.{MOST_BYTES}
use Rattle.tz_types.specs.Source.{bytes_together}
use Rattle.tz_io.specs.Files.{FileContents, FilesState, IsFront, FileFailed}
use Rattle.tz_cli.specs.Outcome.{Holds, MayRead, MayReadAll, FailsToRead, ReadsTooMuch}
use Rattle.tz_cli.specs.Refusal.{RefusesFile, RefusesContents}
use Rattle.tz_cli.specs.declared.refusal.Refusal.{Refusal}
use Rattle.tz_cli.specs.declared.refusal.Refusal.TheVariants as refusals

whole : (limit : ℕ) (bytes content : List ℕ) → bytes ≡ take (limit + 1) content → length bytes ≤ limit → bytes ≡ content
whole limit bytes content is short =
    let long : length bytes ≡ min (limit + 1) (length content) = rw is (length-take (limit + 1) content) in
    is ∙ take_all (limit + 1) content (omega arith)

-- few enough bytes are all of the content
pub may_read : (files : FilesState) (name : List ℕ) (limit : ℕ) (bytes : List ℕ) → IsFront files name limit bytes → length bytes ≤ limit → MayRead files name bytes
may_read files name limit bytes front short = by_contents files.contents front
  where
    by_contents : (told : Option FileContents) → IfSome told (λ contents. (content : List ℕ) × (contents name ≡ Some content) × (bytes ≡ take (limit + 1) content)) → IfSome told (λ contents. contents name ≡ Some bytes)
    by_contents None front = tt
    by_contents (Some contents) front = front.1 ∙ ap Some (sym (whole limit bytes front.0 front.2 short))

-- more bytes than are left to read are a part of a content that has more
pub too_large : (files : FilesState) (name : List ℕ) (limit : ℕ) (bytes : List ℕ) → IsFront files name limit bytes → limit < length bytes → (content : List ℕ) × MayRead files name content × (limit < length content)
too_large files name limit bytes front long = by_contents files.contents front
  where
    by_contents : (told : Option FileContents) → IfSome told (λ contents. (content : List ℕ) × (contents name ≡ Some content) × (bytes ≡ take (limit + 1) content)) → (content : List ℕ) × IfSome told (λ contents. contents name ≡ Some content) × (limit < length content)
    by_contents None front = (bytes, tt, long)
    by_contents (Some contents) front =
        let all : length bytes ≡ min (limit + 1) (length front.0) = rw front.2 (length-take (limit + 1) front.0) in
        (front.0, front.1, omega arith)

-- one more of each
pub one_more : (files : FilesState) (names contents : List (List ℕ)) (name content : List ℕ) → MayReadAll files names contents → MayRead files name content → MayReadAll files (names ++ name ∷ []) (contents ++ content ∷ [])
one_more files [] [] name content all one = (one, tt)
one_more files [] (c ∷ contents) name content all one = absurd all
one_more files (n ∷ names) [] name content all one = absurd all
one_more files (n ∷ names) (c ∷ contents) name content all one =
    (all.0, one_more files names contents name content all.1 one)

-- Some first files were read, and so many bytes are left to read of the others, whose names these are.
pub record HasRead (files : FilesState) (names left_names contents : List (List ℕ)) (left : ℕ) : Type 0 where
  pub done : List (List ℕ)
  pub names_are : names ≡ done ++ left_names
  pub read : MayReadAll files done contents
  pub bytes : left + bytes_together contents ≡ MOST_BYTES

-- nothing is read yet
pub none_read : (files : FilesState) (names : List (List ℕ)) → HasRead files names names [] MOST_BYTES
none_read files names = record { done = []; names_are = refl; read = tt; bytes = refl }

-- one more file is read
pub next_read : (files : FilesState) (names left_names later contents : List (List ℕ)) (left less : ℕ) (name content : List ℕ) → HasRead files names left_names contents left → left_names ≡ name ∷ later → MayRead files name content → less + length content ≡ left → HasRead files names later (contents ++ content ∷ []) less
next_read files names left_names later contents left less name content has are may less_is =
    let count : bytes_together (contents ++ content ∷ []) ≡ bytes_together contents + length content = sum_by_push length contents content in
    let before = has.bytes in
    record {
      done = has.done ++ name ∷ [];
      names_are = has.names_are ∙ ap (λ (names : List (List ℕ)). has.done ++ names) are ∙ sym (append_assoc has.done (name ∷ []) later);
      read = one_more files has.done contents name content has.read may;
      bytes = omega (arith, count, before, less_is);
    }

pub few_read : (files : FilesState) (names left_names contents : List (List ℕ)) (left : ℕ) → HasRead files names left_names contents left → bytes_together contents ≤ MOST_BYTES
few_read files names left_names contents left has =
    let bytes = has.bytes in omega (arith, bytes)

-- where the next file isn't read, the reading is refused for that reason
pub next_refused : (before after : FilesState) (names left_names later contents : List (List ℕ)) (left : ℕ) (name : List ℕ) (refusal : Refusal) → HasRead before names left_names contents left → left_names ≡ name ∷ later → RefusesFile before after name left refusal → RefusesContents before after names refusal
next_refused before after names left_names later contents left name refusals.Memory has are refused = tt
next_refused before after names left_names later contents left name refusals.Read has are refused = (
  name,
  record {
    first = has.done;
    later = later;
    names_are = has.names_are ∙ ap (λ (names : List (List ℕ)). has.done ++ names) are;
    contents = contents;
    read = has.read;
    few_bytes = few_read before names left_names contents left has;
  },
  refused,
)
next_refused before after names left_names later contents left name refusals.TooLarge has are refused =
    let count : bytes_together (contents ++ refused.0 ∷ []) ≡ bytes_together contents + length refused.0 = sum_by_push length contents refused.0 in
    let bytes = has.bytes in
    let large = refused.2 in (
      contents ++ refused.0 ∷ [],
      record {
        first = has.done ++ name ∷ [];
        later = later;
        names_are = has.names_are ∙ ap (λ (names : List (List ℕ)). has.done ++ names) are ∙ sym (append_assoc has.done (name ∷ []) later);
        read = one_more before has.done contents name refused.0 has.read refused.1;
        many_bytes = omega (arith, count, bytes, large);
      },
    )
next_refused before after names left_names later contents left name refusal has are refused = absurd refused

-- as many contents as names
pub each_read : (files : FilesState) (names contents : List (List ℕ)) → MayReadAll files names contents → length contents ≡ length names
each_read files [] [] all = refl
each_read files [] (c ∷ contents) all = absurd all
each_read files (n ∷ names) [] all = absurd all
each_read files (n ∷ names) (c ∷ contents) all = ap suc (each_read files names contents all.1)

-- what may have been read of a name is what the files tell
same_content : (files : FilesState) (name content read : List ℕ) → Holds files name content → MayRead files name read → read ≡ content
same_content files name content read is may = by_contents files.contents is may
  where
    by_contents : (told : Option FileContents) → IsSomeAnd told (λ contents. contents name ≡ Some content) → IfSome told (λ contents. contents name ≡ Some read) → read ≡ content
    by_contents None is may = absurd is
    by_contents (Some contents) is may =
        let same : Some content ≡ Some read = sym is ∙ may in cc

pub same_contents : (files : FilesState) (names contents read : List (List ℕ)) → AllZip (Holds files) names contents → MayReadAll files names read → read ≡ contents
same_contents files [] [] [] are may = refl
same_contents files [] (c ∷ contents) read are may = absurd are
same_contents files [] [] (r ∷ read) are may = absurd may
same_contents files (n ∷ names) [] read are may = absurd are
same_contents files (n ∷ names) (c ∷ contents) [] are may = absurd may
same_contents files (n ∷ names) (c ∷ contents) (r ∷ read) are may =
    let one : r ≡ c = same_content files n c r are.0 may.0 in
    let others : read ≡ contents = same_contents files names contents read are.1 may.1 in cc

-- what was read of the first names are the first contents
first_contents : (files : FilesState) (first later contents read : List (List ℕ)) → AllZip (Holds files) (first ++ later) contents → MayReadAll files first read → (others : List (List ℕ)) × (contents ≡ read ++ others)
first_contents files [] later contents [] are may = (contents, refl)
first_contents files [] later contents (r ∷ read) are may = absurd may
first_contents files (n ∷ first) later [] read are may = absurd are
first_contents files (n ∷ first) later (c ∷ contents) [] are may = absurd may
first_contents files (n ∷ first) later (c ∷ contents) (r ∷ read) are may =
    let others = first_contents files first later contents read are.1 may.1 in
    let one : r ≡ c = same_content files n c r are.0 may.0 in
    (others.0, ap (λ (it : List ℕ). it ∷ contents) (sym one) ∙ ap (λ (them : List (List ℕ)). r ∷ them) others.1)

-- where first contents are too large, all are
pub too_much : (files : FilesState) (names contents read : List (List ℕ)) → AllZip (Holds files) names contents → ReadsTooMuch files names read → MOST_BYTES < bytes_together contents
too_much files names contents read are much =
    let all : AllZip (Holds files) (much.first ++ much.later) contents = subst (λ (them : List (List ℕ)). AllZip (Holds files) them contents) much.names_are are in
    let others = first_contents files much.first much.later contents read all much.read in
    let count : bytes_together contents ≡ bytes_together read + bytes_together others.0 = ap bytes_together others.1 ∙ sum_by-append length read others.0 in
    let many = much.many_bytes in
    omega (arith, count, many)

-- the name stands in the list
named_at : (first : List (List ℕ)) (name : List ℕ) (later : List (List ℕ)) → slice_index_or (first ++ name ∷ later) (length first) name ≡ name
named_at [] name later = refl
named_at (n ∷ first) name later = named_at first name later

-- where a read failed, some name of the list is one of which it did
pub some_failed : (before after : FilesState) (names : List (List ℕ)) → FailsToRead before after names → Any (FileFailed before after) names
some_failed before after names fails =
    let at = fails.1 in
    let long = length-append at.first (fails.0 ∷ at.later) in
    rw at.names_are (length at.first, fails.0, omega (arith, long), named_at at.first fails.0 at.later, fails.2)

-- joined contents have the bytes of all
pub concat_long : (contents : List (List ℕ)) → length (concat contents) ≡ bytes_together contents
concat_long [] = refl
concat_long (content ∷ contents) =
    length-append content (concat contents) ∙ ap (λ (count : ℕ). length content + count) (concat_long contents) ∙ sym (sum_by-cons length content contents)
