-- What is read of groups of files, one after another, and what stops the reading.
use Rattle.std.proofs.Common.{◌≡◌, ℕ, ◌≤◌, nat_lt, Bool, true, false, ◌||◌, List, [], ◌∷◌, ◌++◌, length, refl, ap, subst, arith}
use Rattle.std.specs.List.{slice_index_or}
use Rattle.std.proofs.lemmas.Bool.{true≢false, lt-ltb, le-ltb}
use Rattle.std.proofs.lemmas.List.{length-append}
use Rattle.tz_types.specs.declared.limit.TheConstants.{MOST_BYTES}
use Rattle.tz_types.specs.Source.{bytes_together}
use Rattle.tz_io.specs.Files.{FilesState}
use Rattle.tz_cli.specs.Outcome.{MayReadAll, ReadsTooMuch}
use Rattle.tz_cli.specs.Refusal.{RefusesContents}
use Rattle.tz_cli.specs.declared.refusal.Refusal.{Refusal}
use Rattle.tz_cli.specs.declared.refusal.Refusal.TheVariants as refusals
use Rattle.tz_cli.proofs.Contents.{same_contents, too_much, some_failed}
use Rattle.tz_top.specs.Groups.{HoldsGroups, MayReadGroups, is_too_large, ReadsGroupsUpTo, FailsToReadGroups, ReadsTooMuchOfGroups, AnyFailed}
use Rattle.tz_top.specs.Refusal.{RefusesGroups}

-- few bytes are not too many
pub few_enough : (those : List (List ℕ)) → bytes_together those ≤ MOST_BYTES → nat_lt MOST_BYTES (bytes_together those) ≡ false
few_enough those few = le-ltb MOST_BYTES (bytes_together those) few

-- one more group in front
pub few_before : (those : List (List ℕ)) (contents : List (List (List ℕ))) → bytes_together those ≤ MOST_BYTES → is_too_large contents ≡ false → is_too_large (those ∷ contents) ≡ false
few_before those contents few others = rw (few_enough those few) others

-- one more group at the end
pub few_after : (contents : List (List (List ℕ))) (those : List (List ℕ)) → is_too_large contents ≡ false → bytes_together those ≤ MOST_BYTES → is_too_large (contents ++ those ∷ []) ≡ false
few_after [] those few more = rw (few_enough those more) refl
few_after (first ∷ contents) those few more =
    let parts = neither (nat_lt MOST_BYTES (bytes_together first)) (is_too_large contents) few in
    rw parts.0 (few_after contents those parts.1 more)
  where
    neither : (a b : Bool) → (a || b) ≡ false → (a ≡ false) × (b ≡ false)
    neither true b is = absurd (true≢false is)
    neither false b is = (refl, is)

-- one more group is read
pub one_more_group : (files : FilesState) (groups contents : List (List (List ℕ))) (names those : List (List ℕ)) → MayReadGroups files groups contents → MayReadAll files names those → MayReadGroups files (groups ++ names ∷ []) (contents ++ those ∷ [])
one_more_group files [] [] names those all one = (one, tt)
one_more_group files [] (c ∷ contents) names those all one = absurd all
one_more_group files (g ∷ groups) [] names those all one = absurd all
one_more_group files (g ∷ groups) (c ∷ contents) names those all one =
    (all.0, one_more_group files groups contents names those all.1 one)

-- where a group isn't read, the reading is refused for that reason
pub group_refused : (before after : FilesState) (groups first later contents : List (List (List ℕ))) (names : List (List ℕ)) (refusal : Refusal) → groups ≡ first ++ names ∷ later → MayReadGroups before first contents → is_too_large contents ≡ false → RefusesContents before after names refusal → RefusesGroups before after groups refusal
group_refused before after groups first later contents names refusals.Memory are read few refused = tt
group_refused before after groups first later contents names refusals.Read are read few refused = (
  names,
  record { first = first; later = later; groups_are = are; contents = contents; read = read; few_bytes = few },
  refused,
)
group_refused before after groups first later contents names refusals.TooLarge are read few refused = (
  names,
  record { first = first; later = later; groups_are = are; contents = contents; read = read; few_bytes = few },
  refused.0,
  refused.1,
)
group_refused before after groups first later contents names refusal are read few refused = absurd refused

-- the same with one more group in front, which was read
in_front : (files : FilesState) (groups : List (List (List ℕ))) (group names those : List (List ℕ)) → MayReadAll files names those → bytes_together those ≤ MOST_BYTES → ReadsGroupsUpTo files groups group → ReadsGroupsUpTo files (names ∷ groups) group
in_front files groups group names those read few up =
    record {
      first = names ∷ up.first;
      later = up.later;
      groups_are = ap (λ (others : List (List (List ℕ))). names ∷ others) up.groups_are;
      contents = those ∷ up.contents;
      read = (read, up.read);
      few_bytes = few_before those up.contents few up.few_bytes;
    }

pub later_refused : (before after : FilesState) (groups : List (List (List ℕ))) (names those : List (List ℕ)) (refusal : Refusal) → MayReadAll before names those → bytes_together those ≤ MOST_BYTES → RefusesGroups before after groups refusal → RefusesGroups before after (names ∷ groups) refusal
later_refused before after groups names those refusals.Memory read few refused = tt
later_refused before after groups names those refusals.Read read few refused =
    (refused.0, in_front before groups refused.0 names those read few refused.1, refused.2)
later_refused before after groups names those refusals.TooLarge read few refused =
    (refused.0, in_front before groups refused.0 names those read few refused.1, refused.2, refused.3)
later_refused before after groups names those refusal read few refused = absurd refused

-- what may have been read of groups is what the files tell of them
pub same_groups : (files : FilesState) (groups contents read : List (List (List ℕ))) → HoldsGroups files groups contents → MayReadGroups files groups read → read ≡ contents
same_groups files [] [] [] are may = refl
same_groups files [] (c ∷ contents) read are may = absurd are
same_groups files [] [] (r ∷ read) are may = absurd may
same_groups files (g ∷ groups) [] read are may = absurd are
same_groups files (g ∷ groups) (c ∷ contents) [] are may = absurd may
same_groups files (g ∷ groups) (c ∷ contents) (r ∷ read) are may =
    let one : r ≡ c = same_contents files g c r are.0 may.0 in
    let others : read ≡ contents = same_groups files groups contents read are.1 may.1 in cc

-- where some first files of a group are too large together, the contents of some group are
large_group : (files : FilesState) (first later contents : List (List (List ℕ))) (group read : List (List ℕ)) → HoldsGroups files (first ++ group ∷ later) contents → ReadsTooMuch files group read → is_too_large contents ≡ true
large_group files [] later [] group read are much = absurd are
large_group files [] later (c ∷ contents) group read are much =
    rw (lt-ltb MOST_BYTES (bytes_together c) (too_much files group c read are.0 much)) refl
large_group files (g ∷ first) later [] group read are much = absurd are
large_group files (g ∷ first) later (c ∷ contents) group read are much =
    either (nat_lt MOST_BYTES (bytes_together c)) (is_too_large contents) (large_group files first later contents group read are.1 much)
  where
    either : (a b : Bool) → b ≡ true → (a || b) ≡ true
    either true b is = refl
    either false b is = is

pub too_large_groups : (files : FilesState) (groups contents : List (List (List ℕ))) → HoldsGroups files groups contents → ReadsTooMuchOfGroups files groups → is_too_large contents ≡ true
too_large_groups files groups contents are much =
    let up = much.1 in
    let all : HoldsGroups files (up.first ++ much.0 ∷ up.later) contents = subst (λ (them : List (List (List ℕ))). HoldsGroups files them contents) up.groups_are are in
    large_group files up.first up.later contents much.0 much.2 all much.3

-- the group stands in the list
group_at : (first : List (List (List ℕ))) (group : List (List ℕ)) (later : List (List (List ℕ))) → slice_index_or (first ++ group ∷ later) (length first) group ≡ group
group_at [] group later = refl
group_at (g ∷ first) group later = group_at first group later

-- where a read failed, some group has a file of which it did
pub some_group_failed : (before after : FilesState) (groups : List (List (List ℕ))) → FailsToReadGroups before after groups → AnyFailed before after groups
some_group_failed before after groups fails =
    let at = fails.1 in
    let long = length-append at.first (fails.0 ∷ at.later) in
    rw at.groups_are (length at.first, fails.0, omega (arith, long), group_at at.first fails.0 at.later, some_failed before after fails.0 fails.2)
