-- A source is read in one way, or refused in one way, and not both.
use Rattle.std.proofs.Common.{◌≡◌, ℕ, ◌<◌, inl, inr, ◌&&◌, ◌||◌, ◌==◌, nat_lt, nat_le, IsTrue, List, [], length, Ok, Err, refl, sym, ap, ◌∙◌, arith, subst}
use Rattle.std.proofs.lemmas.Bool.Decides.{nat_tests}
use Rattle.std.proofs.lemmas.List.Elements.{All-contains}
use Rattle.tz_types.specs.declared.fault.Fault.{Fault}
use Rattle.tz_types.specs.declared.fault.LineFault.{LineFault}
use Rattle.tz_types.specs.declared.source.Source.{Source}
use Rattle.tz_types.specs.declared.database.Db.{Db}
use Rattle.tz_specs.specs.Contents.{Contents, contents_of}
use Rattle.tz_specs.specs.Whole.{whole_faults, is_told_before, IsLeast}
use Rattle.tz_specs.specs.Reads.{Reads, RefusesWhole, RefusesFiles, Refuses, place_in}
use Rattle.tz_specs.proofs.Sameness.{same_sets}

same_line : (a b c d : ℕ) → IsTrue (nat_lt a b || ((a == b) && nat_le c d)) → IsTrue (nat_lt b a || ((b == a) && nat_le d c)) → (a ≡ b) × (c ≡ d)
same_line a b c d first second = (grind (arith, nat_tests), grind (arith, nat_tests))

-- of some faults one is the least
pub least_is_one : (faults : List LineFault) (a b : LineFault) → IsLeast faults a → IsLeast faults b → a ≡ b
least_is_one faults a b first second =
    let before = All-contains (λ other. IsTrue (is_told_before a other)) faults b first.least second.among in
    let after = All-contains (λ other. IsTrue (is_told_before b other)) faults a second.least first.among in
    let same = same_line a.line b.line a.cause b.cause before after in
    let line : a.line ≡ b.line = same.0 in
    let cause : a.cause ≡ b.cause = same.1 in
    λ i. record { line = line i; cause = cause i }

-- of no faults none is
pub none_is_least : (faults : List LineFault) (fault : LineFault) → faults ≡ [] → IsLeast faults fault → ⊥
none_is_least faults fault none least =
    let place = least.among in
    let few : length faults ≡ 0 = ap length none in
    let below : place.0 < length faults = place.1 in
    absurd (omega (arith, few, below))

pub same_contents : (files : List (List ℕ)) (a b : Contents) → contents_of files ≡ Ok a → contents_of files ≡ Ok b → a ≡ b
same_contents text a b first second = let both : Ok a ≡ Ok b = sym first ∙ second in cc

pub ok_or_err : (files : List (List ℕ)) (a : Contents) (fault : LineFault) → contents_of files ≡ Ok a → contents_of files ≡ Err fault → ⊥
ok_or_err text a fault first second = let both : Ok a ≡ Err fault = sym first ∙ second in cc

same_fault : (files : List (List ℕ)) (a b : LineFault) → contents_of files ≡ Err a → contents_of files ≡ Err b → a ≡ b
same_fault text a b first second = let both : Err a ≡ Err b = sym first ∙ second in cc

whole_fault_is_one : (files : List (List ℕ)) (a b : LineFault) → RefusesWhole files a → RefusesWhole files b → a ≡ b
whole_fault_is_one files a b first second =
    let contents = same_contents files first.contents second.contents first.given second.given in
    let sets = same_sets first.sets second.sets (first.sets_are ∙ ap (λ (it : Contents). it.sets) contents ∙ sym second.sets_are) in
    let faults : whole_faults first.sets first.contents ≡ whole_faults second.sets second.contents = rw (sets, contents) refl in
    least_is_one (whole_faults first.sets first.contents) a b first.least (subst (λ it. IsLeast it b) (sym faults) second.least)

one_line_fault : (files : List (List ℕ)) (a b : LineFault) → RefusesFiles files a → RefusesFiles files b → a ≡ b
one_line_fault files a b (inl first) (inl second) = same_fault files a b first second
one_line_fault files a b (inl first) (inr second) = absurd (ok_or_err files second.contents a second.given first)
one_line_fault files a b (inr first) (inl second) = absurd (ok_or_err files first.contents b first.given second)
one_line_fault files a b (inr first) (inr second) = whole_fault_is_one files a b first second

pub one_fault : (source : Source) (a b : Fault) → Refuses source a → Refuses source b → a ≡ b
one_fault source a b first second =
    let same = one_line_fault source.files (record { line = first.line; cause = a.cause }) (record { line = second.line; cause = b.cause }) first.refused second.refused in
    let line : first.line ≡ second.line = ap (λ (it : LineFault). it.line) same in
    let cause : a.cause ≡ b.cause = ap (λ (it : LineFault). it.cause) same in
    let place : (a.file, a.line) ≡ (b.file, b.line) = first.place ∙ ap (place_in source.files) line ∙ sym second.place in
    λ i. record { file = (place i).0; line = (place i).1; cause = cause i }

pub read_isnt_refused : (source : Source) (db : Db) (fault : Fault) → Reads source db → Refuses source fault → ⊥
read_isnt_refused source db fault reads refuses = by_refusal refuses.refused
  where
    by_refusal : RefusesFiles source.files (record { line = refuses.line; cause = fault.cause }) → ⊥
    by_refusal (inl line) = ok_or_err source.files reads.contents (record { line = refuses.line; cause = fault.cause }) reads.given line
    by_refusal (inr whole) =
        let contents = same_contents source.files reads.contents whole.contents reads.given whole.given in
        let sets = same_sets db.sets whole.sets (reads.sets ∙ ap (λ (it : Contents). it.sets) contents ∙ sym whole.sets_are) in
        let faults : whole_faults whole.sets whole.contents ≡ [] = rw (← sets, ← contents) reads.no_fault in
        none_is_least (whole_faults whole.sets whole.contents) (record { line = refuses.line; cause = fault.cause }) faults whole.least
