-- The rows of a listing, as the list's versions with the names of their sources.
use Rattle.std.proofs.Common.{◌≡◌, ℕ, suc, ◌+◌, ◌-◌, ◌<◌, true, List, [], ◌∷◌, length, map, Contains, refl, sym, ap, ap₂, ◌∙◌, arith}
use Rattle.std.proofs.lemmas.List.{length-map, get_or-map}
use Rattle.pin_book.specs.declared.listed.Listed.{Listed}
use Rattle.pin_book.specs.declared.write.Write.{Write}
use Rattle.pin_book.specs.Replay.{Edition, state_after, replays}
use Rattle.pin_book.specs.Names.{name_of, with_name, with_names}
use Rattle.pin_book.specs.Pushes.{pushes}
use Rattle.pin_book.proofs.LawLemmas.{stands_for}
use Rattle.pin_book.proofs.ReplayLemmas.{replay_orderly}
use Rattle.pin_book.proofs.SourceLemmas.{listed_source}
use Rattle.pin_table.specs.Sources.{sources}
use Rattle.pin_table.proofs.SourceLemmas.{source_at}
use Rattle.tz_version.specs.declared.sources.Sources.{Sources}
use Rattle.tz_version.specs.Release.{version_name}
use Rattle.tz_batch.specs.Batch.{row_of}

-- each listed version has the name of its source
listed_name : (home : Sources) (slots : ℕ) (journal : List Write) (e : Edition) → 0 < slots → replays slots journal ≡ true → Contains (state_after slots journal).listed e
    → name_of (map (version_name home) (sources journal)) e.n ≡ version_name home e.src
listed_name home slots journal e some replay has =
    let orderly = replay_orderly slots journal some replay in
    let stands = stands_for (length (pushes journal) + 2) (state_after slots journal).kept (state_after slots journal).listed e orderly.stands has in
    let long = length-map (pushes journal) (λ (it : Edition). it.src) in
    let inside : e.n - 1 < length (sources journal) = omega (arith, stands.below, stands.positive, long) in
    let there = get_or-map (version_name home) (sources journal) (e.n - 1) 0 [] inside in
    there ∙ ap (version_name home) (sym (source_at journal e.n) ∙ sym (listed_source slots journal e some replay has))

-- rows that are the same one by one are the same
rows_same : (f g : Edition → Listed) (es : List Edition) → ((e : Edition) → Contains es e → f e ≡ g e) → map f es ≡ map g es
rows_same f g [] same = refl
rows_same f g (e ∷ es) same =
    ap₂ (λ (row : Listed) (rows : List Listed). row ∷ rows) (same e (0, omega arith, refl)) (rows_same f g es (λ other has. same other (suc has.0, omega (arith, has.1), has.2)))

-- the rows of the book of a journal are the versions that are listed, each with its name
pub book_rows : (home : Sources) (slots : ℕ) (journal : List Write) → 0 < slots → replays slots journal ≡ true
    → with_names (map (version_name home) (sources journal)) (state_after slots journal).listed ≡ map (row_of home) (state_after slots journal).listed
book_rows home slots journal some replay =
    rows_same (with_name (map (version_name home) (sources journal))) (row_of home) (state_after slots journal).listed
    (λ e has. ap (λ (name : List ℕ). record { n = e.n; src = e.src; slot = e.slot; name = name }) (listed_name home slots journal e some replay has))
