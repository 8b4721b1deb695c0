-- The source of a version stays as the journal goes on.
use Rattle.std.proofs.Common.{◌≡◌, ℕ, zero, suc, ◌+◌, ◌-◌, ◌≤◌, ◌<◌, List, [], ◌∷◌, ◌++◌, map, length, take, drop, get_or, sym, refl, ap, ◌∙◌, arith, true}
use Rattle.std.proofs.lemmas.List.{length-append, length-map, map-append, get_or_append_left, get_or-append_right, take-append-drop}
use Rattle.std.proofs.lemmas.List.Concat.{flat_map-append}
use Rattle.pin_book.specs.declared.write.Write.{Write}
use Rattle.pin_book.specs.declared.write.Change.TheVariants.{Push}
use Rattle.pin_book.specs.Replay.{Edition, front_number, replays}
use Rattle.pin_book.specs.Pushes.{pushed_by, pushes}
use Rattle.pin_book.proofs.ReplayLemmas.{replay_orderly}
use Rattle.pin_book.proofs.Journals.{replays_take}
use Rattle.pin_book.specs.Sources.{first_edition, editions, source_of}
use Rattle.pin_table.specs.Sources.{sources}

-- more writes add sources behind those of the first writes
pub sources-append : (xs ys : List Write) → sources (xs ++ ys) ≡ sources xs ++ map (λ (e : Edition). e.src) (pushes ys)
sources-append xs ys =
    ap (λ (es : List Edition). 0 ∷ map (λ (e : Edition). e.src) es) (flat_map-append (λ (w : Write). pushed_by w.change) xs ys)
    ∙ ap (λ (ns : List ℕ). 0 ∷ ns) (map-append (λ (e : Edition). e.src) (pushes xs) (pushes ys))

-- there are as many sources as the front's number says
pub source_count : (slots : ℕ) (journal : List Write) → 0 < slots → replays slots journal ≡ true → length (sources journal) ≡ front_number slots journal
unfolding front_number
source_count slots journal some_slot is =
    let front = (replay_orderly slots journal some_slot is).front in let many = length-map (pushes journal) (λ (e : Edition). e.src) in omega arith

-- a source stands in the list of sources at the place of its number
at_source : (es : List Edition) (i : ℕ) → (get_or es i first_edition).src ≡ get_or (map (λ (e : Edition). e.src) es) i 0
at_source [] i = refl
at_source (e ∷ es) zero = refl
at_source (e ∷ es) (suc i) = at_source es i

pub source_at : (journal : List Write) (number : ℕ) → source_of journal number ≡ get_or (sources journal) (number - 1) 0
unfolding source_of
source_at journal number = at_source (editions journal) (number - 1)

pub source_stays : (slots number : ℕ) (xs ys : List Write) → 0 < slots → replays slots xs ≡ true → 0 < number → number ≤ front_number slots xs → source_of (xs ++ ys) number ≡ source_of xs number
source_stays slots number xs ys some_slot is some old =
    let many = source_count slots xs some_slot is in
    source_at (xs ++ ys) number
    ∙ ap (λ (ns : List ℕ). get_or ns (number - 1) 0) (sources-append xs ys) ∙ get_or_append_left (sources xs) (map (λ (e : Edition). e.src) (pushes ys)) 0 (number - 1) (omega arith)
    ∙ sym (source_at xs number)

-- the same, where the first writes are known as a front part of the journal
pub source_kept : (slots number : ℕ) (journal seen : List Write) → 0 < slots → replays slots journal ≡ true → take (length seen) journal ≡ seen → 0 < number → number ≤ front_number slots seen
    → source_of journal number ≡ source_of seen number
source_kept slots number journal seen some_slot is front some old =
    let part : replays slots seen ≡ true = ap (replays slots) (sym front) ∙ replays_take slots journal (length seen) is in
    ap (λ (l : List Write). source_of l number) (sym (take-append-drop (length seen) journal) ∙ ap (λ (l : List Write). l ++ drop (length seen) journal) front)
    ∙ source_stays slots number seen (drop (length seen) journal) some_slot part some old

-- the version that a push lists is of the source that the push names
pub source_pushed : (slots n src slot : ℕ) (journal : List Write) (write : Write) → 0 < slots → replays slots journal ≡ true → write.change ≡ Push n src slot → n ≡ front_number slots journal + 1
    → source_of (journal ++ write ∷ []) n ≡ src
source_pushed slots n src slot journal write some_slot is push next =
    let many = source_count slots journal some_slot is in
    source_at (journal ++ write ∷ []) n
    ∙ ap (λ (ns : List ℕ). get_or ns (n - 1) 0) (sources-append journal (write ∷ []))
    ∙ get_or-append_right (sources journal) (map (λ (e : Edition). e.src) (pushes (write ∷ []))) (length (sources journal)) (n - 1) 0 refl (omega arith)
    ∙ (let at : n - 1 - length (sources journal) ≡ 0 = omega arith in
    ap (λ (i : ℕ). get_or (map (λ (e : Edition). e.src) (pushes (write ∷ []))) i 0) at ∙ ap (λ c. get_or (map (λ (e : Edition). e.src) (pushed_by c ++ [])) 0 0) push)

-- the front has a number from 1 on
pub front_some : (slots : ℕ) (journal : List Write) → 0 < slots → replays slots journal ≡ true → 0 < front_number slots journal
front_some slots journal some_slot is = let many = source_count slots journal some_slot is in omega arith

-- the front's number rises with more writes
pub front_rises : (slots w : ℕ) (journal : List Write) → 0 < slots → replays slots journal ≡ true → front_number slots (take w journal) ≤ front_number slots journal
front_rises slots w journal some_slot is =
    let all = source_count slots journal some_slot is in let part = source_count slots (take w journal) some_slot (replays_take slots journal w is) in
    let whole = ap (λ (l : List Write). length (sources l)) (sym (take-append-drop w journal)) ∙ ap (λ (ns : List ℕ). length ns) (sources-append (take w journal) (drop w journal))
    ∙ length-append (sources (take w journal)) (map (λ (e : Edition). e.src) (pushes (drop w journal))) in omega arith
