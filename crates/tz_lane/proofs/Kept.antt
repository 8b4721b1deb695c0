-- The slots that an answer tells keep the numbers that it tells.
use Rattle.std.proofs.Common.{◌≡◌, ℕ, zero, suc, ◌+◌, ◌<◌, true, List, [], ◌∷◌, length, map, Contains, refl, sym, ap, subst, ◌∙◌, arith}
use Rattle.std.specs.Prelude.{Some, slice_get}
use Rattle.std.proofs.lemmas.Option.{slice_get-get_or}
use Rattle.pin_book.specs.declared.listed.Listed.{Listed}
use Rattle.pin_book.specs.declared.write.Write.{Write}
use Rattle.pin_book.specs.Replay.{Edition, ListState, front_of, state_after, replays, front_number, front_slot, kept_number}
use Rattle.pin_book.specs.Pushes.{pushes}
use Rattle.pin_book.proofs.Journals.{front_slot_inside, front_kept}
use Rattle.pin_book.proofs.LawLemmas.{stands_for}
use Rattle.pin_book.proofs.ReplayLemmas.{replay_orderly}
use Rattle.pin_core.specs.declared.view.View.{View}
use Rattle.pin_table.specs.Handles.{Handle, MadeBy}
use Rattle.pin_table.specs.declared.sitting.Plan.{Plan}
use Rattle.tz_version.specs.declared.sources.Sources.{Sources}
use Rattle.tz_batch.specs.Answering.{IsToldAs}
use Rattle.tz_batch.specs.Batch.{row_of}
use Rattle.tz_batch.specs.Run.{InSlot}

-- the slot keeps the number
abbrev pub KeepsIn : ListState → ℕ → ℕ → Type 0
KeepsIn state slot n = slice_get state.kept slot ≡ Some n

-- a slot inside keeps the number that is kept there
pub keeps_here : (slots : ℕ) (journal : List Write) (n slot : ℕ) → 0 < slots → replays slots journal ≡ true → slot < slots → kept_number slots journal slot ≡ n
    → KeepsIn (state_after slots journal) slot n
unfolding kept_number
keeps_here slots journal n slot some replay inside is =
    let wide : length (state_after slots journal).kept ≡ slots = (replay_orderly slots journal some replay).wide in
    slice_get-get_or (state_after slots journal).kept slot 0 (omega (arith, wide, inside)) ∙ ap Some is

-- the front's slot keeps its number
pub front_keeps : (slots : ℕ) (journal : List Write) (n slot : ℕ) → 0 < slots → replays slots journal ≡ true → IsToldAs (front_of (state_after slots journal).listed) n slot
    → KeepsIn (state_after slots journal) slot n
unfolding front_number front_slot
front_keeps slots journal n slot some replay told =
    keeps_here slots journal n slot some replay
    (subst (λ (s : ℕ). s < slots) told.1 (front_slot_inside slots journal some replay))
    (ap (kept_number slots journal) (sym told.1) ∙ front_kept slots journal some replay ∙ told.0)

-- the slot of a handle keeps its number
pub handle_keeps : {P H : Type 0} {home : P → H} {source : P → ℕ} (plan : Plan P) (v : View) (handle : Handle P) → MadeBy home source plan v handle → replays plan.slots v.seen ≡ true
    → KeepsIn (state_after plan.slots v.seen) handle.slot handle.number
handle_keeps plan v handle made replay =
    let inside : handle.slot < plan.slots = made.holds.inside in
    keeps_here plan.slots v.seen handle.number handle.slot (omega (arith, inside)) replay inside (made.holds.kept ∙ sym made.number)

-- the slot of a listed version keeps its number
pub listed_keeps : (slots : ℕ) (journal : List Write) (edition : Edition) → 0 < slots → replays slots journal ≡ true → Contains (state_after slots journal).listed edition
    → KeepsIn (state_after slots journal) edition.slot edition.n
listed_keeps slots journal edition some replay has =
    let orderly = replay_orderly slots journal some replay in
    let stands = stands_for (length (pushes journal) + 2) (state_after slots journal).kept (state_after slots journal).listed edition orderly.stands has in
    slice_get-get_or (state_after slots journal).kept edition.slot 0 stands.inside ∙ ap Some stands.keeps

-- ---- what an answer tells ----

-- one version
pub one_told : (state : ListState) (n slot : ℕ) → KeepsIn state slot n → (told : InSlot) → Contains (record { n = n; slot = slot } ∷ []) told → KeepsIn state told.slot told.n
one_told state n slot keeps told (zero, low, at) = subst (λ (it : InSlot). KeepsIn state it.slot it.n) at keeps
one_told state n slot keeps told (suc k, low, at) = absurd (omega arith)

-- listed versions
pub rows_told : (state : ListState) (home : Sources) (listed : List Edition) → ((edition : Edition) → Contains listed edition → KeepsIn state edition.slot edition.n) → (told : InSlot)
    → Contains (map (λ (row : Listed). record { n = row.n; slot = row.slot }) (map (row_of home) listed)) told → KeepsIn state told.slot told.n
rows_told state home [] keeps told (k, low, at) = absurd (omega arith)
rows_told state home (edition ∷ listed) keeps told (zero, low, at) =
    subst (λ (it : InSlot). KeepsIn state it.slot it.n) at (keeps edition (zero, omega arith, refl))
rows_told state home (edition ∷ listed) keeps told (suc k, low, at) =
    rows_told state home listed (λ other has. keeps other (suc has.0, omega (arith, has.1), has.2)) told (k, omega arith, at)
