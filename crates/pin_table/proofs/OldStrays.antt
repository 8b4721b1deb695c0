-- A stray's position is before the last write, since the word of its slot had another number than the front's.
use Rattle.std.proofs.Common.{◌≡◌, ◌≢◌, ℕ, zero, suc, ◌+◌, ◌<◌, List, [], ◌∷◌, ◌++◌, length, take, drop, set, sym, refl, ap, ◌∙◌, subst, ⊎_elim, arith, false, ◌==◌, eq-eqb}
use Rattle.std.specs.Prelude.{is_some}
use mathlib.Core.Option.{some, some-injective, some-ne-none}
use lib.ListN.{get_elem?}
use Rattle.std.specs.List.{Contains, remove}
use Rattle.std.proofs.lemmas.Bool.{cond_both, both_ways}
use Rattle.std.proofs.lemmas.List.{length-append, get_or-take, get_or-drop, length-take, length-drop}
use Rattle.std.proofs.lemmas.List.Elements.{Contains-push_cases, Contains-append_cases}
use Rattle.pin_book.specs.Replay.{front_number, front_slot}
use Rattle.pin_core.specs.declared.entry.Entry.{Entry}
use Rattle.pin_core.specs.declared.view.View.{View}
use Rattle.pin_core.specs.Core.{CoreState, number_at, count_at, spent}
use Rattle.pin_core.specs.Lawful.{Lawful}
use Rattle.pin_core.specs.Step.{HasReader, new_entry, loaded, pinned, unpinned, got_turn, was_refused, take_turn, miss_turn, claiming, found_pinned, claim_slot, miss_slot, stored, gave_turn, left_over, split_off, taken_in, opening_state, main_at_first}
use Rattle.pin_core.specs.Run.{Moves, loads, adds, takes_off, exchanges, claims_slot, stores, gives_back, splits, joins, Reaches, stays, moves_on}
use Rattle.pin_core.proofs.Sums.{at_set, at_push}
use Rattle.pin_core.proofs.Readers.{stray_tells}
use Rattle.pin_core.proofs.Opening.{opens}
use Rattle.pin_core.proofs.Runs.{moves_keep}

-- each stray of the seat is older than the last write
abbrev pub HasOldStrays : ℕ → View → Type 0
HasOldStrays w v = (e : Entry) → Contains v.entries e → e.held ≡ false → e.position < w

abbrev AllOld : ℕ → List View → Type 0
AllOld w views = (id : ℕ) (v : View) → get_elem? views id ≡ some v → HasOldStrays w v

old_set : (w : ℕ) (views : List View) (id : ℕ) (v : View) → AllOld w views → HasOldStrays w v → AllOld w (set views id v)
old_set w views id v all mine j u at = ⊎_elim (λ (x : (j ≡ id) × (v ≡ u)). subst (HasOldStrays w) x.1 mine) (λ (x : (j ≢ id) × (get_elem? views j ≡ some u)). all j u x.1) (at_set views id j v u at)

removed_among : (entries : List Entry) (i : ℕ) (e : Entry) → Contains (remove entries i) e → Contains entries e
removed_among entries i e among = ⊎_elim
    (λ (c : Contains (take i entries) e). let long = length-take i entries in let low = c.1 in (c.0, (omega arith), sym (get_or-take i entries c.0 e (omega arith)) ∙ c.2))
    (λ (c : Contains (drop (suc i) entries) e). let long = length-drop (suc i) entries in let low = c.1 in (suc i + c.0, (omega arith), sym (get_or-drop (suc i) entries c.0 e) ∙ c.2))
    (Contains-append_cases (take i entries) (drop (suc i) entries) e among)

old_pin : (s : CoreState) (id number : ℕ) (v : View) → Lawful s → HasReader s id number v → HasOldStrays (length s.journal) v
    → HasOldStrays (length s.journal) (pinned s.slots (number_at s.words (front_slot s.slots v.seen)) v)
old_pin s id number v h has old e among stray =
    let slot : ℕ = front_slot s.slots v.seen in let new : Entry = new_entry s.slots (number_at s.words slot) v in
    ⊎_elim (λ (older : Contains v.entries e). old e older stray)
    (λ (is : new ≡ e).
    let more = stray_tells s id number v h has (λ same. both_ways e.held stray (ap (λ (x : Entry). x.held) (sym is) ∙ eq-eqb (number_at s.words slot) (front_number s.slots v.seen) same)) in
    let at = ap (λ (x : Entry). x.position) is in omega arith)
    (Contains-push_cases v.entries new e among)

old_moves : (s t : CoreState) → Lawful s → AllOld (length s.journal) s.views → Moves s t → AllOld (length t.journal) t.views
old_moves s t h all (loads id number v has) = old_set (length s.journal) s.views id (loaded s.journal v) all (all id v has.here)
old_moves s t h all (adds id number v has may) = old_set (length s.journal) s.views id (pinned s.slots (number_at s.words (front_slot s.slots v.seen)) v) all (old_pin s id number v h has (all id v has.here))
old_moves s t h all (takes_off id number v place e has may) = old_set (length s.journal) s.views id (unpinned place v) all (λ one there. all id v has.here one (removed_among v.entries place one there))
old_moves s t h all (exchanges id number v has may) =
    cond_both (is_some s.turn) (miss_turn s id v) (take_turn s id number v) (λ (u : CoreState). AllOld (length u.journal) u.views)
    (λ _. old_set (length s.journal) s.views id (was_refused s.turn v) all (all id v has.here)) (λ _. old_set (length s.journal) s.views id (got_turn s.journal v) all (all id v has.here))
old_moves s t h all (claims_slot id number v slot has may) =
    cond_both (count_at s.words slot == 0) (claim_slot s id v slot) (miss_slot s id v slot) (λ (u : CoreState). AllOld (length u.journal) u.views)
    (λ _. old_set (length s.journal) s.views id (claiming slot v) all (all id v has.here)) (λ _. old_set (length s.journal) s.views id (found_pinned slot v) all (all id v has.here))
old_moves s t h all (stores id number v write has may) = let longer = length-append s.journal (write ∷ []) in
    old_set (length (s.journal ++ write ∷ [])) s.views id (stored write v) (λ j u at e among stray. let before = all j u at e among stray in omega arith) (λ e among stray. let before = all id v has.here e among stray in omega arith)
old_moves s t h all (gives_back id number v has may) = old_set (length s.journal) s.views id (gave_turn v) all (all id v has.here)
old_moves s t h all (splits id v number writes here may) = λ j u at. ⊎_elim
    (λ (old : get_elem? (set s.views id (left_over s.readers number writes v)) j ≡ some u). old_set (length s.journal) s.views id (left_over s.readers number writes v) all (all id v here) j u old)
    (λ (new : split_off s.readers number writes v ≡ u). subst (HasOldStrays (length s.journal)) new (λ e there. absurd (let none = there.1 in omega arith)))
    (at_push (set s.views id (left_over s.readers number writes v)) (split_off s.readers number writes v) u j at)
old_moves s t h all (joins id v other w here there may) =
    old_set (length s.journal) (set s.views id (taken_in v w)) other spent (old_set (length s.journal) s.views id (taken_in v w) all (all id v here)) (λ e among. absurd (let none = among.1 in omega arith))

old_opening : (slots readers room : ℕ) → AllOld 0 (opening_state slots readers room).views
old_opening slots readers room zero u at = subst (HasOldStrays 0) (some-injective (main_at_first readers room) u at) (λ e there. absurd (let none = there.1 in omega arith))
old_opening slots readers room (suc id) u at = absurd (some-ne-none u (sym at))

old_from : (s t : CoreState) → Lawful s → AllOld (length s.journal) s.views → Reaches s t → AllOld (length t.journal) t.views × Lawful t
old_from s t h all stays = (all, h)
old_from s t h all (moves_on u t' run move) = let before = old_from s u h all run in (old_moves u t' before.1 before.0 move, moves_keep u t' before.1 move)

pub strays_old : (slots readers room : ℕ) (s : CoreState) (id : ℕ) (v : View) → 0 < slots → Reaches (opening_state slots readers room) s → get_elem? s.views id ≡ some v → HasOldStrays (length s.journal) v
strays_old slots readers room s id v some_slot run at = (old_from (opening_state slots readers room) s (opens slots readers room some_slot) (old_opening slots readers room) run).0 id v at

-- ---- the sizes ----

abbrev pub SameSizes : CoreState → CoreState → Type 0
SameSizes s t = (t.slots ≡ s.slots) × (t.readers ≡ s.readers) × (t.room ≡ s.room)

sizes_move : (s t : CoreState) → Moves s t → SameSizes s t
sizes_move s t (loads id number v has) = (refl, refl, refl)
sizes_move s t (adds id number v has may) = (refl, refl, refl)
sizes_move s t (takes_off id number v place e has may) = (refl, refl, refl)
sizes_move s t (exchanges id number v has may) = cond_both (is_some s.turn) (miss_turn s id v) (take_turn s id number v) (SameSizes s) (λ _. (refl, refl, refl)) (λ _. (refl, refl, refl))
sizes_move s t (claims_slot id number v slot has may) = cond_both (count_at s.words slot == 0) (claim_slot s id v slot) (miss_slot s id v slot) (SameSizes s) (λ _. (refl, refl, refl)) (λ _. (refl, refl, refl))
sizes_move s t (stores id number v write has may) = (refl, refl, refl)
sizes_move s t (gives_back id number v has may) = (refl, refl, refl)
sizes_move s t (splits id v number writes here may) = (refl, refl, refl)
sizes_move s t (joins id v other w here there may) = (refl, refl, refl)

-- no step changes the sizes
pub sizes_stay : (s t : CoreState) → Reaches s t → SameSizes s t
sizes_stay s t stays = (refl, refl, refl)
sizes_stay s t (moves_on u t' run move) = let before = sizes_stay s u run in let here = sizes_move u t' move in (here.0 ∙ before.0, here.1 ∙ before.1, here.2 ∙ before.2)
