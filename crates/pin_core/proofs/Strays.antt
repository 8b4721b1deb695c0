-- No reader has a stray and a handle at one slot.
use Rattle.std.proofs.Common.{◌≡◌, ◌≢◌, ℕ, zero, suc, ◌+◌, ◌≤◌, ◌<◌, List, [], ◌∷◌, length, take, drop, get_or, set, sym, ap, ◌∙◌, subst, ⊎_elim, arith, Bool, true, false, not, ◌==◌, eq-eqb}
use Rattle.std.specs.Prelude.{is_some}
use mathlib.Core.Option.{some, some-injective, some-ne-none}
use lib.ListN.{get_elem?}
use Rattle.std.specs.List.{Contains, remove}
use Rattle.std.proofs.lemmas.Bool.{cond_both, both_ways}
use Rattle.std.proofs.lemmas.List.{take_all, get_or-take, get_or-drop, length-take, length-drop}
use Rattle.std.proofs.lemmas.List.Elements.{Contains-push_cases, Contains-append_cases}
use Rattle.pin_core.specs.declared.entry.Entry.{Entry}
use Rattle.pin_book.specs.declared.write.Write.{Write}
use Rattle.pin_core.specs.declared.view.View.{View}
use Rattle.pin_book.specs.Replay.{replays, front_number, front_slot, kept_number}
use Rattle.pin_core.specs.Core.{CoreState, number_at, count_at, total, one_if, spent}
use Rattle.pin_core.specs.Lawful.{Lawful}
use Rattle.pin_core.specs.Step.{HasReader, HasHandle, MayPin, new_entry, loaded, pinned, unpinned, got_turn, was_refused, take_turn, miss_turn, claiming, found_pinned, claim_slot, miss_slot, stored, gave_turn, left_over, split_off, taken_in, opening_state, main_at_first}
use Rattle.pin_core.specs.Run.{Moves, loads, adds, takes_off, exchanges, claims_slot, stores, gives_back, splits, joins, Reaches, stays, moves_on, KeepsStraysApart}
use Rattle.pin_core.proofs.Sums.{at_set, at_push}
use Rattle.pin_core.proofs.Seats.{is_live}
use Rattle.pin_book.proofs.Journals.{replays_take, front_kept}
use Rattle.pin_core.proofs.Readers.{shown, told}
use Rattle.pin_core.proofs.Opening.{opens}
use Rattle.pin_core.proofs.Runs.{moves_keep}

-- at a slot where the reader has a handle the word shows the front's number that the reader has seen
pub beside_handle : (s : CoreState) (id number : ℕ) (v : View) (e : Entry) → Lawful s → HasHandle s id number v e → e.slot ≡ front_slot s.slots v.seen → number_at s.words (front_slot s.slots v.seen) ≡ front_number s.slots v.seen
beside_handle s id number v e h has here =
    let seen = (h.owners.each id v has.seat.here (is_live number v has.seat.reader)).seen in
    let was = (h.places id v has.seat.here (is_live number v has.seat.reader)).entries in
    let replay : replays s.slots v.seen ≡ true = subst (λ (l : List Write). replays s.slots l ≡ true) seen (replays_take s.slots s.journal (length v.seen) h.follows.replay) in
    let early : e.position ≤ length v.seen = (let place = was has.among.0 e has.among.1 in let told = place.told in let same = ap (λ (x : Entry). x.position) has.among.2 in omega arith) in
    let kept = told s h id number v has.seat e has.among has.held (length v.seen) early (omega arith) in
    ap (number_at s.words) (sym here) ∙ shown s h id number v has.seat e has.among has.held ∙ sym kept ∙ ap (λ (l : List Write). kept_number s.slots l e.slot) (take_all (length v.seen) v.seen (omega arith))
    ∙ ap (kept_number s.slots v.seen) here ∙ front_kept s.slots v.seen h.follows.some_slot replay

-- ---- over whole runs ----

abbrev AllApart : List View → Type 0
AllApart views = (id : ℕ) (v : View) → get_elem? views id ≡ some v → KeepsStraysApart v

apart_set : (views : List View) (id : ℕ) (w : View) → AllApart views → KeepsStraysApart w → AllApart (set views id w)
apart_set views id w all mine j u at = ⊎_elim (λ (x : (j ≡ id) × (w ≡ u)). subst KeepsStraysApart x.1 mine) (λ (x : (j ≢ id) × (get_elem? views j ≡ some u)). all j u x.1) (at_set views id j w u at)

-- a stray that the reader has is counted
counted_stray : (entries : List Entry) (e : Entry) → Contains entries e → e.held ≡ false → 0 < total (λ (x : Entry). one_if (not x.held)) entries
counted_stray entries e among stray = by_place among.0 entries among.1 among.2
  where
    by_place : (k : ℕ) (es : List Entry) → k < length es → get_or es k e ≡ e → 0 < total (λ (x : Entry). one_if (not x.held)) es
    by_place k [] low is = absurd (omega arith)
    by_place zero (x ∷ xs) low is = let one = ap (λ (b : Bool). one_if (not b)) (ap (λ (y : Entry). y.held) is ∙ stray) in omega arith
    by_place (suc k) (x ∷ xs) low is = let rest = by_place k xs (omega arith) is in omega arith

removed_among : (entries : List Entry) (i : ℕ) (e : Entry) → Contains (remove entries i) e → Contains entries e
removed_among entries i e among = ⊎_elim
    (λ (c : Contains (take i entries) e). let long = length-take i entries in let low = c.1 in (c.0, (omega arith), sym (get_or-take i entries c.0 e (omega arith)) ∙ c.2))
    (λ (c : Contains (drop (suc i) entries) e). let long = length-drop (suc i) entries in let low = c.1 in (suc i + c.0, (omega arith), sym (get_or-drop (suc i) entries c.0 e) ∙ c.2))
    (Contains-append_cases (take i entries) (drop (suc i) entries) e among)

apart_pin : (s : CoreState) (id number : ℕ) (v : View) → Lawful s → HasReader s id number v → MayPin v → KeepsStraysApart v → KeepsStraysApart (pinned s.slots (number_at s.words (front_slot s.slots v.seen)) v)
apart_pin s id number v h has may apart e other there here held stray same =
    let slot : ℕ = front_slot s.slots v.seen in let new : Entry = new_entry s.slots (number_at s.words slot) v in
    ⊎_elim
    (λ (old : Contains v.entries e). ⊎_elim
    (λ (older : Contains v.entries other). apart e other old older held stray same)
    (λ (is : new ≡ other).
    let at : e.slot ≡ slot = same ∙ ap (λ (x : Entry). x.slot) (sym is) in
    let number_is = beside_handle s id number v e h record { seat = has; among = old; held = held } at in
    both_ways other.held stray (ap (λ (x : Entry). x.held) (sym is) ∙ eq-eqb (number_at s.words slot) (front_number s.slots v.seen) number_is))
    (Contains-push_cases v.entries new other here))
    (λ (is : new ≡ e). ⊎_elim
    (λ (older : Contains v.entries other). let some_stray = counted_stray v.entries other older stray in let none = may.settled in omega arith)
    (λ (too : new ≡ other). both_ways other.held stray (ap (λ (x : Entry). x.held) (sym too ∙ is) ∙ held))
    (Contains-push_cases v.entries new other here))
    (Contains-push_cases v.entries new e there)

apart_moves : (s t : CoreState) → Lawful s → AllApart s.views → Moves s t → AllApart t.views
apart_moves s t h all (loads id number v has) = apart_set s.views id (loaded s.journal v) all (all id v has.here)
apart_moves s t h all (adds id number v has may) = apart_set s.views id (pinned s.slots (number_at s.words (front_slot s.slots v.seen)) v) all (apart_pin s id number v h has may (all id v has.here))
apart_moves s t h all (takes_off id number v place e has may) = apart_set s.views id (unpinned place v) all
    (λ one other there here held stray. all id v has.here one other (removed_among v.entries place one there) (removed_among v.entries place other here) held stray)
apart_moves s t h all (exchanges id number v has may) =
    cond_both (is_some s.turn) (miss_turn s id v) (take_turn s id number v) (λ (u : CoreState). AllApart u.views) (λ _. apart_set s.views id (was_refused s.turn v) all (all id v has.here)) (λ _. apart_set s.views id (got_turn s.journal v) all (all id v has.here))
apart_moves s t h all (claims_slot id number v slot has may) =
    cond_both (count_at s.words slot == 0) (claim_slot s id v slot) (miss_slot s id v slot) (λ (u : CoreState). AllApart u.views) (λ _. apart_set s.views id (claiming slot v) all (all id v has.here)) (λ _. apart_set s.views id (found_pinned slot v) all (all id v has.here))
apart_moves s t h all (stores id number v write has may) = apart_set s.views id (stored write v) all (all id v has.here)
apart_moves s t h all (gives_back id number v has may) = apart_set s.views id (gave_turn v) all (all id v has.here)
apart_moves s t h all (splits id v number writes here may) = λ j u at. ⊎_elim
    (λ (old : get_elem? (set s.views id (left_over s.readers number writes v)) j ≡ some u). apart_set s.views id (left_over s.readers number writes v) all (all id v here) j u old)
    (λ (new : split_off s.readers number writes v ≡ u). subst KeepsStraysApart new (λ e other there. absurd (let none = there.1 in omega arith)))
    (at_push (set s.views id (left_over s.readers number writes v)) (split_off s.readers number writes v) u j at)
apart_moves s t h all (joins id v other w here there may) =
    apart_set (set s.views id (taken_in v w)) other spent (apart_set s.views id (taken_in v w) all (all id v here)) (λ e one among. absurd (let none = among.1 in omega arith))

apart_opening : (slots readers room : ℕ) → AllApart (opening_state slots readers room).views
apart_opening slots readers room zero u at = subst KeepsStraysApart (some-injective (main_at_first readers room) u at) (λ e other there. absurd (let none = there.1 in omega arith))
apart_opening slots readers room (suc id) u at = absurd (some-ne-none u (sym at))

apart_from : (s t : CoreState) → Lawful s → AllApart s.views → Reaches s t → AllApart t.views × Lawful t
apart_from s t h all stays = (all, h)
apart_from s t h all (moves_on u t' run move) = let before = apart_from s u h all run in (apart_moves u t' before.1 before.0 move, moves_keep u t' before.1 move)

pub strays_apart : (slots readers room : ℕ) (s : CoreState) (id : ℕ) (v : View) → 0 < slots → Reaches (opening_state slots readers room) s → get_elem? s.views id ≡ some v → KeepsStraysApart v
strays_apart slots readers room s id v some_slot run at = (apart_from (opening_state slots readers room) s (opens slots readers room some_slot) (apart_opening slots readers room) run).0 id v at
