-- Which places are away, in lawful states and from step to step.
use Rattle.std.proofs.Common.{◌≡◌, ◌≢◌, ◌↔◌, ℕ, suc, ◌+◌, ◌≤◌, List, [], ◌∷◌, length, take, set, sym, refl, ap, ◌∙◌, subst, ⊎_elim, arith, Bool, true, false, cond, ◌==◌, ◌&&◌, eq-eqb, ne_eqb, Option, Some, None}
use Rattle.std.specs.Prelude.{is_some}
use mathlib.Core.Option.{some}
use lib.ListN.{get_elem?}
use Rattle.std.specs.List.{Contains}
use Rattle.std.proofs.lemmas.Bool.{cases_eq, cases_Bool, both_ways, cond-true, cond-false, cond_both, and_parts, and_left, eqb-true}
use Rattle.std.proofs.lemmas.Option.{slice_get_within, get_or_from_slice_get}
use Rattle.pin_core.specs.declared.entry.Entry.{Entry}
use Rattle.pin_book.specs.declared.write.Write.{Write}
use Rattle.pin_book.specs.declared.write.Change.{Change}
use Rattle.pin_book.specs.declared.write.Change.TheVariants.{Push, Erase}
use Rattle.pin_core.specs.declared.view.View.{View}
use Rattle.pin_core.specs.declared.view.Role.{Role}
use Rattle.pin_core.specs.declared.view.Role.TheVariants as roles
use Rattle.pin_book.specs.Replay.{replays, front_number, front_slot, kept_number}
use Rattle.pin_core.specs.Core.{CoreState, number_at, count_at, total, one_if, times, pins_at, held_at, claims, has_claimed, has_number}
use Rattle.pin_core.specs.Lawful.{Lawful, away}
use Rattle.pin_core.specs.Step.{HasReader, MayTake, MayClaim, HasClaimed, claimed_after, MayStore, MaySplit, MayJoin, new_entry, loaded, pinned, unpinned, got_turn, was_refused, claiming, found_pinned, stored, gave_turn, load_front, add_pin, take_pin, take_turn, miss_turn, exchange_turn, claim_slot, miss_slot, store_front, give_turn, left_over, split_off, split, taken_in, join}
use Rattle.pin_core.proofs.Sums.{at_set, total_kept, total_none, total-append, total-remove, terms_le, total_zero}
use Rattle.pin_core.proofs.Seats.{is_live, idle}
use Rattle.pin_core.proofs.Stores.{has_own}
use Rattle.pin_core.proofs.Splits.{inside_of, total_split}
use Rattle.pin_core.proofs.Joins.{total_join}
use Rattle.pin_book.proofs.Journals.{front_kept, kept_rises, kept_le, replays_take}
use Rattle.pin_core.proofs.Readers.{claimer_lives, not_claimed, unclaimed}

-- ---- what one seat keeps away ----

-- a seat without the number keeps away only what it has claimed
away_else : (slot reader : ℕ) (v : View) → has_number reader v ≡ 0 → away slot reader v ≡ has_claimed slot v
away_else slot reader v none = let part = cond-true (has_number reader v == 0) 0 (held_at slot v) (eq-eqb (has_number reader v) 0 none) in omega arith

-- a seat with no handle there too
away_bare : (slot reader : ℕ) (v : View) → held_at slot v ≡ 0 → away slot reader v ≡ has_claimed slot v
away_bare slot reader v none = let part = cond_both (has_number reader v == 0) 0 (held_at slot v) (λ n. n ≡ 0) (λ _. refl) (λ _. none) in omega arith

-- a seat with the number keeps away one for each handle there too
away_own : (slot reader : ℕ) (v : View) → has_number reader v ≡ 1 → away slot reader v ≡ has_claimed slot v + held_at slot v
away_own slot reader v one = let part = cond-false (has_number reader v == 0) 0 (held_at slot v) (ne_eqb (has_number reader v) 0 (λ none. omega arith)) in omega arith

pub claims_self : (slot : ℕ) (claimed : Option ℕ) → claimed ≡ Some slot → claims slot claimed ≡ 1
claims_self slot claimed is = ap (claims slot) is ∙ ap one_if (eq-eqb slot slot refl)

held_le : (slot : ℕ) (entries : List Entry) → total (λ (e : Entry). one_if ((e.slot == slot) && e.held)) entries ≤ total (λ (e : Entry). one_if (e.slot == slot)) entries
held_le slot [] = omega arith
held_le slot (e ∷ es) = let rest = held_le slot es in let here = less (e.slot == slot) e.held in omega arith
  where
    less : (a b : Bool) → one_if (a && b) ≤ one_if a
    less true true = omega arith
    less true false = omega arith
    less false b = omega arith

not_claims : (slot : ℕ) (claimed : Option ℕ) → claimed ≢ Some slot → claims slot claimed ≡ 0
not_claims slot None other = refl
not_claims slot (Some j) other = ap one_if (ne_eqb j slot (λ is. other (ap (λ n. Some n) is)))

-- a number belongs to no other seat
others_lack : (s : CoreState) (id number : ℕ) (v : View) → Lawful s → HasReader s id number v → (other : ℕ) (u : View) → other ≢ id → get_elem? s.views other ≡ some u → has_number number u ≡ 0
others_lack s id number v h has other u apart at =
    let mine = has_own number v has.reader.1 in
    let inside = inside_of s.readers number v.numbers (h.owners.each id v has.here (is_live number v has.reader)).inside mine in
    let both = terms_le (has_number number) s.views id other v u apart has.here at in let whole = h.owners.numbers number inside in omega arith

seat_is : (views : List View) (id other : ℕ) (v u : View) → get_elem? views id ≡ some v → other ≡ id → get_elem? views other ≡ some u → v ≡ u
seat_is views id other v u here same at = let both : some v ≡ some u = sym here ∙ ap (get_elem? views) (sym same) ∙ at in cc

-- a reader's place is at home where it has no handle there and nobody has claimed the slot
pub at_home : (s : CoreState) (id number slot : ℕ) (v : View) → Lawful s → HasReader s id number v → held_at slot v ≡ 0 → ((other : ℕ) (u : View) → get_elem? s.views other ≡ some u → u.claimed ≢ Some slot) → total (away slot number) s.views ≡ 0
at_home s id number slot v h has bare unclaimed = total_zero (away slot number) s.views (λ other u at. ⊎_elim
    (λ (same : other ≡ id). subst (λ (x : View). away slot number x ≡ 0) (seat_is s.views id other v u has.here same at) (away_bare slot number v bare ∙ not_claims slot v.claimed (unclaimed id v has.here)))
    (λ (apart : other ≢ id). away_else slot number u (others_lack s id number v h has other u apart at) ∙ not_claims slot u.claimed (unclaimed other u at))
    (cases_eq other id))

pub away_iff : (s : CoreState) (id number slot : ℕ) (v : View) → Lawful s → HasReader s id number v → (total (away slot number) s.views ≡ 0) ↔ ((held_at slot v ≡ 0) × ((other : ℕ) (u : View) → get_elem? s.views other ≡ some u → u.claimed ≢ Some slot))
away_iff s id number slot v h has = (
  (λ none. (
    (let mine = total_none (away slot number) s.views id v none has.here in let is = away_own slot number v (has_own number v has.reader.1) in omega arith),
    (λ other u at claimed. let theirs = total_none (away slot number) s.views other u none at in let one = claims_self slot u.claimed claimed in omega arith),
  )),
  (λ both. at_home s id number slot v h has both.0 both.1),
)

pub first_handle : (s : CoreState) (id number : ℕ) (v : View) → Lawful s → HasReader s id number v → held_at (front_slot s.slots v.seen) v ≡ 0 → number_at s.words (front_slot s.slots v.seen) ≡ front_number s.slots v.seen
    → total (away (front_slot s.slots v.seen) number) s.views ≡ 0
first_handle s id number v h has bare shown =
    let slot : ℕ = front_slot s.slots v.seen in let seen : take (length v.seen) s.journal ≡ v.seen = (h.owners.each id v has.here (is_live number v has.reader)).seen in
    let kept : kept_number s.slots v.seen slot ≡ front_number s.slots v.seen = front_kept s.slots v.seen h.follows.some_slot (subst (λ (l : List Write). replays s.slots l ≡ true) seen (replays_take s.slots s.journal (length v.seen) h.follows.replay)) in
    let part = ap (λ (l : List Write). kept_number s.slots l slot) seen in
    let rises = kept_rises s.slots s.journal (length v.seen) slot h.follows.some_slot h.follows.replay in let most = kept_le s.slots s.journal slot h.follows.some_slot h.follows.replay in
    let old : front_number s.slots v.seen ≤ front_number s.slots s.journal = omega arith in
    at_home s id number slot v h has bare (λ other u at claimed. let coming = (h.turn.each other u at (claimer_lives s h other slot u at claimed)).coming slot claimed in omega arith)

-- while one seat has the turn and has claimed nothing, nobody has claimed a slot
pub none_claimed : (s : CoreState) (id number : ℕ) (v : View) → Lawful s → HasReader s id number v → v.turn ≡ true → v.claimed ≡ None → (slot other : ℕ) (u : View) → get_elem? s.views other ≡ some u → u.claimed ≢ Some slot
none_claimed s id number v h has mine free slot other u at claimed = ⊎_elim
    (λ (same : other ≡ id). let is = ap (λ (x : View). x.claimed) (seat_is s.views id other v u has.here same at) in absurd (cc))
    (λ (apart : other ≢ id). idle s.slots s.journal _ s.turn s.views h.turn id other v u has.here mine apart at ((h.turn.each other u at (claimer_lives s h other slot u at claimed)).claims slot claimed))
    (cases_eq other id)

pub claimed_home : (s : CoreState) (id number slot reader : ℕ) (v : View) → Lawful s → HasReader s id number v → MayClaim s slot v → count_at s.words slot ≡ 0 → total (away slot reader) s.views ≡ 0
claimed_home s id number slot reader v h has may free =
    let none : total (pins_at slot) s.views ≡ 0 = sym (h.pins slot may.inside) ∙ free in
    total_zero (away slot reader) s.views (λ other u at. let pins = total_none (pins_at slot) s.views other u none at in let most = held_le slot u.entries in
    away_bare slot reader u (omega arith) ∙ not_claims slot u.claimed (none_claimed s id number v h has may.turn may.free slot other u at))

held_none : (slot : ℕ) (entries : List Entry) → ((e : Entry) → Contains entries e → e.slot ≡ slot → e.held ≡ true → ⊥) → total (λ (e : Entry). one_if ((e.slot == slot) && e.held)) entries ≡ 0
held_none slot [] none = refl
held_none slot (e ∷ es) none =
    let rest = held_none slot es (λ x among. none x (suc among.0, (let low = among.1 in omega arith), among.2)) in
    let here : one_if ((e.slot == slot) && e.held) ≡ 0 = ⊎_elim
    (λ (is : ((e.slot == slot) && e.held) ≡ true). let both = and_parts (e.slot == slot) e.held is in absurd (none e (0, (omega arith), refl) (eqb-true e.slot slot both.0) both.1))
    (λ (else : ((e.slot == slot) && e.held) ≡ false). ap one_if else) (cases_Bool ((e.slot == slot) && e.held)) in omega arith

-- nobody has a handle at a slot that is claimed
no_handles : (s : CoreState) (id slot : ℕ) (v : View) → Lawful s → get_elem? s.views id ≡ some v → v.claimed ≡ Some slot → (other : ℕ) (u : View) → get_elem? s.views other ≡ some u → held_at slot u ≡ 0
no_handles s id slot v h here claimed other u at = by_role u.role refl
  where
    by_role : (role : Role) → u.role ≡ role → held_at slot u ≡ 0
    by_role roles.Main is = ap (λ (es : List Entry). total (λ (e : Entry). one_if ((e.slot == slot) && e.held)) es) ((h.owners.each other u at (λ spent. absurd (cc))).main is).0
    by_role roles.Spent is = ap (held_at slot) (h.spent other u at is)
    by_role roles.Reader is = let number = (h.owners.each other u at (λ spent. absurd (cc))).reader is in
        held_none slot u.entries (λ e among there held. not_claimed s h other number.0 u record { here = at; reader = (is, number.1) } e among held id v here (claimed ∙ ap (λ n. Some n) (sym there)))

has_slot : (claimed : Option ℕ) (c : Change) (n src slot : ℕ) → c ≡ Push n src slot → HasClaimed claimed c → claimed ≡ Some slot
has_slot claimed c n src slot is has = subst (HasClaimed claimed) is has

pub pushed_home : (s : CoreState) (id number n src slot reader : ℕ) (v : View) (write : Write) → Lawful s → HasReader s id number v → MayStore s number write v → write.change ≡ Push n src slot → total (away slot reader) (store_front s id v write).views ≡ 0
pushed_home s id number n src slot reader v write h has may push =
    let claimed = has_slot v.claimed write.change n src slot push may.claimed in let w : View = stored write v in
    total_zero (away slot reader) (set s.views id w) (λ other u at. ⊎_elim
    (λ (x : (other ≡ id) × (w ≡ u)). subst (λ (y : View). away slot reader y ≡ 0) x.1 (away_bare slot reader w (no_handles s id slot v h has.here claimed id v has.here) ∙ ap (λ c. claims slot (claimed_after v.claimed c)) push))
    (λ (x : (other ≢ id) × (get_elem? s.views other ≡ some u)). away_bare slot reader u (no_handles s id slot v h has.here claimed other u x.1)
    ∙ not_claims slot u.claimed (λ theirs. idle s.slots s.journal _ s.turn s.views h.turn id other v u has.here may.turn x.0 x.1 ((h.turn.each other u x.1 (claimer_lives s h other slot u x.1 theirs)).claims slot theirs)))
    (at_set s.views id other w u at))

-- ---- from step to step ----

-- a seat keeps as much away where it has the same numbers, handles there and claim
away_same : (slot reader : ℕ) (v w : View) → w.numbers ≡ v.numbers → held_at slot w ≡ held_at slot v → has_claimed slot w ≡ has_claimed slot v → away slot reader w ≡ away slot reader v
away_same slot reader v w numbers held claimed =
    let owns = ap (times reader) numbers in
    ap (λ n. n + cond (has_number reader w == 0) 0 (held_at slot w)) claimed ∙ ap (λ n. has_claimed slot v + cond (n == 0) 0 (held_at slot w)) owns ∙ ap (λ n. has_claimed slot v + cond (has_number reader v == 0) 0 n) held

-- the same where it hasn't the number
away_apart : (slot reader : ℕ) (v w : View) → has_number reader v ≡ 0 → has_number reader w ≡ 0 → has_claimed slot w ≡ has_claimed slot v → away slot reader w ≡ away slot reader v
away_apart slot reader v w mine theirs claimed = away_else slot reader w theirs ∙ claimed ∙ sym (away_else slot reader v mine)

lacks : (number reader : ℕ) (v : View) → v.numbers ≡ number ∷ [] → reader ≢ number → has_number reader v ≡ 0
lacks number reader v numbers other = let same = ap (times reader) numbers in let zero = ap one_if (ne_eqb number reader (λ e. other (sym e))) in omega arith

pub load_stays : (s : CoreState) (id number slot reader : ℕ) (v : View) → HasReader s id number v → total (away slot reader) (load_front s id v).views ≡ total (away slot reader) s.views
load_stays s id number slot reader v has = total_kept (away slot reader) s.views id v (loaded s.journal v) has.here refl

pub pin_stays : (s : CoreState) (id number slot reader : ℕ) (v : View) → HasReader s id number v → (slot ≡ front_slot s.slots v.seen → reader ≢ number) → total (away slot reader) (add_pin s id v).views ≡ total (away slot reader) s.views
pin_stays s id number slot reader v has other =
    let at : ℕ = front_slot s.slots v.seen in let new : Entry = new_entry s.slots (number_at s.words at) v in let w : View = pinned s.slots (number_at s.words at) v in
    total_kept (away slot reader) s.views id v w has.here (⊎_elim
    (λ (is : slot ≡ at). away_apart slot reader v w (lacks number reader v has.reader.1 (other is)) (lacks number reader v has.reader.1 (other is)) refl)
    (λ (no : slot ≢ at). away_same slot reader v w refl (let more = total-append (λ (e : Entry). one_if ((e.slot == slot) && e.held)) v.entries (new ∷ []) in
    let none = ap one_if (and_left (new.slot == slot) new.held (ne_eqb at slot (λ e. no (sym e)))) in omega arith) refl) (cases_eq slot at))

pub take_stays : (s : CoreState) (id number slot reader at : ℕ) (v : View) (e : Entry) → HasReader s id number v → MayTake at e v → (slot ≡ e.slot → reader ≢ number) → total (away slot reader) (take_pin s id v at e).views ≡ total (away slot reader) s.views
take_stays s id number slot reader at v e has may other =
    let w : View = unpinned at v in let among = slice_get_within v.entries at e may.there in let is = get_or_from_slice_get v.entries at e e may.there in
    total_kept (away slot reader) s.views id v w has.here (⊎_elim
    (λ (here : slot ≡ e.slot). away_apart slot reader v w (lacks number reader v has.reader.1 (other here)) (lacks number reader v has.reader.1 (other here)) refl)
    (λ (no : slot ≢ e.slot). away_same slot reader v w refl (let less = total-remove (λ (x : Entry). one_if ((x.slot == slot) && x.held)) v.entries at e among in
    let gone = ap (λ (x : Entry). one_if ((x.slot == slot) && x.held)) is in let none = ap one_if (and_left (e.slot == slot) e.held (ne_eqb e.slot slot (λ same. no (sym same)))) in omega arith) refl) (cases_eq slot e.slot))

pub exchange_stays : (s : CoreState) (id number slot reader : ℕ) (v : View) → HasReader s id number v → total (away slot reader) (exchange_turn s id number v).views ≡ total (away slot reader) s.views
exchange_stays s id number slot reader v has =
    cond_both (is_some s.turn) (miss_turn s id v) (take_turn s id number v) (λ (t : CoreState). total (away slot reader) t.views ≡ total (away slot reader) s.views)
    (λ _. total_kept (away slot reader) s.views id v (was_refused s.turn v) has.here refl) (λ _. total_kept (away slot reader) s.views id v (got_turn s.journal v) has.here refl)

pub claim_stays : (s : CoreState) (id number slot reader taken : ℕ) (v : View) → HasReader s id number v → MayClaim s taken v → slot ≢ taken → total (away slot reader) (claim_slot s id v taken).views ≡ total (away slot reader) s.views
claim_stays s id number slot reader taken v has may other =
    let w : View = claiming taken v in total_kept (away slot reader) s.views id v w has.here
    (away_same slot reader v w refl refl (ap one_if (ne_eqb taken slot (λ e. other (sym e))) ∙ sym (ap (claims slot) may.free)))

pub miss_stays : (s : CoreState) (id number slot reader taken : ℕ) (v : View) → HasReader s id number v → total (away slot reader) (miss_slot s id v taken).views ≡ total (away slot reader) s.views
miss_stays s id number slot reader taken v has = total_kept (away slot reader) s.views id v (found_pinned taken v) has.here refl

pub push_stays : (s : CoreState) (id number slot reader n src into : ℕ) (v : View) (write : Write) → HasReader s id number v → MayStore s number write v → write.change ≡ Push n src into → slot ≢ into → total (away slot reader) (store_front s id v write).views ≡ total (away slot reader) s.views
push_stays s id number slot reader n src into v write has may push other =
    let w : View = stored write v in let claimed = has_slot v.claimed write.change n src into push may.claimed in
    total_kept (away slot reader) s.views id v w has.here
    (away_same slot reader v w refl refl (ap (λ c. claims slot (claimed_after v.claimed c)) push ∙ sym (ap (claims slot) claimed ∙ ap one_if (ne_eqb into slot (λ e. other (sym e))))))

pub erase_stays : (s : CoreState) (id number slot reader after gone : ℕ) (v : View) (write : Write) → HasReader s id number v → write.change ≡ Erase after gone → total (away slot reader) (store_front s id v write).views ≡ total (away slot reader) s.views
erase_stays s id number slot reader after gone v write has erase =
    let w : View = stored write v in total_kept (away slot reader) s.views id v w has.here (away_same slot reader v w refl refl (ap (λ c. claims slot (claimed_after v.claimed c)) erase))

pub give_stays : (s : CoreState) (id number slot reader : ℕ) (v : View) → HasReader s id number v → total (away slot reader) (give_turn s id v).views ≡ total (away slot reader) s.views
give_stays s id number slot reader v has = total_kept (away slot reader) s.views id v (gave_turn v) has.here refl

held_nothing : (slot : ℕ) (v : View) → v.entries ≡ [] → held_at slot v ≡ 0
held_nothing slot v none = ap (λ (es : List Entry). total (λ (e : Entry). one_if ((e.slot == slot) && e.held)) es) none

pub split_stays : (s : CoreState) (id number writes slot reader : ℕ) (v : View) → Lawful s → get_elem? s.views id ≡ some v → MaySplit number writes v → total (away slot reader) (split s id v number writes).views ≡ total (away slot reader) s.views
split_stays s id number writes slot reader v h here may =
    let main = may.main in let bare = ((h.owners.each id v here (λ spent. absurd (cc))).main main).0 in
    let left : View = left_over s.readers number writes v in let right : View = split_off s.readers number writes v in
    total_split (away slot reader) s.views id v left right here
    (let one = away_bare slot reader left (held_nothing slot left bare) in let two = away_bare slot reader right refl in let was = away_bare slot reader v (held_nothing slot v bare) in omega arith)

pub join_stays : (s : CoreState) (id other slot reader : ℕ) (v w : View) → Lawful s → get_elem? s.views id ≡ some v → get_elem? s.views other ≡ some w → MayJoin v w → total (away slot reader) (join s id v other w).views ≡ total (away slot reader) s.views
join_stays s id other slot reader v w h here there may =
    let main = may.main in let reader_role = may.reader in let bare = ((h.owners.each id v here (λ spent. absurd (cc))).main main).0 in
    let both : View = taken_in v w in
    let apart : other ≢ id = λ same. (let role = ap (λ (y : View). y.role) (seat_is s.views id other v w here same there) in absurd (cc)) in
    let none : has_claimed slot w ≡ 0 = not_claims slot w.claimed (λ claimed. both_ways w.turn may.turn ((h.turn.each other w there (λ spent. absurd (cc))).claims slot claimed)) in
    total_join (away slot reader) s.views id other v w both apart here there
    (let one = away_bare slot reader both (held_nothing slot both bare) in let two = away_bare slot reader w (held_nothing slot w may.unpinned) in let was = away_bare slot reader v (held_nothing slot v bare) in omega arith) refl

-- who may claim a slot finds the number that it keeps
pub claim_number : (s : CoreState) (id number slot : ℕ) (v : View) → Lawful s → HasReader s id number v → MayClaim s slot v → number_at s.words slot ≡ kept_number s.slots s.journal slot
claim_number s id number slot v h has may = h.follows.kept slot may.inside (unclaimed s h slot (λ other u at _. none_claimed s id number v h has may.turn may.free slot other u at))
