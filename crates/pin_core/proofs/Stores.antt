-- A store of the front word keeps states lawful.
use Rattle.std.proofs.Common.{◌≡◌, ◌≢◌, ℕ, ◌+◌, ◌≤◌, ◌<◌, List, [], ◌∷◌, ◌++◌, length, take, set, get_or, sym, refl, ap, ◌∙◌, subst, ⊎_elim, arith, Bool, true, false, ◌==◌, eq-eqb, ne_eqb, Option, Some}
use mathlib.Core.Option.{some}
use lib.ListN.{get_elem?}
use Rattle.std.specs.List.{All, filter}
use Rattle.std.proofs.lemmas.Bool.{cases_eq, cond-true}
use Rattle.std.proofs.lemmas.List.{take_all, length_push, take-append-le}
use Rattle.std.proofs.lemmas.List.Elements.{All-push, All-weaker, All-head, All-tail, filter-append}
use Rattle.pin_core.specs.declared.entry.Entry.{Entry}
use Rattle.pin_book.specs.declared.write.Write.{Write}
use Rattle.pin_book.specs.declared.write.Change.{Change}
use Rattle.pin_book.specs.declared.write.Change.TheVariants.{Push, Erase}
use Rattle.pin_core.specs.declared.view.View.{View}
use Rattle.pin_book.specs.Replay.{replays, allowed, state_after, front_number, front_slot, kept_number, is_taken}
use Rattle.pin_book.specs.Sequence.{writes_by}
use Rattle.pin_core.specs.Core.{CoreState, number_at, total, one_if, times, has_number, number_count, is_main, pins_at, claims, has_claimed, has_turn, allowance_of}
use Rattle.pin_core.specs.Lawful.{Lawful, WasFront, WasFrontOnce, KnowsWrites, KnowsPlaces, KeepsHandles}
use Rattle.pin_core.specs.Step.{HasReader, MayStore, HasClaimed, claimed_after, stored, store_front}
use Rattle.pin_core.proofs.Sums.{total_kept, total-set, terms_le}
use Rattle.pin_book.proofs.SequenceLemmas.{writes_by_other, counted_push}
use Rattle.pin_book.proofs.Journals.{replays_push, pushed, erased}
use Rattle.pin_core.proofs.Seats.{each_set, is_live, idle, spent_kept}
use Rattle.pin_core.proofs.Loads.{seen_within}

-- ---- the writes of each number after one more ----

-- the same writes of a number in two journals stay the same with one write more
same_writes : (number : ℕ) (xs ys : List Write) (write : Write) → writes_by number xs ≡ writes_by number ys → writes_by number (xs ++ write ∷ []) ≡ writes_by number (ys ++ write ∷ [])
same_writes number xs ys write same =
    filter-append (λ (w : Write). w.by == number) xs (write ∷ []) ∙ ap (λ (l : List Write). l ++ writes_by number (write ∷ [])) same ∙ sym (filter-append (λ (w : Write). w.by == number) ys (write ∷ []))

-- all of a list pass, so the filter leaves the list
pub all_pass : (p : Write → Bool) (xs : List Write) → All (λ (w : Write). p w ≡ true) xs → filter p xs ≡ xs
all_pass p [] all = refl
all_pass p (x ∷ xs) all = cond-true (p x) (x ∷ filter p xs) (filter p xs) (All-head (λ (w : Write). p w ≡ true) x xs all) ∙ ap (λ (l : List Write). x ∷ l) (all_pass p xs (All-tail (λ (w : Write). p w ≡ true) x xs all))

-- ---- a reader's one number ----

pub own_number : (number r : ℕ) (v : View) → v.numbers ≡ number ∷ [] → has_number r v ≡ 1 → number ≡ r
own_number number r v numbers has = ⊎_elim (λ (is : number ≡ r). is) (λ (no : number ≢ r). let zero = ap one_if (ne_eqb number r no) in let same = ap (times r) numbers in absurd (omega arith)) (cases_eq number r)

pub has_own : (number : ℕ) (v : View) → v.numbers ≡ number ∷ [] → has_number number v ≡ 1
has_own number v numbers = let one = ap one_if (eq-eqb number number refl) in let same = ap (times number) numbers in omega arith

-- ---- what the write says of slots ----

-- what is still claimed after a change, and what each slot keeps
record Settled (slots : ℕ) (journal : List Write) (shown : ℕ → ℕ) (write : Write) (claimed : Option ℕ) (c : Change) : Type 0 where
  pub kept : (j others later : ℕ) → later + claims j claimed ≡ others + claims j (claimed_after claimed c) → later ≡ 0 → (others ≡ 0 → shown j ≡ kept_number slots journal j)
      → shown j ≡ kept_number slots (journal ++ write ∷ []) j
  pub same : (j : ℕ) → claimed_after claimed c ≡ Some j → claimed ≡ Some j
  pub unlisted : (j : ℕ) → claimed_after claimed c ≡ Some j → is_taken slots journal j ≡ false → is_taken slots (journal ++ write ∷ []) j ≡ false
  pub number : (j : ℕ) → claimed_after claimed c ≡ Some j → front_number slots (journal ++ write ∷ []) ≡ front_number slots journal

settles : (slots : ℕ) (journal : List Write) (shown : ℕ → ℕ) (write : Write) (claimed : Option ℕ) → 0 < slots → replays slots journal ≡ true → allowed (state_after slots journal) write.change ≡ true
    → ((j : ℕ) → claimed ≡ Some j → shown j ≡ front_number slots journal + 1) → (c : Change) → write.change ≡ c → HasClaimed claimed c → Settled slots journal shown write claimed c
settles slots journal shown write claimed some_slot is allows coming (Push n src slot) change has =
    let p = pushed slots journal write n src slot some_slot is allows change in
    record {
      kept = λ j others later sum none before. ⊎_elim
          (λ (here : j ≡ slot). ap shown here ∙ coming slot has ∙ sym p.next ∙ sym p.kept ∙ ap (kept_number slots (journal ++ write ∷ [])) (sym here))
          (λ (else : j ≢ slot). let count = ap (claims j) has in let zero = ap one_if (ne_eqb slot j (λ e. else (sym e))) in before (omega arith) ∙ sym (p.others j else)) (cases_eq j slot);
      same = λ j none. absurd (cc);
      unlisted = λ j none free. absurd (cc);
      number = λ j none. absurd (cc);
    }
settles slots journal shown write claimed some_slot is allows coming (Erase after gone) change has =
    let e = erased slots journal write after gone some_slot is allows change in
    record {
      kept = λ j others later sum none before. before (omega arith) ∙ sym (e.kept j);
      same = λ j same. same;
      unlisted = λ j same free. e.free j free;
      number = λ j same. e.number;
    }

pub stores : (s : CoreState) (id number : ℕ) (v : View) (write : Write) → Lawful s → HasReader s id number v → MayStore s number write v → Lawful (store_front s id v write)
stores s id number v write h has may =
    let here = has.here in let live = is_live number v has.reader in let w : View = stored write v in let journal : List Write = s.journal ++ write ∷ [] in
    let turn = h.turn.each id v here live in let writes = h.owners.each id v here live in let places = h.places id v here live in
    let current : v.seen ≡ s.journal = turn.current may.turn in
    let longer = length_push s.journal write in
    let settled = settles s.slots s.journal (number_at s.words) write v.claimed h.follows.some_slot h.follows.replay may.allows turn.coming write.change refl may.claimed in
    let others : (j : ℕ) (u : View) → j ≢ id → get_elem? s.views j ≡ some u → u.turn ≢ true = λ j u other there. idle s.slots s.journal _ s.turn s.views h.turn id j v u here may.turn other there in
    let number_inside : number < s.readers = (let inside = writes.inside in subst (λ (ns : List ℕ). All (λ n. n < s.readers) ns) has.reader.1 inside 0 0 (omega arith)) in
    let early : (e : Entry) (seen : ℕ) → e.position ≤ seen → seen ≤ length s.journal → take e.position journal ≡ take e.position s.journal = λ e seen told within. take-append-le e.position s.journal (write ∷ []) (omega arith) in
    let handles : (u : View) → length u.seen ≤ length s.journal → KnowsPlaces s.slots s.journal s.floor u → KeepsHandles s.slots s.journal (number_at s.words) u → KeepsHandles s.slots journal (number_at s.words) u =
    λ u within place all k d low held. all k d low held ∙ ap (front_number s.slots) (sym (early (get_or u.entries k d) (length u.seen) (place.entries k d low).told within)) in
    let entries : (u : View) (more : ℕ) → length u.seen ≤ length s.journal → length u.seen ≤ more → KnowsPlaces s.slots s.journal s.floor u → All (WasFront s.slots journal s.floor more) u.entries =
    λ u more within longer place k d low. let was = place.entries k d low in record {
      front = was.front ∙ ap (front_slot s.slots) (sym (early (get_or u.entries k d) (length u.seen) was.told within));
      late = was.late;
      told = (let told = was.told in omega arith);
    } in
    let pinned : (u : View) (more : ℕ) → length u.seen ≤ length s.journal → length u.seen ≤ more → KnowsPlaces s.slots s.journal s.floor u → All (WasFrontOnce s.slots journal s.floor more) u.pinned =
    λ u more within longer place k d low. let was = place.pinned k d low in let inside = was.2 in (was.0, was.1, omega arith, was.3 ∙ ap (front_slot s.slots) (sym (take-append-le was.0 s.journal (write ∷ []) (omega arith)))) in
    let within : (u : View) → KnowsWrites s.readers s.journal u → length u.seen ≤ length s.journal = λ u f. seen_within s.journal u.seen f.seen in
    let mine = within v writes in
    let seen_is : v.seen ++ write ∷ [] ≡ journal = ap (λ (l : List Write). l ++ write ∷ []) current in
    let own_all : writes_by number s.journal ≡ v.own = sym (writes.own number (has_own number v has.reader.1))
    ∙ all_pass (λ (x : Write). x.by == number) v.own (All-weaker (λ (x : Write). has_number x.by v ≡ 1) (λ (x : Write). (x.by == number) ≡ true) (λ x one. eq-eqb x.by number (sym (own_number number x.by v has.reader.1 one))) v.own writes.only) in
    record {
      pins = λ slot inside. h.pins slot inside ∙ sym (total_kept (pins_at slot) s.views id v w here refl);
      spent = spent_kept s.views id w live h.spent;
      handles = each_set (KeepsHandles s.slots journal (number_at s.words)) s.views id w (handles v mine places (h.handles id v here live))
          (λ j u _ there lives. handles u (within u (h.owners.each j u there lives)) (h.places j u there lives) (h.handles j u there lives));
      follows = record {
        some_slot = h.follows.some_slot;
        replay = replays_push s.slots s.journal write h.follows.replay may.allows;
        front = refl;
        wide = h.follows.wide;
        kept = λ slot inside none. settled.kept slot (total (has_claimed slot) s.views) (total (has_claimed slot) (set s.views id w)) (total-set (has_claimed slot) s.views id v w here) none (h.follows.kept slot inside);
      };
      turn = record {
        one = total_kept has_turn s.views id v w here refl ∙ h.turn.one;
        each = each_set _ s.views id w record {
          holder = turn.holder;
          current = λ _. seen_is;
          claims = λ j is. may.turn;
          inside = λ j is. turn.inside j (settled.same j is);
          unlisted = λ j is. settled.unlisted j is (turn.unlisted j (settled.same j is));
          coming = λ j is. turn.coming j (settled.same j is) ∙ ap (λ n. n + 1) (sym (settled.number j is));
        } (λ j u other there lives. let f = h.turn.each j u there lives in record {
          holder = f.holder;
          current = λ theirs. absurd (others j u other there theirs);
          claims = f.claims;
          inside = f.inside;
          unlisted = λ k is. absurd (others j u other there (f.claims k is));
          coming = λ k is. absurd (others j u other there (f.claims k is));
        });
      };
      owners = record {
        numbers = λ r inside. total_kept (has_number r) s.views id v w here refl ∙ h.owners.numbers r inside;
        whole = total_kept number_count s.views id v w here refl ∙ h.owners.whole;
        main = total_kept is_main s.views id v w here refl ∙ h.owners.main;
        writers = All-push (λ (x : Write). x.by < s.readers) s.journal write h.owners.writers (let by = may.by in omega arith);
        counted = counted_push s.journal write h.owners.counted (may.seq ∙ ap (λ (l : List Write). length l + 1) (sym own_all ∙ ap (λ n. writes_by n s.journal) (sym may.by)));
        each = each_set _ s.views id w record {
          reader = writes.reader;
          main = λ main. (let reader = has.reader.0 in absurd (cc));
          inside = writes.inside;
          seen = ap (λ (l : List Write). take (length l) journal) seen_is ∙ take_all (length journal) journal (omega arith) ∙ sym seen_is;
          own = λ r one. same_writes r v.own s.journal write (writes.own r one);
          told = λ r one. same_writes r v.seen s.journal write (writes.told r one);
          only = All-push (λ (x : Write). has_number x.by v ≡ 1) v.own write writes.only (subst (λ n. has_number n v ≡ 1) (sym may.by) (has_own number v has.reader.1));
        } (λ j u other there lives. let f = h.owners.each j u there lives in
            let else : (r : ℕ) → has_number r u ≡ 1 → write.by ≢ r = λ r one is. (let both = terms_le (has_number number) s.views id j v u other here there in let whole = h.owners.numbers number number_inside in
            let own = has_own number v has.reader.1 in let same = ap (λ n. has_number n u) (sym may.by ∙ is) in omega arith) in
            record {
              reader = f.reader;
              main = f.main;
              inside = f.inside;
              seen = take-append-le (length u.seen) s.journal (write ∷ []) (within u f) ∙ f.seen;
              own = λ r one. f.own r one ∙ sym (writes_by_other r s.journal write (else r one));
              told = λ r one. f.told r one ∙ sym (writes_by_other r s.journal write (else r one));
              only = f.only;
            });
      };
      places = each_set _ s.views id w record {
        same = places.same;
        above = (let above = places.above in let long = length_push v.seen write in omega arith);
        entries = entries v (length (v.seen ++ write ∷ [])) mine (let long = length_push v.seen write in omega arith) places;
        pinned = pinned v (length (v.seen ++ write ∷ [])) mine (let long = length_push v.seen write in omega arith) places;
      } (λ j u _ there lives. let f = h.places j u there lives in record {
        same = f.same;
        above = f.above;
        entries = entries u (length u.seen) (within u (h.owners.each j u there lives)) (omega arith) f;
        pinned = pinned u (length u.seen) (within u (h.owners.each j u there lives)) (omega arith) f;
      });
      room = (let sum = total-set allowance_of s.views id v w here in let room = h.room in let some_left = may.allowance in omega arith);
      few = each_set _ s.views id w (h.few id v here live) (λ j u _ there. h.few j u there);
    }
