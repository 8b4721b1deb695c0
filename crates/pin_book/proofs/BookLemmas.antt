-- A book's rows are its journal's replay, and what a push and an erase make of both.
use Rattle.std.proofs.Common.{◌≡◌, ℕ, zero, suc, ◌+◌, ◌-◌, ◌<◌, ◌≤◌, Bool, true, false, not, ◌&&◌, ◌||◌, eqb, ltb, List, [], ◌∷◌, ◌++◌, length, length-append, filter, get_or, set, remove, position, Contains, Some, None, refl, sym, ap, ◌∙◌, ⊎_elim, arith}
use Rattle.std.specs.List.{list_any, position_or_len}
use Rattle.std.proofs.lemmas.Bool.{and_from, cond-true, eq-eqb, eqb-true, lt-ltb, ltb-false, cases_Bool, cases_lt, not_from_false}
use Rattle.std.proofs.lemmas.Option.{none-some}
use Rattle.std.proofs.lemmas.List.{get_or-map, get_or_append_left, get_or_push}
use Rattle.std.proofs.lemmas.List.Concat.{flat_map-append}
use Rattle.std.proofs.lemmas.List.Folds.{list_any_none, list_any_at}
use Rattle.std.proofs.lemmas.List.Sums.{fails_before_first}
use Rattle.std.proofs.lemmas.List.Quantifiers.{position-Some}
use Rattle.pin_book.specs.declared.listed.Listed.{Listed}
use Rattle.pin_book.specs.declared.write.Change.{Change}
use Rattle.pin_book.specs.declared.write.Change.TheVariants.{Push, Erase}
use Rattle.pin_book.specs.declared.write.Write.{Write}
use Rattle.pin_book.specs.declared.limits.TheConstants.{MOST_SLOTS, MOST_WRITES}
use Rattle.pin_book.specs.Replay.{Edition, ListState, opening, front_of, is_listed, is_slot_listed, greatest_below, allowed, after_change, after_write, state_after}
use Rattle.pin_book.specs.Pushes.{pushed_by, pushes}
use Rattle.pin_book.specs.Sequence.{next_seq}
use Rattle.pin_book.specs.Names.{name_of, with_name, with_names}
use Rattle.pin_book.specs.Standing.{Rows}
use Rattle.pin_book.specs.Book.{Chronicle, list_of, rows_of, IsShelved}
use Rattle.pin_book.proofs.ListLemmas.{Stands, few_listed}
use Rattle.pin_book.proofs.ReplayLemmas.{Orderly, PushAsks, EraseAsks, replay_orderly, push_orderly, replays_push, state_after_push}
use Rattle.pin_book.proofs.SequenceLemmas.{counted_push}
use Rattle.pin_book.proofs.BehindLemmas.{behind, listed_at}

-- a push that has what it asks is allowed, and an erase
pub asked_push : (state : ListState) (n src slot : ℕ) → PushAsks state n slot → allowed state (Push n src slot) ≡ true
asked_push state n src slot asks =
    and_from (eqb n ((front_of state.listed).n + 1) && ltb slot (length state.kept)) (not (is_slot_listed slot state.listed))
    (and_from (eqb n ((front_of state.listed).n + 1)) (ltb slot (length state.kept)) (eq-eqb n ((front_of state.listed).n + 1) asks.next) (lt-ltb slot (length state.kept) asks.inside))
    (not_from_false (is_slot_listed slot state.listed) asks.unlisted)

pub asked_erase : (state : ListState) (after gone : ℕ) → EraseAsks state after gone → allowed state (Erase after gone) ≡ true
asked_erase state after gone asks =
    and_from (is_listed after state.listed && ltb 0 gone) (eqb gone (greatest_below after state.listed))
    (and_from (is_listed after state.listed) (ltb 0 gone) asks.listed (lt-ltb 0 gone asks.some))
    (eq-eqb gone (greatest_below after state.listed) asks.next)

-- the pushes of one more write, and their number
pub pushes_push : (journal : List Write) (write : Write) → length (pushes (journal ++ write ∷ [])) ≡ length (pushes journal) + length (pushed_by write.change)
pushes_push journal write =
    let split : pushes (journal ++ write ∷ []) ≡ pushes journal ++ pushes (write ∷ []) = flat_map-append (λ (w : Write). pushed_by w.change) journal (write ∷ []) in
    let last : length (pushes (write ∷ [])) ≡ length (pushed_by write.change) + 0 = length-append (pushed_by write.change) [] in
    omega (arith, ap (λ (xs : List Edition). length xs) split, length-append (pushes journal) (pushes (write ∷ [])), last)

one_at_most : (change : Change) → length (pushed_by change) ≤ 1
one_at_most (Push n src slot) = omega arith
one_at_most (Erase after gone) = omega arith

pub pushes_le : (journal : List Write) → length (pushes journal) ≤ length journal
pushes_le [] = omega arith
pushes_le (write ∷ later) =
    omega (arith, pushes_le later, one_at_most write.change, length-append (pushed_by write.change) (pushes later))

-- the state of a book is in order
pub book_orderly : (book : Chronicle) (rows : Rows) → IsShelved book rows → Orderly book.slots (length (pushes book.journal)) (list_of book)
book_orderly book rows shelved =
    replay_orderly book.slots book.journal (omega (arith, shelved.some_slots)) shelved.journal.replay

first_of : (names : List (List ℕ)) (pushed : ℕ) (es : List Edition) (row : Listed) → (front_of es).n ≡ pushed + 1 → get_or (with_names names es) 0 row ≡ with_name names (front_of es)
first_of names pushed [] row front = absurd (omega arith)
first_of names pushed (e ∷ es) row front = refl

some_of : (names : List (List ℕ)) (pushed : ℕ) (es : List Edition) → (front_of es).n ≡ pushed + 1 → 0 < length (with_names names es)
some_of names pushed [] front = absurd (omega arith)
some_of names pushed (e ∷ es) front = omega arith

-- something is listed
pub shelf_nonempty : (book : Chronicle) (rows : Rows) → IsShelved book rows → 0 < length rows.listed
shelf_nonempty book rows shelved =
    rw shelved.listed (some_of book.names (length (pushes book.journal)) (list_of book).listed (book_orderly book rows shelved).front)

-- the first row is the front
pub first_row : (book : Chronicle) (rows : Rows) (row : Listed) → IsShelved book rows → get_or rows.listed 0 row ≡ with_name book.names (front_of (list_of book).listed)
first_row book rows row shelved =
    rw shelved.listed (first_of book.names (length (pushes book.journal)) (list_of book).listed row (book_orderly book rows shelved).front)

-- numbers stay far below their type's end
pub front_bound : (book : Chronicle) (rows : Rows) → IsShelved book rows → (front_of (list_of book).listed).n ≤ MOST_WRITES + 1
front_bound book rows shelved =
    omega (arith, (book_orderly book rows shelved).front, pushes_le book.journal, shelved.journal.within, shelved.few_writes)

-- one more name leaves those of the versions before it
names_kept : (names : List (List ℕ)) (name : List ℕ) (bound : ℕ) (kept : List ℕ) (es : List Edition) → Stands bound kept es → bound ≤ length names + 1 → with_names (names ++ name ∷ []) es ≡ with_names names es
names_kept names name bound kept [] stands low = refl
names_kept names name bound kept (e ∷ es) stands low =
    let inside : e.n - 1 < length names = omega (arith, stands.0, stands.1, low) in
    let same : name_of (names ++ name ∷ []) e.n ≡ name_of names e.n = get_or_append_left names (name ∷ []) [] (e.n - 1) inside in
    let first : with_name (names ++ name ∷ []) e ≡ with_name names e =
    ap (λ (text : List ℕ). let row : Listed = record { n = e.n; src = e.src; slot = e.slot; name = text } in row) same in
    ap (λ (row : Listed). row ∷ with_names (names ++ name ∷ []) es) first
    ∙ ap (λ rows. with_name names e ∷ rows) (names_kept names name e.n kept es stands.4 (omega (arith, stands.1, low)))

-- what a push writes, and what the book then has
abbrev pub push_write : Chronicle → ℕ → ℕ → ℕ → ℕ → Write
push_write book by n src slot = record { by = by; seq = next_seq by book.journal; change = Push n src slot }

abbrev pub pushed_book : Chronicle → Write → List ℕ → Chronicle
pushed_book book write name =
    record { slots = book.slots; room = book.room; journal = book.journal ++ write ∷ []; names = book.names ++ name ∷ [] }

abbrev pub pushed_rows : Rows → ℕ → ℕ → ℕ → List ℕ → Rows
pushed_rows rows n src slot name =
    record { listed = record { n = n; src = src; slot = slot; name = name } ∷ rows.listed; kept = set rows.kept slot n }

pub push_asked : (book : Chronicle) (rows : Rows) (n slot : ℕ) → IsShelved book rows → n ≡ (front_of (list_of book).listed).n + 1 → slot < book.slots → is_slot_listed slot (list_of book).listed ≡ false → PushAsks (list_of book) n slot
push_asked book rows n slot shelved number inside unlisted =
    record { next = number; inside = rw (book_orderly book rows shelved).wide inside; unlisted = unlisted }

pub push_shelved : (book : Chronicle) (rows : Rows) (by n src slot : ℕ) (name : List ℕ) → IsShelved book rows → PushAsks (list_of book) n slot → length book.journal < book.room → IsShelved (pushed_book book (push_write book by n src slot) name) (pushed_rows rows n src slot name)
push_shelved book rows by n src slot name shelved asks room =
    let write = push_write book by n src slot in
    let orderly = book_orderly book rows shelved in
    let long : length (book.journal ++ write ∷ []) ≡ length book.journal + 1 = length-append book.journal (write ∷ []) in
    let named : length (book.names ++ name ∷ []) ≡ length book.names + 1 = length-append book.names (name ∷ []) in
    let more : length (pushes (book.journal ++ write ∷ [])) ≡ length (pushes book.journal) + 1 = pushes_push book.journal write in
    let state : state_after book.slots (book.journal ++ write ∷ []) ≡ after_write (list_of book) write = state_after_push book.slots book.journal write in
    let last : n - 1 ≡ length book.names = omega (arith, asks.next, orderly.front, shelved.journal.names) in
    let its_name : name_of (book.names ++ name ∷ []) n ≡ name = get_or_push book.names name [] (n - 1) (sym last) in
    let others : with_names (book.names ++ name ∷ []) (list_of book).listed ≡ rows.listed =
    names_kept book.names name (length (pushes book.journal) + 2) (list_of book).kept (list_of book).listed orderly.stands (omega (arith, shelved.journal.names))
    ∙ sym shelved.listed in
    let listed : with_names (book.names ++ name ∷ []) (after_write (list_of book) write).listed ≡ (pushed_rows rows n src slot name).listed =
    ap (λ (text : List ℕ). let row : Listed = record { n = n; src = src; slot = slot; name = text } in row ∷ with_names (book.names ++ name ∷ []) (list_of book).listed) its_name
    ∙ ap (λ (later : List Listed). let row : Listed = record { n = n; src = src; slot = slot; name = name } in row ∷ later) others in
    record {
      journal = record {
        replay = replays_push (opening book.slots) book.journal write shelved.journal.replay (asked_push (list_of book) n src slot asks);
        count = counted_push book.journal write shelved.journal.count refl;
        within = omega (arith, long, room);
        names = omega (arith, named, more, shelved.journal.names);
      };
      listed = sym (ap (λ (s : ListState). with_names (book.names ++ name ∷ []) s.listed) state ∙ listed);
      kept = sym (ap (λ (s : ListState). s.kept) state ∙ ap (λ (kept : List ℕ). set kept slot n) (sym shelved.kept));
      few_slots = shelved.few_slots;
      some_slots = shelved.some_slots;
      few_writes = shelved.few_writes;
    }

rows_long : (names : List (List ℕ)) (es : List Edition) → length (with_names names es) ≡ length es
rows_long names [] = refl
rows_long names (e ∷ es) = ap suc (rows_long names es)

-- a push has a slot left for it
pub push_has_room : (book : Chronicle) (rows : Rows) (n src slot : ℕ) → IsShelved book rows → PushAsks (list_of book) n slot → length rows.listed < length rows.kept
push_has_room book rows n src slot shelved asks =
    let pushed = push_orderly book.slots (length (pushes book.journal)) n src slot (list_of book) (book_orderly book rows shelved) asks in
    let few = few_listed (length (pushes book.journal) + 1 + 2) (after_change (list_of book) (Push n src slot)).kept (after_change (list_of book) (Push n src slot)).listed pushed.stands in
    omega (arith, few, pushed.wide, (book_orderly book rows shelved).wide, ap (λ (xs : List ℕ). length xs) shelved.kept, ap (λ (xs : List Listed). length xs) shelved.listed, rows_long book.names (list_of book).listed)

listed_row : (number : ℕ) (names : List (List ℕ)) (es : List Edition) → list_any (λ (row : Listed). eqb row.n number) (with_names names es) ≡ is_listed number es
listed_row number names [] = refl
listed_row number names (e ∷ es) = ap (λ b. eqb e.n number || b) (listed_row number names es)

rows_listed : (book : Chronicle) (rows : Rows) (number : ℕ) → IsShelved book rows → list_any (λ (row : Listed). eqb row.n number) rows.listed ≡ is_listed number (list_of book).listed
rows_listed book rows number shelved =
    ap (λ (xs : List Listed). list_any (λ (row : Listed). eqb row.n number) xs) shelved.listed
    ∙ listed_row number book.names (list_of book).listed

slot_row : (slot : ℕ) (names : List (List ℕ)) (es : List Edition) → list_any (λ (row : Listed). eqb row.slot slot) (with_names names es) ≡ is_slot_listed slot es
slot_row slot names [] = refl
slot_row slot names (e ∷ es) = ap (λ b. eqb e.slot slot || b) (slot_row slot names es)

pub rows_slot : (book : Chronicle) (rows : Rows) (slot : ℕ) → IsShelved book rows → list_any (λ (row : Listed). eqb row.slot slot) rows.listed ≡ is_slot_listed slot (list_of book).listed
rows_slot book rows slot shelved =
    ap (λ (xs : List Listed). list_any (λ (row : Listed). eqb row.slot slot) xs) shelved.listed
    ∙ slot_row slot book.names (list_of book).listed

-- a number without a place isn't listed
no_place : {X : Type 0} (p : X → Bool) (xs : List X) → position p xs ≡ None → list_any p xs ≡ false
no_place p xs none =
    ⊎_elim
    (λ (t : ltb (position_or_len p xs) (length xs) ≡ true). absurd (none-some (position_or_len p xs) (sym none ∙ cond-true (ltb (position_or_len p xs) (length xs)) (Some (position_or_len p xs)) None t)))
    (λ (f : ltb (position_or_len p xs) (length xs) ≡ false). list_any_none p xs (λ k d low. fails_before_first p xs k d (omega (arith, low, ltb-false (position_or_len p xs) (length xs) f))))
    (cases_Bool (ltb (position_or_len p xs) (length xs)))

pub not_found : (book : Chronicle) (rows : Rows) (number : ℕ) → IsShelved book rows → position (λ (row : Listed). eqb row.n number) rows.listed ≡ None → is_listed number (list_of book).listed ≡ false
not_found book rows number shelved none =
    sym (rows_listed book rows number shelved) ∙ no_place (λ (row : Listed). eqb row.n number) rows.listed none

-- what the place of a number tells
pub record FoundAt (book : Chronicle) (rows : Rows) (number place : ℕ) : Type 0 where
  pub listed : is_listed number (list_of book).listed ≡ true
  pub within : place < length rows.listed
  pub next : (row : Listed) → place + 1 < length rows.listed → (get_or rows.listed (place + 1) row).n ≡ greatest_below number (list_of book).listed
  pub some : place + 1 < length rows.listed → 0 < greatest_below number (list_of book).listed
  pub none : length rows.listed ≤ place + 1 → greatest_below number (list_of book).listed ≡ 0
  pub rest : place + 1 < length rows.listed → remove rows.listed (place + 1) ≡ with_names book.names (filter (λ edition. not (eqb edition.n (greatest_below number (list_of book).listed))) (list_of book).listed)

rows_without : (names : List (List ℕ)) (es : List Edition) (place : ℕ) → remove (with_names names es) place ≡ with_names names (remove es place)
rows_without names [] zero = refl
rows_without names [] (suc place) = refl
rows_without names (e ∷ es) zero = refl
rows_without names (e ∷ es) (suc place) = ap (λ rows. with_name names e ∷ rows) (rows_without names es place)

pub found : (book : Chronicle) (rows : Rows) (number place : ℕ) → IsShelved book rows → position (λ (row : Listed). eqb row.n number) rows.listed ≡ Some place → FoundAt book rows number place
found book rows number place shelved there =
    let es : List Edition = (list_of book).listed in
    let none : Edition = record { n = 0; src = 0; slot = 0 } in
    let row : Listed = with_name book.names none in
    let orderly = book_orderly book rows shelved in
    let at = position-Some (λ (r : Listed). eqb r.n number) rows.listed place row there in
    let long : length rows.listed ≡ length es = ap (λ (xs : List Listed). length xs) shelved.listed ∙ rows_long book.names es in
    let inside : place < length es = omega (arith, at.0, long) in
    let shows : (index : ℕ) → index < length es → (d : Listed) → get_or rows.listed index d ≡ with_name book.names (get_or es index none) =
    λ index low d. ap (λ (xs : List Listed). get_or xs index d) shelved.listed ∙ get_or-map (with_name book.names) es index none d low in
    let here : (get_or es place none).n ≡ number =
    ap (λ (r : Listed). r.n) (sym (shows place inside row)) ∙ eqb-true (get_or rows.listed place row).n number at.1 in
    let told = behind (length (pushes book.journal) + 2) number place (list_of book).kept es none orderly.stands inside here in
    let next : place + 1 ≡ suc place = omega arith in
    record {
      listed = sym (rows_listed book rows number shelved) ∙ list_any_at (λ (r : Listed). eqb r.n number) rows.listed place row at.0 at.1;
      within = at.0;
      next = λ d short. rw next (ap (λ (r : Listed). r.n) (shows (suc place) (omega (arith, short, long)) d) ∙ told.next none (omega (arith, short, long)));
      some = λ short. omega (arith, (listed_at (length (pushes book.journal) + 2) (suc place) (list_of book).kept es none orderly.stands (omega (arith, short, long))).0, told.next none (omega (arith, short, long)));
      none = λ end. told.none (omega (arith, end, long));
      rest = λ short. rw next (ap (λ (xs : List Listed). remove xs (suc place)) shelved.listed ∙ (rows_without book.names es (suc place) ∙ ap (λ (xs : List Edition). with_names book.names xs) (told.rest (omega (arith, short, long)))));
    }

-- the row behind a number's
pub behind_row : (book : Chronicle) (rows : Rows) (number place : ℕ) (row : Listed) → IsShelved book rows → FoundAt book rows number place → place + 1 < length rows.listed → row ≡ get_or rows.listed (place + 1) row → Contains (rows_of book) row × (row.n ≡ greatest_below number (list_of book).listed)
behind_row book rows number place row shelved at short is =
    let there : Contains rows.listed row = (place + 1, short, sym is) in
    (rw shelved.listed at there, ap (λ (r : Listed). r.n) is ∙ at.next row short)

-- where a number has one below it, its place isn't the last
pub has_behind : (book : Chronicle) (rows : Rows) (number place : ℕ) → FoundAt book rows number place → 0 < greatest_below number (list_of book).listed → place + 1 < length rows.listed
has_behind book rows number place at some =
    ⊎_elim (λ (lt : place + 1 < length rows.listed). lt)
    (λ (le : length rows.listed ≤ place + 1). absurd (omega (arith, at.none le, some)))
    (cases_lt (place + 1) (length rows.listed))

-- places are few
pub short_place : (book : Chronicle) (rows : Rows) (number place : ℕ) → IsShelved book rows → FoundAt book rows number place → place < MOST_SLOTS
short_place book rows number place shelved at =
    let orderly = book_orderly book rows shelved in
    let few = few_listed (length (pushes book.journal) + 2) (list_of book).kept (list_of book).listed orderly.stands in
    omega (arith, few, at.within, orderly.wide, shelved.few_slots, ap (λ (xs : List Listed). length xs) shelved.listed, rows_long book.names (list_of book).listed)

-- what an erase writes, and what the book then has
abbrev pub erase_write : Chronicle → ℕ → ℕ → ℕ → Write
erase_write book by after gone = record { by = by; seq = next_seq by book.journal; change = Erase after gone }

abbrev pub erased_book : Chronicle → Write → Chronicle
erased_book book write =
    record { slots = book.slots; room = book.room; journal = book.journal ++ write ∷ []; names = book.names }

pub erase_shelved : (book : Chronicle) (rows : Rows) (by after gone place : ℕ) → IsShelved book rows → FoundAt book rows after place → place + 1 < length rows.listed → 0 < gone → gone ≡ greatest_below after (list_of book).listed → length book.journal < book.room → IsShelved (erased_book book (erase_write book by after gone)) (record { listed = remove rows.listed (place + 1); kept = rows.kept })
erase_shelved book rows by after gone place shelved at short some is room =
    let write = erase_write book by after gone in
    let asks : EraseAsks (list_of book) after gone = record { listed = at.listed; some = some; next = is } in
    let long : length (book.journal ++ write ∷ []) ≡ length book.journal + 1 = length-append book.journal (write ∷ []) in
    let more : length (pushes (book.journal ++ write ∷ [])) ≡ length (pushes book.journal) + 0 = pushes_push book.journal write in
    let state : state_after book.slots (book.journal ++ write ∷ []) ≡ after_write (list_of book) write = state_after_push book.slots book.journal write in
    let left : with_names book.names (after_write (list_of book) write).listed ≡ remove rows.listed (place + 1) =
    ap (λ (n : ℕ). with_names book.names (filter (λ edition. not (eqb edition.n n)) (list_of book).listed)) is ∙ sym (at.rest short) in
    record {
      journal = record {
        replay = replays_push (opening book.slots) book.journal write shelved.journal.replay (asked_erase (list_of book) after gone asks);
        count = counted_push book.journal write shelved.journal.count refl;
        within = omega (arith, long, room);
        names = omega (arith, more, shelved.journal.names);
      };
      listed = sym (ap (λ (s : ListState). with_names book.names s.listed) state ∙ left);
      kept = sym (ap (λ (s : ListState). s.kept) state ∙ sym shelved.kept);
      few_slots = shelved.few_slots;
      some_slots = shelved.some_slots;
      few_writes = shelved.few_writes;
    }
