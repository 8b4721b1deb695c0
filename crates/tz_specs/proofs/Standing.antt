-- What a line stands for is what its reading gives.
use Rattle.std.proofs.Common.{◌≡◌, ℕ, Bool, true, false, not, ◌||◌, ◌&&◌, ◌==◌, List, [], ◌∷◌, ◌++◌, Option, Some, None, IsTrue, ◌⊎◌, ⊎_elim, inl, inr, refl, sym, ◌∙◌, ap, subst, append_assoc, eqb-true}
use Rattle.std.specs.Option.{option_map}
use Rattle.std.specs.List.{list_all}
use Rattle.std.proofs.lemmas.Bool.{cases_Bool}
use Rattle.std.proofs.lemmas.List.{append-nil}
use Rattle.tz_specs.specs.Field.{is_white, hash, quote, Place, Between, Inside, Quoted, fields_from, fields_of, is_plain, ends_field, ClosesQuote, quote_here, quote_later, Run, run_ends, plain_byte, quoted_piece, StandsFor, no_more, a_comment, white_space, a_field, OpensQuote, plain_then_open, piece_then_open, open_here, LeavesQuoteOpen, open_field, white_then_open, field_then_open}
use Rattle.tz_specs.proofs.Heads.{white_head, comment_head, plain_head, quoted_head, closing_head, opening_head, field_head, ending_white, ending_hash, ending_nil}

-- what kind of byte this is
pub by_kind :
    {P : Type 0} (byte : ℕ) → (is_white byte ≡ true → P) → (is_white byte ≡ false → (byte == hash) ≡ true → P)
    → (is_white byte ≡ false → (byte == hash) ≡ false → (byte == quote) ≡ true → P)
    → (is_white byte ≡ false → (byte == hash) ≡ false → (byte == quote) ≡ false → P) → P
by_kind byte white comment quoted plain =
    ⊎_elim
    (λ (w : is_white byte ≡ true). white w)
    (λ (w : is_white byte ≡ false).
    ⊎_elim
    (λ (h : (byte == hash) ≡ true). comment w h)
    (λ (h : (byte == hash) ≡ false).
    ⊎_elim
    (λ (q : (byte == quote) ≡ true). quoted w h q)
    (λ (q : (byte == quote) ≡ false). plain w h q)
    (cases_Bool (byte == quote)))
    (cases_Bool (byte == hash)))
    (cases_Bool (is_white byte))

pub false_of_not : (b : Bool) → not b ≡ true → b ≡ false
false_of_not true h = cc
false_of_not false h = refl

pub parts_of_not : (a b : Bool) → not (a || b) ≡ true → (a ≡ false) × (b ≡ false)
parts_of_not true b h = (cc, cc)
parts_of_not false b h = (refl, false_of_not b h)

pub parts_of_plain : (w h q : Bool) → (not w && not h && not q) ≡ true → (w ≡ false) × (h ≡ false) × (q ≡ false)
parts_of_plain true h q p = (cc, cc, cc)
parts_of_plain false true q p = (cc, cc, cc)
parts_of_plain false false q p = (refl, refl, false_of_not q p)

pub and_parts : (a b : Bool) → (a && b) ≡ true → (a ≡ true) × (b ≡ true)
and_parts true b h = (refl, h)
and_parts false b h = (cc, cc)

pub plain_of_parts : (byte : ℕ) → is_white byte ≡ false → (byte == hash) ≡ false → (byte == quote) ≡ false → IsTrue (is_plain byte)
plain_of_parts byte w h q = rw (w, h, q) refl

-- where a field ends
pub ending : (line field : List ℕ) → IsTrue (ends_field line) → fields_from Inside field line ≡ option_map (λ fields. field ∷ fields) (fields_from Between [] line)
ending [] field ends = ending_nil field
ending (byte ∷ line) field ends =
    ⊎_elim
    (λ (w : is_white byte ≡ true). ending_white byte field line w)
    (λ (w : is_white byte ≡ false).
    let h : (byte == hash) ≡ true = rw w at ends in
    ending_hash byte field line w h)
    (cases_Bool (is_white byte))

pub begins : (line : List ℕ) → IsTrue (not (ends_field line)) → fields_from Between [] line ≡ fields_from Inside [] line
begins [] goes_on = cc
begins (byte ∷ line) goes_on =
    let parts = parts_of_not (is_white byte) (byte == hash) goes_on in
    field_head byte [] line parts.0 parts.1

-- what stands there is read
pub quote_read :
    {line piece after : List ℕ} → ClosesQuote line piece after
    → (field : List ℕ) → fields_from Quoted field line ≡ fields_from Inside (field ++ piece) after
quote_read (quote_here {rest = rest}) field = rw (append-nil field) (closing_head quote field rest refl)
quote_read (quote_later {byte = byte} {line = line} {piece = piece} {rest = rest} other more) field =
    quoted_head byte field line (false_of_not (byte == quote) other)
    ∙ quote_read more (field ++ byte ∷ [])
    ∙ ap (λ f. fields_from Inside f rest) (append_assoc field (byte ∷ []) piece)

pub run_read :
    {line content rest : List ℕ} → Run line content rest
    → (field : List ℕ) → fields_from Inside field line ≡ option_map (λ fields. (field ++ content) ∷ fields) (fields_from Between [] rest)
run_read (run_ends {rest = rest} ends) field = rw (append-nil field) (ending rest field ends)
run_read (plain_byte {byte = byte} {line = line} {content = content} {rest = rest} plain more) field =
    let parts = parts_of_plain (is_white byte) (byte == hash) (byte == quote) plain in
    plain_head byte field line parts.0 parts.1 parts.2
    ∙ run_read more (field ++ byte ∷ [])
    ∙ ap (λ f. option_map (λ fields. f ∷ fields) (fields_from Between [] rest)) (append_assoc field (byte ∷ []) content)
run_read (quoted_piece {line = line} {piece = piece} {after = after} {content = content} {rest = rest} closed more) field =
    opening_head quote field line refl refl refl
    ∙ quote_read closed field
    ∙ run_read more (field ++ piece)
    ∙ ap (λ f. option_map (λ fields. f ∷ fields) (fields_from Between [] rest)) (append_assoc field piece content)

pub stands_read : {line : List ℕ} {fields : List (List ℕ)} → StandsFor line fields → fields_of line ≡ Some fields
unfolding fields_from
stands_read no_more = refl
stands_read a_comment = refl
stands_read (white_space {byte = byte} {line = line} white more) = white_head byte [] line white ∙ stands_read more
stands_read (a_field {line = line} {content = content} goes_on run more) =
    begins line goes_on ∙ run_read run [] ∙ ap (option_map (λ fields. content ∷ fields)) (stands_read more)

pub no_quote_read : (line field : List ℕ) → IsTrue (list_all (λ byte. not (byte == quote)) line) → fields_from Quoted field line ≡ None
unfolding fields_from
no_quote_read [] field none = refl
no_quote_read (byte ∷ line) field none =
    let parts = and_parts (not (byte == quote)) (list_all (λ b. not (b == quote)) line) none in
    quoted_head byte field line (false_of_not (byte == quote) parts.0) ∙ no_quote_read line (field ++ byte ∷ []) parts.1

pub opens_read : {line : List ℕ} → OpensQuote line → (field : List ℕ) → fields_from Inside field line ≡ None
opens_read (plain_then_open {byte = byte} {line = line} plain more) field =
    let parts = parts_of_plain (is_white byte) (byte == hash) (byte == quote) plain in
    plain_head byte field line parts.0 parts.1 parts.2 ∙ opens_read more (field ++ byte ∷ [])
opens_read (piece_then_open {line = line} {piece = piece} closed more) field =
    opening_head quote field line refl refl refl ∙ quote_read closed field ∙ opens_read more (field ++ piece)
opens_read (open_here {line = line} none) field =
    opening_head quote field line refl refl refl ∙ no_quote_read line field none

pub opens_begin : {line : List ℕ} → OpensQuote line → IsTrue (not (ends_field line))
opens_begin (plain_then_open {byte = byte} plain more) =
    let parts = parts_of_plain (is_white byte) (byte == hash) (byte == quote) plain in
    rw (parts.0, parts.1) refl
opens_begin (piece_then_open closed more) = refl
opens_begin (open_here none) = refl

pub leaves_read : {line : List ℕ} → LeavesQuoteOpen line → fields_of line ≡ None
leaves_read (open_field {line = line} opens) = begins line (opens_begin opens) ∙ opens_read opens []
leaves_read (white_then_open {byte = byte} {line = line} white more) = white_head byte [] line white ∙ leaves_read more
leaves_read (field_then_open {line = line} {content = content} goes_on run more) =
    begins line goes_on ∙ run_read run [] ∙ ap (option_map (λ fields. content ∷ fields)) (leaves_read more)

-- what is read stands there
pub record ReadsRun (field line : List ℕ) (fields : List (List ℕ)) : Type 0 where
  pub content : List ℕ
  pub rest : List ℕ
  pub later : List (List ℕ)
  pub run : Run line content rest
  pub stands : StandsFor rest later
  pub are : fields ≡ (field ++ content) ∷ later

pub record ReadsQuote (field line : List ℕ) (fields : List (List ℕ)) : Type 0 where
  pub piece : List ℕ
  pub after : List ℕ
  pub closed : ClosesQuote line piece after
  pub goes_on : ReadsRun (field ++ piece) after fields

abbrev pub Reads : Place → List ℕ → List ℕ → List (List ℕ) → Type 0
Reads Between field line fields = StandsFor line fields
Reads Inside field line fields = ReadsRun field line fields
Reads Quoted field line fields = ReadsQuote field line fields

abbrev pub ReadsAll : List ℕ → Type 0
ReadsAll line = (place : Place) (field : List ℕ) (fields : List (List ℕ)) → fields_from place field line ≡ Some fields → Reads place field line fields

pub map_some :
    (field : List ℕ) (all : Option (List (List ℕ))) (fields : List (List ℕ)) → option_map (λ later. field ∷ later) all ≡ Some fields
    → (later : List (List ℕ)) × (all ≡ Some later) × (fields ≡ field ∷ later)
map_some field None fields is = absurd (cc)
map_some field (Some later) fields is = (later, refl, cc)

pub some_is : {X : Type 0} (x y : X) → Some x ≡ Some y → y ≡ x
some_is x y is = cc

pub quoted_run :
    {line piece after content rest : List ℕ} (byte : ℕ) → (byte == quote) ≡ true → ClosesQuote line piece after
    → Run after content rest → Run (byte ∷ line) (piece ++ content) rest
quoted_run byte q closed run = rw (eqb-true byte quote q) (quoted_piece closed run)

pub comment_stands : (byte : ℕ) (line : List ℕ) → (byte == hash) ≡ true → StandsFor (byte ∷ line) []
comment_stands byte line h = rw (eqb-true byte hash h) a_comment

pub quote_closes : (byte : ℕ) (line : List ℕ) → (byte == quote) ≡ true → ClosesQuote (byte ∷ line) [] line
quote_closes byte line q = rw (eqb-true byte quote q) quote_here

pub run_step :
    (byte : ℕ) (line : List ℕ) → ReadsAll line
    → (field : List ℕ) (fields : List (List ℕ)) → fields_from Inside field (byte ∷ line) ≡ Some fields → ReadsRun field (byte ∷ line) fields
run_step byte line all field fields is =
    by_kind
    byte
    (λ w.
    let split = map_some field (fields_from Between [] (byte ∷ line)) fields (sym (ending_white byte field line w) ∙ is) in
    record {
      content = [];
      rest = byte ∷ line;
      later = split.0;
      run = run_ends (rw w refl);
      stands = white_space w (all Between [] split.0 (sym (white_head byte [] line w) ∙ split.1));
      are = rw (append-nil field) split.2;
    })
    (λ w h.
    let split = map_some field (fields_from Between [] (byte ∷ line)) fields (sym (ending_hash byte field line w h) ∙ is) in
    let none : split.0 ≡ [] = some_is [] split.0 (sym (comment_head byte [] line w h) ∙ split.1) in
    record {
      content = [];
      rest = byte ∷ line;
      later = [];
      run = run_ends (rw (w, h) refl);
      stands = comment_stands byte line h;
      are = rw (append-nil field) (split.2 ∙ ap (λ later. field ∷ later) none);
    })
    (λ w h q.
    let read : ReadsQuote field line fields = all Quoted field fields (sym (opening_head byte field line w h q) ∙ is) in
    record {
      content = read.piece ++ read.goes_on.content;
      rest = read.goes_on.rest;
      later = read.goes_on.later;
      run = quoted_run byte q read.closed read.goes_on.run;
      stands = read.goes_on.stands;
      are = read.goes_on.are ∙ ap (λ f. f ∷ read.goes_on.later) (append_assoc field read.piece read.goes_on.content);
    })
    (λ w h q.
    let read : ReadsRun (field ++ byte ∷ []) line fields = all Inside (field ++ byte ∷ []) fields (sym (plain_head byte field line w h q) ∙ is) in
    record {
      content = byte ∷ read.content;
      rest = read.rest;
      later = read.later;
      run = plain_byte (plain_of_parts byte w h q) read.run;
      stands = read.stands;
      are = read.are ∙ ap (λ f. f ∷ read.later) (append_assoc field (byte ∷ []) read.content);
    })

pub not_ends : (byte : ℕ) (line : List ℕ) → is_white byte ≡ false → (byte == hash) ≡ false → IsTrue (not (ends_field (byte ∷ line)))
not_ends byte line w h = rw (w, h) refl

pub field_step :
    (byte : ℕ) (line : List ℕ) (fields : List (List ℕ)) → is_white byte ≡ false → (byte == hash) ≡ false
    → ReadsRun [] (byte ∷ line) fields → StandsFor (byte ∷ line) fields
field_step byte line fields w h read =
    rw read.are (a_field (not_ends byte line w h) read.run read.stands)

pub line_step :
    (byte : ℕ) (line : List ℕ) → ReadsAll line
    → (field : List ℕ) (fields : List (List ℕ)) → fields_from Between field (byte ∷ line) ≡ Some fields → StandsFor (byte ∷ line) fields
line_step byte line all field fields is =
    by_kind
    byte
    (λ w. white_space w (all Between [] fields (sym (white_head byte field line w) ∙ is)))
    (λ w h.
    let none : fields ≡ [] = some_is [] fields (sym (comment_head byte field line w h) ∙ is) in
    rw none (comment_stands byte line h))
    (λ w h q. field_step byte line fields w h (run_step byte line all [] fields (sym (field_head byte field line w h) ∙ is)))
    (λ w h q. field_step byte line fields w h (run_step byte line all [] fields (sym (field_head byte field line w h) ∙ is)))

pub quote_step :
    (byte : ℕ) (line : List ℕ) → ReadsAll line
    → (field : List ℕ) (fields : List (List ℕ)) → fields_from Quoted field (byte ∷ line) ≡ Some fields → ReadsQuote field (byte ∷ line) fields
quote_step byte line all field fields is =
    ⊎_elim
    (λ (q : (byte == quote) ≡ true).
    let read : ReadsRun field line fields = all Inside field fields (sym (closing_head byte field line q) ∙ is) in
    record {
      piece = [];
      after = line;
      closed = quote_closes byte line q;
      goes_on = rw (append-nil field) read;
    })
    (λ (q : (byte == quote) ≡ false).
    let read : ReadsQuote (field ++ byte ∷ []) line fields = all Quoted (field ++ byte ∷ []) fields (sym (quoted_head byte field line q) ∙ is) in
    record {
      piece = byte ∷ read.piece;
      after = read.after;
      closed = quote_later (rw q refl) read.closed;
      goes_on = subst (λ f. ReadsRun f read.after fields) (append_assoc field (byte ∷ []) read.piece) read.goes_on;
    })
    (cases_Bool (byte == quote))

pub between_nil : (field : List ℕ) → fields_from Between field [] ≡ Some []
unfolding fields_from
between_nil field = refl

pub quoted_nil : (field : List ℕ) → fields_from Quoted field [] ≡ None
unfolding fields_from
quoted_nil field = refl

pub inside_nil : (field : List ℕ) → fields_from Inside field [] ≡ Some (field ∷ [])
unfolding fields_from
inside_nil field = refl

pub none_some : {X P : Type 0} (all : Option X) (x : X) → all ≡ None → all ≡ Some x → P
none_some all x none some = let never : None ≡ Some x = sym none ∙ some in absurd (cc)

pub read_stands : (line : List ℕ) → ReadsAll line
read_stands [] Between field fields is = rw (some_is [] fields (sym (between_nil field) ∙ is)) no_more
read_stands [] Inside field fields is = record {
  content = [];
  rest = [];
  later = [];
  run = run_ends refl;
  stands = no_more;
  are = rw (append-nil field) (some_is (field ∷ []) fields (sym (inside_nil field) ∙ is));
}
read_stands [] Quoted field fields is = none_some (fields_from Quoted field []) fields (quoted_nil field) is
read_stands (byte ∷ line) Between field fields is = line_step byte line (read_stands line) field fields is
read_stands (byte ∷ line) Inside field fields is = run_step byte line (read_stands line) field fields is
read_stands (byte ∷ line) Quoted field fields is = quote_step byte line (read_stands line) field fields is

-- what isn't read has an open quote
pub record FieldThenOpen (line : List ℕ) : Type 0 where
  pub content : List ℕ
  pub rest : List ℕ
  pub run : Run line content rest
  pub opens : LeavesQuoteOpen rest

abbrev pub LeavesRun : List ℕ → Type 0
LeavesRun line = OpensQuote line ⊎ FieldThenOpen line

pub record QuoteThenOpen (line : List ℕ) : Type 0 where
  pub piece : List ℕ
  pub after : List ℕ
  pub closed : ClosesQuote line piece after
  pub goes_on : LeavesRun after

abbrev pub Leaves : Place → List ℕ → Type 0
Leaves Between line = LeavesQuoteOpen line
Leaves Inside line = LeavesRun line
Leaves Quoted line = IsTrue (list_all (λ byte. not (byte == quote)) line) ⊎ QuoteThenOpen line

abbrev pub LeavesAll : List ℕ → Type 0
LeavesAll line = (place : Place) (field : List ℕ) → fields_from place field line ≡ None → Leaves place line

pub map_none : (field : List ℕ) (all : Option (List (List ℕ))) → option_map (λ later. field ∷ later) all ≡ None → all ≡ None
map_none field None is = refl
map_none field (Some later) is = absurd (cc)

pub open_piece_step : (byte : ℕ) (line : List ℕ) → (byte == quote) ≡ true → Leaves Quoted line → LeavesRun (byte ∷ line)
open_piece_step byte line q left =
    rw
    (eqb-true byte quote q)
    (⊎_elim
    (λ (none : IsTrue (list_all (λ b. not (b == quote)) line)). inl (open_here none))
    (λ (closed : QuoteThenOpen line).
    ⊎_elim
    (λ (opens : OpensQuote closed.after). inl (piece_then_open closed.closed opens))
    (λ (later : FieldThenOpen closed.after).
    inr (record {
      content = closed.piece ++ later.content;
      rest = later.rest;
      run = quoted_piece closed.closed later.run;
      opens = later.opens;
    }))
    closed.goes_on)
    left)

pub open_run_step :
    (byte : ℕ) (line : List ℕ) → LeavesAll line
    → (field : List ℕ) → fields_from Inside field (byte ∷ line) ≡ None → LeavesRun (byte ∷ line)
open_run_step byte line all field is =
    by_kind
    byte
    (λ w.
    let none : fields_from Between [] (byte ∷ line) ≡ None = map_none field (fields_from Between [] (byte ∷ line)) (sym (ending_white byte field line w) ∙ is) in
    inr (record {
      content = [];
      rest = byte ∷ line;
      run = run_ends (rw w refl);
      opens = white_then_open w (all Between [] (sym (white_head byte [] line w) ∙ none));
    }))
    (λ w h.
    let none : fields_from Between [] (byte ∷ line) ≡ None = map_none field (fields_from Between [] (byte ∷ line)) (sym (ending_hash byte field line w h) ∙ is) in
    none_some (fields_from Between [] (byte ∷ line)) [] none (comment_head byte [] line w h))
    (λ w h q.
    let left : Leaves Quoted line = all Quoted field (sym (opening_head byte field line w h q) ∙ is) in
    open_piece_step byte line q left)
    (λ w h q.
    let left : LeavesRun line = all Inside (field ++ byte ∷ []) (sym (plain_head byte field line w h q) ∙ is) in
    ⊎_elim
    (λ (opens : OpensQuote line). inl (plain_then_open (plain_of_parts byte w h q) opens))
    (λ (later : FieldThenOpen line).
    inr (record {
      content = byte ∷ later.content;
      rest = later.rest;
      run = plain_byte (plain_of_parts byte w h q) later.run;
      opens = later.opens;
    }))
    left)

pub open_field_step :
    (byte : ℕ) (line : List ℕ) → is_white byte ≡ false → (byte == hash) ≡ false → LeavesRun (byte ∷ line) → LeavesQuoteOpen (byte ∷ line)
open_field_step byte line w h left =
    ⊎_elim
    (λ (opens : OpensQuote (byte ∷ line)). open_field opens)
    (λ (later : FieldThenOpen (byte ∷ line)). field_then_open (not_ends byte line w h) later.run later.opens)
    left

pub open_line_step :
    (byte : ℕ) (line : List ℕ) → LeavesAll line
    → (field : List ℕ) → fields_from Between field (byte ∷ line) ≡ None → LeavesQuoteOpen (byte ∷ line)
open_line_step byte line all field is =
    by_kind
    byte
    (λ w. white_then_open w (all Between [] (sym (white_head byte field line w) ∙ is)))
    (λ w h. none_some (fields_from Between field (byte ∷ line)) [] is (comment_head byte field line w h))
    (λ w h q. open_field_step byte line w h (open_run_step byte line all [] (sym (field_head byte field line w h) ∙ is)))
    (λ w h q. open_field_step byte line w h (open_run_step byte line all [] (sym (field_head byte field line w h) ∙ is)))

pub open_quote_step :
    (byte : ℕ) (line : List ℕ) → LeavesAll line
    → (field : List ℕ) → fields_from Quoted field (byte ∷ line) ≡ None → Leaves Quoted (byte ∷ line)
open_quote_step byte line all field is =
    ⊎_elim
    (λ (q : (byte == quote) ≡ true).
    let left : LeavesRun line = all Inside field (sym (closing_head byte field line q) ∙ is) in
    inr (record { piece = []; after = line; closed = quote_closes byte line q; goes_on = left }))
    (λ (q : (byte == quote) ≡ false).
    let left : Leaves Quoted line = all Quoted (field ++ byte ∷ []) (sym (quoted_head byte field line q) ∙ is) in
    ⊎_elim
    (λ (none : IsTrue (list_all (λ b. not (b == quote)) line)). inl (rw q none))
    (λ (closed : QuoteThenOpen line).
    inr (record {
      piece = byte ∷ closed.piece;
      after = closed.after;
      closed = quote_later (rw q refl) closed.closed;
      goes_on = closed.goes_on;
    }))
    left)
    (cases_Bool (byte == quote))

pub unread_opens : (line : List ℕ) → LeavesAll line
unread_opens [] Between field is = none_some (fields_from Between field []) [] is (between_nil field)
unread_opens [] Inside field is = none_some (fields_from Inside field []) (field ∷ []) is (inside_nil field)
unread_opens [] Quoted field is = inl refl
unread_opens (byte ∷ line) Between field is = open_line_step byte line (unread_opens line) field is
unread_opens (byte ∷ line) Inside field is = open_run_step byte line (unread_opens line) field is
unread_opens (byte ∷ line) Quoted field is = open_quote_step byte line (unread_opens line) field is
