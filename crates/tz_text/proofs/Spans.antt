-- What the places of fields stand for.
use Rattle.std.proofs.Common.{◌≡◌, ℕ, ◌+◌, ◌-◌, ◌<◌, ◌≤◌, List, [], ◌∷◌, ◌++◌, length, take, drop, get_or, set, map, suc, zero, Option, Some, None, arith, sym, ◌∙◌, ap, refl, append_assoc, ⊎_elim}
use Rattle.std.specs.Option.{option_map}
use Rattle.std.specs.List.{All, slice_range}
use Rattle.std.proofs.lemmas.Bool.{cases_lt}
use Rattle.std.proofs.lemmas.List.{take_all, take_at, take_more_set, set_past, map-set, length-take, length-map, append-nil, take-take, drop-take, length_push}
use Rattle.std.proofs.lemmas.List.Elements.{All-set}
use Rattle.tz_specs.specs.Field.{fields_from, fields_of, Between}
use Rattle.tz_text.specs.declared.kept.TheConstants.{MOST_KEPT}
use Rattle.tz_text.specs.Kept.{Kept, kept_of, with_later, with_field}
use Rattle.tz_text.specs.Spans.{bytes_of, LiesIn, with_span, kept_in, IsField}
use Rattle.tz_text.specs.declared.cut.spans.Field.{Field}
use Rattle.tz_text.specs.declared.cut.spans.Span.{Span}
use Rattle.tz_text.specs.declared.cut.spans.Span.TheVariants.{Line, Joined}
use Rattle.tz_text.specs.declared.cut.spans.Spans.{Spans}

-- a cut once more, further out
pub take_again : {X : Type 0} (n : ℕ) (xs ys : List X) → take n (take n xs ++ ys) ≡ take n (xs ++ ys)
take_again zero xs ys = refl
take_again (suc n) [] ys = refl
take_again (suc n) (x ∷ xs) ys = ap (λ rest. x ∷ rest) (take_again n xs ys)

pub same_kept : (a b : Kept) → a.first ≡ b.first → a.count ≡ b.count → a ≡ b
same_kept a b first count = λ i. record { first = first i; count = count i }

-- what is kept of one field and of those that follow it
pub with_later_field :
    (kept : Kept) (field : List ℕ) (later : List (List ℕ))
    → with_later (with_field kept field) later ≡ with_later kept (field ∷ later)
with_later_field kept field later =
    same_kept
    _
    _
    (take_again MOST_KEPT (kept.first ++ field ∷ []) later
    ∙ ap (take MOST_KEPT) (append_assoc kept.first (field ∷ []) later))
    (omega arith)

pub with_later_map :
    (kept : Kept) (field : List ℕ) (later : Option (List (List ℕ)))
    → option_map (with_later kept) (option_map (λ fields. field ∷ fields) later)
    ≡ option_map (with_later (with_field kept field)) later
with_later_map kept field None = refl
with_later_map kept field (Some later) = ap (λ all. Some all) (sym (with_later_field kept field later))

pub take_more_places :
    {X : Type 0} (n : ℕ) (xs : List X) (y : X) → length xs ≡ MOST_KEPT → take (n + 1) (set xs n y) ≡ take MOST_KEPT (take n xs ++ y ∷ [])
take_more_places n xs y ten =
    ⊎_elim
    (λ (lt : n < MOST_KEPT).
    let within : n < length xs = omega arith in
    let short : length (take n xs ++ y ∷ []) ≤ MOST_KEPT = grind (arith, length-take, length_push) in
    take_more_set xs n y within ∙ sym (take_all MOST_KEPT (take n xs ++ y ∷ []) short))
    (λ (le : MOST_KEPT ≤ n).
    rw
    (set_past xs n y (omega arith), take_all (n + 1) xs (omega arith), take_all n xs (omega arith))
    (sym (take_at xs (y ∷ []) MOST_KEPT ten)))
    (cases_lt n MOST_KEPT)

pub kept_with_span :
    (line joined : List ℕ) (spans : Spans) (span : Span) → length spans.first ≡ MOST_KEPT
    → kept_in line joined (with_span spans span) ≡ with_field (kept_in line joined spans) (bytes_of line joined span)
kept_with_span line joined spans span ten =
    same_kept
    _
    _
    (rw
    (map-set (bytes_of line joined) spans.first spans.count span)
    (take_more_places spans.count (map (bytes_of line joined) spans.first) (bytes_of line joined span)
    (length-map spans.first (bytes_of line joined) ∙ ten)))
    refl

-- bytes that are joined later change no field
pub same_range :
    (earlier joined : List ℕ) (start end : ℕ) → start ≤ end → end ≤ length earlier → take (length earlier) joined ≡ earlier
    → slice_range joined start end ≡ slice_range earlier start end
same_range earlier joined start end order within same =
    let split : length earlier ≡ start + (length earlier - start) = omega arith in
    let front : earlier ≡ take (start + (length earlier - start)) joined = sym (rw (← split) same) in
    let rest : drop start earlier ≡ take (length earlier - start) (drop start joined) =
    ap (drop start) front ∙ drop-take start (length earlier - start) joined in
    let short : end - start ≤ length earlier - start = omega arith in
    sym (ap (take (end - start)) rest ∙ take-take (end - start) (length earlier - start) (drop start joined) short)

pub same_bytes :
    (line earlier joined : List ℕ) (span : Span) → take (length earlier) joined ≡ earlier → LiesIn line earlier span
    → bytes_of line joined span ≡ bytes_of line earlier span
same_bytes line earlier joined (Line start end) same lies = refl
same_bytes line earlier joined (Joined start end) same lies = same_range earlier joined start end lies.0 lies.1 same

pub lies_longer :
    (line earlier joined : List ℕ) (span : Span) → length earlier ≤ length joined → LiesIn line earlier span
    → LiesIn line joined span
lies_longer line earlier joined (Line start end) longer lies = lies
lies_longer line earlier joined (Joined start end) longer lies = (lies.0, omega (arith, lies.1))

pub same_map :
    {X : Type 0} (f g : Span → X) (spans : List Span) → ((k : ℕ) (d : Span) → k < length spans → f (get_or spans k d) ≡ g (get_or spans k d))
    → map f spans ≡ map g spans
same_map f g [] same = refl
same_map f g (span ∷ spans) same =
    let head : f span ≡ g span = same 0 span (omega arith) in
    let tail = same_map f g spans (λ k d within. same (suc k) d (omega arith)) in
    rw (head, tail)

pub kept_same :
    (line earlier joined : List ℕ) (spans : Spans) → take (length earlier) joined ≡ earlier
    → All (LiesIn line earlier) spans.first → kept_in line joined spans ≡ kept_in line earlier spans
kept_same line earlier joined spans same lie =
    same_kept
    _
    _
    (ap
    (take spans.count)
    (same_map
    (bytes_of line joined)
    (bytes_of line earlier)
    spans.first
    (λ k d within. same_bytes line earlier joined (get_or spans.first k d) same (lie k d within))))
    refl

-- one field more
pub one_more :
    (line earlier joined : List ℕ) (spans : Spans) (index : ℕ) (field : Field) → length spans.first ≡ MOST_KEPT
    → All (LiesIn line earlier) spans.first → IsField line earlier joined (index + 1) (fields_from Between [] (drop index line)) field
    → option_map (with_later (kept_in line earlier spans)) (fields_from Between [] (drop index line))
    ≡ option_map
    (with_later (kept_in line joined (with_span spans field.span)))
    (fields_from Between [] (drop field.after line))
one_more line earlier joined spans index field ten lie is =
    let kept : kept_in line joined (with_span spans field.span)
    ≡ with_field (kept_in line earlier spans) (bytes_of line joined field.span) =
    kept_with_span line joined spans field.span ten
    ∙ ap (λ k. with_field k (bytes_of line joined field.span)) (kept_same line earlier joined spans is.same lie) in
    rw
    (is.goes_on, kept)
    (with_later_map
    (kept_in line earlier spans)
    (bytes_of line joined field.span)
    (fields_from Between [] (drop field.after line)))

pub all_lie :
    (line earlier joined : List ℕ) (spans : Spans) (index : ℕ) (field : Field) → All (LiesIn line earlier) spans.first
    → IsField line earlier joined (index + 1) (fields_from Between [] (drop index line)) field → All (LiesIn line joined) (with_span spans field.span).first
all_lie line earlier joined spans index field lie is =
    All-set
    (LiesIn line joined)
    spans.first
    spans.count
    field.span
    is.lies
    (λ k d within. lies_longer line earlier joined (get_or spans.first k d) is.longer (lie k d within))

-- nothing follows
pub kept_whole :
    (line joined : List ℕ) (spans : Spans) → length spans.first ≡ MOST_KEPT
    → with_later (kept_in line joined spans) [] ≡ kept_in line joined spans
kept_whole line joined spans ten =
    let short : length (take spans.count (map (bytes_of line joined) spans.first)) ≤ MOST_KEPT =
    omega (arith, length-take spans.count (map (bytes_of line joined) spans.first), length-map spans.first (bytes_of line joined)) in
    same_kept
    _
    _
    (ap (take MOST_KEPT) (append-nil (take spans.count (map (bytes_of line joined) spans.first))) ∙ take_all MOST_KEPT _ short)
    (omega arith)

-- nothing was kept before
pub kept_none :
    (all : Option (List (List ℕ))) → option_map (with_later record { first = []; count = 0 }) all ≡ option_map kept_of all
kept_none None = refl
kept_none (Some all) = ap (λ kept. Some kept) (same_kept _ _ refl (omega arith))

pub all_kept :
    (line joined : List ℕ) (spans : Spans) (index : ℕ) → length spans.first ≡ MOST_KEPT
    → fields_from Between [] (drop index line) ≡ Some []
    → option_map (with_later (kept_in line joined spans)) (fields_from Between [] (drop index line))
    ≡ option_map kept_of (fields_of line)
    → option_map kept_of (fields_of line) ≡ Some (kept_in line joined spans)
all_kept line joined spans index ten none goes_on =
    sym goes_on
    ∙ ap (option_map (with_later (kept_in line joined spans))) none
    ∙ ap (λ kept. Some kept) (kept_whole line joined spans ten)
