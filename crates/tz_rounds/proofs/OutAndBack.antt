-- Readers go out one after another, and come back.
use Rattle.std.proofs.Common.{◌≡◌, ℕ, zero, suc, ◌+◌, ◌-◌, ◌≤◌, ◌<◌, ◌==◌, ◌⊎◌, ⊎_elim, inl, inr, nat_lt, Bool, true, false, not, cond, List, [], ◌∷◌, ◌++◌, length, take, refl, sym, ap, subst, ◌∙◌, arith, length-append, append-nil}
use Rattle.std.specs.Prelude.{Some, slice_get}
use Rattle.std.specs.List.{filter}
use Rattle.std.proofs.Math.Seq.{take-length}
use Rattle.std.proofs.lemmas.Bool.{cases_order, cond_both, eqb-true, eqb-false, eq-eqb, ne_eqb, ltb-true, ltb-false}
use Rattle.std.proofs.lemmas.List.{take_all}
use Rattle.std.proofs.lemmas.List.Elements.{filter-append}
use Rattle.std.proofs.lemmas.Option.{same_Some}
use Rattle.pin_book.specs.declared.write.Write.{Write}
use Rattle.pin_book.specs.Sequence.{writes_by}
use Rattle.pin_core.specs.declared.view.View.{View}
use Rattle.pin_core.specs.Core.{one_if, times}
use Rattle.pin_core.specs.Step.{left_over, split_off, taken_in}
use Rattle.pin_table.specs.Numbers.{SplitsLeast}
use Rattle.pin_table.specs.Parting.{AreFronts}
use Rattle.tz_rounds.specs.Sending.{HasNumbers, GoesOut, HasSent, HasBack, OwnsOnly}
use Rattle.tz_rounds.proofs.Lists.{filter_covers, filters_apart, front_of_front, front_short, slice_inside}

-- ---- numbers ----

-- how often a number stands in two lists
times_parts : (number : ℕ) (xs ys : List ℕ) → times number (xs ++ ys) ≡ times number xs + times number ys
times_parts number [] ys = omega arith
times_parts number (x ∷ xs) ys = omega (arith, times_parts number xs ys)

-- all but one number
abbrev without : ℕ → List ℕ → List ℕ
without gone numbers = filter (λ other. not (other == gone)) numbers

times_gone : (gone : ℕ) (numbers : List ℕ) → times gone (without gone numbers) ≡ 0
times_gone gone [] = refl
times_gone gone (x ∷ xs) = by_first (times_gone gone xs) (x == gone) refl
  where
    by_first : times gone (without gone xs) ≡ 0 → (b : Bool) → (x == gone) ≡ b → times gone (cond (not b) (x ∷ without gone xs) (without gone xs)) ≡ 0
    by_first rest true is = rest
    by_first rest false is = omega (arith, ap one_if is, rest)

times_other : (gone number : ℕ) (numbers : List ℕ) → (number ≡ gone → ⊥) → times number (without gone numbers) ≡ times number numbers
times_other gone number [] apart = refl
times_other gone number (x ∷ xs) apart = by_first (times_other gone number xs apart) (x == gone) refl
  where
    by_first : times number (without gone xs) ≡ times number xs → (b : Bool) → (x == gone) ≡ b → times number (cond (not b) (x ∷ without gone xs) (without gone xs)) ≡ one_if (x == number) + times number xs
    by_first rest true is =
        let no_match : (x == number) ≡ false = ne_eqb x number (λ same. apart (sym same ∙ eqb-true x gone is)) in
        omega (arith, rest, ap one_if no_match)
    by_first rest false is = omega (arith, rest)

long_without : (gone : ℕ) (numbers : List ℕ) → length (without gone numbers) + times gone numbers ≡ length numbers
long_without gone [] = refl
long_without gone (x ∷ xs) = by_first (long_without gone xs) (x == gone)
  where
    by_first : length (without gone xs) + times gone xs ≡ length xs → (b : Bool) → length (cond (not b) (x ∷ without gone xs) (without gone xs)) + (one_if b + times gone xs) ≡ suc (length xs)
    by_first rest true = omega (arith, rest)
    by_first rest false = omega (arith, rest)

-- the least number of those from one on is that one
least_first : (sent readers writes : ℕ) (main main' reader : View) → HasNumbers sent readers main → sent < readers → (splits : SplitsLeast readers writes main main' reader) → splits.number ≡ sent
least_first sent readers writes main main' reader has low splits =
    let one = has.each sent (omega arith) low in
    let upper : splits.number ≤ sent = splits.least.least sent (omega (arith, one)) in
    let lower : splits.number < sent → ⊥ = λ below. omega (arith, splits.least.among, has.below splits.number below) in
    ⊎_elim
    (λ (same : splits.number ≡ sent). same)
    (⊎_elim (λ (below : splits.number < sent). absurd (lower below)) (λ (over : sent < splits.number). absurd (omega (arith, over, upper))))
    (cases_order splits.number sent)

-- ---- a reader goes out ----

-- the floor of those that go out
floor_then : (sent readers : ℕ) (main now : View) → HasSent sent readers main now → sent < readers → (if_all : Bool) → (length now.numbers == readers) ≡ if_all → cond if_all (length now.seen) now.floor ≡ length main.seen
floor_then sent readers main now left low true is = ap length left.seen
floor_then sent readers main now left low false is =
    left.floor (⊎_elim
    (λ (first : sent ≡ 0). absurd (eqb-false (length now.numbers) readers is (omega (arith, left.numbers.many, first))))
    (⊎_elim (λ (below : sent < 0). absurd (omega (arith, below))) (λ (some : 0 < sent). some))
    (cases_order sent 0))

-- one more
pub goes_out : (sent readers writes : ℕ) (main now later reader : View) → HasSent sent readers main now → sent < readers → SplitsLeast readers writes now later reader → GoesOut sent writes main reader × HasSent (suc sent) readers main later
goes_out sent readers writes main now later reader left low splits =
    let number = least_first sent readers writes now later reader left.numbers low splits in
    let right : reader ≡ split_off readers sent writes now = splits.right ∙ ap (λ (n : ℕ). split_off readers n writes now) number in
    let rest : later ≡ left_over readers sent writes now = splits.left ∙ ap (λ (n : ℕ). left_over readers n writes now) number in
    let floor = floor_then sent readers main now left low (length now.numbers == readers) refl in
    let gone = left.numbers in
    let many : length (without sent now.numbers) ≡ readers - suc sent = omega (arith, long_without sent now.numbers, gone.each sent (omega arith) low, gone.many) in
    let after : HasSent (suc sent) readers main (left_over readers sent writes now) = record {
      numbers = record {
        each = λ n from to. times_other sent n now.numbers (λ same. omega (arith, same, from)) ∙ gone.each n (omega (arith, from)) to;
        below = λ n less. below_next n less (cases_order n sent);
        above = λ n over. times_other sent n now.numbers (λ same. omega (arith, same, over, low)) ∙ gone.above n over;
        many = many;
      };
      seen = left.seen;
      floor = λ some. floor;
      own = λ n from. (filter_covers (λ (write : Write). write.by == n) (λ (write : Write). not (write.by == sent)) now.own (λ write is. apart_by n write is (omega (arith, from))) ∙ left.own n (omega (arith, from)));
      none = λ n less. none_next n less (cases_order n sent);
    } in (
      subst (GoesOut sent writes main) (sym right) (record {
        numbers = refl;
        seen = left.seen;
        floor = floor;
        own = left.own sent (omega arith);
        entries = refl;
        allowance = refl;
      }),
      subst (HasSent (suc sent) readers main) (sym rest) after,
    )
  where
    apart_by : (n : ℕ) (write : Write) → (write.by == n) ≡ true → sent < n → not (write.by == sent) ≡ true
    apart_by n write is over =
        ap not (ne_eqb write.by sent (λ same. omega (arith, same, eqb-true write.by n is, over)))

    below_next : (n : ℕ) → n < suc sent → (n ≡ sent) ⊎ ((n < sent) ⊎ (sent < n)) → times n (without sent now.numbers) ≡ 0
    below_next n less (inl same) = ap (λ (k : ℕ). times k (without sent now.numbers)) same ∙ times_gone sent now.numbers
    below_next n less (inr (inl below)) = times_other sent n now.numbers (λ same. omega (arith, same, below)) ∙ left.numbers.below n below
    below_next n less (inr (inr over)) = absurd (omega (arith, less, over))

    none_next : (n : ℕ) → n < suc sent → (n ≡ sent) ⊎ ((n < sent) ⊎ (sent < n)) → writes_by n (filter (λ (write : Write). not (write.by == sent)) now.own) ≡ []
    none_next n less (inl same) =
        filters_apart (λ (write : Write). write.by == n) (λ (write : Write). not (write.by == sent)) now.own
        (λ write is. ap not (eq-eqb write.by sent (eqb-true write.by n is ∙ same)))
    none_next n less (inr (inl below)) =
        filter_covers (λ (write : Write). write.by == n) (λ (write : Write). not (write.by == sent)) now.own
        (λ write is. ap not (ne_eqb write.by sent (λ same. omega (arith, same, eqb-true write.by n is, below))))
        ∙ left.none n below
    none_next n less (inr (inr over)) = absurd (omega (arith, less, over))

-- ---- readers come back ----

-- none is back
pub none_back : (readers : ℕ) (main left : View) → HasSent readers readers main left → HasBack readers main [] left
none_back readers main left is = record {
  numbers = record {
    each = λ number from to. absurd (omega (arith, to));
    below = λ number less. absurd (omega (arith, less));
    above = λ number over. (⊎_elim
        (λ (same : number ≡ readers). is.numbers.above number (omega (arith, same)))
        (⊎_elim (λ (below : number < readers). is.numbers.below number below) (λ (more : readers < number). is.numbers.above number (omega (arith, more))))
        (cases_order number readers));
    many = omega (arith, is.numbers.many);
  };
  grows = ap (take (length main.seen)) is.seen ∙ take-length main.seen;
  seen = λ number back there. cc;
  own = λ number back there. cc;
  none = λ number from low. is.none number low;
}

-- of two journals of which one is a front part of the other, both are front parts of the longer one
abbrev longer : List Write → List Write → List Write
longer seen other = cond (nat_lt (length seen) (length other)) other seen

fronts_of_longer : (seen other : List Write) → AreFronts seen other → (take (length seen) (longer seen other) ≡ seen) × (take (length other) (longer seen other) ≡ other)
fronts_of_longer seen other fronts =
    cond_both (nat_lt (length seen) (length other)) other seen (λ (long : List Write). (take (length seen) long ≡ seen) × (take (length other) long ≡ other))
    (λ less. (by_less (ltb-true (length seen) (length other) less) fronts, take-length other))
    (λ more. (take-length seen, by_more (ltb-false (length seen) (length other) more) fronts))
  where
    by_less : length seen < length other → AreFronts seen other → take (length seen) other ≡ seen
    by_less less (inl front) = front
    by_less less (inr front) = absurd (omega (arith, less, front_short other seen front))

    by_more : length other ≤ length seen → AreFronts seen other → take (length other) seen ≡ other
    by_more more (inl front) =
        let same : other ≡ seen = sym (take_all (length seen) other more) ∙ front in
        ap (λ (long : List Write). take (length other) long) (sym same) ∙ take-length other
    by_more more (inr front) = front

-- a place in a list with one more
in_longer : (backs : List View) (last : View) (k : ℕ) (back : View) → slice_get (backs ++ last ∷ []) k ≡ Some back → (slice_get backs k ≡ Some back) ⊎ ((k ≡ length backs) × (last ≡ back))
in_longer [] last zero back there = inr (refl, same_Some last back there)
in_longer [] last (suc k) back there = cc
in_longer (first ∷ backs) last zero back there = inl there
in_longer (first ∷ backs) last (suc k) back there =
    ⊎_elim
    (λ (old : slice_get backs k ≡ Some back). inl old)
    (λ (new : (k ≡ length backs) × (last ≡ back)). inr (ap suc new.0, new.1))
    (in_longer backs last k back there)

-- the writes by another number are none
none_of_other : (number other : ℕ) (v : View) → OwnsOnly number v → (other ≡ number → ⊥) → writes_by other v.own ≡ []
none_of_other number other v only apart =
    ap (writes_by other) (sym only)
    ∙ filters_apart (λ (write : Write). write.by == other) (λ (write : Write). write.by == number) v.own
    (λ write is. ne_eqb write.by number (λ same. apart (sym (eqb-true write.by other is) ∙ same)))

-- one more is back
pub comes_back : (readers : ℕ) (main : View) (backs : List View) (now later back : View) → HasBack readers main backs now → length backs < readers → later ≡ taken_in now back → AreFronts now.seen back.seen → back.numbers ≡ length backs ∷ [] → OwnsOnly (length backs) back → HasBack readers main (backs ++ back ∷ []) later
comes_back readers main backs now later back has low is fronts numbers only =
    let both = fronts_of_longer now.seen back.seen fronts in
    let long : length (backs ++ back ∷ []) ≡ suc (length backs) = omega (arith, length-append backs (back ∷ [])) in
    let home : (n : ℕ) → times n (now.numbers ++ back.numbers) ≡ times n now.numbers + one_if (length backs == n) =
    λ n. times_parts n now.numbers back.numbers ∙ omega (arith, ap (times n) numbers) in
    subst (HasBack readers main (backs ++ back ∷ [])) (sym is) (record {
      numbers = record {
        each = λ n from to. home n ∙ one_home n (omega (arith, to, long)) (cases_order n (length backs));
        below = λ n less. absurd (omega (arith, less));
        above = λ n over. home n ∙ omega (arith, has.numbers.above n (omega (arith, over, long)), ap one_if (ne_eqb (length backs) n (λ same. omega (arith, same, over, long))));
        many = length-append now.numbers back.numbers ∙ omega (arith, has.numbers.many, ap length numbers, long);
      };
      grows = front_of_front main.seen now.seen (longer now.seen back.seen) has.grows both.0;
      seen = λ n one there. old_or_new n one (in_longer backs back n one there);
      own = λ n one there. filter-append (λ (write : Write). write.by == n) now.own back.own ∙ own_or_new n one (in_longer backs back n one there);
      none = λ n from to. filter-append (λ (write : Write). write.by == n) now.own back.own
          ∙ none_parts n (has.none n (omega (arith, from, long)) to) (none_of_other (length backs) n back only (λ same. omega (arith, same, from, long)));
    })
  where
    one_home : (n : ℕ) → n < suc (length backs) → (n ≡ length backs) ⊎ ((n < length backs) ⊎ (length backs < n)) → times n now.numbers + one_if (length backs == n) ≡ 1
    one_home n to (inl same) = omega (arith, has.numbers.above n (omega (arith, same)), ap one_if (eq-eqb (length backs) n (sym same)))
    one_home n to (inr (inl below)) = omega (arith, has.numbers.each n (omega arith) below, ap one_if (ne_eqb (length backs) n (λ same. omega (arith, same, below))))
    one_home n to (inr (inr over)) = absurd (omega (arith, to, over))

    old_or_new : (n : ℕ) (one : View) → (slice_get backs n ≡ Some one) ⊎ ((n ≡ length backs) × (back ≡ one)) → take (length one.seen) (longer now.seen back.seen) ≡ one.seen
    old_or_new n one (inl old) = front_of_front one.seen now.seen (longer now.seen back.seen) (has.seen n one old) (fronts_of_longer now.seen back.seen fronts).0
    old_or_new n one (inr new) = subst (λ (v : View). take (length v.seen) (longer now.seen back.seen) ≡ v.seen) new.1 (fronts_of_longer now.seen back.seen fronts).1

    own_or_new : (n : ℕ) (one : View) → (slice_get backs n ≡ Some one) ⊎ ((n ≡ length backs) × (back ≡ one)) → writes_by n now.own ++ writes_by n back.own ≡ one.own
    own_or_new n one (inl old) =
        ap (λ (xs : List Write). writes_by n now.own ++ xs) (none_of_other (length backs) n back only (λ same. omega (arith, same, slice_inside backs n one old)))
        ∙ append-nil (writes_by n now.own) ∙ has.own n one old
    own_or_new n one (inr new) =
        ap (λ (xs : List Write). xs ++ writes_by n back.own) (has.none n (omega (arith, new.0)) (omega (arith, new.0, low)))
        ∙ ap (λ (k : ℕ). writes_by k back.own) new.0 ∙ only ∙ ap (λ (v : View). v.own) new.1

    none_parts : (n : ℕ) → writes_by n now.own ≡ [] → writes_by n back.own ≡ [] → writes_by n now.own ++ writes_by n back.own ≡ []
    none_parts n first second = ap (λ (xs : List Write). xs ++ writes_by n back.own) first ∙ second
