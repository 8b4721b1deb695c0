-- The version behind another in the list.
use Rattle.std.proofs.Common.{◌≡◌, ℕ, zero, suc, ◌<◌, ◌≤◌, true, false, not, eqb, ltb, List, [], ◌∷◌, length, map, filter, get_or, remove, refl, sym, ap, ◌∙◌, subst, arith}
use Rattle.std.proofs.lemmas.Bool.{cond-true, cond-false, ne_eqb, eq-eqb, lt-ltb, le-ltb, not_from_false, not_from_true}
use Rattle.pin_book.specs.Replay.{Edition, greatest_number, greatest_below}
use Rattle.pin_book.proofs.ListLemmas.{Stands, greatest_less}

-- all of them lie below the bound, and the first is the greatest_number
pub greatest_bounded : (bound : ℕ) (kept : List ℕ) (es : List Edition) → 0 < bound → Stands bound kept es → greatest_number (map (λ edition. edition.n) es) < bound
greatest_bounded bound kept [] positive stands = positive
greatest_bounded bound kept (e ∷ es) positive stands =
    omega (arith, greatest_bounded e.n kept es stands.0 stands.4, stands.1)

all_below : (bound top : ℕ) (kept : List ℕ) (es : List Edition) → Stands bound kept es → bound ≤ top → filter (λ other. ltb other top) (map (λ edition. edition.n) es) ≡ map (λ edition. edition.n) es
all_below bound top kept [] stands low = refl
all_below bound top kept (e ∷ es) stands low =
    let rest = all_below e.n top kept es stands.4 (omega (arith, stands.1, low)) in
    cond-true (ltb e.n top) (e.n ∷ filter (λ other. ltb other top) (map (λ edition. edition.n) es)) (filter (λ other. ltb other top) (map (λ edition. edition.n) es)) (lt-ltb e.n top (omega (arith, stands.1, low)))
    ∙ ap (λ ns. e.n ∷ ns) rest

below_first : (bound : ℕ) (kept : List ℕ) (e : Edition) (es : List Edition) → Stands bound kept (e ∷ es) → greatest_below e.n (e ∷ es) ≡ greatest_number (map (λ edition. edition.n) es)
below_first bound kept e es stands =
    ap greatest_number (cond-false (ltb e.n e.n) (e.n ∷ filter (λ other. ltb other e.n) (map (λ edition. edition.n) es)) (filter (λ other. ltb other e.n) (map (λ edition. edition.n) es)) (le-ltb e.n e.n (omega arith))
    ∙ all_below e.n e.n kept es stands.4 (omega arith))

below_later : (top : ℕ) (e : Edition) (es : List Edition) → top ≤ e.n → greatest_below top (e ∷ es) ≡ greatest_below top es
below_later top e es low =
    ap greatest_number (cond-false (ltb e.n top) (e.n ∷ filter (λ other. ltb other top) (map (λ edition. edition.n) es)) (filter (λ other. ltb other top) (map (λ edition. edition.n) es)) (le-ltb e.n top low))

-- those below a number aren't it
lower_stay : (bound gone : ℕ) (kept : List ℕ) (es : List Edition) → Stands bound kept es → bound ≤ gone → filter (λ edition. not (eqb edition.n gone)) es ≡ es
lower_stay bound gone kept [] stands low = refl
lower_stay bound gone kept (e ∷ es) stands low =
    let rest = lower_stay e.n gone kept es stands.4 (omega (arith, stands.1, low)) in
    let other : eqb e.n gone ≡ false = ne_eqb e.n gone (λ same. omega (arith, same, stands.1, low)) in
    cond-true (not (eqb e.n gone)) (e ∷ filter (λ edition. not (eqb edition.n gone)) es) (filter (λ edition. not (eqb edition.n gone)) es) (not_from_false (eqb e.n gone) other)
    ∙ ap (λ xs. e ∷ xs) rest

-- one above it stays too
higher_stays : (gone : ℕ) (e : Edition) (es : List Edition) → gone < e.n → filter (λ edition. not (eqb edition.n gone)) (e ∷ es) ≡ e ∷ filter (λ edition. not (eqb edition.n gone)) es
higher_stays gone e es high =
    let other : eqb e.n gone ≡ false = ne_eqb e.n gone (λ same. omega (arith, same, high)) in
    cond-true (not (eqb e.n gone)) (e ∷ filter (λ edition. not (eqb edition.n gone)) es) (filter (λ edition. not (eqb edition.n gone)) es) (not_from_false (eqb e.n gone) other)

it_goes : (e : Edition) (es : List Edition) → filter (λ edition. not (eqb edition.n e.n)) (e ∷ es) ≡ filter (λ edition. not (eqb edition.n e.n)) es
it_goes e es =
    let same : eqb e.n e.n ≡ true = eq-eqb e.n e.n refl in
    cond-false (not (eqb e.n e.n)) (e ∷ filter (λ edition. not (eqb edition.n e.n)) es) (filter (λ edition. not (eqb edition.n e.n)) es) (not_from_true (eqb e.n e.n) same)

-- what the place behind a number's shows, and what is left without it
pub record IsBehind (top : ℕ) (es : List Edition) (place : ℕ) : Type 0 where
  pub next : (d : Edition) → suc place < length es → (get_or es (suc place) d).n ≡ greatest_below top es
  pub none : length es ≤ suc place → greatest_below top es ≡ 0
  pub rest : suc place < length es → remove es (suc place) ≡ filter (λ edition. not (eqb edition.n (greatest_below top es))) es

pub listed_at : (bound place : ℕ) (kept : List ℕ) (es : List Edition) (d : Edition) → Stands bound kept es → place < length es → (0 < (get_or es place d).n) × ((get_or es place d).n < bound)
listed_at bound place kept [] d stands within = absurd (omega arith)
listed_at bound zero kept (e ∷ es) d stands within = (stands.0, stands.1)
listed_at bound (suc place) kept (e ∷ es) d stands within =
    let later = listed_at e.n place kept es d stands.4 (omega arith) in
    (later.0, omega (arith, later.1, stands.1))

pub behind : (bound top place : ℕ) (kept : List ℕ) (es : List Edition) (d : Edition) → Stands bound kept es → place < length es → (get_or es place d).n ≡ top → IsBehind top es place
behind bound top place kept [] d stands within here = absurd (omega arith)
behind bound top zero kept (e ∷ []) d stands within here =
    let same : e.n ≡ top = here in
    let below : greatest_below top (e ∷ []) ≡ 0 =
    subst (λ number. greatest_below number (e ∷ []) ≡ 0) same (below_first bound kept e [] stands) in
    record { next = λ f short. absurd (omega arith); none = λ long. below; rest = λ short. absurd (omega arith) }
behind bound top zero kept (e ∷ f ∷ fs) d stands within here =
    let first : greatest_number (map (λ edition. edition.n) (f ∷ fs)) ≡ f.n =
    omega (arith, greatest_bounded f.n kept fs stands.4.0 stands.4.4) in
    let same : e.n ≡ top = here in
    let below : greatest_below top (e ∷ f ∷ fs) ≡ f.n =
    subst (λ number. greatest_below number (e ∷ f ∷ fs) ≡ f.n) same (below_first bound kept e (f ∷ fs) stands ∙ first) in
    let left : filter (λ edition. not (eqb edition.n f.n)) (e ∷ f ∷ fs) ≡ e ∷ fs =
    higher_stays f.n e (f ∷ fs) stands.4.1 ∙ ap (λ xs. e ∷ xs) (it_goes f fs ∙ lower_stay f.n f.n kept fs stands.4.4 (omega arith)) in
    record { next = λ g short. sym below; none = λ long. absurd (omega arith); rest = λ short. subst (λ gone. remove (e ∷ f ∷ fs) 1 ≡ filter (λ edition. not (eqb edition.n gone)) (e ∷ f ∷ fs)) (sym below) (sym left) }
behind bound top (suc place) kept (e ∷ es) d stands within here =
    let later = behind e.n top place kept es d stands.4 (omega arith) here in
    let low = listed_at e.n place kept es d stands.4 (omega arith) in
    let same : greatest_below top (e ∷ es) ≡ greatest_below top es = below_later top e es (omega (arith, here, low.1)) in
    let less : greatest_below top es < top = greatest_less top (map (λ edition. edition.n) es) (omega (arith, here, low.0)) in
    let high : greatest_below top es < e.n = omega (arith, less, here, low.1) in
    record {
      next = λ g short. later.next g (omega arith) ∙ sym same;
      none = λ long. same ∙ later.none (omega arith);
      rest = λ short. subst (λ gone. remove (e ∷ es) (suc (suc place)) ≡ filter (λ edition. not (eqb edition.n gone)) (e ∷ es)) (sym same) (ap (λ xs. e ∷ xs) (later.rest (omega arith)) ∙ sym (higher_stays (greatest_below top es) e es high));
    }
