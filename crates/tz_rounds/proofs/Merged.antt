-- Replies are taken from their lanes one after another.
use Rattle.std.proofs.Common.{◌≡◌, ℕ, zero, suc, ◌+◌, ◌-◌, ◌≤◌, ◌<◌, ◌≢◌, ◌==◌, ⊎_elim, true, false, List, [], ◌∷◌, ◌++◌, length, drop, get_or, map, reverse, Some, refl, sym, ap, ap₂, ◌∙◌, arith, drop-cons}
use Rattle.std.specs.Prelude.{slice_get, slice_set}
use Rattle.std.specs.Global.{Vec}
use Rattle.std.specs.Option.{option_map}
use Rattle.std.proofs.lemmas.Bool.{cond-true, cond-false, cases_Bool, eqb-true, eq-eqb}
use Rattle.std.proofs.lemmas.List.{length-map, map-set, map-append, reverse-append, reverse-reverse}
use Rattle.std.proofs.lemmas.Option.{same_Some, slice_get-map, slice_get_read, slice_get_within}
use Rattle.tz_script.specs.declared.operation.Operation.{Operation}
use Rattle.tz_batch.specs.Batch.{Answered, each_answered}
use Rattle.tz_batch.specs.declared.reply.Reply.{Reply}
use Rattle.tz_rounds.specs.Backs.{lane_part}
use Rattle.tz_rounds.specs.Rounds.{of_lane}
use Rattle.tz_rounds.specs.Merging.{IsInLanes, AnswerLanes, AreMerged, HasNext, TakesNext, replies_left}

-- ---- a list with one element changed ----

-- the changed element
get_changed : {A : Type 0} (xs : List A) (place : ℕ) (x y : A) → slice_get xs place ≡ Some x → slice_get (slice_set xs place y) place ≡ Some y
get_changed [] place x y there = cc
get_changed (first ∷ xs) zero x y there = refl
get_changed (first ∷ xs) (suc place) x y there = get_changed xs place x y there

-- the others
get_unchanged : {A : Type 0} (xs : List A) (place k : ℕ) (y : A) → k ≢ place → slice_get (slice_set xs place y) k ≡ slice_get xs k
get_unchanged [] place k y other = refl
get_unchanged (first ∷ xs) zero zero y other = absurd (other refl)
get_unchanged (first ∷ xs) zero (suc k) y other = refl
get_unchanged (first ∷ xs) (suc place) zero y other = refl
get_unchanged (first ∷ xs) (suc place) (suc k) y other = get_unchanged xs place k y (λ same. other (ap suc same))

-- an element stands in each place
there_is : {A : Type 0} (xs : List A) (place : ℕ) → place < length xs → (x : A) × (slice_get xs place ≡ Some x)
there_is [] place low = absurd (omega (arith, low))
there_is (first ∷ xs) zero low = (first, refl)
there_is (first ∷ xs) (suc place) low = there_is xs place (omega (arith, low))

-- what is left from a place on: its element, and what is left from the next place on
pub drop_next : {A : Type 0} (xs : List A) (k : ℕ) (x : A) → k < length xs → x ≡ get_or xs k x → drop k xs ≡ x ∷ drop (k + 1) xs
drop_next {A} xs k x low is =
    let next : suc k ≡ k + 1 = omega arith in
    drop-cons xs k x low ∙ ap₂ (λ (it : A) (rest : List A). it ∷ rest) (sym is) (ap (λ (n : ℕ). drop n xs) next)

-- ---- stacks ----

-- one stack more
pub stacks_more : (stacks : List (Vec Reply)) (stack : Vec Reply) (parts : List (List Reply)) (part : List Reply) → replies_left stacks ≡ parts → stack.items ≡ reverse part → replies_left (stacks ++ stack ∷ []) ≡ parts ++ part ∷ []
stacks_more stacks stack parts part so_far is =
    map-append (λ (it : Vec Reply). reverse it.items) stacks (stack ∷ [])
    ∙ ap₂ (λ (xs ys : List (List Reply)). xs ++ ys) so_far (ap (λ (it : List Reply). it ∷ []) (ap reverse is ∙ reverse-reverse part))

-- a stack stands where there is a next reply
stack_there : (place : ℕ) (stacks : List (Vec Reply)) → HasNext place (replies_left stacks) → place < length stacks
stack_there place stacks has =
    let inside = slice_get_within (replies_left stacks) place (has.reply ∷ has.rest) has.there in
    omega (arith, inside, length-map stacks (λ (it : Vec Reply). reverse it.items))

-- a stack without its top
pub next_taken : (place : ℕ) (stacks : List (Vec Reply)) (stack later : Vec Reply) (reply : Reply) → HasNext place (replies_left stacks) → stack ≡ get_or stacks place stack → stack.items ≡ later.items ++ reply ∷ [] → TakesNext place (replies_left stacks) (replies_left (slice_set stacks place later)) reply
next_taken place stacks stack later reply has here is = record {
  rest = reverse later.items;
  there = slice_get-map (λ (it : Vec Reply). reverse it.items) stacks place
      ∙ ap (option_map (λ (it : Vec Reply). reverse it.items)) (slice_get_read stacks (length stacks) place stack refl (stack_there place stacks has) here)
      ∙ ap Some (ap reverse is ∙ reverse-append later.items (reply ∷ []));
  left = map-set (λ (it : Vec Reply). reverse it.items) stacks place later;
}

-- ---- the next operation ----

-- a part answers an operation and others, so it has a first reply
first_of : (operation : Operation) (rest : List Operation) (part : List Reply) → map (λ (reply : Reply). reply.line) part ≡ map (λ (it : Operation). it.line) (operation ∷ rest) → (reply : Reply) × (left : List Reply) × (part ≡ reply ∷ left)
first_of operation rest [] lines = cc
first_of operation rest (reply ∷ left) lines = (reply, left, refl)

-- the operations of a lane, of which the first one is
own_first : (lane : ℕ) (operation : Operation) (operations : List Operation) → (operation.lane == lane) ≡ true → lane_part lane (operation ∷ operations) ≡ operation ∷ lane_part lane operations
own_first lane operation operations own =
    cond-true (operation.lane == lane) (operation ∷ lane_part lane operations) (lane_part lane operations) own

-- of which it isn't
other_first : (lane : ℕ) (operation : Operation) (operations : List Operation) → (operation.lane == lane) ≡ false → lane_part lane (operation ∷ operations) ≡ lane_part lane operations
other_first lane operation operations other =
    cond-false (operation.lane == lane) (operation ∷ lane_part lane operations) (lane_part lane operations) other

-- a part with a first reply
first_there : (place : ℕ) (parts : List (List Reply)) (part : List Reply) → slice_get parts place ≡ Some part → (reply : Reply) × (left : List Reply) × (part ≡ reply ∷ left) → HasNext place parts
first_there place parts part there (reply, left, is) = record { reply = reply; rest = left; there = there ∙ ap Some is }

-- The part of an operation's lane has a next reply.
pub has_next : (operation : Operation) (operations : List Operation) (parts : List (List Reply)) → IsInLanes (length parts) operation → AnswerLanes (operation ∷ operations) parts → HasNext (operation.lane - 1) parts
has_next operation operations parts inside answers =
    let place = operation.lane - 1 in
    let part = there_is parts place (omega (arith, inside.some, inside.few)) in
    let own : (operation.lane == place + 1) ≡ true = eq-eqb operation.lane (place + 1) (omega (arith, inside.some)) in
    let lines = answers place part.0 part.1 ∙ ap (map (λ (it : Operation). it.line)) (own_first (place + 1) operation operations own) in
    first_there place parts part.0 part.1 (first_of operation (lane_part (place + 1) operations) part.0 lines)

module _ (operation : Operation) (operations : List Operation) (parts later : List (List Reply)) (reply : Reply) (first : 1 ≤ operation.lane) (takes : TakesNext (operation.lane - 1) parts later reply) where
  -- the part of the operation's lane, before
  own_before : (number : ℕ) → (operation.lane == number + 1) ≡ true → slice_get parts number ≡ Some (reply ∷ takes.rest)
  own_before number own =
      let same : number ≡ operation.lane - 1 = omega (arith, eqb-true operation.lane (number + 1) own) in
      ap (slice_get parts) same ∙ takes.there

  -- and later
  own_later : (number : ℕ) → (operation.lane == number + 1) ≡ true → slice_get later number ≡ Some takes.rest
  own_later number own =
      let same : number ≡ operation.lane - 1 = omega (arith, eqb-true operation.lane (number + 1) own) in
      ap₂ (λ (xs : List (List Reply)) (n : ℕ). slice_get xs n) takes.left same
      ∙ get_changed parts (operation.lane - 1) (reply ∷ takes.rest) takes.rest takes.there

  -- that of another lane stays
  other_later : (number : ℕ) → (operation.lane == number + 1) ≡ false → slice_get later number ≡ slice_get parts number
  other_later number other =
      ap (λ (xs : List (List Reply)). slice_get xs number) takes.left
      ∙ get_unchanged parts (operation.lane - 1) number takes.rest
      (λ same. let both : (operation.lane == number + 1) ≡ true = eq-eqb operation.lane (number + 1) (omega (arith, same, first)) in cc)

  -- The reply is one to the operation.
  pub next_line : AnswerLanes (operation ∷ operations) parts → reply.line ≡ operation.line
  next_line answers =
      let place = operation.lane - 1 in
      let own : (operation.lane == place + 1) ≡ true = eq-eqb operation.lane (place + 1) (omega (arith, first)) in
      let lines = answers place (reply ∷ takes.rest) takes.there ∙ ap (map (λ (it : Operation). it.line)) (own_first (place + 1) operation operations own) in
      cc

  -- The parts that are left answer the other operations.
  pub answers_left : AnswerLanes (operation ∷ operations) parts → AnswerLanes operations later
  answers_left answers number part there =
      ⊎_elim
      (λ (own : (operation.lane == number + 1) ≡ true).
      let part_is : takes.rest ≡ part = same_Some takes.rest part (sym (own_later number own) ∙ there) in
      let lines = answers number (reply ∷ takes.rest) (own_before number own) ∙ ap (map (λ (it : Operation). it.line)) (own_first (number + 1) operation operations own) in
      let left : map (λ (it : Reply). it.line) takes.rest ≡ map (λ (it : Operation). it.line) (lane_part (number + 1) operations) = cc in
      ap (map (λ (it : Reply). it.line)) (sym part_is) ∙ left)
      (λ (other : (operation.lane == number + 1) ≡ false).
      answers number part (sym (other_later number other) ∙ there)
      ∙ ap (map (λ (it : Operation). it.line)) (other_first (number + 1) operation operations other))
      (cases_Bool (operation.lane == number + 1))

  -- The reply comes before those to the other operations.
  pub merged_more : (more : List Reply) → reply.line ≡ operation.line → AreMerged operations later more → AreMerged (operation ∷ operations) parts (reply ∷ more)
  merged_more more line merged = record {
    lines = ap₂ (λ (n : ℕ) (ns : List ℕ). n ∷ ns) line merged.lines;
    lanes = λ number part there.
        (let here : Answered = record { operation = operation; reply = reply } in
        let others = of_lane (number + 1) (each_answered operations more) in
        ⊎_elim
        (λ (own : (operation.lane == number + 1) ≡ true).
        let part_is : reply ∷ takes.rest ≡ part = same_Some (reply ∷ takes.rest) part (sym (own_before number own) ∙ there) in
        cond-true (operation.lane == number + 1) (here ∷ others) others own
        ∙ ap (λ (xs : List Answered). here ∷ xs) (merged.lanes number takes.rest (own_later number own))
        ∙ ap₂ each_answered (sym (own_first (number + 1) operation operations own)) part_is)
        (λ (other : (operation.lane == number + 1) ≡ false).
        cond-false (operation.lane == number + 1) (here ∷ others) others other
        ∙ merged.lanes number part (other_later number other ∙ there)
        ∙ ap (λ (xs : List Operation). each_answered xs part) (sym (other_first (number + 1) operation operations other)))
        (cases_Bool (operation.lane == number + 1)));
  }

-- ---- the whole ----

-- Replies were put behind those that were there: one to each operation, in their order.
abbrev pub HasMerged : List Operation → List (List Reply) → List Reply → List Reply → Type 0
HasMerged operations parts before after =
    (more : List Reply) × (after ≡ before ++ more) × AreMerged operations parts more

-- Nothing is merged where there are no operations.
pub merged_none : (parts : List (List Reply)) → AreMerged [] parts []
merged_none parts = record { lines = refl; lanes = λ number part there. refl }
