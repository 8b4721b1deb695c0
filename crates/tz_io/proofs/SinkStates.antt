-- What a sink has once texts are written to it, one after another.
use Rattle.std.proofs.Common.{◌≡◌, ℕ, ◌+◌, ◌-◌, ◌<◌, List, [], ◌∷◌, ◌++◌, inl, inr, Option, Some, None, length, take, drop, refl, sym, ap, ◌∙◌, subst, suc, append_assoc, append-nil, length-append, length-drop, zero-add, arith}
use Rattle.std.specs.Option.{option_map}
use Rattle.std.proofs.Math.Seq.{take-add, take-length}
use Rattle.std.proofs.lemmas.List.{take-append-le}
use Rattle.tz_io.specs.Sink.{SinkState, with_bytes, Counts, StopsBy, Stops, SinkFailed}
use Rattle.tz_io.specs.declared.sink.PutError.{PutError}
use Rattle.tz_io.specs.declared.sink.PutError.TheVariants as errors

more_twice : (bytes : Option (List ℕ)) (first second : List ℕ) → option_map (λ bytes. bytes ++ second) (option_map (λ bytes. bytes ++ first) bytes) ≡ option_map (λ bytes. bytes ++ (first ++ second)) bytes
more_twice None first second = refl
more_twice (Some bytes) first second = ap Some (append_assoc bytes first second)

more_none : (bytes : Option (List ℕ)) → option_map (λ bytes. bytes ++ []) bytes ≡ bytes
more_none None = refl
more_none (Some bytes) = ap Some (append-nil bytes)

-- two texts in turn are one text
pub with_both : (sink : SinkState) (first second : List ℕ) → with_bytes (with_bytes sink first) second ≡ with_bytes sink (first ++ second)
with_both sink first second =
    ap (λ (bytes : Option (List ℕ)). record sink { bytes = bytes }) (more_twice sink.bytes first second)

-- a text without bytes changes nothing
pub with_none : (sink : SinkState) → with_bytes sink [] ≡ sink
with_none sink = ap (λ (bytes : Option (List ℕ)). record sink { bytes = bytes }) (more_none sink.bytes)

take_past : (xs ys : List ℕ) (count : ℕ) → take (length xs + count) (xs ++ ys) ≡ xs ++ take count ys
take_past [] ys count = rw (zero-add count) refl
take_past (x ∷ xs) ys count =
    let long : length (x ∷ xs) + count ≡ suc (length xs + count) = omega arith in
    rw long (ap (λ zs. x ∷ zs) (take_past xs ys count))

-- what is left of a text is all that stands after the part that is done
rest : (done : ℕ) (text : List ℕ) → take (length text - done) (drop done text) ≡ drop done text
rest done text = rw (← length-drop done text) (take-length (drop done text))

-- after a part of a text a first part of what is left was taken
pub next_part : (first then now : SinkState) (text : List ℕ) (done count : ℕ) → then ≡ with_bytes first (take done text) → now ≡ with_bytes then (take count (take (length text - done) (drop done text))) → now ≡ with_bytes first (take (done + count) text)
next_part first then now text done count is next =
    let left : take count (take (length text - done) (drop done text)) ≡ take count (drop done text) = ap (take count) (rest done text) in
    next
    ∙ ap (with_bytes then) left
    ∙ ap (λ (sink : SinkState). with_bytes sink (take count (drop done text))) is
    ∙ with_both first (take done text) (take count (drop done text))
    ∙ ap (with_bytes first) (sym (take-add done count text))

-- a first part of a text behind another that was taken whole is a first part of both
pub part_behind : (first then : SinkState) (done text : List ℕ) (count : ℕ) → then ≡ with_bytes first done → with_bytes then (take count text) ≡ with_bytes first (take (length done + count) (done ++ text))
part_behind first then done text count is =
    ap (λ (sink : SinkState). with_bytes sink (take count text)) is
    ∙ with_both first done (take count text)
    ∙ ap (with_bytes first) (sym (take_past done text count))

-- a text that stops behind another that was taken whole
pub stops_behind : (error : PutError) (first then now : SinkState) (done text : List ℕ) → then ≡ with_bytes first done → StopsBy error then now text → StopsBy error first now (done ++ text)
stops_behind error first then now done text is stopped =
    let long = length-append done text in
    let short : stopped.0 < length text = stopped.1 in
    (length done + stopped.0, omega arith, subst (λ (sink : SinkState). Counts error sink now) (part_behind first then done text stopped.0 is) stopped.2)

-- what stops within a text stops within a longer one
pub stops_earlier : (error : PutError) (before now : SinkState) (text later : List ℕ) → StopsBy error before now text → StopsBy error before now (text ++ later)
stops_earlier error before now text later stopped =
    let long = length-append text later in
    let short : stopped.0 < length text = stopped.1 in
    let part : with_bytes before (take stopped.0 text) ≡ with_bytes before (take stopped.0 (text ++ later)) = ap (with_bytes before) (sym (take-append-le stopped.0 text later (omega arith))) in
    (stopped.0, omega arith, subst (λ (sink : SinkState). Counts error sink now) part stopped.2)

-- an error that stops a text was counted
pub stopped_failed : (before now : SinkState) (text : List ℕ) → Stops before now text → SinkFailed before now
stopped_failed before now text (errors.Failed, stopped) = inl stopped.2.2
stopped_failed before now text (errors.Stalled, stopped) = inr stopped.2.2
