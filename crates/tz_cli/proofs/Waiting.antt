-- How text that waits to be written grows, and is written.
use Rattle.std.proofs.Common.{◌≡◌, ℕ, ◌+◌, ◌<◌, List, [], ◌∷◌, ◌++◌, length, get_or, take, drop, refl, sym, ap, subst, ◌∙◌, append_assoc, append-nil, take-append-drop, arith}
use Rattle.std.specs.List.{flat_map}
use Rattle.tz_io.specs.Sink.{SinkState, with_bytes, StopsBy}
use Rattle.tz_io.specs.declared.sink.PutError.{PutError}
use Rattle.tz_io.proofs.SinkStates.{with_none, with_both, stops_behind, stops_earlier}
use Rattle.tz_cli.specs.Dumping.{IsPut, IsStopped}
use Rattle.tz_cli.specs.declared.dump.Stop.{Stop}
use Rattle.tz_cli.specs.declared.dump.Stop.TheVariants as stops
use Rattle.tz_cli.proofs.Dumps.{flat_both, flat_next, stopped_later}

-- a piece of what is left, and what stands behind it
around_piece : (size : ℕ) (rest piece later : List ℕ) → piece ≡ take size rest → later ≡ drop size rest → piece ++ later ≡ rest
around_piece size rest piece later first last =
    ap (λ bytes. bytes ++ later) first ∙ ap (λ bytes. take size rest ++ bytes) last ∙ take-append-drop size rest

-- one more piece of a text
pub next_piece : (size : ℕ) (text done rest piece later : List ℕ) → piece ≡ take size rest → later ≡ drop size rest → done ++ rest ≡ text → (done ++ piece) ++ later ≡ text
next_piece size text done rest piece later first last all =
    append_assoc done piece later ∙ ap (λ bytes. done ++ bytes) (around_piece size rest piece later first last) ∙ all

-- a text that stops within one of its pieces, behind others that were taken whole
pub stops_in_piece : (error : PutError) (before middle after : SinkState) (size : ℕ) (text done rest piece later : List ℕ) → piece ≡ take size rest → later ≡ drop size rest → done ++ rest ≡ text → middle ≡ with_bytes before done → StopsBy error middle after piece → StopsBy error before after text
stops_in_piece error before middle after size text done rest piece later first last all is stops =
    let longer : StopsBy error middle after rest = subst (λ (bytes : List ℕ). StopsBy error middle after bytes) (around_piece size rest piece later first last) (stops_earlier error middle after piece later stops) in
    subst (λ (bytes : List ℕ). StopsBy error before after bytes) all (stops_behind error before middle after done rest is longer)

-- what is written in turn is written together
pub written_then : (before between after : SinkState) (first second : List ℕ) → between ≡ with_bytes before first → after ≡ with_bytes between second → after ≡ with_bytes before (first ++ second)
written_then before between after first second is next =
    next ∙ ap (λ (sink : SinkState). with_bytes sink second) is ∙ with_both before first second

-- no text is put where nothing is done
pub none_put : (sink : SinkState) (waits : List ℕ) → IsPut sink sink waits waits []
none_put sink waits = record { written = []; state = sym (with_none sink); whole = sym (append-nil waits) }

-- two texts put in turn
pub put_then : (before between after : SinkState) (waited meanwhile waits first second : List ℕ) → IsPut before between waited meanwhile first → IsPut between after meanwhile waits second → IsPut before after waited waits (first ++ second)
put_then before between after waited meanwhile waits first second put next = record {
  written = put.written ++ next.written;
  state = written_then before between after put.written next.written put.state next.state;
  whole =
      append_assoc put.written next.written waits
      ∙ ap (λ text. put.written ++ text) next.whole
      ∙ sym (append_assoc put.written meanwhile second)
      ∙ ap (λ text. text ++ second) put.whole
      ∙ append_assoc waited first second;
}

-- a text that was put, and one behind it that stops
pub put_stopped : (stop : Stop) (before between after : SinkState) (waited meanwhile first rest : List ℕ) → IsPut before between waited meanwhile first → IsStopped stop between after (meanwhile ++ rest) → IsStopped stop before after (waited ++ (first ++ rest))
put_stopped stop before between after waited meanwhile first rest put stopped =
    let whole : put.written ++ (meanwhile ++ rest) ≡ waited ++ (first ++ rest) =
    sym (append_assoc put.written meanwhile rest) ∙ ap (λ text. text ++ rest) put.whole ∙ append_assoc waited first rest in
    rw (← whole) (stopped_later stop before between after put.written (meanwhile ++ rest) put.state stopped)

-- what one element of a list makes, between what those before it and those behind it make
pub flat_around : {A B : Type 0} (f : A → List B) (xs : List A) (place : ℕ) (x : A) → x ≡ get_or xs place x → place < length xs → flat_map f (take place xs) ++ (f x ++ flat_map f (drop (place + 1) xs)) ≡ flat_map f xs
flat_around f xs place x is low =
    sym (append_assoc (flat_map f (take place xs)) (f x) (flat_map f (drop (place + 1) xs)))
    ∙ ap (λ made. made ++ flat_map f (drop (place + 1) xs)) (sym (flat_next f xs place x is low))
    ∙ sym (flat_both f (take (place + 1) xs) (drop (place + 1) xs))
    ∙ ap (flat_map f) (take-append-drop (place + 1) xs)

-- of what a list makes, what those before an element make was put, and what it makes stops
pub put_stopped_at : {A : Type 0} (f : A → List ℕ) (xs : List A) (place : ℕ) (x : A) → x ≡ get_or xs place x → place < length xs → (stop : Stop) (before between after : SinkState) (waited meanwhile : List ℕ) → IsPut before between waited meanwhile (flat_map f (take place xs)) → ((later : List ℕ) → IsStopped stop between after (meanwhile ++ (f x ++ later))) → (later : List ℕ) → IsStopped stop before after (waited ++ (flat_map f xs ++ later))
put_stopped_at f xs place x is low stop before between after waited meanwhile put stopped later =
    let first = flat_map f (take place xs) in
    let last = flat_map f (drop (place + 1) xs) in
    let whole : first ++ (f x ++ (last ++ later)) ≡ flat_map f xs ++ later =
    ap (λ text. first ++ text) (sym (append_assoc (f x) last later))
    ∙ sym (append_assoc first (f x ++ last) later)
    ∙ ap (λ text. text ++ later) (flat_around f xs place x is low) in
    subst (λ (text : List ℕ). IsStopped stop before after (waited ++ text)) whole
    (put_stopped stop before between after waited meanwhile first (f x ++ (last ++ later)) put (stopped (last ++ later)))

-- one more element of a list
pub put_next : {A : Type 0} (f : A → List ℕ) (xs : List A) (place : ℕ) (x : A) → x ≡ get_or xs place x → place < length xs → (before between after : SinkState) (waited meanwhile waits : List ℕ) → IsPut before between waited meanwhile (flat_map f (take place xs)) → IsPut between after meanwhile waits (f x) → IsPut before after waited waits (flat_map f (take (place + 1) xs))
put_next f xs place x is low before between after waited meanwhile waits put next =
    rw (flat_next f xs place x is low) (put_then before between after waited meanwhile waits (flat_map f (take place xs)) (f x) put next)

-- what has no length has no elements
pub none_left : {A : Type 0} (xs : List A) → length xs ≡ 0 → xs ≡ []
none_left [] none = refl
none_left (x ∷ xs) none = absurd (omega arith)

-- a text that was put, of which the last that waits stops
pub put_whole_stopped : (error : PutError) (before between after : SinkState) (waits text : List ℕ) → IsPut before between [] waits text → StopsBy error between after waits → IsStopped stops.Write before after text
put_whole_stopped error before between after waits text put stops =
    (error, subst (λ (bytes : List ℕ). StopsBy error before after bytes) put.whole (stops_behind error before between after put.written waits put.state stops))
