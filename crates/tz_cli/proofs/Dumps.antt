-- How the text of a dump grows by one more line, zone or group.
use Rattle.std.proofs.Common.{◌≡◌, ℕ, zero, suc, ◌+◌, ◌<◌, List, [], ◌∷◌, ◌++◌, length, get_or, take, drop, slice_get, Some, ℤ, refl, sym, ap, ◌∙◌, append_assoc, length-drop, take-append-drop, inl, inr, arith}
use Rattle.std.specs.List.{flat_map, AllZip}
use Rattle.std.proofs.lemmas.Option.{slice_get_cases, get_or_from_slice_get}
use Rattle.std.proofs.lemmas.List.{append-nil, get_or-drop, take_more}
use Rattle.tz_types.specs.declared.zone.Zone.{Zone}
use Rattle.tz_types.specs.declared.database.Db.{Db}
use Rattle.tz_io.specs.Sink.{SinkState, with_bytes}
use Rattle.tz_io.proofs.SinkStates.{part_behind, stops_behind}
use Rattle.tz_expand.specs.declared.compiled_zone.CompiledZone.{CompiledZone}
use Rattle.tz_expand.specs.Zone.{IsCompiled}
use Rattle.tz_cli.specs.Dump.{zone_text, dump_text}
use Rattle.tz_cli.specs.Dumping.{compiled_text, compiled_texts, IsStopped}
use Rattle.tz_cli.specs.declared.dump.Stop.{Stop}
use Rattle.tz_cli.specs.declared.dump.Stop.TheVariants as stops

pub flat_both : {A B : Type 0} (f : A → List B) (xs ys : List A) → flat_map f (xs ++ ys) ≡ flat_map f xs ++ flat_map f ys
flat_both f [] ys = refl
flat_both f (x ∷ xs) ys = ap (λ zs. f x ++ zs) (flat_both f xs ys) ∙ sym (append_assoc (f x) (flat_map f xs) (flat_map f ys))

pub flat_one : {A B : Type 0} (f : A → List B) (xs : List A) (x : A) → flat_map f (xs ++ x ∷ []) ≡ flat_map f xs ++ f x
flat_one f xs x = flat_both f xs (x ∷ []) ∙ ap (λ zs. flat_map f xs ++ zs) (append-nil (f x))

-- one more of a list
pub flat_next : {A B : Type 0} (f : A → List B) (xs : List A) (place : ℕ) (x : A) → x ≡ get_or xs place x → place < length xs → flat_map f (take (place + 1) xs) ≡ flat_map f (take place xs) ++ f x
flat_next f xs place x is low = rw (take_more xs place x low, ← is) (flat_one f (take place xs) x)

-- a compiled zone has the text of its zone
pub compiled_zone_text : (db : Db) (zone : Zone) (compiled : CompiledZone) (from to : ℤ) → IsCompiled db zone compiled → compiled_text from to compiled ≡ zone_text db from to zone
unfolding zone_text
compiled_zone_text db zone compiled from to is = rw (is.name, is.lines) refl

-- each of one list stands for the one of the other at its place
pub zip_long : {X Y : Type 0} (R : X → Y → Type 0) (xs : List X) (ys : List Y) → AllZip R xs ys → length xs ≡ length ys
zip_long R [] [] all = refl
zip_long R [] (y ∷ ys) all = absurd all
zip_long R (x ∷ xs) [] all = absurd all
zip_long R (x ∷ xs) (y ∷ ys) all = ap suc (zip_long R xs ys all.1)

pub zip_at : {X Y : Type 0} (R : X → Y → Type 0) (xs : List X) (ys : List Y) (place : ℕ) (x : X) (y : Y) → AllZip R xs ys → place < length xs → R (get_or xs place x) (get_or ys place y)
zip_at R [] ys place x y all low = absurd (omega arith)
zip_at R (z ∷ xs) [] place x y all low = absurd all
zip_at R (z ∷ xs) (w ∷ ys) zero x y all low = all.0
zip_at R (z ∷ xs) (w ∷ ys) (suc place) x y all low = zip_at R xs ys place x y all.1 (omega arith)

-- a text that stops after another was taken whole
pub stopped_later : (stop : Stop) (before between now : SinkState) (done text : List ℕ) → between ≡ with_bytes before done → IsStopped stop between now text → IsStopped stop before now (done ++ text)
stopped_later stops.Memory before between now done text is stopped =
    (length done + stopped.0, stopped.1 ∙ part_behind before between done text stopped.0 is)
stopped_later stops.Write before between now done text is stopped =
    (stopped.0, stops_behind stopped.0 before between now done text is stopped.1)

-- one more zone made ready
pub next_compiled : (db : Db) (first more : ℕ) (from to : ℤ) (before now : List CompiledZone) → first + more < length db.zones → compiled_texts from to before ≡ dump_text db from to (take more (drop first db.zones)) → ((zone : Zone) → slice_get db.zones (first + more) ≡ Some zone → compiled_texts from to now ≡ compiled_texts from to before ++ zone_text db from to zone) → compiled_texts from to now ≡ dump_text db from to (take (more + 1) (drop first db.zones))
next_compiled db first more from to before now low is next =
    elim (slice_get_cases db.zones (first + more)).1 [
      | inl at ↦ by_zone at.0 at.2
      | inr past ↦ absurd (omega (arith, past.0))
    ]
  where
    by_zone : (zone : Zone) → slice_get db.zones (first + more) ≡ Some zone → compiled_texts from to now ≡ dump_text db from to (take (more + 1) (drop first db.zones))
    by_zone zone at =
        let here : zone ≡ get_or (drop first db.zones) more zone = sym (get_or-drop first db.zones more zone ∙ get_or_from_slice_get db.zones (first + more) zone zone at) in
        let count = length-drop first db.zones in
        next zone at ∙ ap (λ text. text ++ zone_text db from to zone) is ∙ sym (flat_next (zone_text db from to) (drop first db.zones) more zone here (omega (arith, count, low)))

-- a group of zones, and those that come later
pub next_group : (from to : ℤ) (size : ℕ) (zones rest group later : List CompiledZone) (done : List ℕ) → group ≡ take size rest → later ≡ drop size rest → done ++ compiled_texts from to rest ≡ compiled_texts from to zones → (done ++ compiled_texts from to group) ++ compiled_texts from to later ≡ compiled_texts from to zones
next_group from to size zones rest group later done first last all =
    append_assoc done (compiled_texts from to group) (compiled_texts from to later)
    ∙ ap (λ text. done ++ text) (sym (flat_both (compiled_text from to) group later) ∙ ap (compiled_texts from to) (ap (λ zs. zs ++ later) first ∙ ap (λ zs. take size rest ++ zs) last ∙ take-append-drop size rest))
    ∙ all

-- what a group's text that stops is to the whole text
pub group_before : (from to : ℤ) (size : ℕ) (rest group later : List CompiledZone) → group ≡ take size rest → later ≡ drop size rest → compiled_texts from to group ++ compiled_texts from to later ≡ compiled_texts from to rest
group_before from to size rest group later first last =
    sym (flat_both (compiled_text from to) group later) ∙ ap (compiled_texts from to) (ap (λ zs. zs ++ later) first ∙ ap (λ zs. take size rest ++ zs) last ∙ take-append-drop size rest)
